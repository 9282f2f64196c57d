-- The order of requests by numbers, and that its test decides it.
use Rattle.std.proofs.Common.{◌≡◌, ℕ, Bool, true, false, cond, ◌&&◌, ◌||◌, ◌⊎◌, List, [], ◌∷◌, ltb, eqb, refl, sym, ap, subst, ◌∙◌, inl, inr, arith}
use Rattle.std.specs.Bool.{Decides}
use Rattle.std.specs.Ordering.{nat_cmp, ordering_then, ordering_reverse, on, then_cmp, is_lt}
use Rattle.std.specs.Cmp.{IsTotalOrder, tied_itself, on_total, then_total, nat_cmp_total}
use Rattle.std.specs.declared.cmp.Ordering.{Ordering}
use Rattle.std.specs.declared.cmp.Ordering.TheVariants.{Less, Equal, Greater}
use Rattle.std.proofs.lemmas.Bool.Decides.{same_from_decides, Decides-like, Decides-ltb, Decides-eqb, Decides-and, Decides-or, nat_tests}
use Rattle.can_frame.specs.Frame.{Wins, arbitration_field, arbitration_key, FrameFields}
use Rattle.can_frame.proofs.Fields.{KeysOrderFields-all}
use Rattle.can_bus.specs.declared.waiting.Waiting.{Waiting}
use Rattle.can_bus.specs.Waiting.{request_name, arbitration_of, ComesFirst, GoesBefore, wins, comes_first, goes_before}

-- the arbitration key of a request's frame
abbrev pub key_of : Waiting → ℕ
key_of r = arbitration_key r.frame

-- by arbitration key, then by node, then by number
abbrev pub precedence : Waiting → Waiting → Ordering
precedence = then_cmp (on key_of nat_cmp) (then_cmp (on (λ r. r.node) nat_cmp) (on (λ r. r.number) nat_cmp))

-- it is a total order
pub precedence_total : IsTotalOrder precedence
precedence_total =
    then_total (on_total key_of nat_cmp_total) (then_total (on_total (λ r. r.node) nat_cmp_total) (on_total (λ r. r.number) nat_cmp_total))

-- ---- the test of fields is that of keys
-- the test of fields decides which field wins
pub wins-decides : (a b : List Bool) → Decides (wins a b) (Wins a b)
wins-decides [] b = (λ e. absurd (cc), λ w. absurd w)
wins-decides (x ∷ a) [] = (λ e. absurd (cc), λ w. absurd w)
wins-decides (false ∷ a) (true ∷ b) = (λ _. tt, λ _. refl)
wins-decides (true ∷ a) (false ∷ b) = (λ e. absurd (cc), λ w. absurd w)
wins-decides (false ∷ a) (false ∷ b) = wins-decides a b
wins-decides (true ∷ a) (true ∷ b) = wins-decides a b

-- a field wins where its key is less
pub wins-key : (f g : FrameFields) → wins (arbitration_field f) (arbitration_field g) ≡ ltb (arbitration_key f) (arbitration_key g)
wins-key f g =
    let order = (KeysOrderFields-all f g).lesser in
    same_from_decides _ _ (wins-decides (arbitration_field f) (arbitration_field g))
    (Decides-like (ltb (arbitration_key f) (arbitration_key g)) order.0 order.1 (Decides-ltb (arbitration_key f) (arbitration_key g)))

-- ---- the order by numbers
by_numbers : (k l m n p q : ℕ) → cond (ltb k l) true (cond (ltb l k) false (ltb m n || (eqb m n && ltb p q)))
    ≡ is_lt (ordering_then (nat_cmp k l) (ordering_then (nat_cmp m n) (nat_cmp p q)))
by_numbers k l m n p q = grind (arith, nat_tests)

-- to go before is to come first by these numbers
pub goes_before-precedence : (a b : Waiting) → goes_before a b ≡ is_lt (precedence a b)
unfolding goes_before
goes_before-precedence a b =
    ap (λ t. cond t true (cond (wins (arbitration_of b) (arbitration_of a)) false (comes_first a b))) (wins-key a.frame b.frame)
    ∙ ap (λ t. cond (ltb (key_of a) (key_of b)) true (cond t false (comes_first a b))) (wins-key b.frame a.frame)
    ∙ by_numbers (key_of a) (key_of b) a.node b.node a.number b.number

-- ---- the test decides the order
comes_first-decides : (a b : Waiting) → Decides (comes_first a b) (ComesFirst a b)
comes_first-decides a b =
    Decides-or _ _ (Decides-ltb a.node b.node) (Decides-and _ _ (Decides-eqb a.node b.node) (Decides-ltb a.number b.number))

goes_before-is : (a b : Waiting) → goes_before a b ≡ cond (wins (arbitration_of a) (arbitration_of b)) true (cond (wins (arbitration_of b) (arbitration_of a)) false (comes_first a b))
unfolding goes_before
goes_before-is a b = refl

decided : {P Q E C : Type 0} (p q c : Bool) → Decides p P → Decides q Q → Decides c C → (p ≡ false → q ≡ false → E) → (E → ¬ P) → (E → ¬ Q) → (P → ¬ Q)
    → Decides (cond p true (cond q false c)) (P ⊎ (E × C))
decided true q c dp dq dc same not_p not_q one = (λ _. inl (dp.0 refl), λ _. refl)
decided false true c dp dq dc same not_p not_q one =
    (λ e. absurd (cc), elim [ inl p ↦ absurd (one p (dq.0 refl)) | inr h ↦ absurd (not_q h.0 (dq.0 refl)) ])
decided false false c dp dq dc same not_p not_q one =
    (λ e. inr (same refl refl, dc.0 e), elim [ inl p ↦ absurd (let e : false ≡ true = dp.1 p in cc) | inr h ↦ dc.1 h.1 ])

same_key : (k l : ℕ) → ltb k l ≡ false → ltb l k ≡ false → k ≡ l
same_key k l h g = grind (arith, nat_tests)

-- the test decides which request goes before
pub goes_before-decides : (a b : Waiting) → Decides (goes_before a b) (GoesBefore a b)
goes_before-decides a b =
    let k : ℕ = key_of a in
    let l : ℕ = key_of b in
    let order = KeysOrderFields-all a.frame b.frame in
    let back = KeysOrderFields-all b.frame a.frame in
    let at : wins (arbitration_of a) (arbitration_of b) ≡ ltb k l = wins-key a.frame b.frame in
    let at_back : wins (arbitration_of b) (arbitration_of a) ≡ ltb l k = wins-key b.frame a.frame in
    subst (λ t. Decides t (GoesBefore a b)) (sym (goes_before-is a b))
    (decided (wins (arbitration_of a) (arbitration_of b)) (wins (arbitration_of b) (arbitration_of a)) (comes_first a b)
    (wins-decides (arbitration_of a) (arbitration_of b)) (wins-decides (arbitration_of b) (arbitration_of a)) (comes_first-decides a b)
    (λ p q. order.equal.0 (same_key k l (sym at ∙ p) (sym at_back ∙ q)))
    (λ e w. let less = order.lesser.1 w in let same = order.equal.1 e in absurd (omega (arith, less, same)))
    (λ e w. let less = back.lesser.1 w in let same = order.equal.1 e in absurd (omega (arith, less, same)))
    (λ v w. let less = order.lesser.1 v in let more = back.lesser.1 w in absurd (omega (arith, less, more))))

-- ---- what follows for the test
less : (o : Ordering) → is_lt o ≡ true → o ≡ Less
less Less e = refl
less Equal e = absurd (cc)
less Greater e = absurd (cc)

-- what goes before one that goes before a third goes before this one
pub goes_before-trans : (a b c : Waiting) → goes_before a b ≡ true → goes_before b c ≡ true → goes_before a c ≡ true
goes_before-trans a b c p q =
    goes_before-precedence a c
    ∙ ap is_lt (precedence_total.trans a b c (less _ (sym (goes_before-precedence a b) ∙ p)) (less _ (sym (goes_before-precedence b c) ∙ q)))

-- no request goes before itself
pub goes_before-self : (a : Waiting) → goes_before a a ≡ false
goes_before-self a = goes_before-precedence a a ∙ ap is_lt (tied_itself precedence_total a)

same_by_numbers : (k l m n p q : ℕ) → ordering_then (nat_cmp k l) (ordering_then (nat_cmp m n) (nat_cmp p q)) ≡ Equal → (m ≡ n) × (p ≡ q)
same_by_numbers k l m n p q e = grind (arith, nat_tests)

by_order : (a b : Waiting) (o : Ordering) → precedence a b ≡ o → is_lt o ≡ false → (request_name a ≡ request_name b) ⊎ (goes_before b a ≡ true)
by_order a b Less is e = absurd (cc)
by_order a b Equal is e =
    let same = same_by_numbers (key_of a) (key_of b) a.node b.node a.number b.number is in inl (λ i. (same.0 i, same.1 i))
by_order a b Greater is e =
    inr (goes_before-precedence b a ∙ ap is_lt (precedence_total.antisymm b a ∙ ap ordering_reverse is))

-- of two requests one goes before the other, or they have one name
pub one_goes_first : (a b : Waiting) → goes_before a b ≡ false → (request_name a ≡ request_name b) ⊎ (goes_before b a ≡ true)
one_goes_first a b h = by_order a b (precedence a b) refl (sym (goes_before-precedence a b) ∙ h)

-- the test by the numbers that the code compares
pub goes_before-keys : (a b : Waiting) → goes_before a b
    ≡ cond (ltb (key_of a) (key_of b)) true (cond (ltb (key_of b) (key_of a)) false (ltb a.node b.node || (eqb a.node b.node && ltb a.number b.number)))
goes_before-keys a b =
    goes_before-precedence a b ∙ sym (by_numbers (key_of a) (key_of b) a.node b.node a.number b.number)

-- the tests of numbers that the code makes, and what they decide
pub ruleset key_tests = (nat_tests, goes_before-keys)
