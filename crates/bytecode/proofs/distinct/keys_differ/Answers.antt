-- One more key differs from those before it where they do not contain it.
use Rattle.std.proofs.Common.{arith, ◌≡◌, ◌≢◌, ◌<◌, ◌≤◌, ◌∙◌, ℕ, true, false, eqb, List, length, take, get_or, Option, Some, None, refl, sym, ap, subst, length-take}
use Rattle.std.specs.Prelude.{AllPairs}
use Rattle.std.specs.Option.{option_eq}
use Rattle.std.proofs.lemmas.Bool.Decides.{Decides-eqb}
use Rattle.std.proofs.lemmas.List.{get_or-take, get_or_default}
use Rattle.bytecode.proofs.ListPairs.{AllPairs-take_more, AllPairs-taken}
use Rattle.bytecode.proofs.distinct.keys_differ.Goals as goal

-- the test of keys decides whether they are equal
same_key : (a b : Option ℕ) → option_eq eqb a b ≡ true → a ≡ b
same_key None None e = refl
same_key None (Some b) e = absurd (cc)
same_key (Some a) None e = absurd (cc)
same_key (Some a) (Some b) e = ap (λ n. Some n) ((Decides-eqb a b).0 e)

equal_keys : (a b : Option ℕ) → a ≡ b → option_eq eqb a b ≡ true
equal_keys a None e = let P : Option ℕ → Type 0 = λ x. option_eq eqb x None ≡ true in subst P (sym e) refl
equal_keys a (Some b) e = let P : Option ℕ → Type 0 = λ x. option_eq eqb x (Some b) ≡ true in subst P (sym e) ((Decides-eqb b b).1 refl)

-- an equal key among the first ones
found : (keys : List (Option ℕ)) (i k : ℕ) → i < length keys → k < length (take i keys) →
    ((d : Option ℕ) → option_eq eqb (get_or (take i keys) k d) (get_or keys i None) ≡ true) → AllPairs (λ (a b : Option ℕ). a ≢ b) keys → ⊥
found keys i k within below same all =
    let small : k < i = omega (arith, below, length-take i keys) in
    all k i None small within (sym (get_or-take i keys k None small) ∙ same_key _ _ (same None))

-- no equal key among the first ones
none_found : (keys : List (Option ℕ)) (i : ℕ) → i < length keys →
    ((k : ℕ) (d : Option ℕ) → 0 ≤ k → k < length (take i keys) → option_eq eqb (get_or (take i keys) k d) (get_or keys i None) ≡ false) →
    (k : ℕ) (d : Option ℕ) → k < i → get_or keys k d ≢ get_or keys i d
none_found keys i within differs k d below e =
    let small : k < length (take i keys) = omega (arith, below, within, length-take i keys) in
    let same : get_or (take i keys) k d ≡ get_or keys i None = get_or-take i keys k d below ∙ e ∙ get_or_default keys i d None within in
    let t : true ≡ false = sym (equal_keys _ _ same) ∙ differs k d (omega arith) small in cc

pub returns-then-contains : goal.returns-then-contains
returns-then-contains c = (
  λ t. absurd (let e : false ≡ true = t in cc),
  λ all. absurd (let h = c.if-contains.ensures.cases in found c.args.keys.now c.loop-i.i h.0 c.loop-i-test.true h.1 h.2 all),
)

pub loop-i-preserved : goal.loop-i-preserved
loop-i-preserved c =
    AllPairs-take_more (λ (a b : Option ℕ). a ≢ b) c.args.keys.now c.loop-i.i c.loop-i-test.true c.loop-i.invariant
    (none_found c.args.keys.now c.loop-i.i c.loop-i-test.true c.if-contains.ensures.cases)

pub returns : goal.returns
returns c = (λ _. AllPairs-taken (λ (a b : Option ℕ). a ≢ b) c.args.keys.now c.loop-i.i c.loop-i-test.false c.loop-i.invariant, λ _. refl)
