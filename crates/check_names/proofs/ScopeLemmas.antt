-- Tables of variables that grow, and variables in order.
use Rattle.std.proofs.Common.{◌≡◌, ◌≢◌, ◌≤◌, ◌+◌, ◌==◌, ◌&&◌, ◌||◌, ◌∙◌, ℕ, zero, suc, Bool, true, false, cond, List, [], ◌∷◌, ◌++◌, length, Option, None, Some, refl, ap, sym, arith, nat_le, nat_lt}
use Rattle.std.specs.Prelude.{find, if◌then◌else◌, position, slice_get}
use Rattle.std.specs.List.{position_from}
use Rattle.std.specs.Option.{option_and_then, option_map_or, option_or}
use Rattle.std.specs.Str.{bytes_eq}
use Rattle.std.proofs.lemmas.Bool.Decides.{nat_tests}
use Rattle.std.proofs.lemmas.Iterator.Adapters.{position_from-zero}
use Rattle.std.proofs.lemmas.Slice.Eq.{bytes_eq-Decides}
use Rattle.capl_meaning.specs.Variable.{Variable}
use Rattle.check_names.specs.declared.table.NameTable.{NameTable}
use Rattle.check_names.specs.Inside.Table.{AreInOrder, AreTables, is_in_order, is_named, is_named_before, number_at, numbered}
use Rattle.check_names.proofs.PositionLemmas.{find_position, position-push}

-- both of a row of three
pub row : (a b c : Bool) → a && (b && c) ≡ (a && b) && c
row true b c = refl
row false b c = refl

-- the left of both
left : (a b : Bool) → a && b ≡ true → a ≡ true
left true b is = refl
left false b is = is

-- the right of both
right : (a b : Bool) → a && b ≡ true → b ≡ true
right true b is = is
right false b is = absurd (cc)

-- ---- tables that grow

-- a new table has no names
pub with_fresh : (tables : List NameTable) (fresh : NameTable) → ((name : List ℕ) → numbered fresh name ≡ None) →
    (owner : ℕ) (name : List ℕ) → number_at (tables ++ fresh ∷ []) owner name ≡ number_at tables owner name
with_fresh [] fresh none zero name = none name
with_fresh [] fresh none (suc owner) name = refl
with_fresh (table ∷ tables) fresh none zero name = refl
with_fresh (table ∷ tables) fresh none (suc owner) name = with_fresh tables fresh none owner name

-- one more variable
pub tables_more : (old new : List NameTable) (vs : List Variable) (v : Variable) (number : ℕ)
    → number ≡ length vs → AreTables old vs
    → ((owner : ℕ) (name : List ℕ) → number_at new owner name
    ≡ option_or (number_at old owner name) (if is_named owner name v then Some number else None))
    → AreTables new (vs ++ v ∷ [])
tables_more old new vs v number is tables more = λ owner name.
    more owner name
    ∙ ap (λ (o : Option ℕ). option_or o (if is_named owner name v then Some number else None)) (tables owner name)
    ∙ ap (λ (n : ℕ). option_or (position (is_named owner name) vs) (if is_named owner name v then Some n else None)) is
    ∙ sym (position-push (is_named owner name) vs v)

-- ---- variables in order

-- outside of procedures each is
pub in_order-outside : (vs : List Variable) (v : Variable) → v.owner ≡ 0 → true ≡ is_in_order vs v
in_order-outside vs v outside =
    let holds : (v.owner == 0) ≡ true = grind (arith, nat_tests, outside) in
    sym (ap (λ (b : Bool). b || option_map_or (λ first. nat_le first.token v.token) (find (is_named v.owner v.name) vs) true) holds)

-- in a procedure that hangs on the first one of the name, as the table has it
pub in_order-by : (tables : List NameTable) (vs : List Variable) (v : Variable) (place : Option ℕ) (first : Option Variable)
    → AreTables tables vs → v.owner ≢ 0 → number_at tables v.owner v.name ≡ place
    → option_and_then (slice_get vs) place ≡ first
    → option_map_or (λ known. nat_le known.token v.token) first true ≡ is_in_order vs v
in_order-by tables vs v place first are inside at found =
    let fails : (v.owner == 0) ≡ false = grind (arith, nat_tests, inside) in
    let it : find (is_named v.owner v.name) vs ≡ first =
    sym (find_position (is_named v.owner v.name) vs)
    ∙ ap (λ (o : Option ℕ). option_and_then (slice_get vs) o) (sym (are v.owner v.name) ∙ at)
    ∙ found in
    sym (ap (λ (b : Bool). b || option_map_or (λ known. nat_le known.token v.token) (find (is_named v.owner v.name) vs) true) fails
    ∙ ap (λ (o : Option Variable). option_map_or (λ known. nat_le known.token v.token) o true) it)

-- ---- the first one before a token

-- what fails the one test fails the other
abbrev pub IsWeaker : {X : Type 0} → (X → Bool) → (X → Bool) → Type 0
IsWeaker {X} p q = (x : X) → p x ≡ false → q x ≡ false

-- what is not before a token for its name is not
pub by_name : (owner : ℕ) (name : List ℕ) (token : ℕ) → IsWeaker (is_named owner name) (is_named_before owner name token)
by_name owner name token = λ v fails.
    row (v.owner == owner) (bytes_eq name v.name) (nat_lt v.token token) ∙ ap (λ (b : Bool). b && nat_lt v.token token) fails

-- where none passes the weaker test none passes the other
none_weaker-from : {X : Type 0} (p q : X → Bool) (n : ℕ) (xs : List X) → IsWeaker p q
    → position_from p n xs ≡ None → position_from q n xs ≡ None
none_weaker-from p q n [] weaker none = refl
none_weaker-from {X} p q n (x ∷ xs) weaker none = by (p x) refl none (none_weaker-from p q (n + 1) xs weaker)
  where
    by : (b : Bool) → p x ≡ b → cond b (Some n) (position_from p (n + 1) xs) ≡ None
        → (position_from p (n + 1) xs ≡ None → position_from q (n + 1) xs ≡ None)
        → cond (q x) (Some n) (position_from q (n + 1) xs) ≡ None
    by true is none rest = absurd (cc)
    by false is none rest =
        ap (λ (b : Bool). cond b (Some n) (position_from q (n + 1) xs)) (weaker x is) ∙ rest none

-- the same of the first place
pub none_weaker : {X : Type 0} (p q : X → Bool) (xs : List X) → IsWeaker p q → position p xs ≡ None → position q xs ≡ None
none_weaker p q xs weaker none =
    position_from-zero q xs ∙ none_weaker-from p q 0 xs weaker (sym (position_from-zero p xs) ∙ none)

-- where the first that passes the weaker test passes the other it is the first that does
same_first-from : {X : Type 0} (p q : X → Bool) (n : ℕ) (xs : List X) (x : X) → IsWeaker p q → find p xs ≡ Some x
    → q x ≡ true → position_from p n xs ≡ position_from q n xs
same_first-from p q n [] x weaker found passes = absurd (cc)
same_first-from {X} p q n (y ∷ xs) x weaker found passes =
    by (p y) refl found (λ rest. same_first-from p q (n + 1) xs x weaker rest passes)
  where
    by : (b : Bool) → p y ≡ b → cond b (Some y) (find p xs) ≡ Some x
        → (find p xs ≡ Some x → position_from p (n + 1) xs ≡ position_from q (n + 1) xs)
        → cond b (Some n) (position_from p (n + 1) xs) ≡ cond (q y) (Some n) (position_from q (n + 1) xs)
    by true is here rest =
        let same : y ≡ x = cc in
        sym (ap (λ (b : Bool). cond b (Some n) (position_from q (n + 1) xs)) (ap q same ∙ passes))
    by false is there rest =
        rest there ∙ sym (ap (λ (b : Bool). cond b (Some n) (position_from q (n + 1) xs)) (weaker y is))

-- the same of the first place
pub same_first : {X : Type 0} (p q : X → Bool) (xs : List X) (x : X) → IsWeaker p q → find p xs ≡ Some x → q x ≡ true
    → position p xs ≡ position q xs
same_first p q xs x weaker found passes =
    position_from-zero p xs ∙ same_first-from p q 0 xs x weaker found passes ∙ sym (position_from-zero q xs)

-- where each item fails there is none
each_fails-from : {X : Type 0} (p : X → Bool) (n : ℕ) (xs : List X)
    → ((i : ℕ) (x : X) → slice_get xs i ≡ Some x → p x ≡ false) → position_from p n xs ≡ None
each_fails-from p n [] fails = refl
each_fails-from p n (x ∷ xs) fails =
    ap (λ (b : Bool). cond b (Some n) (position_from p (n + 1) xs)) (fails 0 x refl)
    ∙ each_fails-from p (n + 1) xs (λ i y at. fails (suc i) y at)

-- the same of the first place
each_fails : {X : Type 0} (p : X → Bool) (xs : List X)
    → ((i : ℕ) (x : X) → slice_get xs i ≡ Some x → p x ≡ false) → position p xs ≡ None
each_fails p xs fails = position_from-zero p xs ∙ each_fails-from p 0 xs fails

-- a variable that is of an owner and has a name has that one
the_same : (owner : ℕ) (name : List ℕ) (v : Variable) (vs : List Variable) → is_named owner name v ≡ true
    → find (is_named owner name) vs ≡ find (is_named v.owner v.name) vs
the_same owner name v vs is =
    let one : v.owner ≡ owner = grind (arith, nat_tests, left (v.owner == owner) (bytes_eq name v.name) is) in
    let other : name ≡ v.name = (bytes_eq-Decides name v.name).0 (right (v.owner == owner) (bytes_eq name v.name) is) in
    ap (λ (o : ℕ). find (is_named o name) vs) (sym one) ∙ ap (λ (n : List ℕ). find (is_named v.owner n) vs) other

-- a variable in order stands no earlier than the first one of its name
no_earlier : (vs : List Variable) (v w : Variable) → v.owner ≢ 0 → find (is_named v.owner v.name) vs ≡ Some w
    → is_in_order vs v ≡ true → nat_le w.token v.token ≡ true
no_earlier vs v w inside found order =
    let fails : (v.owner == 0) ≡ false = grind (arith, nat_tests, inside) in
    sym (ap (λ (b : Bool). b || option_map_or (λ known. nat_le known.token v.token) (find (is_named v.owner v.name) vs) true) fails
    ∙ ap (λ (o : Option Variable). option_map_or (λ known. nat_le known.token v.token) o true) found)
    ∙ order

-- a variable that stands no earlier does not stand before a token that an earlier one does not stand before
not_before : (token w v : ℕ) → token ≤ w → nat_le w v ≡ true → nat_lt v token ≡ false
not_before token w v late rises = grind (arith, nat_tests, late, rises)

-- of variables in order none stands before a token that the first one of its name does not stand before
pub none_before : (owner : ℕ) (name : List ℕ) (token : ℕ) (vs : List Variable) (w : Variable) → owner ≢ 0
    → AreInOrder vs → find (is_named owner name) vs ≡ Some w → token ≤ w.token
    → position (is_named_before owner name token) vs ≡ None
none_before owner name token vs w inside order found late =
    each_fails (is_named_before owner name token) vs (λ i v at. by v (order i v at) (is_named owner name v) refl)
  where
    by : (v : Variable) → is_in_order vs v ≡ true → (b : Bool) → is_named owner name v ≡ b
        → is_named_before owner name token v ≡ false
    by v rises false other = by_name owner name token v other
    by v rises true here =
        let same : v.owner ≡ owner = grind (arith, nat_tests, left (v.owner == owner) (bytes_eq name v.name) here) in
        let first = sym (the_same owner name v vs here) ∙ found in
        let behind = no_earlier vs v w (λ outside. inside (sym same ∙ outside)) first rises in
        row (v.owner == owner) (bytes_eq name v.name) (nat_lt v.token token)
        ∙ ap (λ (b : Bool). is_named owner name v && b) (not_before token w.token v.token late behind)
        ∙ ap (λ (b : Bool). b && false) here
