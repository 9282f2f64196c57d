-- Offences are none, or one of them is the first.
use Rattle.std.proofs.Common.{◌≡◌, ◌<◌, ◌≤◌, ℕ, suc, List, [], ◌∷◌, All, inl, inr, refl, arith, le_refl}
use Rattle.std.specs.Prelude.{◌⊎◌}
use Rattle.std.proofs.lemmas.Bool.{cases_order, cases_lt}
use Rattle.std.proofs.lemmas.List.Elements.{All-nil, All-cons, All-weaker}
use Rattle.capl_meaning.specs.declared.offence.Offence.{Offence}
use Rattle.capl_meaning.specs.Offences.{IsNoLater, IsFirst}

-- the same of two numbers and what comes behind them where they are equal
total_by : (a b : ℕ) (One Other : Type 0) → One ⊎ Other → (a ≡ b) ⊎ ((a < b) ⊎ (b < a))
    → ((a < b) ⊎ ((a ≡ b) × One)) ⊎ ((b < a) ⊎ ((b ≡ a) × Other))
total_by a b One Other (inl one) (inl same) = inl (inr (same, one))
total_by a b One Other (inr other) (inl same) = let back : b ≡ a = omega (arith, same) in inr (inr (back, other))
total_by a b One Other either (inr (inl low)) = inl (inl low)
total_by a b One Other either (inr (inr high)) = inr (inl high)

total_le : (a b : ℕ) → (a ≤ b) ⊎ (b ≤ a)
total_le a b = elim (cases_lt a b) [ inl low ↦ inl (omega (arith, low)) | inr high ↦ inr high ]

-- one of two comes no later than the other
total : (a b : Offence) → IsNoLater a b ⊎ IsNoLater b a
total a b =
    total_by a.file b.file _ _
    (total_by a.token b.token (a.rule.number ≤ b.rule.number) (b.rule.number ≤ a.rule.number) (total_le a.rule.number b.rule.number) (cases_order a.token b.token))
    (cases_order a.file b.file)

then_by : (a b c : ℕ) (One Two Three : Type 0) → (One → Two → Three) → (a < b) ⊎ ((a ≡ b) × One) → (b < c) ⊎ ((b ≡ c) × Two) → (a < c) ⊎ ((a ≡ c) × Three)
then_by a b c One Two Three goes (inl low) (inl also) = inl (omega (arith, low, also))
then_by a b c One Two Three goes (inl low) (inr (same, two)) = inl (omega (arith, low, same))
then_by a b c One Two Three goes (inr (same, one)) (inl low) = inl (omega (arith, low, same))
then_by a b c One Two Three goes (inr (same, one)) (inr (also, two)) = inr (omega (arith, same, also), goes one two)

-- what comes no later than one that comes no later
then_later : (a b c : Offence) → IsNoLater a b → IsNoLater b c → IsNoLater a c
then_later a b c first second =
    then_by a.file b.file c.file _ _ _
    (then_by a.token b.token c.token (a.rule.number ≤ b.rule.number) (b.rule.number ≤ c.rule.number) (a.rule.number ≤ c.rule.number) (λ low also. omega (arith, low, also)))
    first second

itself : (a : Offence) → IsNoLater a a
itself a = inr (refl, inr (refl, le_refl a.rule.number))

first_here : (x : Offence) (xs : List Offence) → All (IsNoLater x) xs → IsFirst x (x ∷ xs)
first_here x xs all = record { among = (0, omega arith, refl); earliest = All-cons (IsNoLater x) x xs (itself x) all }

first_behind : (x o : Offence) (xs : List Offence) → IsFirst o xs → IsNoLater o x → IsFirst o (x ∷ xs)
first_behind x o xs is later =
    let among = is.among in
    let low = among.1 in
    record { among = (suc among.0, omega (arith, low), among.2); earliest = All-cons (IsNoLater o) x xs later is.earliest }

first_more : (x o : Offence) (xs : List Offence) → IsFirst o xs → IsNoLater x o ⊎ IsNoLater o x → (first : Offence) × IsFirst first (x ∷ xs)
first_more x o xs is (inl earlier) =
    (x, first_here x xs (All-weaker (IsNoLater o) (IsNoLater x) (λ y later. then_later x o y earlier later) xs is.earliest))
first_more x o xs is (inr later) = (o, first_behind x o xs is later)

-- offences are none, or one is the first
pub none_or_first : (offences : List Offence) → (offences ≡ []) ⊎ ((first : Offence) × IsFirst first offences)
none_or_first [] = inl refl
none_or_first (x ∷ []) = inr (x, first_here x [] (All-nil (IsNoLater x)))
none_or_first (x ∷ y ∷ xs) =
    inr (elim (none_or_first (y ∷ xs)) [
      | inl none ↦ absurd (cc)
      | inr (o, is) ↦ first_more x o (y ∷ xs) is (total x o)
    ])
