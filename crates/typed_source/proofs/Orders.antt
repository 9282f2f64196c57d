-- The numbers of functions in an order.
use Rattle.std.proofs.Common.{◌≡◌, ℕ, ◌<◌, ◌≤◌, Bool, true, false, List, length, Some, None, get_or, slice_get, cond, refl, sym, ap, ◌∙◌, subst, arith}
use Rattle.std.specs.Prelude.{◌==◌, Contains, nat_lt}
use Rattle.std.specs.List.{position_or_len}
use Rattle.std.proofs.lemmas.Bool.{eqb-true, ltb-false}
use Rattle.std.proofs.lemmas.Cmp.{nat_eq_equiv}
use Rattle.std.proofs.lemmas.List.Quantifiers.{position-Some}
use Rattle.std.proofs.lemmas.List.Sums.{fails_before_first}
use Rattle.std.proofs.lemmas.Option.{slice_get-get_or}
use Rattle.typed_source.specs.Expression.{place_in}

module _ (number : ℕ) where
  -- the number stands at its place
  pub at_place : (order : List ℕ) (k : ℕ) → place_in order number ≡ Some k → slice_get order k ≡ Some number
  at_place order k e =
      let found = position-Some (λ other. other == number) order k number e in
      slice_get-get_or order k number found.0 ∙ ap (λ n. Some n) (eqb-true (get_or order k number) number found.1)

  -- a number that an order has stands at some place
  pub has_place : (order : List ℕ) → Contains order number → ¬ (place_in order number ≡ None)
  has_place order has e = go (nat_lt (position_or_len (λ other. other == number) order) (length order)) refl e
    where
      go : (b : Bool) → nat_lt (position_or_len (λ other. other == number) order) (length order) ≡ b →
          ¬ (cond b (Some (position_or_len (λ other. other == number) order)) None ≡ None)
      go true less h = let f : Some (position_or_len (λ other. other == number) order) ≡ None = h in cc
      go false less h =
          let least : length order ≤ position_or_len (λ other. other == number) order = ltb-false (position_or_len (λ other. other == number) order) (length order) less in
          let inside : has.0 < length order = has.1 in
          let no : get_or order has.0 number == number ≡ false = fails_before_first (λ other. other == number) order has.0 number (omega (arith, least, inside)) in
          let yes : get_or order has.0 number == number ≡ true = subst (λ y. y == number ≡ true) (sym has.2) (nat_eq_equiv.refl number) in
          let f : true ≡ false = sym yes ∙ no in cc
