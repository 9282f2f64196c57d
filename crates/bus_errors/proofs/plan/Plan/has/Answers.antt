-- A search by halves finds the number exactly where it is one of them.
use Rattle.std.proofs.Common.{◌≡◌, ◌≢◌, ℕ, suc, ◌<◌, ◌≤◌, true, false, ◌||◌, List, [], ◌∷◌, length, get_or, eqb, Result, Ok, Err, refl, sym, ap, subst, ◌∙◌, inl, inr, arith, rules}
use Rattle.std.specs.Prelude.{MatchResult}
use Rattle.std.specs.Result.{is_ok}
use Rattle.std.specs.List.{list_any}
use Rattle.std.specs.List.Sorted.{IsBinarySearchResult}
use Rattle.std.specs.Ordering.{nat_cmp}
use Rattle.std.specs.FinSet.{contains, contains-from_list_nat}
use Rattle.std.proofs.lemmas.Bool.{cases_lt}
use Rattle.std.proofs.lemmas.Bool.Decides.{nat_tests, eqb_tells}
use Rattle.std.proofs.lemmas.List.Folds.{list_any_at}
use Rattle.std.proofs.lemmas.List.Sorted.{answers_always, searched}
use Rattle.bus_errors.proofs.plan.Plan.has.Goals as goal

none_there : (xs : List ℕ) (x : ℕ) → ((k : ℕ) → k < length xs → get_or xs k 0 ≢ x) → list_any (λ y. eqb y x) xs ≡ false
none_there [] x h = refl
none_there (y ∷ ys) x h =
    elim (eqb_tells y x) [
      | inl same ↦ absurd (h 0 (omega arith) same.1)
      | inr other ↦ ap (λ b. b || list_any (λ z. eqb z x) ys) other.0 ∙ none_there ys x (λ k low. h (suc k) (omega arith))
    ]

equal_test : (m n : ℕ) → m ≡ n → eqb m n ≡ true
equal_test m n e = grind (arith, nat_tests)

found_or_not : (xs : List ℕ) (x : ℕ) (r : Result ℕ ℕ)
    → MatchResult r (λ i. (i < length xs) × (get_or xs i 0 ≡ x)) (λ i. (i ≤ length xs) × ((k : ℕ) → k < i → get_or xs k 0 < x) × ((k : ℕ) → i ≤ k → k < length xs → x < get_or xs k 0))
    → is_ok r ≡ list_any (λ y. eqb y x) xs
found_or_not xs x (Ok i) h = sym (list_any_at (λ y. eqb y x) xs i 0 h.0 (equal_test (get_or xs i 0) x h.1))
found_or_not xs x (Err i) h =
    sym (none_there xs x (λ k low. elim (cases_lt k i) [
      | inl before ↦ let less = h.1 k before in omega arith
      | inr behind ↦ let more = h.2 k behind low in omega arith
    ]))

pub returns : goal.returns
returns c =
    let xs = c.self.inside.numbers.items in
    let r = c.binary_search_by_key.result in
    let answer = c.binary_search_by_key.ensures.position (λ y. y) (answers_always _ _ _ (λ f a r f' k. search rules)) in
    let place = searched xs c.args.number r (subst (λ ls. IsBinarySearchResult (λ y. nat_cmp y c.args.number) ls r) c.deref.ensures.value answer) (λ i j. c.self.invariant i j 0) in
    c.is_ok.ensures.value
    ∙ found_or_not xs c.args.number r place
    ∙ sym (contains-from_list_nat xs c.args.number)
    ∙ ap (λ s. contains s c.args.number) c.self.view_is
