-- Any 15 cells are those of an event.
use Rattle.std.proofs.Common.{◌≡◌, ℕ, zero, suc, ◌+◌, ◌<◌, List, [], ◌∷◌, length, refl, sym, ap, ◌∙◌, arith, get_or}
use Rattle.std.specs.Prelude.{ℤ, pos}
use Rattle.capl_meaning.specs.Store.{This, event_cells, row}

-- a row of what stands in a list
row_is : (xs : List ℤ) (from : ℕ) (f : ℕ → ℤ) → ((i : ℕ) → i < length xs → f (from + i) ≡ get_or xs i (pos 0)) → row f from (length xs) ≡ xs
row_is [] from f same = refl
row_is (x ∷ xs) from f same =
    let first : from ≡ from + zero = omega arith in
    ap (λ y. y ∷ row f (suc from) (length xs)) (ap f first ∙ same zero (omega arith))
    ∙ ap (λ l. x ∷ l) (row_is xs (suc from) f (λ i less. let e : suc from + i ≡ from + suc i = omega arith in ap f e ∙ same (suc i) (omega (arith, less))))

-- the event of cells
event_of : List ℤ → This
event_of xs = record {
  frame = record {
    id = get_or xs 0 (pos 0);
    dlc = get_or xs 1 (pos 0);
    rtr = get_or xs 2 (pos 0);
    can = get_or xs 3 (pos 0);
    dir = get_or xs 4 (pos 0);
    time = get_or xs 5 (pos 0);
    byte = λ j. get_or xs (6 + j) (pos 0);
  };
  key = get_or xs 14 (pos 0);
}

-- any 15 cells are those of an event
pub some_event : (xs : List ℤ) → length xs ≡ 15 → (this : This) × (event_cells this ≡ xs)
unfolding event_of
some_event xs long = (event_of xs, ap (row (λ i. get_or xs i (pos 0)) 0) (sym long) ∙ row_is xs 0 (λ i. get_or xs i (pos 0)) (λ i less. let e : 0 + i ≡ i = omega arith in ap (λ k. get_or xs k (pos 0)) e))
