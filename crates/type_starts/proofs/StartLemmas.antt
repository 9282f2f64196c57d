-- Numbers in cells one behind the other.
use Rattle.std.proofs.Common.{◌≡◌, ℕ, suc, ◌+◌, Bool, true, false, List, [], ◌∷◌, ◌++◌, length, sym, ap, ◌∙◌, arith, append_assoc, length-append, subst}
use Rattle.std.proofs.lemmas.List.{append-nil}
use Rattle.std.specs.Prelude.{ℤ, pos, if◌then◌else◌}
use Rattle.std.specs.Ordering.{int_eq}
use Rattle.std.specs.Int.{w128}
use Rattle.std.proofs.lemmas.Int.{to_z-of_z}
use mir.Val.{SFits, of_z, to_z}
use Rattle.typed_source.specs.Program.{starts_from}
use Rattle.type_starts.specs.declared.starts.Starts.{Starts}
use Rattle.type_starts.specs.Starts.{Goes}

-- the starts of cells one behind the other
pub starts_append : (cell : ℕ) (xs ys : List ℤ) → starts_from cell (xs ++ ys) ≡ starts_from cell xs ++ starts_from (cell + length xs) ys
starts_append cell [] ys = ap (λ c. starts_from c ys) (omega arith)
starts_append cell (x ∷ xs) ys =
    let next : suc cell + length xs ≡ cell + suc (length xs) = omega arith in
    by (int_eq x (pos 0)) (starts_append (suc cell) xs ys ∙ ap (λ c. starts_from (suc cell) xs ++ starts_from c ys) next)
  where
    by : (b : Bool) → starts_from (suc cell) (xs ++ ys) ≡ starts_from (suc cell) xs ++ starts_from (cell + suc (length xs)) ys →
        (if b then starts_from (suc cell) (xs ++ ys) else (cell, x) ∷ starts_from (suc cell) (xs ++ ys))
        ≡ (if b then starts_from (suc cell) xs else (cell, x) ∷ starts_from (suc cell) xs) ++ starts_from (cell + suc (length xs)) ys
    by true e = e
    by false e = ap (λ l. (cell, x) ∷ l) e

-- nothing was put anywhere
pub goes_none : (a : Starts) → Goes a a []
goes_none a = record { all = sym (append-nil a.all.items); cell = omega arith }

-- more was put behind
pub goes_on : (a b c : Starts) (xs ys : List ℤ) → Goes a b xs → Goes b c ys → Goes a c (xs ++ ys)
goes_on a b c xs ys one two = record {
  all = two.all ∙ ap (λ l. l ++ starts_from b.cell ys) one.all
      ∙ append_assoc a.all.items (starts_from a.cell xs) (starts_from b.cell ys)
      ∙ ap (λ k. a.all.items ++ (starts_from a.cell xs ++ starts_from k ys)) one.cell
      ∙ ap (λ l. a.all.items ++ l) (sym (starts_append a.cell xs ys));
  cell = let long = length-append xs ys in omega (arith, one.cell, two.cell, long);
}

-- the start of one cell
pub one_start : (cell : ℕ) (n : ℤ) (b : Bool) → int_eq n (pos 0) ≡ b → starts_from cell (n ∷ []) ≡ (if b then [] else (cell, n) ∷ [])
one_start cell n b is = ap (λ b. if b then [] else (cell, n) ∷ []) is

pub ruleset form = (one_start, goes_none)

-- one more was put
pub goes_more : (a b c : Starts) (xs ys : List ℤ) (x : ℤ) → Goes a b xs → Goes b c (x ∷ []) → ys ≡ xs ++ x ∷ [] → Goes a c ys
goes_more a b c xs ys x one two is = subst (Goes a c) (sym is) (goes_on a b c xs (x ∷ []) one two)

-- a number as the code passes it on
pub passed : (n : ℤ) → SFits w128 n → to_z w128 (of_z w128 n) ≡ n
passed n fits = to_z-of_z w128 n fits

-- one more number was put, as the code passes it on
pub goes_more_raw : (a b c : Starts) (xs ys : List ℤ) (raw x : ℤ) → Goes a b xs → Goes b c (raw ∷ []) → raw ≡ x → ys ≡ xs ++ x ∷ [] → Goes a c ys
goes_more_raw a b c xs ys raw x one two same is = goes_more a b c xs ys x one (subst (λ n. Goes b c (n ∷ [])) same two) is
