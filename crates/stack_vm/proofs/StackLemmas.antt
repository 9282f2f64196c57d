-- A list as a stack: its first items, the last one on top.
use Rattle.std.proofs.Common.{◌≡◌, ◌≤◌, ◌<◌, ◌+◌, ℕ, zero, suc, List, [], ◌∷◌, ◌++◌, length, reverse, take, drop, get_or, sym, ap, ◌∙◌, arith, length-take, length-drop}
use Rattle.std.specs.Prelude.{ℤ, pos, slice_set}
use Rattle.std.proofs.Math.Seq.{take-append_seam, take-suc, take-suc-set}
use Rattle.std.proofs.lemmas.List.{drop-take, length-reverse, reverse-append, reverse-reverse, take-append-drop}

-- the stack of the first items
abbrev pub top_of : List ℤ → ℕ → List ℤ
top_of xs top = reverse (take top xs)

-- it has as many items
pub length-top_of : (xs : List ℤ) (top : ℕ) → top ≤ length xs → length (top_of xs top) ≡ top
length-top_of xs top h = omega (arith, length-reverse (take top xs), length-take top xs)

-- one more item is the top
pub top_of-suc : (xs : List ℤ) (top : ℕ) → top < length xs → top_of xs (suc top) ≡ get_or xs top (pos 0) ∷ top_of xs top
top_of-suc xs top h = ap reverse (take-suc xs top (pos 0) h) ∙ reverse-append (take top xs) (get_or xs top (pos 0) ∷ [])

-- without its top ones it is the stack of the earlier ones
pub drop-top_of : (xs : List ℤ) (count top less : ℕ) → top ≤ length xs → top ≡ less + count → drop count (top_of xs top) ≡ top_of xs less
drop-top_of xs zero top less h e = ap (top_of xs) (let same : top ≡ less = omega arith in same)
drop-top_of xs (suc count) zero less h e = absurd (omega arith)
drop-top_of xs (suc count) (suc top) less h e =
    ap (drop (suc count)) (top_of-suc xs top (omega (arith, h))) ∙ drop-top_of xs count top less (omega (arith, h)) (omega (arith, e))

-- another item on top
pub set-top_of : (xs : List ℤ) (top : ℕ) (n : ℤ) → top < length xs → top_of (slice_set xs top n) (suc top) ≡ n ∷ top_of xs top
set-top_of xs top n h = ap reverse (take-suc-set xs top n h) ∙ reverse-append (take top xs) (n ∷ [])

-- the first items of a list turned round are its last ones turned round
first_reversed : (ys : List ℤ) (from count : ℕ) → length ys ≡ from + count → take count (reverse ys) ≡ reverse (drop from ys)
first_reversed ys from count h =
    let back : List ℤ = reverse (drop from ys) in
    let front : List ℤ = reverse (take from ys) in
    let n : count ≡ length back = omega (arith, h, length-reverse (drop from ys), length-drop from ys) in
    ap (λ (zs : List ℤ). take count (reverse zs)) (sym (take-append-drop from ys)) ∙ ap (take count) (reverse-append (take from ys) (drop from ys))
    ∙ ap (λ (k : ℕ). take k (back ++ front)) n ∙ take-append_seam back front

-- the last items below the top are the first of the stack, in the order in which they were given
pub last_items : (xs : List ℤ) (from count top : ℕ) → top ≤ length xs → top ≡ from + count → take count (drop from xs) ≡ reverse (take count (top_of xs top))
last_items xs from count top h e =
    let items : List ℤ = drop from (take top xs) in
    let n : length (take top xs) ≡ from + count = omega (arith, h, e, length-take top xs) in
    sym (drop-take from count xs) ∙ ap (λ (t : ℕ). drop from (take t xs)) (sym e) ∙ sym (reverse-reverse items)
    ∙ ap reverse (sym (first_reversed (take top xs) from count n))
