-- Variables up to a place.
use Rattle.std.proofs.Common.{◌≡◌, ◌+◌, ◌<◌, ℕ, zero, suc, List, [], ◌∷◌, ◌++◌, ◌∙◌, length, Some, ap, sym, arith, take, get_or, length-take}
use Rattle.std.specs.Prelude.{map, slice_get}
use Rattle.std.proofs.lemmas.List.{length-map, map-append, take_more}

-- what stands up to a place stands in the whole
pub in_whole : {X : Type 0} (i k : ℕ) (xs : List X) (x : X) → slice_get (take i xs) k ≡ Some x → slice_get xs k ≡ Some x
in_whole zero k xs x is = cc
in_whole (suc i) k [] x is = is
in_whole (suc i) zero (y ∷ xs) x is = is
in_whole (suc i) (suc k) (y ∷ xs) x is = in_whole i k xs x is

-- the same of a list that each item is made from
pub in_whole_map : {X Y : Type 0} (f : X → Y) (i k : ℕ) (xs : List X) (y : Y)
    → slice_get (map f (take i xs)) k ≡ Some y → slice_get (map f xs) k ≡ Some y
in_whole_map f zero k xs y is = cc
in_whole_map f (suc i) k [] y is = is
in_whole_map f (suc i) zero (x ∷ xs) y is = is
in_whole_map f (suc i) (suc k) (x ∷ xs) y is = in_whole_map f i k xs y is

-- one more
pub map_more : {X Y : Type 0} (f : X → Y) (i : ℕ) (xs : List X) (x : X) → i < length xs → x ≡ get_or xs i x
    → map f (take (i + 1) xs) ≡ map f (take i xs) ++ f x ∷ []
map_more f i xs x within is =
    ap (map f) (take_more xs i x within) ∙ map-append f (take i xs) (get_or xs i x ∷ [])
    ∙ ap (λ y. map f (take i xs) ++ f y ∷ []) (sym is)

-- how many there are
pub map_length : {X Y : Type 0} (f : X → Y) (i : ℕ) (xs : List X) → i < length xs → i ≡ length (map f (take i xs))
map_length f i xs within = omega (arith, length-map (take i xs) f, length-take i xs)
