-- What the first item with a spelling is.
use Rattle.std.proofs.Common.{◌≡◌, ℕ, Bool, true, false, cond, List, [], ◌∷◌, MatchOption, Option, Some, None, refl, sym, ◌∙◌, ap}
use Rattle.std.specs.Bool.{⊤}
use Rattle.std.specs.List.{find}
use Rattle.std.specs.Str.{bytes_eq}
use Rattle.std.proofs.lemmas.Slice.Eq.{bytes_eq-Decides}
use Rattle.items.specs.Search.{Finds}

-- the first item with this spelling
abbrev pub spelled_in : {X : Type 0} → (X → List ℕ) → List X → List ℕ → Option X
spelled_in spelling all bytes = find (λ x. bytes_eq (spelling x) bytes) all

find_step : {X : Type 0} (p : X → Bool) (x : X) (xs : List X) (b : Bool) → p x ≡ b
    → MatchOption (find p xs) ⊤ (λ y. p y ≡ true)
    → MatchOption (cond b (Some x) (find p xs)) ⊤ (λ y. p y ≡ true)
find_step p x xs true e rest = e
find_step p x xs false e rest = rest

-- what is found passes the test
find-passes : {X : Type 0} (p : X → Bool) (xs : List X) → MatchOption (find p xs) ⊤ (λ x. p x ≡ true)
find-passes p [] = tt
find-passes p (x ∷ xs) = find_step p x xs (p x) refl (find-passes p xs)

found_case : {X : Type 0} (spelling : X → List ℕ) (among : List ℕ → List X)
    → ((x : X) → spelled_in spelling (among (spelling x)) (spelling x) ≡ Some x)
    → (bytes : List ℕ) (found : Option X) → spelled_in spelling (among bytes) bytes ≡ found
    → MatchOption found ⊤ (λ x. bytes_eq (spelling x) bytes ≡ true)
    → Finds (λ x. bytes ≡ spelling x) found
found_case spelling among each bytes None e passes = λ x same.
    let other : spelled_in spelling (among bytes) bytes ≡ Some x = ap (λ b. spelled_in spelling (among b) b) same ∙ each x in cc
found_case spelling among each bytes (Some x) e passes = sym ((bytes_eq-Decides (spelling x) bytes).0 passes)

-- where each item is found by its spelling among those of its bytes, what is found is spelled so, and where nothing is
-- found no item is
pub spelled_in-sound : {X : Type 0} (spelling : X → List ℕ) (among : List ℕ → List X)
    → ((x : X) → spelled_in spelling (among (spelling x)) (spelling x) ≡ Some x)
    → (bytes : List ℕ) → Finds (λ x. bytes ≡ spelling x) (spelled_in spelling (among bytes) bytes)
spelled_in-sound spelling among each bytes =
    found_case spelling among each bytes (spelled_in spelling (among bytes) bytes) refl (find-passes (λ x. bytes_eq (spelling x) bytes) (among bytes))

-- where each item is found so, two items with one spelling are one
pub spelling-injective : {X : Type 0} (spelling : X → List ℕ) (among : List ℕ → List X)
    → ((x : X) → spelled_in spelling (among (spelling x)) (spelling x) ≡ Some x)
    → (one other : X) → spelling one ≡ spelling other → one ≡ other
spelling-injective spelling among each one other same =
    let first = each one in
    let second = each other in
    let both = ap (λ bytes. spelled_in spelling (among bytes) bytes) same in
    cc
