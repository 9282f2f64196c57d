-- The names in a table of declared variables.
use Rattle.std.specs.Prelude.{ℕ, Bool, List}
use Rattle.std.specs.List.{list_any}
use Rattle.std.specs.Borrow.{Bor}
use Rattle.std.specs.BTreeSet.{BTreeSet}
use Rattle.std.specs.Ordering.{nat_cmp, ordering_then, is_eq}
use Rattle.std.specs.Cmp.Lexicographic.{slice_cmp}

-- whether a key has these names
abbrev pub is_key : List ℕ → List ℕ → (Bor (List ℕ) × Bor (List ℕ)) → Bool
is_key space name key =
    is_eq (ordering_then (slice_cmp nat_cmp space key.0.now) (slice_cmp nat_cmp name key.1.now))

-- whether the table has these names
abbrev pub has : BTreeSet (Bor (List ℕ) × Bor (List ℕ)) → List ℕ → List ℕ → Bool
has names space name = list_any (is_key space name) names.keys
