-- Runs of neighbouring Cases, and the index in which their labels are searched.
use Rattle.std.specs.Prelude.{◌≡◌, ◌≢◌, ℕ, ◌+◌, ◌<◌, ◌≤◌, List, length, ℤ, Some, slice_get, All}
use Rattle.std.specs.List.{Contains}
use Rattle.std.specs.List.Sorted.{IsSorted}
use Rattle.std.specs.Ordering.{int_cmp, nat_cmp, ordering_then}
use Rattle.bytecode.specs.declared.code.Code.{Code}
use Rattle.bytecode.specs.declared.instr.Instr.TheVariants.{Case}

-- a place has a Case, and a list has its label with this place
pub record IsListed (code : Code) (cases : List (ℤ × ℕ)) (place : ℕ) : Type 0 where
  pub label : ℤ
  pub target : ℕ
  pub is_case : slice_get code.instrs place ≡ Some (Case target label)
  pub is_listed : Contains cases (label, place)

-- a list has the Cases of as many places as it is long, from this place on: each by its label and its place
pub record AreCasesFrom (code : Code) (start : ℕ) (cases : List (ℤ × ℕ)) : Type 0 where
  pub within : All (λ case. (start ≤ case.1) × (case.1 < start + length cases)) cases
  pub whole : (place : ℕ) → start ≤ place → place < start + length cases → IsListed code cases place

-- Cases are in the order of their labels, and where labels are equal of their places
abbrev pub AreInOrder : List (ℤ × ℕ) → Type 0
AreInOrder cases = IsSorted (λ x y. ordering_then (int_cmp x.0 y.0) (nat_cmp x.1 y.1)) cases

-- a list has the Cases from a place on in order
pub record IsRunFrom (code : Code) (start : ℕ) (cases : List (ℤ × ℕ)) : Type 0 where
  pub there : AreCasesFrom code start cases
  pub in_order : AreInOrder cases

-- each list of an index has the Cases of the code from its own place on, or none, in order
abbrev pub IsIndexOf : Code → List (List (ℤ × ℕ)) → Type 0
IsIndexOf code index = (place : ℕ) (cases : List (ℤ × ℕ)) →
    slice_get index place ≡ Some cases → IsRunFrom code place cases

-- a place has a Case whose label is another number than this one
pub record HasOtherLabel (code : Code) (n : ℤ) (place : ℕ) : Type 0 where
  pub label : ℤ
  pub target : ℕ
  pub is_case : slice_get code.instrs place ≡ Some (Case target label)
  pub other : label ≢ n

-- so has each place from one up to another
abbrev pub HaveOtherLabels : Code → ℤ → ℕ → ℕ → Type 0
HaveOtherLabels code n start end = (place : ℕ) → start ≤ place → place < end → HasOtherLabel code n place

-- this is the first place of a Case with this label
pub record IsFirstWith (label : ℤ) (cases : List (ℤ × ℕ)) (place : ℕ) : Type 0 where
  pub is_there : Contains cases (label, place)
  pub first : (other : ℕ) → Contains cases (label, other) → place ≤ other
