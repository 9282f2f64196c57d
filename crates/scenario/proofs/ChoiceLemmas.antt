-- Choices by tests, and what holds where no rule is told.
use Rattle.std.proofs.Common.{◌≡◌, ℕ, Bool, true, false, Option, Some, None, refl}
use Rattle.std.specs.Prelude.{if◌then◌else◌}

-- the choice where the test holds
pub taken : {X : Type 0} (b : Bool) (x y : X) → b ≡ true → x ≡ (if b then x else y)
taken b x y holds = rw holds refl

-- the choice where it does not
pub passed : {X : Type 0} (b : Bool) (x y z : X) → b ≡ false → z ≡ y → z ≡ (if b then x else y)
passed b x y z fails same = rw fails same

-- where no rule is told, neither test holds, and no other rule is told
pub none_told : (first second : Bool) (one two : ℕ) (other : Option ℕ) → (if first then Some one else if second then Some two else other) ≡ None
    → (first ≡ false) × (second ≡ false) × (other ≡ None)
none_told true second one two other none = absurd (cc)
none_told false true one two other none = absurd (cc)
none_told false false one two other none = (refl, refl, none)
