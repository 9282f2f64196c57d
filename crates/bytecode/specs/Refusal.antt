-- The refusals of the verifier.
use Rattle.std.specs.Prelude.{◌≡◌, ⊤}
use Rattle.bytecode.specs.declared.code.Code.{Code}
use Rattle.bytecode.specs.declared.refusal.VerifyRefusal.{VerifyRefusal}
use Rattle.bytecode.specs.declared.refusal.VerifyRefusal.TheVariants.{Unverified, NoMemory}
use Rattle.bytecode.specs.Failure.{FailsFirstAt}

-- code is refused with the first place whose rule fails, and handed back as it was
abbrev pub IsRefusalOf : Code → VerifyRefusal → Type 0
IsRefusalOf code (Unverified place back) = FailsFirstAt code place × (back ≡ code)
IsRefusalOf code NoMemory = ⊤
