-- The code of a sound program is verified and short.
use Rattle.std.specs.Prelude.{ℕ, ◌≤◌}
use Rattle.bytecode.specs.declared.code.Code.{Code}
use Rattle.bytecode.specs.Failure.{FailsFirstAt, layout, rule, tables}
use Rattle.bytecode.specs.Verified.{IsVerified}
use Rattle.typed_tree.specs.declared.program.Typed.{Typed}
use Rattle.typed_tree.specs.Size.{size}
use Rattle.typed_tree.specs.Sound.{IsSound}
use Rattle.code_listing.specs.Program.{IsCodeOf}
use Rattle.code_verified.proofs.Programs.{laid_out, places_keep}
use Rattle.code_verified.proofs.Tables.{short, tables_keep}
use Rattle.code_verified.proofs.laws.code_is_verified.Goals as goal

-- code that keeps every rule fails at no place
verified_fails_nowhere : (code : Code) → IsVerified code → (place : ℕ) → FailsFirstAt code place → ⊥
verified_fails_nowhere code h place (layout fails at) = fails h.laid_out
verified_fails_nowhere code h place (rule laid below fails earlier) = fails (h.places place below)
verified_fails_nowhere code h place (tables laid places fails at) = fails h.tables

-- the code of a sound program keeps every rule
verified : (typed : Typed) (code : Code) → IsSound typed → size typed ≤ 1000000 → IsCodeOf typed code → IsVerified code
verified typed code sound few is = record {
  laid_out = laid_out typed code sound few is;
  places = places_keep typed code sound few is;
  tables = tables_keep typed code sound few is;
}

pub returns-clause-verified : goal.returns-clause-verified
returns-clause-verified c = λ typed code sound few is. verified typed code sound few is

pub returns-clause-accepted : goal.returns-clause-accepted
returns-clause-accepted c = λ typed code sound few is place fails.
    verified_fails_nowhere code (verified typed code sound few is) place fails

pub returns-clause-short : goal.returns-clause-short
returns-clause-short c = λ typed code sound few is. short typed code sound few is
