-- The statement tests a number in range.
use Rattle.std.proofs.Common.{◌≡◌, ◌∷◌, [], ap, ◌∙◌, subst, sym, arith}
use Rattle.code_meaning.specs.Example.{endless_loop}
use Rattle.typed_tree.specs.Sound.{IsSound}
use Rattle.gen_stmt.specs.Example.{on_start}
use Rattle.gen_stmt.proofs.SoundExamples.{endless_loop_sound}
use Rattle.compiler_tests.proofs.compiled.endless_program.Goals as goal

pub returns : goal.returns
returns c =
    let statement : c.in_ok-statement.statement ∷ [] ≡ endless_loop = c.in_ok-statement.ensures in
    let made : c.in_ok-typed.typed ≡ on_start endless_loop = c.in_ok-typed.ensures ∙ ap on_start statement in
    record { sound = subst IsSound (sym made) endless_loop_sound; small = rw made (omega arith) }
