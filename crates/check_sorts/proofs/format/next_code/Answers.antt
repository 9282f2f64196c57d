-- One more piece.
use Rattle.std.proofs.Common.{◌≡◌, Some, sym, ap, ◌∙◌, arith}
use Rattle.write_format.specs.Reading.{piece_at}
use Rattle.write_format.specs.declared.piece.Piece.{Piece}
use Rattle.write_format.specs.declared.piece.Piece.TheVariants.{Argument, Byte}
use Rattle.write_format.proofs.FrontLemmas.{piece_shorter}
use Rattle.check_sorts.proofs.FormatLemmas.{byte_step, code_step}
use Rattle.check_sorts.proofs.format.next_code.Goals as goal

pub returns-in-Argument-clause-codes : goal.returns-in-Argument-clause-codes
returns-in-Argument-clause-codes c =
    let behind = c.in-Some.behind.now in
    let found : piece_at c.loop-piece.rest.now ≡ Some (Argument c.in-Argument.code, behind) =
    sym c.in-Some.ensures ∙ ap (λ (p : Piece). Some (p, behind)) c.in-Argument.is in
    sym (code_step c.loop-piece.rest.now c.in-Argument.code behind found) ∙ c.loop-piece.invariant.0

pub returns-in-Argument-clause-shorter : goal.returns-in-Argument-clause-shorter
returns-in-Argument-clause-shorter c =
    let less = piece_shorter c.loop-piece.rest.now c.in-Some.piece c.in-Some.behind.now (sym c.in-Some.ensures) in
    omega (arith, less, c.loop-piece.invariant.1)

pub loop-piece-preserved : goal.loop-piece-preserved
loop-piece-preserved c =
    let behind = c.in-Some.behind.now in
    let rest = c.loop-piece.rest.now in
    let found : piece_at rest ≡ Some (Byte c.in_default-piece.field-0, behind) =
    sym c.in-Some.ensures ∙ ap (λ (p : Piece). Some (p, behind)) c.in_default-piece.is in
    let less = piece_shorter rest c.in-Some.piece behind (sym c.in-Some.ensures) in (
      sym (byte_step rest c.in_default-piece.field-0 behind found) ∙ c.loop-piece.invariant.0,
      omega (arith, less, c.loop-piece.invariant.1),
    )
