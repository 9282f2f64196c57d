-- One more piece, and the end.
use Rattle.std.proofs.Common.{◌≡◌, Some, None, true, false, not, [], refl, sym, ap, subst, ◌∙◌, arith}
use Rattle.write_format.specs.Reading.{piece_at, is_fit}
use Rattle.write_format.specs.declared.piece.Piece.{Piece}
use Rattle.write_format.specs.declared.piece.Piece.TheVariants.{Argument, Byte}
use Rattle.write_format.proofs.FrontLemmas.{piece_shorter}
use Rattle.write_format.proofs.RangeLemmas.{rest_whole, survey_bytes}
use Rattle.write_format.proofs.ReadingLemmas.{IsSurvey, is_nil, is_some_list, no_reading, no_value, survey_code, survey_ends, unfit_before, unfit_here, unfit_without}
use Rattle.write_format.proofs.reading.look_over.Goals as goal
use Rattle.write_format.proofs.reading.look_over.Goals.{then-is_none+then-codes-args+then-not-is_fit, else-is_none, else-is_none-via-then-is_none+then-codes-args+else-not-is_fit, else-is_none-via-then-is_none+else-codes-args, else-is_none-via-else-is_none}

pub loop-piece-smaller : goal.loop-piece-smaller
loop-piece-smaller c =
    let behind = c.in-Some.behind.now in
    let found : piece_at c.loop-piece.rest.now ≡ Some (Argument c.in-Argument.code, behind) = sym c.in-Some.ensures ∙ ap (λ (p : Piece). Some (p, behind)) c.in-Argument.is in
    piece_shorter c.loop-piece.rest.now (Argument c.in-Argument.code) behind found

pub loop-piece-preserved : goal.loop-piece-preserved
loop-piece-preserved c =
    let behind = c.in-Some.behind.now in
    let rest = c.loop-piece.rest.now in
    let text = c.args.text.now in
    let given = c.args.args.now in
    let codes = c.loop-piece.codes in
    let unfit = c.loop-piece.unfit in
    let code = c.in-Argument.code in
    let known = c.loop-piece.invariant in
    let found : piece_at rest ≡ Some (Argument code, behind) = sym c.in-Some.ensures ∙ ap (λ (p : Piece). Some (p, behind)) c.in-Argument.is in
    survey_code text given rest codes unfit c.if-is_none.unfit code behind known found
    (elim c.if-is_none.branch [
      | then-is_none+then-codes-args+then-not-is_fit w ↦
          let none : unfit ≡ None = no_value unfit (c.is_none.ensures ∙ ap not w.if-is_none.true) in
          let shows : is_fit code.conversion w.index-args-codes.result ≡ false = let told = w.is_fit.ensures in let not_one = w.if-not-is_fit.true in grind (arith, told, not_one) in
          w.unfit-is ∙ unfit_here text given rest codes unfit code w.index-args-codes.result false known none (omega arith) w.index-args-codes.is shows
      | else-is_none w ↦ w.unfit-is ∙ elim w.else-is_none.branch [
        | else-is_none-via-then-is_none+then-codes-args+else-not-is_fit v ↦
            let none : unfit ≡ None = no_value unfit (c.is_none.ensures ∙ ap not v.if-is_none.true) in
            let shows : is_fit code.conversion v.index-args-codes.result ≡ true = let told = v.is_fit.ensures in let one = v.if-not-is_fit.false in grind (arith, told, one) in
            none ∙ unfit_here text given rest codes unfit code v.index-args-codes.result true known none (omega arith) v.index-args-codes.is shows
        | else-is_none-via-then-is_none+else-codes-args v ↦
            unfit_without text given rest codes unfit code known (omega arith)
        | else-is_none-via-else-is_none v ↦
            unfit_before text given rest codes unfit code known (c.is_none.ensures ∙ ap not v.if-is_none.false)
      ]
    ])

pub loop-piece-preserved-in-Byte : goal.loop-piece-preserved-in-Byte
loop-piece-preserved-in-Byte c =
    let text = c.args.text.now in
    let given = c.args.args.now in
    let rest = c.loop-piece.rest.now in
    let behind = c.in-Some.behind.now in
    let codes = c.loop-piece.codes in
    let unfit = c.loop-piece.unfit in
    let byte = c.in-Byte.field-0 in
    let more = c.place_of.result in
    let found : piece_at rest ≡ Some (Byte byte, behind) = sym c.in-Some.ensures ∙ ap (λ (p : Piece). Some (p, behind)) c.in-Byte.is in
    subst (λ l. IsSurvey text given l codes unfit) (sym (rest_whole more behind))
    (survey_bytes text given rest codes unfit byte behind more c.loop-piece.invariant found c.place_of.ensures.first)

pub returns-then-is_empty-clause-none : goal.returns-then-is_empty-clause-none
returns-then-is_empty-clause-none c =
    let known = c.loop-piece.invariant in
    let rest = c.loop-piece.rest.now in
    let none : rest ≡ [] = is_nil rest (sym c.is_empty.ensures ∙ c.if-is_empty.true) in
    let spelled = survey_ends c.args.text.now c.args.args.now rest c.loop-piece.codes c.loop-piece.unfit known none in
    (λ found. absurd (let e : true ≡ false = found in cc), λ no. absurd (no known.pieces spelled))

pub returns-then-is_empty-clause-some : goal.returns-then-is_empty-clause-some
returns-then-is_empty-clause-some c =
    let known = c.loop-piece.invariant in
    let rest = c.loop-piece.rest.now in
    let none : rest ≡ [] = is_nil rest (sym c.is_empty.ensures ∙ c.if-is_empty.true) in
    (known.pieces, survey_ends c.args.text.now c.args.args.now rest c.loop-piece.codes c.loop-piece.unfit known none, known.count, known.first)

pub returns-else-is_empty-clause-none : goal.returns-else-is_empty-clause-none
returns-else-is_empty-clause-none c =
    let known = c.loop-piece.invariant in
    let rest = c.loop-piece.rest.now in
    let some : rest ≡ [] → ⊥ = is_some_list rest (sym c.is_empty.ensures ∙ c.if-is_empty.false) in
    (λ _ pieces spelled. no_reading known.pieces pieces c.args.text.now rest known.leads (sym c.in_default.ensures) some spelled, λ _. refl)
