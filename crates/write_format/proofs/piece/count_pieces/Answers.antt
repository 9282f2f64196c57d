-- One more piece with the bytes behind it, and the end.
use Rattle.std.proofs.Common.{◌≡◌, ◌≤◌, List, Some, length, sym, ap, subst, ◌∙◌, arith}
use Rattle.std.proofs.lemmas.List.{length-drop}
use Rattle.write_format.specs.Reading.{AreSpelled, piece_at}
use Rattle.write_format.specs.declared.piece.Piece.{Piece}
use Rattle.write_format.proofs.FrontLemmas.{piece_shorter}
use Rattle.write_format.proofs.RangeLemmas.{rest_whole}
use Rattle.write_format.proofs.ShownLemmas.{PlainFirst, counted, last_spelled, plain_first, plain_none}
use Rattle.write_format.proofs.piece.count_pieces.Goals as goal
use Rattle.write_format.proofs.piece.count_pieces.Goals.{in-Byte, in-Argument}

pub loop-piece-smaller : goal.loop-piece-smaller
loop-piece-smaller c =
    let behind = c.in-Some.behind.now in
    let more = c.match-piece.more in
    let shorter = piece_shorter c.loop-piece.rest.now c.in-Some.piece behind (sym c.in-Some.ensures) in
    let left = ap length (rest_whole more behind) ∙ length-drop more behind in
    omega (arith, shorter, left)

pub loop-piece-preserved : goal.loop-piece-preserved
loop-piece-preserved c =
    let rest = c.loop-piece.rest.now in
    let behind = c.in-Some.behind.now in
    let found = c.in-Some.piece in
    let more = c.match-piece.more in
    let at : piece_at rest ≡ Some (found, behind) = sym c.in-Some.ensures in
    let inside : more ≤ length behind =
    elim c.match-piece.branch [
      | in-Byte w ↦ let is = w.more-is in let most = w.place_of-more.ensures.inside in omega (arith, is, most)
      | in-Argument w ↦ let is = w.more-is in omega (arith, is)
    ] in
    let plain : (others : List Piece) → AreSpelled behind others → PlainFirst behind others more = λ others spelled.
    elim c.match-piece.branch [
      | in-Byte w ↦ subst (PlainFirst behind others) (sym (w.more-is ∙ w.place_of-more.ensures.first)) (plain_first behind others spelled)
      | in-Argument w ↦ subst (PlainFirst behind others) (sym w.more-is) (plain_none behind others spelled)
    ] in
    let shorter = piece_shorter rest found behind at in
    let left = ap length (rest_whole more behind) ∙ length-drop more behind in
    let few = (c.loop-piece.invariant).1 in (
      λ pieces spelled.
          let so_far = (c.loop-piece.invariant).0 pieces spelled in
          let next = counted rest behind found more at inside plain so_far.0 so_far.1 in
          let count = so_far.2 in
          let longer = next.2 in
          (next.0, subst (λ l. AreSpelled l next.0) (sym (rest_whole more behind)) next.1, omega (arith, count, longer)),
      omega (arith, few, shorter, left, inside),
    )

pub returns : goal.returns
returns c pieces spelled =
    let so_far = (c.loop-piece.invariant).0 pieces spelled in
    let none = ap length (last_spelled c.loop-piece.rest.now so_far.0 so_far.1 (sym c.in_default.ensures)) in
    let count = so_far.2 in
    omega (arith, count, none)
