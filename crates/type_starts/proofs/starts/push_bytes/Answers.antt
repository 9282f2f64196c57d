-- One more byte.
use Rattle.std.proofs.Common.{[], ◌∷◌, get_or, take, ◌∙◌, ap, arith}
use Rattle.std.specs.Prelude.{map, pos}
use Rattle.std.proofs.lemmas.List.{length-map, length-take-le, map-append, take_more}
use Rattle.type_starts.proofs.StartLemmas.{goes_more_raw, passed}
use Rattle.type_starts.proofs.starts.push_bytes.Goals as goal

pub loop-byte-preserved : goal.loop-byte-preserved
loop-byte-preserved c =
    let bytes = c.args.bytes.now in
    let i = c.loop-byte.byte-index in
    goes_more_raw _ _ _ _ _ _ (pos (get_or bytes i 0)) c.loop-byte.invariant c.in_ok-push.ensures
    (passed c.from.result (record { sfits = c.from.type_inv }) ∙ c.from.ensures)
    (ap (map pos) (take_more bytes i 0 c.loop-byte-test.true) ∙ map-append pos (take i bytes) (get_or bytes i 0 ∷ []))

pub push-requires : goal.push-requires
push-requires c =
    let all = c.args.bytes.now in
    let i = c.loop-byte.byte-index in
    omega (arith, c.loop-byte.invariant.cell, length-map (take i all) pos, length-take-le i all (omega arith))
