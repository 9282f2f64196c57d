-- The pairs before the place are taken.
use Rattle.std.proofs.Common.{◌*◌, drop}
use Rattle.log_line.proofs.BytesLemmas.{HasTaken}
use Rattle.log_line.proofs.frame_text.plain_bytes.Given as goal

abbrev pub invariant-loop-place : goal.invariant-loop-place
invariant-loop-place l = HasTaken l.digits (drop (2 * l.place) l.digits) l.place l.bytes
