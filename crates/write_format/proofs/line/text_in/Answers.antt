-- One more byte, and the first 0.
use Rattle.std.proofs.Common.{◌≡◌, [], ◌∷◌, ◌++◌, get_or, sym, ap, ◌∙◌, arith, below_more}
use Rattle.std.specs.Prelude.{pos, unsigned_abs}
use Rattle.std.proofs.lemmas.Bool.Decides.{nat_tests}
use Rattle.write_format.proofs.LineLemmas.{byte_read_back, bytes_more, text_in_is}
use Rattle.write_format.proofs.line.text_in.Goals as goal

pub returns-then-byte-eq0 : goal.returns-then-byte-eq0
returns-then-byte-eq0 c =
    let cells = c.args.cells.now in
    let i = c.loop-cell.cell-index in
    let back = byte_read_back (get_or cells i (pos 0)) (c.requires i (pos 0) (omega arith)) in
    (c.loop-cell.invariant).0
    ∙ text_in_is c.args.cells.now c.loop-cell.cell-index (omega arith) (c.loop-cell.invariant).1 (λ _. rw back at c.if-byte-eq0.true)

pub loop-cell-preserved : goal.loop-cell-preserved
loop-cell-preserved c =
    let cells = c.args.cells.now in
    let i = c.loop-cell.cell-index in
    let back = byte_read_back (get_or cells i (pos 0)) (c.requires i (pos 0) (omega arith)) in
    let other : unsigned_abs (get_or cells i (pos 0)) ≡ 0 → ⊥ = rw back at c.if-byte-eq0.false in
    let pushed = rw back at c.in_ok-push.ensures.items in (
      pushed ∙ ap (λ l. l ++ unsigned_abs (get_or cells i (pos 0)) ∷ []) (c.loop-cell.invariant).0 ∙ sym (bytes_more cells i (omega arith)),
      below_more _ _ (c.loop-cell.invariant).1 (grind (arith, nat_tests, other)),
    )

pub returns : goal.returns
returns c =
    (c.loop-cell.invariant).0
    ∙ text_in_is c.args.cells.now c.loop-cell.cell-index (omega arith) (c.loop-cell.invariant).1 (λ more. absurd (omega (arith, more)))
