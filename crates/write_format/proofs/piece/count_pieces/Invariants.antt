-- The pieces that were passed.
use Rattle.std.proofs.Common.{◌≡◌, ◌≤◌, ◌+◌, List, length}
use Rattle.write_format.specs.Reading.{AreSpelled}
use Rattle.write_format.specs.declared.piece.Piece.{Piece}
use Rattle.write_format.proofs.piece.count_pieces.Given as goal

abbrev pub invariant-loop-piece : goal.invariant-loop-piece
invariant-loop-piece l =
    ((pieces : List Piece) → AreSpelled l.text pieces → (more : List Piece) × AreSpelled l.rest more × (length pieces ≡ l.count + length more))
    × (l.count + length l.rest ≤ length l.text)

abbrev pub decreases-loop-piece : goal.decreases-loop-piece
decreases-loop-piece l = length l.rest
