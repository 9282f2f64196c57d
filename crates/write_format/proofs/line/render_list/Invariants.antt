-- What is left to show behind the line.
use Rattle.std.proofs.Common.{length}
use Rattle.write_format.specs.Line.{rendered}
use Rattle.write_format.proofs.ShowLemmas.{IsToShow}
use Rattle.write_format.proofs.line.render_list.Given as goal

abbrev pub invariant-loop-piece : goal.invariant-loop-piece
invariant-loop-piece l = IsToShow (rendered l.f l.initial.numbers l.cells) l.cells l.line.items l.rest l.args l.numbers

abbrev pub decreases-loop-piece : goal.decreases-loop-piece
decreases-loop-piece l = length l.rest
