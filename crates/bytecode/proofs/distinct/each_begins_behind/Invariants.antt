-- Each span so far begins behind the one before it.
use Rattle.std.proofs.Common.{ℕ, ◌+◌, ◌<◌, get_or}
use Rattle.bytecode.specs.declared.distinct.Span.{Span}
use Rattle.bytecode.proofs.distinct.each_begins_behind.Given as goal

abbrev pub invariant-loop-i : goal.invariant-loop-i
invariant-loop-i l = (k : ℕ) (d : Span) → k + 1 < l.i → (get_or l.spans k d).high < (get_or l.spans (k + 1) d).low
