-- So many lines were read; each has a byte at least, and one that begins a scenario has two.
use Rattle.std.proofs.Common.{◌≡◌, ◌+◌, ◌≤◌, length, true}
use Rattle.scenario.proofs.ReadLemmas.{Reached}
use Rattle.scenario.proofs.reader.read.Given as goal

abbrev pub invariant-loop-line : goal.invariant-loop-line
invariant-loop-line l = record {
  reached : Reached l.bytes l.rest l.count l.draft;
  fits : l.count + length l.rest ≤ length l.bytes;
  started_fits : l.draft.is_started ≡ true → l.count + length l.rest + 1 ≤ length l.bytes;
}

abbrev pub decreases-loop-line : goal.decreases-loop-line
decreases-loop-line l = length l.rest
