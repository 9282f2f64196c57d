-- The values so far are those of the items up to the place.
use Rattle.std.proofs.Common.{◌≤◌, ◌-◌, length, drop}
use Rattle.capl_lexer.specs.Spelling.{AreItems}
use Rattle.capl_lexer.proofs.quoted.string.Given as goal

abbrev pub invariant-loop-item : goal.invariant-loop-item
invariant-loop-item l = record {
  from : 1 ≤ l.place;
  within : l.place ≤ length l.text;
  items : AreItems l.values.items (drop 1 l.text) (drop l.place l.text);
}

abbrev pub decreases-loop-item : goal.decreases-loop-item
decreases-loop-item l = length l.text - l.place
