-- What was added is of the declarators so far.
use Rattle.std.proofs.Common.{take}
use Rattle.std.specs.Prelude.{flat_map}
use Rattle.capl_meaning.specs.Calls.{calls_in_declarator}
use Rattle.check_calls.proofs.statement.add_calls_in_declarators.Given as goal
use Rattle.check_calls.specs.Inside.Added.{AreAdded}

abbrev pub invariant-loop-declarator : goal.invariant-loop-declarator
invariant-loop-declarator l = AreAdded l.names l.into.items l.fn.into.items (flat_map calls_in_declarator (take l.declarator-index l.declarators))
