-- Nothing is called where there is no initialiser.
use Rattle.std.proofs.Common.{subst, sym}
use Rattle.std.specs.Prelude.{Option, flat_map}
use Rattle.std.specs.Option.{option_to_list}
use Rattle.capl_tree.specs.declared.declaration.Init.{Init}
use Rattle.capl_meaning.specs.Calls.{calls_in_init}
use Rattle.check_calls.proofs.CalleeLemmas.{added_none}
use Rattle.check_calls.proofs.statement.add_calls_in_start.Goals as goal
use Rattle.check_calls.specs.Inside.Added.{AreAdded}

pub returns-in-None : goal.returns-in-None
returns-in-None c =
    subst
    (λ (o : Option Init). AreAdded c.args.names.now c.args.into.now.items c.args.into.now.items (flat_map calls_in_init (option_to_list o)))
    (sym c.in-None.is) (added_none _ _)
