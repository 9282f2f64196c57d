-- The keys that are left give what is still to be added.
use Rattle.std.proofs.Common.{◌≡◌, ◌++◌, drop}
use Rattle.node_rounds.specs.Procedures.{procedures_for}
use Rattle.node_rounds.specs.Round.{key_triggers}
use Rattle.node_run.specs.Code.{events_of}
use Rattle.node_run.proofs.agenda.add_keys.Given as goal

abbrev pub invariant-loop-key : goal.invariant-loop-key
invariant-loop-key l =
    l.initial.list.items ++ key_triggers (procedures_for (events_of l.procedures.handlers)) l.keys
    ≡ l.list.items ++ key_triggers (procedures_for (events_of l.procedures.handlers)) (drop l.key-index l.keys)
