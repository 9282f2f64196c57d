-- Each frame that a source sends is that of a message.
use Rattle.std.proofs.Common.{List, [], ◌∷◌}
use Rattle.std.specs.Prelude.{⊤}
use Rattle.std.specs.List.{AllByRecursion}
use Rattle.can_bus.specs.Bus.{one_channel}
use Rattle.node_rounds.specs.Reaction.{NodeState}
use Rattle.source_laws.specs.Reaction.{SourceMemory, by_source_reaction}
use Rattle.replay_laws.specs.Tasks.{AsksLoggable}
use Rattle.source_logs.proofs.EachTask.{run_each}
use Rattle.source_logs.proofs.SourceTasks.{task_logged}
use Rattle.source_logs.proofs.laws.sources_ask_for_what_a_log_can_carry.Goals as goal

any_nodes : (nodes : List (NodeState SourceMemory)) → AllByRecursion (λ node. ⊤) nodes
any_nodes [] = tt
any_nodes (node ∷ nodes) = (tt, any_nodes nodes)

pub returns : goal.returns
returns c until before after rounds run =
    run_each by_source_reaction one_channel (λ node. ⊤) AsksLoggable (λ s trigger now done held does. task_logged s trigger now done does) (λ s trigger now done held does. tt) until before rounds after
    (any_nodes before.nodes) run
