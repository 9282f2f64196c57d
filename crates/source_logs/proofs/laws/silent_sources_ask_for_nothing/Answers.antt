-- A task of a silent source has no such effect, and leaves the source.
use Rattle.std.proofs.Common.{List, [], ◌∷◌, sym, subst}
use Rattle.std.specs.Prelude.{All}
use Rattle.std.specs.List.{AllByRecursion}
use Rattle.std.proofs.lemmas.List.Elements.{All-head, All-tail}
use Rattle.can_bus.specs.Bus.{one_channel}
use Rattle.node_rounds.specs.Reaction.{NodeState}
use Rattle.source_laws.specs.Reaction.{SourceMemory, by_source_reaction}
use Rattle.replay_laws.specs.Tasks.{AsksNothing}
use Rattle.source_logs.specs.Silent.{IsSilent}
use Rattle.source_logs.proofs.EachTask.{run_each}
use Rattle.source_logs.proofs.SourceTasks.{program_stays, task_nothing}
use Rattle.source_logs.proofs.laws.silent_sources_ask_for_nothing.Goals as goal

abbrev Silent : NodeState SourceMemory → Type 0
Silent node = IsSilent node.memory.program

each_silent : (nodes : List (NodeState SourceMemory)) → All Silent nodes → AllByRecursion Silent nodes
each_silent [] all = tt
each_silent (node ∷ nodes) all = (All-head Silent node nodes all, each_silent nodes (All-tail Silent node nodes all))

pub returns : goal.returns
returns c until before after rounds silent run =
    run_each by_source_reaction one_channel Silent AsksNothing (λ s trigger now done held does. task_nothing s trigger now done held does)
    (λ s trigger now done held does. subst IsSilent (sym (program_stays s trigger now done does)) held) until before rounds after (each_silent before.nodes silent) run
