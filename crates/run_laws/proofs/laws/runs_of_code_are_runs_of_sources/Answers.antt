-- Nodes that are loaded are alike to those of the sources, so their runs are equal, and sources have one run.
use Rattle.std.proofs.Common.{◌≡◌, List, ap, subst, sym, ◌∙◌}
use Rattle.std.specs.List.{AllZip}
use Rattle.node_rounds.specs.Follows.{NodesAlike}
use Rattle.run_meaning.specs.Run.{RunState, new_run, with_nodes}
use Rattle.source_laws.specs.Stands.{StandsFor}
use Rattle.run_laws.specs.Nodes.{states_of}
use Rattle.run_laws.specs.Sources.{first_source_nodes}
use Rattle.run_laws.proofs.Loaded.{all_alike}
use Rattle.run_laws.proofs.laws.runs_of_code_are_runs_of_sources.Goals as goal

-- a run that ends as another but for its nodes, which are related to that one's
same_end : {S T B : Type 0} (related : S → T → Type 0) (after : RunState S B) (nodes : List T) (end : RunState T B) → with_nodes after nodes ≡ end → AllZip related after.nodes nodes
    → (end ≡ with_nodes after end.nodes) × AllZip related after.nodes end.nodes
same_end {T} {B} related after nodes end is alike =
    (sym is ∙ ap (λ (s : RunState T B). with_nodes after s.nodes) is, subst (λ (s : RunState T B). AllZip related after.nodes s.nodes) is alike)

pub returns-clause-is_a_run : goal.returns-clause-is_a_run
returns-clause-is_a_run g c base turns programs nodes loaded until b keys requests rounds after run =
    c.equal_runs.ensures until (new_run (states_of nodes) b keys requests) after (first_source_nodes base turns programs) rounds
    (all_alike base turns programs nodes loaded) run

pub returns-clause-is_each_run : goal.returns-clause-is_each_run
returns-clause-is_each_run g c base turns programs nodes loaded until b keys requests rounds others after end run other =
    let first = first_source_nodes base turns programs in
    let own = c.equal_runs.ensures until (new_run (states_of nodes) b keys requests) after first rounds (all_alike base turns programs nodes loaded) run in
    let one = c.one_run.ensures until (new_run first b keys requests) (with_nodes after own.0) end rounds others own.1 other in
    let same = same_end (NodesAlike StandsFor) after own.0 end one.1 own.2 in (one.0, same.0, same.1)
