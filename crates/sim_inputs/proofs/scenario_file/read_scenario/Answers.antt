-- A scenario that is taken.
use Rattle.sim_inputs.proofs.NodeCount.{few_nodes, some_node}
use Rattle.sim_inputs.proofs.scenario_file.read_scenario.Goals as goal

pub returns-clause-taken : goal.returns-clause-taken
returns-clause-taken g c =
    let text = c.deref.result.now in
    let is = c.in_ok-scenario.ensures.judged in
    record {
      text = text;
      is = is;
      some_node = some_node text c.in_ok-scenario.scenario is;
      few_nodes = few_nodes text c.in_ok-scenario.scenario is;
    }
