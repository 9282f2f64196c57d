-- What stands between two nodes.
use Rattle.std.proofs.Common.{◌≡◌, ◌≤◌, length, IfSome}
use Rattle.check_names.specs.Names.{messages_of}
use Rattle.sim_inputs.specs.Inside.Codes.{AreOfSources}
use Rattle.sim_inputs.specs.Accepted.{AreWithin}
use Rattle.sim_inputs.proofs.NodeLemmas.{AreReadTo}
use Rattle.sim_inputs.proofs.nodes.read_nodes.Given as goal

-- the codes and the names of files are those of the nodes that were passed, whose programs fit together
abbrev pub invariant-loop-node : goal.invariant-loop-node
invariant-loop-node g l = record {
  fit : AreWithin l.cells l.weights;
  as_many : length l.codes.items ≡ l.node-index;
  coded : AreOfSources (messages_of l.base) l.codes.items l.names.items;
  told : IfSome (g.F.Files.held l.fn.files) (λ contents.
      AreReadTo contents l.name (messages_of l.base) l.nodes l.node-index l.cells l.weights l.codes.items l.names.items);
  faults_stay : g.F.Files.faults l.fn.files ≤ g.F.Files.faults l.files;
  contents_stay : g.F.Files.held l.files ≡ g.F.Files.held l.fn.files;
}
