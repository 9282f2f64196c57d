-- The requests that are left, made on the bus as it is, give the bus after all and the requests after the moment.
use Rattle.std.proofs.Common.{◌≡◌, length}
use Rattle.node_rounds.specs.Effects.{after_requests}
use Rattle.run_meaning.specs.Moments.{requests_after, requests_at}
use Rattle.sim_core.proofs.keys.make_requests.Given as goal

abbrev pub invariant-loop-request : goal.invariant-loop-request
invariant-loop-request g l = record {
  bus : after_requests g.B.Bus.meaning.after_request l.bus l.node (requests_at l.now l.requests)
      ≡ after_requests g.B.Bus.meaning.after_request l.fn.bus l.node (requests_at l.now l.fn.requests);
  left : requests_after l.now l.requests ≡ requests_after l.now l.fn.requests;
  nodes : g.B.Bus.meaning.nodes l.bus ≡ g.B.Bus.meaning.nodes l.fn.bus;
}

abbrev pub decreases-loop-request : goal.decreases-loop-request
decreases-loop-request g l = length l.requests
