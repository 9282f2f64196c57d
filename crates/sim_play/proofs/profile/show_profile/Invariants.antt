-- What stands between the lines of two nodes.
use Rattle.std.proofs.Common.{◌≡◌, ◌≤◌, take}
use Rattle.sim_outside.specs.Sink.{GrowsBy}
use Rattle.sim_play.specs.Inside.Counted.{handlers_of, lines_from, row_count, row_in}
use Rattle.sim_play.proofs.profile.show_profile.Given as goal

-- what was written has grown by the lines of the nodes that were passed, whose rows come first
abbrev pub invariant-loop-number : goal.invariant-loop-number
invariant-loop-number g l = record {
  is_first : l.first_row ≡ row_count (take l.number (handlers_of l.nodes));
  grows : GrowsBy (g.S.Sink.written l.initial.sink) (g.S.Sink.written l.sink)
      (lines_from (take l.number l.labels.names) (take l.number l.labels.files) (row_in l.meter) 0 (take l.number (handlers_of l.nodes)));
  faults_stay : g.S.Sink.faults l.initial.sink ≤ g.S.Sink.faults l.sink;
}
