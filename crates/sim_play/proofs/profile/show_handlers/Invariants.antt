-- What stands between two lines.
use Rattle.std.proofs.Common.{◌≤◌, take}
use Rattle.sim_outside.specs.Sink.{GrowsBy}
use Rattle.sim_play.specs.Profile.{handler_lines}
use Rattle.sim_play.specs.Inside.Counted.{row_in}
use Rattle.sim_play.proofs.profile.show_handlers.Given as goal

-- what was written has grown by the lines of the handlers that were passed
abbrev pub invariant-loop-place : goal.invariant-loop-place
invariant-loop-place g l = record {
  grows : GrowsBy (g.S.Sink.written l.initial.sink) (g.S.Sink.written l.sink)
      (handler_lines l.name l.files (row_in l.meter) l.first_row (take l.place l.handlers));
  faults_stay : g.S.Sink.faults l.initial.sink ≤ g.S.Sink.faults l.sink;
}
