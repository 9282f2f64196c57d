-- The lines of the handlers that were passed, and then that of the next, are the first lines of all.
use Rattle.std.proofs.Common.{arith}
use Rattle.sim_play.specs.Inside.Counted.{row_in}
use Rattle.sim_play.proofs.Grows.{on_err}
use Rattle.sim_play.proofs.ProfileLemmas.{begins_at, grows_at}
use Rattle.sim_play.proofs.profile.show_handlers.Goals as goal

pub returns-in_err-show_handler-clause-refused : goal.returns-in_err-show_handler-clause-refused
returns-in_err-show_handler-clause-refused g c =
    on_err c.from_residual.result
    (begins_at (g.S.Sink.written c.args.sink.now) (g.S.Sink.written c.loop-place.sink) (g.S.Sink.written c.show_handler.new.sink) c.args.name.now c.args.files.now (row_in c.args.meter.now)
    c.args.first_row c.args.handlers.now c.loop-place.place c.index-handlers-place.result c.row_in-row.result c.row_in-row.ensures c.index-handlers-place.is (omega arith)
    c.loop-place.invariant.grows c.in_err-show_handler.ensures.refused)

pub loop-place-preserved : goal.loop-place-preserved
loop-place-preserved g c = record {
  grows = grows_at (g.S.Sink.written c.args.sink.now) (g.S.Sink.written c.loop-place.sink) (g.S.Sink.written c.show_handler.new.sink) c.args.name.now c.args.files.now (row_in c.args.meter.now)
      c.args.first_row c.args.handlers.now c.loop-place.place c.index-handlers-place.result c.row_in-row.result c.row_in-row.ensures c.index-handlers-place.is (omega arith)
      c.loop-place.invariant.grows c.in_ok-show_handler.ensures.shown;
  faults_stay = let before = c.loop-place.invariant.faults_stay in let more = c.show_handler.ensures.faults_stay in omega (arith, before, more);
}
