-- What was written of a simulation whose summary alone is asked for.
use Rattle.std.proofs.Common.{refl}
use Rattle.sim_play.specs.declared.tally.Tally.{Tally}
use Rattle.sim_play.proofs.Grows.{on_err}
use Rattle.sim_play.proofs.RowLemmas.{new_rows_have}
use Rattle.sim_play.proofs.SummaryLemmas.{cut_in_run, summary_cut, summary_played}
use Rattle.sim_play.proofs.summary.play_summary.Goals as goal

pub run_until-requires-clause-rows : goal.run_until-requires-clause-rows
run_until-requires-clause-rows g c = new_rows_have c.requires.rows

pub returns-in_err-run_until-clause-cut : goal.returns-in_err-run_until-clause-cut
returns-in_err-run_until-clause-cut g c = on_err c.from_residual.result (cut_in_run (g.S.Sink.written c.args.sink.now) c.in_err-run_until.ensures.cut)

pub returns-in_err-show_summary-clause-cut : goal.returns-in_err-show_summary-clause-cut
returns-in_err-show_summary-clause-cut g c =
    on_err c.from_residual-in_err-show_summary.result
    (summary_cut _ (λ (t : Tally). t.frames) (λ (t : Tally). t.lines) (record { counts_frames = λ b n a t. t.0; counts_lines = λ b n a t. t.1 }) c.requires.rows refl
    c.in_ok-run_until.ensures.runs c.nodes.result.now c.nodes.ensures.nodes c.first_lines.ensures (g.S.Sink.written c.args.sink.now) (g.S.Sink.written c.show_summary.new.sink) c.in_err-show_summary.ensures.refused)

pub returns-clause-plays : goal.returns-clause-plays
returns-clause-plays g c =
    summary_played _ (λ (t : Tally). t.frames) (λ (t : Tally). t.lines) (record { counts_frames = λ b n a t. t.0; counts_lines = λ b n a t. t.1 }) c.requires.rows refl
    c.in_ok-run_until.ensures.runs c.nodes.result.now c.nodes.ensures.nodes c.first_lines.ensures (g.S.Sink.written c.args.sink.now) (g.S.Sink.written c.show_summary.new.sink) c.in_ok-show_summary.ensures.shown
