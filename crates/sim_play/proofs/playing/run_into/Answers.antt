-- A run into a record is shown by it, and its references stay.
use Rattle.sim_play.proofs.Grows.{on_err}
use Rattle.sim_play.proofs.ShowLemmas.{cut_run_shown, kept_by_cut_run, kept_by_run, run_shown}
use Rattle.sim_play.proofs.playing.run_into.Goals as goal

pub returns-in_err-run_until-clause-same_sink : goal.returns-in_err-run_until-clause-same_sink
returns-in_err-run_until-clause-same_sink g c = kept_by_cut_run (λ r. r.sink.ghost_name) (λ b n a t. t.0) (λ b n a t. t.0) c.in_err-run_until.ensures.cut

pub returns-in_err-run_until-clause-cut : goal.returns-in_err-run_until-clause-cut
returns-in_err-run_until-clause-cut g c =
    on_err c.from_residual.result
    (cut_run_shown _ (λ r. r.show) (λ r. r.labels.now) (λ r. g.S.Sink.written r.sink.now) (record { takes = λ b n a t. (t.1, t.2, t.3); refuses = λ b n a t. (t.1, t.2, t.3) })
    c.in_err-run_until.ensures.cut)

pub returns-clause-same_sink : goal.returns-clause-same_sink
returns-clause-same_sink g c = kept_by_run (λ r. r.sink.ghost_name) (λ b n a t. t.0) c.in_ok-run_until.ensures.runs

pub returns-clause-shows : goal.returns-clause-shows
returns-clause-shows g c =
    run_shown _ (λ r. r.show) (λ r. r.labels.now) (λ r. g.S.Sink.written r.sink.now) (record { takes = λ b n a t. (t.1, t.2, t.3); refuses = λ b n a t. (t.1, t.2, t.3) })
    c.in_ok-run_until.ensures.runs
