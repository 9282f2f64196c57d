-- What was written by the parts of a simulation that is played.
use denote.Enum.Bare.{sameb}
use Rattle.std.proofs.Common.{◌≡◌, ◌≢◌, ◌≤◌, true, false, ap, length, subst, sym, ◌∙◌}
use Rattle.sim_play.specs.contracts.labels.Show.{the_type}
use Rattle.sim_play.specs.declared.labels.Show.{Show}
use Rattle.sim_play.specs.declared.labels.Show.TheVariants.{Summary}
use Rattle.sim_play.specs.Inside.Counted.{counted_last, handlers_of, row_count, row_in}
use Rattle.sim_play.specs.Show.{shown_first}
use Rattle.sim_play.proofs.Grows.{begins_from, grows_from, on_err}
use Rattle.sim_play.proofs.PlayLemmas.{as_many_files, as_many_nodes, cut_first, cut_last, cut_run, has_played, last_is, rows_stay}
use Rattle.sim_play.proofs.RowLemmas.{new_rows_have}
use Rattle.sim_play.proofs.playing.play.Goals as goal

is_other : (show : Show) → false ≡ sameb the_type show Summary → show ≢ Summary
is_other show differs is = let same : false ≡ true = differs ∙ ap (λ s. sameb the_type s Summary) is in cc

pub returns-in_err-show_first-clause-cut : goal.returns-in_err-show_first-clause-cut
returns-in_err-show_first-clause-cut g c =
    on_err c.from_residual.result
    (cut_first (g.S.Sink.written c.args.out.now.sink) (g.S.Sink.written c.show_first.new.sink) c.args.meter.now c.has_a_run.ensures
    (begins_from (g.S.Sink.written c.show_first.new.sink) (shown_first c.args.show c.args.labels.now) (ap (λ o. g.S.Sink.written o.sink) c.out.view_is) c.in_err-show_first.ensures.refused))

pub show_run-requires-clause-rows : goal.show_run-requires-clause-rows
show_run-requires-clause-rows g c = new_rows_have c.requires.rows

pub returns-in_err-show_run-clause-cut : goal.returns-in_err-show_run-clause-cut
returns-in_err-show_run-clause-cut g c =
    on_err c.from_residual-in_err-show_run.result
    (cut_run (g.S.Sink.written c.args.out.now.sink) (g.S.Sink.written c.show_first.new.sink) (g.S.Sink.written c.show_run.new.sink)
    (grows_from (g.S.Sink.written c.show_first.new.sink) (shown_first c.args.show c.args.labels.now) (ap (λ o. g.S.Sink.written o.sink) c.out.view_is) c.in_ok-show_first.ensures.shown) c.in_err-show_run.ensures.cut)

pub show_last-requires-clause-names : goal.show_last-requires-clause-names
show_last-requires-clause-names g c = c.requires.labels.names ∙ sym (as_many_nodes c.in_ok-show_run.ensures.shows) ∙ ap length (sym c.nodes.ensures.nodes)

pub show_last-requires-clause-files : goal.show_last-requires-clause-files
show_last-requires-clause-files g c =
    as_many_files c.args.labels.now.files c.args.core.now.nodes c.requires.labels.files ∙ sym (as_many_nodes c.in_ok-show_run.ensures.shows) ∙ ap length (sym c.nodes.ensures.nodes)

pub show_last-requires-clause-rows : goal.show_last-requires-clause-rows
show_last-requires-clause-rows g c =
    subst (λ ns. row_count (handlers_of ns) ≤ length c.show_run.new.meter) (sym c.nodes.ensures.nodes) (rows_stay c.requires.rows c.in_ok-show_run.ensures.shows)

pub returns-in_err-show_last-clause-cut : goal.returns-in_err-show_last-clause-cut
returns-in_err-show_last-clause-cut g c =
    on_err c.from_residual-in_err-show_last.result
    (cut_last (g.S.Sink.written c.args.out.now.sink) (g.S.Sink.written c.show_first.new.sink) (g.S.Sink.written c.show_run.new.sink) (g.S.Sink.written c.show_last.new.sink) c.requires.rows
    (grows_from (g.S.Sink.written c.show_first.new.sink) (shown_first c.args.show c.args.labels.now) (ap (λ o. g.S.Sink.written o.sink) c.out.view_is) c.in_ok-show_first.ensures.shown) c.in_ok-show_run.ensures.shows
    (counted_last c.args.show c.args.labels.now (row_in c.show_run.new.meter) (handlers_of c.nodes.result.now))
    (last_is (is_other c.args.show c.if-eq.ensures) c.requires.rows c.in_ok-show_run.ensures.shows c.nodes.result.now c.nodes.ensures.nodes)
    c.in_err-show_last.ensures.refused)

pub returns-clause-plays : goal.returns-clause-plays
returns-clause-plays g c =
    has_played (g.S.Sink.written c.args.out.now.sink) (g.S.Sink.written c.show_first.new.sink) (g.S.Sink.written c.show_run.new.sink) (g.S.Sink.written c.show_last.new.sink) c.requires.rows
    (grows_from (g.S.Sink.written c.show_first.new.sink) (shown_first c.args.show c.args.labels.now) (ap (λ o. g.S.Sink.written o.sink) c.out.view_is) c.in_ok-show_first.ensures.shown) c.in_ok-show_run.ensures.shows
    (counted_last c.args.show c.args.labels.now (row_in c.show_run.new.meter) (handlers_of c.nodes.result.now))
    (last_is (is_other c.args.show c.if-eq.ensures) c.requires.rows c.in_ok-show_run.ensures.shows c.nodes.result.now c.nodes.ensures.nodes)
    c.in_ok-show_last.ensures.shown
