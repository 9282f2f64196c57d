-- An entry of the interface.
use Rattle.std.proofs.Common.{List, [], ◌∷◌, ◌++◌, sym, subst, ◌∙◌}
use Rattle.log_line.specs.declared.line.Line.{Line}
use Rattle.log_line.specs.View.{entry_of, line_of}
use Rattle.replay_node.specs.Inside.Progress.{IsProgress, Asks}
use Rattle.scenario.specs.declared.scenario.Epoch.{Epoch}
use Rattle.replay_node.proofs.ProgressLemmas.{after_entry, on_ok}
use Rattle.replay_node.proofs.progress.Progress.take.Goals as goal

pub returns-in-Entry-clause-taken : goal.returns-in-Entry-clause-taken
returns-in-Entry-clause-taken c =
    let old = c.args.self.now in
    let new = c.ask.new.self in
    let interface = c.args.interface.now in
    on_ok c.ask.result (Asks c.args.bit old (entry_of c.in-Entry.entry) new)
    ((epoch : Epoch) (readings : List Line) → IsProgress interface c.args.bit epoch readings old → IsProgress interface c.args.bit epoch (readings ++ line_of c.args.line.now ∷ []) new)
    (λ asks epoch readings is.
    subst (λ l. IsProgress interface c.args.bit epoch (readings ++ line_of l ∷ []) new) (sym c.in-Entry.is)
    (after_entry interface c.args.bit epoch readings old (entry_of c.in-Entry.entry) new (sym c.eq.ensures ∙ c.if-eq.true) is asks))
    c.ask.ensures
