-- There is a least due moment where there is a setting.
use Rattle.std.proofs.Common.{◌≡◌, is_some, ap, sym, ◌∙◌}
use Rattle.timer_queue.specs.Timers.{Timers, least_due}
use Rattle.timer_queue.proofs.DueLemmas.{least_due_none}
use Rattle.timer_queue.proofs.queue.TimerQueue.next_due.Goals as goal

pub returns-clause-none : goal.returns-clause-none
returns-clause-none c =
    let is : c.next_due.result ≡ least_due c.args.self.now.settings = c.next_due.ensures ∙ ap (λ (t : Timers). least_due t.settings) c.self.view_is in
    let both = least_due_none c.args.self.now.settings in
    (λ none. both.0 (sym (ap is_some is) ∙ none), λ empty. ap is_some is ∙ both.1 empty)
