-- The first selector that holds the key is one of the least rank.
use Rattle.std.proofs.Common.{List, subst}
use Rattle.can_frame.specs.Frame.{selection_key}
use Rattle.msg_select.specs.declared.selector.MessageSelector.{MessageSelector}
use Rattle.msg_select.specs.Selection.{IsChosen}
use Rattle.msg_select.specs.Inside.Selectors.{IsFirstHolder}
use Rattle.msg_select.proofs.ChoiceLemmas.{chosen_at}
use Rattle.msg_select.proofs.selectors.Selectors.choose.Goals as goal

pub returns-clause-some : goal.returns-clause-some
returns-clause-some c =
    let list = c.self.inside.list.items in
    let key = selection_key c.args.f.now.ident in
    let place = c.in_ok-place.place in
    let first : IsFirstHolder list key place =
    subst (λ k. IsFirstHolder list k place) c.sel_key.ensures
    (subst (λ (xs : List MessageSelector). IsFirstHolder xs c.sel_key.result place) c.deref.ensures.value c.in_ok-place.ensures.some) in
    subst (λ (xs : List MessageSelector). IsChosen xs key c.index.result.now.handler) c.self.view_is
    (chosen_at list key place c.index.result.now c.self.invariant.by_rank first c.index.ensures)
