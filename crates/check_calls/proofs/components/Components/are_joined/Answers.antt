-- By the root of both.
use Rattle.std.proofs.Common.{◌≡◌, ◌∙◌, ℕ, Bool, List, Some, ap, sym, true}
use Rattle.std.specs.Prelude.{slice_get, slice_index}
use Rattle.check_calls.proofs.ComponentLemmas.{reaches_by_root}
use Rattle.check_calls.proofs.components.Components.are_joined.Goals as goal

pub returns-then-mark_at : goal.returns-then-mark_at
returns-then-mark_at c = λ rows are is.
    let this = c.args.self.now in
    let one = c.number_at.ensures ∙ ap (λ (l : List ℕ). slice_index l c.args.from) c.as_slice.ensures.value in
    let two = c.number_at-2.ensures ∙ ap (λ (l : List ℕ). slice_index l c.args.to) c.as_slice-2.ensures.value in
    let up : slice_get this.reaching.items c.args.from ≡ Some true =
    ap (λ (l : List Bool). slice_get l c.args.from) (sym c.as_slice-3.ensures.value) ∙ c.mark_at.ensures c.if-mark_at.true in
    let down : slice_get this.reached.items c.args.to ≡ Some true =
    ap (λ (l : List Bool). slice_get l c.args.to) (sym c.as_slice-then-mark_at.ensures.value) ∙ c.mark_at-then-mark_at.ensures is in
    reaches_by_root rows this.roots.items this.reached.items this.reaching.items c.args.from c.args.to are.reached are.reaching
    (sym one ∙ c.if-number_at.false ∙ two) up down
