-- The place is that of the table.
use Rattle.std.proofs.Common.{◌∙◌, ℕ, List, Some, ap, sym, get_or}
use Rattle.check_calls.proofs.calls.Calls.place.Goals as goal

pub returns : goal.returns
returns c = λ names f are at.
    are.places c.args.function f at
    ∙ sym (ap Some (c.number_at.ensures ∙ ap (λ (l : List ℕ). get_or l c.args.function 0) c.as_slice.ensures.value))
