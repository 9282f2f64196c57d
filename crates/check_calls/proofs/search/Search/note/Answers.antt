-- A place that was not found before is found last.
use Rattle.std.proofs.Common.{◌≡◌, ◌∙◌, ℕ, List, Some, subst, sym, true, set, get_or, arith, ◌<◌, length}
use Rattle.std.proofs.lemmas.Option.{same_Some, slice_get-get_or}
use Rattle.std.proofs.lemmas.Bool.{false≢true}
use Rattle.std.specs.Prelude.{slice_get}
use Rattle.check_calls.specs.Graph.{Has}
use Rattle.check_calls.specs.Inside.Search.{AreFlagged, AreOnce, IsGrown}
use Rattle.check_calls.proofs.SearchLemmas.{flagged_more, grown_one, once_more, push_has}
use Rattle.check_calls.proofs.search.Search.note.Goals as goal

pub returns-clause-flagged : goal.returns-clause-flagged
returns-clause-flagged c = λ are.
    subst (λ (l : List ℕ). AreFlagged (set c.args.self.now.flags.items c.args.place true) l) (sym c.in_ok-push.ensures.items)
    (flagged_more c.args.self.now.flags.items c.args.self.now.found.items c.args.place are)

pub returns-clause-here : goal.returns-clause-here
returns-clause-here c = λ are within.
    subst (λ (l : List ℕ). Has l c.args.place) (sym c.in_ok-push.ensures.items)
    (push_has c.args.self.now.found.items c.args.place)

pub returns-clause-grown : goal.returns-clause-grown
returns-clause-grown c =
    subst (λ (l : List ℕ). IsGrown c.args.self.now.found.items l (λ other. other ≡ c.args.place)) (sym c.in_ok-push.ensures.items)
    (grown_one c.args.self.now.found.items c.args.place)

pub returns-clause-once : goal.returns-clause-once
returns-clause-once c = λ are.
    let flags = c.args.self.now.flags.items in
    let within : c.args.place < length flags = omega (arith, c.if-at-len.false, c.len.ensures) in
    let new : slice_get flags c.args.place ≡ Some true → ⊥ = λ at.
    false≢true (sym c.if-index.false ∙ c.index.ensures
    ∙ same_Some (get_or flags c.args.place c.index.result.now) true
    (sym (slice_get-get_or flags c.args.place c.index.result.now within) ∙ at)) in
    subst (λ (l : List ℕ). AreOnce (set flags c.args.place true) l) (sym c.in_ok-push.ensures.items)
    (once_more flags c.args.self.now.found.items c.args.place within new are)
