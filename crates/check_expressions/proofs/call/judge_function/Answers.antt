-- The function of the number is the one that is called.
use Rattle.std.proofs.Common.{◌≡◌, ◌∙◌, Some, ap, refl, sym}
use Rattle.std.specs.Option.{option_map, option_map_or}
use Rattle.std.specs.Prelude.{slice_get}
use Rattle.capl_meaning.specs.Names.{OfProgram, Unknown}
use Rattle.capl_meaning.specs.Sort.{sort_of_call}
use Rattle.check_names.specs.Function.{function_in}
use Rattle.check_sorts.specs.Scope.{scope_in}
use Rattle.check_expressions.proofs.call.judge_function.Goals as goal

pub note_function-requires-clause-recursive : goal.note_function-requires-clause-recursive
note_function-requires-clause-recursive c =
    let at : slice_get c.args.scope.names.now.functions c.args.number ≡ Some (function_in c.in-Some.function.now) =
    sym c.function_at.ensures ∙ ap (option_map (λ f. function_in f.now)) c.in-Some.is in
    c.in_ok-recursive.ensures (scope_in c.args.scope) (function_in c.in-Some.function.now) c.requires.calls refl at

pub returns-clause-sort : goal.returns-clause-sort
returns-clause-sort c =
    let s = scope_in c.args.scope in
    let f = function_in c.in-Some.function.now in
    let at : slice_get c.args.scope.names.now.functions c.args.number ≡ Some f =
    sym c.function_at.ensures ∙ ap (option_map (λ f. function_in f.now)) c.in-Some.is in
    λ text. c.sort_of_function.ensures s (c.in_ok-recursive.ensures s f c.requires.calls refl at)
    ∙ sym (ap (λ o. sort_of_call s (option_map_or OfProgram o Unknown) text c.args.sorts.now) at)
