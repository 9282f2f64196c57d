-- The function at its place in the order, and its sort.
use Rattle.std.proofs.Common.{◌≡◌, ℕ, List, Option, Some, ap, ◌∙◌, refl, sym}
use Rattle.std.specs.Prelude.{pos}
use Rattle.std.specs.Option.{option_map_or}
use Rattle.typed_tree.specs.declared.expression.TExpr.{TExpr}
use Rattle.typed_tree.specs.declared.expression.TExpr.TheVariants.{Call, Const}
use Rattle.capl_meaning.specs.declared.sort.Sort.{Sort}
use Rattle.capl_meaning.specs.Sort.{sort_of_function}
use Rattle.check_names.specs.Function.{function_in}
use Rattle.check_sorts.specs.Scope.{scope_in}
use Rattle.type_expressions.specs.declared.made.Shape.TheVariants as shape
use Rattle.type_expressions.specs.declared.made.Walked.{Walked}
use Rattle.type_expressions.proofs.call.program_call.Goals as goal

call_made : (f : ℕ) (place : Option ℕ) (args trees : List TExpr) (one two : Sort) → place ≡ Some f → args ≡ trees → one ≡ two →
    let made : Walked = record { shape = shape.Value (Call f args); sort = one } in
    made ≡ record { shape = shape.Value (option_map_or (λ f. Call f trees) place (Const (pos 0))); sort = two }
call_made f place args trees one two place_is args_are same =
    let by_args : List TExpr → Walked = λ l. record { shape = shape.Value (Call f l); sort = one } in
    let by_sort : Sort → Walked = λ k. record { shape = shape.Value (Call f trees); sort = k } in
    let by_place : Option ℕ → Walked = λ p. record { shape = shape.Value (option_map_or (λ f. Call f trees) p (Const (pos 0))); sort = two } in
    ap by_args args_are ∙ ap by_sort same ∙ ap by_place (sym place_is)

pub returns : goal.returns
returns c =
    let f = function_in c.args.function.now in
    call_made _ _ _ _ _ _ (c.place.ensures c.args.scope.names.now f c.requires.tables.calls c.requires.function) (c.from_list.ensures ∙ c.trees_in.ensures)
    (c.sort_of_function-sort.ensures (scope_in c.args.scope) (c.in_ok-recursive.ensures (scope_in c.args.scope) f c.requires.tables.calls refl c.requires.function)
    ∙ ap (sort_of_function (scope_in c.args.scope) f) c.as_slice.ensures.value)
