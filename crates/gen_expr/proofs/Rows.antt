-- Arguments as a row of a tree, and as a list: the same code.
use mathlib.Core.Former.{Count}
use Rattle.std.specs.Prelude.{◌≡◌, ℕ, ◌+◌, List, [], ◌∷◌, ◌++◌}
use Rattle.std.proofs.Common.{refl, ap, ◌∙◌}
use Rattle.bytecode.specs.declared.instr.Instr.TheVariants as instr
use Rattle.typed_tree.specs.declared.expression.TExpr.{TExpr, Row_of-TExpr, end_of-TExpr, more_of-TExpr, items-the_row-TExpr, items_hidden-the_row-TExpr-1}
use Rattle.typed_tree.specs.declared.expression.TExpr.TheVariants.{Call}
use Rattle.typed_tree.specs.declared.program.Typed.{Typed}
use Rattle.typed_tree.specs.Expression.{params_of}
use Rattle.typed_tree.specs.Size.{value_size}
use Rattle.code_listing.specs.Expression.{args_code, params_code, value_code}
use Rattle.code_listing.specs.Statement.{values_code}
use Rattle.code_size.proofs.Rows.{row_of}

-- a row has the code of its list
args_code-list : (typed : Typed) (n : Count) (row : Row_of-TExpr n) (place depth : ℕ) →
    args_code typed row place depth ≡ values_code typed (items-the_row-TExpr n row) place depth
args_code-list typed n end_of-TExpr place depth = refl
args_code-list typed n (more_of-TExpr e rest) place depth =
    ap (λ l. value_code typed e place depth ++ l)
    (args_code-list typed _ rest (place + value_size typed e) (depth + 1))

-- the code of a call
pub call_code : (typed : Typed) (e : TExpr) (f : ℕ) (args : List TExpr) (place depth : ℕ) → e ≡ Call f args →
    value_code typed e place depth ≡ values_code typed args place depth ++
    (params_code (params_of typed f) depth ++ (instr.Call f, depth) ∷ [])
call_code typed e f args place depth is =
    let row = row_of (Call f args) in
    ap (λ e. value_code typed e place depth) is ∙
    ap (λ l. l ++ (params_code (params_of typed f) depth ++ (instr.Call f, depth) ∷ []))
    (args_code-list typed row.0 row.1 place depth ∙
    ap (λ l. values_code typed l place depth) (items_hidden-the_row-TExpr-1 args))
