-- The weight of a source bounds its formats: a `write` weighs 8 at least.
use mathlib.Core.Former.{Count}
use Rattle.std.proofs.Common.{◌≡◌, ℕ, ◌+◌, ◌*◌, ◌≤◌, List, [], ◌∷◌, ◌++◌, length, Option, Some, None, arith, length-append}
use Rattle.std.specs.Prelude.{flat_map, sum_by}
use Rattle.std.proofs.lemmas.List.Sums.{sum_by-cons}
use Rattle.write_format.specs.declared.piece.Piece.{Piece}
use Rattle.write_format.specs.Line.{FormatText}
use Rattle.capl_tree.specs.declared.expr.Expr.{Expr, items-the_row-Expr}
use Rattle.capl_tree.specs.declared.expr.Expr.TheVariants as expr
use Rattle.capl_tree.specs.declared.statement.Stmt.{Stmt, Row_of-Stmt, end_of-Stmt, more_of-Stmt}
use Rattle.capl_tree.specs.declared.statement.Stmt.TheBlock.{Row_of-Arm, end_of-Arm, more_of-Arm, Row_of-Group, end_of-Group, more_of-Group, Held-Stmt-If-1}
use Rattle.capl_tree.specs.declared.statement.Stmt.TheVariants as stmt
use Rattle.capl_tree.specs.Forms as tree
use Rattle.capl_tree.specs.Weight.{arms_weight, else_weight, expression_weight, further_arms_weight, groups_weight, part_weight, statement_weight, statements_weight}
use Rattle.capl_meaning.specs.declared.builtin.Builtin.TheVariants as builtin
use Rattle.capl_meaning.specs.Names.{Callee, OfLanguage, Scope, callee}
use Rattle.typed_source.specs.Statement.{formats_of, formats_of_alone, formats_of_arms, formats_of_call, formats_of_else, formats_of_groups, formats_of_part, formats_of_row, formats_written, pieces_written, text_written}

module _ (s : Scope) where
  written_one : (text : List ℕ) (o : Option (List Piece)) (arguments : List Expr) → length (formats_written s text o arguments) ≤ 1
  written_one text None arguments = omega arith
  written_one text (Some pieces) arguments = omega arith

  call_one : (c : Callee) (arguments : List Expr) → length (formats_of_call s c arguments) ≤ 1
  call_one (OfLanguage builtin.Write) [] = omega arith
  call_one (OfLanguage builtin.Write) (format ∷ arguments) = written_one (text_written format) (pieces_written s format arguments) arguments
  call_one other arguments = omega arith

  alone_light : (e : Expr) → 8 * length (formats_of_alone s e) ≤ expression_weight e
  alone_light (tree.Paren inner at) = let h : 8 * length (formats_of_alone s inner) ≤ expression_weight inner = alone_light inner in omega (arith, h)
  alone_light (expr.Call' name shape args at) =
      let h : length (formats_of_call s (callee s.names name) (items-the_row-Expr _ args)) ≤ 1 = call_one (callee s.names name) (items-the_row-Expr _ args) in omega (arith, h)
  alone_light other = omega arith

  part_light : (part : Option Expr) → 8 * length (formats_of_part s part) ≤ part_weight part
  part_light None = omega arith
  part_light (Some e) = alone_light e

  -- formats of two parts
  both : (xs ys : List FormatText) → length (xs ++ ys) ≡ length xs + length ys
  both xs ys = length-append xs ys

  mutual
    light : (x : Stmt) → 8 * length (formats_of s x) ≤ statement_weight x
    light stmt.Empty = omega arith
    light (stmt.Block' shape body) = let h : 8 * length (formats_of_row s body) ≤ statements_weight body = row_light body in omega (arith, h)
    light (stmt.Decl declaration) = omega arith
    light (stmt.Expr e) = let h : 8 * length (formats_of_alone s e) ≤ expression_weight e = alone_light e in omega (arith, h)
    light (stmt.If' shape arms other) =
        let h : 8 * length (formats_of_arms s arms) ≤ arms_weight arms = arms_light arms in
        let g : 8 * length (formats_of_else s other) ≤ else_weight other = else_light other in
        let e : length (formats_of_arms s arms ++ formats_of_else s other) ≡ length (formats_of_arms s arms) + length (formats_of_else s other) = both (formats_of_arms s arms) (formats_of_else s other) in
        omega (arith, h, g, e)
    light (tree.While given body) = let h : 8 * length (formats_of s body) ≤ statement_weight body = light body in omega (arith, h)
    light (tree.Do body given) = let h : 8 * length (formats_of s body) ≤ statement_weight body = light body in omega (arith, h)
    light (tree.For init given step body) =
        let h : 8 * length (formats_of s body) ≤ statement_weight body = light body in
        let f : 8 * length (formats_of_part s init) ≤ part_weight init = part_light init in
        let g : 8 * length (formats_of_part s step) ≤ part_weight step = part_light step in
        let e : length (formats_of_part s init ++ (formats_of_part s step ++ formats_of s body)) ≡ length (formats_of_part s init) + length (formats_of_part s step ++ formats_of s body) = both (formats_of_part s init) _ in
        let d : length (formats_of_part s step ++ formats_of s body) ≡ length (formats_of_part s step) + length (formats_of s body) = both (formats_of_part s step) (formats_of s body) in
        omega (arith, h, f, g, e, d)
    light (stmt.Switch' on shape groups) = let h : 8 * length (formats_of_groups s groups) ≤ groups_weight groups = groups_light groups in omega (arith, h)
    light other = omega arith

    row_light : {m : Count} (row : Row_of-Stmt m) → 8 * length (formats_of_row s row) ≤ statements_weight row
    row_light end_of-Stmt = omega arith
    row_light (more_of-Stmt first rest) =
        let h : 8 * length (formats_of s first) ≤ statement_weight first = light first in
        let g : 8 * length (formats_of_row s rest) ≤ statements_weight rest = row_light rest in
        let e : length (formats_of s first ++ formats_of_row s rest) ≡ length (formats_of s first) + length (formats_of_row s rest) = both (formats_of s first) (formats_of_row s rest) in
        omega (arith, h, g, e)

    arms_light : {m : Count} (arms : Row_of-Arm m) → 8 * length (formats_of_arms s arms) ≤ arms_weight arms
    arms_light end_of-Arm = omega arith
    arms_light (more_of-Arm given body rest) =
        let h : 8 * length (formats_of s body) ≤ statement_weight body = light body in
        let g : 8 * length (formats_of_arms s rest) ≤ further_arms_weight rest = further_light rest in
        let e : length (formats_of s body ++ formats_of_arms s rest) ≡ length (formats_of s body) + length (formats_of_arms s rest) = both (formats_of s body) (formats_of_arms s rest) in
        omega (arith, h, g, e)

    further_light : {m : Count} (arms : Row_of-Arm m) → 8 * length (formats_of_arms s arms) ≤ further_arms_weight arms
    further_light end_of-Arm = omega arith
    further_light (more_of-Arm given body rest) =
        let h : 8 * length (formats_of s body) ≤ statement_weight body = light body in
        let g : 8 * length (formats_of_arms s rest) ≤ further_arms_weight rest = further_light rest in
        let e : length (formats_of s body ++ formats_of_arms s rest) ≡ length (formats_of s body) + length (formats_of_arms s rest) = both (formats_of s body) (formats_of_arms s rest) in
        omega (arith, h, g, e)

    else_light : (other : Held-Stmt-If-1) → 8 * length (formats_of_else s other) ≤ else_weight other
    else_light tree.NoElse = omega arith
    else_light (tree.Else body) = light body

    groups_light : {m : Count} (groups : Row_of-Group m) → 8 * length (formats_of_groups s groups) ≤ groups_weight groups
    groups_light end_of-Group = omega arith
    groups_light (more_of-Group labels shape body rest) =
        let h : 8 * length (formats_of_row s body) ≤ statements_weight body = row_light body in
        let g : 8 * length (formats_of_groups s rest) ≤ groups_weight rest = groups_light rest in
        let e : length (formats_of_row s body ++ formats_of_groups s rest) ≡ length (formats_of_row s body) + length (formats_of_groups s rest) = both (formats_of_row s body) (formats_of_groups s rest) in
        omega (arith, h, g, e)

  -- the formats of a body
  pub body_light : (body : List Stmt) → 8 * length (flat_map (formats_of s) body) ≤ sum_by statement_weight body
  body_light [] = omega arith
  body_light (first ∷ rest) =
      let h : 8 * length (formats_of s first) ≤ statement_weight first = light first in
      let g : 8 * length (flat_map (formats_of s) rest) ≤ sum_by statement_weight rest = body_light rest in
      let e : length (formats_of s first ++ flat_map (formats_of s) rest) ≡ length (formats_of s first) + length (flat_map (formats_of s) rest) = both (formats_of s first) (flat_map (formats_of s) rest) in
      let sum : sum_by statement_weight (first ∷ rest) ≡ statement_weight first + sum_by statement_weight rest = sum_by-cons statement_weight first rest in
      omega (arith, h, g, e, sum)
