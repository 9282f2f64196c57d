-- An expression that stands alone has one format at most.
use Rattle.std.proofs.Common.{◌≡◌, ◌<◌, ◌≤◌, ◌^◌, ◌++◌, List, [], ◌∷◌, Option, Some, None, ap, length, length-append, arith}
use Rattle.capl_tree.specs.declared.expr.Expr.{Expr, items-the_row-Expr}
use Rattle.capl_tree.specs.declared.expr.Expr.TheVariants as expr
use Rattle.capl_tree.specs.Forms as tree
use Rattle.capl_meaning.specs.declared.builtin.Builtin.TheVariants as builtin
use Rattle.capl_meaning.specs.Names.{Callee, OfLanguage, OfProgram, Unknown, Scope, callee}
use Rattle.typed_source.specs.Statement.{formats_of_alone, formats_of_call, formats_written, pieces_written, text_written}

module _ (s : Scope) where
  -- a call has one at most
  call_one : (c : Callee) (arguments : List Expr) → length (formats_of_call s c arguments) ≤ 1
  call_one (OfLanguage builtin.Write) [] = omega arith
  call_one (OfLanguage builtin.Write) (format ∷ arguments) = by (pieces_written s format arguments)
    where
      by : (o : Option _) → length (formats_written s (text_written format) o arguments) ≤ 1
      by None = omega arith
      by (Some pieces) = omega arith
  call_one (OfLanguage builtin.Output) arguments = omega arith
  call_one (OfLanguage builtin.SetTimer) arguments = omega arith
  call_one (OfLanguage builtin.SetTimerCyclic) arguments = omega arith
  call_one (OfLanguage builtin.CancelTimer) arguments = omega arith
  call_one (OfLanguage builtin.Stop) arguments = omega arith
  call_one (OfLanguage builtin.IsTimerActive) arguments = omega arith
  call_one (OfLanguage builtin.TimeNow) arguments = omega arith
  call_one (OfLanguage builtin.ElCount) arguments = omega arith
  call_one (OfProgram f) arguments = omega arith
  call_one Unknown arguments = omega arith

  -- and so has each expression
  alone_one : (e : Expr) → length (formats_of_alone s e) ≤ 1
  alone_one (tree.Paren inner at) = let h : length (formats_of_alone s inner) ≤ 1 = alone_one inner in omega (arith, h)
  alone_one (expr.Call' name shape args at) = call_one (callee s.names name) (items-the_row-Expr _ args)
  alone_one (expr.Num value extended at) = omega arith
  alone_one (expr.Char value at) = omega arith
  alone_one (expr.Str text at) = omega arith
  alone_one (expr.This at) = omega arith
  alone_one (expr.Name name at) = omega arith
  alone_one (tree.Index base index at) = omega arith
  alone_one (tree.Member base field at) = omega arith
  alone_one (tree.Cast k inner at) = omega arith
  alone_one (tree.Unary operator inner at) = omega arith
  alone_one (tree.Post up inner at) = omega arith
  alone_one (tree.Binary operator left right at) = omega arith
  alone_one (tree.Cond given one other at) = omega arith
  alone_one (tree.Assign operator left right at) = omega arith

  -- so there is room for its format where there are none before it
  pub alone_room : (old : List _) (e : Expr) → old ≡ [] → length (old ++ formats_of_alone s e) < 2 ^ 32
  alone_room old e none =
      let h : length (formats_of_alone s e) ≤ 1 = alone_one e in
      omega (arith, h, ap length none, length-append old (formats_of_alone s e))
