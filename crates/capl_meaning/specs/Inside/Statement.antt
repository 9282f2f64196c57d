-- Words for parts of what statements mean.
use Rattle.std.specs.Prelude.{List, Option, ℤ, pos}
use Rattle.std.specs.Option.{option_map_or}
use Rattle.int_kinds.specs.declared.kinds.Kind.{Kind}
use Rattle.int_kinds.specs.Kind.{wrap}
use Rattle.write_format.specs.declared.piece.Piece.{Piece}
use Rattle.control_flow.specs.World.{Gives, and_then}
use Rattle.control_flow.specs.Control.{Calls, Computes, Does, GoesOn, nothing}
use Rattle.capl_tree.specs.declared.expr.Expr.{Expr}
use Rattle.capl_meaning.specs.Expression.{Memory, Setting, value_of}
use Rattle.capl_meaning.specs.Statement.{numbers_of, with_line}

-- writes the line of a format, if there is one: the numbers are evaluated from left to right before
abbrev pub writes_line : Setting → Calls Memory → Option (List Piece) → List Expr → Does Memory
writes_line s call pieces arguments = option_map_or (λ pieces w.
    and_then (numbers_of s call arguments w) (λ ns w. Gives GoesOn (with_line s pieces arguments ns w)))
    pieces nothing

-- the test of a `for`; where there is none it goes on
abbrev pub for_test : Setting → Calls Memory → Option Expr → Computes Memory
for_test s call test = option_map_or (value_of s call) test (Gives (pos 1))

-- a number wrapped to the kind that is given, if one is
abbrev pub wrapped_to : Option Kind → ℤ → ℤ
wrapped_to gives n = option_map_or (λ k. wrap k n) gives n
