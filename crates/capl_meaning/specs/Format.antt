-- The formats of `write` in a source (CAPL manual, write).
use Rattle.std.specs.Prelude.{ℕ, ◌==◌, Bool, false, ◌&&◌, List, [], length, Option, Some, None}
use Rattle.std.specs.List.{list_all, zip}
use Rattle.std.specs.Option.{option_map, option_map_or}
use Rattle.int_kinds.specs.declared.kinds.Kind.{Kind}
use Rattle.int_kinds.specs.declared.kinds.Kind.TheVariants.{Char}
use Rattle.write_format.specs.declared.argument.ArgKind.{ArgKind}
use Rattle.write_format.specs.declared.argument.ArgKind.TheVariants as argument
use Rattle.write_format.specs.declared.code.Code.{Code}
use Rattle.write_format.specs.Reading.{codes_of, is_fit, pieces_of}
use Rattle.capl_tree.specs.declared.expr.Expr.{Expr, Row_of-Expr, end_of-Expr, more_of-Expr}
use Rattle.capl_tree.specs.declared.expr.Expr.TheVariants as expr
use Rattle.capl_tree.specs.Forms as tree
use Rattle.capl_meaning.specs.declared.sort.Sort.{Sort}
use Rattle.capl_meaning.specs.declared.sort.Sort.TheVariants as sort

-- the codes of a text, in order
abbrev pub format_codes : List ℕ → Option (List Code)
format_codes text = option_map codes_of (pieces_of text)

-- the bytes of a text between quotes, under any parentheses
abbrev pub quoted_text : Expr → Option (List ℕ)
quoted_text (tree.Paren inner at) = quoted_text inner
quoted_text (expr.Str text at) = Some text
quoted_text _ = None

-- the bytes of the first of expressions, where it is a text
abbrev pub first_text : {m : _} → Row_of-Expr m → Option (List ℕ)
first_text end_of-Expr = None
first_text (more_of-Expr first rest) = quoted_text first

-- what an array is as an argument of `write`: a text where it is of characters
abbrev pub array_argument : Kind → Option ArgKind
array_argument Char = Some (argument.Chars 0 0)
array_argument _ = None

-- what an expression of a sort is as an argument of `write`
abbrev pub argument_of : Sort → Option ArgKind
argument_of (sort.Number k) = Some (argument.Number k)
argument_of (sort.Array k) = array_argument k
argument_of sort.Text = Some (argument.Str [])
argument_of _ = None

-- a code shows an expression of a sort
abbrev pub shows : Code → Sort → Bool
shows code given = option_map_or (is_fit code.conversion) (argument_of given) false

-- there are as many codes as sorts, and each shows its one
abbrev pub show_all : List Code → List Sort → Bool
show_all found sorts =
    length found == length sorts && list_all (λ pair. shows pair.0 pair.1) (zip found sorts)
