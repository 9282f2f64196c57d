-- The formats of `write`, as they are made.
use Rattle.std.specs.Prelude.{◌≡◌, ℕ, List, Option, Some, None, length, map}
use Rattle.std.specs.Option.{option_map}
use Rattle.write_format.specs.declared.argument.ArgKind.{ArgKind}
use Rattle.write_format.specs.declared.piece.Piece.{Piece}
use Rattle.write_format.specs.Line.{FormatText, format_elements}
use Rattle.write_format.specs.Reading.{codes_of, first_unfit, pieces_of}
use Rattle.capl_tree.specs.declared.expr.Expr.{Expr}
use Rattle.capl_meaning.specs.declared.sort.Sort.{Sort}
use Rattle.capl_meaning.specs.Names.{Scope}
use Rattle.capl_meaning.specs.Sort.{sort_of}
use Rattle.typed_source.specs.Statement.{argument_of, format_of, pieces_written, text_written}

-- a text has a code for each argument, which shows it
pub record FitFor (text : List ℕ) (arguments : List ArgKind) : Type 0 where
  pub pieces : List Piece
  pub read : pieces_of text ≡ Some pieces
  pub count : length (codes_of pieces) ≡ length arguments
  pub fit : first_unfit (codes_of pieces) arguments ≡ None

-- a format is that of the pieces of a text and arguments
pub record IsRead (text : List ℕ) (arguments : List ArgKind) (format : FormatText) : Type 0 where
  pub pieces : List Piece
  pub read : pieces_of text ≡ Some pieces
  pub same : format ≡ record {
    text = text;
    arguments = arguments;
    elements = format_elements pieces arguments;
  }

-- what was made of arguments for their format is such, and they are of these sorts
pub record AreMadeOf (s : Scope) (all : List Expr) (kinds : List ArgKind) (sorts : List Sort) : Type 0 where
  pub kinds_are : kinds ≡ map (argument_of s) all
  pub sorts_are : sorts ≡ map (sort_of s) all

-- the format of a `write`, if it reads and fits
abbrev pub format_written : Scope → Expr → List Expr → Option FormatText
format_written s format all =
    option_map (λ pieces. format_of s (text_written format) pieces all) (pieces_written s format all)
