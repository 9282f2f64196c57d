-- What the codes of a text show of its arguments.
use Rattle.std.specs.Prelude.{◌≡◌, ◌<◌, ◌^◌, ℕ, ⊤, Bool, true, false, List, [], ◌∷◌, None, cond, length, ◌==◌}
use Rattle.std.specs.List.{position_or_len}
use Rattle.std.specs.Option.{unwrap_or}
use Rattle.int_kinds.specs.declared.kinds.Kind.{Kind}
use Rattle.write_format.specs.Line.{FormatText, IsCharArray, before_zero, format_elements}
use Rattle.write_format.specs.Reading.{AreMatched, codes_of, first_unfit, is_fit, pieces_of}
use Rattle.write_format.specs.declared.argument.ArgKind.{ArgKind}
use Rattle.write_format.specs.declared.argument.ArgKind.TheVariants as argument
use Rattle.write_format.specs.declared.piece.Piece.{Piece}
use Rattle.write_format.specs.declared.piece.Piece.TheVariants as piece

-- each code of a text shows its argument
abbrev pub AreFit : List ℕ → List ArgKind → Type 0
AreFit text arguments =
    (pieces : List Piece) × AreMatched text arguments pieces
    × (first_unfit (codes_of pieces) arguments ≡ None)

-- the same of pieces, one after another
abbrev pub AreShown : List Piece → List ArgKind → Type 0
AreShown [] [] = ⊤
AreShown [] (argument ∷ arguments) = ⊥
AreShown (piece.Byte byte ∷ pieces) arguments = AreShown pieces arguments
AreShown (piece.Argument code ∷ pieces) [] = ⊥
AreShown (piece.Argument code ∷ pieces) (argument ∷ arguments) =
    (is_fit code.conversion argument ≡ true) × AreShown pieces arguments

-- the format that holds a text and arguments
abbrev pub format_held : List ℕ → List ArgKind → FormatText
format_held text arguments =
    record {
      text = text;
      arguments = arguments;
      elements = format_elements (unwrap_or (pieces_of text) []) arguments;
    }

-- how many bytes stand before the first `%`
abbrev pub plain_at : List ℕ → ℕ
plain_at bytes = position_or_len (λ other. other == 37) bytes

-- whether an argument is a number
abbrev pub is_number : ArgKind → Bool
is_number (argument.Number kind) = true
is_number _ = false

-- how many numbers an argument takes
abbrev pub numbers_of : ArgKind → ℕ
numbers_of argument = cond (is_number argument) 1 0

-- an argument is no array, or one of characters
abbrev pub IsArrayIn : List Kind → ArgKind → Type 0
IsArrayIn kinds (argument.Chars base len) = IsCharArray kinds (base, len)
IsArrayIn kinds _ = ⊤

-- an argument is no text, or one of which a short text is shown
abbrev pub IsShownShort : ArgKind → Type 0
IsShownShort (argument.Str text) = length (before_zero text) < 2 ^ 32
IsShownShort _ = ⊤
