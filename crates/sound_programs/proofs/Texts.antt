-- The format of a `write` of small expressions is short.
use Rattle.std.proofs.Common.{◌≡◌, ℕ, zero, suc, ◌+◌, ◌≤◌, ◌<◌, ◌^◌, Bool, true, false, List, [], ◌∷◌, ◌++◌, length, map, Option, Some, None, refl, ap, ◌∙◌, subst, arith, length-append}
use Rattle.std.specs.Prelude.{◌==◌, if◌then◌else◌}
use Rattle.std.specs.List.{AllByRecursion, position_or_len}
use Rattle.std.specs.Option.{option_and_then, option_map, option_map_or}
use Rattle.std.proofs.lemmas.List.{length-take}
use Rattle.std.proofs.lemmas.List.Elements.{All-from_recursion}
use Rattle.write_format.specs.declared.argument.ArgKind.{ArgKind}
use Rattle.write_format.specs.declared.argument.ArgKind.TheVariants as argument
use Rattle.write_format.specs.declared.code.Conversion.{Conversion}
use Rattle.write_format.specs.declared.code.Conversion.TheVariants as conversion
use Rattle.write_format.specs.declared.code.Field.{Field}
use Rattle.write_format.specs.declared.piece.Piece.{Piece}
use Rattle.write_format.specs.declared.piece.Piece.TheVariants as piece
use Rattle.write_format.specs.Line.{IsShort, IsShortArgument, IsShortElement, element_of, format_elements, before_zero}
use Rattle.write_format.specs.Reading.{piece_at, codes_of, pieces_of, pieces_within}
use Rattle.capl_tree.specs.declared.expr.Expr.{Expr}
use Rattle.capl_tree.specs.declared.expr.Expr.TheVariants as expr
use Rattle.capl_tree.specs.Forms as tree
use Rattle.capl_meaning.specs.declared.sort.Sort.{Sort}
use Rattle.capl_meaning.specs.declared.sort.Sort.TheVariants as sort
use Rattle.capl_meaning.specs.Variable.{Variable}
use Rattle.capl_meaning.specs.Names.{Scope}
use Rattle.capl_meaning.specs.Format.{show_all, quoted_text}
use Rattle.capl_meaning.specs.Message.{array_in}
use Rattle.capl_meaning.specs.Sort.{sort_of}
use Rattle.capl_meaning.specs.Statement.{fitting_pieces}
use Rattle.typed_laws.proofs.Declared.{all_append}
use Rattle.typed_source.specs.Statement.{argument_by, argument_of, array_argument, format_of, text_argument, text_written}
use Rattle.sound_programs.specs.Small.{IsSmallExpr}
use Rattle.sound_programs.proofs.Written.{Fits}

-- ---- small texts

-- a text that an expression is has fewer than 2^32 bytes
small_text : (e : Expr) (text : List ℕ) → IsSmallExpr e → quoted_text e ≡ Some text → length text < 2 ^ 32
small_text (tree.Paren inner at) text few is = small_text inner text few is
small_text (expr.Str bytes at) text few is =
    let same : bytes ≡ text = let f : Some bytes ≡ Some text = is in cc in
    subst (λ l. length l < 2 ^ 32) same few.0
small_text e text few is = absurd (let f : None ≡ Some text = is in cc)

-- and so is an argument of `write`
small_argument : (s : Scope) (e : Expr) → IsSmallExpr e → IsShortArgument (argument_of s e)
small_argument s e few = by_sort (sort_of s e) (by_text (quoted_text e) refl)
  where
    by_array : (o : Option Variable) → IsShortArgument (option_map_or (array_argument s.names) o (argument.Str []))
    by_array None = omega arith
    by_array (Some v) = tt

    by_text : (o : Option (List ℕ)) → quoted_text e ≡ o → IsShortArgument (text_argument s.names o (array_in s e))
    by_text None is = by_array (array_in s e)
    by_text (Some text) is = small_text e text few is

    by_sort : (g : Sort) → IsShortArgument (text_argument s.names (quoted_text e) (array_in s e)) → IsShortArgument (argument_by g (text_argument s.names (quoted_text e) (array_in s e)))
    by_sort (sort.Number k) h = tt
    by_sort other h = h

-- ---- short parts

-- what stands before the first 0 is no longer
short_front : (text : List ℕ) → length text < 2 ^ 32 → length (before_zero text) < 2 ^ 32
short_front text short =
    let taken = length-take (position_or_len (λ byte. byte == 0) text) text in
    omega (arith, short, taken)

-- a code with a short argument is one short part, or none
one_part : (field : Field) (c : Conversion) (a : ArgKind) → IsShortArgument a → (length (element_of field c a) ≤ 1) × AllByRecursion IsShortElement (element_of field c a)
one_part field (conversion.Number k digits) (argument.Number given) short = (omega arith, (tt, tt))
one_part field (conversion.Number k digits) (argument.Chars base len) short = (omega arith, tt)
one_part field (conversion.Number k digits) (argument.Str text) short = (omega arith, tt)
one_part field conversion.Character (argument.Number given) short = (omega arith, (tt, tt))
one_part field conversion.Character (argument.Chars base len) short = (omega arith, tt)
one_part field conversion.Character (argument.Str text) short = (omega arith, tt)
one_part field conversion.Text (argument.Number given) short = (omega arith, tt)
one_part field conversion.Text (argument.Chars base len) short = (omega arith, (tt, tt))
one_part field conversion.Text (argument.Str text) short = (omega arith, (short_front text short, tt))

-- no more parts than pieces, and each is short
all_parts : (pieces : List Piece) (arguments : List ArgKind) → AllByRecursion IsShortArgument arguments →
    (length (format_elements pieces arguments) ≤ length pieces) × AllByRecursion IsShortElement (format_elements pieces arguments)
all_parts [] arguments short = (omega arith, tt)
all_parts (piece.Byte byte ∷ pieces) arguments short =
    let rest = all_parts pieces arguments short in
    let few : length (format_elements pieces arguments) ≤ length pieces = rest.0 in
    (omega (arith, few), (tt, rest.1))
all_parts (piece.Argument code ∷ pieces) [] short =
    let rest = all_parts pieces [] short in
    let few : length (format_elements pieces []) ≤ length pieces = rest.0 in
    (omega (arith, few), rest.1)
all_parts (piece.Argument code ∷ pieces) (a ∷ arguments) short =
    let rest = all_parts pieces arguments short.1 in
    let first = one_part code.field code.conversion a short.0 in
    let few : length (format_elements pieces arguments) ≤ length pieces = rest.0 in
    let one : length (element_of code.field code.conversion a) ≤ 1 = first.0 in
    let whole : length (element_of code.field code.conversion a ++ format_elements pieces arguments) ≡ length (element_of code.field code.conversion a) + length (format_elements pieces arguments) =
    length-append (element_of code.field code.conversion a) (format_elements pieces arguments) in
    (omega (arith, few, one, whole), all_append IsShortElement (element_of code.field code.conversion a) (format_elements pieces arguments) first.1 rest.1)

-- no more pieces than bytes
pieces_few : (n : ℕ) (text : List ℕ) (pieces : List Piece) → pieces_within n text ≡ Some pieces → length pieces ≤ n
pieces_few zero [] pieces is = let same : [] ≡ pieces = let f : Some [] ≡ Some pieces = is in cc in subst (λ l. length l ≤ 0) same (omega arith)
pieces_few zero (byte ∷ rest) pieces is = absurd (let f : None ≡ Some pieces = is in cc)
pieces_few (suc n) [] pieces is = let same : [] ≡ pieces = let f : Some [] ≡ Some pieces = is in cc in subst (λ l. length l ≤ suc n) same (omega arith)
pieces_few (suc n) (byte ∷ rest) pieces is = found (piece_at (byte ∷ rest)) is (λ text more e. pieces_few n text more e)
  where
    behind : (first : Piece) (o : Option (List Piece)) → ((more : List Piece) → o ≡ Some more → length more ≤ n) → option_map (λ more. first ∷ more) o ≡ Some pieces → length pieces ≤ suc n
    behind first None few e = absurd (let f : None ≡ Some pieces = e in cc)
    behind first (Some more) few e =
        let same : first ∷ more ≡ pieces = let f : Some (first ∷ more) ≡ Some pieces = e in cc in
        let least : length more ≤ n = few more refl in
        subst (λ l. length l ≤ suc n) same (omega (arith, least))

    found : (o : Option (Piece × List ℕ)) → option_and_then (λ (pair : Piece × List ℕ). option_map (λ more. pair.0 ∷ more) (pieces_within n pair.1)) o ≡ Some pieces →
        ((text : List ℕ) (more : List Piece) → pieces_within n text ≡ Some more → length more ≤ n) → length pieces ≤ suc n
    found None e few = absurd (let f : None ≡ Some pieces = e in cc)
    found (Some pair) e few = behind pair.0 (pieces_within n pair.1) (λ more. few pair.1 more) e

module _ (s : Scope) where
  -- the text of a `write` that fits
  read : (sorts : List Sort) (o : Option (List ℕ)) (pieces : List Piece) → fitting_pieces sorts o ≡ Some pieces → (text : List ℕ) × (o ≡ Some text) × (pieces_of text ≡ Some pieces)
  read sorts None pieces is = absurd (let f : None ≡ Some pieces = is in cc)
  read sorts (Some text) pieces is = go (pieces_of text) refl is
    where
      chosen : (found : List Piece) (b : Bool) → (if b then Some found else None) ≡ Some pieces → found ≡ pieces
      chosen found true e = let f : Some found ≡ Some pieces = e in cc
      chosen found false e = absurd (let f : None ≡ Some pieces = e in cc)

      go : (o : Option (List Piece)) → pieces_of text ≡ o → option_and_then (λ pieces. if show_all (codes_of pieces) sorts then Some pieces else None) o ≡ Some pieces →
          (found : List ℕ) × (Some text ≡ Some found) × (pieces_of found ≡ Some pieces)
      go None there e = absurd (let f : None ≡ Some pieces = e in cc)
      go (Some found) there e = (text, refl, there ∙ ap (λ l. Some l) (chosen found (show_all (codes_of found) sorts) e))

  small_arguments : (es : List Expr) → AllByRecursion IsSmallExpr es → AllByRecursion IsShortArgument (map (argument_of s) es)
  small_arguments [] few = tt
  small_arguments (e ∷ es) few = (small_argument s e few.0, small_arguments es few.1)

  -- the format of a `write` of small expressions
  pub written_short : (format : Expr) (arguments : List Expr) (fit : Fits s format arguments) → IsSmallExpr format → AllByRecursion IsSmallExpr arguments → IsShort (format_of s (text_written format) fit.pieces arguments)
  written_short format arguments fit few others =
      let text = read (map (sort_of s) arguments) (quoted_text format) fit.pieces fit.are in
      let parts = all_parts fit.pieces (map (argument_of s) arguments) (small_arguments arguments others) in
      let count : length (format_elements fit.pieces (map (argument_of s) arguments)) ≤ length fit.pieces = parts.0 in
      let bytes : length fit.pieces ≤ length text.0 = pieces_few (length text.0) text.0 fit.pieces text.2 in
      let short : length text.0 < 2 ^ 32 = small_text format text.0 few text.1 in
      record { few = omega (arith, count, bytes, short); texts = All-from_recursion IsShortElement (format_elements fit.pieces (map (argument_of s) arguments)) parts.1 }
