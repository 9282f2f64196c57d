-- A `write` that breaks no rule has a format, whose line takes as many numbers as there are among its arguments.
use mathlib.Core.Former.{Count}
use Rattle.std.proofs.Common.{◌≡◌, ℕ, ◌+◌, Bool, true, false, ◌&&◌, cond, List, [], ◌∷◌, ◌++◌, length, map, Option, Some, None, refl, sym, ap, ◌∙◌, arith}
use Rattle.std.specs.Prelude.{◌==◌, count_by, filter, if◌then◌else◌}
use Rattle.std.specs.List.{AllByRecursion, list_all, zip}
use Rattle.std.specs.Option.{option_and_then, option_map, option_map_or}
use Rattle.std.proofs.lemmas.Bool.{eqb-true}
use Rattle.std.proofs.lemmas.List.Sums.{sum_by-append}
use Rattle.int_kinds.specs.declared.kinds.Kind.{Kind}
use Rattle.int_kinds.specs.declared.kinds.Kind.TheVariants as kind
use Rattle.write_format.specs.declared.argument.ArgKind.{ArgKind}
use Rattle.write_format.specs.declared.argument.ArgKind.TheVariants as argument
use Rattle.write_format.specs.declared.code.Code.{Code}
use Rattle.write_format.specs.declared.code.Conversion.{Conversion}
use Rattle.write_format.specs.declared.code.Conversion.TheVariants as conversion
use Rattle.write_format.specs.declared.code.Field.{Field}
use Rattle.write_format.specs.declared.piece.Piece.{Piece}
use Rattle.write_format.specs.declared.piece.Piece.TheVariants as piece
use Rattle.write_format.specs.Line.{Element, element_of, format_elements, takes_number}
use Rattle.write_format.specs.Reading.{codes_of, is_fit, pieces_of}
use Rattle.capl_tree.specs.declared.expr.Expr.{Expr, Row_of-Expr, end_of-Expr, more_of-Expr, items-the_row-Expr}
use Rattle.capl_tree.specs.Place.{expression_place}
use Rattle.capl_meaning.specs.declared.sort.Sort.{Sort}
use Rattle.capl_meaning.specs.declared.sort.Sort.TheVariants as sort
use Rattle.capl_meaning.specs.Names.{Scope}
use Rattle.capl_meaning.specs.Format.{array_argument, argument_of as sort_argument, format_codes, show_all, shows, quoted_text}
use Rattle.capl_meaning.specs.Sort.{is_number, sort_of, sorts_of}
use Rattle.capl_meaning.specs.Statement.{fitting_pieces}
use Rattle.capl_meaning.specs.ExpressionRules.{format_rules}
use Rattle.typed_source.specs.Statement.{argument_by, argument_of, pieces_written}
use Rattle.sound_programs.proofs.Empty.{unbroken}
use Rattle.sound_programs.proofs.Sorts.{IsFine, fine_good}
use Rattle.sound_programs.proofs.Fine.{shown_codes}

-- ---- codes and what they show

-- what is shown as a text takes no number
text_takes_none : (field : Field) (a : ArgKind) → count_by takes_number (element_of field conversion.Text a) ≡ 0
text_takes_none field (argument.Number k) = refl
text_takes_none field (argument.Chars base len) = refl
text_takes_none field (argument.Str text) = refl

-- what shows a text shows it as a text
shown_text : (field : Field) (c : Conversion) (text : List ℕ) (a : ArgKind) → is_fit c (argument.Str text) ≡ true → count_by takes_number (element_of field c a) ≡ 0
shown_text field (conversion.Number k digits) text a is = absurd (let f : false ≡ true = is in cc)
shown_text field conversion.Character text a is = absurd (let f : false ≡ true = is in cc)
shown_text field conversion.Text text a is = text_takes_none field a

-- what shows an array is one of characters, shown as a text
pub shown_array : (c : Conversion) (k : Kind) → option_map_or (is_fit c) (array_argument k) false ≡ true → (k ≡ kind.Char) × (c ≡ conversion.Text)
shown_array conversion.Text kind.Char is = (refl, refl)
shown_array (conversion.Number j digits) kind.Char is = absurd (let f : false ≡ true = is in cc)
shown_array conversion.Character kind.Char is = absurd (let f : false ≡ true = is in cc)
shown_array c kind.Byte is = absurd (let f : false ≡ true = is in cc)
shown_array c kind.Word is = absurd (let f : false ≡ true = is in cc)
shown_array c kind.Dword is = absurd (let f : false ≡ true = is in cc)
shown_array c kind.Qword is = absurd (let f : false ≡ true = is in cc)
shown_array c kind.Int is = absurd (let f : false ≡ true = is in cc)
shown_array c kind.Long is = absurd (let f : false ≡ true = is in cc)
shown_array c kind.Int64 is = absurd (let f : false ≡ true = is in cc)

-- what shows a number takes it
shown_number : (field : Field) (c : Conversion) (k : Kind) → is_fit c (argument.Number k) ≡ true → count_by takes_number (element_of field c (argument.Number k)) ≡ 1
shown_number field (conversion.Number j digits) k is = refl
shown_number field conversion.Character k is = refl
shown_number field conversion.Text k is = absurd (let f : false ≡ true = is in cc)

-- a code takes a number exactly where it shows one
counted : (field : Field) (c : Conversion) (g : Sort) (text : ArgKind) → option_map_or (is_fit c) (sort_argument g) false ≡ true →
    count_by takes_number (element_of field c (argument_by g text)) ≡ cond (is_number g) 1 0
counted field c (sort.Number k) text is = shown_number field c k is
counted field c (sort.Array k) text is = ap (λ c. count_by takes_number (element_of field c text)) (shown_array c k is).1 ∙ text_takes_none field text
counted field c sort.Text text is = shown_text field c [] text is
counted field c other text is = absurd (let f : false ≡ true = is in cc)

-- two tests that hold together hold
pub and_both : (a b : Bool) → a && b ≡ true → (a ≡ true) × (b ≡ true)
and_both true b h = (refl, h)
and_both false b h = absurd (let f : false ≡ true = h in cc)

module _ (s : Scope) where
  -- one more of those that are numbers, or none
  one_more : (e : Expr) (es : List Expr) → length (filter (λ e. is_number (sort_of s e)) (e ∷ es)) ≡ cond (is_number (sort_of s e)) 1 0 + length (filter (λ e. is_number (sort_of s e)) es)
  one_more e es = go (is_number (sort_of s e))
    where
      go : (b : Bool) → length (cond b (e ∷ filter (λ e. is_number (sort_of s e)) es) (filter (λ e. is_number (sort_of s e)) es)) ≡ cond b 1 0 + length (filter (λ e. is_number (sort_of s e)) es)
      go true = omega arith
      go false = omega arith

  -- a line takes as many numbers as there are among the arguments
  pub numbers_counted : (pieces : List Piece) (es : List Expr) → length (codes_of pieces) ≡ length es →
      list_all (λ (pair : Code × Sort). shows pair.0 pair.1) (zip (codes_of pieces) (map (sort_of s) es)) ≡ true →
      count_by takes_number (format_elements pieces (map (argument_of s) es)) ≡ length (filter (λ e. is_number (sort_of s e)) es)
  numbers_counted [] [] long all = refl
  numbers_counted [] (e ∷ es) long all = absurd (omega (arith, long))
  numbers_counted (piece.Byte byte ∷ pieces) es long all =
      let rest : count_by takes_number (format_elements pieces (map (argument_of s) es)) ≡ length (filter (λ e. is_number (sort_of s e)) es) = numbers_counted pieces es long all in
      omega (arith, rest)
  numbers_counted (piece.Argument code ∷ pieces) [] long all = absurd (omega (arith, long))
  numbers_counted (piece.Argument code ∷ pieces) (e ∷ es) long all =
      let both = and_both (shows code (sort_of s e)) _ all in
      let rest : count_by takes_number (format_elements pieces (map (argument_of s) es)) ≡ length (filter (λ e. is_number (sort_of s e)) es) = numbers_counted pieces es (omega (arith, long)) both.1 in
      let first : count_by takes_number (element_of code.field code.conversion (argument_of s e)) ≡ cond (is_number (sort_of s e)) 1 0 = counted code.field code.conversion (sort_of s e) _ both.0 in
      let split : count_by takes_number (element_of code.field code.conversion (argument_of s e) ++ format_elements pieces (map (argument_of s) es)) ≡
      count_by takes_number (element_of code.field code.conversion (argument_of s e)) + count_by takes_number (format_elements pieces (map (argument_of s) es)) = sum_by-append _ (element_of code.field code.conversion (argument_of s e)) _ in
      let more : length (filter (λ e. is_number (sort_of s e)) (e ∷ es)) ≡ cond (is_number (sort_of s e)) 1 0 + length (filter (λ e. is_number (sort_of s e)) es) = one_more e es in
      omega (arith, rest, first, split, more)

  -- the sorts of a row are those of its list
  pub row_sorts : {m : Count} (row : Row_of-Expr m) → sorts_of s row ≡ map (sort_of s) (items-the_row-Expr m row)
  row_sorts end_of-Expr = refl
  row_sorts (more_of-Expr first rest) = ap (λ l. sort_of s first ∷ l) (row_sorts rest)

-- a `write` has a format, each code of which shows its argument
pub record Fits (s : Scope) (format : Expr) (arguments : List Expr) : Type 0 where
  pub pieces : List Piece
  pub are : pieces_written s format arguments ≡ Some pieces
  pub as_many : length (codes_of pieces) ≡ length (map (sort_of s) arguments)
  pub shown : list_all (λ (pair : Code × Sort). shows pair.0 pair.1) (zip (codes_of pieces) (map (sort_of s) arguments)) ≡ true

-- a `write` that breaks no rule
pub fits : (s : Scope) (format : Expr) {m : Count} (row : Row_of-Expr m) → IsFine (sort_of s format) → AllByRecursion IsFine (sorts_of s row) →
    format_rules s format (quoted_text format) (items-the_row-Expr m row) ≡ [] → Fits s format (items-the_row-Expr m row)
fits s format {m} row fine others none = go (quoted_text format) refl none
  where
    read : (text : List ℕ) → quoted_text format ≡ Some text → (o : Option (List Piece)) → pieces_of text ≡ o →
        option_map_or (λ found. show_all found (sorts_of s row)) (option_map codes_of o) false ≡ true → Fits s format (items-the_row-Expr m row)
    read text is None there all = absurd (let f : false ≡ true = all in cc)
    read text is (Some pieces) there all =
        let shown : show_all (codes_of pieces) (map (sort_of s) (items-the_row-Expr m row)) ≡ true = ap (show_all (codes_of pieces)) (sym (row_sorts s row)) ∙ all in
        let parts = and_both (length (codes_of pieces) == length (map (sort_of s) (items-the_row-Expr m row))) _ shown in
        record {
          pieces = pieces;
          are = ap (fitting_pieces (map (sort_of s) (items-the_row-Expr m row))) is
              ∙ ap (λ o. option_and_then (λ pieces. if show_all (codes_of pieces) (map (sort_of s) (items-the_row-Expr m row)) then Some pieces else None) o) there
              ∙ ap (λ b. if b then Some pieces else None) shown;
          as_many = eqb-true _ _ parts.0;
          shown = parts.1;
        }

    go : (o : Option (List ℕ)) → quoted_text format ≡ o → format_rules s format o (items-the_row-Expr m row) ≡ [] → Fits s format (items-the_row-Expr m row)
    go None is none = absurd (fine_good (sort_of s format) fine (unbroken _ s (expression_place format) 17 none))
    go (Some text) is none = read text is (pieces_of text) refl (shown_codes s (expression_place format) (format_codes text) row others none)
