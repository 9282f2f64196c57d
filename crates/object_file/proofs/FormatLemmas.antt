-- The format of a text and arguments, as it is found.
use Rattle.std.proofs.Common.{◌≡◌, ◌∙◌, ℕ, Bool, true, false, List, length, Option, Some, None, ap, refl, sym}
use Rattle.std.specs.Prelude.{◌==◌, ◌&&◌, if◌then◌else◌}
use Rattle.std.specs.Option.{is_none, option_and_then}
use Rattle.std.proofs.lemmas.Bool.{eq-eqb, eqb-true}
use Rattle.write_format.specs.declared.argument.ArgKind.{ArgKind}
use Rattle.write_format.specs.declared.piece.Piece.{Piece}
use Rattle.write_format.specs.Line.{FormatText, IsFormatOf, format_elements}
use Rattle.write_format.specs.Reading.{AreSpelled, HasCodesFor, IsFirstUnfit, codes_of, first_unfit, pieces_of}
use Rattle.object_file.specs.Inside.Tables.{format_by, format_of}

-- the pieces that spell a text are found, and those that are found spell it
abbrev Found : Type 0
Found = (text : List ℕ) (pieces : List Piece) → AreSpelled text pieces → pieces_of text ≡ Some pieces

abbrev Spelled : Type 0
Spelled = (text : List ℕ) (pieces : List Piece) → pieces_of text ≡ Some pieces → AreSpelled text pieces

-- what is made of pieces that fit or not
by_tests : (text : List ℕ) (arguments : List ArgKind) (pieces : List Piece) (a b : Bool)
    → (length (codes_of pieces) == length arguments) ≡ a → is_none (first_unfit (codes_of pieces) arguments) ≡ b
    → format_by text arguments pieces ≡ (if a && b then Some (record { text = text; arguments = arguments; elements = format_elements pieces arguments }) else None)
by_tests text arguments pieces a b one other =
    ap (λ x. if x && is_none (first_unfit (codes_of pieces) arguments) then Some (record { text = text; arguments = arguments; elements = format_elements pieces arguments }) else None) one
    ∙ ap (λ y. if a && y then Some (record { text = text; arguments = arguments; elements = format_elements pieces arguments }) else None) other

-- the count is not that of the arguments
by_count : (text : List ℕ) (arguments : List ArgKind) (pieces : List Piece) → (length (codes_of pieces) ≡ length arguments → ⊥)
    → (b : Bool) → (length (codes_of pieces) == length arguments) ≡ b → format_by text arguments pieces ≡ None
by_count text arguments pieces differs true same = absurd (differs (eqb-true (length (codes_of pieces)) (length arguments) same))
by_count text arguments pieces differs false other = by_tests text arguments pieces false _ other refl

-- an argument does not fit its code
by_unfit : (text : List ℕ) (arguments : List ArgKind) (pieces : List Piece) (n : ℕ) → first_unfit (codes_of pieces) arguments ≡ Some n
    → (b : Bool) → (length (codes_of pieces) == length arguments) ≡ b → format_by text arguments pieces ≡ None
by_unfit text arguments pieces n unfit true same = by_tests text arguments pieces true false same (ap is_none unfit)
by_unfit text arguments pieces n unfit false other = by_tests text arguments pieces false _ other refl

-- a text and arguments that make no format
module _ (found : Found) (spelled : Spelled) (text : List ℕ) (arguments : List ArgKind) (place : Option ℕ)
    (wrong : place ≡ None → ¬ (HasCodesFor text arguments)) (unfit : (n : ℕ) → place ≡ Some n → IsFirstUnfit text arguments n) where
  by_place : (pieces : List Piece) → pieces_of text ≡ Some pieces → (p : Option ℕ) → place ≡ p → format_by text arguments pieces ≡ None
  by_place pieces are None is =
      by_count text arguments pieces (λ same. wrong is (pieces, record { spelled = spelled text pieces are; count = same })) (length (codes_of pieces) == length arguments) refl
  by_place pieces are (Some n) is =
      let first = unfit n is in
      let same : Some pieces ≡ Some first.0 = sym are ∙ found text first.0 first.1.spelled in
      let one : pieces ≡ first.0 = cc in
      by_unfit text arguments pieces n (ap (λ ps. first_unfit (codes_of ps) arguments) one ∙ first.2) (length (codes_of pieces) == length arguments) refl

  by_pieces : (o : Option (List Piece)) → pieces_of text ≡ o → format_of text arguments ≡ None
  by_pieces None none = ap (option_and_then (format_by text arguments)) none
  by_pieces (Some pieces) are = ap (option_and_then (format_by text arguments)) are ∙ by_place pieces are place refl

  -- there is none
  pub no_format : format_of text arguments ≡ None
  no_format = by_pieces (pieces_of text) refl

-- a format is found
pub format_found : Found → (format : FormatText) → IsFormatOf format.text format.arguments format → format_of format.text format.arguments ≡ Some format
format_found found format is =
    ap (option_and_then (format_by format.text format.arguments)) (found format.text is.pieces (is.matched).spelled)
    ∙ by_tests format.text format.arguments is.pieces true true (eq-eqb (length (codes_of is.pieces)) (length format.arguments) (is.matched).count) (ap is_none is.fit)
    ∙ ap (λ elements. Some (record { text = format.text; arguments = format.arguments; elements = elements })) (sym is.elements)
