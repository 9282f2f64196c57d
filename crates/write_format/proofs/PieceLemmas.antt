-- The pieces of a whole text.
use Rattle.std.proofs.Common.{◌≡◌, ◌<◌, ◌≤◌, ◌∷◌, ◌∙◌, ℕ, zero, suc, List, [], length, Option, Some, None, ap, arith, refl, subst, sym}
use Rattle.std.specs.Option.{option_and_then, option_map}
use Rattle.std.proofs.lemmas.Option.{none-some, same_Some}
use Rattle.write_format.specs.Reading.{piece_at, AreSpelled, pieces_within}
use Rattle.write_format.specs.declared.piece.Piece.{Piece}
use Rattle.write_format.proofs.FrontLemmas.{piece_found, piece_shorter, piece_spelled}

-- pieces that are found in the rest of a text spell it
abbrev RestSpelled : ℕ → Type 0
RestSpelled n = (rest : List ℕ) (pieces : List Piece) → pieces_within n rest ≡ Some pieces → AreSpelled rest pieces

-- behind a piece that is found
behind_found : (n : ℕ) (text : List ℕ) (piece : Piece) (rest : List ℕ) (pieces : List Piece)
    → RestSpelled n → piece_at text ≡ Some (piece, rest) → (found : Option (List Piece)) → pieces_within n rest ≡ found
    → option_map (λ more. piece ∷ more) found ≡ Some pieces → AreSpelled text pieces
behind_found n text piece rest pieces again front None is same = absurd (none-some pieces same)
behind_found n text piece rest pieces again front (Some more) is same =
    let at = piece_spelled text piece rest front in
    subst (AreSpelled text) (same_Some (piece ∷ more) pieces same)
    (at.bytes, rest, at.text_is, at.spelled, again rest more is)

-- at a piece that is found or not
at_found : (n : ℕ) (text : List ℕ) (pieces : List Piece) → RestSpelled n → (found : Option (Piece × List ℕ))
    → piece_at text ≡ found
    → option_and_then (λ f. option_map (λ more. f.0 ∷ more) (pieces_within n f.1)) found ≡ Some pieces → AreSpelled text pieces
at_found n text pieces again None front same = absurd (none-some pieces same)
at_found n text pieces again (Some f) front same =
    behind_found n text f.0 f.1 pieces again front (pieces_within n f.1) refl same

-- pieces that are found in a text spell it
pub found_spelled : (n : ℕ) → RestSpelled n
found_spelled n [] pieces is = subst (AreSpelled []) (same_Some [] pieces is) refl
found_spelled zero (byte ∷ rest) pieces is = absurd (none-some pieces is)
found_spelled (suc n) (byte ∷ rest) pieces is =
    at_found n (byte ∷ rest) pieces (found_spelled n) (piece_at (byte ∷ rest)) refl is

-- pieces that spell a text are found in it
pub spelled_found : (n : ℕ) (text : List ℕ) (pieces : List Piece) → length text ≤ n → AreSpelled text pieces
    → pieces_within n text ≡ Some pieces
spelled_found n text [] fits is = subst (λ t. pieces_within n t ≡ Some []) (sym is) refl
spelled_found n [] (piece ∷ pieces) fits is =
    let front : piece_at [] ≡ Some (piece, is.1) = ap piece_at is.2 ∙ piece_found is.0 piece is.1 is.3 in
    absurd (none-some (piece, is.1) front)
spelled_found zero (byte ∷ rest) (piece ∷ pieces) fits is = absurd (omega (arith, fits))
spelled_found (suc n) (byte ∷ rest) (piece ∷ pieces) fits is =
    let front : piece_at (byte ∷ rest) ≡ Some (piece, is.1) = ap piece_at is.2 ∙ piece_found is.0 piece is.1 is.3 in
    let less : length is.1 < length (byte ∷ rest) = piece_shorter (byte ∷ rest) piece is.1 front in
    ap (option_and_then (λ f. option_map (λ more. f.0 ∷ more) (pieces_within n f.1))) front
    ∙ ap (option_map (λ more. piece ∷ more)) (spelled_found n is.1 pieces (omega (arith, less, fits)) is.4)
