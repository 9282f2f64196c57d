-- The codes of a text, one by one.
use Rattle.std.proofs.Common.{◌≡◌, ◌<◌, ◌≤◌, ◌+◌, ◌∙◌, ℕ, zero, suc, Bool, true, false, List, [], ◌∷◌, ◌++◌, length, Option, Some, None, refl, ap, sym, arith, append_assoc}
use Rattle.std.specs.Prelude.{◌&&◌, ◌==◌}
use Rattle.std.specs.List.{list_all, zip}
use Rattle.std.specs.Option.{option_and_then, option_map, option_map_or}
use Rattle.std.proofs.lemmas.Bool.Decides.{nat_tests}
use Rattle.write_format.specs.declared.code.Code.{Code}
use Rattle.write_format.specs.declared.piece.Piece.{Piece}
use Rattle.write_format.specs.declared.piece.Piece.TheVariants.{Argument, Byte}
use Rattle.write_format.specs.Reading.{piece_at, codes_of, pieces_of, pieces_within}
use Rattle.write_format.proofs.FrontLemmas.{piece_shorter}
use Rattle.capl_meaning.specs.declared.sort.Sort.{Sort}
use Rattle.capl_meaning.specs.Format.{format_codes, show_all, shows}
use Rattle.check_sorts.specs.Format.{shown}

-- what a reading makes of the piece in front, with the reading of what stands behind
abbrev made : (List ℕ → Option (List Piece)) → Option (Piece × List ℕ) → Option (List Piece)
made read front = option_and_then (λ found. option_map (λ pieces. found.0 ∷ pieces) (read found.1)) front

-- two readings that do the same behind the piece in front
made-same : (text : List ℕ) (one other : List ℕ → Option (List Piece)) (front : Option (Piece × List ℕ))
    → piece_at text ≡ front → ((behind : List ℕ) → length behind < length text → one behind ≡ other behind)
    → made one front ≡ made other front
made-same text one other None is same = refl
made-same text one other (Some found) is same =
    ap (option_map (λ pieces. found.0 ∷ pieces)) (same found.1 (piece_shorter text found.0 found.1 is))

-- more steps than bytes read the same
same : (n m : ℕ) (text : List ℕ) → length text ≤ n → length text ≤ m → pieces_within n text ≡ pieces_within m text
same n m [] enough too = refl
same zero m (byte ∷ rest) enough too = absurd (omega arith)
same (suc n) zero (byte ∷ rest) enough too = absurd (omega arith)
same (suc n) (suc m) (byte ∷ rest) enough too =
    made-same (byte ∷ rest) (pieces_within n) (pieces_within m) (piece_at (byte ∷ rest)) refl
    (λ behind less. same n m behind (omega arith) (omega arith))

-- the pieces of a text, by the one in front
step : (text : List ℕ) (piece : Piece) (behind : List ℕ) → piece_at text ≡ Some (piece, behind)
    → pieces_of text ≡ option_map (λ pieces. piece ∷ pieces) (pieces_of behind)
step [] piece behind is = let less = piece_shorter [] piece behind is in absurd (omega arith)
step (byte ∷ rest) piece behind is =
    let less = piece_shorter (byte ∷ rest) piece behind is in
    ap (made (pieces_within (length rest))) is
    ∙ ap (option_map (λ pieces. piece ∷ pieces)) (same (length rest) (length behind) behind (omega arith) (omega arith))

-- a byte in front is no code
pub byte_step : (text : List ℕ) (byte : ℕ) (behind : List ℕ) → piece_at text ≡ Some (Byte byte, behind)
    → format_codes text ≡ format_codes behind
byte_step text byte behind is = ap (option_map codes_of) (step text (Byte byte) behind is) ∙ by (pieces_of behind)
  where
    by : (o : Option (List Piece)) → option_map codes_of (option_map (λ pieces. Byte byte ∷ pieces) o) ≡ option_map codes_of o
    by None = refl
    by (Some pieces) = refl

-- a code in front
pub code_step : (text : List ℕ) (code : Code) (behind : List ℕ) → piece_at text ≡ Some (Argument code, behind)
    → format_codes text ≡ option_map (λ codes. code ∷ codes) (format_codes behind)
code_step text code behind is = ap (option_map codes_of) (step text (Argument code) behind is) ∙ by (pieces_of behind)
  where
    by : (o : Option (List Piece)) → option_map codes_of (option_map (λ pieces. Argument code ∷ pieces) o)
        ≡ option_map (λ codes. code ∷ codes) (option_map codes_of o)
    by None = refl
    by (Some pieces) = refl

-- no piece in front of some bytes
pub no_step : (text : List ℕ) → piece_at text ≡ None → 0 < length text → format_codes text ≡ None
no_step [] is some = absurd (omega arith)
no_step (byte ∷ rest) is some = ap (λ (o : Option (Piece × List ℕ)). option_map codes_of (made (pieces_within (length rest)) o)) is

-- codes before others
pub put_before : (codes : List Code) (code : Code) (o : Option (List Code))
    → option_map (λ rest. codes ++ rest) (option_map (λ rest. code ∷ rest) o) ≡ option_map (λ rest. (codes ++ code ∷ []) ++ rest) o
put_before codes code None = refl
put_before codes code (Some rest) = ap (λ (cs : List Code). Some cs) (sym (append_assoc codes (code ∷ []) rest))

-- numbers one greater are equal where they are
suc_eq : (n m : ℕ) → (suc n == suc m) ≡ (n == m)
suc_eq n m = by (suc n == suc m) (n == m) refl refl
  where
    by : (a b : Bool) → (suc n == suc m) ≡ a → (n == m) ≡ b → a ≡ b
    by true true is other = refl
    by false false is other = refl
    by true false is other = grind (arith, nat_tests, is, other)
    by false true is other = grind (arith, nat_tests, is, other)

-- one more is not none
suc_zero : (n : ℕ) → (suc n == 0) ≡ false
suc_zero n = grind (arith, nat_tests)

-- one more code and one more sort
pub shown_step : (code : Code) (o : Option (List Code)) (given : Sort) (sorts : List Sort)
    → shown (option_map (λ codes. code ∷ codes) o) (given ∷ sorts) ≡ (shows code given && shown o sorts)
shown_step code None given sorts = by (shows code given)
  where
    by : (b : Bool) → false ≡ (b && false)
    by true = refl
    by false = refl
shown_step code (Some codes) given sorts =
    ap (λ (e : Bool). e && (shows code given && list_all (λ pair. shows pair.0 pair.1) (zip codes sorts)))
    (suc_eq (length codes) (length sorts))
    ∙ by (shows code given) (length codes == length sorts)
  where
    by : (b e : Bool) → (e && (b && list_all (λ pair. shows pair.0 pair.1) (zip codes sorts)))
        ≡ (b && (e && list_all (λ pair. shows pair.0 pair.1) (zip codes sorts)))
    by true e = refl
    by false true = refl
    by false false = refl

-- a code for which there is no sort
pub none_shown : (code : Code) (o : Option (List Code)) → shown (option_map (λ codes. code ∷ codes) o) [] ≡ false
none_shown code None = refl
none_shown code (Some codes) = ap (λ (e : Bool). e && list_all (λ pair. shows pair.0 pair.1) (zip (code ∷ codes) [])) (suc_zero (length codes))

-- sorts without codes
pub shown_end : (sorts : List Sort) → shown (Some []) sorts ≡ (length sorts == 0)
shown_end [] = refl
shown_end (given ∷ sorts) = by (0 == suc (length sorts)) refl (suc_zero (length sorts))
  where
    by : (b : Bool) → (0 == suc (length sorts)) ≡ b → (suc (length sorts) == 0) ≡ false → (b && true) ≡ (suc (length sorts) == 0)
    by true is none = grind (arith, nat_tests, is)
    by false is none = sym none
