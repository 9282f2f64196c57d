-- The bytes between two `%`.
use Rattle.std.proofs.Common.{◌≡◌, ◌+◌, ◌-◌, ℕ, suc, Bool, true, false, not, cond, List, [], ◌∷◌, ◌++◌, length, take, drop, refl, sym, ap, subst, ◌∙◌, append-nil, arith, Option, Some}
use Rattle.std.specs.Prelude.{◌==◌, map}
use Rattle.std.proofs.Math.Seq.{take-length}
use Rattle.std.proofs.lemmas.List.{length-drop}
use Rattle.write_format.specs.Reading.{piece_at, codes_of, first_unfit}
use Rattle.write_format.specs.Inside.Shown.{plain_at}
use Rattle.write_format.specs.declared.argument.ArgKind.{ArgKind}
use Rattle.write_format.specs.declared.piece.Piece.{Piece}
use Rattle.write_format.specs.declared.piece.Piece.TheVariants.{Byte}
use Rattle.write_format.proofs.ReadingLemmas.{IsSurvey, Leads, codes_of-append, survey_byte}

-- ---- bytes up to the next `%`
-- what is led on
pub leads_on : (pieces more : List Piece) (text rest behind : List ℕ) → Leads text pieces rest → Leads rest more behind → Leads text (pieces ++ more) behind
leads_on [] more text rest behind is next = subst (λ l. Leads l more behind) (sym is) next
leads_on (piece ∷ pieces) more text rest behind is next = (is.0, is.1, leads_on pieces more is.0 rest behind is.2 next)

-- each of them is a piece
pub leads_plain : (bytes : List ℕ) → Leads bytes (map Byte (take (plain_at bytes) bytes)) (drop (plain_at bytes) bytes)
leads_plain [] = refl
leads_plain (byte ∷ bytes) = by_test (byte == 37) refl (leads_plain bytes)
  where
    by_test : (t : Bool) → (byte == 37) ≡ t → Leads bytes (map Byte (take (plain_at bytes) bytes)) (drop (plain_at bytes) bytes)
        → Leads (byte ∷ bytes) (map Byte (take (cond (not t) (1 + plain_at bytes) 0) (byte ∷ bytes))) (drop (cond (not t) (1 + plain_at bytes) 0) (byte ∷ bytes))
    by_test true is more = refl
    by_test false is more =
        let found : piece_at (byte ∷ bytes) ≡ Some (Byte byte, bytes) = rw is refl in
        let on : 1 + plain_at bytes ≡ suc (plain_at bytes) = omega arith in
        subst (λ n. Leads (byte ∷ bytes) (map Byte (take n (byte ∷ bytes))) (drop n (byte ∷ bytes))) (sym on) (bytes, found, more)

-- none of them is a code
pub plain_no_codes : (bytes : List ℕ) → codes_of (map Byte bytes) ≡ []
plain_no_codes [] = refl
plain_no_codes (byte ∷ bytes) = plain_no_codes bytes

-- a survey goes on behind them
survey_plain : (text : List ℕ) (arguments : List ArgKind) (rest : List ℕ) (codes : ℕ) (unfit : Option ℕ)
    → IsSurvey text arguments rest codes unfit → IsSurvey text arguments (drop (plain_at rest) rest) codes unfit
survey_plain text arguments rest codes unfit s =
    let bytes = take (plain_at rest) rest in
    let same : codes_of (s.pieces ++ map Byte bytes) ≡ codes_of s.pieces =
    codes_of-append s.pieces (map Byte bytes) ∙ ap (λ l. codes_of s.pieces ++ l) (plain_no_codes bytes) ∙ append-nil (codes_of s.pieces) in
    let few = s.few in
    let shorter = length-drop (plain_at rest) rest in
    record {
      pieces = s.pieces ++ map Byte bytes;
      leads = leads_on s.pieces (map Byte bytes) text rest (drop (plain_at rest) rest) s.leads (leads_plain rest);
      count = s.count ∙ ap length (sym same);
      first = s.first ∙ ap (λ l. first_unfit l arguments) (sym same);
      few = omega (arith, few, shorter);
    }

-- and behind the byte before them
pub survey_bytes : (text : List ℕ) (arguments : List ArgKind) (rest : List ℕ) (codes : ℕ) (unfit : Option ℕ) (byte : ℕ) (behind : List ℕ) (more : ℕ)
    → IsSurvey text arguments rest codes unfit → piece_at rest ≡ Some (Byte byte, behind) → more ≡ plain_at behind
    → IsSurvey text arguments (drop more behind) codes unfit
survey_bytes text arguments rest codes unfit byte behind more s found is =
    subst (λ n. IsSurvey text arguments (drop n behind) codes unfit) (sym is)
    (survey_plain text arguments behind codes unfit (survey_byte text arguments rest codes unfit byte behind s found))

-- all that stands behind a place
pub rest_whole : {A : Type 0} (n : ℕ) (list : List A) → take (length list - n) (drop n list) ≡ drop n list
rest_whole n list = ap (λ m. take m (drop n list)) (sym (length-drop n list)) ∙ take-length (drop n list)
