-- Tokens behind a part of a text, and strings that are never closed.
use Rattle.std.proofs.Common.{◌≡◌, ℕ, zero, suc, ◌+◌, Bool, true, false, not, ◌||◌, List, [], ◌∷◌, take, drop, is_none, IsTrue, refl, subst, arith}
use Rattle.std.specs.List.{prefix_len, fold}
use Rattle.std.proofs.lemmas.Grind.{common_steps}
use Rattle.dbc_statements.specs.Token.{is_blank, closing, line_behind, tokens_behind}
use Rattle.dbc_statements.specs.Inside.Lexer.{begins_with_blank}

next : (n : ℕ) → 1 + n ≡ suc n
next n = omega arith

-- one more blank
behind_blank : (line byte : ℕ) (bytes : List ℕ) (b : Bool) → is_blank byte ≡ b
    → tokens_behind 0 (line_behind line byte) bytes ≡ tokens_behind (prefix_len is_blank bytes) (line_behind line byte) bytes
    → tokens_behind 0 line (byte ∷ bytes) ≡ tokens_behind (prefix_len is_blank (byte ∷ bytes)) line (byte ∷ bytes)
behind_blank line byte bytes true e rest = rw (e, next (prefix_len is_blank bytes)) rest
behind_blank line byte bytes false e rest = rw e (rw e refl)

-- blanks at the front may be passed
behind_blanks : (line : ℕ) (text : List ℕ) → tokens_behind 0 line text ≡ tokens_behind (prefix_len is_blank text) line text
behind_blanks line [] = refl
behind_blanks line (byte ∷ bytes) = behind_blank line byte bytes (is_blank byte) refl (behind_blanks (line_behind line byte) bytes)

-- blanks behind a part of a text may be passed
pub behind_part : (count line : ℕ) (text : List ℕ)
    → tokens_behind count line text ≡ tokens_behind (count + prefix_len is_blank (drop count text)) line text
behind_part count line [] = refl
behind_part zero line (byte ∷ bytes) =
    subst (λ n. tokens_behind 0 line (byte ∷ bytes) ≡ tokens_behind n line (byte ∷ bytes)) (omega arith) (behind_blanks line (byte ∷ bytes))
behind_part (suc count) line (byte ∷ bytes) =
    let same : suc (count + prefix_len is_blank (drop count bytes)) ≡ suc count + prefix_len is_blank (drop count bytes) = omega arith in
    subst (λ n. tokens_behind (suc count) line (byte ∷ bytes) ≡ tokens_behind n line (byte ∷ bytes)) same (behind_part count (line_behind line byte) bytes)

-- the tokens behind a part are those of the rest
pub behind_rest : (count line : ℕ) (text : List ℕ) → tokens_behind count line text ≡ tokens_behind 0 (fold line_behind line (take count text)) (drop count text)
behind_rest zero line [] = refl
behind_rest (suc count) line [] = refl
behind_rest zero line (byte ∷ bytes) = refl
behind_rest (suc count) line (byte ∷ bytes) = behind_rest count (line_behind line byte) bytes

no_blank : (byte : ℕ) (bytes : List ℕ) (b : Bool) → is_blank byte ≡ b → begins_with_blank (drop (prefix_len is_blank bytes) bytes) ≡ false
    → begins_with_blank (drop (prefix_len is_blank (byte ∷ bytes)) (byte ∷ bytes)) ≡ false
no_blank byte bytes true e rest = rw (e, next (prefix_len is_blank bytes)) rest
no_blank byte bytes false e rest = rw (e) e

-- behind the blanks there is none
behind_all_blanks : (text : List ℕ) → begins_with_blank (drop (prefix_len is_blank text) text) ≡ false
behind_all_blanks [] = refl
behind_all_blanks (byte ∷ bytes) = no_blank byte bytes (is_blank byte) refl (behind_all_blanks bytes)

-- behind a part and the blanks behind it there is none
pub at_token : (count : ℕ) (text : List ℕ) → begins_with_blank (drop (count + prefix_len is_blank (drop count text)) text) ≡ false
at_token zero [] = refl
at_token (suc count) [] = let same : suc (count + 0) ≡ suc count + 0 = omega arith in subst (λ n. begins_with_blank (drop n []) ≡ false) same refl
at_token zero (byte ∷ bytes) = subst (λ n. begins_with_blank (drop n (byte ∷ bytes)) ≡ false) (omega arith) (behind_all_blanks (byte ∷ bytes))
at_token (suc count) (byte ∷ bytes) =
    let same : suc (count + prefix_len is_blank (drop count bytes)) ≡ suc count + prefix_len is_blank (drop count bytes) = omega arith in
    subst (λ n. begins_with_blank (drop n (byte ∷ bytes)) ≡ false) same (at_token count bytes)

-- where nothing is closed behind a byte, nothing is behind `\`
pub open_behind : (before : ℕ) (text : List ℕ) → is_none (closing before text) ≡ true → is_none (closing 92 text) ≡ true
open_behind before [] none = refl
open_behind before (byte ∷ bytes) none = grind (arith, common_steps)

-- nor behind a part of it
pub open_rest : (count : ℕ) (text : List ℕ) → is_none (closing 92 text) ≡ true → is_none (closing 92 (drop count text)) ≡ true
open_rest zero [] none = refl
open_rest (suc count) [] none = refl
open_rest zero (byte ∷ bytes) none = none
open_rest (suc count) (byte ∷ bytes) none = open_rest count bytes (open_behind byte bytes (grind (arith, common_steps)))

-- what is known of a text is known of the rest
pub stays_open : (no_string : Bool) (count : ℕ) (text : List ℕ) → IsTrue (not no_string || is_none (closing 92 text))
    → IsTrue (not no_string || is_none (closing 92 (drop count text)))
stays_open false count text known = known
stays_open true count text known = open_rest count text known
