-- What begins with `#` at the front of a text.
use Rattle.std.proofs.Common.{◌≡◌, ◌<◌, ◌≤◌, ◌+◌, ℕ, zero, suc, List, [], ◌∷◌, ◌++◌, length, get_or, take, drop, All, inl, inr, refl, sym, ap, subst, ◌∙◌, arith, length-append}
use Rattle.std.specs.Prelude.{◌⊎◌, codes}
use Rattle.std.proofs.lemmas.List.{append_assoc, take_at, drop_at, drop_more, take-append-drop, append_cancel_left, length-take-le}
use Rattle.std.proofs.lemmas.List.Elements.{All-head}
use Rattle.capl_lexer.specs.Spelling.{IsLetter, IsBlankInLine, IsNameByte, IsInclude, IsDirective, Spells}
use Rattle.capl_lexer.specs.Inside.ByteClass.{IsFirstInClass, IsRun}
use Rattle.capl_lexer.specs.Inside.Directive.{HasNoInclude}
use Rattle.capl_lexer.specs.Inside.Front.{IsTokenFront, HasNoToken}
use Rattle.capl_lexer.specs.declared.byte_class.ByteClass.TheVariants as class
use Rattle.capl_lexer.specs.declared.token.Tok.{Tok}
use Rattle.capl_lexer.specs.declared.token.Tok.TheVariants as tok
use Rattle.capl_lexer.proofs.ByteClassLemmas.{run-le, run-exact}
use Rattle.capl_lexer.proofs.FrontLemmas.{front-class, run-positive, first_after}
use Rattle.capl_lexer.proofs.SplitLemmas.{take_append_more}
use Rattle.capl_lexer.proofs.DirectiveLemmas.{quote-blank, quote-name, included, included-unique, include-append, included_spells, directive-included}

-- at the front of a text that begins with `#` each token names a file or is a directive
hash_only : (text behind bytes after : List ℕ) (token : Tok) → text ≡ 35 ∷ behind
    → text ≡ bytes ++ after → Spells bytes token
    → ((name : List ℕ) × IsInclude bytes name) ⊎ IsDirective bytes
hash_only text behind bytes after (tok.Include name) first split spells = inl (name, spells)
hash_only text behind bytes after tok.Directive first split spells = inr spells
hash_only text behind bytes after token first split spells =
    let same = front-class text 35 behind bytes after token first split spells in absurd (omega (arith, same))

-- the letters of a directive at the front are in the run
directive_letters : (text behind bytes after : List ℕ) (count : ℕ) → text ≡ 35 ∷ behind → IsRun class.Letter behind count
    → text ≡ bytes ++ after → IsDirective bytes → (0 < length bytes) × (length bytes ≤ 1 + count)
directive_letters text behind bytes after count first run split (letters, some, all, is) =
    let whole : 35 ∷ behind ≡ 35 ∷ letters ++ after = sym first ∙ split ∙ ap (λ b. b ++ after) is in
    let le = run-le class.Letter behind count letters after run (cc) all in
    (omega (arith, ap length is), omega (arith, ap length is))

-- `#` and letters are the token at the front, where no name of a file stands there
pub directive_front : (text behind : List ℕ) (count : ℕ) → text ≡ 35 ∷ behind → IsRun class.Letter behind count
    → 0 < count → HasNoInclude text → IsTokenFront text (record { tok = tok.Directive; length = 1 + count })
directive_front text behind count first run some none =
    let sizes : 1 + count ≡ suc count = omega arith in
    let letters = take count behind in
    let long : length letters ≡ count = length-take-le count behind run.within in
    record {
      within = omega (arith, ap length first, run.within);
      spells = (
        letters,
        (λ is. absurd (omega (arith, ap length is, long, some))),
        run.inside,
        ap (λ n. take n text) sizes ∙ ap (take (suc count)) first,
      );
      longest = λ bytes after token split spells.
          elim (hash_only text behind bytes after token first split spells) [
            | inl named ↦ absurd (none bytes after named.0 split named.1)
            | inr directive ↦ (directive_letters text behind bytes after count first run split directive).1
          ];
    }

-- no token stands at the front where no letter follows `#`
pub hash_none : (text behind : List ℕ) → text ≡ 35 ∷ behind → IsRun class.Letter behind 0 → HasNoToken text
hash_none text behind first run bytes after token split spells =
    elim (hash_only text behind bytes after token first split spells) [
      | inl named ↦
          let (name, (blanks, all, is_name, is)) = named in
          let whole : 35 ∷ behind ≡ included blanks name after = sym first ∙ split ∙ include-append blanks name bytes after is in
          let inside : behind ≡ codes "include" ++ (blanks ++ 34 ∷ (name ++ 34 ∷ after)) = cc in
          absurd (run.ends (subst (IsFirstInClass class.Letter) (sym inside) (inr (omega arith, omega arith))))
      | inr directive ↦
          let (letters, some, all, is) = directive in
          no_letter behind letters after some all run (let whole : 35 ∷ behind ≡ 35 ∷ letters ++ after = sym first ∙ split ∙ ap (λ b. b ++ after) is in cc)
    ]
  where
    no_letter : (behind letters after : List ℕ) → (letters ≡ [] → ⊥) → All IsLetter letters → IsRun class.Letter behind 0
        → behind ≡ letters ++ after → ⊥
    no_letter behind [] after some all run is = some refl
    no_letter behind (letter ∷ letters) after some all run is =
        run.ends (subst (IsFirstInClass class.Letter) (sym is) (All-head IsLetter letter letters all))

-- `#include`, blanks and a name in quotes are the token at the front
pub include_front : (text blanks name rest : List ℕ) (size : ℕ) → text ≡ included blanks name rest
    → All IsBlankInLine blanks → All IsNameByte name → size + length rest ≡ length text
    → IsTokenFront text (record { tok = tok.Include name; length = size })
include_front text blanks name rest size whole all named sizes =
    let split : included blanks name rest ≡ included blanks name [] ++ rest =
    sym (ap (λ b. codes "#include" ++ b) (append_assoc blanks (34 ∷ (name ++ 34 ∷ [])) rest ∙ ap (λ b. blanks ++ 34 ∷ b) (append_assoc name (34 ∷ []) rest))) in
    let bytes = included blanks name [] in
    let is : text ≡ bytes ++ rest = whole ∙ split in
    let front : length bytes ≡ size = omega (arith, ap length is, length-append bytes rest) in
    let spelled : take size text ≡ bytes = ap (take size) is ∙ take_at bytes rest size front in
    record {
      within = omega arith;
      spells = subst (λ b. IsInclude b name) (sym spelled) (included_spells blanks name all named);
      longest = λ others after token spelled_too spells.
          elim (hash_only text (codes "include" ++ (blanks ++ 34 ∷ (name ++ 34 ∷ rest))) others after token whole spelled_too spells) [
            | inl another ↦
                let (other, (more, every, is_name, is_too)) = another in
                let same = included-unique blanks more name other rest after all every named is_name (sym whole ∙ spelled_too ∙ include-append more other others after is_too) in
                omega (arith, ap length same.1, ap length spelled_too, length-append others after)
            | inr directive ↦
                let (letters, some, every, is_too) = directive in
                let short = directive-included blanks name rest letters after all every (sym whole ∙ spelled_too ∙ ap (λ b. b ++ after) is_too) in
                let long : 8 ≤ length bytes = omega arith in
                omega (arith, ap length is_too, short, front)
          ];
    }

-- no name of a file stands at the front of a text that does not begin with `#include`
pub include_elsewhere : (text : List ℕ) → ((rest : List ℕ) → text ≡ codes "#include" ++ rest → ⊥) → HasNoInclude text
include_elsewhere text none bytes after name split (blanks, all, named, is) =
    none (blanks ++ 34 ∷ (name ++ 34 ∷ after)) (split ∙ include-append blanks name bytes after is)

-- the blanks and the name of a file at the front are the runs, and quotes stand behind both
include_runs : (text behind bytes after name : List ℕ) (count : ℕ) → text ≡ codes "#include" ++ behind
    → IsRun class.BlankInLine behind count → text ≡ bytes ++ after → IsInclude bytes name
    → drop count behind ≡ 34 ∷ (name ++ 34 ∷ after)
include_runs text behind bytes after name count first run split (blanks, all, named, is) =
    let whole : codes "#include" ++ behind ≡ included blanks name after = sym first ∙ split ∙ include-append blanks name bytes after is in
    let inside : behind ≡ blanks ++ 34 ∷ (name ++ 34 ∷ after) = append_cancel_left (codes "#include") behind (blanks ++ 34 ∷ (name ++ 34 ∷ after)) whole in
    let ends = run-exact class.BlankInLine behind count blanks 34 (name ++ 34 ∷ after) run inside all quote-blank in
    ap (drop count) inside ∙ drop_at blanks (34 ∷ (name ++ 34 ∷ after)) count ends

-- no name of a file stands at the front where no quote follows the blanks
pub include_unquoted : (text behind : List ℕ) (count : ℕ) → text ≡ codes "#include" ++ behind
    → IsRun class.BlankInLine behind count → (IsFirstInClass class.Quote (drop count behind) → ⊥) → HasNoInclude text
include_unquoted text behind count first run none bytes after name split named =
    none (subst (IsFirstInClass class.Quote) (sym (include_runs text behind bytes after name count first run split named)) refl)

-- no name of a file stands at the front where no quote closes it
pub include_open : (text behind rest : List ℕ) (count size : ℕ) → text ≡ codes "#include" ++ behind
    → IsRun class.BlankInLine behind count → drop count behind ≡ 34 ∷ rest → IsRun class.NameByte rest size
    → (IsFirstInClass class.Quote (drop size rest) → ⊥) → HasNoInclude text
include_open text behind rest count size first run quoted name_run none bytes after name split (blanks, all, named, is) =
    let both : 34 ∷ rest ≡ 34 ∷ (name ++ 34 ∷ after) = sym quoted ∙ include_runs text behind bytes after name count first run split (blanks, all, named, is) in
    let inside : rest ≡ name ++ 34 ∷ after = cc in
    let ends = run-exact class.NameByte rest size name 34 after name_run inside named quote-name in
    none (subst (IsFirstInClass class.Quote) (sym (ap (drop size) inside ∙ drop_at name (34 ∷ after) size ends)) refl)

-- blanks, a quote, a name and a quote behind `#include`
pub included_from : (text behind rest : List ℕ) (count size : ℕ) → text ≡ codes "#include" ++ behind
    → drop count behind ≡ 34 ∷ rest → IsFirstInClass class.Quote (drop size rest)
    → text ≡ included (take count behind) (take size rest) (drop (size + 1) rest)
included_from text behind rest count size first quoted closed =
    let (within, quote) = first_after class.Quote rest size closed in
    let last : drop size rest ≡ 34 ∷ drop (size + 1) rest = drop_more rest size 0 within ∙ ap (λ b. b ∷ drop (size + 1) rest) quote in
    let name : rest ≡ take size rest ++ 34 ∷ drop (size + 1) rest = sym (take-append-drop size rest) ∙ ap (λ b. take size rest ++ b) last in
    let inside : behind ≡ take count behind ++ 34 ∷ rest = sym (take-append-drop count behind) ∙ ap (λ b. take count behind ++ b) quoted in
    first ∙ ap (λ b. codes "#include" ++ b) (inside ∙ ap (λ b. take count behind ++ 34 ∷ b) name)
