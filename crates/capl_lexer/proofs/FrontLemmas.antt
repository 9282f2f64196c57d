-- The token at the front of a text by its first byte, and names and reserved words.
use Rattle.std.proofs.Common.{◌≡◌, ◌≢◌, ◌<◌, ◌≤◌, ◌+◌, ℕ, zero, suc, List, [], ◌∷◌, ◌++◌, length, get_or, take, drop, All, inl, inr, refl, sym, ap, subst, ◌∙◌, arith}
use Rattle.std.proofs.lemmas.List.{length-take-le}
use Rattle.capl_lexer.specs.Spelling.{IsNamePart, word_spelling, Spells}
use Rattle.capl_lexer.specs.Inside.ByteClass.{IsInClass, IsFirstInClass, IsRun}
use Rattle.capl_lexer.specs.Reading.{IsLongest}
use Rattle.capl_lexer.specs.Inside.Front.{IsTokenFront, HasNoToken}
use Rattle.capl_lexer.specs.declared.byte_class.ByteClass.{ByteClass}
use Rattle.capl_lexer.specs.declared.byte_class.ByteClass.TheVariants as class
use Rattle.capl_lexer.specs.declared.token.Word.{Word}
use Rattle.capl_lexer.specs.declared.token.Tok.{Tok}
use Rattle.capl_lexer.specs.declared.token.Tok.TheVariants as tok
use Rattle.capl_lexer.proofs.ByteClassLemmas.{run-le}
use Rattle.capl_lexer.proofs.SpellingLemmas.{Begins, HasNameForm, word-name_form, spelling-front, class_of, class_of_token, begins-class, name_class}

-- the first byte of a text begins each token at its front
pub front-begins : (text : List ℕ) (byte : ℕ) (others bytes after : List ℕ) (token : Tok)
    → text ≡ byte ∷ others → text ≡ bytes ++ after → Spells bytes token → Begins token byte
front-begins text byte others bytes after token first split spells =
    let front = spelling-front bytes token spells in
    let whole : byte ∷ others ≡ front.first ∷ front.others ++ after = sym first ∙ split ∙ ap (λ b. b ++ after) front.is in
    let same : front.first ≡ byte = cc in
    subst (Begins token) same front.begins

-- the class of a token at the front is that of the first byte
pub front-class : (text : List ℕ) (byte : ℕ) (others bytes after : List ℕ) (token : Tok)
    → text ≡ byte ∷ others → text ≡ bytes ++ after → Spells bytes token
    → class_of byte ≡ class_of_token token
front-class text byte others bytes after token first split spells =
    begins-class token byte (front-begins text byte others bytes after token first split spells)

-- a run of the class of the first byte has a byte
pub run-positive : (class : ByteClass) (text : List ℕ) (count : ℕ) → IsRun class text count
    → IsFirstInClass class text → 0 < count
run-positive class text zero run first = absurd (run.ends first)
run-positive class text (suc count) run first = omega arith

-- the first byte after a place stands at it
pub first_after : (class : ByteClass) (text : List ℕ) (place : ℕ)
    → IsFirstInClass class (drop place text)
    → (place < length text) × IsInClass class (get_or text place 0)
first_after class [] zero first = absurd first
first_after class [] (suc place) first = absurd first
first_after class (byte ∷ text) zero first = (omega arith, first)
first_after class (byte ∷ text) (suc place) first =
    let rest = first_after class text place first in (let within = rest.0 in omega arith, rest.1)

-- no token is spelled by nothing
pub nothing_none : HasNoToken []
nothing_none bytes after token split spells =
    let front = spelling-front bytes token spells in
    let whole : [] ≡ front.first ∷ front.others ++ after = split ∙ ap (λ b. b ++ after) front.is in cc

-- Names and reserved words.

-- no token at the front is longer than the run of letters, digits and `_`
pub name-longest : (text : List ℕ) (count : ℕ) → IsFirstInClass class.NameStart text
    → IsRun class.NamePart text count → IsLongest text count
name-longest [] count start run bytes after token split spells = absurd start
name-longest (byte ∷ text) count start run bytes after (tok.Name name) split spells =
    run-le class.NamePart (byte ∷ text) count bytes after run split spells.1.parts
name-longest (byte ∷ text) count start run bytes after (tok.Word reserved) split spells =
    let parts : All IsNamePart bytes = subst (All IsNamePart) (sym spells) (word-name_form reserved).parts in
    run-le class.NamePart (byte ∷ text) count bytes after run split parts
name-longest (byte ∷ text) count start run bytes after token split spells =
    let same = sym (name_class byte start) ∙ front-class (byte ∷ text) byte text bytes after token refl split spells in
    absurd (omega (arith, same))

-- the run of a text that begins as a name has the form of a name
pub name_run : (text : List ℕ) (count : ℕ) → IsFirstInClass class.NameStart text
    → IsRun class.NamePart text count → HasNameForm (take count text)
name_run [] count start run = absurd start
name_run (byte ∷ text) zero start run = absurd (run.ends (inl start))
name_run (byte ∷ text) (suc count) start run = record { start = start; parts = run.inside }

-- a run that is a reserved word is its token
pub word_front : (text : List ℕ) (count : ℕ) (reserved : Word)
    → IsFirstInClass class.NameStart text → IsRun class.NamePart text count
    → take count text ≡ word_spelling reserved
    → IsTokenFront text (record { tok = tok.Word reserved; length = count })
word_front text count reserved start run is =
    record { within = run.within; spells = is; longest = name-longest text count start run }

-- a run that is no reserved word is a name
pub name_front : (text : List ℕ) (count : ℕ) (name : List ℕ) → IsFirstInClass class.NameStart text
    → IsRun class.NamePart text count
    → ((word : Word) → take count text ≢ word_spelling word) → name ≡ take count text
    → IsTokenFront text (record { tok = tok.Name name; length = count })
name_front text count name start run other is =
    let form = name_run text count start run in
    record {
      within = run.within;
      spells = (sym is, record { start = form.start; parts = form.parts; not_reserved = other });
      longest = name-longest text count start run;
    }
