-- What begins with `#`: that bytes name at most one file, and that a directive names none.
use Rattle.std.proofs.Common.{◌≡◌, ◌≢◌, ◌<◌, ◌≤◌, ℕ, List, [], ◌∷◌, ◌++◌, length, get_or, All, inl, inr, refl, sym, ap, subst, ◌∙◌, arith, length-append, append_assoc}
use Rattle.std.specs.Prelude.{codes}
use Rattle.std.proofs.lemmas.Bool.{cases_lt}
use Rattle.std.proofs.lemmas.List.{append_cancel_left, append-nil, get_or_at, get_or_append_left}
use Rattle.capl_lexer.specs.Spelling.{IsLetter, IsBlankInLine, IsNameByte, IsInclude, IsDirective}
use Rattle.capl_lexer.proofs.SplitLemmas.{before-unique}

-- a quote is no blank
pub quote-blank : IsBlankInLine 34 → ⊥
quote-blank blank = grind arith

-- a quote ends the name of a file
pub quote-name : IsNameByte 34 → ⊥
quote-name name = name.0 refl

-- a quote and a blank are no letters
pub quote-letter : IsLetter 34 → ⊥
quote-letter letter = grind arith

blank-letter : (byte : ℕ) → IsBlankInLine byte → IsLetter byte → ⊥
blank-letter byte blank letter = grind arith

-- letters end before a byte that is none
letters_before : (front : List ℕ) (byte : ℕ) (rest letters after : List ℕ) → (IsLetter byte → ⊥)
    → All IsLetter letters → front ++ byte ∷ rest ≡ letters ++ after → length letters ≤ length front
letters_before front byte rest letters after outside every same =
    elim (cases_lt (length front) (length letters)) [
      | inl long ↦
          let at : get_or letters (length front) 0 ≡ byte =
          sym (get_or_append_left letters after 0 (length front) long) ∙ ap (λ b. get_or b (length front) 0) (sym same) ∙ get_or_at front byte rest 0 (length front) refl in
          absurd (outside (subst IsLetter at (every (length front) 0 long)))
      | inr short ↦ short
    ]

-- `#include`, blanks, and a name in quotes before a rest
abbrev pub included : List ℕ → List ℕ → List ℕ → List ℕ
included blanks name rest = codes "#include" ++ (blanks ++ 34 ∷ (name ++ 34 ∷ rest))

included_is : (blanks name rest : List ℕ)
    → codes "#include" ++ blanks ++ 34 ∷ name ++ 34 ∷ rest ≡ included blanks name rest
included_is blanks name rest =
    append_assoc (codes "#include" ++ blanks) (34 ∷ name) (34 ∷ rest) ∙ append_assoc (codes "#include") blanks (34 ∷ (name ++ 34 ∷ rest))

-- one text has one name and one rest
pub included-unique : (blanks others name another rest after : List ℕ)
    → All IsBlankInLine blanks → All IsBlankInLine others → All IsNameByte name → All IsNameByte another
    → included blanks name rest ≡ included others another after → (name ≡ another) × (rest ≡ after)
included-unique blanks others name another rest after all every named also same =
    let behind : blanks ++ 34 ∷ (name ++ 34 ∷ rest) ≡ others ++ 34 ∷ (another ++ 34 ∷ after) =
    append_cancel_left (codes "#include") (blanks ++ 34 ∷ (name ++ 34 ∷ rest)) (others ++ 34 ∷ (another ++ 34 ∷ after)) same in
    let names = (before-unique IsBlankInLine 34 34 quote-blank quote-blank blanks others (name ++ 34 ∷ rest) (another ++ 34 ∷ after) all every behind).1 in
    let inside : name ++ 34 ∷ rest ≡ another ++ 34 ∷ after = cc in
    let one = before-unique IsNameByte 34 34 quote-name quote-name name another rest after named also inside in
    (one.0, let tail = one.1 in cc)

-- the bytes that name a file, and what follows them
pub include-append : (blanks name bytes after : List ℕ) → bytes ≡ codes "#include" ++ blanks ++ 34 ∷ name ++ 34 ∷ []
    → bytes ++ after ≡ included blanks name after
include-append blanks name bytes after is =
    let front : bytes ++ after ≡ (codes "#include" ++ blanks ++ 34 ∷ name ++ 34 ∷ []) ++ after = ap (λ b. b ++ after) is in
    let whole : (codes "#include" ++ blanks ++ 34 ∷ name ++ 34 ∷ []) ++ after ≡ codes "#include" ++ blanks ++ 34 ∷ name ++ 34 ∷ after =
    append_assoc (codes "#include" ++ blanks ++ 34 ∷ name) (34 ∷ []) after in
    front ∙ whole ∙ included_is blanks name after

-- the bytes that name a file
pub include_is : (blanks name bytes : List ℕ) → bytes ≡ codes "#include" ++ blanks ++ 34 ∷ name ++ 34 ∷ []
    → bytes ≡ included blanks name []
include_is blanks name bytes is = is ∙ included_is blanks name []

-- such bytes name a file
pub included_spells : (blanks name : List ℕ) → All IsBlankInLine blanks → All IsNameByte name → IsInclude (included blanks name []) name
included_spells blanks name all named = (blanks, all, named, sym (included_is blanks name []))

-- bytes name at most one file
pub include-unique : (bytes name other : List ℕ) → IsInclude bytes name → IsInclude bytes other → name ≡ other
include-unique bytes name other (blanks, all, named, is) (others, every, also, is_too) =
    (included-unique blanks others name other [] [] all every named also (sym (include_is blanks name bytes is) ∙ include_is others other bytes is_too)).0

-- a directive ends before the quotes of a file's name
pub directive-included : (blanks name rest letters after : List ℕ) → All IsBlankInLine blanks
    → All IsLetter letters → included blanks name rest ≡ 35 ∷ letters ++ after → length letters ≤ 7
directive-included [] name rest letters after all every same =
    let inside : codes "include" ++ 34 ∷ (name ++ 34 ∷ rest) ≡ letters ++ after = cc in
    letters_before (codes "include") 34 (name ++ 34 ∷ rest) letters after quote-letter every inside
directive-included (blank ∷ blanks) name rest letters after all every same =
    let inside : codes "include" ++ blank ∷ (blanks ++ 34 ∷ (name ++ 34 ∷ rest)) ≡ letters ++ after = cc in
    letters_before (codes "include") blank (blanks ++ 34 ∷ (name ++ 34 ∷ rest)) letters after
    (blank-letter blank (all 0 0 (omega arith))) every inside

-- no bytes are a directive and name a file
pub directive-include : (bytes name : List ℕ) → IsInclude bytes name → IsDirective bytes → ⊥
directive-include bytes name (blanks, all, named, is) (letters, some, every, is_too) =
    let whole : included blanks name [] ≡ 35 ∷ letters ++ [] = sym (include_is blanks name bytes is) ∙ is_too ∙ ap (λ b. 35 ∷ b) (sym (append-nil letters)) in
    let short = directive-included blanks name [] letters [] all every whole in
    omega (arith, ap length whole, length-append letters [], length-append blanks (34 ∷ (name ++ 34 ∷ [])), short)
