-- The string and the character at the front of a text.
use Rattle.std.proofs.Common.{◌≡◌, ◌<◌, ◌≤◌, ◌+◌, ℕ, List, [], ◌∷◌, ◌++◌, length, take, drop, inl, inr, refl, sym, ap, subst, ◌∙◌, arith, length-append}
use Rattle.std.proofs.lemmas.List.{take_at}
use Rattle.capl_lexer.specs.Spelling.{IsItem, AreItems, IsPlain, IsPlainInChar, IsChar, Spells}
use Rattle.capl_lexer.specs.Inside.ByteClass.{IsFirstInClass}
use Rattle.capl_lexer.specs.Inside.Front.{IsTokenFront, HasNoToken}
use Rattle.capl_lexer.specs.Inside.Item.{HasNoItem}
use Rattle.capl_lexer.specs.declared.byte_class.ByteClass.TheVariants as class
use Rattle.capl_lexer.specs.declared.token.Tok.{Tok}
use Rattle.capl_lexer.specs.declared.token.Tok.TheVariants as tok
use Rattle.capl_lexer.proofs.FrontLemmas.{front-class}
use Rattle.capl_lexer.proofs.ItemLemmas.{item-unique, item-append, item-cut, items-unique, items-append, items-cut, items-stuck, backslash-outside_char}

-- at the front of a text that begins with a quote each token is a string, whose items go up to what follows it
string_only : (text inside bytes after : List ℕ) (token : Tok) → text ≡ 34 ∷ inside
    → text ≡ bytes ++ after → Spells bytes token
    → (values : List ℕ) × AreItems values inside (34 ∷ after)
string_only text inside bytes after (tok.Str values) first split (within, is, items) =
    let whole : 34 ∷ inside ≡ 34 ∷ within ++ after = sym first ∙ split ∙ ap (λ b. b ++ after) is in
    let same : inside ≡ within ++ after = cc in
    (values, subst (λ t. AreItems values t (34 ∷ after)) (sym same) (items-append values within 34 [] after items))
string_only text inside bytes after token first split spells =
    let same = front-class text 34 inside bytes after token first split spells in absurd (omega (arith, same))

-- items up to a quote are the token at the front
pub string_front : (text inside rest values : List ℕ) (size : ℕ) → text ≡ 34 ∷ inside
    → AreItems values inside (34 ∷ rest) → size + length rest ≡ length text
    → IsTokenFront text (record { tok = tok.Str values; length = size })
string_front text inside rest values size first items sizes =
    let (within, split, cut) = items-cut values inside (34 ∷ []) rest items in
    let whole : text ≡ (34 ∷ within) ++ rest = first ∙ ap (λ b. 34 ∷ b) split in
    let front : length (34 ∷ within) ≡ size = omega (arith, ap length whole, length-append (34 ∷ within) rest) in
    record {
      within = omega arith;
      spells = (within, ap (take size) whole ∙ take_at (34 ∷ within) rest size front, cut);
      longest = λ bytes after token spelled spells.
          let (others, more) = string_only text inside bytes after token first spelled spells in
          let same = (items-unique values others inside rest after items more).1 in
          omega (arith, ap length same, ap length spelled, length-append bytes after);
    }

-- no token stands at the front where items lead to what is neither an item nor a quote
pub string_none : (text inside rest values : List ℕ) → text ≡ 34 ∷ inside → AreItems values inside rest
    → HasNoItem class.Plain rest → (IsFirstInClass class.Quote rest → ⊥) → HasNoToken text
string_none text inside rest values first items none open_end bytes after token split spells =
    let (others, more) = string_only text inside bytes after token first split spells in
    items-stuck values others inside rest after items none (λ beyond is. open_end (subst (IsFirstInClass class.Quote) (sym is) refl)) more

-- at the front of a text that begins with an apostrophe each token is a character
char_only : (text inside bytes after : List ℕ) (token : Tok) → text ≡ 39 ∷ inside
    → text ≡ bytes ++ after → Spells bytes token
    → (value : ℕ) × IsItem IsPlainInChar value inside (39 ∷ after)
char_only text inside bytes after (tok.Char value) first split (within, is, item) =
    let whole : 39 ∷ inside ≡ 39 ∷ within ++ after = sym first ∙ split ∙ ap (λ b. b ++ after) is in
    let same : inside ≡ within ++ after = cc in
    (value, subst (λ t. IsItem IsPlainInChar value t (39 ∷ after)) (sym same) (item-append IsPlainInChar within value 39 [] after item))
char_only text inside bytes after token first split spells =
    let same = front-class text 39 inside bytes after token first split spells in absurd (omega (arith, same))

-- an item up to an apostrophe is the token at the front
pub char_front : (text inside rest : List ℕ) (value size : ℕ) → text ≡ 39 ∷ inside
    → IsItem IsPlainInChar value inside (39 ∷ rest) → size + length rest ≡ length text
    → IsTokenFront text (record { tok = tok.Char value; length = size })
char_front text inside rest value size first item sizes =
    let (within, split, cut) = item-cut IsPlainInChar inside value (39 ∷ []) rest item in
    let whole : text ≡ (39 ∷ within) ++ rest = first ∙ ap (λ b. 39 ∷ b) split in
    let front : length (39 ∷ within) ≡ size = omega (arith, ap length whole, length-append (39 ∷ within) rest) in
    record {
      within = omega arith;
      spells = (within, ap (take size) whole ∙ take_at (39 ∷ within) rest size front, cut);
      longest = λ bytes after token spelled spells.
          let (other, more) = char_only text inside bytes after token first spelled spells in
          let same = (item-unique IsPlainInChar backslash-outside_char inside value other (39 ∷ rest) (39 ∷ after) item more).one_rest in
          omega (arith, ap length same, ap length spelled, length-append bytes after);
    }

-- no token stands at the front where no item follows the apostrophe
pub char_none : (text inside : List ℕ) → text ≡ 39 ∷ inside → HasNoItem class.PlainInChar inside → HasNoToken text
char_none text inside first none bytes after token split spells =
    let (value, item) = char_only text inside bytes after token first split spells in none value (39 ∷ after) item

-- no token stands at the front where no apostrophe follows the item
pub char_open : (text inside rest : List ℕ) (value : ℕ) → text ≡ 39 ∷ inside
    → IsItem IsPlainInChar value inside rest → (IsFirstInClass class.Apostrophe rest → ⊥) → HasNoToken text
char_open text inside rest value first item open_end bytes after token split spells =
    let (other, more) = char_only text inside bytes after token first split spells in
    let same = (item-unique IsPlainInChar backslash-outside_char inside value other rest (39 ∷ after) item more).one_rest in
    open_end (subst (IsFirstInClass class.Apostrophe) (sym same) refl)
