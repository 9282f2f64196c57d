-- The byte or the escape at the front of a text, as the code finds it.
use Rattle.std.proofs.Common.{◌≡◌, ℕ, List, [], ◌∷◌, MatchOption, Option, Some, None, inl, inr, sym, subst, arith}
use Rattle.capl_lexer.specs.Spelling.{IsHexDigitFront, IsItem}
use Rattle.capl_lexer.specs.Inside.ByteClass.{IsInClass}
use Rattle.capl_lexer.specs.Inside.Item.{IsItemFront, HasNoItem, IsEscapeFront, HasNoEscape}
use Rattle.capl_lexer.specs.declared.byte_class.ByteClass.{ByteClass}
use Rattle.capl_lexer.specs.declared.byte_class.ByteClass.TheVariants as class
use Rattle.capl_lexer.specs.declared.quoted.Item.{Item}

-- behind `\` what is at the front is an escape
item_cases : (kind : ByteClass) (rest : List ℕ) (found : Option Item) → (IsInClass kind 92 → ⊥)
    → MatchOption found (HasNoEscape (92 ∷ rest)) (IsEscapeFront (92 ∷ rest))
    → MatchOption found (HasNoItem kind (92 ∷ rest)) (IsItemFront kind (92 ∷ rest))
item_cases kind rest None outside none = λ value after item. no_item value after item
  where
    no_item : (value : ℕ) (after : List ℕ) → IsItem (IsInClass kind) value (92 ∷ rest) after → ⊥
    no_item value after (inl (plain, is)) =
        let same : value ≡ 92 = cc in
        let P : ℕ → Type 0 = IsInClass kind in
        outside (subst P same plain)
    no_item value after (inr escape) = none value after escape
item_cases kind rest (Some item) outside front = record { within = front.within; is = inr front.is }

-- where the first byte is `\` and stands for itself nowhere, what is at the front is an escape
pub item_from_escape : (kind : ByteClass) (text : List ℕ) (byte : ℕ) (rest : List ℕ) (found : Option Item)
    → text ≡ byte ∷ rest → byte ≡ 92 → (IsInClass kind byte → ⊥)
    → MatchOption found (HasNoEscape (92 ∷ rest)) (IsEscapeFront (92 ∷ rest))
    → MatchOption found (HasNoItem kind text) (IsItemFront kind text)
item_from_escape kind text byte rest found split is outside front =
    let P : ℕ → Type 0 = IsInClass kind in
    let whole : 92 ∷ rest ≡ text = cc in
    subst (λ t. MatchOption found (HasNoItem kind t) (IsItemFront kind t)) whole
    (item_cases kind rest found (λ plain. outside (subst P (sym is) plain)) front)

-- a text whose first byte is no digit
pub no_digit_front : (rest : List ℕ) (byte : ℕ) (others : List ℕ) → rest ≡ byte ∷ others
    → (IsInClass class.HexDigit byte → ⊥) → IsHexDigitFront rest → ⊥
no_digit_front rest byte others is none front = none (subst IsHexDigitFront is front)
