-- What stands for one byte of a string or a character, at the front of a text.
use Rattle.std.specs.Prelude.{◌≤◌, ℕ, List, length, drop}
use Rattle.capl_lexer.specs.Spelling.{IsEscape, IsItem}
use Rattle.capl_lexer.specs.Inside.ByteClass.{IsInClass}
use Rattle.capl_lexer.specs.declared.byte_class.ByteClass.{ByteClass}
use Rattle.capl_lexer.specs.declared.quoted.Item.{Item}

-- the bytes of the front are an escape that stands for its value
pub record IsEscapeFront (text : List ℕ) (item : Item) : Type 0 where
  pub within : item.length ≤ length text
  pub is : IsEscape item.value text (drop item.length text)

-- no escape stands at the front
abbrev pub HasNoEscape : List ℕ → Type 0
HasNoEscape text = (value : ℕ) (rest : List ℕ) → IsEscape value text rest → ⊥

-- the bytes of the front are a byte of the class or an escape, and stand for its value
pub record IsItemFront (class : ByteClass) (text : List ℕ) (item : Item) : Type 0 where
  pub within : item.length ≤ length text
  pub is : IsItem (IsInClass class) item.value text (drop item.length text)

-- neither a byte of the class nor an escape stands at the front
abbrev pub HasNoItem : ByteClass → List ℕ → Type 0
HasNoItem class text = (value : ℕ) (rest : List ℕ) → IsItem (IsInClass class) value text rest → ⊥
