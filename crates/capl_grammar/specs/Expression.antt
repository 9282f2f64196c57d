-- The grammar of expressions and declarations (CAPL manual, operators and declarations).
--
-- A part is written out before a rest, as the pieces that it is and then the rest. So a whole is its parts,
-- each written out before what stands behind it. The place of a part is that of its first token; that of a
-- message's type is that of its number or name.
use Rattle.std.specs.Prelude.{◌≡◌, ◌⊎◌, ℕ, suc, Bool, true, List, [], ◌∷◌, false, nat_le, nat_lt, length, Option, Some, None}
use Rattle.capl_lexer.specs.declared.token.Tok.{Tok}
use Rattle.capl_lexer.specs.declared.token.Word.{Word}
use Rattle.capl_lexer.specs.declared.token.Sign.{Sign}
use Rattle.int_kinds.specs.declared.operators.BinOp.{BinOp}
use Rattle.capl_tree.specs.declared.expr.Expr.{Expr, Row_of-Expr, end_of-Expr, more_of-Expr}
use Rattle.capl_tree.specs.declared.expr.Field.{Field}
use Rattle.capl_tree.specs.declared.expr.Field.TheVariants.{Named}
use Rattle.capl_tree.specs.declared.declaration.Decl.{Decl}
use Rattle.capl_tree.specs.declared.declaration.DeclType.{DeclType}
use Rattle.capl_tree.specs.declared.declaration.Declr.{Declr}
use Rattle.capl_tree.specs.declared.declaration.Init.{Init}
use Rattle.capl_tree.specs.declared.declaration.Init.TheVariants.{One, Many}
use Rattle.capl_tree.specs.declared.declaration.Item.{Item}
use Rattle.capl_tree.specs.declared.declaration.Item.TheVariants.{Plain, Set}
use Rattle.capl_tree.specs.Binding.{operator_level, assignment_level, choice_level, binary_level, prefix_level, postfix_level, kind_word, prefix_sign, postfix_sign, operator_sign}
use Rattle.capl_lexer.specs.declared.token.Tok.TheVariants as tok
use Rattle.capl_lexer.specs.declared.token.Word.TheVariants as word
use Rattle.int_kinds.specs.declared.operators.BinOp.TheVariants as op
use Rattle.capl_lexer.specs.declared.token.Sign.TheVariants as sign
use Rattle.capl_tree.specs.declared.expr.Expr.TheVariants as expr
use Rattle.capl_tree.specs.declared.declaration.DeclType.TheVariants as type
use Rattle.capl_tree.specs.Forms as form

-- ---- What a part of a tree is written out as, and which tokens that is.

-- a piece: a token; `void` or nothing; the place of a part, which is the number of the next token; or a
-- condition, which has to hold
pub data Piece : Type 0 where
  Token : Tok → Piece
  VoidOrNothing : Piece
  At : ℕ → Piece
  When : Bool → Piece

-- a sign
abbrev pub a_sign : Sign → Piece
a_sign sign = Token (tok.Sign sign)

-- a reserved word
abbrev pub a_word : Word → Piece
a_word word = Token (tok.Word word)

-- a name
abbrev pub a_name : List ℕ → Piece
a_name name = Token (tok.Name name)

-- these tokens, the first of which has this number, are what the pieces say
abbrev pub Spells : ℕ → List Piece → List Tok → Type 0
Spells number [] tokens = tokens ≡ []
Spells number (Token token ∷ rest) tokens =
    (behind : List Tok) × (tokens ≡ token ∷ behind) × Spells (suc number) rest behind
Spells number (VoidOrNothing ∷ rest) tokens =
    Spells number rest tokens
    ⊎ ((behind : List Tok) × (tokens ≡ tok.Word word.Void ∷ behind) × Spells (suc number) rest behind)
Spells number (At place ∷ rest) tokens = (place ≡ number) × Spells number rest tokens
Spells number (When holds ∷ rest) tokens = (holds ≡ true) × Spells number rest tokens

-- ---- Expressions and declarations.

-- the sign of an assignment; some operators have none with `=`
abbrev pub assignment : Option BinOp → List Piece → List Piece
assignment None rest = a_sign sign.Assign ∷ rest
assignment (Some op.Or) rest = a_sign sign.BarAssign ∷ rest
assignment (Some op.Xor) rest = a_sign sign.CaretAssign ∷ rest
assignment (Some op.And) rest = a_sign sign.AmpAssign ∷ rest
assignment (Some op.Shl) rest = a_sign sign.ShiftLeftAssign ∷ rest
assignment (Some op.Shr) rest = a_sign sign.ShiftRightAssign ∷ rest
assignment (Some op.Add) rest = a_sign sign.PlusAssign ∷ rest
assignment (Some op.Sub) rest = a_sign sign.MinusAssign ∷ rest
assignment (Some op.Mul) rest = a_sign sign.StarAssign ∷ rest
assignment (Some op.Div) rest = a_sign sign.SlashAssign ∷ rest
assignment (Some op.Rem) rest = a_sign sign.PercentAssign ∷ rest
assignment _ rest = When false ∷ rest

abbrev mutual
  -- an expression whose outermost operator has at least this level. No more than `postfix_level` is asked
  -- for, so operands and what stands behind them need no condition
  pub expression : ℕ → Expr → List Piece → List Piece
  expression least (expr.Num value ext at) rest = At at ∷ Token (tok.Num ext value) ∷ rest
  expression least (expr.Char value at) rest = At at ∷ Token (tok.Char value) ∷ rest
  expression least (expr.Str text at) rest = At at ∷ Token (tok.Str text) ∷ rest
  expression least (expr.This at) rest = At at ∷ a_word word.This ∷ rest
  expression least (expr.Name name at) rest = At at ∷ a_name name ∷ rest
  expression least (form.Paren inner at) rest =
      At at ∷ a_sign sign.OpenParen ∷ expression assignment_level inner (a_sign sign.CloseParen ∷ rest)
  expression least (expr.Call' name shape args at) rest =
      At at ∷ a_name name ∷ a_sign sign.OpenParen ∷ arguments args (a_sign sign.CloseParen ∷ rest)
  expression least (form.Index base index at) rest =
      At at ∷ expression postfix_level base (a_sign sign.OpenBracket
      ∷ expression assignment_level index (a_sign sign.CloseBracket ∷ rest))
  expression least (form.Member base inner at) rest =
      At at ∷ expression postfix_level base (a_sign sign.Dot ∷ field inner rest)
  expression least (form.Post up inner at) rest =
      At at ∷ expression postfix_level inner (a_sign (postfix_sign up) ∷ rest)
  expression least (form.Cast kind inner at) rest =
      When (nat_le least prefix_level) ∷ At at ∷ a_sign sign.OpenParen ∷ a_word (kind_word kind)
      ∷ a_sign sign.CloseParen ∷ expression prefix_level inner rest
  expression least (form.Unary operator inner at) rest =
      When (nat_le least prefix_level) ∷ At at ∷ a_sign (prefix_sign operator)
      ∷ expression prefix_level inner rest
  expression least (form.Binary operator left right at) rest =
      When (nat_le least (operator_level operator)) ∷ At at
      ∷ expression (operator_level operator) left
      (a_sign (operator_sign operator) ∷ expression (suc (operator_level operator)) right rest)
  expression least (form.Cond test one other at) rest =
      When (nat_le least choice_level) ∷ At at
      ∷ expression binary_level test (a_sign sign.Question
      ∷ expression assignment_level one (a_sign sign.Colon ∷ expression choice_level other rest))
  expression least (form.Assign operator left right at) rest =
      When (nat_le least assignment_level) ∷ At at
      ∷ expression choice_level left
      (assignment operator (expression assignment_level right rest))

  -- a field of a message: a name, or bytes of the payload
  pub field : Field → List Piece → List Piece
  field (Named name at) rest = At at ∷ a_name name ∷ rest
  field (form.Bytes kind index at) rest =
      At at ∷ a_word (kind_word kind) ∷ a_sign sign.OpenParen
      ∷ expression assignment_level index (a_sign sign.CloseParen ∷ rest)

  -- expressions with commas between them
  pub arguments : {m : _} → Row_of-Expr m → List Piece → List Piece
  arguments end_of-Expr rest = rest
  arguments (more_of-Expr first others) rest =
      expression assignment_level first (further_arguments others rest)

  -- expressions, each behind a comma
  pub further_arguments : {m : _} → Row_of-Expr m → List Piece → List Piece
  further_arguments end_of-Expr rest = rest
  further_arguments (more_of-Expr first others) rest =
      a_sign sign.Comma ∷ expression assignment_level first (further_arguments others rest)

-- an expression that is no assignment
abbrev pub value : Expr → List Piece → List Piece
value e rest = expression choice_level e rest

-- items, each behind a comma
abbrev pub further : {A : Type 0} → (A → List Piece → List Piece) → List A → List Piece → List Piece
further one [] rest = rest
further one (first ∷ others) rest = a_sign sign.Comma ∷ one first (further one others rest)

-- items with commas between them
abbrev pub separated : {A : Type 0} → (A → List Piece → List Piece) → List A → List Piece → List Piece
separated one [] rest = rest
separated one (first ∷ others) rest = one first (further one others rest)

-- that there are items
abbrev pub some_of : {A : Type 0} → List A → Piece
some_of items = When (nat_lt 0 (length items))

-- an item between the braces of an initialiser
abbrev pub item : Item → List Piece → List Piece
item (Plain given) rest = value given rest
item (Set target given) rest = field target (a_sign sign.Assign ∷ value given rest)

-- an initialiser
abbrev pub initialiser : Init → List Piece → List Piece
initialiser (One given) rest = value given rest
initialiser (Many items at) rest =
    At at ∷ a_sign sign.OpenBrace ∷ some_of items ∷ separated item items (a_sign sign.CloseBrace ∷ rest)

-- `[ SIZE ]`, where it stands
abbrev pub size_part : Option Expr → List Piece → List Piece
size_part None rest = rest
size_part (Some size) rest = a_sign sign.OpenBracket ∷ value size (a_sign sign.CloseBracket ∷ rest)

-- `=` and an initialiser, where they stand
abbrev pub initialiser_part : Option Init → List Piece → List Piece
initialiser_part None rest = rest
initialiser_part (Some init) rest = a_sign sign.Assign ∷ initialiser init rest

-- a declared variable
abbrev pub declarator : Declr → List Piece → List Piece
declarator declared rest =
    At declared.at ∷ a_name declared.name ∷ size_part declared.size (initialiser_part declared.init rest)

-- the type of a declaration
abbrev pub declared_type : DeclType → List Piece → List Piece
declared_type (type.Number kind true) rest = a_word word.Const ∷ a_word (kind_word kind) ∷ rest
declared_type (type.Number kind false) rest = a_word (kind_word kind) ∷ rest
declared_type type.Any rest = a_word word.Message ∷ a_sign sign.Star ∷ rest
declared_type (type.ById value ext at) rest = a_word word.Message ∷ At at ∷ Token (tok.Num ext value) ∷ rest
declared_type (type.ByName name at) rest = a_word word.Message ∷ At at ∷ a_name name ∷ rest
declared_type type.Seconds rest = a_word word.Timer ∷ rest
declared_type type.Millis rest = a_word word.MsTimer ∷ rest

-- a declaration
abbrev pub declaration : Decl → List Piece → List Piece
declaration declared rest =
    At declared.at ∷ some_of declared.items
    ∷ declared_type declared.what (separated declarator declared.items (a_sign sign.Semi ∷ rest))
