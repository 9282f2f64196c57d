-- Where each part of a tree stands: its `at` is the number of its first token in its file. That of a
-- message's type is the number of the token behind `message`.
--
-- The file has `total` tokens. A part is written out before the rest of the file, so that the number of its
-- first token and the count of the tokens from there on make the total.
use Rattle.std.specs.Prelude.{◌≡◌, ◌+◌, ℕ, List, [], ◌∷◌, Option, Some, None, length, ⊤}
use Rattle.capl_lexer.specs.declared.token.Tok.{Tok}
use Rattle.capl_lexer.specs.declared.token.Tok.TheVariants as tok
use Rattle.capl_lexer.specs.declared.token.Sign.TheVariants as sign
use Rattle.capl_tree.specs.declared.expr.Expr.{Expr, Row_of-Expr, end_of-Expr, more_of-Expr}
use Rattle.capl_tree.specs.declared.expr.Expr.TheVariants as expr
use Rattle.capl_tree.specs.declared.expr.Field.{Field}
use Rattle.capl_tree.specs.declared.expr.Field.TheVariants.{Named}
use Rattle.capl_tree.specs.declared.declaration.Decl.{Decl}
use Rattle.capl_tree.specs.declared.declaration.DeclType.{DeclType}
use Rattle.capl_tree.specs.declared.declaration.DeclType.TheVariants as type
use Rattle.capl_tree.specs.declared.declaration.Declr.{Declr}
use Rattle.capl_tree.specs.declared.declaration.Init.{Init}
use Rattle.capl_tree.specs.declared.declaration.Init.TheVariants.{One, Many}
use Rattle.capl_tree.specs.declared.declaration.Item.{Item}
use Rattle.capl_tree.specs.declared.declaration.Item.TheVariants.{Plain, Set}
use Rattle.capl_tree.specs.Forms as form
use Rattle.capl_tree.specs.Binding.{operator_sign, postfix_sign, assignment_sign}
use Rattle.capl_tree.specs.Spelling.{expression, field, further_arguments, further, separated, item, initialiser, first_part, declarator, declaration}

-- the number of the first of these tokens, the last of a file
abbrev pub IsAt : ℕ → ℕ → List Tok → Type 0
IsAt total at tokens = at + length tokens ≡ total

abbrev mutual
  -- an expression before the rest of its file
  pub IsPlaced : ℕ → Expr → List Tok → Type 0
  IsPlaced total (expr.Num value ext at) rest = IsAt total at (expression (expr.Num value ext at) rest)
  IsPlaced total (expr.Char value at) rest = IsAt total at (expression (expr.Char value at) rest)
  IsPlaced total (expr.Str text at) rest = IsAt total at (expression (expr.Str text at) rest)
  IsPlaced total (expr.This at) rest = IsAt total at (expression (expr.This at) rest)
  IsPlaced total (expr.Name name at) rest = IsAt total at (expression (expr.Name name at) rest)
  IsPlaced total (form.Paren inner at) rest =
      IsAt total at (expression (form.Paren inner at) rest)
      × IsPlaced total inner (tok.Sign sign.CloseParen ∷ rest)
  IsPlaced total (expr.Call' name shape args at) rest =
      IsAt total at (expression (expr.Call' name shape args at) rest)
      × ArePlaced total args (tok.Sign sign.CloseParen ∷ rest)
  IsPlaced total (form.Index base index at) rest =
      IsAt total at (expression (form.Index base index at) rest)
      × IsPlaced total base
      (tok.Sign sign.OpenBracket ∷ expression index (tok.Sign sign.CloseBracket ∷ rest))
      × IsPlaced total index (tok.Sign sign.CloseBracket ∷ rest)
  IsPlaced total (form.Member base inner at) rest =
      IsAt total at (expression (form.Member base inner at) rest)
      × IsPlaced total base (tok.Sign sign.Dot ∷ field inner rest)
      × IsFieldPlaced total inner rest
  IsPlaced total (form.Cast of inner at) rest =
      IsAt total at (expression (form.Cast of inner at) rest) × IsPlaced total inner rest
  IsPlaced total (form.Unary operator inner at) rest =
      IsAt total at (expression (form.Unary operator inner at) rest) × IsPlaced total inner rest
  IsPlaced total (form.Post up inner at) rest =
      IsAt total at (expression (form.Post up inner at) rest)
      × IsPlaced total inner (tok.Sign (postfix_sign up) ∷ rest)
  IsPlaced total (form.Binary operator left right at) rest =
      IsAt total at (expression (form.Binary operator left right at) rest)
      × IsPlaced total left (tok.Sign (operator_sign operator) ∷ expression right rest)
      × IsPlaced total right rest
  IsPlaced total (form.Cond test one other at) rest =
      IsAt total at (expression (form.Cond test one other at) rest)
      × IsPlaced total test
      (tok.Sign sign.Question ∷ expression one (tok.Sign sign.Colon ∷ expression other rest))
      × IsPlaced total one (tok.Sign sign.Colon ∷ expression other rest)
      × IsPlaced total other rest
  IsPlaced total (form.Assign operator left right at) rest =
      IsAt total at (expression (form.Assign operator left right at) rest)
      × IsPlaced total left (tok.Sign (assignment_sign operator) ∷ expression right rest)
      × IsPlaced total right rest

  -- a field
  pub IsFieldPlaced : ℕ → Field → List Tok → Type 0
  IsFieldPlaced total (Named name at) rest = IsAt total at (field (Named name at) rest)
  IsFieldPlaced total (form.Bytes of index at) rest =
      IsAt total at (field (form.Bytes of index at) rest)
      × IsPlaced total index (tok.Sign sign.CloseParen ∷ rest)

  -- expressions, each but the last before a comma
  pub ArePlaced : ℕ → {m : _} → Row_of-Expr m → List Tok → Type 0
  ArePlaced total end_of-Expr rest = ⊤
  ArePlaced total (more_of-Expr first others) rest =
      IsPlaced total first (further_arguments others rest) × ArePlaced total others rest

-- each item, before what stands behind it
abbrev pub EachBefore : {A : Type 0} → (A → List Tok → List Tok) → (A → List Tok → Type 0) → List A → List Tok
    → Type 0
EachBefore one Holds [] rest = ⊤
EachBefore one Holds (first ∷ others) rest =
    Holds first (further one others rest) × EachBefore one Holds others rest

-- an item between the braces of an initialiser
abbrev pub IsItemPlaced : ℕ → Item → List Tok → Type 0
IsItemPlaced total (Plain value) rest = IsPlaced total value rest
IsItemPlaced total (Set of value) rest =
    IsFieldPlaced total of (tok.Sign sign.Assign ∷ expression value rest) × IsPlaced total value rest

-- an initialiser
abbrev pub IsInitialiserPlaced : ℕ → Init → List Tok → Type 0
IsInitialiserPlaced total (One value) rest = IsPlaced total value rest
IsInitialiserPlaced total (Many items at) rest =
    IsAt total at (initialiser (Many items at) rest)
    × EachBefore item (IsItemPlaced total) items (tok.Sign sign.CloseBrace ∷ rest)

-- the number of elements, where there is one
abbrev pub IsSizePlaced : ℕ → Option Expr → List Tok → Type 0
IsSizePlaced total None rest = ⊤
IsSizePlaced total (Some size) rest = IsPlaced total size (tok.Sign sign.CloseBracket ∷ rest)

-- what a variable is given at first, where there is anything
abbrev pub IsFirstPlaced : ℕ → Option Init → List Tok → Type 0
IsFirstPlaced total None rest = ⊤
IsFirstPlaced total (Some init) rest = IsInitialiserPlaced total init rest

-- a declared variable
abbrev pub IsDeclaratorPlaced : ℕ → Declr → List Tok → Type 0
IsDeclaratorPlaced total declared rest =
    IsAt total declared.at (declarator declared rest)
    × IsSizePlaced total declared.size (first_part declared.init rest)
    × IsFirstPlaced total declared.init rest

-- the type of a declaration
abbrev pub IsTypePlaced : ℕ → DeclType → List Tok → Type 0
IsTypePlaced total (type.ById value ext at) rest = IsAt total at (tok.Num ext value ∷ rest)
IsTypePlaced total (type.ByName name at) rest = IsAt total at (tok.Name name ∷ rest)
IsTypePlaced total _ rest = ⊤

-- a declaration
abbrev pub IsDeclarationPlaced : ℕ → Decl → List Tok → Type 0
IsDeclarationPlaced total declared rest =
    IsAt total declared.at (declaration declared rest)
    × IsTypePlaced total declared.what (separated declarator declared.items (tok.Sign sign.Semi ∷ rest))
    × EachBefore declarator (IsDeclaratorPlaced total) declared.items (tok.Sign sign.Semi ∷ rest)
