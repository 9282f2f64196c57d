-- The tokens of expressions and declarations (CAPL manual, operators and declarations).
--
-- A part is written out before a rest: its own tokens and then the rest. So a whole is its parts, each
-- written out before what stands behind it. Where a token stands in its file is no part of this.
use Rattle.std.specs.Prelude.{true, false, List, [], ◌∷◌, Option, Some, None}
use Rattle.capl_lexer.specs.declared.token.Tok.{Tok}
use Rattle.capl_lexer.specs.declared.token.Tok.TheVariants as tok
use Rattle.capl_lexer.specs.declared.token.Word.TheVariants as word
use Rattle.capl_lexer.specs.declared.token.Sign.TheVariants as sign
use Rattle.capl_tree.specs.declared.expr.Expr.{Expr, Row_of-Expr, end_of-Expr, more_of-Expr}
use Rattle.capl_tree.specs.declared.expr.Expr.TheVariants as expr
use Rattle.capl_tree.specs.declared.expr.Field.{Field}
use Rattle.capl_tree.specs.declared.expr.Field.TheVariants.{Named}
use Rattle.capl_tree.specs.declared.declaration.Decl.{Decl}
use Rattle.capl_tree.specs.declared.declaration.DeclType.{DeclType}
use Rattle.capl_tree.specs.declared.declaration.DeclType.TheVariants as type
use Rattle.capl_tree.specs.declared.declaration.Declr.{Declr}
use Rattle.capl_tree.specs.declared.declaration.Init.{Init}
use Rattle.capl_tree.specs.declared.declaration.Init.TheVariants.{One, Many}
use Rattle.capl_tree.specs.declared.declaration.Item.{Item}
use Rattle.capl_tree.specs.declared.declaration.Item.TheVariants.{Plain, Set}
use Rattle.capl_tree.specs.Forms as form
use Rattle.capl_tree.specs.Binding.{kind_word, prefix_sign, postfix_sign, operator_sign, assignment_sign}

abbrev mutual
  -- an expression
  pub expression : Expr → List Tok → List Tok
  expression (expr.Num value ext at) rest = tok.Num ext value ∷ rest
  expression (expr.Char value at) rest = tok.Char value ∷ rest
  expression (expr.Str text at) rest = tok.Str text ∷ rest
  expression (expr.This at) rest = tok.Word word.This ∷ rest
  expression (expr.Name name at) rest = tok.Name name ∷ rest
  expression (form.Paren inner at) rest =
      tok.Sign sign.OpenParen ∷ expression inner (tok.Sign sign.CloseParen ∷ rest)
  expression (expr.Call' name shape args at) rest =
      tok.Name name ∷ tok.Sign sign.OpenParen ∷ arguments args (tok.Sign sign.CloseParen ∷ rest)
  expression (form.Index base index at) rest =
      expression base (tok.Sign sign.OpenBracket ∷ expression index (tok.Sign sign.CloseBracket ∷ rest))
  expression (form.Member base inner at) rest = expression base (tok.Sign sign.Dot ∷ field inner rest)
  expression (form.Cast of inner at) rest =
      tok.Sign sign.OpenParen ∷ tok.Word (kind_word of) ∷ tok.Sign sign.CloseParen ∷ expression inner rest
  expression (form.Unary operator inner at) rest = tok.Sign (prefix_sign operator) ∷ expression inner rest
  expression (form.Post up inner at) rest = expression inner (tok.Sign (postfix_sign up) ∷ rest)
  expression (form.Binary operator left right at) rest =
      expression left (tok.Sign (operator_sign operator) ∷ expression right rest)
  expression (form.Cond test one other at) rest =
      expression test
      (tok.Sign sign.Question ∷ expression one (tok.Sign sign.Colon ∷ expression other rest))
  expression (form.Assign operator left right at) rest =
      expression left (tok.Sign (assignment_sign operator) ∷ expression right rest)

  -- a field
  pub field : Field → List Tok → List Tok
  field (Named name at) rest = tok.Name name ∷ rest
  field (form.Bytes of index at) rest =
      tok.Word (kind_word of) ∷ tok.Sign sign.OpenParen ∷ expression index (tok.Sign sign.CloseParen ∷ rest)

  -- expressions with commas between them
  pub arguments : {m : _} → Row_of-Expr m → List Tok → List Tok
  arguments end_of-Expr rest = rest
  arguments (more_of-Expr first others) rest = expression first (further_arguments others rest)

  -- expressions, each behind a comma
  pub further_arguments : {m : _} → Row_of-Expr m → List Tok → List Tok
  further_arguments end_of-Expr rest = rest
  further_arguments (more_of-Expr first others) rest =
      tok.Sign sign.Comma ∷ expression first (further_arguments others rest)

-- items, each behind a comma
abbrev pub further : {A : Type 0} → (A → List Tok → List Tok) → List A → List Tok → List Tok
further one [] rest = rest
further one (first ∷ others) rest = tok.Sign sign.Comma ∷ one first (further one others rest)

-- items with commas between them
abbrev pub separated : {A : Type 0} → (A → List Tok → List Tok) → List A → List Tok → List Tok
separated one [] rest = rest
separated one (first ∷ others) rest = one first (further one others rest)

-- an item between the braces of an initialiser
abbrev pub item : Item → List Tok → List Tok
item (Plain value) rest = expression value rest
item (Set of value) rest = field of (tok.Sign sign.Assign ∷ expression value rest)

-- an initialiser
abbrev pub initialiser : Init → List Tok → List Tok
initialiser (One value) rest = expression value rest
initialiser (Many items at) rest =
    tok.Sign sign.OpenBrace ∷ separated item items (tok.Sign sign.CloseBrace ∷ rest)

-- the number of elements, where there is one
abbrev pub size_part : Option Expr → List Tok → List Tok
size_part None rest = rest
size_part (Some size) rest =
    tok.Sign sign.OpenBracket ∷ expression size (tok.Sign sign.CloseBracket ∷ rest)

-- what a variable is given at first, where there is anything
abbrev pub first_part : Option Init → List Tok → List Tok
first_part None rest = rest
first_part (Some init) rest = tok.Sign sign.Assign ∷ initialiser init rest

-- a declared variable
abbrev pub declarator : Declr → List Tok → List Tok
declarator declared rest = tok.Name declared.name ∷ size_part declared.size (first_part declared.init rest)

-- the type of a declaration
abbrev pub declared_type : DeclType → List Tok → List Tok
declared_type (type.Number of true) rest = tok.Word word.Const ∷ tok.Word (kind_word of) ∷ rest
declared_type (type.Number of false) rest = tok.Word (kind_word of) ∷ rest
declared_type type.Any rest = tok.Word word.Message ∷ tok.Sign sign.Star ∷ rest
declared_type (type.ById value ext at) rest = tok.Word word.Message ∷ tok.Num ext value ∷ rest
declared_type (type.ByName name at) rest = tok.Word word.Message ∷ tok.Name name ∷ rest
declared_type type.Seconds rest = tok.Word word.Timer ∷ rest
declared_type type.Millis rest = tok.Word word.MsTimer ∷ rest

-- a declaration
abbrev pub declaration : Decl → List Tok → List Tok
declaration declared rest =
    declared_type declared.what (separated declarator declared.items (tok.Sign sign.Semi ∷ rest))
