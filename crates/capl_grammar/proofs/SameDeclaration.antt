-- Declarations are what their pieces say.
use Rattle.std.proofs.Common.{ℕ, true, false, Option, Some, None, arith}
use Rattle.std.specs.Option.{ForSome}
use Rattle.capl_lexer.specs.declared.token.Tok.TheVariants as tok
use Rattle.capl_lexer.specs.declared.token.Word.TheVariants as word
use Rattle.capl_lexer.specs.declared.token.Sign.TheVariants as sign
use Rattle.capl_tree.specs.declared.expr.Expr.{Expr}
use Rattle.capl_tree.specs.declared.declaration.Decl.{Decl}
use Rattle.capl_tree.specs.declared.declaration.DeclType.{DeclType}
use Rattle.capl_tree.specs.declared.declaration.DeclType.TheVariants as type
use Rattle.capl_tree.specs.declared.declaration.Declr.{Declr}
use Rattle.capl_tree.specs.declared.declaration.Init.{Init}
use Rattle.capl_tree.specs.declared.declaration.Init.TheVariants.{One, Many}
use Rattle.capl_tree.specs.declared.declaration.Item.{Item}
use Rattle.capl_tree.specs.declared.declaration.Item.TheVariants.{Plain, Set}
use Rattle.capl_tree.specs.Binding.{choice_level, kind_word}
use Rattle.capl_tree.specs.Grammar.{IsValue, IsInitialItem, IsInitialiser, IsDeclared, IsDeclaration}
use Rattle.capl_tree.specs.Spelling as spelled
use Rattle.capl_tree.specs.Placed.{IsPlaced, IsItemPlaced, IsInitialiserPlaced, IsSizePlaced, IsFirstPlaced, IsDeclaratorPlaced, IsTypePlaced, IsDeclarationPlaced}
use Rattle.capl_grammar.specs.Expression.{value, item, initialiser, size_part, initialiser_part, declarator, declared_type, declaration}
use Rattle.capl_grammar.proofs.Same.{Same, ItemSame, token, only, both, ended, became, placed, asked, missing, present, some_items, separated_same}
use Rattle.capl_grammar.proofs.SameExpression.{expression_same, field_same}

module _ (total : ℕ) where
  -- an expression that is no assignment
  pub value_same : (e : Expr) → ItemSame total value spelled.expression IsValue (IsPlaced total) e
  value_same e = became (expression_same total e choice_level (omega arith)) assumption

  item_same : (i : Item) → ItemSame total item spelled.item IsInitialItem (IsItemPlaced total) i
  item_same (Plain given) = value_same given
  item_same (Set of given) =
      became (both (ended (field_same total of) (tok.Sign sign.Assign)) (value_same given)) assumption

  initialiser_same : (i : Init)
      → ItemSame total initialiser spelled.initialiser IsInitialiser (IsInitialiserPlaced total) i
  initialiser_same (One given) = value_same given
  initialiser_same (Many items at) =
      became
      (placed at
      (token (tok.Sign sign.OpenBrace)
      (asked (some_items items) (ended (separated_same item_same items) (tok.Sign sign.CloseBrace)))))
      assumption

  size_same : (size : Option Expr)
      → Same total (size_part size) (spelled.size_part size)
      (λ rest. ForSome size IsValue × IsSizePlaced total size rest)
  size_same None = missing IsValue
  size_same (Some size) =
      present IsValue size
      (token (tok.Sign sign.OpenBracket) (ended (value_same size) (tok.Sign sign.CloseBracket)))

  first_same : (init : Option Init)
      → Same total (initialiser_part init) (spelled.first_part init)
      (λ rest. ForSome init IsInitialiser × IsFirstPlaced total init rest)
  first_same None = missing IsInitialiser
  first_same (Some init) =
      present IsInitialiser init (token (tok.Sign sign.Assign) (initialiser_same init))

  declarator_same : (d : Declr)
      → ItemSame total declarator spelled.declarator IsDeclared (IsDeclaratorPlaced total) d
  declarator_same d =
      became (placed d.at (token (tok.Name d.name) (both (size_same d.size) (first_same d.init)))) assumption

  type_same : (t : DeclType)
      → Same total (declared_type t) (spelled.declared_type t) (IsTypePlaced total t)
  type_same (type.Number of true) = token (tok.Word word.Const) (only (tok.Word (kind_word of)))
  type_same (type.Number of false) = only (tok.Word (kind_word of))
  type_same type.Any = token (tok.Word word.Message) (only (tok.Sign sign.Star))
  type_same (type.ById value ext at) =
      became (token (tok.Word word.Message) (placed at (only (tok.Num ext value)))) assumption
  type_same (type.ByName name at) =
      became (token (tok.Word word.Message) (placed at (only (tok.Name name)))) assumption
  type_same type.Seconds = only (tok.Word word.Timer)
  type_same type.Millis = only (tok.Word word.MsTimer)

  -- a declaration
  pub declaration_same : (d : Decl)
      → ItemSame total declaration spelled.declaration IsDeclaration (IsDeclarationPlaced total) d
  declaration_same d =
      became
      (placed d.at
      (asked (some_items d.items)
      (both (type_same d.what)
      (ended (separated_same declarator_same d.items) (tok.Sign sign.Semi)))))
      assumption
