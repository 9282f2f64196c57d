-- The readers of expressions and of declarations, as statements are read with.
use Rattle.std.proofs.Common.{◌≡◌, ℕ, suc, ◌+◌, ◌≤◌, ◌<◌, Bool, true, false, List, [], ◌∷◌, length, Option, Some, None, refl, ap, arith}
use Rattle.capl_lexer.specs.declared.token.Tok.{Tok}
use Rattle.capl_lexer.specs.declared.token.Tok.TheVariants as tok
use Rattle.capl_lexer.specs.declared.token.Sign.{Sign}
use Rattle.capl_lexer.specs.declared.token.Sign.TheVariants as sign
use Rattle.capl_tree.specs.declared.expr.Expr.{Expr}
use Rattle.capl_tree.specs.declared.expr.Field.{Field}
use Rattle.capl_tree.specs.declared.expr.Field.TheVariants.{Named}
use Rattle.capl_tree.specs.declared.declaration.Decl.{Decl}
use Rattle.capl_tree.specs.declared.declaration.DeclType.{DeclType}
use Rattle.capl_tree.specs.declared.declaration.DeclType.TheVariants as type
use Rattle.capl_tree.specs.declared.declaration.Declr.{Declr}
use Rattle.capl_tree.specs.declared.declaration.Init.{Init}
use Rattle.capl_tree.specs.declared.declaration.Init.TheVariants.{One, Many}
use Rattle.capl_tree.specs.declared.declaration.Item.{Item}
use Rattle.capl_tree.specs.declared.declaration.Item.TheVariants.{Plain, Set}
use Rattle.capl_tree.specs.Forms as form
use Rattle.capl_tree.specs.Binding.{choice_level}
use Rattle.capl_tree.specs.Grammar.{IsExpression}
use Rattle.capl_tree.specs.Spelling.{expression, field, further, separated, item, initialiser, size_part, first_part, declarator, declared_type, declaration}
use Rattle.capl_tree.specs.Placed.{IsPlaced}
use Rattle.expr_parser.specs.Operators.{binding}
use Rattle.expr_parser.proofs.Complete.{complete, longer, level_least, place_first}
use Rattle.expr_parser.proofs.Sound.{sound}
use Rattle.decl_parser.proofs.Complete.{declaration_complete}
use Rattle.decl_parser.proofs.Sound.{declaration_sound}
use Rattle.parser_laws.specs.Statement.{parts_of}
use Rattle.parser_laws.proofs.Known.{closes, AreComplete}
use Rattle.parser_laws.proofs.SoundStatement.{AreSound}

-- no sign that stands behind an expression in a statement goes on with it
closes_binding : (end : Sign) (ts : List Tok) → closes end ≡ true → binding (tok.Sign end ∷ ts) ≡ 0
closes_binding sign.Semi ts is = refl
closes_binding sign.CloseParen ts is = refl
closes_binding sign.Colon ts is = refl
closes_binding _ ts is = absurd cc

-- a declaration is longer than what stands behind it

field_longer : (f : Field) (ts : List Tok) → length ts ≤ length (field f ts)
field_longer (Named name at) ts = omega arith
field_longer (form.Bytes of index at) ts = omega (arith, longer index (tok.Sign sign.CloseParen ∷ ts))

item_longer : (i : Item) (ts : List Tok) → length ts ≤ length (item i ts)
item_longer (Plain value) ts = omega (arith, longer value ts)
item_longer (Set of value) ts = omega (arith, longer value ts, field_longer of (tok.Sign sign.Assign ∷ expression value ts))

further_longer : {A : Type 0} (one : A → List Tok → List Tok) → ((item : A) (ts : List Tok) → length ts ≤ length (one item ts))
    → (all : List A) (ts : List Tok) → length ts ≤ length (further one all ts)
further_longer one each [] ts = omega arith
further_longer one each (first ∷ others) ts = omega (arith, each first (further one others ts), further_longer one each others ts)

separated_longer : {A : Type 0} (one : A → List Tok → List Tok) → ((item : A) (ts : List Tok) → length ts ≤ length (one item ts))
    → (all : List A) (ts : List Tok) → length ts ≤ length (separated one all ts)
separated_longer one each [] ts = omega arith
separated_longer one each (first ∷ others) ts = omega (arith, each first (further one others ts), further_longer one each others ts)

initialiser_longer : (init : Init) (ts : List Tok) → length ts ≤ length (initialiser init ts)
initialiser_longer (One value) ts = omega (arith, longer value ts)
initialiser_longer (Many items at) ts = omega (arith, separated_longer item item_longer items (tok.Sign sign.CloseBrace ∷ ts))

size_longer : (size : Option Expr) (ts : List Tok) → length ts ≤ length (size_part size ts)
size_longer None ts = omega arith
size_longer (Some size) ts = omega (arith, longer size (tok.Sign sign.CloseBracket ∷ ts))

first_longer : (init : Option Init) (ts : List Tok) → length ts ≤ length (first_part init ts)
first_longer None ts = omega arith
first_longer (Some init) ts = omega (arith, initialiser_longer init ts)

declarator_longer : (declared : Declr) (ts : List Tok) → length ts ≤ length (declarator declared ts)
declarator_longer declared ts = omega (arith, size_longer declared.size (first_part declared.init ts), first_longer declared.init ts)

type_longer : (what : DeclType) (ts : List Tok) → length ts < length (declared_type what ts)
type_longer (type.Number kind true) ts = omega arith
type_longer (type.Number kind false) ts = omega arith
type_longer type.Any ts = omega arith
type_longer (type.ById value ext at) ts = omega arith
type_longer (type.ByName name at) ts = omega arith
type_longer type.Seconds ts = omega arith
type_longer type.Millis ts = omega arith

declaration_longer : (declared : Decl) (ts : List Tok) → length ts < length (declaration declared ts)
declaration_longer declared ts =
    omega (
      arith,
      type_longer declared.what (separated declarator declared.items (tok.Sign sign.Semi ∷ ts)),
      separated_longer declarator declarator_longer declared.items (tok.Sign sign.Semi ∷ ts),
    )

-- they read what stands in its place
pub complete_parts : (total : ℕ) → AreComplete (parts_of total)
complete_parts total = record {
  value = λ e end ts closing well placed.
      complete total e 1 (total + 1) (tok.Sign end ∷ ts) well placed (level_least e) (omega (arith, closes_binding end ts closing))
      (omega (arith, place_first total e (tok.Sign end ∷ ts) placed));
  constant = λ e end ts closing well placed.
      complete total e 2 (total + 1) (tok.Sign end ∷ ts) well.0 placed well.1 (omega (arith, closes_binding end ts closing))
      (omega (arith, place_first total e (tok.Sign end ∷ ts) placed));
  value_longer = longer;
  declared = λ d ts well placed. declaration_complete total (total + 1) d ts well placed (omega (arith, placed.0));
  declared_longer = declaration_longer;
}

-- what they read stands in its place
pub sound_parts : (total : ℕ) → AreSound (parts_of total)
sound_parts total = record {
  value = λ ts e rest fits is. let read = sound total (total + 1) 1 ts e rest (omega arith) (omega arith) fits is in
      record { spelled = read.spelled; well = read.well; placed = read.placed; shorter = omega (arith, ap length read.spelled, longer e rest) };
  constant = λ ts e rest fits is. let read = sound total (total + 1) 2 ts e rest (omega arith) (omega arith) fits is in
      record { spelled = read.spelled; well = (read.well, read.low); placed = read.placed; shorter = omega (arith, ap length read.spelled, longer e rest) };
  declared = λ ts d rest fits is. let read = declaration_sound total (total + 1) ts d rest fits is in
      record { spelled = read.spelled; well = read.well; placed = read.placed; shorter = omega (arith, ap length read.spelled, declaration_longer d rest) };
}
