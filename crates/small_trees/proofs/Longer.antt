-- Lists have no more items than there are tokens that spell them.
use Rattle.std.proofs.Common.{◌+◌, ◌*◌, ◌≤◌, ◌<◌, true, false, List, [], ◌∷◌, length, Option, Some, None, arith}
use Rattle.capl_lexer.specs.declared.token.Tok.{Tok}
use Rattle.capl_lexer.specs.declared.token.Tok.TheVariants as tok
use Rattle.capl_lexer.specs.declared.token.Sign.TheVariants as sign
use Rattle.capl_tree.specs.declared.expr.Expr.{Expr}
use Rattle.capl_tree.specs.declared.declaration.DeclType.TheVariants as type
use Rattle.capl_tree.specs.declared.declaration.Init.{Init}
use Rattle.capl_tree.specs.declared.declaration.Init.TheVariants.{One, Many}
use Rattle.capl_tree.specs.declared.declaration.Item.TheVariants.{Plain, Set}
use Rattle.capl_tree.specs.Spelling as spell
use Rattle.capl_tree.specs.Spelling.{expression, separated, further}
use Rattle.capl_tree.specs.FileSpelling.{each, label, label_part}
use Rattle.small_trees.proofs.LightExpressions.{expression_light, expression_weighs, field_light}

-- what is spelled is longer than what stands behind it
abbrev pub IsLonger : {A : Type 0} → (A → List Tok → List Tok) → Type 0
IsLonger {A} one = (x : A) (ts : List Tok) → length ts < length (one x ts)

module _ {A : Type 0} (one : A → List Tok → List Tok) (longer : IsLonger one) where
  -- items, each behind a comma
  pub further_longer : (xs : List A) (ts : List Tok) → 2 * length xs + length ts ≤ length (further one xs ts)
  further_longer [] ts = omega arith
  further_longer (x ∷ xs) ts = omega (arith, longer x (further one xs ts), further_longer xs ts)

  -- items with commas between them
  pub separated_longer : (xs : List A) (ts : List Tok) → length xs + length ts ≤ length (separated one xs ts)
  separated_longer [] ts = omega arith
  separated_longer (x ∷ xs) ts = omega (arith, longer x (further one xs ts), further_longer xs ts)

  -- a comma stands before each of them but the first
  pub separated_with_commas : (xs : List A) (ts : List Tok) → 2 * length xs + length ts ≤ length (separated one xs ts) + 1
  separated_with_commas [] ts = omega arith
  separated_with_commas (x ∷ xs) ts = omega (arith, longer x (further one xs ts), further_longer xs ts)

  -- items, one after another
  pub each_longer : (xs : List A) (ts : List Tok) → length xs + length ts ≤ length (each one xs ts)
  each_longer [] ts = omega arith
  each_longer (x ∷ xs) ts = omega (arith, longer x (each one xs ts), each_longer xs ts)

-- an expression
pub expression_longer : IsLonger expression
expression_longer e ts = omega (arith, expression_light e ts, expression_weighs e)

-- a label
pub label_longer : IsLonger label
label_longer l ts = by l.value
  where
    by : (value : Option Expr) → length ts < length (label_part value ts)
    by None = omega arith
    by (Some value) = omega (arith, expression_longer value (tok.Sign sign.Colon ∷ ts))

-- an item of an initialiser
pub item_longer : IsLonger spell.item
item_longer (Plain value) ts = expression_longer value ts
item_longer (Set of value) ts = omega (arith, field_light of (tok.Sign sign.Assign ∷ expression value ts), expression_longer value ts)

-- what a variable is given at first
pub first_longer : (init : Option Init) (ts : List Tok) → length ts ≤ length (spell.first_part init ts)
first_longer None ts = omega arith
first_longer (Some (One value)) ts = omega (arith, expression_longer value ts)
first_longer (Some (Many items at)) ts = omega (arith, separated_longer spell.item item_longer items (tok.Sign sign.CloseBrace ∷ ts))

-- the number of elements
pub size_longer : (size : Option Expr) (ts : List Tok) → length ts ≤ length (spell.size_part size ts)
size_longer None ts = omega arith
size_longer (Some size) ts = omega (arith, expression_longer size (tok.Sign sign.CloseBracket ∷ ts))

-- a declared variable
pub declarator_longer : IsLonger spell.declarator
declarator_longer d ts = omega (arith, size_longer d.size (spell.first_part d.init ts), first_longer d.init ts)

-- the type of a declaration
pub type_longer : IsLonger spell.declared_type
type_longer (type.Number of true) ts = omega arith
type_longer (type.Number of false) ts = omega arith
type_longer type.Any ts = omega arith
type_longer (type.ById value ext at) ts = omega arith
type_longer (type.ByName name at) ts = omega arith
type_longer type.Seconds ts = omega arith
type_longer type.Millis ts = omega arith

-- a declaration
pub declaration_longer : IsLonger spell.declaration
declaration_longer d ts =
    let behind = separated spell.declarator d.items (tok.Sign sign.Semi ∷ ts) in
    omega (arith, type_longer d.what behind, separated_longer spell.declarator declarator_longer d.items (tok.Sign sign.Semi ∷ ts))
