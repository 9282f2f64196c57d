-- A declaration that small tokens spell is small.
use Rattle.std.proofs.Common.{true, false, List, [], ◌∷◌, Option, Some, None, arith}
use Rattle.std.specs.Prelude.{⊤, IfSome}
use Rattle.std.specs.List.{AllByRecursion}
use Rattle.capl_lexer.specs.declared.token.Tok.{Tok}
use Rattle.capl_lexer.specs.declared.token.Tok.TheVariants as tok
use Rattle.capl_lexer.specs.declared.token.Sign.TheVariants as sign
use Rattle.capl_tree.specs.declared.expr.Expr.{Expr}
use Rattle.capl_tree.specs.declared.declaration.DeclType.{DeclType}
use Rattle.capl_tree.specs.declared.declaration.DeclType.TheVariants as type
use Rattle.capl_tree.specs.declared.declaration.Init.{Init}
use Rattle.capl_tree.specs.declared.declaration.Init.TheVariants.{One, Many}
use Rattle.capl_tree.specs.declared.declaration.Item.TheVariants.{Plain, Set}
use Rattle.capl_tree.specs.Spelling as spell
use Rattle.capl_tree.specs.Spelling.{expression, separated, further}
use Rattle.capl_tree.specs.FileSpelling.{each, label, label_part}
use Rattle.sound_programs.specs.Small.{IsShortList, IsSmallDecl, IsSmallInit}
use Rattle.small_trees.specs.Tokens.{AreSmallToks}
use Rattle.small_trees.proofs.LightExpressions.{field_light}
use Rattle.small_trees.proofs.Longer.{IsLonger, declarator_longer, item_longer, size_longer, type_longer}
use Rattle.small_trees.proofs.SmallExpressions.{expression_small, field_small}

-- what small tokens spell is small, and what stands behind it too
abbrev pub IsSmallWhere : {A : Type 0} → (A → List Tok → List Tok) → (A → Type 0) → Type 0
IsSmallWhere {A} one P = (x : A) (ts : List Tok) → IsShortList (one x ts) → AreSmallToks (one x ts) → P x × AreSmallToks ts

module _ {A : Type 0} (one : A → List Tok → List Tok) (P : A → Type 0) (longer : IsLonger one) (small_one : IsSmallWhere one P) where
  -- items, each behind a comma
  pub further_small : (xs : List A) (ts : List Tok) → IsShortList (further one xs ts) → AreSmallToks (further one xs ts) → AllByRecursion P xs × AreSmallToks ts
  further_small [] ts short small = (tt, small)
  further_small (x ∷ xs) ts short small =
      let behind = further one xs ts in
      let head = small_one x behind (omega (arith, short)) small.1 in
      let tail = further_small xs ts (omega (arith, short, longer x behind)) head.1 in
      ((head.0, tail.0), tail.1)

  -- items with commas between them
  pub separated_small : (xs : List A) (ts : List Tok) → IsShortList (separated one xs ts) → AreSmallToks (separated one xs ts) → AllByRecursion P xs × AreSmallToks ts
  separated_small [] ts short small = (tt, small)
  separated_small (x ∷ xs) ts short small =
      let behind = further one xs ts in
      let head = small_one x behind short small in
      let tail = further_small xs ts (omega (arith, short, longer x behind)) head.1 in
      ((head.0, tail.0), tail.1)

  -- items, one after another
  pub each_small : (xs : List A) (ts : List Tok) → IsShortList (each one xs ts) → AreSmallToks (each one xs ts) → AllByRecursion P xs × AreSmallToks ts
  each_small [] ts short small = (tt, small)
  each_small (x ∷ xs) ts short small =
      let behind = each one xs ts in
      let head = small_one x behind short small in
      let tail = each_small xs ts (omega (arith, short, longer x behind)) head.1 in
      ((head.0, tail.0), tail.1)

-- an item of an initialiser
pub item_small : IsSmallWhere spell.item (λ item. ⊤)
item_small (Plain value) ts short small = (tt, (expression_small value ts short small).1)
item_small (Set of value) ts short small =
    let behind = tok.Sign sign.Assign ∷ expression value ts in
    let one = field_small of behind short small in
    (tt, (expression_small value ts (omega (arith, short, field_light of behind)) one.1.1).1)

-- what a variable is given at first
pub first_small : (init : Option Init) (ts : List Tok) → IsShortList (spell.first_part init ts) → AreSmallToks (spell.first_part init ts) →
    IfSome init IsSmallInit × AreSmallToks ts
first_small None ts short small = (tt, small)
first_small (Some (One value)) ts short small = expression_small value ts (omega (arith, short)) small.1
first_small (Some (Many items at)) ts short small =
    let it = separated_small spell.item (λ item. ⊤) item_longer item_small items (tok.Sign sign.CloseBrace ∷ ts) (omega (arith, short)) small.1.1 in
    (tt, it.1.1)

-- what stands behind the number of elements
pub size_small : (size : Option Expr) (ts : List Tok) → IsShortList (spell.size_part size ts) → AreSmallToks (spell.size_part size ts) → AreSmallToks ts
size_small None ts short small = small
size_small (Some size) ts short small = (expression_small size (tok.Sign sign.CloseBracket ∷ ts) (omega (arith, short)) small.1).1.1

-- a declared variable
pub declarator_small : IsSmallWhere spell.declarator (λ declared. IfSome declared.init IsSmallInit)
declarator_small d ts short small =
    let behind = spell.first_part d.init ts in
    first_small d.init ts (omega (arith, short, size_longer d.size behind)) (size_small d.size behind (omega (arith, short)) small.1)

-- what stands behind the type of a declaration
pub type_small : (what : DeclType) (ts : List Tok) → AreSmallToks (spell.declared_type what ts) → AreSmallToks ts
type_small (type.Number of true) ts small = small.1.1
type_small (type.Number of false) ts small = small.1
type_small type.Any ts small = small.1.1
type_small (type.ById value ext at) ts small = small.1.1
type_small (type.ByName name at) ts small = small.1.1
type_small type.Seconds ts small = small.1
type_small type.Millis ts small = small.1

-- a declaration
pub declaration_small : IsSmallWhere spell.declaration IsSmallDecl
declaration_small d ts short small =
    let last = tok.Sign sign.Semi ∷ ts in
    let behind = separated spell.declarator d.items last in
    let it = separated_small spell.declarator (λ declared. IfSome declared.init IsSmallInit) declarator_longer declarator_small d.items last
    (omega (arith, short, type_longer d.what behind)) (type_small d.what behind small) in
    (it.0, it.1.1)

-- a label
pub label_small : IsSmallWhere label (λ l. ⊤)
label_small l ts short small = (tt, by l.value short small)
  where
    by : (value : Option Expr) → IsShortList (label_part value ts) → AreSmallToks (label_part value ts) → AreSmallToks ts
    by None short small = small.1.1
    by (Some value) short small = (expression_small value (tok.Sign sign.Colon ∷ ts) (omega (arith, short)) small.1).1.1
