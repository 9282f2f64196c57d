-- What is read is a well formed and placed declaration, and the tokens are its spelling.
use Rattle.std.proofs.Common.{◌≡◌, ◌≢◌, ℕ, ◌+◌, ◌-◌, ◌≤◌, ◌<◌, Bool, true, false, if◌then◌else◌, List, [], ◌∷◌, length, Option, Some, None, refl, ap, sym, subst, ◌∙◌, arith}
use Rattle.std.specs.Prelude.{⊤, All}
use Rattle.std.specs.Option.{ForSome}
use Rattle.std.proofs.lemmas.List.Elements.{All-cons, All-nil}
use Rattle.int_kinds.specs.declared.kinds.Kind.{Kind}
use Rattle.capl_lexer.specs.declared.token.Tok.{Tok}
use Rattle.capl_lexer.specs.declared.token.Tok.TheVariants as tok
use Rattle.capl_lexer.specs.declared.token.Word.{Word}
use Rattle.capl_lexer.specs.declared.token.Word.TheVariants as word
use Rattle.capl_lexer.specs.declared.token.Sign.TheVariants as sign
use Rattle.capl_tree.specs.declared.expr.Expr.{Expr}
use Rattle.capl_tree.specs.declared.expr.Expr.TheVariants as expr
use Rattle.capl_tree.specs.declared.expr.Field.{Field}
use Rattle.capl_tree.specs.declared.expr.Field.TheVariants.{Named}
use Rattle.capl_tree.specs.declared.declaration.Decl.{Decl}
use Rattle.capl_tree.specs.declared.declaration.DeclType.{DeclType}
use Rattle.capl_tree.specs.declared.declaration.DeclType.TheVariants as type
use Rattle.capl_tree.specs.declared.declaration.Declr.{Declr}
use Rattle.capl_tree.specs.declared.declaration.Init.{Init}
use Rattle.capl_tree.specs.declared.declaration.Init.TheVariants.{One, Many}
use Rattle.capl_tree.specs.declared.declaration.Item.{Item}
use Rattle.capl_tree.specs.declared.declaration.Item.TheVariants.{Plain, Set}
use Rattle.capl_tree.specs.Grammar.{IsField, IsExpression, IsValue, IsInitialItem, IsInitialiser, IsDeclared, IsDeclaration}
use Rattle.capl_tree.specs.Spelling as spelled
use Rattle.capl_tree.specs.Binding.{kind_word}
use Rattle.capl_tree.specs.Spelling.{further, separated}
use Rattle.capl_tree.specs.Placed.{IsAt, IsPlaced, IsFieldPlaced, EachBefore, IsItemPlaced, IsInitialiserPlaced, IsSizePlaced, IsFirstPlaced, IsDeclaratorPlaced, IsTypePlaced, IsDeclarationPlaced}
use Rattle.expr_parser.specs.Operators.{kind_at, kind_of}
use Rattle.expr_parser.specs.Reading.{Read, and_then, begins, behind, after, items}
use Rattle.expr_parser.specs.Expression.{expression, field}
use Rattle.expr_parser.proofs.Steps.{and_then_some, given, moved, begins_next, after_some}
use Rattle.expr_parser.proofs.ListsSound.{IsSoundFor, ReadsItems, items_sound}
use Rattle.expr_parser.proofs.Back.{kind_next}
use Rattle.expr_parser.proofs.Complete.{longer}
use Rattle.expr_parser.proofs.Sound.{sound, field_sound}
use Rattle.decl_parser.specs.Declaration as read
use Rattle.decl_parser.specs.Laws.{ReadsDeclaration}
use Rattle.decl_parser.proofs.Complete.{item_longer, declarator_longer}

-- what was read is spelled by the tokens, and has the properties
record Part {A : Type 0} (one : A → List Tok → List Tok) (P : A → Type 0) (Q : A → List Tok → Type 0) (ts : List Tok) (part : A) (rest : List Tok) : Type 0 where
  written : ts ≡ one part rest
  well : P part
  placed : Q part rest

-- a value
value_part : (total depth : ℕ) (ts : List Tok) (e : Expr) (rest : List Tok) → length ts ≤ total → read.value total depth ts ≡ Some (e, rest)
    → Part spelled.expression IsValue (IsPlaced total) ts e rest
value_part total depth ts e rest below f =
    let r = sound total depth 2 ts e rest (omega arith) (omega arith) below f in
    record { written = r.spelled; well = (r.well, r.low); placed = r.placed }

shorter : (ts : List Tok) (e : Expr) (rest : List Tok) → ts ≡ spelled.expression e rest → length rest ≤ length ts
shorter ts e rest is = omega (arith, ap length is, longer e rest)

-- behind a field: `=` and the value
set_part : (total depth : ℕ) (whole : List Tok) (f : Field) (ts : List Tok) → whole ≡ spelled.field f ts → length ts ≤ total
    → Part spelled.field IsField (IsFieldPlaced total) whole f ts
    → (i : Item) (rest : List Tok) → read.set total depth f ts ≡ Some (i, rest) → Part spelled.item IsInitialItem (IsItemPlaced total) whole i rest
unfolding read.set
set_part total depth whole f ts is below field i rest e =
    let assign = and_then_some (after sign.Assign ts) (λ _ rest. and_then (read.value total depth rest) (λ e rest. Some (Set f e, rest))) (i, rest) e in
    let value = and_then_some (read.value total depth assign.1) (λ e rest. Some (Set f e, rest)) (i, rest) assign.3 in
    let at_assign = after_some sign.Assign ts assign.0 assign.1 assign.2 in
    let part = value_part total depth assign.1 value.0 value.1 (omega (arith, ap length at_assign)) value.2 in
    let all : ts ≡ tok.Sign sign.Assign ∷ spelled.expression value.0 value.1 = at_assign ∙ ap (λ (ts : List Tok). tok.Sign sign.Assign ∷ ts) part.written in
    moved (Part spelled.item IsInitialItem (IsItemPlaced total) whole) (Set f value.0) i value.1 rest value.3
    (record {
      written = field.written ∙ ap (λ (ts : List Tok). spelled.field f ts) all;
      well = (field.well, part.well);
      placed = (subst (λ ts. IsFieldPlaced total f ts) all field.placed, part.placed);
    })

plain_item : (total : ℕ) (whole : List Tok) (e : Expr) (ts : List Tok) → Part spelled.expression IsValue (IsPlaced total) whole e ts
    → (i : Item) (rest : List Tok) → given (Plain e) ts ≡ given i rest → Part spelled.item IsInitialItem (IsItemPlaced total) whole i rest
plain_item total whole e ts part i rest f =
    moved (Part spelled.item IsInitialItem (IsItemPlaced total) whole) (Plain e) i ts rest f
    (record { written = part.written; well = part.well; placed = part.placed })

-- before `=`: the name of a field
set_name_part : (total depth : ℕ) (whole : List Tok) (e : Expr) (ts : List Tok) → length ts ≤ total → Part spelled.expression IsValue (IsPlaced total) whole e ts
    → (i : Item) (rest : List Tok) → read.set_name total depth e ts ≡ Some (i, rest) → Part spelled.item IsInitialItem (IsItemPlaced total) whole i rest
unfolding read.set_name
set_name_part total depth whole (expr.Name name at) ts below part i rest f =
    set_part total depth whole (Named name at) ts part.written below (record { written = part.written; well = tt; placed = part.placed }) i rest f
set_name_part total depth whole e ts below part i rest f = plain_item total whole e ts part i rest f

plain_part : (total depth : ℕ) (whole : List Tok) (e : Expr) (ts : List Tok) → length ts ≤ total → Part spelled.expression IsValue (IsPlaced total) whole e ts
    → (i : Item) (rest : List Tok) (is_set : Bool) → (if is_set then read.set_name total depth e ts else Some (Plain e, ts)) ≡ Some (i, rest)
    → Part spelled.item IsInitialItem (IsItemPlaced total) whole i rest
plain_part total depth whole e ts below part i rest true f = set_name_part total depth whole e ts below part i rest f
plain_part total depth whole e ts below part i rest false f = plain_item total whole e ts part i rest f

item_part : (total depth : ℕ) (ts : List Tok) (of : Option Kind) → kind_at ts ≡ of → length ts ≤ total → (i : Item) (rest : List Tok)
    → read.item_at total depth of ts ≡ Some (i, rest) → Part spelled.item IsInitialItem (IsItemPlaced total) ts i rest
unfolding read.item_at read.plain
item_part total depth ts None is below i rest f =
    let value = and_then_some (read.value total depth ts) (λ e rest. read.plain total depth e rest) (i, rest) f in
    let part = value_part total depth ts value.0 value.1 below value.2 in
    plain_part total depth ts value.0 value.1 (omega (arith, shorter ts value.0 value.1 part.written)) part i rest (begins sign.Assign value.1) value.3
item_part total depth ts (Some of) is below i rest f =
    let first = and_then_some (field total (expression total depth) ts) (λ f rest. read.set total depth f rest) (i, rest) f in
    let r = field_sound total (expression total depth) (sound total depth) ts below first.0 first.1 first.2 in
    set_part total depth ts first.0 first.1 r.spelled (omega (arith, r.shorter))
    (record { written = r.spelled; well = r.well; placed = r.placed }) i rest first.3

-- All of a list has a property where each of it has, before what stands behind it.
each_well : {A : Type 0} (one : A → List Tok → List Tok) (P : A → Type 0) (Q : A → List Tok → Type 0) (all : List A) (rest : List Tok)
    → EachBefore one (λ a rest. P a × Q a rest) all rest → All P all
each_well one P Q [] rest each = All-nil P
each_well one P Q (first ∷ others) rest each = All-cons P first others each.0.0 (each_well one P Q others rest each.1)

each_placed : {A : Type 0} (one : A → List Tok → List Tok) (P : A → Type 0) (Q : A → List Tok → Type 0) (all : List A) (rest : List Tok)
    → EachBefore one (λ a rest. P a × Q a rest) all rest → EachBefore one Q all rest
each_placed one P Q [] rest each = tt
each_placed one P Q (first ∷ others) rest each = (each.0.1, each_placed one P Q others rest each.1)

items_part : (total depth : ℕ) (ts : List Tok) (all : List Item) (rest : List Tok) → length ts ≤ total → items (read.item total depth) ts ≡ Some (all, rest)
    → ReadsItems spelled.item (λ i rest. IsInitialItem i × IsItemPlaced total i rest) ts all rest
items_part total depth ts all rest below f =
    let one : IsSoundFor total (read.item total depth) spelled.item (λ i rest. IsInitialItem i × IsItemPlaced total i rest) =
    λ ts i rest small f. let part = item_part total depth ts (kind_at ts) refl small i rest f in (part.written, (part.well, part.placed)) in
    items_sound total (read.item total depth) spelled.item (λ i rest. IsInitialItem i × IsItemPlaced total i rest) one item_longer ts all rest below f

initialiser_part : (total depth : ℕ) (ts : List Tok) → length ts ≤ total → (i : Init) (rest : List Tok) (braced : Bool) → begins sign.OpenBrace ts ≡ braced
    → (if braced
    then and_then (items (read.item total depth) (behind ts)) (λ all rest. and_then (after sign.CloseBrace rest) (λ _ rest. Some (Many all (total - length ts), rest)))
    else and_then (read.value total depth ts) (λ e rest. Some (One e, rest))) ≡ Some (i, rest)
    → Part spelled.initialiser IsInitialiser (IsInitialiserPlaced total) ts i rest
initialiser_part total depth ts below i rest true is f =
    let at = total - length ts in
    let all = and_then_some (items (read.item total depth) (behind ts)) (λ all rest. and_then (after sign.CloseBrace rest) (λ _ rest. Some (Many all at, rest))) (i, rest) f in
    let close = and_then_some (after sign.CloseBrace all.1) (λ _ rest. Some (Many all.0 at, rest)) (i, rest) all.3 in
    let first = begins_next sign.OpenBrace ts is in
    let r = items_part total depth (behind ts) all.0 all.1 (omega (arith, ap length first)) all.2 in
    let at_close = after_some sign.CloseBrace all.1 close.0 close.1 close.2 in
    let each = subst (λ ts. EachBefore spelled.item (λ i rest. IsInitialItem i × IsItemPlaced total i rest) all.0 ts) at_close r.each in
    let inside : behind ts ≡ separated spelled.item all.0 (tok.Sign sign.CloseBrace ∷ close.1) = r.spelled ∙ ap (λ (ts : List Tok). separated spelled.item all.0 ts) at_close in
    let whole : ts ≡ spelled.initialiser (Many all.0 at) close.1 = first ∙ ap (λ (ts : List Tok). tok.Sign sign.OpenBrace ∷ ts) inside in
    moved (Part spelled.initialiser IsInitialiser (IsInitialiserPlaced total) ts) (Many all.0 at) i close.1 rest close.3
    (record {
      written = whole;
      well = (r.some, each_well spelled.item IsInitialItem (IsItemPlaced total) all.0 _ each);
      placed = (omega (arith, ap length whole), each_placed spelled.item IsInitialItem (IsItemPlaced total) all.0 _ each);
    })
initialiser_part total depth ts below i rest false is f =
    let value = and_then_some (read.value total depth ts) (λ e rest. Some (One e, rest)) (i, rest) f in
    let part = value_part total depth ts value.0 value.1 below value.2 in
    moved (Part spelled.initialiser IsInitialiser (IsInitialiserPlaced total) ts) (One value.0) i value.1 rest value.3
    (record { written = part.written; well = part.well; placed = part.placed })

abbrev value_or : {A : Type 0} → A → Option A → A
value_or other None = other
value_or other (Some a) = a

for_some : {A : Type 0} (P : A → Type 0) (a : A) → P a → ForSome (Some a) P
for_some {A} P a holds other e = subst P (ap (λ (o : Option A). value_or a o) e) holds

size_parts : (total depth : ℕ) (ts : List Tok) → length ts ≤ total → (s : Option Expr) (rest : List Tok) (bracket : Bool) → begins sign.OpenBracket ts ≡ bracket
    → (if bracket
    then and_then (read.value total depth (behind ts)) (λ e rest. and_then (after sign.CloseBracket rest) (λ _ rest. Some (Some e, rest)))
    else Some (None, ts)) ≡ Some (s, rest)
    → Part spelled.size_part (λ s. ForSome s IsValue) (IsSizePlaced total) ts s rest
size_parts total depth ts below s rest true is f =
    let value = and_then_some (read.value total depth (behind ts)) (λ e rest. and_then (after sign.CloseBracket rest) (λ _ rest. Some (Some e, rest))) (s, rest) f in
    let close = and_then_some (after sign.CloseBracket value.1) (λ _ rest. Some (Some value.0, rest)) (s, rest) value.3 in
    let first = begins_next sign.OpenBracket ts is in
    let part = value_part total depth (behind ts) value.0 value.1 (omega (arith, ap length first)) value.2 in
    let at_close = after_some sign.CloseBracket value.1 close.0 close.1 close.2 in
    let inside : behind ts ≡ spelled.expression value.0 (tok.Sign sign.CloseBracket ∷ close.1) = part.written ∙ ap (λ (ts : List Tok). spelled.expression value.0 ts) at_close in
    moved (Part spelled.size_part (λ s. ForSome s IsValue) (IsSizePlaced total) ts) (Some value.0) s close.1 rest close.3
    (record {
      written = first ∙ ap (λ (ts : List Tok). tok.Sign sign.OpenBracket ∷ ts) inside;
      well = for_some IsValue value.0 part.well;
      placed = subst (λ ts. IsPlaced total value.0 ts) at_close part.placed;
    })
size_parts total depth ts below s rest false is f =
    let none : Option Expr = None in
    moved (Part spelled.size_part (λ s. ForSome s IsValue) (IsSizePlaced total) ts) none s ts rest f
    (record { written = refl; well = λ e is. absurd cc; placed = tt })

first_parts : (total depth : ℕ) (ts : List Tok) → length ts ≤ total → (i : Option Init) (rest : List Tok) (assigned : Bool) → begins sign.Assign ts ≡ assigned
    → (if assigned then and_then (read.initialiser total depth (behind ts)) (λ init rest. Some (Some init, rest)) else Some (None, ts)) ≡ Some (i, rest)
    → Part spelled.first_part (λ i. ForSome i IsInitialiser) (IsFirstPlaced total) ts i rest
unfolding read.initialiser
first_parts total depth ts below i rest true is f =
    let init = and_then_some (read.initialiser total depth (behind ts)) (λ init rest. Some (Some init, rest)) (i, rest) f in
    let first = begins_next sign.Assign ts is in
    let part = initialiser_part total depth (behind ts) (omega (arith, ap length first)) init.0 init.1 (begins sign.OpenBrace (behind ts)) refl init.2 in
    moved (Part spelled.first_part (λ i. ForSome i IsInitialiser) (IsFirstPlaced total) ts) (Some init.0) i init.1 rest init.3
    (record {
      written = first ∙ ap (λ (ts : List Tok). tok.Sign sign.Assign ∷ ts) part.written;
      well = for_some IsInitialiser init.0 part.well;
      placed = part.placed;
    })
first_parts total depth ts below i rest false is f =
    let none : Option Init = None in
    moved (Part spelled.first_part (λ i. ForSome i IsInitialiser) (IsFirstPlaced total) ts) none i ts rest f
    (record { written = refl; well = λ e is. absurd cc; placed = tt })

size_shorter : (s : Option Expr) (rest : List Tok) → length rest ≤ length (spelled.size_part s rest)
size_shorter None rest = omega arith
size_shorter (Some e) rest = omega (arith, longer e (tok.Sign sign.CloseBracket ∷ rest))

named_part : (total depth : ℕ) (name : List ℕ) (ts : List Tok) → length (tok.Name name ∷ ts) ≤ total → (d : Declr) (rest : List Tok)
    → read.named total depth name (total - length (tok.Name name ∷ ts)) ts ≡ Some (d, rest)
    → Part spelled.declarator IsDeclared (IsDeclaratorPlaced total) (tok.Name name ∷ ts) d rest
unfolding read.named read.size_part read.first_part
named_part total depth name ts below d rest f =
    let at = total - length (tok.Name name ∷ ts) in
    let size = and_then_some (read.size_part total depth ts) (λ size rest. and_then (read.first_part total depth rest) (λ init rest. Some (read.declared name at size init, rest))) (d, rest) f in
    let init = and_then_some (read.first_part total depth size.1) (λ init rest. Some (read.declared name at size.0 init, rest)) (d, rest) size.3 in
    let one = size_parts total depth ts (omega arith) size.0 size.1 (begins sign.OpenBracket ts) refl size.2 in
    let other = first_parts total depth size.1 (omega (arith, ap length one.written, size_shorter size.0 size.1)) init.0 init.1 (begins sign.Assign size.1) refl init.2 in
    let whole : tok.Name name ∷ ts ≡ spelled.declarator (read.declared name at size.0 init.0) init.1 =
    ap (λ (ts : List Tok). tok.Name name ∷ ts) (one.written ∙ ap (λ (ts : List Tok). spelled.size_part size.0 ts) other.written) in
    moved (Part spelled.declarator IsDeclared (IsDeclaratorPlaced total) (tok.Name name ∷ ts)) (read.declared name at size.0 init.0) d init.1 rest init.3
    (record {
      written = whole;
      well = (one.well, other.well);
      placed = (omega (arith, ap length whole), subst (λ ts. IsSizePlaced total size.0 ts) other.written one.placed, other.placed);
    })

declarator_part : (total depth : ℕ) (ts : List Tok) → length ts ≤ total → (d : Declr) (rest : List Tok) → read.declarator total depth ts ≡ Some (d, rest)
    → Part spelled.declarator IsDeclared (IsDeclaratorPlaced total) ts d rest
unfolding read.declarator
declarator_part total depth (tok.Name name ∷ ts) below d rest f = named_part total depth name ts below d rest f
declarator_part total depth _ below d rest f = absurd cc

declarators_part : (total depth : ℕ) (ts : List Tok) (all : List Declr) (rest : List Tok) → length ts ≤ total → items (read.declarator total depth) ts ≡ Some (all, rest)
    → ReadsItems spelled.declarator (λ d rest. IsDeclared d × IsDeclaratorPlaced total d rest) ts all rest
declarators_part total depth ts all rest below f =
    let one : IsSoundFor total (read.declarator total depth) spelled.declarator (λ d rest. IsDeclared d × IsDeclaratorPlaced total d rest) =
    λ ts d rest small f. let part = declarator_part total depth ts small d rest f in (part.written, (part.well, part.placed)) in
    items_sound total (read.declarator total depth) spelled.declarator (λ d rest. IsDeclared d × IsDeclaratorPlaced total d rest) one declarator_longer ts all rest below f

-- Types.
record TypePart (total : ℕ) (ts : List Tok) (what : DeclType) (rest : List Tok) : Type 0 where
  written : ts ≡ spelled.declared_type what rest
  placed : IsTypePlaced total what rest
  shorter : length rest ≤ length ts

const_part : (total : ℕ) (ts : List Tok) (of : Option Kind) → kind_at ts ≡ of → (what : DeclType) (rest : List Tok) → read.number_type true of (behind ts) ≡ Some (what, rest)
    → TypePart total (tok.Word word.Const ∷ ts) what rest
unfolding read.number_type
const_part total ts None is what rest f = absurd cc
const_part total ts (Some of) is what rest f =
    let next = kind_next ts of is in
    moved (TypePart total (tok.Word word.Const ∷ ts)) (type.Number of true) what (behind ts) rest f
    (record { written = ap (λ (ts : List Tok). tok.Word word.Const ∷ ts) next; placed = tt; shorter = omega (arith, ap length next) })

kind_part : (total : ℕ) (w : Word) (ts : List Tok) (of : Option Kind) → kind_of w ≡ of → (what : DeclType) (rest : List Tok) → read.number_type false of ts ≡ Some (what, rest)
    → TypePart total (tok.Word w ∷ ts) what rest
unfolding read.number_type
kind_part total w ts None is what rest f = absurd cc
kind_part total w ts (Some of) is what rest f =
    moved (TypePart total (tok.Word w ∷ ts)) (type.Number of false) what ts rest f
    (record { written = kind_next (tok.Word w ∷ ts) of is; placed = tt; shorter = omega arith })

message_part : (total : ℕ) (ts : List Tok) → length ts ≤ total → (what : DeclType) (rest : List Tok) → read.message (total - length ts) ts ≡ Some (what, rest)
    → TypePart total (tok.Word word.Message ∷ ts) what rest
unfolding read.message
message_part total (tok.Sign sign.Star ∷ ts) below what rest f =
    moved (TypePart total (tok.Word word.Message ∷ tok.Sign sign.Star ∷ ts)) type.Any what ts rest f
    (record { written = refl; placed = tt; shorter = omega arith })
message_part total (tok.Num ext value ∷ ts) below what rest f =
    moved (TypePart total (tok.Word word.Message ∷ tok.Num ext value ∷ ts)) (type.ById value ext (total - length (tok.Num ext value ∷ ts))) what ts rest f
    (record { written = refl; placed = omega arith; shorter = omega arith })
message_part total (tok.Name name ∷ ts) below what rest f =
    moved (TypePart total (tok.Word word.Message ∷ tok.Name name ∷ ts)) (type.ByName name (total - length (tok.Name name ∷ ts))) what ts rest f
    (record { written = refl; placed = omega arith; shorter = omega arith })
message_part total _ below what rest f = absurd cc

type_part : (total : ℕ) (ts : List Tok) → length ts ≤ total → (what : DeclType) (rest : List Tok) → read.declared_type total ts ≡ Some (what, rest) → TypePart total ts what rest
unfolding read.declared_type
type_part total (tok.Word word.Const ∷ ts) below what rest f = const_part total ts (kind_at ts) refl what rest f
type_part total (tok.Word word.Message ∷ ts) below what rest f = message_part total ts (omega arith) what rest f
type_part total (tok.Word word.Timer ∷ ts) below what rest f =
    moved (TypePart total (tok.Word word.Timer ∷ ts)) type.Seconds what ts rest f (record { written = refl; placed = tt; shorter = omega arith })
type_part total (tok.Word word.MsTimer ∷ ts) below what rest f =
    moved (TypePart total (tok.Word word.MsTimer ∷ ts)) type.Millis what ts rest f (record { written = refl; placed = tt; shorter = omega arith })
type_part total (tok.Word w ∷ ts) below what rest f = kind_part total w ts (kind_of w) refl what rest f
type_part total _ below what rest f = absurd cc

-- What is read as a declaration is a well formed and placed one, and the tokens are its spelling.
pub declaration_sound : (total depth : ℕ) (ts : List Tok) (d : Decl) (rest : List Tok) → length ts ≤ total → read.declaration total depth ts ≡ Some (d, rest)
    → ReadsDeclaration total ts d rest
unfolding read.declaration
declaration_sound total depth ts d rest below f =
    let at = total - length ts in
    let what = and_then_some (read.declared_type total ts) (λ what rest. and_then (items (read.declarator total depth) rest) (λ all rest. and_then (after sign.Semi rest) (λ _ rest. Some (read.made what all at, rest)))) (d, rest) f in
    let all = and_then_some (items (read.declarator total depth) what.1) (λ all rest. and_then (after sign.Semi rest) (λ _ rest. Some (read.made what.0 all at, rest))) (d, rest) what.3 in
    let semi = and_then_some (after sign.Semi all.1) (λ _ rest. Some (read.made what.0 all.0 at, rest)) (d, rest) all.3 in
    let first = type_part total ts below what.0 what.1 what.2 in
    let r = declarators_part total depth what.1 all.0 all.1 (omega (arith, first.shorter)) all.2 in
    let at_semi = after_some sign.Semi all.1 semi.0 semi.1 semi.2 in
    let each = subst (λ ts. EachBefore spelled.declarator (λ d rest. IsDeclared d × IsDeclaratorPlaced total d rest) all.0 ts) at_semi r.each in
    let inside : what.1 ≡ separated spelled.declarator all.0 (tok.Sign sign.Semi ∷ semi.1) = r.spelled ∙ ap (λ (ts : List Tok). separated spelled.declarator all.0 ts) at_semi in
    let whole : ts ≡ spelled.declaration (read.made what.0 all.0 at) semi.1 = first.written ∙ ap (λ (ts : List Tok). spelled.declared_type what.0 ts) inside in
    moved (ReadsDeclaration total ts) (read.made what.0 all.0 at) d semi.1 rest semi.3
    (record {
      spelled = whole;
      well = (r.some, each_well spelled.declarator IsDeclared (IsDeclaratorPlaced total) all.0 _ each);
      placed = (
        omega (arith, ap length whole),
        subst (λ ts. IsTypePlaced total what.0 ts) inside first.placed,
        each_placed spelled.declarator IsDeclared (IsDeclaratorPlaced total) all.0 _ each,
      );
    })
