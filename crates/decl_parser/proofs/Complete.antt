-- A well formed and placed declaration is read from its spelling.
use Rattle.std.proofs.Common.{◌≡◌, ◌≢◌, ℕ, suc, ◌+◌, ◌-◌, ◌≤◌, ◌<◌, Bool, true, false, List, [], ◌∷◌, length, Option, Some, None, refl, ap, sym, subst, ◌∙◌, arith}
use Rattle.std.specs.Prelude.{⊤, All}
use Rattle.std.specs.Option.{ForSome}
use Rattle.std.proofs.lemmas.List.Elements.{All-head, All-tail}
use Rattle.int_kinds.specs.declared.kinds.Kind.{Kind}
use Rattle.int_kinds.specs.declared.kinds.Kind.TheVariants as kind
use Rattle.capl_lexer.specs.declared.token.Tok.{Tok}
use Rattle.capl_lexer.specs.declared.token.Tok.TheVariants as tok
use Rattle.capl_lexer.specs.declared.token.Word.TheVariants as word
use Rattle.capl_lexer.specs.declared.token.Sign.TheVariants as sign
use Rattle.capl_tree.specs.declared.expr.Expr.{Expr}
use Rattle.capl_tree.specs.declared.expr.Expr.TheVariants as expr
use Rattle.capl_tree.specs.declared.expr.Field.{Field}
use Rattle.capl_tree.specs.declared.expr.Field.TheVariants.{Named}
use Rattle.capl_tree.specs.declared.declaration.Decl.{Decl}
use Rattle.capl_tree.specs.declared.declaration.DeclType.{DeclType}
use Rattle.capl_tree.specs.declared.declaration.DeclType.TheVariants as type
use Rattle.capl_tree.specs.declared.declaration.Declr.{Declr}
use Rattle.capl_tree.specs.declared.declaration.Init.{Init}
use Rattle.capl_tree.specs.declared.declaration.Init.TheVariants.{One, Many}
use Rattle.capl_tree.specs.declared.declaration.Item.{Item}
use Rattle.capl_tree.specs.declared.declaration.Item.TheVariants.{Plain, Set}
use Rattle.capl_tree.specs.Forms as form
use Rattle.capl_tree.specs.Grammar.{IsValue, IsInitialItem, IsInitialiser, IsDeclared, IsDeclaration}
use Rattle.capl_tree.specs.Spelling as spelled
use Rattle.capl_tree.specs.Binding.{kind_word}
use Rattle.capl_tree.specs.Spelling.{further, separated}
use Rattle.capl_tree.specs.Placed.{IsPlaced, IsFieldPlaced, EachBefore, IsItemPlaced, IsInitialiserPlaced, IsSizePlaced, IsFirstPlaced, IsDeclaratorPlaced, IsTypePlaced, IsDeclarationPlaced}
use Rattle.expr_parser.specs.Operators.{binding, kind_at, kind_of}
use Rattle.expr_parser.specs.Reading.{Read, begins, behind, after, items}
use Rattle.expr_parser.specs.Expression.{expression}
use Rattle.expr_parser.proofs.Lists.{EachRead, items_complete}
use Rattle.expr_parser.proofs.Starts.{kind_found, spelled_starts, starts_no_kind, starts_no_other}
use Rattle.expr_parser.proofs.Complete.{longer, complete, field_complete}
use Rattle.decl_parser.specs.Declaration as read

-- where no operator stands, neither a bracket nor `=` does
no_bracket : (ts : List Tok) → binding ts ≡ 0 → begins sign.OpenBracket ts ≡ false
no_bracket (tok.Sign sign.OpenBracket ∷ ts) ends = absurd (omega arith)
no_bracket (tok.Sign _ ∷ ts) ends = refl
no_bracket _ ends = refl

no_assign : (ts : List Tok) → binding ts ≡ 0 → begins sign.Assign ts ≡ false
no_assign (tok.Sign sign.Assign ∷ ts) ends = absurd (omega arith)
no_assign (tok.Sign _ ∷ ts) ends = refl
no_assign _ ends = refl

-- Each part has a token.

field_longer : (f : Field) (rest : List Tok) → length rest < length (spelled.field f rest)
field_longer (Named name at) rest = omega arith
field_longer (form.Bytes of index at) rest = omega (arith, longer index (tok.Sign sign.CloseParen ∷ rest))

-- an item
pub item_longer : (i : Item) (rest : List Tok) → length rest < length (spelled.item i rest)
item_longer (Plain e) rest = longer e rest
item_longer (Set f e) rest = omega (arith, field_longer f (tok.Sign sign.Assign ∷ spelled.expression e rest), longer e rest)

further_items_longer : (all : List Item) (rest : List Tok) → length rest ≤ length (further spelled.item all rest)
further_items_longer [] rest = omega arith
further_items_longer (first ∷ others) rest = omega (arith, item_longer first (further spelled.item others rest), further_items_longer others rest)

initialiser_longer : (i : Init) (rest : List Tok) → length rest < length (spelled.initialiser i rest)
initialiser_longer (One e) rest = longer e rest
initialiser_longer (Many [] at) rest = omega arith
initialiser_longer (Many (first ∷ others) at) rest =
    omega (arith, item_longer first (further spelled.item others (tok.Sign sign.CloseBrace ∷ rest)), further_items_longer others (tok.Sign sign.CloseBrace ∷ rest))

size_longer : (s : Option Expr) (rest : List Tok) → length rest ≤ length (spelled.size_part s rest)
size_longer None rest = omega arith
size_longer (Some e) rest = omega (arith, longer e (tok.Sign sign.CloseBracket ∷ rest))

first_longer : (i : Option Init) (rest : List Tok) → length rest ≤ length (spelled.first_part i rest)
first_longer None rest = omega arith
first_longer (Some init) rest = omega (arith, initialiser_longer init rest)

-- a declared variable
pub declarator_longer : (d : Declr) (rest : List Tok) → length rest < length (spelled.declarator d rest)
declarator_longer d rest = omega (arith, size_longer d.size (spelled.first_part d.init rest), first_longer d.init rest)

further_declarators_longer : (all : List Declr) (rest : List Tok) → length rest ≤ length (further spelled.declarator all rest)
further_declarators_longer [] rest = omega arith
further_declarators_longer (first ∷ others) rest = omega (arith, declarator_longer first (further spelled.declarator others rest), further_declarators_longer others rest)

-- Each part is read.

value_read : (total depth : ℕ) (e : Expr) (rest : List Tok) → IsValue e → IsPlaced total e rest → binding rest ≤ 1 → length (spelled.expression e rest) < depth
    → read.value total depth (spelled.expression e rest) ≡ Some (e, rest)
value_read total depth e rest well placed ends deep = complete total e 2 depth rest well.0 placed well.1 (omega arith) deep

item_read : (total depth : ℕ) (i : Item) (rest : List Tok) → IsInitialItem i → IsItemPlaced total i rest → binding rest ≡ 0 → length (spelled.item i rest) < depth
    → read.item total depth (spelled.item i rest) ≡ Some (i, rest)
unfolding read.item_at read.plain read.set_name read.set after
item_read total depth (Plain e) rest well placed ends deep =
    rw (starts_no_kind (spelled.expression e rest) (spelled_starts e rest), value_read total depth e rest well placed (omega arith) deep, no_assign rest ends) refl
item_read total depth (Set (Named name at) e) rest well placed ends deep =
    let named = value_read total depth (expr.Name name at) (tok.Sign sign.Assign ∷ spelled.expression e rest) (tt, omega arith) placed.0 (omega arith) deep in
    rw (named, value_read total depth e rest well.1 placed.1 (omega arith) (omega arith)) refl
item_read total depth (Set (form.Bytes of index at) e) rest well placed ends deep =
    let behind_field = tok.Sign sign.Assign ∷ spelled.expression e rest in
    let field = field_complete total (form.Bytes of index at) depth behind_field well.0 placed.0 (omega arith) in
    rw (kind_found of, field, value_read total depth e rest well.1 placed.1 (omega arith) (omega (arith, field_longer (form.Bytes of index at) behind_field))) refl

further_binding : {A : Type 0} (one : A → List Tok → List Tok) (all : List A) (rest : List Tok) → binding rest ≡ 0 → binding (further one all rest) ≡ 0
further_binding one [] rest ends = ends
further_binding one (first ∷ others) rest ends = refl

each_item : (total depth : ℕ) (all : List Item) (rest : List Tok) → All IsInitialItem all → EachBefore spelled.item (IsItemPlaced total) all rest → binding rest ≡ 0
    → length (separated spelled.item all rest) < depth → EachRead (read.item total depth) spelled.item all rest
each_item total depth [] rest well placed ends deep = tt
each_item total depth (first ∷ []) rest well placed ends deep =
    (item_read total depth first rest (All-head IsInitialItem first [] well) placed.0 ends deep, tt)
each_item total depth (first ∷ second ∷ others) rest well placed ends deep = (
  item_read total depth first (further spelled.item (second ∷ others) rest) (All-head IsInitialItem first (second ∷ others) well) placed.0 refl deep,
  each_item total depth (second ∷ others) rest (All-tail IsInitialItem first (second ∷ others) well) placed.1 ends
      (omega (arith, item_longer first (further spelled.item (second ∷ others) rest))),
)

initialiser_read : (total depth : ℕ) (i : Init) (rest : List Tok) → IsInitialiser i → IsInitialiserPlaced total i rest → binding rest ≡ 0 → length (spelled.initialiser i rest) < depth
    → read.initialiser total depth (spelled.initialiser i rest) ≡ Some (i, rest)
unfolding read.initialiser after
initialiser_read total depth (One e) rest well placed ends deep =
    rw (starts_no_other sign.OpenBrace (spelled.expression e rest) refl (spelled_starts e rest), value_read total depth e rest well placed (omega arith) deep) refl
initialiser_read total depth (Many [] at) rest well placed ends deep = absurd (well.0 refl)
initialiser_read total depth (Many (first ∷ others) at) rest well placed ends deep =
    let close = tok.Sign sign.CloseBrace ∷ rest in
    let here : at ≡ total - length (spelled.initialiser (Many (first ∷ others) at) rest) = omega (arith, placed.0) in
    let each = each_item total depth (first ∷ others) close well.1 placed.1 refl (omega arith) in
    let all = items_complete (read.item total depth) spelled.item first others close each item_longer refl in
    rw (all, here) refl

size_read : (total depth : ℕ) (s : Option Expr) (rest : List Tok) → ForSome s IsValue → IsSizePlaced total s rest → begins sign.OpenBracket rest ≡ false → length (spelled.size_part s rest) < depth
    → read.size_part total depth (spelled.size_part s rest) ≡ Some (s, rest)
unfolding read.size_part after
size_read total depth None rest well placed ends deep = rw ends refl
size_read total depth (Some e) rest well placed ends deep =
    rw (value_read total depth e (tok.Sign sign.CloseBracket ∷ rest) (well e refl) placed (omega arith) (omega arith)) refl

first_read : (total depth : ℕ) (i : Option Init) (rest : List Tok) → ForSome i IsInitialiser → IsFirstPlaced total i rest → binding rest ≡ 0 → length (spelled.first_part i rest) < depth
    → read.first_part total depth (spelled.first_part i rest) ≡ Some (i, rest)
unfolding read.first_part
first_read total depth None rest well placed ends deep = rw (no_assign rest ends) refl
first_read total depth (Some init) rest well placed ends deep =
    rw (initialiser_read total depth init rest (well init refl) placed ends (omega arith)) refl

first_no_bracket : (i : Option Init) (rest : List Tok) → binding rest ≡ 0 → begins sign.OpenBracket (spelled.first_part i rest) ≡ false
first_no_bracket None rest ends = no_bracket rest ends
first_no_bracket (Some init) rest ends = refl

declarator_read : (total depth : ℕ) (d : Declr) (rest : List Tok) → IsDeclared d → IsDeclaratorPlaced total d rest → binding rest ≡ 0 → length (spelled.declarator d rest) < depth
    → read.declarator total depth (spelled.declarator d rest) ≡ Some (d, rest)
unfolding read.declarator read.named
declarator_read total depth d rest well placed ends deep =
    let here : d.at ≡ total - length (spelled.declarator d rest) = omega (arith, placed.0) in
    let size = size_read total depth d.size (spelled.first_part d.init rest) well.0 placed.1 (first_no_bracket d.init rest ends) (omega arith) in
    let init = first_read total depth d.init rest well.1 placed.2 ends (omega (arith, size_longer d.size (spelled.first_part d.init rest))) in
    rw (size, init) (ap (λ (at : ℕ). Some (read.declared d.name at d.size d.init, rest)) (sym here))

each_declarator : (total depth : ℕ) (all : List Declr) (rest : List Tok) → All IsDeclared all → EachBefore spelled.declarator (IsDeclaratorPlaced total) all rest → binding rest ≡ 0
    → length (separated spelled.declarator all rest) < depth → EachRead (read.declarator total depth) spelled.declarator all rest
each_declarator total depth [] rest well placed ends deep = tt
each_declarator total depth (first ∷ []) rest well placed ends deep =
    (declarator_read total depth first rest (All-head IsDeclared first [] well) placed.0 ends deep, tt)
each_declarator total depth (first ∷ second ∷ others) rest well placed ends deep = (
  declarator_read total depth first (further spelled.declarator (second ∷ others) rest) (All-head IsDeclared first (second ∷ others) well) placed.0 refl deep,
  each_declarator total depth (second ∷ others) rest (All-tail IsDeclared first (second ∷ others) well) placed.1 ends
      (omega (arith, declarator_longer first (further spelled.declarator (second ∷ others) rest))),
)

kind_read : (total : ℕ) (of : Kind) (rest : List Tok) → read.declared_type total (tok.Word (kind_word of) ∷ rest) ≡ read.number_type false (kind_of (kind_word of)) rest
unfolding read.declared_type
kind_read total kind.Byte rest = refl
kind_read total kind.Word rest = refl
kind_read total kind.Dword rest = refl
kind_read total kind.Qword rest = refl
kind_read total kind.Int rest = refl
kind_read total kind.Long rest = refl
kind_read total kind.Int64 rest = refl
kind_read total kind.Char rest = refl

type_read : (total : ℕ) (what : DeclType) (rest : List Tok) → IsTypePlaced total what rest → read.declared_type total (spelled.declared_type what rest) ≡ Some (what, rest)
unfolding read.declared_type read.number_type read.message
type_read total (type.Number of true) rest placed = rw (kind_found of) refl
type_read total (type.Number of false) rest placed = kind_read total of rest ∙ rw (kind_found of) refl
type_read total type.Any rest placed = refl
type_read total (type.ById value ext at) rest placed =
    let here : at ≡ total - length (tok.Num ext value ∷ rest) = omega (arith, placed) in rw here refl
type_read total (type.ByName name at) rest placed =
    let here : at ≡ total - length (tok.Name name ∷ rest) = omega (arith, placed) in rw here refl
type_read total type.Seconds rest placed = refl
type_read total type.Millis rest placed = refl

type_longer : (what : DeclType) (rest : List Tok) → length rest < length (spelled.declared_type what rest)
type_longer (type.Number of true) rest = omega arith
type_longer (type.Number of false) rest = omega arith
type_longer type.Any rest = omega arith
type_longer (type.ById value ext at) rest = omega arith
type_longer (type.ByName name at) rest = omega arith
type_longer type.Seconds rest = omega arith
type_longer type.Millis rest = omega arith

-- a list of at least one
parts_read : (total depth : ℕ) (all : List Declr) (rest : List Tok) → all ≢ [] → All IsDeclared all → EachBefore spelled.declarator (IsDeclaratorPlaced total) all (tok.Sign sign.Semi ∷ rest)
    → length (separated spelled.declarator all (tok.Sign sign.Semi ∷ rest)) < depth
    → items (read.declarator total depth) (separated spelled.declarator all (tok.Sign sign.Semi ∷ rest)) ≡ Some (all, tok.Sign sign.Semi ∷ rest)
parts_read total depth [] rest some well placed deep = absurd (some refl)
parts_read total depth (first ∷ others) rest some well placed deep =
    let semi = tok.Sign sign.Semi ∷ rest in
    items_complete (read.declarator total depth) spelled.declarator first others semi
    (each_declarator total depth (first ∷ others) semi well placed refl deep) declarator_longer refl

-- A well formed and placed declaration is read from its spelling, whatever stands behind it.
pub declaration_complete : (total depth : ℕ) (d : Decl) (rest : List Tok) → IsDeclaration d → IsDeclarationPlaced total d rest → length (spelled.declaration d rest) < depth
    → read.declaration total depth (spelled.declaration d rest) ≡ Some (d, rest)
unfolding read.declaration after
declaration_complete total depth d rest well placed deep =
    let semi = tok.Sign sign.Semi ∷ rest in
    let parts = separated spelled.declarator d.items semi in
    let here : d.at ≡ total - length (spelled.declaration d rest) = omega (arith, placed.0) in
    let what = type_read total d.what parts placed.1 in
    let all = parts_read total depth d.items rest well.0 well.1 placed.2 (omega (arith, type_longer d.what parts)) in
    rw (what, all) (ap (λ (at : ℕ). Some (read.made d.what d.items at, rest)) (sym here))

-- tokens with which a declaration begins
abbrev pub begins_declaration : List Tok → Bool
begins_declaration (tok.Word word.Const ∷ ts) = true
begins_declaration (tok.Word word.Message ∷ ts) = true
begins_declaration (tok.Word word.Timer ∷ ts) = true
begins_declaration (tok.Word word.MsTimer ∷ ts) = true
begins_declaration (tok.Word word.Byte ∷ ts) = true
begins_declaration (tok.Word word.Word ∷ ts) = true
begins_declaration (tok.Word word.Dword ∷ ts) = true
begins_declaration (tok.Word word.Qword ∷ ts) = true
begins_declaration (tok.Word word.Int ∷ ts) = true
begins_declaration (tok.Word word.Long ∷ ts) = true
begins_declaration (tok.Word word.Int64 ∷ ts) = true
begins_declaration (tok.Word word.Char ∷ ts) = true
begins_declaration _ = false

kind_begins : (of : Kind) (rest : List Tok) → begins_declaration (tok.Word (kind_word of) ∷ rest) ≡ true
kind_begins kind.Byte rest = refl
kind_begins kind.Word rest = refl
kind_begins kind.Dword rest = refl
kind_begins kind.Qword rest = refl
kind_begins kind.Int rest = refl
kind_begins kind.Long rest = refl
kind_begins kind.Int64 rest = refl
kind_begins kind.Char rest = refl

type_begins : (what : DeclType) (rest : List Tok) → begins_declaration (spelled.declared_type what rest) ≡ true
type_begins (type.Number of true) rest = refl
type_begins (type.Number of false) rest = kind_begins of rest
type_begins type.Any rest = refl
type_begins (type.ById value ext at) rest = refl
type_begins (type.ByName name at) rest = refl
type_begins type.Seconds rest = refl
type_begins type.Millis rest = refl

-- every declaration begins with such tokens
pub declaration_begins : (d : Decl) (rest : List Tok) → begins_declaration (spelled.declaration d rest) ≡ true
declaration_begins d rest = type_begins d.what (separated spelled.declarator d.items (tok.Sign sign.Semi ∷ rest))

-- a declaration has a token
pub declaration_longer : (d : Decl) (rest : List Tok) → length rest < length (spelled.declaration d rest)
declaration_longer d rest =
    let semi = tok.Sign sign.Semi ∷ rest in
    omega (arith, type_longer d.what (separated spelled.declarator d.items semi), declared_longer d.items semi)
  where
    declared_longer : (all : List Declr) (rest : List Tok) → length rest ≤ length (separated spelled.declarator all rest)
    declared_longer [] rest = omega arith
    declared_longer (first ∷ others) rest = omega (arith, declarator_longer first (further spelled.declarator others rest), further_declarators_longer others rest)
