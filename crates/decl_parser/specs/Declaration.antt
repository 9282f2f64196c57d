-- The reader of declarations (CAPL manual, declarations of variables).
--
-- `total` is the number of tokens of the file, and `depth` bounds how deep expressions nest.
use Rattle.std.specs.Prelude.{ℕ, ◌-◌, Bool, true, false, if◌then◌else◌, List, [], ◌∷◌, length, Option, Some, None}
use Rattle.int_kinds.specs.declared.kinds.Kind.{Kind}
use Rattle.capl_lexer.specs.declared.token.Tok.{Tok}
use Rattle.capl_lexer.specs.declared.token.Tok.TheVariants as tok
use Rattle.capl_lexer.specs.declared.token.Word.TheVariants as word
use Rattle.capl_lexer.specs.declared.token.Sign.TheVariants as sign
use Rattle.capl_tree.specs.declared.expr.Expr.{Expr}
use Rattle.capl_tree.specs.declared.expr.Expr.TheVariants as expr
use Rattle.capl_tree.specs.declared.expr.Field.{Field}
use Rattle.capl_tree.specs.declared.expr.Field.TheVariants.{Named}
use Rattle.capl_tree.specs.declared.declaration.Decl.{Decl}
use Rattle.capl_tree.specs.declared.declaration.DeclType.{DeclType}
use Rattle.capl_tree.specs.declared.declaration.DeclType.TheVariants as type
use Rattle.capl_tree.specs.declared.declaration.Declr.{Declr}
use Rattle.capl_tree.specs.declared.declaration.Init.{Init}
use Rattle.capl_tree.specs.declared.declaration.Init.TheVariants.{One, Many}
use Rattle.capl_tree.specs.declared.declaration.Item.{Item}
use Rattle.capl_tree.specs.declared.declaration.Item.TheVariants.{Plain, Set}
use Rattle.capl_tree.specs.Binding.{choice_level}
use Rattle.expr_parser.specs.Operators.{kind_at, kind_of}
use Rattle.expr_parser.specs.Reading.{Read, and_then, begins, behind, after, items}
use Rattle.expr_parser.specs.Expression.{expression, field}

-- an expression that is no assignment
abbrev pub value : ℕ → ℕ → List Tok → Read Expr
value total depth ts = expression total depth choice_level ts

-- behind a field of an item: `=` and the value
unfoldable pub set : ℕ → ℕ → Field → List Tok → Read Item
set total depth of ts =
    and_then (after sign.Assign ts) (λ _ rest. and_then (value total depth rest) (λ e rest.
    Some (Set of e, rest)))

-- before `=`: the name of a field
unfoldable pub set_name : ℕ → ℕ → Expr → List Tok → Read Item
set_name total depth (expr.Name name at) ts = set total depth (Named name at) ts
set_name total depth e ts = Some (Plain e, ts)

-- behind the value that an item begins with: where it is a name, it may be that of a field
unfoldable pub plain : ℕ → ℕ → Expr → List Tok → Read Item
plain total depth e ts = if begins sign.Assign ts then set_name total depth e ts else Some (Plain e, ts)

-- an item, by the kind that it begins with
unfoldable pub item_at : ℕ → ℕ → Option Kind → List Tok → Read Item
item_at total depth None ts = and_then (value total depth ts) (λ e rest. plain total depth e rest)
item_at total depth (Some of) ts =
    and_then (field total (expression total depth) ts) (λ f rest. set total depth f rest)

-- an item between the braces of an initialiser
abbrev pub item : ℕ → ℕ → List Tok → Read Item
item total depth ts = item_at total depth (kind_at ts) ts

-- an initialiser
unfoldable pub initialiser : ℕ → ℕ → List Tok → Read Init
initialiser total depth ts =
    if begins sign.OpenBrace ts
    then and_then (items (item total depth) (behind ts)) (λ all rest.
    and_then (after sign.CloseBrace rest) (λ _ rest. Some (Many all (total - length ts), rest)))
    else and_then (value total depth ts) (λ e rest. Some (One e, rest))

-- the number of elements, where there is one
unfoldable pub size_part : ℕ → ℕ → List Tok → Read (Option Expr)
size_part total depth ts =
    if begins sign.OpenBracket ts
    then and_then (value total depth (behind ts)) (λ e rest.
    and_then (after sign.CloseBracket rest) (λ _ rest. Some (Some e, rest)))
    else Some (None, ts)

-- what a variable is given at first, where there is anything
unfoldable pub first_part : ℕ → ℕ → List Tok → Read (Option Init)
first_part total depth ts =
    if begins sign.Assign ts
    then and_then (initialiser total depth (behind ts)) (λ init rest. Some (Some init, rest))
    else Some (None, ts)

-- a declared variable of this name and place
abbrev pub declared : List ℕ → ℕ → Option Expr → Option Init → Declr
declared name at size init = record { name = name; at = at; size = size; init = init }

-- behind the name of a declared variable: its other parts
unfoldable pub named : ℕ → ℕ → List ℕ → ℕ → List Tok → Read Declr
named total depth name at ts =
    and_then (size_part total depth ts) (λ size rest. and_then (first_part total depth rest) (λ init rest.
    Some (declared name at size init, rest)))

-- a declared variable
unfoldable pub declarator : ℕ → ℕ → List Tok → Read Declr
declarator total depth (tok.Name name ∷ ts) = named total depth name (total - length (tok.Name name ∷ ts)) ts
declarator total depth _ = None

-- behind `const` where the flag is true: a kind
unfoldable pub number_type : Bool → Option Kind → List Tok → Read DeclType
number_type fixed None ts = None
number_type fixed (Some of) ts = Some (type.Number of fixed, ts)

-- behind `message`: which one, at this place
unfoldable pub message : ℕ → List Tok → Read DeclType
message at (tok.Sign sign.Star ∷ ts) = Some (type.Any, ts)
message at (tok.Num ext value ∷ ts) = Some (type.ById value ext at, ts)
message at (tok.Name name ∷ ts) = Some (type.ByName name at, ts)
message at _ = None

-- the type of a declaration
unfoldable pub declared_type : ℕ → List Tok → Read DeclType
declared_type total (tok.Word word.Const ∷ ts) = number_type true (kind_at ts) (behind ts)
declared_type total (tok.Word word.Message ∷ ts) = message (total - length ts) ts
declared_type total (tok.Word word.Timer ∷ ts) = Some (type.Seconds, ts)
declared_type total (tok.Word word.MsTimer ∷ ts) = Some (type.Millis, ts)
declared_type total (tok.Word of ∷ ts) = number_type false (kind_of of) ts
declared_type total _ = None

-- a declaration of these parts
abbrev pub made : DeclType → List Declr → ℕ → Decl
made what all at = record { what = what; items = all; at = at }

-- a declaration
unfoldable pub declaration : ℕ → ℕ → List Tok → Read Decl
declaration total depth ts =
    and_then (declared_type total ts) (λ what rest.
    and_then (items (declarator total depth) rest) (λ all rest.
    and_then (after sign.Semi rest) (λ _ rest. Some (made what all (total - length ts), rest))))
