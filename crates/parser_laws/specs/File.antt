-- The reader of procedures and files (CAPL manual, event procedures and functions).
use Rattle.std.specs.Prelude.{ℕ, suc, ◌-◌, Bool, true, false, if◌then◌else◌, List, [], ◌∷◌, length, Option, Some, None, codes}
use Rattle.std.specs.Str.{bytes_eq}
use Rattle.texts.specs.declared.text.Text.{Text}
use Rattle.int_kinds.specs.declared.kinds.Kind.{Kind}
use Rattle.capl_lexer.specs.declared.token.Tok.{Tok}
use Rattle.capl_lexer.specs.declared.token.Tok.TheVariants as tok
use Rattle.capl_lexer.specs.declared.token.Word.TheVariants as word
use Rattle.capl_lexer.specs.declared.token.Sign.TheVariants as sign
use Rattle.capl_tree.specs.declared.expr.Expr.{Expr}
use Rattle.capl_tree.specs.declared.expr.Expr.TheVariants as expr
use Rattle.capl_tree.specs.declared.declaration.Decl.{Decl}
use Rattle.capl_tree.specs.declared.statement.Stmt.{Stmt}
use Rattle.capl_tree.specs.declared.procedure.Proc.{Proc}
use Rattle.capl_tree.specs.declared.procedure.Head.{Head}
use Rattle.capl_tree.specs.declared.procedure.Head.TheVariants as head
use Rattle.capl_tree.specs.declared.procedure.Param.{Param}
use Rattle.capl_tree.specs.declared.procedure.Sel.{Sel}
use Rattle.capl_tree.specs.declared.procedure.SelWhat.{SelWhat}
use Rattle.capl_tree.specs.declared.procedure.SelWhat.TheVariants as selected
use Rattle.capl_tree.specs.declared.file.TopItem.{TopItem}
use Rattle.capl_tree.specs.declared.file.TopItem.TheVariants as top
use Rattle.expr_parser.specs.Operators.{kind_at}
use Rattle.expr_parser.specs.Reading.{Read, and_then, begins, begins_word, behind, after, items}
use Rattle.parser_laws.specs.Statement.{Parts, until, block, statement}

-- a name
abbrev pub name : List Tok → Read (List ℕ)
name (tok.Name text ∷ ts) = Some (text, ts)
name _ = None

-- the name of an included file
abbrev pub included : List Tok → Read (List ℕ)
included (tok.Include text ∷ ts) = Some (text, ts)
included _ = None

-- a number
abbrev pub numeral : ℕ → List Tok → Read Expr
numeral total (tok.Num ext value ∷ ts) = Some (expr.Num value ext (total - suc (length ts)), ts)
numeral total _ = None

-- behind the first number of a selector at this place
unfoldable pub range : ℕ → ℕ → Expr → List Tok → Read SelWhat
range total at low ts =
    if begins sign.Minus ts
    then and_then (numeral total (behind ts)) (λ high ts. Some (selected.Ids low (Some high) at, ts))
    else Some (selected.Ids low None at, ts)

-- which frames of a channel, where it is no `*`, at this place
unfoldable pub one_selection : ℕ → ℕ → List Tok → Read SelWhat
one_selection total at (tok.Name text ∷ ts) = Some (selected.Name text at, ts)
one_selection total at ts = and_then (numeral total ts) (λ low ts. range total at low ts)

-- which frames of a channel
unfoldable pub selection : ℕ → List Tok → Read SelWhat
selection total ts =
    if begins sign.Star ts then Some (selected.Any (total - length ts), behind ts)
    else one_selection total (total - length ts) ts

-- the channel of this name
abbrev pub channel_named : List ℕ → Option ℕ
channel_named text =
    if bytes_eq text (codes "CAN1") then Some 1 else (if bytes_eq text (codes "CAN2") then Some 2 else None)

-- behind a name at this place, which is that of this channel and has a dot behind it, or that of a message
unfoldable pub on_channel : ℕ → ℕ → List ℕ → Option ℕ → List Tok → Read Sel
on_channel total at text None ts = Some (record { chan = 0; what = selected.Name text at }, ts)
on_channel total at text (Some chan) ts =
    and_then (selection total (behind ts)) (λ what ts. Some (record { chan = chan; what = what }, ts))

-- behind a name at this place: a dot makes one of a channel the channel
unfoldable pub named_selector : ℕ → ℕ → List ℕ → List Tok → Read Sel
named_selector total at text ts =
    on_channel total at text (if begins sign.Dot ts then channel_named text else None) ts

-- a selector
unfoldable pub selector : ℕ → List Tok → Read Sel
selector total (tok.Name text ∷ ts) = named_selector total (total - suc (length ts)) text ts
selector total ts =
    and_then (selection total ts) (λ what ts. Some (record { chan = 0; what = what }, ts))

-- behind `on key`
unfoldable pub key : List Tok → Read Head
key (tok.Char value ∷ ts) = Some (head.Key (Some value), ts)
key ts = and_then (after sign.Star ts) (λ _ ts. Some (head.Key None, ts))

-- behind `on` and this name
unfoldable pub named_event : List ℕ → List Tok → Read Head
named_event text ts =
    if bytes_eq text (codes "preStart") then Some (head.PreStart, ts)
    else (if bytes_eq text (codes "start") then Some (head.Start, ts)
    else (if bytes_eq text (codes "stopMeasurement") then Some (head.Stop, ts)
    else (if bytes_eq text (codes "key") then key ts else None)))

-- the name of an event, and the key where it is `key`
abbrev pub event_name : List Tok → Read Head
event_name ts = and_then (name ts) (λ text ts. named_event text ts)

-- behind `on`
unfoldable pub event : ℕ → List Tok → Read Head
event total ts =
    if begins_word word.Message ts
    then and_then (items (selector total) (behind ts)) (λ selectors ts. Some (head.Message selectors, ts))
    else (if begins_word word.Timer ts
    then and_then (name (behind ts)) (λ text rest. Some (head.Timer text (total - length (behind ts)), rest))
    else event_name ts)

-- a parameter of this kind, from its name on
unfoldable pub parameter_of : ℕ → Option Kind → List Tok → Read Param
parameter_of total None ts = None
parameter_of total (Some kind) ts =
    and_then (name ts) (λ text rest. Some (record { kind = kind; name = text; at = total - length ts }, rest))

-- a parameter
unfoldable pub parameter : ℕ → List Tok → Read Param
parameter total ts = parameter_of total (kind_at ts) (behind ts)

-- behind the opening parenthesis of a function
unfoldable pub parameters : ℕ → List Tok → Read (List Param)
parameters total ts =
    if begins sign.CloseParen ts then Some ([], behind ts)
    else (if begins_word word.Void ts
    then and_then (after sign.CloseParen (behind ts)) (λ _ ts. Some ([], ts))
    else and_then (items (parameter total) ts) (λ params ts. and_then (after sign.CloseParen ts) (λ _ ts.
    Some (params, ts))))

-- a function of this kind, from its name on
unfoldable pub signature : ℕ → Option Kind → List Tok → Read Head
signature total kind ts =
    and_then (name ts) (λ text rest. and_then (after sign.OpenParen rest) (λ _ rest.
    and_then (parameters total rest) (λ params rest.
    Some (head.Function kind text params (total - length ts), rest))))

-- a function whose first word may be this kind
unfoldable pub function_of : ℕ → Option Kind → List Tok → Read Head
function_of total None ts = signature total None ts
function_of total (Some kind) ts = signature total (Some kind) (behind ts)

-- the head of a procedure
unfoldable pub procedure_head : ℕ → List Tok → Read Head
procedure_head total ts =
    if begins_word word.On ts then event total (behind ts)
    else (if begins_word word.Void ts then signature total None (behind ts)
    else function_of total (kind_at ts) ts)

-- a procedure
unfoldable pub procedure : Parts → List Tok → Read Proc
procedure parts ts =
    and_then (procedure_head parts.total ts) (λ of rest. and_then (after sign.OpenBrace rest) (λ _ rest.
    and_then (block parts (statement parts parts.total) rest) (λ body rest.
    Some (record { head = of; body = body; at = parts.total - length ts }, rest))))

-- the names of included files, up to a closing brace
abbrev pub names : List Tok → Read (List (List ℕ))
names ts = until (begins sign.CloseBrace) included (length ts) [] ts

-- declarations, up to a closing brace
abbrev pub declarations : Parts → List Tok → Read (List Decl)
declarations parts ts = until (begins sign.CloseBrace) parts.declared (length ts) [] ts

-- behind `includes`
unfoldable pub includes : List Tok → Read TopItem
includes ts =
    and_then (after sign.OpenBrace ts) (λ _ ts. and_then (names ts) (λ names ts.
    and_then (after sign.CloseBrace ts) (λ _ ts. Some (top.Includes names, ts))))

-- behind `variables`
unfoldable pub variables : Parts → List Tok → Read TopItem
variables parts ts =
    and_then (after sign.OpenBrace ts) (λ _ ts. and_then (declarations parts ts) (λ declared ts.
    and_then (after sign.CloseBrace ts) (λ _ ts. Some (top.Variables declared, ts))))

-- a part of a file
unfoldable pub top_item : Parts → List Tok → Read TopItem
top_item parts ts =
    if begins_word word.Includes ts then includes (behind ts)
    else (if begins_word word.Variables ts then variables parts (behind ts)
    else and_then (procedure parts ts) (λ of ts. Some (top.Proc of, ts)))

-- no token is left
abbrev pub is_end : List Tok → Bool
is_end [] = true
is_end (first ∷ ts) = false

-- the parts of a file
unfoldable pub file : Parts → List Tok → Read (List TopItem)
file parts ts = until is_end (top_item parts) (suc (length ts)) [] ts
