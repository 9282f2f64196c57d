-- The reader of statements (CAPL manual, statements).
--
-- A rule takes the reader of the statements that nest in it as an argument.
use Rattle.std.specs.Prelude.{ℕ, zero, suc, ◌+◌, ◌-◌, Bool, ◌||◌, not, if◌then◌else◌, List, [], ◌∷◌, ◌++◌, length, Option, Some, None, is_some}
use Rattle.capl_lexer.specs.declared.token.Tok.{Tok}
use Rattle.capl_lexer.specs.declared.token.Tok.TheVariants as tok
use Rattle.capl_lexer.specs.declared.token.Word.TheVariants as word
use Rattle.capl_lexer.specs.declared.token.Sign.{Sign}
use Rattle.capl_lexer.specs.declared.token.Sign.TheVariants as sign
use Rattle.capl_tree.specs.declared.expr.Expr.{Expr}
use Rattle.capl_tree.specs.declared.declaration.Decl.{Decl}
use Rattle.capl_tree.specs.declared.statement.Stmt.{Stmt}
use Rattle.capl_tree.specs.declared.statement.Stmt.TheVariants as stmt
use Rattle.capl_tree.specs.declared.statement.Arm.{Arm}
use Rattle.capl_tree.specs.declared.statement.Group.{Group}
use Rattle.capl_tree.specs.declared.statement.Label.{Label}
use Rattle.capl_tree.specs.Binding.{assignment_level, choice_level}
use Rattle.decl_parser.specs.Declaration.{declaration}
use Rattle.expr_parser.specs.Expression.{expression}
use Rattle.expr_parser.specs.Operators.{kind_at}
use Rattle.expr_parser.specs.Reading.{Read, and_then, begins, begins_word, behind, after, after_word}

-- what the parts of statements are read with: the number of tokens of the file, and the readers of
-- expressions that bind at a level or more strongly, and of declarations
pub record Parts : Type 0 where
  pub total : ℕ
  pub value : ℕ → List Tok → Read Expr
  pub declared : List Tok → Read Decl

-- the readers of the parts of a file of so many tokens
abbrev pub parts_of : ℕ → Parts
parts_of total =
    record { total = total; value = expression total (total + 1); declared = declaration total (total + 1) }

-- items up to where they end, behind those that were found; the number bounds them
unfoldable pub until : {A : Type 0} → (List Tok → Bool) → (List Tok → Read A) → ℕ → List A → List Tok
    → Read (List A)
until ends one zero found ts = None
until ends one (suc n) found ts =
    if ends ts then Some (found, ts)
    else and_then (one ts) (λ item ts. until ends one n (found ++ item ∷ []) ts)

-- `( TEST )`
unfoldable pub enclosed : Parts → List Tok → Read Expr
enclosed parts ts =
    and_then (after sign.OpenParen ts) (λ _ ts. and_then (parts.value assignment_level ts) (λ test ts.
    and_then (after sign.CloseParen ts) (λ _ ts. Some (test, ts))))

-- an expression, where there is one, and this sign
unfoldable pub part_before : Parts → Sign → List Tok → Read (Option Expr)
part_before parts end ts =
    if begins end ts then Some (None, behind ts)
    else and_then (parts.value assignment_level ts) (λ value ts. and_then (after end ts) (λ _ ts.
    Some (Some value, ts)))

-- whether a declaration begins
abbrev pub begins_declaration : List Tok → Bool
begins_declaration ts =
    begins_word word.Const ts || begins_word word.Message ts || begins_word word.Timer ts
    || begins_word word.MsTimer ts || is_some (kind_at ts)

-- whether a label begins
abbrev pub begins_label : List Tok → Bool
begins_label ts = begins_word word.Case ts || begins_word word.Default ts

-- whether no further statement of a block or of a group begins
abbrev pub ends_body : List Tok → Bool
ends_body ts = begins sign.CloseBrace ts || begins_label ts

-- a declaration or a statement
unfoldable pub body_part : Parts → (List Tok → Read Stmt) → List Tok → Read Stmt
body_part parts inner ts =
    if begins_declaration ts then and_then (parts.declared ts) (λ declared ts. Some (stmt.Decl declared, ts))
    else inner ts

-- the declarations and statements of a block or of a group
unfoldable pub body : Parts → (List Tok → Read Stmt) → List Tok → Read (List Stmt)
body parts inner ts = until ends_body (body_part parts inner) (length ts) [] ts

-- behind an opening brace
unfoldable pub block : Parts → (List Tok → Read Stmt) → List Tok → Read (List Stmt)
block parts inner ts =
    and_then (body parts inner ts) (λ found ts. and_then (after sign.CloseBrace ts) (λ _ ts.
    Some (found, ts)))

-- behind an `if`: its test and its body
unfoldable pub arm : Parts → (List Tok → Read Stmt) → List Tok → Read Arm
arm parts inner ts =
    and_then (enclosed parts ts) (λ test ts. and_then (inner ts) (λ body ts.
    Some (record { test = test; body = body }, ts)))

-- behind the body of an arm: `else if` and further arms, or `else` and a statement, or nothing
abbrev pub next_arm : (List Tok → Read Stmt) → (List Tok → Read Stmt) → List Arm → List Tok → Read Stmt
next_arm inner further found ts =
    if begins_word word.Else ts
    then
    (if begins_word word.If (behind ts) then further (behind (behind ts))
    else and_then (inner (behind ts)) (λ other ts. Some (stmt.If found (Some other), ts)))
    else Some (stmt.If found None, ts)

-- behind an `if`: its arms, behind those that were found; the number bounds them
unfoldable pub arms_from : Parts → (List Tok → Read Stmt) → ℕ → List Arm → List Tok → Read Stmt
arms_from parts inner zero found ts = None
arms_from parts inner (suc n) found ts =
    and_then (arm parts inner ts) (λ one ts.
    next_arm inner (arms_from parts inner n (found ++ one ∷ [])) (found ++ one ∷ []) ts)

-- behind an `if`
unfoldable pub choice : Parts → (List Tok → Read Stmt) → List Tok → Read Stmt
choice parts inner ts = arms_from parts inner (length ts) [] ts

-- a label
unfoldable pub label : Parts → List Tok → Read Label
label parts ts =
    if begins_word word.Case ts
    then and_then (parts.value choice_level (behind ts)) (λ value rest.
    and_then (after sign.Colon rest) (λ _ rest.
    Some (record { value = Some value; at = parts.total - length ts }, rest)))
    else and_then (after_word word.Default ts) (λ _ rest. and_then (after sign.Colon rest) (λ _ rest.
    Some (record { value = None; at = parts.total - length ts }, rest)))

-- labels, at least one
unfoldable pub labels : Parts → List Tok → Read (List Label)
labels parts ts =
    and_then (label parts ts) (λ first rest.
    until (λ ts. not (begins_label ts)) (label parts) (length ts) (first ∷ []) rest)

-- labels, and the declarations and statements behind them
unfoldable pub group : Parts → (List Tok → Read Stmt) → List Tok → Read Group
group parts inner ts =
    and_then (labels parts ts) (λ labels ts. and_then (body parts inner ts) (λ body ts.
    Some (record { labels = labels; body = body }, ts)))

-- groups up to a closing brace
unfoldable pub groups : Parts → (List Tok → Read Stmt) → List Tok → Read (List Group)
groups parts inner ts = until (begins sign.CloseBrace) (group parts inner) (length ts) [] ts

-- behind a `switch`
unfoldable pub switch : Parts → (List Tok → Read Stmt) → List Tok → Read Stmt
switch parts inner ts =
    and_then (enclosed parts ts) (λ on ts. and_then (after sign.OpenBrace ts) (λ _ ts.
    and_then (groups parts inner ts) (λ groups ts. and_then (after sign.CloseBrace ts) (λ _ ts.
    Some (stmt.Switch on groups, ts)))))

-- behind a `while`
unfoldable pub while_loop : Parts → (List Tok → Read Stmt) → List Tok → Read Stmt
while_loop parts inner ts =
    and_then (enclosed parts ts) (λ test ts. and_then (inner ts) (λ body ts. Some (stmt.While test body, ts)))

-- behind a `do`
unfoldable pub do_loop : Parts → (List Tok → Read Stmt) → List Tok → Read Stmt
do_loop parts inner ts =
    and_then (inner ts) (λ body ts. and_then (after_word word.While ts) (λ _ ts.
    and_then (enclosed parts ts) (λ test ts. and_then (after sign.Semi ts) (λ _ ts.
    Some (stmt.Do body test, ts)))))

-- behind a `for`
unfoldable pub for_loop : Parts → (List Tok → Read Stmt) → List Tok → Read Stmt
for_loop parts inner ts =
    and_then (after sign.OpenParen ts) (λ _ ts. and_then (part_before parts sign.Semi ts) (λ init ts.
    and_then (part_before parts sign.Semi ts) (λ test ts.
    and_then (part_before parts sign.CloseParen ts) (λ step ts.
    and_then (inner ts) (λ body ts. Some (stmt.For init test step body, ts))))))

-- an expression and `;`
unfoldable pub evaluation : Parts → List Tok → Read Stmt
evaluation parts ts =
    and_then (parts.value assignment_level ts) (λ value ts. and_then (after sign.Semi ts) (λ _ ts.
    Some (stmt.Expr value, ts)))

-- a statement that leaves a loop, a group or a procedure, or an expression and `;`
unfoldable pub jump : Parts → List Tok → Read Stmt
jump parts ts =
    if begins_word word.Break ts
    then and_then (after sign.Semi (behind ts)) (λ _ rest. Some (stmt.Break (parts.total - length ts), rest))
    else (if begins_word word.Continue ts
    then and_then (after sign.Semi (behind ts)) (λ _ rest.
    Some (stmt.Continue (parts.total - length ts), rest))
    else (if begins_word word.Return ts
    then and_then (part_before parts sign.Semi (behind ts)) (λ value rest.
    Some (stmt.Return value (parts.total - length ts), rest))
    else evaluation parts ts))

-- a loop, or a statement in which no other nests
unfoldable pub repeat : Parts → (List Tok → Read Stmt) → List Tok → Read Stmt
repeat parts inner ts =
    if begins_word word.While ts then while_loop parts inner (behind ts)
    else (if begins_word word.Do ts then do_loop parts inner (behind ts)
    else (if begins_word word.For ts then for_loop parts inner (behind ts)
    else jump parts ts))

-- a statement, by the reader of those that nest in it
unfoldable pub statement_by : Parts → (List Tok → Read Stmt) → List Tok → Read Stmt
statement_by parts inner ts =
    if begins sign.Semi ts then Some (stmt.Empty, behind ts)
    else (if begins sign.OpenBrace ts
    then and_then (block parts inner (behind ts)) (λ body ts. Some (stmt.Block body, ts))
    else (if begins_word word.If ts then choice parts inner (behind ts)
    else (if begins_word word.Switch ts then switch parts inner (behind ts)
    else repeat parts inner ts)))

-- a statement that is no declaration; `depth` bounds how deep statements nest
unfoldable pub statement : Parts → ℕ → List Tok → Read Stmt
statement parts zero ts = None
statement parts (suc depth) ts = statement_by parts (statement parts depth) ts
