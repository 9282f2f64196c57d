-- What comes behind a token of a statement (CAPL manual, statements).
use Rattle.std.specs.Prelude.{Bool, ◌||◌, if◌then◌else◌, ◌∷◌, Option, Some, None, is_some}
use Rattle.capl_lexer.specs.declared.token.Tok.{Tok}
use Rattle.capl_lexer.specs.declared.token.Tok.TheVariants as tok
use Rattle.capl_lexer.specs.declared.token.Word.TheVariants as word
use Rattle.capl_lexer.specs.declared.token.Sign.{Sign}
use Rattle.capl_lexer.specs.declared.token.Sign.TheVariants as sign
use Rattle.capl_tree.specs.Binding.{assignment_level, choice_level}
use Rattle.viable_prefixes.specs.declared.goal.Goal.TheVariants as goal
use Rattle.viable_prefixes.specs.Inside.Token.{is_sign, is_word, kind_in}
use Rattle.viable_prefixes.specs.Inside.Stack.{Stack}
use Rattle.viable_prefixes.specs.Inside.Expression.{expression_from, declaration_from}

-- `( TEST )`
abbrev pub enclosed : Stack → Stack
enclosed stack =
    goal.Sign sign.OpenParen ∷ goal.Expression assignment_level ∷ goal.Sign sign.CloseParen ∷ stack

-- what comes behind `do`
abbrev pub do_loop : Stack → Stack
do_loop stack = goal.Statement ∷ goal.Word word.While ∷ enclosed (goal.Sign sign.Semi ∷ stack)

-- what comes behind `for`
abbrev pub for_loop : Stack → Stack
for_loop stack =
    goal.Sign sign.OpenParen ∷ goal.Part sign.Semi ∷ goal.Part sign.Semi ∷ goal.Part sign.CloseParen
    ∷ goal.Statement ∷ stack

-- behind the first token of an expression that may be missing, up to a sign
abbrev pub part_from : Sign → Tok → Stack → Option Stack
part_from end t stack =
    if is_sign end t then Some stack else expression_from assignment_level t (goal.Sign end ∷ stack)

-- behind the first token of a statement that is no declaration
abbrev pub statement_from : Tok → Stack → Option Stack
statement_from (tok.Sign sign.Semi) stack = Some stack
statement_from (tok.Sign sign.OpenBrace) stack = Some (goal.Body ∷ stack)
statement_from (tok.Word word.If) stack = Some (enclosed (goal.Statement ∷ goal.Else ∷ stack))
statement_from (tok.Word word.Switch) stack =
    Some (enclosed (goal.Sign sign.OpenBrace ∷ goal.Groups ∷ stack))
statement_from (tok.Word word.While) stack = Some (enclosed (goal.Statement ∷ stack))
statement_from (tok.Word word.Do) stack = Some (do_loop stack)
statement_from (tok.Word word.For) stack = Some (for_loop stack)
statement_from (tok.Word word.Break) stack = Some (goal.Sign sign.Semi ∷ stack)
statement_from (tok.Word word.Continue) stack = Some (goal.Sign sign.Semi ∷ stack)
statement_from (tok.Word word.Return) stack = Some (goal.Part sign.Semi ∷ stack)
statement_from t stack = expression_from assignment_level t (goal.Sign sign.Semi ∷ stack)

-- whether a declaration begins with the token
abbrev pub declares : Tok → Bool
declares t =
    is_word word.Const t || is_word word.Message t || is_word word.Timer t || is_word word.MsTimer t
    || is_some (kind_in t)

-- behind the first token of a declaration or a statement
abbrev pub body_part_from : Tok → Stack → Option Stack
body_part_from t stack = if declares t then declaration_from t stack else statement_from t stack

-- behind the first token of what is left of a block
abbrev pub body_from : Tok → Stack → Option Stack
body_from t stack =
    if is_sign sign.CloseBrace t then Some stack else body_part_from t (goal.Body ∷ stack)

-- behind the first token of a label
abbrev pub label_from : Tok → Stack → Option Stack
label_from (tok.Word word.Case) stack =
    Some (goal.Expression choice_level ∷ goal.Sign sign.Colon ∷ goal.GroupBody ∷ stack)
label_from (tok.Word word.Default) stack = Some (goal.Sign sign.Colon ∷ goal.GroupBody ∷ stack)
label_from _ stack = None

-- behind the first token of the groups of a `switch`
abbrev pub groups_from : Tok → Stack → Option Stack
groups_from t stack = if is_sign sign.CloseBrace t then Some stack else label_from t stack

-- whether a label begins with the token
abbrev pub labels : Tok → Bool
labels t = is_word word.Case t || is_word word.Default t

-- behind the first token of what is left of a group
abbrev pub group_body_from : Tok → Stack → Option Stack
group_body_from t stack =
    if is_sign sign.CloseBrace t then Some stack
    else (if labels t then label_from t stack else body_part_from t (goal.GroupBody ∷ stack))
