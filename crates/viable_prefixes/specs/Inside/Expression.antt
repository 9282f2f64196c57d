-- What comes behind a token of an expression or a declaration (CAPL manual, operators and declarations).
use Rattle.std.specs.Prelude.{ℕ, ◌+◌, if◌then◌else◌, ◌∷◌, Option, Some, None, is_some}
use Rattle.int_kinds.specs.declared.operators.UnOp.{UnOp}
use Rattle.capl_lexer.specs.declared.token.Tok.{Tok}
use Rattle.capl_lexer.specs.declared.token.Tok.TheVariants as tok
use Rattle.capl_lexer.specs.declared.token.Word.TheVariants as word
use Rattle.capl_lexer.specs.declared.token.Sign.TheVariants as sign
use Rattle.capl_tree.specs.Binding.{assignment_level, choice_level, prefix_level, operator_level}
use Rattle.expr_parser.specs.declared.operator.Operator.{Operator}
use Rattle.expr_parser.specs.declared.operator.Operator.TheVariants as behind
use Rattle.expr_parser.specs.Operators.{prefix_operator, kind_of}
use Rattle.viable_prefixes.specs.declared.goal.Goal.TheVariants as goal
use Rattle.viable_prefixes.specs.Inside.Token.{is_sign, kind_in, operator_in}
use Rattle.viable_prefixes.specs.Inside.Stack.{Stack, when}

-- behind a prefix operator
abbrev pub prefix_from : ℕ → Option UnOp → Stack → Option Stack
prefix_from level None stack = None
prefix_from level (Some op) stack = Some (goal.Expression prefix_level ∷ goal.Operators level ∷ stack)

-- behind the first token of an expression that binds at a level or more strongly
abbrev pub expression_from : ℕ → Tok → Stack → Option Stack
expression_from level (tok.Name name) stack = Some (goal.Call ∷ goal.Operators level ∷ stack)
expression_from level (tok.Num ext value) stack = Some (goal.Operators level ∷ stack)
expression_from level (tok.Char value) stack = Some (goal.Operators level ∷ stack)
expression_from level (tok.Str text) stack = Some (goal.Operators level ∷ stack)
expression_from level (tok.Word word.This) stack = Some (goal.Operators level ∷ stack)
expression_from level (tok.Sign sign.OpenParen) stack = Some (goal.Enclosed ∷ goal.Operators level ∷ stack)
expression_from level (tok.Sign of) stack = prefix_from level (prefix_operator of) stack
expression_from level _ stack = None

-- behind an operator behind an operand
abbrev pub operator_from : ℕ → Option Operator → Stack → Option Stack
operator_from level (Some (behind.Assign op)) stack =
    Some (goal.Expression assignment_level ∷ goal.Operators level ∷ stack)
operator_from level (Some behind.Choice) stack =
    Some (goal.Expression assignment_level ∷ goal.Sign sign.Colon ∷ goal.Expression choice_level
    ∷ goal.Operators level ∷ stack)
operator_from level (Some (behind.Binary op)) stack =
    Some (goal.Expression (operator_level op + 1) ∷ goal.Operators level ∷ stack)
operator_from level (Some behind.Index) stack =
    Some (goal.Expression assignment_level ∷ goal.Sign sign.CloseBracket ∷ goal.Operators level ∷ stack)
operator_from level (Some behind.Member) stack = Some (goal.Field ∷ goal.Operators level ∷ stack)
operator_from level (Some (behind.Post up)) stack = Some (goal.Operators level ∷ stack)
operator_from level (Some behind.Call) stack = None
operator_from level None stack = None

-- behind the first token of arguments
abbrev pub arguments_from : Tok → Stack → Option Stack
arguments_from t stack =
    if is_sign sign.CloseParen t then Some stack
    else expression_from assignment_level t (goal.FurtherArguments ∷ stack)

-- behind the first token behind an opening parenthesis
abbrev pub enclosed_from : Tok → Stack → Option Stack
enclosed_from t stack =
    if is_some (kind_in t) then Some (goal.Sign sign.CloseParen ∷ goal.Expression prefix_level ∷ stack)
    else expression_from assignment_level t (goal.Sign sign.CloseParen ∷ stack)

-- what comes behind the word of a kind, which begins bytes of a payload
abbrev pub bytes : Stack → Stack
bytes stack =
    goal.Sign sign.OpenParen ∷ goal.Expression assignment_level ∷ goal.Sign sign.CloseParen ∷ stack

-- behind the first token of a field
abbrev pub field_from : Tok → Stack → Option Stack
field_from (tok.Name name) stack = Some stack
field_from t stack = when (is_some (kind_in t)) (bytes stack)

-- behind the first token of an item of an initialiser
abbrev pub item_from : Tok → Stack → Option Stack
item_from (tok.Name name) stack = Some (goal.Named ∷ stack)
item_from t stack =
    if is_some (kind_in t) then Some (bytes (goal.Sign sign.Assign ∷ goal.Expression choice_level ∷ stack))
    else expression_from choice_level t stack

-- behind the token behind the name that an item begins with
abbrev pub named_from : Tok → Stack → Option Stack
named_from t stack =
    if is_sign sign.Assign t then Some (goal.Expression choice_level ∷ stack)
    else (if is_sign sign.OpenParen t then Some (goal.Arguments ∷ goal.Operators choice_level ∷ stack)
    else operator_from choice_level (operator_in t) stack)

-- behind the first token of what a variable is given at first
abbrev pub initialiser_from : Tok → Stack → Option Stack
initialiser_from t stack =
    if is_sign sign.OpenBrace t then Some (goal.Item ∷ goal.FurtherItems ∷ stack)
    else expression_from choice_level t stack

-- behind the first token of a declared variable
abbrev pub declarator_from : Tok → Stack → Option Stack
declarator_from (tok.Name name) stack = Some (goal.Size ∷ goal.First ∷ stack)
declarator_from _ stack = None

-- behind the token that says which message is declared
abbrev pub message_from : Tok → Stack → Option Stack
message_from (tok.Sign sign.Star) stack = Some stack
message_from (tok.Num ext value) stack = Some stack
message_from (tok.Name name) stack = Some stack
message_from _ stack = None

-- the variables of a declaration
abbrev pub declarators : Stack → Stack
declarators stack = goal.Declarator ∷ goal.FurtherDeclarators ∷ stack

-- behind the first token of a declaration
abbrev pub declaration_from : Tok → Stack → Option Stack
declaration_from (tok.Word word.Const) stack = Some (goal.Kind ∷ declarators stack)
declaration_from (tok.Word word.Message) stack = Some (goal.Message ∷ declarators stack)
declaration_from (tok.Word word.Timer) stack = Some (declarators stack)
declaration_from (tok.Word word.MsTimer) stack = Some (declarators stack)
declaration_from (tok.Word of) stack = when (is_some (kind_of of)) (declarators stack)
declaration_from _ stack = None
