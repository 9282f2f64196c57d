-- What comes behind a token of a procedure's head or of a part of a file (CAPL manual, event procedures and
-- functions).
use Rattle.std.specs.Prelude.{List, ℕ, Bool, true, false, ◌||◌, if◌then◌else◌, ◌∷◌, Option, Some, None, is_some, codes}
use Rattle.std.specs.Str.{bytes_eq}
use Rattle.capl_lexer.specs.declared.token.Tok.{Tok}
use Rattle.capl_lexer.specs.declared.token.Tok.TheVariants as tok
use Rattle.capl_lexer.specs.declared.token.Word.TheVariants as word
use Rattle.capl_lexer.specs.declared.token.Sign.TheVariants as sign
use Rattle.expr_parser.specs.Operators.{kind_of}
use Rattle.viable_prefixes.specs.declared.goal.Goal.TheVariants as goal
use Rattle.viable_prefixes.specs.Inside.Token.{is_sign, is_word, kind_in}
use Rattle.viable_prefixes.specs.Inside.Stack.{Stack, when}
use Rattle.viable_prefixes.specs.Inside.Expression.{declaration_from}

-- what is between the braces of a procedure, and the parts of the file behind it
abbrev pub body : Stack → Stack
body stack = goal.Sign sign.OpenBrace ∷ goal.Body ∷ goal.File ∷ stack

-- the parameters of a function, and its body
abbrev pub signature : Stack → Stack
signature stack = goal.Sign sign.OpenParen ∷ goal.Parameters ∷ body stack

-- the name of a function, its parameters, and its body
abbrev pub function : Stack → Stack
function stack = goal.Name ∷ signature stack

-- behind the first token of a part of a file
abbrev pub part_from : Tok → Stack → Option Stack
part_from (tok.Word word.Includes) stack =
    Some (goal.Sign sign.OpenBrace ∷ goal.Includes ∷ goal.File ∷ stack)
part_from (tok.Word word.Variables) stack =
    Some (goal.Sign sign.OpenBrace ∷ goal.Variables ∷ goal.File ∷ stack)
part_from (tok.Word word.On) stack = Some (goal.Event ∷ body stack)
part_from (tok.Word word.Void) stack = Some (function stack)
part_from (tok.Word of) stack = when (is_some (kind_of of)) (function stack)
part_from (tok.Name name) stack = Some (signature stack)
part_from _ stack = None

-- behind the first token of what is left of the names of included files
abbrev pub includes_from : Tok → Stack → Option Stack
includes_from (tok.Include name) stack = Some (goal.Includes ∷ stack)
includes_from t stack = when (is_sign sign.CloseBrace t) stack

-- behind the first token of what is left of declarations
abbrev pub variables_from : Tok → Stack → Option Stack
variables_from t stack =
    if is_sign sign.CloseBrace t then Some stack else declaration_from t (goal.Variables ∷ stack)

-- behind `on` and this name
abbrev pub event_named : List ℕ → Stack → Option Stack
event_named name stack =
    if bytes_eq name (codes "preStart") || bytes_eq name (codes "start")
    || bytes_eq name (codes "stopMeasurement")
    then Some stack
    else when (bytes_eq name (codes "key")) (goal.Key ∷ stack)

-- behind the token behind `on`
abbrev pub event_from : Tok → Stack → Option Stack
event_from (tok.Word word.Message) stack = Some (goal.Selector ∷ goal.FurtherSelectors ∷ stack)
event_from (tok.Word word.Timer) stack = Some (goal.Name ∷ stack)
event_from (tok.Name name) stack = event_named name stack
event_from _ stack = None

-- behind the first token of which frames of a channel
abbrev pub selection_from : Tok → Stack → Option Stack
selection_from (tok.Sign sign.Star) stack = Some stack
selection_from (tok.Name name) stack = Some stack
selection_from (tok.Num ext value) stack = Some (goal.Range ∷ stack)
selection_from _ stack = None

-- whether the name is that of a channel
abbrev pub names_channel : List ℕ → Bool
names_channel name = bytes_eq name (codes "CAN1") || bytes_eq name (codes "CAN2")

-- behind the first token of a selector; a dot may come behind the name of a channel
abbrev pub selector_from : Tok → Stack → Option Stack
selector_from (tok.Name name) stack = Some (if names_channel name then goal.Channel ∷ stack else stack)
selector_from t stack = selection_from t stack

-- whether it is a number
abbrev pub is_number : Tok → Bool
is_number (tok.Num ext value) = true
is_number _ = false

-- whether it is a key
abbrev pub is_key : Tok → Bool
is_key (tok.Char value) = true
is_key (tok.Sign sign.Star) = true
is_key _ = false

-- whether it is a name
abbrev pub is_name : Tok → Bool
is_name (tok.Name name) = true
is_name _ = false

-- behind the first token of a parameter
abbrev pub parameter_from : Tok → Stack → Option Stack
parameter_from t stack = when (is_some (kind_in t)) (goal.Name ∷ stack)

-- behind the first token of parameters
abbrev pub parameters_from : Tok → Stack → Option Stack
parameters_from t stack =
    if is_sign sign.CloseParen t then Some stack
    else (if is_word word.Void t then Some (goal.Sign sign.CloseParen ∷ stack)
    else parameter_from t (goal.FurtherParameters ∷ stack))
