-- That the goals behind a token fit where those before it do.
use Rattle.std.proofs.Common.{◌≡◌, ℕ, Bool, true, false, ◌+◌, ◌&&◌, if◌then◌else◌, List, [], ◌∷◌, Option, Some, None, is_some, codes, arith, refl, sym, ap, ◌∙◌}
use Rattle.std.specs.Prelude.{nat_lt, ◌||◌}
use Rattle.std.specs.Str.{bytes_eq}
use Rattle.std.proofs.lemmas.Bool.{false≢true, and_parts, lt-ltb}
use Rattle.int_kinds.specs.declared.operators.UnOp.{UnOp}
use Rattle.int_kinds.specs.declared.operators.BinOp.{BinOp}
use Rattle.capl_lexer.specs.declared.token.Tok.{Tok}
use Rattle.capl_lexer.specs.declared.token.Tok.TheVariants as tok
use Rattle.capl_lexer.specs.declared.token.Word.TheVariants as word
use Rattle.capl_lexer.specs.declared.token.Sign.{Sign}
use Rattle.capl_lexer.specs.declared.token.Sign.TheVariants as sign
use Rattle.capl_tree.specs.Binding.{assignment_level, choice_level, prefix_level, operator_level}
use Rattle.expr_parser.specs.declared.operator.Operator.{Operator}
use Rattle.expr_parser.specs.declared.operator.Operator.TheVariants as behind
use Rattle.expr_parser.specs.Operators.{prefix_operator, kind_of}
use Rattle.viable_prefixes.specs.declared.goal.Goal.{Goal}
use Rattle.viable_prefixes.specs.declared.goal.Goal.TheVariants as goal
use Rattle.viable_prefixes.specs.Inside.Token.{is_sign, is_word, kind_in, operator_in}
use Rattle.viable_prefixes.specs.Inside.Stack.{Stack, when, further}
use Rattle.viable_prefixes.specs.Inside.Expression as expression
use Rattle.viable_prefixes.specs.Inside.Statement as statement
use Rattle.viable_prefixes.specs.Inside.File as file
use Rattle.viable_prefixes.specs.Inside.Goals.{ends_before, taken, moved}
use Rattle.viable_prefixes.proofs.Ends.{is_quiet, begin_quietly, ended, fits, is_sound}

-- whether the goals fit, where a token can come
abbrev pub stay : Option Stack → Bool
stay None = true
stay (Some stack) = is_sound stack

-- of two that hold the second does
later : (one other : Bool) → (one && other) ≡ true → other ≡ true
later one other both = (and_parts one other both).1

-- the goals behind one that wants a quiet token behind it fit
sound_behind : (stack : Stack) → (begin_quietly (ended stack) && is_sound stack) ≡ true → is_sound stack ≡ true
sound_behind stack both = later (begin_quietly (ended stack)) (is_sound stack) both

-- of two that hold the first once more
twice : (one other : Bool) → (one && other) ≡ true → (one && (one && other)) ≡ true
twice true other both = both
twice false other both = both

-- of three the second once more
second_twice : (one other last : Bool) → ((one && other) && last) ≡ true → (other && ((one && other) && last)) ≡ true
second_twice true true last all = all
second_twice true false last all = all
second_twice false other last all = absurd (false≢true all)

when_stays : (is : Bool) (stack : Stack) → is_sound stack ≡ true → stay (when is stack) ≡ true
when_stays true stack sound = sound
when_stays false stack sound = refl

if_stays : (is : Bool) (one other : Option Stack) → stay one ≡ true → stay other ≡ true
    → stay (if is then one else other) ≡ true
if_stays true one other first second = first
if_stays false one other first second = second

further_stays : (one again : Goal) (end : Sign) (t : Tok) (stack : Stack) → is_sound (one ∷ again ∷ stack) ≡ true
    → is_sound stack ≡ true → stay (further one again end t stack) ≡ true
further_stays one again end t stack more sound =
    if_stays (is_sign sign.Comma t) (Some (one ∷ again ∷ stack)) (when (is_sign end t) stack) more
    (when_stays (is_sign end t) stack sound)

-- a goal that wants a quiet token behind it fits before operators
before_operators : (level : ℕ) (stack : Stack) → is_sound (goal.Operators level ∷ stack) ≡ true
    → (begin_quietly (ended stack) && is_sound (goal.Operators level ∷ stack)) ≡ true
before_operators level stack sound = second_twice (nat_lt 0 level) (begin_quietly (ended stack)) (is_sound stack) sound

prefix_stays : (level : ℕ) (op : Option UnOp) (stack : Stack) → is_sound (goal.Operators level ∷ stack) ≡ true
    → stay (expression.prefix_from level op stack) ≡ true
prefix_stays level None stack sound = refl
prefix_stays level (Some op) stack sound = before_operators level stack sound

expression_stays : (level : ℕ) (t : Tok) (stack : Stack) → is_sound (goal.Expression level ∷ stack) ≡ true
    → stay (expression.expression_from level t stack) ≡ true
expression_stays level (tok.Name name) stack sound = before_operators level stack sound
expression_stays level (tok.Num ext value) stack sound = sound
expression_stays level (tok.Char value) stack sound = sound
expression_stays level (tok.Str text) stack sound = sound
expression_stays level (tok.Word word.This) stack sound = sound
expression_stays level (tok.Sign sign.OpenParen) stack sound = before_operators level stack sound
expression_stays level (tok.Sign of) stack sound = prefix_stays level (prefix_operator of) stack sound
expression_stays level _ stack sound = refl

-- a level above that of a binary operator is none of the lowest
above_binary : (op : BinOp) → nat_lt 0 (operator_level op + 1) ≡ true
above_binary op = lt-ltb 0 (operator_level op + 1) (omega arith)

binary_stays : (level : ℕ) (op : BinOp) (stack : Stack) → is_sound (goal.Operators level ∷ stack) ≡ true
    → is_sound (goal.Expression (operator_level op + 1) ∷ goal.Operators level ∷ stack) ≡ true
binary_stays level op stack sound =
    ap (λ is. (is && begin_quietly (ended stack)) && is_sound (goal.Operators level ∷ stack)) (above_binary op)
    ∙ before_operators level stack sound

operator_stays : (level : ℕ) (op : Option Operator) (stack : Stack) → is_sound (goal.Operators level ∷ stack) ≡ true
    → stay (expression.operator_from level op stack) ≡ true
operator_stays level (Some (behind.Assign op)) stack sound = before_operators level stack sound
operator_stays level (Some behind.Choice) stack sound = before_operators level stack sound
operator_stays level (Some (behind.Binary op)) stack sound = binary_stays level op stack sound
operator_stays level (Some behind.Index) stack sound = sound
operator_stays level (Some behind.Member) stack sound = sound
operator_stays level (Some (behind.Post up)) stack sound = sound
operator_stays level (Some behind.Call) stack sound = refl
operator_stays level None stack sound = refl

arguments_stay : (t : Tok) (stack : Stack) → is_sound stack ≡ true → stay (expression.arguments_from t stack) ≡ true
arguments_stay t stack sound =
    if_stays (is_sign sign.CloseParen t) (Some stack)
    (expression.expression_from assignment_level t (goal.FurtherArguments ∷ stack))
    sound (expression_stays assignment_level t (goal.FurtherArguments ∷ stack) sound)

enclosed_stays : (t : Tok) (stack : Stack) → is_sound (goal.Enclosed ∷ stack) ≡ true
    → stay (expression.enclosed_from t stack) ≡ true
enclosed_stays t stack sound =
    if_stays (is_some (kind_in t)) (Some (goal.Sign sign.CloseParen ∷ goal.Expression prefix_level ∷ stack))
    (expression.expression_from assignment_level t (goal.Sign sign.CloseParen ∷ stack))
    sound
    (expression_stays assignment_level t (goal.Sign sign.CloseParen ∷ stack)
    (sound_behind stack sound))

field_stays : (t : Tok) (stack : Stack) → is_sound stack ≡ true → stay (expression.field_from t stack) ≡ true
field_stays (tok.Name name) stack sound = sound
field_stays (tok.Word of) stack sound = when_stays (is_some (kind_of of)) (expression.bytes stack) sound
field_stays _ stack sound = refl

item_stays : (t : Tok) (stack : Stack) → is_sound (goal.Item ∷ stack) ≡ true → stay (expression.item_from t stack) ≡ true
item_stays (tok.Name name) stack sound = sound
item_stays t stack sound =
    if_stays (is_some (kind_in t))
    (Some (expression.bytes (goal.Sign sign.Assign ∷ goal.Expression choice_level ∷ stack)))
    (expression.expression_from choice_level t stack) sound (expression_stays choice_level t stack sound)

named_stays : (t : Tok) (stack : Stack) → is_sound (goal.Named ∷ stack) ≡ true → stay (expression.named_from t stack) ≡ true
named_stays t stack sound =
    if_stays (is_sign sign.Assign t) (Some (goal.Expression choice_level ∷ stack))
    (if is_sign sign.OpenParen t then Some (goal.Arguments ∷ goal.Operators choice_level ∷ stack)
    else expression.operator_from choice_level (operator_in t) stack)
    sound
    (if_stays (is_sign sign.OpenParen t) (Some (goal.Arguments ∷ goal.Operators choice_level ∷ stack))
    (expression.operator_from choice_level (operator_in t) stack)
    sound (operator_stays choice_level (operator_in t) stack sound))

initialiser_stays : (t : Tok) (stack : Stack) → is_sound (goal.Initialiser ∷ stack) ≡ true
    → stay (expression.initialiser_from t stack) ≡ true
initialiser_stays t stack sound =
    if_stays (is_sign sign.OpenBrace t) (Some (goal.Item ∷ goal.FurtherItems ∷ stack))
    (expression.expression_from choice_level t stack) (sound_behind stack sound)
    (expression_stays choice_level t stack sound)

declarator_stays : (t : Tok) (stack : Stack) → is_sound (goal.Declarator ∷ stack) ≡ true
    → stay (expression.declarator_from t stack) ≡ true
declarator_stays (tok.Name name) stack sound = twice (begin_quietly (ended stack)) (is_sound stack) sound
declarator_stays _ stack sound = refl

message_stays : (t : Tok) (stack : Stack) → is_sound stack ≡ true → stay (expression.message_from t stack) ≡ true
message_stays (tok.Sign sign.Star) stack sound = sound
message_stays (tok.Num ext value) stack sound = sound
message_stays (tok.Name name) stack sound = sound
message_stays _ stack sound = refl

declaration_stays : (t : Tok) (stack : Stack) → is_sound stack ≡ true → stay (expression.declaration_from t stack) ≡ true
declaration_stays (tok.Word word.Const) stack sound = sound
declaration_stays (tok.Word word.Message) stack sound = sound
declaration_stays (tok.Word word.Timer) stack sound = sound
declaration_stays (tok.Word word.MsTimer) stack sound = sound
declaration_stays (tok.Word of) stack sound = when_stays (is_some (kind_of of)) (expression.declarators stack) sound
declaration_stays _ stack sound = refl

part_stays : (end : Sign) (t : Tok) (stack : Stack) → is_sound (goal.Part end ∷ stack) ≡ true
    → stay (statement.part_from end t stack) ≡ true
part_stays end t stack sound =
    if_stays (is_sign end t) (Some stack) (expression.expression_from assignment_level t (goal.Sign end ∷ stack))
    (later (is_quiet (tok.Sign end)) (is_sound stack) sound) (expression_stays assignment_level t (goal.Sign end ∷ stack) sound)

statement_stays : (t : Tok) (stack : Stack) → is_sound (goal.Statement ∷ stack) ≡ true
    → stay (statement.statement_from t stack) ≡ true
statement_stays (tok.Word word.If) stack sound = twice (begin_quietly (ended stack)) (is_sound stack) sound
statement_stays (tok.Word word.While) stack sound = sound
statement_stays (tok.Word word.For) stack sound = sound
statement_stays (tok.Sign sign.Semi) stack sound = sound_behind stack sound
statement_stays (tok.Sign sign.OpenBrace) stack sound = sound_behind stack sound
statement_stays (tok.Word word.Switch) stack sound = sound_behind stack sound
statement_stays (tok.Word word.Do) stack sound = sound_behind stack sound
statement_stays (tok.Word word.Break) stack sound = sound_behind stack sound
statement_stays (tok.Word word.Continue) stack sound = sound_behind stack sound
statement_stays (tok.Word word.Return) stack sound = sound_behind stack sound
statement_stays t stack sound =
    expression_stays assignment_level t (goal.Sign sign.Semi ∷ stack)
    (sound_behind stack sound)

body_part_stays : (t : Tok) (stack : Stack) → is_sound (goal.Statement ∷ stack) ≡ true
    → stay (statement.body_part_from t stack) ≡ true
body_part_stays t stack sound =
    if_stays (statement.declares t) (expression.declaration_from t stack) (statement.statement_from t stack)
    (declaration_stays t stack (sound_behind stack sound)) (statement_stays t stack sound)

body_stays : (t : Tok) (stack : Stack) → is_sound stack ≡ true → stay (statement.body_from t stack) ≡ true
body_stays t stack sound =
    if_stays (is_sign sign.CloseBrace t) (Some stack) (statement.body_part_from t (goal.Body ∷ stack)) sound
    (body_part_stays t (goal.Body ∷ stack) sound)

label_stays : (t : Tok) (stack : Stack) → is_sound stack ≡ true → stay (statement.label_from t stack) ≡ true
label_stays (tok.Word word.Case) stack sound = sound
label_stays (tok.Word word.Default) stack sound = sound
label_stays _ stack sound = refl

groups_stay : (t : Tok) (stack : Stack) → is_sound stack ≡ true → stay (statement.groups_from t stack) ≡ true
groups_stay t stack sound =
    if_stays (is_sign sign.CloseBrace t) (Some stack) (statement.label_from t stack) sound (label_stays t stack sound)

group_body_stays : (t : Tok) (stack : Stack) → is_sound stack ≡ true → stay (statement.group_body_from t stack) ≡ true
group_body_stays t stack sound =
    if_stays (is_sign sign.CloseBrace t) (Some stack)
    (if statement.labels t then statement.label_from t stack else statement.body_part_from t (goal.GroupBody ∷ stack))
    sound
    (if_stays (statement.labels t) (statement.label_from t stack) (statement.body_part_from t (goal.GroupBody ∷ stack))
    (label_stays t stack sound) (body_part_stays t (goal.GroupBody ∷ stack) sound))

file_part_stays : (t : Tok) (stack : Stack) → is_sound (goal.File ∷ stack) ≡ true → stay (file.part_from t stack) ≡ true
file_part_stays (tok.Word word.Includes) stack sound = sound
file_part_stays (tok.Word word.Variables) stack sound = sound
file_part_stays (tok.Word word.On) stack sound = sound
file_part_stays (tok.Word word.Void) stack sound = sound
file_part_stays (tok.Word of) stack sound = when_stays (is_some (kind_of of)) (file.function stack) sound
file_part_stays (tok.Name name) stack sound = sound
file_part_stays _ stack sound = refl

includes_stay : (t : Tok) (stack : Stack) → is_sound stack ≡ true → stay (file.includes_from t stack) ≡ true
includes_stay (tok.Include name) stack sound = sound
includes_stay t stack sound = when_stays (is_sign sign.CloseBrace t) stack sound

variables_stay : (t : Tok) (stack : Stack) → is_sound stack ≡ true → stay (file.variables_from t stack) ≡ true
variables_stay t stack sound =
    if_stays (is_sign sign.CloseBrace t) (Some stack) (expression.declaration_from t (goal.Variables ∷ stack)) sound
    (declaration_stays t (goal.Variables ∷ stack) sound)

event_named_stays : (name : List ℕ) (stack : Stack) → is_sound stack ≡ true → stay (file.event_named name stack) ≡ true
event_named_stays name stack sound =
    if_stays
    (bytes_eq name (codes "preStart") || bytes_eq name (codes "start") || bytes_eq name (codes "stopMeasurement"))
    (Some stack) (when (bytes_eq name (codes "key")) (goal.Key ∷ stack)) sound
    (when_stays (bytes_eq name (codes "key")) (goal.Key ∷ stack) sound)

event_stays : (t : Tok) (stack : Stack) → is_sound (goal.Event ∷ stack) ≡ true → stay (file.event_from t stack) ≡ true
event_stays (tok.Word word.Message) stack sound = twice (begin_quietly (ended stack)) (is_sound stack) sound
event_stays (tok.Word word.Timer) stack sound = sound_behind stack sound
event_stays (tok.Name name) stack sound =
    event_named_stays name stack (sound_behind stack sound)
event_stays _ stack sound = refl

selection_stays : (t : Tok) (stack : Stack) → is_sound (goal.Selection ∷ stack) ≡ true
    → stay (file.selection_from t stack) ≡ true
selection_stays (tok.Sign sign.Star) stack sound = sound_behind stack sound
selection_stays (tok.Name name) stack sound = sound_behind stack sound
selection_stays (tok.Num ext value) stack sound = sound
selection_stays _ stack sound = refl

channel_stays : (named : Bool) (stack : Stack) → is_sound (goal.Selector ∷ stack) ≡ true
    → is_sound (if named then goal.Channel ∷ stack else stack) ≡ true
channel_stays true stack sound = sound
channel_stays false stack sound = sound_behind stack sound

selector_stays : (t : Tok) (stack : Stack) → is_sound (goal.Selector ∷ stack) ≡ true
    → stay (file.selector_from t stack) ≡ true
selector_stays (tok.Name name) stack sound = channel_stays (file.names_channel name) stack sound
selector_stays (tok.Sign sign.Star) stack sound = sound_behind stack sound
selector_stays (tok.Num ext value) stack sound = sound
selector_stays _ stack sound = refl

parameter_stays : (t : Tok) (stack : Stack) → is_sound stack ≡ true → stay (file.parameter_from t stack) ≡ true
parameter_stays t stack sound = when_stays (is_some (kind_in t)) (goal.Name ∷ stack) sound

parameters_stay : (t : Tok) (stack : Stack) → is_sound stack ≡ true → stay (file.parameters_from t stack) ≡ true
parameters_stay t stack sound =
    if_stays (is_sign sign.CloseParen t) (Some stack)
    (if is_word word.Void t then Some (goal.Sign sign.CloseParen ∷ stack)
    else file.parameter_from t (goal.FurtherParameters ∷ stack))
    sound
    (if_stays (is_word word.Void t) (Some (goal.Sign sign.CloseParen ∷ stack))
    (file.parameter_from t (goal.FurtherParameters ∷ stack)) sound
    (parameter_stays t (goal.FurtherParameters ∷ stack) sound))

-- the goals behind a token that a goal takes
taken_stays : (g : Goal) (t : Tok) (stack : Stack) → is_sound (g ∷ stack) ≡ true → stay (taken g t stack) ≡ true
taken_stays goal.File t stack sound = file_part_stays t stack sound
taken_stays goal.Includes t stack sound = includes_stay t stack sound
taken_stays goal.Variables t stack sound = variables_stay t stack sound
taken_stays goal.Event t stack sound = event_stays t stack sound
taken_stays goal.Selector t stack sound = selector_stays t stack sound
taken_stays goal.Channel t stack sound =
    when_stays (is_sign sign.Dot t) (goal.Selection ∷ stack) sound
taken_stays goal.Selection t stack sound = selection_stays t stack sound
taken_stays goal.FurtherSelectors t stack sound =
    when_stays (is_sign sign.Comma t) (goal.Selector ∷ goal.FurtherSelectors ∷ stack)
    (twice (begin_quietly (ended stack)) (is_sound stack) sound)
taken_stays goal.Range t stack sound =
    when_stays (is_sign sign.Minus t) (goal.Number ∷ stack) (sound_behind stack sound)
taken_stays goal.Number t stack sound = when_stays (file.is_number t) stack sound
taken_stays goal.Key t stack sound = when_stays (file.is_key t) stack sound
taken_stays goal.Name t stack sound = when_stays (file.is_name t) stack sound
taken_stays goal.Parameters t stack sound = parameters_stay t stack sound
taken_stays goal.Parameter t stack sound = parameter_stays t stack sound
taken_stays goal.FurtherParameters t stack sound =
    further_stays goal.Parameter goal.FurtherParameters sign.CloseParen t stack sound sound
taken_stays goal.Kind t stack sound = when_stays (is_some (kind_in t)) stack sound
taken_stays goal.Message t stack sound = message_stays t stack sound
taken_stays goal.Declarator t stack sound = declarator_stays t stack sound
taken_stays goal.Size t stack sound =
    when_stays (is_sign sign.OpenBracket t) (goal.Expression choice_level ∷ goal.Sign sign.CloseBracket ∷ stack)
    (sound_behind stack sound)
taken_stays goal.First t stack sound = when_stays (is_sign sign.Assign t) (goal.Initialiser ∷ stack) sound
taken_stays goal.FurtherDeclarators t stack sound =
    further_stays goal.Declarator goal.FurtherDeclarators sign.Semi t stack sound sound
taken_stays goal.Initialiser t stack sound = initialiser_stays t stack sound
taken_stays goal.Item t stack sound = item_stays t stack sound
taken_stays goal.Named t stack sound = named_stays t stack sound
taken_stays goal.FurtherItems t stack sound =
    further_stays goal.Item goal.FurtherItems sign.CloseBrace t stack sound sound
taken_stays goal.Body t stack sound = body_stays t stack sound
taken_stays goal.Groups t stack sound = groups_stay t stack sound
taken_stays goal.GroupBody t stack sound = group_body_stays t stack sound
taken_stays goal.Statement t stack sound = statement_stays t stack sound
taken_stays goal.Else t stack sound = when_stays (is_word word.Else t) (goal.Statement ∷ stack) sound
taken_stays (goal.Part end) t stack sound = part_stays end t stack sound
taken_stays (goal.Expression level) t stack sound = expression_stays level t stack sound
taken_stays (goal.Operators level) t stack sound = operator_stays level (operator_in t) stack sound
taken_stays goal.Call t stack sound =
    when_stays (is_sign sign.OpenParen t) (goal.Arguments ∷ stack) (sound_behind stack sound)
taken_stays goal.Arguments t stack sound = arguments_stay t stack sound
taken_stays goal.FurtherArguments t stack sound =
    further_stays (goal.Expression assignment_level) goal.FurtherArguments sign.CloseParen t stack sound sound
taken_stays goal.Enclosed t stack sound = enclosed_stays t stack sound
taken_stays goal.Field t stack sound = field_stays t stack sound
taken_stays (goal.Sign wanted) t stack sound = when_stays (is_sign wanted t) stack sound
taken_stays (goal.Word wanted) t stack sound = when_stays (is_word wanted t) stack sound

-- the goals behind a token
pub moved_stays : (t : Tok) (stack : Stack) → is_sound stack ≡ true → stay (moved t stack) ≡ true
moved_stays t [] sound = refl
moved_stays t (g ∷ stack) sound =
    if_stays (ends_before g t) (moved t stack) (taken g t stack)
    (moved_stays t stack (later (fits g (ended stack)) (is_sound stack) sound)) (taken_stays g t stack sound)

-- each stack that is reached from one whose goals fit is such a one
pub stays_sound : (t : Tok) (stack next : Stack) → is_sound stack ≡ true → moved t stack ≡ Some next → is_sound next ≡ true
stays_sound t stack next sound comes = sym (ap stay comes) ∙ moved_stays t stack sound
