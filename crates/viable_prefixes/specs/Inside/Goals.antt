-- How a stack of goals moves on (predictive parsing).
use Rattle.std.specs.Prelude.{ℕ, zero, suc, nat_lt, Bool, true, false, not, ◌&&◌, if◌then◌else◌, List, [], ◌∷◌, Option, Some, None, is_some}
use Rattle.capl_lexer.specs.declared.token.Tok.{Tok}
use Rattle.capl_lexer.specs.declared.token.Word.TheVariants as word
use Rattle.capl_lexer.specs.declared.token.Sign.TheVariants as sign
use Rattle.capl_tree.specs.Binding.{assignment_level, choice_level}
use Rattle.expr_parser.specs.Operators.{binding_of}
use Rattle.viable_prefixes.specs.declared.goal.Goal.{Goal}
use Rattle.viable_prefixes.specs.declared.goal.Goal.TheVariants as goal
use Rattle.viable_prefixes.specs.Inside.Token.{is_sign, is_word, kind_in, operator_in}
use Rattle.viable_prefixes.specs.Inside.Stack.{Stack, when, further}
use Rattle.viable_prefixes.specs.Inside.Expression as expression
use Rattle.viable_prefixes.specs.Inside.Statement as statement
use Rattle.viable_prefixes.specs.Inside.File as file

-- whether no operator that binds so strongly is the token
abbrev pub binds_less : ℕ → Tok → Bool
binds_less level t = nat_lt (binding_of (operator_in t)) level

-- whether the goal may be nothing, and is so before this token
abbrev pub ends_before : Goal → Tok → Bool
ends_before (goal.Operators level) t = binds_less level t
ends_before goal.Call t = not (is_sign sign.OpenParen t)
ends_before goal.Named t = binds_less choice_level t && not (is_sign sign.Assign t)
ends_before goal.Size t = not (is_sign sign.OpenBracket t)
ends_before goal.First t = not (is_sign sign.Assign t)
ends_before goal.Else t = not (is_word word.Else t)
ends_before goal.Range t = not (is_sign sign.Minus t)
ends_before goal.Channel t = not (is_sign sign.Dot t)
ends_before goal.FurtherSelectors t = not (is_sign sign.Comma t)
ends_before _ t = false

-- whether the goal may be nothing before the end of the file
abbrev pub may_end : Goal → Bool
may_end (goal.Operators level) = true
may_end goal.Call = true
may_end goal.Named = true
may_end goal.Size = true
may_end goal.First = true
may_end goal.Else = true
may_end goal.Range = true
may_end goal.Channel = true
may_end goal.FurtherSelectors = true
may_end goal.File = true
may_end _ = false

-- the goals behind a token that a goal of a file's part or of a head takes
abbrev pub taken_in_file : Goal → Tok → Stack → Option Stack
taken_in_file goal.File t stack = file.part_from t stack
taken_in_file goal.Includes t stack = file.includes_from t stack
taken_in_file goal.Variables t stack = file.variables_from t stack
taken_in_file goal.Event t stack = file.event_from t stack
taken_in_file goal.Selector t stack = file.selector_from t stack
taken_in_file goal.Channel t stack = when (is_sign sign.Dot t) (goal.Selection ∷ stack)
taken_in_file goal.Selection t stack = file.selection_from t stack
taken_in_file goal.FurtherSelectors t stack =
    when (is_sign sign.Comma t) (goal.Selector ∷ goal.FurtherSelectors ∷ stack)
taken_in_file goal.Range t stack = when (is_sign sign.Minus t) (goal.Number ∷ stack)
taken_in_file goal.Number t stack = when (file.is_number t) stack
taken_in_file goal.Key t stack = when (file.is_key t) stack
taken_in_file goal.Name t stack = when (file.is_name t) stack
taken_in_file goal.Parameters t stack = file.parameters_from t stack
taken_in_file goal.Parameter t stack = file.parameter_from t stack
taken_in_file goal.FurtherParameters t stack =
    further goal.Parameter goal.FurtherParameters sign.CloseParen t stack
taken_in_file _ t stack = None

-- the goals behind a token that a goal of a declaration takes, or one of those above
abbrev pub taken_in_declaration : Goal → Tok → Stack → Option Stack
taken_in_declaration goal.Kind t stack = when (is_some (kind_in t)) stack
taken_in_declaration goal.Message t stack = expression.message_from t stack
taken_in_declaration goal.Declarator t stack = expression.declarator_from t stack
taken_in_declaration goal.Size t stack =
    when (is_sign sign.OpenBracket t) (goal.Expression choice_level ∷ goal.Sign sign.CloseBracket ∷ stack)
taken_in_declaration goal.First t stack = when (is_sign sign.Assign t) (goal.Initialiser ∷ stack)
taken_in_declaration goal.FurtherDeclarators t stack =
    further goal.Declarator goal.FurtherDeclarators sign.Semi t stack
taken_in_declaration goal.Initialiser t stack = expression.initialiser_from t stack
taken_in_declaration goal.Item t stack = expression.item_from t stack
taken_in_declaration goal.Named t stack = expression.named_from t stack
taken_in_declaration goal.FurtherItems t stack = further goal.Item goal.FurtherItems sign.CloseBrace t stack
taken_in_declaration first t stack = taken_in_file first t stack

-- the goals behind a token that a goal of an expression takes, or one of those above
abbrev pub taken_in_expression : Goal → Tok → Stack → Option Stack
taken_in_expression (goal.Expression level) t stack = expression.expression_from level t stack
taken_in_expression (goal.Operators level) t stack = expression.operator_from level (operator_in t) stack
taken_in_expression goal.Call t stack = when (is_sign sign.OpenParen t) (goal.Arguments ∷ stack)
taken_in_expression goal.Arguments t stack = expression.arguments_from t stack
taken_in_expression goal.FurtherArguments t stack =
    further (goal.Expression assignment_level) goal.FurtherArguments sign.CloseParen t stack
taken_in_expression goal.Enclosed t stack = expression.enclosed_from t stack
taken_in_expression goal.Field t stack = expression.field_from t stack
taken_in_expression first t stack = taken_in_declaration first t stack

-- the goals behind a token that a goal takes; nothing where it takes none such
abbrev pub taken : Goal → Tok → Stack → Option Stack
taken goal.Body t stack = statement.body_from t stack
taken goal.Groups t stack = statement.groups_from t stack
taken goal.GroupBody t stack = statement.group_body_from t stack
taken goal.Statement t stack = statement.statement_from t stack
taken goal.Else t stack = when (is_word word.Else t) (goal.Statement ∷ stack)
taken (goal.Part end) t stack = statement.part_from end t stack
taken (goal.Sign wanted) t stack = when (is_sign wanted t) stack
taken (goal.Word wanted) t stack = when (is_word wanted t) stack
taken first t stack = taken_in_expression first t stack

-- the goals behind a token, by those before it; nothing where it cannot come
abbrev pub moved : Tok → Stack → Option Stack
moved t [] = None
moved t (first ∷ stack) = if ends_before first t then moved t stack else taken first t stack

-- whether all goals may be nothing before the end of the file
abbrev pub may_all_end : Stack → Bool
may_all_end [] = true
may_all_end (first ∷ stack) = may_end first && may_all_end stack

-- whether the goals behind a token fulfil something, where it can come
abbrev pub behind_fulfil : (Stack → Bool) → Option Stack → Bool
behind_fulfil fulfil None = false
behind_fulfil fulfil (Some stack) = fulfil stack

-- whether the tokens fulfil the goals, up to the end of the file
abbrev pub accepts : Stack → List Tok → Bool
accepts stack [] = may_all_end stack
accepts stack (t ∷ ts) = behind_fulfil (λ stack. accepts stack ts) (moved t stack)

-- the same for the goals behind a token, where it can come
abbrev pub accepts_behind : Option Stack → List Tok → Bool
accepts_behind came ts = behind_fulfil (λ stack. accepts stack ts) came

-- a token and as many more as the goals behind it say, where it can come
abbrev pub behind_count : (Stack → ℕ) → Option Stack → ℕ
behind_count count None = zero
behind_count count (Some stack) = suc (count stack)

-- how many tokens come before the first that cannot come
abbrev pub first_wrong : Stack → List Tok → ℕ
first_wrong stack [] = zero
first_wrong stack (t ∷ ts) = behind_count (λ stack. first_wrong stack ts) (moved t stack)

-- the same, with the token, by the goals behind it, where it can come
abbrev pub wrong_behind : Option Stack → List Tok → ℕ
wrong_behind came ts = behind_count (λ stack. first_wrong stack ts) came
