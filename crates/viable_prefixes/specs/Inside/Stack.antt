-- The goals that are to come.
use Rattle.std.specs.Prelude.{◌≡◌, Bool, true, false, if◌then◌else◌, List, ◌∷◌, reverse, Option, Some, None, Result, Ok, Err, ⊤}
use Rattle.texts.specs.declared.memory.NoMemory.{NoMemory}
use Rattle.capl_lexer.specs.declared.token.Tok.{Tok}
use Rattle.capl_lexer.specs.declared.token.Sign.{Sign}
use Rattle.capl_lexer.specs.declared.token.Sign.TheVariants as sign
use Rattle.viable_prefixes.specs.declared.goal.Goal.{Goal}
use Rattle.viable_prefixes.specs.Inside.Token.{is_sign}

-- goals, the next first
abbrev pub Stack : Type 0
Stack = List Goal

-- the goals that come where a token is the one that is wanted
abbrev pub when : Bool → Stack → Option Stack
when true stack = Some stack
when false stack = None

-- behind an item of a list: a comma, one more and this goal again, or the sign that ends the list
abbrev pub further : Goal → Goal → Sign → Tok → Stack → Option Stack
further one again end t stack =
    if is_sign sign.Comma t then Some (one ∷ again ∷ stack) else when (is_sign end t) stack

-- what a call answers that takes a token, if there is memory: whether the goal takes it, and then the goals
-- that come, which a vector has the other way round
abbrev pub Takes : Option Stack → Result Bool NoMemory → List Goal → Type 0
Takes (Some stack) (Ok true) goals = reverse goals ≡ stack
Takes None (Ok false) goals = ⊤
Takes came (Err error) goals = ⊤
Takes came (Ok answer) goals = ⊥
