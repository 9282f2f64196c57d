-- What the goals of a stack that is reached stand before, and the tokens that end such a stack.
use Rattle.std.proofs.Common.{◌≡◌, ℕ, Bool, true, false, ◌&&◌, if◌then◌else◌, List, [], ◌∷◌, Some, codes, refl, ap, ◌∙◌}
use Rattle.std.specs.Prelude.{nat_lt}
use Rattle.std.proofs.lemmas.Bool.{false≢true, and_parts}
use denote.Enum.Bare.{true_same}
use Rattle.capl_lexer.specs.declared.token.Tok.{Tok}
use Rattle.capl_lexer.specs.declared.token.Tok.TheVariants as tok
use Rattle.capl_lexer.specs.declared.token.Word.{Word}
use Rattle.capl_lexer.specs.declared.token.Word.TheVariants as word
use Rattle.capl_lexer.specs.declared.token.Sign.{Sign}
use Rattle.capl_lexer.specs.declared.token.Sign.TheVariants as sign
use Rattle.capl_lexer.specs.contracts.token.Sign as signs
use Rattle.capl_lexer.specs.contracts.token.Word as words
use Rattle.expr_parser.specs.Reading.{same_sign, same_word}
use Rattle.capl_tree.specs.Binding.{assignment_level, choice_level}
use Rattle.viable_prefixes.specs.declared.goal.Goal.{Goal}
use Rattle.viable_prefixes.specs.declared.goal.Goal.TheVariants as goal
use Rattle.viable_prefixes.specs.Inside.Stack.{Stack, when}
use Rattle.viable_prefixes.specs.Inside.Expression.{expression_from}
use Rattle.viable_prefixes.specs.Inside.Goals.{ends_before, taken, moved, accepts, accepts_behind}

-- whether each goal that may be nothing is so before the token
abbrev pub is_quiet : Tok → Bool
is_quiet (tok.Sign sign.CloseParen) = true
is_quiet (tok.Sign sign.CloseBracket) = true
is_quiet (tok.Sign sign.CloseBrace) = true
is_quiet (tok.Sign sign.OpenBrace) = true
is_quiet (tok.Sign sign.Semi) = true
is_quiet (tok.Sign sign.Colon) = true
is_quiet (tok.Word word.While) = true
is_quiet _ = false

-- whether tokens begin with such a one
abbrev pub begin_quietly : List Tok → Bool
begin_quietly [] = false
begin_quietly (t ∷ ts) = is_quiet t

-- whether there are no tokens
abbrev pub are_none : List Tok → Bool
are_none [] = true
are_none (t ∷ ts) = false

-- the shortest tokens that fulfil a goal, before others; nothing for a goal that may be nothing
abbrev pub shortest : Goal → List Tok → List Tok
shortest goal.Includes rest = tok.Sign sign.CloseBrace ∷ rest
shortest goal.Variables rest = tok.Sign sign.CloseBrace ∷ rest
shortest goal.Event rest = tok.Name (codes "start") ∷ rest
shortest goal.Selector rest = tok.Sign sign.Star ∷ rest
shortest goal.Selection rest = tok.Sign sign.Star ∷ rest
shortest goal.Number rest = tok.Num false (Some 0) ∷ rest
shortest goal.Key rest = tok.Sign sign.Star ∷ rest
shortest goal.Name rest = tok.Name (codes "x") ∷ rest
shortest goal.Parameters rest = tok.Sign sign.CloseParen ∷ rest
shortest goal.Parameter rest = tok.Word word.Int ∷ tok.Name (codes "x") ∷ rest
shortest goal.FurtherParameters rest = tok.Sign sign.CloseParen ∷ rest
shortest goal.Kind rest = tok.Word word.Int ∷ rest
shortest goal.Message rest = tok.Sign sign.Star ∷ rest
shortest goal.Declarator rest = tok.Name (codes "x") ∷ rest
shortest goal.FurtherDeclarators rest = tok.Sign sign.Semi ∷ rest
shortest goal.Initialiser rest = tok.Word word.This ∷ rest
shortest goal.Item rest = tok.Word word.This ∷ rest
shortest goal.FurtherItems rest = tok.Sign sign.CloseBrace ∷ rest
shortest goal.Body rest = tok.Sign sign.CloseBrace ∷ rest
shortest goal.Groups rest = tok.Sign sign.CloseBrace ∷ rest
shortest goal.GroupBody rest = tok.Sign sign.CloseBrace ∷ rest
shortest goal.Statement rest = tok.Sign sign.Semi ∷ rest
shortest (goal.Part end) rest = tok.Sign end ∷ rest
shortest (goal.Expression level) rest = tok.Word word.This ∷ rest
shortest goal.Arguments rest = tok.Sign sign.CloseParen ∷ rest
shortest goal.FurtherArguments rest = tok.Sign sign.CloseParen ∷ rest
shortest goal.Enclosed rest = tok.Word word.This ∷ tok.Sign sign.CloseParen ∷ rest
shortest goal.Field rest = tok.Name (codes "x") ∷ rest
shortest (goal.Sign wanted) rest = tok.Sign wanted ∷ rest
shortest (goal.Word wanted) rest = tok.Word wanted ∷ rest
shortest _ rest = rest

-- the shortest tokens that fulfil all goals
abbrev pub ended : Stack → List Tok
ended [] = []
ended (first ∷ stack) = shortest first (ended stack)

-- Whether a goal may stand before goals that these tokens end. What can end with goals that may be nothing
-- stands before a quiet token, and the parts of a file before nothing.
abbrev pub fits : Goal → List Tok → Bool
fits goal.File rest = are_none rest
fits goal.Event rest = begin_quietly rest
fits goal.Selector rest = begin_quietly rest
fits goal.Channel rest = begin_quietly rest
fits goal.Selection rest = begin_quietly rest
fits goal.FurtherSelectors rest = begin_quietly rest
fits goal.Range rest = begin_quietly rest
fits goal.Declarator rest = begin_quietly rest
fits goal.Size rest = begin_quietly rest
fits goal.First rest = begin_quietly rest
fits goal.Initialiser rest = begin_quietly rest
fits goal.Item rest = begin_quietly rest
fits goal.Named rest = begin_quietly rest
fits goal.Statement rest = begin_quietly rest
fits goal.Else rest = begin_quietly rest
fits (goal.Part end) rest = is_quiet (tok.Sign end)
fits (goal.Expression level) rest = nat_lt 0 level && begin_quietly rest
fits (goal.Operators level) rest = nat_lt 0 level && begin_quietly rest
fits goal.Call rest = begin_quietly rest
fits goal.Enclosed rest = begin_quietly rest
fits _ rest = true

-- whether each goal of a stack fits before those behind it
abbrev pub is_sound : Stack → Bool
is_sound [] = true
is_sound (first ∷ stack) = fits first (ended stack) && is_sound stack

-- a test that each quiet token passes
abbrev PassesQuietly : (Tok → Bool) → Type 0
PassesQuietly passes =
    (passes (tok.Sign sign.CloseParen) ≡ true) × (passes (tok.Sign sign.CloseBracket) ≡ true)
    × (passes (tok.Sign sign.CloseBrace) ≡ true) × (passes (tok.Sign sign.OpenBrace) ≡ true)
    × (passes (tok.Sign sign.Semi) ≡ true) × (passes (tok.Sign sign.Colon) ≡ true)
    × (passes (tok.Word word.While) ≡ true)

-- it is passed by a token that is quiet
passed : (passes : Tok → Bool) → PassesQuietly passes → (t : Tok) → is_quiet t ≡ true → passes t ≡ true
passed passes all (tok.Sign sign.CloseParen) quiet = all.0
passed passes all (tok.Sign sign.CloseBracket) quiet = all.1
passed passes all (tok.Sign sign.CloseBrace) quiet = all.2
passed passes all (tok.Sign sign.OpenBrace) quiet = all.3
passed passes all (tok.Sign sign.Semi) quiet = all.4
passed passes all (tok.Sign sign.Colon) quiet = all.5
passed passes all (tok.Word word.While) quiet = all.6
passed passes all _ quiet = absurd (false≢true quiet)

-- a goal that ends before each quiet token adds nothing to those behind it
adds_nothing : (g : Goal) (stack : Stack) (rest : List Tok) → PassesQuietly (ends_before g)
    → begin_quietly rest ≡ true → accepts (g ∷ stack) rest ≡ accepts stack rest
adds_nothing g stack [] ends quiet = absurd (false≢true quiet)
adds_nothing g stack (t ∷ ts) ends quiet =
    ap (λ is. accepts_behind (if is then moved t stack else taken g t stack) ts) (passed (ends_before g) ends t quiet)

-- the same for operators that bind at some level
operators_add_nothing : (level : ℕ) (stack : Stack) (rest : List Tok) → fits (goal.Operators level) rest ≡ true
    → accepts (goal.Operators level ∷ stack) rest ≡ accepts stack rest
operators_add_nothing level stack rest fit =
    let l = (and_parts (nat_lt 0 level) (begin_quietly rest) fit).0 in
    adds_nothing (goal.Operators level) stack rest (l, l, l, l, l, l, l) (and_parts (nat_lt 0 level) (begin_quietly rest) fit).1

-- a sign that is wanted is taken; so are a word, and the sign up to which an expression may be missing
sign_taken : (wanted : Sign) (stack : Stack) (rest : List Tok)
    → accepts_behind (when (same_sign wanted wanted) stack) rest ≡ accepts stack rest
sign_taken wanted stack rest =
    ap (λ is. accepts_behind (when is stack) rest) (true_same signs.the_type wanted wanted refl)

word_taken : (wanted : Word) (stack : Stack) (rest : List Tok)
    → accepts_behind (when (same_word wanted wanted) stack) rest ≡ accepts stack rest
word_taken wanted stack rest =
    ap (λ is. accepts_behind (when is stack) rest) (true_same words.the_type wanted wanted refl)

part_taken : (end : Sign) (stack : Stack) (rest : List Tok)
    → accepts (goal.Part end ∷ stack) (tok.Sign end ∷ rest) ≡ accepts stack rest
part_taken end stack rest =
    ap (λ is. accepts_behind (if is then Some stack else expression_from assignment_level (tok.Sign end) (goal.Sign end ∷ stack)) rest)
    (true_same signs.the_type end end refl)

-- parts of a file that nothing follows add nothing
file_ends : (stack : Stack) (rest : List Tok) → are_none rest ≡ true → accepts (goal.File ∷ stack) rest ≡ accepts stack rest
file_ends stack [] none = refl
file_ends stack (t ∷ ts) none = absurd (false≢true none)

-- a declared variable may be its name alone
declarator_ends : (stack : Stack) (rest : List Tok) → begin_quietly rest ≡ true
    → accepts (goal.Size ∷ goal.First ∷ stack) rest ≡ accepts stack rest
declarator_ends stack rest quiet =
    adds_nothing goal.Size (goal.First ∷ stack) rest (refl, refl, refl, refl, refl, refl, refl) quiet
    ∙ adds_nothing goal.First stack rest (refl, refl, refl, refl, refl, refl, refl) quiet

-- a goal that fits takes the shortest tokens that fulfil it, and leaves the goals behind it
goal_ends : (g : Goal) (stack : Stack) (rest : List Tok) → fits g rest ≡ true
    → accepts (g ∷ stack) (shortest g rest) ≡ accepts stack rest
goal_ends goal.File stack rest fit = file_ends stack rest fit
goal_ends goal.FurtherSelectors stack rest fit =
    adds_nothing goal.FurtherSelectors stack rest (refl, refl, refl, refl, refl, refl, refl) fit
goal_ends goal.Channel stack rest fit = adds_nothing goal.Channel stack rest (refl, refl, refl, refl, refl, refl, refl) fit
goal_ends goal.Range stack rest fit = adds_nothing goal.Range stack rest (refl, refl, refl, refl, refl, refl, refl) fit
goal_ends goal.Declarator stack rest fit = declarator_ends stack rest fit
goal_ends goal.Size stack rest fit = adds_nothing goal.Size stack rest (refl, refl, refl, refl, refl, refl, refl) fit
goal_ends goal.First stack rest fit = adds_nothing goal.First stack rest (refl, refl, refl, refl, refl, refl, refl) fit
goal_ends goal.Initialiser stack rest fit = operators_add_nothing choice_level stack rest fit
goal_ends goal.Item stack rest fit = operators_add_nothing choice_level stack rest fit
goal_ends goal.Named stack rest fit = adds_nothing goal.Named stack rest (refl, refl, refl, refl, refl, refl, refl) fit
goal_ends goal.Else stack rest fit = adds_nothing goal.Else stack rest (refl, refl, refl, refl, refl, refl, refl) fit
goal_ends goal.Call stack rest fit = adds_nothing goal.Call stack rest (refl, refl, refl, refl, refl, refl, refl) fit
goal_ends (goal.Part end) stack rest fit = part_taken end stack rest
goal_ends (goal.Expression level) stack rest fit = operators_add_nothing level stack rest fit
goal_ends (goal.Operators level) stack rest fit = operators_add_nothing level stack rest fit
goal_ends (goal.Sign wanted) stack rest fit = sign_taken wanted stack rest
goal_ends (goal.Word wanted) stack rest fit = word_taken wanted stack rest
goal_ends _ stack rest fit = refl

-- the tokens that end a stack fulfil its goals
pub ends : (stack : Stack) → is_sound stack ≡ true → accepts stack (ended stack) ≡ true
ends [] sound = refl
ends (g ∷ stack) sound =
    goal_ends g stack (ended stack) (and_parts (fits g (ended stack)) (is_sound stack) sound).0
    ∙ ends stack (and_parts (fits g (ended stack)) (is_sound stack) sound).1

-- each stack whose goals fit can be ended
pub can_end : (stack : Stack) → is_sound stack ≡ true → (rest : List Tok) × (accepts stack rest ≡ true)
can_end stack sound = (ended stack, ends stack sound)

-- the goals of a file fit
pub begins_sound : is_sound (goal.File ∷ []) ≡ true
begins_sound = refl
