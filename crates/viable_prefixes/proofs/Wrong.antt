-- What the tokens before the first that cannot come begin, and that they do not with it.
use Rattle.std.proofs.Common.{◌≡◌, ℕ, suc, ◌≤◌, ◌<◌, true, false, List, [], ◌∷◌, ◌++◌, length, take, Option, Some, None, arith, refl, ap, ◌∙◌}
use Rattle.capl_lexer.specs.declared.token.Tok.{Tok}
use Rattle.viable_prefixes.specs.Inside.Stack.{Stack}
use Rattle.viable_prefixes.specs.Inside.Goals.{moved, accepts, accepts_behind, first_wrong, wrong_behind}
use Rattle.viable_prefixes.proofs.Ends.{is_sound, can_end}
use Rattle.viable_prefixes.proofs.Stays.{stay, moved_stays}

-- so many of the tokens, and some others behind them, fulfil the goals
abbrev CanGoOn : Stack → List Tok → ℕ → Type 0
CanGoOn stack ts number = (rest : List Tok) × (accepts stack (take number ts ++ rest) ≡ true)

-- behind a first token
begun : (came : Option Stack) (t : Tok) (ts : List Tok) (stack : Stack) → moved t stack ≡ came → is_sound stack ≡ true
    → stay came ≡ true → ((next : Stack) → is_sound next ≡ true → CanGoOn next ts (first_wrong next ts))
    → CanGoOn stack (t ∷ ts) (wrong_behind came ts)
begun None t ts stack comes sound stays later = can_end stack sound
begun (Some next) t ts stack comes sound stays later =
    let more = later next stays in
    (more.0, ap (λ came. accepts_behind came (take (first_wrong next ts) ts ++ more.0)) comes ∙ more.1)

-- the tokens before the first that cannot come can go on
pub before_wrong : (ts : List Tok) (stack : Stack) → is_sound stack ≡ true
    → (rest : List Tok) × (accepts stack (take (first_wrong stack ts) ts ++ rest) ≡ true)
before_wrong [] stack sound = can_end stack sound
before_wrong (t ∷ ts) stack sound =
    begun (moved t stack) t ts stack refl sound (moved_stays t stack sound) (λ next fits. before_wrong ts next fits)

refused : (came : Option Stack) (t : Tok) (ts : List Tok) (stack : Stack) (rest : List Tok) → moved t stack ≡ came
    → wrong_behind came ts < length (t ∷ ts)
    → ((next : Stack) → first_wrong next ts < length ts
    → accepts next (take (suc (first_wrong next ts)) ts ++ rest) ≡ false)
    → accepts stack (take (suc (wrong_behind came ts)) (t ∷ ts) ++ rest) ≡ false
refused None t ts stack rest comes less later = ap (λ came. accepts_behind came rest) comes
refused (Some next) t ts stack rest comes less later =
    ap (λ came. accepts_behind came (take (suc (first_wrong next ts)) ts ++ rest)) comes ∙ later next (omega arith)

-- with the first that cannot come they cannot
pub wrong_refused : (ts : List Tok) (stack : Stack) (rest : List Tok) → first_wrong stack ts < length ts
    → accepts stack (take (suc (first_wrong stack ts)) ts ++ rest) ≡ false
wrong_refused [] stack rest less = absurd (omega arith)
wrong_refused (t ∷ ts) stack rest less =
    refused (moved t stack) t ts stack rest refl less (λ next below. wrong_refused ts next rest below)

among : (came : Option Stack) (t : Tok) (ts : List Tok) → ((next : Stack) → first_wrong next ts ≤ length ts)
    → wrong_behind came ts ≤ length (t ∷ ts)
among None t ts later = omega arith
among (Some next) t ts later = let below = later next in omega arith

-- the first that cannot come is one of the tokens, or none is
pub wrong_among : (ts : List Tok) (stack : Stack) → first_wrong stack ts ≤ length ts
wrong_among [] stack = omega arith
wrong_among (t ∷ ts) stack = among (moved t stack) t ts (λ next. wrong_among ts next)
