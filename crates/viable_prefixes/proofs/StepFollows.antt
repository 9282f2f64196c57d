-- What a reader leaves, and how goals go on behind what was read.
use Rattle.std.proofs.Common.{◌≡◌, ℕ, zero, suc, ◌≤◌, ◌<◌, Bool, true, false, not, if◌then◌else◌, List, [], ◌∷◌, length, Option, Some, None, refl, sym, subst, ◌∙◌, arith}
use Rattle.std.specs.Prelude.{⊤}
use Rattle.capl_lexer.specs.declared.token.Tok.{Tok}
use Rattle.capl_lexer.specs.declared.token.Sign.{Sign}
use Rattle.expr_parser.specs.Reading.{Read, and_then, begins, behind, after}
use Rattle.viable_prefixes.specs.declared.goal.Goal.TheVariants as goal
use Rattle.viable_prefixes.specs.Inside.Token.{is_sign}
use Rattle.viable_prefixes.specs.Inside.Stack.{Stack, when}
use Rattle.viable_prefixes.specs.Inside.Goals.{moved, accepts, accepts_behind}
use Rattle.viable_prefixes.proofs.Follows.{goes, sign_first}

-- what was read, if anything, leaves fewer than so many tokens
abbrev pub Leaves : {A : Type 0} → Read A → ℕ → Type 0
Leaves None n = ⊤
Leaves (Some found) n = length found.1 < n

-- so what was read does
pub leaves_some : {A : Type 0} (read : Read A) (n : ℕ) (a : A) (rest : List Tok) → Leaves read n → read ≡ Some (a, rest) → length rest < n
leaves_some read n a rest leaves is = subst (λ read. Leaves read n) is leaves

-- the other way round
pub some_leaves : {A : Type 0} (read : Read A) (n : ℕ) → ((a : A) (rest : List Tok) → read ≡ Some (a, rest) → length rest < n) → Leaves read n
some_leaves None n less = tt
some_leaves (Some found) n less = less found.0 found.1 refl

-- what is read behind what was read first
pub leaves_on : {A B : Type 0} (read : Read A) (next : A → List Tok → Read B) (m n : ℕ) → Leaves read m
    → ((a : A) (rest : List Tok) → length rest < m → Leaves (next a rest) n) → Leaves (and_then read next) n
leaves_on None next m n leaves then_leaves = tt
leaves_on (Some found) next m n leaves then_leaves = then_leaves found.0 found.1 leaves

-- one of two readings
pub either_leaves : {A : Type 0} (test : Bool) (one other : Read A) (n : ℕ) → Leaves one n → Leaves other n → Leaves (if test then one else other) n
either_leaves true one other n here there = here
either_leaves false one other n here there = there

-- a reading that has to leave less than nothing gave nothing
pub goes_nowhere : {A : Type 0} (read : Read A) (stack : Stack) → Leaves read zero → goes read stack ≡ false
goes_nowhere None stack leaves = refl
goes_nowhere (Some found) stack leaves = absurd (omega arith)

-- the sign that has to be next
pub after_leaves : (wanted : Sign) (ts : List Tok) → Leaves (after wanted ts) (length ts)
unfolding after
after_leaves wanted [] = tt
after_leaves wanted (t ∷ ts) = either_leaves (begins wanted (t ∷ ts)) (Some (tt, ts)) None (suc (length ts)) (omega arith) tt

sign_goes : (is begun : Bool) → is ≡ begun → (ts : List Tok) (stack : Stack)
    → accepts_behind (when is stack) ts ≡ goes (let read : Read (Unit {0}) = if begun then Some (tt, ts) else None in read) stack
sign_goes true true same ts stack = refl
sign_goes false false same ts stack = refl
sign_goes true false same ts stack = absurd cc
sign_goes false true same ts stack = absurd cc

-- its goal goes the way of its reader
pub sign_followed : (wanted : Sign) (ts : List Tok) (stack : Stack) → accepts (goal.Sign wanted ∷ stack) ts ≡ goes (after wanted ts) stack
unfolding after
sign_followed wanted [] stack = refl
sign_followed wanted (t ∷ ts) stack = sign_goes (is_sign wanted t) (begins wanted (t ∷ ts)) (sym (sign_first wanted t ts)) ts stack

-- it leaves less than more tokens
pub leaves_more : {A : Type 0} (read : Read A) (m n : ℕ) → m ≤ n → Leaves read m → Leaves read n
leaves_more None m n below leaves = tt
leaves_more (Some found) m n below leaves = omega arith

-- no more tokens are behind the next
pub behind_below : (ts : List Tok) → length (behind ts) ≤ length ts
behind_below [] = omega arith
behind_below (t ∷ ts) = omega arith

-- what stands behind what was read
pub goes_leaving : {A B : Type 0} (read : Read A) (next : A → List Tok → Read B) (front stack : Stack) (n : ℕ) → Leaves read n
    → ((a : A) (rest : List Tok) → length rest < n → accepts front rest ≡ goes (next a rest) stack) → goes read front ≡ goes (and_then read next) stack
goes_leaving None next front stack n leaves same = refl
goes_leaving (Some found) next front stack n leaves same = same found.0 found.1 leaves

-- what was read, made into something else
pub made_goes : {A B : Type 0} (read : Read A) (made : A → B) (stack : Stack) → goes read stack ≡ goes (and_then read (λ a rest. Some (made a, rest))) stack
made_goes None made stack = refl
made_goes (Some found) made stack = refl

-- it leaves as little
pub made_leaves : {A B : Type 0} (read : Read A) (made : A → B) (n : ℕ) → Leaves read n → Leaves (and_then read (λ a rest. Some (made a, rest))) n
made_leaves None made n leaves = tt
made_leaves (Some found) made n leaves = leaves

-- the same before a sign
pub closed_goes : {A B : Type 0} (read : Read A) (wanted : Sign) (made : A → B) (stack : Stack)
    → goes read (goal.Sign wanted ∷ stack) ≡ goes (and_then read (λ a rest. and_then (after wanted rest) (λ _ rest. Some (made a, rest)))) stack
closed_goes None wanted made stack = refl
closed_goes (Some found) wanted made stack = sign_followed wanted found.1 stack ∙ made_goes (after wanted found.1) (λ _. made found.0) stack

-- it leaves as little
pub closed_leaves : {A B : Type 0} (read : Read A) (wanted : Sign) (made : A → B) (n : ℕ) → Leaves read n
    → Leaves (and_then read (λ a rest. and_then (after wanted rest) (λ _ rest. Some (made a, rest)))) n
closed_leaves read wanted made n leaves =
    leaves_on read (λ a rest. and_then (after wanted rest) (λ _ rest. Some (made a, rest))) n n leaves (λ a rest below.
    leaves_more (and_then (after wanted rest) (λ _ rest. Some (made a, rest))) (length rest) n (omega arith)
    (made_leaves (after wanted rest) (λ _. made a) (length rest) (after_leaves wanted rest)))

-- a sign, and what is read behind it
pub sign_then : {B : Type 0} (wanted : Sign) (ts : List Tok) (next : List Tok → Read B) (front stack : Stack)
    → ((rest : List Tok) → length rest < length ts → accepts front rest ≡ goes (next rest) stack)
    → accepts (goal.Sign wanted ∷ front) ts ≡ goes (and_then (after wanted ts) (λ _ rest. next rest)) stack
sign_then wanted ts next front stack same =
    sign_followed wanted ts front ∙ goes_leaving (after wanted ts) (λ _ rest. next rest) front stack (length ts) (after_leaves wanted ts) (λ _ rest below. same rest below)

-- one of two ways
pub either_goes : {A : Type 0} (is begun : Bool) → is ≡ begun → (x y : Option Stack) (ts : List Tok) (one other : Read A) (stack : Stack)
    → accepts_behind x ts ≡ goes one stack → accepts_behind y ts ≡ goes other stack
    → accepts_behind (if is then x else y) ts ≡ goes (if begun then one else other) stack
either_goes true true same x y ts one other stack here there = here
either_goes false false same x y ts one other stack here there = there
either_goes true false same x y ts one other stack here there = absurd cc
either_goes false true same x y ts one other stack here there = absurd cc

-- a part that may be nothing, by the token that it begins with
pub optional_goes : {A : Type 0} (is begun : Bool) → is ≡ begun → (t : Tok) (ts : List Tok) (front stack : Stack) (some : Read A) (none : A)
    → accepts front ts ≡ goes some stack
    → accepts_behind (if not is then moved t stack else when is front) ts ≡ goes (if begun then some else Some (none, t ∷ ts)) stack
optional_goes true true same t ts front stack some none here = here
optional_goes false false same t ts front stack some none here = refl
optional_goes true false same t ts front stack some none here = absurd cc
optional_goes false true same t ts front stack some none here = absurd cc
