-- How control goes through a procedure (CAPL manual, statements; as in C): statements in order, loops, calls.
use Rattle.std.specs.Prelude.{ℕ, zero, suc, if◌then◌else◌, List, [], ◌∷◌, ℤ, pos}
use Rattle.std.specs.Ordering.{int_eq}
use Rattle.run_effects.specs.declared.outcome.Outcome.TheVariants.{Cut}
use Rattle.control_flow.specs.World.{World, Run, Gives, Fails, and_then, run_map, taking_turn}

-- how a part of a procedure leaves off: it goes on to what follows it, breaks or continues the loop around
-- it, or returns a number, which is 0 where its procedure gives none
pub data End : Type 0 where
  GoesOn : End
  Breaks : End
  Continues : End
  Returns : ℤ → End

-- what an expression does
abbrev pub Computes : Type 0 → Type 0
Computes M = World M → Run M ℤ

-- what a statement does
abbrev pub Does : Type 0 → Type 0
Does M = World M → Run M End

-- what a call of a function does, given by the function's number, once its parameters are stored
abbrev pub Calls : Type 0 → Type 0
Calls M = ℕ → Computes M

-- what comes after a test: one thing where it is not 0, and another where it is
abbrev pub deciding : {M A : Type 0} → Run M ℤ → (World M → Run M A) → (World M → Run M A) → Run M A
deciding test one other = and_then test (λ n w. if int_eq n (pos 0) then other w else one w)

-- nothing is done
abbrev pub nothing : {M : Type 0} → Does M
nothing w = Gives GoesOn w

-- what comes after a statement, where it goes on
abbrev pub going_on : {M : Type 0} → Does M → End → World M → Run M End
going_on next GoesOn w = next w
going_on next end w = Gives end w

-- one statement, and then another where it goes on
abbrev pub followed_by : {M : Type 0} → Does M → Does M → Does M
followed_by first second w = and_then (first w) (going_on second)

-- statements one after the other, by what each does
abbrev pub in_order : {M S : Type 0} → (S → Does M) → List S → Does M
in_order does [] = nothing
in_order does (s ∷ rest) = followed_by (does s) (in_order does rest)

-- what comes after a loop's body: the loop again where it went on or continued, and what follows the loop
-- where it broke
abbrev pub looping : {M : Type 0} → Does M → End → World M → Run M End
looping again GoesOn w = again w
looping again Continues w = again w
looping again Breaks w = Gives GoesOn w
looping again (Returns n) w = Gives (Returns n) w

-- a round of a loop, and then what comes again: it takes a turn and runs the body
abbrev pub round : {M : Type 0} → Does M → Does M → Does M
round body again w = taking_turn w (λ w. and_then (body w) (looping again))

-- A loop that tests, and where the test is not 0 does a round and its step, and so on. The recursion is on n,
-- and this is the loop wherever fewer than n turns are left: each round takes a turn, and is cut where there
-- is none, so 0 is never come to.
abbrev pub loop : {M : Type 0} → ℕ → Computes M → Does M → Does M → Does M
loop zero test body step w = Fails Cut w
loop (suc n) test body step w =
    deciding (test w) (round body (followed_by step (loop n test body step))) nothing

-- `while`, where at most n turns are left
abbrev pub while_loop : {M : Type 0} → ℕ → Computes M → Does M → Does M
while_loop n test body = loop (suc n) test body nothing

-- `do`, where at most n turns are left: the first round has no test
abbrev pub do_loop : {M : Type 0} → ℕ → Does M → Computes M → Does M
do_loop n body test = round body (loop n test body nothing)

-- `for`, where at most n turns are left
abbrev pub for_loop : {M : Type 0} → ℕ → Does M → Computes M → Does M → Does M → Does M
for_loop n init test step body = followed_by init (loop (suc n) test body step)

-- what comes after a `switch`: a `break` in it goes on to what follows it
abbrev pub leaving_switch : {M : Type 0} → End → World M → Run M End
leaving_switch Breaks w = Gives GoesOn w
leaving_switch end w = Gives end w

-- the number that a function gives: 0 where it reaches its end
abbrev pub number_given : End → ℤ
number_given (Returns n) = n
number_given end = pos 0

-- The calls where at most n turns are left, by what the body of a function does, which is given its own calls
-- and the turns that are then left at most. A call takes a turn, and is cut where there is none, as where n
-- is 0.
abbrev pub calls_by : {M : Type 0} → (Calls M → ℕ → ℕ → Does M) → ℕ → Calls M
calls_by body zero f w = Fails Cut w
calls_by body (suc n) f w = taking_turn w (λ w. run_map number_given (body (calls_by body n) n f w))
