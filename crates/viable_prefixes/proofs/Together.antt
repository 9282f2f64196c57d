-- Readers that go the way of goals, put together.
use Rattle.std.proofs.Common.{◌≡◌, ℕ, zero, suc, ◌+◌, ◌≤◌, ◌<◌, Bool, true, false, if◌then◌else◌, List, [], ◌∷◌, ◌++◌, length, append_assoc, Some, None, refl, ap, ◌∙◌, arith}
use Rattle.capl_lexer.specs.declared.token.Tok.{Tok}
use Rattle.capl_lexer.specs.declared.token.Sign.{Sign}
use Rattle.capl_lexer.specs.declared.token.Sign.TheVariants as sign
use Rattle.capl_lexer.specs.declared.token.Word.{Word}
use Rattle.expr_parser.specs.Reading.{Read, and_then, begins_word, after, after_word}
use Rattle.parser_laws.specs.Statement.{until}
use Rattle.parser_laws.proofs.Steps.{step, by_test, moved, after_some, after_word_some}
use Rattle.viable_prefixes.specs.declared.goal.Goal.{Goal}
use Rattle.viable_prefixes.specs.declared.goal.Goal.TheVariants as goal
use Rattle.viable_prefixes.specs.Inside.Token.{is_word}
use Rattle.viable_prefixes.specs.Inside.Stack.{Stack, when}
use Rattle.viable_prefixes.specs.Inside.Goals.{accepts, accepts_behind}
use Rattle.viable_prefixes.proofs.Follows.{goes, word_first}
use Rattle.viable_prefixes.proofs.StepFollows.{sign_followed}

-- whether something was read, and the tokens behind it are what is wanted
abbrev pub leads : {A : Type 0} → Read A → (List Tok → Bool) → Bool
leads None wanted = false
leads (Some found) wanted = wanted found.1

-- the wanted tokens behind a reading may be those that fulfil goals
pub leads_goes : {A : Type 0} (read : Read A) (stack : Stack) → goes read stack ≡ leads read (accepts stack)
leads_goes None stack = refl
leads_goes (Some found) stack = refl

-- what is read behind what was read first
pub leads_on : {A B : Type 0} (read : Read A) (next : A → List Tok → Read B) (here there : List Tok → Bool)
    → ((a : A) (rest : List Tok) → read ≡ Some (a, rest) → here rest ≡ leads (next a rest) there)
    → leads read here ≡ leads (and_then read next) there
leads_on None next here there same = refl
leads_on (Some found) next here there same = same found.0 found.1 refl

-- a reading of these tokens goes the way of goals, and takes at least so many tokens
pub record Goes {A : Type 0} (goals : List Goal) (read : Read A) (ts : List Tok) (least : ℕ) : Type 0 where
  pub same : (stack : Stack) → accepts (goals ++ stack) ts ≡ leads read (accepts stack)
  pub less : (a : A) (rest : List Tok) → read ≡ Some (a, rest) → length rest + least ≤ length ts

-- one reading behind another
pub goes_then : {A B : Type 0} {goals others : List Goal} {first : Read A} {next : A → List Tok → Read B} {ts : List Tok} {least more : ℕ}
    → Goes goals first ts least → ((a : A) (rest : List Tok) → length rest + least ≤ length ts → Goes others (next a rest) rest more)
    → Goes (goals ++ others) (and_then first next) ts (least + more)
goes_then {goals = goals} {others = others} {first = first} {next = next} {ts = ts} one two = record {
  same = λ stack.
      ap (λ (all : List Goal). accepts all ts) (append_assoc goals others stack) ∙ one.same (others ++ stack)
      ∙ leads_on first next (accepts (others ++ stack)) (accepts stack) (λ a rest e. (two a rest (one.less a rest e)).same stack);
  less = λ b rest e. step first next b rest _ e
      (λ a left read e. omega (arith, one.less a left read, (two a left (one.less a left read)).less b rest e));
}

-- this, and no token
abbrev pub read_here : {A : Type 0} → A → List Tok → Read A
read_here a ts = Some (a, ts)

-- nothing more is read
pub gives : {A : Type 0} (a : A) (ts : List Tok) → Goes [] (read_here a ts) ts 0
gives {A} a ts = record {
  same = λ stack. refl;
  less = λ b rest e. moved (λ (b : A) (rest : List Tok). length rest + 0 ≤ length ts) a b ts rest e (omega arith);
}

-- what is read, made into something else
pub goes_made : {A B : Type 0} {goals : List Goal} {read : Read A} {ts : List Tok} {least : ℕ} (make : A → B)
    → Goes goals read ts least → Goes goals (and_then read (λ a rest. read_here (make a) rest)) ts least
goes_made {read = read} make found = record {
  same = λ stack. found.same stack ∙ leads_on read (λ a rest. read_here (make a) rest) (accepts stack) (accepts stack) (λ a rest e. refl);
  less = λ b rest e. step read (λ a rest. read_here (make a) rest) b rest _ e
      (λ a left is e. omega (arith, found.less a left is, (gives (make a) left).less b rest e));
}

-- behind a token that the goals take
pub goes_behind : {A : Type 0} {goals others : List Goal} {read : Read A} {t : Tok} {ts : List Tok} {least : ℕ}
    → ((stack : Stack) → accepts (goals ++ stack) (t ∷ ts) ≡ accepts (others ++ stack) ts) → Goes others read ts least → Goes goals read (t ∷ ts) 1
goes_behind takes found = record {
  same = λ stack. takes stack ∙ found.same stack;
  less = λ a rest e. omega (arith, found.less a rest e);
}

-- fewer tokens at least
pub goes_least : {A : Type 0} {goals : List Goal} {read : Read A} {ts : List Tok} {least : ℕ} (less : ℕ) → less ≤ least → Goes goals read ts least → Goes goals read ts less
goes_least less fewer found = record { same = found.same; less = λ a rest e. omega (arith, found.less a rest e) }

-- this sign
pub sign_goes : (wanted : Sign) (ts : List Tok) → Goes (goal.Sign wanted ∷ []) (after wanted ts) ts 1
sign_goes wanted ts = record {
  same = λ stack. sign_followed wanted ts stack ∙ leads_goes (after wanted ts) stack;
  less = λ u rest e. omega (arith, ap length (after_some wanted ts u rest e));
}

word_taken : (wanted test : Bool) (ts : List Tok) (stack : Stack) → test ≡ wanted
    → accepts_behind (when wanted stack) ts ≡ leads (if test then read_here {A = Unit {0}} tt ts else None) (accepts stack)
word_taken true true ts stack is = refl
word_taken false false ts stack is = refl
word_taken _ _ ts stack is = absurd cc

word_same : (wanted : Word) (ts : List Tok) (stack : Stack) → accepts (goal.Word wanted ∷ stack) ts ≡ leads (after_word wanted ts) (accepts stack)
unfolding after_word
word_same wanted [] stack = refl
word_same wanted (t ∷ ts) stack = word_taken (is_word wanted t) (begins_word wanted (t ∷ ts)) ts stack (word_first wanted t ts)

-- this word
pub word_goes : (wanted : Word) (ts : List Tok) → Goes (goal.Word wanted ∷ []) (after_word wanted ts) ts 1
word_goes wanted ts = record { same = word_same wanted ts; less = λ u rest e. omega (arith, ap length (after_word_some wanted ts u rest e)) }

-- nothing is read, and the goals do not go on
pub reads_none : {A : Type 0} {goals : List Goal} {ts : List Tok} {least : ℕ} → ((stack : Stack) → accepts (goals ++ stack) ts ≡ false)
    → Goes goals (let x : Read A = None in x) ts least
reads_none ends = record { same = ends; less = λ a rest e. absurd cc }

-- items up to where they end, by a goal that comes again behind each
pub until_goes : {A : Type 0} (ends : List Tok → Bool) (one : List Tok → Read A) (here over : List Tok → Bool) (most room : ℕ)
    → ((ts : List Tok) → length ts ≤ most → ends ts ≡ true → here ts ≡ over ts)
    → ((ts : List Tok) → length ts ≤ most → ends ts ≡ false → here ts ≡ leads (one ts) here)
    → ((ts : List Tok) (a : A) (rest : List Tok) → length ts ≤ most → one ts ≡ Some (a, rest) → length rest < length ts)
    → ((ts : List Tok) → length ts + room ≤ 0 → here ts ≡ false)
    → (n : ℕ) (found : List A) (ts : List Tok) → length ts ≤ most → length ts + room ≤ n
    → here ts ≡ leads (until ends one n found ts) over
unfolding until
until_goes ends one here over most room stops goes_on less empty zero found ts fits short = empty ts short
until_goes {A} ends one here over most room stops goes_on less empty (suc n) found ts fits short =
    turn (λ found ts fits short. until_goes ends one here over most room stops goes_on less empty n found ts fits short) (ends ts) refl
  where
    turn : ((found : List A) (ts : List Tok) → length ts ≤ most → length ts + room ≤ n → here ts ≡ leads (until ends one n found ts) over)
        → (b : Bool) → ends ts ≡ b
        → here ts ≡ leads (if b then Some (found, ts) else and_then (one ts) (λ item ts. until ends one n (found ++ item ∷ []) ts)) over
    turn again true is = stops ts fits is
    turn again false is =
        goes_on ts fits is ∙ leads_on (one ts) (λ item ts. until ends one n (found ++ item ∷ []) ts) here over
        (λ a rest e. let fewer = less ts a rest fits e in again (found ++ a ∷ []) rest (omega arith) (omega arith))

-- items leave no more than they are given
pub until_less : {A : Type 0} (ends : List Tok → Bool) (one : List Tok → Read A) (most : ℕ)
    → ((ts : List Tok) (a : A) (rest : List Tok) → length ts ≤ most → one ts ≡ Some (a, rest) → length rest < length ts)
    → (n : ℕ) (found : List A) (ts : List Tok) (all : List A) (rest : List Tok) → length ts ≤ most → until ends one n found ts ≡ Some (all, rest)
    → length rest ≤ length ts
unfolding until
until_less ends one most less zero found ts all rest fits e = absurd cc
until_less {A} ends one most less (suc n) found ts all rest fits e =
    by_test (ends ts) (Some (found, ts)) (and_then (one ts) (λ item ts. until ends one n (found ++ item ∷ []) ts)) (all, rest) (length rest ≤ length ts) e
    (λ is e. moved (λ (a : List A) (left : List Tok). length left ≤ length ts) found all ts rest e (omega arith))
    (λ is e. step (one ts) (λ item ts. until ends one n (found ++ item ∷ []) ts) all rest (length rest ≤ length ts) e
    (λ a left read e. let fewer = less ts a left fits read in let more = until_less ends one most less n (found ++ a ∷ []) left all rest (omega arith) e in omega arith))

-- so few tokens are none
pub none_left : {A : Type 0} (ts : List A) → length ts + 0 ≤ 0 → ts ≡ []
none_left [] short = refl
none_left (t ∷ ts) short = absurd (omega arith)

-- items up to where they end, and a closing brace, by a goal that comes again behind each item
pub braced : {A B : Type 0} (ends : List Tok → Bool) (one : List Tok → Read A) (again : Goal) (make : List A → B) (most : ℕ)
    → ((ts : List Tok) (stack : Stack) → ends ts ≡ true → accepts (again ∷ stack) ts ≡ accepts (goal.Sign sign.CloseBrace ∷ stack) ts)
    → ((ts : List Tok) (stack : Stack) → length ts ≤ most → ends ts ≡ false → accepts (again ∷ stack) ts ≡ leads (one ts) (accepts (again ∷ stack)))
    → ((ts : List Tok) (a : A) (rest : List Tok) → length ts ≤ most → one ts ≡ Some (a, rest) → length rest < length ts)
    → ((stack : Stack) → accepts (again ∷ stack) [] ≡ false) → (ts : List Tok) → length ts ≤ most
    → Goes (again ∷ []) (and_then (until ends one (length ts) [] ts) (λ all ts. and_then (after sign.CloseBrace ts) (λ _ ts. read_here (make all) ts))) ts 1
braced {A} ends one again make most stops goes_on less empty ts fits = record {
  same = λ stack.
      until_goes ends one (accepts (again ∷ stack)) (accepts (goal.Sign sign.CloseBrace ∷ stack)) most 0
      (λ ts fits is. stops ts stack is) (λ ts fits is. goes_on ts stack fits is) less
      (λ ts short. ap (accepts (again ∷ stack)) (none_left ts short) ∙ empty stack) (length ts) [] ts fits (omega arith)
      ∙ leads_on found (λ all ts. and_then (after sign.CloseBrace ts) (λ _ ts. read_here (make all) ts))
      (accepts (goal.Sign sign.CloseBrace ∷ stack)) (accepts stack) (λ all rest e. (closed all rest).same stack);
  less = λ b rest e.
      step found (λ all ts. and_then (after sign.CloseBrace ts) (λ _ ts. read_here (make all) ts)) b rest (length rest + 1 ≤ length ts) e
      (λ all left read e.
      let first = until_less ends one most less (length ts) [] ts all left fits read in
      let second = (closed all left).less b rest e in omega arith);
}
  where
    found : Read (List A)
    found = until ends one (length ts) [] ts

    closed : (all : List A) (ts : List Tok) → Goes (goal.Sign sign.CloseBrace ∷ []) (and_then (after sign.CloseBrace ts) (λ _ ts. read_here (make all) ts)) ts 1
    closed all ts = goes_then (sign_goes sign.CloseBrace ts) (λ u ts less. gives (make all) ts)
