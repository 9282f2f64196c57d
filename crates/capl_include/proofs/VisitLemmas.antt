-- The visit of a file, part by part.
use Rattle.std.proofs.Common.{◌≡◌, ◌<◌, ◌≤◌, ◌+◌, ℕ, zero, suc, Bool, true, false, List, [], ◌∷◌, ◌++◌, length, get_or, drop, Option, Some, None, Result, Ok, Err, inl, inr, refl, sym, ap, subst, ◌∙◌, arith, nat_lt, nat_le}
use Rattle.std.specs.Prelude.{◌⊎◌, IfSome, IfErr, IsErrAnd, if◌then◌else◌, not}
use Rattle.std.proofs.lemmas.Bool.Decides.{nat_tests}
use Rattle.std.proofs.lemmas.List.{drop_more, drop_all}
use Rattle.texts.specs.declared.blame.Blame.{Blame}
use Rattle.texts.specs.Rule.{source_rule}
use Rattle.capl_lexer.specs.Reading.{line_at, token_limit}
use Rattle.capl_lexer.specs.declared.token.Tok.{Tok}
use Rattle.capl_lexer.specs.declared.token.Tok.TheVariants as tok
use Rattle.capl_lexer.specs.declared.token.Token.{Token}
use Rattle.capl_include.specs.Blame.{too_long_rule, file_blame, place_blame}
use Rattle.capl_include.specs.Expansion.{included_name, is_included_name, Contents, Expansion, Outcome, Include, Went, Stopped, Visits, IsIncluded, AreIncluded, StopsIf, VisitsText, VisitsHeld, IsVisit, includes_of, include_then, meeting, appending, file_limit, byte_limit}
use Rattle.capl_include.specs.Inside.Step.{Inclusion, Refused, Passed, Visited, GoesBy, GoesPast, has_met, step_of}
use Rattle.capl_include.specs.Inside.Visit.{IsRead, IsReadBlame, ReadAgrees, HasStep, StepAgrees, IsVisitAt, IsVisitRefusal}
use Rattle.capl_include.specs.Inside.Refusal.{IsBlamedOrNoMemory}
use Rattle.capl_include.specs.declared.refusal.ExpandRefusal.{ExpandRefusal}
use Rattle.capl_include.specs.declared.refusal.ExpandRefusal.TheVariants.{Blamed, Failed, NoMemory}

-- a test that holds stops
stops : (test : Bool) (blame : Blame) (outcome : Outcome) (Rest : Type 0) → test ≡ true → outcome ≡ Stopped blame
    → StopsIf test blame outcome Rest
stops true blame outcome Rest is same = same
stops false blame outcome Rest is same = cc

-- a test that does not hold goes on
goes_on : (test : Bool) (blame : Blame) (outcome : Outcome) (Rest : Type 0) → test ≡ false → Rest
    → StopsIf test blame outcome Rest
goes_on true blame outcome Rest is rest = cc
goes_on false blame outcome Rest is rest = rest

lt_true : (m n : ℕ) → m < n → nat_lt m n ≡ true
lt_true m n less = grind (arith, nat_tests)

lt_false : (m n : ℕ) → n ≤ m → nat_lt m n ≡ false
lt_false m n less = grind (arith, nat_tests)

le_false : (m n : ℕ) → n < m → nat_le m n ≡ false
le_false m n less = grind (arith, nat_tests)

le_true : (m n : ℕ) → m ≤ n → nat_le m n ≡ true
le_true m n less = grind (arith, nat_tests)

-- a file of few enough bytes is visited as its text
held_text : (IsVisited : Visits) (contents : Contents) (name text : List ℕ) (at : Expansion) (outcome : Outcome)
    → contents name ≡ Some text → length text ≤ byte_limit → VisitsText IsVisited name text at outcome
    → VisitsHeld IsVisited name (contents name) at outcome
held_text IsVisited contents name text at outcome held short visits =
    subst (λ (h : Option (List ℕ)). VisitsHeld IsVisited name h at outcome) (sym held)
    (goes_on (nat_lt byte_limit (length text)) (file_blame name too_long_rule) outcome (VisitsText IsVisited name text at outcome)
    (lt_false byte_limit (length text) short) visits)

-- a file that is read is visited by its tokens
pub held_tokens : (IsVisited : Visits) (contents : Contents) (name : List ℕ) (at : Expansion) (tokens : List Token) (inner : Outcome)
    → IsRead contents name at.count tokens
    → AreIncluded IsVisited name (includes_of tokens) (meeting name tokens at) inner
    → VisitsHeld IsVisited name (contents name) at (appending name tokens inner)
held_tokens IsVisited contents name at tokens inner read included =
    held_text IsVisited contents name read.text at (appending name tokens inner) read.held read.short
    (inr (
      tokens,
      read.reading,
      goes_on (nat_lt token_limit (at.count + length tokens)) (file_blame name (source_rule 4)) (appending name tokens inner)
          ((other : Outcome) × AreIncluded IsVisited name (includes_of tokens) (meeting name tokens at) other × (appending name tokens inner ≡ appending name tokens other))
          (lt_false token_limit (at.count + length tokens) read.few) (inner, included, refl),
    ))

-- a file that is to blame by itself is visited so
pub held_blame : (IsVisited : Visits) (contents : Contents) (name : List ℕ) (at : Expansion) (blame : Blame)
    → IsReadBlame contents name at.count blame → VisitsHeld IsVisited name (contents name) at (Stopped blame)
held_blame IsVisited contents name at blame (inl (missing, is)) =
    subst (λ (h : Option (List ℕ)). VisitsHeld IsVisited name h at (Stopped blame)) (sym missing) (ap Stopped is)
held_blame IsVisited contents name at blame (inr (inl ((text, held, long), is))) =
    subst (λ (h : Option (List ℕ)). VisitsHeld IsVisited name h at (Stopped blame)) (sym held)
    (stops (nat_lt byte_limit (length text)) (file_blame name too_long_rule) (Stopped blame) (VisitsText IsVisited name text at (Stopped blame))
    (lt_true byte_limit (length text) long) (ap Stopped is))
held_blame IsVisited contents name at blame (inr (inr (inl (line, column, bad, is)))) =
    held_text IsVisited contents name bad.text at (Stopped blame) bad.held bad.short
    (inl (
      bad.place,
      bad.bad,
      ap Stopped (is ∙ ap (λ n. place_blame name n column (source_rule 1)) bad.line_is
          ∙ ap (λ n. place_blame name (line_at bad.text bad.place) n (source_rule 1)) bad.column_is),
    ))
held_blame IsVisited contents name at blame (inr (inr (inr (many, is)))) =
    held_text IsVisited contents name many.text at (Stopped blame) many.held many.short
    (inr (
      many.tokens,
      many.reading,
      stops (nat_lt token_limit (at.count + length many.tokens)) (file_blame name (source_rule 4)) (Stopped blame)
          ((other : Outcome) × AreIncluded IsVisited name (includes_of many.tokens) (meeting name many.tokens at) other × (Stopped blame ≡ appending name many.tokens other))
          (lt_true token_limit (at.count + length many.tokens) many.many) (ap Stopped is),
    ))

-- where there are too many files already, the first is to blame
pub visit_full : (contents : Contents) (root name : List ℕ) (at : Expansion) (blame : Blame) → file_limit ≤ length at.met
    → blame ≡ file_blame root (source_rule 29) → IsVisitAt contents root name at (Stopped blame)
visit_full contents root name at blame full is zero enough = ap Stopped is
visit_full contents root name at blame full is (suc deeper) enough =
    stops (nat_le file_limit (length at.met)) (file_blame root (source_rule 29)) (Stopped blame)
    (VisitsHeld (IsVisit contents root deeper) name (contents name) at (Stopped blame))
    (le_true file_limit (length at.met) full) (ap Stopped is)

-- where there are not, the file is visited as what it holds, and those that it names one deeper
pub visit_held : (contents : Contents) (root name : List ℕ) (at : Expansion) (outcome : Outcome) → length at.met < file_limit
    → ((deeper : ℕ) → file_limit ≤ suc deeper + length at.met
    → VisitsHeld (IsVisit contents root deeper) name (contents name) at outcome)
    → IsVisitAt contents root name at outcome
visit_held contents root name at outcome few held zero enough = absurd (omega arith)
visit_held contents root name at outcome few held (suc deeper) enough =
    goes_on (nat_le file_limit (length at.met)) (file_blame root (source_rule 29)) outcome
    (VisitsHeld (IsVisit contents root deeper) name (contents name) at outcome)
    (le_false file_limit (length at.met) few) (held deeper enough)

-- the includes of a token, and then those of the tokens behind it
pub includes-cons : (token : Token) (tokens : List Token)
    → includes_of (token ∷ tokens) ≡ includes_of (token ∷ []) ++ includes_of tokens
includes-cons token tokens = cases token.tok
  where
    cases : (kind : Tok) → include_then token kind (includes_of tokens) ≡ include_then token kind [] ++ includes_of tokens
    cases (tok.Include own) = refl
    cases _ = refl

-- a token that names no file
pub no_include : (IsVisited : Visits) (naming : List ℕ) (token : Token) (tokens : List Token) (at : Expansion) (outcome : Outcome)
    → includes_of (token ∷ []) ≡ [] → AreIncluded IsVisited naming (includes_of tokens) at outcome
    → AreIncluded IsVisited naming (includes_of (token ∷ tokens)) at outcome
no_include IsVisited naming token tokens at outcome none included =
    subst (λ includes. AreIncluded IsVisited naming includes at outcome)
    (sym (includes-cons token tokens ∙ ap (λ first. first ++ includes_of tokens) none)) included

-- an include goes as its step does
by_step : (IsVisited : Visits) (naming : List ℕ) (include : Include) (at : Expansion) (outcome : Outcome) (Rest : Expansion → Type 0)
    → GoesBy IsVisited (step_of naming include at.met) at outcome Rest → IsIncluded IsVisited naming include at outcome Rest
by_step IsVisited naming include at outcome Rest = cases (is_included_name include.own name) (has_met at.met name)
  where
    name : List ℕ
    name = included_name naming include.own

    blame : Blame
    blame = place_blame naming include.line include.column (source_rule 8)

    cases : (good before : Bool) → GoesBy IsVisited (if good then (if before then Passed else Visited name) else Refused blame) at outcome Rest
        → StopsIf (not good) blame outcome (GoesPast IsVisited before name at outcome Rest)
    cases false before goes = goes
    cases true true goes = goes
    cases true false goes = goes

with_include : (IsVisited : Visits) (naming : List ℕ) (token : Token) (tokens : List Token) (at : Expansion) (outcome : Outcome) (step : Inclusion)
    → HasStep naming token at.met step
    → GoesBy IsVisited step at outcome (λ next. AreIncluded IsVisited naming (includes_of tokens) next outcome)
    → AreIncluded IsVisited naming (includes_of (token ∷ tokens)) at outcome
with_include IsVisited naming token tokens at outcome step has included =
    subst (λ includes. AreIncluded IsVisited naming includes at outcome)
    (sym (includes-cons token tokens ∙ ap (λ first. first ++ includes_of tokens) has.only))
    (by_step IsVisited naming has.include at outcome (λ next. AreIncluded IsVisited naming (includes_of tokens) next outcome)
    (subst (λ (s : Inclusion). GoesBy IsVisited s at outcome (λ next. AreIncluded IsVisited naming (includes_of tokens) next outcome)) (sym has.is) included))

-- a token that names a file which was met, or none
pub passed_over : (IsVisited : Visits) (naming : List ℕ) (token : Token) (tokens : List Token) (at : Expansion) (outcome : Outcome)
    → (includes_of (token ∷ []) ≡ []) ⊎ HasStep naming token at.met Passed
    → AreIncluded IsVisited naming (includes_of tokens) at outcome
    → AreIncluded IsVisited naming (includes_of (token ∷ tokens)) at outcome
passed_over IsVisited naming token tokens at outcome (inl none) included = no_include IsVisited naming token tokens at outcome none included
passed_over IsVisited naming token tokens at outcome (inr has) included = with_include IsVisited naming token tokens at outcome Passed has included

-- a token that names a file whose visit ends
pub visited_then : (IsVisited : Visits) (naming name : List ℕ) (token : Token) (tokens : List Token) (at next : Expansion) (outcome : Outcome)
    → HasStep naming token at.met (Visited name) → IsVisited name at (Went next)
    → AreIncluded IsVisited naming (includes_of tokens) next outcome
    → AreIncluded IsVisited naming (includes_of (token ∷ tokens)) at outcome
visited_then IsVisited naming name token tokens at next outcome has visit included =
    with_include IsVisited naming token tokens at outcome (Visited name) has (Went next, visit, included)

-- a token that names a file whose visit stops
pub visit_stops : (IsVisited : Visits) (naming name : List ℕ) (token : Token) (tokens : List Token) (at : Expansion) (blame : Blame)
    → HasStep naming token at.met (Visited name) → IsVisited name at (Stopped blame)
    → AreIncluded IsVisited naming (includes_of (token ∷ tokens)) at (Stopped blame)
visit_stops IsVisited naming name token tokens at blame has visit =
    with_include IsVisited naming token tokens at (Stopped blame) (Visited name) has (Stopped blame, visit, refl)

-- a token that is to blame
pub step_stops : (IsVisited : Visits) (naming : List ℕ) (token : Token) (tokens : List Token) (at : Expansion) (blame : Blame)
    → HasStep naming token at.met (Refused blame)
    → AreIncluded IsVisited naming (includes_of (token ∷ tokens)) at (Stopped blame)
step_stops IsVisited naming token tokens at blame has =
    with_include IsVisited naming token tokens at (Stopped blame) (Refused blame) has refl

-- what goes on from a token of a file, where the expansion stands so, goes on from the first one
pub record GoesFrom (contents : Contents) (root naming : List ℕ) (tokens : List Token) (old : Expansion) (place : ℕ) (at : Expansion) : Type 0 where
  pub from : (deeper : ℕ) (outcome : Outcome) → file_limit ≤ suc deeper + length old.met
      → AreIncluded (IsVisit contents root deeper) naming (includes_of (drop place tokens)) at outcome
      → AreIncluded (IsVisit contents root deeper) naming (includes_of tokens) (meeting naming tokens old) outcome

-- it begins where the file is met
pub goes_first : (contents : Contents) (root naming : List ℕ) (tokens : List Token) (old at : Expansion)
    → at ≡ meeting naming tokens old → GoesFrom contents root naming tokens old 0 at
goes_first contents root naming tokens old at is =
    record { from = λ deeper outcome enough included. subst (λ (a : Expansion). AreIncluded (IsVisit contents root deeper) naming (includes_of tokens) a outcome) is included }

token_at : (tokens : List Token) (place : ℕ) (token : Token) → place < length tokens → token ≡ get_or tokens place token
    → drop place tokens ≡ token ∷ drop (place + 1) tokens
token_at tokens place token within is =
    drop_more tokens place token within ∙ ap (λ (t : Token). t ∷ drop (place + 1) tokens) (sym is)

-- a token that names nothing new is passed over
pub goes_past : (contents : Contents) (root naming : List ℕ) (tokens : List Token) (old : Expansion) (place : ℕ) (at : Expansion) (token : Token)
    → place < length tokens → token ≡ get_or tokens place token
    → GoesFrom contents root naming tokens old place at
    → (includes_of (token ∷ []) ≡ []) ⊎ HasStep naming token at.met Passed
    → GoesFrom contents root naming tokens old (place + 1) at
goes_past contents root naming tokens old place at token within is goes passed = record {
  from = λ deeper outcome enough included. goes.from deeper outcome enough
      (subst (λ (t : List Token). AreIncluded (IsVisit contents root deeper) naming (includes_of t) at outcome) (sym (token_at tokens place token within is))
      (passed_over (IsVisit contents root deeper) naming token (drop (place + 1) tokens) at outcome passed included));
}

-- a file that a token names is visited
pub goes_through : (contents : Contents) (root naming name : List ℕ) (tokens : List Token) (old : Expansion) (place : ℕ) (at next : Expansion) (token : Token)
    → place < length tokens → token ≡ get_or tokens place token → length old.met < length at.met
    → GoesFrom contents root naming tokens old place at
    → HasStep naming token at.met (Visited name) → IsVisitAt contents root name at (Went next)
    → GoesFrom contents root naming tokens old (place + 1) next
goes_through contents root naming name tokens old place at next token within is more goes has visit = record {
  from = λ deeper outcome enough included. goes.from deeper outcome enough
      (subst (λ (t : List Token). AreIncluded (IsVisit contents root deeper) naming (includes_of t) at outcome) (sym (token_at tokens place token within is))
      (visited_then (IsVisit contents root deeper) naming name token (drop (place + 1) tokens) at next outcome has (visit deeper (omega arith)) included));
}

-- a visit ends as the includes from a token on do
pub visit_ends : (contents : Contents) (root naming : List ℕ) (tokens : List Token) (old : Expansion) (place : ℕ) (at : Expansion) (inner : Outcome)
    → length old.met < file_limit → IsRead contents naming old.count tokens
    → GoesFrom contents root naming tokens old place at
    → ((deeper : ℕ) → file_limit ≤ suc deeper + length old.met
    → AreIncluded (IsVisit contents root deeper) naming (includes_of (drop place tokens)) at inner)
    → IsVisitAt contents root naming old (appending naming tokens inner)
visit_ends contents root naming tokens old place at inner few read goes rest =
    visit_held contents root naming old (appending naming tokens inner) few
    (λ deeper enough. held_tokens (IsVisit contents root deeper) contents naming old tokens inner read (goes.from deeper inner enough (rest deeper enough)))

-- a blame of a token ends the visit
pub token_ends : (contents : Contents) (root naming : List ℕ) (tokens : List Token) (old : Expansion) (place : ℕ) (at : Expansion) (token : Token) (blame : Blame)
    → length old.met < file_limit → IsRead contents naming old.count tokens
    → place < length tokens → token ≡ get_or tokens place token
    → GoesFrom contents root naming tokens old place at → HasStep naming token at.met (Refused blame)
    → IsVisitAt contents root naming old (Stopped blame)
token_ends contents root naming tokens old place at token blame few read within is goes has =
    visit_ends contents root naming tokens old place at (Stopped blame) few read goes
    (λ deeper enough.
    subst (λ (t : List Token). AreIncluded (IsVisit contents root deeper) naming (includes_of t) at (Stopped blame)) (sym (token_at tokens place token within is))
    (step_stops (IsVisit contents root deeper) naming token (drop (place + 1) tokens) at blame has))

-- a blame in a file that a token names ends the visit
pub inside_ends : (contents : Contents) (root naming name : List ℕ) (tokens : List Token) (old : Expansion) (place : ℕ) (at : Expansion) (token : Token) (blame : Blame)
    → length old.met < file_limit → IsRead contents naming old.count tokens
    → place < length tokens → token ≡ get_or tokens place token → length old.met < length at.met
    → GoesFrom contents root naming tokens old place at → HasStep naming token at.met (Visited name)
    → IsVisitAt contents root name at (Stopped blame)
    → IsVisitAt contents root naming old (Stopped blame)
inside_ends contents root naming name tokens old place at token blame few read within is more goes has visit =
    visit_ends contents root naming tokens old place at (Stopped blame) few read goes
    (λ deeper enough.
    subst (λ (t : List Token). AreIncluded (IsVisit contents root deeper) naming (includes_of t) at (Stopped blame)) (sym (token_at tokens place token within is))
    (visit_stops (IsVisit contents root deeper) naming name token (drop (place + 1) tokens) at blame has (visit deeper (omega arith))))

-- behind the last token the file is appended
pub whole_ends : (contents : Contents) (root naming : List ℕ) (tokens : List Token) (old : Expansion) (place : ℕ) (at new : Expansion)
    → length old.met < file_limit → IsRead contents naming old.count tokens → length tokens ≤ place
    → GoesFrom contents root naming tokens old place at
    → Went new ≡ appending naming tokens (Went at)
    → IsVisitAt contents root naming old (Went new)
whole_ends contents root naming tokens old place at new few read end goes is =
    subst (IsVisitAt contents root naming old) (sym is)
    (visit_ends contents root naming tokens old place at (Went at) few read goes
    (λ deeper enough. subst (λ (t : List Token). AreIncluded (IsVisit contents root deeper) naming (includes_of t) at (Went at)) (sym (drop_all place tokens end)) refl))

-- What a visit answers where it is refused.

-- there are too many files already
pub full_refusal : (contents : Contents) (root name : List ℕ) (at : Expansion) (refusal : ExpandRefusal) → file_limit ≤ length at.met
    → IsBlamedOrNoMemory (file_blame root (source_rule 29)) refusal → IsVisitRefusal contents root name at refusal
full_refusal contents root name at (Blamed blame) full is = visit_full contents root name at blame full is
full_refusal contents root name at Failed full is = tt
full_refusal contents root name at NoMemory full is = tt

-- the file is to blame by itself
pub read_refusal : (contents : Contents) (root name : List ℕ) (at : Expansion) (refusal : ExpandRefusal) → length at.met < file_limit
    → ReadAgrees contents name at.count (Err refusal) → IsVisitRefusal contents root name at refusal
read_refusal contents root name at (Blamed blame) few is =
    visit_held contents root name at (Stopped blame) few (λ deeper enough. held_blame (IsVisit contents root deeper) contents name at blame is)
read_refusal contents root name at Failed few is = tt
read_refusal contents root name at NoMemory few is = tt

-- a token is to blame
pub step_refusal : (contents : Contents) (root naming : List ℕ) (tokens : List Token) (old : Expansion) (place : ℕ) (at : Expansion) (token : Token) (refusal : ExpandRefusal)
    → length old.met < file_limit → IsRead contents naming old.count tokens
    → place < length tokens → token ≡ get_or tokens place token
    → GoesFrom contents root naming tokens old place at → StepAgrees naming token at.met (Err refusal)
    → IsVisitRefusal contents root naming old refusal
step_refusal contents root naming tokens old place at token (Blamed blame) few read within is goes has =
    token_ends contents root naming tokens old place at token blame few read within is goes has
step_refusal contents root naming tokens old place at token Failed few read within is goes has = tt
step_refusal contents root naming tokens old place at token NoMemory few read within is goes has = tt

-- a file that a token names is to blame, or one that it names
pub inside_refusal : (contents : Contents) (root naming name : List ℕ) (tokens : List Token) (old : Expansion) (place : ℕ) (at : Expansion) (token : Token) (refusal : ExpandRefusal)
    → length old.met < file_limit → IsRead contents naming old.count tokens
    → place < length tokens → token ≡ get_or tokens place token → length old.met < length at.met
    → GoesFrom contents root naming tokens old place at → HasStep naming token at.met (Visited name)
    → IsVisitRefusal contents root name at refusal
    → IsVisitRefusal contents root naming old refusal
inside_refusal contents root naming name tokens old place at token (Blamed blame) few read within is more goes has visit =
    inside_ends contents root naming name tokens old place at token blame few read within is more goes has visit
inside_refusal contents root naming name tokens old place at token Failed few read within is more goes has visit = tt
inside_refusal contents root naming name tokens old place at token NoMemory few read within is more goes has visit = tt

-- How a fact on told contents follows from others.

-- from none
pub told_always : (held : Option Contents) (Q : Contents → Type 0) → ((contents : Contents) → Q contents) → IfSome held Q
told_always None Q always = tt
told_always (Some contents) Q always = always contents

-- from one
pub told_from : (held : Option Contents) (P Q : Contents → Type 0) → ((contents : Contents) → P contents → Q contents)
    → IfSome held P → IfSome held Q
told_from None P Q follows first = tt
told_from (Some contents) P Q follows first = follows contents first

-- from two
pub told_from_two : (held : Option Contents) (P Q R : Contents → Type 0) → ((contents : Contents) → P contents → Q contents → R contents)
    → IfSome held P → IfSome held Q → IfSome held R
told_from_two None P Q R follows first second = tt
told_from_two (Some contents) P Q R follows first second = follows contents first second

-- from three
pub told_from_three : (held : Option Contents) (P Q R S : Contents → Type 0)
    → ((contents : Contents) → P contents → Q contents → R contents → S contents)
    → IfSome held P → IfSome held Q → IfSome held R → IfSome held S
told_from_three None P Q R S follows first second third = tt
told_from_three (Some contents) P Q R S follows first second third = follows contents first second third

-- a refusal that is passed on is what it was
pub passed_on : {A E : Type 0} (result : Result A E) (refusal : E) (P : E → Type 0) → IsErrAnd result (λ e. e ≡ refusal)
    → P refusal → IfErr result P
passed_on (Ok done) refusal P is holds = absurd is
passed_on (Err e) refusal P is holds = subst P (sym is) holds
