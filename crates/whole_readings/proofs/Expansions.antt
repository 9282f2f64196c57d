-- Each expansion comes to an outcome.
use Rattle.std.proofs.Common.{◌≡◌, ◌+◌, ℕ, zero, suc, Bool, true, false, List, [], ◌∷◌, length, Option, Some, None, inl, inr, refl, nat_lt, nat_le}
use Rattle.std.specs.Prelude.{◌⊎◌, not}
use Rattle.texts.specs.declared.blame.Blame.{Blame}
use Rattle.texts.specs.Rule.{source_rule}
use Rattle.capl_lexer.specs.Reading.{IsReading, IsBadPlace, line_at, column_at, token_limit}
use Rattle.capl_lexer.specs.declared.token.Token.{Token}
use Rattle.capl_include.specs.Blame.{too_long_rule, file_blame, place_blame}
use Rattle.capl_include.specs.Expansion.{Contents, Expansion, Outcome, Include, Went, Stopped, Visits, GoesOn, IsIncluded, AreIncluded, StopsIf, VisitsTokens, VisitsText, VisitsHeld, IsVisit, IsExpansion, includes_of, meeting, appending, file_limit, byte_limit, nothing_met, included_name, is_included_name}
use Rattle.capl_include.specs.Inside.Step.{GoesPast, has_met}
use Rattle.whole_readings.proofs.Lexing.{reading_or_bad_place}

-- something has an outcome
abbrev Comes : (Outcome → Type 0) → Type 0
Comes Is = (outcome : Outcome) × Is outcome

-- each visit has one
abbrev AllCome : Visits → Type 0
AllCome IsVisited = (name : List ℕ) (at : Expansion) → Comes (IsVisited name at)

stops_or : (test : Bool) (blame : Blame) (Rest : Outcome → Type 0) → Comes Rest → Comes (λ outcome. StopsIf test blame outcome (Rest outcome))
stops_or true blame Rest further = (Stopped blame, refl)
stops_or false blame Rest further = further

goes_on : (after : Outcome) (Rest : Expansion → Outcome → Type 0) → ((next : Expansion) → Comes (Rest next)) → Comes (λ outcome. GoesOn after outcome (λ next. Rest next outcome))
goes_on (Went next) Rest further = further next
goes_on (Stopped blame) Rest further = (Stopped blame, refl)

past_comes : (IsVisited : Visits) → AllCome IsVisited → (before : Bool) (name : List ℕ) (at : Expansion) (Rest : Expansion → Outcome → Type 0)
    → ((next : Expansion) → Comes (Rest next)) → Comes (λ outcome. GoesPast IsVisited before name at outcome (λ next. Rest next outcome))
past_comes IsVisited visit true name at Rest further = further at
past_comes IsVisited visit false name at Rest further =
    let after = visit name at in
    let end = goes_on after.0 Rest further in
    (end.0, (after.0, after.1, end.1))

include_comes : (IsVisited : Visits) → AllCome IsVisited → (naming : List ℕ) (include : Include) (at : Expansion) (Rest : Expansion → Outcome → Type 0)
    → ((next : Expansion) → Comes (Rest next)) → Comes (λ outcome. IsIncluded IsVisited naming include at outcome (λ next. Rest next outcome))
include_comes IsVisited visit naming include at Rest further =
    let name : List ℕ = included_name naming include.own in
    let before : Bool = has_met at.met name in
    stops_or (not (is_included_name include.own name)) (place_blame naming include.line include.column (source_rule 8))
    (λ outcome. GoesPast IsVisited before name at outcome (λ next. Rest next outcome))
    (past_comes IsVisited visit before name at Rest further)

included_come : (IsVisited : Visits) → AllCome IsVisited → (naming : List ℕ) (includes : List Include) (at : Expansion) → Comes (AreIncluded IsVisited naming includes at)
included_come IsVisited visit naming [] at = (Went at, refl)
included_come IsVisited visit naming (include ∷ includes) at =
    include_comes IsVisited visit naming include at (λ next. AreIncluded IsVisited naming includes next)
    (λ next. included_come IsVisited visit naming includes next)

tokens_come : (IsVisited : Visits) → AllCome IsVisited → (name : List ℕ) (tokens : List Token) (at : Expansion) → Comes (VisitsTokens IsVisited name tokens at)
tokens_come IsVisited visit name tokens at =
    let inner = included_come IsVisited visit name (includes_of tokens) (meeting name tokens at) in
    stops_or (nat_lt token_limit (at.count + length tokens)) (file_blame name (source_rule 4))
    (λ outcome. (inner : Outcome) × AreIncluded IsVisited name (includes_of tokens) (meeting name tokens at) inner × (outcome ≡ appending name tokens inner))
    (appending name tokens inner.0, (inner.0, inner.1, refl))

text_by : (IsVisited : Visits) → AllCome IsVisited → (name text : List ℕ) (at : Expansion)
    → ((tokens : List Token) × IsReading text tokens) ⊎ ((place : ℕ) × IsBadPlace text place) → Comes (VisitsText IsVisited name text at)
text_by IsVisited visit name text at (inl (tokens, reading)) =
    let end = tokens_come IsVisited visit name tokens at in (end.0, inr (tokens, reading, end.1))
text_by IsVisited visit name text at (inr (place, bad)) =
    (Stopped (place_blame name (line_at text place) (column_at text place) (source_rule 1)), inl (place, bad, refl))

held_comes : (IsVisited : Visits) → AllCome IsVisited → (name : List ℕ) (held : Option (List ℕ)) (at : Expansion) → Comes (VisitsHeld IsVisited name held at)
held_comes IsVisited visit name None at = (Stopped (file_blame name (source_rule 7)), refl)
held_comes IsVisited visit name (Some text) at =
    stops_or (nat_lt byte_limit (length text)) (file_blame name too_long_rule) (λ outcome. VisitsText IsVisited name text at outcome)
    (text_by IsVisited visit name text at (reading_or_bad_place text))

visits_come : (contents : Contents) (root : List ℕ) (deeper : ℕ) → AllCome (IsVisit contents root deeper)
visits_come contents root zero name at = (Stopped (file_blame root (source_rule 29)), refl)
visits_come contents root (suc deeper) name at =
    stops_or (nat_le file_limit (length at.met)) (file_blame root (source_rule 29))
    (λ outcome. VisitsHeld (IsVisit contents root deeper) name (contents name) at outcome)
    (held_comes (IsVisit contents root deeper) (visits_come contents root deeper) name (contents name) at)

-- each expansion comes to an outcome
pub expansion_comes : (contents : Contents) (name : List ℕ) → (outcome : Outcome) × IsExpansion contents name outcome
expansion_comes contents name = visits_come contents name file_limit name nothing_met
