-- An expansion comes to one outcome.
use Rattle.std.proofs.Common.{◌≡◌, ◌+◌, ℕ, zero, suc, Bool, true, false, List, [], ◌∷◌, length, Option, Some, None, inl, inr, sym, ap, subst, ◌∙◌, nat_lt, nat_le}
use Rattle.std.specs.Prelude.{not}
use Rattle.texts.specs.declared.blame.Blame.{Blame}
use Rattle.texts.specs.Rule.{source_rule}
use Rattle.capl_lexer.specs.Reading.{line_at, column_at, token_limit}
use Rattle.capl_lexer.specs.declared.token.Token.{Token}
use Rattle.capl_lexer.proofs.ReadingLemmas.{reading-unique, bad_place-reading, bad_place-unique}
use Rattle.capl_include.specs.Blame.{too_long_rule, file_blame, place_blame}
use Rattle.capl_include.specs.Expansion.{included_name, is_included_name, Contents, Expansion, Outcome, Include, Went, Stopped, Visits, GoesOn, IsIncluded, AreIncluded, StopsIf, VisitsTokens, VisitsText, VisitsHeld, IsVisit, includes_of, meeting, appending, file_limit, byte_limit}
use Rattle.capl_include.specs.Inside.Step.{GoesPast, has_met}

-- the visit of a file comes to one outcome
abbrev pub AreOnce : Visits → Type 0
AreOnce IsVisited = (name : List ℕ) (at : Expansion) (one other : Outcome) → IsVisited name at one → IsVisited name at other → one ≡ other

stops-unique : (test : Bool) (blame : Blame) (one other : Outcome) (First Second : Type 0)
    → (First → Second → one ≡ other) → StopsIf test blame one First → StopsIf test blame other Second → one ≡ other
stops-unique true blame one other First Second rest first second = first ∙ sym second
stops-unique false blame one other First Second rest first second = rest first second

goes-unique : (after : Outcome) (one other : Outcome) (First Second : Expansion → Type 0)
    → ((next : Expansion) → First next → Second next → one ≡ other)
    → GoesOn after one First → GoesOn after other Second → one ≡ other
goes-unique (Went next) one other First Second rest first second = rest next first second
goes-unique (Stopped blame) one other First Second rest first second = first ∙ sym second

past-unique : (IsVisited : Visits) → AreOnce IsVisited → (before : Bool) (name : List ℕ) (at : Expansion) (one other : Outcome) (First Second : Expansion → Type 0)
    → ((next : Expansion) → First next → Second next → one ≡ other)
    → GoesPast IsVisited before name at one First → GoesPast IsVisited before name at other Second → one ≡ other
past-unique IsVisited once true name at one other First Second rest first second = rest at first second
past-unique IsVisited once false name at one other First Second rest (after, visit, goes) (beyond, also, goes_too) =
    let same = once name at after beyond visit also in
    goes-unique beyond one other First Second rest (subst (λ (o : Outcome). GoesOn o one First) same goes) goes_too

include-unique : (IsVisited : Visits) → AreOnce IsVisited → (naming : List ℕ) (include : Include) (at : Expansion) (one other : Outcome) (First Second : Expansion → Type 0)
    → ((next : Expansion) → First next → Second next → one ≡ other)
    → IsIncluded IsVisited naming include at one First → IsIncluded IsVisited naming include at other Second → one ≡ other
include-unique IsVisited once naming include at one other First Second rest first second =
    let name : List ℕ = included_name naming include.own in
    let before : Bool = has_met at.met name in
    stops-unique (not (is_included_name include.own name)) (place_blame naming include.line include.column (source_rule 8)) one other
    (GoesPast IsVisited before name at one First) (GoesPast IsVisited before name at other Second)
    (past-unique IsVisited once before name at one other First Second rest) first second

included-unique : (IsVisited : Visits) → AreOnce IsVisited → (naming : List ℕ) (includes : List Include) (at : Expansion) (one other : Outcome)
    → AreIncluded IsVisited naming includes at one → AreIncluded IsVisited naming includes at other → one ≡ other
included-unique IsVisited once naming [] at one other first second = first ∙ sym second
included-unique IsVisited once naming (include ∷ includes) at one other first second =
    include-unique IsVisited once naming include at one other
    (λ next. AreIncluded IsVisited naming includes next one) (λ next. AreIncluded IsVisited naming includes next other)
    (λ next. included-unique IsVisited once naming includes next one other) first second

tokens-unique : (IsVisited : Visits) → AreOnce IsVisited → (name : List ℕ) (tokens : List Token) (at : Expansion) (one other : Outcome)
    → VisitsTokens IsVisited name tokens at one → VisitsTokens IsVisited name tokens at other → one ≡ other
tokens-unique IsVisited once name tokens at one other first second =
    stops-unique (nat_lt token_limit (at.count + length tokens)) (file_blame name (source_rule 4)) one other
    ((inner : Outcome) × AreIncluded IsVisited name (includes_of tokens) (meeting name tokens at) inner × (one ≡ appending name tokens inner))
    ((inner : Outcome) × AreIncluded IsVisited name (includes_of tokens) (meeting name tokens at) inner × (other ≡ appending name tokens inner))
    (λ (inner, included, is) (outer, also, is_too).
    is ∙ ap (appending name tokens) (included-unique IsVisited once name (includes_of tokens) (meeting name tokens at) inner outer included also) ∙ sym is_too)
    first second

text-unique : (IsVisited : Visits) → AreOnce IsVisited → (name text : List ℕ) (at : Expansion) (one other : Outcome)
    → VisitsText IsVisited name text at one → VisitsText IsVisited name text at other → one ≡ other
text-unique IsVisited once name text at one other (inl (place, bad, is)) (inl (spot, also, is_too)) =
    let same = bad_place-unique text place spot bad also in
    is ∙ ap (λ n. Stopped (place_blame name (line_at text n) (column_at text n) (source_rule 1))) same ∙ sym is_too
text-unique IsVisited once name text at one other (inl (place, bad, is)) (inr (tokens, reading, visits)) =
    absurd (bad_place-reading text place tokens bad reading)
text-unique IsVisited once name text at one other (inr (tokens, reading, visits)) (inl (place, bad, is)) =
    absurd (bad_place-reading text place tokens bad reading)
text-unique IsVisited once name text at one other (inr (tokens, reading, visits)) (inr (others, also, visits_too)) =
    let same = reading-unique text tokens others reading also in
    tokens-unique IsVisited once name others at one other (subst (λ (t : List Token). VisitsTokens IsVisited name t at one) same visits) visits_too

held-unique : (IsVisited : Visits) → AreOnce IsVisited → (name : List ℕ) (held : Option (List ℕ)) (at : Expansion) (one other : Outcome)
    → VisitsHeld IsVisited name held at one → VisitsHeld IsVisited name held at other → one ≡ other
held-unique IsVisited once name None at one other first second = first ∙ sym second
held-unique IsVisited once name (Some text) at one other first second =
    stops-unique (nat_lt byte_limit (length text)) (file_blame name too_long_rule) one other
    (VisitsText IsVisited name text at one) (VisitsText IsVisited name text at other)
    (text-unique IsVisited once name text at one other) first second

-- the visit of a file comes to one outcome
pub visit-unique : (contents : Contents) (root : List ℕ) (deeper : ℕ) → AreOnce (IsVisit contents root deeper)
visit-unique contents root zero name at one other first second = first ∙ sym second
visit-unique contents root (suc deeper) name at one other first second =
    stops-unique (nat_le file_limit (length at.met)) (file_blame root (source_rule 29)) one other
    (VisitsHeld (IsVisit contents root deeper) name (contents name) at one)
    (VisitsHeld (IsVisit contents root deeper) name (contents name) at other)
    (held-unique (IsVisit contents root deeper) (visit-unique contents root deeper) name (contents name) at one other) first second
