-- What comes of an include, as a step of its own.
use Rattle.std.specs.Prelude.{◌≡◌, ℕ, Bool, List, MatchBool, if◌then◌else◌}
use Rattle.std.specs.List.{list_any}
use Rattle.std.specs.Str.{bytes_eq}
use Rattle.texts.specs.declared.blame.Blame.{Blame}
use Rattle.texts.specs.Rule.{source_rule}
use Rattle.capl_include.specs.Blame.{place_blame}
use Rattle.capl_include.specs.Expansion.{included_name, is_included_name, Expansion, Outcome, Include, Stopped, Visits, GoesOn}

-- whether a file of this name was met
abbrev pub has_met : List (List ℕ) → List ℕ → Bool
has_met met name = list_any (λ other. bytes_eq other name) met

-- what comes of an include: a blame, nothing, or the visit of a file
pub data Inclusion : Type 0 where
  Refused : Blame → Inclusion
  Passed : Inclusion
  Visited : List ℕ → Inclusion

-- a name that is none is refused, a file that was met is passed over, and another one is visited
abbrev pub step_of : List ℕ → Include → List (List ℕ) → Inclusion
step_of naming include met =
    let name = included_name naming include.own in
    if is_included_name include.own name then (if has_met met name then Passed else Visited name)
    else Refused (place_blame naming include.line include.column (source_rule 8))

-- an include whose name is one goes so, and this holds from there: a file that was met is passed over, and
-- another one is visited
abbrev pub GoesPast : Visits → Bool → List ℕ → Expansion → Outcome → (Expansion → Type 0) → Type 0
GoesPast IsVisited before name at outcome Rest =
    MatchBool before (Rest at) ((after : Outcome) × IsVisited name at after × GoesOn after outcome Rest)

-- a step goes so, and this holds from there
abbrev pub GoesBy : Visits → Inclusion → Expansion → Outcome → (Expansion → Type 0) → Type 0
GoesBy IsVisited (Refused blame) at outcome Rest = outcome ≡ Stopped blame
GoesBy IsVisited Passed at outcome Rest = Rest at
GoesBy IsVisited (Visited name) at outcome Rest =
    (after : Outcome) × IsVisited name at after × GoesOn after outcome Rest
