-- What procedures are for, as it is listed, and what tables have of it.
use Rattle.std.specs.Prelude.{◌≡◌, ◌<◌, ℕ, ◌+◌, ◌*◌, Bool, if◌then◌else◌, List, [], ◌∷◌, flat_map, is_some, map, Option, Some, None, ⊤}
use Rattle.std.specs.List.{AllByRecursion, list_any}
use Rattle.texts.specs.Rule.{source_rule}
use Rattle.run_effects.specs.declared.event.Selector.{Selector}
use Rattle.capl_meaning.specs.declared.offence.Offence.{Offence}
use Rattle.capl_meaning.specs.ProcedureRules.{Purpose, ForFrames, ForTimer, ForKey, Told, channels_of, collide, hold_first, hold_second}
use Rattle.check_names.specs.declared.purposes.Purpose.{Purpose as Listed}
use Rattle.check_names.specs.declared.purposes.Purpose.TheVariants as listed
use Rattle.check_names.specs.declared.purposes.Purposes.{Purposes}
use Rattle.check_names.specs.declared.purposes.Telling.{Telling}
use Rattle.check_names.specs.Inside.Covered.{Covers}
use Rattle.check_names.specs.Inside.Ranges.{meet}
use Rattle.check_names.specs.Inside.Table.{numbered}
use Rattle.check_names.specs.Selector.{IsProper}

-- what a procedure is for
abbrev pub purpose_of : Listed → Purpose
purpose_of (listed.Frames chan keys) = ForFrames (channels_of chan) keys
purpose_of (listed.Timer name) = ForTimer name.now
purpose_of (listed.Key key) = ForKey key

-- what is told
abbrev pub told_in : Telling → Told
told_in t = record { file = t.file; token = t.token; purpose = purpose_of t.purpose }

-- all that is told
abbrev pub told_at : List Telling → List Told
told_at tellings = map told_in tellings

-- a selector is proper, and its keys and a key that is pressed are no greater than there are
abbrev pub IsOrdinary : Purpose → Type 0
IsOrdinary (ForFrames channels s) = IsProper s × (s.high < 0x100000000)
IsOrdinary (ForTimer name) = ⊤
IsOrdinary (ForKey key) = ⊤

-- the same of what is listed
abbrev pub IsOrdinaryTelling : Telling → Type 0
IsOrdinaryTelling t = IsOrdinary (purpose_of t.purpose)

-- the number that stands for a selection key of a rank
abbrev pub number_of : ℕ → ℕ → ℕ
number_of rank key = rank * 0x100000000 + key

-- the number that stands for a key that is pressed, or for those that have no procedure
abbrev pub number_of_key : Option ℕ → ℕ
number_of_key None = 0x300000000
number_of_key (Some key) = 0x300000001 + key

-- the numbers that stand for the keys of a selector, by the least and the greatest
abbrev pub numbers_at : Selector → ℕ × ℕ
numbers_at s = (number_of s.rank s.low, number_of s.rank s.high)

-- those of a selector that is on a channel, or none
abbrev pub numbers_where : Bool → Selector → List (ℕ × ℕ)
numbers_where holds s = if holds then numbers_at s ∷ [] else []

-- the numbers that stand for what a procedure is for on the first channel, or by a key
abbrev pub first_numbers : Purpose → List (ℕ × ℕ)
first_numbers (ForFrames channels s) = numbers_where (hold_first channels) s
first_numbers (ForTimer name) = []
first_numbers (ForKey key) = (number_of_key key, number_of_key key) ∷ []

-- the numbers that stand for what a procedure is for on the second channel
abbrev pub second_numbers : Purpose → List (ℕ × ℕ)
second_numbers (ForFrames channels s) = numbers_where (hold_second channels) s
second_numbers (ForTimer name) = []
second_numbers (ForKey key) = []

-- some of these ranges has a number in common with some of those
abbrev pub any_meet : List (ℕ × ℕ) → List (ℕ × ℕ) → Bool
any_meet some all = list_any (λ one. list_any (meet one) all) some

-- two procedures are for the same
abbrev pub same_purpose : Told → Told → Bool
same_purpose a b = collide a.purpose b.purpose

-- E25 where something is told
abbrev pub purpose_offence : Told → Offence
purpose_offence told = record { file = told.file; token = told.token; rule = source_rule 25 }

-- the tables have what was told
pub record Knows (purposes : Purposes) (earlier : List Told) : Type 0 where
  pub first : Covers purposes.first (flat_map (λ told. first_numbers told.purpose) earlier)
  pub second : Covers purposes.second (flat_map (λ told. second_numbers told.purpose) earlier)
  pub timers : (name : List ℕ) → is_some (numbered purposes.timers name)
      ≡ list_any (λ told. collide (ForTimer name) told.purpose) earlier
  pub ordinary : AllByRecursion (λ told. IsOrdinary told.purpose) earlier
