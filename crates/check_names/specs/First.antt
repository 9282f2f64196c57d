-- The first of offences that are noted one after another.
use Rattle.std.specs.Prelude.{◌≡◌, ℕ, ◌==◌, Bool, ◌&&◌, ◌||◌, if◌then◌else◌, nat_le, nat_lt, List, [], ◌∷◌, Option, Some, None}
use Rattle.texts.specs.declared.blame.Rule.{Rule}
use Rattle.capl_meaning.specs.declared.offence.Offence.{Offence}
use Rattle.capl_meaning.specs.Offences.{IsFirst}

-- an offence comes no later than another: by its file, its token and its rule's number
abbrev pub is_no_later : Offence → Offence → Bool
is_no_later a b =
    nat_lt a.file b.file || (a.file == b.file && (nat_lt a.token b.token
    || (a.token == b.token && nat_le a.rule.number b.rule.number)))

-- the earlier of what was noted, if anything was, and one more
abbrev pub earlier : Option Offence → Offence → Offence
earlier None offence = offence
earlier (Some known) offence = if is_no_later known offence then known else offence

-- what is noted once these were noted too
abbrev pub noted : Option Offence → List Offence → Option Offence
noted first [] = first
noted first (offence ∷ offences) = noted (Some (earlier first offence)) offences

-- a rule that is broken at a token of a file, where it is
abbrev pub broken_at : Bool → ℕ → ℕ → Rule → List Offence
broken_at broken file token rule =
    if broken then record { file = file; token = token; rule = rule } ∷ [] else []

-- what was noted is the first of these, or nothing where there are none
abbrev pub IsFirstOf : Option Offence → List Offence → Type 0
IsFirstOf None offences = offences ≡ []
IsFirstOf (Some offence) offences = IsFirst offence offences
