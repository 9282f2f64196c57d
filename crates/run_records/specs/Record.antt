-- What a record of a run is: a state that takes entries, one after another.
use Rattle.std.specs.Prelude.{◌≡◌, ℕ, List, [], ◌∷◌, ◌++◌, Option}
use Rattle.std.specs.Option.{option_map}
use Rattle.texts.specs.Fault.{HasRisen}
use Rattle.run_records.specs.declared.record.Noted.{Noted}

-- what the states of a record mean
pub record RecordMeaning (S : Type 0) : Type 1 where
  -- the entries so far, in order, where the record tells them
  pub entries : S → Option (List Noted)
  -- how many calls failed at what it writes to. At its type's end the count stands still
  pub faults : S → ℕ
  -- how it may stand after it took an entry: before, the entry, after
  pub takes : S → Noted → S → Type 0
  -- how it may stand after it refused an entry: before, the entry, after
  pub refuses : S → Noted → S → Type 0

-- the entries with one more at the end, where they are told
abbrev pub appended : Option (List Noted) → Noted → Option (List Noted)
appended entries noted = option_map (λ earlier. earlier ++ noted ∷ []) entries

-- an entry was taken: it is the last one
pub record TakesEntry {S : Type 0} (meaning : RecordMeaning S) (before : S) (noted : Noted) (after : S) :
    Type 0 where
  pub taken : meaning.takes before noted after
  pub entries : meaning.entries after ≡ appended (meaning.entries before) noted

-- an entry was refused: the entries are as before
pub record RefusesEntry {S : Type 0} (meaning : RecordMeaning S) (before : S) (noted : Noted) (after : S) :
    Type 0 where
  pub refused : meaning.refuses before noted after
  pub entries : meaning.entries after ≡ meaning.entries before

-- the faults of a record have risen
abbrev pub RecordFaultsRise : {S : Type 0} → RecordMeaning S → S → S → Type 0
RecordFaultsRise {S} meaning before after = HasRisen (meaning.faults before) (meaning.faults after)
