-- The values of system variables, and notes of what they become when a round ends. When a new value is seen,
-- and which of several stands, is this project's own.
use Rattle.std.specs.Prelude.{◌≡◌, ℕ, Bool, false, if◌then◌else◌, List, [], ◌∷◌, length, map, replicate, All, slice_index_or, slice_set, Option, Some, None, is_some, unwrap_or, ℤ, pos}
use Rattle.std.specs.Option.{ForSome}
use Rattle.std.specs.Ordering.{int_eq}
use Rattle.sys_vars.specs.declared.item.SysItem.{SysItem}
use Rattle.sys_vars.specs.Name.{IsLong}

-- of each variable, in order: its value, the note of its next value, and whether the last merge had a note
pub record Shared : Type 0 where
  pub values : List ℤ
  pub notes : List (Option ℤ)
  pub changed : List Bool

-- as many notes and marks as values, and all numbers are longs
pub record IsShared (shared : Shared) : Type 0 where
  pub notes : length shared.notes ≡ length shared.values
  pub changed : length shared.changed ≡ length shared.values
  pub longs : All IsLong shared.values
  pub noted_longs : All (λ note. ForSome note IsLong) shared.notes

-- the values of the items, without a note
abbrev pub shared_by : List SysItem → Shared
shared_by items = record {
  values = map (λ item. item.value) items;
  notes = map (λ item. None) items;
  changed = map (λ item. false) items;
}

-- the value of the variable of this number
abbrev pub value_at : Shared → ℕ → ℤ
value_at shared number = slice_index_or shared.values number (pos 0)

-- what is left of an offer: a value that differs from the variable's is its note, in place of an earlier one
abbrev pub offered : Shared → ℕ → ℤ → Shared
offered shared number value =
    if int_eq value (value_at shared number) then shared
    else record shared { notes = slice_set shared.notes number (Some value) }

-- the values, each with its note in its place where it has one
abbrev pub noted : List ℤ → List (Option ℤ) → List ℤ
noted [] notes = []
noted (value ∷ values) [] = value ∷ values
noted (value ∷ values) (note ∷ notes) = unwrap_or note value ∷ noted values notes

-- what is left of a merge: the notes are the values, and no note is left
abbrev pub merged : Shared → Shared
merged shared = record {
  values = noted shared.values shared.notes;
  notes = replicate (length shared.notes) None;
  changed = map is_some shared.notes;
}
