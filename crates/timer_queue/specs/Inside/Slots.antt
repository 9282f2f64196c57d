-- Slots for settings, and the place of each timer's slot.
use Rattle.std.specs.Prelude.{◌≡◌, ℕ, ◌<◌, ◌≤◌, Bool, true, false, List, Option, Some, None, is_some, count_by}
use Rattle.std.specs.List.{filter_map, slice_index_or}
use Rattle.std.specs.Option.{option_map_or}
use Rattle.timer_queue.specs.declared.setting.Setting.{Setting}
use Rattle.timer_queue.specs.declared.minima.TheConstants.{NEVER}
use Rattle.timer_queue.specs.Timers.{is_of}

-- slots, each empty or with a setting, of so many timers
pub record SlotList : Type 0 where
  pub timers : ℕ
  pub slots : List (Option Setting)

-- the settings in slots, in their order
abbrev pub settings_in : List (Option Setting) → List Setting
settings_in slots = filter_map (λ slot. slot) slots

-- the slot at a place; past the last one it is empty
abbrev pub slot_at : List (Option Setting) → ℕ → Option Setting
slot_at slots place = slice_index_or slots place None

-- whether a slot has the timer's setting
abbrev pub has : ℕ → Option Setting → Bool
has timer slot = option_map_or (is_of timer) slot false

-- no slot has the timer's setting
abbrev pub HasNone : List (Option Setting) → ℕ → Type 0
HasNone slots timer = (place : ℕ) → has timer (slot_at slots place) ≡ false

-- the slot at the place, and no other, has the timer's setting
pub record IsPlaceOf (slots : List (Option Setting)) (timer place : ℕ) : Type 0 where
  pub held : has timer (slot_at slots place) ≡ true
  pub only : (other : ℕ) → has timer (slot_at slots other) ≡ true → other ≡ place

-- each setting's timer has the place of its slot, and each timer's place is that of its setting
pub record IsLinked (slots : List (Option Setting)) (places : List (Option ℕ)) : Type 0 where
  pub found : (place : ℕ) (setting : Setting) → slot_at slots place ≡ Some setting
      → slice_index_or places setting.timer None ≡ Some place
  pub held : (timer place : ℕ) → slice_index_or places timer None ≡ Some place
      → has timer (slot_at slots place) ≡ true

-- the due moment in a slot, and the greatest moment in an empty one
abbrev pub moment_of : Option Setting → ℕ
moment_of slot = option_map_or (λ setting. setting.due) slot NEVER

-- the moments are those in the slots
pub record AreMoments (slots : List (Option Setting)) (moments : List ℕ) : Type 0 where
  pub same : (place : ℕ) → slice_index_or moments place NEVER ≡ moment_of (slot_at slots place)
  pub in_range : (place : ℕ) → moment_of (slot_at slots place) ≤ NEVER

-- so many slots have a setting, as many as timers have a place
pub record IsFilled (slots : List (Option Setting)) (places : List (Option ℕ)) (filled : ℕ) : Type 0 where
  pub in_slots : count_by is_some slots ≡ filled
  pub in_places : count_by is_some places ≡ filled

-- the slots before the place have settings, and those from there on up to the end are empty
pub record IsPacked (slots : List (Option Setting)) (filled end : ℕ) : Type 0 where
  pub within : filled ≤ end
  pub settings : (place : ℕ) → place < filled → is_some (slot_at slots place) ≡ true
  pub empty : (place : ℕ) → filled ≤ place → place < end → slot_at slots place ≡ None
