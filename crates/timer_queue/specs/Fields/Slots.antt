-- The fields of `Slots`.
use Rattle.std.specs.Prelude.{◌*◌, ◌≤◌, length, vec_capacity}
use Rattle.timer_queue.specs.declared.slots.Slots.TheInside.{Inside}
use Rattle.timer_queue.specs.Inside.Slots.{SlotList, IsLinked, AreMoments, IsFilled}

-- what contracts see of the fields
abbrev pub slots_of : Inside → SlotList
slots_of s = record { timers = length s.places.items; slots = s.slots.items }

-- places and moments are those of the slots, and there is room for twice as many slots as timers
pub record IsSlots (s : Inside) : Type 0 where
  pub linked : IsLinked s.slots.items s.places.items
  pub moments : AreMoments s.slots.items s.moments
  pub filled : IsFilled s.slots.items s.places.items s.filled
  pub within : length s.slots.items ≤ 2 * length s.places.items
  pub room : 2 * length s.places.items ≤ vec_capacity s.slots
  pub moments_room : 2 * length s.places.items ≤ length s.moments
