-- The fields of a `TimerQueue`.
use Rattle.timer_queue.specs.declared.queue.TimerQueue.TheInside.{Inside}
use Rattle.timer_queue.specs.Timers.{Timers, IsTimers}
use Rattle.timer_queue.specs.Inside.Slots.{settings_in}

-- what contracts see of the fields
abbrev pub timers_of : Inside → Timers
timers_of q = record { count = q.slots.timers; settings = settings_in q.slots.slots }

-- the settings are those of timers
abbrev pub IsQueue : Inside → Type 0
IsQueue q = IsTimers (timers_of q)
