-- The timers of a node and their settings (CAPL manual, setTimer, setTimerCyclic, cancelTimer and
-- isTimerActive).
use Rattle.std.specs.Prelude.{◌≢◌, ℕ, ◌+◌, ◌^◌, ◌<◌, ◌==◌, nat_le, Bool, not, if◌then◌else◌, List, [], ◌∷◌, ◌++◌, Option, Some, None, min, filter, find, map, All, AllPairs, IfSome}
use Rattle.std.specs.List.{list_any, range_with_len}
use Rattle.std.specs.Option.{option_map_or}
use Rattle.timer_queue.specs.declared.setting.Setting.{Setting}

-- timers: how many there are, and the settings of the active ones, the oldest setting first
pub record Timers : Type 0 where
  pub count : ℕ
  pub settings : List Setting

-- so many timers, of which none is active
abbrev pub inactive : ℕ → Timers
inactive count = record { count = count; settings = [] }

-- whether a setting is one of the timer
abbrev pub is_of : ℕ → Setting → Bool
is_of timer setting = setting.timer == timer

-- whether a timer is active: it has a setting
abbrev pub is_active : List Setting → ℕ → Bool
is_active settings timer = list_any (is_of timer) settings

-- for each timer whether it is active
abbrev pub active_timers : Timers → List Bool
active_timers timers = map (is_active timers.settings) (range_with_len 0 timers.count)

-- the settings of all other timers
abbrev pub others : List Setting → ℕ → List Setting
others settings timer = filter (λ setting. not (is_of timer setting)) settings

-- the setting of a timer at a moment for so many microseconds, once or again and again
abbrev pub set_at : ℕ → ℕ → ℕ → Bool → Setting
set_at timer now micros cyclic =
    record { timer = timer; due = now + micros; period = if cyclic then Some micros else None }

-- after a timer was set: the setting is the newest, and the timer's only one
abbrev pub after_set : Timers → ℕ → ℕ → ℕ → Bool → Timers
after_set timers timer now micros cyclic =
    record timers { settings = others timers.settings timer ++ set_at timer now micros cyclic ∷ [] }

-- after a timer was cancelled: it has no setting
abbrev pub after_cancel : Timers → ℕ → Timers
after_cancel timers timer = record timers { settings = others timers.settings timer }

-- whether a setting is due at a moment
abbrev pub is_due : ℕ → Setting → Bool
is_due now setting = nat_le setting.due now

-- of the settings that are due at a moment the oldest
abbrev pub first_due : List Setting → ℕ → Option Setting
first_due settings now = find (is_due now) settings

-- what a setting leaves when it fires: nothing, or where it is cyclic one that is due a period later
abbrev pub again : Setting → List Setting
again setting = option_map_or (λ period. record setting { due = setting.due + period } ∷ []) setting.period []

-- the settings after one fired: the timer has none, or where it is cyclic a new one, which is the newest
abbrev pub after_firing : List Setting → Setting → List Setting
after_firing settings fired = others settings fired.timer ++ again fired

-- after the oldest due setting, if there is one, fired
abbrev pub after_take : Timers → ℕ → Timers
after_take timers now =
    let fired = first_due timers.settings now in
    record timers { settings = option_map_or (after_firing timers.settings) fired timers.settings }

-- the least due moment
abbrev pub least_due : List Setting → Option ℕ
least_due [] = None
least_due (setting ∷ settings) = Some (option_map_or (min setting.due) (least_due settings) setting.due)

-- a period that a timer can be set for: above 0 and below 2^63 microseconds
abbrev pub IsDuration : ℕ → Type 0
IsDuration micros = (0 < micros) × (micros < 2 ^ 63)

-- what settings always are: of timers that are there, of each timer at most one, and each with a duration
-- for its period, if it has one
pub record IsTimers (timers : Timers) : Type 0 where
  pub exist : All (λ setting. setting.timer < timers.count) timers.settings
  pub differ : AllPairs (λ a b. a.timer ≢ b.timer) timers.settings
  pub periods : All (λ setting. IfSome setting.period IsDuration) timers.settings
