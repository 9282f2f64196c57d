-- The number of a node's next request.
use Rattle.std.specs.Prelude.{ℕ, ◌+◌, ◌==◌, if◌then◌else◌, List, Option}
use Rattle.can_bus.specs.declared.waiting.Waiting.{Waiting}
use Rattle.can_bus.specs.declared.transmission.Transmission.{Transmission}
use Rattle.can_bus.specs.Bus.{last_number}
use Rattle.can_bus.specs.Ranks.{rank_in}

-- the number behind a request's own, or behind its rank where its own is the last
abbrev pub following_number : List Waiting → Option Transmission → ℕ → ℕ → ℕ
following_number rs wire node number =
    (if number == last_number then rank_in rs wire node number else number) + 1
