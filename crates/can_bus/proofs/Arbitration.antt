-- What is due next, and what arbitration makes of a bus.
use Rattle.std.proofs.Common.{◌≡◌, ℕ, Bool, true, false, cond, refl, ◌∙◌}
use Rattle.std.specs.Prelude.{Option, None, Some}
use Rattle.std.specs.Option.{option_map_or}
use Rattle.std.specs.FinMap.{len}
use Rattle.can_bus.specs.declared.waiting.Waiting.{Waiting}
use Rattle.can_bus.specs.Waiting.{winner}
use Rattle.can_bus.specs.Bus.{time_on_wire, BusState, is_free, with_transmission, after_arbitration}
use Rattle.can_bus.proofs.Winner.{winner-nil}

after_arbitration-by : (s : BusState) (now : ℕ) (free : Bool) (won : Option Waiting) → is_free s now ≡ free → winner s.waiting ≡ won
    → after_arbitration s now ≡ option_map_or (λ r. with_transmission s now (time_on_wire r.frame s.bit) r) (cond free won None) s
after_arbitration-by s now free won is wins =
    λ i. option_map_or (λ r. with_transmission s now (time_on_wire r.frame s.bit) r) (cond (is i) (wins i) None) s

-- where nothing waits, it stays as it is
pub after_arbitration-nothing : (s : BusState) (now : ℕ) → len s.waiting ≡ 0 → after_arbitration s now ≡ s
after_arbitration-nothing s now none =
    after_arbitration-by s now (is_free s now) None refl (winner-nil s.waiting none)
    ∙ elim (is_free s now) as (λ b. option_map_or (λ r. with_transmission s now (time_on_wire r.frame s.bit) r) (cond b None None) s ≡ s) [
      | true ↦ refl
      | false ↦ refl
    ]

-- where the wire is empty and the bus is free, the winner begins
pub after_arbitration-winner : (s : BusState) (now : ℕ) (r : Waiting) → is_free s now ≡ true → winner s.waiting ≡ Some r
    → after_arbitration s now ≡ with_transmission s now (time_on_wire r.frame s.bit) r
after_arbitration-winner s now r ready wins = after_arbitration-by s now true (Some r) ready wins
