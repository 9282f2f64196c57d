-- How a bus with planned errors is stored as data.
use Rattle.std.specs.Prelude.{refl}
use Rattle.std.specs.Coded.{Coded, code_by, coded×, coded_ℕ, coded_list}
use Rattle.std.specs.FinSet as set
use Rattle.can_bus.specs.Codes.{bus_code}
use Rattle.channel_errors.specs.Errors.{ErrorState}

-- a bus is stored as its parts
abbrev pub errors_code : Coded ErrorState
errors_code =
    code_by _ (coded× bus_code (coded× (set.code coded_ℕ) (coded× coded_ℕ (coded_list coded_ℕ))))
    (λ s. (s.plain, (s.planned, (s.begun, s.counts))))
    (λ p. record { plain = p.0; planned = p.1.0; begun = p.1.1.0; counts = p.1.1.1 })
    (λ _. refl)
