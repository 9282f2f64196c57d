-- How the parts of a bus are stored as data.
use Rattle.std.specs.Prelude.{ℕ, refl}
use Rattle.std.specs.Coded.{Coded, code_by, coded×, coded_ℕ, coded_option}
use Rattle.std.specs.FinMap as map
use Rattle.can_frame.specs.Frame.{FrameFields}
use Rattle.can_frame.specs.Codes.{frame_code}
use Rattle.can_bus.specs.declared.waiting.Waiting.{Waiting}
use Rattle.can_bus.specs.declared.transmission.Transmission.{Transmission}
use Rattle.can_bus.specs.Bus.{BusState}

-- a request is stored as its node, its number and its frame
abbrev pub request_code : Coded Waiting
request_code =
    code_by (ℕ × (ℕ × FrameFields)) (coded× coded_ℕ (coded× coded_ℕ frame_code))
    (λ r. (r.node, (r.number, r.frame)))
    (λ p. record { node = p.0; number = p.1.0; frame = p.1.1 })
    (λ _. refl)

-- what is on the wire is stored as its request and its end
abbrev pub transmission_code : Coded Transmission
transmission_code =
    code_by (Waiting × ℕ) (coded× request_code coded_ℕ)
    (λ t. (t.request, t.end))
    (λ p. record { request = p.0; end = p.1 })
    (λ _. refl)

-- a bus is stored as its parts
abbrev pub bus_code : Coded BusState
bus_code =
    code_by _
    (coded× (map.code (coded× coded_ℕ coded_ℕ) frame_code)
    (coded× (coded_option transmission_code) (coded× coded_ℕ (coded× (map.code coded_ℕ coded_ℕ) coded_ℕ))))
    (λ s. (s.waiting, (s.wire, (s.free, (s.next, s.bit)))))
    (λ p. record { waiting = p.0; wire = p.1.0; free = p.1.1.0; next = p.1.1.1.0; bit = p.1.1.1.1 })
    (λ _. refl)
