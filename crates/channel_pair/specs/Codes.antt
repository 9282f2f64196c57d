-- How a bus of two channels is stored as data.
use Rattle.std.specs.Prelude.{ℕ, refl}
use Rattle.std.specs.Coded.{Coded, code_by, coded×, coded_ℕ, coded_option}
use Rattle.can_frame.specs.Frame.{FrameFields}
use Rattle.can_frame.specs.Codes.{frame_code}
use Rattle.can_bus.specs.declared.bus.Ended.{Ended}
use Rattle.can_bus.specs.Codes.{bus_code}
use Rattle.channel_pair.specs.Pair.{PairState}

-- a frame that ended is stored as its node and the frame
abbrev pub ended_code : Coded Ended
ended_code =
    code_by (ℕ × FrameFields) (coded× coded_ℕ frame_code)
    (λ e. (e.node, e.frame))
    (λ p. record { node = p.0; frame = p.1 })
    (λ _. refl)

-- a pair is stored as its parts
abbrev pub pair_code : Coded PairState
pair_code =
    code_by _ (coded× bus_code (coded× bus_code (coded_option ended_code)))
    (λ s. (s.one, (s.two, s.held)))
    (λ p. record { one = p.0; two = p.1.0; held = p.1.1 })
    (λ _. refl)
