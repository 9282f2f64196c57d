-- Requests of two different nodes commute: on one channel by its own law, and on two as neither sees the
-- other.
use Rattle.std.proofs.Common.{◌≡◌, ◌≢◌, ℕ, Bool, true, false, cond, eqb, refl, ap}
use Rattle.can_frame.specs.Frame.{FrameFields}
use Rattle.can_bus.specs.Bus as channel
use Rattle.can_bus.specs.Laws.{RequestsCommute}
use Rattle.can_bus.proofs.RequestsCommute.{RequestsCommute-bus}
use Rattle.channel_pair.specs.Pair.{PairState, two_channels}

-- the pair after a request, by whether its frame is of channel 2
abbrev sent_on : Bool → PairState → ℕ → FrameFields → PairState
sent_on b s node f = cond b (record s { two = channel.after_request s.two node f }) (record s { one = channel.after_request s.one node f })

commute : (s : PairState) (m n : ℕ) (f g : FrameFields) → m ≢ n → (a b : Bool) → sent_on b (sent_on a s m f) n g ≡ sent_on a (sent_on b s n g) m f
commute s m n f g apart true true = ap (λ t. record s { two = t }) (RequestsCommute-bus s.two m n f g apart)
commute s m n f g apart true false = refl
commute s m n f g apart false true = refl
commute s m n f g apart false false = ap (λ t. record s { one = t }) (RequestsCommute-bus s.one m n f g apart)

-- the law of the pair
pub RequestsCommute-pair : RequestsCommute two_channels
RequestsCommute-pair s m n f g apart = commute s m n f g apart (eqb f.can 2) (eqb g.can 2)
