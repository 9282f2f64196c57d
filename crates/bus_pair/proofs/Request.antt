-- A request leaves a sound pair, whether there was memory for it or not.
use Rattle.std.proofs.Common.{◌≡◌, ℕ, sym, subst}
use Rattle.std.specs.Prelude.{Result, Ok, Err, OnOk, OnErr}
use Rattle.can_frame.specs.Frame.{FrameFields}
use Rattle.can_bus.specs.Bus.{BusState, after_request}
use Rattle.channel_pair.specs.Pair.{PairState, IsSoundPair}
use Rattle.channel_pair.proofs.SoundStays.{sound_request-one, sound_request-two}

either_way : {A B : Type 0} (P : BusState → Type 0) (old after new : BusState) (r : Result A B) → OnOk r (new ≡ after) → OnErr r (new ≡ old) → P old → P after → P new
either_way P old after new (Ok x) ok err h g = subst P (sym ok) g
either_way P old after new (Err x) ok err h g = subst P (sym err) h

-- of a frame of channel 1
pub sound-one : {A B : Type 0} (s : PairState) (new : BusState) (node : ℕ) (f : FrameFields) (r : Result A B)
    → OnOk r (new ≡ after_request s.one node f) → OnErr r (new ≡ s.one) → IsSoundPair s → IsSoundPair (record s { one = new })
sound-one s new node f r ok err h =
    either_way (λ t. IsSoundPair (record s { one = t })) s.one (after_request s.one node f) new r ok err h (sound_request-one s node f h)

-- of a frame of channel 2
pub sound-two : {A B : Type 0} (s : PairState) (new : BusState) (node : ℕ) (f : FrameFields) (r : Result A B)
    → OnOk r (new ≡ after_request s.two node f) → OnErr r (new ≡ s.two) → IsSoundPair s → IsSoundPair (record s { two = new })
sound-two s new node f r ok err h =
    either_way (λ t. IsSoundPair (record s { two = t })) s.two (after_request s.two node f) new r ok err h (sound_request-two s node f h)
