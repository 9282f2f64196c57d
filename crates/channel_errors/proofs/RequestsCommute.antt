-- Requests of two different nodes commute: by the plain bus's law, as no request changes a count.
use Rattle.std.proofs.Common.{◌≡◌, ◌≢◌, ℕ, Bool, true, false, cond, refl, sym, ap, ◌∙◌}
use Rattle.can_frame.specs.Frame.{FrameFields}
use Rattle.can_bus.specs.Bus as channel
use Rattle.can_bus.specs.Laws.{RequestsCommute}
use Rattle.can_bus.proofs.RequestsCommute.{RequestsCommute-bus}
use Rattle.channel_errors.specs.Errors.{ErrorState, is_off, is_off_in, after_request, with_errors}

-- the bus after a request, by whether its node is off
abbrev requested_on : Bool → ErrorState → ℕ → FrameFields → ErrorState
requested_on b s node f = cond b s (record s { plain = channel.after_request s.plain node f })

commute : (s : ErrorState) (m n : ℕ) (f g : FrameFields) → m ≢ n → (a b : Bool) → requested_on b (requested_on a s m f) n g ≡ requested_on a (requested_on b s n g) m f
commute s m n f g apart true true = refl
commute s m n f g apart true false = refl
commute s m n f g apart false true = refl
commute s m n f g apart false false = ap (λ t. record s { plain = t }) (RequestsCommute-bus s.plain m n f g apart)

counts_stay : (s : ErrorState) (m : ℕ) (f : FrameFields) (a : Bool) → (requested_on a s m f).counts ≡ s.counts
counts_stay s m f true = refl
counts_stay s m f false = refl

-- no request changes whether a node is off
pub is_off-after_request : (s : ErrorState) (m : ℕ) (f : FrameFields) (node : ℕ) → is_off (after_request s m f) node ≡ is_off s node
is_off-after_request s m f node = ap (λ counts. is_off_in counts node) (counts_stay s m f (is_off s m))

-- the law of the bus with planned errors
pub RequestsCommute-errors : RequestsCommute with_errors
RequestsCommute-errors s m n f g apart =
    ap (λ b. requested_on b (after_request s m f) n g) (is_off-after_request s m f n)
    ∙ commute s m n f g apart (is_off s m) (is_off s n)
    ∙ sym (ap (λ b. requested_on b (after_request s n g) m f) (is_off-after_request s n g m))
