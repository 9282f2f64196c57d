-- The order of streams by the arbitration keys of their data frames.
use Rattle.std.proofs.Common.{◌≡◌, ℕ, false, [], ltb, refl, sym, ◌∙◌}
use Rattle.can_frame.specs.declared.Ident.{Ident}
use Rattle.can_frame.specs.declared.Ident.TheVariants.{Std}
use Rattle.can_frame.specs.Frame.{FrameFields, arbitration_bits, arbitration_key, filled, number_of}
use Rattle.can_bus.proofs.Precedence.{wins-key}
use Rattle.load_bound.specs.declared.stream.Stream.{Stream}
use Rattle.load_bound.specs.Streams.{is_stronger}

-- the arbitration key is that of each frame with the same identifier and RTR bit
pub same_key : (f g : FrameFields) → f.ident ≡ g.ident → f.remote ≡ g.remote → arbitration_key f ≡ arbitration_key g
unfolding arbitration_key
same_key f g e q = λ i. number_of (filled (arbitration_bits (e i) (q i)))

-- a data frame with this identifier
abbrev pub data_frame : Ident → FrameFields
data_frame ident = record { ident = ident; remote = false; dlc = 0; payload = []; can = 1 }

-- k is the arbitration key of data frames with this identifier
abbrev pub IsDataKey : Ident → ℕ → Type 0
IsDataKey ident k = (f : FrameFields) → f.ident ≡ ident → f.remote ≡ false → k ≡ arbitration_key f

-- of two streams the one with the lesser key is stronger
pub stronger_key : (r s : Stream) (k l : ℕ) → IsDataKey r.ident k → IsDataKey s.ident l → ltb k l ≡ is_stronger r s
stronger_key r s k l of_r of_s =
    (λ i. ltb (of_r (data_frame r.ident) refl refl i) (of_s (data_frame s.ident) refl refl i))
    ∙ sym (wins-key (data_frame r.ident) (data_frame s.ident))

-- what stands behind the last stream of a list
abbrev pub no_stream : Stream
no_stream = record { ident = Std 0; bytes = 0; apart = 0 }
