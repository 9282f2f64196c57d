-- What every bus keeps, whatever its calls mean.
use Rattle.std.specs.Prelude.{◌≡◌, ◌≢◌, ℕ, ◌<◌, ◌≤◌, ◌⊎◌, None, IfSome}
use Rattle.can_frame.specs.Frame.{FrameFields}
use Rattle.can_bus.specs.Meaning.{BusMeaning}

-- requests of two different nodes give one state in either order
abbrev pub RequestsCommute : {S : Type 0} → BusMeaning S → Type 0
RequestsCommute {S} bus =
    (s : S) (m n : ℕ) (f g : FrameFields) → m ≢ n
    → bus.after_request (bus.after_request s m f) n g ≡ bus.after_request (bus.after_request s n g) m f

-- each call leaves a sound bus sound
pub record SoundStays {S : Type 0} (bus : BusMeaning S) : Type 0 where
  pub request : (s : S) (node : ℕ) (frame : FrameFields) → bus.sound s
      → bus.sound (bus.after_request s node frame)
  pub finish : (s : S) (now : ℕ) → bus.sound s → bus.sound (bus.after_finish s now)
  pub arbitrate : (s : S) (now : ℕ) → bus.sound s → bus.sound (bus.after_arbitration s now)

-- each call leaves as many nodes as before
pub record NodesStay {S : Type 0} (bus : BusMeaning S) : Type 0 where
  pub request : (s : S) (node : ℕ) (frame : FrameFields)
      → bus.nodes (bus.after_request s node frame) ≡ bus.nodes s
  pub finish : (s : S) (now : ℕ) → bus.nodes (bus.after_finish s now) ≡ bus.nodes s
  pub arbitrate : (s : S) (now : ℕ) → bus.nodes (bus.after_arbitration s now) ≡ bus.nodes s

-- frames come to a bus by requests alone, and what ends was on it
pub record FramesCome {S : Type 0} (bus : BusMeaning S) : Type 0 where
  pub ended : (s : S) (now : ℕ) → IfSome (bus.ended s now) (λ e. bus.carries s e.frame)
  pub request : (s : S) (node : ℕ) (frame other : FrameFields)
      → bus.carries (bus.after_request s node frame) other → (other ≡ frame) ⊎ bus.carries s other
  pub finish : (s : S) (now : ℕ) (frame : FrameFields)
      → bus.carries (bus.after_finish s now) frame → bus.carries s frame
  pub arbitrate : (s : S) (now : ℕ) (frame : FrameFields)
      → bus.carries (bus.after_arbitration s now) frame → bus.carries s frame

-- the second state comes from the first by requests and calls of `finish` at this moment
pub data Follows {S : Type 0} (bus : BusMeaning S) (now : ℕ) (s : S) : S → Type 0 where
  nothing : Follows bus now s s
  request : (t : S) (node : ℕ) (frame : FrameFields) → Follows bus now s t
      → Follows bus now s (bus.after_request t node frame)
  finish : (t : S) → Follows bus now s t → Follows bus now s (bus.after_finish t now)

-- Where nothing was due before now: `finish` now, then any requests and further calls of `finish`
-- now, then `arbitrate` now. What is due next is later than now.
abbrev pub DueLater : {S : Type 0} → BusMeaning S → Type 0
DueLater {S} bus =
    (s t : S) (now : ℕ) → bus.sound s → IfSome (bus.next_moment s) (λ due. now ≤ due)
    → Follows bus now (bus.after_finish s now) t
    → IfSome (bus.next_moment (bus.after_arbitration t now)) (λ due. now < due)

-- Where nothing is due, the first `finish` may be left out.
abbrev pub DueLaterFromNothing : {S : Type 0} → BusMeaning S → Type 0
DueLaterFromNothing {S} bus =
    (s t : S) (now : ℕ) → bus.sound s → bus.next_moment s ≡ None → Follows bus now s t
    → IfSome (bus.next_moment (bus.after_arbitration t now)) (λ due. now < due)
