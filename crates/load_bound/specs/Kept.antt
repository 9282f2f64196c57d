-- What it means that requests keep to the streams, and that waits are kept on the bus.
use Rattle.std.specs.Prelude.{◌≡◌, ℕ, ◌+◌, ◌≤◌, ◌==◌, Bool, false, List, [], ◌∷◌, ◌++◌, Option, All, IfSome, ⊤}
use Rattle.std.specs.List.{AllZip, Contains, filter}
use Rattle.can_frame.specs.Frame.{FrameFields}
use Rattle.can_frame.specs.declared.Ident.{Ident}
use Rattle.can_frame.specs.declared.Ident.TheVariants.{Std, Ext}
use Rattle.load_bound.specs.declared.stream.Stream.{Stream}
use Rattle.load_bound.specs.Timeline.{FrameAt, Line, next_instant, line_after}

-- ---- requests that keep to the streams

-- whether two identifiers are one
abbrev pub same_ident : Ident → Ident → Bool
same_ident (Std a) (Std b) = a == b
same_ident (Std a) (Ext b) = false
same_ident (Ext a) (Std b) = false
same_ident (Ext a) (Ext b) = a == b

-- those with the identifier of the stream
abbrev pub of_stream : Stream → List FrameAt → List FrameAt
of_stream s frames = filter (λ r. same_ident r.frame.ident s.ident) frames

-- a data frame of the stream, with at most its bytes
pub record IsFrameOf (s : Stream) (f : FrameFields) : Type 0 where
  pub ident : f.ident ≡ s.ident
  pub data_frame : f.remote ≡ false
  pub bytes : f.dlc ≤ s.bytes

-- each comes at least so long after each one before it
abbrev pub ComeApart : ℕ → List FrameAt → Type 0
ComeApart apart [] = ⊤
ComeApart apart (r ∷ rs) = All (λ later. r.moment + apart ≤ later.moment) rs × ComeApart apart rs

-- the requests stand in the order of their moments, each is of a data frame of a stream with at most its
-- bytes, and those of one stream come at least its time apart
pub record KeepStreams (streams : List Stream) (requests : List FrameAt) : Type 0 where
  pub in_order : ComeApart 0 requests
  pub of_streams : All (λ r. (s : Stream) × Contains streams s × IsFrameOf s r.frame) requests
  pub apart : All (λ s. ComeApart s.apart (of_stream s requests)) streams

-- ---- waits that are kept

-- the start is of the requested frame, by the same node, and not later than the wait after the request
pub record BeginsWithin (w : ℕ) (request start : FrameAt) : Type 0 where
  pub node : start.node ≡ request.node
  pub frame : start.frame ≡ request.frame
  pub not_before : request.moment ≤ start.moment
  pub within : start.moment ≤ request.moment + w

-- Of the requests of a stream, the newest first, some may wait, each for at most w up to now; the frames of
-- all earlier ones began, one for one in the same order, each at most w after its request.
pub record AreInTime (w now : ℕ) (made begun : List FrameAt) : Type 0 where
  pub waiting : List FrameAt
  pub served : List FrameAt
  pub parts : made ≡ waiting ++ served
  pub still_in_time : All (λ r. now ≤ r.moment + w) waiting
  pub began_in_time : AllZip (BeginsWithin w) served begun

-- a moment from the line's instant up to the next one; where there is no next one, any from then on
pub record IsDuring (line : Line) (now : ℕ) : Type 0 where
  pub from_instant : line.now ≤ now
  pub up_to_next : IfSome (next_instant line) (λ next. now ≤ next)

-- In the timeline of any requests that keep to the streams, at every moment, the frames of each stream with
-- a given wait are in time: each began at most that wait after its request, or has not waited longer.
abbrev pub WaitsAreKept : ℕ → List Stream → List (Option ℕ) → Type 0
WaitsAreKept bit streams waits =
    (requests : List FrameAt) (instants now : ℕ) → KeepStreams streams requests
    → let line = line_after bit requests instants in
    IsDuring line now
    → AllZip (λ s wait. IfSome wait (λ w. AreInTime w now (of_stream s line.made) (of_stream s line.begun)))
    streams waits
