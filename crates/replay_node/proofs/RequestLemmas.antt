-- What holds of the requests of every replay.
use Rattle.std.proofs.Common.{◌≡◌, ℕ, zero, suc, ◌^◌, ◌<◌, ◌≤◌, inl, inr, Bool, true, false, List, [], ◌∷◌, ◌++◌, length, get_or, refl, sym, subst, ◌∙◌, arith, append-nil}
use Rattle.std.specs.Prelude.{All, max, Result, Ok, Err, IfOk}
use Rattle.std.specs.List.{AllZip}
use Rattle.std.specs.List.Sorted.{IsNonDecreasingBy}
use Rattle.std.specs.Str.{bytes_eq}
use Rattle.std.proofs.lemmas.List.Elements.{All-nil, All-cons, All-head, All-tail, All-append}
use Rattle.std.proofs.lemmas.Grind.{flat_map-append}
use Rattle.std.proofs.lemmas.List.Sorted.{IsNonDecreasingBy-short, IsNonDecreasingBy-insert}
use Rattle.text_parts.specs.Line.{text_lines}
use Rattle.log_line.specs.Reading.{Reads}
use Rattle.log_line.specs.Written.{IsLoggable}
use Rattle.log_line.specs.declared.line.Entry as declared
use Rattle.log_line.specs.declared.line.Line.{Line}
use Rattle.log_line.specs.declared.line.Line.TheVariants.{Entry, Skip, Empty}
use Rattle.scenario.specs.Within.{IsEpochWithin}
use Rattle.scenario.specs.declared.scenario.Epoch.{Epoch}
use Rattle.scenario.specs.declared.scenario.Epoch.TheVariants.{At, First}
use Rattle.replay_node.specs.Replay.{LogReads, IsReplay, entries_on, entry_on, epoch_seconds, requests_from, start_of}
use Rattle.replay_node.specs.declared.replay.Replay.{Replay}
use Rattle.replay_node.specs.declared.replay.Request.{Request}

-- ---- moments

-- no request asks before the one in front
not_before : (bit epoch before : ℕ) (entries : List declared.Entry) (k : ℕ) (d : Request) → k < length (requests_from bit epoch before entries) → before ≤ (get_or (requests_from bit epoch before entries) k d).at
not_before bit epoch before [] k d within = absurd (omega (arith, within))
not_before bit epoch before (entry ∷ entries) zero d within = omega arith
not_before bit epoch before (entry ∷ entries) (suc k) d within =
    let later = not_before bit epoch (max before (start_of bit epoch entry)) entries k d (omega (arith, within)) in
    omega (arith, later)

moments_rise : (bit epoch before : ℕ) (entries : List declared.Entry) → IsNonDecreasingBy (λ (r : Request). r.at) (requests_from bit epoch before entries)
moments_rise bit epoch before [] = IsNonDecreasingBy-short (λ (r : Request). r.at) [] (omega arith)
moments_rise bit epoch before (entry ∷ entries) =
    let at : ℕ = max before (start_of bit epoch entry) in
    let rest : List Request = requests_from bit epoch at entries in
    IsNonDecreasingBy-insert (λ (r : Request). r.at) rest 0 (record { at = at; frame = entry.frame }) (moments_rise bit epoch at entries) (omega arith)
    (λ k d none. absurd (omega (arith, none))) (λ k d some within. not_before bit epoch at entries k d within)

-- the moments of a replay do not fall
pub by_moment : (log interface : List ℕ) (bit : ℕ) (epoch : Epoch) (replay : Replay) → IsReplay log interface bit epoch replay → IsNonDecreasingBy (λ (r : Request). r.at) replay.list
by_moment log interface bit epoch replay (readings, reads, is) =
    subst (λ (l : List Request). IsNonDecreasingBy (λ (r : Request). r.at) l) (sym is.list_is) (moments_rise bit replay.epoch 0 (entries_on interface readings))

-- ---- frames

-- a frame that was read can be written
abbrev pub ReadLoggable : Type 0
ReadLoggable = (line : List ℕ) (entry : declared.Entry) → Reads line (Entry entry) → IsLoggable entry.frame

-- the frame of an entry can be written
abbrev HasLoggable : declared.Entry → Type 0
HasLoggable entry = IsLoggable entry.frame

one_loggable : (interface : List ℕ) (entry : declared.Entry) (t : Bool) → bytes_eq entry.interface interface ≡ t → IsLoggable entry.frame → All HasLoggable (entry_on interface (Entry entry))
one_loggable interface entry true same can =
    let here : entry_on interface (Entry entry) ≡ entry ∷ [] = rw same refl in
    subst (All HasLoggable) (sym here) (All-cons HasLoggable entry [] can (All-nil HasLoggable))
one_loggable interface entry false same can =
    let none : entry_on interface (Entry entry) ≡ [] = rw same refl in
    subst (All HasLoggable) (sym none) (All-nil HasLoggable)

line_loggable : ReadLoggable → (interface line : List ℕ) (reading : Line) → Reads line reading → All HasLoggable (entry_on interface reading)
line_loggable can interface line (Entry entry) reads = one_loggable interface entry (bytes_eq entry.interface interface) refl (can line entry reads)
line_loggable can interface line Skip reads = All-nil HasLoggable
line_loggable can interface line Empty reads = All-nil HasLoggable

lines_loggable : ReadLoggable → (interface : List ℕ) (lines : List (List ℕ)) (readings : List Line) → AllZip Reads lines readings → All HasLoggable (entries_on interface readings)
lines_loggable can interface [] [] read = All-nil HasLoggable
lines_loggable can interface [] (x ∷ readings) read = absurd read
lines_loggable can interface (line ∷ lines) [] read = absurd read
lines_loggable can interface (line ∷ lines) (x ∷ readings) read =
    All-append HasLoggable (entry_on interface x) (entries_on interface readings) (line_loggable can interface line x read.0) (lines_loggable can interface lines readings read.1)

with_end : (interface : List ℕ) (readings : List Line) → All HasLoggable (entries_on interface readings) → All HasLoggable (entries_on interface (readings ++ Skip ∷ []))
with_end interface readings all = subst (All HasLoggable) (sym (flat_map-append (entry_on interface) readings (Skip ∷ []) ∙ append-nil (entries_on interface readings))) all

log_loggable : ReadLoggable → (log interface : List ℕ) (readings : List Line) → LogReads log readings → All HasLoggable (entries_on interface readings)
log_loggable can log interface readings (inl read) = lines_loggable can interface (text_lines log) readings read
log_loggable can log interface readings (inr (before, ends, end)) =
    subst (λ (r : List Line). All HasLoggable (entries_on interface r)) (sym end) (with_end interface before (lines_loggable can interface ends.lines before ends.read))

-- the frame of a request can be written
abbrev AsksLoggable : Request → Type 0
AsksLoggable request = IsLoggable request.frame

requests_loggable : (bit epoch before : ℕ) (entries : List declared.Entry) → All HasLoggable entries → All AsksLoggable (requests_from bit epoch before entries)
requests_loggable bit epoch before [] all = All-nil AsksLoggable
requests_loggable bit epoch before (entry ∷ entries) all =
    All-cons AsksLoggable (record { at = max before (start_of bit epoch entry); frame = entry.frame }) (requests_from bit epoch (max before (start_of bit epoch entry)) entries)
    (All-head HasLoggable entry entries all) (requests_loggable bit epoch (max before (start_of bit epoch entry)) entries (All-tail HasLoggable entry entries all))

-- the frames of a replay can be written
pub frames_loggable : ReadLoggable → (log interface : List ℕ) (bit : ℕ) (epoch : Epoch) (replay : Replay) → IsReplay log interface bit epoch replay → All AsksLoggable replay.list
frames_loggable can log interface bit epoch replay (readings, reads, is) =
    subst (All AsksLoggable) (sym is.list_is) (requests_loggable bit replay.epoch 0 (entries_on interface readings) (log_loggable can log interface readings reads))

-- ---- the epoch

epoch_below : (epoch : Epoch) (entries : List declared.Entry) → IsEpochWithin epoch → epoch_seconds epoch entries < 2 ^ 32
epoch_below (At seconds) entries within = omega (arith, within)
epoch_below First [] within = omega arith
epoch_below First (entry ∷ entries) within = omega arith

-- the epoch of a replay is a number of 32 bits
pub replay_epoch_below : (log interface : List ℕ) (bit : ℕ) (epoch : Epoch) (replay : Replay) → IsReplay log interface bit epoch replay → IsEpochWithin epoch → replay.epoch < 2 ^ 32
replay_epoch_below log interface bit epoch replay (readings, reads, is) within =
    let below = epoch_below epoch (entries_on interface readings) within in
    let same = is.epoch_is in
    omega (arith, below, same)

-- what follows where there is an answer
pub if_ok : {T E : Type 0} (result : Result T E) (P Q : T → Type 0) → ((found : T) → P found → Q found) → IfOk result P → IfOk result Q
if_ok (Ok found) P Q so is = so found is
if_ok (Err refusal) P Q so is = tt
