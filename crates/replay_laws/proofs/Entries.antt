-- Frames with their moments, and the entries of a log with their stamps.
use Rattle.std.proofs.Common.{◌≡◌, ℕ, ◌+◌, ◌-◌, ◌*◌, ◌/◌, ◌%◌, ◌≤◌, List, [], ◌∷◌, ◌++◌, map, max, refl, sym, ap, ◌∙◌, arith, append-nil}
use Rattle.std.specs.Prelude.{All, Option, None, Some}
use Rattle.std.proofs.lemmas.List.{map-append}
use Rattle.std.proofs.lemmas.List.Concat.{flat_map-append}
use Rattle.std.proofs.lemmas.List.Elements.{All-nil, All-cons, All-head, All-tail, All-map, All-weaker}
use Rattle.can_bus.specs.declared.bus.Ended.{Ended}
use Rattle.log_line.specs.Written.{IsLoggable, log_line}
use Rattle.log_line.specs.declared.line.Entry.{Entry}
use Rattle.replay_node.specs.Replay.{per_second, requests_from, stamp_of, start_of}
use Rattle.replay_node.specs.Spaced.{IsSpaced, IsSpacedLog, lines_written}
use Rattle.replay_node.specs.declared.replay.Request.{Request}
use Rattle.run_records.specs.declared.record.Noted.{Noted}
use Rattle.node_rounds.specs.Effects.{line_entries}
use Rattle.node_rounds.specs.Round.{Task}
use Rattle.run_meaning.specs.Steps.{tasks_in_order, picks_after, ended_steps, entries, round_steps, step_entries, steps, task_done, task_steps}
use Rattle.run_meaning.specs.Run.{Passed}
use Rattle.replay_laws.specs.Log.{line_of, log_of}
use Rattle.replay_laws.proofs.Instants.{Logged, AreSpaced, logged_at}
use Rattle.replay_laws.proofs.Projection.{frames_in}
use Rattle.replay_laws.proofs.Replaying.{replayed}

-- ---- the log of a run has the entries of its frames

module _ (interface : ℕ → List ℕ) (epoch : ℕ) where
  -- the entry of a frame that ended
  abbrev pub entry_of : Logged → Entry
  entry_of l = record { seconds = epoch + l.moment / per_second; micros = l.moment % per_second; interface = interface l.frame.can; frame = l.frame }

  -- texts have no lines
  no_lines : (now node : ℕ) (lines : List (List ℕ)) → log_of interface epoch (line_entries now node lines) ≡ []
  no_lines now node [] = refl
  no_lines now node (line ∷ lines) = no_lines now node lines

  log-append : (xs ys : List Noted) → log_of interface epoch (xs ++ ys) ≡ log_of interface epoch xs ++ log_of interface epoch ys
  log-append xs ys = flat_map-append (line_of interface epoch) xs ys

  of_tasks : (now : ℕ) (tasks : List (ℕ × Task)) → log_of interface epoch (entries (map (λ one. task_done now one.0 one.1) tasks)) ≡ []
  of_tasks now [] = refl
  of_tasks now (one ∷ tasks) =
      log-append (line_entries now one.0 (one.1).lines) (entries (map (λ other. task_done now other.0 other.1) tasks))
      ∙ ap (λ l. l ++ log_of interface epoch (entries (map (λ other. task_done now other.0 other.1) tasks))) (no_lines now one.0 (one.1).lines) ∙ of_tasks now tasks

  of_ended : (now : ℕ) (e : Option Ended) → log_of interface epoch (entries (ended_steps now e)) ≡ lines_written (map entry_of (logged_at now e))
  of_ended now None = refl
  of_ended now (Some e) = refl

  of_round : (passed : Passed) (picks : List ℕ) → log_of interface epoch (entries (round_steps passed picks)) ≡ lines_written (map entry_of (logged_at passed.moment passed.ended))
  of_round passed picks =
      let first = ended_steps passed.moment passed.ended in
      let rest = task_steps passed.moment passed.tasks picks in
      ap (log_of interface epoch) (flat_map-append step_entries first rest) ∙ log-append (entries first) (entries rest)
      ∙ ap (λ l. log_of interface epoch (entries first) ++ l) (of_tasks passed.moment (tasks_in_order passed.tasks picks)) ∙ append-nil (log_of interface epoch (entries first)) ∙ of_ended passed.moment passed.ended

  -- the log of the steps of rounds
  pub log_of_rounds : (rounds : List Passed) (picks : List ℕ) → log_of interface epoch (entries (steps rounds picks)) ≡ lines_written (map entry_of (frames_in rounds))
  log_of_rounds [] picks = refl
  log_of_rounds (passed ∷ rounds) picks =
      let first = round_steps passed picks in
      let rest = steps rounds (picks_after passed.tasks picks) in
      let one = logged_at passed.moment passed.ended in
      ap (log_of interface epoch) (flat_map-append step_entries first rest) ∙ log-append (entries first) (entries rest)
      ∙ ap (λ l. l ++ log_of interface epoch (entries rest)) (of_round passed picks) ∙ ap (λ l. lines_written (map entry_of one) ++ l) (log_of_rounds rounds (picks_after passed.tasks picks))
      ∙ sym (flat_map-append (λ (e : Entry). log_line e.seconds e.micros e.interface e.frame) (map entry_of one) (map entry_of (frames_in rounds))) ∙ ap lines_written (sym (map-append entry_of one (frames_in rounds)))

-- ---- from moments to stamps

-- a moment as seconds and microseconds
stamp_is : (epoch moment : ℕ) → (epoch + moment / 1000000) * 1000000 + moment % 1000000 ≡ epoch * 1000000 + moment
stamp_is epoch moment = omega arith

micros_below : (moment : ℕ) → moment % 1000000 + 1 ≤ 1000000
micros_below moment = omega arith

module _ (interface : ℕ → List ℕ) (bit epoch until : ℕ) where
  spaced_entries : (from low : ℕ) (ls : List Logged) → low ≡ epoch * per_second + from → AreSpaced bit until from ls → IsSpaced bit (epoch * per_second + until) low (map (entry_of interface epoch) ls)
  spaced_entries from low [] is spaced = tt
  spaced_entries from low (l ∷ ls) is spaced =
      let stamp : stamp_of (entry_of interface epoch l) ≡ epoch * 1000000 + l.moment = stamp_is epoch l.moment in
      let first = spaced.0 in
      let inside = spaced.1 in (
        omega (arith, stamp, is, first),
        omega (arith, stamp, inside),
        spaced_entries (l.moment + 3 * bit) (stamp_of (entry_of interface epoch l) + 3 * bit) ls (omega (arith, stamp)) spaced.2,
      )

  -- frames that left the wire up to the end moment, well spaced, make a well spaced log
  pub spaced_log : (ls : List Logged) → AreSpaced bit until 0 ls → All (λ l. IsLoggable l.frame) ls → IsSpacedLog (interface 1) bit epoch until (lines_written (map (entry_of interface epoch) ls))
  spaced_log ls spaced loggable = record {
    entries = map (entry_of interface epoch) ls;
    are = refl;
    on_interface = All-map (λ (e : Entry). e.interface ≡ interface 1) (entry_of interface epoch) ls
        (All-weaker (λ (l : Logged). IsLoggable l.frame) (λ (l : Logged). interface l.frame.can ≡ interface 1) (λ l is. ap interface is.channel) ls loggable);
    micros = All-map (λ (e : Entry). e.micros + 1 ≤ per_second) (entry_of interface epoch) ls (λ k d within. micros_below _);
    loggable = All-map (λ (e : Entry). IsLoggable e.frame) (entry_of interface epoch) ls loggable;
    spaced = spaced_entries 0 (epoch * per_second) ls (omega arith) spaced;
  }

-- ---- from stamps to moments

-- a frame with the moment at which its entry says that it ended
abbrev pub frame_of : ℕ → Entry → Logged
frame_of epoch e = record { moment = stamp_of e - epoch * per_second; frame = e.frame }

seconds_are : (epoch seconds micros : ℕ) → micros + 1 ≤ 1000000 → epoch * 1000000 ≤ seconds * 1000000 + micros → epoch + (seconds * 1000000 + micros - epoch * 1000000) / 1000000 ≡ seconds
seconds_are epoch seconds micros below low = omega arith

micros_are : (epoch seconds micros : ℕ) → micros + 1 ≤ 1000000 → epoch * 1000000 ≤ seconds * 1000000 + micros → (seconds * 1000000 + micros - epoch * 1000000) % 1000000 ≡ micros
micros_are epoch seconds micros below low = omega arith

module _ (bit epoch until : ℕ) where
  -- the requests of entries are those of their frames
  pub requests_are : (before : ℕ) (es : List Entry) → requests_from bit epoch before es ≡ replayed bit before (map (frame_of epoch) es)
  requests_are before [] = refl
  requests_are before (e ∷ es) =
      let at = max before (start_of bit epoch e) in ap (λ (rs : List Request). record { at = at; frame = e.frame } ∷ rs) (requests_are at es)

  spaced_from : (from low : ℕ) (es : List Entry) → low ≡ epoch * per_second + from → IsSpaced bit (epoch * per_second + until) low es → AreSpaced bit until from (map (frame_of epoch) es)
  spaced_from from low [] is spaced = tt
  spaced_from from low (e ∷ es) is spaced =
      let first = spaced.0 in
      let inside = spaced.1 in
      let start : epoch * 1000000 ≤ stamp_of e = omega (arith, first, is) in (
        omega (arith, first, is),
        omega (arith, inside),
        spaced_from (stamp_of e - epoch * per_second + 3 * bit) (stamp_of e + 3 * bit) es (omega (arith, start)) spaced.2,
      )

  -- the frames of a well spaced log are well spaced
  pub spaced_frames : (es : List Entry) → IsSpaced bit (epoch * per_second + until) (epoch * per_second) es → AreSpaced bit until 0 (map (frame_of epoch) es)
  spaced_frames es spaced = spaced_from 0 (epoch * per_second) es (omega arith) spaced

  -- each of its stamps stands between its epoch and its end
  pub stamps_within : (low : ℕ) (es : List Entry) → epoch * per_second ≤ low → IsSpaced bit (epoch * per_second + until) low es
      → All (λ e. (epoch * per_second ≤ stamp_of e) × (stamp_of e ≤ epoch * per_second + until)) es
  stamps_within low [] reached spaced = All-nil _
  stamps_within low (e ∷ es) reached spaced =
      let first = spaced.0 in
      let inside = spaced.1 in
      All-cons (λ (x : Entry). (epoch * per_second ≤ stamp_of x) × (stamp_of x ≤ epoch * per_second + until)) e es (omega (arith, reached, first), inside)
      (stamps_within (stamp_of e + 3 * bit) es (omega (arith, reached, first)) spaced.2)

-- what an entry of a well spaced log is
pub record IsWithin (name : List ℕ) (epoch until : ℕ) (e : Entry) : Type 0 where
  pub interface : e.interface ≡ name
  pub micros : e.micros + 1 ≤ per_second
  pub loggable : IsLoggable e.frame
  pub low : epoch * per_second ≤ stamp_of e
  pub inside : stamp_of e ≤ epoch * per_second + until

-- so are they all
pub all_within : (name : List ℕ) (bit epoch until : ℕ) (log : List ℕ) (spaced : IsSpacedLog name bit epoch until log) → All (IsWithin name epoch until) spaced.entries
all_within name bit epoch until log spaced k d within =
    let stamps = stamps_within bit epoch until (epoch * per_second) spaced.entries (omega arith) spaced.spaced k d within in
    record { interface = spaced.on_interface k d within; micros = spaced.micros k d within; loggable = spaced.loggable k d within; low = stamps.0; inside = stamps.1 }

-- the entry of its frame is the entry
same_entry : (interface : ℕ → List ℕ) (epoch until : ℕ) (e : Entry) → IsWithin (interface 1) epoch until e → entry_of interface epoch (frame_of epoch e) ≡ e
same_entry interface epoch until e is =
    let seconds = seconds_are epoch e.seconds e.micros is.micros is.low in
    let micros = micros_are epoch e.seconds e.micros is.micros is.low in
    let name : interface e.frame.can ≡ e.interface = ap interface (is.loggable).channel ∙ sym is.interface in
    λ i. record { seconds = seconds i; micros = micros i; interface = name i; frame = e.frame }

-- and so are they all
pub same_entries : (interface : ℕ → List ℕ) (epoch until : ℕ) (es : List Entry) → All (IsWithin (interface 1) epoch until) es → map (entry_of interface epoch) (map (frame_of epoch) es) ≡ es
same_entries interface epoch until [] all = refl
same_entries interface epoch until (e ∷ es) all =
    ap (λ x. x ∷ map (entry_of interface epoch) (map (frame_of epoch) es)) (same_entry interface epoch until e (All-head (IsWithin (interface 1) epoch until) e es all))
    ∙ ap (λ l. e ∷ l) (same_entries interface epoch until es (All-tail (IsWithin (interface 1) epoch until) e es all))
