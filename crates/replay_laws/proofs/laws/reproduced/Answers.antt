-- The log reads as its entries, its replay asks for their frames, and the bus of the run logs them again.
use Rattle.std.proofs.Common.{◌≡◌, List, map, sym, ap, subst, ◌∙◌}
use Rattle.std.specs.Prelude.{All}
use Rattle.std.proofs.lemmas.List.Elements.{All-weaker}
use Rattle.can_bus.specs.Bus.{new_bus}
use Rattle.replay_node.specs.Replay.{LogReads, entries_on, requests_from}
use Rattle.replay_node.specs.Spaced.{lines_written}
use Rattle.replay_node.specs.declared.replay.Request.{Request}
use Rattle.replay_laws.proofs.Entries.{IsWithin, all_within, entry_of, frame_of, log_of_rounds, requests_are, same_entries, spaced_frames}
use Rattle.replay_laws.proofs.Projection.{frames_in}
use Rattle.replay_laws.proofs.Reading.{CanRead, can_read, log_reads}
use Rattle.replay_laws.proofs.Replaying.{AreReplays, logged_again, replayed}
use Rattle.replay_laws.proofs.SilentRuns.{run_replayed}
use Rattle.replay_laws.proofs.laws.reproduced.Goals as goal

pub returns : goal.returns
returns g c names bit epoch until log item replay nodes keys rounds after picks timed short small name spaced is epoch_is run tasks =
    let es = spaced.entries in
    let within = all_within (names 1) bit epoch until log spaced in
    let can : All CanRead es = All-weaker (IsWithin (names 1) epoch until) CanRead (λ e one. can_read (names 1) epoch until small short name e one) es within in
    let reads = is.0 in
    let own : entries_on (names 1) reads ≡ es =
    log_reads c.one_reading.ensures c.written_lines_read.ensures (names 1) es reads can spaced.on_interface (subst (λ text. LogReads text reads) spaced.are is.1) in
    let list : replay.list ≡ replayed bit 0 (map (frame_of epoch) es) =
    (is.2).list_is ∙ ap (λ second. requests_from bit second 0 (entries_on (names 1) reads)) epoch_is ∙ ap (requests_from bit epoch 0) own ∙ requests_are bit epoch until 0 es in
    let seen = run_replayed g.R.Reaction.reacts until bit nodes keys replay.list rounds after run tasks in
    let again = logged_again bit until (map (frame_of epoch) es) seen.instants timed short (spaced_frames bit epoch until es spaced.spaced)
    (subst (λ (rs : List Request). AreReplays until (new_bus bit) rs seen.instants) list seen.replays) in
    let frames : frames_in rounds ≡ map (frame_of epoch) es = sym seen.are ∙ again in
    log_of_rounds names epoch rounds picks ∙ ap (λ ls. lines_written (map (entry_of names epoch) ls)) frames ∙ ap lines_written (same_entries names epoch until es within) ∙ sym spaced.are
