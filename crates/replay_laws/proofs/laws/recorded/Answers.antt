-- The frames leave the wire of the run's bus well spaced, and each was asked for.
use Rattle.std.specs.Prelude.{List}
use Rattle.std.proofs.Common.{sym, subst}
use Rattle.log_line.specs.Written.{IsLoggable}
use Rattle.replay_node.specs.Spaced.{IsSpacedLog}
use Rattle.replay_laws.proofs.Entries.{log_of_rounds, spaced_log}
use Rattle.replay_laws.proofs.Projection.{frames_in}
use Rattle.replay_laws.proofs.Instants.{Logged, AreSpaced}
use Rattle.replay_laws.proofs.Seen.{run_seen}
use Rattle.replay_laws.proofs.Sent.{logged_sent}
use Rattle.replay_laws.proofs.Spacing.{logged_spaced}
use Rattle.std.specs.Prelude.{All}
use Rattle.replay_laws.proofs.laws.recorded.Goals as goal

pub returns : goal.returns
returns g c names bit epoch until nodes keys requests rounds after picks run tasks asked =
    let seen = run_seen IsLoggable g.R.Reaction.reacts until bit nodes keys requests rounds after run tasks asked in
    let spaced = subst (λ (ls : List Logged). AreSpaced bit until 0 ls) seen.are (logged_spaced bit until seen.instants seen.in_time) in
    let loggable = subst (λ (ls : List Logged). All (λ l. IsLoggable l.frame) ls) seen.are (logged_sent IsLoggable bit seen.instants seen.asks) in
    subst (IsSpacedLog (names 1) bit epoch until) (sym (log_of_rounds names epoch rounds picks)) (spaced_log names bit epoch until (frames_in rounds) spaced loggable)
