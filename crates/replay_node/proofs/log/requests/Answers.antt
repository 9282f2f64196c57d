-- What holds of every replay.
use Rattle.std.specs.Prelude.{All}
use Rattle.std.specs.List.Sorted.{IsNonDecreasingBy}
use Rattle.log_line.specs.Written.{IsLoggable}
use Rattle.replay_node.specs.Replay.{IsReplay}
use Rattle.replay_node.proofs.RequestLemmas.{by_moment, frames_loggable, if_ok}
use Rattle.replay_node.proofs.log.requests.Goals as goal

pub returns-clause-by_moment : goal.returns-clause-by_moment
returns-clause-by_moment c =
    let a = c.args in
    if_ok c.read_lines.result (IsReplay a.log.now a.interface.now a.bit a.epoch) (λ replay. IsNonDecreasingBy (λ request. request.at) replay.list)
    (by_moment a.log.now a.interface.now a.bit a.epoch) c.read_lines.ensures.replay

pub returns-clause-frames : goal.returns-clause-frames
returns-clause-frames c =
    let a = c.args in
    if_ok c.read_lines.result (IsReplay a.log.now a.interface.now a.bit a.epoch) (λ replay. All (λ request. IsLoggable request.frame) replay.list)
    (frames_loggable c.read_frames_are_loggable.ensures a.log.now a.interface.now a.bit a.epoch) c.read_lines.ensures.replay
