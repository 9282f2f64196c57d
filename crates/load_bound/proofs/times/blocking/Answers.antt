-- One more stream.
use Rattle.std.proofs.Common.{◌∙◌, arith}
use Rattle.load_bound.proofs.KeyLemmas.{no_stream}
use Rattle.load_bound.proofs.NumberLemmas.{greatest}
use Rattle.load_bound.proofs.TimeLemmas.{blocking_more}
use Rattle.load_bound.proofs.times.blocking.Goals as goal

pub loop-stream-preserved : goal.loop-stream-preserved
loop-stream-preserved c =
    let more = blocking_more c.args.bit c.args.streams.now c.loop-stream.stream-index no_stream c.loop-stream-test.true in
    let is = c.max-longest.ensures ∙ greatest c.loop-stream.longest c.frame_time.result in
    record {
      greatest = omega arith;
      bounded = omega arith;
    }
