-- There are as many lows as streams.
use Rattle.load_bound.specs.Inside.Starts.{IsLow}
use Rattle.load_bound.proofs.PairLemmas.{zip_length}
use Rattle.load_bound.proofs.found.own_wait.Goals as goal

pub start_of-requires-clause-as_many : goal.start_of-requires-clause-as_many
start_of-requires-clause-as_many c = zip_length (IsLow c.args.bit c.args.streams.now) c.args.streams.now c.args.lows.now c.requires.lows
