-- Where the second is not there, the pair is not; where one of them takes memory, the pair does.
use Rattle.std.proofs.Common.{rules, ◌≡◌, ◌∙◌, ap, true}
use Rattle.std.specs.Prelude.{◌||◌}
use Rattle.std.proofs.Math.Bool.{or-true}
use Rattle.object_file.proofs.Pairs.{no_second}
use Rattle.object_file.proofs.stored.Tuple2Stored.read.Goals as goal

pub returns-in_err-second-clause-bad : goal.returns-in_err-second-clause-bad
returns-in_err-second-clause-bad g c bad =
    no_second g.A.Stored.spelling g.A.Stored.holds g.A.Stored.at c.complete.ensures g.B.Stored.at c.args.bytes.now
    c.in_ok-first.first c.in_ok-first.rest.now c.in_ok-first.ensures.spelled c.in_ok-first.ensures.holds (search rules)

pub returns-in_err-first-clause-memory : goal.returns-in_err-first-clause-memory
returns-in_err-first-clause-memory g c wants =
    let first : g.A.Stored.allocates ≡ true = search rules in ap (λ takes. takes || g.B.Stored.allocates) first

pub returns-in_err-second-clause-memory : goal.returns-in_err-second-clause-memory
returns-in_err-second-clause-memory g c wants =
    let second : g.B.Stored.allocates ≡ true = search rules in
    ap (λ takes. g.A.Stored.allocates || takes) second ∙ or-true g.A.Stored.allocates
