-- One more wait, and what accepted waits promise.
use Rattle.std.proofs.Common.{None, refl, arith}
use Rattle.load_bound.specs.Waits.{IsAcceptedAt, IsAccepted}
use Rattle.load_bound.proofs.KeyLemmas.{no_stream}
use Rattle.load_bound.proofs.PairLemmas.{zip_more, zip_at, zip_whole}
use Rattle.load_bound.proofs.LineLemmas.{waits_are_kept}
use Rattle.load_bound.proofs.accepted.accept.Goals as goal

pub loop-place-preserved : goal.loop-place-preserved
loop-place-preserved c =
    zip_more (IsAcceptedAt c.args.bit c.args.streams.now c.args.waits.now) c.args.streams.now c.args.waits.now c.loop-place.place no_stream None
    c.loop-place-test.true (omega arith) c.loop-place.invariant (c.is_accepted.ensures.0 c.if-not-is_accepted.false)

pub returns-then-not-is_accepted-clause-exact : goal.returns-then-not-is_accepted-clause-exact
returns-then-not-is_accepted-clause-exact c = (
  λ e. absurd (cc),
  λ all.
      let holds = c.is_accepted.ensures.1 (zip_at (IsAcceptedAt c.args.bit c.args.streams.now c.args.waits.now) c.args.streams.now c.args.waits.now c.loop-place.place no_stream None all c.loop-place-test.true) in
      let fails = c.if-not-is_accepted.true in
      absurd (cc),
)

pub returns-clause-exact : goal.returns-clause-exact
returns-clause-exact c = (
  λ _. zip_whole (IsAcceptedAt c.args.bit c.args.streams.now c.args.waits.now) c.args.streams.now c.args.waits.now c.loop-place.place c.requires.as_many c.loop-place-test.false c.loop-place.invariant,
  λ _. refl,
)

pub returns-clause-kept : goal.returns-clause-kept
returns-clause-kept c =
    λ _.
    let accepted : IsAccepted c.args.bit c.args.streams.now c.args.waits.now =
    zip_whole (IsAcceptedAt c.args.bit c.args.streams.now c.args.waits.now) c.args.streams.now c.args.waits.now c.loop-place.place c.requires.as_many c.loop-place-test.false c.loop-place.invariant in
    waits_are_kept c.args.bit c.args.streams.now c.args.waits.now c.requires.bit.from_one c.requires.streams.streams_in_range accepted c.requires.as_many
