-- One more stream.
use Rattle.std.proofs.Common.{ℕ, None, refl, arith}
use Rattle.std.specs.Prelude.{Option, IsTrue, IsSome}
use Rattle.load_bound.specs.declared.stream.Stream.{Stream}
use Rattle.load_bound.specs.Streams.{is_stronger}
use Rattle.load_bound.proofs.KeyLemmas.{no_stream}
use Rattle.load_bound.proofs.PairLemmas.{zip_more, zip_at, zip_whole}
use Rattle.load_bound.proofs.waits.stronger_have_waits.Goals as goal

-- a stronger stream has a wait
abbrev HasWait : Stream → Stream → Option ℕ → Type 0
HasWait s r v = IsTrue (is_stronger r s) → IsSome v

pub loop-place-preserved : goal.loop-place-preserved
loop-place-preserved c =
    zip_more (HasWait c.args.stream.now) c.args.streams.now c.args.waits.now c.loop-place.place no_stream None
    c.loop-place-test.true (omega arith) c.loop-place.invariant (c.has_wait_if_stronger.ensures.0 c.if-not-has_wait_if_stronger.false)

pub returns-then-not-has_wait_if_stronger : goal.returns-then-not-has_wait_if_stronger
returns-then-not-has_wait_if_stronger c = (
  λ e. absurd (cc),
  λ all.
      let holds = c.has_wait_if_stronger.ensures.1 (zip_at (HasWait c.args.stream.now) c.args.streams.now c.args.waits.now c.loop-place.place no_stream None all c.loop-place-test.true) in
      let fails = c.if-not-has_wait_if_stronger.true in
      absurd (cc),
)

pub returns : goal.returns
returns c = (
  λ _. zip_whole (HasWait c.args.stream.now) c.args.streams.now c.args.waits.now c.loop-place.place c.requires.as_many c.loop-place-test.false c.loop-place.invariant,
  λ _. refl,
)
