-- One more stream, and a stronger one that has no good wait.
use Rattle.std.proofs.Common.{ℕ, get_or, sym, subst, ◌∙◌}
use Rattle.load_bound.specs.Inside.Starts.{IsLow}
use Rattle.load_bound.proofs.KeyLemmas.{no_stream}
use Rattle.load_bound.proofs.NumberLemmas.{greatest}
use Rattle.load_bound.proofs.PairLemmas.{zip_at}
use Rattle.load_bound.proofs.StartLemmas.{low_max, low_weaker, none_good}
use Rattle.load_bound.proofs.starts.start_of.Goals as goal
use Rattle.load_bound.proofs.starts.start_of.Goals.{then-is_stronger+else-lows-place, else-is_stronger}

pub returns-then-lows-place : goal.returns-then-lows-place
returns-then-lows-place c =
    λ bit lows bounded.
    let streams = c.args.streams.now in
    let place = c.loop-place.place in
    let stronger = sym c.is_stronger.ensures ∙ c.if-is_stronger.true in
    let low = zip_at (IsLow bit streams) streams c.args.lows.now place no_stream 0 lows c.loop-place-test.true in
    none_good bit streams _ _ low c.if-lows-place.true (bounded.stronger place no_stream c.loop-place-test.true stronger)

pub loop-place-preserved : goal.loop-place-preserved
loop-place-preserved c =
    λ bit lows.
    let streams = c.args.streams.now in
    let stream = c.args.stream.now in
    let place = c.loop-place.place in
    let P : ℕ → Type 0 = IsLow bit streams stream in
    let so_far = c.loop-place.invariant bit lows in
    let low = zip_at (IsLow bit streams) streams c.args.lows.now place no_stream 0 lows c.loop-place-test.true in
    elim c.if-is_stronger.branch [
      | then-is_stronger+else-lows-place w ↦
          let stronger = sym c.is_stronger.ensures ∙ w.if-is_stronger.true in
          let other = low_weaker bit streams (get_or streams place no_stream) stream stronger (get_or c.args.lows.now place 0) low in
          subst P (sym (w.start-is ∙ w.max-start.ensures ∙ greatest _ _)) (low_max bit streams stream _ _ so_far other)
      | else-is_stronger w ↦ subst P (sym w.start-is) so_far
    ]
