-- What is needed, and the time that the frames of the busiest stream reach.
use Rattle.std.proofs.Common.{ℕ, ◌-◌, ◌*◌, ◌/◌, get_or, sym, subst}
use Rattle.std.specs.Prelude.{IfSome}
use Rattle.load_bound.specs.Inside.Starts.{IsLow, IsLowBy, IsStrongerAt}
use Rattle.load_bound.proofs.BusiestLemmas.{low_further}
use Rattle.load_bound.proofs.KeyLemmas.{no_stream}
use Rattle.load_bound.proofs.WaitLemmas.{low_next}
use Rattle.load_bound.proofs.busiest.next_wait.Goals as goal

pub returns-in_default-clause-low : goal.returns-in_default-clause-low
returns-in_default-clause-low c = λ s found is before.
    let P : ℕ → Type 0 = IsLow c.args.bit c.args.streams.now s in
    subst P (sym is) (low_next c.args.bit c.args.streams.now s c.args.wait before)

pub returns-clause-low : goal.returns-clause-low
returns-clause-low c = λ s found is before.
    let streams = c.args.streams.now in
    let place = c.in-Some.place in
    let period = (get_or streams place no_stream).apart in
    let value = c.frame_time-time.ensures.value in
    let by = subst (λ t. IsLowBy (c.args.needed - c.args.wait / period * t) period t c.reached.result) value
    (subst (λ r. IsLowBy r period c.frame_time-time.result c.reached.result) c.saturating_sub-others.ensures c.reached.ensures) in
    let at : IsStrongerAt streams s place = subst (λ b. IfSome b (IsStrongerAt streams s)) c.in-Some.is found in
    let P : ℕ → Type 0 = IsLow c.args.bit streams s in
    subst P (sym c.max.ensures) (low_further c.args.bit streams s place no_stream at c.args.wait c.args.needed c.reached.result is before by)
