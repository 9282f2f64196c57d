-- A range is kept with those that came in order, or with the others.
use Rattle.std.proofs.Common.{ℕ, List, ◌∙◌, ap, refl, subst, sym}
use Rattle.std.specs.List.{list_any}
use Rattle.check_names.specs.Inside.Covered.{EndBefore, IsRising}
use Rattle.check_names.specs.Inside.Ranges.{meet}
use Rattle.check_names.proofs.CoveredLemmas.{other_added, other_known, rising_added, rising_known}
use Rattle.check_names.proofs.covered.Covered.add.Goals as goal

pub returns-then-end_before-clause-known : goal.returns-then-end_before-clause-known
returns-then-end_before-clause-known c = λ all covers.
    rising_known c.args.self.now all c.args.low c.args.high c.meets-known.result covers
    (subst (λ (l : List (ℕ × ℕ)). EndBefore l c.args.low) c.as_slice.ensures.value
    (c.if-end_before.ensures (subst IsRising (sym c.as_slice.ensures.value) covers.rising)))
    (c.meets-known.ensures covers.some covers.others)

pub returns-then-end_before-clause-taken : goal.returns-then-end_before-clause-taken
returns-then-end_before-clause-taken c = λ all covers.
    rising_added c.args.self.now all c.args.low c.args.high covers c.requires
    (subst (λ (l : List (ℕ × ℕ)). EndBefore l c.args.low) c.as_slice.ensures.value
    (c.if-end_before.ensures (subst IsRising (sym c.as_slice.ensures.value) covers.rising))) _
    c.in_ok-push.ensures.items refl

pub returns-clause-known : goal.returns-clause-known
returns-clause-known c = λ all covers.
    other_known c.args.self.now all c.args.low c.args.high c.one_meets-rising.result c.in_ok-others.others covers
    (c.one_meets-rising.ensures (subst IsRising (sym c.as_slice-2.ensures.value) covers.rising)
    ∙ ap (λ (l : List (ℕ × ℕ)). list_any (meet (c.args.low, c.args.high)) l) c.as_slice-2.ensures.value)
    (c.in_ok-others.ensures.known covers.some covers.others)

pub returns-clause-taken : goal.returns-clause-taken
returns-clause-taken c = λ all covers.
    other_added c.args.self.now _ all c.args.low c.args.high covers refl (c.in_ok-others.ensures.taken covers.some covers.others)
