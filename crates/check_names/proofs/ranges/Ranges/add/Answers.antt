-- A range that is met is made one with the new one, until none is.
use Rattle.std.proofs.Common.{◌≡◌, ◌≢◌, ◌∷◌, ℕ, arith, subst, sym, true, false, refl}
use Rattle.std.proofs.lemmas.Bool.Decides.{nat_tests}
use Rattle.std.specs.Prelude.{min}
use Rattle.std.specs.Ordering.{nat_cmp}
use Rattle.std.specs.BTreeMap.{is_at}
use Rattle.check_names.specs.Inside.Ranges.{AreRangesWith}
use Rattle.check_names.proofs.RangeLemmas.{known_as, known_since, merged, put}
use Rattle.check_names.proofs.ranges.Ranges.add.Goals as goal

-- another key is not at this one
apart : (k q : ℕ) → q ≢ k → is_at (nat_cmp k) q ≡ false
apart k q other = grind (arith, nat_tests, other)

pub loop-start-preserved : goal.loop-start-preserved
loop-start-preserved c = record {
  rises = omega (arith, c.min-low.ensures, c.max-high.ensures, c.loop-start.invariant.rises);
  known = λ _. known_since (c.args.self.now, c.args.low, c.args.high) (c.loop-start.self, c.loop-start.low, c.loop-start.high)
      c.loop-start.known c.loop-start.invariant.known c.loop-start.invariant.unknown (c.in-Some.start, c.in-Some.end, c.in-Some.ensures.some);
  unknown = λ is. absurd (let e : true ≡ false = is in cc);
  are = λ all are.
      let made = merged c.loop-start.self (record { ends = c.remove.new.self }) ((c.args.low, c.args.high) ∷ all)
      c.loop-start.low c.loop-start.high c.in-Some.start c.in-Some.end (c.loop-start.invariant.are all are) c.in-Some.ensures.some
      c.remove.ensures.updates.1 (λ q other. c.remove.ensures.updates.2 q (apart c.in-Some.start q other)) in
      subst (λ (low : ℕ). AreRangesWith (record { ends = c.remove.new.self }) low c.max-high.result ((c.args.low, c.args.high) ∷ all)) (sym c.min-low.ensures)
      (subst (λ (high : ℕ). AreRangesWith (record { ends = c.remove.new.self }) (min c.loop-start.low c.in-Some.start) high ((c.args.low, c.args.high) ∷ all)) (sym c.max-high.ensures) made);
}

pub returns-clause-known : goal.returns-clause-known
returns-clause-known c = λ all are.
    let h = c.loop-start.invariant in
    known_as (c.args.self.now, c.args.low, c.args.high) (c.loop-start.self, c.loop-start.low, c.loop-start.high) c.loop-start.known all
    are c.requires h.known h.unknown (c.in_default.ensures.none (h.are all are).stand refl)

pub returns-clause-taken : goal.returns-clause-taken
returns-clause-taken c = λ all are.
    let with = c.loop-start.invariant.are all are in
    put c.loop-start.self (record { ends = c.insert.new.self }) ((c.args.low, c.args.high) ∷ all) c.loop-start.low c.loop-start.high with
    (c.in_default.ensures.none with.stand refl)
    c.in_ok-insert.ensures.updates.1 (λ q other. c.in_ok-insert.ensures.updates.2 q (apart c.loop-start.low q other))
