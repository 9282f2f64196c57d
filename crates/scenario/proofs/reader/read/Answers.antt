-- What each line does, and what the end of the text shows.
use Rattle.std.proofs.Common.{◌≡◌, ◌+◌, None, Ok, refl, sym, ap, subst, ◌∙◌, arith, inl, inr}
use Rattle.scenario.specs.Inside.Draft.{Said, with_line, rule_of_next}
use Rattle.scenario.proofs.ReadLemmas.{Reached, IsRead, reached_more, reached_broken, reached_end, no_item, scenario_read, started_line}
use Rattle.scenario.proofs.WithinLemmas.{scenario_within}
use Rattle.scenario.proofs.reader.read.Goals as goal

-- the line breaks a rule, and none before it does
pub returns-in-Some-2-clause-refused : goal.returns-in-Some-2-clause-refused
returns-in-Some-2-clause-refused c =
    rw c.broken.ensures (
      refl,
      inl (reached_broken c.args.bytes.now c.loop-line.rest.now c.in-Some.behind.now c.loop-line.count c.loop-line.draft c.in-Some.line.now c.in-Some-2.number
          c.loop-line.invariant.reached c.in-Some.ensures.lines (sym c.in_ok-number.ensures.rule ∙ c.in-Some-2.is)),
    )

-- the line breaks none
pub loop-line-preserved : goal.loop-line-preserved
loop-line-preserved c =
    let s = c.loop-line.draft in
    let line = c.in-Some.line.now in
    let behind = c.in-Some.behind.now in
    let after : c.read_line.new.draft ≡ with_line s line = c.in_ok-number.ensures.after (ap Ok c.in_default-2.is) in
    let none : rule_of_next s line ≡ None = sym c.in_ok-number.ensures.rule ∙ c.in_default-2.is in
    let more = reached_more c.args.bytes.now c.loop-line.rest.now behind c.loop-line.count s line c.loop-line.invariant.reached c.in-Some.ensures.lines none in
    record {
      reached = subst (λ (t : Said). Reached c.args.bytes.now behind (c.loop-line.count + 1) t) (sym after) more;
      fits = omega (arith, c.loop-line.invariant.fits, c.in-Some.ensures.shorter);
      started_fits = λ started. elim (started_line line s (sym (ap (λ (t : Said). t.is_started) after) ∙ started)) [
        | inl before ↦ omega (arith, c.loop-line.invariant.started_fits before, c.in-Some.ensures.shorter)
        | inr long ↦ omega (arith, long, c.loop-line.invariant.fits, c.in-Some.ensures.within)
      ];
    }

-- no line is left, and no item stood
pub returns-then-not-is_started-clause-refused : goal.returns-then-not-is_started-clause-refused
returns-then-not-is_started-clause-refused c =
    let read : IsRead c.args.bytes.now c.loop-line.count c.loop-line.draft =
    reached_end c.args.bytes.now c.loop-line.rest.now c.loop-line.count c.loop-line.draft c.loop-line.invariant.reached (c.in_default.ensures.none.0 refl) in
    rw c.broken-then-not-is_started.ensures
    (refl, inr (inl (no_item c.args.bytes.now c.loop-line.count c.loop-line.draft read (sym c.is_started.ensures ∙ c.if-not-is_started.true))))

-- no line is left, and a node stood
pub returns-clause-found : goal.returns-clause-found
returns-clause-found c =
    let read : IsRead c.args.bytes.now c.loop-line.count c.loop-line.draft =
    reached_end c.args.bytes.now c.loop-line.rest.now c.loop-line.count c.loop-line.draft c.loop-line.invariant.reached (c.in_default.ensures.none.0 refl) in
    scenario_read c.args.bytes.now c.loop-line.count c.loop-line.draft c.in_ok-into_scenario.field-0 read (sym c.has_node.ensures ∙ c.if-not-has_node.false)
    c.in_ok-into_scenario.ensures

-- the scenario's numbers are within their bounds
pub returns-clause-within : goal.returns-clause-within
returns-clause-within c = scenario_within c.args.bytes.now c.in_ok-into_scenario.field-0 (returns-clause-found c)
