-- Both buses have one meaning, so that both runs have one result.
use Rattle.std.proofs.Common.{◌≡◌, List, [], subst, sym, ◌∙◌}
use Rattle.can_bus.specs.Bus.{BusState, one_channel}
use Rattle.run_records.specs.Record.{RecordMeaning}
use Rattle.stack_vm.specs.declared.meter.MeterRow.{MeterRow}
use Rattle.sim_core.specs.Core.{CoreState, HasRun, states_of}
use Rattle.sim_core.specs.Result.{IsSameResult, TakesInOneWay}
use Rattle.run_law_tests.proofs.buses.left_by_both.Goals as goal

-- what two simulations leave that begin alike, by the law on results
alike : {R : Type 0} (meaning : RecordMeaning R) (into : R) (before begun : CoreState BusState) (meter opened : List MeterRow) (after other : CoreState BusState) (into_after into_other : R)
    (meter_after meter_other : List MeterRow)
    → (HasRun one_channel meaning before into meter after into_after meter_after → HasRun one_channel meaning before into meter other into_other meter_other
    → IsSameResult meaning into after other into_after into_other meter_after meter_other)
    → HasRun one_channel meaning before into meter after into_after meter_after → HasRun one_channel meaning begun into opened other into_other meter_other → TakesInOneWay meaning
    → before ≡ begun → meter ≡ opened → (into_after ≡ into_other) × (meter_after ≡ meter_other) × (states_of after.nodes ≡ states_of other.nodes)
alike meaning into before begun meter opened after other into_after into_other meter_after meter_other law one two once core rows =
    let same = law one
    (subst (λ (c : CoreState BusState). HasRun one_channel meaning c into meter other into_other meter_other) (sym core)
    (subst (λ (m : List MeterRow). HasRun one_channel meaning begun into m other into_other meter_other) (sym rows) two)) in
    (same.records once, same.rows, same.nodes)

same_left : (c : goal.In_ok-heap) → c.args.list.core ≡ c.args.heap.core → c.args.list.meter ≡ c.args.heap.meter →
    (c.in_ok-list.list.into ≡ c.in_ok-heap.heap.into) × (c.in_ok-list.list.meter ≡ c.in_ok-heap.heap.meter)
    × (states_of c.in_ok-list.list.core.nodes ≡ states_of c.in_ok-heap.heap.core.nodes)
same_left c core rows =
    let list = c.in_ok-list.list in
    let heap = c.in_ok-heap.heap in
    alike _ [] c.args.list.core c.args.heap.core c.args.list.meter c.args.heap.meter list.core heap.core list.into heap.into list.meter heap.meter
    (c.one_result.ensures c.args.list.core list.core heap.core [] list.into heap.into c.args.list.meter list.meter heap.meter) c.in_ok-list.ensures c.in_ok-heap.ensures
    (λ before one other noted a b. a.taken ∙ sym b.taken) core rows

pub returns-clause-record : goal.returns-clause-record
returns-clause-record c core rows = (same_left c core rows).0

pub returns-clause-rows : goal.returns-clause-rows
returns-clause-rows c core rows = (same_left c core rows).1

pub returns-clause-nodes : goal.returns-clause-nodes
returns-clause-nodes c core rows = (same_left c core rows).2
