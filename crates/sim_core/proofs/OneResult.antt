-- A simulation has one result.
use Rattle.std.proofs.Common.{◌≡◌, ℕ, ◌<◌, List, [], ◌∷◌, length, get_or, Some, ap, sym, subst, ◌∙◌}
use Rattle.std.specs.Prelude.{slice_get}
use Rattle.std.proofs.lemmas.List.{same_lists}
use Rattle.std.proofs.lemmas.Option.{slice_get-get_or}
use Rattle.can_bus.specs.Meaning.{BusMeaning}
use Rattle.run_records.specs.declared.record.Noted.{Noted}
use Rattle.run_records.specs.Record.{RecordMeaning}
use Rattle.stack_vm.specs.declared.meter.MeterRow.{MeterRow}
use Rattle.node_rounds.specs.Effects.{TakesEntries}
use Rattle.node_rounds.specs.Reaction.{NodeState}
use Rattle.node_run.specs.Code.{CodeMemory, code_reaction}
use Rattle.node_run.proofs.EachTask.{code_one_way}
use Rattle.run_meaning.specs.Counts.{AddsSteps}
use Rattle.run_meaning.specs.Run.{Passed, RunState}
use Rattle.run_meaning.specs.Steps.{Step, entries, steps}
use Rattle.run_meaning.proofs.OneRun.{run_once}
use Rattle.sim_core.specs.Core.{CoreState, HasRun, rows_of, run_of}
use Rattle.sim_core.specs.Result.{IsSameResult, TakesInOneWay}

some_same : {X : Type 0} {a b : X} → Some a ≡ Some b → a ≡ b
some_same h = cc

-- the runs of steps are added to a meter in one way
rows_once : (first_rows : List ℕ) (list : List Step) (meter one other : List MeterRow) → AddsSteps first_rows list meter one → AddsSteps first_rows list meter other → one ≡ other
rows_once first_rows list meter one other a b =
    let as_many : length one ≡ length other = a.as_many ∙ sym b.as_many in
    same_lists one other as_many (λ k d below.
    let short : k < length meter = subst (λ (n : ℕ). k < n) a.as_many below in
    let row = get_or meter k d in
    let was : slice_get meter k ≡ Some row = slice_get-get_or meter k d short in
    let first : slice_get one k ≡ Some (get_or one k d) = slice_get-get_or one k d below in
    let second : slice_get other k ≡ Some (get_or other k d) = slice_get-get_or other k d (subst (λ (n : ℕ). k < n) as_many below) in
    some_same (sym first ∙ a.added k row was ∙ sym (b.added k row was) ∙ second))

-- a record that takes each entry in one way takes some in one way
entries_once : {R : Type 0} (meaning : RecordMeaning R) → TakesInOneWay meaning → (before one other : R) (list : List Noted) → TakesEntries meaning before list one → TakesEntries meaning before list other
    → one ≡ other
entries_once meaning once before one other [] a b = a ∙ sym b
entries_once {R} meaning once before one other (noted ∷ list) a b =
    entries_once meaning once b.0 one other list (subst (λ (r : R). TakesEntries meaning r list one) (once before a.0 b.0 noted a.1 b.1) a.2) b.2

-- a simulation has one result
pub result_once : {B R : Type 0} (bus : BusMeaning B) (meaning : RecordMeaning R) (before after other : CoreState B) (into into_after into_other : R)
    (meter meter_after meter_other : List MeterRow) → HasRun bus meaning before into meter after into_after meter_after → HasRun bus meaning before into meter other into_other meter_other
    → IsSameResult meaning into after other into_after into_other meter_after meter_other
result_once {B} {R} bus meaning before after other into into_after into_other meter meter_after meter_other one two =
    let same = run_once code_reaction code_one_way bus before.until (run_of before) one.end two.end one.rounds two.rounds one.is_run two.is_run in
    let list = steps two.rounds before.picks in
    let taken : TakesEntries meaning into (entries list) into_after = subst (λ (rounds : List Passed). TakesEntries meaning into (entries (steps rounds before.picks)) into_after) same.0 one.done.takes in
    let metered : AddsSteps (rows_of before.nodes) list meter meter_after =
    subst (λ (rounds : List Passed). AddsSteps (rows_of before.nodes) (steps rounds before.picks) meter meter_after) same.0 one.done.metered in
    record {
      nodes = one.nodes ∙ ap (λ (s : RunState (NodeState CodeMemory) B). s.nodes) same.1 ∙ sym two.nodes;
      entries = entries list;
      taken = taken;
      taken_too = two.done.takes;
      records = λ once. entries_once meaning once into into_after into_other (entries list) taken two.done.takes;
      rows = rows_once (rows_of before.nodes) list meter meter_after meter_other metered two.done.metered;
    }
