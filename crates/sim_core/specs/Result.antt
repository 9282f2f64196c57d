-- When two results of a simulation are the same.
use Rattle.std.specs.Prelude.{◌≡◌, List}
use Rattle.run_records.specs.declared.record.Noted.{Noted}
use Rattle.run_records.specs.Record.{RecordMeaning, TakesEntry}
use Rattle.stack_vm.specs.declared.meter.MeterRow.{MeterRow}
use Rattle.node_rounds.specs.Effects.{TakesEntries}
use Rattle.sim_core.specs.Core.{CoreState, states_of}

-- a record stands in one way after it took an entry
abbrev pub TakesInOneWay : {R : Type 0} → RecordMeaning R → Type 0
TakesInOneWay {R} meaning = (before one other : R) (noted : Noted) →
    TakesEntry meaning before noted one → TakesEntry meaning before noted other → one ≡ other

-- Two results of a simulation are the same: its nodes stand alike, the records took the same entries one
-- after another, so that they stand alike where they take each in one way, and the meters have the same rows.
pub record IsSameResult {B R : Type 0} (meaning : RecordMeaning R) (into : R) (after other : CoreState B)
    (into_after into_other : R) (meter_after meter_other : List MeterRow) : Type 0 where
  pub nodes : states_of after.nodes ≡ states_of other.nodes
  pub entries : List Noted
  pub taken : TakesEntries meaning into entries into_after
  pub taken_too : TakesEntries meaning into entries into_other
  pub records : TakesInOneWay meaning → into_after ≡ into_other
  pub rows : meter_after ≡ meter_other
