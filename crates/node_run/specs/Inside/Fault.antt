-- Why a task was not done to its end, by what the record answered.
use Rattle.std.specs.Prelude.{◌≡◌}
use Rattle.vm_host.specs.declared.host.RecordFault.{RecordFault}
use Rattle.vm_host.specs.declared.host.RecordFault.TheVariants.{Sink, NoMemory}
use Rattle.node_run.specs.declared.node.TaskFault.{TaskFault}
use Rattle.node_run.specs.declared.node.TaskFault.TheVariants as fault

-- a record whose sink failed is a fault of the record
abbrev pub IsTaskFault : RecordFault → TaskFault → Type 0
IsTaskFault Sink given = given ≡ fault.Record
IsTaskFault NoMemory given = given ≡ fault.NoMemory
