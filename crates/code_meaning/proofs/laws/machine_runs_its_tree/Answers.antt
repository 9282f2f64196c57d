-- A run in a memory and on a host has the ending that is meant, or is refused on its way there.
use Rattle.code_meaning.proofs.HostRuns.{refused_on_host, runs_on_host}
use Rattle.code_meaning.proofs.laws.machine_runs_its_tree.Goals as goal

pub returns-clause-runs : goal.returns-clause-runs
returns-clause-runs g c = λ typed code sound is number turns row handler e memory memory_after before after meter meter_after outcome r.
    runs_on_host g.H.Host.meaning typed code sound is number turns handler e memory before row memory_after after meter meter_after outcome r

pub returns-clause-refused : goal.returns-clause-refused
returns-clause-refused g c = λ typed code sound is number turns handler e memory before after r.
    refused_on_host g.H.Host.meaning typed code sound is number turns handler e memory before after r
