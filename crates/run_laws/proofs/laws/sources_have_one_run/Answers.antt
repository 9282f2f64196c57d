-- Each task of a source is determined, and so is its run.
use Rattle.run_laws.proofs.laws.sources_have_one_run.Goals as goal

pub returns : goal.returns
returns g c until before after end rounds others one other = c.one_run.ensures until before after end rounds others one other
