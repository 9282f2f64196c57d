-- Sources have one run, whichever picks there are.
use Rattle.sim_run.proofs.OrderLemmas.{one_count, one_log, one_profile, run_lines, window_lines}
use Rattle.sim_run.proofs.laws.picks_change_order_alone.Goals as goal

pub returns-clause-log : goal.returns-clause-log
returns-clause-log c = one_log c.one_reading.ensures.accepted c.sources_have_one_run.ensures

pub returns-clause-profile : goal.returns-clause-profile
returns-clause-profile c = one_profile c.one_reading.ensures.accepted c.sources_have_one_run.ensures

pub returns-clause-counts : goal.returns-clause-counts
returns-clause-counts c = one_count c.one_reading.ensures.accepted c.sources_have_one_run.ensures

pub returns-clause-window : goal.returns-clause-window
returns-clause-window c = window_lines c.one_reading.ensures.accepted c.sources_have_one_run.ensures

pub returns-clause-run : goal.returns-clause-run
returns-clause-run c = run_lines c.one_reading.ensures.accepted c.sources_have_one_run.ensures
