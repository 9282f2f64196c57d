-- No sum over the steps of rounds depends on the order of the tasks.
use Rattle.run_meaning.proofs.Counts.{rows_stay}
use Rattle.run_meaning.proofs.laws.picks_change_no_row.Goals as goal

pub returns : goal.returns
returns c first_rows rounds picks others number = rows_stay first_rows rounds picks others number
