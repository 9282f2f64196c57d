-- Each level leaves fewer.
use Rattle.sim_cli.proofs.stack.+lowest.Given as goal

abbrev pub decreases-lowest : goal.decreases-lowest
decreases-lowest l = l.levels
