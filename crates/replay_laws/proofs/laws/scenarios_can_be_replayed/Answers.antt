-- Its interface has printable bytes, and its epoch is within its bounds or a second before an entry.
use Rattle.replay_node.proofs.RequestLemmas.{replay_epoch_below}
use Rattle.replay_laws.proofs.Scenarios.{named}
use Rattle.replay_laws.proofs.laws.scenarios_can_be_replayed.Goals as goal

pub returns-clause-interface : goal.returns-clause-interface
returns-clause-interface c = λ scenario within. named scenario.interface within.interface

pub returns-clause-epoch : goal.returns-clause-epoch
returns-clause-epoch c = λ scenario within log interface bit replay is. replay_epoch_below log interface bit scenario.epoch replay is within.epoch
