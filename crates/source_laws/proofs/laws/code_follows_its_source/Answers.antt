-- The code of a source follows the source, from the beginning on.
use Rattle.source_laws.proofs.Following.{loaded_alike, runs_follow}
use Rattle.source_laws.proofs.laws.code_follows_its_source.Goals as goal

pub returns-clause-follows : goal.returns-clause-follows
returns-clause-follows c = runs_follow

pub returns-clause-begins : goal.returns-clause-begins
returns-clause-begins c = λ base program lines code first_row turns is. loaded_alike base program lines code is first_row turns
