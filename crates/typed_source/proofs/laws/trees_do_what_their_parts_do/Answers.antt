-- Each part of a source, by its form.
use Rattle.typed_source.proofs.Alone.{alone_does}
use Rattle.typed_source.proofs.Expressions.{gives, stands}
use Rattle.typed_source.proofs.Statements.{does}
use Rattle.typed_source.proofs.laws.trees_do_what_their_parts_do.Goals as goal

pub returns-clause-expressions : goal.returns-clause-expressions
returns-clause-expressions c = λ scope order e each. gives scope order each e

pub returns-clause-places : goal.returns-clause-places
returns-clause-places c = λ scope order e each. stands scope order each e

pub returns-clause-alone : goal.returns-clause-alone
returns-clause-alone c = λ scope order formats before e each there. alone_does scope order each formats before e there

pub returns-clause-statements : goal.returns-clause-statements
returns-clause-statements c = λ scope order formats before s each there. does scope order each formats before s there
