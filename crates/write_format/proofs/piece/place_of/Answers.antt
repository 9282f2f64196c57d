-- The place that the search finds.
use Rattle.std.proofs.Common.{◌∙◌}
use Rattle.write_format.proofs.SearchLemmas.{place_found, place_inside}
use Rattle.write_format.proofs.piece.place_of.Goals as goal

pub returns-clause-first : goal.returns-clause-first
returns-clause-first c = c.unwrap_or.ensures ∙ place_found c.args.byte c.args.bytes.now c.memchr.result c.memchr.ensures

pub returns-clause-inside : goal.returns-clause-inside
returns-clause-inside c = place_inside c.args.byte c.args.bytes.now c.memchr.result c.unwrap_or.result c.memchr.ensures c.unwrap_or.ensures
