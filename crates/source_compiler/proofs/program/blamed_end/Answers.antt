-- The column just past the last token fits.
use Rattle.std.proofs.lemmas.Bool.Decides.{nat_tests}
use Rattle.std.proofs.Common.{arith}
use Rattle.source_compiler.proofs.PlaceLemmas.{column_there_fits}
use Rattle.source_compiler.proofs.program.blamed_end.Goals as goal

pub column_past-requires : goal.column_past-requires
column_past-requires c =
    column_there_fits c.args.tokens.now c.requires c.saturating_sub.result c.in-Some.last.now (grind (arith, nat_tests, c.in-Some.ensures.lookup.0)) c.in-Some.ensures.lookup.1
