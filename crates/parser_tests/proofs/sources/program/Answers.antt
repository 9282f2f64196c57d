-- The program of one source declares few.
use Rattle.std.proofs.Common.{◌∙◌, ap, arith, length}
use Rattle.parser_tests.proofs.SourceLemmas.{source_few}
use Rattle.parser_tests.proofs.sources.program.Goals as goal

pub returns : goal.returns
returns c =
    let law = c.programs_declare_no_more_than_their_tokens.ensures in
    source_few law.parts law.variables c.deref.result.now c.in-Ok-parse.file (record { files = c.from_list.result })
    (omega (arith, c.in-Ok.ensures.within_limit, ap length c.deref.ensures.value)) c.in-Ok-parse.ensures.tree
    (c.from_list.ensures ∙ c.in_ok-vec.ensures.items)
