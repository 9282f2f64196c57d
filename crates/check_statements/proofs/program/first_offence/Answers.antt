-- The first of what names break, and then of what bodies break.
use Rattle.std.proofs.Common.{◌∙◌, List, ap}
use Rattle.std.specs.Prelude.{flat_map}
use Rattle.capl_meaning.specs.Names.{Names}
use Rattle.capl_meaning.specs.Variable.{Part, parts_of}
use Rattle.check_names.specs.First.{noted}
use Rattle.check_names.specs.Part.{parts_in}
use Rattle.check_statements.specs.Part.{body_offences}
use Rattle.check_statements.proofs.OffenceLemmas.{first_of_all, none_of, some_of}
use Rattle.check_statements.proofs.program.first_offence.Goals as goal

pub returns : goal.returns
returns c =
    let base = c.args.named.now.names.base in
    let program = c.args.program.now in
    let first = c.args.named.now.first in
    let last = c.judge_parts.new.first in
    let parts = ap parts_in c.as_slice.ensures.value ∙ c.in_ok-parts.ensures in
    let all = first_of_all base program first last c.requires.named
    (c.in_ok-judge_parts.ensures
    ∙ ap (λ (ps : List Part). noted first (flat_map (body_offences c.args.named.now.names) ps)) parts
    ∙ ap (λ (n : Names). noted first (flat_map (body_offences n) (parts_of program))) c.requires.names) in
    record { none = none_of base program last all; first = some_of base program last all }
