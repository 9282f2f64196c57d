-- `R` without a length code.
use Rattle.std.specs.Prelude.{codes}
use Rattle.std.proofs.Common.{Some}
use Rattle.std.proofs.lemmas.Bool.Decides.{Decides-eqb}
use Rattle.std.proofs.lemmas.Slice.Eq.{strip_prefix_is}
use Rattle.log_line.proofs.DataLemmas.{no_code}
use Rattle.log_line.proofs.frame_text.data_of.Goals as goal

pub returns-in_err-code_of : goal.returns-in_err-code_of
returns-in_err-code_of c =
    let remote = strip_prefix_is Decides-eqb c.args.text.now (codes "R") (Some c.in-Some.code) c.in-Some.ensures.cases in
    rw c.from_residual.ensures (no_code c.args.text.now c.in-Some.code.now remote c.in_err-code_of.ensures)
