-- Which answer stands for which text.
use Rattle.std.proofs.Common.{rules}
use Rattle.write_format.proofs.ShortLemmas.{format_short}
use Rattle.write_format.proofs.format.Format.of_owned.Goals as goal

pub returns-in_err-check_codes-clause-unfit : goal.returns-in_err-check_codes-clause-unfit
returns-in_err-check_codes-clause-unfit c place =
    let unfit = rw (c.bytes.ensures, c.as_slice.ensures) at (c.in_err-check_codes.ensures.unfit place) in
    search (rules, unfit)

pub returns-clause-unfit : goal.returns-clause-unfit
returns-clause-unfit c place =
    let unfit = rw (c.bytes.ensures, c.as_slice.ensures) at (c.in_ok-check_codes.ensures.unfit place) in
    search (rules, unfit)

pub returns-clause-short : goal.returns-clause-short
returns-clause-short c short all = format_short c.args.text c.args.args c.from_fit.result c.from_fit.ensures.format short all
