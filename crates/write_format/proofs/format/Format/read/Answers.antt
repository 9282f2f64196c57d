-- Which answer stands for which text.
use Rattle.std.proofs.Common.{rules, subst}
use Rattle.write_format.specs.Line.{IsFormatOf}
use Rattle.write_format.proofs.ShortLemmas.{format_short}
use Rattle.write_format.proofs.format.Format.read.Goals as goal

pub returns-in_err-check_codes-clause-unfit : goal.returns-in_err-check_codes-clause-unfit
returns-in_err-check_codes-clause-unfit c place =
    let unfit = c.in_err-check_codes.ensures.unfit place in
    search (rules, unfit)

pub returns-in_err-own-clause-unfit : goal.returns-in_err-own-clause-unfit
returns-in_err-own-clause-unfit c place =
    let unfit = c.in_ok-check_codes.ensures.unfit place in
    search (rules, unfit)

pub returns-in_err-given-clause-unfit : goal.returns-in_err-given-clause-unfit
returns-in_err-given-clause-unfit c place =
    let unfit = c.in_ok-check_codes.ensures.unfit place in
    search (rules, unfit)

pub returns-clause-unfit : goal.returns-clause-unfit
returns-clause-unfit c place =
    let unfit = c.in_ok-check_codes.ensures.unfit place in
    search (rules, unfit)

pub returns-clause-short : goal.returns-clause-short
returns-clause-short c short all =
    format_short c.args.text.now c.args.args.now c.from_fit.result
    (subst (λ text. IsFormatOf text c.args.args.now c.from_fit.result) c.in_ok-own.ensures
    (subst (λ arguments. IsFormatOf c.in_ok-own.own arguments c.from_fit.result) c.in_ok-given.ensures c.from_fit.ensures.format)) short all
