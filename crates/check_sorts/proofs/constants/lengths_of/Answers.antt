-- All lengths.
use Rattle.std.proofs.Common.{◌≤◌, ◌∙◌, length, ap, arith}
use Rattle.std.specs.Prelude.{map}
use Rattle.std.proofs.lemmas.List.{take_all}
use Rattle.capl_meaning.specs.Constant.{elements_of}
use Rattle.check_names.specs.Variable.{variable_in}
use Rattle.check_names.specs.declared.variable.Declared.{Declared}
use Rattle.check_sorts.proofs.KnownLemmas.{map_both}
use Rattle.check_sorts.proofs.constants.lengths_of.Goals as goal

pub returns : goal.returns
returns c =
    let names = c.args.names.now in
    let ds = c.variables-declared-items.result.now in
    let over : length ds ≤ c.loop-declared.declared-index = omega arith in
    c.loop-declared.invariant
    ∙ ap (map (λ (d : Declared). elements_of names (variable_in names.base d))) (take_all c.loop-declared.declared-index ds over)
    ∙ map_both (elements_of names) (variable_in names.base) ds
    ∙ ap (map (elements_of names)) c.variables-declared-items.ensures
