-- One more variable.
use Rattle.std.proofs.Common.{◌∙◌, ◌++◌, sym}
use Rattle.check_names.specs.Variable.{variable_in}
use Rattle.check_sorts.specs.Constant.{constant_of}
use Rattle.check_sorts.proofs.KnownLemmas.{behind}
use Rattle.check_sorts.proofs.constants.values_of.Goals as goal

pub loop-declared-preserved : goal.loop-declared-preserved
loop-declared-preserved c =
    let names = c.args.names.now in
    let d = c.declared-item.result in
    let known = c.loop-declared.invariant.0 in
    let are = c.loop-declared.invariant.1 in (
      known ++ constant_of names known (variable_in names.base d),
      c.in_ok-note_constant.ensures.values known are,
      c.in_ok-note_constant.ensures.numbers known are,
      sym (behind names names.base known c.variables-declared-items.result.now c.loop-declared.declared-index d
          c.loop-declared-test.true c.declared-item.is) ∙ c.loop-declared.invariant.3,
    )
