-- One more variable, which stands before the token or does not.
use Rattle.std.proofs.Common.{◌∙◌, refl, rules, sym}
use Rattle.std.proofs.lemmas.Iterator.Adapters.{position_from-zero}
use Rattle.check_names.specs.Inside.Table.{is_named_before}
use Rattle.check_names.specs.Variable.{variable_in, variables_in}
use Rattle.check_names.proofs.PositionLemmas.{first_gone, first_here, first_next}
use Rattle.check_names.proofs.scope.first_before.Goals as goal

pub loop-variable-init : goal.loop-variable-init
loop-variable-init c = record {
  number = refl;
  first = λ base.
      sym (position_from-zero (is_named_before c.args.procedure c.args.name.now c.args.token) (variables_in base c.args.variables.now));
}

pub loop-variable-preserved : goal.loop-variable-preserved
loop-variable-preserved c = record {
  number = search rules;
  first = λ base.
      let passes = is_named_before c.args.procedure c.args.name.now c.args.token in
      first_next passes c.loop-variable.number (variable_in base) c.args.variables.now c.loop-variable.variable-index
      c.variable-item.result c.loop-variable-test.true c.variable-item.is
      (sym (c.is_named_before.ensures base) ∙ c.if-is_named_before.false)
      ∙ c.loop-variable.invariant.first base;
}

pub returns-then-is_named_before : goal.returns-then-is_named_before
returns-then-is_named_before c = λ base.
    let passes = is_named_before c.args.procedure c.args.name.now c.args.token in
    first_here passes c.loop-variable.number (variable_in base) c.args.variables.now c.loop-variable.variable-index
    c.variable-item.result c.loop-variable-test.true c.variable-item.is
    (sym (c.is_named_before.ensures base) ∙ c.if-is_named_before.true)
    ∙ c.loop-variable.invariant.first base

pub returns : goal.returns
returns c = λ base.
    let passes = is_named_before c.args.procedure c.args.name.now c.args.token in
    first_gone passes c.loop-variable.number (variable_in base) c.args.variables.now c.loop-variable.variable-index
    c.loop-variable-test.false
    ∙ c.loop-variable.invariant.first base
