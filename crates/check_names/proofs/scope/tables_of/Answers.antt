-- The first table, and one more variable.
use Rattle.std.proofs.Common.{◌∙◌, List, refl, sym, subst, rules, take}
use Rattle.std.proofs.lemmas.List.{take_all}
use Rattle.capl_meaning.specs.Variable.{Variable}
use Rattle.check_names.specs.declared.variable.Declared.{Declared}
use Rattle.check_names.specs.Inside.Table.{AreTables}
use Rattle.check_names.specs.Variable.{variable_in, variables_in}
use Rattle.check_names.proofs.ScopeLemmas.{tables_more}
use Rattle.check_names.proofs.TakeLemmas.{map_length, map_more}
use Rattle.check_names.proofs.scope.tables_of.Goals as goal

pub loop-variable-init : goal.loop-variable-init
loop-variable-init c = record {
  number = refl;
  tables = λ base. c.in_ok-tables.ensures;
}

pub loop-variable-preserved : goal.loop-variable-preserved
loop-variable-preserved c = record {
  number = search rules;
  tables = λ base.
      let i = c.loop-variable.variable-index in
      let all = c.args.variables.now in
      let item = c.variable-item.result in
      let more = map_more (variable_in base) i all item c.loop-variable-test.true c.variable-item.is in
      subst (λ (vs : List Variable). AreTables c.note_variable.new.tables.items vs) (sym more)
      (tables_more c.loop-variable.tables.items c.note_variable.new.tables.items (variables_in base (take i all))
      (variable_in base item) c.loop-variable.number
      (c.loop-variable.invariant.number ∙ map_length (variable_in base) i all c.loop-variable-test.true)
      (c.loop-variable.invariant.tables base)
      (λ owner name. c.in_ok-note_variable.ensures base owner name));
}

pub returns : goal.returns
returns c = λ base.
    let i = c.loop-variable.variable-index in
    let all = c.args.variables.now in
    subst (λ (ds : List Declared). AreTables c.loop-variable.tables.items (variables_in base ds))
    (take_all i all c.loop-variable-test.false) (c.loop-variable.invariant.tables base)
