-- One more variable, which may have the name of an earlier one of its procedure.
use Rattle.std.proofs.Common.{◌∷◌, ◌∙◌, rules}
use Rattle.check_names.specs.Inside.Inner.{inner_offence, same_inside}
use Rattle.check_names.specs.Variable.{variable_in}
use Rattle.check_names.proofs.InnerTurns.{among_more, known_inside, noted_inside}
use Rattle.check_names.proofs.RepeatLemmas.{repeated_turn}
use Rattle.check_names.proofs.inner.note_inner_names.Goals as goal

pub loop-variable-preserved : goal.loop-variable-preserved
loop-variable-preserved c =
    let base = c.args.names.now.base in
    let item = c.variable-item.result in
    let all = c.variables-variables.result.now in
    let i = c.loop-variable.variable-index in
    let earlier = c.loop-variable.invariant.earlier in
    record {
      number = search rules;
      earlier = variable_in base item ∷ earlier;
      among = among_more base all i item earlier c.loop-variable-test.true c.variable-item.is c.loop-variable.invariant.among;
      noting =
          repeated_turn (variable_in base) same_inside inner_offence earlier all i item c.loop-variable.first c.note_where.new.first
          c.is_known-known.result c.loop-variable-test.true c.variable-item.is
          (known_inside base item all c.args.names.now.variables earlier c.name.result.now i c.loop-variable.number c.is_known-known.result
          (c.name.ensures base) c.loop-variable.invariant.number c.variables-variables.ensures c.loop-variable.invariant.among c.is_known-known.ensures)
          (noted_inside base item c.token.result c.loop-variable.first c.note_where.new.first c.is_known-known.result (c.token.ensures base) c.note_where.ensures)
          ∙ c.loop-variable.invariant.noting;
    }
