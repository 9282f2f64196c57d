-- Forms with parts, and turns of loops.
use Rattle.std.proofs.Common.{◌++◌, ◌∙◌, refl, rules}
use Rattle.std.specs.Prelude.{flat_map}
use Rattle.capl_meaning.specs.ExpressionRules.{integer_offences}
use Rattle.capl_meaning.specs.Sort.{sort_of}
use Rattle.capl_meaning.specs.StatementRules.{alone_offences, in_loop, in_switch, label_offences, labels_rule, needed_offences, statement_offences}
use Rattle.check_statements.specs.Site.{place_of}
use Rattle.check_statements.specs.Statement.{all_offences, arm_offences, around_in, else_offences, group_offences, labels_in}
use Rattle.check_statements.proofs.StatementLemmas.{do_breaks, for_breaks, if_breaks, switch_breaks, while_breaks}
use Rattle.check_statements.proofs.TurnLemmas.{four_noted, noted_step, two_noted}
use Rattle.check_statements.proofs.statement.+statement.Goals as goal

pub judge_all-loop-statement-preserved : goal.judge_all-loop-statement-preserved
judge_all-loop-statement-preserved t c =
    noted_step (statement_offences (place_of c.args.site.now) (around_in c.args.around)) c.args.statements.now c.loop-statement.statement-index
    c.statement-item.result c.loop-statement.first c.judge_statement.new.first c.loop-statement-test.true c.statement-item.is
    c.in_ok-judge_statement.ensures
    ∙ c.loop-statement.invariant

pub judge_arms-loop-arm-preserved : goal.judge_arms-loop-arm-preserved
judge_arms-loop-arm-preserved t c =
    let s = place_of c.args.site.now in
    let around = around_in c.args.around in
    let arm = c.arm-item.result in
    noted_step (arm_offences s around) c.args.arms.now c.loop-arm.arm-index arm c.loop-arm.first c.judge_statement.new.first
    c.loop-arm-test.true c.arm-item.is
    (two_noted c.loop-arm.first c.judge_integer.new.first c.judge_statement.new.first (integer_offences s arm.test)
    (statement_offences s around arm.body) (arm_offences s around arm) c.in_ok-judge_integer.ensures.noted c.in_ok-judge_statement.ensures refl)
    ∙ c.loop-arm.invariant

pub judge_groups-loop-group-preserved : goal.judge_groups-loop-group-preserved
judge_groups-loop-group-preserved t c =
    let s = place_of c.args.site.now in
    let around = around_in c.args.around in
    let group = c.group-item.result in
    noted_step (group_offences s around) c.args.groups.now c.loop-group.group-index group c.loop-group.first c.judge_all.new.first
    c.loop-group-test.true c.group-item.is
    (two_noted c.loop-group.first c.judge_labels.new.first c.judge_all.new.first (flat_map (label_offences s) group.labels)
    (all_offences s around group.body) (group_offences s around group) (search rules) (search rules) refl)
    ∙ c.loop-group.invariant

pub judge_statement-returns-in_ok-judge_else-in-If : goal.judge_statement-returns-in_ok-judge_else-in-If
judge_statement-returns-in_ok-judge_else-in-If t c =
    let s = place_of c.args.site.now in
    let around = around_in c.args.around in
    two_noted c.args.first.now c.judge_arms.new.first c.judge_else.new.first (flat_map (arm_offences s around) c.in-If.arms)
    (else_offences s around c.in-If.other) (statement_offences s around c.args.statement.now) (search rules) (search rules)
    (if_breaks s around c.args.statement.now c.in-If.arms c.in-If.other c.in-If.is)

pub judge_statement-returns-in_ok-judge_statement-in-While : goal.judge_statement-returns-in_ok-judge_statement-in-While
judge_statement-returns-in_ok-judge_statement-in-While t c =
    let s = place_of c.args.site.now in
    let around = around_in c.args.around in
    two_noted c.args.first.now c.judge_integer.new.first c.judge_statement.new.first (integer_offences s c.in-While.test)
    (statement_offences s in_loop c.in-While.body) (statement_offences s around c.args.statement.now) c.in_ok-judge_integer-in-While.ensures.noted (search rules)
    (while_breaks s around c.args.statement.now c.in-While.test c.in-While.body c.in-While.is)

pub judge_statement-returns-in_ok-judge_integer-in-Do : goal.judge_statement-returns-in_ok-judge_integer-in-Do
judge_statement-returns-in_ok-judge_integer-in-Do t c =
    let s = place_of c.args.site.now in
    let around = around_in c.args.around in
    two_noted c.args.first.now c.judge_statement-in-Do.new.first c.judge_integer-in-Do.new.first (statement_offences s in_loop c.in-Do.body)
    (integer_offences s c.in-Do.test) (statement_offences s around c.args.statement.now) (search rules) c.in_ok-judge_integer-in-Do.ensures.noted
    (do_breaks s around c.args.statement.now c.in-Do.body c.in-Do.test c.in-Do.is)

pub judge_statement-returns-in_ok-judge_statement-in-For : goal.judge_statement-returns-in_ok-judge_statement-in-For
judge_statement-returns-in_ok-judge_statement-in-For t c =
    let s = place_of c.args.site.now in
    let around = around_in c.args.around in
    four_noted c.args.first.now c.judge_alone.new.first c.judge_needed.new.first c.judge_alone-in-For.new.first c.judge_statement-in-For.new.first
    (alone_offences s c.in-For.init) (needed_offences s c.in-For.test) (alone_offences s c.in-For.step) (statement_offences s in_loop c.in-For.body)
    (statement_offences s around c.args.statement.now) c.in_ok-judge_alone-in-For.ensures c.in_ok-judge_needed-in-For.ensures
    c.in_ok-judge_alone-in-For-2.ensures (search rules)
    (for_breaks s around c.args.statement.now c.in-For.init c.in-For.test c.in-For.step c.in-For.body c.in-For.is)

pub judge_statement-returns-in_ok-judge_groups-in-Switch : goal.judge_statement-returns-in_ok-judge_groups-in-Switch
judge_statement-returns-in_ok-judge_groups-in-Switch t c =
    let s = place_of c.args.site.now in
    let around = around_in c.args.around in
    let on = c.in-Switch.on in
    let groups = c.in-Switch.groups in
    two_noted c.args.first.now c.judge_switch.new.first c.judge_groups.new.first
    (integer_offences s on ++ labels_rule s (sort_of s on) (labels_in groups)) (flat_map (group_offences s (in_switch around)) groups)
    (statement_offences s around c.args.statement.now) (search rules) (search rules)
    (switch_breaks s around c.args.statement.now on groups c.in-Switch.is)
