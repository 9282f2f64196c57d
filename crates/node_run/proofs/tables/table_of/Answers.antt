-- What is entered is the first handler so far.
use Rattle.std.proofs.Common.{rules, arith, ◌<◌, ◌+◌, ◌∙◌, ap, sym, Some, None, length, get_or, drop}
use Rattle.std.specs.Option.{option_or}
use Rattle.bytecode.specs.declared.code.Handler.{Handler}
use Rattle.node_run.proofs.ProcedureTables.{first_of, next_with_place, next_without_place}
use Rattle.node_run.specs.Inside.Tables.{place_of}
use Rattle.node_run.proofs.tables.table_of.Goals as goal
use Rattle.node_run.proofs.tables.table_of.Goals.{in-Some, in_default}

pub loop-handler-preserved : goal.loop-handler-preserved
loop-handler-preserved c =
    let at = c.loop-handler.handler-index in
    let before = c.loop-handler.table.items in
    let item = ap (λ (h : Handler). place_of c.args.subject h.event) c.handler-item.is in
    elim c.match-place_of.branch [
      | in-Some w ↦ record {
        numbered = search rules;
        as_many = search rules;
        left = λ place within. c.loop-handler.invariant.left place within
            ∙ next_with_place c.args.subject c.args.handlers.now at place w.in-Some.place c.handler-item.result (get_or before place None) (get_or c.match-place_of.table.items place None)
            (omega arith) (sym item ∙ sym c.place_of.ensures ∙ w.in-Some.is)
            (λ same.
            let here : w.in-Some.place < length before = omega (arith, same, within, c.loop-handler.invariant.as_many) in
            ap (λ v. get_or v.items place None) w.table-is ∙ ap (λ p. get_or w.enter.new.table.items p None) same ∙ w.enter.ensures.own here
            ∙ ap (λ p. option_or (get_or before p None) (Some c.loop-handler.number)) (sym same)
            ∙ ap (λ n. option_or (get_or before place None) (Some n)) c.loop-handler.invariant.numbered)
            (λ other. ap (λ v. get_or v.items place None) w.table-is ∙ w.enter.ensures.others place other);
      }
      | in_default w ↦ record {
        numbered = search rules;
        as_many = search rules;
        left = λ place within. c.loop-handler.invariant.left place within
            ∙ next_without_place c.args.subject c.args.handlers.now at place c.handler-item.result (get_or before place None)
            (omega arith) (sym item ∙ sym c.place_of.ensures ∙ w.in_default.is)
            ∙ ap (λ v. first_of c.args.subject place (at + 1) (drop (at + 1) c.args.handlers.now) (get_or v.items place None)) (sym w.table-is);
      }
    ]
