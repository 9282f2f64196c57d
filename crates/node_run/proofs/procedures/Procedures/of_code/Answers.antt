-- The tables are those of the code.
use Rattle.std.proofs.Common.{◌<◌, ◌^◌, arith, ◌∙◌, ap, sym, subst, inl, inr, List, None, length}
use Rattle.std.proofs.lemmas.Bool.{cases_lt}
use Rattle.std.proofs.lemmas.List.{get_or_past}
use Rattle.bytecode.specs.declared.code.Code.{Code}
use Rattle.bytecode.specs.declared.code.Handler.{Handler}
use Rattle.bytecode.specs.Verified.{IsVerified}
use Rattle.std.specs.List.Sorted.{IsPermutation}
use Rattle.node_rounds.specs.Procedures.{first_where, is_any_key}
use Rattle.node_run.specs.Code.{events_of}
use Rattle.node_run.specs.Inside.Tables.{IsTable, message_selectors}
use Rattle.node_run.specs.declared.tables.Subject.TheVariants.{Keys, Timers}
use Rattle.node_run.proofs.MessageChoices.{chosen_is_procedure}
use Rattle.node_run.proofs.ProcedureTables.{none_behind}
use Rattle.node_run.proofs.procedures.Procedures.of_code.Goals as goal

pub invariant_of-result : goal.invariant_of-result
invariant_of-result c =
    let handlers = c.args.code.handlers in
    let same = c.as_slice-handlers.ensures ∙ ap (λ (code : Code). code.handlers) c.code-2.ensures.same in
    let verified = subst IsVerified c.code-2.ensures.same c.code-2.ensures.verified in
    let keeps = verified.tables.handlers in
    let count = c.len.ensures ∙ ap (λ (code : Code). length code.timers) c.code-3.ensures.same in
    let timers = subst (λ n. IsTable Timers (events_of handlers) n c.in_ok-timers.timers.items) count
    (subst (λ (hs : List Handler). IsTable Timers (events_of hs) c.len.result c.in_ok-timers.timers.items) same c.in_ok-timers.ensures) in
    record {
      verified = verified;
      numbered = subst (λ (code : Code). length code.handlers < 2 ^ 32) c.code-2.ensures.same c.code-2.ensures.short.handlers;
      timers = λ timer. elim (cases_lt timer (length c.args.code.timers)) [
        | inl here ↦ timers.each timer here
        | inr behind ↦
            get_or_past c.in_ok-timers.timers.items timer None (omega (arith, behind, timers.as_many)) ∙ sym (none_behind handlers (length c.args.code.timers) timer keeps.timers.exist behind)
      ];
      keys = subst (λ (hs : List Handler). IsTable Keys (events_of hs) 256 c.in_ok-keys.keys.items) same c.in_ok-keys.ensures;
      any_key = c.first_handler-any_key.ensures ∙ ap (λ (hs : List Handler). first_where is_any_key (events_of hs)) same;
      messages = chosen_is_procedure handlers c.in_ok-messages.messages keeps.selectors
          (subst (λ (hs : List Handler). IsPermutation (message_selectors 0 (events_of hs)) c.in_ok-messages.messages) same c.in_ok-messages.ensures);
    }
