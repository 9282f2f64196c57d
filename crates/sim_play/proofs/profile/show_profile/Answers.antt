-- The lines of the nodes that were passed, and then those of the next, are the first lines of all.
use Rattle.std.proofs.Common.{◌+◌, ◌<◌, List, arith, ap, length, refl, sym, ◌∙◌}
use Rattle.bytecode.specs.declared.code.Code.{Code}
use Rattle.bytecode.specs.declared.code.Handler.{Handler}
use Rattle.sim_play.specs.Inside.Counted.{handlers_of, row_in}
use Rattle.sim_play.proofs.Grows.{on_err}
use Rattle.sim_play.proofs.NodeLines.{as_many, begins_by_node, grows_by_node, member_at, own_at, rows_among, rows_more}
use Rattle.sim_play.proofs.profile.show_profile.Goals as goal

pub prove-unreachable-requires : goal.prove-unreachable-requires
prove-unreachable-requires g c =
    let number = c.loop-number.number in
    let own : List Handler = c.as_slice-handlers.result.now in
    let same = c.as_slice-handlers.ensures ∙ ap (λ (k : Code). k.handlers) (c.code-in-loop-number.ensures.same ∙ c.code.ensures) in
    let here = own_at c.args.nodes.now number c.index-nodes-number.result own c.index-nodes-number.is c.loop-number-test.true same in
    let within : number < length (handlers_of c.args.nodes.now) = omega (arith, as_many c.args.nodes.now) in
    let among = rows_among (handlers_of c.args.nodes.now) number own here within in
    let first = c.loop-number.invariant.is_first in
    omega (arith, among, first)

pub returns-in_err-show_handlers-clause-refused : goal.returns-in_err-show_handlers-clause-refused
returns-in_err-show_handlers-clause-refused g c =
    let number = c.loop-number.number in
    let own : List Handler = c.as_slice-handlers.result.now in
    let same = c.as_slice-handlers.ensures ∙ ap (λ (k : Code). k.handlers) (c.code-in-loop-number.ensures.same ∙ c.code.ensures) in
    let long = as_many c.args.nodes.now in
    on_err c.from_residual.result
    (begins_by_node c.args.labels.now.names c.args.labels.now.files (row_in c.args.meter.now) (handlers_of c.args.nodes.now) number c.index-as_slice-number.result c.as_slice-files.result.now own
    (record {
      name_is = member_at number refl c.as_slice.ensures c.index-as_slice-number.is;
      files_are = member_at number c.as_slice-files.ensures c.as_slice-in-loop-number.ensures c.index-as_slice-number-in-loop-number.is;
      own_are = own_at c.args.nodes.now number c.index-nodes-number.result own c.index-nodes-number.is c.loop-number-test.true same;
      as_many_names = c.requires.names ∙ sym long;
      as_many_files = c.requires.files ∙ sym long;
      there = omega (arith, long);
    })
    (g.S.Sink.written c.args.sink.now) (g.S.Sink.written c.loop-number.sink) (g.S.Sink.written c.show_handlers.new.sink) c.loop-number.first_row c.loop-number.invariant.is_first
    c.loop-number.invariant.grows c.in_err-show_handlers.ensures.refused)

pub loop-number-preserved : goal.loop-number-preserved
loop-number-preserved g c =
    let number = c.loop-number.number in
    let own : List Handler = c.as_slice-handlers.result.now in
    let same = c.as_slice-handlers.ensures ∙ ap (λ (k : Code). k.handlers) (c.code-in-loop-number.ensures.same ∙ c.code.ensures) in
    let long = as_many c.args.nodes.now in
    let here = own_at c.args.nodes.now number c.index-nodes-number.result own c.index-nodes-number.is c.loop-number-test.true same in
    let within : number < length (handlers_of c.args.nodes.now) = omega (arith, long) in
    record {
      is_first = ap (λ n. n + length own) c.loop-number.invariant.is_first ∙ sym (rows_more (handlers_of c.args.nodes.now) number own here within);
      grows = grows_by_node c.args.labels.now.names c.args.labels.now.files (row_in c.args.meter.now) (handlers_of c.args.nodes.now) number c.index-as_slice-number.result c.as_slice-files.result.now own
          (record {
            name_is = member_at number refl c.as_slice.ensures c.index-as_slice-number.is;
            files_are = member_at number c.as_slice-files.ensures c.as_slice-in-loop-number.ensures c.index-as_slice-number-in-loop-number.is;
            own_are = here;
            as_many_names = c.requires.names ∙ sym long;
            as_many_files = c.requires.files ∙ sym long;
            there = within;
          })
          (g.S.Sink.written c.args.sink.now) (g.S.Sink.written c.loop-number.sink) (g.S.Sink.written c.show_handlers.new.sink) c.loop-number.first_row c.loop-number.invariant.is_first
          c.loop-number.invariant.grows c.in_ok-show_handlers.ensures.shown;
      faults_stay = let before = c.loop-number.invariant.faults_stay in let more = c.show_handlers.ensures.faults_stay in omega (arith, before, more);
    }
