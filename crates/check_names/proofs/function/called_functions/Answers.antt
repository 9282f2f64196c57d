-- One more function.
use Rattle.std.proofs.Common.{rules, ◌∙◌, ap, arith, List, ℕ, Some, None}
use Rattle.std.specs.Prelude.{if◌then◌else◌}
use Rattle.std.specs.Option.{option_or}
use Rattle.std.specs.Str.{bytes_eq}
use Rattle.check_names.specs.Inside.Table.{numbered}
use Rattle.check_names.proofs.FunctionLemmas.{called_more}
use Rattle.check_names.proofs.NumberLemmas.{place_below}
use Rattle.check_names.proofs.function.called_functions.Goals as goal

pub loop-function-preserved : goal.loop-function-preserved
loop-function-preserved c = record {
  number = search rules;
  table =
      called_more c.loop-function.table c.note.new.self c.args.functions.now c.loop-function.function-index
      c.loop-function.number c.function-item.result c.loop-function-test.true c.function-item.is
      c.loop-function.invariant.number c.loop-function.invariant.table
      (λ name. c.in_ok-note.ensures.noted name ∙ ap (λ (n : List ℕ). option_or (numbered c.loop-function.table name)
      (if bytes_eq name n then Some c.loop-function.number else None)) c.bytes.ensures);
}

pub behind-number-requires : goal.behind-number-requires
behind-number-requires c =
    let place = place_below c.args.functions.now c.loop-function.function-index c.function-item.result c.requires
    c.loop-function-test.true c.function-item.is in
    omega (arith, place, c.loop-function.invariant.number)
