-- The pieces that are not empty.
use Rattle.std.proofs.Common.{rules, tests, Ok, List, ℕ}
use Rattle.std.specs.Prelude.{not, ◌==◌, length}
use Rattle.std.specs.List.{slice_split}
use Rattle.std.specs.Slice.Iter as slice
use Rattle.std.specs.Borrow.{Bor}
use Rattle.std.specs.declared.alloc.AllocError.{AllocError}
use Rattle.std.proofs.lemmas.Iterator.Consumers.{YieldsList-from_filter, map_from_collect}
use Rattle.std.proofs.lemmas.Iterator.Splits.{YieldsList-from_slice_split}
use Rattle.scenario.specs.Item.{is_gap}
use Rattle.scenario.proofs.fields.split_at_blanks.Goals as goal

pub returns : goal.returns
returns c =
    map_from_collect {E = AllocError} (Ok c.in_ok-fields.fields) c.in_ok-fields.ensures.ran
    (YieldsList-from_filter {steps = slice.split_steps _} {v = λ (x : Bor (List ℕ)). x.now} {ys = slice_split is_gap c.args.line.now} {s = c.filter.result} _ (λ field. not (length field == 0))
    (rw c.filter.ensures.source
    (YieldsList-from_slice_split {s = c.split.result} _ is_gap c.args.line.now c.split.ensures.rest c.split.ensures.done c.split.ensures.closure
    (λ x b q k. search (rules, tests))))
    c.filter.ensures.closure (λ x b q k. search (rules, tests)))
