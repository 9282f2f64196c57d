-- What steps make of a row of zeros, and which rows nodes have.
use Rattle.std.proofs.Common.{◌≡◌, ℕ, ◌+◌, ◌-◌, ◌^◌, ◌<◌, ◌≤◌, min, Bool, true, false, cond, List, [], ◌∷◌, Some, All, length, replicate, slice_get, arith, ap, ap₂, sym, ◌∙◌}
use Rattle.std.specs.Prelude.{count_by, filter, sum_by}
use Rattle.std.proofs.lemmas.List.{get_or-replicate, length-replicate}
use Rattle.std.proofs.lemmas.List.Elements.{All-cons, All-nil}
use Rattle.std.proofs.lemmas.List.Sums.{sum_by-cons}
use Rattle.std.proofs.lemmas.Option.{slice_get-get_or}
use Rattle.bytecode.specs.declared.code.Handler.{Handler}
use Rattle.stack_vm.specs.declared.meter.MeterRow.{MeterRow}
use Rattle.stack_vm.specs.Meter.{row_after}
use Rattle.node_run.specs.Node.{HasRows, NodeInRound}
use Rattle.run_meaning.specs.Counts.{AddsSteps, adds_to, row_then, row_with, step_turns}
use Rattle.run_meaning.specs.Steps.{Step}
use Rattle.sim_core.specs.Core.{HaveRows}
use Rattle.sim_play.specs.Inside.Counted.{handlers_of, row_count}
use Rattle.sim_play.specs.Play.{AreNewRows, StandInOrder}

-- ---- one row

-- the row of zeros
abbrev pub no_runs : MeterRow
no_runs = record { runs = 0; turns = 0 }

-- a sum that is capped, and then grows, is the capped sum of all
capped : (a b c most : ℕ) → a ≤ most → min (min (a + b) most + c) most ≡ min (a + (b + c)) most
capped a b c most in_range = omega arith

capped_none : (a most : ℕ) → a ≤ most → a ≡ min (a + 0) most
capped_none a most in_range = omega arith

abbrev most : ℕ
most = 2 ^ 64 - 1

abbrev row_by : ℕ → ℕ → MeterRow
row_by runs turns = record { runs = runs; turns = turns }

-- a row in range after steps
row_grown : (first_rows : List ℕ) (number : ℕ) (row : MeterRow) (steps : List Step) → row.runs ≤ most → row.turns ≤ most
    → row_with first_rows number row steps
    ≡ row_by (min (row.runs + count_by (adds_to first_rows number) steps) most) (min (row.turns + sum_by step_turns (filter (adds_to first_rows number) steps)) most)
row_grown first_rows number row [] runs turns = ap₂ row_by (capped_none row.runs most runs) (capped_none row.turns most turns)
row_grown first_rows number row (step ∷ steps) runs turns =
    by (adds_to first_rows number step) (λ r a b. row_grown first_rows number r steps a b)
    ∙ ap (λ n. row_by (min (row.runs + n) most) (min (row.turns + sum_by step_turns (filter (adds_to first_rows number) (step ∷ steps))) most))
    (sym (sum_by-cons (λ (s : Step). cond (adds_to first_rows number s) 1 0) step steps))
  where
    by : (b : Bool)
        → ((r : MeterRow) → r.runs ≤ most → r.turns ≤ most → row_with first_rows number r steps
        ≡ row_by (min (r.runs + count_by (adds_to first_rows number) steps) most) (min (r.turns + sum_by step_turns (filter (adds_to first_rows number) steps)) most))
        → row_with first_rows number (cond b (row_after (step_turns step) row) row) steps
        ≡ row_by (min (row.runs + (cond b 1 0 + count_by (adds_to first_rows number) steps)) most)
        (min (row.turns + sum_by step_turns (cond b (step ∷ filter (adds_to first_rows number) steps) (filter (adds_to first_rows number) steps))) most)
    by true more =
        more (row_after (step_turns step) row) (omega arith) (omega arith)
        ∙ ap₂ row_by (capped row.runs 1 (count_by (adds_to first_rows number) steps) most runs)
        (capped row.turns (step_turns step) (sum_by step_turns (filter (adds_to first_rows number) steps)) most turns
        ∙ ap (λ n. min (row.turns + n) most) (sym (sum_by-cons step_turns step (filter (adds_to first_rows number) steps))))
    by false more = more row runs turns ∙ ap (λ n. row_by (min (row.runs + n) most) (min (row.turns + sum_by step_turns (filter (adds_to first_rows number) steps)) most)) (omega arith)

-- a row of zeros after steps
pub row_from_none : (first_rows : List ℕ) (number : ℕ) (steps : List Step) → row_with first_rows number no_runs steps ≡ row_then first_rows steps number
row_from_none first_rows number steps = row_grown first_rows number no_runs steps (omega arith) (omega arith) ∙ ap₂ row_by (zeros (count_by (adds_to first_rows number) steps) most) (zeros (sum_by step_turns (filter (adds_to first_rows number) steps)) most)
  where
    zeros : (n most : ℕ) → min (0 + n) most ≡ min n most
    zeros n most = omega arith

-- ---- a meter

among_zeros : (n number : ℕ) → number < n → slice_get (replicate n no_runs) number ≡ Some no_runs
among_zeros n number there =
    slice_get-get_or (replicate n no_runs) number no_runs (omega (arith, length-replicate n no_runs, there)) ∙ ap (λ (r : MeterRow). Some r) (get_or-replicate n number no_runs no_runs there)

-- after steps, each row of a new meter is that of the steps
pub counts_then : {first_rows : List ℕ} {steps : List Step} {nodes : List NodeInRound} {before after : List MeterRow} → AreNewRows nodes before → AddsSteps first_rows steps before after
    → (number : ℕ) → number < length after → slice_get after number ≡ Some (row_then first_rows steps number)
counts_then {first_rows} {steps} {nodes} {before} {after} rows adds number there =
    let long = adds.as_many in
    adds.added number no_runs (ap (λ (m : List MeterRow). slice_get m number) rows.zeros ∙ among_zeros (length before) number (omega (arith, long, there)))
    ∙ ap (λ (r : MeterRow). Some r) (row_from_none first_rows number steps)

-- ---- rows in order

-- rows in order end where all have come
pub order_ends : (number : ℕ) (nodes : List NodeInRound) (end : ℕ) → StandInOrder number nodes end → end ≡ number + row_count (handlers_of nodes)
order_ends number [] end order = order ∙ omega arith
order_ends number (node ∷ nodes) end order =
    let own : List Handler = node.doing.node.memory.code.handlers in
    let more = order_ends (number + length own) nodes end order.1 in
    let count = sum_by-cons length own (handlers_of nodes) in
    omega (arith, more, count)

-- a meter has the rows of nodes in order that end with it
order_has : (meter : List MeterRow) (number : ℕ) (nodes : List NodeInRound) → StandInOrder number nodes (length meter) → All (HasRows meter) nodes
order_has meter number [] order = All-nil (HasRows meter)
order_has meter number (node ∷ nodes) order =
    let own : List Handler = node.doing.node.memory.code.handlers in
    let ends = order_ends (number + length own) nodes (length meter) order.1 in
    let first = order.0 in
    All-cons (HasRows meter) node nodes (λ handler there. omega (arith, ends, first, there)) (order_has meter (number + length own) nodes order.1)

-- a new meter has the rows of its nodes
pub new_rows_have : {nodes : List NodeInRound} {meter : List MeterRow} → AreNewRows nodes meter → HaveRows meter nodes
new_rows_have {nodes} {meter} rows = order_has meter 0 nodes rows.in_order
