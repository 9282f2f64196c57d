-- The turns of the rows that were passed, and then those of the next, are the turns of one row more.
use Rattle.std.proofs.Common.{◌≡◌, ℕ, ◌+◌, ◌<◌, List, Option, get_or, length, take, arith, ap, sym, ◌∙◌}
use Rattle.std.specs.List.{sum_by}
use Rattle.std.specs.Option.{unwrap_or}
use Rattle.std.proofs.lemmas.List.Sums.{sum_by_more}
use Rattle.std.proofs.lemmas.Option.{slice_get-get_or}
use Rattle.stack_vm.specs.declared.meter.MeterRow.{MeterRow}
use Rattle.sim_play.specs.Inside.Counted.{row_in}
use Rattle.sim_play.specs.Show.{capped}
use Rattle.sim_play.proofs.RowLemmas.{no_runs}
use Rattle.sim_play.proofs.summary.turns_in.Goals as goal

capped_more : (sum more : ℕ) → capped (capped sum + more) ≡ capped (sum + more)
capped_more sum more = omega arith

turns_more : (meter : List MeterRow) (number turns : ℕ) (row : MeterRow) → turns ≡ capped (sum_by (λ r. r.turns) (take number meter)) → row ≡ row_in meter number → number < length meter
    → capped (turns + row.turns) ≡ capped (sum_by (λ r. r.turns) (take (number + 1) meter))
turns_more meter number turns row before is there =
    let all : ℕ = sum_by (λ (r : MeterRow). r.turns) (take number meter) in
    let row_is : row ≡ get_or meter number no_runs = is ∙ ap (λ (o : Option MeterRow). unwrap_or o no_runs) (slice_get-get_or meter number no_runs there) in
    ap (λ n. capped (n + row.turns)) before ∙ ap (λ (r : MeterRow). capped (capped all + r.turns)) row_is ∙ capped_more all (get_or meter number no_runs).turns
    ∙ ap capped (sym (sum_by_more (λ (r : MeterRow). r.turns) meter number no_runs there))

pub loop-number-preserved : goal.loop-number-preserved
loop-number-preserved c =
    c.saturating_add-turns.ensures
    ∙ turns_more c.args.meter.now c.loop-number.number c.loop-number.turns c.row_in.result c.loop-number.invariant c.row_in.ensures (omega arith)
