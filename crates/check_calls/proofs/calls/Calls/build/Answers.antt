-- The order is of all functions, each once.
use Rattle.std.proofs.Common.{◌≡◌, ◌<◌, ◌∷◌, ◌∙◌, ℕ, List, ap, sym, subst, length, arith}
use Rattle.std.specs.Global.{Vec}
use Rattle.std.specs.Prelude.{map, slice_index}
use Rattle.std.proofs.lemmas.List.{length-map}
use Rattle.std.specs.List.Sorted.{IsStrictlyIncreasing}
use Rattle.capl_meaning.specs.Names.{Function}
use Rattle.check_calls.specs.Callees.{callees, calls_of_all, functions_at}
use Rattle.check_calls.specs.Graph.{StandBehind, rows_of}
use Rattle.check_calls.specs.Components.{AreComponents}
use Rattle.check_calls.specs.Inside.Order.{AreWhere}
use Rattle.check_calls.proofs.OrderLemmas.{IsMade, at_order, functions_apart, functions_numbered, order_each, order_no_other, order_once, order_place, rise_behind}
use Rattle.check_calls.proofs.calls.Calls.build.Goals as goal

-- as many rows as functions
pub depth_first-requires : goal.depth_first-requires
depth_first-requires c =
    let rows = c.in_ok-callees.callees.items in
    let same = ap length c.in_ok-callees.ensures in
    let one = length-map (rows_of rows) (functions_at c.args.names.now) in
    let two = length-map c.args.names.now.functions (λ f. callees c.args.names.now (calls_of_all f.body)) in
    let three = length-map rows (λ (row : Vec ℕ). row.items) in
    let numbers = ap length c.as_slice.ensures.value ∙ ap length c.in_ok-numbers.ensures in
    let many = length-map c.args.names.now.functions (λ (f : Function). f.number) in
    let here = ap length c.as_slice-2.ensures.value in
    omega (arith, c.count_of-count.ensures, same, one, two, three, numbers, many, here)

pub returns : goal.returns
returns c =
    let names = c.args.names.now in
    let numbers : List ℕ = c.in_ok-numbers.numbers.items in
    let indices : List ℕ = c.in_ok-indices.indices.items in
    let order : List ℕ = c.in_ok-order.order.items in
    let rising = rise_behind numbers
    (subst (λ (l : List ℕ). IsStrictlyIncreasing (0 ∷ l)) (sym c.in_ok-numbers.ensures) c.functions_rise.ensures) in
    let count : c.count_of-count.result ≡ length numbers = c.count_of-count.ensures ∙ ap length c.as_slice.ensures.value in
    let apart = functions_apart names numbers c.in_ok-numbers.ensures rising in
    let made : IsMade names numbers indices order = record {
      all = c.in_ok-numbers.ensures;
      apart = apart;
      each = λ place within. c.in_ok-indices.ensures.each place (subst (λ (n : ℕ). place < n) (sym count) within);
      within = λ k place at. subst (λ (n : ℕ). place < n) count (c.in_ok-indices.ensures.within k place at);
      once = c.in_ok-indices.ensures.apart;
      taken =
          c.in_ok-order.ensures ∙ ap (λ (l : List ℕ). map (slice_index l) c.as_slice-5.result.now) c.as_slice-4.ensures.value
          ∙ ap (map (slice_index numbers)) c.as_slice-5.ensures.value;
    } in
    let where_ : AreWhere c.in_ok-places.places.items indices =
    subst (AreWhere c.in_ok-places.places.items) c.as_slice-3.ensures.value
    c.in_ok-places.ensures in
    record {
      has_each = order_each names numbers indices order made;
      has_no_other = order_no_other names numbers indices order made;
      once = order_once names numbers indices order made;
      numbered = functions_numbered names apart;
      apart = apart;
      indices = at_order names numbers indices order made;
      indices_apart = c.in_ok-indices.ensures.apart;
      behind = subst (λ (l : List (Vec ℕ)). StandBehind (rows_of l) indices) c.as_slice-2.ensures.value c.in_ok-indices.ensures.behind;
      places = order_place names numbers indices order c.in_ok-places.places.items made where_;
      numbers = c.in_ok-numbers.ensures;
      callees = c.in_ok-callees.ensures;
      rising = rising;
      components = subst (λ (l : List (Vec ℕ)). AreComponents (rows_of l) c.in_ok-components.components) c.as_slice-6.ensures.value
          c.in_ok-components.ensures;
    }
