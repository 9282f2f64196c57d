-- An order in which functions stand behind what they call.
use Rattle.std.proofs.Common.{◌≡◌, ◌⊎◌, ◌<◌, ◌∙◌, ℕ, false, List, Some, inl, inr, ap, sym, subst, length, get_or}
use Rattle.std.specs.Prelude.{slice_get}
use Rattle.std.proofs.lemmas.Bool.{false≢true}
use Rattle.std.proofs.lemmas.List.{length-map}
use Rattle.std.proofs.lemmas.Option.{slice_get-get_or, slice_get_within}
use Rattle.capl_meaning.specs.Names.{Function, Names}
use Rattle.capl_meaning.specs.Calls.{called_by_number, reaches}
use Rattle.typed_source.specs.Program.{IsBefore, IsGoodOrder}
use Rattle.check_calls.specs.declared.calls.Calls.{Calls}
use Rattle.check_calls.specs.Callees.{callees, calls_of_all, functions_at}
use Rattle.check_calls.specs.Calls.{AreCallsOf, GoForward, indices_of, order_of}
use Rattle.check_calls.specs.Graph.{AreCallees, Leads, Reaches, StandsBefore, rows_of}
use Rattle.check_calls.proofs.ComponentLemmas.{reached_number}
use Rattle.check_calls.proofs.GraphLemmas.{at_map, called_leads}

-- there are as many rows as functions
pub rows_count : (names : Names) (rows : List (List ℕ)) → AreCallees names rows → length rows ≡ length names.functions
rows_count names rows are =
    sym (length-map rows (functions_at names)) ∙ ap length are ∙ length-map names.functions (λ f. callees names (calls_of_all f.body))

-- a function that is called stands before its caller, where it does not reach it
called_before : (names : Names) (calls : Calls) → AreCallsOf names calls → (number z : ℕ) → (k : ℕ) → slice_get (called_by_number names number) k ≡ Some z →
    reaches names z number ≡ false → IsBefore (order_of calls) z number
called_before names calls are number z k call apart i j one other =
    by (are.behind j caller.0 called.0 caller.2 leads (subst (λ (n : ℕ). called.0 < n) (sym (rows_count names rows are.callees)) (slice_get_within names.functions called.0 called.1 called.3)))
  where
    rows : List (List ℕ)
    rows = rows_of calls.callees.items

    called : (a : ℕ) × (f : Function) × (slice_get (indices_of calls) i ≡ Some a) × (slice_get names.functions a ≡ Some f) × (f.number ≡ z)
    called = are.indices i z one

    caller : (b : ℕ) × (f : Function) × (slice_get (indices_of calls) j ≡ Some b) × (slice_get names.functions b ≡ Some f) × (f.number ≡ number)
    caller = are.indices j number other

    led : (a : ℕ) × (g : Function) × Leads rows caller.0 a × (slice_get names.functions a ≡ Some g) × (g.number ≡ z)
    led = called_leads names rows caller.0 z caller.1 are.callees are.numbered caller.3
        (k, ap (λ (n : ℕ). slice_get (called_by_number names n) k) caller.4 ∙ call)

    leads : Leads rows caller.0 called.0
    leads = subst (Leads rows caller.0) (are.apart led.0 called.0 led.1 called.1 led.3 called.3 (led.4 ∙ sym called.4)) led.2

    by : StandsBefore (indices_of calls) j called.0 ⊎ Reaches rows called.0 caller.0 → i < j
    by (inl earlier) = subst (λ (n : ℕ). n < j) (are.indices_apart earlier.0 i called.0 earlier.2 called.2) earlier.1
    by (inr reach) =
        let there = ap (λ (l : List ℕ). slice_get l caller.0) are.numbers ∙ at_map (λ g. g.number) names.functions caller.0 caller.1 caller.3 in
        let is = reached_number names rows calls.numbers.items called.0 called.1 caller.0 caller.1.number are.callees are.numbered are.numbers called.3 there reach in
        absurd (false≢true (sym apart ∙ ap (λ (n : ℕ). reaches names n number) (sym called.4) ∙ ap (reaches names called.1.number) (sym caller.4) ∙ is))

-- where no function that another calls reaches it, the order is good
pub order_good : (names : Names) (calls : Calls) → AreCallsOf names calls → GoForward names → IsGoodOrder names (order_of calls)
order_good names calls are forward = record {
  has_each = are.has_each;
  has_no_other = are.has_no_other;
  once = are.once;
  calls_earlier = λ number k d within.
      let at = slice_get-get_or (called_by_number names number) k d within in
      called_before names calls are number (get_or (called_by_number names number) k d) k at (forward number k d within);
}
