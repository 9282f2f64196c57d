-- The calls of a program, as code has them.
use Rattle.std.specs.Prelude.{◌≡◌, ◌≢◌, ℕ, false, List, map, slice_get, slice_index, Some, All, AllPairs}
use Rattle.std.specs.List.Sorted.{IsStrictlyIncreasing}
use Rattle.capl_meaning.specs.Names.{Function, Names}
use Rattle.capl_meaning.specs.Calls.{called_by_number, function_numbered, reaches}
use Rattle.typed_source.specs.Expression.{place_in}
use Rattle.typed_source.specs.Program.{HasEach, HasNoOther}
use Rattle.check_calls.specs.declared.calls.Calls.{Calls}
use Rattle.check_calls.specs.Graph.{AreApart, AreCallees, StandBehind, rows_of}
use Rattle.check_calls.specs.Components.{AreComponents}

-- the order of the functions, by the numbers of their procedures
abbrev pub order_of : Calls → List ℕ
order_of calls = calls.order.items

-- the functions in this order, each by its place among the functions of the program
abbrev pub indices_of : Calls → List ℕ
indices_of calls = calls.indices.items

-- the functions of a program in an order, by their numbers, are those of these places
abbrev pub AreAt : Names → List ℕ → List ℕ → Type 0
AreAt names order indices = (k number : ℕ) → slice_get order k ≡ Some number →
    (i : ℕ) × (f : Function) × (slice_get indices k ≡ Some i) × (slice_get names.functions i ≡ Some f)
    × (f.number ≡ number)

-- no function of a program that is called reaches the one that calls it
abbrev pub GoForward : Names → Type 0
GoForward names =
    (number : ℕ) → All (λ called. reaches names called number ≡ false) (called_by_number names number)

-- these are the calls of a program
pub record AreCallsOf (names : Names) (calls : Calls) : Type 0 where
  pub has_each : HasEach names (order_of calls)
  pub has_no_other : HasNoOther names (order_of calls)
  pub once : AllPairs (λ one other. one ≢ other) (order_of calls)
  pub numbered : (k : ℕ) (f : Function) → slice_get names.functions k ≡ Some f →
      function_numbered names f.number ≡ Some f
  pub apart : (i j : ℕ) (f g : Function) → slice_get names.functions i ≡ Some f →
      slice_get names.functions j ≡ Some g → f.number ≡ g.number → i ≡ j
  pub indices : AreAt names (order_of calls) (indices_of calls)
  pub indices_apart : AreApart (indices_of calls)
  pub behind : StandBehind (rows_of calls.callees.items) (indices_of calls)
  pub places : (k : ℕ) (f : Function) → slice_get names.functions k ≡ Some f →
      place_in (order_of calls) f.number ≡ Some (slice_index calls.places.items k)
  pub numbers : calls.numbers.items ≡ map (λ f. f.number) names.functions
  pub callees : AreCallees names (rows_of calls.callees.items)
  pub rising : IsStrictlyIncreasing calls.numbers.items
  pub components : AreComponents (rows_of calls.callees.items) calls.components
