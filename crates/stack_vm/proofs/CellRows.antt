-- The rows of instructions on cells.
use Rattle.std.proofs.Common.{◌≡◌, ◌≢◌, ◌≤◌, ◌<◌, ◌+◌, ℕ, suc, Bool, true, false, cond, List, ◌∷◌, length, get_or, drop, slice_get, Option, Some, Ok, Err, refl, sym, ap, ◌∙◌, arith, inl, inr}
use Rattle.std.specs.Prelude.{ℤ, pos, negsuc, slice_set, nat_lt}
use Rattle.std.proofs.lemmas.Option.{slice_get-get_or, slice_get_cases, slice_get_within}
use Rattle.std.proofs.lemmas.Bool.Decides.{leb_tells}
use Rattle.int_kinds.specs.declared.kinds.Kind.{Kind}
use Rattle.int_kinds.specs.Kind.{Holds, wrap}
use Rattle.bytecode.specs.declared.code.Code.{Code}
use Rattle.bytecode.specs.declared.code.Fun.{Fun}
use Rattle.bytecode.specs.declared.instr.Instr.TheVariants.{Load, Store, Elem, SetElem, Call}
use Rattle.run_effects.specs.declared.outcome.Outcome.{Outcome}
use Rattle.run_effects.specs.declared.outcome.Outcome.TheVariants.{Trapped}
use Rattle.run_effects.specs.declared.outcome.TrapKind.TheVariants.{Index}
use Rattle.bytecode.specs.Machine.{Machine, Next, Goes, Ends, Stuck}
use Rattle.bytecode.specs.Runs.{HoldKinds}
use Rattle.bytecode.specs.Step.{goes_on, indexing, needing, reads, row, stores, taking_turn}
use Rattle.bytecode.proofs.ZippedLists.{AllZip-same_length}
use Rattle.stack_vm.specs.Inside.Index.{index_of}
use Rattle.stack_vm.proofs.StepLemmas.{one_taken, two_taken}

-- a cell of the code is a cell of the memory
pub cell_there : (kinds : List Kind) (cells : List ℤ) (cell : ℕ) → HoldKinds kinds cells → cell < length kinds → cell < length cells
cell_there kinds cells cell held h = omega (arith, h, AllZip-same_length Holds kinds cells held)

-- a cell that is there is read
pub reads_is : (cell : ℕ) (m : Machine) (stack : List ℤ) → cell < length m.cells → reads cell m stack ≡ goes_on m (get_or m.cells cell (pos 0) ∷ stack)
reads_is cell m stack h = ap (λ (o : Option ℤ). needing o (λ n. goes_on m (n ∷ stack))) (slice_get-get_or m.cells cell (pos 0) h)

-- and stored to
pub stores_is : (kinds : List Kind) (cell : ℕ) (k : Kind) (n : ℤ) (m : Machine) (stack : List ℤ) → cell < length m.cells → slice_get kinds cell ≡ Some k →
    stores kinds cell n m stack ≡ goes_on (record m { cells = slice_set m.cells cell (wrap k n) }) (wrap k n ∷ stack)
stores_is kinds cell k n m stack h e =
    ap (λ (o : Option ℤ). needing o (λ _. needing (slice_get kinds cell) (λ j. goes_on (record m { cells = slice_set m.cells cell (wrap j n) }) (wrap j n ∷ stack)))) (slice_get-get_or m.cells cell (pos 0) h)
    ∙ ap (λ (o : Option Kind). needing o (λ j. goes_on (record m { cells = slice_set m.cells cell (wrap j n) }) (wrap j n ∷ stack))) e

-- a number that is an index
pub record IsIndex (n : ℤ) (len i : ℕ) (m : Machine) (doing : ℕ → Next) : Type 0 where
  pub below : i < len
  pub does : indexing n len m doing ≡ doing i

chosen : (j len i : ℕ) (b : Bool) (m : Machine) (doing : ℕ → Next) → nat_lt j len ≡ b → cond b (Ok j) (Err (Trapped Index)) ≡ Ok i → IsIndex (pos j) len i m doing
chosen j len i true m doing e s =
    let same : j ≡ i = cc in
    elim (leb_tells (suc j) len) [
      | inl below ↦ record {
        below = omega (arith, same, below.1);
        does = ap (λ (b : Bool). cond b (doing j) (Ends (Trapped Index) m)) e ∙ ap doing same;
      }
      | inr past ↦ absurd (let t : true ≡ false = sym e ∙ past.0 in cc)
    ]
chosen j len i false m doing e s = absurd (cc)

-- the row goes on with an index
pub index_is : (n : ℤ) (len i : ℕ) (m : Machine) (doing : ℕ → Next) → index_of n len ≡ Ok i → IsIndex n len i m doing
index_is (pos j) len i m doing e = chosen j len i (nat_lt j len) m doing refl e
index_is (negsuc j) len i m doing e = absurd (cc)

refused : (j len : ℕ) (b : Bool) (m : Machine) (doing : ℕ → Next) (end : Outcome) → cond b (Ok j) (Err (Trapped Index)) ≡ Err end →
    cond b (doing j) (Ends (Trapped Index) m) ≡ Ends end m
refused j len true m doing end e = absurd (cc)
refused j len false m doing end e = ap (λ (o : Outcome). Ends o m) (let same : Trapped Index ≡ end = cc in same)

-- and ends with the trap where it is none
pub no_index : (n : ℤ) (len : ℕ) (m : Machine) (doing : ℕ → Next) (end : Outcome) → index_of n len ≡ Err end → indexing n len m doing ≡ Ends end m
no_index (pos j) len m doing end e = refused j len (nat_lt j len) m doing end e
no_index (negsuc j) len m doing end e = ap (λ (o : Outcome). Ends o m) (let same : Trapped Index ≡ end = cc in same)

module _ (code : Code) (closed : Bool) (moment : ℕ) (m : Machine) where
  -- the number in a cell is given
  pub load_row : (cell : ℕ) (stack : List ℤ) → cell < length m.cells →
      row code closed moment m (Load cell) stack ≡ goes_on m (get_or m.cells cell (pos 0) ∷ stack)
  load_row cell stack h = reads_is cell m stack h

  -- a number is stored in a cell
  pub store_row : (cell : ℕ) (k : Kind) (stack : List ℤ) → 1 ≤ length stack → cell < length m.cells → slice_get code.cells cell ≡ Some k →
      row code closed moment m (Store cell) stack
      ≡ goes_on (record m { cells = slice_set m.cells cell (wrap k (get_or stack 0 (pos 0))) }) (wrap k (get_or stack 0 (pos 0)) ∷ drop 1 stack)
  store_row cell k stack t h e = one_taken stack t _ ∙ stores_is code.cells cell k (get_or stack 0 (pos 0)) m (drop 1 stack) h e

  -- the number of an element is given
  pub element_row : (base len i : ℕ) (stack : List ℤ) → 1 ≤ length stack → index_of (get_or stack 0 (pos 0)) len ≡ Ok i → base + i < length m.cells →
      row code closed moment m (Elem base len) stack ≡ goes_on m (get_or m.cells (base + i) (pos 0) ∷ drop 1 stack)
  element_row base len i stack t e h =
      one_taken stack t _ ∙ (index_is (get_or stack 0 (pos 0)) len i m _ e).does ∙ reads_is (base + i) m (drop 1 stack) h

  -- a number is stored in an element
  pub set_element_row : (base len i : ℕ) (k : Kind) (stack : List ℤ) → 2 ≤ length stack → index_of (get_or stack 1 (pos 0)) len ≡ Ok i →
      base + i < length m.cells → slice_get code.cells (base + i) ≡ Some k →
      row code closed moment m (SetElem base len) stack
      ≡ goes_on (record m { cells = slice_set m.cells (base + i) (wrap k (get_or stack 0 (pos 0))) }) (wrap k (get_or stack 0 (pos 0)) ∷ drop 2 stack)
  set_element_row base len i k stack t e h there =
      two_taken stack t _ ∙ (index_is (get_or stack 1 (pos 0)) len i m _ e).does
      ∙ stores_is code.cells (base + i) k (get_or stack 0 (pos 0)) m (drop 2 stack) h there

  -- a function is called
  pub call_row : (f : ℕ) (function : Fun) (turns : ℕ) (stack : List ℤ) → slice_get code.functions f ≡ Some function → m.turns ≡ suc turns →
      row code closed moment m (Call f) stack ≡ Goes (record m { place = function.start; calls = (m.place + 1) ∷ m.calls; turns = turns })
  call_row f function turns stack there e =
      ap (λ (o : Option Fun). needing o (λ g. taking_turn m.turns m (λ after. Goes (record after { place = g.start; calls = (m.place + 1) ∷ m.calls })))) there
      ∙ ap (λ (t : ℕ). taking_turn t m (λ after. Goes (record after { place = function.start; calls = (m.place + 1) ∷ m.calls }))) e

  -- a row that is not stuck calls a function that exists
  pub callee_there : (f : ℕ) (stack : List ℤ) → row code closed moment m (Call f) stack ≢ Stuck → f < length code.functions
  callee_there f stack runs =
      elim ((slice_get_cases code.functions f).1) [
        | inl there ↦ slice_get_within code.functions f there.0 there.2
        | inr past ↦ absurd (runs (ap (λ (o : Option Fun). needing o (λ g. taking_turn m.turns m (λ after. Goes (record after { place = g.start; calls = (m.place + 1) ∷ m.calls })))) past.1))
      ]
