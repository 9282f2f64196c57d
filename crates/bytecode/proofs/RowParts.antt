-- Parts of rows in verified code: a cell is read or written, bytes are written, an operator gives a number, an effect.
use Rattle.std.proofs.Common.{◌≡◌, ◌≤◌, ◌<◌, ◌+◌, ℕ, suc, Bool, true, false, List, ◌∷◌, length, slice_get, Option, Some, None, refl, sym, subst, arith}
use Rattle.std.specs.Prelude.{ℤ, slice_set}
use Rattle.std.specs.List.{AllByRecursion}
use Rattle.int_kinds.specs.declared.kinds.Kind.{Kind}
use Rattle.int_kinds.specs.declared.operators.BinOp.{BinOp}
use Rattle.int_kinds.specs.declared.operators.BinOp.TheVariants.{OrElse, AndAlso}
use Rattle.int_kinds.specs.Kind.{Holds, IsNumber, wrap}
use Rattle.int_kinds.specs.Arithmetic.{value}
use Rattle.int_kinds.proofs.Values.{Holds-value, IsNumber-held, IsNumber-wrap}
use Rattle.int_kinds.proofs.Wrapping.{Holds-wrap}
use Rattle.bytecode.specs.declared.code.Code.{Code}
use Rattle.bytecode.specs.Machine.{Machine}
use Rattle.message_cells.specs.Message.{IsMessage}
use Rattle.bytecode.specs.Rule.{IsOperation, IsReached, Target}
use Rattle.bytecode.specs.Runs.{HoldKinds}
use Rattle.bytecode.specs.Step.{goes_on, gives_or_traps, operates, reads, stores, stores_bytes, unless}
use Rattle.bytecode.proofs.ListItems.{item_below}
use Rattle.bytecode.proofs.MachineStates.{IsSafeStep, Stands}
use Rattle.bytecode.proofs.MessageCells.{AreBytes, HoldKinds-bytes}
use Rattle.bytecode.proofs.Moves.{IsSafeStep-needing, IsSafeStep-on, IsSafeStep-on_cells, IsSafeStep-on_same}
use Rattle.bytecode.proofs.ZippedLists.{AllZip-partner, AllZip-set}

module _ {code : Code} {m : Machine} (s : Stands code m) where
  -- a cell is read
  pub IsSafeStep-reads : (cell : ℕ) (stack : List ℤ) (target : Target) → target.place ≡ m.place + 1 → cell < length code.cells →
      AllByRecursion IsNumber stack → suc (length stack) ≡ target.depth + s.below → IsReached code s.function target → IsSafeStep s (reads cell m stack)
  IsSafeStep-reads cell stack target p within numbers height reached =
      let k = item_below code.cells cell within in
      let v = AllZip-partner Holds code.cells m.cells s.cells_held cell k.item k.is_there in
      IsSafeStep-needing s (slice_get m.cells cell) v.item _ v.is_there
      (IsSafeStep-on_same s (v.item ∷ stack) target p (IsNumber-held k.item v.item v.goes_with, numbers) height reached)

  -- a cell is written
  pub IsSafeStep-stores : (cell : ℕ) (n : ℤ) (stack : List ℤ) (target : Target) → target.place ≡ m.place + 1 → cell < length code.cells →
      AllByRecursion IsNumber stack → suc (length stack) ≡ target.depth + s.below → IsReached code s.function target →
      IsSafeStep s (stores code.cells cell n m stack)
  IsSafeStep-stores cell n stack target p within numbers height reached =
      let k = item_below code.cells cell within in
      let v = AllZip-partner Holds code.cells m.cells s.cells_held cell k.item k.is_there in
      IsSafeStep-needing s (slice_get m.cells cell) v.item _ v.is_there
      (IsSafeStep-needing s (slice_get code.cells cell) k.item _ k.is_there
      (IsSafeStep-on_cells s (slice_set m.cells cell (wrap k.item n)) (wrap k.item n ∷ stack) target p
      (AllZip-set Holds code.cells m.cells s.cells_held cell k.item (wrap k.item n) k.is_there (Holds-wrap k.item n))
      (IsNumber-wrap k.item n, numbers) height reached))

  -- bytes of a payload are written
  pub IsSafeStep-bytes : (base i : ℕ) (bytes : List ℕ) (given : ℤ) (stack : List ℤ) (target : Target) → target.place ≡ m.place + 1 → IsMessage code.cells base →
      i + length bytes ≤ 8 → AreBytes bytes → IsNumber given →
      AllByRecursion IsNumber stack → suc (length stack) ≡ target.depth + s.below → IsReached code s.function target →
      IsSafeStep s (stores_bytes base i bytes given m stack)
  IsSafeStep-bytes base i bytes given stack target p message room bytes_are n numbers height reached =
      IsSafeStep-on_cells s _ (given ∷ stack) target p
      (HoldKinds-bytes code.cells m.cells base i bytes s.cells_held message room bytes_are) (n, numbers) height reached

  -- an operator
  pub IsSafeStep-gives : (op : BinOp) (k : Kind) (a b : ℤ) (stack : List ℤ) (target : Target) → target.place ≡ m.place + 1 →
      AllByRecursion IsNumber stack → suc (length stack) ≡ target.depth + s.below → IsReached code s.function target →
      (o : Option ℤ) → value op k a b ≡ o → IsSafeStep s (gives_or_traps o m stack)
  IsSafeStep-gives op k a b stack target p numbers height reached None e = (refl, tt)
  IsSafeStep-gives op k a b stack target p numbers height reached (Some n) e =
      IsSafeStep-on_same s (n ∷ stack) target p (IsNumber-held k n (Holds-value op k a b n e), numbers) height reached

  -- an operation on two numbers
  pub IsSafeStep-operates : (op : BinOp) (k : Kind) (a b : ℤ) (stack : List ℤ) (target : Target) → target.place ≡ m.place + 1 → IsOperation op →
      AllByRecursion IsNumber stack → suc (length stack) ≡ target.depth + s.below → IsReached code s.function target →
      IsSafeStep s (operates op k a b m stack)
  IsSafeStep-operates OrElse k a b stack target p is numbers height reached = absurd is
  IsSafeStep-operates AndAlso k a b stack target p is numbers height reached = absurd is
  IsSafeStep-operates op k a b stack target p is numbers height reached =
      IsSafeStep-gives op k a b stack target p numbers height reached (value op k a b) refl

  -- with an effect, or without one where the measurement has ended
  pub IsSafeStep-unless : (closed : Bool) (change : Machine → Machine) (stack : List ℤ) (target : Target) → target.place ≡ m.place + 1 →
      (change m).place ≡ m.place → (change m).calls ≡ m.calls → (change m).turns ≡ m.turns → (change m).cells ≡ m.cells →
      length (change m).active ≡ length m.active →
      AllByRecursion IsNumber stack → length stack ≡ target.depth + s.below → IsReached code s.function target →
      IsSafeStep s (goes_on (unless closed change m) stack)
  IsSafeStep-unless true change stack target p a b c d e numbers height reached = IsSafeStep-on_same s stack target p numbers height reached
  IsSafeStep-unless false change stack target p a b c d e numbers height reached =
      IsSafeStep-on s (change m) stack target p a b c
      (subst (HoldKinds code.cells) (sym d) s.cells_held) (omega (arith, s.timers, e)) numbers height reached
