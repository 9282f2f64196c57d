-- The instructions of a sound program that go to the next place: what each takes and gives, and that it names what
-- exists.
use Rattle.std.proofs.Common.{◌≡◌, ℕ, ◌+◌, ◌<◌, ◌≤◌, Bool, true, false, List, length, Some, slice_get, refl, sym, ap, ◌∙◌, subst, arith}
use Rattle.std.specs.Prelude.{ℤ, is_some, All}
use Rattle.int_kinds.specs.declared.kinds.Kind.{Kind}
use Rattle.int_kinds.specs.declared.operators.BinOp.{BinOp}
use Rattle.int_kinds.specs.declared.operators.BinOp.TheVariants.{OrElse, AndAlso}
use Rattle.int_kinds.specs.declared.operators.UnOp.{UnOp}
use Rattle.int_kinds.specs.declared.operators.UnOp.TheVariants.{Minus, Plus, Not, Inv, Up, Down}
use Rattle.int_kinds.specs.Kind.{IsNumber}
use Rattle.message_cells.specs.Message.{IsMessage}
use Rattle.bytecode.specs.declared.instr.Instr.TheVariants as instr
use Rattle.bytecode.specs.declared.instr.Instr.{Instr}
use Rattle.bytecode.specs.Rule.{CallsEarlier, GoesTheRightWay, IsArray, NamesWhatExists, ReturnsAsItSays, targets_by}
use Rattle.bytecode.specs.Rule.{IsOperation as IsRuledOperation}
use Rattle.bytecode.specs.Shape.{given_by_call, shape_of, taken_by_line}
use Rattle.std.proofs.lemmas.Option.{slice_get_within}
use Rattle.std.specs.Option.{option_map_or}
use Rattle.write_format.specs.Line.{FormatText, numbers_taken}
use Rattle.message_cells.proofs.MessageLemmas.{message_within}
use Rattle.typed_tree.specs.declared.expression.Place.{Place}
use Rattle.typed_tree.specs.declared.expression.Place.TheVariants.{Cell, Set, Signal}
use Rattle.typed_tree.specs.declared.program.TFun.{TFun}
use Rattle.typed_tree.specs.declared.program.Typed.{Typed}
use Rattle.typed_tree.specs.Forms.{Bytes, Elem}
use Rattle.typed_tree.specs.Size.{one_if}
use Rattle.typed_tree.specs.SoundExpression.{IsOperation, IsUniformArray, PlaceExists}
use Rattle.code_listing.specs.Expression.{opposite_op, prefix_instr}
use Rattle.code_listing.specs.Place.{bump_op, index_depth, read_instr, write_instr}
use Rattle.code_verified.proofs.Places.{Plain, Site}

-- The code of a function has the tables of a typed program, and may call its functions below a number: each of them
-- is a function of the code with this number, which gives a number where the other does, and has parameters that exist.
pub record Suits (typed : Typed) (s : Site) (below : ℕ) : Type 0 where
  pub cells : s.code.cells ≡ typed.cells
  pub timers : s.code.timers ≡ typed.timers
  pub formats : s.code.formats ≡ typed.formats
  pub calls : below ≤ s.number
  pub gives : (f : ℕ) (function : TFun) → slice_get typed.functions f ≡ Some function →
      given_by_call s.code f ≡ one_if (is_some function.gives)
  pub params : (f : ℕ) (function : TFun) → slice_get typed.functions f ≡ Some function →
      All (λ param. param < length typed.cells) function.params

-- what is an operator on two numbers in a tree is so in code
pub is_operation : (op : BinOp) → IsOperation op → IsRuledOperation op
is_operation OrElse h = h
is_operation AndAlso h = h
is_operation _ h = tt

-- the opposite of an operator on two numbers is one
pub opposite_operation : (op : BinOp) → IsOperation op → IsRuledOperation (opposite_op op)
opposite_operation OrElse h = h
opposite_operation AndAlso h = h
opposite_operation _ h = tt

-- one that adds 1 or takes 1 is one
pub bump_operation : (up : Bool) → IsRuledOperation (bump_op up)
bump_operation true = tt
bump_operation false = tt

-- a field of a message is a cell
field_there : (typed : Typed) (at field : ℕ) → field ≤ 3 → IsMessage typed.cells at → at + field < length typed.cells
field_there typed at field few is = omega (arith, message_within typed.cells at is)

module _ (s : Site) where
  -- an instruction that goes to the next place, as `Turn` does, takes and gives what its row of the table says
  plain_next : {i : Instr} → (shape_of s.code i).flow ≡ (shape_of s.code (instr.Turn)).flow →
      NamesWhatExists s.code (shape_of s.code i).named → Plain s i (shape_of s.code i).taken (shape_of s.code i).given
  plain_next {i} is_next exist = record {
    takes = refl;
    goes_next = λ place depth. ap (λ f. targets_by f (shape_of s.code i) place depth) is_next;
    goes_the_right_way = λ place. subst (λ f. GoesTheRightWay f place) (sym is_next) tt;
    calls_earlier = subst (λ f. CallsEarlier f s.number) (sym is_next) tt;
    returns = λ depth. subst (λ f. ReturnsAsItSays f s.function depth) (sym is_next) tt;
    names_exist = exist;
  }

  -- `Push`
  pub plain_push : (n : ℤ) → IsNumber n → Plain s (instr.Push n) 0 1
  plain_push n h = plain_next refl h

  -- `Store`
  pub plain_store : (cell : ℕ) → cell < length s.code.cells → Plain s (instr.Store cell) 1 1
  plain_store cell h = plain_next refl h

  -- `Check`
  pub plain_check : (len : ℕ) → Plain s (instr.Check len) 1 1
  plain_check len = plain_next refl tt

  -- `Bin`
  pub plain_bin : (op : BinOp) (k : Kind) → IsRuledOperation op → Plain s (instr.Bin op k) 2 1
  plain_bin op k h = plain_next refl h

  -- `Conv`
  pub plain_conv : (k : Kind) → Plain s (instr.Conv k) 1 1
  plain_conv k = plain_next refl tt

  -- `Not`
  pub plain_not : Plain s (instr.Not) 1 1
  plain_not = plain_next refl tt

  -- `Dup`
  pub plain_dup : Plain s (instr.Dup) 1 2
  plain_dup = plain_next refl tt

  -- `Drop`
  pub plain_drop : Plain s (instr.Drop) 1 0
  plain_drop = plain_next refl tt

  -- `Turn`
  pub plain_turn : Plain s (instr.Turn) 0 0
  plain_turn = plain_next refl tt

  -- `Now`
  pub plain_now : Plain s (instr.Now) 0 1
  plain_now = plain_next refl tt

  -- `Stop`
  pub plain_stop : Plain s (instr.Stop) 0 0
  plain_stop = plain_next refl tt

  -- a prefix operator
  pub plain_prefix : (op : UnOp) (k : Kind) → Plain s (prefix_instr op k) 1 1
  plain_prefix Minus k = plain_next refl tt
  plain_prefix Plus k = plain_next refl tt
  plain_prefix Not k = plain_next refl tt
  plain_prefix Inv k = plain_next refl tt
  plain_prefix Up k = plain_next refl tt
  plain_prefix Down k = plain_next refl tt

module _ (typed : Typed) (s : Site) (below : ℕ) (suits : Suits typed s below) where
  -- what is a message in the tree is one in the code
  message_there : (at : ℕ) → IsMessage typed.cells at → IsMessage s.code.cells at
  message_there at is = subst (λ kinds. IsMessage kinds at) (sym suits.cells) is

  -- what is a cell in the tree is one in the code
  pub cell_there : (cell : ℕ) → cell < length typed.cells → cell < length s.code.cells
  cell_there cell h = subst (λ (kinds : List Kind). cell < length kinds) (sym suits.cells) h

  -- what is a timer in the tree is one in the code
  timer_there : (timer : ℕ) → timer < length typed.timers → timer < length s.code.timers
  timer_there timer h = subst (λ (units : List ℕ). timer < length units) (sym suits.timers) h

  -- what is an array in the tree is one in the code
  array_there : (base len : ℕ) → IsUniformArray typed.cells base len → IsArray s.code.cells base len
  array_there base len h = subst (λ kinds. IsArray kinds base len) (sym suits.cells)
      (record { at_least_one = h.at_least_one; there = h.there })

  -- the instruction that reads a place
  pub plain_read : (at : Place) → PlaceExists typed at → Plain s (read_instr at) (index_depth at) 1
  plain_read (Cell cell) h = plain_next s refl (cell_there cell h)
  plain_read (Elem base len index) h = plain_next s refl (array_there base len h)
  plain_read (Set at field) h = plain_next s refl (cell_there (at + field) (field_there typed at field h.0 h.1))
  plain_read (Bytes at k index) h = plain_next s refl (message_there at h)
  plain_read (Signal at l) h = plain_next s refl (h.0, message_there at h.1)

  -- the instruction that stores in a place
  pub plain_write : (at : Place) → PlaceExists typed at → Plain s (write_instr at) (index_depth at + 1) 1
  plain_write (Cell cell) h = plain_next s refl (cell_there cell h)
  plain_write (Elem base len index) h = plain_next s refl (array_there base len h)
  plain_write (Set at field) h = plain_next s refl (h.0, message_there at h.1)
  plain_write (Bytes at k index) h = plain_next s refl (message_there at h)
  plain_write (Signal at l) h = plain_next s refl (h.0, message_there at h.1)

  -- `Active`
  pub plain_active : (timer : ℕ) → timer < length typed.timers → Plain s (instr.Active timer) 0 1
  plain_active timer h = plain_next s refl (timer_there timer h)

  -- `Set`
  pub plain_set : (timer : ℕ) (cyclic : Bool) → timer < length typed.timers → Plain s (instr.Set timer cyclic) 1 0
  plain_set timer cyclic h = plain_next s refl (timer_there timer h)

  -- `Cancel`
  pub plain_cancel : (timer : ℕ) → timer < length typed.timers → Plain s (instr.Cancel timer) 0 0
  plain_cancel timer h = plain_next s refl (timer_there timer h)

  -- `Send`
  pub plain_send : (at : ℕ) → IsMessage typed.cells at → Plain s (instr.Send at) 0 0
  plain_send at h = plain_next s refl (message_there at h)

  -- `Copy`
  pub plain_copy : (to : ℕ) (from : ℕ) → IsMessage typed.cells to × IsMessage typed.cells from → Plain s (instr.Copy to from) 0 0
  plain_copy to from h = plain_next s refl (message_there to h.0, message_there from h.1)

  -- `Call`, of a function that gives a number or not
  pub plain_call : (f : ℕ) (function : TFun) → f < below → slice_get typed.functions f ≡ Some function →
      Plain s (instr.Call f) 0 (one_if (is_some function.gives))
  plain_call f function earlier is =
      let before : f < s.number = omega (arith, earlier, suits.calls) in
      subst (λ n. Plain s (instr.Call f) 0 n) (suits.gives f function is) (assumption before)

  -- `Write`, with the numbers that its format takes
  pub plain_write_line : (f : ℕ) (format : FormatText) → slice_get typed.formats f ≡ Some format →
      Plain s (instr.Write f) (numbers_taken format) 0
  plain_write_line f format is =
      let same : slice_get s.code.formats f ≡ Some format = ap (λ formats. slice_get formats f) suits.formats ∙ is in
      let taken : taken_by_line s.code f ≡ numbers_taken format = ap (λ o. option_map_or numbers_taken o 0) same in
      subst (λ n. Plain s (instr.Write f) n 0) taken (plain_next s refl (slice_get_within _ _ format same))
