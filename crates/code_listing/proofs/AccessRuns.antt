-- Expressions that read, store and change what stands at a place of a sound program: their code does what they mean, where
-- that of their parts does.
use Rattle.std.proofs.Common.{◌≡◌, ℕ, ◌+◌, ◌<◌, ◌≤◌, Bool, true, false, List, length, slice_get, Some, take, drop, sym, ap, ◌∙◌, subst, arith, get_or-set_same}
use Rattle.std.specs.Prelude.{◌-◌, ℤ, pos, not, slice_set, ⊤}
use Rattle.std.proofs.lemmas.Bool.{ltb-false}
use Rattle.std.proofs.lemmas.List.{get_or-drop, get_or-take, length-drop, length-take}
use Rattle.std.proofs.lemmas.Option.{slice_get-get_or}
use Rattle.int_kinds.specs.declared.kinds.Kind.{Kind}
use Rattle.int_kinds.specs.declared.kinds.Kind.TheVariants.{Long}
use Rattle.int_kinds.specs.declared.operators.BinOp.{BinOp}
use Rattle.int_kinds.specs.declared.operators.BinOp.TheVariants.{OrElse, AndAlso}
use Rattle.int_kinds.specs.Kind.{Holds, width, wrap}
use Rattle.int_kinds.proofs.Values.{wrap-wrap_wider}
use Rattle.int_kinds.proofs.Wrapping.{Holds-wrap}
use Rattle.bytecode.specs.declared.code.Code.{Code}
use Rattle.bytecode.specs.declared.instr.Instr.TheVariants as instr
use Rattle.bytecode.specs.Rule.{IsArray, IsOperation as IsInstruction}
use Rattle.bytecode.proofs.ZippedLists.{AllZip-partner}
use Rattle.message_cells.specs.Message.{IsMessage, number_at, number_of_bytes, size, with_bytes}
use Rattle.message_cells.proofs.MessageLemmas.{message_within}
use Rattle.control_flow.specs.World.{World, Gives}
use Rattle.control_flow.specs.Control.{Calls}
use Rattle.typed_tree.specs.declared.expression.Place.{Place}
use Rattle.typed_tree.specs.declared.expression.Place.TheVariants.{Cell, Signal}
use Rattle.typed_tree.specs.declared.expression.Place.TheVariants as place
use Rattle.typed_tree.specs.declared.expression.TExpr.{TExpr}
use Rattle.typed_tree.specs.declared.expression.TExpr.TheVariants.{Load, Bump}
use Rattle.typed_tree.specs.Expression.{Setting, stores, value_of}
use Rattle.typed_tree.specs.Forms.{Bytes, Elem, Store, Update}
use Rattle.typed_tree.specs.Memory.{InBytes, InCell, InField, InSignal, Memory, Spot, cell_of, kind_of, payload_at, read, with_cells, write}
use Rattle.typed_tree.specs.Shape.{is_plain, is_wrapped_first}
use Rattle.typed_tree.specs.SoundExpression.{CanGiveBack, IsOperation, IsUniformArray, PlaceExists}
use Rattle.code_listing.proofs.BumpRuns.{IsOfKind, bump_direct, bump_indexed}
use Rattle.code_listing.proofs.ExpressionRuns.{Means, of_bytes, of_cell, of_element, of_field, of_signal}
use Rattle.code_listing.proofs.LoadRuns.{cells_length}
use Rattle.code_listing.proofs.PlaceRuns.{bytes_indexed, cell_direct, element_indexed, field_direct, signal_direct}
use Rattle.code_listing.proofs.PlainLemmas.{IsStill}
use Rattle.code_listing.proofs.StoreRuns.{store_direct, store_indexed}
use Rattle.code_listing.proofs.UpdateRuns.{LeavesSame, update_direct, update_indexed}
use Rattle.code_listing.proofs.WriteLemmas.{bytes_wider, field_wider, number_back, payload_wider}

-- the operators that both call operations are the same
pub is_instruction : (op : BinOp) → IsOperation op → IsInstruction op
is_instruction OrElse is = absurd is
is_instruction AndAlso is = absurd is
is_instruction op is = tt

-- each cell of an array is of the kind of the first
pub kind_in_array : (kinds : List Kind) (base len k : ℕ) → IsUniformArray kinds base len → k < len → kind_of kinds (base + k) ≡ kind_of kinds base
kind_in_array kinds base len k array below =
    let there : k < length (take len (drop base kinds)) = omega (arith, below, array.there, length-take len (drop base kinds), length-drop base kinds) in
    sym (get_or-take len (drop base kinds) k Long below ∙ get_or-drop base kinds k Long) ∙ array.of_one_kind k Long there

-- a number of payload bytes is of its kind
Holds-number_at : (k : Kind) (i : ℕ) (payload : List ℕ) → Holds k (number_at k i payload)
unfolding number_at
Holds-number_at k i payload = Holds-wrap k (pos (number_of_bytes (take (size k) (drop i payload))))

module _ (code : Code) (s : Setting) (same : code.cells ≡ s.typed.cells) (call : Calls Memory) (most : ℕ) where
  cell_there : (cell : ℕ) → cell < length s.typed.cells → cell < length code.cells
  cell_there cell there = omega (arith, there, ap length same)

  message_there : (at : ℕ) → IsMessage s.typed.cells at → IsMessage code.cells at
  message_there at is = subst (λ kinds. IsMessage kinds at) (sym same) is

  array_there : (base len : ℕ) → IsUniformArray s.typed.cells base len → IsArray code.cells base len
  array_there base len array = record { at_least_one = array.at_least_one; there = omega (arith, array.there, ap length same) }

  -- the code of a place's index, if it has one, does what the index means
  abbrev pub IndexMeans : Place → Type 0
  IndexMeans (Cell cell) = ⊤
  IndexMeans (Elem base len index) = Means code s call most index
  IndexMeans (place.Set at field) = ⊤
  IndexMeans (Bytes at k index) = Means code s call most index
  IndexMeans (Signal at l) = ⊤

  -- a load
  pub of_load : (at : Place) → PlaceExists s.typed at → IndexMeans at → Means code s call most (Load at)
  of_load (Cell cell) exists means = of_cell code s call most cell (cell_there cell exists)
  of_load (Elem base len index) exists means = of_element code s call most base len index (array_there base len exists) means
  of_load (place.Set at field) exists means = of_field code s call most at field exists.0 (message_there at exists.1)
  of_load (Bytes at k index) exists means = of_bytes code s call most at k index (message_there at exists) means
  of_load (Signal at l) exists means = of_signal code s call most at l (message_there at exists.1)

  -- an assignment
  pub of_store : (at : Place) (e : TExpr) → PlaceExists s.typed at → IndexMeans at → Means code s call most e →
      (not (is_plain e) ≡ false → (w : World Memory) → IsStill w (value_of s call e w)) → Means code s call most (Store at e)
  of_store (Cell cell) e exists index means still =
      store_direct code s most _ _ _ means (instr.Load cell) (instr.Store cell) (InCell cell) (cell_direct code s same most cell (cell_there cell exists))
  of_store (Elem base len i) e exists index means still =
      store_indexed code s most _ _ _ means (instr.Elem base len) (instr.SetElem base len) len (λ k. InCell (base + k))
      (element_indexed code s same most base len (array_there base len exists)) _ _ _ index (not (is_plain e)) still
  of_store (place.Set at field) e exists index means still =
      store_direct code s most _ _ _ means (instr.Load (at + field)) (instr.SetField field at) (InField at field)
      (field_direct code s same most at field exists.0 (message_there at exists.1))
  of_store (Bytes at k i) e exists index means still =
      store_indexed code s most _ _ _ means (instr.Bytes k at) (instr.SetBytes k at) (9 - size k) (InBytes at k)
      (bytes_indexed code s same most at k (message_there at exists)) _ _ _ index (not (is_plain e)) still
  of_store (Signal at l) e exists index means still =
      store_direct code s most _ _ _ means (instr.Sig l at) (instr.SetSig l at) (InSignal at l)
      (signal_direct code s same most at l exists.0 (message_there at exists.1))

  -- two numbers that leave the same cells are stored alike
  stored_alike : (spot : Spot) (m n : ℤ) (w : World Memory) → write s.typed.cells spot m w.memory.cells ≡ write s.typed.cells spot n w.memory.cells →
      stores s spot m w ≡ stores s spot n w
  stored_alike spot m n w e = ap (λ cells. Gives (read spot cells) (with_cells cells w)) e

  -- a cell keeps no more than a kind that is no narrower than its own
  same_in_cell : (cell : ℕ) (back : Kind) → width (kind_of s.typed.cells cell) ≤ width back → LeavesSame code s most back (InCell cell)
  same_in_cell cell back h = λ n w. stored_alike (InCell cell) (wrap back n) n w
      (ap (λ v. slice_set w.memory.cells cell v) (wrap-wrap_wider back (kind_of s.typed.cells cell) n h))

  same_in_element : (base len k : ℕ) (back : Kind) → IsUniformArray s.typed.cells base len → k < len → width (kind_of s.typed.cells base) ≤ width back →
      LeavesSame code s most back (InCell (base + k))
  same_in_element base len k back array below h =
      same_in_cell (base + k) back (subst (λ j. width j ≤ width back) (sym (kind_in_array s.typed.cells base len k array below)) h)

  -- an assignment with an operator
  pub of_update : (op : BinOp) (k back : Kind) (at : Place) (e : TExpr) → IsOperation op → PlaceExists s.typed at → IndexMeans at →
      Means code s call most e → Means code s call most (Update op k back at e)
  of_update op k back (Cell cell) e is exists index means =
      update_direct code s most _ _ _ means op k (is_instruction op is) back (is_wrapped_first s.typed (Cell cell) back)
      (instr.Load cell) (instr.Store cell) (InCell cell) (cell_direct code s same most cell (cell_there cell exists))
      (λ no. same_in_cell cell back (ltb-false _ _ no))
  of_update op k back (Elem base len i) e is exists index means =
      update_indexed code s most _ _ _ means op k (is_instruction op is) back (is_wrapped_first s.typed (Elem base len i) back) _ _ _ index
      (instr.Elem base len) (instr.SetElem base len) len (λ k. InCell (base + k)) (element_indexed code s same most base len (array_there base len exists))
      (λ no n below. same_in_element base len n back exists below (ltb-false _ _ no))
  of_update op k back (place.Set at field) e is exists index means =
      update_direct code s most _ _ _ means op k (is_instruction op is) back (is_wrapped_first s.typed (place.Set at field) back)
      (instr.Load (at + field)) (instr.SetField field at) (InField at field) (field_direct code s same most at field exists.0 (message_there at exists.1))
      (λ no n w. stored_alike (InField at field) (wrap back n) n w
      (ap (λ v. slice_set w.memory.cells (at + field) v) (field_wider back field n exists.0 (ltb-false _ _ no))))
  of_update op k back (Bytes at j i) e is exists index means =
      update_indexed code s most _ _ _ means op k (is_instruction op is) back (is_wrapped_first s.typed (Bytes at j i) back) _ _ _ index
      (instr.Bytes j at) (instr.SetBytes j at) (9 - size j) (InBytes at j) (bytes_indexed code s same most at j (message_there at exists))
      (λ no byte below n w. stored_alike (InBytes at j byte) (wrap back n) n w
      (ap (λ bytes. with_bytes at byte bytes w.memory.cells) (bytes_wider back j n (ltb-false _ _ no))))
  of_update op k back (Signal at l) e is exists index means =
      update_direct code s most _ _ _ means op k (is_instruction op is) back (is_wrapped_first s.typed (Signal at l) back)
      (instr.Sig l at) (instr.SetSig l at) (InSignal at l) (signal_direct code s same most at l exists.0 (message_there at exists.1))
      (λ no n w. stored_alike (InSignal at l) (wrap back n) n w
      (ap (λ payload. with_bytes at 0 payload w.memory.cells) (payload_wider back l (payload_at w.memory.cells at) n (ltb-false _ _ no))))

  -- what stands in an element is of the array's kind
  element_of_kind : (base len k : ℕ) → IsUniformArray s.typed.cells base len → k < len → IsOfKind code s most (kind_of s.typed.cells base) (InCell (base + k))
  element_of_kind base len k array below = record {
    held = λ w fit.
        let cell : ℕ = base + k in
        let within : cell < length code.cells = omega (arith, array.there, below, ap length same) in
        let kind : slice_get code.cells cell ≡ Some (kind_of s.typed.cells base) =
        ap (λ kinds. slice_get kinds cell) same ∙ slice_get-get_or s.typed.cells cell Long (omega (arith, array.there, below)) ∙
        ap (λ j. Some j) (kind_in_array s.typed.cells base len k array below) in
        let partner = AllZip-partner Holds code.cells w.memory.cells fit.cells_held cell (kind_of s.typed.cells base) kind in
        let there = slice_get-get_or w.memory.cells cell (pos 0) (omega (arith, within, cells_length code s.closed s.moment most fit)) in
        let is : partner.item ≡ cell_of w.memory.cells cell = let both : Some partner.item ≡ Some (cell_of w.memory.cells cell) = sym partner.is_there ∙ there in cc in
        subst (Holds (kind_of s.typed.cells base)) is partner.goes_with;
    stored = λ w fit n.
        let cell : ℕ = base + k in
        get_or-set_same w.memory.cells cell (wrap (kind_of s.typed.cells cell) n) (pos 0)
        (omega (arith, array.there, below, ap length same, cells_length code s.closed s.moment most fit)) ∙
        ap (λ j. wrap j n) (kind_in_array s.typed.cells base len k array below);
  }

  -- payload bytes are a number of their kind
  bytes_of_kind : (at : ℕ) (k : Kind) (i : ℕ) → IsMessage s.typed.cells at → i < 9 - size k → IsOfKind code s most k (InBytes at k i)
  bytes_of_kind at k i is below = record {
    held = λ w fit. Holds-number_at k i (payload_at w.memory.cells at);
    stored = λ w fit n. number_back k w.memory.cells at i n
        (omega (arith, message_within code.cells at (message_there at is), cells_length code s.closed s.moment most fit)) below;
  }

  -- where the number as it was is given at an index, it can be had back
  narrow_element : (base len : ℕ) (index : TExpr) (k : Kind) (up post : Bool) → CanGiveBack s.typed (Bump (Elem base len index) k up post) →
      post ≡ true → width (kind_of s.typed.cells base) ≤ width k
  narrow_element base len index k up true can asked = can
  narrow_element base len index k up false can asked = absurd (let t : false ≡ true = asked in cc)

  narrow_bytes : (at : ℕ) (j : Kind) (index : TExpr) (k : Kind) (up post : Bool) → CanGiveBack s.typed (Bump (Bytes at j index) k up post) →
      post ≡ true → width j ≤ width k
  narrow_bytes at j index k up true can asked = can
  narrow_bytes at j index k up false can asked = absurd (let t : false ≡ true = asked in cc)

  -- `++` and `--`
  pub of_bump : (at : Place) (k : Kind) (up post : Bool) → PlaceExists s.typed at → IndexMeans at → CanGiveBack s.typed (Bump at k up post) →
      Means code s call most (Bump at k up post)
  of_bump (Cell cell) k up post exists index can =
      bump_direct code s most (instr.Load cell) (instr.Store cell) (InCell cell) (cell_direct code s same most cell (cell_there cell exists)) up k post
  of_bump (Elem base len i) k up post exists index can =
      bump_indexed code s most (instr.Elem base len) (instr.SetElem base len) len (λ k. InCell (base + k))
      (element_indexed code s same most base len (array_there base len exists)) up k (kind_of s.typed.cells base) _ _ _ index post
      (narrow_element base len i k up post can) (λ yes n below. element_of_kind base len n exists below)
  of_bump (place.Set at field) k up post exists index can =
      bump_direct code s most (instr.Load (at + field)) (instr.SetField field at) (InField at field)
      (field_direct code s same most at field exists.0 (message_there at exists.1)) up k post
  of_bump (Bytes at j i) k up post exists index can =
      bump_indexed code s most (instr.Bytes j at) (instr.SetBytes j at) (9 - size j) (InBytes at j)
      (bytes_indexed code s same most at j (message_there at exists)) up k j _ _ _ index post
      (narrow_bytes at j i k up post can) (λ yes n below. bytes_of_kind at j n exists below)
  of_bump (Signal at l) k up post exists index can =
      bump_direct code s most (instr.Sig l at) (instr.SetSig l at) (InSignal at l)
      (signal_direct code s same most at l exists.0 (message_there at exists.1)) up k post
