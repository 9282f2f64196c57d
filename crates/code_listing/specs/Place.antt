-- The instructions that read places and store in them. Where a place has an index, the code of the index is
-- before them, and the index stays on the stack below what is made of it.
use Rattle.std.specs.Prelude.{ℕ, ◌+◌, ◌-◌, Bool, not, if◌then◌else◌, [], ◌∷◌, pos}
use Rattle.int_kinds.specs.declared.kinds.Kind.{Kind}
use Rattle.int_kinds.specs.declared.kinds.Kind.TheVariants.{Long}
use Rattle.int_kinds.specs.declared.operators.BinOp.{BinOp}
use Rattle.int_kinds.specs.declared.operators.BinOp.TheVariants.{Add, Sub}
use Rattle.bytecode.specs.declared.instr.Instr.{Instr}
use Rattle.bytecode.specs.declared.instr.Instr.TheVariants as instr
use Rattle.message_cells.specs.Message.{size}
use Rattle.typed_tree.specs.declared.expression.Place.{Place}
use Rattle.typed_tree.specs.declared.expression.Place.TheVariants.{Cell, Set, Signal}
use Rattle.typed_tree.specs.declared.program.Typed.{Typed}
use Rattle.typed_tree.specs.Forms.{Bytes, Elem}
use Rattle.typed_tree.specs.Memory.{kind_of}
use Rattle.typed_tree.specs.Shape.{has_index}
use Rattle.typed_tree.specs.Size.{one_if}
use Rattle.code_listing.specs.Listing.{Listing}

-- how many numbers a place has on the stack while it is used: its index, if it has one
abbrev pub index_depth : Place → ℕ
index_depth place = one_if (has_index place)

-- the instruction that reads a place; its index, if it has one, is on top
abbrev pub read_instr : Place → Instr
read_instr (Cell cell) = instr.Load cell
read_instr (Elem base len index) = instr.Elem base len
read_instr (Set at field) = instr.Load (at + field)
read_instr (Bytes at k index) = instr.Bytes k at
read_instr (Signal at l) = instr.Sig l at

-- the instruction that stores the top in a place; its index, if it has one, is below
abbrev pub write_instr : Place → Instr
write_instr (Cell cell) = instr.Store cell
write_instr (Elem base len index) = instr.SetElem base len
write_instr (Set at field) = instr.SetField field at
write_instr (Bytes at k index) = instr.SetBytes k at
write_instr (Signal at l) = instr.SetSig l at

-- how many indices a place has: an index counts from 0 on and is below this
abbrev pub index_count : Place → ℕ
index_count (Elem base len index) = len
index_count (Bytes at k index) = 9 - size k
index_count _ = 0

-- the kind of the number at an index of a place
abbrev pub kind_at_index : Typed → Place → Kind
kind_at_index typed (Elem base len index) = kind_of typed.cells base
kind_at_index typed (Bytes at k index) = k
kind_at_index typed _ = Long

-- the operator that adds 1, or that takes 1
abbrev pub bump_op : Bool → BinOp
bump_op up = if up then Add else Sub

-- Adds 1 to the number at an index, or takes 1 from it, behind the code of the index. To give the number as
-- it was, this is undone on what is stored, in the kind of what stands there.
abbrev pub bump_at_index_code : Typed → Place → Kind → Bool → Bool → ℕ → Listing
bump_at_index_code typed place k up post depth =
    (instr.Dup, depth + 1) ∷ (read_instr place, depth + 2) ∷ (instr.Push (pos 1), depth + 2) ∷
    (instr.Bin (bump_op up) k, depth + 3) ∷ (write_instr place, depth + 2) ∷
    (if post
    then (instr.Push (pos 1), depth + 1) ∷
    (instr.Bin (bump_op (not up)) (kind_at_index typed place), depth + 2) ∷ []
    else [])

-- Adds 1 to the number at a place without an index, or takes 1 from it. To give the number as it was, it is
-- copied before, and what is stored is dropped.
abbrev pub bump_in_place_code : Place → Kind → Bool → Bool → ℕ → Listing
bump_in_place_code place k up post depth = if post
    then (read_instr place, depth) ∷ (instr.Dup, depth + 1) ∷ (instr.Push (pos 1), depth + 2) ∷
    (instr.Bin (bump_op up) k, depth + 3) ∷ (write_instr place, depth + 2) ∷ (instr.Drop, depth + 2) ∷ []
    else (read_instr place, depth) ∷ (instr.Push (pos 1), depth + 1) ∷ (instr.Bin (bump_op up) k, depth + 2) ∷
    (write_instr place, depth + 1) ∷ []

-- adds 1 to the number at a place, or takes 1 from it, behind the code of its index
abbrev pub bump_code : Typed → Place → Kind → Bool → Bool → ℕ → Listing
bump_code typed place k up post depth = if has_index place
    then bump_at_index_code typed place k up post depth
    else bump_in_place_code place k up post depth
