-- The number of an identifier in a message's cell.
use Rattle.std.proofs.Common.{◌≡◌, ◌<◌, ◌+◌, ◌-◌, ◌^◌, ◌%◌, ℕ, true, false, arith}
use Rattle.std.specs.Prelude.{pos, nat_le}
use Rattle.can_frame.specs.declared.Ident.{Ident}
use Rattle.can_frame.specs.declared.Ident.TheVariants.{Std, Ext}
use Rattle.can_frame.specs.Frame.{IsIdent}
use Rattle.int_kinds.specs.declared.kinds.Kind.TheVariants.{Dword}
use Rattle.int_kinds.specs.Arithmetic.{residue}
use Rattle.message_cells.specs.Message.{id_of, ident_of, written_id}

-- a number of 32 bits is its own residue
residue_same : (n : ℕ) → n < 2 ^ 32 → residue Dword (pos n) ≡ n
residue_same n h = let e : n % 2 ^ 32 ≡ n = omega (arith, h) in e

-- the number of an identifier that is stored names that identifier
pub ident_of-written_id : (ident : Ident) → IsIdent ident → ident_of (written_id (pos (id_of ident))) ≡ ident
ident_of-written_id (Std n) h =
    let r : residue Dword (pos n) ≡ n = residue_same n (omega (arith, h)) in
    let below : nat_le (2 ^ 31) n ≡ false = grind (arith, h) in
    let same : n % 2 ^ 11 ≡ n = omega (arith, h) in
    simp (r, below, same)
ident_of-written_id (Ext n) h =
    let r : residue Dword (pos (2 ^ 31 + n)) ≡ 2 ^ 31 + n = residue_same (2 ^ 31 + n) (omega (arith, h)) in
    let above : nat_le (2 ^ 31) (2 ^ 31 + n) ≡ true = grind (arith, h) in
    let same : (2 ^ 31 + n) % 2 ^ 29 ≡ n = omega (arith, h) in
    let back : 2 ^ 31 + n - 2 ^ 31 ≡ n = omega arith in
    simp (r, above, same, back)
