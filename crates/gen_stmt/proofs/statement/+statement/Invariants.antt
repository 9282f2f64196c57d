-- What is appended so far, with the code of what is left, is the whole code, and the notes of what is left stand last.
use Rattle.std.proofs.Common.{◌≡◌, ℕ, ◌+◌, ◌++◌, List, length, drop, take}
use Rattle.std.specs.Prelude.{sum, sum_by}
use Rattle.typed_tree.specs.Size.{stmt_size}
use Rattle.code_listing.specs.Listing.{Listing}
use Rattle.code_listing.specs.Program.{body_code}
use Rattle.code_size.specs.declared.extent.Extent.{Extent}
use Rattle.code_size.specs.Notes.{all_notes, arms_notes_of, groups_notes_of}
use Rattle.code_size.specs.Rows.{arms_size_of, group_sizes_of}
use Rattle.gen_stmt.specs.Inside.Exits.{exits_of}
use Rattle.gen_stmt.specs.Inside.Rows.{arms_code_of, groups_code_of}
use Rattle.gen_stmt.proofs.statement.+statement.Given as goal

abbrev pub invariant-emit_first-loop-i : goal.invariant-emit_first-loop-i
invariant-emit_first-loop-i l = record {
  grown : length l.into + sum_by (stmt_size l.typed) (drop l.i (take l.count l.all)) ≡
      length l.fn.into + sum_by (stmt_size l.typed) (take l.count l.all);
  noted : (rest : List Extent) → l.fn.notes.items ≡ rest ++ all_notes l.typed (take l.count l.all) →
      l.notes.items ≡ rest ++ all_notes l.typed (drop l.i (take l.count l.all));
  code : l.into ++ body_code l.typed (exits_of l.exits) (drop l.i (take l.count l.all)) (length l.into) ≡
      l.fn.into ++ body_code l.typed (exits_of l.exits) (take l.count l.all) (length l.fn.into);
}

abbrev pub invariant-emit_arms-loop-arm : goal.invariant-emit_arms-loop-arm
invariant-emit_arms-loop-arm l = record {
  end : (other : ℕ) → l.end ≡ length l.fn.into + arms_size_of l.typed l.arms other →
      length l.into + arms_size_of l.typed (drop l.arm-index l.arms) other ≡ l.end;
  noted : (rest : List Extent) → l.fn.notes.items ≡ rest ++ arms_notes_of l.typed l.arms →
      l.notes.items ≡ rest ++ arms_notes_of l.typed (drop l.arm-index l.arms);
  code : (other : ℕ) (behind : ℕ → Listing) → l.end ≡ length l.fn.into + arms_size_of l.typed l.arms other →
      l.into ++ arms_code_of l.typed (exits_of l.exits) (drop l.arm-index l.arms) other behind (length l.into) ≡
      l.fn.into ++ arms_code_of l.typed (exits_of l.exits) l.arms other behind (length l.fn.into);
}

abbrev pub invariant-emit_groups-loop-i : goal.invariant-emit_groups-loop-i
invariant-emit_groups-loop-i l = record {
  grown : length l.into + sum (group_sizes_of l.typed (drop l.i l.groups)) ≡
      length l.fn.into + sum (group_sizes_of l.typed l.groups);
  noted : (rest : List Extent) → l.fn.notes.items ≡ rest ++ groups_notes_of l.typed l.groups →
      l.notes.items ≡ rest ++ groups_notes_of l.typed (drop l.i l.groups);
  code : l.into ++ groups_code_of l.typed (exits_of l.exits) (drop l.i l.groups) (length l.into) ≡
      l.fn.into ++ groups_code_of l.typed (exits_of l.exits) l.groups (length l.fn.into);
}
