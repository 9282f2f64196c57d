-- What stands between two entries.
use Rattle.std.proofs.Common.{◌≡◌, drop, map}
use Rattle.sim_outside.specs.MemFiles.{held_in}
use Rattle.sim_outside.proofs.mem_files.find.Given as goal

-- the entries that are left give what all entries give
abbrev pub invariant-loop-key : goal.invariant-loop-key
invariant-loop-key l =
    held_in (map (λ entry. (entry.0, entry.1.items)) (drop l.key-index l.entries)) l.name
    ≡ held_in (map (λ entry. (entry.0, entry.1.items)) l.entries) l.name
