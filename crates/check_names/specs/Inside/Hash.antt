-- What the hash of names computes.
use Rattle.std.specs.Prelude.{ℕ, List}
use Rattle.std.specs.Hash.FoldHasher.{finish, folded_multiply, write}
use Rattle.check_names.specs.declared.hasher.NameHasher.{NameHasher}

-- the state after these bytes
abbrev pub written : NameHasher → List ℕ → NameHasher
written h bytes = record { folded = write h.folded bytes; secret = h.secret }

-- the hash of what was written
abbrev pub finished : NameHasher → ℕ
finished h = folded_multiply (finish h.folded) h.secret
