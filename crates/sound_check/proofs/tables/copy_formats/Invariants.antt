-- The formats so far.
use Rattle.std.proofs.Common.{◌≡◌, take}
use Rattle.sound_check.proofs.tables.copy_formats.Given as goal

abbrev pub invariant-loop-format : goal.invariant-loop-format
invariant-loop-format l = l.copies.items ≡ take l.format-index l.formats
