-- The bytes of a text, however they are kept.
use Rattle.std.specs.Prelude.{ℕ, List, take}
use Rattle.texts.specs.declared.text.Kept.{Kept}
use Rattle.texts.specs.declared.text.Kept.TheVariants as kept

-- the first of those that lie beside their number, or a list
abbrev pub bytes_of : Kept → List ℕ
bytes_of (kept.Short len bytes) = take len bytes
bytes_of (kept.Middle len bytes) = take len bytes.value
bytes_of (kept.Long list) = list.value.items
