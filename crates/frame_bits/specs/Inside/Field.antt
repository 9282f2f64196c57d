-- The bits of the fields of which the code makes a frame.
use Rattle.std.specs.Prelude.{Bool, List}
use Rattle.can_frame.specs.Frame.{field_bits}
use Rattle.frame_bits.specs.declared.field.Field.{Field}

-- the bits of a field
abbrev pub bits_in : Field → List Bool
bits_in field = field_bits field.width field.number
