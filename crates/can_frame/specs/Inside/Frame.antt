-- What contracts see of a frame.
use Rattle.can_frame.specs.Frame.{FrameFields}
use Rattle.can_frame.specs.declared.Frame.TheInside.{Inside}

-- what contracts see of a frame's fields
abbrev pub fields_of : Inside → FrameFields
fields_of f = record { ident = f.ident; remote = f.rtr; dlc = f.dlc; payload = f.payload; can = f.can }
