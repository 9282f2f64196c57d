-- The line of a bound. Its form is this project's own.
use Rattle.std.specs.Prelude.{ℕ, List, ◌++◌, Option, None, Some, codes, decimal}
use Rattle.can_frame.specs.declared.Ident.{Ident}
use Rattle.can_frame.specs.declared.Ident.TheVariants.{Std, Ext}
use Rattle.text_parts.specs.Number.{zero_filled, hexadecimal}

-- three hexadecimal digits of a standard identifier, eight of an extended one
abbrev pub ident_text : Ident → List ℕ
ident_text (Std n) = zero_filled 3 (hexadecimal n)
ident_text (Ext n) = zero_filled 8 (hexadecimal n)

-- the microseconds, or `none`
abbrev pub wait_text : Option ℕ → List ℕ
wait_text None = codes "none"
wait_text (Some w) = decimal w

-- `b IDENT W` with its line end
abbrev pub bound_line : Ident → Option ℕ → List ℕ
bound_line ident wait = codes "b " ++ ident_text ident ++ codes " " ++ wait_text wait ++ codes "\n"
