-- Words for parts of what names mean.
use Rattle.std.specs.Prelude.{ℕ, ◌==◌, Bool, ◌&&◌, List}
use Rattle.std.specs.Str.{bytes_eq}
use Rattle.capl_meaning.specs.Variable.{Variable}

-- whether a variable is a global of this name
abbrev pub is_global : List ℕ → Variable → Bool
is_global name v = v.owner == 0 && bytes_eq name v.name
