-- The names of system variables.
use Rattle.std.specs.Prelude.{ℕ, Bool, ◌&&◌, List, ◌++◌, ℤ, codes}
use Rattle.std.specs.List.{list_any}
use Rattle.std.specs.Str.{bytes_eq}
use Rattle.int_kinds.specs.Kind.{Holds}
use Rattle.int_kinds.specs.declared.kinds.Kind.TheVariants.{Long}
use Rattle.sys_vars.specs.declared.item.SysItem.{SysItem}

-- the name `SPACE::NAME`, which a lowered use of a variable has
abbrev pub variable_name : List ℕ → List ℕ → List ℕ
variable_name space name = space ++ codes "::" ++ name

-- the name `on SPACE::NAME` of its hidden timer, which no source can write
abbrev pub timer_name : List ℕ → List ℕ → List ℕ
timer_name space name = codes "on " ++ variable_name space name

-- whether one of the variables has this space and this name
abbrev pub is_declared : List SysItem → List ℕ → List ℕ → Bool
is_declared items space name =
    list_any (λ item. bytes_eq space item.space && bytes_eq name item.name) items

-- the number is a long: it lies from -2147483648 to 2147483647
abbrev pub IsLong : ℤ → Type 0
IsLong n = Holds Long n

-- the value of a variable is a long
abbrev pub HasLong : SysItem → Type 0
HasLong item = IsLong item.value
