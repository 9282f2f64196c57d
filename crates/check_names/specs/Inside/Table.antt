-- What tables of names have.
use Rattle.std.specs.Prelude.{◌≡◌, ℕ, ◌==◌, Bool, true, ◌&&◌, ◌||◌, nat_le, nat_lt, List, find, position, slice_get, Option, Some}
use Rattle.std.specs.Option.{option_and_then, option_map_or}
use Rattle.std.specs.Str.{bytes_eq}
use Rattle.std.specs.Map.{lookup}
use Rattle.capl_meaning.specs.Names.{Function}
use Rattle.capl_meaning.specs.Variable.{Variable}
use Rattle.check_names.specs.declared.table.NameTable.{NameTable}

-- the number that a table has for a name
abbrev pub numbered : NameTable → List ℕ → Option ℕ
numbered table name = lookup (λ key. bytes_eq name key.bytes.now) table.numbers.entries

-- the number that the table of an owner has for a name
abbrev pub number_at : List NameTable → ℕ → List ℕ → Option ℕ
number_at tables owner name = option_and_then (λ table. numbered table name) (slice_get tables owner)

-- a variable is of this owner and has this name
abbrev pub is_named : ℕ → List ℕ → Variable → Bool
is_named owner name v = v.owner == owner && bytes_eq name v.name

-- its declared name also stands before a token
abbrev pub is_named_before : ℕ → List ℕ → ℕ → Variable → Bool
is_named_before owner name token v =
    v.owner == owner && (bytes_eq name v.name && nat_lt v.token token)

-- the tables have for each name the first variable of their owner
abbrev pub AreTables : List NameTable → List Variable → Type 0
AreTables tables vs = (owner : ℕ) (name : List ℕ) →
    number_at tables owner name ≡ position (is_named owner name) vs

-- a variable of a procedure does not stand before the first one of its name there
abbrev pub is_in_order : List Variable → Variable → Bool
is_in_order vs v = v.owner == 0
    || option_map_or (λ first. nat_le first.token v.token) (find (is_named v.owner v.name) vs) true

-- so it is with each of them
abbrev pub AreInOrder : List Variable → Type 0
AreInOrder vs = (i : ℕ) (v : Variable) → slice_get vs i ≡ Some v → is_in_order vs v ≡ true

-- a table has for each name the first function of that name
abbrev pub IsCalled : NameTable → List Function → Type 0
IsCalled table fs = (name : List ℕ) → numbered table name ≡ position (λ f. bytes_eq name f.name) fs
