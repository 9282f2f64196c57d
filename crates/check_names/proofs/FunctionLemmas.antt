-- A table of functions that grows.
use Rattle.std.proofs.Common.{◌≡◌, ◌+◌, ◌<◌, ◌∙◌, ℕ, List, Option, None, Some, ap, sym, length, get_or, take}
use Rattle.std.specs.Prelude.{if◌then◌else◌, position}
use Rattle.std.specs.Option.{option_or}
use Rattle.std.specs.Str.{bytes_eq}
use Rattle.capl_meaning.specs.Names.{Function}
use Rattle.check_names.specs.declared.function.DeclaredFunction.{DeclaredFunction}
use Rattle.check_names.specs.declared.table.NameTable.{NameTable}
use Rattle.check_names.specs.Function.{function_in, functions_in}
use Rattle.check_names.specs.Inside.Table.{IsCalled, numbered}
use Rattle.check_names.proofs.PositionLemmas.{position-push}
use Rattle.check_names.proofs.TakeLemmas.{map_length, map_more}

-- one more function
pub called_more : (old new : NameTable) (all : List DeclaredFunction) (i number : ℕ) (f : DeclaredFunction)
    → i < length all → f ≡ get_or all i f → number ≡ i → IsCalled old (functions_in (take i all))
    → ((name : List ℕ) → numbered new name
    ≡ option_or (numbered old name) (if bytes_eq name f.name.now then Some number else None))
    → IsCalled new (functions_in (take (i + 1) all))
called_more old new all i number f within is counted table more = λ name.
    let named = λ (g : Function). bytes_eq name g.name in
    more name
    ∙ ap (λ (o : Option ℕ). option_or o (if bytes_eq name f.name.now then Some number else None)) (table name)
    ∙ ap (λ (n : ℕ). option_or (position named (functions_in (take i all)))
    (if bytes_eq name f.name.now then Some n else None)) (counted ∙ map_length function_in i all within)
    ∙ sym (position-push named (functions_in (take i all)) (function_in f))
    ∙ ap (position named) (sym (map_more function_in i all f within is))
