-- A new name goes last, and a known one keeps its number.
use Rattle.std.proofs.Common.{ℕ, Bool, List, ap, sym, ◌∙◌}
use Rattle.std.specs.Cmp.Lexicographic.{bytes_decides}
use Rattle.std.specs.Map.{lookup}
use Rattle.std.specs.Str.{bytes_eq}
use Rattle.indexmap.specs.IndexMap.{insert_entry}
use Rattle.indexmap.proofs.CallerLemmas.{insert_entry-new}
use Rattle.check_names.specs.declared.key.Key.{Key}
use Rattle.check_names.proofs.TableLemmas.{insert-back, kept, lookup-push}
use Rattle.check_names.proofs.table.NameTable.note.Goals as goal

pub returns-in_default-clause-noted : goal.returns-in_default-clause-noted
returns-in_default-clause-noted c = λ other.
    let entries : List (Key × ℕ) = c.args.self.now.numbers.entries in
    let key : Key = record { bytes = c.args.name } in
    ap (lookup (λ (k : Key). bytes_eq other k.bytes.now))
    (c.in_ok-first.ensures.entries
    ∙ insert_entry-new _ c.args.self.now.numbers key c.args.number (sym c.in_ok-first.ensures.old ∙ c.in_default.is))
    ∙ lookup-push (λ (k : Key). bytes_eq other k.bytes.now) entries key c.args.number

pub returns-clause-noted : goal.returns-clause-noted
returns-clause-noted c = λ other.
    let entries : List (Key × ℕ) = c.args.self.now.numbers.entries in
    let key : Key = record { bytes = c.args.name } in
    let same : Key → Key → Bool = λ a b. bytes_eq a.bytes.now b.bytes.now in
    let found = sym c.in-Some.is ∙ c.in_ok-first.ensures.old in
    ap (lookup (λ (k : Key). bytes_eq other k.bytes.now))
    (c.in_ok-insert.ensures.entries
    ∙ (ap (λ es. insert_entry same es key c.in-Some.first) c.in_ok-first.ensures.entries
    ∙ insert-back same key c.args.number c.in-Some.first entries found))
    ∙ kept (lookup (λ (k : Key). bytes_eq other k.bytes.now) entries) c.in-Some.first c.args.number
    (bytes_eq other c.args.name.now)
    (λ is. found ∙ ap (λ name. lookup (λ (k : Key). bytes_eq name k.bytes.now) entries)
    (sym ((bytes_decides other c.args.name.now).0 is)))
