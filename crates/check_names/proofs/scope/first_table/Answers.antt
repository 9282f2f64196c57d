-- One table, which has no names.
use Rattle.std.proofs.Common.{◌≡◌, ◌∙◌, ◌++◌, ◌∷◌, ℕ, zero, suc, List, [], Option, None, ap, refl}
use Rattle.check_names.specs.declared.table.NameTable.{NameTable}
use Rattle.check_names.specs.Inside.Table.{number_at}
use Rattle.check_names.proofs.ScopeLemmas.{with_fresh}
use Rattle.check_names.proofs.scope.first_table.Goals as goal

none_at : (owner : ℕ) (name : List ℕ) → number_at [] owner name ≡ None
none_at zero name = refl
none_at (suc owner) name = refl

pub returns : goal.returns
returns c = λ owner name.
    let table : NameTable = c.in_ok-table.table in
    let items : c.push.new.self.items ≡ [] ++ table ∷ [] =
    c.in_ok-push.ensures.items ∙ ap (λ (tables : List NameTable). tables ++ table ∷ []) c.new-tables.ensures.items in
    ap (λ (tables : List NameTable). number_at tables owner name) items
    ∙ with_fresh [] table c.in_ok-table.ensures owner name
    ∙ none_at owner name
