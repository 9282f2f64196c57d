-- The signal at the name's place in the table is the first of that name.
use Rattle.std.proofs.Common.{rules, ◌≡◌, ℕ, sym, ap, ◌∙◌, refl, true, get_or, None}
use Rattle.std.specs.Global.{Vec}
use Rattle.std.specs.Str.{bytes_eq}
use Rattle.dbc_reader.specs.Database.{with_float}
use Rattle.dbc_reader.specs.declared.signals.DbcSignal.{DbcSignal}
use Rattle.dbc_reader.proofs.Tables.{changed_at, unchanged, map-set_same}
use Rattle.dbc_reader.proofs.signals.Signals.mark_float.Goals as goal

pub invariant_of-self-inside : goal.invariant_of-self-inside
invariant_of-self-inside c =
    let s = c.in-Some-get_mut.signal.now in
    let is : s ≡ get_or c.self.inside.list.items c.in-Some.place s = search rules in
    (c.self.inside.by_name ∙ sym (map-set_same (λ (s : DbcSignal). s.name) c.self.inside.list.items c.in-Some.place s (record { name = s.name; layout = s.layout; float = true }) is refl), tt)

pub returns-in-Some-get_mut : goal.returns-in-Some-get_mut
returns-in-Some-get_mut c =
    let s = c.in-Some-get_mut.signal.now in
    let is : s ≡ get_or c.self.inside.list.items c.in-Some.place s = search rules in
    changed_at (bytes_eq c.args.name.now) (λ (key : Vec ℕ). key.items) (λ (s : DbcSignal). s.name) (λ (s : DbcSignal). record s { float = true }) c.self.inside.names.keys c.self.inside.list.items c.self.inside.by_name c.in-Some.place s c.in-Some.ensures.index is
    ∙ ap (with_float c.args.name.now) c.self.view_is

pub returns-in_default : goal.returns-in_default
returns-in_default c =
    let none : c.get_index_of.result ≡ None = search rules in
    sym c.self.view_is
    ∙ unchanged (bytes_eq c.args.name.now) (λ (key : Vec ℕ). key.items) (λ (s : DbcSignal). s.name) (λ (s : DbcSignal). record s { float = true }) c.self.inside.names.keys c.self.inside.list.items c.self.inside.by_name (sym none ∙ c.get_index_of.ensures.index)
    ∙ ap (with_float c.args.name.now) c.self.view_is
