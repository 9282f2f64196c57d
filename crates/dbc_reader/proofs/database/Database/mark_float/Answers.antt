-- The message at the identifier's place in the table is the first with it.
use Rattle.std.proofs.Common.{rules, ◌≡◌, ℕ, sym, ap, ◌∙◌, refl, get_or, set, None, nat_eq, List}
use Rattle.dbc_reader.specs.Database.{with_float, with_mark}
use Rattle.dbc_reader.specs.declared.signals.DbcSignal.{DbcSignal}
use Rattle.dbc_reader.specs.declared.message.DbcMessage.{DbcMessage}
use Rattle.dbc_reader.proofs.Tables.{changed_at, unchanged, map-set_same, map_same}
use Rattle.dbc_reader.proofs.database.Database.mark_float.Goals as goal

pub invariant_of-self-inside : goal.invariant_of-self-inside
invariant_of-self-inside c =
    let s = c.in-Some-get_mut.message.now in
    let is : s ≡ get_or c.self.inside.messages.items c.in-Some.place s = search rules in
    let new : DbcMessage = record { id = s.id; name = s.name; len = s.len; signals = c.mark_float.new.self } in (
      c.self.inside.by_name ∙ sym (map-set_same (λ (m : DbcMessage). m.name) c.self.inside.messages.items c.in-Some.place s new is refl),
      (c.self.inside.by_id ∙ sym (map-set_same (λ (m : DbcMessage). m.id) c.self.inside.messages.items c.in-Some.place s new is refl), tt),
    )

pub returns-in-Some-get_mut : goal.returns-in-Some-get_mut
returns-in-Some-get_mut c =
    let s = c.in-Some-get_mut.message.now in
    let is : s ≡ get_or c.self.inside.messages.items c.in-Some.place s = search rules in
    let marked : c.mark_float.new.self ≡ with_float c.args.mark.now.name s.signals = search rules in
    ap (λ (ss : List DbcSignal). set c.self.inside.messages.items c.in-Some.place (record { id = s.id; name = s.name; len = s.len; signals = ss })) marked
    ∙ changed_at (nat_eq c.args.mark.now.id) (λ (key : ℕ). key) (λ (m : DbcMessage). m.id) (λ (m : DbcMessage). record m { signals = with_float c.args.mark.now.name m.signals }) c.self.inside.ids.keys c.self.inside.messages.items (map_same c.self.inside.ids.keys ∙ c.self.inside.by_id) c.in-Some.place s c.in-Some.ensures.index is
    ∙ ap (λ (ms : List DbcMessage). with_mark ms c.args.mark.now) c.self.view_is

pub returns-in_default : goal.returns-in_default
returns-in_default c =
    let none : c.get_index_of.result ≡ None = search rules in
    sym c.self.view_is
    ∙ unchanged (nat_eq c.args.mark.now.id) (λ (key : ℕ). key) (λ (m : DbcMessage). m.id) (λ (m : DbcMessage). record m { signals = with_float c.args.mark.now.name m.signals }) c.self.inside.ids.keys c.self.inside.messages.items (map_same c.self.inside.ids.keys ∙ c.self.inside.by_id) (sym none ∙ c.get_index_of.ensures.index)
    ∙ ap (λ (ms : List DbcMessage). with_mark ms c.args.mark.now) c.self.view_is
