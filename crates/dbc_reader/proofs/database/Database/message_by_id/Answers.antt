-- The table's place of an identifier is that of its message.
use Rattle.std.proofs.Common.{◌≡◌, subst, ℕ, sym, ap, ◌∙◌, nat_eq}
use Rattle.std.specs.Prelude.{IfSome, nat_lt, length, get_or, List}
use Rattle.std.specs.Borrow.{Bor}
use Rattle.std.specs.List.{find}
use Rattle.std.specs.Option.{option_copied}
use Rattle.dbc_reader.specs.declared.message.DbcMessage.{DbcMessage}
use Rattle.dbc_reader.proofs.Tables.{found_at, not_found, lent, map_same}
use Rattle.dbc_reader.proofs.database.Database.message_by_id.Goals as goal

pub returns-in_err-place : goal.returns-in_err-place
returns-in_err-place c =
    ap option_copied c.from_residual.ensures
    ∙ not_found (nat_eq c.args.id) (λ (key : ℕ). key) (λ (m : DbcMessage). m.id) c.self.inside.ids.keys c.self.inside.messages.items (map_same c.self.inside.ids.keys ∙ c.self.inside.by_id) (sym c.in_err-place.was ∙ c.get_index_of.ensures.index)
    ∙ ap (find (λ (m : DbcMessage). nat_eq c.args.id m.id)) c.self.view_is

pub returns : goal.returns
returns c =
    lent c.self.inside.messages.items c.in_ok-place.place c.get.result
    (c.get.ensures.lookup.0 ∙ ap (λ (xs : List DbcMessage). nat_lt c.in_ok-place.place (length xs)) c.deref.ensures.value)
    (subst (λ (xs : List DbcMessage). IfSome c.get.result (λ (x : Bor DbcMessage). x.now ≡ get_or xs c.in_ok-place.place x.now)) c.deref.ensures.value c.get.ensures.lookup.1)
    ∙ found_at (nat_eq c.args.id) (λ (key : ℕ). key) (λ (m : DbcMessage). m.id) c.self.inside.ids.keys c.self.inside.messages.items (map_same c.self.inside.ids.keys ∙ c.self.inside.by_id) c.in_ok-place.place (sym c.in_ok-place.was ∙ c.get_index_of.ensures.index)
    ∙ ap (find (λ (m : DbcMessage). nat_eq c.args.id m.id)) c.self.view_is
