-- The table's place of a name is that of its message.
use Rattle.std.proofs.Common.{◌≡◌, subst, ℕ, sym, ap, ◌∙◌}
use Rattle.std.specs.Prelude.{IfSome, nat_lt, length, get_or, List}
use Rattle.std.specs.Borrow.{Bor}
use Rattle.std.specs.Global.{Vec}
use Rattle.std.specs.List.{find}
use Rattle.std.specs.Option.{option_copied}
use Rattle.std.specs.Str.{bytes_eq}
use Rattle.dbc_reader.specs.declared.message.DbcMessage.{DbcMessage}
use Rattle.dbc_reader.proofs.Tables.{found_at, not_found, lent}
use Rattle.dbc_reader.proofs.database.Database.message_by_name.Goals as goal

pub returns-in_err-place : goal.returns-in_err-place
returns-in_err-place c =
    ap option_copied c.from_residual.ensures
    ∙ not_found (bytes_eq c.args.name.now) (λ (key : Vec ℕ). key.items) (λ (m : DbcMessage). m.name) c.self.inside.names.keys c.self.inside.messages.items c.self.inside.by_name (sym c.in_err-place.was ∙ c.get_index_of.ensures.index)
    ∙ ap (find (λ (m : DbcMessage). bytes_eq c.args.name.now m.name)) c.self.view_is

pub returns : goal.returns
returns c =
    lent c.self.inside.messages.items c.in_ok-place.place c.get.result
    (c.get.ensures.lookup.0 ∙ ap (λ (xs : List DbcMessage). nat_lt c.in_ok-place.place (length xs)) c.deref.ensures.value)
    (subst (λ (xs : List DbcMessage). IfSome c.get.result (λ (x : Bor DbcMessage). x.now ≡ get_or xs c.in_ok-place.place x.now)) c.deref.ensures.value c.get.ensures.lookup.1)
    ∙ found_at (bytes_eq c.args.name.now) (λ (key : Vec ℕ). key.items) (λ (m : DbcMessage). m.name) c.self.inside.names.keys c.self.inside.messages.items c.self.inside.by_name c.in_ok-place.place (sym c.in_ok-place.was ∙ c.get_index_of.ensures.index)
    ∙ ap (find (λ (m : DbcMessage). bytes_eq c.args.name.now m.name)) c.self.view_is
