-- The table has a name where the list has it.
use Rattle.std.proofs.Common.{rules, ◌≡◌, ℕ, List, sym, ap, ◌∙◌, not}
use Rattle.std.specs.List.{list_any}
use Rattle.std.specs.Str.{bytes_eq}
use Rattle.dbc_reader.specs.Database.{signal_names}
use Rattle.dbc_reader.specs.declared.signals.DbcSignal.{DbcSignal}
use Rattle.dbc_reader.proofs.Tables.{seen}
use Rattle.dbc_reader.proofs.signals.Signals.push.Goals as goal

pub returns-then-not-branch-clause-added : goal.returns-then-not-branch-clause-added
returns-then-not-branch-clause-added c =
    let name : c.in_ok-name.name.items ≡ c.args.signal.name = search rules in
    sym c.if-not-branch.true ∙ c.in_ok-insert.ensures.added
    ∙ ap not (seen c.in_ok-name.name.items c.self.inside.names.keys _ c.self.inside.by_name
    ∙ ap (λ (name : List ℕ). list_any (bytes_eq name) (signal_names c.self.inside.list.items)) name
    ∙ ap (λ (signals : List DbcSignal). list_any (bytes_eq c.args.signal.name) (signal_names signals)) c.self.view_is)

pub returns-clause-added : goal.returns-clause-added
returns-clause-added c =
    let name : c.in_ok-name.name.items ≡ c.args.signal.name = search rules in
    sym c.if-not-branch.false ∙ c.in_ok-insert.ensures.added
    ∙ ap not (seen c.in_ok-name.name.items c.self.inside.names.keys _ c.self.inside.by_name
    ∙ ap (λ (name : List ℕ). list_any (bytes_eq name) (signal_names c.self.inside.list.items)) name
    ∙ ap (λ (signals : List DbcSignal). list_any (bytes_eq c.args.signal.name) (signal_names signals)) c.self.view_is)
