-- A signal is added to the last message where that has none of its name.
use Rattle.std.proofs.Common.{rules, ◌≡◌, ◌<◌, ◌-◌, suc, length, get_or, sym, ap, ◌∙◌, refl, List, Bool, true, false, [], ◌∷◌, ◌++◌, arith}
use Rattle.std.specs.List.{list_any}
use Rattle.std.specs.Str.{bytes_eq}
use Rattle.std.specs.Prelude.{if◌then◌else◌}
use Rattle.std.proofs.lemmas.Grind.{common_steps}
use Rattle.dbc_reader.specs.Database.{signal_names, last_signals, unmarked}
use Rattle.dbc_reader.specs.Inside.Builder.{said_of}
use Rattle.dbc_reader.specs.declared.message.DbcMessage.{DbcMessage}
use Rattle.dbc_reader.specs.declared.signals.DbcSignal.{DbcSignal}
use Rattle.dbc_reader.specs.declared.owner.Owner.TheVariants as owner
use Rattle.dbc_reader.proofs.SaidLemmas.{last_signals-at, set_last, not_there, there, signal_new, signal_twice, signal_added}
use Rattle.dbc_reader.proofs.Tables.{map-set_same}
use Rattle.dbc_reader.proofs.builder.Builder.add_signal.Goals as goal
use Rattle.dbc_reader.proofs.builder.Builder.add_signal.Goals.{in-LastMessage, in_default}

pub returns-then-branch : goal.returns-then-branch
returns-then-branch c =
    let builder = c.args.self.now in
    let signal : DbcSignal = unmarked c.args.name c.args.layout in
    let ms = builder.messages.items in
    let last = c.in-Some.last.now in
    let i = builder.messages.len - 1 in
    let kept : builder.owner ≡ owner.LastMessage = elim c.match-matches.branch [ in-LastMessage w ↦ w.in-LastMessage.is | in_default w ↦ absurd (search (rules, c.if-not-matches.false, w.matches-is)) ] in
    let some : 0 < length ms = first_of (search rules, grind (arith, common_steps)) in
    let is : last ≡ get_or ms i last = first_of (search rules, grind (arith, common_steps)) in
    let long : suc i ≡ length ms = omega (arith, some, builder.messages.ok.0) in
    let is_last : last_signals ms ≡ last.signals = last_signals-at ms i last long is in
    let new : list_any (bytes_eq signal.name) (signal_names last.signals) ≡ false = not_there _ (sym c.if-branch.true ∙ c.in_ok-push.ensures.added) in
    let grows : c.push.new.self ≡ last.signals ++ signal ∷ [] =
    c.in_ok-push.ensures.signals ∙ ap (λ (b : Bool). if b then last.signals ++ signal ∷ [] else last.signals) c.if-branch.true in
    let after : DbcMessage = record { id = last.id; name = last.name; len = last.len; signals = c.push.new.self } in (
      signal_new (said_of builder) signal c.args.line last kept is_last new,
      ap (λ (ms : List DbcMessage). record { messages = ms; owner = builder.owner; marks = builder.marks.items }) (set_last ms i last c.push.new.self signal long is grows)
          ∙ sym (signal_added (said_of builder) signal kept),
      record {
        names = c.requires.names ∙ sym (map-set_same (λ (m : DbcMessage). m.name) ms i last after is refl);
        ids = c.requires.ids ∙ sym (map-set_same (λ (m : DbcMessage). m.id) ms i last after is refl);
      },
    )

pub returns-else-branch : goal.returns-else-branch
returns-else-branch c =
    let builder = c.args.self.now in
    let signal : DbcSignal = unmarked c.args.name c.args.layout in
    let ms = builder.messages.items in
    let last = c.in-Some.last.now in
    let i = builder.messages.len - 1 in
    let kept : builder.owner ≡ owner.LastMessage = elim c.match-matches.branch [ in-LastMessage w ↦ w.in-LastMessage.is | in_default w ↦ absurd (search (rules, c.if-not-matches.false, w.matches-is)) ] in
    let some : 0 < length ms = first_of (search rules, grind (arith, common_steps)) in
    let is : last ≡ get_or ms i last = first_of (search rules, grind (arith, common_steps)) in
    let long : suc i ≡ length ms = omega (arith, some, builder.messages.ok.0) in
    let old : list_any (bytes_eq signal.name) (signal_names last.signals) ≡ true = there _ (sym c.if-branch.false ∙ c.in_ok-push.ensures.added) in
    signal_twice (said_of builder) signal c.args.line last kept (last_signals-at ms i last long is) old
