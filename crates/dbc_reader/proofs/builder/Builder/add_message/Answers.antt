-- A message is added where both tables took it.
use Rattle.std.proofs.Common.{rules, ◌≡◌, sym, ap, subst, ◌∙◌, refl, List, ℕ, map, true, false, ◌∷◌, [], ◌++◌}
use Rattle.std.specs.List.{list_any}
use Rattle.std.specs.Str.{bytes_eq}
use Rattle.std.specs.Global.{Vec}
use Rattle.std.proofs.lemmas.List.{map-append}
use Rattle.dbc_reader.specs.Database.{is_independent, bare}
use Rattle.dbc_reader.specs.Inside.Builder.{said_of}
use Rattle.dbc_reader.specs.declared.message.DbcMessage.{DbcMessage}
use Rattle.dbc_reader.specs.declared.owner.Owner.TheVariants as owner
use Rattle.dbc_reader.proofs.SaidLemmas.{grown, grown_number, new_number, new_name, old_name, name_twice, nothing_twice, message_added}
use Rattle.dbc_reader.proofs.builder.Builder.add_message.Goals as goal

pub returns-then-not-branch-2 : goal.returns-then-not-branch-2
returns-then-not-branch-2 c =
    let builder = c.args.self.now in
    let kept : is_independent c.args.id c.args.name ≡ false = search rules in
    let id_new = new_number c.args.id builder.ids.keys (map (λ (m : DbcMessage). m.id) builder.messages.items) c.requires.ids (sym c.if-not-branch.false ∙ c.in_ok-insert.ensures.added) in
    let name : c.in_ok-from_slice.field-0.items ≡ c.args.name = search rules in
    let there = old_name c.in_ok-from_slice.field-0.items builder.names.keys (map (λ (m : DbcMessage). m.name) builder.messages.items) c.requires.names (sym c.if-not-branch-2.true ∙ c.in_ok-insert-2.ensures.added) in
    name_twice (said_of builder) c.args.id c.args.id_line c.args.name c.args.name_line c.args.len kept id_new (subst (λ (n : List ℕ). list_any (bytes_eq n) (map (λ (m : DbcMessage). m.name) builder.messages.items) ≡ true) name there)

pub returns : goal.returns
returns c =
    let builder = c.args.self.now in
    let key = c.in_ok-from_slice.field-0 in
    let ms = builder.messages.items in
    let kept : is_independent c.args.id c.args.name ≡ false = search rules in
    let id_new = new_number c.args.id builder.ids.keys (map (λ (m : DbcMessage). m.id) ms) c.requires.ids (sym c.if-not-branch.false ∙ c.in_ok-insert.ensures.added) in
    let name : key.items ≡ c.args.name = search rules in
    let key_new = new_name key.items builder.names.keys (map (λ (m : DbcMessage). m.name) ms) c.requires.names (sym c.if-not-branch-2.false ∙ c.in_ok-insert-2.ensures.added) in
    let name_new = subst (λ (n : List ℕ). list_any (bytes_eq n) (map (λ (m : DbcMessage). m.name) ms) ≡ false) name key_new in
    let pushed : c.push.new.self.items ≡ ms ++ bare c.args.id c.args.name c.args.len ∷ [] = search rules in (
      nothing_twice (said_of builder) c.args.id c.args.id_line c.args.name c.args.name_line c.args.len kept id_new name_new,
      ap (λ (ms : List DbcMessage). record { messages = ms; owner = owner.LastMessage; marks = builder.marks.items }) pushed
          ∙ sym (message_added (said_of builder) c.args.id c.args.id_line c.args.name c.args.name_line c.args.len kept),
      record {
        names = ap (map (λ (k : Vec ℕ). k.items)) c.in_ok-insert-2.ensures.keys ∙ grown key builder.names.keys (map (λ (m : DbcMessage). m.name) ms) c.requires.names key_new
            ∙ ap (λ (n : List ℕ). map (λ (m : DbcMessage). m.name) ms ++ n ∷ []) name ∙ sym (ap (map (λ (m : DbcMessage). m.name)) pushed ∙ rw map-append refl);
        ids = c.in_ok-insert.ensures.keys ∙ grown_number c.args.id builder.ids.keys (map (λ (m : DbcMessage). m.id) ms) c.requires.ids id_new
            ∙ sym (ap (map (λ (m : DbcMessage). m.id)) pushed ∙ rw map-append refl);
      },
    )
