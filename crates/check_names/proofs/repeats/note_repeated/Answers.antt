-- One more name, which may be that of an earlier one.
use Rattle.std.proofs.Common.{◌∷◌, ◌∙◌, ◌||◌, List, ℕ, Bool, Option, ap}
use Rattle.std.specs.Prelude.{is_some}
use Rattle.std.specs.List.{list_any}
use Rattle.std.specs.Str.{bytes_eq}
use Rattle.capl_meaning.specs.ProcedureRules.{Declared, name_offence, same_name}
use Rattle.check_names.specs.Inside.Table.{numbered}
use Rattle.check_names.specs.Repeat.{name_at}
use Rattle.check_names.proofs.RepeatLemmas.{repeated_turn}
use Rattle.check_names.proofs.TableLemmas.{name_more}
use Rattle.check_names.proofs.repeats.note_repeated.Goals as goal

pub loop-name-preserved : goal.loop-name-preserved
loop-name-preserved c =
    let item = c.name-item.result in
    let earlier = c.loop-name.invariant.earlier in
    record {
      earlier = name_at item ∷ earlier;
      table = λ name.
          ap (λ (o : Option ℕ). is_some o) (c.in_ok-known.ensures.noted name)
          ∙ name_more (numbered c.loop-name.table name) (bytes_eq name c.bytes.result.now)
          ∙ ap (λ (b : Bool). bytes_eq name c.bytes.result.now || b) (c.loop-name.invariant.table name)
          ∙ ap (λ (n : List ℕ). bytes_eq name n || list_any (λ (d : Declared). bytes_eq name d.name) earlier) c.bytes.ensures;
      noting =
          repeated_turn name_at same_name name_offence earlier c.args.names.now c.loop-name.name-index item
          c.loop-name.first c.note_where.new.first c.in_ok-known.known c.loop-name-test.true c.name-item.is
          (c.in_ok-known.ensures.known
          ∙ ap (λ (n : List ℕ). is_some (numbered c.loop-name.table n)) c.bytes.ensures
          ∙ c.loop-name.invariant.table item.name.now)
          c.note_where.ensures
          ∙ c.loop-name.invariant.noting;
    }
