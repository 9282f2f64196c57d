-- One more label, which may say what an earlier one says.
use Rattle.std.proofs.Common.{◌∷◌, ◌∙◌, List, [], Option, ap, sym}
use Rattle.std.specs.Prelude.{ℤ, map}
use Rattle.std.specs.Borrow.{Bor}
use Rattle.std.specs.List.{list_any}
use Rattle.capl_tree.specs.declared.statement.Label.{Label}
use Rattle.capl_meaning.specs.StatementRules.{repeated}
use Rattle.check_names.specs.First.{noted}
use Rattle.check_names.specs.Variable.{lent}
use Rattle.check_names.proofs.RepeatLemmas.{repeated_turn}
use Rattle.check_statements.specs.Inside.Label.{SaidLabel, label_offence, said_by, said_of, same_said, same_saying}
use Rattle.check_statements.specs.Site.{place_of}
use Rattle.check_statements.proofs.LabelLemmas.{said_rule}
use Rattle.check_statements.proofs.TurnLemmas.{map_twice}
use Rattle.check_statements.proofs.label.note_repeated.Goals as goal

pub loop-label-init : goal.loop-label-init
loop-label-init c =
    let s = place_of c.args.site.now in
    record {
      earlier = [];
      has = c.new-seen.ensures;
      noting =
          ap (λ (l : List SaidLabel). noted c.args.first.now (map (label_offence s) (repeated same_said [] l)))
          (map_twice (λ (l : Bor Label). l.now) (said_by s c.args.on) c.args.labels.now)
          ∙ ap (noted c.args.first.now) (said_rule s c.args.on (lent c.args.labels.now));
    }

pub loop-label-preserved : goal.loop-label-preserved
loop-label-preserved c =
    let s = place_of c.args.site.now in
    let item = c.label-item.result in
    let earlier = c.loop-label.invariant.earlier in
    record {
      earlier = said_of s c.args.on item ∷ earlier;
      has = c.in_ok-add.ensures earlier (said_of s c.args.on item) (sym c.saying_of-saying.ensures) c.loop-label.invariant.has;
      noting =
          repeated_turn (said_of s c.args.on) same_said (label_offence s) earlier c.args.labels.now c.loop-label.label-index item
          c.loop-label.first c.note_broken.new.first c.has-known.result c.loop-label-test.true c.label-item.is
          (c.has-known.ensures earlier c.loop-label.invariant.has
          ∙ ap (λ (x : Option (Option ℤ)). list_any (λ (t : SaidLabel). same_saying x t.saying) earlier) c.saying_of-saying.ensures)
          c.note_broken.ensures
          ∙ c.loop-label.invariant.noting;
    }
