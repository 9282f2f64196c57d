-- One more, which may be for what an earlier one is for.
use Rattle.std.proofs.Common.{◌∷◌, ◌∙◌, refl}
use Rattle.check_names.specs.Inside.Purpose.{purpose_offence, same_purpose, told_in}
use Rattle.check_names.proofs.RepeatLemmas.{repeated_turn}
use Rattle.check_names.proofs.purposes.note_collisions.Goals as goal

pub loop-telling-preserved : goal.loop-telling-preserved
loop-telling-preserved c =
    let item = c.telling-item.result in
    let earlier = c.loop-telling.invariant.earlier in
    record {
      earlier = told_in item ∷ earlier;
      knows = c.in_ok-known.ensures.taken earlier (told_in item) refl c.loop-telling.invariant.knows;
      noting =
          repeated_turn told_in same_purpose purpose_offence earlier c.args.tellings.now c.loop-telling.telling-index item
          c.loop-telling.first c.note_where.new.first c.in_ok-known.known c.loop-telling-test.true c.telling-item.is
          (c.in_ok-known.ensures.known earlier c.loop-telling.invariant.knows) c.note_where.ensures
          ∙ c.loop-telling.invariant.noting;
    }
