-- The index is a constant, and in range.
use Rattle.std.proofs.Common.{◌∙◌, Bool, ap, false, refl}
use Rattle.std.specs.Prelude.{not}
use Rattle.std.specs.Option.{option_map_or}
use Rattle.capl_meaning.specs.Constant.{constant_at}
use Rattle.capl_meaning.specs.ExpressionRules.{broken_where}
use Rattle.capl_meaning.specs.DeclarationRules.{constant_offences, is_payload_index}
use Rattle.check_names.specs.First.{noted}
use Rattle.check_statements.specs.Item.{payload_offences}
use Rattle.check_statements.specs.Site.{place_of}
use Rattle.check_statements.proofs.TurnLemmas.{two_noted}
use Rattle.check_statements.proofs.item.judge_payload.Goals as goal

pub returns : goal.returns
returns c =
    let s = place_of c.args.site.now in
    let token = c.args.braces.token in
    let at = c.args.braces.at in
    let kind = c.args.kind in
    let index = c.args.index.now in
    two_noted c.args.first.now c.judge_constant.new.first c.note_broken.new.first (constant_offences s token index)
    (broken_where (option_map_or (λ i. not (is_payload_index kind i)) (constant_at s token index) false) s at 27)
    (payload_offences s token at kind index) c.in_ok-judge_constant.ensures
    (c.note_broken.ensures ∙ ap (λ (b : Bool). noted c.judge_constant.new.first (broken_where b s at 27)) c.passes_the_end-broken.ensures) refl
