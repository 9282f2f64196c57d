-- The step of the include that the token is.
use Rattle.std.proofs.Common.{◌≡◌, true, false, sym, ap, ◌∙◌}
use Rattle.capl_include.specs.Expansion.{included_name, is_included_name}
use Rattle.capl_include.specs.Inside.Step.{has_met}
use Rattle.capl_include.proofs.StepLemmas.{step_refused, step_visited, refused_step}
use Rattle.capl_include.proofs.expansion.new_name.Goals as goal

pub returns-then-not-is_included_name-clause-told : goal.returns-then-not-is_included_name-clause-told
returns-then-not-is_included_name-clause-told c =
    let naming = c.args.naming.now in
    let token = c.args.token.now in
    let own = c.args.own.now in
    let name = c.in_ok-name.name in
    let naming_bytes = c.bytes.ensures in
    let own_bytes = c.bytes-2.ensures in
    let own_again = c.bytes-3.ensures in
    let name_bytes = c.bytes-4.ensures in
    let name_is : name ≡ included_name naming own = c.in_ok-name.ensures ∙ ap (λ b. included_name b c.bytes-2.result.now) naming_bytes ∙ ap (included_name naming) own_bytes in
    let bad : is_included_name own name ≡ false =
    ap (is_included_name own) (sym name_bytes) ∙ ap (λ b. is_included_name b c.bytes-4.result.now) (sym own_again) ∙ sym c.is_included_name.ensures ∙ c.if-not-is_included_name.true in
    refused_step naming token c.args.progress.now.met c.blamed_at.result
    (step_refused naming token c.args.progress.now.met own name c.requires name_is bad) c.blamed_at.ensures

pub returns-clause-told : goal.returns-clause-told
returns-clause-told c =
    let naming = c.args.naming.now in
    let token = c.args.token.now in
    let own = c.args.own.now in
    let name = c.in_ok-name.name in
    let naming_bytes = c.bytes.ensures in
    let own_bytes = c.bytes-2.ensures in
    let own_again = c.bytes-3.ensures in
    let name_bytes = c.bytes-4.ensures in
    let name_again = c.bytes-5.ensures in
    let name_is : name ≡ included_name naming own = c.in_ok-name.ensures ∙ ap (λ b. included_name b c.bytes-2.result.now) naming_bytes ∙ ap (included_name naming) own_bytes in
    let good : is_included_name own name ≡ true =
    ap (is_included_name own) (sym name_bytes) ∙ ap (λ b. is_included_name b c.bytes-4.result.now) (sym own_again) ∙ sym c.is_included_name.ensures ∙ c.if-not-is_included_name.false in
    let new : has_met c.args.progress.now.met name ≡ false =
    ap (has_met c.args.progress.now.met) (sym name_again) ∙ sym c.has_met.ensures ∙ c.if-has_met.false in
    step_visited naming token c.args.progress.now.met own name c.requires name_is good new
