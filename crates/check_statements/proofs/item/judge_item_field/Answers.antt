-- Payload bytes.
use Rattle.std.proofs.Common.{◌≡◌, ◌∙◌, ap, rules, sym}
use Rattle.check_names.specs.First.{noted}
use Rattle.check_sorts.specs.Form.{signals_in}
use Rattle.check_statements.specs.Item.{payload_offences}
use Rattle.check_statements.specs.Site.{place_of}
use Rattle.check_statements.proofs.FieldLemmas.{bytes_rules}
use Rattle.check_statements.proofs.item.judge_item_field.Goals as goal

pub returns-in_ok-judge_payload-in-Bytes : goal.returns-in_ok-judge_payload-in-Bytes
returns-in_ok-judge_payload-in-Bytes c =
    let s = place_of c.args.site.now in
    let token = c.args.braces.token in
    let at = c.args.braces.at in
    let here : c.judge_payload.new.first ≡ noted c.args.first.now (payload_offences s token at c.in-Bytes.kind c.in-Bytes.index) = search rules in
    here ∙ ap (noted c.args.first.now)
    (sym (bytes_rules s token at (signals_in c.args.signals) c.args.field.now c.in-Bytes.kind c.in-Bytes.index c.in-Bytes.at c.in-Bytes.is))
