-- What begins with `\` is an escape.
use Rattle.std.proofs.Common.{◌≡◌, ◌∷◌}
use Rattle.std.proofs.lemmas.Bool.{iff_false}
use Rattle.capl_lexer.proofs.ItemFronts.{item_from_escape}
use Rattle.capl_lexer.proofs.quoted.item_front.Goals as goal

pub returns-then-first-eq92 : goal.returns-then-first-eq92
returns-then-first-eq92 c =
    let first = c.in_ok-first.first.now in
    let rest = c.in_ok-first.rest.now in
    let split : c.args.text.now ≡ first ∷ rest = cc (c.in_ok-first.ensures.cases.0) in
    item_from_escape c.args.plain c.args.text.now first rest c.escape.result split c.if-first-eq92.true
    (iff_false c.contains.ensures c.if-contains.false) c.escape.ensures
