-- The listing has one more of each.
use Rattle.std.proofs.Common.{◌∷◌, [], ◌++◌, length, ap, ◌∙◌, length-append}
use Rattle.std.specs.Prelude.{zip}
use Rattle.gen_expr.proofs.Listings.{zip_push}
use Rattle.gen_expr.proofs.emitter.Emitter.add.Goals as goal

pub returns-in-Ok-clause-code : goal.returns-in-Ok-clause-code
returns-in-Ok-clause-code c =
    let is = c.self.inside.instrs.items in
    let ds = c.self.inside.depths.items in
    ap (λ l. zip l c.push-2.new.self.items) c.in_ok-push.ensures.items
    ∙ ap (zip (is ++ c.args.instr ∷ [])) c.in-Ok.ensures.items
    ∙ zip_push is ds c.args.instr c.args.depth c.self.invariant
    ∙ ap (λ l. l ++ (c.args.instr, c.args.depth) ∷ []) c.self.view_is

pub returns-in-Ok-clause-grows : goal.returns-in-Ok-clause-grows
returns-in-Ok-clause-grows c =
    ap length (returns-in-Ok-clause-code c) ∙ length-append c.args.self.now ((c.args.instr, c.args.depth) ∷ [])
