-- The instruction at the place is another, and all else is the same.
use Rattle.std.proofs.Common.{arith, ap, ◌∙◌}
use Rattle.std.specs.Prelude.{slice_set, zip}
use Rattle.gen_expr.specs.Target.{HasTarget, aimed}
use Rattle.gen_expr.proofs.Listings.{zip_first, zip_set, zip_within}
use Rattle.gen_expr.proofs.emitter.Emitter.aim.Goals as goal

pub index-requires : goal.index-requires
index-requires c =
    let within = zip_within (λ x. HasTarget x.0) c.self.inside.instrs.items c.self.inside.depths.items c.args.place c.self.invariant (rw c.self.view_is c.requires) in
    omega (arith, within, c.self.inside.instrs.ok.0)

pub index_mut-requires : goal.index_mut-requires
index_mut-requires c =
    let within = zip_within (λ x. HasTarget x.0) c.self.inside.instrs.items c.self.inside.depths.items c.args.place c.self.invariant (rw c.self.view_is c.requires) in
    omega (arith, within, c.self.inside.instrs.ok.0)

pub returns : goal.returns
returns c = λ instr depth there.
    let is = c.self.inside.instrs.items in
    let ds = c.self.inside.depths.items in
    let here = rw (← c.self.view_is) at there in
    let old = zip_first is ds c.args.place c.index.result.now instr depth c.self.invariant here c.index.ensures in
    ap (λ x. zip (slice_set is c.args.place x) ds) (c.aimed.ensures ∙ ap (aimed c.args.target) old)
    ∙ zip_set is ds c.args.place (aimed c.args.target instr) instr depth here
    ∙ ap (λ l. slice_set l c.args.place (aimed c.args.target instr, depth)) c.self.view_is
