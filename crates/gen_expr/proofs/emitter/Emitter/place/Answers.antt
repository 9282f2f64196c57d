-- The listing is as long as its instructions.
use Rattle.std.proofs.Common.{length, ap, arith}
use Rattle.gen_expr.proofs.Listings.{zip_long}
use Rattle.gen_expr.proofs.emitter.Emitter.place.Goals as goal

pub overflow_cast-result : goal.overflow_cast-result
overflow_cast-result c =
    let long = zip_long c.self.inside.instrs.items c.self.inside.depths.items c.self.invariant in
    omega (arith, long, ap length c.self.view_is, c.requires)

pub returns : goal.returns
returns c =
    let long = zip_long c.self.inside.instrs.items c.self.inside.depths.items c.self.invariant in
    omega (arith, long, ap length c.self.view_is)
