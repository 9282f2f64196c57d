-- The depths are the second parts of the listing.
use Rattle.std.proofs.Common.{ap, sym, ◌∙◌}
use Rattle.std.specs.Prelude.{map}
use Rattle.std.proofs.lemmas.Slice.Zip.{seconds-zip}
use Rattle.gen_expr.proofs.emitter.Emitter.depths.Goals as goal

pub returns : goal.returns
returns c =
    c.as_slice.ensures.value ∙ sym (seconds-zip c.self.inside.instrs.items c.self.inside.depths.items c.self.invariant) ∙ ap (map (λ x. x.1)) c.self.view_is
