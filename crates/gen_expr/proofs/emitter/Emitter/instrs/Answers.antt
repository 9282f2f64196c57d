-- The instructions are the first parts of the listing.
use Rattle.std.proofs.Common.{ap, sym, ◌∙◌}
use Rattle.std.specs.Prelude.{map}
use Rattle.std.proofs.lemmas.Slice.Zip.{firsts-zip}
use Rattle.gen_expr.proofs.emitter.Emitter.instrs.Goals as goal

pub returns : goal.returns
returns c =
    c.as_slice.ensures.value ∙ sym (firsts-zip c.self.inside.instrs.items c.self.inside.depths.items c.self.invariant) ∙ ap (map (λ x. x.0)) c.self.view_is
