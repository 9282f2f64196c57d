-- The instructions and the depths are the parts of the listing.
use Rattle.std.proofs.Common.{ap, sym, ◌∙◌}
use Rattle.std.specs.Prelude.{map}
use Rattle.std.proofs.lemmas.Slice.Zip.{firsts-zip, seconds-zip}
use Rattle.gen_expr.proofs.emitter.Emitter.take.Goals as goal

pub returns-clause-instrs : goal.returns-clause-instrs
returns-clause-instrs c =
    sym (firsts-zip c.self.inside.instrs.items c.self.inside.depths.items c.self.invariant) ∙ ap (map (λ x. x.0)) c.self.view_is

pub returns-clause-depths : goal.returns-clause-depths
returns-clause-depths c =
    sym (seconds-zip c.self.inside.instrs.items c.self.inside.depths.items c.self.invariant) ∙ ap (map (λ x. x.1)) c.self.view_is
