-- The format that is held is that of its text.
use Rattle.std.proofs.Common.{subst}
use Rattle.write_format.specs.Line.{FormatText, IsFormatOf}
use Rattle.write_format.proofs.ShownLemmas.{held_is}
use Rattle.write_format.proofs.format.Format.text.Goals as goal

pub returns-clause-read : goal.returns-clause-read
returns-clause-read c =
    subst (λ (format : FormatText). IsFormatOf format.text format.arguments format) c.self.view_is
    (held_is c.self.inside.text c.self.inside.args (c.self.invariant).0)
