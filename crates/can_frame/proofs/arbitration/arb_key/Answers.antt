-- The key of a frame, by the format of its identifier.
use Rattle.std.proofs.Common.{ap, ◌∙◌}
use Rattle.can_frame.specs.Frame.{arbitration_key}
use Rattle.can_frame.specs.Inside.Frame.{fields_of}
use Rattle.can_frame.proofs.KeyBits.{std_key_is, ext_key_is}
use Rattle.can_frame.proofs.arbitration.arb_key.Goals as goal

pub returns-in-Std : goal.returns-in-Std
returns-in-Std c =
    std_key_is (fields_of c.f.inside) _ _ _ c.f.invariant.ident_in_range c.in-Std.is c.from.ensures c.from-remote.ensures
    ∙ ap arbitration_key c.f.view_is

pub returns-in-Ext : goal.returns-in-Ext
returns-in-Ext c =
    ext_key_is (fields_of c.f.inside) _ _ c.f.invariant.ident_in_range c.in-Ext.is c.from-remote.ensures
    ∙ ap arbitration_key c.f.view_is
