-- A declaration is its tokens, one after another.
use Rattle.std.proofs.Common.{ap, map, ◌++◌, ◌∙◌}
use Rattle.std.specs.Prelude.{ℤ}
use Rattle.std.proofs.lemmas.Int.{to_z-of_z}
use mir.Syntax.{w128}
use Rattle.sys_vars.specs.Prelude.{unplaced, value_toks}
use Rattle.sys_vars.proofs.PreludeLemmas.{long_fits, variable_pushed}
use Rattle.sys_vars.proofs.declaring.push_variable.Goals as goal

pub returns : goal.returns
returns c =
    let value = c.args.item.now.value in
    let back = to_z-of_z w128 value (long_fits value c.requires) in
    variable_pushed c.args.into.now.items c.push.new.into.items c.push-2.new.into.items c.push-3.new.into.items c.push_value.new.into.items c.push-4.new.into.items
    _ c.bytes.result.now c.bytes-2.result.now c.args.item.now c.in_ok-name.ensures c.bytes.ensures c.bytes-2.ensures
    c.in_ok-push.ensures c.in_ok-push-2.ensures c.in_ok-push-3.ensures
    (c.in_ok-push_value.ensures ∙ ap (λ (n : ℤ). c.push-3.new.into.items ++ map unplaced (value_toks n)) back)
    c.in_ok-push-4.ensures
