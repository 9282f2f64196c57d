-- A declaration is its tokens, one after another.
use Rattle.sys_vars.proofs.PreludeLemmas.{timer_pushed}
use Rattle.sys_vars.proofs.declaring.push_timer.Goals as goal

pub returns : goal.returns
returns c =
    timer_pushed c.args.into.now.items c.push.new.into.items c.push-2.new.into.items c.push-3.new.into.items
    _ c.bytes.result.now c.bytes-2.result.now c.args.item.now c.in_ok-name.ensures c.bytes.ensures c.bytes-2.ensures
    c.in_ok-push.ensures c.in_ok-push-2.ensures c.in_ok-push-3.ensures
