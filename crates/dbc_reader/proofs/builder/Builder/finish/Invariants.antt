-- The marks so far are taken.
use Rattle.std.proofs.Common.{◌≡◌, take}
use Rattle.std.specs.Prelude.{fold}
use Rattle.dbc_reader.specs.Database.{with_mark}
use Rattle.dbc_reader.proofs.builder.Builder.finish.Given as goal

abbrev pub invariant-loop-mark : goal.invariant-loop-mark
invariant-loop-mark l = l.database ≡ fold with_mark l.fn.self.messages.items (take l.mark-index l.mark-items)
