-- The event procedures so far are sound.
use Rattle.std.proofs.Common.{take}
use Rattle.std.specs.Prelude.{All}
use Rattle.typed_tree.specs.Sound.{IsSoundHandler}
use Rattle.sound_check.proofs.program.are_sound_handlers.Given as goal

abbrev pub invariant-loop-handler : goal.invariant-loop-handler
invariant-loop-handler l = All (IsSoundHandler l.typed) (take l.handler-index l.typed.handlers)
