-- The functions so far are sound.
use Rattle.std.proofs.Common.{◌≡◌, ℕ, ◌<◌, slice_get}
use Rattle.std.specs.Prelude.{Some}
use Rattle.typed_tree.specs.declared.program.TFun.{TFun}
use Rattle.typed_tree.specs.Sound.{IsSoundFunction}
use Rattle.sound_check.proofs.program.are_sound_functions.Given as goal

abbrev pub invariant-loop-number : goal.invariant-loop-number
invariant-loop-number l = (number : ℕ) (function : TFun) → number < l.number →
    slice_get l.typed.functions number ≡ Some function → IsSoundFunction l.typed number function
