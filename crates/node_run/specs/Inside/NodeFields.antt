-- What the fields of a node keep.
use Rattle.std.specs.Prelude.{◌≡◌, ℕ, ◌+◌, ◌<◌, ◌≤◌, ◌^◌, length}
use Rattle.timer_queue.specs.Timers.{IsTimers, Timers}
use Rattle.bytecode.specs.declared.code.Code.{Code}
use Rattle.bytecode.specs.Verified.{IsVerified}
use Rattle.stack_vm.specs.Memory.{IsMemoryOf, MemoryState}
use Rattle.node_rounds.specs.Round.{Rest}
use Rattle.node_run.specs.Inside.Agenda.{IsPlan}

-- The code is verified, the memory is one of it, and the timers are as many as the code has, with settings
-- that timers have; its handlers can be numbered, and their rows too, the moment is one at which timers can
-- be set, and what is left to do runs handlers of the code.
pub record IsNode (code : Code) (memory : MemoryState) (timers : Timers) (first_row now : ℕ) (rest : Rest) :
    Type 0 where
  pub verified : IsVerified code
  pub memory_of : IsMemoryOf code memory
  pub as_many : timers.count ≡ length code.timers
  pub valid : IsTimers timers
  pub numbered : length code.handlers < 2 ^ 32
  pub rows : first_row + length code.handlers < 2 ^ 64
  pub in_time : now ≤ 2 ^ 63
  pub plan : IsPlan (length code.handlers) rest
