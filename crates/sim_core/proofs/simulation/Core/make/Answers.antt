-- A new simulation is fresh: its nodes were loaded and its bus is new.
use Rattle.std.proofs.Common.{◌<◌, All, arith, refl, subst, sym}
use Rattle.node_run.specs.Sound.{CanOccur}
use Rattle.run_meaning.specs.Live.{CanBeSeen}
use Rattle.sim_core.proofs.LoadedNodes.{loaded_are_idle, loaded_are_later, loaded_are_ready}
use Rattle.sim_core.proofs.simulation.Core.make.Goals as goal

pub invariant_of-result : goal.invariant_of-result
invariant_of-result g c = record {
  idle = λ _. loaded_are_idle c.args.nodes.items c.requires.loaded;
  serves = λ _. c.requires.serves;
  fresh = λ _. record {
    ready = loaded_are_ready c.args.nodes.items c.requires.loaded;
    later = loaded_are_later c.args.nodes.items c.requires.loaded;
    sound_bus = c.requires.sound_bus;
    new_bus = c.requires.new_bus;
    frames = λ frame on sent. c.requires.frames frame on;
    keys_can = subst (λ keys. All (λ key. key.key < 256) keys) (sym c.all_of.ensures) c.requires.keys;
    requests_can = subst (λ requests. All (λ request. CanBeSeen CanOccur request.frame) requests) (sym c.all_of-2.ensures)
        (λ k d within sent. c.requires.replay k d within);
    at_zero = refl;
    not_stopped = refl;
  };
  stands = λ is_going. absurd (cc is_going);
  few = c.requires.few;
  in_time = c.requires.in_time;
  not_past = omega arith;
}
