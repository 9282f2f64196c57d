-- Each task is done, a round has so many, and each instant comes later than the one before.
use Rattle.run_meaning.proofs.EachRun.{run_there}
use Rattle.run_meaning.proofs.laws.each_run.Goals as goal

pub returns : goal.returns
returns g c until nodes b keys requests ready later sound empty keys_can requests_can frames =
    run_there g.P.LiveRunner.runner g.P.LiveRunner.sound g.P.LiveRunner.can g.P.LiveRunner.lives g.B.Bus.meaning
    g.met.B.Bus.frames_come g.met.B.Bus.sound_stays g.met.B.Bus.due_later g.met.B.Bus.due_later_from_nothing
    until nodes b keys requests ready later sound empty keys_can requests_can frames
