-- One more line, and the ends.
use Rattle.std.proofs.Common.{[], ◌∷◌, ◌++◌, refl}
use Rattle.log_line.specs.View.{line_of}
use Rattle.log_line.specs.declared.line.Line.TheVariants.{Skip}
use Rattle.replay_node.proofs.LogLemmas.{IsFirst, bad_line, read_all, unread_end}
use Rattle.replay_node.proofs.TakenLemmas.{take_more, taken_nothing}
use Rattle.replay_node.proofs.log.read_lines.Goals as goal

pub loop-first-init : goal.loop-first-init
loop-first-init c =
    let is = c.start-progress.ensures c.args.interface.now c.args.bit in
    taken_nothing c.args.log.now c.args.interface.now c.args.bit c.args.epoch c.start-progress.result is.skipped_is is

pub returns-in-None-clause-refusal : goal.returns-in-None-clause-refusal
returns-in-None-clause-refusal c =
    let first = c.in-Some.first in
    let told = c.in-Some.ensures in
    let is_first : IsFirst c.loop-first.rest.now first.line.now first.is_ended first.rest.now = record { lines = told.lines; whole = told.whole; last = told.last; shorter = told.shorter } in
    let taken = c.loop-first.invariant in
    bad_line c.args.log.now c.loop-first.rest.now first.line.now first.rest.now first.is_ended c.loop-first.number taken.readings taken.has_read is_first c.if-first.true c.in-None.ensures

pub returns-in-None-2-clause-replay : goal.returns-in-None-2-clause-replay
returns-in-None-2-clause-replay c =
    let first = c.in-Some.first in
    let told = c.in-Some.ensures in
    let is_first : IsFirst c.loop-first.rest.now first.line.now first.is_ended first.rest.now = record { lines = told.lines; whole = told.whole; last = told.last; shorter = told.shorter } in
    let taken = c.loop-first.invariant in
    let readings = taken.readings ++ Skip ∷ [] in (
      readings,
      unread_end c.args.log.now c.loop-first.rest.now first.line.now first.rest.now first.is_ended c.loop-first.number taken.readings taken.has_read is_first c.if-first.false c.in-None-2.ensures,
      c.replay.ensures c.args.interface.now c.args.bit c.args.epoch readings (c.skip.ensures c.args.interface.now c.args.bit c.args.epoch taken.readings taken.is),
    )

pub loop-first-preserved : goal.loop-first-preserved
loop-first-preserved c =
    let first = c.in-Some.first in
    let told = c.in-Some.ensures in
    let is_first : IsFirst c.loop-first.rest.now first.line.now first.is_ended first.rest.now = record { lines = told.lines; whole = told.whole; last = told.last; shorter = told.shorter } in
    take_more c.args.log.now c.loop-first.rest.now first.line.now first.rest.now c.args.interface.now first.is_ended c.args.bit c.args.epoch c.loop-first.number c.loop-first.progress
    c.take.new.self (line_of c.in-Some-view_line.line) c.loop-first.invariant is_first c.in-Some-view_line.ensures
    (c.in_ok-take-in-Some-view_line.ensures.taken c.args.epoch) c.in_ok-take-in-Some-view_line.ensures.skipped

pub returns-clause-replay : goal.returns-clause-replay
returns-clause-replay c =
    let taken = c.loop-first.invariant in (
      taken.readings,
      read_all c.args.log.now c.loop-first.rest.now c.loop-first.number taken.readings taken.has_read (c.in_default.ensures.none.0 refl),
      c.replay-2.ensures c.args.interface.now c.args.bit c.args.epoch taken.readings taken.is,
    )
