-- One more line, and the ends.
use Rattle.std.proofs.Common.{[], ◌∷◌, ◌++◌, refl}
use Rattle.log_line.specs.View.{line_of}
use Rattle.log_line.specs.declared.line.Line.TheVariants.{Skip}
use Rattle.replay_node.proofs.LogLemmas.{IsFirst, bad_line, read_all, read_more, read_nothing, unread_end}
use Rattle.replay_check.proofs.ReplayLemmas.{replays_of}
use Rattle.replay_check.proofs.bad_line.Goals as goal

pub loop-first-init : goal.loop-first-init
loop-first-init c = ([], read_nothing c.args.log.now)

pub returns-in-None : goal.returns-in-None
returns-in-None c =
    let first = c.in-Some.first in
    let told = c.in-Some.ensures in
    let is_first : IsFirst c.loop-first.rest.now first.line.now first.is_ended first.rest.now = record { lines = told.lines; whole = told.whole; last = told.last; shorter = told.shorter } in
    let readings = c.loop-first.invariant.0 in
    let has = c.loop-first.invariant.1 in
    bad_line c.args.log.now c.loop-first.rest.now first.line.now first.rest.now first.is_ended c.loop-first.number readings has is_first c.if-first.true c.in-None.ensures

pub returns-in-None-2 : goal.returns-in-None-2
returns-in-None-2 c =
    let first = c.in-Some.first in
    let told = c.in-Some.ensures in
    let is_first : IsFirst c.loop-first.rest.now first.line.now first.is_ended first.rest.now = record { lines = told.lines; whole = told.whole; last = told.last; shorter = told.shorter } in
    let readings = c.loop-first.invariant.0 in
    let has = c.loop-first.invariant.1 in
    replays_of c.args.log.now (readings ++ Skip ∷ [])
    (unread_end c.args.log.now c.loop-first.rest.now first.line.now first.rest.now first.is_ended c.loop-first.number readings has is_first c.if-first.false c.in-None-2.ensures)

pub loop-first-preserved : goal.loop-first-preserved
loop-first-preserved c =
    let first = c.in-Some.first in
    let told = c.in-Some.ensures in
    let is_first : IsFirst c.loop-first.rest.now first.line.now first.is_ended first.rest.now = record { lines = told.lines; whole = told.whole; last = told.last; shorter = told.shorter } in
    let readings = c.loop-first.invariant.0 in
    let has = c.loop-first.invariant.1 in
    let reading = line_of c.in-Some-view_line._line in (
      readings ++ reading ∷ [],
      read_more c.args.log.now c.loop-first.rest.now first.line.now first.rest.now first.is_ended c.loop-first.number readings reading has is_first c.in-Some-view_line.ensures,
    )

pub returns : goal.returns
returns c =
    let readings = c.loop-first.invariant.0 in
    let has = c.loop-first.invariant.1 in
    replays_of c.args.log.now readings (read_all c.args.log.now c.loop-first.rest.now c.loop-first.number readings has (c.in_default.ensures.none.0 refl))
