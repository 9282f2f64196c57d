-- One more place.
use Rattle.std.proofs.Common.{get_or, length, subst, sym, ◌<◌, ◌∙◌}
use Rattle.check_calls.proofs.SearchLemmas.{here_more, noted_more, read_same}
use Rattle.check_calls.proofs.search.Search.note_all.Goals as goal

pub loop-place-preserved : goal.loop-place-preserved
loop-place-preserved c =
    let all = c.args.places.now in
    let i = c.loop-place.place-index in
    let is = read_same all i c.loop-place-test.true in
    record {
      flagged = λ are. c.in_ok-note.ensures.flagged (c.loop-place.invariant.flagged are);
      here = λ are.
          here_more (length c.args.self.now.flags.items) all i (get_or all i 0) c.loop-place.self.found.items c.note.new.self.found.items
          c.loop-place-test.true is (c.loop-place.invariant.here are) c.in_ok-note.ensures.grown
          (λ within. c.in_ok-note.ensures.here (c.loop-place.invariant.flagged are)
          (subst (λ n. get_or all i 0 < n) (sym c.loop-place.invariant.count) within));
      grown =
          noted_more all i (get_or all i 0) c.args.self.now.found.items c.loop-place.self.found.items c.note.new.self.found.items
          c.loop-place-test.true is c.loop-place.invariant.grown c.in_ok-note.ensures.grown;
      once = λ are. c.in_ok-note.ensures.once (c.loop-place.invariant.once are);
      count = c.note.ensures.count ∙ c.loop-place.invariant.count;
    }
