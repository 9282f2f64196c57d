-- One more row is followed.
use Rattle.std.proofs.Common.{◌≡◌, ◌⊎◌, ◌<◌, ◌∙◌, ℕ, Bool, List, Some, ap, inl, inr, subst, sym, arith, length, false, replicate}
use Rattle.std.specs.Prelude.{slice_get}
use Rattle.std.specs.Global.{Vec}
use Rattle.std.proofs.lemmas.List.{length-map, length-replicate}
use Rattle.std.proofs.lemmas.Option.{slice_get-get_or}
use Rattle.check_calls.specs.Graph.{Has, rows_of}
use Rattle.check_calls.specs.Inside.Search.{AreFlagged, AreOnce}
use Rattle.check_calls.proofs.SearchLemmas.{closed_all, closed_more, none_flagged, none_has, none_once, once_few, once_within, pass_more, row_at}
use Rattle.check_calls.proofs.search.reached_from.Goals as goal

pub loop-head-init : goal.loop-head-init
loop-head-init c =
    let empty = c.new-found.ensures.items in
    let flagged =
    subst (λ (l : List Bool). AreFlagged l c.new-found.result.items)
    (sym (c.in_ok-flags.ensures.items_if_clones_equal (λ y same. same)))
    (subst (λ (l : List ℕ). AreFlagged (replicate (length c.args.rows.now) false) l) (sym empty)
    (none_flagged (length c.args.rows.now))) in
    let once : AreOnce c.in_ok-flags.flags.items c.new-found.result.items =
    subst (AreOnce c.in_ok-flags.flags.items) (sym empty) (none_once c.in_ok-flags.flags.items) in
    let flags : length c.in_ok-flags.flags.items ≡ length c.args.rows.now =
    ap length (c.in_ok-flags.ensures.items_if_clones_equal (λ y same. same)) ∙ length-replicate (length c.args.rows.now) false in
    let one : (place : ℕ) → Has c.new-found.result.items place ⊎ (place ≡ c.args.from) → place ≡ c.args.from = λ place o. elim o [
      | inl has ↦ absurd (none_has place (subst (λ (l : List ℕ). Has l place) empty has))
      | inr same ↦ same
    ] in
    record {
      flagged = c.in_ok-note.ensures.flagged flagged;
      once = c.in_ok-note.ensures.once once;
      count = c.note.ensures.count ∙ flags;
      has = λ within. c.in_ok-note.ensures.here flagged (subst (λ n. c.args.from < n) (sym flags) within);
      closed = λ k from to none at leads is. absurd (omega (arith, none));
      least = λ test first keeps k place at.
          ap test (one place (c.in_ok-note.ensures.grown.only k place at)) ∙ first;
    }

pub returns-then-head-len-clause-closed : goal.returns-then-head-len-clause-closed
returns-then-head-len-clause-closed c =
    closed_all (rows_of c.args.rows.now) c.loop-head.search.found.items c.loop-head.head
    (omega (arith, c.if-head-len.true, c.len.ensures)) c.loop-head.invariant.closed

pub returns-clause-closed : goal.returns-clause-closed
returns-clause-closed c =
    let few = once_few c.loop-head.search.flags.items c.loop-head.search.found.items c.loop-head.invariant.once in
    closed_all (rows_of c.args.rows.now) c.loop-head.search.found.items c.loop-head.head
    (omega (arith, few, c.loop-head.invariant.count, c.loop-head-test.false)) c.loop-head.invariant.closed

pub bounds-rows-place : goal.bounds-rows-place
bounds-rows-place c =
    let found = c.loop-head.search.found.items in
    let within : c.loop-head.head < length found = omega (arith, c.if-head-len.false, c.len.ensures) in
    let inside = once_within c.loop-head.search.flags.items found c.loop-head.invariant.once c.loop-head.head c.index.result.now
    (slice_get-get_or found c.loop-head.head c.index.result.now within ∙ ap (λ (x : ℕ). Some x) (sym c.index.ensures)) in
    omega (arith, inside, c.loop-head.invariant.count)

pub loop-head-preserved : goal.loop-head-preserved
loop-head-preserved c =
    let rows = rows_of c.args.rows.now in
    let before = c.loop-head.search.found.items in
    let after = c.note_all.new.self.found.items in
    let head = c.loop-head.head in
    let place = c.index.result.now in
    let row = c.as_slice.result.now in
    let within : head < length before = omega (arith, c.if-head-len.false, c.len.ensures) in
    let here : slice_get before head ≡ Some place = slice_get-get_or before head place within ∙ ap (λ (x : ℕ). Some x) (sym c.index.ensures) in
    let inside = once_within c.loop-head.search.flags.items before c.loop-head.invariant.once head place here in
    let placed : place < length c.args.rows.now = omega (arith, inside, c.loop-head.invariant.count) in
    let many = length-map c.args.rows.now (λ (r : Vec ℕ). r.items) in
    let there : slice_get rows place ≡ Some row =
    row_at c.args.rows.now place c.index-rows-place.result placed c.index-rows-place.is
    ∙ ap (λ (l : List ℕ). Some l) (sym c.as_slice.ensures.value) in
    let are = c.loop-head.invariant.flagged in
    let grown = c.in_ok-note_all.ensures.grown in
    record {
      flagged = c.in_ok-note_all.ensures.flagged are;
      once = c.in_ok-note_all.ensures.once c.loop-head.invariant.once;
      count = c.note_all.ensures.count ∙ c.loop-head.invariant.count;
      has = λ below. let has = c.loop-head.invariant.has below in (has.0, grown.kept has.0 c.args.from has.1);
      closed =
          closed_more rows before after head place row here there grown
          (λ x stands below. c.in_ok-note_all.ensures.here are x stands
          (omega (arith, below, many, c.loop-head.invariant.count)))
          c.loop-head.invariant.closed;
      least = λ test first keeps.
          pass_more rows before after head place row test here there grown keeps (c.loop-head.invariant.least test first keeps);
    }
