-- What is marked so far is one of the places so far.
use Rattle.std.proofs.Common.{◌≡◌, get_or, take}
use Rattle.check_calls.specs.Graph.{Has}
use Rattle.check_calls.specs.Inside.Marks.{IsMarked}
use Rattle.check_calls.proofs.marks.mark_all.Given as goal

abbrev pub invariant-loop-place : goal.invariant-loop-place
invariant-loop-place l =
    IsMarked l.fn.marks.items l.marks.items
    (λ other. Has (take l.place-index l.places) other × (get_or l.roots other 0 ≡ l.root))
