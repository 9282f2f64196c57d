-- The places so far were noted.
use Rattle.std.proofs.Common.{◌≡◌, ◌<◌, ℕ, length, take}
use Rattle.check_calls.specs.Graph.{Has}
use Rattle.check_calls.specs.Inside.Search.{AreFlagged, AreOnce, IsGrown}
use Rattle.check_calls.proofs.search.Search.note_all.Given as goal

abbrev pub invariant-loop-place : goal.invariant-loop-place
invariant-loop-place l = record {
  flagged : AreFlagged l.fn.self.flags.items l.fn.self.found.items → AreFlagged l.self.flags.items l.self.found.items;
  here : AreFlagged l.fn.self.flags.items l.fn.self.found.items →
      (place : ℕ) → Has (take l.place-index l.places) place → place < length l.fn.self.flags.items → Has l.self.found.items place;
  grown : IsGrown l.fn.self.found.items l.self.found.items (Has (take l.place-index l.places));
  once : AreOnce l.fn.self.flags.items l.fn.self.found.items → AreOnce l.self.flags.items l.self.found.items;
  count : length l.self.flags.items ≡ length l.fn.self.flags.items;
}
