-- Where each place so far stands.
use Rattle.std.proofs.Common.{◌≡◌, ◌<◌, ℕ, Some, get_or, length, slice_get}
use Rattle.check_calls.proofs.rows.stand_at.Given as goal

abbrev pub invariant-loop-place : goal.invariant-loop-place
invariant-loop-place l = record {
  at : l.at ≡ l.place-index;
  room : length l.stand.items ≡ l.count;
  known : (k place : ℕ) → k < l.place-index → slice_get l.places k ≡ Some place → get_or l.stand.items place 0 ≡ k;
}
