-- The bytes before the place are digits.
use Rattle.std.proofs.Common.{◌-◌, ◌≤◌, length}
use Rattle.std.specs.List.{AllWithin}
use Rattle.std.specs.Char.{IsAsciiHexdigit}
use Rattle.lane_scan.proofs.hex.all_hex.Given as goal

abbrev pub invariant-loop-place : goal.invariant-loop-place
invariant-loop-place l = (l.place ≤ length l.bytes) × AllWithin IsAsciiHexdigit l.bytes 0 l.place

abbrev pub decreases-loop-place : goal.decreases-loop-place
decreases-loop-place l = length l.bytes - l.place
