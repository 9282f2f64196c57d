-- What stands between two bytes.
use Rattle.std.proofs.Common.{◌≡◌, ◌++◌, take}
use Rattle.std.specs.List.{flat_map}
use Rattle.log_line.specs.Written.{byte_text}
use Rattle.log_line.proofs.writing.append_bytes.Given as goal

-- the line has the digits of the bytes that were passed
abbrev pub invariant-loop-byte : goal.invariant-loop-byte
invariant-loop-byte l = l.line.items ≡ l.initial.line.items ++ flat_map byte_text (take l.byte-index l.bytes)
