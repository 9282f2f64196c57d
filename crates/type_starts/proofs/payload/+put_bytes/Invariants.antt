-- Fewer bytes are left.
use Rattle.type_starts.proofs.payload.+put_bytes.Given as goal

abbrev pub decreases-put_bytes : goal.decreases-put_bytes
decreases-put_bytes l = l.count
