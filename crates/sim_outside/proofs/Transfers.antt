-- Bytes that go from a reader or to a writer in several parts.
use Rattle.std.proofs.Common.{ℕ, ◌+◌, ◌-◌, ◌≤◌, List, ◌++◌, Option, length, take, drop, sym, subst, length-append, arith}
use Rattle.std.proofs.Math.Seq.{take-add}
use Rattle.std.proofs.lemmas.List.{take_rest}
use Rattle.std.specs.Io.KnownBytes.{Appends, Consumes}
use Rattle.std.proofs.KnownBytes.{Appends-trans, Consumes-trans}
use Rattle.sim_outside.specs.Reader.{TakesUpTo}

-- a writer that took a beginning of the piece takes more of it
pub writes_further : (old mid new : Option (List ℕ)) (sent count : ℕ) (piece : List ℕ) → Appends old mid (take sent piece)
    → Appends mid new (take count (take (length piece - sent) (drop sent piece))) → Appends old new (take (sent + count) piece)
writes_further old mid new sent count piece first then =
    let more = rw (take_rest piece sent) at then in
    subst (Appends old new) (sym (take-add sent count piece)) (Appends-trans old mid new _ _ first more)

-- a reader that gave a beginning and then more gave a longer beginning
pub takes_further : (old mid new : Option (List ℕ)) (bytes more : List ℕ) (limit : ℕ) → Consumes old mid bytes → Consumes mid new more
    → length bytes + length more ≤ limit + 1 → TakesUpTo old new limit
takes_further old mid new bytes more limit first then within =
    record {
      bytes = bytes ++ more;
      taken = Consumes-trans old mid new bytes more first then;
      within = omega (arith, length-append bytes more, within);
    }
