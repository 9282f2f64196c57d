-- Answers of calls that failed.
use Rattle.std.specs.Prelude.{Result, Ok, Err, OnErr}

-- an error is one of which something holds
pub on_err : {T E P : Type 0} (result : Result T E) → P → OnErr result P
on_err (Ok x) p = tt
on_err (Err e) p = p
