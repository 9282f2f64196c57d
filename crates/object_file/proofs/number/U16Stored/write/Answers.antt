-- The number has these halves.
use Rattle.std.proofs.Common.{◌≡◌, ◌++◌, subst, refl}
use Rattle.std.specs.Prelude.{OnOk}
use Rattle.object_file.specs.Number.{byte}
use Rattle.object_file.proofs.Pairs.{halves_written}
use Rattle.object_file.proofs.number.U16Stored.write.Goals as goal

pub returns : goal.returns
returns c =
    subst (λ l. OnOk c.write.result (c.write.new.into.items ≡ c.args.into.now.items ++ l))
    (halves_written 256 byte c.args.self.now _ _ refl refl) c.write.ensures
