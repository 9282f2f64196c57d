-- The arrays of a format are arguments of it.
use Rattle.std.proofs.Common.{All, IsTrue, subst}
use Rattle.write_format.specs.Line.{IsFormatOf}
use Rattle.write_format.specs.Inside.Shown.{IsArrayIn}
use Rattle.write_format.proofs.ShownLemmas.{arrays_format, format_arrays, held_is}
use Rattle.write_format.proofs.format.Format.has_arrays_in.Goals as goal

pub returns : goal.returns
returns c =
    let kinds = c.args.cells.now in
    let text = c.self.inside.text in
    let arguments = c.self.inside.args in
    let is : IsFormatOf text arguments c.args.self.now = subst (IsFormatOf text arguments) c.self.view_is (held_is text arguments (c.self.invariant).0) in
    let all : (IsTrue c.are_arrays_in.result → All (IsArrayIn kinds) arguments) × (All (IsArrayIn kinds) arguments → IsTrue c.are_arrays_in.result) =
    subst (λ l. (IsTrue c.are_arrays_in.result → All (IsArrayIn kinds) l) × (All (IsArrayIn kinds) l → IsTrue c.are_arrays_in.result)) c.as_slice.ensures c.are_arrays_in.ensures in
    (λ yes. format_arrays kinds text arguments c.args.self.now is (all.0 yes), λ found. all.1 (arrays_format kinds text arguments c.args.self.now is found))
