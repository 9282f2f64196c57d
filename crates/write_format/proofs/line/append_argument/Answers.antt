-- The cells of an array.
use Rattle.std.proofs.Common.{ℕ, All, [], subst}
use Rattle.std.specs.Prelude.{ℤ, ◌≤ℤ◌, filter_map, pos}
use Rattle.std.proofs.lemmas.List.Elements.{All-head}
use Rattle.write_format.specs.Line.{HoldsBytes, array_of, element_of}
use Rattle.write_format.specs.declared.argument.ArgKind.{ArgKind}
use Rattle.write_format.specs.declared.code.Conversion.{Conversion}
use Rattle.write_format.proofs.line.append_argument.Goals as goal

-- a cell holds a byte
abbrev IsByte : ℤ → Type 0
IsByte n = (pos 0 ≤ℤ n) × (n ≤ℤ pos 255)

pub cells_at-requires : goal.cells_at-requires
cells_at-requires c =
    let cells = c.args.cells.now in
    let array : ℕ × ℕ = (c.in-Text-Chars.base, c.in-Text-Chars.len) in
    let of_argument = subst (λ (conversion : Conversion). All (HoldsBytes cells) (filter_map array_of (element_of c.args.code.field conversion c.args.arg.now))) c.in-Text-Chars.is-0 c.requires.arrays in
    let holds : HoldsBytes cells array =
    All-head (HoldsBytes cells) array [] (subst (λ (a : ArgKind). All (HoldsBytes cells) (filter_map array_of (element_of c.args.code.field Rattle.write_format.specs.declared.code.Conversion.TheVariants.Text a))) c.in-Text-Chars.is-1 of_argument) in
    holds.there
