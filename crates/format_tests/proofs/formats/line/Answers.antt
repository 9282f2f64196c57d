-- Arrays that lie in the test's cells hold bytes.
use Rattle.std.proofs.Common.{rules, ℕ, All, pos, List, [], ◌∷◌, drop}
use Rattle.std.specs.Prelude.{ℤ, ◌≤ℤ◌}
use Rattle.std.proofs.lemmas.List.Elements.{All-drop, All-take, All-weaker}
use Rattle.int_kinds.specs.declared.kinds.Kind.{Kind}
use Rattle.int_kinds.specs.declared.kinds.Kind.TheVariants.{Char}
use Rattle.write_format.specs.Line.{HoldsBytes, IsCharArray, char_arrays}
use Rattle.format_tests.proofs.formats.line.Goals as goal

-- the kinds of the test's cells
abbrev kinds : List Kind
kinds = Char ∷ Char ∷ Char ∷ Char ∷ Char ∷ Char ∷ Char ∷ []

-- the test's cells
abbrev cells : List ℤ
cells = pos 120 ∷ pos 72 ∷ pos 105 ∷ pos 0 ∷ pos 33 ∷ pos 255 ∷ pos 33 ∷ []

-- a cell holds a byte
abbrev IsByte : ℤ → Type 0
IsByte n = (pos 0 ≤ℤ n) × (n ≤ℤ pos 255)

-- arrays of characters there hold bytes
held : (arrays : List (ℕ × ℕ)) → All (IsCharArray kinds) arrays → All (HoldsBytes cells) arrays
held arrays found =
    let bytes : All IsByte cells = search rules in
    All-weaker (IsCharArray kinds) (HoldsBytes cells)
    (λ array is. record {
      there = is.there;
      bytes = All-take IsByte array.1 (drop array.0 cells) (All-drop IsByte array.0 cells bytes);
    }) arrays found

pub render_list-requires-clause-arrays : goal.render_list-requires-clause-arrays
render_list-requires-clause-arrays c =
    let found : All (IsCharArray kinds) (char_arrays c.args.format.now) = search rules in
    held (char_arrays c.args.format.now) found

pub render-requires-clause-arrays : goal.render-requires-clause-arrays
render-requires-clause-arrays c =
    let found : All (IsCharArray kinds) (char_arrays c.args.format.now) = search rules in
    held (char_arrays c.args.format.now) found
