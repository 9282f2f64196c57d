-- The codes of write formats, one by one.
use Rattle.std.specs.Prelude.{◌<◌, Bool, false, List, ℕ, [], ◌∷◌, length, Option, Some, None}
use Rattle.std.specs.Option.{option_map, option_map_or}
use Rattle.write_format.specs.declared.code.Code.{Code}
use Rattle.capl_meaning.specs.declared.sort.Sort.{Sort}
use Rattle.capl_meaning.specs.Format.{format_codes, show_all}
use Rattle.check_sorts.specs.declared.format.NextCode.{NextCode}
use Rattle.check_sorts.specs.declared.format.NextCode.TheVariants as next

-- the codes of a text, by its first one and what stands behind it
abbrev pub codes_by : NextCode → Option (List Code)
codes_by (next.Code code rest) = option_map (λ codes. code ∷ codes) (format_codes rest.now)
codes_by next.End = Some []
codes_by next.Wrong = None

-- what stands behind the first code is shorter than a text
abbrev pub LeavesLess : List ℕ → NextCode → Type 0
LeavesLess text (next.Code code rest) = length rest.now < length text
LeavesLess text next.End = Unit {0}
LeavesLess text next.Wrong = Unit {0}

-- a text has codes, as many as there are sorts, and each shows its one
abbrev pub shown : Option (List Code) → List Sort → Bool
shown codes sorts = option_map_or (λ found. show_all found sorts) codes false
