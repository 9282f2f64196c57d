-- A list of parts has room for what is left of a program that has few.
use Rattle.std.proofs.Common.{◌≡◌, ◌≤◌, ◌<◌, ◌+◌, ◌^◌, ◌++◌, ◌∷◌, ◌∙◌, ℕ, suc, List, [], arith, ap, drop, get_or, length, length-append, subst, sym}
use Rattle.std.proofs.lemmas.List.{length-map}
use Rattle.capl_tree.specs.declared.file.FileTree.{FileTree}
use Rattle.capl_tree.specs.declared.file.Program.{Program}
use Rattle.capl_tree.specs.declared.file.TopItem.{TopItem}
use Rattle.capl_tree.specs.declared.file.TopItem.TheVariants as top
use Rattle.capl_meaning.specs.Variable.{Part, parts_of, parts_of_files, parts_of_items}
use Rattle.check_names.specs.declared.part.ProgramPart.{ProgramPart}
use Rattle.check_names.specs.Few.{IsFew}
use Rattle.check_names.specs.Part.{part_in, parts_in, parts_of_file}
use Rattle.check_names.proofs.LoopLemmas.{drop_next}

-- no parts follow
abbrev none : ℕ → List Part
none number = []

-- an item alone has no more parts than with those behind it
item_alone : (file number : ℕ) (item : TopItem) (items : List TopItem) (others : ℕ → List Part) →
    length (parts_of_items file (item ∷ []) number none) ≤ length (parts_of_items file (item ∷ items) number others)
item_alone file number (top.Includes names) items others = omega arith
item_alone file number (top.Variables declarations) items others = omega arith
item_alone file number (top.Proc procedure) items others = omega arith

-- neither have the items of a file
items_alone : (file number : ℕ) (items : List TopItem) (others : ℕ → List Part) →
    length (parts_of_items file items number none) ≤ length (parts_of_items file items number others)
items_alone file number [] others = omega arith
items_alone file number (top.Includes names ∷ items) others = items_alone file number items others
items_alone file number (top.Variables declarations ∷ items) others = omega (arith, items_alone file number items others)
items_alone file number (top.Proc procedure ∷ items) others = omega (arith, items_alone file (suc number) items others)

-- what is listed, with as many parts as are left
listed_length : (into : List ProgramPart) (left : List Part) → length (parts_in into ++ left) ≡ length into + length left
listed_length into left = omega (arith, length-append (parts_in into) left, length-map into part_in)

-- there is room for the next item of a file
pub room_for_item : (file before first i : ℕ) (items : List TopItem) (item : TopItem) (into old : List ProgramPart) →
    i < length items → item ≡ get_or items i item →
    parts_in into ++ parts_of_items file (drop i items) (suc before) (λ number. []) ≡ parts_in old ++ parts_of_file file items first →
    length old + length (parts_of_file file items first) < 2 ^ 32 →
    length into + length (parts_of_file file (item ∷ []) before) < 2 ^ 32
room_for_item file before first i items item into old within is listed few =
    let alone = subst (λ (l : List TopItem). length (parts_of_file file (item ∷ []) before) ≤ length (parts_of_file file l before))
    (sym (drop_next items i item within is)) (item_alone file (suc before) item (drop (i + 1) items) none) in
    omega (
      arith,
      few,
      alone,
      ap length listed,
      listed_length into (parts_of_file file (drop i items) before),
      listed_length old (parts_of_file file items first),
    )

-- there is room for the next file of a program
pub room_for_file : (before i file : ℕ) (program : Program) (files : List FileTree) (tree : FileTree) (items : List TopItem) (into : List ProgramPart) →
    files ≡ program.files → i < length files → tree ≡ get_or files i tree → items ≡ tree.items →
    parts_in into ++ parts_of_files file (drop i program.files) (suc before) ≡ parts_of program → IsFew program →
    length into + length (parts_of_file file items before) < 2 ^ 32
room_for_file before i file program files tree items into lent within is same listed few =
    let others = parts_of_files (suc file) (drop (i + 1) files) in
    let next = drop_next files i tree within is in
    let left = sym next ∙ ap (drop i) lent in
    let alone = subst (λ (l : List FileTree). length (parts_of_file file tree.items before) ≤ length (parts_of_files file l (suc before)))
    left (items_alone file (suc before) tree.items others) in
    omega (
      arith,
      few.parts,
      alone,
      ap (λ (l : List TopItem). length (parts_of_file file l before)) same,
      ap length listed,
      listed_length into (parts_of_files file (drop i program.files) (suc before)),
    )
