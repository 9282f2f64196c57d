-- The parts of a program, as they are listed.
use Rattle.std.specs.Prelude.{◌≡◌, ℕ, suc, List, [], ◌∷◌, ◌++◌, map}
use Rattle.capl_tree.specs.declared.file.TopItem.{TopItem}
use Rattle.capl_meaning.specs.Variable.{Part, Globals, Procedure, parts_of_items}
use Rattle.check_names.specs.declared.part.ProgramPart.{ProgramPart}
use Rattle.check_names.specs.declared.part.ProgramPart.TheVariants as part

-- the part that is listed
abbrev pub part_in : ProgramPart → Part
part_in (part.Globals file declarations) = Globals file declarations.now
part_in (part.Procedure number file procedure) = Procedure number file procedure.now

-- the parts that are listed
abbrev pub parts_in : List ProgramPart → List Part
parts_in parts = map part_in parts

-- the parts of a file's items, with none behind them, where so many procedures stand before them
abbrev pub parts_of_file : ℕ → List TopItem → ℕ → List Part
parts_of_file file items before = parts_of_items file items (suc before) (λ number. [])

-- an item of a file was looked at: what was listed before and after it, and how many procedures there were
-- then, for whatever comes behind it
abbrev pub IsItemListed : ℕ → TopItem → ℕ → List Part → ℕ → List Part → Type 0
IsItemListed file item before old after new = (rest : List TopItem) (others : ℕ → List Part) →
    new ++ parts_of_items file rest (suc after) others
    ≡ old ++ parts_of_items file (item ∷ rest) (suc before) others

-- the items of a file were looked at
abbrev pub AreItemsListed : ℕ → List TopItem → ℕ → List Part → ℕ → List Part → Type 0
AreItemsListed file items before old after new = (others : ℕ → List Part) →
    new ++ others (suc after) ≡ old ++ parts_of_items file items (suc before) others
