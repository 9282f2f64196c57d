-- What an answer tells of the expansion.
use Rattle.std.specs.Prelude.{◌≡◌, ◌≢◌, ℕ, List, length, sum_by, Result, Ok, Err, ⊤}
use Rattle.std.specs.List.{AllPairs}
use Rattle.capl_include.specs.Expansion.{Contents, Expansion, Went, Stopped, Outcome, IsExpansion}
use Rattle.capl_include.specs.declared.expanded.Expanded.{Expanded}
use Rattle.capl_include.specs.declared.expanded.SourceFile.{SourceFile}
use Rattle.capl_include.specs.declared.refusal.ExpandRefusal.{ExpandRefusal}
use Rattle.capl_include.specs.declared.refusal.ExpandRefusal.TheVariants.{Blamed, Failed, NoMemory}

-- the answer is what the expansion comes to: its files, or its first blame
abbrev pub IsAnswer : Contents → List ℕ → Result Expanded ExpandRefusal → Type 0
IsAnswer contents name (Ok expanded) =
    (end : Expansion) × IsExpansion contents name (Went end) × (expanded.files ≡ end.files)
IsAnswer contents name (Err (Blamed blame)) = IsExpansion contents name (Stopped blame)
IsAnswer contents name (Err Failed) = ⊤
IsAnswer contents name (Err NoMemory) = ⊤

-- the expansion comes to nothing else than the answer
abbrev pub IsOnly : Contents → List ℕ → Result Expanded ExpandRefusal → Type 0
IsOnly contents name (Ok expanded) =
    (outcome : Outcome) → IsExpansion contents name outcome
    → (end : Expansion) × (outcome ≡ Went end) × (end.files ≡ expanded.files)
IsOnly contents name (Err (Blamed blame)) =
    (outcome : Outcome) → IsExpansion contents name outcome → outcome ≡ Stopped blame
IsOnly contents name (Err Failed) = ⊤
IsOnly contents name (Err NoMemory) = ⊤

-- no two files have one name
abbrev pub HaveDifferentNames : List SourceFile → Type 0
HaveDifferentNames files = AllPairs (λ one other. one.name ≢ other.name) files

-- how many tokens files have
abbrev pub token_count : List SourceFile → ℕ
token_count files = sum_by (λ file. length file.tokens) files
