-- What a call that reads or judges an input may answer.
use Rattle.std.specs.Prelude.{◌≡◌, Result, Ok, Err, ⊤}
use Rattle.texts.specs.declared.blame.Blame.{Blame}
use Rattle.input_refusals.specs.declared.refusal.InputRefusal.{InputRefusal}
use Rattle.input_refusals.specs.declared.refusal.InputRefusal.TheVariants.{Blamed, Failed, NoMemory}

-- an answer is so, or its blame is the right one
abbrev pub Agrees : {A : Type 0} → (A → Type 0) → (Blame → Type 0) → Result A InputRefusal → Type 0
Agrees IsSo IsBlame (Ok found) = IsSo found
Agrees IsSo IsBlame (Err (Blamed blame)) = IsBlame blame
Agrees IsSo IsBlame (Err Failed) = ⊤
Agrees IsSo IsBlame (Err NoMemory) = ⊤

-- the same of what reads no file: it does not fail
abbrev pub Judges : {A : Type 0} → (A → Type 0) → (Blame → Type 0) → Result A InputRefusal → Type 0
Judges IsSo IsBlame (Ok found) = IsSo found
Judges IsSo IsBlame (Err (Blamed blame)) = IsBlame blame
Judges IsSo IsBlame (Err Failed) = ⊥
Judges IsSo IsBlame (Err NoMemory) = ⊤

-- the refusal has this blame, or there was no memory for it
abbrev pub IsBlamedOrNoMemory : Blame → InputRefusal → Type 0
IsBlamedOrNoMemory blame (Blamed other) = other ≡ blame
IsBlamedOrNoMemory blame Failed = ⊥
IsBlamedOrNoMemory blame NoMemory = ⊤
