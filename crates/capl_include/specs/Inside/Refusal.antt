-- Refusals by a blame.
use Rattle.std.specs.Prelude.{◌≡◌, ⊤}
use Rattle.texts.specs.declared.blame.Blame.{Blame}
use Rattle.capl_include.specs.declared.refusal.ExpandRefusal.{ExpandRefusal}
use Rattle.capl_include.specs.declared.refusal.ExpandRefusal.TheVariants.{Blamed, Failed, NoMemory}

-- the refusal has this blame, or there was no memory for it
abbrev pub IsBlamedOrNoMemory : Blame → ExpandRefusal → Type 0
IsBlamedOrNoMemory blame (Blamed other) = other ≡ blame
IsBlamedOrNoMemory blame Failed = ⊥
IsBlamedOrNoMemory blame NoMemory = ⊤
