-- What a search answers.
use Rattle.std.specs.Prelude.{Option, None, Some}

-- a search found what is so, or found nothing, and nothing is so
abbrev pub Finds : {A : Type 0} → (A → Type 0) → Option A → Type 0
Finds {A} IsSo None = (x : A) → IsSo x → ⊥
Finds IsSo (Some x) = IsSo x
