-- The stuffing of bits that come one by one.
use Rattle.std.specs.Prelude.{◌≡◌, ℕ, ◌+◌, ◌*◌, ◌/◌, ◌%◌, ◌==◌, Bool, not, if◌then◌else◌, List, [], ◌∷◌, ◌++◌, length}
use Rattle.std.specs.Bool.{beq}
use Rattle.frame_bits.specs.Length.{stuffing_of}

-- how many equal bits end at b, where so many of the last value stood before it
abbrev pub run_with : Bool → ℕ → Bool → ℕ
run_with last run b = if beq last b then run + 1 else 1

-- the stuffing of bits behind so many bits of one value
abbrev pub stuffing_behind : Bool → ℕ → List Bool → List Bool
stuffing_behind last run [] = []
stuffing_behind last run (b ∷ bits) =
    if run_with last run b == 5
    then b ∷ not b ∷ stuffing_behind (not b) 1 bits
    else b ∷ stuffing_behind b (run_with last run b) bits

-- a row stands for a run: it is twice the run's length, and one more where its bits are recessive
abbrev pub last_of : ℕ → Bool
last_of row = row % 2 == 1

-- the length of the run of a row
abbrev pub run_of : ℕ → ℕ
run_of row = row / 2

-- the stuffing of the bits so far has this length, and ends in the run of this row
abbrev pub CountsStuffing : ℕ → ℕ → List Bool → Type 0
CountsStuffing row count bits =
    (more : List Bool) →
    length (stuffing_of (bits ++ more)) ≡ count + length (stuffing_behind (last_of row) (run_of row) more)

-- what bits do behind a run, as one number: sixteen times the row behind them, and how many stuff bits they
-- bring beside those brought so far
abbrev pub step_of : Bool → ℕ → ℕ → List Bool → ℕ
step_of last run brought [] = 32 * run + (if last then 16 else 0) + brought
step_of last run brought (b ∷ bits) =
    if run_with last run b == 5
    then step_of (not b) 1 (brought + 1) bits
    else step_of b (run_with last run b) brought bits

-- the step behind the run of a row
abbrev pub step_behind : ℕ → List Bool → ℕ
step_behind row bits = step_of (last_of row) (run_of row) 0 bits
