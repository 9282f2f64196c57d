-- What reading a file may answer, and where a file that another one names is sought.
use Rattle.std.specs.Prelude.{ℕ, ◌-◌, List, ◌++◌, length, take, not, ◌==◌, nat_eq, if◌then◌else◌, codes, ◌≡◌, ◌<◌, ◌≤◌, Option, Some, None, Result, Ok, Err, ⊤}
use Rattle.std.specs.List.{suffix_len, starts_with}
use Rattle.std.specs.Global.{Vec}
use Rattle.sim_outside.specs.declared.files.FileRefusal.{FileRefusal}
use Rattle.sim_outside.specs.declared.files.FileRefusal.TheVariants.{Missing, TooLong, Failed, NoMemory}

-- ---- Where a file that another file names is sought.

-- a name up to and with its last `/`, or nothing where it has none
abbrev pub folder_of : List ℕ → List ℕ
folder_of name = take (length name - suffix_len (λ byte. not (byte == 47)) name) name

-- the file of this name beside the file that names it
abbrev pub beside : List ℕ → List ℕ → List ℕ
beside naming name = if starts_with nat_eq name (codes "/") then name else folder_of naming ++ name

-- ---- What reading a file may answer.

-- the answer is true of what the files hold
abbrev pub AgreesWith : (List ℕ → Option (List ℕ)) → List ℕ → ℕ → Result (Vec ℕ) FileRefusal → Type 0
AgreesWith contents name limit (Ok bytes) = (contents name ≡ Some bytes.items) × (length bytes.items ≤ limit)
AgreesWith contents name limit (Err Missing) = contents name ≡ None
AgreesWith contents name limit (Err TooLong) =
    (bytes : List ℕ) × (contents name ≡ Some bytes) × (limit < length bytes)
AgreesWith contents name limit (Err Failed) = ⊤
AgreesWith contents name limit (Err NoMemory) = ⊤
