-- How much room the runs of code need.
use Rattle.std.specs.Prelude.{ℕ, ◌-◌, List, [], ◌∷◌, length, min, take, drop, max}
use Rattle.std.specs.List.{sum_by}
use Rattle.bytecode.specs.declared.code.Code.{Code}
use Rattle.bytecode.specs.declared.code.Fun.{Fun}

-- the greatest of some depths, or 0
abbrev pub greatest : List ℕ → ℕ
greatest [] = 0
greatest (depth ∷ depths) = max depth (greatest depths)

-- the depths of a function's places
abbrev pub depths_of : List ℕ → Fun → List ℕ
depths_of depths function = take (function.end - function.start) (drop function.start depths)

-- how many numbers a function may have on the stack: as many as its greatest depth, and no more than it has
-- places, since a depth is reached only over all lesser ones
abbrev pub room_of : List ℕ → Fun → ℕ
room_of depths function = min (greatest (depths_of depths function)) (function.end - function.start)

-- how many numbers a run may have: as many as all functions together, since no function calls itself
abbrev pub numbers_room : Code → ℕ
numbers_room code = sum_by (room_of code.depths) code.functions

-- how many calls may be open: one for each function, since no function calls itself
abbrev pub calls_room : Code → ℕ
calls_room code = length code.functions
