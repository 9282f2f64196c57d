-- The room that runs of verified code need.
use Rattle.std.proofs.Common.{◌≡◌, ◌≤◌, ◌<◌, ◌+◌, ◌-◌, ℕ, zero, suc, List, [], ◌∷◌, length, drop, slice_get, get_or, Some, sym, ap, ◌∙◌, subst, arith, length-take}
use Rattle.std.specs.List.{AllByRecursion, sum_by}
use Rattle.std.proofs.lemmas.List.Sums.{sum_by-cons, sum_by-drop_more, sum_by-take-drop}
use Rattle.std.proofs.lemmas.Option.{get_or_from_slice_get, slice_get_within}
use Rattle.bytecode.specs.declared.code.Code.{Code}
use Rattle.bytecode.specs.declared.code.Fun.{Fun}
use Rattle.bytecode.specs.Machine.{Machine}
use Rattle.bytecode.specs.Rule.{IsIn}
use Rattle.bytecode.specs.Runs.{IsStartOf, Reaches}
use Rattle.bytecode.specs.Verified.{Cover, IsVerified}
use Rattle.bytecode.proofs.ListItems.{drop-drop, item_below, slice_get-drop, slice_get-take}
use Rattle.bytecode.proofs.MachineStates.{Below, IsAt, Stands}
use Rattle.bytecode.proofs.PlaceRules.{lies_in_code}
use Rattle.bytecode.proofs.VerifiedRuns.{stands_reached}
use Rattle.stack_vm.specs.Memory.{HasRoomFor}
use Rattle.stack_vm.specs.Room.{calls_room, depths_of, greatest, numbers_room, room_of}
use Rattle.stack_vm.proofs.DepthLemmas.{HasClimbed, HasLesserDepths, climbed_reached, more_items}

-- ---- where functions lie

-- a function lies among the depths
pub record Lies (code : Code) (function : Fun) : Type 0 where
  pub order : function.start ≤ function.end
  pub inside : function.end ≤ length code.depths

-- each function of verified code does
pub lies_at : (code : Code) → IsVerified code → (i : ℕ) (d : Fun) → i < length code.functions → Lies code (get_or code.functions i d)
lies_at code verified i d h =
    let f = item_below code.functions i h in
    let lies = lies_in_code code i f.item verified.laid_out f.is_there in
    subst (Lies code) (sym (get_or_from_slice_get code.functions i f.item d f.is_there))
    (record { order = omega (arith, lies.nonempty); inside = omega (arith, lies.ends, verified.laid_out.depths) })

-- ---- the depths of a function

greatest_at : (xs : List ℕ) (i x : ℕ) → slice_get xs i ≡ Some x → x ≤ greatest xs
greatest_at [] i x e = absurd (cc)
greatest_at (y ∷ xs) zero x e = let same : y ≡ x = cc in omega arith
greatest_at (y ∷ xs) (suc i) x e = let h = greatest_at xs i x e in omega (arith, h)

depth_of : (depths : List ℕ) (function : Fun) (place depth : ℕ) → IsIn function place → slice_get depths place ≡ Some depth →
    slice_get (depths_of depths function) (place - function.start) ≡ Some depth
depth_of depths function place depth inside e =
    let moved : slice_get depths place ≡ slice_get (drop function.start depths) (place - function.start) =
    slice_get-drop function.start (place - function.start) place depths (omega (arith, inside.from)) in
    let taken = slice_get-take (function.end - function.start) (place - function.start) (drop function.start depths) (omega (arith, inside.from, inside.below)) in
    taken ∙ sym moved ∙ e

-- a depth that is reached is within the room of its function
depth_fits : (code : Code) (number : ℕ) (function : Fun) (place depth : ℕ) → IsAt code number function place depth → HasLesserDepths code place →
    depth ≤ room_of code.depths function
depth_fits code number function place depth at climbed =
    let places : List ℕ = depths_of code.depths function in
    let g = greatest_at places (place - function.start) depth (depth_of code.depths function place depth at.inside at.has_depth) in
    let many : depth < length places = more_items places depth (λ lesser h.
    let there = climbed number function depth at lesser h in
    (there.place - function.start, depth_of code.depths function there.place lesser there.inside there.has_depth)) in
    omega (arith, g, many, length-take (function.end - function.start) (drop function.start code.depths))

-- ---- sums over the functions from one on

sum_from : {A : Type 0} (f : A → ℕ) (xs : List A) (i : ℕ) (x : A) → slice_get xs i ≡ Some x → sum_by f (drop i xs) ≡ f x + sum_by f (drop (i + 1) xs)
sum_from f xs i x e = sum_by-drop_more f xs i x (slice_get_within xs i x e) ∙ ap (λ y. f y + sum_by f (drop (i + 1) xs)) (get_or_from_slice_get xs i x x e)

sum_later : {A : Type 0} (f : A → ℕ) (xs : List A) (i j : ℕ) → i ≤ j → sum_by f (drop j xs) ≤ sum_by f (drop i xs)
sum_later f xs i j h =
    let e : sum_by f (drop j xs) ≡ sum_by f (drop (j - i) (drop i xs)) = ap (sum_by f) (drop-drop i (j - i) j xs (omega arith)) in
    omega (arith, e, sum_by-take-drop f (drop i xs) (j - i))

-- functions that cover places need no more room than these
pub covered_room : (depths : List ℕ) (from : ℕ) (functions : List Fun) (end : ℕ) → Cover from functions end →
    from + sum_by (room_of depths) functions ≤ end
covered_room depths from [] end covers = omega (arith, covers)
covered_room depths from (function ∷ functions) end covers =
    let others = covered_room depths function.end functions end covers.2 in
    omega (arith, sum_by-cons (room_of depths) function functions, covers.0, covers.1, others)

-- and so do those before some, with the next of these
pub room_so_far : (code : Code) → IsVerified code → (i : ℕ) (d : Fun) → i < length code.functions →
    (so_far : ℕ) → so_far + sum_by (room_of code.depths) (drop i code.functions) ≡ numbers_room code →
    so_far + room_of code.depths (get_or code.functions i d) ≤ length code.instrs
room_so_far code verified i d within so_far is =
    let all = covered_room code.depths 0 code.functions (length code.instrs) verified.laid_out.covered in
    omega (arith, all, is, sum_by-drop_more (room_of code.depths) code.functions i d within)

-- ---- what the callers of a function have on the stack

below_room : (code : Code) (number : ℕ) (function : Fun) (calls : List ℕ) (below : ℕ) → Below code number function calls below →
    AllByRecursion (HasLesserDepths code) calls → below ≤ sum_by (room_of code.depths) (drop (number + 1) code.functions)
below_room code number function [] below h climbed = omega arith
below_room code number function (place ∷ calls) below (caller, calling, depth, under, returns, rest) climbed =
    let r = below_room code caller calling calls under rest climbed.1 in
    let d = depth_fits code caller calling place depth returns.at climbed.0 in
    let s = sum_from (room_of code.depths) code.functions caller calling returns.at.is_there in
    let m = sum_later (room_of code.depths) code.functions (number + 1) caller (omega (arith, returns.greater)) in
    omega (arith, r, d, s, m, returns.height)

calls_fit : (code : Code) (number : ℕ) (function : Fun) (calls : List ℕ) (below : ℕ) → slice_get code.functions number ≡ Some function →
    Below code number function calls below → length calls + number < length code.functions
calls_fit code number function [] below there h = let w = slice_get_within code.functions number function there in omega (arith, w)
calls_fit code number function (place ∷ calls) below there (caller, calling, depth, under, returns, rest) =
    let r = calls_fit code caller calling calls under returns.at.is_there rest in
    omega (arith, r, returns.greater)

room_standing : (code : Code) (m : Machine) → Stands code m → HasClimbed code m → HasRoomFor (numbers_room code) (calls_room code) m
room_standing code m s climbed =
    let b = below_room code s.number s.function m.calls s.below s.callers climbed.callers in
    let d = depth_fits code s.number s.function m.place s.depth s.at climbed.here in
    let f = sum_from (room_of code.depths) code.functions s.number s.function s.at.is_there in
    let l = sum_later (room_of code.depths) code.functions 0 s.number (omega arith) in
    let c = calls_fit code s.number s.function m.calls s.below s.at.is_there s.callers in
    record { numbers = omega (arith, b, d, f, l, s.height); calls = omega (arith, c) }

-- the room is enough for each state that a run of a handler reaches
pub room_enough : (code : Code) → IsVerified code → (handler : ℕ) (start reached : Machine) (closed : _) (moment : ℕ) → IsStartOf code handler start →
    Reaches code closed moment start reached → HasRoomFor (numbers_room code) (calls_room code) reached
room_enough code verified handler start reached closed moment is comes =
    room_standing code reached (stands_reached code verified handler start is closed moment comes.0 reached comes.1)
    (climbed_reached code verified handler start is closed moment comes.0 reached comes.1)
