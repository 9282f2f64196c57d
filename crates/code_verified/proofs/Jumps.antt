-- The rules of the instructions that go elsewhere than to the next place, and of the exits of tests.
use Rattle.std.proofs.Common.{◌≡◌, ℕ, ◌+◌, ◌-◌, ◌<◌, ◌≤◌, Bool, true, false, refl, sym, arith}
use Rattle.std.specs.Prelude.{ℤ}
use Rattle.int_kinds.specs.Kind.{IsNumber}
use Rattle.bytecode.specs.declared.instr.Instr.TheVariants as instr
use Rattle.bytecode.specs.Rule.{IsReached}
use Rattle.bytecode.specs.Shape.{numbers_given}
use Rattle.typed_tree.specs.Size.{exit_size}
use Rattle.code_listing.specs.Exit.{Backward, Exit, Forward, exit_code, exit_instr, own_truth}
use Rattle.code_listing.specs.Runs.{StandsAt}
use Rattle.code_verified.proofs.Instructions.{plain_not}
use Rattle.code_verified.proofs.Places.{Keep, Reached, Site, Stands, comes_to, is_reached, keep_at, keep_both, keep_one, keep_plain, reached_at}

-- where an exit goes, control may come with this depth; it lies behind the test where the exit goes forward, and not
-- behind its beginning where the exit goes back
abbrev pub ExitReached : Site → Exit → ℕ → ℕ → ℕ → Type 0
ExitReached s (Forward target) depth from to = Reached s target depth × (to ≤ target)
ExitReached s (Backward target) depth from to = Reached s target depth × (target ≤ from)

-- the exit of a test is one of each of its parts
pub exit_within : (s : Site) (exit : Exit) (depth : ℕ) {from to from' to' : ℕ} → from ≤ from' → to' ≤ to →
    ExitReached s exit depth from to → ExitReached s exit depth from' to'
exit_within s (Forward target) depth low high h = (h.0, omega (arith, h.1))
exit_within s (Backward target) depth low high h = (h.0, omega (arith, h.1))

module _ (s : Site) where
  -- control may come to the target of an instruction that takes so many numbers
  there : {place depth : ℕ} (deep : ℕ) → depth ≡ deep → Reached s place depth →
      IsReached s.code s.function (record { place = place; depth = deep })
  there deep e h = is_reached s (reached_at s refl e h)

  -- `Jump`
  pub keep_jump : {place target depth : ℕ} → Stands s place (instr.Jump target) depth → s.function.start + depth ≤ place →
      place < target → Reached s target depth → Keep s place (place + 1)
  keep_jump {place} {target} {depth} stands low forward next = keep_one s stands (record {
    depth_in_range = omega (arith, s.small, next.below);
    begins_empty = λ same. omega (arith, same, low);
    takes_what_is_there = omega arith;
    targets_agree = (there (depth - 0) (omega arith) next, tt);
    goes_the_right_way = forward;
    calls_earlier = tt;
    returns_as_it_says = tt;
    names_exist = tt;
  })

  -- `Zero`
  pub keep_zero : {place target depth : ℕ} → Stands s place (instr.Zero target) (depth + 1) →
      s.function.start + (depth + 1) ≤ place → place < target → Reached s target depth → Reached s (place + 1) depth →
      Keep s place (place + 1)
  keep_zero {place} {target} {depth} stands low forward next further = keep_one s stands (record {
    depth_in_range = omega (arith, s.small, next.below);
    begins_empty = λ same. omega (arith, same, low);
    takes_what_is_there = omega arith;
    targets_agree = (
      there (depth + 1 - 1) (omega arith) next,
      (there (depth + 1 - 1 + 0) (omega arith) further, tt),
    );
    goes_the_right_way = forward;
    calls_earlier = tt;
    returns_as_it_says = tt;
    names_exist = tt;
  })

  -- `Back`
  pub keep_back : {place target depth : ℕ} → Stands s place (instr.Back target) (depth + 1) →
      s.function.start + (depth + 1) ≤ place → target ≤ place → Reached s target depth → Reached s (place + 1) depth →
      Keep s place (place + 1)
  keep_back {place} {target} {depth} stands low backward next further = keep_one s stands (record {
    depth_in_range = omega (arith, s.small, further.below);
    begins_empty = λ same. omega (arith, same, low);
    takes_what_is_there = omega arith;
    targets_agree = (
      there (depth + 1 - 1) (omega arith) next,
      (there (depth + 1 - 1 + 0) (omega arith) further, tt),
    );
    goes_the_right_way = backward;
    calls_earlier = tt;
    returns_as_it_says = tt;
    names_exist = tt;
  })

  -- `Case`
  pub keep_case : {label : ℤ} {place target depth : ℕ} → IsNumber label →
      Stands s place (instr.Case target label) (depth + 1) →
      s.function.start + (depth + 1) ≤ place → place < target → Reached s target depth →
      Reached s (place + 1) (depth + 1) → Keep s place (place + 1)
  keep_case {label} {place} {target} {depth} in_range stands low forward next further = keep_one s stands (record {
    depth_in_range = omega (arith, s.small, next.below);
    begins_empty = λ same. omega (arith, same, low);
    takes_what_is_there = omega arith;
    targets_agree = (
      there (depth + 1 - 1) (omega arith) next,
      (there (depth + 1 - 1 + 1) (omega arith) further, tt),
    );
    goes_the_right_way = forward;
    calls_earlier = tt;
    returns_as_it_says = tt;
    names_exist = in_range;
  })

  -- `Ret`
  pub keep_return : {place depth : ℕ} → Stands s place instr.Ret depth → s.function.start + depth ≤ place →
      place < s.function.end → depth ≡ numbers_given s.function → Keep s place (place + 1)
  keep_return {place} {depth} stands low below gives = keep_one s stands (record {
    depth_in_range = omega (arith, s.small, below);
    begins_empty = λ same. omega (arith, same, low);
    takes_what_is_there = omega arith;
    targets_agree = tt;
    goes_the_right_way = tt;
    calls_earlier = tt;
    returns_as_it_says = gives;
    names_exist = tt;
  })

  -- the instruction of an exit
  pub keep_exit : (exit : Exit) {place depth : ℕ} → Stands s place (exit_instr exit) (depth + 1) →
      s.function.start + (depth + 1) ≤ place → ExitReached s exit depth place (place + 1) →
      Reached s (place + 1) depth → Keep s place (place + 1)
  keep_exit (Forward target) stands low exits further = keep_zero stands low (omega (arith, exits.1)) exits.0 further
  keep_exit (Backward target) stands low exits further = keep_back stands low exits.1 exits.0 further

  -- the instruction of an exit behind `Not`
  keep_other_exit : (exit : Exit) (place depth : ℕ) → Stands s place instr.Not (depth + 1) →
      Stands s (place + 1) (exit_instr exit) (depth + 1) →
      s.function.start + (depth + 1) ≤ place → ExitReached s exit depth place (place + 2) →
      Reached s (place + 2) depth → Keep s place (place + 2)
  keep_other_exit exit place depth stands stands' low exits further =
      let two : place + 2 ≡ place + 1 + 1 = omega arith in
      let next : Reached s (place + 1 + 1) depth = reached_at s two refl further in
      keep_at s refl (sym two) (keep_both s
      (keep_plain s (plain_not s) stands low depth refl
      (comes_to s stands' (omega (arith, low)) (omega (arith, further.below))))
      (keep_exit exit stands' (omega (arith, low))
      (exit_within s exit depth (omega arith) (omega arith) exits) next))

  -- the exit of a test, behind the number that decides
  pub keep_exit_code : (when : Bool) (exit : Exit) (place depth : ℕ) →
      StandsAt s.code place (exit_code when exit (depth + 1)) → s.function.start + (depth + 1) ≤ place →
      ExitReached s exit depth place (place + exit_size when (own_truth exit)) →
      Reached s (place + exit_size when (own_truth exit)) depth →
      Keep s place (place + exit_size when (own_truth exit))
  keep_exit_code true (Backward target) place depth stands low exits further =
      keep_exit (Backward target) stands.0 low exits further
  keep_exit_code true (Forward target) place depth stands low exits further =
      keep_other_exit (Forward target) place depth stands.0 stands.1.0 low exits further
  keep_exit_code false (Backward target) place depth stands low exits further =
      keep_other_exit (Backward target) place depth stands.0 stands.1.0 low exits further
  keep_exit_code false (Forward target) place depth stands low exits further =
      keep_exit (Forward target) stands.0 low exits further
