-- The code of parts of statements keeps the rules: jumps, expressions in order, tests of loops, the cases of a `switch`.
use Rattle.std.proofs.Common.{◌≡◌, ℕ, suc, ◌+◌, ◌<◌, ◌≤◌, Bool, true, false, List, [], ◌∷◌, ◌++◌, length, Option, Some, None, refl, sym, arith}
use Rattle.std.specs.Prelude.{not, ◌==◌, if◌then◌else◌, pos, ℤ, take, sum, sum_by, count_by, is_some, IfSome, IsTrue}
use Rattle.std.specs.List.{AllByRecursion}
use Rattle.std.proofs.lemmas.Bool.Decides.{nat_tests}
use Rattle.std.proofs.lemmas.List.Sums.{sum_by-cons}
use Rattle.int_kinds.specs.Kind.{IsNumber}
use Rattle.bytecode.specs.declared.instr.Instr.TheVariants as instr
use Rattle.typed_tree.specs.declared.expression.TExpr.{TExpr}
use Rattle.typed_tree.specs.declared.program.Typed.{Typed}
use Rattle.typed_tree.specs.Size.{case_count, jump_size, one_if, value_size}
use Rattle.typed_tree.specs.SoundExpression.{IsSoundExpr}
use Rattle.typed_tree.specs.SoundStatement.{Around}
use Rattle.code_listing.specs.Expression.{value_code}
use Rattle.code_listing.specs.Listing.{Listing, instr_if, jump_code}
use Rattle.code_listing.specs.Statement.{Exits, cases_code, labels_code, loop_code, values_code}
use Rattle.code_listing.specs.Runs.{StandsAt}
use Rattle.code_listing.proofs.MachineRuns.{stands_back, stands_front}
use Rattle.code_listing.proofs.StatementSizes.{jump_long, labels_long, sum-cons}
use Rattle.code_verified.proofs.Choices.{value_kept}
use Rattle.code_verified.proofs.Codes.{Begins, IsNumber-1, LawfulValue, first_reached, value_some}
use Rattle.code_verified.proofs.Expressions.{lawful}
use Rattle.code_verified.proofs.Instructions.{Suits, plain_drop, plain_push}
use Rattle.code_verified.proofs.Jumps.{keep_back, keep_case, keep_jump}
use Rattle.code_verified.proofs.Places.{Keep, Kept, Reached, Site, comes_to, keep_at, keep_both, kept_at, kept_both, kept_none, kept_then, reached_at}

-- control may come to where `break` and `continue` lead, where they may stand; both lie behind what stands there
pub record ExitsReached (s : Site) (around : Around) (exits : Exits) (end : ℕ) : Type 0 where
  pub breaks : IsTrue around.breakable → Reached s exits.break_at 0 × (end ≤ exits.break_at)
  pub continues : IsTrue around.continuable → Reached s exits.continue_at 0 × (end ≤ exits.continue_at)

-- The code of a part of a procedure, given by its place, of so many instructions: it keeps the rules where control may
-- come to its exits and, if it goes on, to its end; and control may come to it.
abbrev pub Keeps : Site → Around → Exits → (ℕ → Listing) → ℕ → Bool → Type 0
Keeps s around exits code size goes = (place : ℕ) → StandsAt s.code place (code place) → s.function.start ≤ place →
    place + size ≤ s.function.end → ExitsReached s around exits (place + size) →
    (goes ≡ true → Reached s (place + size) 0) → Kept s place (place + size) 0

-- what holds of two lists holds of each of them
pub all_front : {A : Type 0} (P : A → Type 0) (xs ys : List A) → AllByRecursion P (xs ++ ys) →
    AllByRecursion P xs × AllByRecursion P ys
all_front P [] ys h = (tt, h)
all_front P (x ∷ xs) ys h = let rest = all_front P xs ys h.1 in ((h.0, rest.0), rest.1)

module _ (s : Site) where
  -- the exits of what stands before
  pub exits_within : {around : Around} {exits : Exits} {end end' : ℕ} → end' ≤ end → ExitsReached s around exits end →
      ExitsReached s around exits end'
  exits_within low h = record {
    breaks = λ yes. let exit = h.breaks yes in (exit.0, omega (arith, low, exit.1));
    continues = λ yes. let exit = h.continues yes in (exit.0, omega (arith, low, exit.1));
  }

  -- a jump over so many instructions, which goes on to them where there is none
  pub jump_kept : (over place : ℕ) → StandsAt s.code place (jump_code over place) → s.function.start ≤ place →
      Reached s (place + jump_size over + over) 0 → Kept s place (place + jump_size over) 0
  jump_kept over place = by_need (over == 0) (λ e. grind (arith, nat_tests))
    where
      by_need : (b : Bool) → (b ≡ true → over ≡ 0) →
          StandsAt s.code place (instr_if (not b) (instr.Jump (place + 1 + over), 0)) → s.function.start ≤ place →
          Reached s (place + one_if (not b) + over) 0 → Kept s place (place + one_if (not b)) 0
      by_need true none stands low after =
          kept_none s (omega arith) refl (reached_at s (omega (arith, none refl)) refl after)
      by_need false none stands low after = record {
        keep = keep_jump s stands.0 (omega (arith, low)) (omega arith) after;
        first = comes_to s stands.0 (omega (arith, low)) (omega (arith, after.below));
      }

  -- A loop: control may come to its body, its test and its end. The test goes back to the body.
  pub loop_kept : (size : ℕ) (body : ℕ → Listing) (test : ℕ → ℕ → Listing) (place end : ℕ) →
      let body_at : ℕ = place + jump_size size in
      length (body body_at) ≡ size → StandsAt s.code place (loop_code size body test place) → s.function.start ≤ place →
      body_at + size < s.function.end → Begins 0 (test body_at (body_at + size)) →
      (StandsAt s.code body_at (body body_at) → Reached s (body_at + size) 0 → Kept s body_at (body_at + size) 0) →
      (StandsAt s.code (body_at + size) (test body_at (body_at + size)) → Reached s body_at 0 → Keep s (body_at + size) end) →
      Kept s place end 0
  loop_kept size body test place end long stands low below begins body_keeps test_keeps =
      let body_at : ℕ = place + jump_size size in
      let js : Listing = jump_code size place in
      let xs : Listing = body body_at in
      let ys : Listing = test body_at (body_at + size) in
      let h1 : StandsAt s.code body_at (xs ++ ys) =
      stands_back s.code place (jump_size size) js (xs ++ ys) (jump_long size place) stands in
      let h2 : StandsAt s.code (body_at + size) ys = stands_back s.code body_at size xs ys long h1 in
      let test_first : Reached s (body_at + size) 0 = first_reached s ys h2 begins (omega (arith, low)) below in
      let round : Kept s body_at (body_at + size) 0 = body_keeps (stands_front s.code body_at xs ys h1) test_first in
      kept_both s (jump_kept size place (stands_front s.code place js (xs ++ ys) stands) low test_first)
      (keep_both s round.keep (test_keeps h2 round.first))

  -- a number that is not 0 goes back
  pub always_back : (place target : ℕ) → StandsAt s.code place ((instr.Push (pos 1), 0) ∷ (instr.Back target, 1) ∷ []) →
      s.function.start ≤ place → target ≤ place → Reached s target 0 → Reached s (place + 2) 0 → Keep s place (place + 2)
  always_back place target stands low back next further =
      let two : place + 1 + 1 ≡ place + 2 = omega arith in
      keep_at s refl two (keep_both s
      (kept_then s (plain_push s (pos 1) IsNumber-1) stands.0 (omega (arith, low)) 0 refl refl
      (kept_none s refl refl (comes_to s stands.1.0 (omega (arith, low)) (omega (arith, further.below))))).keep
      (keep_back s stands.1.0 (omega (arith, low)) (omega (arith, back)) next (reached_at s (sym two) refl further)))

  -- a value that is dropped
  pub dropped_kept : {v : ℕ → ℕ → Listing} {n : ℕ} → LawfulValue s v n → (place : ℕ) →
      StandsAt s.code place (v place 0 ++ (instr.Drop, 1) ∷ []) → s.function.start ≤ place → Reached s (place + (n + 1)) 0 →
      Kept s place (place + (n + 1)) 0
  dropped_kept {v} {n} h place stands low after =
      let last : Listing = (instr.Drop, 1) ∷ [] in
      let at : StandsAt s.code (place + n) last = stands_back s.code place n (v place 0) last (h.long place 0) stands in
      let some : 1 ≤ n = value_some s h in
      let drops : Kept s (place + n) (place + (n + 1)) 1 =
      kept_then s (plain_drop s) at.0 (omega (arith, low, some)) 0 refl refl (kept_none s (omega arith) refl after) in
      kept_both s (value_kept s h place 0 (stands_front s.code place (v place 0) last stands) (omega (arith, low)) drops.first)
      drops.keep

  -- the cases of a group to whose statements control may come
  labels_kept : (labels : List (Option ℤ)) → AllByRecursion (λ label. IfSome label IsNumber) labels → (at place : ℕ) →
      StandsAt s.code place (labels_code labels at) → s.function.start + 1 ≤ place → place + count_by is_some labels ≤ at →
      Reached s at 0 → Reached s (place + count_by is_some labels) 1 → Kept s place (place + count_by is_some labels) 1
  labels_kept [] h at place stands low high there after = kept_none s (omega arith) refl after
  labels_kept (None ∷ labels) h at place stands low high there after =
      let all : List (Option ℤ) = None ∷ labels in
      let count : count_by is_some all ≡ 0 + count_by is_some labels =
      sum_by-cons (λ (label : Option ℤ). if is_some label then 1 else 0) None labels in
      let same : place + count_by is_some labels ≡ place + count_by is_some all = omega (arith, count) in
      kept_at s refl same refl (labels_kept labels h.1 at place stands low (omega (arith, high, count)) there
      (reached_at s (sym same) refl after))
  labels_kept (Some n ∷ labels) h at place stands low high there after =
      let count : count_by is_some (Some n ∷ labels) ≡ 1 + count_by is_some labels =
      sum_by-cons (λ (label : Option ℤ). if is_some label then 1 else 0) (Some n) labels in
      let same : place + 1 + count_by is_some labels ≡ place + count_by is_some (Some n ∷ labels) = omega (arith, count) in
      let rest : Kept s (place + 1) (place + 1 + count_by is_some labels) 1 =
      labels_kept labels h.1 at (place + 1) stands.1 (omega (arith, low)) (omega (arith, high, count)) there
      (reached_at s (sym same) refl after) in
      record {
        keep = keep_both s
            (keep_case s h.0 stands.0 (omega (arith, low)) (omega (arith, high, count)) there rest.first)
            (keep_at s refl same rest.keep);
        first = comes_to s stands.0 low (omega (arith, rest.first.below));
      }

  -- the cases of groups to each of which control may come
  pub cases_kept : (labels : List (List (Option ℤ))) (sizes : List ℕ) → length labels ≡ length sizes →
      AllByRecursion (AllByRecursion (λ label. IfSome label IsNumber)) labels → (at place : ℕ) →
      StandsAt s.code place (cases_code labels sizes at) → s.function.start + 1 ≤ place → place + case_count labels ≤ at →
      ((k : ℕ) → Reached s (at + sum (take k sizes)) 0) → Reached s (place + case_count labels) 1 →
      Kept s place (place + case_count labels) 1
  cases_kept [] sizes same h at place stands low high there after = kept_none s (omega arith) refl after
  cases_kept (labels ∷ groups) [] same h at place stands low high there after = absurd (omega (arith, same))
  cases_kept (labels ∷ groups) (size ∷ sizes) same h at place stands low high there after =
      let n : ℕ = count_by is_some labels in
      let count : case_count (labels ∷ groups) ≡ n + case_count groups = sum_by-cons (count_by is_some) labels groups in
      let xs : Listing = labels_code labels at in
      let ys : Listing = cases_code groups sizes (at + size) in
      let end : place + n + case_count groups ≡ place + case_count (labels ∷ groups) = omega (arith, count) in
      let rest : Kept s (place + n) (place + n + case_count groups) 1 =
      cases_kept groups sizes (omega (arith, same)) h.1 (at + size) (place + n)
      (stands_back s.code place n xs ys (labels_long labels at) stands) (omega (arith, low)) (omega (arith, high, count))
      (λ k. let sums : sum (size ∷ take k sizes) ≡ size + sum (take k sizes) = sum-cons size (take k sizes) in
      reached_at s (omega (arith, sums)) refl (there (suc k)))
      (reached_at s (sym end) refl after) in
      kept_at s refl end refl (kept_both s
      (labels_kept labels h.0 at place (stands_front s.code place xs ys stands) low (omega (arith, high, count))
      (reached_at s (omega arith) refl (there 0)) rest.first) rest.keep)

module _ (typed : Typed) (s : Site) (below : ℕ) (suits : Suits typed s below) where
  -- expressions in order are no more than their instructions
  pub values_room : (all : List TExpr) → AllByRecursion (IsSoundExpr typed below) all →
      length all ≤ sum_by (value_size typed) all
  values_room [] h = omega arith
  values_room (e ∷ rest) h = omega (
    arith,
    sum_by-cons (value_size typed) e rest,
    values_room rest h.1,
    value_some s (lawful typed s below suits e h.0).value,
  )

  -- expressions in order leave their numbers
  pub values_kept : (all : List TExpr) → AllByRecursion (IsSoundExpr typed below) all → (place depth : ℕ) →
      StandsAt s.code place (values_code typed all place depth) → s.function.start + depth ≤ place →
      Reached s (place + sum_by (value_size typed) all) (depth + length all) →
      Kept s place (place + sum_by (value_size typed) all) depth
  values_kept [] h place depth stands low after = kept_none s (omega arith) (omega arith) after
  values_kept (e ∷ rest) h place depth stands low after =
      let n : ℕ = value_size typed e in
      let first = (lawful typed s below suits e h.0).value in
      let xs : Listing = value_code typed e place depth in
      let ys : Listing = values_code typed rest (place + n) (depth + 1) in
      let sums : sum_by (value_size typed) (e ∷ rest) ≡ n + sum_by (value_size typed) rest =
      sum_by-cons (value_size typed) e rest in
      let end : place + n + sum_by (value_size typed) rest ≡ place + sum_by (value_size typed) (e ∷ rest) =
      omega (arith, sums) in
      let others : Kept s (place + n) (place + n + sum_by (value_size typed) rest) (depth + 1) =
      values_kept rest h.1 (place + n) (depth + 1) (stands_back s.code place n xs ys (first.long place depth) stands)
      (omega (arith, low, value_some s first)) (reached_at s (sym end) (omega arith) after) in
      kept_at s refl end refl (kept_both s
      (value_kept s first place depth (stands_front s.code place xs ys stands) low others.first) others.keep)
