-- The code of each sound procedure keeps the rules, and has an instruction.
use Rattle.std.proofs.Common.{◌≡◌, ℕ, ◌+◌, ◌≤◌, Bool, true, false, List, [], ◌∷◌, refl, sym, ap, arith}
use Rattle.std.specs.Prelude.{if◌then◌else◌, pos, sum_by}
use Rattle.std.specs.List.{AllByRecursion}
use Rattle.std.proofs.lemmas.List.Sums.{sum_by-cons}
use Rattle.typed_tree.specs.declared.program.Typed.{Typed}
use Rattle.typed_tree.specs.declared.statement.TStmt.{TStmt}
use Rattle.typed_tree.specs.Shape.{body_goes_on, goes_on}
use Rattle.typed_tree.specs.Size.{stmt_size, tail_size}
use Rattle.typed_tree.specs.SoundStatement.{Around, IsSoundStmt}
use Rattle.code_listing.specs.Listing.{Listing}
use Rattle.code_listing.specs.Program.{Procedure, body_code, place_behind, procedure_code, tail_code}
use Rattle.code_listing.specs.Statement.{Exits, stmt_code}
use Rattle.code_listing.specs.Runs.{StandsAt}
use Rattle.code_listing.proofs.MachineRuns.{stands_back, stands_front}
use Rattle.code_listing.proofs.ProgramSizes.{body_long}
use Rattle.code_listing.proofs.StatementSizes.{stmt_long}
use Rattle.code_verified.proofs.Codes.{IsNumber-0}
use Rattle.code_verified.proofs.Instructions.{plain_push}
use Rattle.code_verified.proofs.Jumps.{keep_return}
use Rattle.code_verified.proofs.Places.{Kept, Reached, Site, comes_to, keep_at, keep_both, keep_none, keep_plain, reached_at}
use Rattle.code_verified.proofs.StatementParts.{ExitsReached, exits_within}
use Rattle.code_verified.proofs.Statements.{RowKept, Suited, stmt_kept}

-- the statements of a procedure of a number are sound, outside of each loop and `switch`, and call earlier functions
pub record IsSoundProcedure (typed : Typed) (number : ℕ) (procedure : Procedure) : Type 0 where
  pub around : Around
  pub calls : around.number ≤ number
  pub gives : around.gives ≡ procedure.gives
  pub not_breakable : around.breakable ≡ false
  pub not_continuable : around.continuable ≡ false
  pub statements : AllByRecursion (IsSoundStmt typed around) procedure.body

-- `break` and `continue` stand nowhere outside of a loop and a `switch`
no_exits_reached : (s : Site) (around : Around) (exits : Exits) (end : ℕ) → around.breakable ≡ false →
    around.continuable ≡ false → ExitsReached s around exits end
no_exits_reached s around exits end e f = record {
  breaks = λ may. absurd (cc);
  continues = λ may. absurd (cc);
}

module _ (typed : Typed) (s : Site) where
  -- the statements of a procedure
  body_kept : (around : Around) (exits : Exits) (before : Bool) (body : List TStmt) →
      AllByRecursion (IsSoundStmt typed around) body → Suited typed s around → (place : ℕ) →
      StandsAt s.code place (body_code typed exits body place) → s.function.start ≤ place →
      place + sum_by (stmt_size typed) body ≤ s.function.end →
      ExitsReached s around exits (place + sum_by (stmt_size typed) body) →
      (body_goes_on before body ≡ true → Reached s (place + sum_by (stmt_size typed) body) 0) →
      RowKept s place (place + sum_by (stmt_size typed) body) before
  body_kept around exits before [] h suited place stands low end exited after = record {
    keep = keep_none s place (place + 0) (omega arith);
    first = λ e. reached_at s (omega arith) refl (after e);
  }
  body_kept around exits before (st ∷ rest) h suited place stands low end exited after =
      let n : ℕ = stmt_size typed st in
      let m : ℕ = sum_by (stmt_size typed) rest in
      let sums : sum_by (stmt_size typed) (st ∷ rest) ≡ n + m = sum_by-cons (stmt_size typed) st rest in
      let xs : Listing = stmt_code typed exits st place in
      let ys : Listing = body_code typed exits rest (place + n) in
      let all_end : place + n + m ≡ place + sum_by (stmt_size typed) (st ∷ rest) = omega (arith, sums) in
      let others : RowKept s (place + n) (place + n + m) (goes_on st) =
      body_kept around exits (goes_on st) rest h.1 suited (place + n)
      (stands_back s.code place n xs ys (stmt_long typed exits st place) stands)
      (omega (arith, low)) (omega (arith, end, sums)) (exits_within s (omega (arith, sums)) exited)
      (λ e. reached_at s (sym all_end) refl (after e)) in
      let one : Kept s place (place + n) 0 =
      stmt_kept typed s around exits st h.0 suited place (stands_front s.code place xs ys stands) low
      (omega (arith, end, sums)) (exits_within s (omega (arith, sums)) exited) others.first in
      record { keep = keep_both s one.keep (keep_at s refl all_end others.keep); first = λ e. one.first }

  -- the end of a procedure, where control may come to it
  tail_kept : (gives goes : Bool) → gives ≡ s.function.gives → (place : ℕ) → StandsAt s.code place (tail_code gives goes) →
      s.function.start ≤ place → place + tail_size gives goes ≤ s.function.end →
      RowKept s place (place + tail_size gives goes) goes
  tail_kept gives false e place stands low end = record {
    keep = keep_none s place (place + 0) (omega arith);
    first = λ e. absurd (cc);
  }
  tail_kept false true e place stands low end = record {
    keep = keep_return s stands.0 (omega (arith, low)) (omega (arith, end)) (ap (λ b. if b then 1 else 0) e);
    first = λ e. comes_to s stands.0 (omega (arith, low)) (omega (arith, end));
  }
  tail_kept true true e place stands low end =
      let two : place + 1 + 1 ≡ place + 2 = omega arith in
      record {
        keep = keep_at s refl two (keep_both s
            (keep_plain s (plain_push s (pos 0) IsNumber-0) stands.0 (omega (arith, low)) 0 refl
            (comes_to s stands.1.0 (omega (arith, low)) (omega (arith, end))))
            (keep_return s stands.1.0 (omega (arith, low)) (omega (arith, end)) (ap (λ b. if b then 1 else 0) e)));
        first = λ e. comes_to s stands.0 (omega (arith, low)) (omega (arith, end));
      }

  -- a procedure
  pub procedure_kept : (procedure : Procedure) (sound : IsSoundProcedure typed s.number procedure) →
      Suited typed s sound.around → procedure.gives ≡ s.function.gives →
      StandsAt s.code s.function.start (procedure_code typed procedure s.function.start) →
      s.function.end ≡ place_behind typed procedure s.function.start → Kept s s.function.start s.function.end 0
  procedure_kept procedure sound suited gives stands ends =
      let place : ℕ = s.function.start in
      let body : List TStmt = procedure.body in
      let n : ℕ = sum_by (stmt_size typed) body in
      let goes : Bool = body_goes_on true body in
      let tail_at : ℕ = place + n in
      let exits : Exits = record { break_at = tail_at; continue_at = tail_at } in
      let xs : Listing = body_code typed exits body place in
      let ys : Listing = tail_code procedure.gives goes in
      let all_end : tail_at + tail_size procedure.gives goes ≡ s.function.end = omega (arith, ends) in
      let tail : RowKept s tail_at (tail_at + tail_size procedure.gives goes) goes =
      tail_kept procedure.gives goes gives tail_at
      (stands_back s.code place n xs ys (body_long typed exits body place) stands) (omega arith) (omega (arith, all_end)) in
      let rows : RowKept s place tail_at true =
      body_kept sound.around exits true body sound.statements suited place (stands_front s.code place xs ys stands)
      (omega arith) (omega (arith, all_end))
      (no_exits_reached s sound.around exits tail_at sound.not_breakable sound.not_continuable) tail.first in
      record {
        keep = keep_both s rows.keep (keep_at s refl all_end tail.keep);
        first = rows.first refl;
      }
