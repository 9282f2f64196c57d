-- The folder, where a `/` is found and where none is.
use Rattle.std.proofs.Common.{◌≡◌, ◌+◌, ◌==◌, ℕ, true, get_or, subst, arith}
use Rattle.sim_outside.proofs.FolderLemmas.{is_folder}
use Rattle.sim_outside.proofs.folder.folder_of.Goals as goal

pub returns-in-Some : goal.returns-in-Some
returns-in-Some c = is_folder c.args.name.now (c.in-Some.place + 1) (omega (arith, c.in-Some.ensures.0.high)) c.in-Some.ensures.0.after
    (λ k e. let same : c.in-Some.place ≡ k = omega (arith, e) in subst (λ (i : ℕ). (get_or c.args.name.now i 0 == 47) ≡ true) same c.in-Some.ensures.1)

pub returns-in-None : goal.returns-in-None
returns-in-None c = is_folder c.args.name.now 0 (omega arith) c.in-None.ensures (λ k e. absurd (omega (arith, e)))
