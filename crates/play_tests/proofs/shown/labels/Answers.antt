-- Each node has a name and a list of one file.
use Rattle.std.proofs.Common.{ℕ, List, length, arith, ap, subst, sym}
use Rattle.sim_play.specs.Play.{HaveFiles}
use Rattle.play_tests.proofs.FileLists.{have_files}
use Rattle.play_tests.proofs.shown.labels.Goals as goal

pub returns : goal.returns
returns c =
    let named = ap (λ (names : List (List ℕ)). length names) c.from_list-2.ensures in
    let all = c.loop-name.invariant.names in
    let as_many = c.loop-name.invariant.files in
    record {
      names = omega (arith, named, all);
      files = subst (λ (files : List (List (List ℕ))). HaveFiles files c.args.nodes.now) (sym c.from_list-3.ensures)
          (have_files c.loop-name.files.items c.args.nodes.now (omega (arith, as_many)) c.loop-name.invariant.each);
      in_range = omega arith;
    }
