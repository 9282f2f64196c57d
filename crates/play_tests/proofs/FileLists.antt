-- Lists of files, one for each node.
use Rattle.std.proofs.Common.{◌≡◌, ℕ, List, [], ◌∷◌, All, length, inl, arith}
use Rattle.std.proofs.lemmas.List.Elements.{All-head, All-tail}
use Rattle.node_run.specs.Node.{NodeInRound}
use Rattle.sim_play.specs.Play.{HaveFiles}

-- lists of one file each are those of as many nodes
pub have_files : (files : List (List (List ℕ))) (nodes : List NodeInRound) → length files ≡ length nodes → All (λ own. length own ≡ 1) files → HaveFiles files nodes
have_files [] [] many each = tt
have_files [] (node ∷ nodes) many each = absurd (omega (arith, many))
have_files (own ∷ files) [] many each = absurd (omega (arith, many))
have_files (own ∷ files) (node ∷ nodes) many each =
    (inl (All-head (λ (o : List (List ℕ)). length o ≡ 1) own files each), have_files files nodes (omega (arith, many)) (All-tail (λ (o : List (List ℕ)). length o ≡ 1) own files each))
