-- The token that the goals find is the first wrong one.
use Rattle.std.proofs.Common.{◌≡◌, true, List, [], ◌∷◌}
use Rattle.capl_lexer.specs.declared.token.Tok.{Tok}
use Rattle.capl_tree.specs.declared.file.FileTree.{FileTree}
use Rattle.capl_grammar.specs.File.{IsSourceOf}
use Rattle.viable_prefixes.specs.declared.goal.Goal.TheVariants as goal
use Rattle.viable_prefixes.specs.Prefix.{IsFirstWrong}
use Rattle.viable_prefixes.specs.Inside.Goals.{accepts, first_wrong}
use Rattle.viable_prefixes.proofs.Ends.{begins_sound}
use Rattle.viable_prefixes.proofs.Wrong.{before_wrong, wrong_refused, wrong_among}

-- what the goals accept is what trees are spelled by
abbrev pub AreSpelled : Type 0
AreSpelled =
    ((ts : List Tok) (tree : FileTree) → IsSourceOf ts tree → accepts (goal.File ∷ []) ts ≡ true)
    × ((ts : List Tok) → accepts (goal.File ∷ []) ts ≡ true → (tree : FileTree) × IsSourceOf ts tree)

-- it is so where they are the same
pub first_is : AreSpelled → (ts : List Tok) → IsFirstWrong ts (first_wrong (goal.File ∷ []) ts)
first_is spelled ts =
    let before = before_wrong ts (goal.File ∷ []) begins_sound in
    let tree = spelled.1 _ before.1 in
    record {
      among = wrong_among ts (goal.File ∷ []);
      begins = (before.0, tree.0, tree.1);
      wrong = λ less begun.
          let accepted = spelled.0 _ begun.1 begun.2 in
          let refused = wrong_refused ts (goal.File ∷ []) begun.0 less in
          absurd cc;
    }
