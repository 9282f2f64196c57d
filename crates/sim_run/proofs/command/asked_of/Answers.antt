-- The words are `gen` and a number.
use Rattle.std.proofs.Common.{◌≡◌, [], ◌∷◌, sym, ◌∙◌}
use Rattle.std.specs.Prelude.{codes, string_bytes}
use Rattle.std.proofs.lemmas.Slice.Eq.{bytes_eq-Decides}
use Rattle.sim_run.proofs.CommandLemmas.{two_words}
use Rattle.sim_run.proofs.command.asked_of.Goals as goal

pub returns-then-eq : goal.returns-then-eq
returns-then-eq c =
    let count = c.in_ok-count_of_word.ensures in
    let word = (bytes_eq-Decides c.as_str-word.result.now (codes "gen")).0 (sym c.if-eq.ensures) in
    let gen : string_bytes c.index-words-0.result ≡ codes "gen" = sym c.as_str-word.ensures.value ∙ word in
    let number = sym c.as_str.ensures.value ∙ count.0 in
    let both = two_words string_bytes c.args.words.now c.index-words-0.result c.index-words-1.result c.if-words-ne2.false c.index-words-0.is c.index-words-1.is in
    record { words_are = both ∙ (λ i. gen i ∷ number i ∷ []); some = count.1; few = count.2 }
