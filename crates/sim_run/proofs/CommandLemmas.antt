-- The words ask for one thing.
use Rattle.std.proofs.Common.{◌≡◌, ℕ, List, [], ◌∷◌, Option, inl, inr, get_or, length, map, ap, refl, sym, ◌∙◌, arith}
use Rattle.std.specs.Prelude.{codes, decimal}
use Rattle.std.proofs.lemmas.Fmt.{decimal_injective}
use Rattle.capl_include.specs.Expansion.{Contents}
use Rattle.sim_gen.specs.Generated.{generated_files}
use Rattle.sim_play.specs.declared.labels.Show.{Show}
use Rattle.sim_run.specs.declared.command.Command.{Command}
use Rattle.sim_run.specs.declared.command.Command.TheVariants.{Check, Window, Log, Run, Profile}
use Rattle.sim_run.specs.Command.{IsAsked, IsCommand, IsGenerated, IsNoCommand, command_word, show_of}

-- the first byte of a word
abbrev first_byte : List ℕ → ℕ
first_byte [] = 0
first_byte (byte ∷ bytes) = byte

-- the first bytes of the words differ
by_first : (command other : Command) → first_byte (command_word command) ≡ first_byte (command_word other) → command ≡ other
by_first Check Check same = refl
by_first Check Window same = absurd (omega (arith, same))
by_first Check Log same = absurd (omega (arith, same))
by_first Check Run same = absurd (omega (arith, same))
by_first Check Profile same = absurd (omega (arith, same))
by_first Window Check same = absurd (omega (arith, same))
by_first Window Window same = refl
by_first Window Log same = absurd (omega (arith, same))
by_first Window Run same = absurd (omega (arith, same))
by_first Window Profile same = absurd (omega (arith, same))
by_first Log Check same = absurd (omega (arith, same))
by_first Log Window same = absurd (omega (arith, same))
by_first Log Log same = refl
by_first Log Run same = absurd (omega (arith, same))
by_first Log Profile same = absurd (omega (arith, same))
by_first Run Check same = absurd (omega (arith, same))
by_first Run Window same = absurd (omega (arith, same))
by_first Run Log same = absurd (omega (arith, same))
by_first Run Run same = refl
by_first Run Profile same = absurd (omega (arith, same))
by_first Profile Check same = absurd (omega (arith, same))
by_first Profile Window same = absurd (omega (arith, same))
by_first Profile Log same = absurd (omega (arith, same))
by_first Profile Run same = absurd (omega (arith, same))
by_first Profile Profile same = refl

-- the words are one command on one name
pub one_command : (words : List (List ℕ)) (command other : Command) (name third : List ℕ) → IsCommand words command name → IsCommand words other third → (command ≡ other) × (name ≡ third)
one_command words command other name third is also =
    let same : command_word command ∷ name ∷ [] ≡ command_word other ∷ third ∷ [] = sym is ∙ also in
    let first : command_word command ≡ command_word other = cc in
    (by_first command other (ap first_byte first), cc)

-- ---- what the words ask for

-- `gen` is no command
pub not_generated : (words : List (List ℕ)) (command : Command) (name : List ℕ) (count : ℕ) → IsCommand words command name → IsGenerated words count → ⊥
not_generated words command name count is gen =
    let same : command_word command ∷ name ∷ [] ≡ codes "gen" ∷ decimal count ∷ [] = sym is ∙ gen.words_are in
    let word : command_word command ≡ codes "gen" = cc in
    other_first command (ap first_byte word)
  where
    other_first : (command : Command) → first_byte (command_word command) ≡ 103 → ⊥
    other_first Check same = omega (arith, same)
    other_first Window same = omega (arith, same)
    other_first Log same = omega (arith, same)
    other_first Run same = omega (arith, same)
    other_first Profile same = omega (arith, same)

-- words stand for one number of nodes
pub one_count : (words : List (List ℕ)) (count other : ℕ) → IsGenerated words count → IsGenerated words other → count ≡ other
one_count words count other is also =
    let same : codes "gen" ∷ decimal count ∷ [] ≡ codes "gen" ∷ decimal other ∷ [] = sym is.words_are ∙ also.words_are in
    let digits : decimal count ≡ decimal other = cc in
    let few = is.few in
    let few_too = also.few in
    decimal_injective count other (omega (arith, few)) (omega (arith, few_too)) digits

-- words ask for one thing over the inputs of one name
pub record AsksSame (what other : Option Show) (held third : Contents) (name fourth : List ℕ) : Type 0 where
  pub shows : what ≡ other
  pub holds : held ≡ third
  pub names : name ≡ fourth

-- words that ask for two things ask for the same
pub one_asked : (contents : Contents) (words : List (List ℕ)) (what other : Option Show) (held third : Contents) (name fourth : List ℕ) →
    IsAsked contents words what held name → IsAsked contents words other third fourth → AsksSame what other held third name fourth
one_asked contents words what other held third name fourth (inl (command, is, shows, holds)) (inl (command_too, also, shows_too, holds_too)) =
    let same = one_command words command command_too name fourth is also in
    record { shows = shows ∙ ap show_of same.0 ∙ sym shows_too; holds = holds ∙ sym holds_too; names = same.1 }
one_asked contents words what other held third name fourth (inl (command, is, shows, holds)) (inr (count, gen, shows_too, holds_too, names)) = absurd (not_generated words command name count is gen)
one_asked contents words what other held third name fourth (inr (count, gen, shows_too, holds_too, names)) (inl (command, is, shows, holds)) = absurd (not_generated words command fourth count is gen)
one_asked contents words what other held third name fourth (inr (count, gen, shows, holds, names)) (inr (count_too, gen_too, shows_too, holds_too, names_too)) =
    let same = one_count words count count_too gen gen_too in
    record { shows = shows ∙ sym shows_too; holds = holds ∙ ap generated_files same ∙ sym holds_too; names = names ∙ sym names_too }

-- words that ask for something are a command
pub asked_or_none : (contents : Contents) (words : List (List ℕ)) (what : Option Show) (held : Contents) (name : List ℕ) → IsAsked contents words what held name → IsNoCommand words → ⊥
asked_or_none contents words what held name (inl (command, is, shows, holds)) none = none.no_command command name is
asked_or_none contents words what held name (inr (count, gen, shows, holds, names)) none = none.no_count count gen

-- two words, one by one
pub two_words : {X : Type 0} (f : X → List ℕ) (words : List X) (one other : X) → length words ≡ 2 → one ≡ get_or words 0 one → other ≡ get_or words 1 other → map f words ≡ f one ∷ f other ∷ []
two_words f [] one other two first second = absurd (omega (arith, two))
two_words f (x ∷ []) one other two first second = absurd (omega (arith, two))
two_words f (x ∷ y ∷ []) one other two first second = (λ i. f (sym first i) ∷ f (sym second i) ∷ [])
two_words f (x ∷ y ∷ z ∷ words) one other two first second = absurd (omega (arith, two))
