-- Words ask for something, or are no command.
use Rattle.std.proofs.Common.{◌≡◌, ◌≤◌, ℕ, zero, suc, List, [], ◌∷◌, length, Option, Some, inl, inr, refl, ap, subst, arith}
use Rattle.std.specs.Prelude.{◌⊎◌, codes, decimal}
use Rattle.std.proofs.lemmas.Bool.{cases_lt}
use Rattle.capl_include.specs.Expansion.{Contents}
use Rattle.sim_gen.specs.Generated.{generated_files, scenario_name}
use Rattle.sim_play.specs.declared.labels.Show.{Show}
use Rattle.sim_play.specs.declared.labels.Show.TheVariants as show
use Rattle.sim_run.specs.Command.{IsAsked, IsNoCommand, command_word, show_of}
use Rattle.sim_run.specs.declared.command.Command.{Command}
use Rattle.sim_run.specs.declared.command.Command.TheVariants.{Check, Window, Log, Run, Profile}
use Rattle.whole_readings.proofs.Known.{Known, known_text, same_heads}

-- words that ask for something
abbrev pub AreAsking : Contents → List (List ℕ) → Type 0
AreAsking contents words = (what : Option Show) × (held : Contents) × (name : List ℕ) × IsAsked contents words what held name

-- ---- a command

-- a word is that of a command, or of none
abbrev HasCommand : List ℕ → Type 0
HasCommand word = (command : Command) × (word ≡ command_word command)

abbrev HasNone : List ℕ → Type 0
HasNone word = (command : Command) → word ≡ command_word command → ⊥

no_other : (word : List ℕ) → (word ≡ codes "check" → ⊥) → (word ≡ codes "window" → ⊥) → (word ≡ codes "log" → ⊥) → (word ≡ codes "run" → ⊥)
    → (word ≡ codes "profile" → ⊥) → HasNone word
no_other word check window log run profile Check is = check is
no_other word check window log run profile Window is = window is
no_other word check window log run profile Log is = log is
no_other word check window log run profile Run is = run is
no_other word check window log run profile Profile is = profile is

by_five : (word : List ℕ) → Known (word ≡ codes "check") → Known (word ≡ codes "window") → Known (word ≡ codes "log") → Known (word ≡ codes "run")
    → Known (word ≡ codes "profile") → HasCommand word ⊎ HasNone word
by_five word (inl is) window log run profile = inl (Check, is)
by_five word (inr check) (inl is) log run profile = inl (Window, is)
by_five word (inr check) (inr window) (inl is) run profile = inl (Log, is)
by_five word (inr check) (inr window) (inr log) (inl is) profile = inl (Run, is)
by_five word (inr check) (inr window) (inr log) (inr run) (inl is) = inl (Profile, is)
by_five word (inr check) (inr window) (inr log) (inr run) (inr profile) = inr (no_other word check window log run profile)

command_or_none : (word : List ℕ) → HasCommand word ⊎ HasNone word
command_or_none word =
    by_five word (known_text word (codes "check")) (known_text word (codes "window")) (known_text word (codes "log")) (known_text word (codes "run"))
    (known_text word (codes "profile"))

-- ---- a number of nodes

-- a word is a number from 1 up to the most, or none of them
abbrev HasCount : ℕ → List ℕ → Type 0
HasCount most word = (count : ℕ) × (1 ≤ count) × (count ≤ most) × (word ≡ decimal count)

abbrev HasNoCount : ℕ → List ℕ → Type 0
HasNoCount most word = (count : ℕ) → 1 ≤ count → count ≤ most → word ≡ decimal count → ⊥

count_here : (most : ℕ) (word : List ℕ) → Known (word ≡ decimal (suc most)) → HasCount most word ⊎ HasNoCount most word
    → HasCount (suc most) word ⊎ HasNoCount (suc most) word
count_here most word (inl is) further = inl (suc most, omega arith, omega arith, is)
count_here most word (inr other) (inl (count, some, few, is)) = inl (count, some, omega (arith, few), is)
count_here most word (inr other) (inr none) =
    inr (λ count some few is. elim (cases_lt most count) [
      | inl at ↦ let same : count ≡ suc most = omega (arith, at, few) in other (subst (λ n. word ≡ decimal n) same is)
      | inr below ↦ none count some below is
    ])

count_or_none : (most : ℕ) (word : List ℕ) → HasCount most word ⊎ HasNoCount most word
count_or_none zero word = inr (λ count some few is. omega (arith, some, few))
count_or_none (suc most) word = count_here most word (known_text word (decimal (suc most))) (count_or_none most word)

-- ---- the words

two_words : (words : List (List ℕ)) (one other : List ℕ) → words ≡ one ∷ other ∷ [] → length words ≡ 2
two_words words one other is = ap length is

not_two : (words : List (List ℕ)) → (length words ≡ 2 → ⊥) → IsNoCommand words
not_two words other =
    record {
      no_command = λ command name is. other (two_words words (command_word command) name is);
      no_count = λ count gen. other (two_words words (codes "gen") (decimal count) gen.words_are);
    }

heads : (word value one other : List ℕ) → word ∷ value ∷ [] ≡ one ∷ other ∷ [] → (word ≡ one) × (value ≡ other)
heads word value one other is =
    let first = same_heads word one (value ∷ []) (other ∷ []) is in
    (first.0, (same_heads value other [] [] first.1).0)

generated_by : (contents : Contents) (word value : List ℕ) → HasNone word → Known (word ≡ codes "gen") → HasCount 64 value ⊎ HasNoCount 64 value
    → AreAsking contents (word ∷ value ∷ []) ⊎ IsNoCommand (word ∷ value ∷ [])
generated_by contents word value none (inl is) (inl (count, some, few, value_is)) =
    inl (
      Some show.Summary,
      generated_files count,
      scenario_name,
      inr (count, record { words_are = (λ i. is i ∷ value_is i ∷ []); some = some; few = few }, refl, refl, refl),
    )
generated_by contents word value none (inl is) (inr no_count) =
    inr (record {
      no_command = λ command name same. none command (heads word value (command_word command) name same).0;
      no_count = λ count gen. no_count count gen.some gen.few (heads word value (codes "gen") (decimal count) gen.words_are).1;
    })
generated_by contents word value none (inr other) counted =
    inr (record {
      no_command = λ command name same. none command (heads word value (command_word command) name same).0;
      no_count = λ count gen. other (heads word value (codes "gen") (decimal count) gen.words_are).0;
    })

pair_by : (contents : Contents) (word value : List ℕ) → HasCommand word ⊎ HasNone word → AreAsking contents (word ∷ value ∷ []) ⊎ IsNoCommand (word ∷ value ∷ [])
pair_by contents word value (inl (command, is)) = inl (show_of command, contents, value, inl (command, ap (λ w. w ∷ value ∷ []) is, refl, refl))
pair_by contents word value (inr none) = generated_by contents word value none (known_text word (codes "gen")) (count_or_none 64 value)

-- words ask for something, or are no command
pub asking_or_none : (contents : Contents) (words : List (List ℕ)) → AreAsking contents words ⊎ IsNoCommand words
asking_or_none contents [] = inr (not_two [] (λ two. omega (arith, two)))
asking_or_none contents (word ∷ []) = inr (not_two (word ∷ []) (λ two. omega (arith, two)))
asking_or_none contents (word ∷ value ∷ []) = pair_by contents word value (command_or_none word)
asking_or_none contents (word ∷ value ∷ third ∷ words) = inr (not_two (word ∷ value ∷ third ∷ words) (λ two. omega (arith, two)))
