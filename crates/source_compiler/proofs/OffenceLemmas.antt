-- A program has one first offence.
use Rattle.std.proofs.Common.{◌≡◌, ℕ, List, [], sym, subst, ◌∙◌, arith, inl, inr}
use Rattle.std.specs.Prelude.{Contains, slice_get}
use Rattle.std.specs.Option.{option_map_or}
use Rattle.std.proofs.lemmas.List.Elements.{All-contains}
use Rattle.texts.specs.declared.blame.Blame.{Blame}
use Rattle.texts.specs.Rule.{source_rule}
use Rattle.capl_lexer.specs.declared.token.Token.{Token}
use Rattle.capl_include.specs.Blame.{place_blame}
use Rattle.capl_include.specs.declared.expanded.SourceFile.{SourceFile}
use Rattle.capl_meaning.specs.Offences.{IsFirst, IsNoLater, offences_of}
use Rattle.capl_meaning.specs.declared.offence.Offence.{Offence}
use Rattle.capl_tree.specs.declared.file.Program.{Program}
use Rattle.dbc_reader.specs.declared.message.DbcMessage.{DbcMessage}
use Rattle.source_compiler.specs.Source.{IsOffenceBlame, offence_blame, token_in}

-- two offences of which none is later are at one place, by rules of one number
record AreAtOnePlace (a b : Offence) : Type 0 where
  file : a.file ≡ b.file
  token : a.token ≡ b.token
  number : a.rule.number ≡ b.rule.number

at_one_place : (a b : Offence) → IsNoLater a b → IsNoLater b a → AreAtOnePlace a b
at_one_place a b (inl file) (inl file_too) = absurd (omega arith)
at_one_place a b (inl file) (inr (same, rest)) = absurd (omega arith)
at_one_place a b (inr (same, rest)) (inl file) = absurd (omega arith)
at_one_place a b (inr (same, inl token)) (inr (same_too, inl token_too)) = absurd (omega arith)
at_one_place a b (inr (same, inl token)) (inr (same_too, inr (token_too, rule))) = absurd (omega arith)
at_one_place a b (inr (same, inr (token, rule))) (inr (same_too, inl token_too)) = absurd (omega arith)
at_one_place a b (inr (same, inr (token, rule))) (inr (same_too, inr (token_too, rule_too))) =
    record { file = same; token = token; number = omega arith }

one_place : (offences : List Offence) (a b : Offence) → IsFirst a offences → IsFirst b offences → AreAtOnePlace a b
one_place offences a b one two =
    at_one_place a b (All-contains (IsNoLater a) offences b one.earliest two.among) (All-contains (IsNoLater b) offences a two.earliest one.among)

-- the blame of a rule at a place
abbrev blame_at : List SourceFile → ℕ → ℕ → ℕ → Blame
blame_at files file number rule =
    place_blame (option_map_or (λ (f : SourceFile). f.name) (slice_get files file) [])
    (option_map_or (λ (t : Token). t.line) (token_in files file number) 0)
    (option_map_or (λ (t : Token). t.column) (token_in files file number) 0) (source_rule rule)

same_blame : (files : List SourceFile) (a b : Offence) → AreAtOnePlace a b → offence_blame files a ≡ offence_blame files b
same_blame files a b same = λ i. blame_at files (same.file i) (same.token i) (same.number i)

-- an offence has one blame
pub one_offence_blame : (base : List DbcMessage) (files : List SourceFile) (program : Program) (blame other : Blame) → IsOffenceBlame base files program blame → IsOffenceBlame base files program other → blame ≡ other
one_offence_blame base files program blame other (a, first, is) (b, first_too, also) =
    is ∙ same_blame files a b (one_place (offences_of base program) a b first first_too) ∙ sym also

none_among : (a : Offence) → Contains [] a → ⊥
none_among a (k, within, at) = absurd (omega arith)

-- a program with an offence breaks a rule
pub offence_or_none : (base : List DbcMessage) (files : List SourceFile) (program : Program) (blame : Blame) → offences_of base program ≡ [] → IsOffenceBlame base files program blame → ⊥
offence_or_none base files program blame none (a, first, is) =
    let among = subst (λ (os : List Offence). Contains os a) none first.among in
    none_among a among
