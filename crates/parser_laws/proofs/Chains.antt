-- Items that are read one after another, up to where they end.
use Rattle.std.proofs.Common.{append_assoc, ◌≡◌, ℕ, zero, suc, ◌+◌, ◌≤◌, ◌<◌, Bool, true, false, List, [], ◌∷◌, ◌++◌, length, Option, Some, None, refl, ap, sym, ◌∙◌, arith}
use Rattle.std.specs.Prelude.{⊤}
use Rattle.std.specs.List.{All}
use Rattle.std.proofs.lemmas.List.{append-nil}
use Rattle.std.proofs.lemmas.List.Elements.{All-head, All-tail}
use Rattle.capl_lexer.specs.declared.token.Tok.{Tok}
use Rattle.capl_tree.specs.FileSpelling.{each}
use Rattle.capl_tree.specs.FilePlaced.{EachPlaced}
use Rattle.expr_parser.specs.Reading.{Read, and_then}
use Rattle.parser_laws.specs.Statement.{until}

-- each item is read from the front of what is left, and then they end
abbrev pub Chain : {A : Type 0} → (List Tok → Bool) → (List Tok → Read A) → List A → List Tok → List Tok → Type 0
Chain ends one [] ts rest = (ts ≡ rest) × (ends rest ≡ true)
Chain ends one (item ∷ items) ts rest =
    (left : List Tok) × (ends ts ≡ false) × (one ts ≡ Some (item, left)) × (length left < length ts) × Chain ends one items left rest

-- what is left is no longer than the whole
chain_shorter : {A : Type 0} (ends : List Tok → Bool) (one : List Tok → Read A) (items : List A) (ts rest : List Tok)
    → Chain ends one items ts rest → length rest ≤ length ts
chain_shorter ends one [] ts rest chain = omega (arith, ap length chain.0)
chain_shorter ends one (item ∷ items) ts rest chain = omega (arith, chain.3, chain_shorter ends one items chain.0 rest chain.4)

-- all of them are read
pub until_chain : {A : Type 0} (ends : List Tok → Bool) (one : List Tok → Read A) (n : ℕ) (found items : List A) (ts rest : List Tok)
    → Chain ends one items ts rest → length ts < n + length rest → until ends one n found ts ≡ Some (found ++ items, rest)
unfolding until
until_chain ends one zero found items ts rest chain enough = absurd (omega (arith, chain_shorter ends one items ts rest chain))
until_chain ends one (suc n) found [] ts rest chain enough = rw (chain.0, chain.1, append-nil found) refl
until_chain {A} ends one (suc n) found (item ∷ items) ts rest chain enough =
    rw (chain.1, chain.2)
    (until_chain ends one n (found ++ item ∷ []) items chain.0 rest chain.4 (omega (arith, chain.3))
    ∙ ap (λ (all : List A). Some (all, rest)) (append_assoc found (item ∷ []) items))

-- an item of which this holds is read before any rest
abbrev pub IsRead : {A : Type 0} → (List Tok → Bool) → (List Tok → Read A) → (A → List Tok → List Tok) → A → List Tok → Type 0
IsRead ends one spell item rest =
    (ends (spell item rest) ≡ false) × (one (spell item rest) ≡ Some (item, rest)) × (length rest < length (spell item rest))

-- items that are each read
pub each_chain : {A : Type 0} (ends : List Tok → Bool) (one : List Tok → Read A) (spell : A → List Tok → List Tok) (items : List A) (rest : List Tok)
    → ends rest ≡ true → EachPlaced spell (IsRead ends one spell) items rest → Chain ends one items (each spell items rest) rest
each_chain ends one spell [] rest over all = (refl, over)
each_chain ends one spell (item ∷ items) rest over all =
    (each spell items rest, all.0.0, all.0.1, all.0.2, each_chain ends one spell items rest over all.1)

-- what holds of each item, and of each before what stands behind it
pub each_both : {A : Type 0} (P : A → Type 0) (Q R : A → List Tok → Type 0) (spell : A → List Tok → List Tok) (items : List A) (rest : List Tok)
    → ((item : A) (rest : List Tok) → P item → Q item rest → R item rest)
    → All P items → EachPlaced spell Q items rest → EachPlaced spell R items rest
each_both P Q R spell [] rest both all placed = tt
each_both P Q R spell (item ∷ items) rest both all placed = (
  both item (each spell items rest) (All-head P item items all) placed.0,
  each_both P Q R spell items rest both (All-tail P item items all) placed.1,
)
