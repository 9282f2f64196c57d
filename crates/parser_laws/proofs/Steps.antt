-- What a reading that gave something has read, step by step.
use Rattle.std.proofs.Common.{append_assoc, ◌≡◌, ℕ, zero, suc, ◌+◌, ◌≤◌, ◌<◌, Bool, true, false, if◌then◌else◌, List, [], ◌∷◌, ◌++◌, length, Option, Some, None, refl, ap, sym, subst, ◌∙◌, arith, rules}
use Rattle.std.specs.Prelude.{⊤}
use Rattle.std.specs.List.{All}
use Rattle.std.proofs.lemmas.List.{append-nil}
use Rattle.std.proofs.lemmas.List.Elements.{All-cons}
use denote.Enum.Bare.{same_true}
use Rattle.capl_lexer.specs.contracts.token.Sign as signs
use Rattle.capl_lexer.specs.contracts.token.Word as words
use Rattle.capl_lexer.specs.declared.token.Tok.{Tok}
use Rattle.capl_lexer.specs.declared.token.Tok.TheVariants as tok
use Rattle.capl_lexer.specs.declared.token.Word.{Word}
use Rattle.capl_lexer.specs.declared.token.Sign.{Sign}
use Rattle.capl_tree.specs.FileSpelling.{each}
use Rattle.capl_tree.specs.FilePlaced.{EachPlaced}
use Rattle.expr_parser.specs.Reading.{Read, and_then, begins, begins_word, behind, after, after_word}
use Rattle.parser_laws.specs.Statement.{until}

-- what was read, and what is read behind it
pub step : {A B : Type 0} (x : Read A) (next : A → List Tok → Read B) (b : B) (rest : List Tok) (R : Type 0) → and_then x next ≡ Some (b, rest)
    → ((a : A) (left : List Tok) → x ≡ Some (a, left) → next a left ≡ Some (b, rest) → R) → R
step None next b rest R e go_on = absurd cc
step (Some p) next b rest R e go_on = go_on p.0 p.1 refl e

-- the other way where a test fails
pub by_test : (test : Bool) {A : Type 0} (x y : Read A) (z : A × List Tok) (R : Type 0) → (if test then x else y) ≡ Some z
    → (test ≡ true → x ≡ Some z → R) → (test ≡ false → y ≡ Some z → R) → R
by_test true x y z R e holds fails = holds refl e
by_test false x y z R e holds fails = fails refl e

abbrev value_of : {A : Type 0} → A → Read A → A
value_of a None = a
value_of a (Some p) = p.0

abbrev rest_of : {A : Type 0} → List Tok → Read A → List Tok
rest_of ts None = ts
rest_of ts (Some p) = p.1

-- what holds of what was given
pub moved : {A : Type 0} (P : A → List Tok → Type 0) (a b : A) (r s : List Tok) → (let x : Read A = Some (a, r) in x) ≡ Some (b, s) → P a r → P b s
moved {A} P a b r s e p =
    let same : a ≡ b = ap (λ (x : Read A). value_of a x) e in
    let same_rest : r ≡ s = ap (λ (x : Read A). rest_of r x) e in
    subst (λ (x : A). P x s) same (subst (λ (x : List Tok). P a x) same_rest p)

-- the sign, if it is the next
pub sign_next : (wanted : Sign) (ts : List Tok) → begins wanted ts ≡ true → ts ≡ tok.Sign wanted ∷ behind ts
sign_next wanted [] e = absurd cc
sign_next wanted (tok.Sign found ∷ ts) e = let same : found ≡ wanted = same_true signs.the_type (search rules) _ _ e in cc
sign_next wanted (_ ∷ ts) e = absurd cc

-- the word, if it is the next
pub word_next : (wanted : Word) (ts : List Tok) → begins_word wanted ts ≡ true → ts ≡ tok.Word wanted ∷ behind ts
word_next wanted [] e = absurd cc
word_next wanted (tok.Word found ∷ ts) e = let same : found ≡ wanted = same_true words.the_type (search rules) _ _ e in cc
word_next wanted (_ ∷ ts) e = absurd cc

-- the sign that had to be the next
pub after_some : (wanted : Sign) (ts : List Tok) (u : Unit {0}) (left : List Tok) → after wanted ts ≡ Some (u, left) → ts ≡ tok.Sign wanted ∷ left
unfolding after
after_some wanted ts u left e =
    by_test (begins wanted ts) (Some (tt, behind ts)) None (u, left) (ts ≡ tok.Sign wanted ∷ left) e
    (λ is e. let rest : behind ts ≡ left = ap (λ (x : Read (Unit {0})). rest_of left x) e in sign_next wanted ts is ∙ ap (λ (x : List Tok). tok.Sign wanted ∷ x) rest)
    (λ is e. absurd cc)

-- the word that had to be the next
pub after_word_some : (wanted : Word) (ts : List Tok) (u : Unit {0}) (left : List Tok) → after_word wanted ts ≡ Some (u, left) → ts ≡ tok.Word wanted ∷ left
unfolding after_word
after_word_some wanted ts u left e =
    by_test (begins_word wanted ts) (Some (tt, behind ts)) None (u, left) (ts ≡ tok.Word wanted ∷ left) e
    (λ is e. let rest : behind ts ≡ left = ap (λ (x : Read (Unit {0})). rest_of left x) e in word_next wanted ts is ∙ ap (λ (x : List Tok). tok.Word wanted ∷ x) rest)
    (λ is e. absurd cc)

-- tokens that are a part's, and what is behind them
pub record IsFound {A : Type 0} (spell : A → List Tok → List Tok) (P : A → Type 0) (Q : A → List Tok → Type 0) (ts : List Tok) (a : A) (rest : List Tok) : Type 0 where
  pub spelled : ts ≡ spell a rest
  pub well : P a
  pub placed : Q a rest
  pub shorter : length rest ≤ length ts

-- what is read stands at the front of the tokens, which are the last of so many
abbrev pub IsSound : {A : Type 0} → ℕ → (List Tok → Read A) → (A → List Tok → List Tok) → (A → Type 0) → (A → List Tok → Type 0) → Type 0
IsSound {A} total read spell P Q =
    (ts : List Tok) (a : A) (rest : List Tok) → length ts ≤ total → read ts ≡ Some (a, rest) → IsFound spell P Q ts a rest

-- items that were read one after another
abbrev pub WasRead : {A : Type 0} → (List Tok → Bool) → (List Tok → Read A) → List A → List Tok → List Tok → Type 0
WasRead ends one [] ts rest = (ts ≡ rest) × (ends rest ≡ true)
WasRead ends one (item ∷ items) ts rest =
    (left : List Tok) × (ends ts ≡ false) × (one ts ≡ Some (item, left)) × WasRead ends one items left rest

-- what was read until the items end
pub until_read : {A : Type 0} (ends : List Tok → Bool) (one : List Tok → Read A) (n : ℕ) (found : List A) (ts : List Tok) (all : List A) (rest : List Tok)
    → until ends one n found ts ≡ Some (all, rest) → (items : List A) × (all ≡ found ++ items) × WasRead ends one items ts rest
unfolding until
until_read ends one zero found ts all rest e = absurd cc
until_read {A} ends one (suc n) found ts all rest e =
    by_test (ends ts) (Some (found, ts)) (and_then (one ts) (λ item ts. until ends one n (found ++ item ∷ []) ts)) (all, rest)
    ((items : List A) × (all ≡ found ++ items) × WasRead ends one items ts rest) e
    (λ is e. moved (λ (a : List A) (r : List Tok). (items : List A) × (a ≡ found ++ items) × WasRead ends one items ts r) found all ts rest e
    ([], sym (append-nil found), (refl, is)))
    (λ is e. step (one ts) (λ item ts. until ends one n (found ++ item ∷ []) ts) all rest ((items : List A) × (all ≡ found ++ items) × WasRead ends one items ts rest) e
    (λ item left read e.
    let more = until_read ends one n (found ++ item ∷ []) left all rest e in
    (item ∷ more.0, more.1 ∙ append_assoc found (item ∷ []) more.0, (left, is, read, more.2))))

-- all items stand at the front of the tokens
pub record AreFound {A : Type 0} (ends : List Tok → Bool) (spell : A → List Tok → List Tok) (P : A → Type 0) (Q : A → List Tok → Type 0)
    (ts : List Tok) (items : List A) (rest : List Tok) : Type 0 where
  pub spelled : ts ≡ each spell items rest
  pub well : All P items
  pub placed : EachPlaced spell Q items rest
  pub shorter : length rest ≤ length ts
  pub over : ends rest ≡ true

none_all : {A : Type 0} (P : A → Type 0) → All P []
none_all P k d below = absurd (omega arith)

-- items that were read are found
pub all_found : {A : Type 0} (total : ℕ) (ends : List Tok → Bool) (one : List Tok → Read A) (spell : A → List Tok → List Tok) (P : A → Type 0) (Q : A → List Tok → Type 0)
    → IsSound total one spell P Q → (items : List A) (ts rest : List Tok) → length ts ≤ total → WasRead ends one items ts rest → AreFound ends spell P Q ts items rest
all_found total ends one spell P Q sound [] ts rest fits read =
    record { spelled = read.0; well = none_all P; placed = tt; shorter = omega (arith, ap length read.0); over = read.1 }
all_found total ends one spell P Q sound (item ∷ items) ts rest fits read =
    let first = sound ts item read.0 fits read.2 in
    let more = all_found total ends one spell P Q sound items read.0 rest (omega (arith, first.shorter)) read.3 in
    record {
      spelled = first.spelled ∙ ap (λ (left : List Tok). spell item left) more.spelled;
      well = All-cons P item items first.well more.well;
      placed = (subst (λ (left : List Tok). Q item left) more.spelled first.placed, more.placed);
      shorter = omega (arith, first.shorter, more.shorter);
      over = more.over;
    }
