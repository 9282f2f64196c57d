-- Items that were read with commas between them are spelled so.
use Rattle.std.proofs.Common.{◌≡◌, ◌≢◌, ℕ, zero, suc, ◌≤◌, ◌<◌, Bool, true, false, if◌then◌else◌, List, [], ◌∷◌, ◌++◌, length, Some, refl, ap, sym, subst, ◌∙◌, append_assoc, arith}
use Rattle.capl_lexer.specs.declared.token.Tok.{Tok}
use Rattle.capl_lexer.specs.declared.token.Tok.TheVariants as tok
use Rattle.capl_lexer.specs.declared.token.Sign.TheVariants as sign
use Rattle.capl_tree.specs.Spelling.{further, separated}
use Rattle.capl_tree.specs.Placed.{EachBefore}
use Rattle.expr_parser.specs.Reading.{Read, begins, behind, next_item, items_from, items}
use Rattle.expr_parser.proofs.Steps.{and_then_some, same_value, same_rest, begins_next}

-- what a reader gives is spelled by what it read, and has the property
abbrev pub IsSoundFor : {A : Type 0} → ℕ → (List Tok → Read A) → (A → List Tok → List Tok) → (A → List Tok → Type 0) → Type 0
IsSoundFor {A} total reader one P =
    (ts : List Tok) (item : A) (rest : List Tok) → length ts ≤ total → reader ts ≡ Some (item, rest) → (ts ≡ one item rest) × P item rest

-- the item that is read next, and those behind it
record Listed {A : Type 0} (one : A → List Tok → List Tok) (P : A → List Tok → Type 0) (front : List A) (ts : List Tok) (all : List A) (rest : List Tok) : Type 0 where
  next : A
  others : List A
  whole : all ≡ front ++ next ∷ others
  spelled : ts ≡ one next (further one others rest)
  each : EachBefore one P (next ∷ others) rest
  ends : begins sign.Comma rest ≡ false

next_listed : {A : Type 0} (total : ℕ) (reader : List Tok → Read A) (one : A → List Tok → List Tok) (P : A → List Tok → Type 0) (n : ℕ) (front : List A) (item : A)
    (ts between : List Tok) (all : List A) (rest : List Tok) → length between ≤ total → (ts ≡ one item between) × P item between
    → ((tail : List Tok) → length tail ≤ total → items_from reader n (front ++ item ∷ []) tail ≡ Some (all, rest) → Listed one P (front ++ item ∷ []) tail all rest)
    → (comma : Bool) → begins sign.Comma between ≡ comma
    → (if comma then items_from reader n (front ++ item ∷ []) (behind between) else Some (front ++ item ∷ [], between)) ≡ Some (all, rest)
    → Listed one P front ts all rest
next_listed total reader one P n front item ts between all rest below read again true is e =
    let next = begins_next sign.Comma between is in
    let later = again (behind between) (omega (arith, ap length next)) e in
    let between_is = next ∙ ap (λ (r : List Tok). tok.Sign sign.Comma ∷ r) later.spelled in
    record {
      next = item;
      others = later.next ∷ later.others;
      whole = later.whole ∙ append_assoc front (item ∷ []) (later.next ∷ later.others);
      spelled = read.0 ∙ ap (one item) between_is;
      each = (subst (P item) between_is read.1, later.each);
      ends = later.ends;
    }
next_listed total reader one P n front item ts between all rest below read again false is e =
    let left = same_rest (front ++ item ∷ []) all between rest e in
    record {
      next = item;
      others = [];
      whole = sym (same_value (front ++ item ∷ []) all between rest e);
      spelled = read.0 ∙ ap (one item) left;
      each = (subst (P item) left read.1, tt);
      ends = subst (λ r. begins sign.Comma r ≡ false) left is;
    }

listed : {A : Type 0} (total : ℕ) (reader : List Tok → Read A) (one : A → List Tok → List Tok) (P : A → List Tok → Type 0) → IsSoundFor total reader one P
    → ((item : A) (ts : List Tok) → length ts < length (one item ts))
    → (n : ℕ) (front : List A) (ts : List Tok) (all : List A) (rest : List Tok) → length ts ≤ total → items_from reader n front ts ≡ Some (all, rest)
    → Listed one P front ts all rest
unfolding items_from
listed total reader one P sound longer zero front ts all rest below e = absurd cc
listed total reader one P sound longer (suc n) front ts all rest below e =
    let first = and_then_some (reader ts) (λ item between. next_item (items_from reader n (front ++ item ∷ [])) (front ++ item ∷ []) between) (all, rest) e in
    let read = sound ts first.0 first.1 below first.2 in
    next_listed total reader one P n front first.0 ts first.1 all rest (omega (arith, ap length read.0, longer first.0 first.1)) read
    (λ tail under f. listed total reader one P sound longer n (front ++ first.0 ∷ []) tail all rest under f)
    (begins sign.Comma first.1) refl first.3

-- a list that was read
pub record ReadsItems {A : Type 0} (one : A → List Tok → List Tok) (P : A → List Tok → Type 0) (ts : List Tok) (all : List A) (rest : List Tok) : Type 0 where
  pub some : all ≢ []
  pub spelled : ts ≡ separated one all rest
  pub each : EachBefore one P all rest
  pub ends : begins sign.Comma rest ≡ false

found_all : {A : Type 0} (one : A → List Tok → List Tok) (P : A → List Tok → Type 0) (ts : List Tok) (next : A) (others all : List A) (rest : List Tok)
    → next ∷ others ≡ all → ts ≡ separated one (next ∷ others) rest → EachBefore one P (next ∷ others) rest → begins sign.Comma rest ≡ false
    → ReadsItems one P ts all rest
found_all one P ts next others all rest is spelled each ends =
    subst (λ l. ReadsItems one P ts l rest) is (record { some = λ none. absurd cc; spelled = spelled; each = each; ends = ends })

-- Items that were read with commas between them are at least one, they are spelled so, each has the property
-- before what stands behind it, and no comma is left.
pub items_sound : {A : Type 0} (total : ℕ) (reader : List Tok → Read A) (one : A → List Tok → List Tok) (P : A → List Tok → Type 0) → IsSoundFor total reader one P
    → ((item : A) (ts : List Tok) → length ts < length (one item ts))
    → (ts : List Tok) (all : List A) (rest : List Tok) → length ts ≤ total → items reader ts ≡ Some (all, rest) → ReadsItems one P ts all rest
unfolding items
items_sound total reader one P sound longer ts all rest below e =
    let found = listed total reader one P sound longer (length ts) [] ts all rest below e in
    found_all one P ts found.next found.others all rest (sym found.whole) found.spelled found.each found.ends
