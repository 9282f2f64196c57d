-- Tokens are what the pieces of a part say where they spell it, it is well formed, and it is in its place.
--
-- `Spells` numbers tokens from the start of a file, and the definitions of `capl_tree` place them by how many
-- are left. So both are said of whichever number makes the total.
use Rattle.std.proofs.Common.{◌≡◌, ◌≢◌, ℕ, suc, ◌+◌, ◌≤◌, Bool, true, false, List, [], ◌∷◌, length, Some, None, refl, ap, subst, ◌∙◌, arith}
use Rattle.std.specs.Prelude.{⊤, ◌↔◌, nat_lt, nat_le}
use Rattle.std.specs.List.{All}
use Rattle.std.specs.Option.{ForSome}
use Rattle.std.proofs.lemmas.Bool.{ltb-true, leb-true, lt-ltb, le-leb}
use Rattle.std.proofs.lemmas.List.Elements.{All-cons, All-nil, All-head, All-tail}
use Rattle.capl_lexer.specs.declared.token.Tok.{Tok}
use Rattle.capl_lexer.specs.declared.token.Tok.TheVariants as tok
use Rattle.capl_lexer.specs.declared.token.Sign.TheVariants as sign
use Rattle.capl_tree.specs.Spelling as spelled
use Rattle.capl_tree.specs.Placed.{IsAt, EachBefore}
use Rattle.capl_tree.specs.FileSpelling as spelled_file
use Rattle.capl_tree.specs.FilePlaced.{EachPlaced}
use Rattle.capl_grammar.specs.Expression.{Piece, Token, At, When, Spells, further, separated}
use Rattle.capl_grammar.specs.File.{each, braced}

-- the tokens, the last of a file of so many, are what the pieces say
abbrev pub Written : ℕ → List Piece → List Tok → Type 0
Written total pieces tokens = (number : ℕ) → number + length tokens ≡ total → Spells number pieces tokens

-- for some choice of what is spelled, the tokens are the spelling of a part before a rest, of which this
-- holds, and the rest is what the pieces behind say
pub record Apart {V : Type 0} (total : ℕ) (w : V → List Tok → List Tok) (Holds : V → List Tok → Type 0)
    (behind : List Piece) (tokens : List Tok) : Type 0 where
  pub choice : V
  pub rest : List Tok
  pub spelled : tokens ≡ w choice rest
  pub holds : Holds choice rest
  pub number : ℕ
  pub here : number + length rest ≡ total
  pub goes_on : Spells number behind rest

-- what these pieces say is spelled so, for some choice, and holds; and what is spelled so and holds is what
-- they say, for each choice
pub record Chosen {V : Type 0} (total : ℕ) (pieces : List Piece → List Piece) (w : V → List Tok → List Tok)
    (Holds : V → List Tok → Type 0) : Type 0 where
  pub reads : (number : ℕ) (behind : List Piece) (tokens : List Tok) → number + length tokens ≡ total
      → Spells number (pieces behind) tokens → Apart total w Holds behind tokens
  pub writes : (choice : V) (behind : List Piece) (rest : List Tok) → Holds choice rest
      → Written total behind rest → Written total (pieces behind) (w choice rest)

-- as `Chosen`, where there is nothing to choose
abbrev pub Same : ℕ → (List Piece → List Piece) → (List Tok → List Tok) → (List Tok → Type 0) → Type 0
Same total pieces w Holds = Chosen {V = ⊤} total pieces (λ choice. w) (λ choice. Holds)

-- what was found, said of other tokens before the same rest
pub again : {V U : Type 0} {total : ℕ} {w : V → List Tok → List Tok} {Holds : V → List Tok → Type 0}
    {v : U → List Tok → List Tok} {Other : U → List Tok → Type 0} {behind : List Piece}
    {tokens others : List Tok} (found : Apart total w Holds behind tokens) (choice : U)
    → others ≡ v choice found.rest → Other choice found.rest → Apart total v Other behind others
again found choice spelled holds = record {
  choice = choice;
  rest = found.rest;
  spelled = spelled;
  holds = holds;
  number = found.number;
  here = found.here;
  goes_on = found.goes_on;
}

-- nothing
pub nothing : {total : ℕ} → Same total (λ behind. behind) (λ rest. rest) (λ rest. ⊤)
nothing = record {
  reads = λ number behind tokens here spells. record {
    choice = tt;
    rest = tokens;
    spelled = refl;
    holds = tt;
    number = number;
    here = here;
    goes_on = spells;
  };
  writes = λ choice behind rest holds written. written;
}

module _ {V : Type 0} {total : ℕ} {pieces : List Piece → List Piece} {w : V → List Tok → List Tok}
    {Holds : V → List Tok → Type 0} where
  -- a token before a part
  pub token : (t : Tok) → Chosen total pieces w Holds
      → Chosen total (λ behind. Token t ∷ pieces behind) (λ choice rest. t ∷ w choice rest) Holds
  token t part = record {
    reads = λ number behind tokens here spells.
        let found = part.reads (suc number) behind spells.0 (omega (arith, ap length spells.1)) spells.2 in
        again found found.choice (spells.1 ∙ ap (λ (left : List Tok). t ∷ left) found.spelled) found.holds;
    writes = λ choice behind rest holds written number here.
        (_, refl, part.writes choice behind rest holds written (suc number) (omega (arith, here)));
  }

  -- a part and a part behind it
  pub both : {next : List Piece → List Piece} {v : List Tok → List Tok} {Next : List Tok → Type 0}
      → Chosen total pieces w Holds → Same total next v Next
      → Chosen total (λ behind. pieces (next behind)) (λ choice rest. w choice (v rest))
      (λ choice rest. Holds choice (v rest) × Next rest)
  both {next} {v} part others = record {
    reads = λ number behind tokens here spells.
        let first = part.reads number (next behind) tokens here spells in
        let second = others.reads first.number behind first.rest first.here first.goes_on in
        again second first.choice (first.spelled ∙ ap (w first.choice) second.spelled)
        (subst (Holds first.choice) second.spelled first.holds, second.holds);
    writes = λ choice behind rest holds written.
        part.writes choice (next behind) (v rest) holds.0 (others.writes tt behind rest holds.1 written);
  }

  -- a part of which something else holds
  pub became : {Other : V → List Tok → Type 0} → Chosen total pieces w Holds
      → ((choice : V) (rest : List Tok) → Holds choice rest ↔ Other choice rest)
      → Chosen total pieces w Other
  became part same = record {
    reads = λ number behind tokens here spells.
        let found = part.reads number behind tokens here spells in
        again found found.choice found.spelled ((same found.choice found.rest).0 found.holds);
    writes = λ choice behind rest holds written.
        part.writes choice behind rest ((same choice rest).1 holds) written;
  }

  -- a part whose place is said
  pub placed : (at : ℕ) → Chosen total pieces w Holds
      → Chosen total (λ behind. At at ∷ pieces behind) w
      (λ choice rest. IsAt total at (w choice rest) × Holds choice rest)
  placed at part = record {
    reads = λ number behind tokens here spells.
        let found = part.reads number behind tokens here spells.1 in
        again found found.choice found.spelled
        (omega (arith, spells.0, ap length found.spelled), found.holds);
    writes = λ choice behind rest holds written number here.
        (omega (arith, here, holds.0), part.writes choice behind rest holds.1 written number here);
  }

  -- a part with a condition
  pub asked : {condition : Bool} {Asks : Type 0} → ((condition ≡ true) ↔ Asks) → Chosen total pieces w Holds
      → Chosen total (λ behind. When condition ∷ pieces behind) w (λ choice rest. Asks × Holds choice rest)
  asked same part = record {
    reads = λ number behind tokens here spells.
        let found = part.reads number behind tokens here spells.1 in
        again found found.choice found.spelled (same.0 spells.0, found.holds);
    writes = λ choice behind rest holds written number here.
        (same.1 holds.0, part.writes choice behind rest holds.1 written number here);
  }

  -- what is never written
  pub never : ((choice : V) (rest : List Tok) → Holds choice rest → ⊥)
      → Chosen total (λ behind. When false ∷ pieces behind) w Holds
  never none = record {
    reads = λ number behind tokens here spells. absurd cc;
    writes = λ choice behind rest holds written. absurd (none choice rest holds);
  }

-- a token
pub only : {total : ℕ} (t : Tok) → Same total (λ behind. Token t ∷ behind) (λ rest. t ∷ rest) (λ rest. ⊤)
only t = token t nothing

-- a part and a token behind it
pub ended : {V : Type 0} {total : ℕ} {pieces : List Piece → List Piece} {w : V → List Tok → List Tok}
    {Holds : V → List Tok → Type 0} → Chosen total pieces w Holds → (t : Tok)
    → Chosen total (λ behind. pieces (Token t ∷ behind)) (λ choice rest. w choice (t ∷ rest))
    (λ choice rest. Holds choice (t ∷ rest))
ended part t = became (both part (only t)) assumption

-- a part with the same for each choice
pub free : {V : Type 0} {total : ℕ} {pieces : List Piece → List Piece} {w : List Tok → List Tok}
    {Holds : List Tok → Type 0} (choice : V) → Same total pieces w Holds
    → Chosen {V = V} total pieces (λ choice. w) (λ choice. Holds)
free choice part = record {
  reads = λ number behind tokens here spells.
      let found = part.reads number behind tokens here spells in
      again found choice found.spelled found.holds;
  writes = λ choice. part.writes tt;
}

-- no part, where there may be one
pub missing : {A : Type 0} {total : ℕ} (P : A → Type 0)
    → Same total (λ behind. behind) (λ rest. rest) (λ rest. ForSome None P × ⊤)
missing P = became nothing (λ choice rest. (λ h. (λ found is. absurd cc, tt), λ h. tt))

-- a part, where there may be none
pub present : {A : Type 0} {total : ℕ} {pieces : List Piece → List Piece} {w : List Tok → List Tok}
    {Holds : List Tok → Type 0} (P : A → Type 0) (a : A) → Same total pieces w (λ rest. P a × Holds rest)
    → Same total pieces w (λ rest. ForSome (Some a) P × Holds rest)
present P a part =
    became part
    (λ choice rest. (
      λ h. (λ found is. let same : a ≡ found = cc in subst P same h.0, h.1),
      λ h. (h.0 a refl, h.1),
    ))

-- whether there are items
pub some_items : {A : Type 0} (items : List A) → (nat_lt 0 (length items) ≡ true) ↔ (items ≢ [])
some_items [] = (λ is. absurd (omega (arith, ltb-true 0 0 is)), λ some. absurd (some refl))
some_items (first ∷ others) = (λ is none. cc, λ some. lt-ltb 0 _ (omega arith))

-- whether a number is enough
pub enough : (least number : ℕ) → (nat_le least number ≡ true) ↔ (least ≤ number)
enough least number = (leb-true least number, le-leb least number)

-- the pieces of an item say its spelling where it is well formed and in its place
abbrev pub ItemSame : {A : Type 0} → ℕ → (A → List Piece → List Piece) → (A → List Tok → List Tok)
    → (A → Type 0) → (A → List Tok → Type 0) → A → Type 0
ItemSame total one w Well Placed item =
    Same total (one item) (w item) (λ rest. Well item × Placed item rest)

-- one more item
one_more : {A : Type 0} {P Q : Type 0} (Well : A → Type 0) (first : A) (others : List A)
    → ((Well first × P) × (All Well others × Q)) ↔ (All Well (first ∷ others) × (P × Q))
one_more Well first others = (
  λ h. (All-cons Well first others h.0.0 h.1.0, (h.0.1, h.1.1)),
  λ h. ((All-head Well first others h.0, h.1.0), (All-tail Well first others h.0, h.1.1)),
)

module _ {A : Type 0} {total : ℕ} {one : A → List Piece → List Piece} {w : A → List Tok → List Tok}
    {Well : A → Type 0} {Placed : A → List Tok → Type 0}
    (item_same : (item : A) → ItemSame total one w Well Placed item) where
  -- no items
  none_same : Same total (λ behind. behind) (λ rest. rest) (λ rest. All Well [] × ⊤)
  none_same = became nothing (λ choice rest. (λ h. (All-nil Well, tt), λ h. tt))

  -- items, one after another
  pub each_same : (items : List A)
      → Same total (each one items) (spelled_file.each w items)
      (λ rest. All Well items × EachPlaced w Placed items rest)
  each_same [] = none_same
  each_same (first ∷ others) =
      became (both (item_same first) (each_same others)) (λ choice rest. one_more Well first others)

  -- items, each behind a comma
  further_same : (items : List A)
      → Same total (further one items) (spelled.further w items)
      (λ rest. All Well items × EachBefore w Placed items rest)
  further_same [] = none_same
  further_same (first ∷ others) =
      became (token (tok.Sign sign.Comma) (both (item_same first) (further_same others)))
      (λ choice rest. one_more Well first others)

  -- items with commas between them
  pub separated_same : (items : List A)
      → Same total (separated one items) (spelled.separated w items)
      (λ rest. All Well items × EachBefore w Placed items rest)
  separated_same [] = none_same
  separated_same (first ∷ others) =
      became (both (item_same first) (further_same others)) (λ choice rest. one_more Well first others)

  -- items between braces
  pub braced_same : (items : List A)
      → Same total (braced one items) (spelled_file.braced w items)
      (λ rest. All Well items × EachPlaced w Placed items (tok.Sign sign.CloseBrace ∷ rest))
  braced_same items =
      token (tok.Sign sign.OpenBrace) (ended (each_same items) (tok.Sign sign.CloseBrace))
