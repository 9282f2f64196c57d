-- One token of a lowering, and how many tokens it leaves.
use Rattle.std.proofs.Common.{append_assoc, ◌≡◌, ℕ, zero, suc, ◌+◌, ◌-◌, ◌<◌, ◌≤◌, Bool, true, false, ◌&&◌, List, [], ◌∷◌, ◌++◌, length, length-append, Option, Some, None, refl, ap, sym, ◌∙◌, arith}
use Rattle.std.specs.Prelude.{if◌then◌else◌}
use Rattle.std.proofs.lemmas.List.{append-nil, length-map, nil_from_length}
use Rattle.capl_lexer.specs.declared.token.Tok.{Tok}
use Rattle.capl_lexer.specs.declared.token.Token.{Token}
use Rattle.capl_nesting.specs.Tokens.{toks}
use Rattle.sys_vars.specs.declared.item.SysItem.{SysItem}
use Rattle.sys_vars.specs.Name.{is_declared}
use Rattle.sys_vars.specs.Lowering.{Named, Replaced, declared_by, head_of, is_at, is_on, is_scope, is_sysvar, kept, lowered, lowered_from, name_of, named, path, replaced, use_of}

-- a token that is passed over
pub one_passed : (items : List SysItem) (passed : ℕ) (behind_on : Bool) (token : Token) (rest : List Token) → 0 < passed
    → lowered_from items passed behind_on (token ∷ rest) ≡ lowered_from items (passed - 1) (is_on token.tok) rest
unfolding lowered_from
one_passed items zero behind_on token rest some = absurd (omega arith)
one_passed items (suc passed) behind_on token rest some = ap (λ (left : ℕ). lowered_from items left (is_on token.tok) rest) (omega arith)

-- a token that is not
pub one_taken : (items : List SysItem) (passed : ℕ) (behind_on : Bool) (token : Token) (rest before : List Token) → passed ≡ 0
    → before ++ lowered_from items passed behind_on (token ∷ rest)
    ≡ (before ++ (replaced items behind_on token rest).tokens) ++ lowered_from items (replaced items behind_on token rest).behind (is_on token.tok) rest
unfolding lowered_from
one_taken items (suc passed) behind_on token rest before none = absurd (omega arith)
one_taken items zero behind_on token rest before none =
    sym (append_assoc before (replaced items behind_on token rest).tokens
    (lowered_from items (replaced items behind_on token rest).behind (is_on token.tok) rest))

-- of no tokens nothing is left
nothing_left : (items : List SysItem) (passed : ℕ) (behind_on : Bool) → lowered_from items passed behind_on [] ≡ []
unfolding lowered_from
nothing_left items zero behind_on = refl
nothing_left items (suc passed) behind_on = refl

-- where no token is left, all are found
pub all_found : (items : List SysItem) (passed : ℕ) (behind_on : Bool) (rest found all : List Token) → length rest ≡ 0
    → found ++ lowered_from items passed behind_on rest ≡ all → found ≡ all
all_found items passed behind_on rest found all none e =
    sym (append-nil found) ∙ ap (λ (tokens : List Token). found ++ tokens) (sym (nothing_left items passed behind_on))
    ∙ ap (λ (tokens : List Token). found ++ lowered_from items passed behind_on tokens) (sym (nil_from_length rest none)) ∙ e

-- How many tokens there are.

-- a variable is named by at least one token, and by at most so many
abbrev Fits : ℕ → Option Named → Type 0
Fits count None = Unit {0}
Fits count (Some found) = (1 ≤ found.width) × (found.width ≤ count)

declared_fits : (items : List SysItem) (width count : ℕ) (space name : Option (List ℕ)) → 1 ≤ width → width ≤ count → Fits count (declared_by items width space name)
declared_fits items width count None name some within = tt
declared_fits items width count (Some space) None some within = tt
declared_fits items width count (Some space) (Some name) some within = by (is_declared items space name)
  where
    by : (declared : Bool) → Fits count (if declared then Some record { space = space; name = name; width = width } else None)
    by true = (some, within)
    by false = tt

path_fits : (items : List SysItem) (more : ℕ) (ts : List Tok) → Fits (more + length ts) (path items (more + 3) ts)
path_fits items more [] = tt
path_fits items more (first ∷ []) = tt
path_fits items more (first ∷ second ∷ []) = tt
path_fits items more (first ∷ second ∷ third ∷ rest) = by (is_scope second)
  where
    by : (scope : Bool) → Fits (more + length (first ∷ second ∷ third ∷ rest)) (if scope then declared_by items (more + 3) (name_of first) (name_of third) else None)
    by true = declared_fits items (more + 3) (more + length (first ∷ second ∷ third ∷ rest)) (name_of first) (name_of third) (omega arith) (omega arith)
    by false = tt

fits_count : (count other : ℕ) (found : Option Named) → count ≡ other → Fits count found → Fits other found
fits_count count other None same fits = tt
fits_count count other (Some f) same fits = (fits.0, omega (arith, fits.1))

named_fits : (items : List SysItem) (ts : List Tok) → Fits (length ts) (named items ts)
named_fits items [] = tt
named_fits items (first ∷ []) = tt
named_fits items (first ∷ second ∷ rest) =
    by (is_sysvar first) (is_scope second)
    (fits_count (2 + length rest) (length (first ∷ second ∷ rest)) (path items 5 rest) (omega arith) (path_fits items 2 rest))
    (fits_count (0 + length (first ∷ second ∷ rest)) (length (first ∷ second ∷ rest)) (path items 3 (first ∷ second ∷ rest)) (omega arith)
    (path_fits items 0 (first ∷ second ∷ rest)))
  where
    by : (sysvar scope : Bool) → Fits (length (first ∷ second ∷ rest)) (path items 5 rest) → Fits (length (first ∷ second ∷ rest)) (path items 3 (first ∷ second ∷ rest))
        → Fits (length (first ∷ second ∷ rest)) (if sysvar then (if scope then path items 5 rest else None) else path items 3 (first ∷ second ∷ rest))
    by true true long short = long
    by true false long short = tt
    by false scope long short = short

-- no more tokens than before, of which so many are behind the first
IsWithin : ℕ → Replaced → Type 0
IsWithin count there = (length there.tokens ≤ 1 + there.behind) × (there.behind ≤ count)

use_within : (count : ℕ) (token : Token) (found : Option Named) → Fits count found → IsWithin count (use_of token found)
unfolding IsWithin
use_within count token None fits = (omega arith, omega arith)
use_within count token (Some f) fits = (omega arith, fits.1)

head_within : (count : ℕ) (token : Token) (found : Option Named) → Fits count found → IsWithin count (head_of token found)
unfolding IsWithin
head_within count token None fits = (omega arith, omega arith)
head_within count token (Some f) fits = (omega (arith, fits.0), fits.1)

kept_within : (count : ℕ) (token : Token) → IsWithin count (kept token)
unfolding IsWithin
kept_within count token = (omega arith, omega arith)

replaced_within : (items : List SysItem) (count : ℕ) (behind_on : Bool) (token : Token) (rest : List Token) → Fits count (named items (toks rest))
    → IsWithin count (replaced items behind_on token rest)
replaced_within items count behind_on token rest fits = by (is_at token.tok) (behind_on && is_sysvar token.tok)
  where
    by : (begins head : Bool) → IsWithin count (if begins then use_of token (named items (toks rest)) else (if head then head_of token (named items (toks rest)) else kept token))
    by true head = use_within count token (named items (toks rest)) fits
    by false true = head_within count token (named items (toks rest)) fits
    by false false = kept_within count token

no_longer : (items : List SysItem) (passed : ℕ) (behind_on : Bool) (tokens : List Token) → passed ≤ length tokens
    → length (lowered_from items passed behind_on tokens) + passed ≤ length tokens
unfolding lowered_from IsWithin
no_longer items passed behind_on [] within = omega (arith, ap length (nothing_left items passed behind_on))
no_longer items (suc passed) behind_on (token ∷ rest) within = omega (arith, no_longer items passed (is_on token.tok) rest (omega arith))
no_longer items zero behind_on (token ∷ rest) within =
    let there = replaced items behind_on token rest in
    let count : length (toks rest) ≡ length rest = length-map rest (λ (t : Token). t.tok) in
    let fits = replaced_within items (length (toks rest)) behind_on token rest (named_fits items (toks rest)) in
    let more = no_longer items there.behind (is_on token.tok) rest (omega (arith, fits.1, count)) in
    omega (arith, length-append there.tokens (lowered_from items there.behind (is_on token.tok) rest), fits.0, more)

-- no more tokens are left of a file than it has
pub lowered_short : (items : List SysItem) (tokens : List Token) → length (lowered items tokens) ≤ length tokens
lowered_short items tokens = omega (arith, no_longer items 0 false tokens (omega arith))
