-- That the goals of a list go the way of its reader.
use Rattle.std.proofs.Common.{◌≡◌, ℕ, zero, suc, ◌≤◌, ◌<◌, Bool, true, false, if◌then◌else◌, List, [], ◌∷◌, ◌++◌, length, Some, refl, sym, ap, ◌∙◌, arith}
use Rattle.capl_lexer.specs.declared.token.Tok.{Tok}
use Rattle.capl_lexer.specs.declared.token.Sign.{Sign}
use Rattle.capl_lexer.specs.declared.token.Sign.TheVariants as sign
use Rattle.expr_parser.specs.Reading.{Read, begins, behind, next_item, items_from, items}
use Rattle.viable_prefixes.specs.declared.goal.Goal.{Goal}
use Rattle.viable_prefixes.specs.declared.goal.Goal.TheVariants as goal
use Rattle.viable_prefixes.specs.Inside.Token.{is_sign}
use Rattle.viable_prefixes.specs.Inside.Stack.{Stack, when, further}
use Rattle.viable_prefixes.specs.Inside.Goals.{may_end, moved, accepts, accepts_behind}
use Rattle.viable_prefixes.proofs.Follows.{goes, sign_first}
use Rattle.viable_prefixes.proofs.StepFollows.{Leaves, leaves_on, leaves_more, either_leaves, goes_nowhere, goes_leaving, behind_below}

-- a goal goes the way of a reader on at most so many tokens, and the reader leaves less than it is given
pub record Follows {A : Type 0} (each : Goal) (one : List Tok → Read A) (most : ℕ) : Type 0 where
  pub same : (ts : List Tok) (stack : Stack) → length ts ≤ most → accepts (each ∷ stack) ts ≡ goes (one ts) stack
  pub less : (ts : List Tok) → Leaves (one ts) (length ts)

-- behind an item: a comma, one more item and this goal again, or what stands behind the list
pub record GoesOn (each again : Goal) (stack other : Stack) : Type 0 where
  pub same : (ts : List Tok) → accepts (again ∷ stack) ts ≡ (if begins sign.Comma ts then accepts (each ∷ again ∷ stack) (behind ts) else accepts other ts)

-- behind an item
next_leaves : {A : Type 0} (further : List Tok → Read (List A)) (found : List A) (rest : List Tok) (m : ℕ) → length rest < m
    → ((ts : List Tok) → Leaves (further ts) (length ts)) → Leaves (next_item further found rest) m
next_leaves further found rest m below again =
    either_leaves (begins sign.Comma rest) (further (behind rest)) (Some (found, rest)) m
    (leaves_more (further (behind rest)) (length (behind rest)) m (omega (arith, behind_below rest)) (again (behind rest))) below

items_from_leave : {A : Type 0} (one : List Tok → Read A) → ((ts : List Tok) → Leaves (one ts) (length ts))
    → (n : ℕ) (found : List A) (ts : List Tok) → Leaves (items_from one n found ts) (length ts)
unfolding items_from
items_from_leave one less zero found ts = tt
items_from_leave one less (suc n) found ts =
    leaves_on (one ts) (λ item rest. next_item (items_from one n (found ++ item ∷ [])) (found ++ item ∷ []) rest) (length ts) (length ts) (less ts)
    (λ item rest below. next_leaves (items_from one n (found ++ item ∷ [])) (found ++ item ∷ []) rest (length ts) below
    (λ ts. items_from_leave one less n (found ++ item ∷ []) ts))

-- items with commas between them leave less than they are read from
pub items_leave : {A : Type 0} (one : List Tok → Read A) → ((ts : List Tok) → Leaves (one ts) (length ts)) → (ts : List Tok) → Leaves (items one ts) (length ts)
unfolding items
items_leave one less ts = items_from_leave one less (length ts) [] ts

-- behind an item its goal goes the way of the reader
next_goes : {A : Type 0} (further : List Tok → Read (List A)) (found : List A) (front : Stack) (other : Stack) (rest : List Tok)
    → (comma : Bool) → (comma ≡ true → accepts front (behind rest) ≡ goes (further (behind rest)) other)
    → (if comma then accepts front (behind rest) else accepts other rest) ≡ goes (if comma then further (behind rest) else Some (found, rest)) other
next_goes further found front other rest true again = again refl
next_goes further found front other rest false again = refl

-- fewer tokens are behind a comma
comma_below : (ts : List Tok) → begins sign.Comma ts ≡ true → length (behind ts) < length ts
comma_below [] comma = absurd cc
comma_below (t ∷ ts) comma = omega arith

module _ {A : Type 0} (each again : Goal) (one : List Tok → Read A) (most : ℕ) (known : Follows each one most)
    (stack other : Stack) (on : GoesOn each again stack other) where
  from_followed : (n : ℕ) (found : List A) (ts : List Tok) → length ts ≤ n → length ts ≤ most
      → accepts (each ∷ again ∷ stack) ts ≡ goes (items_from one n found ts) other
  unfolding items_from
  from_followed zero found ts short fits =
      known.same ts (again ∷ stack) fits ∙ goes_nowhere (one ts) (again ∷ stack) (leaves_more (one ts) (length ts) zero short (known.less ts))
  from_followed (suc n) found ts short fits =
      known.same ts (again ∷ stack) fits
      ∙ goes_leaving (one ts) (λ item rest. next_item (items_from one n (found ++ item ∷ [])) (found ++ item ∷ []) rest) (again ∷ stack) other (length ts) (known.less ts) (λ item rest below.
      on.same rest ∙ next_goes (items_from one n (found ++ item ∷ [])) (found ++ item ∷ []) (each ∷ again ∷ stack) other rest (begins sign.Comma rest) (λ comma.
      from_followed n (found ++ item ∷ []) (behind rest) (omega (arith, comma_below rest comma)) (omega (arith, comma_below rest comma))))

  -- the goals of items with commas between them, at least one, go the way of their reader
  pub items_followed : (ts : List Tok) → length ts ≤ most → accepts (each ∷ again ∷ stack) ts ≡ goes (items one ts) other
  unfolding items
  items_followed ts fits = from_followed (length ts) [] ts (omega arith) fits

further_goes : (each again : Goal) (end : Sign) (t : Tok) (ts : List Tok) (stack : Stack) (is begun : Bool) → is ≡ begun
    → accepts_behind (if is then Some (each ∷ again ∷ stack) else when (is_sign end t) stack) ts
    ≡ (if begun then accepts (each ∷ again ∷ stack) ts else accepts (goal.Sign end ∷ stack) (t ∷ ts))
further_goes each again end t ts stack true true same = refl
further_goes each again end t ts stack false false same = refl
further_goes each again end t ts stack true false same = absurd cc
further_goes each again end t ts stack false true same = absurd cc

ends_behind : (each again : Goal) (end : Sign) (stack : Stack) → may_end again ≡ false
    → ((t : Tok) (stack : Stack) → moved t (again ∷ stack) ≡ further each again end t stack) → (ts : List Tok)
    → accepts (again ∷ stack) ts ≡ (if begins sign.Comma ts then accepts (each ∷ again ∷ stack) (behind ts) else accepts (goal.Sign end ∷ stack) ts)
ends_behind each again end stack needed moves [] = rw needed refl
ends_behind each again end stack needed moves (t ∷ ts) =
    ap (λ came. accepts_behind came ts) (moves t stack)
    ∙ further_goes each again end t ts stack (is_sign sign.Comma t) (begins sign.Comma (t ∷ ts)) (sym (sign_first sign.Comma t ts))

-- behind an item of a list that a sign ends
pub ends_by : (each again : Goal) (end : Sign) (stack : Stack) → may_end again ≡ false
    → ((t : Tok) (stack : Stack) → moved t (again ∷ stack) ≡ further each again end t stack) → GoesOn each again stack (goal.Sign end ∷ stack)
ends_by each again end stack needed moves = record { same = ends_behind each again end stack needed moves }
