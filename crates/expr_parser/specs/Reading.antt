-- What is read from the front of tokens, and what is left behind it.
--
-- A reader is a total function of the tokens: it gives what they begin with, and the tokens behind it, or
-- nothing. So tokens are read in one way only.
use Rattle.std.specs.Prelude.{◌≡◌, ℕ, zero, suc, Bool, false, if◌then◌else◌, List, [], ◌∷◌, ◌++◌, length, Option, Some, None, Result, Ok, Err, ⊤}
use denote.Enum.Bare.{sameb}
use Rattle.capl_lexer.specs.declared.token.Tok.{Tok}
use Rattle.capl_lexer.specs.declared.token.Tok.TheVariants as tok
use Rattle.capl_lexer.specs.declared.token.Word.{Word}
use Rattle.capl_lexer.specs.declared.token.Sign.{Sign}
use Rattle.capl_lexer.specs.declared.token.Sign.TheVariants as sign
use Rattle.capl_lexer.specs.contracts.token.Sign as signs
use Rattle.capl_lexer.specs.contracts.token.Word as words
use Rattle.expr_parser.specs.declared.refusal.Refusal.{Refusal}
use Rattle.expr_parser.specs.declared.refusal.Refusal.TheVariants as refusal

-- what was read, and the tokens behind it
abbrev pub Read : Type 0 → Type 0
Read A = Option (A × List Tok)

-- what is read behind what was read first
abbrev pub and_then : {A B : Type 0} → Read A → (A → List Tok → Read B) → Read B
and_then None next = None
and_then (Some first) next = next first.0 first.1

-- whether two signs are one
abbrev pub same_sign : Sign → Sign → Bool
same_sign = sameb signs.the_type

-- whether two words are one
abbrev pub same_word : Word → Word → Bool
same_word = sameb words.the_type

-- whether this sign is the next token
abbrev pub begins : Sign → List Tok → Bool
begins wanted (tok.Sign found ∷ ts) = same_sign found wanted
begins wanted _ = false

-- whether this word is the next token
abbrev pub begins_word : Word → List Tok → Bool
begins_word wanted (tok.Word found ∷ ts) = same_word found wanted
begins_word wanted _ = false

-- the tokens behind the next
abbrev pub behind : List Tok → List Tok
behind [] = []
behind (first ∷ ts) = ts

-- this sign, which has to be the next token
unfoldable pub after : Sign → List Tok → Read (Unit {0})
after wanted ts = if begins wanted ts then Some (tt, behind ts) else None

-- this word, which has to be the next token
unfoldable pub after_word : Word → List Tok → Read (Unit {0})
after_word wanted ts = if begins_word wanted ts then Some (tt, behind ts) else None

-- behind an item: a comma and further items, or the end
abbrev pub next_item : {A : Type 0} → (List Tok → Read (List A)) → List A → List Tok → Read (List A)
next_item further found ts = if begins sign.Comma ts then further (behind ts) else Some (found, ts)

-- items with commas between them, behind those that were found; the number bounds them
unfoldable pub items_from : {A : Type 0} → (List Tok → Read A) → ℕ → List A → List Tok → Read (List A)
items_from one zero found ts = None
items_from one (suc n) found ts =
    and_then (one ts) (λ item rest.
    next_item (items_from one n (found ++ item ∷ [])) (found ++ item ∷ []) rest)

-- items with commas between them, at least one
unfoldable pub items : {A : Type 0} → (List Tok → Read A) → List Tok → Read (List A)
items one ts = items_from one (length ts) [] ts

-- What a call that reads answers: what its reader gives, and the cursor then has the tokens behind it. It
-- refuses exactly where the reader gives nothing, if there is memory.
abbrev pub Gives : {A : Type 0} → Read A → Result A Refusal → List Tok → Type 0
Gives read (Ok value) left = read ≡ Some (value, left)
Gives read (Err refusal.NotSpelled) left = read ≡ None
Gives read (Err refusal.NoMemory) left = ⊤
