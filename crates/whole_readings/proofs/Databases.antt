-- Each text is a database, or a first statement of it is wrong.
use Rattle.std.proofs.Common.{◌≡◌, ◌≤◌, ℕ, zero, suc, Bool, true, false, List, [], ◌∷◌, length, Option, Some, None, inl, inr, refl, arith}
use Rattle.std.specs.Prelude.{◌⊎◌, if◌then◌else◌, not, codes}
use Rattle.std.specs.Bool.{then_some}
use Rattle.std.specs.Str.{bytes_eq}
use Rattle.dbc_statements.specs.Token.{Token, Placed, Word, Number, Quoted, Byte, tokens_of, first_line}
use Rattle.dbc_statements.specs.Statement.{Read, read_then, read_as, word_in, number_bytes, decimal_in, is_byte, quoted_in, is_keyword, keyword_of, keyword_in, big_in, signed_in, float_in, is_multiplexing, receiver_after, may_end, begins_statement, is_word, ends_symbols, line, next, byte, perhaps, all_up_to, up_to_semicolon, message, multiplexing_by, multiplexing, layout, pair, receivers, signal, value_type, other, behind_keyword, statement_at}
use Rattle.dbc_statements.specs.declared.statement.Statement.{Statement}
use Rattle.dbc_reader.specs.Database.{Said, nothing_said, has_owner, after_statement, repeated_line, messages_of, Lead, IsDatabase, IsUnspelled, IsRepeated, IsDatabaseRefusal}
use Rattle.dbc_reader.specs.declared.message.DbcMessage.{DbcMessage}
use Rattle.dbc_reader.specs.declared.refusal.DbcRefusal.TheVariants as refusal

-- ---- no reader leaves more tokens than it was given

-- what is left has at most so many tokens
abbrev LeavesAtMost : {A : Type 0} → ℕ → Read A → Type 0
LeavesAtMost most None = Unit {0}
LeavesAtMost most (Some read) = length read.1 ≤ most

-- so does a reader, wherever there are not more
abbrev IsModest : {A : Type 0} → (List Placed → Read A) → Type 0
IsModest read = (most : ℕ) (tokens : List Placed) → length tokens ≤ most → LeavesAtMost most (read tokens)

then_within : {A B : Type 0} (most : ℕ) (read : Read A) (more : A → List Placed → Read B) → LeavesAtMost most read
    → ((value : A) (tokens : List Placed) → length tokens ≤ most → LeavesAtMost most (more value tokens)) → LeavesAtMost most (read_then read more)
then_within most None more few further = tt
then_within most (Some read) more few further = further read.0 read.1 few

as_within : {A : Type 0} (most : ℕ) (value : Option A) (behind : List Placed) → length behind ≤ most → LeavesAtMost most (read_as value behind)
as_within most None behind few = tt
as_within most (Some value) behind few = few

either : {X : Type 0} (P : X → Type 0) (told : Bool) (one other : X) → P one → P other → P (if told then one else other)
either P true one other is also = is
either P false one other is also = also

fewer : (first : Placed) (behind : List Placed) (most : ℕ) → length (first ∷ behind) ≤ most → length behind ≤ most
fewer first behind most few = omega (arith, few)

line_within : IsModest line
unfolding line
line_within most tokens few = as_within most (first_line tokens) tokens few

next_within : {A : Type 0} (read : Token → Option A) → IsModest (next read)
unfolding next
next_within read most [] few = tt
next_within read most (first ∷ behind) few = as_within most (read first.token) behind (fewer first behind most few)

byte_within : (wanted : ℕ) → IsModest (byte wanted)
unfolding byte
byte_within wanted most tokens few = next_within (λ token. then_some (is_byte wanted token) tt) most tokens few

perhaps_within : (wanted : ℕ) → IsModest (perhaps wanted)
unfolding perhaps
perhaps_within wanted most [] few = few
perhaps_within wanted most (first ∷ behind) few =
    either (LeavesAtMost most) (is_byte wanted first.token) (Some (tt, behind)) (Some (tt, first ∷ behind)) (fewer first behind most few) few

all_up_to_within : (ends belongs : Token → Bool) → IsModest (all_up_to ends belongs)
all_up_to_within ends belongs most [] few = few
all_up_to_within ends belongs most (first ∷ behind) few =
    either (LeavesAtMost most) (ends first.token) (Some (tt, first ∷ behind)) (if belongs first.token then all_up_to ends belongs behind else None) few
    (either (LeavesAtMost most) (belongs first.token) (all_up_to ends belongs behind) None (all_up_to_within ends belongs most behind (fewer first behind most few)) tt)

up_to_semicolon_within : IsModest up_to_semicolon
up_to_semicolon_within most [] few = tt
up_to_semicolon_within most (first ∷ behind) few =
    either (LeavesAtMost most) (is_byte 59 first.token) (Some (tt, behind)) (up_to_semicolon behind) (fewer first behind most few)
    (up_to_semicolon_within most behind (fewer first behind most few))

multiplexed_within : (token : Token) (most : ℕ) (tokens behind : List Placed) → length tokens ≤ most → length behind ≤ most → LeavesAtMost most (multiplexing_by token tokens behind)
multiplexed_within (Word bytes) most tokens behind few less = either (LeavesAtMost most) (is_multiplexing bytes) (Some (tt, behind)) None less tt
multiplexed_within (Number bytes) most tokens behind few less = few
multiplexed_within Quoted most tokens behind few less = few
multiplexed_within (Byte found) most tokens behind few less = few

multiplexing_within : IsModest multiplexing
unfolding multiplexing
multiplexing_within most [] few = few
multiplexing_within most (first ∷ behind) few = multiplexed_within first.token most (first ∷ behind) behind few (fewer first behind most few)

receivers_within : (last : _) → IsModest (receivers last)
receivers_within last most [] few = either (LeavesAtMost most) (may_end last) (Some (tt, [])) None few tt
receivers_within last most (first ∷ behind) few =
    either (LeavesAtMost most) (begins_statement first.token) (if may_end last then Some (tt, first ∷ behind) else None)
    (read_then (read_as (receiver_after last first.token) []) (λ last _. receivers last behind))
    (either (LeavesAtMost most) (may_end last) (Some (tt, first ∷ behind)) None few tt)
    (then_within most (read_as (receiver_after last first.token) []) (λ last _. receivers last behind)
    (as_within most (receiver_after last first.token) [] (omega arith))
    (λ last tokens less. receivers_within last most behind (fewer first behind most few)))

-- ---- statements

layout_within : IsModest layout
unfolding layout
layout_within most tokens few =
    then_within most (next (decimal_in 65535) tokens) _ (next_within (decimal_in 65535) most tokens few) (λ start tokens few.
    then_within most (byte 124 tokens) _ (byte_within 124 most tokens few) (λ _ tokens few.
    then_within most (next (decimal_in 65535) tokens) _ (next_within (decimal_in 65535) most tokens few) (λ len tokens few.
    then_within most (byte 64 tokens) _ (byte_within 64 most tokens few) (λ _ tokens few.
    then_within most (next big_in tokens) _ (next_within big_in most tokens few) (λ big tokens few.
    then_within most (next signed_in tokens) _ (next_within signed_in most tokens few) (λ signed tokens few. few))))))

pair_within : (first between last : ℕ) → IsModest (pair first between last)
unfolding pair
pair_within first between last most tokens few =
    then_within most (byte first tokens) _ (byte_within first most tokens few) (λ _ tokens few.
    then_within most (next number_bytes tokens) _ (next_within number_bytes most tokens few) (λ _ tokens few.
    then_within most (byte between tokens) _ (byte_within between most tokens few) (λ _ tokens few.
    then_within most (next number_bytes tokens) _ (next_within number_bytes most tokens few) (λ _ tokens few. byte_within last most tokens few))))

message_within : IsModest message
unfolding message
message_within most tokens few =
    then_within most (line tokens) _ (line_within most tokens few) (λ id_line tokens few.
    then_within most (next (decimal_in 4294967295) tokens) _ (next_within (decimal_in 4294967295) most tokens few) (λ id tokens few.
    then_within most (line tokens) _ (line_within most tokens few) (λ name_line tokens few.
    then_within most (next word_in tokens) _ (next_within word_in most tokens few) (λ name tokens few.
    then_within most (byte 58 tokens) _ (byte_within 58 most tokens few) (λ _ tokens few.
    then_within most (next (decimal_in 65535) tokens) _ (next_within (decimal_in 65535) most tokens few) (λ len tokens few.
    then_within most (next word_in tokens) _ (next_within word_in most tokens few) (λ _ tokens few. few)))))))

signal_within : IsModest signal
unfolding signal
signal_within most tokens few =
    then_within most (line tokens) _ (line_within most tokens few) (λ line tokens few.
    then_within most (next word_in tokens) _ (next_within word_in most tokens few) (λ name tokens few.
    then_within most (multiplexing tokens) _ (multiplexing_within most tokens few) (λ _ tokens few.
    then_within most (byte 58 tokens) _ (byte_within 58 most tokens few) (λ _ tokens few.
    then_within most (layout tokens) _ (layout_within most tokens few) (λ layout tokens few.
    then_within most (pair 40 44 41 tokens) _ (pair_within 40 44 41 most tokens few) (λ _ tokens few.
    then_within most (pair 91 124 93 tokens) _ (pair_within 91 124 93 most tokens few) (λ _ tokens few.
    then_within most (next quoted_in tokens) _ (next_within quoted_in most tokens few) (λ _ tokens few.
    then_within most _ _ (receivers_within _ most tokens few) (λ _ tokens few. few)))))))))

value_type_within : IsModest value_type
unfolding value_type
value_type_within most tokens few =
    then_within most (next (decimal_in 4294967295) tokens) _ (next_within (decimal_in 4294967295) most tokens few) (λ id tokens few.
    then_within most (next word_in tokens) _ (next_within word_in most tokens few) (λ name tokens few.
    then_within most (perhaps 58 tokens) _ (perhaps_within 58 most tokens few) (λ _ tokens few.
    then_within most (next float_in tokens) _ (next_within float_in most tokens few) (λ float tokens few.
    then_within most (byte 59 tokens) _ (byte_within 59 most tokens few) (λ _ tokens few. few)))))

other_within : (most : ℕ) (read : Read (Unit {0})) → LeavesAtMost most read → LeavesAtMost most (other read)
other_within most read within = then_within most read _ within (λ _ tokens few. few)

after_byte : (most wanted : ℕ) (read : List Placed → Read (Unit {0})) → IsModest read → (tokens : List Placed) → length tokens ≤ most
    → LeavesAtMost most (other (read_then (byte wanted tokens) (λ _. read)))
after_byte most wanted read modest tokens few =
    other_within most _ (then_within most (byte wanted tokens) _ (byte_within wanted most tokens few) (λ _ tokens few. modest most tokens few))

-- what stands behind the keyword of these bytes
behind_word : (inside : Bool) (bytes : List ℕ) (most : ℕ) (tokens : List Placed) → length tokens ≤ most
    → LeavesAtMost most (read_then (read_as (keyword_of bytes) tokens) (behind_keyword inside))
unfolding behind_keyword
behind_word inside bytes most tokens few =
    either (λ k. LeavesAtMost most (read_then (read_as k tokens) (behind_keyword inside))) (not (is_keyword bytes)) _ _ tt
    (either (λ k. LeavesAtMost most (read_then (read_as k tokens) (behind_keyword inside))) (bytes_eq bytes (codes "VERSION")) _ _
    (other_within most (next quoted_in tokens) (next_within quoted_in most tokens few))
    (either (λ k. LeavesAtMost most (read_then (read_as k tokens) (behind_keyword inside))) (bytes_eq bytes (codes "NS_")) _ _
    (after_byte most 58 (all_up_to ends_symbols is_word) (all_up_to_within ends_symbols is_word) tokens few)
    (either (λ k. LeavesAtMost most (read_then (read_as k tokens) (behind_keyword inside))) (bytes_eq bytes (codes "BS_")) _ _
    (after_byte most 58 (all_up_to begins_statement (λ token. true)) (all_up_to_within begins_statement (λ token. true)) tokens few)
    (either (λ k. LeavesAtMost most (read_then (read_as k tokens) (behind_keyword inside))) (bytes_eq bytes (codes "BU_")) _ _
    (after_byte most 58 (all_up_to begins_statement is_word) (all_up_to_within begins_statement is_word) tokens few)
    (either (λ k. LeavesAtMost most (read_then (read_as k tokens) (behind_keyword inside))) (bytes_eq bytes (codes "BO_")) _ _
    (message_within most tokens few)
    (either (λ k. LeavesAtMost most (read_then (read_as k tokens) (behind_keyword inside))) (bytes_eq bytes (codes "SG_")) _ _
    (either (LeavesAtMost most) inside (signal tokens) None (signal_within most tokens few) tt)
    (either (λ k. LeavesAtMost most (read_then (read_as k tokens) (behind_keyword inside))) (bytes_eq bytes (codes "SIG_VALTYPE_")) _ _
    (value_type_within most tokens few) (other_within most (up_to_semicolon tokens) (up_to_semicolon_within most tokens few)))))))))

behind_token : (inside : Bool) (token : Token) (most : ℕ) (tokens : List Placed) → length tokens ≤ most
    → LeavesAtMost most (read_then (read_as (keyword_in token) tokens) (behind_keyword inside))
behind_token inside (Word bytes) most tokens few = behind_word inside bytes most tokens few
behind_token inside (Number bytes) most tokens few = tt
behind_token inside Quoted most tokens few = tt
behind_token inside (Byte found) most tokens few = tt

-- a statement takes a token at least
statement_within : (inside : Bool) (first : Placed) (tokens : List Placed) → LeavesAtMost (length tokens) (statement_at inside (first ∷ tokens))
unfolding statement_at next
statement_within inside first tokens = behind_token inside first.token (length tokens) tokens (omega arith)

-- ---- statements one after another

-- how the statements of some tokens end, behind what is said: with the last token, or with a wrong one
abbrev HasStatements : Said → List Placed → Type 0
HasStatements said tokens = (statements : List Statement) × (after : Said) × Lead said tokens statements after []

abbrev IsWrongIn : (Said → List Placed → Type 0) → Said → List Placed → Type 0
IsWrongIn Wrong said tokens =
    (statements : List Statement) × (after : Said) × (rest : List Placed) × Lead said tokens statements after rest × Wrong after rest

abbrev HasOutcome : Said → List Placed → Type 0
HasOutcome said tokens =
    HasStatements said tokens ⊎ ((line : ℕ) × IsWrongIn (IsUnspelled line) said tokens) ⊎ ((line : ℕ) × IsWrongIn (IsRepeated line) said tokens)

one_more : (said : Said) (tokens behind : List Placed) (st : Statement) → statement_at (has_owner said.owner) tokens ≡ Some (st, behind) → repeated_line said st ≡ None
    → HasOutcome (after_statement said st) behind → HasOutcome said tokens
one_more said tokens behind st reads new (inl (statements, after, lead)) = inl (st ∷ statements, after, (behind, reads, new, lead))
one_more said tokens behind st reads new (inr (inl (line, (statements, after, rest, lead, wrong)))) =
    inr (inl (line, (st ∷ statements, after, rest, (behind, reads, new, lead), wrong)))
one_more said tokens behind st reads new (inr (inr (line, (statements, after, rest, lead, wrong)))) =
    inr (inr (line, (st ∷ statements, after, rest, (behind, reads, new, lead), wrong)))

by_repeated : (said : Said) (tokens behind : List Placed) (st : Statement) (again : Option ℕ) → statement_at (has_owner said.owner) tokens ≡ Some (st, behind)
    → repeated_line said st ≡ again → HasOutcome (after_statement said st) behind → HasOutcome said tokens
by_repeated said tokens behind st None reads new rest = one_more said tokens behind st reads new rest
by_repeated said tokens behind st (Some line) reads again rest =
    inr (inr (line, ([], said, tokens, (refl, refl), (st, behind, reads, again))))

by_statement : (most : ℕ) (said : Said) (first : Placed) (tokens : List Placed) (read : Read Statement) → length tokens ≤ most
    → statement_at (has_owner said.owner) (first ∷ tokens) ≡ read → LeavesAtMost (length tokens) read
    → ((next : Said) (behind : List Placed) → length behind ≤ most → HasOutcome next behind) → HasOutcome said (first ∷ tokens)
by_statement most said first tokens None few reads within further =
    inr (inl (first.line, ([], said, first ∷ tokens, (refl, refl), (reads, refl))))
by_statement most said first tokens (Some (st, behind)) few reads within further =
    by_repeated said (first ∷ tokens) behind st (repeated_line said st) reads refl (further (after_statement said st) behind (omega (arith, within, few)))

outcome_of : (most : ℕ) (said : Said) (tokens : List Placed) → length tokens ≤ most → HasOutcome said tokens
outcome_of most said [] few = inl ([], said, (refl, refl))
outcome_of zero said (first ∷ tokens) few = absurd (omega (arith, few))
outcome_of (suc most) said (first ∷ tokens) few =
    by_statement most said first tokens (statement_at (has_owner said.owner) (first ∷ tokens)) (omega (arith, few)) refl
    (statement_within (has_owner said.owner) first tokens) (λ next behind less. outcome_of most next behind less)

-- each text is a database, or a statement has no spelling, or one gives a name or an identifier again
abbrev IsAny : List ℕ → Type 0
IsAny text =
    ((messages : List DbcMessage) × IsDatabase text messages)
    ⊎ ((line : ℕ) × IsDatabaseRefusal text (refusal.Text line)) ⊎ ((line : ℕ) × IsDatabaseRefusal text (refusal.Twice line))

of_text : (text : List ℕ) → HasOutcome nothing_said (tokens_of text) → IsAny text
of_text text (inl (statements, after, lead)) = inl (messages_of after, (statements, after, lead, refl))
of_text text (inr (inl wrong)) = inr (inl wrong)
of_text text (inr (inr wrong)) = inr (inr wrong)

-- each text is one of these
pub database_or_refusal : (text : List ℕ) → IsAny text
database_or_refusal text = of_text text (outcome_of (length (tokens_of text)) nothing_said (tokens_of text) (omega arith))
