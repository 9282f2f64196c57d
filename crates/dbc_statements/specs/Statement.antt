-- The statements of a database's text: how each is spelled in tokens (the DBC file format's keywords).
-- This project's own: what ends an open list, that a statement with any other keyword goes on to its
-- `;`, and that identifiers, starts and lengths are decimal digits.
use Rattle.std.specs.Prelude.{ℕ, Bool, true, false, ◌&&◌, ◌||◌, not, ◌==◌, nat_le, nat_eq, if◌then◌else◌, List, [], ◌∷◌, drop, Option, Some, None, is_some, codes}
use Rattle.std.specs.Bool.{then_some}
use Rattle.std.specs.List.{prefix_len, list_all, ends_with}
use Rattle.std.specs.Str.{bytes_eq}
use Rattle.text_parts.specs.Number.{is_digit, number_up_to}
use Rattle.signal_codec.specs.declared.layout.Layout.{Layout}
use Rattle.dbc_statements.specs.Token.{Token, Placed, Word, Number, Quoted, Byte, begins_with, first_line}
use Rattle.dbc_statements.specs.declared.keyword.Keyword.{Keyword}
use Rattle.dbc_statements.specs.declared.keyword.Keyword.TheVariants as key
use Rattle.dbc_statements.specs.declared.receivers.Before.{Before}
use Rattle.dbc_statements.specs.declared.receivers.Before.TheVariants as before
use Rattle.dbc_statements.specs.declared.statement.Statement.{Statement}
use Rattle.dbc_statements.specs.declared.statement.Statement.TheVariants as statement

-- what was read at the front, and the tokens behind it; None where it is not spelled there
abbrev pub Read : Type 0 → Type 0
Read A = Option (A × List Placed)

-- what is read, and then behind it what depends on it
abbrev pub read_then : {A B : Type 0} → Read A → (A → List Placed → Read B) → Read B
read_then None more = None
read_then (Some read) more = more read.0 read.1

-- a value behind which these tokens stand, if there is one
abbrev pub read_as : {A : Type 0} → Option A → List Placed → Read A
read_as None behind = None
read_as (Some value) behind = Some (value, behind)

-- the bytes of a word
abbrev pub word_in : Token → Option (List ℕ)
word_in (Word bytes) = Some bytes
word_in _ = None

-- the bytes of a number
abbrev pub number_bytes : Token → Option (List ℕ)
number_bytes (Number bytes) = Some bytes
number_bytes _ = None

-- decimal digits of a number up to a limit
abbrev pub decimal_in : ℕ → Token → Option ℕ
decimal_in limit (Number bytes) = number_up_to limit bytes
decimal_in limit _ = None

-- whether it is this byte
abbrev pub is_byte : ℕ → Token → Bool
is_byte byte (Byte found) = found == byte
is_byte byte _ = false

-- the line of the next token
unfoldable pub line : List Placed → Read ℕ
line tokens = read_as (first_line tokens) tokens

-- what the next token is read as
unfoldable pub next : {A : Type 0} → (Token → Option A) → List Placed → Read A
next read [] = None
next read (first ∷ behind) = read_as (read first.token) behind

-- this byte
unfoldable pub byte : ℕ → List Placed → Read (Unit {0})
byte wanted tokens = next (λ token. then_some (is_byte wanted token) tt) tokens

-- this byte, or nothing
unfoldable pub perhaps : ℕ → List Placed → Read (Unit {0})
perhaps wanted [] = Some (tt, [])
perhaps wanted (first ∷ behind) =
    if is_byte wanted first.token then Some (tt, behind) else Some (tt, first ∷ behind)

-- a string, of which nothing is kept
abbrev pub quoted_in : Token → Option (Unit {0})
quoted_in Quoted = Some tt
quoted_in _ = None

-- A to Z or `_`
abbrev pub is_upper : ℕ → Bool
is_upper byte = nat_le 65 byte && nat_le byte 90 || byte == 95

-- `VERSION`, or upper-case letters and `_` with a `_` at the end
abbrev pub is_keyword : List ℕ → Bool
is_keyword bytes =
    bytes_eq bytes (codes "VERSION") || ends_with nat_eq bytes (codes "_") && list_all is_upper bytes

-- the keyword of these bytes, if they are one
abbrev pub keyword_of : List ℕ → Option Keyword
keyword_of bytes =
    if not (is_keyword bytes) then None
    else if bytes_eq bytes (codes "VERSION") then Some key.Version
    else if bytes_eq bytes (codes "NS_") then Some key.NewSymbols
    else if bytes_eq bytes (codes "BS_") then Some key.BitTiming
    else if bytes_eq bytes (codes "BU_") then Some key.Nodes
    else if bytes_eq bytes (codes "BO_") then Some key.Message
    else if bytes_eq bytes (codes "SG_") then Some key.Signal
    else if bytes_eq bytes (codes "SIG_VALTYPE_") then Some key.ValueType
    else Some key.Other

-- the keyword of a word
abbrev pub keyword_in : Token → Option Keyword
keyword_in (Word bytes) = keyword_of bytes
keyword_in _ = None

-- whether it is a keyword
abbrev pub begins_statement : Token → Bool
begins_statement token = is_some (keyword_in token)

-- whether it is a word
abbrev pub is_word : Token → Bool
is_word token = is_some (word_in token)

-- tokens of one sort up to the next that ends them, or the end
abbrev pub all_up_to : (Token → Bool) → (Token → Bool) → List Placed → Read (Unit {0})
all_up_to ends belongs [] = Some (tt, [])
all_up_to ends belongs (first ∷ behind) =
    if ends first.token then Some (tt, first ∷ behind)
    else if belongs first.token then all_up_to ends belongs behind
    else None

-- whether it is one of the keywords before which a list of new symbols ends
abbrev pub ends_symbols : Token → Bool
ends_symbols (Word bytes) =
    bytes_eq bytes (codes "BS_") || bytes_eq bytes (codes "BU_") || bytes_eq bytes (codes "BO_")
ends_symbols _ = false

-- tokens up to and with the next `;`
abbrev pub up_to_semicolon : List Placed → Read (Unit {0})
up_to_semicolon [] = None
up_to_semicolon (first ∷ behind) =
    if is_byte 59 first.token then Some (tt, behind) else up_to_semicolon behind

-- a message: its identifier, its name, `:`, its length and its sender
unfoldable pub message : List Placed → Read Statement
message tokens =
    read_then (line tokens) (λ id_line tokens. read_then (next (decimal_in 4294967295) tokens) (λ id tokens.
    read_then (line tokens) (λ name_line tokens. read_then (next word_in tokens) (λ name tokens.
    read_then (byte 58 tokens) (λ _ tokens. read_then (next (decimal_in 65535) tokens) (λ len tokens.
    read_then (next word_in tokens) (λ _ tokens.
    Some (statement.Message id id_line name name_line len, tokens))))))))

-- whether these are digits and then perhaps an `M`
abbrev pub is_multiplexed_number : List ℕ → Bool
is_multiplexed_number bytes =
    let digits = prefix_len is_digit bytes in
    not (digits == 0) && (bytes_eq (drop digits bytes) [] || bytes_eq (drop digits bytes) (codes "M"))

-- `M`, or `m` with a number and then perhaps an `M`
abbrev pub is_multiplexing : List ℕ → Bool
is_multiplexing bytes =
    bytes_eq bytes (codes "M") || begins_with 109 bytes && is_multiplexed_number (drop 1 bytes)

-- such a word, or none
abbrev pub multiplexing_by : Token → List Placed → List Placed → Read (Unit {0})
multiplexing_by (Word bytes) tokens behind = if is_multiplexing bytes then Some (tt, behind) else None
multiplexing_by _ tokens behind = Some (tt, tokens)

-- how a signal is multiplexed, or nothing
unfoldable pub multiplexing : List Placed → Read (Unit {0})
multiplexing [] = Some (tt, [])
multiplexing (first ∷ behind) = multiplexing_by first.token (first ∷ behind) behind

-- whether the order is big-endian: 0, or not: 1
abbrev pub big_in : Token → Option Bool
big_in (Number bytes) =
    if bytes_eq bytes (codes "0") then Some true
    else if bytes_eq bytes (codes "1") then Some false
    else None
big_in _ = None

-- whether the signal is signed: `-`, or not: `+`
abbrev pub signed_in : Token → Option Bool
signed_in (Byte found) = if found == 45 then Some true else if found == 43 then Some false else None
signed_in _ = None

-- a layout: start, `|`, length, `@`, order and sign
unfoldable pub layout : List Placed → Read Layout
layout tokens =
    read_then (next (decimal_in 65535) tokens) (λ start tokens. read_then (byte 124 tokens) (λ _ tokens.
    read_then (next (decimal_in 65535) tokens) (λ len tokens. read_then (byte 64 tokens) (λ _ tokens.
    read_then (next big_in tokens) (λ big tokens. read_then (next signed_in tokens) (λ signed tokens.
    Some (record { start = start; len = len; big = big; signed = signed }, tokens)))))))

-- two numbers between these bytes
unfoldable pub pair : ℕ → ℕ → ℕ → List Placed → Read (Unit {0})
pair first between last tokens =
    read_then (byte first tokens) (λ _ tokens. read_then (next number_bytes tokens) (λ _ tokens.
    read_then (byte between tokens) (λ _ tokens. read_then (next number_bytes tokens) (λ _. byte last))))

-- what a receivers' list has before its next part: a word, or a `,` behind a word
abbrev pub receiver_after : Before → Token → Option Before
receiver_after behind (Word bytes) = Some before.Word
receiver_after before.Word (Byte found) = if found == 44 then Some before.Comma else None
receiver_after _ _ = None

-- whether a receivers' list may end
abbrev pub may_end : Before → Bool
may_end before.Comma = false
may_end _ = true

-- words up to the next keyword or the end, between two of which perhaps a `,` stands
abbrev pub receivers : Before → List Placed → Read (Unit {0})
receivers last [] = if may_end last then Some (tt, []) else None
receivers last (first ∷ behind) =
    if begins_statement first.token then (if may_end last then Some (tt, first ∷ behind) else None)
    else read_then (read_as (receiver_after last first.token) []) (λ last _. receivers last behind)

-- a signal: name, perhaps how it is multiplexed, `:`, layout, `(` factor `,` offset `)`, `[` least `|`
-- greatest `]`, unit and receivers
unfoldable pub signal : List Placed → Read Statement
signal tokens =
    read_then (line tokens) (λ line tokens. read_then (next word_in tokens) (λ name tokens.
    read_then (multiplexing tokens) (λ _ tokens. read_then (byte 58 tokens) (λ _ tokens.
    read_then (layout tokens) (λ layout tokens. read_then (pair 40 44 41 tokens) (λ _ tokens.
    read_then (pair 91 124 93 tokens) (λ _ tokens. read_then (next quoted_in tokens) (λ _ tokens.
    read_then (receivers before.Nothing tokens) (λ _ tokens.
    Some (statement.Signal name layout line, tokens))))))))))

-- whether a value type is a float's: 1 and 2, or not: 0 and 3
abbrev pub float_in : Token → Option Bool
float_in (Number bytes) =
    if bytes_eq bytes (codes "1") || bytes_eq bytes (codes "2") then Some true
    else if bytes_eq bytes (codes "0") || bytes_eq bytes (codes "3") then Some false
    else None
float_in _ = None

-- a signal's value type: the message's identifier, the signal's name, perhaps `:`, the type and `;`
unfoldable pub value_type : List Placed → Read Statement
value_type tokens =
    read_then (next (decimal_in 4294967295) tokens) (λ id tokens.
    read_then (next word_in tokens) (λ name tokens. read_then (perhaps 58 tokens) (λ _ tokens.
    read_then (next float_in tokens) (λ float tokens. read_then (byte 59 tokens) (λ _ tokens.
    Some (if float then statement.Float (record { id = id; name = name }) else statement.Other, tokens))))))

-- nothing is kept of it
abbrev pub other : Read (Unit {0}) → Read Statement
other read = read_then read (λ _ tokens. Some (statement.Other, tokens))

-- what stands behind each keyword; a signal stands only where a message stood before
unfoldable pub behind_keyword : Bool → Keyword → List Placed → Read Statement
behind_keyword inside key.Version tokens = other (next quoted_in tokens)
behind_keyword inside key.NewSymbols tokens =
    other (read_then (byte 58 tokens) (λ _. all_up_to ends_symbols is_word))
behind_keyword inside key.BitTiming tokens =
    other (read_then (byte 58 tokens) (λ _. all_up_to begins_statement (λ token. true)))
behind_keyword inside key.Nodes tokens =
    other (read_then (byte 58 tokens) (λ _. all_up_to begins_statement is_word))
behind_keyword inside key.Message tokens = message tokens
behind_keyword inside key.Signal tokens = if inside then signal tokens else None
behind_keyword inside key.ValueType tokens = value_type tokens
behind_keyword inside key.Other tokens = other (up_to_semicolon tokens)

-- a statement: a keyword and what stands behind it
unfoldable pub statement_at : Bool → List Placed → Read Statement
statement_at inside tokens =
    read_then (next keyword_in tokens) (behind_keyword inside)
