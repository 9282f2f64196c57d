-- What the lines of a well spaced log read as.
use Rattle.std.proofs.Common.{◌≡◌, ℕ, ◌^◌, ◌<◌, ◌≤◌, true, false, cond, List, [], ◌∷◌, ◌++◌, map, refl, sym, ap, subst, ◌∙◌, inl, inr, arith, append_assoc}
use Rattle.std.specs.Prelude.{All, codes, decimal, ◌==◌}
use Rattle.std.specs.List.{AllZip, onto_first}
use Rattle.std.specs.Str.{bytes_eq}
use Rattle.std.proofs.lemmas.Bool.Decides.{nat_tests}
use Rattle.std.proofs.lemmas.Slice.Eq.{bytes_eq-Decides}
use Rattle.std.proofs.lemmas.List.Elements.{All-nil, All-cons, All-head, All-tail, All-append, All-weaker}
use Rattle.text_parts.specs.Number.{zero_filled, IsDigit, IsHexDigit}
use Rattle.text_parts.specs.Line.{text_lines}
use Rattle.text_parts.proofs.NumeralLemmas.{numeral_is}
use Rattle.can_frame.specs.Frame.{FrameFields}
use Rattle.log_line.specs.Reading.{IsInterface, IsPrintable, Reads}
use Rattle.log_line.specs.Written.{IsLoggable, data_text, entry_text, ident_text, stamp_text}
use Rattle.log_line.specs.declared.line.Entry as declared
use Rattle.log_line.specs.declared.line.Line.{Line}
use Rattle.log_line.specs.declared.line.Line.TheVariants.{Entry}
use Rattle.log_line.proofs.OneReading.{IsDataByte, data_in}
use Rattle.log_line.proofs.WrittenLemmas.{frame_written}
use Rattle.replay_node.specs.Replay.{LogReads, entries_on, entry_on}
use Rattle.replay_node.specs.Spaced.{lines_written}
use Rattle.replay_laws.proofs.Entries.{IsWithin}

-- ---- a line has no line feed

-- each byte is a blank or above it
abbrev Shown : List ℕ → Type 0
Shown bytes = All (λ byte. 32 ≤ byte) bytes

one_shown : (byte : ℕ) → 32 ≤ byte → Shown (byte ∷ [])
one_shown byte above = All-cons (λ b. 32 ≤ b) byte [] above (All-nil (λ b. 32 ≤ b))

both_shown : (xs ys : List ℕ) → Shown xs → Shown ys → Shown (xs ++ ys)
both_shown xs ys = All-append (λ b. 32 ≤ b) xs ys

digits_shown : (digits : List ℕ) → All IsDigit digits → Shown digits
digits_shown digits all = All-weaker IsDigit (λ byte. 32 ≤ byte) (λ byte is. omega (arith, is)) digits all

hexes_shown : (digits : List ℕ) → All IsHexDigit digits → Shown digits
hexes_shown digits all = All-weaker IsHexDigit (λ byte. 32 ≤ byte) (λ byte is. grind (arith, is)) digits all

data_shown : (bytes : List ℕ) → All IsDataByte bytes → Shown bytes
data_shown bytes all = All-weaker IsDataByte (λ byte. 32 ≤ byte) (λ byte is. grind (arith, is)) bytes all

stamp_shown : (seconds micros : ℕ) → seconds < 10 ^ 15 → micros < 10 ^ 6 → Shown (stamp_text seconds micros)
stamp_shown seconds micros few below =
    let whole = numeral_is 10 seconds (omega arith) (omega (arith, few)) in
    let fraction = numeral_is 6 micros (omega arith) (omega (arith, below)) in
    both_shown (zero_filled 10 (decimal seconds) ++ codes ".") (zero_filled 6 (decimal micros))
    (both_shown (zero_filled 10 (decimal seconds)) (codes ".") (digits_shown (zero_filled 10 (decimal seconds)) whole.decimal) (one_shown 46 (omega arith)))
    (digits_shown (zero_filled 6 (decimal micros)) fraction.decimal)

frame_shown : (frame : FrameFields) → IsLoggable frame → Shown (ident_text frame.ident ++ data_text frame)
frame_shown frame loggable =
    let spells = frame_written frame loggable in
    subst Shown (sym spells.spelled)
    (both_shown (spells.digits ++ codes "#") spells.behind (both_shown spells.digits (codes "#") (hexes_shown spells.digits (spells.ident).hexadecimal) (one_shown 35 (omega arith)))
    (data_shown spells.behind (data_in spells.behind frame.remote frame.dlc frame.payload spells.carries)))

text_shown : (seconds micros : ℕ) (interface : List ℕ) (frame : FrameFields) → seconds < 10 ^ 15 → micros < 10 ^ 6 → IsInterface interface → IsLoggable frame
    → Shown (entry_text seconds micros interface frame)
text_shown seconds micros interface frame few below name loggable =
    let stamp = stamp_text seconds micros in
    let front = codes "(" ++ stamp ++ codes ") " ++ interface ++ codes " " in
    let printable : Shown interface = All-weaker IsPrintable (λ byte. 32 ≤ byte) (λ byte is. let low = is.0 in omega (arith, low)) interface name.printable in
    let shown : Shown front =
    both_shown (codes "(" ++ stamp ++ codes ") " ++ interface) (codes " ")
    (both_shown (codes "(" ++ stamp ++ codes ") ") interface
    (both_shown (codes "(" ++ stamp) (codes ") ") (both_shown (codes "(") stamp (one_shown 40 (omega arith)) (stamp_shown seconds micros few below))
    (both_shown (41 ∷ []) (32 ∷ []) (one_shown 41 (omega arith)) (one_shown 32 (omega arith)))) printable)
    (one_shown 32 (omega arith)) in
    subst Shown (sym (append_assoc front (ident_text frame.ident) (data_text frame))) (both_shown front (ident_text frame.ident ++ data_text frame) shown (frame_shown frame loggable))

-- ---- the lines of a log

not_feed : (byte : ℕ) → 32 ≤ byte → (byte == 10) ≡ false
not_feed byte above = grind (arith, nat_tests, above)

-- the first line ends at its line feed
first_line : (line rest : List ℕ) → Shown line → text_lines (line ++ 10 ∷ rest) ≡ line ∷ text_lines rest
first_line [] rest shown = refl
first_line (byte ∷ line) rest shown =
    ap (λ b. cond b ([] ∷ text_lines (line ++ 10 ∷ rest)) (onto_first byte (text_lines (line ++ 10 ∷ rest)))) (not_feed byte (All-head (λ b. 32 ≤ b) byte line shown))
    ∙ ap (onto_first byte) (first_line line rest (All-tail (λ b. 32 ≤ b) byte line shown))

-- the text of an entry, without its line end
abbrev pub text_of : declared.Entry → List ℕ
text_of e = entry_text e.seconds e.micros e.interface e.frame

-- what the laws of log lines ask of an entry
abbrev pub CanRead : declared.Entry → Type 0
CanRead e = (e.seconds < 10 ^ 15) × (e.micros < 10 ^ 6) × IsInterface e.interface × IsLoggable e.frame

lines_are : (es : List declared.Entry) → All CanRead es → text_lines (lines_written es) ≡ map text_of es
lines_are [] all = refl
lines_are (e ∷ es) all =
    let can = All-head CanRead e es all in
    ap text_lines (append_assoc (text_of e) (10 ∷ []) (lines_written es)) ∙ first_line (text_of e) (lines_written es) (text_shown e.seconds e.micros e.interface e.frame can.0 can.1 can.2 can.3)
    ∙ ap (λ l. text_of e ∷ l) (lines_are es (All-tail CanRead e es all))

-- an entry of a well spaced log is so, where the epoch and the end moment are in range
pub can_read : (name : List ℕ) (epoch until : ℕ) → epoch < 2 ^ 32 → until < 2 ^ 64 → IsInterface name → (e : declared.Entry) → IsWithin name epoch until e → CanRead e
can_read name epoch until small short is e within =
    let inside = within.inside in
    let micros = within.micros in
    (omega (arith, inside, small, short), omega (arith, micros), subst IsInterface (sym within.interface) is, within.loggable)

-- ---- what they read as

same_bytes : (bytes : List ℕ) → bytes_eq bytes bytes ≡ true
same_bytes bytes = (bytes_eq-Decides bytes bytes).1 refl

module _ (once : (line : List ℕ) (reading other : Line) → Reads line reading → Reads line other → reading ≡ other) (reads : (seconds micros : ℕ) (interface : List ℕ) (frame : FrameFields) →
    seconds < 10 ^ 15 → micros < 10 ^ 6 → IsInterface interface → IsLoggable frame →
    Reads (entry_text seconds micros interface frame) (Entry (record { seconds = seconds; micros = micros; interface = interface; frame = frame }))) where
  of_text : (e : declared.Entry) → CanRead e → Reads (text_of e) (Entry e)
  of_text e can = reads e.seconds e.micros e.interface e.frame can.0 can.1 can.2 can.3

  read_as : (name : List ℕ) (es : List declared.Entry) (readings : List Line) → All CanRead es → All (λ e. e.interface ≡ name) es → AllZip Reads (map text_of es) readings → entries_on name readings ≡ es
  read_as name [] [] all on read = refl
  read_as name [] (reading ∷ readings) all on read = absurd read
  read_as name (e ∷ es) [] all on read = absurd read
  read_as name (e ∷ es) (reading ∷ readings) all on read =
      let is : reading ≡ Entry e = once (text_of e) reading (Entry e) read.0 (of_text e (All-head CanRead e es all)) in
      let own : bytes_eq e.interface name ≡ true = ap (bytes_eq e.interface) (sym (All-head (λ (x : declared.Entry). x.interface ≡ name) e es on)) ∙ same_bytes e.interface in
      ap (λ r. entry_on name r ++ entries_on name readings) is ∙ ap (λ b. cond b (e ∷ []) [] ++ entries_on name readings) own
      ∙ ap (λ l. e ∷ l) (read_as name es readings (All-tail CanRead e es all) (All-tail (λ (x : declared.Entry). x.interface ≡ name) e es on) read.1)

  -- no line is without a reading
  all_have : (es : List declared.Entry) (front : List (List ℕ)) (last : List ℕ) → All CanRead es → map text_of es ≡ front ++ last ∷ [] → ((reading : Line) → Reads last reading → ⊥) → ⊥
  all_have [] [] last all are none = let e = are in cc
  all_have [] (line ∷ front) last all are none = let e = are in cc
  all_have (e ∷ es) [] last all are none =
      let same : text_of e ≡ last = cc in none (Entry e) (subst (λ line. Reads line (Entry e)) same (of_text e (All-head CanRead e es all)))
  all_have (e ∷ es) (line ∷ front) last all are none = let rest : map text_of es ≡ front ++ last ∷ [] = cc in all_have es front last (All-tail CanRead e es all) rest none

  -- a log of lines reads as its entries
  pub log_reads : (name : List ℕ) (es : List declared.Entry) (readings : List Line) → All CanRead es → All (λ e. e.interface ≡ name) es → LogReads (lines_written es) readings → entries_on name readings ≡ es
  log_reads name es readings all on (inl read) = read_as name es readings all on (subst (λ lines. AllZip Reads lines readings) (lines_are es all) read)
  log_reads name es readings all on (inr ends) =
      let unread = ends.1 in absurd (all_have es unread.lines unread.last all (sym (lines_are es all) ∙ unread.are) unread.no_reading)
