-- How far a log is read, and what its lines then read as.
use Rattle.std.proofs.Common.{◌≡◌, ◌≢◌, ℕ, ◌+◌, ◌-◌, ◌<◌, ◌≤◌, ◌⊎◌, inl, inr, Bool, true, false, List, [], ◌∷◌, ◌++◌, length, get_or, refl, sym, ap, subst, ◌∙◌, arith, append_assoc, append-nil, length-append}
use Rattle.std.specs.Prelude.{◌==◌}
use Rattle.std.specs.Bool.{OnFalse}
use Rattle.std.specs.List.{AllZip, onto_first}
use Rattle.std.proofs.lemmas.List.{get_or-append_right}
use Rattle.text_parts.specs.Line.{text_lines, line_end}
use Rattle.log_line.specs.Reading.{Reads}
use Rattle.log_line.specs.declared.line.Line.{Line}
use Rattle.log_line.specs.declared.line.Line.TheVariants.{Skip}
use Rattle.replay_node.specs.Replay.{is_ended, HasNoReading, EndsUnread, IsBadLine, LogReads}

-- one more line that reads
all_read_more : (lines : List (List ℕ)) (readings : List Line) (line : List ℕ) (reading : Line) → AllZip Reads lines readings → Reads line reading → AllZip Reads (lines ++ line ∷ []) (readings ++ reading ∷ [])
all_read_more [] [] line reading read is = (is, tt)
all_read_more [] (r ∷ readings) line reading read is = absurd read
all_read_more (l ∷ lines) [] line reading read is = absurd read
all_read_more (l ∷ lines) (r ∷ readings) line reading read is = (read.0, all_read_more lines readings line reading read.1 is)

-- what stands behind a front ends the text
ended_behind : (front rest : List ℕ) → 0 < length rest → is_ended (front ++ rest) ≡ is_ended rest
ended_behind front rest some =
    let whole = length-append front rest in
    let place : ℕ = length (front ++ rest) - 1 in
    let at : get_or (front ++ rest) place 0 ≡ get_or rest (place - length front) 0 = get_or-append_right front rest (length front) place 0 refl (omega (arith, whole, some)) in
    let same : place - length front ≡ length rest - 1 = omega (arith, whole, some) in
    ap (λ b. b == 10) (at ∙ ap (λ n. get_or rest n 0) same)

-- a line feed at the end ends the text
ended_by : (line : List ℕ) → is_ended (line ++ 10 ∷ []) ≡ true
ended_by line = ended_behind line (10 ∷ []) (omega arith)

-- a byte in front leaves a line
onto_some : (byte : ℕ) (lines : List (List ℕ)) → onto_first byte lines ≡ [] → ⊥
onto_some byte [] none = cc
onto_some byte (line ∷ lines) none = cc

-- a text has a line, by whether its first byte ends one
some_by : (byte : ℕ) (text : List ℕ) (t : Bool) → (byte == 10) ≡ t → text_lines (byte ∷ text) ≡ [] → ⊥
some_by byte text true is none = let e = rw is at none in cc
some_by byte text false is none = onto_some byte (text_lines text) (rw is at none)

-- a text with a byte has a line
some_line : (text : List ℕ) → 0 < length text → text_lines text ≢ []
some_line [] some none = omega (arith, some)
some_line (byte ∷ text) some none = some_by byte text (byte == 10) refl none

-- a text without lines is empty
no_text : (text : List ℕ) → text_lines text ≡ [] → text ≡ []
no_text [] none = refl
no_text (byte ∷ text) none = absurd (some_by byte text (byte == 10) refl none)

-- a first line that goes on
one_onto : (byte : ℕ) (text : List ℕ) (lines : List (List ℕ)) → text_lines text ≡ lines → onto_first byte lines ≡ (byte ∷ text) ∷ [] → (text ≡ []) ⊎ (text_lines text ≡ text ∷ [])
one_onto byte text [] is whole = inl (no_text text is)
one_onto byte text (line ∷ lines) is whole =
    let first : line ≡ text = cc in
    let others : lines ≡ [] = cc in
    inr (is ∙ ap (λ l. l ∷ lines) first ∙ ap (λ ls. text ∷ ls) others)

-- a text that is its only line is not ended, by its rest
only_by : (byte : ℕ) (text : List ℕ) → (byte == 10) ≡ false → (text_lines text ≡ text ∷ [] → is_ended text ≡ false) → (text ≡ []) ⊎ (text_lines text ≡ text ∷ []) → is_ended (byte ∷ text) ≡ false
only_by byte text is again (inl none) = subst (λ t. is_ended (byte ∷ t) ≡ false) (sym none) is
only_by byte [] is again (inr one) = is
only_by byte (c ∷ text) is again (inr one) = ended_behind (byte ∷ []) (c ∷ text) (omega arith) ∙ again one

-- by whether its first byte is a line feed
only_test : (byte : ℕ) (text : List ℕ) (t : Bool) → (byte == 10) ≡ t → (text_lines text ≡ text ∷ [] → is_ended text ≡ false) → text_lines (byte ∷ text) ≡ (byte ∷ text) ∷ [] → is_ended (byte ∷ text) ≡ false
only_test byte text true is again one = absurd (let e = rw is at one in cc)
only_test byte text false is again one = only_by byte text is again (one_onto byte text (text_lines text) refl (rw is at one))

-- a text that is its only line is not ended
only_line : (text : List ℕ) → text_lines text ≡ text ∷ [] → is_ended text ≡ false
only_line [] one = cc
only_line (byte ∷ text) one = only_test byte text (byte == 10) refl (only_line text) one

-- so much of a log is left, after lines that read so
pub record HasRead (log rest : List ℕ) (number : ℕ) (readings : List Line) : Type 0 where
  pub front : List ℕ
  pub lines : List (List ℕ)
  pub text : log ≡ front ++ rest
  pub split : text_lines log ≡ lines ++ text_lines rest
  pub read : AllZip Reads lines readings
  pub count : number ≡ length lines
  pub room : number + length rest ≤ length log

-- nothing is read yet
pub read_nothing : (log : List ℕ) → HasRead log log 0 []
read_nothing log = record { front = []; lines = []; text = refl; split = refl; read = tt; count = refl; room = omega arith }

-- the first line of what is left
pub record IsFirst (rest line : List ℕ) (ended : Bool) (after : List ℕ) : Type 0 where
  pub lines : text_lines rest ≡ line ∷ text_lines after
  pub whole : rest ≡ line ++ line_end ended ++ after
  pub last : OnFalse ended (after ≡ [])
  pub shorter : length after < length rest

-- the lines of the log around it
lines_around : (log rest line after : List ℕ) (lines : List (List ℕ)) → text_lines log ≡ lines ++ text_lines rest → text_lines rest ≡ line ∷ text_lines after → text_lines log ≡ lines ++ line ∷ text_lines after
lines_around log rest line after lines split first = split ∙ ap (λ l. lines ++ l) first

-- one more line that reads
pub read_more : (log rest line after : List ℕ) (ended : Bool) (number : ℕ) (readings : List Line) (reading : Line) → HasRead log rest number readings
    → IsFirst rest line ended after → Reads line reading → HasRead log after (number + 1) (readings ++ reading ∷ [])
read_more log rest line after ended number readings reading has first reads =
    let short = first.shorter in
    let count_is = has.count in
    let room = has.room in
    record {
      front = has.front ++ line ++ line_end ended;
      lines = has.lines ++ line ∷ [];
      text = has.text ∙ ap (λ l. has.front ++ l) first.whole ∙ sym (append_assoc has.front (line ++ line_end ended) after)
          ∙ ap (λ l. l ++ after) (sym (append_assoc has.front line (line_end ended)));
      split = lines_around log rest line after has.lines has.split first.lines ∙ sym (append_assoc has.lines (line ∷ []) (text_lines after));
      read = all_read_more has.lines readings line reading has.read reads;
      count = let more = length-append has.lines (line ∷ []) in omega (arith, more, count_is);
      room = omega (arith, short, room);
    }

ended_bad : (log rest line after : List ℕ) (number : ℕ) (readings : List Line) → HasRead log rest number readings → IsFirst rest line true after
    → HasNoReading line → IsBadLine log (number + 1)
ended_bad log rest line after number readings has first none =
    let count_is = has.count in
    let short = first.shorter in
    record {
      lines = has.lines;
      line = line;
      behind = text_lines after;
      are = lines_around log rest line after has.lines has.split first.lines;
      number_is = omega (arith, count_is);
      read = (readings, has.read);
      no_reading = none;
      is_no_end = λ no_lines.
          let no_more = no_text after no_lines in
          let ends : rest ≡ line ++ 10 ∷ [] = first.whole ∙ ap (λ l. (line ++ 10 ∷ []) ++ l) no_more ∙ append-nil (line ++ 10 ∷ []) in
          ap is_ended has.text ∙ ended_behind has.front rest (omega (arith, short)) ∙ ap is_ended ends ∙ ended_by line;
    }

-- a line without a reading is bad where a line feed ends it
pub bad_line : (log rest line after : List ℕ) (ended : Bool) (number : ℕ) (readings : List Line) → HasRead log rest number readings
    → IsFirst rest line ended after → ended ≡ true → HasNoReading line → IsBadLine log (number + 1)
bad_line log rest line after true number readings has first is none = ended_bad log rest line after number readings has first none
bad_line log rest line after false number readings has first is none = absurd (cc)

no_end : (log rest line after : List ℕ) (number : ℕ) (readings : List Line) → HasRead log rest number readings → IsFirst rest line false after
    → HasNoReading line → EndsUnread log readings
no_end log rest line after number readings has first none =
    let short = first.shorter in
    let no_more = first.last in
    let whole : rest ≡ line = first.whole ∙ ap (λ l. (line ++ []) ++ l) no_more ∙ append-nil (line ++ []) ∙ append-nil line in
    let one : text_lines rest ≡ rest ∷ [] = first.lines ∙ ap (λ l. line ∷ text_lines l) no_more ∙ ap (λ l. l ∷ []) (sym whole) in
    record {
      lines = has.lines;
      last = line;
      are = lines_around log rest line after has.lines has.split first.lines ∙ ap (λ l. has.lines ++ line ∷ text_lines l) no_more;
      read = has.read;
      no_reading = none;
      not_ended = ap is_ended has.text ∙ ended_behind has.front rest (omega (arith, short)) ∙ only_line rest one;
    }

-- and is passed over as the end of the log where none does
pub unread_end : (log rest line after : List ℕ) (ended : Bool) (number : ℕ) (readings : List Line) → HasRead log rest number readings
    → IsFirst rest line ended after → ended ≡ false → HasNoReading line → LogReads log (readings ++ Skip ∷ [])
unread_end log rest line after true number readings has first is none = absurd (cc)
unread_end log rest line after false number readings has first is none = inr (readings, no_end log rest line after number readings has first none, refl)

-- all lines are read
pub read_all : (log rest : List ℕ) (number : ℕ) (readings : List Line) → HasRead log rest number readings → rest ≡ [] → LogReads log readings
read_all log rest number readings has none =
    let same : text_lines log ≡ has.lines = has.split ∙ ap (λ l. has.lines ++ text_lines l) none ∙ append-nil has.lines in
    inl (subst (λ l. AllZip Reads l readings) (sym same) has.read)
