-- A log has one replay, or one bad line.
use Rattle.std.proofs.Common.{◌≡◌, ℕ, ◌+◌, inl, inr, List, [], ◌∷◌, ◌++◌, length, refl, sym, ap, subst, ◌∙◌}
use Rattle.std.specs.List.{AllZip}
use Rattle.text_parts.specs.Line.{text_lines}
use Rattle.log_line.specs.Reading.{Reads}
use Rattle.log_line.specs.declared.line.Line.{Line}
use Rattle.log_line.specs.declared.line.Line.TheVariants.{Skip}
use Rattle.scenario.specs.declared.scenario.Epoch.{Epoch}
use Rattle.replay_node.specs.Replay.{EndsUnread, HasNoReading, IsBadLine, LogReads, IsReplay, IsReplayOf, entries_on, requests_from}
use Rattle.replay_node.specs.declared.replay.Replay.{Replay}

-- a line has one reading
abbrev pub OneReading : Type 0
OneReading = (line : List ℕ) (reading other : Line) → Reads line reading → Reads line other → reading ≡ other

lines_read_once : OneReading → (lines : List (List ℕ)) (readings others : List Line) → AllZip Reads lines readings → AllZip Reads lines others → readings ≡ others
lines_read_once one [] [] [] is also = refl
lines_read_once one [] [] (y ∷ others) is also = absurd also
lines_read_once one [] (x ∷ readings) others is also = absurd is
lines_read_once one (line ∷ lines) [] others is also = absurd is
lines_read_once one (line ∷ lines) (x ∷ readings) [] is also = absurd also
lines_read_once one (line ∷ lines) (x ∷ readings) (y ∷ others) is also =
    let first : x ≡ y = one line x y is.0 also.0 in
    let rest = lines_read_once one lines readings others is.1 also.1 in
    (λ i. first i ∷ rest i)

-- a line without a reading is among no lines that are read
unread_among : (lines : List (List ℕ)) (line : List ℕ) (behind : List (List ℕ)) (readings : List Line) → HasNoReading line → AllZip Reads (lines ++ line ∷ behind) readings → ⊥
unread_among [] line behind [] none read = read
unread_among [] line behind (x ∷ readings) none read = none x read.0
unread_among (l ∷ lines) line behind [] none read = read
unread_among (l ∷ lines) line behind (x ∷ readings) none read = unread_among lines line behind readings none read.1

-- the lines before the first that has no reading, and those behind it
record AreApart (lines others behind more : List (List ℕ)) : Type 0 where
  before : lines ≡ others
  after : behind ≡ more

apart_more : (line : List ℕ) (lines others behind more : List (List ℕ)) → AreApart lines others behind more → AreApart (line ∷ lines) (line ∷ others) behind more
apart_more line lines others behind more are = record { before = ap (λ l. line ∷ l) are.before; after = are.after }

first_unread : (lines others : List (List ℕ)) (line other : List ℕ) (behind more : List (List ℕ)) (readings found : List Line) → lines ++ line ∷ behind ≡ others ++ other ∷ more
    → AllZip Reads lines readings → HasNoReading line → AllZip Reads others found → HasNoReading other → AreApart lines others behind more
first_unread [] [] line other behind more readings found same read none seen missing = record { before = refl; after = cc }
first_unread [] (y ∷ others) line other behind more readings [] same read none seen missing = absurd seen
first_unread [] (y ∷ others) line other behind more readings (f ∷ found) same read none seen missing =
    let first : line ≡ y = cc in
    absurd (none f (subst (λ l. Reads l f) (sym first) seen.0))
first_unread (x ∷ lines) [] line other behind more [] found same read none seen missing = absurd read
first_unread (x ∷ lines) [] line other behind more (r ∷ readings) found same read none seen missing =
    let first : x ≡ other = cc in
    absurd (missing r (subst (λ l. Reads l r) first read.0))
first_unread (x ∷ lines) (y ∷ others) line other behind more [] found same read none seen missing = absurd read
first_unread (x ∷ lines) (y ∷ others) line other behind more (r ∷ readings) [] same read none seen missing = absurd seen
first_unread (x ∷ lines) (y ∷ others) line other behind more (r ∷ readings) (f ∷ found) same read none seen missing =
    let first : x ≡ y = cc in
    let rest : lines ++ line ∷ behind ≡ others ++ other ∷ more = cc in
    let apart = first_unread lines others line other behind more readings found rest read.1 none seen.1 missing in
    subst (λ l. AreApart (x ∷ lines) (l ∷ others) behind more) first (apart_more x lines others behind more apart)

-- two unread ends of a log
ends_once : (log : List ℕ) (before others : List Line) → OneReading → EndsUnread log before → EndsUnread log others → before ≡ others
ends_once log before others one is also =
    let same : is.lines ++ is.last ∷ [] ≡ also.lines ++ also.last ∷ [] = sym is.are ∙ also.are in
    let apart = first_unread is.lines also.lines is.last also.last [] [] before others same is.read is.no_reading also.read also.no_reading in
    lines_read_once one also.lines before others (subst (λ l. AllZip Reads l before) apart.before is.read) also.read

-- a log that is read has no unread end
read_or_unread : (log : List ℕ) (readings before : List Line) → AllZip Reads (text_lines log) readings → EndsUnread log before → ⊥
read_or_unread log readings before read ends = unread_among ends.lines ends.last [] readings ends.no_reading (subst (λ l. AllZip Reads l readings) ends.are read)

reads_once : OneReading → (log : List ℕ) (readings others : List Line) → LogReads log readings → LogReads log others → readings ≡ others
reads_once one log readings others (inl is) (inl also) = lines_read_once one (text_lines log) readings others is also
reads_once one log readings others (inl is) (inr (before, ends, end)) = absurd (read_or_unread log readings before is ends)
reads_once one log readings others (inr (before, ends, end)) (inl also) = absurd (read_or_unread log others before also ends)
reads_once one log readings others (inr (before, ends, end)) (inr (more, ends_too, end_too)) = end ∙ ap (λ l. l ++ Skip ∷ []) (ends_once log before more one ends ends_too) ∙ sym end_too

replay_of_once : (interface : List ℕ) (bit : ℕ) (epoch : Epoch) (readings : List Line) (replay other : Replay) → IsReplayOf interface bit epoch readings replay → IsReplayOf interface bit epoch readings other → replay ≡ other
replay_of_once interface bit epoch readings replay other is also =
    let epochs : replay.epoch ≡ other.epoch = is.epoch_is ∙ sym also.epoch_is in
    let passed : replay.skipped ≡ other.skipped = is.skipped_is ∙ sym also.skipped_is in
    let lists : replay.list ≡ other.list = is.list_is ∙ ap (λ e. requests_from bit e 0 (entries_on interface readings)) epochs ∙ sym also.list_is in
    (λ i. record { epoch = epochs i; skipped = passed i; list = lists i })

-- a log has one replay
pub replay_once : OneReading → (log interface : List ℕ) (bit : ℕ) (epoch : Epoch) (replay other : Replay) → IsReplay log interface bit epoch replay → IsReplay log interface bit epoch other → replay ≡ other
replay_once one log interface bit epoch replay other (readings, reads, is) (others, reads_too, also) =
    let same = reads_once one log readings others reads reads_too in
    replay_of_once interface bit epoch others replay other (subst (λ (r : List Line). IsReplayOf interface bit epoch r replay) same is) also

-- a log has one bad line
pub bad_line_once : (log : List ℕ) (number other : ℕ) → IsBadLine log number → IsBadLine log other → number ≡ other
bad_line_once log number other is also =
    let same : is.lines ++ is.line ∷ is.behind ≡ also.lines ++ also.line ∷ also.behind = sym is.are ∙ also.are in
    let apart = first_unread is.lines also.lines is.line also.line is.behind also.behind is.read.0 also.read.0 same is.read.1 is.no_reading also.read.1 also.no_reading in
    is.number_is ∙ ap (λ (l : List (List ℕ)). length l + 1) apart.before ∙ sym also.number_is

-- a log that reads has no bad line
reads_or_bad : (log : List ℕ) (readings : List Line) (number : ℕ) → LogReads log readings → IsBadLine log number → ⊥
reads_or_bad log readings number (inl read) bad = unread_among bad.lines bad.line bad.behind readings bad.no_reading (subst (λ l. AllZip Reads l readings) bad.are read)
reads_or_bad log readings number (inr (before, ends, end)) bad =
    let same : ends.lines ++ ends.last ∷ [] ≡ bad.lines ++ bad.line ∷ bad.behind = sym ends.are ∙ bad.are in
    let apart = first_unread ends.lines bad.lines ends.last bad.line [] bad.behind before bad.read.0 same ends.read ends.no_reading bad.read.1 bad.no_reading in
    let is_end = bad.is_no_end (sym apart.after) in
    let ended = ends.not_ended in
    cc

-- a log with a replay has none
pub replay_or_bad : (log interface : List ℕ) (bit : ℕ) (epoch : Epoch) (replay : Replay) (number : ℕ) → IsReplay log interface bit epoch replay → IsBadLine log number → ⊥
replay_or_bad log interface bit epoch replay number (readings, reads, is) bad = reads_or_bad log readings number reads bad
