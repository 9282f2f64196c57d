-- The names and the identifiers of a database differ in pairs.
use Rattle.std.proofs.Common.{◌≡◌, ◌≢◌, ℕ, zero, suc, ◌+◌, ◌<◌, ◌≤◌, Bool, true, false, if◌then◌else◌, nat_lt, nat_eq, List, [], ◌∷◌, ◌++◌, map, fold, length, get_or, Some, None, All, AllPairs, refl, sym, ap, subst, ◌∙◌, arith}
use Rattle.std.specs.List.{list_any}
use Rattle.std.specs.Str.{bytes_eq}
use Rattle.std.proofs.lemmas.Bool.{eq-eqb}
use Rattle.std.proofs.lemmas.List.{map-append, length-append, get_or_push, get_or_append_left}
use Rattle.std.proofs.lemmas.List.Folds.{list_any_at}
use Rattle.std.proofs.lemmas.Slice.Eq.{bytes_eq-Decides}
use Rattle.dbc_statements.specs.Token.{Placed, tokens_of}
use Rattle.dbc_reader.specs.Database.{Said, nothing_said, is_independent, signal_names, last_signals, with_further_signal, bare, unmarked, after_signal, after_statement, repeated_signal, repeated_line, change_first, with_float, with_mark, Lead, IsDatabase, AreDistinct}
use Rattle.dbc_statements.specs.declared.statement.Statement.{Statement}
use Rattle.dbc_statements.specs.declared.statement.Statement.TheVariants as statement
use Rattle.dbc_statements.specs.declared.statement.FloatMark.{FloatMark}
use Rattle.dbc_reader.specs.declared.owner.Owner.{Owner}
use Rattle.dbc_reader.specs.declared.owner.Owner.TheVariants as owner
use Rattle.dbc_reader.specs.declared.signals.DbcSignal.{DbcSignal}
use Rattle.dbc_reader.specs.declared.message.DbcMessage.{DbcMessage}

-- an element that is in no place of the list
abbrev IsNew : {X : Type 0} → List X → X → Type 0
IsNew {X} xs y = (i : ℕ) (d : X) → i < length xs → get_or xs i d ≢ y

-- one more element that is new
pairs_push : {X : Type 0} (xs : List X) (y : X) → AllPairs ◌≢◌ xs → IsNew xs y → AllPairs ◌≢◌ (xs ++ y ∷ [])
pairs_push {X} xs y pairs new i j d below within = by (nat_lt j (length xs)) refl
  where
    long : length (xs ++ y ∷ []) ≡ length xs + 1
    long = length-append xs (y ∷ [])

    by : (b : Bool) → nat_lt j (length xs) ≡ b → get_or (xs ++ y ∷ []) i d ≢ get_or (xs ++ y ∷ []) j d
    by true e =
        let inside : j < length xs = grind (arith, e) in
        let first = get_or_append_left xs (y ∷ []) d i (omega (arith, below, inside)) in
        let second = get_or_append_left xs (y ∷ []) d j inside in
        λ same. pairs i j d below inside (sym first ∙ same ∙ second)
    by false e =
        let beyond : length xs ≤ j = grind (arith, e) in
        let last : length xs ≡ j = omega (arith, beyond, within, long) in
        let first = get_or_append_left xs (y ∷ []) d i (omega (arith, below, last)) in
        λ same. new i d (omega (arith, below, last)) (sym first ∙ same ∙ get_or_push xs y d j last)

new_name : (names : List (List ℕ)) (name : List ℕ) → list_any (bytes_eq name) names ≡ false → IsNew names name
new_name names name absent i d within same =
    let any = list_any_at (bytes_eq name) names i d within ((bytes_eq-Decides name (get_or names i d)).1 (sym same)) in cc

new_number : (ids : List ℕ) (id : ℕ) → list_any (nat_eq id) ids ≡ false → IsNew ids id
new_number ids id absent i d within same =
    let any = list_any_at (nat_eq id) ids i d within (eq-eqb id (get_or ids i d) (sym same)) in cc

-- each message's signals differ in their names
abbrev AllSignals : List DbcMessage → Type 0
AllSignals [] = Unit {0}
AllSignals (m ∷ ms) = AllPairs ◌≢◌ (signal_names m.signals) × AllSignals ms

-- names and identifiers differ
record Differ (ms : List DbcMessage) : Type 0 where
  names : AllPairs ◌≢◌ (map (λ m. m.name) ms)
  ids : AllPairs ◌≢◌ (map (λ m. m.id) ms)
  signals : AllSignals ms

no_pairs : {X : Type 0} → AllPairs (λ (a b : X). a ≢ b) []
no_pairs i j d below within = absurd (omega (arith, within))

signals-push : (ms : List DbcMessage) (m : DbcMessage) → AllSignals ms → AllPairs ◌≢◌ (signal_names m.signals) → AllSignals (ms ++ m ∷ [])
signals-push [] m all pairs = (pairs, tt)
signals-push (n ∷ ms) m all pairs = (all.0, signals-push ms m all.1 pairs)

news : (line line' : ℕ) (i a b : Bool) → i ≡ false → (if i then None else if a then Some line else if b then Some line' else None) ≡ None → (a ≡ false) × (b ≡ false)
news line line' true a b kept none = absurd (cc)
news line line' false true b kept none = absurd (cc)
news line line' false false true kept none = absurd (cc)
news line line' false false false kept none = (refl, refl)

message_differs : (said : Said) (id id_line : ℕ) (name : List ℕ) (name_line len : ℕ) (b : Bool) → is_independent id name ≡ b
    → repeated_line said (statement.Message id id_line name name_line len) ≡ None → Differ said.messages → Differ (after_statement said (statement.Message id id_line name name_line len)).messages
message_differs said id id_line name name_line len true e new differ = rw e differ
message_differs said id id_line name name_line len false e new differ =
    let ms = said.messages in
    let both = news id_line name_line (is_independent id name) (list_any (nat_eq id) (map (λ (m : DbcMessage). m.id) ms)) (list_any (bytes_eq name) (map (λ (m : DbcMessage). m.name) ms)) e new in
    let after : Differ (ms ++ bare id name len ∷ []) = record {
      names = subst (λ (ns : List (List ℕ)). AllPairs ◌≢◌ ns) (sym (map-append (λ (m : DbcMessage). m.name) ms (bare id name len ∷ []))) (pairs_push _ name differ.names (new_name _ name both.1));
      ids = subst (λ (ns : List ℕ). AllPairs ◌≢◌ ns) (sym (map-append (λ (m : DbcMessage). m.id) ms (bare id name len ∷ []))) (pairs_push _ id differ.ids (new_number _ id both.0));
      signals = signals-push ms (bare id name len) differ.signals no_pairs;
    } in
    rw e after

names-with_signal : {X : Type 0} (g : DbcMessage → X) (same : (m : DbcMessage) (ss : List DbcSignal) → g (record m { signals = ss }) ≡ g m) (ms : List DbcMessage) (signal : DbcSignal) → map g (with_further_signal ms signal) ≡ map g ms
names-with_signal g same [] signal = refl
names-with_signal g same (m ∷ []) signal = ap (λ x. x ∷ []) (same m (m.signals ++ signal ∷ []))
names-with_signal g same (m ∷ n ∷ ms) signal = ap (λ xs. g m ∷ xs) (names-with_signal g same (n ∷ ms) signal)

signals-with_signal : (ms : List DbcMessage) (signal : DbcSignal) → list_any (bytes_eq signal.name) (signal_names (last_signals ms)) ≡ false → AllSignals ms → AllSignals (with_further_signal ms signal)
signals-with_signal [] signal new all = tt
signals-with_signal (m ∷ []) signal new all =
    (subst (λ (ns : List (List ℕ)). AllPairs ◌≢◌ ns) (sym (map-append (λ (s : DbcSignal). s.name) m.signals (signal ∷ []))) (pairs_push _ signal.name all.0 (new_name _ signal.name new)), tt)
signals-with_signal (m ∷ n ∷ ms) signal new all = (all.0, signals-with_signal (n ∷ ms) signal new all.1)

absent : (line : ℕ) (b : Bool) → (if b then Some line else None) ≡ None → b ≡ false
absent line true e = absurd (cc)
absent line false e = refl

signal_differs : (said : Said) (own : Owner) (signal : DbcSignal) (line : ℕ) → repeated_signal said own signal line ≡ None → Differ said.messages → Differ (after_signal said own signal).messages
signal_differs said owner.Nobody signal line new differ = differ
signal_differs said owner.Dropped signal line new differ = differ
signal_differs said owner.LastMessage signal line new differ = record {
  names = subst (λ (ns : List (List ℕ)). AllPairs ◌≢◌ ns) (sym (names-with_signal (λ (m : DbcMessage). m.name) (λ m ss. refl) said.messages signal)) differ.names;
  ids = subst (λ (ns : List ℕ). AllPairs ◌≢◌ ns) (sym (names-with_signal (λ (m : DbcMessage). m.id) (λ m ss. refl) said.messages signal)) differ.ids;
  signals = signals-with_signal said.messages signal (absent line (list_any (bytes_eq signal.name) (signal_names (last_signals said.messages))) new) differ.signals;
}

statement_differs : (said : Said) (st : Statement) → repeated_line said st ≡ None → Differ said.messages → Differ (after_statement said st).messages
statement_differs said (statement.Message id id_line name name_line len) new differ = message_differs said id id_line name name_line len (is_independent id name) refl new differ
statement_differs said (statement.Signal name layout line) new differ = signal_differs said said.owner (unmarked name layout) line new differ
statement_differs said (statement.Float mark) new differ = differ
statement_differs said statement.Other new differ = differ

lead_differs : (before : Said) (tokens : List Placed) (sts : List Statement) (after : Said) (rest : List Placed) → Lead before tokens sts after rest → Differ before.messages → Differ after.messages
lead_differs before tokens [] after rest lead differ = subst (λ (said : Said). Differ said.messages) (sym lead.0) differ
lead_differs before tokens (st ∷ sts) after rest lead differ = lead_differs (after_statement before st) lead.0 sts after rest lead.3 (statement_differs before st lead.2 differ)

keys-change : {X N : Type 0} (g : X → N) (p : X → Bool) (change : X → X) → ((x : X) → g (change x) ≡ g x) → (xs : List X) → map g (change_first p change xs) ≡ map g xs
keys-change g p change same [] = refl
keys-change {X} {N} g p change same (x ∷ xs) = by (p x) refl (keys-change g p change same xs)
  where
    by : (b : Bool) → p x ≡ b → map g (change_first p change xs) ≡ map g xs → map g (change_first p change (x ∷ xs)) ≡ map g (x ∷ xs)
    by true e rest = rw e (ap (λ n. n ∷ map g xs) (same x))
    by false e rest = rw e (ap (λ ns. g x ∷ ns) rest)

signals-change : (p : DbcMessage → Bool) (name : List ℕ) (ms : List DbcMessage) → AllSignals ms → AllSignals (change_first p (λ m. record m { signals = with_float name m.signals }) ms)
signals-change p name [] all = tt
signals-change p name (m ∷ ms) all = by (p m) refl (signals-change p name ms all.1)
  where
    change : DbcMessage → DbcMessage
    change m = record m { signals = with_float name m.signals }

    by : (b : Bool) → p m ≡ b → AllSignals (change_first p (λ (m : DbcMessage). record m { signals = with_float name m.signals }) ms) → AllSignals (change_first p (λ (m : DbcMessage). record m { signals = with_float name m.signals }) (m ∷ ms))
    by true e rest =
        rw e (subst (λ (ns : List (List ℕ)). AllPairs ◌≢◌ ns) (sym (keys-change (λ (s : DbcSignal). s.name) (λ (s : DbcSignal). bytes_eq name s.name) (λ (s : DbcSignal). record s { float = true }) (λ s. refl) m.signals)) all.0, all.1)
    by false e rest = rw e (all.0, rest)

mark_differs : (ms : List DbcMessage) (mark : FloatMark) → Differ ms → Differ (with_mark ms mark)
mark_differs ms mark differ = record {
  names = subst (λ (ns : List (List ℕ)). AllPairs ◌≢◌ ns) (sym (keys-change (λ (m : DbcMessage). m.name) (λ (m : DbcMessage). nat_eq mark.id m.id) (λ (m : DbcMessage). record m { signals = with_float mark.name m.signals }) (λ m. refl) ms)) differ.names;
  ids = subst (λ (ns : List ℕ). AllPairs ◌≢◌ ns) (sym (keys-change (λ (m : DbcMessage). m.id) (λ (m : DbcMessage). nat_eq mark.id m.id) (λ (m : DbcMessage). record m { signals = with_float mark.name m.signals }) (λ m. refl) ms)) differ.ids;
  signals = signals-change (λ (m : DbcMessage). nat_eq mark.id m.id) mark.name ms differ.signals;
}

marks_differ : (ms : List DbcMessage) (marks : List FloatMark) → Differ ms → Differ (fold with_mark ms marks)
marks_differ ms [] differ = differ
marks_differ ms (mark ∷ marks) differ = marks_differ (with_mark ms mark) marks (mark_differs ms mark differ)

each : (ms : List DbcMessage) → AllSignals ms → All (λ (m : DbcMessage). AllPairs ◌≢◌ (signal_names m.signals)) ms
each [] all k d within = absurd (omega (arith, within))
each (m ∷ ms) all zero d within = all.0
each (m ∷ ms) all (suc k) d within = each ms all.1 k d (omega (arith, within))

-- what a text's database has
pub are_distinct : (text : List ℕ) (messages : List DbcMessage) → IsDatabase text messages → AreDistinct messages
are_distinct text messages is =
    let first : Differ [] = record { names = no_pairs; ids = no_pairs; signals = tt } in
    let differ = marks_differ is.1.messages is.1.marks (lead_differs nothing_said (tokens_of text) is.0 is.1 [] is.2 first) in
    let whole : Differ messages = subst (λ (ms : List DbcMessage). Differ ms) (sym is.3) differ in
    record { names = whole.names; ids = whole.ids; signals = each messages whole.signals }
