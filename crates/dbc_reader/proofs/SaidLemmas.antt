-- What one more statement says.
use Rattle.std.proofs.Common.{◌≡◌, ℕ, zero, suc, Bool, true, false, not, List, [], ◌∷◌, ◌++◌, map, length, get_or, set, Some, None, refl, sym, ap, ◌∙◌, arith, nat_eq, if◌then◌else◌}
use Rattle.std.specs.List.{list_any}
use Rattle.std.specs.Str.{bytes_eq}
use Rattle.std.specs.Global.{Vec}
use Rattle.std.proofs.lemmas.List.{map-append}
use Rattle.indexmap.specs.IndexSet.{insert_key}
use Rattle.dbc_statements.specs.Token.{Placed, first_line}
use Rattle.dbc_statements.specs.Statement.{statement_at}
use Rattle.dbc_statements.specs.declared.statement.Statement.{Statement}
use Rattle.dbc_reader.specs.declared.signals.DbcSignal.{DbcSignal}
use Rattle.dbc_reader.specs.declared.message.DbcMessage.{DbcMessage}
use Rattle.dbc_reader.specs.Database.{Said, has_owner, last_signals, with_further_signal, after_statement, is_independent, bare, signal_names, repeated_line, repeated_signal, after_signal, Lead}
use Rattle.dbc_reader.specs.declared.owner.Owner.TheVariants as owner
use Rattle.dbc_statements.specs.declared.statement.Statement.TheVariants as statement
use Rattle.dbc_reader.proofs.Tables.{seen}

-- a new name goes last in a table
pub grown : (key : Vec ℕ) (keys : List (Vec ℕ)) (names : List (List ℕ)) → map (λ (k : Vec ℕ). k.items) keys ≡ names → list_any (bytes_eq key.items) names ≡ false
    → map (λ (k : Vec ℕ). k.items) (insert_key (λ (a b : Vec ℕ). bytes_eq a.items b.items) keys key) ≡ names ++ key.items ∷ []
grown key keys names same absent = rw (seen key.items keys names same, absent, map-append, same) refl

-- a new identifier goes last in a table
pub grown_number : (id : ℕ) (keys ids : List ℕ) → keys ≡ ids → list_any (nat_eq id) ids ≡ false → insert_key nat_eq keys id ≡ ids ++ id ∷ []
grown_number id keys ids same absent = rw (same, absent) refl

-- the signals of the message in the last place
pub last_signals-at : (ms : List DbcMessage) (i : ℕ) (last : DbcMessage) → suc i ≡ length ms → last ≡ get_or ms i last → last_signals ms ≡ last.signals
last_signals-at [] i last long is = absurd (omega (arith, long))
last_signals-at (m ∷ []) zero last long is = let same : last ≡ m = is in ap (λ (m : DbcMessage). m.signals) (sym same)
last_signals-at (m ∷ []) (suc i) last long is = absurd (omega (arith, long))
last_signals-at (m ∷ n ∷ ms) zero last long is = absurd (omega (arith, long))
last_signals-at (m ∷ n ∷ ms) (suc i) last long is = last_signals-at (n ∷ ms) i last (omega (arith, long)) is

-- one more signal in the last place
pub set_last : (ms : List DbcMessage) (i : ℕ) (last : DbcMessage) (signals : List DbcSignal) (signal : DbcSignal) → suc i ≡ length ms → last ≡ get_or ms i last
    → signals ≡ last.signals ++ signal ∷ [] → set ms i (record { id = last.id; name = last.name; len = last.len; signals = signals }) ≡ with_further_signal ms signal
set_last [] i last signals signal long is grows = absurd (omega (arith, long))
set_last (m ∷ []) zero last signals signal long is grows =
    let same : last ≡ m = is in
    ap (λ (ss : List DbcSignal). record { id = last.id; name = last.name; len = last.len; signals = ss } ∷ []) grows
    ∙ ap (λ (m : DbcMessage). record m { signals = m.signals ++ signal ∷ [] } ∷ []) same
set_last (m ∷ []) (suc i) last signals signal long is grows = absurd (omega (arith, long))
set_last (m ∷ n ∷ ms) zero last signals signal long is grows = absurd (omega (arith, long))
set_last (m ∷ n ∷ ms) (suc i) last signals signal long is grows = ap (λ more. m ∷ more) (set_last (n ∷ ms) i last signals signal (omega (arith, long)) is grows)

-- one more statement
pub lead_more : (before : Said) (tokens : List Placed) (sts : List Statement) (after : Said) (rest : List Placed) (st : Statement) (behind : List Placed)
    → Lead before tokens sts after rest → statement_at (has_owner after.owner) rest ≡ Some (st, behind) → repeated_line after st ≡ None
    → Lead before tokens (sts ++ st ∷ []) (after_statement after st) behind
lead_more before tokens [] after rest st behind lead reads new = rw (sym lead.0, sym lead.1) (behind, reads, new, (refl, refl))
lead_more before tokens (s ∷ sts) after rest st behind lead reads new =
    (lead.0, lead.1, lead.2, lead_more (after_statement before s) lead.0 sts after rest st behind lead.3 reads new)

-- a test that is not so
pub not_there : (b : Bool) → true ≡ not b → b ≡ false
not_there true e = absurd (cc)
not_there false e = refl

-- a test that is so
pub there : (b : Bool) → false ≡ not b → b ≡ true
there true e = refl
there false e = absurd (cc)

-- a table that took an identifier did not have it
pub new_number : (id : ℕ) (keys ids : List ℕ) → keys ≡ ids → true ≡ not (list_any (nat_eq id) keys) → list_any (nat_eq id) ids ≡ false
new_number id keys ids same added = ap (list_any (nat_eq id)) (sym same) ∙ not_there _ added

-- a table that took a name did not have it
pub new_name : (name : List ℕ) (keys : List (Vec ℕ)) (names : List (List ℕ)) → map (λ (k : Vec ℕ). k.items) keys ≡ names → true ≡ not (list_any (λ (k : Vec ℕ). bytes_eq name k.items) keys)
    → list_any (bytes_eq name) names ≡ false
new_name name keys names same added = sym (seen name keys names same) ∙ not_there _ added

-- a table that took no name had it
pub old_name : (name : List ℕ) (keys : List (Vec ℕ)) (names : List (List ℕ)) → map (λ (k : Vec ℕ). k.items) keys ≡ names → false ≡ not (list_any (λ (k : Vec ℕ). bytes_eq name k.items) keys)
    → list_any (bytes_eq name) names ≡ true
old_name name keys names same added = sym (seen name keys names same) ∙ there _ added

module _ (said : Said) (id id_line : ℕ) (name : List ℕ) (name_line len : ℕ) (kept : is_independent id name ≡ false) where
  -- a message with a new identifier and an old name
  pub name_twice : list_any (nat_eq id) (map (λ (m : DbcMessage). m.id) said.messages) ≡ false → list_any (bytes_eq name) (map (λ (m : DbcMessage). m.name) said.messages) ≡ true
      → repeated_line said (statement.Message id id_line name name_line len) ≡ Some name_line
  name_twice id_new name_old = rw (kept, id_new, name_old) refl

  -- a message with a new identifier and a new name
  pub nothing_twice : list_any (nat_eq id) (map (λ (m : DbcMessage). m.id) said.messages) ≡ false → list_any (bytes_eq name) (map (λ (m : DbcMessage). m.name) said.messages) ≡ false
      → repeated_line said (statement.Message id id_line name name_line len) ≡ None
  nothing_twice id_new name_new = rw (kept, id_new, name_new) refl

  -- it goes last
  pub message_added : after_statement said (statement.Message id id_line name name_line len)
      ≡ record { messages = said.messages ++ bare id name len ∷ []; owner = owner.LastMessage; marks = said.marks }
  message_added = rw kept refl

module _ (said : Said) (signal : DbcSignal) (line : ℕ) (last : DbcMessage) (kept : said.owner ≡ owner.LastMessage) (is_last : last_signals said.messages ≡ last.signals) where
  -- a signal with a new name
  pub signal_new : list_any (bytes_eq signal.name) (signal_names last.signals) ≡ false → repeated_signal said said.owner signal line ≡ None
  signal_new new = ap (λ o. repeated_signal said o signal line) kept ∙ ap (λ b. if b then Some line else None) (ap (λ (ss : List DbcSignal). list_any (bytes_eq signal.name) (signal_names ss)) is_last ∙ new)

  -- a signal with an old name
  pub signal_twice : list_any (bytes_eq signal.name) (signal_names last.signals) ≡ true → repeated_signal said said.owner signal line ≡ Some line
  signal_twice old = ap (λ o. repeated_signal said o signal line) kept ∙ ap (λ b. if b then Some line else None) (ap (λ (ss : List DbcSignal). list_any (bytes_eq signal.name) (signal_names ss)) is_last ∙ old)

-- a signal of the last message goes last in it
pub signal_added : (said : Said) (signal : DbcSignal) → said.owner ≡ owner.LastMessage
    → after_signal said said.owner signal ≡ record { messages = with_further_signal said.messages signal; owner = said.owner; marks = said.marks }
signal_added said signal kept = ap (λ o. after_signal said o signal) kept

-- where no line is left no token is
pub at_end : (tokens : List Placed) → first_line tokens ≡ None → tokens ≡ []
at_end [] none = refl
at_end (token ∷ tokens) none = absurd (cc)
