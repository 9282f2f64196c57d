-- What was played, and what of it where a fault ended it.
use Rattle.std.proofs.Common.{◌≡◌, ℕ, ◌+◌, ◌<◌, ◌≤◌, ◌≢◌, inl, inr, List, [], ◌∷◌, ◌++◌, Option, length, map, take, arith, refl, ap, ap₂, sym, subst, ◌∙◌}
use Rattle.std.specs.Option.{unwrap_or}
use Rattle.std.proofs.lemmas.List.{append-nil, append_assoc}
use Rattle.can_bus.specs.Meaning.{BusMeaning}
use Rattle.sim_outside.specs.Sink.{GrowsBy, GrowsByPrefix}
use Rattle.bytecode.specs.declared.code.Code.{Code}
use Rattle.bytecode.specs.declared.code.Handler.{Handler}
use Rattle.stack_vm.specs.declared.meter.MeterRow.{MeterRow}
use Rattle.node_rounds.specs.Reaction.{NodeState}
use Rattle.node_run.specs.Code.{CodeMemory}
use Rattle.node_run.specs.Node.{NodeInRound}
use Rattle.run_meaning.specs.Counts.{row_then}
use Rattle.run_meaning.specs.Steps.{Step, entries, steps}
use Rattle.run_meaning.proofs.Meters.{adds_none, at_most_more}
use Rattle.sim_core.specs.Core.{CoreState, HasARun, rows_of, run_of, states_of}
use Rattle.sim_play.specs.Inside.Counted.{counted_last, handler_line, handlers_of, lines_from, row_count, row_in}
use Rattle.sim_play.specs.Inside.Shown.{HasShown, IsShownInPart}
use Rattle.sim_play.specs.Play.{AreNewRows, HasPlayed, HaveFiles, IsPlayedInPart, StandInOrder, shown_last, shown_run}
use Rattle.sim_play.specs.Profile.{handler_lines, profile_of}
use Rattle.sim_play.specs.Show.{shown, shown_first}
use Rattle.sim_play.specs.declared.labels.Labels.{Labels}
use Rattle.sim_play.specs.declared.labels.Show.{Show}
use Rattle.sim_play.specs.declared.labels.Show.TheVariants.{Window, Log, Both, Profile, Summary}
use Rattle.sim_play.proofs.CodeStays.{codes_of, codes_stay}
use Rattle.sim_play.proofs.Grows.{begins_more, grows_more, grows_none, grows_same}
use Rattle.sim_play.proofs.NodeLines.{as_many}
use Rattle.sim_play.proofs.RowLemmas.{counts_then, order_ends}

-- ---- the profile

-- the lines of handlers, by rows that are equal where they are read
lines_same : (name : List ℕ) (files : List (List ℕ)) (row other : ℕ → MeterRow) (number : ℕ) (handlers : List Handler) → ((k : ℕ) → k < number + length handlers → row k ≡ other k)
    → handler_lines name files row number handlers ≡ handler_lines name files other number handlers
lines_same name files row other number [] same = refl
lines_same name files row other number (handler ∷ handlers) same =
    ap₂ (λ (a b : List ℕ). a ++ b) (ap (λ (r : MeterRow). handler_line name files r handler) (same number (omega arith)))
    (lines_same name files row other (number + 1) handlers (λ k less. same k (omega (arith, less))))

-- the lines with rows that are counted up are those of the profile, where the rows stand in order
profile_counted : (names : List (List ℕ)) (files : List (List (List ℕ))) (row other : ℕ → MeterRow) (number : ℕ) (nodes : List NodeInRound) (end : ℕ) → StandInOrder number nodes end
    → ((k : ℕ) → k < end → row k ≡ other k) → lines_from names files row number (handlers_of nodes) ≡ profile_of names files other nodes
profile_counted [] files row other number nodes end order same = refl
profile_counted (name ∷ names) [] row other number nodes end order same = refl
profile_counted (name ∷ names) (own ∷ files) row other number [] end order same = refl
profile_counted (name ∷ names) (own ∷ files) row other number (node ∷ nodes) end order same =
    let handlers : List Handler = node.doing.node.memory.code.handlers in
    let ends = order_ends (number + length handlers) nodes end order.1 in
    ap₂ (λ (a b : List ℕ). a ++ b)
    (lines_same name own row other number handlers (λ k less. same k (omega (arith, ends, less))) ∙ ap (λ n. handler_lines name own other n handlers) (sym order.0))
    (profile_counted names files row other (number + length handlers) nodes end order.1 same)

last_counted : (show : Show) (labels : Labels) (row : ℕ → MeterRow) (nodes : List NodeInRound) (list : List Step) (end : ℕ) → show ≢ Summary → StandInOrder 0 nodes end
    → ((k : ℕ) → k < end → row k ≡ row_then (rows_of nodes) list k) → counted_last show labels row (handlers_of nodes) ≡ shown_last show labels nodes list
last_counted Window labels row nodes list end other order same = refl
last_counted Log labels row nodes list end other order same = refl
last_counted Both labels row nodes list end other order same = refl
last_counted Profile labels row nodes list end other order same = profile_counted labels.names labels.files row (row_then (rows_of nodes) list) 0 nodes end order same
last_counted Summary labels row nodes list end other order same = absurd (other refl)

-- ---- nodes after a run

handlers_by : (nodes : List NodeInRound) → handlers_of nodes ≡ map (λ (c : Code). c.handlers) (codes_of (states_of nodes))
handlers_by [] = refl
handlers_by (node ∷ nodes) = ap (λ (hs : List (List Handler)). node.doing.node.memory.code.handlers ∷ hs) (handlers_by nodes)

-- a run leaves each node its handlers
pub handlers_stay : {B : Type 0} {bus : BusMeaning B} {show : Show} {labels : Labels} {before after : CoreState B} {w v : Option (List ℕ)} {meter meter_after : List MeterRow}
    → HasShown bus show labels before after w v meter meter_after → handlers_of after.nodes ≡ handlers_of before.nodes
handlers_stay {bus} {before} {after} shows =
    handlers_by after.nodes
    ∙ ap (λ (cs : List Code). map (λ (c : Code). c.handlers) cs)
    (ap (λ (ns : List (NodeState CodeMemory)). codes_of ns) shows.nodes ∙ codes_stay bus before.until (run_of before) shows.rounds shows.end shows.is_run)
    ∙ sym (handlers_by before.nodes)

-- a list of files for each node
pub as_many_files : (files : List (List (List ℕ))) (nodes : List NodeInRound) → HaveFiles files nodes → length files ≡ length nodes
as_many_files [] [] have = refl
as_many_files [] (node ∷ nodes) have = absurd have
as_many_files (own ∷ files) [] have = absurd have
as_many_files (own ∷ files) (node ∷ nodes) have = let more = as_many_files files nodes have.1 in omega (arith, more)

-- there are as many nodes after a run
pub as_many_nodes : {B : Type 0} {bus : BusMeaning B} {show : Show} {labels : Labels} {before after : CoreState B} {w v : Option (List ℕ)} {meter meter_after : List MeterRow}
    → HasShown bus show labels before after w v meter meter_after → length after.nodes ≡ length before.nodes
as_many_nodes {before} {after} shows = sym (as_many after.nodes) ∙ ap (λ (hs : List (List Handler)). length hs) (handlers_stay shows) ∙ as_many before.nodes

-- the rows of nodes after a run are in the meter
pub rows_stay : {B : Type 0} {bus : BusMeaning B} {show : Show} {labels : Labels} {before after : CoreState B} {w v : Option (List ℕ)} {meter meter_after : List MeterRow} → AreNewRows before.nodes meter
    → HasShown bus show labels before after w v meter meter_after → row_count (handlers_of after.nodes) ≤ length meter_after
rows_stay {before} {after} {meter} {meter_after} rows shows =
    let ends = order_ends 0 before.nodes (length meter) rows.in_order in
    let same = ap row_count (handlers_stay shows) in
    let long = shows.metered.as_many in
    omega (arith, ends, same, long)

-- the profile by the rows in a meter after a run is that of its steps
pub last_is : {B : Type 0} {bus : BusMeaning B} {show : Show} {labels : Labels} {before after : CoreState B} {w v : Option (List ℕ)} {meter meter_after : List MeterRow} → show ≢ Summary → AreNewRows before.nodes meter
    → (shows : HasShown bus show labels before after w v meter meter_after) (nodes : List NodeInRound) → nodes ≡ after.nodes
    → counted_last show labels (row_in meter_after) (handlers_of nodes) ≡ shown_last show labels before.nodes (steps shows.rounds before.picks)
last_is {show} {labels} {before} {after} {meter} {meter_after} other rows shows nodes are =
    let list : List Step = steps shows.rounds before.picks in
    let long = shows.metered.as_many in
    ap (λ (ns : List NodeInRound). counted_last show labels (row_in meter_after) (handlers_of ns)) are
    ∙ ap (λ (hs : List (List Handler)). counted_last show labels (row_in meter_after) hs) (handlers_stay shows)
    ∙ last_counted show labels (row_in meter_after) before.nodes list (length meter) other rows.in_order
    (λ k less. ap (λ (o : Option MeterRow). unwrap_or o (record { runs = 0; turns = 0 })) (counts_then rows shows.metered k (omega (arith, long, less))))

-- ---- what was played

run_is : (show : Show) (labels : Labels) (nodes : List NodeInRound) (list : List Step)
    → shown_run show labels nodes list ≡ shown_first show labels ++ (shown show labels (entries list) ++ shown_last show labels nodes list)
run_is show labels nodes list = append_assoc (shown_first show labels) (shown show labels (entries list)) (shown_last show labels nodes list)

-- all of it
pub has_played : {B : Type 0} {bus : BusMeaning B} {show : Show} {labels : Labels} {before after : CoreState B} (a b c d : Option (List ℕ)) {meter meter_after : List MeterRow} → AreNewRows before.nodes meter
    → GrowsBy a b (shown_first show labels) → (shows : HasShown bus show labels before after b c meter meter_after)
    → (last : List ℕ) → last ≡ shown_last show labels before.nodes (steps shows.rounds before.picks) → GrowsBy c d last → HasPlayed bus show labels before a d meter_after
has_played {show} {labels} {before} {after} a b c d {meter} {meter_after} rows first shows last is grows =
    let list : List Step = steps shows.rounds before.picks in
    record {
      rounds = shows.rounds;
      end = shows.end;
      is_run = shows.is_run;
      grows = grows_more a c d (shown_first show labels ++ shown show labels (entries list)) (shown_last show labels before.nodes list)
          (grows_more a b c (shown_first show labels) (shown show labels (entries list)) first shows.grows) (grows_same c d is grows);
      counts = counts_then rows shows.metered;
    }

-- a beginning of what is shown before the run
pub cut_first : {B : Type 0} {bus : BusMeaning B} {show : Show} {labels : Labels} {core : CoreState B} (a b : Option (List ℕ)) (meter : List MeterRow) → HasARun bus core
    → GrowsByPrefix a b (shown_first show labels) → IsPlayedInPart bus show labels core a b meter meter
cut_first {show} {labels} {core} a b meter run begins =
    let list : List Step = steps run.rounds core.picks in
    let behind : List ℕ = shown show labels (entries list) ++ shown_last show labels core.nodes list in
    record {
      rounds = run.rounds;
      end = run.end;
      is_run = run.is_run;
      begins = begins_more a a b [] (shown_first show labels) (shown_run show labels core.nodes list) behind (grows_none a) begins (run_is show labels core.nodes list);
      front = [];
      rest = list;
      are = refl;
      whole = inl refl;
      metered = at_most_more (adds_none (rows_of core.nodes) meter) (take 1 list);
    }

-- what is shown before the run, and a beginning of what is shown of it
pub cut_run : {B : Type 0} {bus : BusMeaning B} {show : Show} {labels : Labels} {core : CoreState B} (a b c : Option (List ℕ)) {meter meter_after : List MeterRow} → GrowsBy a b (shown_first show labels)
    → IsShownInPart bus show labels core b c meter meter_after → IsPlayedInPart bus show labels core a c meter meter_after
cut_run {show} {labels} {core} a b c first part =
    let list : List Step = steps part.rounds core.picks in
    record {
      rounds = part.rounds;
      end = part.end;
      is_run = part.is_run;
      begins = begins_more a b c (shown_first show labels) (shown show labels (entries list)) (shown_run show labels core.nodes list)
          (shown_last show labels core.nodes list) first part.begins (run_is show labels core.nodes list);
      front = part.front;
      rest = part.rest;
      are = part.are;
      whole = inr (part.more, grows_more a b c (shown_first show labels) (shown show labels (entries part.front) ++ part.more) first part.whole);
      metered = part.metered;
    }

-- all that is shown before the run and of it, and a beginning of what is shown at its end
pub cut_last : {B : Type 0} {bus : BusMeaning B} {show : Show} {labels : Labels} {before after : CoreState B} (a b c d : Option (List ℕ)) {meter meter_after : List MeterRow} → AreNewRows before.nodes meter
    → GrowsBy a b (shown_first show labels) → (shows : HasShown bus show labels before after b c meter meter_after)
    → (written : List ℕ) → written ≡ shown_last show labels before.nodes (steps shows.rounds before.picks) → GrowsByPrefix c d written
    → IsPlayedInPart bus show labels before a d meter meter_after
cut_last {show} {labels} {before} {after} a b c d {meter} {meter_after} rows first shows written is begins =
    let list : List Step = steps shows.rounds before.picks in
    let last : List ℕ = shown_last show labels before.nodes list in
    let part : GrowsByPrefix c d last = subst (λ (t : List ℕ). GrowsByPrefix c d t) is begins in
    record {
      rounds = shows.rounds;
      end = shows.end;
      is_run = shows.is_run;
      begins = begins_more a c d (shown_first show labels ++ shown show labels (entries list)) last (shown_run show labels before.nodes list) []
          (grows_more a b c (shown_first show labels) (shown show labels (entries list)) first shows.grows) part
          (ap (λ (t : List ℕ). (shown_first show labels ++ shown show labels (entries list)) ++ t) (sym (append-nil last)));
      front = list;
      rest = [];
      are = sym (append-nil list);
      whole = inr (
        take part.0 last,
        grows_more a b d (shown_first show labels) (shown show labels (entries list) ++ take part.0 last) first
            (grows_more b c d (shown show labels (entries list)) (take part.0 last) shows.grows part.1),
      );
      metered = at_most_more shows.metered [];
    }
