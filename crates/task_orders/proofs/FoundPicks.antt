-- Each interleaving is that of picks in a run. From its end on, what each node has left to do of the round, and the
-- rounds behind it, are those of a run.
use Rattle.std.proofs.Common.{◌≡◌, inl, inr, ℕ, suc, ◌+◌, ◌<◌, List, [], ◌∷◌, ◌++◌, length, Option, None, Some, All, arith, refl, ap, sym, subst, ◌∙◌}
use Rattle.std.specs.Prelude.{◌%◌, drop, map, slice_get, slice_set}
use Rattle.std.specs.List.{AllByRecursion, flat_map}
use Rattle.std.specs.Option.{unwrap_or}
use Rattle.std.proofs.lemmas.List.{append-nil, append_assoc, length-map, length-set}
use Rattle.std.proofs.lemmas.List.Elements.{All-cons, All-nil}
use Rattle.std.proofs.lemmas.Option.{slice_get_within}
use Rattle.std.proofs.Math.Nat.{mod-eq_of_lt}
use Rattle.can_bus.specs.declared.bus.Ended.{Ended}
use Rattle.can_bus.specs.Laws.{RequestsCommute}
use Rattle.can_bus.specs.Meaning.{BusMeaning}
use Rattle.scenario.specs.declared.scenario.KeyItem.{KeyItem}
use Rattle.replay_node.specs.declared.replay.Request.{Request}
use Rattle.node_rounds.specs.declared.round.Round.{Round}
use Rattle.node_rounds.specs.declared.round.Round.TheVariants as rounds
use Rattle.node_rounds.specs.Reaction.{Reacts}
use Rattle.node_rounds.specs.Round.{IsDone, Task}
use Rattle.run_meaning.specs.Moments.{keys_at}
use Rattle.run_meaning.specs.Steps.{first_tasks, nodes_with_tasks, picked, picks_after, Step, steps, task_done, task_steps}
use Rattle.run_meaning.specs.Rest.{RunsOn}
use Rattle.run_meaning.specs.Run.{AreParts, IsRun, IsSecond, Passed, RunState, after_round, finished, new_run, quiet_round, settled}
use Rattle.run_meaning.proofs.OrderLemmas.{picks_put, put_task, steps_put}
use Rattle.task_orders.specs.Moves.{BeginsAfter, BeginsInstant, BeginsNext, BeginsSecond, BeginsStop, DoesTask, IsInterleaving, IsPossible, Move, MoveAll, closes, does_task}
use Rattle.task_orders.specs.World.{Stage, World, all_begin, at_round, first_world, in_first, in_pre_start, in_second, in_start, in_stop, is_last, round_of, run_in}
use Rattle.task_orders.proofs.Lefts.{AreLeft, left_parts, left_put, no_tasks, none_count, none_left, place_put, states}
use Rattle.task_orders.proofs.Worlds.{From, all_done, ends_none, ends_put, happened_on, last_of, round_ends, run_at_round}

-- ---- as many nodes

-- a round begins with as many nodes as there are
pub begun_long : {S : Type 0} (r : Reacts S) (round : Round) (ended : Option Ended) (keys : List ℕ) (number : ℕ) (ss : List S) → length (all_begin r round ended keys number ss) ≡ length ss
begun_long r round ended keys number [] = refl
begun_long r round ended keys number (s ∷ ss) = ap suc (begun_long r round ended keys (number + 1) ss)

module _ {S B : Type 0} (r : Reacts S) (bus : BusMeaning B) (until : ℕ) where
  at_long : (stage : Stage) (ended : Option Ended) (keys : List ℕ) (s : RunState S B) (happened : List Step) (between : World S B) → between ≡ at_round r stage ended keys s happened
      → length between.nodes ≡ length s.nodes
  at_long stage ended keys s happened between is = ap (λ (w : World S B). length w.nodes) is ∙ begun_long r (round_of stage) ended keys 0 s.nodes

  next_long : (s : RunState S B) (happened : List Step) (between : World S B) → BeginsNext r bus until s happened between → length between.nodes ≡ length s.nodes
  next_long s happened between begins = elim begins [
    | inl instant ↦ at_long in_first (bus.ended s.bus instant.moment) (keys_at instant.moment s.keys) (finished bus instant.moment s) happened between instant.stands
    | inr stop ↦ at_long in_stop None [] (record s { moment = stop.moment }) happened between stop.stands
  ]

  second_long : (ended : Option Ended) (s : RunState S B) (happened : List Step) (between : World S B) → BeginsSecond r bus until ended s happened between → length between.nodes ≡ length s.nodes
  second_long None s happened between begins = next_long (settled bus s) happened between begins
  second_long (Some ended) s happened between begins = at_long in_second (Some ended) [] s happened between begins

  -- and so does each that follows another
  pub after_long : (stage : Stage) (s : RunState S B) (happened : List Step) (between : World S B) → BeginsAfter r bus until stage s happened between → length between.nodes ≡ length s.nodes
  after_long in_pre_start s happened between begins = at_long in_start None (keys_at s.moment s.keys) s happened between begins
  after_long in_start s happened between begins = next_long (settled bus s) happened between begins
  after_long in_first s happened between begins = second_long (bus.ended s.bus s.moment) (finished bus s.moment s) happened between begins
  after_long in_second s happened between begins = next_long (settled bus s) happened between begins
  after_long in_stop s happened between begins = elim begins [ ]

-- all picks are places among so many nodes
abbrev pub AreFew : ℕ → List ℕ → Type 0
AreFew many picks = All (λ pick. pick < many) picks

-- what has happened is followed by the steps of rounds of which a condition tells which they are
pub record Follow {S B : Type 0} (many : ℕ) (are : List Passed → RunState S B → Type 0) (happened : List Step) (end : World S B) : Type 0 where
  pub rounds : List Passed
  pub picks : List ℕ
  pub is : are rounds (run_in end)
  pub happens : end.happened ≡ happened ++ steps rounds picks
  pub few : AreFew many picks

module _ {S B : Type 0} (r : Reacts S) (bus : BusMeaning B) (until many : ℕ) (end : World S B) where
  -- a world comes to an end by the tasks that nodes have left in the round, and by the rounds behind it
  record Comes (w : World S B) : Type 0 where
    tasks : List (List Task)
    afters : List S
    rounds : List Passed
    picks : List ℕ
    left : AreLeft r w.moment w.nodes tasks afters
    goes : From r bus until w.stage (round_ends bus (is_last w.stage) (run_in w) tasks afters) rounds (run_in end)
    happens : end.happened ≡ w.happened ++ (task_steps w.moment tasks picks ++ steps rounds (picks_after tasks picks))
    few : AreFew many picks

  -- from its beginning on, a round and what follows it
  record ComesBy (stage : Stage) (ended : Option Ended) (keys : List ℕ) (s : RunState S B) (happened : List Step) : Type 0 where
    tasks : List (List Task)
    afters : List S
    rounds : List Passed
    picks : List ℕ
    parts : AreParts r (round_of stage) s.moment ended keys 0 s.nodes tasks afters
    goes : From r bus until stage (round_ends bus (is_last stage) s tasks afters) rounds (run_in end)
    happens : end.happened ≡ happened ++ steps (record { moment = s.moment; ended = ended; tasks = tasks } ∷ rounds) picks
    few : AreFew many picks

  begun : (stage : Stage) (ended : Option Ended) (keys : List ℕ) (s : RunState S B) (happened : List Step) → Comes (at_round r stage ended keys s happened) → ComesBy stage ended keys s happened
  begun stage ended keys s happened comes = record {
    tasks = comes.tasks;
    afters = comes.afters;
    rounds = comes.rounds;
    picks = comes.picks;
    parts = left_parts r (round_of stage) s.moment ended keys 0 s.nodes comes.tasks comes.afters comes.left;
    goes = subst (λ (x : RunState S B). From r bus until stage (round_ends bus (is_last stage) x comes.tasks comes.afters) comes.rounds (run_in end)) (run_at_round bus r stage ended keys s happened) comes.goes;
    happens = comes.happens ∙ happened_on happened (record { moment = s.moment; ended = ended; tasks = comes.tasks }) comes.rounds comes.picks;
    few = comes.few;
  }

  -- ---- a round is closed

  -- a further instant, or the round of the stop
  next_instant : (s : RunState S B) (happened : List Step) (between : World S B) → BeginsInstant r bus until s happened between → Comes between → Follow many (RunsOn r bus until s) happened end
  next_instant s happened between begins comes =
      let now : ℕ = begins.moment in
      let next : RunState S B = finished bus now s in
      let by = begun in_first (bus.ended s.bus now) (keys_at now s.keys) next happened (subst Comes begins.stands comes) in
      let first : Passed = record { moment = now; ended = bus.ended s.bus now; tasks = by.tasks } in
      let on = by.goes.goes_on in
      record {
        rounds = first ∷ by.rounds;
        picks = by.picks;
        is = record {
          instants = (first ∷ by.goes.more) ∷ on.instants;
          last = on.last;
          stop = on.stop;
          goes = (
            settled bus by.goes.between,
            record {
              moment = now;
              end = by.goes.between;
              not_stopped = begins.not_stopped;
              is_next = begins.is_next;
              in_time = begins.in_time;
              are_rounds = record {
                tasks = by.tasks;
                between = after_round bus next by.tasks by.afters;
                more = by.goes.more;
                first = record { nodes = by.afters; parts = by.parts; stands = refl };
                second = by.goes.second;
                are = refl;
              };
              stands = refl;
            },
            on.goes,
          );
          ending = on.ending;
          are = ap (λ (l : List Passed). first ∷ l)
              (by.goes.are ∙ ap (λ (l : List Passed). by.goes.more ++ l) on.are ∙ sym (append_assoc by.goes.more (flat_map (λ (i : List Passed). i) on.instants) on.stop));
        };
        happens = by.happens;
        few = by.few;
      }

  the_stop : (s : RunState S B) (happened : List Step) (between : World S B) → BeginsStop r bus until s happened between → Comes between → Follow many (RunsOn r bus until s) happened end
  the_stop s happened between begins comes =
      let next : RunState S B = record s { moment = begins.moment } in
      let by = begun in_stop None [] next happened (subst Comes begins.stands comes) in
      record {
        rounds = quiet_round begins.moment by.tasks ∷ by.rounds;
        picks = by.picks;
        is = record {
          instants = [];
          last = s;
          stop = quiet_round begins.moment by.tasks ∷ [];
          goes = refl;
          ending = record { moment = begins.moment; tasks = by.tasks; nodes = by.afters; ends = begins.ends; parts = by.parts; stands = by.goes.1; are = refl };
          are = ap (λ (l : List Passed). quiet_round begins.moment by.tasks ∷ l) by.goes.0;
        };
        happens = by.happens;
        few = by.few;
      }

  next_follows : (s : RunState S B) (happened : List Step) (between : World S B) → BeginsNext r bus until s happened between → Comes between → Follow many (RunsOn r bus until s) happened end
  next_follows s happened between begins comes = elim begins [
    | inl instant ↦ next_instant s happened between instant comes
    | inr stop ↦ the_stop s happened between stop comes
  ]

  -- a second round of an instant, or none
  second_follows : (ended : Option Ended) (s : RunState S B) (happened : List Step) (between : World S B) → BeginsSecond r bus until ended s happened between → Comes between
      → (more : List Passed) × (over : RunState S B) × IsSecond r bus ended s more over
      × Follow many (λ rounds last. (others : List Passed) × RunsOn r bus until (settled bus over) others last × (rounds ≡ more ++ others)) happened end
  second_follows None s happened between begins comes =
      let on = next_follows (settled bus s) happened between begins comes in
      ([], s, (refl, refl), record { rounds = on.rounds; picks = on.picks; is = (on.rounds, on.is, refl); happens = on.happens; few = on.few })
  second_follows (Some ended) s happened between begins comes =
      let by = begun in_second (Some ended) [] s happened (subst Comes begins comes) in
      let second : Passed = record { moment = s.moment; ended = Some ended; tasks = by.tasks } in (
        second ∷ [],
        after_round bus s by.tasks by.afters,
        (by.tasks, record { nodes = by.afters; parts = by.parts; stands = refl }, refl),
        record { rounds = second ∷ by.rounds; picks = by.picks; is = (by.rounds, by.goes, refl); happens = by.happens; few = by.few },
      )

  -- what follows each round
  round_follows : (stage : Stage) (s : RunState S B) (happened : List Step) (between : World S B) → BeginsAfter r bus until stage s happened between → Comes between
      → Follow many (From r bus until stage s) happened end
  round_follows in_pre_start s happened between begins comes =
      let by = begun in_start None (keys_at s.moment s.keys) s happened (subst Comes begins comes) in
      record {
        rounds = quiet_round s.moment by.tasks ∷ by.rounds;
        picks = by.picks;
        is = record {
          tasks = by.tasks;
          between = after_round bus s by.tasks by.afters;
          more = by.rounds;
          is_round = record { nodes = by.afters; parts = by.parts; stands = refl };
          goes_on = by.goes;
          are = refl;
        };
        happens = by.happens;
        few = by.few;
      }
  round_follows in_start s happened between begins comes = next_follows (settled bus s) happened between begins comes
  round_follows in_first s happened between begins comes =
      let both = second_follows (bus.ended s.bus s.moment) (finished bus s.moment s) happened between begins comes in
      let on = both.3 in
      record {
        rounds = on.rounds;
        picks = on.picks;
        is = record { more = both.0; between = both.1; others = on.is.0; second = both.2; goes_on = on.is.1; are = on.is.2 };
        happens = on.happens;
        few = on.few;
      }
  round_follows in_second s happened between begins comes = next_follows (settled bus s) happened between begins comes
  round_follows in_stop s happened between begins comes = elim begins [ ]

  no_steps : (now : ℕ) (w : World S B) (picks : List ℕ) → task_steps now (no_tasks w.nodes) picks ≡ []
  no_steps now w picks = ap (λ n. map (λ (one : ℕ × Task). task_done now one.0 one.1) (first_tasks n (no_tasks w.nodes) picks)) (none_count w.nodes)

  -- a world of which no task is left comes to what follows its round
  all_closed : (w : World S B) → AllByRecursion (IsDone r w.moment) w.nodes → Follow many (From r bus until w.stage (run_in w)) w.happened end → Comes w
  all_closed w done on = record {
    tasks = no_tasks w.nodes;
    afters = states w.nodes;
    rounds = on.rounds;
    picks = on.picks;
    left = none_left r w.moment w.nodes done;
    goes = subst (λ (s : RunState S B). From r bus until w.stage s on.rounds (run_in end)) (sym (ends_none bus (is_last w.stage) (run_in w) (no_tasks w.nodes) (states w.nodes) (none_count w.nodes) refl)) on.is;
    happens = on.happens
        ∙ ap (λ (l : List Step). w.happened ++ l)
        (ap (λ n. steps on.rounds (drop n on.picks)) (sym (none_count w.nodes)) ∙ ap (λ (l : List Step). l ++ steps on.rounds (picks_after (no_tasks w.nodes) on.picks)) (sym (no_steps w.moment w on.picks)));
    few = on.few;
  }

  -- ---- a task

  -- a place is the pick that names it
  place_named : (list : List ℕ) (place number : ℕ) → slice_get list place ≡ Some number → picked list place ≡ number
  place_named list place number at =
      let within = slice_get_within list place number at in
      let same : place % length list ≡ place = mod-eq_of_lt within in
      ap (λ (n : ℕ). unwrap_or (slice_get list n) 0) same ∙ ap (λ (o : Option ℕ). unwrap_or o 0) at

  task_comes : RequestsCommute bus → (w between : World S B) (number : ℕ) → length w.nodes ≡ many → DoesTask r bus number w between → Comes between → Comes w
  task_comes commute w between number long one comes =
      let after : Comes (record w { nodes = slice_set w.nodes number one.left; bus = _; stops = _; happened = w.happened ++ task_done w.moment number one.task ∷ [] }) = subst Comes one.stands comes in
      let put = left_put r w.moment one.task number w.nodes one.node one.left one.at one.does after.tasks after.afters after.left in
      let at = place_put 0 number one.task after.tasks put.1 in
      let list : List ℕ = nodes_with_tasks 0 (put_task number one.task after.tasks) in
      let here : slice_get list at.place ≡ Some number = at.at ∙ ap (λ n. Some n) (let e : 0 + number ≡ number = omega arith in e) in
      let within = slice_get_within w.nodes number one.node one.at in
      let most = at.at_most in
      record {
        tasks = put_task number one.task after.tasks;
        afters = after.afters;
        rounds = after.rounds;
        picks = at.place ∷ after.picks;
        left = put.0;
        goes = subst (λ (s : RunState S B). From r bus until w.stage s after.rounds (run_in end))
            (sym (ends_put bus commute (is_last w.stage) (run_in w) number one.task (states (slice_set w.nodes number one.left)) after.tasks after.afters put.1)) after.goes;
        happens = after.happens
            ∙ append_assoc w.happened (task_done w.moment number one.task ∷ []) (task_steps w.moment after.tasks after.picks ++ steps after.rounds (picks_after after.tasks after.picks))
            ∙ ap (λ (l : List Step). w.happened ++ l)
            (ap (λ (ps : List ℕ). task_done w.moment number one.task ∷ (task_steps w.moment after.tasks after.picks ++ steps after.rounds ps)) (sym (picks_put number one.task after.tasks (at.place ∷ after.picks) put.1))
            ∙ ap (λ (l : List Step). l ++ steps after.rounds (picks_after (put_task number one.task after.tasks) (at.place ∷ after.picks)))
            (sym (steps_put w.moment number one.task after.tasks (at.place ∷ after.picks) put.1 (place_named list at.place number here))));
        few = All-cons (λ pick. pick < many) at.place after.picks (omega (arith, most, within, long)) after.few;
      }

  -- ---- all moves

  -- a world behind which no move is possible is at its end
  over_comes : ((move : Move) → IsPossible r end move → ⊥) → Comes end
  over_comes over =
      let done = all_done r end.moment end.nodes (λ number. over (does_task number)) in
      let last : end.stage ≡ in_stop = last_of end.stage (λ further. over closes (done, further)) in
      all_closed end done (record {
        rounds = [];
        picks = [];
        is = subst (λ (stage : Stage). From r bus until stage (run_in end) [] (run_in end)) (sym last) (refl, refl);
        happens = sym (append-nil end.happened);
        few = All-nil (λ pick. pick < many);
      })

  found : RequestsCommute bus → ((move : Move) → IsPossible r end move → ⊥) → (w : World S B) (moves : List Move) → length w.nodes ≡ many → MoveAll r bus until w moves end → Comes w
  found commute over w [] long leads = subst Comes leads (over_comes over)
  found commute over w (does_task number ∷ moves) long leads =
      let between : World S B = leads.0 in
      let one = leads.1 in
      let still : length between.nodes ≡ many = ap (λ (v : World S B). length v.nodes) one.stands ∙ length-set w.nodes number one.left ∙ long in
      task_comes commute w between number long one (found commute over between moves still leads.2)
  found commute over w (closes ∷ moves) long leads =
      let between : World S B = leads.0 in
      let close = leads.1 in
      let still : length between.nodes ≡ many = after_long r bus until w.stage (run_in w) w.happened between close.begins ∙ length-map w.nodes (λ d. d.node) ∙ long in
      all_closed w close.done (round_follows w.stage (run_in w) w.happened between close.begins (found commute over between moves still leads.2))

-- picks that make an interleaving of a run, whose steps are then those of the run
pub record ByPicks {S B : Type 0} (r : Reacts S) (bus : BusMeaning B) (until : ℕ) (before : RunState S B) (many : ℕ) (end : World S B) : Type 0 where
  pub rounds : List Passed
  pub picks : List ℕ
  pub is_run : IsRun r bus until before rounds (run_in end)
  pub happens : end.happened ≡ steps rounds picks
  pub few : AreFew many picks

-- each interleaving from a new run has them
pub by_picks : {S B : Type 0} (r : Reacts S) (bus : BusMeaning B) (until : ℕ) → RequestsCommute bus → (nodes : List S) (b : B) (keys : List KeyItem) (requests : List Request) (moves : List Move) (end : World S B)
    → IsInterleaving r bus until (new_run nodes b keys requests) moves end → ByPicks r bus until (new_run nodes b keys requests) (length nodes) end
by_picks {S} {B} r bus until commute nodes b keys requests moves end inter =
    let s : RunState S B = new_run nodes b keys requests in
    let long : length (first_world r s).nodes ≡ length nodes = begun_long r rounds.PreStart None [] 0 nodes in
    let by = begun r bus until (length nodes) end in_pre_start None [] s [] (found r bus until (length nodes) end commute inter.is_over (first_world r s) moves long inter.leads) in
    let start = by.goes in
    record {
      rounds = quiet_round 0 by.tasks ∷ quiet_round 0 start.tasks ∷ start.more;
      picks = by.picks;
      is_run = record {
        first = quiet_round 0 by.tasks ∷ quiet_round 0 start.tasks ∷ [];
        begun = settled bus start.between;
        instants = start.goes_on.instants;
        last = start.goes_on.last;
        stop = start.goes_on.stop;
        begins = record {
          is_new = refl;
          before_start = by.tasks;
          between = after_round bus s by.tasks by.afters;
          start = start.tasks;
          end = start.between;
          pre_starts = record { nodes = by.afters; parts = by.parts; stands = refl };
          starts = start.is_round;
          stands = refl;
          are = refl;
        };
        goes = start.goes_on.goes;
        ending = start.goes_on.ending;
        are = ap (λ (more : List Passed). quiet_round 0 by.tasks ∷ quiet_round 0 start.tasks ∷ more) start.goes_on.are;
      };
      happens = by.happens ∙ ap (λ (l : List Passed). steps (quiet_round 0 by.tasks ∷ l) by.picks) start.are;
      few = by.few;
    }
