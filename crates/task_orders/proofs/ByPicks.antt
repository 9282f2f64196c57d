-- Each list of picks gives an interleaving of a run: round by round, nodes do their tasks in the order of the picks.
use Rattle.std.proofs.Common.{◌≡◌, inl, inr, ℕ, ◌<◌, true, false, List, [], ◌∷◌, ◌++◌, length, Option, None, Some, refl, ap, sym, subst, ◌∙◌}
use Rattle.std.specs.Prelude.{map, slice_set}
use Rattle.std.specs.List.{AllByRecursion, flat_map}
use Rattle.std.proofs.lemmas.List.{append-nil, append_assoc}
use Rattle.can_bus.specs.declared.bus.Ended.{Ended}
use Rattle.can_bus.specs.Laws.{RequestsCommute}
use Rattle.can_bus.specs.Meaning.{BusMeaning}
use Rattle.scenario.specs.declared.scenario.KeyItem.{KeyItem}
use Rattle.replay_node.specs.declared.replay.Request.{Request}
use Rattle.node_rounds.specs.declared.round.Round.TheVariants as rounds_of
use Rattle.node_rounds.specs.Reaction.{Reacts}
use Rattle.node_rounds.specs.Round.{IsDone, Task}
use Rattle.run_meaning.specs.Moments.{keys_at}
use Rattle.run_meaning.specs.Steps.{tasks_in_order, picks_after, task_count, Step, ended_steps, round_steps, steps, task_done, task_steps}
use Rattle.run_meaning.specs.Run.{AreInstants, AreParts, IsEnded, IsRound, IsRun, IsSecond, Passed, RunState, after_round, finished, new_run, quiet_round, settled}
use Rattle.run_meaning.proofs.Counts.{by_order}
use Rattle.run_meaning.proofs.OrderLemmas.{put_task}
use Rattle.task_orders.specs.Moves.{BeginsAfter, BeginsNext, BeginsSecond, IsInterleaving, IsPossible, Move, MoveAll, closes, does_task}
use Rattle.task_orders.specs.World.{Stage, World, after_task, at_round, first_world, in_first, in_pre_start, in_second, in_start, in_stop, is_last, round_of, run_in}
use Rattle.task_orders.proofs.Lefts.{AreLeft, left_none, parts_left, put_left, states}
use Rattle.task_orders.proofs.Worlds.{ends_none, ends_put, none_at, round_ends, run_at_round}

module _ {S B : Type 0} (r : Reacts S) (bus : BusMeaning B) (until : ℕ) where
  -- moves, and then further ones
  pub move_on : (w between end : World S B) (moves others : List Move) → MoveAll r bus until w moves between → MoveAll r bus until between others end → MoveAll r bus until w (moves ++ others) end
  move_on w between end [] others leads more = subst (λ v. MoveAll r bus until v others end) leads more
  move_on w between end (move ∷ moves) others leads more = (leads.0, leads.1, move_on leads.0 between end moves others leads.2 more)

  -- ---- the tasks of a round

  -- a world after tasks, each with the number of its node, that were all that nodes had left in the round
  record TasksMade (w : World S B) (tasks : List (List Task)) (afters : List S) (list : List (ℕ × Task)) : Type 0 where
    moves : List Move
    end : World S B
    leads : MoveAll r bus until w moves end
    happens : end.happened ≡ w.happened ++ map (λ one. task_done w.moment one.0 one.1) list
    stands : run_in end ≡ round_ends bus (is_last w.stage) (run_in w) tasks afters
    same_stage : end.stage ≡ w.stage
    done : AllByRecursion (IsDone r end.moment) end.nodes

  -- they can be done in this order from each world in which nodes have these left
  abbrev CanBeMade : List (List Task) → List (ℕ × Task) → Type 0
  CanBeMade tasks list = (w : World S B) (afters : List S) → AreLeft r w.moment w.nodes tasks afters → TasksMade w tasks afters list

  made_none : (tasks : List (List Task)) → task_count tasks ≡ 0 → CanBeMade tasks []
  made_none tasks none w afters left =
      let both = left_none r w.moment w.nodes tasks afters none left in
      record {
        moves = [];
        end = w;
        leads = refl;
        happens = sym (append-nil w.happened);
        stands = sym (ends_none bus (is_last w.stage) (run_in w) tasks afters none both.1);
        same_stage = refl;
        done = both.0;
      }

  made_more : RequestsCommute bus → (number : ℕ) (task : Task) (rest : List (List Task)) (list : List (ℕ × Task)) → number < length rest → CanBeMade rest list
      → CanBeMade (put_task number task rest) ((number, task) ∷ list)
  made_more commute number task rest list within known w afters left =
      let front = put_left r w.moment task number w.nodes rest afters within left in
      let next : World S B = after_task bus w number task front.after in
      let more = known next afters front.left in
      record {
        moves = does_task number ∷ more.moves;
        end = more.end;
        leads = (next, record { node = front.node; task = task; left = front.after; at = front.at; does = front.next; stands = refl }, more.leads);
        happens = more.happens ∙ append_assoc w.happened (task_done w.moment number task ∷ []) (map (λ (one : ℕ × Task). task_done w.moment one.0 one.1) list);
        stands = more.stands ∙ sym (ends_put bus commute (is_last w.stage) (run_in w) number task (states (slice_set w.nodes number front.after)) rest afters within);
        same_stage = more.same_stage;
        done = more.done;
      }

  -- in the order of picks
  tasks_made : RequestsCommute bus → (tasks : List (List Task)) (picks : List ℕ) → CanBeMade tasks (tasks_in_order tasks picks)
  tasks_made commute tasks picks = by_order CanBeMade made_none (made_more commute) tasks picks

  -- ---- a round from its beginning on

  -- a world in which no node has a task left of a round, whose steps have happened
  pub record RoundMade (stage : Stage) (ended : Option Ended) (keys : List ℕ) (s : RunState S B) (happened : List Step) (tasks : List (List Task)) (nodes : List S) (picks : List ℕ) : Type 0 where
    pub moves : List Move
    pub end : World S B
    pub leads : MoveAll r bus until (at_round r stage ended keys s happened) moves end
    pub happens : end.happened ≡ happened ++ round_steps (record { moment = s.moment; ended = ended; tasks = tasks }) picks
    pub stands : run_in end ≡ round_ends bus (is_last stage) s tasks nodes
    pub same_stage : end.stage ≡ stage
    pub done : AllByRecursion (IsDone r end.moment) end.nodes

  round_made : RequestsCommute bus → (stage : Stage) (ended : Option Ended) (keys : List ℕ) (s : RunState S B) (happened : List Step) (tasks : List (List Task)) (nodes : List S) (picks : List ℕ)
      → AreParts r (round_of stage) s.moment ended keys 0 s.nodes tasks nodes → RoundMade stage ended keys s happened tasks nodes picks
  round_made commute stage ended keys s happened tasks nodes picks parts =
      let w : World S B = at_round r stage ended keys s happened in
      let made = tasks_made commute tasks picks w nodes (parts_left r (round_of stage) s.moment ended keys 0 s.nodes tasks nodes parts) in
      record {
        moves = made.moves;
        end = made.end;
        leads = made.leads;
        happens = made.happens ∙ append_assoc happened (ended_steps s.moment ended) (task_steps s.moment tasks picks);
        stands = made.stands ∙ ap (λ (x : RunState S B). round_ends bus (is_last stage) x tasks nodes) (run_at_round bus r stage ended keys s happened);
        same_stage = made.same_stage;
        done = made.done;
      }

  -- ---- what follows

  -- from a world moves lead to the end of a run, and these steps happen
  pub record Made (w : World S B) (happened list : List Step) (last : RunState S B) : Type 0 where
    pub moves : List Move
    pub end : World S B
    pub leads : MoveAll r bus until w moves end
    pub happens : end.happened ≡ happened ++ list
    pub stands : run_in end ≡ last
    pub is_over : (move : Move) → IsPossible r end move → ⊥

  -- a round, and behind it what follows once it is closed
  closed_made : (stage : Stage) (ended : Option Ended) (keys : List ℕ) (s : RunState S B) (happened : List Step) (tasks : List (List Task)) (nodes : List S) (picks : List ℕ) (list : List Step) (last : RunState S B)
      → (made : RoundMade stage ended keys s happened tasks nodes picks) → (between : World S B) → BeginsAfter r bus until stage (round_ends bus (is_last stage) s tasks nodes) made.end.happened between
      → Made between made.end.happened list last
      → Made (at_round r stage ended keys s happened) happened (round_steps (record { moment = s.moment; ended = ended; tasks = tasks }) picks ++ list) last
  closed_made stage ended keys s happened tasks nodes picks list last made between begins more =
      let passed : Passed = record { moment = s.moment; ended = ended; tasks = tasks } in
      let follows : BeginsAfter r bus until made.end.stage (run_in made.end) made.end.happened between =
      subst (λ (x : RunState S B). BeginsAfter r bus until made.end.stage x made.end.happened between) (sym made.stands)
      (subst (λ (g : Stage). BeginsAfter r bus until g (round_ends bus (is_last stage) s tasks nodes) made.end.happened between) (sym made.same_stage) begins) in
      record {
        moves = made.moves ++ closes ∷ more.moves;
        end = more.end;
        leads = move_on (at_round r stage ended keys s happened) made.end more.end made.moves (closes ∷ more.moves) made.leads (between, record { done = made.done; begins = follows }, more.leads);
        happens = more.happens ∙ ap (λ (l : List Step). l ++ list) made.happens ∙ append_assoc happened (round_steps passed picks) list;
        stands = more.stands;
        is_over = more.is_over;
      }

  no_possible : (w : World S B) → w.stage ≡ in_stop → AllByRecursion (IsDone r w.moment) w.nodes → (move : Move) → IsPossible r w move → ⊥
  no_possible w stop done (does_task number) can = none_at r w.moment w.nodes number done can
  no_possible w stop done closes can = let e : true ≡ false = ap is_last (sym stop) ∙ can.1 in cc

  -- where an instant is over, a further one begins or the round of the stop, and so on to the end
  pub record NextMade (s : RunState S B) (happened list : List Step) (last : RunState S B) : Type 0 where
    pub between : World S B
    pub begins : BeginsNext r bus until s happened between
    pub made : Made between happened list last

  -- where the first round of an instant is over, the second begins, or what follows without one
  record SecondMade (ended : Option Ended) (s : RunState S B) (happened list : List Step) (last : RunState S B) : Type 0 where
    between : World S B
    begins : BeginsSecond r bus until ended s happened between
    made : Made between happened list last

  module _ (commute : RequestsCommute bus) where
    stop_made : (s last : RunState S B) (stop : List Passed) → IsEnded r bus until s stop last → (happened : List Step) (picks : List ℕ) → NextMade s happened (steps stop picks) last
    stop_made s last stop ending happened picks =
        let next : RunState S B = record s { moment = ending.moment } in
        let passed : Passed = quiet_round ending.moment ending.tasks in
        let made = round_made commute in_stop None [] next happened ending.tasks ending.nodes picks ending.parts in
        record {
          between = at_round r in_stop None [] next happened;
          begins = inr (record { moment = ending.moment; ends = ending.ends; stands = refl });
          made = record {
            moves = made.moves;
            end = made.end;
            leads = made.leads;
            happens = made.happens
                ∙ ap (λ (l : List Step). happened ++ l) (sym (append-nil (round_steps passed picks)) ∙ ap (λ (ps : List Passed). steps ps picks) (sym ending.are));
            stands = made.stands ∙ sym ending.stands;
            is_over = no_possible made.end made.same_stage made.done;
          };
        }

    -- a second round, or none, and what follows for whatever has happened then
    second_made : (ended : Option Ended) (s : RunState S B) (more : List Passed) (over last : RunState S B) → IsSecond r bus ended s more over → (rest : List Passed)
        → ((happened : List Step) (picks : List ℕ) → NextMade (settled bus over) happened (steps rest picks) last) → (happened : List Step) (picks : List ℕ)
        → SecondMade ended s happened (steps (more ++ rest) picks) last
    second_made None s more over last second rest follows happened picks =
        let next = subst (λ (x : RunState S B). NextMade (settled bus x) happened (steps rest picks) last) second.1 (follows happened picks) in
        record {
          between = next.between;
          begins = next.begins;
          made = subst (λ (ps : List Passed). Made next.between happened (steps (ps ++ rest) picks) last) (sym second.0) next.made;
        }
    second_made (Some ended) s more over last second rest follows happened picks =
        let tasks : List (List Task) = second.0 in
        let round = second.1 in
        let passed : Passed = record { moment = s.moment; ended = Some ended; tasks = tasks } in
        let made = round_made commute in_second (Some ended) [] s happened tasks round.nodes picks round.parts in
        let next = subst (λ (x : RunState S B). NextMade (settled bus x) made.end.happened (steps rest (picks_after tasks picks)) last) round.stands (follows made.end.happened (picks_after tasks picks)) in
        record {
          between = at_round r in_second (Some ended) [] s happened;
          begins = refl;
          made = subst (λ (ps : List Passed). Made (at_round r in_second (Some ended) [] s happened) happened (steps (ps ++ rest) picks) last) (sym second.2)
              (closed_made in_second (Some ended) [] s happened tasks round.nodes picks (steps rest (picks_after tasks picks)) last made next.between next.begins next.made);
        }

    -- instants, and the end
    instants_made : (instants : List (List Passed)) (s end last : RunState S B) (stop : List Passed) → AreInstants r bus until s instants end → IsEnded r bus until end stop last
        → (happened : List Step) (picks : List ℕ) → NextMade s happened (steps (flat_map (λ instant. instant) instants ++ stop) picks) last
    instants_made [] s end last stop are ending happened picks = stop_made s last stop (subst (λ (x : RunState S B). IsEnded r bus until x stop last) are ending) happened picks
    instants_made (rounds ∷ instants) s end last stop are ending happened picks =
        let one = are.1 in
        let now : ℕ = one.moment in
        let both = one.are_rounds in
        let ended : Option Ended = bus.ended s.bus now in
        let next : RunState S B = finished bus now s in
        let rest : List Passed = flat_map (λ (instant : List Passed). instant) instants ++ stop in
        let passed : Passed = record { moment = now; ended = ended; tasks = both.tasks } in
        let over : RunState S B = after_round bus next both.tasks both.first.nodes in
        let made = round_made commute in_first ended (keys_at now s.keys) next happened both.tasks both.first.nodes picks both.first.parts in
        let follows : (done : List Step) (ps : List ℕ) → NextMade (settled bus one.end) done (steps rest ps) last =
        λ done ps. instants_made instants (settled bus one.end) end last stop (subst (λ (x : RunState S B). AreInstants r bus until x instants end) one.stands are.2) ending done ps in
        let second : IsSecond r bus (bus.ended over.bus now) (finished bus now over) both.more one.end =
        subst (λ (x : RunState S B). IsSecond r bus (bus.ended x.bus now) (finished bus now x) both.more one.end) both.first.stands both.second in
        let more = second_made (bus.ended over.bus now) (finished bus now over) both.more one.end last second rest follows made.end.happened (picks_after both.tasks picks) in
        let first : World S B = at_round r in_first ended (keys_at now s.keys) next happened in
        let all : (passed ∷ both.more) ++ rest ≡ flat_map (λ (instant : List Passed). instant) (rounds ∷ instants) ++ stop =
        ap (λ (ps : List Passed). ps ++ rest) (sym both.are) ∙ sym (append_assoc rounds (flat_map (λ (instant : List Passed). instant) instants) stop) in
        record {
          between = first;
          begins = inl (record { moment = now; not_stopped = one.not_stopped; is_next = one.is_next; in_time = one.in_time; stands = refl });
          made = subst (λ (ps : List Passed). Made first happened (steps ps picks) last) all
              (closed_made in_first ended (keys_at now s.keys) next happened both.tasks both.first.nodes picks (steps (both.more ++ rest) (picks_after both.tasks picks)) last made more.between more.begins more.made);
        }

    -- all of a new run
    new_made : (nodes : List S) (b : B) (keys : List KeyItem) (requests : List Request) (rounds : List Passed) (last : RunState S B) → IsRun r bus until (new_run nodes b keys requests) rounds last → (picks : List ℕ)
        → Made (first_world r (new_run nodes b keys requests)) [] (steps rounds picks) last
    new_made nodes b keys requests rounds last run picks =
        let s : RunState S B = new_run nodes b keys requests in
        let begins = run.begins in
        let tasks : List (List Task) = begins.before_start in
        let over : RunState S B = after_round bus s tasks begins.pre_starts.nodes in
        let starts : IsRound r bus rounds_of.Start None (keys_at 0 keys) over begins.start begins.end =
        subst (λ (x : RunState S B). IsRound r bus rounds_of.Start None (keys_at 0 keys) x begins.start begins.end) begins.pre_starts.stands begins.starts in
        let made = round_made commute in_pre_start None [] s [] tasks begins.pre_starts.nodes picks begins.pre_starts.parts in
        let more : List ℕ = picks_after tasks picks in
        let behind : List ℕ = picks_after begins.start more in
        let start = round_made commute in_start None (keys_at 0 keys) over made.end.happened begins.start starts.nodes more starts.parts in
        let next : NextMade (settled bus begins.end) start.end.happened (steps (flat_map (λ (instant : List Passed). instant) run.instants ++ run.stop) behind) last =
        instants_made run.instants (settled bus begins.end) run.last last run.stop (subst (λ (x : RunState S B). AreInstants r bus until x run.instants run.last) begins.stands run.goes) run.ending start.end.happened behind in
        let later = subst (λ (x : RunState S B). NextMade (settled bus x) start.end.happened (steps (flat_map (λ (instant : List Passed). instant) run.instants ++ run.stop) behind) last) starts.stands next in
        let rest : List Passed = flat_map (λ (instant : List Passed). instant) run.instants ++ run.stop in
        let begun : List Passed = quiet_round 0 tasks ∷ quiet_round 0 begins.start ∷ [] in
        let all : begun ++ rest ≡ rounds = ap (λ (ps : List Passed). ps ++ rest) (sym begins.are) ∙ sym run.are in
        subst (λ (ps : List Passed). Made (first_world r s) [] (steps ps picks) last) all
        (closed_made in_pre_start None [] s [] tasks begins.pre_starts.nodes picks (steps (quiet_round 0 begins.start ∷ rest) more) last made
        (at_round r in_start None (keys_at 0 keys) over made.end.happened) refl
        (closed_made in_start None (keys_at 0 keys) over made.end.happened begins.start starts.nodes more (steps rest behind) last start later.between later.begins later.made))

    -- picks give an interleaving of a run
    pub by_run : (before : RunState S B) (rounds : List Passed) (last : RunState S B) → IsRun r bus until before rounds last → (picks : List ℕ)
        → (moves : List Move) × (end : World S B) × IsInterleaving r bus until before moves end × (end.happened ≡ steps rounds picks) × (run_in end ≡ last)
    by_run before rounds last run picks =
        let is : before ≡ new_run before.nodes before.bus before.keys before.requests = run.begins.is_new in
        let made = new_made before.nodes before.bus before.keys before.requests rounds last (subst (λ (x : RunState S B). IsRun r bus until x rounds last) is run) picks in (
          made.moves,
          made.end,
          record { leads = subst (λ (x : RunState S B). MoveAll r bus until (first_world r x) made.moves made.end) (sym is) made.leads; is_over = made.is_over },
          made.happens,
          made.stands,
        )
