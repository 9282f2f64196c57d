-- Where nodes do each task that they have, each has a part in each round, and is ready again after it.
use Rattle.std.proofs.Common.{◌≡◌, ℕ, zero, suc, ◌+◌, ◌<◌, ◌≤◌, ◌⊎◌, inl, inr, Bool, true, false, cond, List, [], ◌∷◌, length, Option, Some, None, All, MatchOption, refl, ap, sym, subst, ◌∙◌, arith}
use Rattle.std.specs.Prelude.{if◌then◌else◌, IfSome}
use Rattle.std.specs.List.{AllByRecursion}
use Rattle.std.specs.Option.{option_map}
use Rattle.std.proofs.lemmas.Bool.Decides.{leb_tells}
use Rattle.std.proofs.lemmas.List.Elements.{All-cons, All-contains, All-nil}
use Rattle.can_bus.specs.declared.bus.Ended.{Ended}
use Rattle.run_effects.specs.Effect.{Effect}
use Rattle.run_effects.specs.declared.event.Event.{Event}
use Rattle.timer_queue.specs.declared.setting.Setting.{Setting}
use Rattle.timer_queue.specs.Timers.{IsTimers, Timers, first_due, is_due}
use Rattle.node_rounds.specs.declared.occurrence.Occurrence.{Occurrence}
use Rattle.node_rounds.specs.declared.occurrence.Occurrence.TheVariants as happens
use Rattle.node_rounds.specs.declared.occurrence.Trigger.{Trigger}
use Rattle.node_rounds.specs.declared.round.Round.{Round}
use Rattle.node_rounds.specs.declared.round.Round.TheVariants as rounds
use Rattle.node_rounds.specs.declared.round.Seen.{Seen}
use Rattle.node_rounds.specs.Effects.{IsTimerEffect}
use Rattle.node_rounds.specs.Procedures.{procedures_for}
use Rattle.node_rounds.specs.Reaction.{AreSetLater, Done, DoesProcedure, NodeState, NoneOverdue, Runner, due_timer, reaction_of, timers_at_begin, without_procedure}
use Rattle.node_rounds.specs.Round.{Doing, DoesNext, IsDone, IsPart, PartOf, Rest, Task, at_begin, next_first, next_last, next_of, timer_or_last, next_trigger, rest_of, task_of, timer_trigger}
use Rattle.node_rounds.proofs.MovingTimers.{count_at_begin, reaction_moves_timers}
use Rattle.run_meaning.specs.Live.{AreDue, CanBeSeen, IsLater, IsLive, IsReady}
use Rattle.run_meaning.specs.Run.{AreParts, seen_by}
use Rattle.run_meaning.proofs.DueTasks.{found, found_same, round_due, seen_can, trigger_due}
use Rattle.run_meaning.proofs.DueTimers.{begin_dues, dues, effects_dues, taken_dues}
use Rattle.run_meaning.proofs.Occurring.{RequestsCan}

-- ---- what a task leaves

-- a task leaves no more timers due, and fewer where it is that of a due timer
record Leaves {M : Type 0} (now : ℕ) (s after : NodeState M) (occurrence : Occurrence) : Type 0 where
  no_more : dues now after.timers.settings ≤ dues now s.timers.settings
  fewer : (fired : Setting) → occurrence ≡ happens.Timer fired.timer → first_due s.timers.settings now ≡ Some fired → dues now after.timers.settings < dues now s.timers.settings

begin_fewer : (occurrence : Occurrence) (timer now : ℕ) (timers : Timers) → IsTimers timers → NoneOverdue now timers → (fired : Setting) → occurrence ≡ happens.Timer timer
    → first_due timers.settings now ≡ Some fired → dues now (timers_at_begin occurrence now timers).settings < dues now timers.settings
begin_fewer occurrence timer now timers valid on_time fired is found =
    subst (λ o. dues now (timers_at_begin o now timers).settings < dues now timers.settings) (sym is) (taken_dues now timers valid on_time fired found)

leaves_by : {M : Type 0} (runner : Runner M) (now : ℕ) (s : NodeState M) → IsTimers s.timers → NoneOverdue now s.timers → (occurrence : Occurrence) (done : Done (NodeState M)) (procedure : Option ℕ)
    → MatchOption procedure (done ≡ without_procedure s occurrence now) (λ p. DoesProcedure runner s p occurrence now done) → Leaves now s done.after occurrence
leaves_by {M} runner now s valid on_time occurrence done None does = subst (λ (d : Done (NodeState M)). Leaves now s d.after occurrence) (sym does) (record {
  no_more = begin_dues occurrence now s.timers valid on_time;
  fewer = λ fired is found. begin_fewer occurrence fired.timer now s.timers valid on_time fired is found;
})
leaves_by {M} runner now s valid on_time occurrence done (Some p) does =
    let begun : Timers = timers_at_begin occurrence now s.timers in
    let count : begun.count ≡ s.timers.count = count_at_begin occurrence now s.timers in
    let effects : List Effect = does.end.effects in
    let are : All (IsTimerEffect begun.count) effects = subst (λ n. All (IsTimerEffect n) effects) (sym count) does.timers in
    let fewer = effects_dues now effects begun are in
    let first = begin_dues occurrence now s.timers valid on_time in
    subst (λ (d : Done (NodeState M)). Leaves now s d.after occurrence) (sym does.is) (record {
      no_more = omega (arith, fewer, first);
      fewer = λ fired is found. let less = begin_fewer occurrence fired.timer now s.timers valid on_time fired is found in omega (arith, fewer, less);
    })

-- settings that are later stay so, and others that a task leaves are later
kept : (P : Setting → Type 0) (now : ℕ) (before after : Timers) → All P before.settings → ((x : Setting) → now < x.due → P x) → AreSetLater now before after → All P after.settings
kept P now before after all later are = λ k d within. elim (are k d within) [
  | inl among ↦ All-contains P before.settings _ all among
  | inr due ↦ later _ due
]

-- ---- the next of what is left

-- how many triggers are left
abbrev left : Rest → ℕ
left rest = length rest.first + length rest.last

-- fewer triggers are left, or a due timer was asked for and as many are
abbrev IsFewer : ℕ → Timers → Trigger → Rest → Rest → Type 0
IsFewer now timers trigger few rest = (left rest < left few) ⊎ ((rest ≡ few) × ((fired : Setting) × (first_due timers.settings now ≡ Some fired) × (trigger.occurrence ≡ happens.Timer fired.timer)))

last_fewer : (now : ℕ) (timers : Timers) (trigger : Trigger) (few rest : Rest) (last : List Trigger) → few.last ≡ last → next_last few last ≡ found trigger rest → IsFewer now timers trigger few rest
last_fewer now timers trigger few rest [] is e = absurd (let f : None ≡ found trigger rest = e in cc)
last_fewer now timers trigger few rest (one ∷ last) is e =
    let same : record few { last = last } ≡ rest = (found_same one trigger (record few { last = last }) rest e).1 in
    let long : length few.last ≡ suc (length last) = ap (λ (l : List Trigger). length l) is in
    inl (subst (λ r. left r < left few) same (omega (arith, long)))

timer_fewer : (procedures : Occurrence → List ℕ) (now : ℕ) (timers : Timers) (trigger : Trigger) (few rest : Rest) (o : Option Setting) → first_due timers.settings now ≡ o
    → timer_or_last few (option_map (timer_trigger procedures) (option_map (λ (x : Setting). x.timer) o)) ≡ found trigger rest → IsFewer now timers trigger few rest
timer_fewer procedures now timers trigger few rest None is e = last_fewer now timers trigger few rest few.last refl e
timer_fewer procedures now timers trigger few rest (Some fired) is e =
    let same = found_same (timer_trigger procedures fired.timer) trigger few rest e in
    inr (sym same.1, (fired, is, ap (λ (t : Trigger). t.occurrence) (sym same.0)))

first_fewer : (procedures : Occurrence → List ℕ) (now : ℕ) (timers : Timers) (trigger : Trigger) (few rest : Rest) (first : List Trigger) → few.first ≡ first
    → next_first few (option_map (timer_trigger procedures) (due_timer timers now)) first ≡ found trigger rest → IsFewer now timers trigger few rest
first_fewer procedures now timers trigger few rest [] is e = go few.asks_timers e
  where
    go : (b : Bool) → (if b then timer_or_last few (option_map (timer_trigger procedures) (due_timer timers now)) else next_last few few.last) ≡ found trigger rest → IsFewer now timers trigger few rest
    go true e = timer_fewer procedures now timers trigger few rest (first_due timers.settings now) refl e
    go false e = last_fewer now timers trigger few rest few.last refl e
first_fewer procedures now timers trigger few rest (one ∷ first) is e =
    let same : record few { first = first } ≡ rest = (found_same one trigger (record few { first = first }) rest e).1 in
    let long : length few.first ≡ suc (length first) = ap (λ (l : List Trigger). length l) is in
    inl (subst (λ r. left r < left few) same (omega (arith, long)))

next_fewer : (procedures : Occurrence → List ℕ) (now : ℕ) (timers : Timers) (is_halted : Bool) (trigger : Trigger) (few rest : Rest)
    → next_trigger is_halted (option_map (timer_trigger procedures) (due_timer timers now)) few ≡ found trigger rest → (is_halted ≡ false) × IsFewer now timers trigger few rest
next_fewer procedures now timers true trigger few rest e = absurd (let f : None ≡ found trigger rest = e in cc)
next_fewer procedures now timers false trigger few rest e = (refl, first_fewer procedures now timers trigger few rest few.first refl e)

-- a round that asks for timers goes on asking
asks_last : (few rest : Rest) (trigger : Trigger) (last : List Trigger) → next_last few last ≡ found trigger rest → rest.asks_timers ≡ few.asks_timers
asks_last few rest trigger [] e = absurd (let f : None ≡ found trigger rest = e in cc)
asks_last few rest trigger (one ∷ last) e = ap (λ (r : Rest). r.asks_timers) (sym (found_same one trigger (record few { last = last }) rest e).1)

asks_timer : (few rest : Rest) (trigger : Trigger) (due : Option Trigger) → timer_or_last few due ≡ found trigger rest → rest.asks_timers ≡ few.asks_timers
asks_timer few rest trigger None e = asks_last few rest trigger few.last e
asks_timer few rest trigger (Some one) e = ap (λ (r : Rest). r.asks_timers) (sym (found_same one trigger few rest e).1)

asks_first : (few rest : Rest) (trigger : Trigger) (due : Option Trigger) (first : List Trigger) → next_first few due first ≡ found trigger rest → rest.asks_timers ≡ few.asks_timers
asks_first few rest trigger due [] e = go few.asks_timers e
  where
    go : (b : Bool) → (if b then timer_or_last few due else next_last few few.last) ≡ found trigger rest → rest.asks_timers ≡ few.asks_timers
    go true e = asks_timer few rest trigger due e
    go false e = asks_last few rest trigger few.last e
asks_first few rest trigger due (one ∷ first) e = ap (λ (r : Rest). r.asks_timers) (sym (found_same one trigger (record few { first = first }) rest e).1)

asks_next : (is_halted : Bool) (few rest : Rest) (trigger : Trigger) (due : Option Trigger) → next_trigger is_halted due few ≡ found trigger rest → rest.asks_timers ≡ few.asks_timers
asks_next true few rest trigger due e = absurd (let f : None ≡ found trigger rest = e in cc)
asks_next false few rest trigger due e = asks_first few rest trigger due few.first e

-- where nothing is next in a round that asks for timers, none is due
none_due : (now : ℕ) (settings : List Setting) → first_due settings now ≡ None → All (λ x. now < x.due) settings
none_due now [] is = All-nil (λ x. now < x.due)
none_due now (s ∷ settings) is = go (is_due now s) refl is (λ e. none_due now settings e)
  where
    go : (b : Bool) → is_due now s ≡ b → cond b (Some s) (first_due settings now) ≡ None → (first_due settings now ≡ None → All (λ x. now < x.due) settings) → All (λ x. now < x.due) (s ∷ settings)
    go true due e more = absurd (let f : Some s ≡ None = e in cc)
    go false late e more = All-cons (λ x. now < x.due) s settings
        (elim (leb_tells s.due now) [ inl due ↦ absurd (let f : true ≡ false = sym due.0 ∙ late in cc) | inr later ↦ later.1 ]) (more e)

done_first : (procedures : Occurrence → List ℕ) (few : Rest) (first : List Trigger) (o : Option Setting) → few.asks_timers ≡ true
    → next_first few (option_map (timer_trigger procedures) (option_map (λ (x : Setting). x.timer) o)) first ≡ None → o ≡ None
done_first procedures few (one ∷ first) o asks e = absurd (let f : found one (record few { first = first }) ≡ None = e in cc)
done_first procedures few [] None asks e = refl
done_first procedures few [] (Some fired) asks e =
    absurd (let f : found (timer_trigger procedures fired.timer) few ≡ None =
    ap (λ b. if b then found (timer_trigger procedures fired.timer) few else next_last few few.last) (sym asks) ∙ e in cc)

-- a node that has done all its tasks in a round that asks for timers has no timer that is due
pub done_later : {M : Type 0} (runner : Runner M) (now : ℕ) (d : Doing (NodeState M)) → d.rest.asks_timers ≡ true → IsDone (reaction_of runner) now d → IsLater now d.node
done_later runner now d asks done alive =
    let own : Occurrence → List ℕ = (reaction_of runner).procedures d.node in
    let open_ : next_trigger false (option_map (timer_trigger own) (due_timer d.node.timers now)) d.rest ≡ None =
    ap (λ b. next_trigger b (option_map (timer_trigger own) (due_timer d.node.timers now)) d.rest) (sym alive) ∙ done in
    none_due now d.node.timers.settings (done_first own d.rest d.rest.first (first_due d.node.timers.settings now) asks open_)

-- the end of a part has no further task
pub part_done : {X : Type 0} (does : X → Task → X → Type 0) (is_done : X → Type 0) (d : X) (tasks : List Task) (end : X) → PartOf does is_done d tasks end → is_done end
part_done does is_done d [] end part = subst is_done (sym part.1) part.0
part_done does is_done d (task ∷ tasks) end part = part_done does is_done part.0 tasks end part.2

-- ---- nodes that do each task

-- where tasks lead: the node is ready again, its timers are later if they were, and timers are asked for as before
pub record Leads {M : Type 0} (runner : Runner M) (sound : NodeState M → Type 0) (can : Occurrence → Type 0) (now : ℕ) (d after : Doing (NodeState M)) : Type 0 where
  pub ready : IsReady sound now after.node
  pub own : AreDue can ((reaction_of runner).procedures after.node) after.rest
  pub stays_later : IsLater now d.node → IsLater now after.node
  pub asks : after.rest.asks_timers ≡ d.rest.asks_timers

-- how much a node has left to do
abbrev pub to_do : {M : Type 0} → ℕ → Doing (NodeState M) → ℕ
to_do {M} now d = left d.rest + dues now d.node.timers.settings

module _ {M : Type 0} (runner : Runner M) (sound : NodeState M → Type 0) (can : Occurrence → Type 0) (live : IsLive runner sound can) where
  -- a task that was done leaves a node ready
  does_ready : (now : ℕ) (s : NodeState M) (trigger : Trigger) (done : Done (NodeState M)) → IsReady sound now s → s.is_halted ≡ false
      → (reaction_of runner).does s trigger now done → IsReady sound now done.after × (IsLater now s → IsLater now done.after)
  does_ready now s trigger done ready alive does =
      let valid = live.timers s ready.is_sound in
      let on_time = ready.on_time alive in
      let later : AreSetLater now s.timers done.after.timers = (reaction_moves_timers runner).later s trigger now done valid on_time does in (
        record {
          is_sound = live.stays s trigger now done ready.is_sound does;
          on_time = λ halted. kept (λ x. now ≤ x.due) now s.timers done.after.timers on_time (λ x h. omega (arith, h)) later;
        },
        λ before halted. kept (λ x. now < x.due) now s.timers done.after.timers (before alive) (λ x h. h) later,
      )

  -- a node is ready after its next task, if it was before
  pub next_ready : (now : ℕ) (d : Doing (NodeState M)) (task : Task) (after : Doing (NodeState M)) → IsReady sound now d.node
      → AreDue can ((reaction_of runner).procedures d.node) d.rest → DoesNext (reaction_of runner) now d task after → Leads runner sound can now d after
  next_ready now d task after ready own next =
      let s = d.node in
      let procedures : Occurrence → List ℕ = (reaction_of runner).procedures s in
      let first = next_fewer procedures now s.timers s.is_halted next.trigger d.rest after.rest next.is_next in
      let mine = trigger_due can live.plain.3 procedures s.is_halted (due_timer s.timers now) d.rest next.trigger after.rest own next.is_next in
      let leaves = does_ready now s next.trigger next.done ready first.0 next.does in
      let events : runner.events after.node.memory ≡ runner.events s.memory =
      ap (λ (x : NodeState M). runner.events x.memory) next.stands ∙ live.events s next.trigger now next.done ready.is_sound next.does in
      record {
        ready = subst (IsReady sound now) (sym next.stands) leaves.0;
        own = subst (λ (es : List Event). AreDue can (λ o. procedures_for es o) after.rest) (sym events) mine.1;
        stays_later = λ later. subst (λ (x : NodeState M). IsLater now x) (sym next.stands) (leaves.1 later);
        asks = asks_next s.is_halted d.rest after.rest next.trigger (option_map (timer_trigger procedures) (due_timer s.timers now)) next.is_next;
      }

  -- tasks in a row, of a node that is ready, leave it ready
  pub leads_ready : (now : ℕ) (is_done : Doing (NodeState M) → Type 0) (d : Doing (NodeState M)) (tasks : List Task) (end : Doing (NodeState M)) → IsReady sound now d.node
      → AreDue can ((reaction_of runner).procedures d.node) d.rest → PartOf (DoesNext (reaction_of runner) now) is_done d tasks end → Leads runner sound can now d end
  leads_ready now is_done d [] end ready own part =
      subst (λ (e : Doing (NodeState M)). Leads runner sound can now d e) (sym part.1) (record { ready = ready; own = own; stays_later = λ later. later; asks = refl })
  leads_ready now is_done d (task ∷ tasks) end ready own part =
      let one = next_ready now d task part.0 ready own part.1 in
      let more = leads_ready now is_done part.0 tasks end one.ready one.own part.2 in
      record {
        ready = more.ready;
        own = more.own;
        stays_later = λ later. more.stays_later (one.stays_later later);
        asks = more.asks ∙ one.asks;
      }

  -- the frames that a node asks for in its next task can be seen
  pub next_asks : (now : ℕ) (d : Doing (NodeState M)) (task : Task) (after : Doing (NodeState M)) → IsReady sound now d.node
      → DoesNext (reaction_of runner) now d task after → RequestsCan can task
  next_asks now d task after ready next =
      subst (RequestsCan can) (sym next.is_task) (live.asks d.node next.trigger now next.done ready.is_sound next.does)

  -- and in tasks in a row
  pub leads_ask : (now : ℕ) (is_done : Doing (NodeState M) → Type 0) (d : Doing (NodeState M)) (tasks : List Task) (end : Doing (NodeState M)) → IsReady sound now d.node
      → AreDue can ((reaction_of runner).procedures d.node) d.rest → PartOf (DoesNext (reaction_of runner) now) is_done d tasks end → AllByRecursion (RequestsCan can) tasks
  leads_ask now is_done d [] end ready own part = tt
  leads_ask now is_done d (task ∷ tasks) end ready own part =
      let one = next_ready now d task part.0 ready own part.1 in
      (next_asks now d task part.0 ready part.1, leads_ask now is_done part.0 tasks end one.ready one.own part.2)

  -- each task leaves less to do
  pub next_less : (now : ℕ) (d : Doing (NodeState M)) (task : Task) (after : Doing (NodeState M)) → IsReady sound now d.node
      → AreDue can ((reaction_of runner).procedures d.node) d.rest → DoesNext (reaction_of runner) now d task after → to_do now after < to_do now d
  next_less now d task after ready own next =
      let s = d.node in
      let first = next_fewer ((reaction_of runner).procedures s) now s.timers s.is_halted next.trigger d.rest after.rest next.is_next in
      let leaves = leaves_by runner now s (live.timers s ready.is_sound) (ready.on_time first.0) next.trigger.occurrence next.done next.trigger.procedure next.does in
      let no_more : dues now after.node.timers.settings ≤ dues now s.timers.settings =
      subst (λ (x : NodeState M). dues now x.timers.settings ≤ dues now s.timers.settings) (sym next.stands) leaves.no_more in
      elim first.1 [
        | inl fewer ↦ omega (arith, fewer, no_more)
        | inr timer ↦
            let fewer : dues now after.node.timers.settings < dues now s.timers.settings =
            subst (λ (x : NodeState M). dues now x.timers.settings < dues now s.timers.settings) (sym next.stands) (leaves.fewer timer.1.0 timer.1.2 timer.1.1) in
            let same : left after.rest ≡ left d.rest = ap left timer.0 in omega (arith, fewer, same)
      ]

  -- a next task of a node, and where it leads
  pub record NextThere (now : ℕ) (d : Doing (NodeState M)) : Type 0 where
    pub task : Task
    pub after : Doing (NodeState M)
    pub next : DoesNext (reaction_of runner) now d task after
    pub less : to_do now after < to_do now d

  pub next_there : (now : ℕ) (d : Doing (NodeState M)) → IsReady sound now d.node → AreDue can ((reaction_of runner).procedures d.node) d.rest → (trigger : Trigger) (rest : Rest)
      → next_of (reaction_of runner) now d ≡ found trigger rest → NextThere now d
  next_there now d ready own trigger rest is =
      let s = d.node in
      let procedures : Occurrence → List ℕ = (reaction_of runner).procedures s in
      let mine = trigger_due can live.plain.3 procedures s.is_halted (due_timer s.timers now) d.rest trigger rest own is in
      let done = live.does s trigger now ready.is_sound mine.0.1 mine.0.0 in
      let next : DoesNext (reaction_of runner) now d (task_of trigger done.0) (record { node = done.0.after; rest = rest }) =
      record { trigger = trigger; done = done.0; is_next = is; does = done.1; is_task = refl; stands = refl } in
      record {
        task = task_of trigger done.0;
        after = record { node = done.0.after; rest = rest };
        next = next;
        less = next_less now d (task_of trigger done.0) (record { node = done.0.after; rest = rest }) ready own next;
      }

  -- the tasks that a node has left, and where they lead
  abbrev PartThere : ℕ → Doing (NodeState M) → Type 0
  PartThere now d = (tasks : List Task) × (end : Doing (NodeState M)) × PartOf (DoesNext (reaction_of runner) now) (IsDone (reaction_of runner) now) d tasks end

  -- a node has a part, where it has no more left to do than a number
  part_there : (fuel now : ℕ) (d : Doing (NodeState M)) → IsReady sound now d.node → AreDue can ((reaction_of runner).procedures d.node) d.rest → to_do now d ≤ fuel → PartThere now d
  part_there zero now d ready own few = go (next_of (reaction_of runner) now d) refl
    where
      go : (o : Option (Trigger × Rest)) → next_of (reaction_of runner) now d ≡ o → PartThere now d
      go None is = ([], d, (is, refl))
      go (Some next) is = absurd (let one = next_there now d ready own next.0 next.1 is in let less = one.less in omega (arith, less, few))
  part_there (suc fuel) now d ready own few = go (λ e ready own few. part_there fuel now e ready own few) (next_of (reaction_of runner) now d) refl
    where
      go : ((e : Doing (NodeState M)) → IsReady sound now e.node → AreDue can ((reaction_of runner).procedures e.node) e.rest → to_do now e ≤ fuel → PartThere now e)
          → (o : Option (Trigger × Rest)) → next_of (reaction_of runner) now d ≡ o → PartThere now d
      go more None is = ([], d, (is, refl))
      go more (Some next) is =
          let one = next_there now d ready own next.0 next.1 is in
          let less = one.less in
          let leads = next_ready now d one.task one.after ready own one.next in
          let rest = more one.after leads.ready leads.own (omega (arith, less, few)) in
          (one.task ∷ rest.0, rest.1, (one.after, one.next, rest.2))

  -- a ready node in a round does all that it has left to do
  pub left_there : (now : ℕ) (d : Doing (NodeState M)) → IsReady sound now d.node → AreDue can ((reaction_of runner).procedures d.node) d.rest
      → (tasks : List Task) × (end : Doing (NodeState M)) × PartOf (DoesNext (reaction_of runner) now) (IsDone (reaction_of runner) now) d tasks end
  left_there now d ready own = part_there (to_do now d) now d ready own (omega arith)

  -- ---- parts of rounds

  -- a part of a round leaves a ready node ready, and in a round of a moment with all timers later; the frames that
  -- it asks for can be seen
  pub part_ready : (round : Round) (now : ℕ) (seen : Option Seen) (keys : List ℕ) (s : NodeState M) (tasks : List Task) (after : NodeState M)
      → IfSome seen (λ x. can (happens.Frame x)) → All (λ key. can (happens.Key key)) keys → IsReady sound now s
      → IsPart (reaction_of runner) round now seen keys s tasks after
      → IsReady sound now after × (IsLater now s → IsLater now after) × (round ≡ rounds.Moment → IsLater now after) × AllByRecursion (RequestsCan can) tasks
  part_ready round now seen keys s tasks after frame_can keys_can ready part =
      let procedures : Occurrence → List ℕ = (reaction_of runner).procedures s in
      let begun : Doing (NodeState M) = at_begin (reaction_of runner) round seen keys s in
      let due = round_due can procedures live.plain round seen keys frame_can keys_can in
      let leads = leads_ready now (IsDone (reaction_of runner) now) begun tasks part.end ready due part.part in
      let done = part_done (DoesNext (reaction_of runner) now) (IsDone (reaction_of runner) now) begun tasks part.end part.part in (
        subst (IsReady sound now) (sym part.stands) leads.ready,
        λ later. subst (λ (x : NodeState M). IsLater now x) (sym part.stands) (leads.stays_later later),
        λ is. subst (λ (x : NodeState M). IsLater now x) (sym part.stands)
            (done_later runner now part.end (leads.asks ∙ ap (λ r. (rest_of procedures r seen keys).asks_timers) is) done),
        leads_ask now (IsDone (reaction_of runner) now) begun tasks part.end ready due part.part,
      )

  -- each node has a part in a round
  pub parts_there : (round : Round) (now : ℕ) (ended : Option Ended) (keys : List ℕ) (number : ℕ) (nodes : List (NodeState M))
      → IfSome ended (λ e. CanBeSeen can e.frame) → All (λ key. can (happens.Key key)) keys → AllByRecursion (IsReady sound now) nodes
      → (tasks : List (List Task)) × (afters : List (NodeState M)) × AreParts (reaction_of runner) round now ended keys number nodes tasks afters
  parts_there round now ended keys number [] frame_can keys_can ready = ([], [], tt)
  parts_there round now ended keys number (s ∷ nodes) frame_can keys_can ready =
      let seen : Option Seen = seen_by number ended in
      let due = round_due can ((reaction_of runner).procedures s) live.plain round seen keys (seen_can can number ended frame_can) keys_can in
      let one = left_there now (at_begin (reaction_of runner) round seen keys s) ready.0 due in
      let more = parts_there round now ended keys (number + 1) nodes frame_can keys_can ready.1 in
      (one.0 ∷ more.0, one.1.node ∷ more.1, (record { end = one.1; part = one.2; stands = refl }, more.2))

  -- the parts of a round leave ready nodes ready, and in a round of a moment with all timers later; the frames that
  -- they ask for can be seen
  pub parts_ready : (round : Round) (now : ℕ) (ended : Option Ended) (keys : List ℕ) (number : ℕ) (nodes : List (NodeState M)) (tasks : List (List Task)) (afters : List (NodeState M))
      → IfSome ended (λ e. CanBeSeen can e.frame) → All (λ key. can (happens.Key key)) keys → AllByRecursion (IsReady sound now) nodes
      → AreParts (reaction_of runner) round now ended keys number nodes tasks afters
      → AllByRecursion (IsReady sound now) afters × (AllByRecursion (IsLater now) nodes → AllByRecursion (IsLater now) afters)
      × (round ≡ rounds.Moment → AllByRecursion (IsLater now) afters) × AllByRecursion (AllByRecursion (RequestsCan can)) tasks
  parts_ready round now ended keys number [] [] [] frame_can keys_can ready parts = (tt, λ later. tt, λ is. tt, tt)
  parts_ready round now ended keys number [] [] (a ∷ as_) frame_can keys_can ready parts = absurd parts
  parts_ready round now ended keys number [] (t ∷ ts) afters frame_can keys_can ready parts = absurd parts
  parts_ready round now ended keys number (s ∷ nodes) [] afters frame_can keys_can ready parts = absurd parts
  parts_ready round now ended keys number (s ∷ nodes) (t ∷ ts) [] frame_can keys_can ready parts = absurd parts
  parts_ready round now ended keys number (s ∷ nodes) (own ∷ tasks) (after ∷ afters) frame_can keys_can ready parts =
      let one = part_ready round now (seen_by number ended) keys s own after (seen_can can number ended frame_can) keys_can ready.0 parts.0 in
      let more = parts_ready round now ended keys (number + 1) nodes tasks afters frame_can keys_can ready.1 parts.1 in (
        (one.0, more.0),
        λ later. (one.1 later.0, more.1 later.1),
        λ is. (one.2 is, more.2 is),
        (one.3, more.3),
      )
