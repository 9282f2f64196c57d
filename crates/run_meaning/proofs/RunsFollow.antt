-- Where one reaction follows another, its runs have the same rounds.
use Rattle.std.proofs.Common.{◌≡◌, ℕ, ◌+◌, cond, Bool, List, [], ◌∷◌, Option, None, Some, length, refl, ap, sym, subst, ◌∙◌}
use Rattle.std.specs.List.{AllZip}
use Rattle.std.proofs.lemmas.Slice.Zip.{AllZip-long}
use Rattle.can_bus.specs.declared.bus.Ended.{Ended}
use Rattle.can_bus.specs.Meaning.{BusMeaning}
use Rattle.timer_queue.specs.Timers.{Timers, least_due}
use Rattle.node_rounds.specs.declared.round.Round.{Round}
use Rattle.node_rounds.specs.declared.round.Round.TheVariants as round_of
use Rattle.node_rounds.specs.Effects.{after_requests}
use Rattle.node_rounds.specs.Follows.{Follows}
use Rattle.node_rounds.specs.Reaction.{Reacts, next_due}
use Rattle.node_rounds.specs.Round.{Task}
use Rattle.node_rounds.proofs.FollowLemmas.{parts_follow}
use Rattle.run_meaning.specs.Live.{next_key, next_request}
use Rattle.run_meaning.specs.Moments.{keys_at, least, next_timer, requests_at}
use Rattle.run_meaning.specs.Rest.{RunsOn, rounds_left}
use Rattle.run_meaning.specs.Run.{AreInstants, AreParts, AreRounds, EndsAt, HasBegun, IsEnded, IsInstant, IsRound, IsRun, IsSecond, Passed, RunState, finished, next_instant, seen_by, settled, with_nodes}
use Rattle.run_meaning.proofs.RunParts.{run_of_parts, runs_on}

-- ---- moments

due_follows : {S T : Type 0} {related : S → T → Type 0} {r : Reacts S} {q : Reacts T} → Follows related r q → (s : S) (t : T) → related s t → next_due q t ≡ next_due r s
due_follows {r} {q} follows s t alike =
    ap (λ (b : Bool). cond b None (least_due (q.timers t).settings)) (follows.is_halted s t alike)
    ∙ ap (λ (x : Timers). cond (r.is_halted s) None (least_due x.settings)) (follows.timers s t alike)

timers_follow : {S T : Type 0} {related : S → T → Type 0} {r : Reacts S} {q : Reacts T} → Follows related r q → (ss : List S) (ts : List T) → AllZip related ss ts → next_timer q ts ≡ next_timer r ss
timers_follow follows [] [] alike = refl
timers_follow follows [] (t ∷ ts) alike = elim alike [ ]
timers_follow follows (s ∷ ss) [] alike = elim alike [ ]
timers_follow {r} {q} follows (s ∷ ss) (t ∷ ts) alike =
    ap (λ (o : Option ℕ). least o (next_timer q ts)) (due_follows follows s t alike.0) ∙ ap (least (next_due r s)) (timers_follow follows ss ts alike.1)

moment_follows : {S T B : Type 0} {related : S → T → Type 0} {r : Reacts S} {q : Reacts T} → Follows related r q → (bus : BusMeaning B) (s : RunState S B) (ts : List T) → AllZip related s.nodes ts
    → next_instant q bus (with_nodes s ts) ≡ next_instant r bus s
moment_follows follows bus s ts alike =
    ap (λ (o : Option ℕ). least (bus.next_moment s.bus) (least o (least (next_key s.keys) (next_request s.requests)))) (timers_follow follows s.nodes ts alike)

-- ---- rounds

all_parts_follow : {S T : Type 0} {related : S → T → Type 0} {r : Reacts S} {q : Reacts T} → Follows related r q → (round : Round) (now : ℕ) (ended : Option Ended) (keys : List ℕ) (number : ℕ)
    (ss : List S) (ts : List T) (tasks : List (List Task)) (afters : List S) → AllZip related ss ts → AreParts r round now ended keys number ss tasks afters
    → (ends : List T) × AreParts q round now ended keys number ts tasks ends × AllZip related afters ends
all_parts_follow follows round now ended keys number [] [] [] [] alike parts = ([], tt, tt)
all_parts_follow follows round now ended keys number (s ∷ ss) (t ∷ ts) (tasks ∷ others) (after ∷ afters) alike parts =
    let one = parts_follow follows round now (seen_by number ended) keys s t tasks after alike.0 parts.0 in
    let more = all_parts_follow follows round now ended keys (number + 1) ss ts others afters alike.1 parts.1 in
    (one.0 ∷ more.0, (one.1, more.1), (one.2, more.2))
all_parts_follow follows round now ended keys number [] (t ∷ ts) tasks afters alike parts = elim alike [ ]
all_parts_follow follows round now ended keys number (s ∷ ss) [] tasks afters alike parts = elim alike [ ]
all_parts_follow follows round now ended keys number [] [] [] (a ∷ afters) alike parts = elim parts [ ]
all_parts_follow follows round now ended keys number [] [] (own ∷ tasks) afters alike parts = elim parts [ ]
all_parts_follow follows round now ended keys number (s ∷ ss) (t ∷ ts) [] afters alike parts = elim parts [ ]
all_parts_follow follows round now ended keys number (s ∷ ss) (t ∷ ts) (own ∷ tasks) [] alike parts = elim parts [ ]

-- a round of all nodes is that of the others
pub round_follows : {S T B : Type 0} {related : S → T → Type 0} {r : Reacts S} {q : Reacts T} → Follows related r q → (bus : BusMeaning B) (round : Round) (ended : Option Ended) (keys : List ℕ)
    (s : RunState S B) (ts : List T) (tasks : List (List Task)) (after : RunState S B) → AllZip related s.nodes ts → IsRound r bus round ended keys s tasks after
    → (ends : List T) × IsRound q bus round ended keys (with_nodes s ts) tasks (with_nodes after ends) × AllZip related after.nodes ends
round_follows {S} {B} {related} follows bus round ended keys s ts tasks after alike is =
    let parts = all_parts_follow follows round s.moment ended keys 0 s.nodes ts tasks is.nodes alike is.parts in (
      parts.0,
      record { nodes = parts.0; parts = parts.1; stands = ap (λ (x : RunState S B). with_nodes x parts.0) is.stands },
      subst (λ (x : RunState S B). AllZip related x.nodes parts.0) (sym is.stands) parts.2,
    )

-- ---- instants

second_follows : {S T B : Type 0} {related : S → T → Type 0} {r : Reacts S} {q : Reacts T} → Follows related r q → (bus : BusMeaning B) (ended : Option Ended) (s : RunState S B) (ts : List T)
    (rounds : List Passed) (after : RunState S B) → AllZip related s.nodes ts → IsSecond r bus ended s rounds after
    → (ends : List T) × IsSecond q bus ended (with_nodes s ts) rounds (with_nodes after ends) × AllZip related after.nodes ends
second_follows {S} {B} {related} follows bus None s ts rounds after alike is =
    (ts, (is.0, ap (λ (x : RunState S B). with_nodes x ts) is.1), subst (λ (x : RunState S B). AllZip related x.nodes ts) (sym is.1) alike)
second_follows follows bus (Some ended) s ts rounds after alike is =
    let one = round_follows follows bus round_of.Moment (Some ended) [] s ts is.0 after alike is.1 in
    (one.0, (is.0, one.1, is.2), one.2)

rounds_follow : {S T B : Type 0} {related : S → T → Type 0} {r : Reacts S} {q : Reacts T} → Follows related r q → (bus : BusMeaning B) (now : ℕ) (s : RunState S B) (ts : List T)
    (rounds : List Passed) (after : RunState S B) → AllZip related s.nodes ts → AreRounds r bus now s rounds after
    → (ends : List T) × AreRounds q bus now (with_nodes s ts) rounds (with_nodes after ends) × AllZip related after.nodes ends
rounds_follow follows bus now s ts rounds after alike are =
    let one = round_follows follows bus round_of.Moment (bus.ended s.bus now) (keys_at now s.keys) (finished bus now s) ts are.tasks are.between alike are.first in
    let two = second_follows follows bus (bus.ended are.between.bus now) (finished bus now are.between) one.0 are.more after one.2 are.second in (
      two.0,
      record { tasks = are.tasks; between = with_nodes are.between one.0; more = are.more; first = one.1; second = two.1; are = are.are },
      two.2,
    )

-- what comes after the rounds is the same for as many nodes
settled_alike : {S T B : Type 0} (bus : BusMeaning B) (s after : RunState S B) (ts : List T) → length ts ≡ length s.nodes → after ≡ settled bus s → with_nodes after ts ≡ settled bus (with_nodes s ts)
settled_alike {S} {B} bus s after ts long is =
    ap (λ (x : RunState S B). with_nodes x ts) is
    ∙ ap (λ (n : ℕ). record (settled bus (with_nodes s ts)) { bus = bus.after_arbitration (after_requests bus.after_request s.bus n (requests_at s.moment s.requests)) s.moment }) (sym long)

instant_follows : {S T B : Type 0} {related : S → T → Type 0} {r : Reacts S} {q : Reacts T} → Follows related r q → (bus : BusMeaning B) (until : ℕ) (s : RunState S B) (rounds : List Passed)
    (after : RunState S B) (ts : List T) → AllZip related s.nodes ts → IsInstant r bus until s rounds after
    → (ends : List T) × IsInstant q bus until (with_nodes s ts) rounds (with_nodes after ends) × AllZip related after.nodes ends
instant_follows {S} {B} {related} follows bus until s rounds after ts alike instant =
    let more = rounds_follow follows bus instant.moment s ts rounds instant.end alike instant.are_rounds in (
      more.0,
      record {
        moment = instant.moment;
        end = with_nodes instant.end more.0;
        not_stopped = instant.not_stopped;
        is_next = moment_follows follows bus s ts alike ∙ instant.is_next;
        in_time = instant.in_time;
        are_rounds = more.1;
        stands = settled_alike bus instant.end after more.0 (AllZip-long related instant.end.nodes more.0 more.2) instant.stands;
      },
      subst (λ (x : RunState S B). AllZip related x.nodes more.0) (sym instant.stands) more.2,
    )

instants_follow : {S T B : Type 0} {related : S → T → Type 0} {r : Reacts S} {q : Reacts T} → Follows related r q → (bus : BusMeaning B) (until : ℕ) (s : RunState S B)
    (instants : List (List Passed)) (after : RunState S B) (ts : List T) → AllZip related s.nodes ts → AreInstants r bus until s instants after
    → (ends : List T) × AreInstants q bus until (with_nodes s ts) instants (with_nodes after ends) × AllZip related after.nodes ends
instants_follow {S} {B} {related} follows bus until s [] after ts alike same =
    (ts, ap (λ (x : RunState S B). with_nodes x ts) same, subst (λ (x : RunState S B). AllZip related x.nodes ts) (sym same) alike)
instants_follow follows bus until s (rounds ∷ instants) after ts alike are =
    let one = instant_follows follows bus until s rounds are.0 ts alike are.1 in
    let more = instants_follow follows bus until are.0 instants after one.0 one.2 are.2 in
    (more.0, (with_nodes are.0 one.0, one.1, more.1), more.2)

-- ---- runs

begun_follows : {S T B : Type 0} {related : S → T → Type 0} {r : Reacts S} {q : Reacts T} → Follows related r q → (bus : BusMeaning B) (s : RunState S B) (ts : List T) (rounds : List Passed)
    (after : RunState S B) → AllZip related s.nodes ts → HasBegun r bus s rounds after
    → (ends : List T) × HasBegun q bus (with_nodes s ts) rounds (with_nodes after ends) × AllZip related after.nodes ends
begun_follows {S} {B} {related} follows bus s ts rounds after alike begun =
    let first = round_follows follows bus round_of.PreStart None [] s ts begun.before_start begun.between alike begun.pre_starts in
    let second = round_follows follows bus round_of.Start None (keys_at 0 s.keys) begun.between first.0 begun.start begun.end first.2 begun.starts in (
      second.0,
      record {
        is_new = ap (λ (x : RunState S B). with_nodes x ts) begun.is_new;
        before_start = begun.before_start;
        between = with_nodes begun.between first.0;
        start = begun.start;
        end = with_nodes begun.end second.0;
        pre_starts = first.1;
        starts = second.1;
        stands = settled_alike bus begun.end after second.0 (AllZip-long related begun.end.nodes second.0 second.2) begun.stands;
        are = begun.are;
      },
      subst (λ (x : RunState S B). AllZip related x.nodes second.0) (sym begun.stands) second.2,
    )

ended_follows : {S T B : Type 0} {related : S → T → Type 0} {r : Reacts S} {q : Reacts T} → Follows related r q → (bus : BusMeaning B) (until : ℕ) (s : RunState S B) (ts : List T)
    (rounds : List Passed) (after : RunState S B) → AllZip related s.nodes ts → IsEnded r bus until s rounds after
    → (ends : List T) × IsEnded q bus until (with_nodes s ts) rounds (with_nodes after ends) × AllZip related after.nodes ends
ended_follows {S} {B} {related} follows bus until s ts rounds after alike ended =
    let parts = all_parts_follow follows round_of.Stop ended.moment None [] 0 s.nodes ts ended.tasks ended.nodes alike ended.parts in (
      parts.0,
      record {
        moment = ended.moment;
        tasks = ended.tasks;
        nodes = parts.0;
        ends = subst (λ (o : Option ℕ). EndsAt s.stops s.moment o until ended.moment) (sym (moment_follows follows bus s ts alike)) ended.ends;
        parts = parts.1;
        stands = ap (λ (x : RunState S B). with_nodes x parts.0) ended.stands;
        are = ended.are;
      },
      subst (λ (x : RunState S B). AllZip related x.nodes parts.0) (sym ended.stands) parts.2,
    )

goes_on_follows : {S T B : Type 0} {related : S → T → Type 0} {r : Reacts S} {q : Reacts T} → Follows related r q → (bus : BusMeaning B) (until : ℕ) (s : RunState S B) (ts : List T)
    (rounds : List Passed) (after : RunState S B) → AllZip related s.nodes ts → RunsOn r bus until s rounds after
    → (ends : List T) × RunsOn q bus until (with_nodes s ts) rounds (with_nodes after ends) × AllZip related after.nodes ends
goes_on_follows follows bus until s ts rounds after alike on =
    let more = instants_follow follows bus until s on.instants on.last ts alike on.goes in
    let end = ended_follows follows bus until on.last more.0 on.stop after more.2 on.ending in
    (end.0, record { instants = on.instants; last = with_nodes on.last more.0; stop = on.stop; goes = more.1; ending = end.1; are = on.are }, end.2)

-- the rounds are equal, and the nodes at the end related
pub runs_follow : {S T B : Type 0} {related : S → T → Type 0} {r : Reacts S} {q : Reacts T} → Follows related r q → (bus : BusMeaning B) (until : ℕ) (s after : RunState S B) (ts : List T)
    (rounds : List Passed) → AllZip related s.nodes ts → IsRun r bus until s rounds after
    → (ends : List T) × IsRun q bus until (with_nodes s ts) rounds (with_nodes after ends) × AllZip related after.nodes ends
runs_follow follows bus until s after ts rounds alike run =
    let one = begun_follows follows bus s ts run.first run.begun alike run.begins in
    let two = goes_on_follows follows bus until run.begun one.0 (rounds_left run) after one.2 (runs_on run) in
    (two.0, run_of_parts run.first (rounds_left run) (with_nodes run.begun one.0) one.1 two.1 run.are, two.2)
