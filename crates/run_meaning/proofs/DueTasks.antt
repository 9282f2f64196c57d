-- What nodes have left to do in a round is for their procedures, and for occurrences that there can be.
use Rattle.std.proofs.Common.{◌≡◌, ℕ, Bool, true, false, List, [], ◌∷◌, ◌++◌, map, slice_get, Contains, Option, None, Some, All, refl, ap, subst, arith}
use Rattle.std.specs.Prelude.{◌==◌, ⊤, if◌then◌else◌, IfSome}
use Rattle.std.specs.List.{AllByRecursion}
use Rattle.std.specs.Option.{option_map, MatchOption}
use Rattle.std.proofs.lemmas.List.Elements.{All-head, All-tail}
use Rattle.can_bus.specs.declared.bus.Ended.{Ended}
use Rattle.node_rounds.specs.declared.occurrence.Occurrence.{Occurrence}
use Rattle.node_rounds.specs.declared.occurrence.Occurrence.TheVariants as happens
use Rattle.node_rounds.specs.declared.occurrence.Trigger.{Trigger}
use Rattle.node_rounds.specs.declared.round.Round.{Round}
use Rattle.node_rounds.specs.declared.round.Round.TheVariants as rounds
use Rattle.node_rounds.specs.declared.round.Seen.{Seen}
use Rattle.node_rounds.specs.Follows.{IsFor}
use Rattle.node_rounds.specs.Round.{Rest, frame_triggers, key_triggers, next_first, next_last, timer_or_last, next_trigger, rest_of, timer_trigger, triggers}
use Rattle.node_rounds.proofs.FollowLemmas.{round_is}
use Rattle.run_meaning.specs.Live.{AreDue, CanBeSeen, IsDue}
use Rattle.run_meaning.specs.Run.{seen_by}

-- ---- the next of what is left

-- this is next, and that is left behind it
abbrev pub pair : Trigger → Rest → Trigger × Rest
pair trigger rest = (trigger, rest)

-- what was found to come next
abbrev pub found : Trigger → Rest → Option (Trigger × Rest)
found trigger rest = Some (pair trigger rest)

-- it is one
pub found_same : (one trigger : Trigger) (few rest : Rest) → found one few ≡ found trigger rest → (one ≡ trigger) × (few ≡ rest)
found_same one trigger few rest e =
    let both : pair one few ≡ pair trigger rest = cc in
    let first : Trigger × Rest → Trigger = λ x. x.0 in let second : Trigger × Rest → Rest = λ x. x.1 in (ap first both, ap second both)

-- something holds of each trigger that is left
abbrev HoldAll : (Trigger → Type 0) → Rest → Type 0
HoldAll P rest = AllByRecursion P rest.first × AllByRecursion P rest.last

-- and so of the next, and of those behind it
module _ (P : Trigger → Type 0) (trigger : Trigger) (rest : Rest) where
  next_holds : (one : Trigger) (few : Rest) → P one → HoldAll P few → found one few ≡ found trigger rest → P trigger × HoldAll P rest
  next_holds one few holds all e = let same = found_same one trigger few rest e in (subst P same.0 holds, subst (HoldAll P) same.1 all)

  last_holds : (few : Rest) (last : List Trigger) → AllByRecursion P few.first → AllByRecursion P last → next_last few last ≡ found trigger rest → P trigger × HoldAll P rest
  last_holds few [] first all e = absurd (let f : None ≡ found trigger rest = e in cc)
  last_holds few (one ∷ last) first all e = next_holds one (record few { last = last }) all.0 (first, all.1) e

  timer_holds : (due : Option Trigger) (few : Rest) → IfSome due P → HoldAll P few → timer_or_last few due ≡ found trigger rest → P trigger × HoldAll P rest
  timer_holds None few holds all e = last_holds few few.last all.0 all.1 e
  timer_holds (Some one) few holds all e = next_holds one few holds all e

  behind_holds : (asks : Bool) (due : Option Trigger) (few : Rest) → IfSome due P → HoldAll P few → (if asks then timer_or_last few due else next_last few few.last) ≡ found trigger rest
      → P trigger × HoldAll P rest
  behind_holds true due few holds all e = timer_holds due few holds all e
  behind_holds false due few holds all e = last_holds few few.last all.0 all.1 e

  first_holds : (due : Option Trigger) (few : Rest) (first : List Trigger) → IfSome due P → HoldAll P few → AllByRecursion P first → next_first few due first ≡ found trigger rest
      → P trigger × HoldAll P rest
  first_holds due few [] holds all none e = behind_holds few.asks_timers due few holds all e
  first_holds due few (one ∷ first) holds all more e = next_holds one (record few { first = first }) more.0 (more.1, all.1) e

  all_hold : (is_halted : Bool) (due : Option Trigger) (few : Rest) → IfSome due P → HoldAll P few → next_trigger is_halted due few ≡ found trigger rest → P trigger × HoldAll P rest
  all_hold true due few holds all e = absurd (let f : None ≡ found trigger rest = e in cc)
  all_hold false due few holds all e = first_holds due few few.first holds all all.0 e

-- the first of a list is in it
first_among : (xs : List ℕ) → MatchOption (slice_get xs 0) ⊤ (λ x. Contains xs x)
first_among [] = tt
first_among (x ∷ xs) = (0, omega arith, refl)

-- the trigger of a due timer is due, where there can be each timer
timer_due : (can : Occurrence → Type 0) → ((timer : ℕ) → can (happens.Timer timer)) → (procedures : Occurrence → List ℕ) (due : Option ℕ)
    → IfSome (option_map (timer_trigger procedures) due) (IsDue can procedures)
timer_due can timers procedures None = tt
timer_due can timers procedures (Some timer) = (first_among (procedures (happens.Timer timer)), timers timer)

-- where all that is left is due, so is what comes next and what is left behind it
pub trigger_due : (can : Occurrence → Type 0) → ((timer : ℕ) → can (happens.Timer timer)) → (procedures : Occurrence → List ℕ) (is_halted : Bool) (due : Option ℕ)
    (few : Rest) (trigger : Trigger) (rest : Rest) → AreDue can procedures few → next_trigger is_halted (option_map (timer_trigger procedures) due) few ≡ found trigger rest
    → IsDue can procedures trigger × AreDue can procedures rest
trigger_due can timers procedures is_halted due few trigger rest are e =
    all_hold (IsDue can procedures) trigger rest is_halted (option_map (timer_trigger procedures) due) few (timer_due can timers procedures due) are e

-- ---- what a round asks for

all_both : {A : Type 0} (P Q : A → Type 0) (xs : List A) → AllByRecursion P xs → AllByRecursion Q xs → AllByRecursion (λ x. P x × Q x) xs
all_both P Q [] one other = tt
all_both P Q (x ∷ xs) one other = ((one.0, other.0), all_both P Q xs one.1 other.1)

all_joined : {A : Type 0} (P : A → Type 0) (xs ys : List A) → AllByRecursion P xs → AllByRecursion P ys → AllByRecursion P (xs ++ ys)
all_joined P [] ys one other = other
all_joined P (x ∷ xs) ys one other = (one.0, all_joined P xs ys one.1 other)

module _ (can : Occurrence → Type 0) (procedures : Occurrence → List ℕ) where
  -- there can be the occurrence of a trigger
  abbrev Can : Trigger → Type 0
  Can trigger = can trigger.occurrence

  each_can : (occurrence : Occurrence) (few : List ℕ) → can occurrence → AllByRecursion Can (map (λ procedure. record { occurrence = occurrence; procedure = Some procedure }) few)
  each_can occurrence [] is = tt
  each_can occurrence (one ∷ few) is = (is, each_can occurrence few is)

  triggers_can : (occurrence : Occurrence) → can occurrence → AllByRecursion Can (triggers procedures occurrence)
  triggers_can occurrence is = each_can occurrence (procedures occurrence) is

  frame_can : (seen : Option Seen) → IfSome seen (λ x. can (happens.Frame x)) → AllByRecursion Can (frame_triggers procedures seen)
  frame_can None is = tt
  frame_can (Some seen) is = triggers_can (happens.Frame seen) is

  keys_can : (keys : List ℕ) → All (λ key. can (happens.Key key)) keys → AllByRecursion Can (key_triggers procedures keys)
  keys_can [] are = tt
  keys_can (key ∷ keys) are =
      all_joined Can (triggers procedures (happens.Key key)) (key_triggers procedures keys)
      (triggers_can (happens.Key key) (All-head (λ x. can (happens.Key x)) key keys are)) (keys_can keys (All-tail (λ x. can (happens.Key x)) key keys are))

  round_can : can happens.PreStart × can happens.Start × can happens.Stop × ((timer : ℕ) → can (happens.Timer timer)) → (round : Round) (seen : Option Seen) (keys : List ℕ)
      → IfSome seen (λ x. can (happens.Frame x)) → All (λ key. can (happens.Key key)) keys → HoldAll Can (rest_of procedures round seen keys)
  round_can plain rounds.PreStart seen keys frame are = (triggers_can happens.PreStart plain.0, tt)
  round_can plain rounds.Start seen keys frame are = (triggers_can happens.Start plain.1, keys_can keys are)
  round_can plain rounds.Moment seen keys frame are = (frame_can seen frame, keys_can keys are)
  round_can plain rounds.Stop seen keys frame are = (triggers_can happens.Stop plain.2, tt)

  -- what a node has to do in a round is due, where there can be the frame that it sees and the keys
  pub round_due : can happens.PreStart × can happens.Start × can happens.Stop × ((timer : ℕ) → can (happens.Timer timer)) → (round : Round) (seen : Option Seen) (keys : List ℕ)
      → IfSome seen (λ x. can (happens.Frame x)) → All (λ key. can (happens.Key key)) keys → AreDue can procedures (rest_of procedures round seen keys)
  round_due plain round seen keys frame are =
      let own = round_is procedures round seen keys in
      let able = round_can plain round seen keys frame are in
      let rest : Rest = rest_of procedures round seen keys in
      (all_both (IsFor procedures) Can rest.first own.0 able.0, all_both (IsFor procedures) Can rest.last own.1 able.1)

-- a node can see a frame that can be seen
pub seen_can : (can : Occurrence → Type 0) (number : ℕ) (ended : Option Ended) → IfSome ended (λ e. CanBeSeen can e.frame) → IfSome (seen_by number ended) (λ x. can (happens.Frame x))
seen_can can number None is = tt
seen_can can number (Some e) is = is (e.node == number)
