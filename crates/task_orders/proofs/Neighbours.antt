-- Two neighbouring tasks of different nodes change places.
use Rattle.std.proofs.Common.{◌≡◌, ◌≢◌, ℕ, zero, suc, Bool, true, false, List, [], ◌∷◌, ◌++◌, Some, refl, ap, sym, subst, ◌∙◌}
use Rattle.std.specs.Prelude.{◌||◌, if◌then◌else◌, slice_get, slice_set}
use Rattle.std.proofs.lemmas.List.{append_assoc, set_comm}
use Rattle.can_bus.specs.Laws.{RequestsCommute}
use Rattle.can_bus.specs.Meaning.{BusMeaning}
use Rattle.can_frame.specs.Frame.{FrameFields}
use Rattle.node_rounds.specs.Effects.{after_requests}
use Rattle.node_rounds.specs.Reaction.{Reacts}
use Rattle.node_rounds.specs.Round.{Doing, DoesNext}
use Rattle.run_meaning.specs.Steps.{Step, task_done}
use Rattle.task_orders.specs.Moves.{DoesTask}
use Rattle.task_orders.specs.Values.{MayChangePlaces}
use Rattle.task_orders.specs.World.{World, after_task, is_last}

-- what stands at another place stays
get_set_other : {X : Type 0} (xs : List X) (i j : ℕ) (x : X) → i ≢ j → slice_get (slice_set xs i x) j ≡ slice_get xs j
get_set_other [] i j x differ = refl
get_set_other (y ∷ xs) zero zero x differ = absurd (differ refl)
get_set_other (y ∷ xs) zero (suc j) x differ = refl
get_set_other (y ∷ xs) (suc i) zero x differ = refl
get_set_other (y ∷ xs) (suc i) (suc j) x differ = get_set_other xs i j x (λ same. differ (ap suc same))

module _ {S B : Type 0} (r : Reacts S) (bus : BusMeaning B) (commute : RequestsCommute bus) where
  one_past : (b : B) (m n : ℕ) (f : FrameFields) (frames : List FrameFields) → m ≢ n
      → after_requests bus.after_request (bus.after_request b m f) n frames ≡ bus.after_request (after_requests bus.after_request b n frames) m f
  one_past b m n f [] differ = refl
  one_past b m n f (g ∷ frames) differ =
      ap (λ x. after_requests bus.after_request x n frames) (commute b m n f g differ) ∙ one_past (bus.after_request b n g) m n f frames differ

  -- the requests of two tasks may come to the bus in either order
  both_orders : (b : B) (m n : ℕ) (fs gs : List FrameFields) → m ≢ n
      → after_requests bus.after_request (after_requests bus.after_request b n gs) m fs ≡ after_requests bus.after_request (after_requests bus.after_request b m fs) n gs
  both_orders b m n [] gs differ = refl
  both_orders b m n (f ∷ fs) gs differ =
      ap (λ x. after_requests bus.after_request x m fs) (sym (one_past b m n f gs differ)) ∙ both_orders (bus.after_request b m f) m n fs gs differ

  either_bus : (last : Bool) (b : B) (m n : ℕ) (fs gs : List FrameFields) → m ≢ n
      → (if last then (if last then b else after_requests bus.after_request b n gs) else after_requests bus.after_request (if last then b else after_requests bus.after_request b n gs) m fs)
      ≡ (if last then (if last then b else after_requests bus.after_request b m fs) else after_requests bus.after_request (if last then b else after_requests bus.after_request b m fs) n gs)
  either_bus true b m n fs gs differ = refl
  either_bus false b m n fs gs differ = both_orders b m n fs gs differ

  or_swap : (a b c : Bool) → ((a || c) || b) ≡ ((a || b) || c)
  or_swap true b c = refl
  or_swap false true true = refl
  or_swap false true false = refl
  or_swap false false true = refl
  or_swap false false false = refl

  either_stop : (last a b c : Bool) → (if last then (if last then a else a || c) else (if last then a else a || c) || b) ≡ (if last then (if last then a else a || b) else (if last then a else a || b) || c)
  either_stop true a b c = refl
  either_stop false a b c = or_swap a b c

  -- a world, with other nodes, another bus, another wish to stop and other steps
  abbrev with_parts : World S B → List (Doing S) → B → Bool → List Step → World S B
  with_parts w nodes b stops happened = record w { nodes = nodes; bus = b; stops = stops; happened = happened }

  pub change_places : (first second : ℕ) (before between after : World S B) → first ≢ second → DoesTask r bus first before between → DoesTask r bus second between after
      → MayChangePlaces r bus first second before after
  change_places first second before between after differ one two =
      let now : ℕ = before.moment in
      let last : Bool = is_last before.stage in
      let done : Step = task_done now first one.task in
      let more : Step = task_done now second two.task in
      let other : World S B = after_task bus before second two.task two.left in
      let end : World S B = after_task bus other first one.task one.left in
      let through : World S B = after_task bus (after_task bus before first one.task one.left) second two.task two.left in
      let is_through : after ≡ through = two.stands ∙ ap (λ (w : World S B). after_task bus w second two.task two.left) one.stands in
      let at_second : slice_get before.nodes second ≡ Some two.node =
      sym (get_set_other before.nodes first second one.left differ) ∙ ap (λ (w : World S B). slice_get w.nodes second) (sym one.stands) ∙ two.at in
      let at_first : slice_get (slice_set before.nodes second two.left) first ≡ Some one.node = get_set_other before.nodes second first two.left (λ same. differ (sym same)) ∙ one.at in
      let does : DoesNext r now two.node two.task two.left = subst (λ (w : World S B). DoesNext r w.moment two.node two.task two.left) one.stands two.does in
      let nodes : end.nodes ≡ through.nodes = set_comm before.nodes second first two.left one.left (λ same. differ (sym same)) in
      let on_bus : end.bus ≡ through.bus = either_bus last before.bus first second one.task.requests two.task.requests differ in
      let wish : end.stops ≡ through.stops = either_stop last before.stops one.task.stops two.task.stops in
      let steps : List Step = before.happened ++ more ∷ done ∷ [] in
      let happens : end.happened ≡ steps = append_assoc before.happened (more ∷ []) (done ∷ []) in
      record {
        between = other;
        end = end;
        one = done;
        other = more;
        does_second = record { node = two.node; task = two.task; left = two.left; at = at_second; does = does; stands = refl };
        does_first = record { node = one.node; task = one.task; left = one.left; at = at_first; does = one.does; stands = refl };
        happened = ap (λ (w : World S B). w.happened) is_through ∙ append_assoc before.happened (done ∷ []) (more ∷ []);
        stands = ap (λ (ns : List (Doing S)). with_parts before ns end.bus end.stops end.happened) nodes
            ∙ ap (λ (b : B). with_parts before through.nodes b end.stops end.happened) on_bus
            ∙ ap (λ (s : Bool). with_parts before through.nodes through.bus s end.happened) wish
            ∙ ap (with_parts before through.nodes through.bus through.stops) happens
            ∙ ap (λ (w : World S B). record w { happened = steps }) (sym is_through);
      }
