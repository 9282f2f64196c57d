-- The runs of selectors, and which of a run holds a key.
use Rattle.std.proofs.Common.{◌≡◌, ℕ, suc, ◌+◌, ◌-◌, ◌<◌, ◌≤◌, leb, Bool, List, [], ◌∷◌, ◌++◌, length, get_or, Option, IfSome, IfNone, take, drop, true, false, inl, inr, arith, refl, ap, sym, subst, ◌∙◌}
use Rattle.std.proofs.lemmas.Bool.{cases_Bool, cases_lt, leb-true, le-leb}
use Rattle.std.proofs.lemmas.List.{get_or_default, get_or-take, get_or-drop, length-take, length-drop}
use Rattle.std.proofs.lemmas.List.Sorted.{IsPartitionedBy-leb}
use Rattle.std.proofs.Math.Seq.{drop-cons}
use Rattle.std.specs.Bool.{then_some}
use Rattle.std.specs.List.{AllWithin}
use Rattle.std.specs.List.Sorted.{IsPartitionPoint, IsPartitionedBy}
use Rattle.msg_select.specs.declared.selector.MessageSelector.{MessageSelector}
use Rattle.msg_select.specs.Selection.{Holds, NoneHolds}
use Rattle.msg_select.specs.Inside.Selectors.{AreRuns, IsBehind, IsFirstHolder, IsRun, IsRunWithin}

-- whether a selector begins at the key or before
abbrev pub begins : ℕ → MessageSelector → Bool
begins key s = leb s.low key

-- the least keys of a run rise, so those that are at most a key come first
pub run_is_parted : (run : List MessageSelector) (key : ℕ) → IsRun run → IsPartitionedBy (begins key) run
run_is_parted run key is_run = IsPartitionedBy-leb (λ s. s.low) run key (λ i j d upto within. elim (cases_lt i j) [
  | inl before ↦ (is_run i j d before within).rises
  | inr from ↦
      let same : i ≡ j = omega (arith, upto, from) in
      omega (arith, ap (λ k. (get_or run k d).low) same)
])

-- the point behind the selectors that begin at the key or before
abbrev pub IsPointOf : List MessageSelector → ℕ → ℕ → Type 0
IsPointOf run key point = IsPartitionPoint (λ s. begins key s ≡ true) (λ s. begins key s ≡ false) run point

-- no selector from the point on holds the key
behind_point : (run : List MessageSelector) (key point : ℕ) → IsPointOf run key point → AllWithin (λ s. Holds key s → ⊥) run point (length run)
behind_point run key point parts k d from within held =
    let yes = le-leb (get_or run k d).low key held.from in
    let no = parts.1 k d from within in
    cc

-- the selectors of a run end before a later one begins
before_point : (run : List MessageSelector) (key place : ℕ) → IsRun run → place < length run → AllWithin (λ s. begins key s ≡ true) run 0 (place + 1) → AllWithin (λ s. Holds key s → ⊥) run 0 place
before_point run key place is_run within begun k d from before held =
    let behind = is_run k place d before within in
    let low = leb-true (get_or run place d).low key (begun place d (omega arith) (omega arith)) in
    omega (arith, behind.above, low, held.to)

-- a run's last selector that begins at the key or before, where it does not end before the key, is the first that holds it
pub first_held : (run : List MessageSelector) (key point place : ℕ) (d : MessageSelector) → IsRun run → point ≤ length run → IsPointOf run key point → 1 ≤ point → place ≡ point - 1 → leb key (get_or run place d).high ≡ true → IsFirstHolder run key place
first_held run key point place d is_run bound parts some is ends =
    let within : place < length run = omega arith in
    let begun : AllWithin (λ s. begins key s ≡ true) run 0 (place + 1) = λ k e from before. parts.0 k e from (omega arith) in
    record {
      within = within;
      holds = λ e. record {
        from = leb-true (get_or run place e).low key (begun place e (omega arith) (omega arith));
        to = leb-true key (get_or run place e).high (ap (λ (s : MessageSelector). leb key s.high) (get_or_default run place e d within) ∙ ends);
      };
      before = before_point run key place is_run within begun;
    }

-- where it ends before the key, no selector of the run holds the key
pub none_held : (run : List MessageSelector) (key point place : ℕ) (d : MessageSelector) → IsRun run → point ≤ length run → IsPointOf run key point → 1 ≤ point → place ≡ point - 1 → leb key (get_or run place d).high ≡ false → NoneHolds run key
none_held run key point place d is_run bound parts some is ends =
    let within : place < length run = omega arith in
    let begun : AllWithin (λ s. begins key s ≡ true) run 0 (place + 1) = λ k e from before. parts.0 k e from (omega arith) in
    λ k e inside held. elim (cases_lt k place) [
      | inl before ↦ before_point run key place is_run within begun k e (omega arith) before held
      | inr from ↦ elim (cases_lt place k) [
        | inl behind ↦ behind_point run key point parts k e (omega arith) inside held
        | inr upto ↦
            let same : k ≡ place = omega (arith, from, upto) in
            let yes = le-leb key (get_or run k e).high held.to in
            let no : leb key (get_or run k e).high ≡ false =
            ap (λ j. leb key (get_or run j e).high) same ∙ ap (λ (s : MessageSelector). leb key s.high) (get_or_default run place e d within) ∙ ends in
            cc
      ]
    ]

-- where no selector begins at the key or before, none holds it
pub none_begins : (run : List MessageSelector) (key point : ℕ) → IsPointOf run key point → (1 ≤ point → ⊥) → NoneHolds run key
none_begins run key point parts none = λ k d inside held.
    elim (cases_lt 0 point) [
      | inl some ↦ absurd (none (omega (arith, some)))
      | inr at_first ↦ behind_point run key point parts k d (omega (arith, at_first)) inside held
    ]

-- the test whether it ends before the key tells which of both
pub held_or_none : (run : List MessageSelector) (key point place : ℕ) (d : MessageSelector) → IsRun run → point ≤ length run → IsPointOf run key point → 1 ≤ point → place ≡ point - 1
    → (r : Option ℕ) → r ≡ then_some (leb key (get_or run place d).high) place → IfSome r (IsFirstHolder run key) × IfNone r (NoneHolds run key)
held_or_none run key point place d is_run bound parts some is r tells =
    subst (λ o. IfSome o (IsFirstHolder run key) × IfNone o (NoneHolds run key)) (sym tells)
    (elim (cases_Bool (leb key (get_or run place d).high)) [
      | inl passes ↦ subst (λ b. IfSome (then_some b place) (IsFirstHolder run key) × IfNone (then_some b place) (NoneHolds run key)) (sym passes) (first_held run key point place d is_run bound parts some is passes, tt)
      | inr fails ↦ subst (λ b. IfSome (then_some b place) (IsFirstHolder run key) × IfNone (then_some b place) (NoneHolds run key)) (sym fails) (tt, none_held run key point place d is_run bound parts some is fails)
    ])

-- one more run
pub one_more : (list : List MessageSelector) (start mid stop : ℕ) (ends : List ℕ) → AreRuns list start mid ends → mid ≤ stop → IsRunWithin list mid stop → AreRuns list start stop (ends ++ stop ∷ [])
one_more list start mid stop [] here upto run =
    let at : start ≡ mid = here in
    (omega (arith, at, upto), omega arith, subst (λ k. IsRunWithin list k stop) (sym at) run, refl)
one_more list start mid stop (end ∷ ends) runs upto run = (runs.0, omega (arith, runs.1, upto), runs.2, one_more list end mid stop ends runs.3 upto run)

-- the runs that end at the places, and the run behind them as far as the place
pub record AreRunsSoFar (list : List MessageSelector) (ends : List ℕ) (place : ℕ) : Type 0 where
  pub start : ℕ
  pub runs : AreRuns list 0 start ends
  pub within : start ≤ length list
  pub begun : start < place
  pub run : IsRunWithin list start place

-- before the second selector no run has ended
pub no_run_yet : (list : List MessageSelector) → AreRunsSoFar list [] 1
no_run_yet list = record {
  start = 0;
  runs = refl;
  within = omega arith;
  begun = omega arith;
  run = λ i j d from before to. absurd (omega arith);
}

-- a selector behind the last one of the run goes on with it
pub run_goes_on : (list : List MessageSelector) (ends : List ℕ) (place : ℕ) (d : MessageSelector) → place < length list → IsBehind (get_or list (place - 1) d) (get_or list place d) → AreRunsSoFar list ends place → AreRunsSoFar list ends (place + 1)
run_goes_on list ends place d within behind far =
    let last : (e : MessageSelector) → IsBehind (get_or list (place - 1) e) (get_or list place e) = λ e.
    subst (λ s. IsBehind s (get_or list place e)) (get_or_default list (place - 1) d e (omega arith))
    (subst (λ s. IsBehind (get_or list (place - 1) d) s) (get_or_default list place d e within) behind) in
    record {
      start = far.start;
      runs = far.runs;
      within = far.within;
      begun = omega (arith, far.begun);
      run = λ i j e from before to. elim (cases_lt j place) [
        | inl inside ↦ far.run i j e from before inside
        | inr at ↦
            let is_last : place ≡ j = omega (arith, to, at) in
            subst (λ k. IsBehind (get_or list i e) (get_or list k e)) is_last (elim (cases_lt i (place - 1)) [
              | inl earlier ↦
                  let one = far.run i (place - 1) e from earlier (omega (arith, earlier)) in
                  record { rises = omega (arith, one.rises, (last e).rises); above = omega (arith, one.above, (last e).rises) }
              | inr next ↦
                  let is_next : place - 1 ≡ i = omega (arith, next, before, is_last) in
                  subst (λ k. IsBehind (get_or list k e) (get_or list place e)) is_next (last e)
            ])
      ];
    }

-- any other one begins the next run
pub run_ends : (list : List MessageSelector) (ends : List ℕ) (place : ℕ) → place < length list → AreRunsSoFar list ends place → AreRunsSoFar list (ends ++ place ∷ []) (place + 1)
run_ends list ends place within far = record {
  start = place;
  runs = one_more list 0 far.start place ends far.runs (omega (arith, far.begun)) far.run;
  within = omega arith;
  begun = omega arith;
  run = λ i j e from before to. absurd (omega (arith, from, before, to));
}

-- behind the last selector the last run ends
pub all_runs : (list : List MessageSelector) (ends : List ℕ) (place : ℕ) → length list ≤ place → AreRunsSoFar list ends place → AreRuns list 0 (length list) (ends ++ length list ∷ [])
all_runs list ends place all far = one_more list 0 far.start (length list) ends far.runs far.within (λ i j e from before to. far.run i j e from before (omega (arith, to, all)))

-- the first of the runs that are left, and those behind it
pub next_run : (list : List MessageSelector) (start stop i : ℕ) (ends : List ℕ) → i < length ends → AreRuns list start stop (drop i ends)
    → (start ≤ get_or ends i 0) × (get_or ends i 0 ≤ stop) × IsRunWithin list start (get_or ends i 0) × AreRuns list (get_or ends i 0) stop (drop (i + 1) ends)
next_run list start stop i ends within runs =
    let one : suc i ≡ i + 1 = omega arith in
    subst (AreRuns list start stop) (drop-cons ends i 0 within ∙ ap (λ k. get_or ends i 0 ∷ drop k ends) one) runs

-- the selectors from one place up to another
abbrev part : List MessageSelector → ℕ → ℕ → List MessageSelector
part list start end = take (end - start) (drop start list)

read_part : (list : List MessageSelector) (start end k : ℕ) (d : MessageSelector) → k < end - start → get_or (part list start end) k d ≡ get_or list (start + k) d
read_part list start end k d near = get_or-take (end - start) (drop start list) k d near ∙ get_or-drop start list k d

-- as many as there are places
part_length : (list : List MessageSelector) (start end : ℕ) → start ≤ end → end ≤ length list → length (part list start end) ≡ end - start
part_length list start end order within = omega (arith, length-take (end - start) (drop start list), length-drop start list)

-- the selectors of a part of the list that is a run
pub run_of_part : (list : List MessageSelector) (start end : ℕ) → start ≤ end → end ≤ length list → IsRunWithin list start end → IsRun (part list start end)
run_of_part list start end order within run = λ i j d before inside.
    let long = part_length list start end order within in
    subst (λ s. IsBehind s (get_or (part list start end) j d)) (sym (read_part list start end i d (omega (arith, before, inside, long))))
    (subst (λ s. IsBehind (get_or list (start + i) d) s) (sym (read_part list start end j d (omega (arith, inside, long))))
    (run (start + i) (start + j) d (omega arith) (omega (arith, before)) (omega (arith, inside, long))))

-- the first holder in a part before which no selector holds the key is the first of the list
pub first_in_part : (list : List MessageSelector) (key start end place : ℕ) → start ≤ end → end ≤ length list → AllWithin (λ s. Holds key s → ⊥) list 0 start → IsFirstHolder (part list start end) key place → IsFirstHolder list key (start + place)
first_in_part list key start end place order within none first =
    let long = part_length list start end order within in
    let near : place < end - start = omega (arith, first.within, long) in
    record {
      within = omega (arith, near, within);
      holds = λ d. subst (Holds key) (read_part list start end place d near) (first.holds d);
      before = λ k d from before held. elim (cases_lt k start) [
        | inl earlier ↦ none k d from earlier held
        | inr inside ↦
            let at : start + (k - start) ≡ k = omega (arith, inside) in
            let read = read_part list start end (k - start) d (omega (arith, near, before, inside)) ∙ ap (λ j. get_or list j d) at in
            first.before (k - start) d (omega arith) (omega (arith, before, inside)) (subst (Holds key) (sym read) held)
      ];
    }

-- where none in a part holds it, none before the part's end does
pub none_in_part : (list : List MessageSelector) (key start end : ℕ) → start ≤ end → end ≤ length list → AllWithin (λ s. Holds key s → ⊥) list 0 start → NoneHolds (part list start end) key → AllWithin (λ s. Holds key s → ⊥) list 0 end
none_in_part list key start end order within none part_none k d from before held =
    let long = part_length list start end order within in
    elim (cases_lt k start) [
      | inl earlier ↦ none k d from earlier held
      | inr inside ↦
          let at : start + (k - start) ≡ k = omega (arith, inside) in
          let read = read_part list start end (k - start) d (omega (arith, before, inside)) ∙ ap (λ j. get_or list j d) at in
          part_none (k - start) d (omega (arith, long, before, inside)) (subst (Holds key) (sym read) held)
    ]
