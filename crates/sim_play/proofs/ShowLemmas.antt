-- What a record that writes pieces has written after a run, and after one that a fault ended.
use Rattle.std.proofs.Common.{◌≡◌, ℕ, inl, inr, List, [], ◌∷◌, ◌++◌, Option, None, Some, drop, take, refl, ap, sym, subst, ◌∙◌}
use Rattle.std.specs.Option.{unwrap_or}
use Rattle.std.proofs.lemmas.Grind.{flat_map-append}
use Rattle.std.proofs.lemmas.List.{append-nil, append_assoc, take-append-drop}
use Rattle.can_bus.specs.Meaning.{BusMeaning}
use Rattle.sim_outside.specs.Sink.{GrowsBy}
use Rattle.run_records.specs.declared.record.Noted.{Noted}
use Rattle.run_records.specs.Record.{RecordMeaning, RefusesEntry}
use Rattle.bytecode.specs.Laws.{BeginsWith}
use Rattle.stack_vm.specs.declared.meter.MeterRow.{MeterRow}
use Rattle.node_rounds.specs.Effects.{TakesEntries}
use Rattle.run_meaning.specs.Done.{AreCut}
use Rattle.run_meaning.specs.Steps.{Step, entries, steps}
use Rattle.run_meaning.proofs.DoneLemmas.{entries_append}
use Rattle.sim_core.specs.Core.{CoreState, HasRun, IsRunCut}
use Rattle.sim_play.specs.Inside.Pieces.{RefusesPiece, WritesPiece}
use Rattle.sim_play.specs.Inside.Shown.{HasShown, IsShownInPart}
use Rattle.sim_play.specs.Show.{piece, shown}
use Rattle.sim_play.specs.declared.labels.Labels.{Labels}
use Rattle.sim_play.specs.declared.labels.Show.{Show}
use Rattle.sim_play.proofs.Grows.{begins_by, grows_more, grows_none, grows_same}

-- ---- what is shown, part by part

-- what is shown of entries in two parts
pub shown_append : (show : Show) (labels : Labels) (xs ys : List Noted) → shown show labels (xs ++ ys) ≡ shown show labels xs ++ shown show labels ys
shown_append show labels xs ys = flat_map-append (λ noted. unwrap_or (piece show labels noted) []) xs ys

-- what is shown of steps, the first of which leaves these entries and more
rest_shown : (show : Show) (labels : Labels) (rest : List Step) (lines more : List Noted) → entries (take 1 rest) ≡ lines ++ more
    → shown show labels (entries rest) ≡ shown show labels lines ++ (shown show labels more ++ shown show labels (entries (drop 1 rest)))
rest_shown show labels rest lines more is =
    ap (λ (xs : List Step). shown show labels (entries xs)) (sym (take-append-drop 1 rest)) ∙ ap (shown show labels) (entries_append (take 1 rest) (drop 1 rest))
    ∙ shown_append show labels (entries (take 1 rest)) (entries (drop 1 rest)) ∙ ap (λ (es : List Noted). shown show labels es ++ shown show labels (entries (drop 1 rest))) is
    ∙ ap (λ (zs : List ℕ). zs ++ shown show labels (entries (drop 1 rest))) (shown_append show labels lines more)
    ∙ append_assoc (shown show labels lines) (shown show labels more) (shown show labels (entries (drop 1 rest)))

-- a piece was written in part: this part, and this is left
record InPart (old new : Option (List ℕ)) (text : List ℕ) : Type 0 where
  part : List ℕ
  left : List ℕ
  are : text ≡ part ++ left
  grows : GrowsBy old new part

nothing_yet : (old new : Option (List ℕ)) (text : List ℕ) → new ≡ old → InPart old new text
nothing_yet old new text same = record { part = []; left = text; are = refl; grows = subst (λ x. GrowsBy old x []) (sym same) (grows_none old) }

refused_in_part : (old new : Option (List ℕ)) (own : Option (List ℕ)) → RefusesPiece old new own → InPart old new (unwrap_or own [])
refused_in_part old new None same = nothing_yet old new [] same
refused_in_part old new (Some text) refuses = elim refuses as (λ _. InPart old new text) [
  | inl same ↦ nothing_yet old new text same
  | inr begins ↦ record { part = take begins.0 text; left = drop begins.0 text; are = sym (take-append-drop begins.0 text); grows = begins.1 }
]

grows_piece : (a b : Option (List ℕ)) (own : Option (List ℕ)) → WritesPiece a b own → GrowsBy a b (unwrap_or own [])
grows_piece a b None same = subst (λ x. GrowsBy a x []) (sym same) (grows_none a)
grows_piece a b (Some text) grows = grows

-- ---- records that write what is shown

-- a record shows so, by these labels, and has written this: each entry that it takes or refuses keeps the first two
pub record Shows {R : Type 0} (meaning : RecordMeaning R) (show_of : R → Show) (labels_of : R → Labels) (written : R → Option (List ℕ)) : Type 0 where
  pub takes : (before : R) (noted : Noted) (after : R) → meaning.takes before noted after → (show_of after ≡ show_of before) × (labels_of after ≡ labels_of before)
      × WritesPiece (written before) (written after) (piece (show_of before) (labels_of before) noted)
  pub refuses : (before : R) (noted : Noted) (after : R) → meaning.refuses before noted after → (show_of after ≡ show_of before) × (labels_of after ≡ labels_of before)
      × RefusesPiece (written before) (written after) (piece (show_of before) (labels_of before) noted)

module _ {R : Type 0} (meaning : RecordMeaning R) (show_of : R → Show) (labels_of : R → Labels) (written : R → Option (List ℕ)) (shows : Shows meaning show_of labels_of written) where
  -- entries that are taken grow what was written by what is shown of them
  takes_shown : (show : Show) (labels : Labels) (a : R) (list : List Noted) (b : R) → show_of a ≡ show → labels_of a ≡ labels → TakesEntries meaning a list b
      → (show_of b ≡ show) × (labels_of b ≡ labels) × GrowsBy (written a) (written b) (shown show labels list)
  takes_shown show labels a [] b s l same = (ap show_of same ∙ s, ap labels_of same ∙ l, subst (λ x. GrowsBy (written a) (written x) []) (sym same) (grows_none (written a)))
  takes_shown show labels a (noted ∷ list) b s l took =
      let one = shows.takes a noted took.0 took.1.taken in
      let more = takes_shown show labels took.0 list b (one.0 ∙ s) (one.1 ∙ l) took.2 in
      let own : GrowsBy (written a) (written took.0) (unwrap_or (piece show labels noted) []) =
      grows_same (written a) (written took.0) (ap (λ (x : Show). unwrap_or (piece x (labels_of a) noted) []) s ∙ ap (λ (x : Labels). unwrap_or (piece show x noted) []) l)
      (grows_piece (written a) (written took.0) (piece (show_of a) (labels_of a) noted) one.2) in (
        more.0,
        more.1,
        grows_more (written a) (written took.0) (written b) (unwrap_or (piece show labels noted) []) (shown show labels list) own more.2,
      )

  -- of the steps behind the first, this was written, and this is left
  record CutShown (into after : R) (front rest : List Step) : Type 0 where
    more : List ℕ
    left : List ℕ
    are : shown (show_of into) (labels_of into) (entries rest) ≡ more ++ left
    grows : GrowsBy (written into) (written after) (shown (show_of into) (labels_of into) (entries front) ++ more)

  module _ (into between after : R) (front rest : List Step) (lines : List Noted) (takes : TakesEntries meaning into (entries front ++ lines) between) where
    abbrev show : Show
    show = show_of into

    abbrev labels : Labels
    labels = labels_of into

    -- all that was taken
    took : (show_of between ≡ show) × (labels_of between ≡ labels) × GrowsBy (written into) (written between) (shown show labels (entries front) ++ shown show labels lines)
    took =
        let all = takes_shown show labels into (entries front ++ lines) between refl refl takes in
        (all.0, all.1, grows_same (written into) (written between) (shown_append show labels (entries front) lines) all.2)

    cut_between : after ≡ between → BeginsWith (entries (take 1 rest)) lines → CutShown into after front rest
    cut_between same begins = record {
      more = shown show labels lines;
      left = shown show labels begins.0 ++ shown show labels (entries (drop 1 rest));
      are = rest_shown show labels rest lines begins.0 begins.1;
      grows = subst (λ x. GrowsBy (written into) (written x) (shown show labels (entries front) ++ shown show labels lines)) (sym same) took.2;
    }

    cut_at_refusal : (noted : Noted) → RefusesEntry meaning between noted after → BeginsWith (entries (take 1 rest)) (lines ++ noted ∷ []) → CutShown into after front rest
    cut_at_refusal noted refused begins =
        let one = shows.refuses between noted after refused.refused in
        let own : RefusesPiece (written between) (written after) (piece show labels noted) =
        subst (λ (x : Labels). RefusesPiece (written between) (written after) (piece show x noted)) took.1
        (subst (λ (x : Show). RefusesPiece (written between) (written after) (piece x (labels_of between) noted)) took.0 one.2) in
        let in_part = refused_in_part (written between) (written after) (piece show labels noted) own in
        let behind : List ℕ = shown show labels begins.0 ++ shown show labels (entries (drop 1 rest)) in
        record {
          more = shown show labels lines ++ in_part.part;
          left = in_part.left ++ behind;
          are = rest_shown show labels rest (lines ++ noted ∷ []) begins.0 begins.1 ∙ ap (λ (zs : List ℕ). zs ++ behind) (shown_append show labels lines (noted ∷ []))
              ∙ ap (λ (zs : List ℕ). (shown show labels lines ++ zs) ++ behind) (append-nil (unwrap_or (piece show labels noted) []) ∙ in_part.are)
              ∙ regroup (shown show labels lines) in_part.part in_part.left behind;
          grows = grows_same (written into) (written after) (append_assoc (shown show labels (entries front)) (shown show labels lines) in_part.part)
              (grows_more (written into) (written between) (written after) (shown show labels (entries front) ++ shown show labels lines) in_part.part took.2 in_part.grows);
        }
      where
        regroup : (x y z w : List ℕ) → (x ++ (y ++ z)) ++ w ≡ (x ++ y) ++ (z ++ w)
        regroup x y z w = simp append_assoc

  -- what was written of steps up to a fault
  cut_shown : {first_rows : List ℕ} {list : List Step} {into after : R} {meter meter_after : List MeterRow} → (cut : AreCut meaning first_rows list into after meter meter_after) → CutShown into after cut.front cut.rest
  cut_shown {into} {after} cut = elim cut.refusal as (λ _. CutShown into after cut.front cut.rest) [
    | inl same ↦ cut_between into cut.between after cut.front cut.rest cut.taken cut.takes same cut.are_first
    | inr r ↦ cut_at_refusal into cut.between after cut.front cut.rest cut.taken cut.takes r.0 r.1 r.2
  ]

  -- a run was shown
  pub run_shown : {B : Type 0} {bus : BusMeaning B} {before core : CoreState B} {into after : R} {meter meter_after : List MeterRow} → HasRun bus meaning before into meter core after meter_after
      → HasShown bus (show_of into) (labels_of into) before core (written into) (written after) meter meter_after
  run_shown {before} {into} {after} run = record {
    rounds = run.rounds;
    end = run.end;
    is_run = run.is_run;
    nodes = run.nodes;
    grows = (takes_shown (show_of into) (labels_of into) into (entries (steps run.rounds before.picks)) after refl refl run.done.takes).2;
    metered = run.done.metered;
  }

  -- a run that a fault ended was shown in part
  pub cut_run_shown : {B : Type 0} {bus : BusMeaning B} {before : CoreState B} {into after : R} {meter meter_after : List MeterRow} → IsRunCut bus meaning before into after meter meter_after
      → IsShownInPart bus (show_of into) (labels_of into) before (written into) (written after) meter meter_after
  cut_run_shown {before} {into} {after} run =
      let own = cut_shown run.cut in
      let show : Show = show_of into in
      let labels : Labels = labels_of into in
      record {
        rounds = run.rounds;
        end = run.end;
        is_run = run.is_run;
        begins = begins_by (written into) (written after) (shown show labels (entries (steps run.rounds before.picks))) (shown show labels (entries run.cut.front) ++ own.more) own.left
            (ap (λ (xs : List Step). shown show labels (entries xs)) run.cut.are ∙ ap (shown show labels) (entries_append run.cut.front run.cut.rest)
            ∙ shown_append show labels (entries run.cut.front) (entries run.cut.rest) ∙ ap (λ (zs : List ℕ). shown show labels (entries run.cut.front) ++ zs) own.are
            ∙ sym (append_assoc (shown show labels (entries run.cut.front)) own.more own.left))
            own.grows;
        front = run.cut.front;
        rest = run.cut.rest;
        are = run.cut.are;
        more = own.more;
        whole = own.grows;
        metered = run.cut.metered;
      }

-- ---- what each entry keeps, a run keeps

kept_entries : {R A : Type 0} (meaning : RecordMeaning R) (f : R → A) → ((before : R) (noted : Noted) (after : R) → meaning.takes before noted after → f after ≡ f before)
    → (a : R) (list : List Noted) (b : R) → TakesEntries meaning a list b → f b ≡ f a
kept_entries meaning f each a [] b same = ap f same
kept_entries meaning f each a (noted ∷ list) b took = kept_entries meaning f each took.0 list b took.2 ∙ each a noted took.0 took.1.taken

-- what each entry keeps, a run keeps
pub kept_by_run : {B R A : Type 0} {meaning : RecordMeaning R} (f : R → A) → ((before : R) (noted : Noted) (after : R) → meaning.takes before noted after → f after ≡ f before)
    → {bus : BusMeaning B} {before core : CoreState B} {into after : R} {meter meter_after : List MeterRow} → HasRun bus meaning before into meter core after meter_after → f after ≡ f into
kept_by_run {meaning} f each {before} {into} {after} run = kept_entries meaning f each into (entries (steps run.rounds before.picks)) after run.done.takes

-- and so does one that a fault ended, where a refusal keeps it too
pub kept_by_cut_run : {B R A : Type 0} {meaning : RecordMeaning R} (f : R → A) → ((before : R) (noted : Noted) (after : R) → meaning.takes before noted after → f after ≡ f before)
    → ((before : R) (noted : Noted) (after : R) → meaning.refuses before noted after → f after ≡ f before)
    → {bus : BusMeaning B} {before : CoreState B} {into after : R} {meter meter_after : List MeterRow} → IsRunCut bus meaning before into after meter meter_after → f after ≡ f into
kept_by_cut_run {meaning} f each refuse {into} {after} run =
    let k = kept_entries meaning f each into (entries run.cut.front ++ run.cut.taken) run.cut.between run.cut.takes in
    elim run.cut.refusal as (λ _. f after ≡ f into) [ inl same ↦ ap f same ∙ k | inr r ↦ refuse run.cut.between r.0 after r.1.refused ∙ k ]
