-- One more line of a log.
use Rattle.std.proofs.Common.{◌≡◌, ℕ, ◌+◌, Bool, true, false, List, [], ◌∷◌, ◌++◌, Some, refl, sym, ap, ◌∙◌, arith, append-nil}
use Rattle.std.specs.Prelude.{max, if◌then◌else◌, Result, Ok, Err, OnOk, unwrap_or}
use Rattle.std.specs.List.{sum_by}
use Rattle.std.specs.Str.{bytes_eq}
use Rattle.std.proofs.lemmas.Grind.{flat_map-append}
use Rattle.std.proofs.lemmas.List.Sums.{sum_by-append}
use Rattle.log_line.specs.declared.line.Entry as declared
use Rattle.log_line.specs.declared.line.Line.{Line}
use Rattle.log_line.specs.declared.line.Line.TheVariants.{Entry}
use Rattle.replay_node.specs.Replay.{entry_on, entries_on, is_skipped, skipped_on, epoch_seconds, start_of, requests_from, IsReplayOf}
use Rattle.replay_node.specs.Inside.Progress.{known_epoch, last_asked, IsProgress, epoch_for, Asks}
use Rattle.scenario.specs.declared.scenario.Epoch.{Epoch}
use Rattle.scenario.specs.declared.scenario.Epoch.TheVariants.{At, First}
use Rattle.replay_node.specs.declared.progress.Progress.{Progress}
use Rattle.replay_node.specs.declared.replay.Replay.{Replay}
use Rattle.replay_node.specs.declared.replay.Request.{Request}

-- the epoch is known after one more entry
known_after : (epoch : Epoch) (es : List declared.Entry) (e : declared.Entry) → known_epoch epoch (es ++ e ∷ []) ≡ Some (epoch_for (known_epoch epoch es) e.seconds)
known_after (At s) es e = refl
known_after First [] e = refl
known_after First (x ∷ es) e = refl

-- and it is this one
epoch_after : (epoch : Epoch) (es : List declared.Entry) (e : declared.Entry) → epoch_seconds epoch (es ++ e ∷ []) ≡ epoch_for (known_epoch epoch es) e.seconds
epoch_after (At s) es e = refl
epoch_after First [] e = refl
epoch_after First (x ∷ es) e = refl

-- the requests so far have the same epoch
same_requests : (bit : ℕ) (epoch : Epoch) (es : List declared.Entry) (e : declared.Entry) → requests_from bit (epoch_seconds epoch es) 0 es ≡ requests_from bit (epoch_seconds epoch (es ++ e ∷ [])) 0 es
same_requests bit (At s) es e = refl
same_requests bit First [] e = refl
same_requests bit First (x ∷ es) e = refl

-- and so has the last of them
same_last : (bit : ℕ) (epoch : Epoch) (es : List declared.Entry) (e : declared.Entry) → last_asked bit (epoch_seconds epoch es) 0 es ≡ last_asked bit (epoch_seconds epoch (es ++ e ∷ [])) 0 es
same_last bit (At s) es e = refl
same_last bit First [] e = refl
same_last bit First (x ∷ es) e = refl

-- the request of one more entry
requests_more : (bit epoch before : ℕ) (es : List declared.Entry) (e : declared.Entry)
    → requests_from bit epoch before (es ++ e ∷ []) ≡ requests_from bit epoch before es ++ record { at = max (last_asked bit epoch before es) (start_of bit epoch e); frame = e.frame } ∷ []
requests_more bit epoch before [] e = refl
requests_more bit epoch before (x ∷ es) e =
    let r : Request = record { at = max before (start_of bit epoch x); frame = x.frame } in
    ap (λ l. r ∷ l) (requests_more bit epoch (max before (start_of bit epoch x)) es e)

-- when it asks
last_more : (bit epoch before : ℕ) (es : List declared.Entry) (e : declared.Entry)
    → last_asked bit epoch before (es ++ e ∷ []) ≡ max (last_asked bit epoch before es) (start_of bit epoch e)
last_more bit epoch before [] e = refl
last_more bit epoch before (x ∷ es) e = last_more bit epoch (max before (start_of bit epoch x)) es e

-- an entry of the interface
entry_here : (interface : List ℕ) (e : declared.Entry) → bytes_eq e.interface interface ≡ true → entry_on interface (Entry e) ≡ e ∷ []
entry_here interface e same = rw same refl

-- it is not passed over
not_skipped : (interface : List ℕ) (e : declared.Entry) → bytes_eq e.interface interface ≡ true → is_skipped interface (Entry e) ≡ false
not_skipped interface e same = rw same refl

-- the entries of one more line
entries_more : (interface : List ℕ) (readings : List Line) (line : Line) → entries_on interface (readings ++ line ∷ []) ≡ entries_on interface readings ++ entry_on interface line
entries_more interface readings line =
    flat_map-append (entry_on interface) readings (line ∷ []) ∙ ap (λ l. entries_on interface readings ++ l) (append-nil (entry_on interface line))

-- how many are passed over with one more line
skipped_more : (interface : List ℕ) (readings : List Line) (line : Line) (t : Bool) → is_skipped interface line ≡ t
    → skipped_on interface (readings ++ line ∷ []) ≡ skipped_on interface readings + (if t then 1 else 0)
skipped_more interface readings line t is =
    let f : Line → ℕ = λ l. if is_skipped interface l then 1 else 0 in
    let one : sum_by f (line ∷ []) ≡ (if t then 1 else 0) = rw is (omega arith) in
    sum_by-append f readings (line ∷ []) ∙ ap (λ n. sum_by f readings + n) one

-- the progress after an entry of the interface
pub after_entry : (interface : List ℕ) (bit : ℕ) (epoch : Epoch) (readings : List Line) (old : Progress) (e : declared.Entry) (new : Progress) → bytes_eq e.interface interface ≡ true
    → IsProgress interface bit epoch readings old → Asks bit old e new → IsProgress interface bit epoch (readings ++ Entry e ∷ []) new
after_entry interface bit epoch readings old e new same progress asks =
    let es = entries_on interface readings in
    let more : entries_on interface (readings ++ Entry e ∷ []) ≡ es ++ e ∷ [] = entries_more interface readings (Entry e) ∙ ap (λ l. es ++ l) (entry_here interface e same) in
    let now : epoch_for old.epoch e.seconds ≡ epoch_seconds epoch (es ++ e ∷ []) = ap (λ k. epoch_for k e.seconds) progress.epoch_is ∙ sym (epoch_after epoch es e) in
    let before : old.before ≡ last_asked bit (epoch_seconds epoch (es ++ e ∷ [])) 0 es = progress.before_is ∙ same_last bit epoch es e in
    let at : new.before ≡ max (last_asked bit (epoch_seconds epoch (es ++ e ∷ [])) 0 es) (start_of bit (epoch_seconds epoch (es ++ e ∷ [])) e) =
    asks.before_is ∙ ap (λ b. max b (start_of bit (epoch_for old.epoch e.seconds) e)) before
    ∙ ap (λ k. max (last_asked bit (epoch_seconds epoch (es ++ e ∷ [])) 0 es) (start_of bit k e)) now in
    let passed : skipped_on interface (readings ++ Entry e ∷ []) ≡ skipped_on interface readings =
    skipped_more interface readings (Entry e) false (not_skipped interface e same) ∙ (omega arith) in
    record {
      epoch_is = asks.epoch_is ∙ ap (λ k. Some (epoch_for k e.seconds)) progress.epoch_is ∙ sym (known_after epoch es e) ∙ ap (known_epoch epoch) (sym more);
      skipped_is = asks.skipped_is ∙ progress.skipped_is ∙ sym passed;
      before_is = at ∙ sym (last_more bit (epoch_seconds epoch (es ++ e ∷ [])) 0 es e) ∙ ap (λ l. last_asked bit (epoch_seconds epoch l) 0 l) (sym more);
      list_is =
          asks.list_is
          ∙ ap (λ l. l ++ record { at = new.before; frame = e.frame } ∷ []) (progress.list_is ∙ same_requests bit epoch es e)
          ∙ ap (λ n. requests_from bit (epoch_seconds epoch (es ++ e ∷ [])) 0 es ++ record { at = n; frame = e.frame } ∷ []) at
          ∙ sym (requests_more bit (epoch_seconds epoch (es ++ e ∷ [])) 0 es e)
          ∙ ap (λ l. requests_from bit (epoch_seconds epoch l) 0 l) (sym more);
    }

-- what follows where a call succeeded
pub on_ok : {T E : Type 0} (r : Result T E) (A B : Type 0) → (A → B) → OnOk r A → OnOk r B
on_ok (Ok x) A B f is = f is
on_ok (Err e) A B f is = tt

-- the epoch that is known in the end
pub epoch_in_the_end : (epoch : Epoch) (es : List declared.Entry) → unwrap_or (known_epoch epoch es) 0 ≡ epoch_seconds epoch es
epoch_in_the_end (At s) es = refl
epoch_in_the_end First [] = refl
epoch_in_the_end First (e ∷ es) = refl

-- the replay of the lines so far
pub replay_is : (interface : List ℕ) (bit : ℕ) (epoch : Epoch) (readings : List Line) (progress : Progress) (replay : Replay) → IsProgress interface bit epoch readings progress
    → replay.epoch ≡ unwrap_or progress.epoch 0 → replay.skipped ≡ progress.skipped → replay.list ≡ progress.list.items → IsReplayOf interface bit epoch readings replay
replay_is interface bit epoch readings progress replay is epoch_is skipped_is list_is =
    let es = entries_on interface readings in
    let known : replay.epoch ≡ epoch_seconds epoch es = epoch_is ∙ ap (λ k. unwrap_or k 0) is.epoch_is ∙ epoch_in_the_end epoch es in
    record {
      epoch_is = known;
      skipped_is = skipped_is ∙ is.skipped_is;
      list_is = list_is ∙ is.list_is ∙ ap (λ k. requests_from bit k 0 es) (sym known);
    }
