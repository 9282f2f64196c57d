-- The log of a scenario is one replay, or has one blame.
use Rattle.std.proofs.Common.{◌≡◌, ℕ, List, [], ◌∷◌, ◌++◌, Option, None, Some, Result, Ok, Err, inl, inr, sym, ap, subst, ◌∙◌}
use Rattle.text_parts.specs.Line.{text_lines}
use Rattle.texts.specs.declared.blame.Blame.{Blame}
use Rattle.sim_outside.specs.Files.{beside}
use Rattle.capl_include.specs.Expansion.{Contents}
use Rattle.input_refusals.specs.Agreement.{Agrees, Judges}
use Rattle.input_refusals.specs.Blame.{line_blame}
use Rattle.input_refusals.specs.declared.refusal.InputRefusal.{InputRefusal}
use Rattle.input_refusals.specs.declared.refusal.InputRefusal.TheVariants.{Blamed, Failed, NoMemory}
use Rattle.scenario.specs.declared.scenario.Epoch.{Epoch}
use Rattle.scenario.specs.declared.scenario.Scenario.{Scenario}
use Rattle.replay_node.specs.Replay.{IsBadLine, IsReplay}
use Rattle.replay_node.specs.declared.replay.Replay.{Replay}
use Rattle.sim_inputs.specs.Accepted.{log_rule, IsLogLineBlame, IsReplayBlame, LogAt, ReplayAt, log_limit}
use Rattle.sim_inputs.specs.Law.{SayTheSame}
use Rattle.sim_inputs.proofs.TextLemmas.{held_or_blamed, one_file_blame, one_text}

-- ---- what is known of logs

-- a log has one replay
abbrev pub OneReplay : Type 0
OneReplay = (log interface : List ℕ) (bit : ℕ) (epoch : Epoch) (replay other : Replay) → IsReplay log interface bit epoch replay → IsReplay log interface bit epoch other → replay ≡ other

-- a log has one bad line
abbrev pub OneBadLine : Type 0
OneBadLine = (log : List ℕ) (number other : ℕ) → IsBadLine log number → IsBadLine log other → number ≡ other

-- a log with a replay has no bad line
abbrev pub NotBadToo : Type 0
NotBadToo = (log interface : List ℕ) (bit : ℕ) (epoch : Epoch) (replay : Replay) (number : ℕ) → IsReplay log interface bit epoch replay → IsBadLine log number → ⊥

-- ---- where no log is replayed

empty_is_good : (log : List ℕ) (number : ℕ) → log ≡ [] → IsBadLine log number → ⊥
empty_is_good log number none bad = no_line bad.lines bad.line bad.behind (sym (ap text_lines none) ∙ bad.are)
  where
    no_line : (lines : List (List ℕ)) (line : List ℕ) (behind : List (List ℕ)) → [] ≡ lines ++ line ∷ behind → ⊥
    no_line [] line behind is = cc
    no_line (first ∷ lines) line behind is = cc

-- the replay of no line is that of a scenario that replays no log
pub without_log : (contents : Contents) (name own log : List ℕ) (scenario : Scenario) (result : Result Replay InputRefusal) → scenario.replay ≡ None → log ≡ [] →
    Judges (IsReplay log scenario.interface scenario.bit scenario.epoch) (IsLogLineBlame log own) result →
    Agrees (ReplayAt contents name scenario) (IsReplayBlame contents name scenario.replay) result
without_log contents name own log scenario (Ok replay) none empty is =
    record { log = log; log_at = subst (λ (f : Option (List ℕ)). LogAt contents name f log) (sym none) empty; is = is }
without_log contents name own log scenario (Err (Blamed blame)) none empty (number, bad, is) = absurd (empty_is_good log number empty bad)
without_log contents name own log scenario (Err Failed) none empty is = absurd is
without_log contents name own log scenario (Err NoMemory) none empty is = tt

-- ---- one of each

-- a scenario replays one log
pub one_log : (contents : Contents) (name : List ℕ) (file : Option (List ℕ)) (log other : List ℕ) → LogAt contents name file log → LogAt contents name file other → log ≡ other
one_log contents name None log other is also = is ∙ sym also
one_log contents name (Some file) log other is also = one_text contents log_limit (beside name file) log other is also

-- the replay of a scenario is that of each that says the same
pub moved_replay : (contents : Contents) (name : List ℕ) (scenario other : Scenario) (replay : Replay) → SayTheSame scenario other → ReplayAt contents name scenario replay → ReplayAt contents name other replay
moved_replay contents name scenario other replay same at = record {
  log = at.log;
  log_at = subst (λ (f : Option (List ℕ)). LogAt contents name f at.log) same.replay at.log_at;
  is = subst (λ i. IsReplay at.log i other.bit other.epoch replay) same.interface
      (subst (λ b. IsReplay at.log scenario.interface b other.epoch replay) same.bit
      (subst (λ e. IsReplay at.log scenario.interface scenario.bit e replay) same.epoch at.is));
}

-- a scenario has one replay
pub one_replay_at : OneReplay → (contents : Contents) (name : List ℕ) (scenario : Scenario) (replay other : Replay) → ReplayAt contents name scenario replay → ReplayAt contents name scenario other → replay ≡ other
one_replay_at one contents name scenario replay other is also =
    let same = one_log contents name scenario.replay is.log also.log is.log_at also.log_at in
    one also.log scenario.interface scenario.bit scenario.epoch replay other (subst (λ l. IsReplay l scenario.interface scenario.bit scenario.epoch replay) same is.is) also.is

log_or_blame : NotBadToo → (contents : Contents) (name : List ℕ) (file : Option (List ℕ)) (log interface : List ℕ) (bit : ℕ) (epoch : Epoch) (replay : Replay) (blame : Blame) →
    LogAt contents name file log → IsReplay log interface bit epoch replay → IsReplayBlame contents name file blame → ⊥
log_or_blame none contents name None log interface bit epoch replay blame at is wrong = wrong
log_or_blame none contents name (Some file) log interface bit epoch replay blame at is (inl wrong) = held_or_blamed contents log_limit (beside name file) log blame at wrong
log_or_blame none contents name (Some file) log interface bit epoch replay blame at is (inr (other, held, (number, bad, also))) =
    let same = one_text contents log_limit (beside name file) other log held at in
    none log interface bit epoch replay number is (subst (λ l. IsBadLine l number) same bad)

-- a scenario with a replay has no blame of its log
pub replay_or_blame : NotBadToo → (contents : Contents) (name : List ℕ) (scenario : Scenario) (replay : Replay) (blame : Blame) → ReplayAt contents name scenario replay → IsReplayBlame contents name scenario.replay blame → ⊥
replay_or_blame none contents name scenario replay blame at wrong =
    log_or_blame none contents name scenario.replay at.log scenario.interface scenario.bit scenario.epoch replay blame at.log_at at.is wrong

-- a log has one blame
pub one_replay_blame : OneBadLine → (contents : Contents) (name : List ℕ) (file : Option (List ℕ)) (blame other : Blame) → IsReplayBlame contents name file blame → IsReplayBlame contents name file other → blame ≡ other
one_replay_blame one contents name None blame other is also = absurd is
one_replay_blame one contents name (Some file) blame other (inl is) (inl also) = one_file_blame contents log_limit (beside name file) blame other is also
one_replay_blame one contents name (Some file) blame other (inl is) (inr (log, held, also)) = absurd (held_or_blamed contents log_limit (beside name file) log blame held is)
one_replay_blame one contents name (Some file) blame other (inr (log, held, is)) (inl also) = absurd (held_or_blamed contents log_limit (beside name file) log other held also)
one_replay_blame one contents name (Some file) blame other (inr (log, held, (number, bad, is))) (inr (log_too, held_too, (number_too, bad_too, also))) =
    let same = one_text contents log_limit (beside name file) log log_too held held_too in
    let numbers = one log_too number number_too (subst (λ l. IsBadLine l number) same bad) bad_too in
    is ∙ ap (λ n. line_blame (beside name file) n log_rule) numbers ∙ sym also
