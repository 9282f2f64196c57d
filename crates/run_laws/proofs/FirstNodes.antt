-- Nodes with accepted sources are ready before the measurement.
use Rattle.std.proofs.Common.{◌≡◌, ℕ, ◌<◌, ◌≤◌, List, [], ◌∷◌, All, refl, arith}
use Rattle.std.specs.List.{AllByRecursion}
use Rattle.std.proofs.lemmas.List.Elements.{All-head, All-nil, All-tail}
use Rattle.dbc_reader.specs.declared.message.DbcMessage.{DbcMessage}
use Rattle.capl_tree.specs.declared.file.Program.{Program}
use Rattle.capl_meaning.specs.Offences.{offences_of}
use Rattle.run_meaning.specs.Live.{IsLater, IsReady}
use Rattle.source_laws.specs.Sound.{IsSoundSource}
use Rattle.run_laws.specs.Sources.{first_source_nodes}

-- they are sound, and no timer is active
pub first_ready : (base : List DbcMessage) (turns : ℕ) (programs : List Program) → All (λ program. offences_of base program ≡ []) programs
    → AllByRecursion (IsReady IsSoundSource 0) (first_source_nodes base turns programs)
first_ready base turns [] all = tt
first_ready base turns (program ∷ programs) all = (
  record {
    is_sound = record {
      accepted = All-head (λ p. offences_of base p ≡ []) program programs all;
      has_timers = refl;
      timers = record {
        exist = All-nil (λ x. _);
        differ = λ i j d before within. absurd (omega (arith, within));
        periods = All-nil (λ x. _);
      };
    };
    on_time = λ alive. All-nil (λ x. 0 ≤ x.due);
  },
  first_ready base turns programs (All-tail (λ p. offences_of base p ≡ []) program programs all),
)

-- and so no timer is due at the start
pub first_later : (base : List DbcMessage) (turns : ℕ) (programs : List Program) → AllByRecursion (IsLater 0) (first_source_nodes base turns programs)
first_later base turns [] = tt
first_later base turns (program ∷ programs) = (λ alive. All-nil (λ x. 0 < x.due), first_later base turns programs)
