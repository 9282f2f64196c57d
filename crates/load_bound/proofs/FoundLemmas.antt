-- The wait of a stream by the own least waits of all.
use Rattle.std.proofs.Common.{◌≡◌, ℕ, List, true, refl, sym, subst, inl, inr}
use Rattle.std.specs.Prelude.{Option, None, Some, IsTrue, IsSome}
use Rattle.std.specs.List.{All, AllZip}
use Rattle.std.proofs.lemmas.List.Elements.{All-weaker}
use Rattle.load_bound.specs.declared.stream.Stream.{Stream}
use Rattle.load_bound.specs.Streams.{is_stronger}
use Rattle.load_bound.specs.Waits.{HasGood, IsBounded, IsFound, StrongerHaveWaits}
use Rattle.load_bound.specs.Inside.Starts.{IsOwnLeast, IsOwnWait, IsBoundedWait}
use Rattle.load_bound.proofs.PairLemmas.{zip_both, zip_with_all}
use Rattle.load_bound.proofs.StartLemmas.{stronger_through}

module _ (bit : ℕ) (streams : List Stream) where
  -- what is stronger than a bounded stream is bounded
  pub bounded_stronger : (r s : Stream) → is_stronger r s ≡ true → HasGood bit streams r → All (λ q. IsTrue (is_stronger q s) → HasGood bit streams q) streams → IsBounded bit streams r
  bounded_stronger r s stronger good all = record {
    own = good;
    stronger = All-weaker (λ q. IsTrue (is_stronger q s) → HasGood bit streams q) (λ q. IsTrue (is_stronger q r) → HasGood bit streams q) (λ q h above. h (stronger_through q r s above stronger)) streams all;
  }

module _ (bit : ℕ) (streams : List Stream) (own : List (Option ℕ)) (least : AllZip (IsOwnWait bit streams) streams own) (s : Stream) where
  has_good : (r : Stream) (v : Option ℕ) → IsOwnWait bit streams r v → (IsTrue (is_stronger r s) → IsSome v) → IsTrue (is_stronger r s) → HasGood bit streams r
  has_good r None h some stronger = absurd (let fails = some stronger in cc)
  has_good r (Some w) (inl h) some stronger = (w, h.good)
  has_good r (Some w) (inr h) some stronger = absurd (let fails = h.0 in cc)

  has_wait : All (λ q. IsTrue (is_stronger q s) → HasGood bit streams q) streams → (r : Stream) (v : Option ℕ) → IsOwnWait bit streams r v
      → (IsTrue (is_stronger r s) → HasGood bit streams r) → IsTrue (is_stronger r s) → IsSome v
  has_wait all r None (inl h) good stronger = absurd (h (good stronger))
  has_wait all r None (inr h) good stronger = absurd (h.1 (bounded_stronger bit streams r s stronger (good stronger) all))
  has_wait all r (Some w) h good stronger = refl

  all_have : StrongerHaveWaits streams own s → All (λ r. IsTrue (is_stronger r s) → HasGood bit streams r) streams
  all_have waits =
      zip_both (IsOwnWait bit streams) (λ r v. IsTrue (is_stronger r s) → IsSome v) (λ r. IsTrue (is_stronger r s) → HasGood bit streams r) has_good streams own least waits

  none_lacks : IsBounded bit streams s → StrongerHaveWaits streams own s
  none_lacks bounded =
      zip_with_all (IsOwnWait bit streams) (λ r v. IsTrue (is_stronger r s) → IsSome v) (λ r. IsTrue (is_stronger r s) → HasGood bit streams r) (has_wait bounded.stronger) streams own least bounded.stronger

  found_least : (wait : Option ℕ) → IsOwnLeast bit streams s wait → StrongerHaveWaits streams own s → IsFound bit streams s wait
  found_least None none waits = λ bounded. none bounded.own
  found_least (Some w) least_good waits = (record { own = (w, least_good.good); stronger = all_have waits }, least_good)

  found_own : (wait : Option ℕ) → IsOwnWait bit streams s wait → StrongerHaveWaits streams own s → IsFound bit streams s wait
  found_own wait (inl h) waits = found_least wait h waits
  found_own wait (inr h) waits = let P : Option ℕ → Type 0 = IsFound bit streams s in subst P (sym h.0) h.1

  -- it is the least good one, if each stronger stream has one too
  pub found_wait : (wait result : Option ℕ) → IsOwnWait bit streams s wait → IsBoundedWait streams own s wait result → IsFound bit streams s result
  found_wait wait result h (inl bounded) = let P : Option ℕ → Type 0 = IsFound bit streams s in subst P (sym bounded.1) (found_own wait h bounded.0)
  found_wait wait result h (inr not_bounded) =
      let P : Option ℕ → Type 0 = IsFound bit streams s in subst P (sym not_bounded.1) (λ bounded. not_bounded.0 (none_lacks bounded))
