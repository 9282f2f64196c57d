-- A payload cut to its data bytes is that of a frame.
use Rattle.std.proofs.Common.{◌≡◌, ℕ, ◌-◌, ◌∙◌, ◌<◌, ◌≤◌, List, length, take, replicate, get_or, refl, arith, length-append, length-take, get_or-take}
use Rattle.std.proofs.Math.ListN.{length-replicate, get_or-append}
use Rattle.std.proofs.lemmas.List.{get_or-append_right, get_or-replicate, get_or_past}
use Rattle.std.proofs.lemmas.Bool.{cases_lt}
use Rattle.std.proofs.Common.{inl, inr}
use Rattle.std.proofs.lemmas.List.{same_lists}
use Rattle.std.proofs.lemmas.Grind.{get_or_default_zero}
use Rattle.std.proofs.Common.{Bool, true, false, sym}
use Rattle.can_frame.specs.Frame.{FrameFields, IsFrame, data_len_of, data_len, padded}

get_or-zeros : (m j : ℕ) → ◌≡◌ {A = ℕ} (get_or (replicate m 0) j 0) 0
get_or-zeros m j =
    elim (cases_lt j m) [ inl h ↦ get_or-replicate m j 0 0 h | inr h ↦ get_or_past (replicate m 0) j 0 (omega (arith, length-replicate {A = ℕ})) ]

module _ (n : ℕ) (bytes : List ℕ) (fits : n ≤ 8) (eight : length bytes ≡ 8) where
  -- a padded payload has eight bytes
  pub length-padded : length (padded n bytes) ≡ 8
  length-padded = grind (arith, length-append {A = ℕ}, length-take {A = ℕ}, length-replicate {A = ℕ})

  length-front : length (take n bytes) ≡ n
  length-front = grind (arith, length-take {A = ℕ})

  pub padded_past : (k : ℕ) → n ≤ k → get_or (padded n bytes) k 0 ≡ 0
  padded_past k past =
      get_or-append_right (take n bytes) (replicate (8 - n) 0) n k 0 length-front past ∙ get_or-zeros (8 - n) (k - n)

  padded_kept : (k : ℕ) → k < n → get_or (padded n bytes) k 0 ≡ get_or bytes k 0
  padded_kept k h =
      get_or-append (take n bytes) (replicate (8 - n) 0) 0 k (omega (arith, length-front)) ∙ rw get_or-take refl

  pub padded_bytes : ((k : ℕ) → get_or bytes k 0 < 256) → (k : ℕ) → get_or (padded n bytes) k 0 < 256
  padded_bytes small k =
      elim (cases_lt k n) [
        | inl h ↦ omega (arith, padded_kept k h, small k)
        | inr h ↦ omega (arith, padded_past k h)
      ]

-- a frame sends at most as many data bytes as its code says
pub data_len_of-le : (remote : Bool) (dlc : ℕ) → data_len_of remote dlc ≤ dlc
data_len_of-le true dlc = omega arith
data_len_of-le false dlc = omega arith

-- the same of a frame
pub data_len-le : (f : FrameFields) → data_len f ≤ f.dlc
data_len-le f = data_len_of-le f.remote f.dlc

-- what a frame holds is cut already, so to make a frame of a frame's fields changes nothing
pub padded-same : (f : FrameFields) → IsFrame f → padded (data_len f) f.payload ≡ f.payload
padded-same f is =
    let n : ℕ = data_len f in
    let fits : n ≤ 8 = omega (arith, data_len-le f, is.dlc_in_range) in
    let at_zero : (k : ℕ) → get_or (padded n f.payload) k 0 ≡ get_or f.payload k 0 =
    λ k. elim (cases_lt k n) [
      | inl h ↦ padded_kept n f.payload fits is.eight_bytes k h
      | inr h ↦ padded_past n f.payload fits is.eight_bytes k h ∙ sym (is.zeros_past k h)
    ] in
    let long : length (padded n f.payload) ≡ 8 = length-padded n f.payload fits is.eight_bytes in
    same_lists (padded n f.payload) f.payload (long ∙ sym is.eight_bytes) (λ k d h.
    get_or_default_zero (padded n f.payload) k d h
    ∙ at_zero k
    ∙ sym (get_or_default_zero f.payload k d (omega (arith, h, long, is.eight_bytes))))
