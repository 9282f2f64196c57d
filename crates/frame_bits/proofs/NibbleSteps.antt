-- Four bits at a time: the register and the stuffing over a nibble, and their tables.
use Rattle.std.proofs.Common.{◌≡◌, ℕ, zero, suc, ◌+◌, ◌*◌, ◌/◌, ◌%◌, ◌^◌, ◌<◌, ◌≤◌, Bool, true, false, not, cond, eqb, List, [], ◌∷◌, ◌++◌, length, map, get_or, replicate, refl, sym, ap, subst, ◌∙◌, inl, inr, arith, zero-add, length-append, append_assoc, bit_and}
use Rattle.std.specs.Int.Bits.{bit_xor}
use Rattle.std.specs.List.{range_with_len}
use Rattle.std.proofs.lemmas.Bool.{cases_lt}
use Rattle.std.proofs.lemmas.List.FromFn.{get_or-map-range_with_len}
use Rattle.std.proofs.lemmas.Nat.{and_mask, xor_comm, xor_lt}
use Rattle.can_frame.specs.Frame.{field_bits}
use Rattle.can_frame.proofs.BitLists.{length-field_bits, field_bits-mod}
use Rattle.frame_bits.specs.Length.{xor, bit_sum, division_step, division_steps, stuffing_of}
use Rattle.frame_bits.specs.Inside.Crc.{IsRegister}
use Rattle.frame_bits.specs.Inside.Stuffing.{run_with, stuffing_behind, CountsStuffing, last_of, run_of, step_of, step_behind}
use Rattle.frame_bits.proofs.FieldSteps.{field_bits-split}
use Rattle.frame_bits.proofs.CrcSteps.{length-bit_sum, bit_sum-zero_end, bit_sum-twice, field_bits-xor, register_after, IsRegister-none, IsRegister-after}
use Rattle.frame_bits.proofs.Runs.{not_five, run_with-le, stuffing_behind-run, stuffing_behind-more}

-- ---- the register over a nibble
division_steps-add : (k m : ℕ) (bits : List Bool) → division_steps (k + m) bits ≡ division_steps k (division_steps m bits)
division_steps-add zero m bits = ap (λ n. division_steps n bits) (zero-add m)
division_steps-add (suc k) m bits =
    let longer : suc k + m ≡ suc (k + m) = omega arith in
    ap (λ n. division_steps n bits) longer ∙ ap division_step (division_steps-add k m bits)

bit_sum-append : (a b c d : List Bool) → length a ≡ length c → bit_sum (a ++ b) (c ++ d) ≡ bit_sum a c ++ bit_sum b d
bit_sum-append [] b [] d h = refl
bit_sum-append [] b (y ∷ c) d h = absurd (omega (arith, h))
bit_sum-append (x ∷ a) b [] d h = absurd (omega (arith, h))
bit_sum-append (x ∷ a) b (y ∷ c) d h = ap (λ l. xor x y ∷ l) (bit_sum-append a b c d (omega (arith, h)))

-- the register without its leading nibble, moved up by four places
moved : (r : ℕ) → field_bits 15 (r % 2 ^ 11 * 16) ≡ field_bits 11 r ++ replicate 4 false
unfolding field_bits
moved r =
    let upper : r % 2 ^ 11 * 16 / 2 ^ 4 ≡ r % 2 ^ 11 = omega arith in
    let lower : r % 2 ^ 11 * 16 % 2 ^ 4 ≡ 0 = omega arith in
    field_bits-split 11 4 (r % 2 ^ 11 * 16)
    ∙ ap (λ m. field_bits 11 m ++ field_bits 4 (r % 2 ^ 11 * 16)) upper
    ∙ ap (λ l. l ++ field_bits 4 (r % 2 ^ 11 * 16)) (field_bits-mod 11 11 r (omega arith))
    ∙ ap (λ l. field_bits 11 r ++ l) (sym (field_bits-mod 4 4 (r % 2 ^ 11 * 16) (omega arith)) ∙ ap (field_bits 4) lower)

-- a nibble in the register: what it and the leading bits leave is added to the others, moved up
pub IsRegister-nibble : (r left n : ℕ) (bits : List Bool) → IsRegister left (field_bits 4 (bit_xor (r / 2 ^ 11) n)) → IsRegister r bits → IsRegister (bit_xor (r % 2 ^ 11 * 16) left) (bits ++ field_bits 4 n)
IsRegister-nibble r left n bits leaves old more h =
    let nibble : List Bool = field_bits 4 n in
    let leading : List Bool = field_bits 4 (bit_xor (r / 2 ^ 11) n) in
    let others : List Bool = bit_sum (field_bits 11 r) more in
    let m : ℕ = r % 2 ^ 11 * 16 in
    let four : length nibble ≡ 4 = length-field_bits 4 n in
    let longer : length (bits ++ nibble) ≡ 4 + length bits = omega (arith, length-append bits nibble, four) in
    let enough : 15 ≤ length (nibble ++ more) = omega (arith, length-append nibble more, h) in
    let whole : length others ≡ length more = length-bit_sum (field_bits 11 r) more (omega (arith, length-field_bits 11 r, h)) in
    ap (λ k. division_steps k ((bits ++ nibble) ++ more)) longer
    ∙ division_steps-add 4 (length bits) ((bits ++ nibble) ++ more)
    ∙ ap (λ l. division_steps 4 (division_steps (length bits) l)) (append_assoc bits nibble more)
    ∙ ap (division_steps 4) (old (nibble ++ more) enough)
    ∙ ap (λ l. division_steps 4 (bit_sum l (nibble ++ more))) (field_bits-split 4 11 r)
    ∙ ap (division_steps 4) (bit_sum-append (field_bits 4 (r / 2 ^ 11)) (field_bits 11 r) nibble more (length-field_bits 4 (r / 2 ^ 11) ∙ sym four))
    ∙ ap (λ l. division_steps 4 (l ++ others)) (sym (field_bits-xor 4 (r / 2 ^ 11) n))
    ∙ ap (λ k. division_steps k (leading ++ others)) (sym (length-field_bits 4 (bit_xor (r / 2 ^ 11) n)))
    ∙ leaves others (omega (arith, whole, h))
    ∙ ap (bit_sum (field_bits 15 left)) (sym (bit_sum-zero_end 4 (field_bits 11 r) more (omega (arith, length-field_bits 11 r, h))) ∙ ap (λ l. bit_sum l more) (sym (moved r)))
    ∙ sym (bit_sum-twice (field_bits 15 left) (field_bits 15 m) more (omega (arith, length-field_bits 15 left, length-field_bits 15 m)) (omega (arith, length-field_bits 15 m, h)))
    ∙ ap (λ l. bit_sum l more) (sym (field_bits-xor 15 left m))
    ∙ ap (λ k. bit_sum (field_bits 15 k) more) (xor_comm left m)

-- what the code computes of the register
pub nibble_shifted : (r : ℕ) → bit_and r 2047 * 16 % 65536 ≡ r % 2 ^ 11 * 16
nibble_shifted r = omega (arith, and_mask r 11)

-- the register stays below two to the fifteenth
pub nibble_next-lt : (r left : ℕ) → left < 2 ^ 15 → bit_xor (r % 2 ^ 11 * 16) left < 2 ^ 15
nibble_next-lt r left h = xor_lt 15 (r % 2 ^ 11 * 16) left (omega arith) h

-- the leading bits and a nibble make a nibble
pub leading-lt : (r n : ℕ) → r < 2 ^ 15 → n < 16 → bit_xor (r / 2 ^ 11) n < 16
leading-lt r n h k = xor_lt 4 (r / 2 ^ 11) n (omega arith) k

-- ---- tables
-- an entry of a table that has the values of a function
pub entry : (f : ℕ → ℕ) (size n : ℕ) (table : List ℕ) → table ≡ map f (range_with_len 0 size) → n < size → get_or table n 0 ≡ f n
entry f size n table is h = ap (λ t. get_or t n 0) is ∙ get_or-map-range_with_len f 0 size n n 0 h (zero-add n)

-- what a nibble leaves in the register
abbrev pub left_by : ℕ → ℕ
left_by n = register_after 0 (field_bits 4 n)

-- it is a register of them
pub left_by-is : (n : ℕ) → (left_by n < 2 ^ 15) × IsRegister (left_by n) (field_bits 4 n)
left_by-is n = IsRegister-after 0 (field_bits 4 n) [] (omega arith) IsRegister-none

-- what a nibble does behind a row, by its place in the table
abbrev pub step_at : ℕ → ℕ
step_at i = step_behind (i / 16) (field_bits 4 (i % 16))

-- the place of a row and a nibble
pub step_at-is : (row n : ℕ) → n < 16 → step_at (16 * row + n) ≡ step_behind row (field_bits 4 n)
step_at-is row n h =
    let upper : (16 * row + n) / 16 ≡ row = omega (arith, h) in
    let lower : (16 * row + n) % 16 ≡ n = omega (arith, h) in
    ap (λ r. step_behind r (field_bits 4 ((16 * row + n) % 16))) upper ∙ ap (λ m. step_behind row (field_bits 4 m)) lower

-- ---- the stuffing over several bits
-- what a step says of the stuffing behind it
pub record Steps (last : Bool) (run brought : ℕ) (bits : List Bool) (step : ℕ) : Type 0 where
  pub short : step / 16 / 2 < 5
  pub few : step % 16 ≤ length bits + brought
  pub counts : (more : List Bool) → length (stuffing_behind last run (bits ++ more)) + brought ≡ length bits + step % 16 + length (stuffing_behind (eqb (step / 16 % 2) 1) (step / 16 / 2) more)

Steps-none : (last : Bool) (run brought step : ℕ) → run < 5 → step / 16 / 2 ≡ run → eqb (step / 16 % 2) 1 ≡ last → step % 16 ≡ brought → Steps last run brought [] step
Steps-none last run brought step h r l b = record {
  short = omega (arith, r, h);
  few = omega (arith, b);
  counts = λ more. rw (r, l, b) (omega arith);
}

-- each step says so
pub Steps-all : (bits : List Bool) (last : Bool) (run brought : ℕ) → run < 5 → length bits + brought < 16 → Steps last run brought bits (step_of last run brought bits)
Steps-all [] true run brought h k =
    let upper : (32 * run + 16 + brought) / 16 % 2 ≡ 1 = omega (arith, k) in
    Steps-none true run brought _ h (omega (arith, k)) (ap (λ m. eqb m 1) upper) (omega (arith, k))
Steps-all [] false run brought h k =
    let upper : (32 * run + 0 + brought) / 16 % 2 ≡ 0 = omega (arith, k) in
    Steps-none false run brought _ h (omega (arith, k)) (ap (λ m. eqb m 1) upper) (omega (arith, k))
Steps-all (b ∷ bits) last run brought h k =
    let n : ℕ = run_with last run b in
    let full_step : ℕ = step_of (not b) 1 (brought + 1) bits in
    let more_step : ℕ = step_of b n brought bits in
    let All : ℕ → Type 0 = Steps last run brought (b ∷ bits) in
    elim (cases_lt n 5) [
      | inl less ↦
          let now = Steps-all bits b n brought less (omega (arith, k)) in
          subst All (ap (λ t. cond t full_step more_step) (sym (not_five n less))) (record {
            short = now.short;
            few = omega (arith, now.few);
            counts = λ more. omega (arith, ap length (stuffing_behind-more last b run (bits ++ more) less), now.counts more);
          })
      | inr full ↦
          let five : n ≡ 5 = omega (arith, run_with-le last b run h, full) in
          let now = Steps-all bits (not b) 1 (brought + 1) (omega arith) (omega (arith, k)) in
          subst All (ap (λ m. cond (eqb m 5) full_step more_step) (sym five)) (record {
            short = now.short;
            few = omega (arith, now.few);
            counts = λ more. omega (arith, ap length (stuffing_behind-run last b run (bits ++ more) five), now.counts more);
          })
    ]

-- the step behind a row says so
pub step_behind-is : (row step : ℕ) (bits : List Bool) → row < 10 → length bits < 16 → step ≡ step_behind row bits → Steps (last_of row) (run_of row) 0 bits step
step_behind-is row step bits h k is =
    subst (Steps (last_of row) (run_of row) 0 bits) (sym is) (Steps-all bits (last_of row) (run_of row) 0 (omega (arith, h)) (omega (arith, k)))

-- a counter that counts a step
pub CountsStuffing-step : (row count step width brought : ℕ) (bits piece : List Bool) → Steps (last_of row) (run_of row) 0 piece step → width ≡ length piece → brought ≡ step % 16 → CountsStuffing row count bits → CountsStuffing (step / 16) (count + (width + brought)) (bits ++ piece)
CountsStuffing-step row count step width brought bits piece steps w b now more =
    ap (λ l. length (stuffing_of l)) (append_assoc bits piece more) ∙ now (piece ++ more) ∙ omega (arith, steps.counts more, w, b)
