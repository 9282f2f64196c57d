-- Steps of arithmetic that the lemmas on the timeline take.
use Rattle.std.proofs.Common.{◌≡◌, ℕ, ◌+◌, ◌*◌, ◌/◌, ◌<◌, ◌≤◌, true, leb, inl, inr, arith, nat_cmp}
use Rattle.std.specs.Prelude.{max}
use Rattle.std.specs.Ordering.{ord_max}
use Rattle.std.proofs.Math.Nat.{mul-le-mul_right}
use Rattle.std.proofs.lemmas.Bool.{cases_lt}
use Rattle.std.proofs.lemmas.Bool.Decides.{nat_tests}

-- ---- orders
-- through a number between
pub le_through : (a b c : ℕ) → a ≤ b → b ≤ c → a ≤ c
le_through a b c h g = omega arith

-- from an equal one
pub eq_le : (a b c : ℕ) → a ≡ b → b ≤ c → a ≤ c
eq_le a b c h g = omega arith

-- to an equal one
pub le_eq : (a b c : ℕ) → a ≤ b → c ≡ b → a ≤ c
le_eq a b c h g = omega arith

-- of equal numbers
pub le_same : (a b : ℕ) → a ≡ b → a ≤ b
le_same a b h = omega arith

-- of 0
pub zero_le : (a : ℕ) → 0 ≤ a
zero_le a = omega arith

-- the test of an order that holds
pub leb_from : (a b : ℕ) → a ≤ b → leb a b ≡ true
leb_from a b h = grind (arith, nat_tests)

-- the greater of two numbers by their order
pub greatest : (a b : ℕ) → ord_max nat_cmp a b ≡ max a b
greatest a b = grind (arith, nat_tests)

-- ---- limits
-- a bound at an earlier moment holds at a later one
pub soon_later : (a free now t b : ℕ) → a ≡ free → free ≤ now + b → now ≤ t → a ≤ t + b
soon_later a free now t b h g p = omega arith

-- a moment is within a wait that begins at it
pub at_plus : (m now w : ℕ) → m ≡ now → now ≤ m + w
at_plus m now w h = omega arith

-- and within a limit that does
pub at_limit : (m now b used : ℕ) → m ≡ now → now ≤ m + b + used
at_limit m now b used h = omega arith

-- as is a bus that is free soon
pub free_limit : (m now b used free : ℕ) → m ≡ now → free ≤ now + b → free ≤ m + b + used
free_limit m now b used free h g = omega arith

-- a limit is within a wait that is long enough
pub limit_in_time : (m b sum used w : ℕ) → b + sum ≤ w → used ≤ sum → m + b + used ≤ m + w
limit_in_time m b sum used w h g = omega arith

-- what begins moves the limit
pub limit_moves : (t m b used after time : ℕ) → t ≤ m + b + used → used + time ≤ after → t ≤ m + b + after
limit_moves t m b used after time h g = omega arith

-- as far as the bus is taken
pub limit_covers : (t m b used after time duration idle : ℕ) → t ≤ m + b + used → used + time ≤ after → duration + idle ≤ time → t + duration + idle ≤ m + b + after
limit_covers t m b used after time duration idle h g p = omega arith

-- a frame that begins keeps the bus no longer than any may
pub taken_soon : (t b time duration idle : ℕ) → duration + idle ≤ time → time ≤ b → t + duration + idle ≤ t + b
taken_soon t b time duration idle h g = omega arith

-- a request cannot come within the wait of one before it
pub too_early : (m next now w apart : ℕ) → m + apart ≤ next → next ≡ now → now ≤ m + w → w < apart → ⊥
too_early m next now w apart h e g p = omega arith

-- ---- counts
-- one more frame takes one more time
pub more_time : (n more time : ℕ) → more ≡ 1 + n → n * time + time ≤ more * time
more_time n more time e = let product : more * time ≡ (1 + n) * time = (λ i. e i * time) in omega arith

-- a counted frame behind counted ones
pub room_more : (n apart m r end : ℕ) → n * apart + m < r + apart → r + apart ≤ end → (1 + n) * apart + m < end + apart
room_more n apart m r end h g = omega arith

-- a frame that is not counted
pub room_same : (n apart m r end : ℕ) → n * apart + m < r + apart → r + apart ≤ end → (0 + n) * apart + m < end + apart
room_same n apart m r end h g = omega arith

-- the first counted frame
pub room_one : (n apart m r end b wait : ℕ) → n ≡ 1 → m ≤ b → b ≤ r + wait → wait < apart → r + apart ≤ end → n * apart + m < end + apart
room_one n apart m r end b wait e h g p q = let product : n * apart ≡ 1 * apart = (λ i. e i * apart) in omega arith

-- n frames that come apart within a wait and two times are no more than its whole times and two
pub quotient : (n w apart : ℕ) → 1 ≤ apart → n * apart < w + apart + apart → n ≤ w / apart + 2
quotient n w apart some room =
    elim (cases_lt (w / apart + 2) n) [
      | inl many ↦
          let more : (w / apart + 3) * apart ≤ n * apart = mul-le-mul_right apart (omega arith) in
          absurd (omega arith)
      | inr few ↦ omega arith
    ]

-- the room of a whole wait
pub room_of_wait : (n now m w apart : ℕ) → n * apart + m < now + apart + apart → now ≤ m + w → n * apart < w + apart + apart
room_of_wait n now m w apart h g = omega arith

-- more than none is some
pub more_than_none : (n : ℕ) → 0 < n → 1 ≤ n
more_than_none n h = omega arith

-- no more than none is none
pub none_left : (n : ℕ) → n ≤ 0 → n ≡ 0
none_left n h = omega arith

-- none is not some
pub not_some : (n : ℕ) → n ≡ 0 → 1 ≤ n → ⊥
not_some n e h = absurd (omega arith)

-- two moments stay in order when both are later
pub both_later : (a b apart : ℕ) → a ≤ b → a + apart ≤ b + apart
both_later a b apart h = omega arith

-- what is greater than a number is positive
pub positive : (a b : ℕ) → a < b → 1 ≤ b
positive a b h = omega arith

-- what is added makes no less
pub le_plus : (a b : ℕ) → a ≤ a + b
le_plus a b = omega arith

-- what comes no earlier than a moment comes no earlier than one before it
pub no_earlier : (n m q : ℕ) → n ≤ m → m + 0 ≤ q → n ≤ q
no_earlier n m q h g = omega arith

-- less is no more
pub lt_le : (a b : ℕ) → a < b → a ≤ b
lt_le a b h = omega arith
