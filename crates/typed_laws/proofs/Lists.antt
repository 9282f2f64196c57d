-- A part of a list, between what stands before and behind it.
use Rattle.std.proofs.Common.{◌≡◌, ℕ, zero, suc, ◌+◌, ◌-◌, ◌<◌, ◌≤◌, Bool, true, false, List, [], ◌∷◌, ◌++◌, length, refl, sym, ap, ◌∙◌, arith, get_or, set, append_assoc, take_at, drop_at, get_or-append-add}
use Rattle.std.specs.Prelude.{ℤ, pos, map, take, drop, replicate, nat_le, nat_lt, slice_index_or}
use Rattle.std.specs.List.{splice}
use Rattle.std.proofs.lemmas.List.{get_or_append_left, set-append_left, set-append_right, take-append-le, drop-append-le}
use Rattle.std.proofs.lemmas.Bool.{leb-true, leb-false, ltb-true, ltb-false}
use Rattle.capl_meaning.specs.Store.{byte_after, row}

module _ {X : Type 0} where
  pub at_middle : (xs mid ys : List X) (i : ℕ) (d : X) → i < length mid →
      get_or (xs ++ (mid ++ ys)) (length xs + i) d ≡ get_or mid i d
  at_middle xs mid ys i d less = get_or-append-add xs (mid ++ ys) i d ∙ get_or_append_left mid ys d i less

  pub set_middle : (xs mid ys : List X) (i : ℕ) (x : X) → i < length mid →
      set (xs ++ (mid ++ ys)) (length xs + i) x ≡ xs ++ (set mid i x ++ ys)
  set_middle xs mid ys i x less =
      let back : length xs + i - length xs ≡ i = omega arith in
      set-append_right xs (mid ++ ys) (length xs) (length xs + i) x refl (omega arith)
      ∙ ap (λ k. xs ++ set (mid ++ ys) k x) back ∙ ap (λ l. xs ++ l) (set-append_left mid ys i x less)

  pub take_middle : (xs mid ys : List X) (n : ℕ) → length mid ≡ n → take n (drop (length xs) (xs ++ (mid ++ ys))) ≡ mid
  take_middle xs mid ys n long = ap (take n) (drop_at xs (mid ++ ys) (length xs) refl) ∙ take_at mid ys n long

  splice_behind : (xs zs new : List X) (a b : ℕ) → splice (xs ++ zs) (length xs + a) (length xs + b) new ≡ xs ++ splice zs a b new
  splice_behind [] zs new a b =
      let first : zero + a ≡ a = omega arith in
      let last : zero + b ≡ b = omega arith in
      ap (λ k. splice zs k (zero + b) new) first ∙ ap (λ k. splice zs a k new) last
  splice_behind (x ∷ xs) zs new a b =
      let first : suc (length xs) + a ≡ suc (length xs + a) = omega arith in
      let last : suc (length xs) + b ≡ suc (length xs + b) = omega arith in
      ap (λ k. splice (x ∷ xs ++ zs) k (suc (length xs) + b) new) first ∙ ap (λ k. splice (x ∷ xs ++ zs) (suc (length xs + a)) k new) last
      ∙ ap (λ l. x ∷ l) (splice_behind xs zs new a b)

  splice_before : (mid ys new : List X) (a b : ℕ) → a ≤ length mid → b ≤ length mid → splice (mid ++ ys) a b new ≡ splice mid a b new ++ ys
  splice_before mid ys new a b first last =
      ap (λ l. l ++ (new ++ drop b (mid ++ ys))) (take-append-le a mid ys first)
      ∙ ap (λ l. take a mid ++ (new ++ l)) (drop-append-le b mid ys last)
      ∙ ap (λ l. take a mid ++ l) (sym (append_assoc new (drop b mid) ys))
      ∙ sym (append_assoc (take a mid) (new ++ drop b mid) ys)

  pub splice_middle : (xs mid ys new : List X) (a b : ℕ) → a ≤ length mid → b ≤ length mid →
      splice (xs ++ (mid ++ ys)) (length xs + a) (length xs + b) new ≡ xs ++ (splice mid a b new ++ ys)
  splice_middle xs mid ys new a b first last = splice_behind xs (mid ++ ys) new a b ∙ ap (λ l. xs ++ l) (splice_before mid ys new a b first last)

  pub replicate_long : (n : ℕ) (x : X) → length (replicate n x) ≡ n
  replicate_long zero x = refl
  replicate_long (suc n) x = ap suc (replicate_long n x)

  pub replicate_at : (n i : ℕ) (x d : X) → i < n → get_or (replicate n x) i d ≡ x
  replicate_at zero i x d less = absurd (omega (arith, less))
  replicate_at (suc n) zero x d less = refl
  replicate_at (suc n) (suc i) x d less = replicate_at n i x d (omega (arith, less))

  -- things by their numbers

  pub row_long : (f : ℕ → X) (from n : ℕ) → length (row f from n) ≡ n
  row_long f from zero = refl
  row_long f from (suc n) = ap suc (row_long f (suc from) n)

  pub row_at : (f : ℕ → X) (from n i : ℕ) (d : X) → i < n → get_or (row f from n) i d ≡ f (from + i)
  row_at f from zero i d less = absurd (omega (arith, less))
  row_at f from (suc n) zero d less = let e : from ≡ from + zero = omega arith in ap f e
  row_at f from (suc n) (suc i) d less = let e : suc from + i ≡ from + suc i = omega arith in row_at f (suc from) n i d (omega (arith, less)) ∙ ap f e

  -- a row of other things that are the same
  pub row_same : (f g : ℕ → X) (from n : ℕ) → ((m : ℕ) → from ≤ m → m < from + n → g m ≡ f m) → row g from n ≡ row f from n
  row_same f g from zero others = refl
  row_same f g from (suc n) others =
      ap (λ x. x ∷ row g (suc from) n) (others from (omega arith) (omega arith))
      ∙ ap (λ l. f from ∷ l) (row_same f g (suc from) n (λ m least less. others m (omega (arith, least)) (omega (arith, less))))

  -- a row that is another in one place
  pub row_set : (f g : ℕ → X) (from n i : ℕ) (x : X) → i < n → g (from + i) ≡ x → ((m : ℕ) → ¬ (m ≡ from + i) → g m ≡ f m) → row g from n ≡ set (row f from n) i x
  row_set f g from zero i x less own others = absurd (omega (arith, less))
  row_set f g from (suc n) zero x less own others =
      let e : from + zero ≡ from = omega arith in
      ap (λ y. y ∷ row g (suc from) n) (ap g (sym e) ∙ own) ∙ ap (λ l. x ∷ l) (row_same f g (suc from) n (λ m least _. others m (omega (arith, least))))
  row_set f g from (suc n) (suc i) x less own others =
      let e : suc from + i ≡ from + suc i = omega arith in
      ap (λ y. y ∷ row g (suc from) n) (others from (omega arith))
      ∙ ap (λ l. f from ∷ l) (row_set f g (suc from) n i x (omega (arith, less)) (ap g e ∙ own) (λ m no. others m (omega (arith, no))))

  pub row_parts : (f : ℕ → X) (from m n : ℕ) → row f from (m + n) ≡ row f from m ++ row f (from + m) n
  row_parts f from zero n =
      let e : zero + n ≡ n = omega arith in
      let at : from ≡ from + zero = omega arith in
      ap (row f from) e ∙ ap (λ k. row f k n) at
  row_parts f from (suc m) n =
      let e : suc m + n ≡ suc (m + n) = omega arith in
      let at : suc from + m ≡ from + suc m = omega arith in
      ap (row f from) e ∙ ap (λ l. f from ∷ l) (row_parts f (suc from) m n ∙ ap (λ k. row f (suc from) m ++ row f k n) at)

-- Bytes in a row of numbers.

-- a row of what bytes are by their places behind a number
row_bytes : (from : ℕ) (bytes : List ℕ) (g : ℕ → ℤ) → ((j : ℕ) → j < length bytes → g (from + j) ≡ pos (slice_index_or bytes j 0)) → row g from (length bytes) ≡ map pos bytes
row_bytes from [] g is = refl
row_bytes from (byte ∷ bytes) g is =
    let first : from ≡ from + zero = omega arith in
    ap (λ x. x ∷ row g (suc from) (length bytes)) (ap g first ∙ is zero (omega arith))
    ∙ ap (λ l. pos byte ∷ l) (row_bytes (suc from) bytes g (λ j less. let e : suc from + j ≡ from + suc j = omega arith in ap g e ∙ is (suc j) (omega (arith, less))))

module _ (i : ℕ) (bytes : List ℕ) (f : ℕ → ℤ) where
  byte_below : (j : ℕ) → j < i → byte_after i bytes f j ≡ f j
  byte_below j less = go (nat_le i j) refl
    where
      go : (b : Bool) → nat_le i j ≡ b → byte_after i bytes f j ≡ f j
      go true e = absurd (omega (arith, less, leb-true i j e))
      go false e = rw e refl

  byte_above : (j : ℕ) → i + length bytes ≤ j → byte_after i bytes f j ≡ f j
  byte_above j least = go (nat_le i j) (nat_lt j (i + length bytes)) refl refl
    where
      go : (a b : Bool) → nat_le i j ≡ a → nat_lt j (i + length bytes) ≡ b → byte_after i bytes f j ≡ f j
      go false b e h = rw e refl
      go true true e h = absurd (omega (arith, least, ltb-true j (i + length bytes) h))
      go true false e h = rw (e, h) refl

  byte_inside : (j : ℕ) → j < length bytes → byte_after i bytes f (i + j) ≡ pos (slice_index_or bytes j 0)
  byte_inside j less = go (nat_le i (i + j)) (nat_lt (i + j) (i + length bytes)) refl refl
    where
      back : i + j - i ≡ j
      back = omega arith

      go : (a b : Bool) → nat_le i (i + j) ≡ a → nat_lt (i + j) (i + length bytes) ≡ b → byte_after i bytes f (i + j) ≡ pos (slice_index_or bytes j 0)
      go false b e h = absurd (omega (arith, leb-false i (i + j) e))
      go true false e h = absurd (omega (arith, less, ltb-false (i + j) (i + length bytes) h))
      go true true e h = rw (e, h, back) refl

  -- bytes that are put in a row
  pub row_splice : (n : ℕ) → i + length bytes ≤ n → splice (row f 0 n) i (i + length bytes) (map pos bytes) ≡ row (byte_after i bytes f) 0 n
  row_splice n fits =
      let long = length bytes in
      let rest = n - (i + long) in
      let all : n ≡ i + (long + rest) = omega (arith, fits) in
      let also : n ≡ (i + long) + rest = omega (arith, fits) in
      let start : zero + i ≡ i = omega arith in
      let behind : zero + (i + long) ≡ i + long = omega arith in
      let further : (zero + i) + long ≡ i + long = omega arith in
      let g = byte_after i bytes f in
      let before : take i (row f 0 n) ≡ row f 0 i = ap (λ k. take i (row f 0 k)) all ∙ ap (take i) (row_parts f 0 i (long + rest)) ∙ take_at (row f 0 i) (row f (0 + i) (long + rest)) i (row_long f 0 i) in
      let after : drop (i + long) (row f 0 n) ≡ row f (i + long) rest =
      ap (λ k. drop (i + long) (row f 0 k)) also ∙ ap (drop (i + long)) (row_parts f 0 (i + long) rest)
      ∙ drop_at (row f 0 (i + long)) (row f (0 + (i + long)) rest) (i + long) (row_long f 0 (i + long)) ∙ ap (λ k. row f k rest) behind in
      let one : row g 0 i ≡ row f 0 i = row_same f g 0 i (λ m _ less. byte_below m (omega (arith, less))) in
      let two : row g i long ≡ map pos bytes = row_bytes i bytes g byte_inside in
      let three : row g (i + long) rest ≡ row f (i + long) rest = row_same f g (i + long) rest (λ m least _. byte_above m least) in
      let whole : row g 0 n ≡ row g 0 i ++ (row g i long ++ row g (i + long) rest) =
      ap (row g 0) all ∙ row_parts g 0 i (long + rest) ∙ ap (λ l. row g 0 i ++ l) (row_parts g (0 + i) long rest)
      ∙ ap (λ k. row g 0 i ++ (row g k long ++ row g ((0 + i) + long) rest)) start ∙ ap (λ k. row g 0 i ++ (row g i long ++ row g k rest)) further in
      ap (λ l. l ++ (map pos bytes ++ drop (i + long) (row f 0 n))) before ∙ ap (λ l. row f 0 i ++ (map pos bytes ++ l)) after
      ∙ ap (λ l. l ++ (map pos bytes ++ row f (i + long) rest)) (sym one) ∙ ap (λ l. row g 0 i ++ (l ++ row f (i + long) rest)) (sym two)
      ∙ ap (λ l. row g 0 i ++ (row g i long ++ l)) (sym three) ∙ sym whole
