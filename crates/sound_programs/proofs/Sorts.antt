-- Sorts, and what is known of one by the rules that its expression does not break.
use Rattle.std.proofs.Common.{◌≡◌, Bool, true, false, not, ◌&&◌, Option, Some, None, refl}
use Rattle.std.specs.Prelude.{⊤}
use Rattle.int_kinds.specs.declared.kinds.Kind.{Kind}
use Rattle.int_kinds.specs.declared.operators.BinOp.{BinOp}
use Rattle.capl_meaning.specs.declared.sort.Sort.{Sort}
use Rattle.capl_meaning.specs.declared.sort.Sort.TheVariants as sort
use Rattle.capl_meaning.specs.ExpressionRules.{is_array, is_message_sort, is_timer_sort}
use Rattle.capl_meaning.specs.Sort.{is_bad, is_number, number_from, sort_given, sort_of_binary, sort_of_choice, sort_of_element}
use Rattle.typed_source.specs.Sound.{IsOfNumber}

-- an expression of this sort breaks no rule that makes it bad
abbrev pub IsFine : Sort → Type 0
IsFine sort.Bad = ⊥
IsFine _ = ⊤

-- what is needed of a sort is so, where nothing but a bad sort may lack it
pub needed : (is_so : Bool) (g : Sort) → IsFine g → not is_so && not (is_bad g) ≡ false → is_so ≡ true
needed true g fine none = refl
needed false sort.Bad fine none = elim fine [ ]
needed false g fine none = absurd (let f : true ≡ false = none in cc)

-- a sort that is fine is not bad
pub fine_good : (g : Sort) → IsFine g → not (is_bad g) ≡ false → ⊥
fine_good g fine none = let f : true ≡ true = refl in let e : false ≡ true = needed false g fine none in cc

-- a number is of its sort
pub of_number : (g : Sort) → is_number g ≡ true → IsOfNumber g
of_number (sort.Number k) is = tt
of_number g is = absurd (let f : false ≡ true = is in cc)

-- the kind of a number
pub number_kind : (g : Sort) → IsOfNumber g → (k : Kind) × (g ≡ sort.Number k)
number_kind (sort.Number k) is = (k, refl)
number_kind g is = elim is [ ]

-- a number is fine
pub number_fine : (g : Sort) → IsOfNumber g → IsFine g
number_fine (sort.Number k) is = tt
number_fine g is = elim is [ ]

-- an array is of its sort
pub of_array : (g : Sort) → is_array g ≡ true → (k : Kind) × (g ≡ sort.Array k)
of_array (sort.Array k) is = (k, refl)
of_array g is = absurd (let f : false ≡ true = is in cc)

-- a message is
pub of_message : (g : Sort) → is_message_sort g ≡ true → g ≡ sort.Message
of_message sort.Message is = refl
of_message g is = absurd (let f : false ≡ true = is in cc)

-- a timer is
pub of_timer : (g : Sort) → is_timer_sort g ≡ true → g ≡ sort.Timer
of_timer sort.Timer is = refl
of_timer g is = absurd (let f : false ≡ true = is in cc)

-- ---- forms

-- a cast of a number is a number
pub from_number : (g : Sort) (k : Kind) → IsOfNumber g → IsOfNumber (number_from g k)
from_number (sort.Number j) k is = tt
from_number g k is = elim is [ ]

-- a cast that is fine is a number
pub from_fine : (g : Sort) (k : Kind) → IsFine (number_from g k) → IsOfNumber (number_from g k)
from_fine (sort.Number j) k fine = tt
from_fine g k fine = elim fine [ ]

-- an element of an array at a number is a number
pub element_number : (base index : Sort) (k : Kind) → base ≡ sort.Array k → IsOfNumber index → IsOfNumber (sort_of_element base index)
element_number (sort.Array j) (sort.Number i) k is number = tt
element_number (sort.Array j) index k is number = elim number [ ]
element_number base index k is number = absurd (cc)

-- an element that is fine is a number
pub element_fine : (base index : Sort) → IsFine (sort_of_element base index) → IsOfNumber (sort_of_element base index)
element_fine (sort.Array k) (sort.Number j) fine = tt
element_fine base index fine = elim fine [ ]

-- an operator on two numbers gives a number
pub binary_number : (operator : BinOp) (left right : Sort) → IsOfNumber left → IsOfNumber right → IsOfNumber (sort_of_binary operator left right)
binary_number operator (sort.Number a) (sort.Number b) one other = tt
binary_number operator (sort.Number a) right one other = elim other [ ]
binary_number operator left right one other = elim one [ ]

-- `?:` of numbers is a number
pub choice_number : (given one other : Sort) → IsOfNumber given → IsOfNumber one → IsOfNumber other → IsOfNumber (sort_of_choice given one other)
choice_number (sort.Number a) (sort.Number b) (sort.Number c) f g h = tt
choice_number (sort.Number a) (sort.Number b) other f g h = elim h [ ]
choice_number (sort.Number a) one other f g h = elim g [ ]
choice_number given one other f g h = elim f [ ]

-- what a function gives is fine
pub given_fine : (gives : Option Kind) → IsFine (sort_given gives)
given_fine None = tt
given_fine (Some k) = tt
