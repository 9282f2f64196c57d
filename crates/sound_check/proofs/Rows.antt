-- What an expression holds as a row of a tree, and as a list.
use mathlib.Core.Former.{Count}
use Rattle.std.specs.Prelude.{◌≡◌, ℕ, ◌<◌, ◌^◌, ◌↔◌, List, length, slice_get, IsSomeAnd}
use Rattle.std.specs.List.{AllByRecursion}
use Rattle.std.proofs.Common.{sym, subst}
use Rattle.typed_tree.specs.declared.expression.TExpr.{TExpr, Row_of-TExpr, end_of-TExpr, more_of-TExpr, items-the_row-TExpr, items_hidden-the_row-TExpr-1}
use Rattle.typed_tree.specs.declared.expression.TExpr.TheVariants.{Const, Load, Bump, Call, Call', Active, Now}
use Rattle.typed_tree.specs.Forms.{Binary, Both, Cond, Convert, Either, Store, Unary, Update}
use Rattle.typed_tree.specs.declared.program.Typed.{Typed}
use Rattle.typed_tree.specs.SoundExpression.{AreSoundArguments, CallsEarlier, GivesNumber, HasFewArguments, IsSoundAlone, IsSoundExpr, IsSoundNode}

-- the row of a call
abbrev row_of : TExpr → (n : Count) × Row_of-TExpr n
row_of (Call' _ _ row) = (_, row)
row_of _ = (_, end_of-TExpr)

-- arguments in a row are sound where those in its list are
arguments_list : (typed : Typed) (number : ℕ) (n : Count) (row : Row_of-TExpr n) →
    AreSoundArguments typed number row ↔ AllByRecursion (IsSoundExpr typed number) (items-the_row-TExpr n row)
arguments_list typed number n end_of-TExpr = (λ h. h, λ h. h)
arguments_list typed number n (more_of-TExpr e rest) =
    let tail = arguments_list typed number _ rest in
    (λ h. (h.0, tail.0 h.1), λ h. (h.0, tail.1 h.1))

-- the arguments of a call
pub arguments : (typed : Typed) (number f : ℕ) (args : List TExpr) →
    AreSoundArguments typed number (row_of (Call f args)).1 ↔ AllByRecursion (IsSoundExpr typed number) args
arguments typed number f args =
    let row = row_of (Call f args) in
    let P : List TExpr → Type 0 = λ l. AreSoundArguments typed number row.1 ↔ AllByRecursion (IsSoundExpr typed number) l in
    subst P (items_hidden-the_row-TExpr-1 args) (arguments_list typed number row.0 row.1)

-- a call is of an earlier function
pub call_calls : (typed : Typed) (number : ℕ) (e : TExpr) (f : ℕ) (args : List TExpr) → e ≡ Call f args →
    CallsEarlier typed number e ↔
    ((f < number) × IsSomeAnd (slice_get typed.functions f) (λ function. length args ≡ length function.params))
call_calls typed number e f args is =
    let Q : List TExpr → Type 0 = λ l. CallsEarlier typed number (Call f args) ↔ ((f < number) × IsSomeAnd (slice_get typed.functions f) (λ function. length l ≡ length function.params)) in
    let here : Q args = subst Q (items_hidden-the_row-TExpr-1 args) (λ h. h, λ h. h) in
    let P : TExpr → Type 0 = λ e. CallsEarlier typed number e ↔ ((f < number) × IsSomeAnd (slice_get typed.functions f) (λ function. length args ≡ length function.params)) in
    subst P (sym is) here

-- a call has few arguments
pub call_few : (e : TExpr) (f : ℕ) (args : List TExpr) → e ≡ Call f args →
    HasFewArguments e ↔ (length args < 2 ^ 32)
call_few e f args is =
    let Q : List TExpr → Type 0 = λ l. HasFewArguments (Call f args) ↔ (length l < 2 ^ 32) in
    let here : Q args = subst Q (items_hidden-the_row-TExpr-1 args) (λ h. h, λ h. h) in
    let P : TExpr → Type 0 = λ e. HasFewArguments e ↔ (length args < 2 ^ 32) in
    subst P (sym is) here

-- a call whose number is used is sound
pub call_sound : (typed : Typed) (number : ℕ) (e : TExpr) (f : ℕ) (args : List TExpr) → e ≡ Call f args →
    IsSoundExpr typed number e ↔
    (IsSoundNode typed number e × GivesNumber typed f × AllByRecursion (IsSoundExpr typed number) args)
call_sound typed number e f args is =
    let P : TExpr → Type 0 = λ e. IsSoundExpr typed number e ↔ (IsSoundNode typed number e × GivesNumber typed f × AllByRecursion (IsSoundExpr typed number) args) in
    let list = arguments typed number f args in
    subst P (sym is) (λ h. (h.0, h.1, list.0 h.2), λ h. (h.0, h.1, list.1 h.2))

-- a call that stands alone is sound
pub call_alone : (typed : Typed) (number : ℕ) (e : TExpr) (f : ℕ) (args : List TExpr) → e ≡ Call f args →
    IsSoundAlone typed number e ↔
    (IsSoundNode typed number e × AllByRecursion (IsSoundExpr typed number) args)
call_alone typed number e f args is =
    let P : TExpr → Type 0 = λ e. IsSoundAlone typed number e ↔ (IsSoundNode typed number e × AllByRecursion (IsSoundExpr typed number) args) in
    let list = arguments typed number f args in
    subst P (sym is) (λ h. (h.0, list.0 h.1), λ h. (h.0, list.1 h.1))

-- a sound expression is sound itself
pub node_of_sound : (typed : Typed) (number : ℕ) (e : TExpr) → IsSoundExpr typed number e → IsSoundNode typed number e
node_of_sound typed number (Const n) h = h
node_of_sound typed number (Load place) h = h.0
node_of_sound typed number (Store place e) h = h.0
node_of_sound typed number (Update op k back place e) h = h.0
node_of_sound typed number (Bump place k up post) h = h.0
node_of_sound typed number (Unary op k e) h = h.0
node_of_sound typed number (Binary op k a b) h = h.0
node_of_sound typed number (Both a b) h = h.0
node_of_sound typed number (Either a b) h = h.0
node_of_sound typed number (Cond test a b) h = h.0
node_of_sound typed number (Convert k e) h = h.0
node_of_sound typed number (Call' f shape args) h = h.0
node_of_sound typed number (Active timer) h = h
node_of_sound typed number Now h = h
