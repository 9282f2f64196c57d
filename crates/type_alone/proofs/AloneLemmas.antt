-- Expressions that stand alone, by the forms that code makes.
use Rattle.std.proofs.Common.{◌≡◌, ◌∙◌, ℕ, List, Option, None, Some, sym, ap}
use Rattle.std.specs.Prelude.{slice_get}
use Rattle.std.specs.Option.{option_map}
use Rattle.int_kinds.specs.declared.operators.BinOp.{BinOp}
use Rattle.capl_tree.specs.declared.expr.Expr.{Expr}
use Rattle.capl_tree.specs.declared.expr.Expr.TheVariants as expr
use Rattle.capl_tree.proofs.FormLemmas as form
use Rattle.typed_tree.specs.declared.statement.TStmt.{TStmt}
use Rattle.typed_tree.specs.declared.statement.TStmt.TheVariants.{Copy, Eval}
use Rattle.capl_meaning.specs.Message as meant
use Rattle.capl_meaning.specs.Message.{message_in}
use Rattle.capl_meaning.specs.Names.{Names, Scope}
use Rattle.capl_meaning.specs.Variable.{Variable}
use Rattle.typed_laws.specs.Laid.{message_slot}
use Rattle.typed_source.specs.Expression.{expression_of}
use Rattle.typed_source.specs.Statement.{alone_of, formats_of_alone, of_assignment}
use Rattle.check_sorts.specs.declared.message.Held.{Held}
use Rattle.check_sorts.specs.declared.message.Held.TheVariants as held
use Rattle.check_sorts.specs.Form.{signals_in}
use Rattle.check_sorts.specs.Message.{held_in}

-- the tree of an expression under parentheses
pub paren_alone : (s : Scope) (order : List ℕ) (before : ℕ) (e inner : Expr) (at : ℕ) → e ≡ expr.Paren inner at →
    alone_of s order before inner ≡ alone_of s order before e
paren_alone s order before e inner at is = sym (ap (alone_of s order before) (is ∙ form.paren_form inner at))

-- its formats
pub paren_formats : (s : Scope) (e inner : Expr) (at : ℕ) → e ≡ expr.Paren inner at →
    formats_of_alone s inner ≡ formats_of_alone s e
paren_formats s e inner at is = sym (ap (formats_of_alone s) (is ∙ form.paren_form inner at))

-- the tree of an assignment
pub assignment_alone : (s : Scope) (order : List ℕ) (before : ℕ) (e left right one two : Expr) (op : Option BinOp) (at : ℕ) →
    e ≡ expr.Assign op left right at → op ≡ None → one ≡ left → two ≡ right →
    of_assignment s.names (message_in s one) (message_in s two) (Eval (expression_of s order e)) ≡ alone_of s order before e
assignment_alone s order before e left right one two op at is op_is one_is two_is =
    let whole : e ≡ _ = is ∙ ap (λ o. expr.Assign o left right at) op_is ∙ form.assign_form None left right at in
    ap (λ l. of_assignment s.names (message_in s l) (message_in s two) (Eval (expression_of s order e))) one_is
    ∙ ap (λ r. of_assignment s.names (message_in s left) (message_in s r) (Eval (expression_of s order e))) two_is
    ∙ ap (λ x. of_assignment s.names (message_in s left) (message_in s right) (Eval (expression_of s order x))) whole
    ∙ sym (ap (alone_of s order before) whole)

-- the copy of a message to a variable
pub variable_copied : (names : Names) (to : Held) (number : ℕ) (signals : _) (left right : meant.Held) (a b : ℕ) (other : TStmt) →
    to ≡ held.Variable number signals → held_in names to ≡ Some left → a ≡ message_slot names left → b ≡ message_slot names right →
    Copy a b ≡ of_assignment names (Some left) (Some right) other
variable_copied names to number signals left right a b other is there a_is b_is =
    by left (sym (ap (held_in names) is) ∙ there) a_is
  where
    by : (m : meant.Held) → option_map (λ v. meant.HeldVariable v (signals_in signals)) (slice_get names.variables number) ≡ Some m →
        a ≡ message_slot names m → Copy a b ≡ of_assignment names (Some m) (Some right) other
    by (meant.HeldVariable v known) there a_is = ap (λ n. Copy n b) a_is ∙ ap (λ n. Copy (message_slot names (meant.HeldVariable v known)) n) b_is
    by (meant.HeldFrame known) there a_is = frame (slice_get names.variables number) there
      where
        frame : (o : Option Variable) → option_map (λ v. meant.HeldVariable v (signals_in signals)) o ≡ Some (meant.HeldFrame known) →
            Copy a b ≡ of_assignment names (Some (meant.HeldFrame known)) (Some right) other
        frame None h = absurd (let f : None ≡ Some (meant.HeldFrame known) = h in cc)
        frame (Some v) h = absurd (let f : Some (meant.HeldVariable v (signals_in signals)) ≡ Some (meant.HeldFrame known) = h in cc)
