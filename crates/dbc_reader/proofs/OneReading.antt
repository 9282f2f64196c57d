-- A text has one database, or one refusal.
use Rattle.std.proofs.Common.{◌≡◌, ◌≢◌, ℕ, Bool, List, [], ◌∷◌, Option, Some, None, refl, sym, ap, subst, ◌∙◌}
use Rattle.dbc_statements.specs.Token.{Placed, tokens_of, first_line}
use Rattle.dbc_statements.specs.Statement.{next, statement_at}
use Rattle.dbc_reader.specs.Database.{Said, nothing_said, has_owner, after_statement, repeated_line, messages_of, Lead, IsDatabase, IsWrong, IsUnspelled, IsRepeated, IsDatabaseRefusal}
use Rattle.dbc_statements.specs.declared.statement.Statement.{Statement}
use Rattle.dbc_reader.specs.declared.message.DbcMessage.{DbcMessage}
use Rattle.dbc_reader.specs.declared.refusal.DbcRefusal.{DbcRefusal}
use Rattle.dbc_reader.specs.declared.refusal.DbcRefusal.TheVariants as refusal

-- no further statement is well
abbrev Stops : Said → List Placed → Type 0
Stops said tokens = (st : Statement) (behind : List Placed) → statement_at (has_owner said.owner) tokens ≡ Some (st, behind) → repeated_line said st ≡ None → ⊥

stops_empty : (said : Said) → Stops said []
unfolding statement_at next
stops_empty said st behind reads new = cc

one_lead : (before : Said) (tokens : List Placed) (sts sts' : List Statement) (after after' : Said) (rest rest' : List Placed)
    → Lead before tokens sts after rest → Stops after rest → Lead before tokens sts' after' rest' → Stops after' rest' → (after ≡ after') × (rest ≡ rest')
one_lead before tokens [] [] after after' rest rest' lead stops lead' stops' = (lead.0 ∙ sym lead'.0, lead.1 ∙ sym lead'.1)
one_lead before tokens [] (s ∷ sts') after after' rest rest' lead stops lead' stops' =
    let no : Stops before tokens = subst (λ said. Stops said tokens) lead.0 (subst (Stops after) lead.1 stops) in absurd (no s lead'.0 lead'.1 lead'.2)
one_lead before tokens (s ∷ sts) [] after after' rest rest' lead stops lead' stops' =
    let no : Stops before tokens = subst (λ said. Stops said tokens) lead'.0 (subst (Stops after') lead'.1 stops') in absurd (no s lead.0 lead.1 lead.2)
one_lead before tokens (s ∷ sts) (s' ∷ sts') after after' rest rest' lead stops lead' stops' =
    let both : Some (s, lead.0) ≡ Some (s', lead'.0) = sym lead.1 ∙ lead'.1 in
    let same_statement : s' ≡ s = ap (λ o. first o) (sym both) in
    let same_rest : lead'.0 ≡ lead.0 = ap (λ o. second o) (sym both) in
    one_lead (after_statement before s) lead.0 sts sts' after after' rest rest' lead.3 stops
    (subst (λ ts. Lead (after_statement before s) ts sts' after' rest') same_rest (subst (λ (st : Statement). Lead (after_statement before st) lead'.0 sts' after' rest') same_statement lead'.3)) stops'
  where
    first : Option (Statement × List Placed) → Statement
    first None = s
    first (Some p) = p.0

    second : Option (Statement × List Placed) → List Placed
    second None = tokens
    second (Some p) = p.1

-- two databases of a text are one
pub one_database : (text : List ℕ) (one other : List DbcMessage) → IsDatabase text one → IsDatabase text other → one ≡ other
one_database text one other is is' =
    let same = one_lead nothing_said (tokens_of text) is.0 is'.0 is.1 is'.1 [] [] is.2 (stops_empty is.1) is'.2 (stops_empty is'.1) in
    is.3 ∙ ap messages_of same.0 ∙ sym is'.3

stops_unread : (said : Said) (tokens : List Placed) → statement_at (has_owner said.owner) tokens ≡ None → Stops said tokens
stops_unread said tokens none st behind reads new = cc

abbrev first_of_read : Statement → Option (Statement × List Placed) → Statement
first_of_read st None = st
first_of_read st (Some p) = p.0

stops_repeat : (said : Said) (tokens : List Placed) (line : ℕ) (st : Statement) (behind : List Placed) → statement_at (has_owner said.owner) tokens ≡ Some (st, behind) → repeated_line said st ≡ Some line → Stops said tokens
stops_repeat said tokens line st behind reads repeats st' behind' reads' new =
    let both : Some (st, behind) ≡ Some (st', behind') = sym reads ∙ reads' in
    let same : st' ≡ st = ap (first_of_read st) (sym both) in
    let new' : repeated_line said st ≡ None = subst (λ (s : Statement). repeated_line said s ≡ None) same new in
    let both' : Some line ≡ None = sym repeats ∙ new' in cc

-- where a text is wrong no further statement is well
abbrev IsStop : List ℕ → Said → List Placed → Type 0
IsStop text said rest = (sts : List Statement) × Lead nothing_said (tokens_of text) sts said rest × Stops said rest

one_stop : (text : List ℕ) (said said' : Said) (rest rest' : List Placed) → IsStop text said rest → IsStop text said' rest' → (said ≡ said') × (rest ≡ rest')
one_stop text said said' rest rest' stop stop' = one_lead nothing_said (tokens_of text) stop.0 stop'.0 said said' rest rest' stop.1 stop.2 stop'.1 stop'.2

stop_text : (text : List ℕ) (line : ℕ) (wrong : IsWrong text (IsUnspelled line)) → IsStop text wrong.1 wrong.2
stop_text text line wrong = (wrong.0, wrong.3, stops_unread wrong.1 wrong.2 wrong.4.0)

stop_twice : (text : List ℕ) (line : ℕ) (wrong : IsWrong text (IsRepeated line)) → IsStop text wrong.1 wrong.2
stop_twice text line wrong = (wrong.0, wrong.3, stops_repeat wrong.1 wrong.2 line wrong.4.0 wrong.4.1 wrong.4.2 wrong.4.3)

stop_end : (text : List ℕ) (messages : List DbcMessage) (is : IsDatabase text messages) → IsStop text is.1 []
stop_end text messages is = (is.0, is.2, stops_empty is.1)

no_line : (tokens : List Placed) (line : ℕ) → [] ≡ tokens → first_line tokens ≡ Some line → ⊥
no_line [] line e here = cc
no_line (t ∷ ts) line e here = cc

no_statement : (inside : Bool) (tokens behind : List Placed) (st : Statement) → [] ≡ tokens → statement_at inside tokens ≡ Some (st, behind) → ⊥
unfolding statement_at next
no_statement inside [] behind st e reads = cc
no_statement inside (t ∷ ts) behind st e reads = cc

-- a text with a database is not refused, but for want of memory
pub no_refusal : (text : List ℕ) (messages : List DbcMessage) (r : DbcRefusal) → IsDatabase text messages → IsDatabaseRefusal text r → r ≡ refusal.NoMemory
no_refusal text messages (refusal.Text line) is wrong =
    absurd (no_line wrong.2 line ((one_stop text is.1 wrong.1 [] wrong.2 (stop_end text messages is) (stop_text text line wrong)).1) wrong.4.1)
no_refusal text messages (refusal.Twice line) is wrong =
    absurd (no_statement _ wrong.2 wrong.4.1 wrong.4.0 ((one_stop text is.1 wrong.1 [] wrong.2 (stop_end text messages is) (stop_twice text line wrong)).1) wrong.4.2)
no_refusal text messages refusal.NoMemory is wrong = refl

abbrev some_of : ℕ → Option ℕ → ℕ
some_of default None = default
some_of default (Some n) = n

same_number : (n m : ℕ) → Some n ≡ Some m → n ≡ m
same_number n m same = ap (some_of n) same

not_both : (text : List ℕ) (line line' : ℕ) → IsWrong text (IsUnspelled line) → IsWrong text (IsRepeated line') → ⊥
not_both text line line' wrong wrong' =
    let same = one_stop text wrong.1 wrong'.1 wrong.2 wrong'.2 (stop_text text line wrong) (stop_twice text line' wrong') in
    let unread = subst (λ (said : Said). statement_at (has_owner said.owner) wrong'.2 ≡ None) same.0 (subst (λ (ts : List Placed). statement_at (has_owner wrong.1.owner) ts ≡ None) same.1 wrong.4.0) in
    let read = wrong'.4.2 in cc

same_text : (text : List ℕ) (line line' : ℕ) → IsWrong text (IsUnspelled line) → IsWrong text (IsUnspelled line') → line ≡ line'
same_text text line line' wrong wrong' =
    let same = one_stop text wrong.1 wrong'.1 wrong.2 wrong'.2 (stop_text text line wrong) (stop_text text line' wrong') in
    same_number line line' (sym wrong.4.1 ∙ ap first_line same.1 ∙ wrong'.4.1)

same_twice : (text : List ℕ) (line line' : ℕ) → IsWrong text (IsRepeated line) → IsWrong text (IsRepeated line') → line ≡ line'
same_twice text line line' wrong wrong' =
    let same = one_stop text wrong.1 wrong'.1 wrong.2 wrong'.2 (stop_twice text line wrong) (stop_twice text line' wrong') in
    let read = subst (λ (said : Said). statement_at (has_owner said.owner) wrong'.2 ≡ Some (wrong.4.0, wrong.4.1)) same.0 (subst (λ (ts : List Placed). statement_at (has_owner wrong.1.owner) ts ≡ Some (wrong.4.0, wrong.4.1)) same.1 wrong.4.2) in
    let statements : wrong.4.0 ≡ wrong'.4.0 = ap (first_of_read wrong.4.0) (sym read ∙ wrong'.4.2) in
    same_number line line' (sym wrong.4.3 ∙ ap (λ (said : Said). repeated_line said wrong.4.0) same.0 ∙ ap (λ (st : Statement). repeated_line wrong'.1 st) statements ∙ wrong'.4.3)

-- two refusals of a text are one, but for want of memory
pub one_refusal : (text : List ℕ) (one other : DbcRefusal) → IsDatabaseRefusal text one → IsDatabaseRefusal text other → one ≢ refusal.NoMemory → other ≢ refusal.NoMemory → one ≡ other
one_refusal text (refusal.Text line) (refusal.Text line') wrong wrong' _ _ = ap refusal.Text (same_text text line line' wrong wrong')
one_refusal text (refusal.Text line) (refusal.Twice line') wrong wrong' _ _ = absurd (not_both text line line' wrong wrong')
one_refusal text (refusal.Twice line) (refusal.Text line') wrong wrong' _ _ = absurd (not_both text line' line wrong' wrong)
one_refusal text (refusal.Twice line) (refusal.Twice line') wrong wrong' _ _ = ap refusal.Twice (same_twice text line line' wrong wrong')
one_refusal text refusal.NoMemory other _ _ memory _ = absurd (memory refl)
one_refusal text (refusal.Text line) refusal.NoMemory _ _ _ memory = absurd (memory refl)
one_refusal text (refusal.Twice line) refusal.NoMemory _ _ _ memory = absurd (memory refl)
