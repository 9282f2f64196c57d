-- The goals of a procedure's head go the way of its readers.
use Rattle.std.proofs.Common.{◌≡◌, ℕ, suc, ◌+◌, ◌-◌, ◌≤◌, ◌<◌, Bool, true, false, if◌then◌else◌, List, [], ◌∷◌, ◌++◌, length, Option, Some, None, refl, sym, ◌∙◌, arith}
use Rattle.std.specs.Prelude.{◌||◌, is_some, codes}
use Rattle.std.specs.Str.{bytes_eq}
use Rattle.int_kinds.specs.declared.kinds.Kind.{Kind}
use Rattle.capl_lexer.specs.declared.token.Tok.{Tok}
use Rattle.capl_lexer.specs.declared.token.Tok.TheVariants as tok
use Rattle.capl_lexer.specs.declared.token.Word.TheVariants as word
use Rattle.capl_lexer.specs.declared.token.Sign.TheVariants as sign
use Rattle.capl_tree.specs.declared.expr.Expr.{Expr}
use Rattle.capl_tree.specs.declared.procedure.Head.{Head}
use Rattle.capl_tree.specs.declared.procedure.Head.TheVariants as head
use Rattle.capl_tree.specs.declared.procedure.Param.{Param}
use Rattle.capl_tree.specs.declared.procedure.Sel.{Sel}
use Rattle.capl_tree.specs.declared.procedure.SelWhat.{SelWhat}
use Rattle.capl_tree.specs.declared.procedure.SelWhat.TheVariants as selected
use Rattle.expr_parser.specs.Reading.{Read, and_then, begins, behind, after, items}
use Rattle.expr_parser.specs.Operators.{kind_of}
use Rattle.parser_laws.specs.File.{name, numeral, range, one_selection, selection, channel_named, on_channel, named_selector, selector, key, named_event, event, parameter_of, parameter, parameters, signature}
use Rattle.parser_laws.proofs.Steps.{step}
use Rattle.viable_prefixes.specs.declared.goal.Goal.{Goal}
use Rattle.viable_prefixes.specs.declared.goal.Goal.TheVariants as goal
use Rattle.viable_prefixes.specs.Inside.Stack.{Stack, when}
use Rattle.viable_prefixes.specs.Inside.File as from
use Rattle.viable_prefixes.specs.Inside.Goals.{accepts, accepts_behind}
use Rattle.viable_prefixes.proofs.StepFollows.{some_leaves, leaves_some}
use Rattle.viable_prefixes.proofs.ListFollows.{Follows, items_followed, items_leave, ends_by}
use Rattle.viable_prefixes.proofs.Together.{leads, leads_goes, leads_on, Goes, goes_then, read_here, gives, goes_behind, goes_least, reads_none, sign_goes}

-- a name
pub name_goes : (ts : List Tok) → Goes (goal.Name ∷ []) (name ts) ts 1
name_goes [] = reads_none (λ stack. refl)
name_goes (tok.Name text ∷ ts) = goes_behind (λ stack. refl) (gives text ts)
name_goes (_ ∷ ts) = reads_none (λ stack. refl)

-- a number
numeral_goes : (total : ℕ) (ts : List Tok) → Goes (goal.Number ∷ []) (numeral total ts) ts 1
numeral_goes total [] = reads_none (λ stack. refl)
numeral_goes total (tok.Num ext value ∷ ts) = goes_behind (λ stack. refl) (gives _ ts)
numeral_goes total (_ ∷ ts) = reads_none (λ stack. refl)

-- behind the first number of a selector
range_goes : (total at : ℕ) (low : Expr) (ts : List Tok) → Goes (goal.Range ∷ []) (range total at low ts) ts 0
unfolding range
range_goes total at low [] = record { same = λ stack. refl; less = (gives (selected.Ids low None at) []).less }
range_goes total at low (tok.Sign sign.Minus ∷ ts) =
    goes_least 0 (omega arith) (goes_behind (λ stack. refl) (goes_then (numeral_goes total ts) (λ high ts less. gives (selected.Ids low (Some high) at) ts)))
range_goes total at low (t ∷ ts) = record { same = λ stack. refl; less = (gives (selected.Ids low None at) (t ∷ ts)).less }

-- which frames of a channel
selection_goes : (total : ℕ) (ts : List Tok) → Goes (goal.Selection ∷ []) (selection total ts) ts 1
unfolding selection one_selection
selection_goes total [] = reads_none (λ stack. refl)
selection_goes total (tok.Sign sign.Star ∷ ts) = goes_behind (λ stack. refl) (gives _ ts)
selection_goes total (tok.Name text ∷ ts) = goes_behind (λ stack. refl) (gives _ ts)
selection_goes total (tok.Num ext value ∷ ts) = goes_behind (λ stack. refl) (range_goes total _ _ ts)
selection_goes total (_ ∷ ts) = reads_none (λ stack. refl)

-- a selector of a channel
abbrev on : ℕ → SelWhat → Sel
on chan what = record { chan = chan; what = what }

-- which frames of this channel, as a selector
channel_goes : (total chan : ℕ) (ts : List Tok)
    → Goes (goal.Selection ∷ []) (and_then (selection total ts) (λ what ts. read_here (on chan what) ts)) ts 1
channel_goes total chan ts = goes_then (selection_goes total ts) (λ what ts less. gives (on chan what) ts)

-- behind the name of this channel, which may be a message's
behind_channel : (total at chan : ℕ) (text : List ℕ) (ts : List Tok)
    → Goes (goal.Channel ∷ []) (on_channel total at text (if begins sign.Dot ts then Some chan else None) ts) ts 0
unfolding on_channel
behind_channel total at chan text [] = record { same = λ stack. refl; less = (gives (on 0 (selected.Name text at)) []).less }
behind_channel total at chan text (tok.Sign sign.Dot ∷ ts) = goes_least 0 (omega arith) (goes_behind (λ stack. refl) (channel_goes total chan ts))
behind_channel total at chan text (t ∷ ts) =
    record { same = λ stack. refl; less = (gives (on 0 (selected.Name text at)) (t ∷ ts)).less }

-- behind any other name
behind_message : (total at : ℕ) (text : List ℕ) (dot : Bool) (ts : List Tok)
    → Goes [] (on_channel total at text (if dot then None else None) ts) ts 0
unfolding on_channel
behind_message total at text true ts = gives _ ts
behind_message total at text false ts = gives _ ts

-- behind a name, by which of the channels' names it is
behind_name : (total at : ℕ) (text : List ℕ) (one two : Bool) (ts : List Tok)
    → Goes (if one || two then goal.Channel ∷ [] else [])
    (on_channel total at text (if begins sign.Dot ts then (if one then Some 1 else (if two then Some 2 else None)) else None) ts) ts 0
behind_name total at text true two ts = behind_channel total at 1 text ts
behind_name total at text false true ts = behind_channel total at 2 text ts
behind_name total at text false false ts = behind_message total at text (begins sign.Dot ts) ts

-- a selector that begins with a name
named_goes : (total at : ℕ) (text : List ℕ) (ts : List Tok)
    → Goes (if from.names_channel text then goal.Channel ∷ [] else []) (named_selector total at text ts) ts 0
unfolding named_selector
named_goes total at text ts = behind_name total at text (bytes_eq text (codes "CAN1")) (bytes_eq text (codes "CAN2")) ts

-- the goals behind a name, before those of a stack
goals_behind : (named : Bool) (stack : Stack) (ts : List Tok)
    → accepts (if named then goal.Channel ∷ stack else stack) ts ≡ accepts ((if named then goal.Channel ∷ [] else []) ++ stack) ts
goals_behind true stack ts = refl
goals_behind false stack ts = refl

-- a selector
selector_goes : (total : ℕ) (ts : List Tok) → Goes (goal.Selector ∷ []) (selector total ts) ts 1
unfolding selector selection one_selection
selector_goes total [] = reads_none (λ stack. refl)
selector_goes total (tok.Name text ∷ ts) =
    goes_behind (λ stack. goals_behind (from.names_channel text) stack ts) (named_goes total (total - suc (length ts)) text ts)
selector_goes total (tok.Sign sign.Star ∷ ts) = goes_behind (λ stack. refl) (gives _ ts)
selector_goes total (tok.Num ext value ∷ ts) = goes_behind (λ stack. refl) (goes_then (range_goes total _ _ ts) (λ what ts less. gives _ ts))
selector_goes total (_ ∷ ts) = reads_none (λ stack. refl)

-- a reader whose goal takes at least a token of any tokens
follows : {A : Type 0} (each : Goal) (one : List Tok → Read A) (most : ℕ) → ((ts : List Tok) → Goes (each ∷ []) (one ts) ts 1) → Follows each one most
follows each one most known = record {
  same = λ ts stack fits. (known ts).same stack ∙ sym (leads_goes (one ts) stack);
  less = λ ts. some_leaves (one ts) (length ts) (λ a rest e. omega (arith, (known ts).less a rest e));
}

-- behind a selector
selectors_on : (stack : Stack) (ts : List Tok)
    → accepts (goal.FurtherSelectors ∷ stack) ts ≡ (if begins sign.Comma ts then accepts (goal.Selector ∷ goal.FurtherSelectors ∷ stack) (behind ts) else accepts stack ts)
selectors_on stack [] = refl
selectors_on stack (tok.Sign sign.Comma ∷ ts) = refl
selectors_on stack (_ ∷ ts) = refl

-- selectors
selectors_goes : (total : ℕ) (ts : List Tok) → Goes (goal.Selector ∷ goal.FurtherSelectors ∷ []) (items (selector total) ts) ts 1
selectors_goes total ts = record {
  same = λ stack.
      items_followed goal.Selector goal.FurtherSelectors (selector total) (length ts) known stack stack (record { same = selectors_on stack }) ts (omega arith)
      ∙ leads_goes (items (selector total) ts) stack;
  less = λ all rest e. omega (arith, leaves_some (items (selector total) ts) (length ts) all rest (items_leave (selector total) known.less ts) e);
}
  where
    known : Follows goal.Selector (selector total) (length ts)
    known = follows goal.Selector (selector total) (length ts) (selector_goes total)

-- behind `on key`
key_goes : (ts : List Tok) → Goes (goal.Key ∷ []) (key ts) ts 1
unfolding key after
key_goes [] = reads_none (λ stack. refl)
key_goes (tok.Char value ∷ ts) = goes_behind (λ stack. refl) (gives _ ts)
key_goes (tok.Sign sign.Star ∷ ts) = goes_behind (λ stack. refl) (gives _ ts)
key_goes (_ ∷ ts) = reads_none (λ stack. refl)

-- behind `on` and a name, by which of the names it is
event_by : (start begin stop key_next : Bool) (ts : List Tok) (stack : Stack)
    → accepts_behind (if start || begin || stop then Some stack else when key_next (goal.Key ∷ stack)) ts
    ≡ leads (if start then read_here head.PreStart ts
    else (if begin then read_here head.Start ts else (if stop then read_here head.Stop ts else (if key_next then key ts else None)))) (accepts stack)
event_by true begin stop key_next ts stack = refl
event_by false true stop key_next ts stack = refl
event_by false false true key_next ts stack = refl
event_by false false false true ts stack = (key_goes ts).same stack
event_by false false false false ts stack = refl

event_less : (start begin stop key_next : Bool) (ts : List Tok) (of : Head) (rest : List Tok)
    → (if start then read_here head.PreStart ts
    else (if begin then read_here head.Start ts else (if stop then read_here head.Stop ts else (if key_next then key ts else None)))) ≡ Some (of, rest)
    → length rest + 0 ≤ length ts
event_less true begin stop key_next ts of rest e = (gives head.PreStart ts).less of rest e
event_less false true stop key_next ts of rest e = (gives head.Start ts).less of rest e
event_less false false true key_next ts of rest e = (gives head.Stop ts).less of rest e
event_less false false false true ts of rest e = omega (arith, (key_goes ts).less of rest e)
event_less false false false false ts of rest e = absurd cc

named_same : (text : List ℕ) (ts : List Tok) (stack : Stack) → accepts_behind (from.event_named text stack) ts ≡ leads (named_event text ts) (accepts stack)
unfolding named_event
named_same text ts stack =
    event_by (bytes_eq text (codes "preStart")) (bytes_eq text (codes "start")) (bytes_eq text (codes "stopMeasurement")) (bytes_eq text (codes "key")) ts stack

named_less : (text : List ℕ) (ts : List Tok) (of : Head) (rest : List Tok) → named_event text ts ≡ Some (of, rest) → length rest + 0 ≤ length ts
unfolding named_event
named_less text ts of rest e =
    event_less (bytes_eq text (codes "preStart")) (bytes_eq text (codes "start")) (bytes_eq text (codes "stopMeasurement")) (bytes_eq text (codes "key")) ts of rest e

-- behind `on`
pub event_goes : (total : ℕ) (ts : List Tok) → Goes (goal.Event ∷ []) (event total ts) ts 1
unfolding event
event_goes total [] = reads_none (λ stack. refl)
event_goes total (tok.Word word.Message ∷ ts) =
    goes_behind (λ stack. refl) (goes_then (selectors_goes total ts) (λ selectors ts less. gives (head.Message selectors) ts))
event_goes total (tok.Word word.Timer ∷ ts) = goes_behind (λ stack. refl) (goes_then (name_goes ts) (λ text rest less. gives _ rest))
event_goes total (tok.Name text ∷ ts) = record {
  same = λ stack. named_same text ts stack;
  less = λ of rest e. omega (arith, named_less text ts of rest e);
}
event_goes total (_ ∷ ts) = reads_none (λ stack. refl)

-- a parameter, by the kind that it begins with
parameter_same : (total : ℕ) (kind : Option Kind) (ts : List Tok) (stack : Stack)
    → accepts_behind (when (is_some kind) (goal.Name ∷ stack)) ts ≡ leads (parameter_of total kind ts) (accepts stack)
unfolding parameter_of
parameter_same total None ts stack = refl
parameter_same total (Some kind) ts stack = (goes_then (name_goes ts) (λ text rest less. gives _ rest)).same stack

parameter_less : (total : ℕ) (kind : Option Kind) (ts : List Tok) (one : Param) (rest : List Tok) → parameter_of total kind ts ≡ Some (one, rest)
    → length rest + 1 ≤ length ts
unfolding parameter_of
parameter_less total None ts one rest e = absurd cc
parameter_less total (Some kind) ts one rest e = (goes_then (name_goes ts) (λ text rest less. gives _ rest)).less one rest e

-- a parameter
parameter_goes : (total : ℕ) (ts : List Tok) → Goes (goal.Parameter ∷ []) (parameter total ts) ts 1
unfolding parameter
parameter_goes total [] = record {
  same = λ stack. parameter_same total None [] stack;
  less = λ one rest e. omega (arith, parameter_less total None [] one rest e);
}
parameter_goes total (tok.Word of ∷ ts) = record {
  same = λ stack. parameter_same total (kind_of of) ts stack;
  less = λ one rest e. omega (arith, parameter_less total (kind_of of) ts one rest e);
}
parameter_goes total (_ ∷ ts) = record {
  same = λ stack. parameter_same total None ts stack;
  less = λ one rest e. omega (arith, parameter_less total None ts one rest e);
}

-- parameters, at least one
listed_goes : (total : ℕ) (ts : List Tok)
    → Goes (goal.Parameter ∷ goal.FurtherParameters ∷ []) (and_then (items (parameter total) ts) (λ params ts. and_then (after sign.CloseParen ts) (λ _ ts. read_here params ts))) ts 1
listed_goes total ts = record {
  same = λ stack.
      items_followed goal.Parameter goal.FurtherParameters (parameter total) (length ts) known stack (goal.Sign sign.CloseParen ∷ stack)
      (ends_by goal.Parameter goal.FurtherParameters sign.CloseParen stack refl (λ t stack. refl)) ts (omega arith)
      ∙ leads_goes (items (parameter total) ts) (goal.Sign sign.CloseParen ∷ stack)
      ∙ leads_on (items (parameter total) ts) (λ params ts. and_then (after sign.CloseParen ts) (λ _ ts. read_here params ts))
      (accepts (goal.Sign sign.CloseParen ∷ stack)) (accepts stack) (λ params rest e. (closed params rest).same stack);
  less = λ all rest e.
      step (items (parameter total) ts) (λ params ts. and_then (after sign.CloseParen ts) (λ _ ts. read_here params ts)) all rest (length rest + 1 ≤ length ts) e
      (λ params left read e.
      let a : length left < length ts = leaves_some (items (parameter total) ts) (length ts) params left (items_leave (parameter total) known.less ts) read in
      let b = (closed params left).less all rest e in omega arith);
}
  where
    known : Follows goal.Parameter (parameter total) (length ts)
    known = follows goal.Parameter (parameter total) (length ts) (parameter_goes total)

    closed : (params : List Param) (ts : List Tok) → Goes (goal.Sign sign.CloseParen ∷ []) (and_then (after sign.CloseParen ts) (λ _ ts. read_here params ts)) ts 1
    closed params ts = goes_then (sign_goes sign.CloseParen ts) (λ u ts less. gives params ts)

-- the goal of parameters, where neither `)` nor `void` comes, is that of at least one
parameters_listed : (total : ℕ) (ts : List Tok)
    → ((stack : Stack) → accepts (goal.Parameters ∷ stack) ts ≡ accepts (goal.Parameter ∷ goal.FurtherParameters ∷ stack) ts)
    → Goes (goal.Parameters ∷ []) (and_then (items (parameter total) ts) (λ params ts. and_then (after sign.CloseParen ts) (λ _ ts. read_here params ts))) ts 1
parameters_listed total ts same = record { same = λ stack. same stack ∙ (listed_goes total ts).same stack; less = (listed_goes total ts).less }

-- behind the opening parenthesis of a function
parameters_goes : (total : ℕ) (ts : List Tok) → Goes (goal.Parameters ∷ []) (parameters total ts) ts 1
unfolding parameters
parameters_goes total [] = parameters_listed total [] (λ stack. refl)
parameters_goes total (tok.Sign sign.CloseParen ∷ ts) = goes_behind (λ stack. refl) (gives _ ts)
parameters_goes total (tok.Word word.Void ∷ ts) = goes_behind (λ stack. refl) (goes_then (sign_goes sign.CloseParen ts) (λ u ts less. gives _ ts))
parameters_goes total (t ∷ ts) = parameters_listed total (t ∷ ts) (λ stack. refl)

-- a function, from its name on
pub signature_goes : (total : ℕ) (kind : Option Kind) (ts : List Tok)
    → Goes (goal.Name ∷ goal.Sign sign.OpenParen ∷ goal.Parameters ∷ []) (signature total kind ts) ts 3
unfolding signature
signature_goes total kind ts =
    goes_then (name_goes ts) (λ text rest less.
    goes_then (sign_goes sign.OpenParen rest) (λ u rest less.
    goes_then (parameters_goes total rest) (λ params rest less. gives _ rest)))
