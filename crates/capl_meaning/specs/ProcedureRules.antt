-- The rules that the heads of procedures and the names of declarations break (CAPL manual, event procedures,
-- functions, variables).
use Rattle.std.specs.Prelude.{ℕ, ◌+◌, ◌-◌, ◌^◌, ◌==◌, Bool, true, false, ◌&&◌, ◌||◌, if◌then◌else◌, nat_le, List, [], ◌∷◌, ◌++◌, flat_map, filter, filter_map, map, is_none, is_some, Option, Some, None}
use Rattle.std.specs.Bool.{beq, then_some}
use Rattle.std.specs.Option.{option_and_then, option_map, option_map_or}
use Rattle.std.specs.Str.{bytes_eq}
use Rattle.texts.specs.Rule.{source_rule}
use Rattle.run_effects.specs.declared.event.Selector.{Selector}
use Rattle.dbc_reader.specs.declared.message.DbcMessage.{DbcMessage}
use Rattle.capl_tree.specs.declared.declaration.Decl.{Decl}
use Rattle.capl_tree.specs.declared.expr.Expr.{Expr}
use Rattle.capl_tree.specs.declared.expr.Expr.TheVariants as expr
use Rattle.capl_tree.specs.declared.procedure.Head.{Head}
use Rattle.capl_tree.specs.declared.procedure.Head.TheVariants as head
use Rattle.capl_tree.specs.declared.procedure.Sel.{Sel}
use Rattle.capl_tree.specs.declared.procedure.SelWhat.{SelWhat}
use Rattle.capl_tree.specs.declared.procedure.SelWhat.TheVariants as selected
use Rattle.capl_meaning.specs.declared.offence.Offence.{Offence}
use Rattle.capl_meaning.specs.Variable.{Form, Timer, Misfit, Part, Globals, Procedure, Variable, identifier, is_timer, message_named}
use Rattle.capl_meaning.specs.Names.{Names, Scope, builtin_named, global}
use Rattle.capl_meaning.specs.DeclarationRules.{is_identifier, is_in_range, message_name_rule}
use Rattle.capl_meaning.specs.ExpressionRules.{broken_where, offence}
use Rattle.capl_meaning.specs.StatementRules.{repeated}

-- ---- selectors

-- the selection key of a number that is an identifier; a selector has no other expressions
abbrev pub selected_key : Expr → Option ℕ
selected_key (expr.Num value extended at) =
    if is_identifier value extended then option_map (λ n. identifier n extended) value else None
selected_key _ = None

-- the selector of one rank for the keys of a range
abbrev pub keys_between : ℕ → ℕ → ℕ → Selector
keys_between rank low high = record { rank = rank; low = low; high = high }

-- two keys are of one form, and the second is not below the first
abbrev pub is_range : ℕ → ℕ → Bool
is_range low high = beq (nat_le (2 ^ 31) low) (nat_le (2 ^ 31) high) && nat_le low high

-- what a single identifier or a range selects; nothing where it breaks a rule
abbrev pub selector_of_numbers : Expr → Option Expr → Option Selector
selector_of_numbers low None = option_map (λ key. keys_between 0 key key) (selected_key low)
selector_of_numbers low (Some high) =
    option_and_then (λ least. option_and_then (λ most.
    then_some (is_range least most) (keys_between 1 least most)) (selected_key high)) (selected_key low)

-- what is selected, whichever the channel: `*` all keys, a message by name or a single identifier one, a
-- range those in it
abbrev pub selector_of : List DbcMessage → SelWhat → Option Selector
selector_of base (selected.Any at) = Some (keys_between 2 0 0xFFFFFFFF)
selector_of base (selected.Name name at) =
    option_and_then (λ m. then_some (is_in_range m.id) (keys_between 0 m.id m.id)) (message_named base name)
selector_of base (selected.Ids low high at) = selector_of_numbers low high

-- the channels that a selector is for
pub data Channels : Type 0 where
  Both : Channels
  First : Channels
  Second : Channels

-- those of a number, which is 1, 2, or 0 where no channel is named
abbrev pub channels_of : ℕ → Channels
channels_of chan = if chan == 1 then First else (if chan == 2 then Second else Both)

-- the first channel is among them
abbrev pub hold_first : Channels → Bool
hold_first Second = false
hold_first _ = true

-- the second channel is among them
abbrev pub hold_second : Channels → Bool
hold_second First = false
hold_second _ = true

-- two selectors are for a channel in common: their channels are equal, or one of them has none
abbrev pub share_channel : Channels → Channels → Bool
share_channel First Second = false
share_channel Second First = false
share_channel _ _ = true

-- the same identifiers on the second channel: bit 30 of a selection key marks it
abbrev pub on_second : Selector → Selector
on_second keys = record { rank = keys.rank; low = keys.low + 2 ^ 30; high = keys.high + 2 ^ 30 }

-- the selection keys of identifiers on channels
abbrev pub identifiers_on : Channels → Selector → List Selector
identifiers_on channels keys =
    (if hold_first channels then keys ∷ [] else [])
    ++ (if hold_second channels then on_second keys ∷ [] else [])

-- the selection keys of `*` on channels: of standard identifiers, and of extended ones
abbrev pub all_on : Channels → List Selector
all_on Both = record { rank = 2; low = 0; high = 0xFFFFFFFF } ∷ []
all_on First = record { rank = 2; low = 0; high = 0x3FFFFFFF }
    ∷ record { rank = 2; low = 0x80000000; high = 0xBFFFFFFF } ∷ []
all_on Second = record { rank = 2; low = 0x40000000; high = 0x7FFFFFFF }
    ∷ record { rank = 2; low = 0xC0000000; high = 0xFFFFFFFF } ∷ []

-- the selection keys on channels of what is selected, which is `*` where its rank is 2
abbrev pub keys_on : Channels → Selector → List Selector
keys_on channels keys = if keys.rank == 2 then all_on channels else identifiers_on channels keys

-- the selection keys of a selector, by which the procedure of a frame is chosen; none where it breaks a rule
abbrev pub ranges_of : List DbcMessage → Sel → List Selector
ranges_of base s = option_map_or (keys_on (channels_of s.chan)) (selector_of base s.what) []

-- the token of what is selected
abbrev pub selection_place : SelWhat → ℕ
selection_place (selected.Any at) = at
selection_place (selected.Name name at) = at
selection_place (selected.Ids low high at) = at

-- a selector names a channel
abbrev pub names_channel : ℕ → Bool
names_channel chan = chan == 1 || chan == 2

-- the first token of a selector, which with a channel stands two before what is selected
abbrev pub selector_place : Sel → ℕ
selector_place s = if names_channel s.chan then selection_place s.what - 2 else selection_place s.what

-- what is selected, in a selector that begins at a token, breaks by itself: E11 and E23 of a name, at the
-- name, and E21, at the selector, where numbers select nothing
abbrev pub selection_offences : Scope → ℕ → SelWhat → List Offence
selection_offences s first (selected.Any at) = []
selection_offences s first (selected.Name name at) = message_name_rule s at name
selection_offences s first (selected.Ids low high at) =
    broken_where (is_none (selector_of_numbers low high)) s first 21

-- ---- heads

-- E09: the variable after `on timer` is no timer; an array of timers is bad and breaks nothing here
abbrev pub timer_form_rule : Scope → ℕ → Form → List Offence
timer_form_rule s at (Timer unit) = []
timer_form_rule s at Misfit = []
timer_form_rule s at _ = offence s at 9 ∷ []

-- what the head of a procedure breaks by itself; E09: the name after `on timer` is no global timer
abbrev pub head_offences : Scope → Head → List Offence
head_offences s (head.Message selectors) =
    flat_map (λ one. selection_offences s (selector_place one) one.what) selectors
head_offences s (head.Timer name at) =
    option_map_or (λ v. timer_form_rule s at v.form) (global s.names name) (offence s at 9 ∷ [])
head_offences s _ = []

-- what event procedures are for, of which no two may be: frames of a selector on channels, a timer by its
-- name, a key
pub data Purpose : Type 0 where
  ForFrames : Channels → Selector → Purpose
  ForTimer : List ℕ → Purpose
  ForKey : Option ℕ → Purpose

-- two selectors of one rank overlap: they hold the same identifier of the same form
abbrev pub overlap : Selector → Selector → Bool
overlap a b = a.rank == b.rank && (nat_le a.low b.high && nat_le b.low a.high)

-- two keys are one, where none stands for `*`
abbrev pub same_pressed_key : Option ℕ → Option ℕ → Bool
same_pressed_key None None = true
same_pressed_key (Some m) (Some n) = m == n
same_pressed_key _ _ = false

-- no two procedures may be for both
abbrev pub collide : Purpose → Purpose → Bool
collide (ForFrames here a) (ForFrames there b) = share_channel here there && overlap a b
collide (ForTimer a) (ForTimer b) = bytes_eq a b
collide (ForKey a) (ForKey b) = same_pressed_key a b
collide _ _ = false

-- what a procedure of a file is for, and the token where that is told: the selector, or `on`
pub record Told : Type 0 where
  pub file : ℕ
  pub token : ℕ
  pub purpose : Purpose

-- what a selector tells
abbrev pub told_by_selector : List DbcMessage → ℕ → Sel → Option Told
told_by_selector base file selector =
    option_map (λ keys. record {
      file = file;
      token = selector_place selector;
      purpose = ForFrames (channels_of selector.chan) keys;
    }) (selector_of base selector.what)

-- a name is that of a global timer
abbrev pub names_timer : Names → List ℕ → Bool
names_timer names name = option_map_or (λ v. is_timer v.form) (global names name) false

-- what the head of a procedure tells, where its `on` stands at a token
abbrev pub told_by_head : Names → ℕ → ℕ → Head → List Told
told_by_head names file at (head.Message selectors) = filter_map (told_by_selector names.base file) selectors
told_by_head names file at (head.Timer name name_at) =
    if names_timer names name then record { file = file; token = at; purpose = ForTimer name } ∷ [] else []
told_by_head names file at (head.Key value) =
    record { file = file; token = at; purpose = ForKey value } ∷ []
told_by_head names file at _ = []

-- what a part of a program tells
abbrev pub told_by_part : Names → Part → List Told
told_by_part names (Globals file declarations) = []
told_by_part names (Procedure number file procedure) =
    told_by_head names file procedure.at procedure.head

-- E25: two selectors of one rank overlap and share a channel; two procedures are for one timer or one key
abbrev pub purpose_offences : Names → List Part → List Offence
purpose_offences names parts =
    map (λ told. record { file = told.file; token = told.token; rule = source_rule 25 })
    (repeated (λ a b. collide a.purpose b.purpose) [] (flat_map (told_by_part names) parts))

-- ---- names for the second time

-- a name that is declared, and where
pub record Declared : Type 0 where
  pub file : ℕ
  pub token : ℕ
  pub name : List ℕ

-- two declared names are one
abbrev pub same_name : Declared → Declared → Bool
same_name a b = bytes_eq a.name b.name

-- the names of a declaration in a file
abbrev pub names_declared : ℕ → Decl → List Declared
names_declared file d = map (λ v. record { file = file; token = v.at; name = v.name }) d.items

-- the name of a function in a file
abbrev pub names_of_head : ℕ → Head → List Declared
names_of_head file (head.Function kind name parameters at) =
    record { file = file; token = at; name = name } ∷ []
names_of_head file _ = []

-- the globals and functions of a part of a program
abbrev pub outer_names : Part → List Declared
outer_names (Globals file declarations) = flat_map (names_declared file) declarations
outer_names (Procedure number file procedure) = names_of_head file procedure.head

-- E10 at a declared name
abbrev pub name_offence : Declared → Offence
name_offence d = record { file = d.file; token = d.token; rule = source_rule 10 }

-- E10: a global or function has the name of an earlier global or function, or of a function of the language
abbrev pub outer_name_offences : List Part → List Offence
outer_name_offences parts =
    let names : List Declared = flat_map outer_names parts in
    map name_offence (filter (λ d. is_some (builtin_named d.name)) names ++ repeated same_name [] names)

-- the parameters and locals of the procedure of a number
abbrev pub inner_names : List Variable → ℕ → List Declared
inner_names variables number =
    map (λ v. record { file = v.file; token = v.token; name = v.name })
    (filter (λ v. v.owner == number) variables)

-- E10: a parameter or local has the name of an earlier parameter or local of its procedure
abbrev pub inner_name_offences : Names → ℕ → List Offence
inner_name_offences names number =
    map name_offence (repeated same_name [] (inner_names names.variables number))
