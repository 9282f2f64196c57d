-- The selectors, timers and keys of the typed program of a program that breaks no rule.
use Rattle.std.proofs.Common.{◌≡◌, ◌≢◌, ℕ, ◌+◌, ◌≤◌, ◌<◌, Bool, true, false, List, [], ◌∷◌, ◌++◌, length, Option, Some, None, refl, sym, ap, ◌∙◌, subst}
use Rattle.std.specs.Prelude.{All, AllPairs, filter_map, flat_map, if◌then◌else◌}
use Rattle.std.specs.List.{AllByRecursion, cons_option}
use Rattle.std.specs.Option.{option_map_or}
use Rattle.std.proofs.lemmas.Grind.{flat_map-append}
use Rattle.std.proofs.lemmas.List.{append-nil}
use Rattle.std.proofs.lemmas.List.Elements.{All-from_recursion, filter_map-append}
use Rattle.run_effects.specs.declared.event.Event.{Event}
use Rattle.run_effects.specs.declared.event.Selector.{Selector}
use Rattle.run_effects.specs.Effect.{AreApart, KeepsSelectors, KeepsTimers, key_of, selectors_of, timer_of}
use Rattle.dbc_reader.specs.declared.message.DbcMessage.{DbcMessage}
use Rattle.capl_tree.specs.declared.file.Program.{Program}
use Rattle.capl_tree.specs.declared.procedure.Head.{Head}
use Rattle.capl_tree.specs.declared.procedure.Head.TheVariants as head
use Rattle.capl_tree.specs.declared.statement.Stmt.{Stmt}
use Rattle.typed_tree.specs.declared.program.Typed.{Typed}
use Rattle.typed_tree.specs.Sound.{all_keys, all_selectors, all_timers}
use Rattle.capl_meaning.specs.ExpressionRules.{offence}
use Rattle.capl_meaning.specs.Variable.{Form, Timer, Misfit, Part, Globals, Procedure, Variable, is_timer, parts_of}
use Rattle.capl_meaning.specs.Names.{Names, Scope, global, inside, names_of}
use Rattle.capl_meaning.specs.Offences.{offences_of, part_offences}
use Rattle.capl_meaning.specs.Statement.{Handler, event_of, handlers_of_part, timer_named}
use Rattle.capl_meaning.specs.ProcedureRules.{ForFrames, ForKey, ForTimer, Purpose, Told, collide, head_offences, names_timer, outer_name_offences, purpose_offences, ranges_of, timer_form_rule, told_by_head, told_by_part}
use Rattle.capl_meaning.specs.Inside.Names.{is_global}
use Rattle.capl_meaning.specs.Inside.Procedure.{handlers_of}
use Rattle.typed_laws.proofs.Declared.{all_append}
use Rattle.typed_laws.proofs.Places.{found_among}
use Rattle.typed_source.specs.Program.{typed_handlers, typed_program}
use Rattle.typed_source.specs.Sound.{HasTables}
use Rattle.sound_programs.specs.Given.{HaveForms}
use Rattle.sound_programs.proofs.ChannelKeys.{AreAllApart, IsFormed, cross_apart, far_from_none, own_apart, ranked}
use Rattle.sound_programs.proofs.Declarations.{have_forms, parts_clean}
use Rattle.sound_programs.proofs.Empty.{back, front, full, unmapped}
use Rattle.sound_programs.proofs.Events.{formed_told, frames_in, frames_of_told, frames_told, key_in, keys_differ, others_untold, timer_exists, timer_in, timers_differ, told_as}
use Rattle.sound_programs.proofs.Repeated.{Apart, kept_all, kept_apart, lists_all, lists_apart, not_repeated, pairs}

-- ---- heads

-- the event procedure of a head, if it is one
abbrev handlers_by : Names → ℕ → ℕ → ℕ → Head → List Stmt → List Handler
handlers_by names number file token form body = option_map_or (λ (e : Event). record {
  scope = inside names number file form;
  event = e;
  body = body;
  file = file;
  token = token;
} ∷ []) (event_of names form) []

-- the lists of event procedures
abbrev selectors_in : List Handler → List Selector
selectors_in handlers = flat_map (λ (h : Handler). selectors_of h.event) handlers

abbrev timers_in : List Handler → List ℕ
timers_in handlers = filter_map (λ (h : Handler). timer_of h.event) handlers

abbrev keys_in : List Handler → List (Option ℕ)
keys_in handlers = filter_map (λ (h : Handler). key_of h.event) handlers

module _ (names : Names) (forms : HaveForms names) where
  -- the name of a timer procedure names a timer
  timer_fine : (s : Scope) (at : ℕ) (name : List ℕ) → option_map_or (λ v. timer_form_rule s at v.form) (global names name) (offence s at 9 ∷ []) ≡ []
      → names_timer names name ≡ true
  timer_fine s at name none = go (global names name) refl none
    where
      by : (v : Variable) → global names name ≡ Some v → (form : Form) → v.form ≡ form → timer_form_rule s at form ≡ [] → is_timer form ≡ true
      by v is (Timer unit) e none = refl
      by v is Misfit e none = absurd (forms v (record { among = found_among (is_global name) names.variables v is; form_is = e }))
      by v is other e none = absurd (full _ _ none)

      go : (o : Option Variable) → global names name ≡ o → option_map_or (λ v. timer_form_rule s at v.form) o (offence s at 9 ∷ []) ≡ []
          → option_map_or (λ v. is_timer v.form) o false ≡ true
      go None is none = absurd (full _ _ none)
      go (Some v) is none = by v is v.form refl none

  module _ (number file token : ℕ) (body : List Stmt) where
    frames_head : (form : Head) → selectors_in (handlers_by names number file token form body) ≡ frames_of_told (told_by_head names file token form)
    frames_head head.PreStart = refl
    frames_head head.Start = refl
    frames_head head.Stop = refl
    frames_head (head.Message selectors) = append-nil (flat_map (ranges_of names.base) selectors) ∙ frames_told names.base file selectors
    frames_head (head.Timer name at) = go (names_timer names name)
      where
        go : (b : Bool) → [] ≡ frames_of_told (if b then record { file = file; token = token; purpose = ForTimer name } ∷ [] else [])
        go true = refl
        go false = refl
    frames_head (head.Key value) = refl
    frames_head (head.Function kind name parameters at) = refl

    timers_head : (form : Head) → head_offences (inside names number file form) form ≡ [] → timers_in (handlers_by names number file token form body) ≡ told_as (timer_in names) (told_by_head names file token form)
    timers_head head.PreStart none = refl
    timers_head head.Start none = refl
    timers_head head.Stop none = refl
    timers_head (head.Message selectors) none = sym (others_untold names.base file (timer_in names) (λ channels keys. refl) selectors)
    timers_head (head.Timer name at) none = go (names_timer names name) (timer_fine (inside names number file (head.Timer name at)) at name none)
      where
        told : names_timer names name ≡ true → timer_named names name ∷ [] ≡ told_as (timer_in names) (record { file = file; token = token; purpose = ForTimer name } ∷ [])
        told is = sym (ap (λ b. cons_option (if b then Some (timer_named names name) else None) []) is)

        go : (b : Bool) → names_timer names name ≡ true → timer_named names name ∷ [] ≡ told_as (timer_in names) (if names_timer names name then record { file = file; token = token; purpose = ForTimer name } ∷ [] else [])
        go b is = told is ∙ sym (ap (λ b. told_as (timer_in names) (if b then record { file = file; token = token; purpose = ForTimer name } ∷ [] else [])) is)
    timers_head (head.Key value) none = refl
    timers_head (head.Function kind name parameters at) none = refl

    keys_head : (form : Head) → keys_in (handlers_by names number file token form body) ≡ told_as key_in (told_by_head names file token form)
    keys_head head.PreStart = refl
    keys_head head.Start = refl
    keys_head head.Stop = refl
    keys_head (head.Message selectors) = sym (others_untold names.base file key_in (λ channels keys. refl) selectors)
    keys_head (head.Timer name at) = go (names_timer names name)
      where
        go : (b : Bool) → [] ≡ told_as key_in (if b then record { file = file; token = token; purpose = ForTimer name } ∷ [] else [])
        go true = refl
        go false = refl
    keys_head (head.Key value) = refl
    keys_head (head.Function kind name parameters at) = refl

    -- what heads tell is formed as what is selected
    formed_head : (form : Head) → AllByRecursion (λ (told : Told). IsFormed told.purpose) (told_by_head names file token form)
    formed_head head.PreStart = tt
    formed_head head.Start = tt
    formed_head head.Stop = tt
    formed_head (head.Message selectors) = formed_told names.base file selectors
    formed_head (head.Timer name at) = go (names_timer names name)
      where
        go : (b : Bool) → AllByRecursion (λ (told : Told). IsFormed told.purpose) (if b then record { file = file; token = token; purpose = ForTimer name } ∷ [] else [])
        go true = (tt, tt)
        go false = tt
    formed_head (head.Key value) = (tt, tt)
    formed_head (head.Function kind name parameters at) = tt

  -- ---- parts

  -- the lists of a program's event procedures are those that are told
  frames_parts : (parts : List Part) → selectors_in (flat_map (handlers_of_part names) parts) ≡ frames_of_told (flat_map (told_by_part names) parts)
  frames_parts [] = refl
  frames_parts (Globals file declarations ∷ parts) = frames_parts parts
  frames_parts (Procedure number file procedure ∷ parts) =
      flat_map-append (λ (h : Handler). selectors_of h.event) (handlers_of_part names (Procedure number file procedure)) (flat_map (handlers_of_part names) parts)
      ∙ ap (λ l. l ++ selectors_in (flat_map (handlers_of_part names) parts)) (frames_head number file procedure.at procedure.body procedure.head)
      ∙ ap (λ l. frames_of_told (told_by_head names file procedure.at procedure.head) ++ l) (frames_parts parts)
      ∙ sym (flat_map-append (λ (told : Told). frames_in told.purpose) (told_by_head names file procedure.at procedure.head) (flat_map (told_by_part names) parts))

  timers_parts : (parts : List Part) → flat_map (part_offences names) parts ≡ [] → timers_in (flat_map (handlers_of_part names) parts) ≡ told_as (timer_in names) (flat_map (told_by_part names) parts)
  timers_parts [] none = refl
  timers_parts (Globals file declarations ∷ parts) none = timers_parts parts (back (part_offences names (Globals file declarations)) _ none)
  timers_parts (Procedure number file procedure ∷ parts) none =
      filter_map-append (λ (h : Handler). timer_of h.event) (handlers_of_part names (Procedure number file procedure)) (flat_map (handlers_of_part names) parts)
      ∙ ap (λ l. l ++ timers_in (flat_map (handlers_of_part names) parts)) (timers_head number file procedure.at procedure.body procedure.head
      (front (head_offences (inside names number file procedure.head) procedure.head) _ (front (part_offences names (Procedure number file procedure)) _ none)))
      ∙ ap (λ l. told_as (timer_in names) (told_by_head names file procedure.at procedure.head) ++ l) (timers_parts parts (back (part_offences names (Procedure number file procedure)) _ none))
      ∙ sym (filter_map-append (λ (told : Told). timer_in names told.purpose) (told_by_head names file procedure.at procedure.head) (flat_map (told_by_part names) parts))

  keys_parts : (parts : List Part) → keys_in (flat_map (handlers_of_part names) parts) ≡ told_as key_in (flat_map (told_by_part names) parts)
  keys_parts [] = refl
  keys_parts (Globals file declarations ∷ parts) = keys_parts parts
  keys_parts (Procedure number file procedure ∷ parts) =
      filter_map-append (λ (h : Handler). key_of h.event) (handlers_of_part names (Procedure number file procedure)) (flat_map (handlers_of_part names) parts)
      ∙ ap (λ l. l ++ keys_in (flat_map (handlers_of_part names) parts)) (keys_head number file procedure.at procedure.body procedure.head)
      ∙ ap (λ l. told_as key_in (told_by_head names file procedure.at procedure.head) ++ l) (keys_parts parts)
      ∙ sym (filter_map-append (λ (told : Told). key_in told.purpose) (told_by_head names file procedure.at procedure.head) (flat_map (told_by_part names) parts))

  formed_parts : (parts : List Part) → AllByRecursion (λ (told : Told). IsFormed told.purpose) (flat_map (told_by_part names) parts)
  formed_parts [] = tt
  formed_parts (Globals file declarations ∷ parts) = formed_parts parts
  formed_parts (Procedure number file procedure ∷ parts) =
      all_append (λ (told : Told). IsFormed told.purpose) (told_by_head names file procedure.at procedure.head) (flat_map (told_by_part names) parts)
      (formed_head number file procedure.at procedure.body procedure.head) (formed_parts parts)

-- ---- typed event procedures

module _ (order : List ℕ) (line : ℕ → ℕ → ℕ) where
  typed_selectors : (before : ℕ) (handlers : List Handler) → all_selectors (typed_handlers order line before handlers) ≡ selectors_in handlers
  typed_selectors before [] = refl
  typed_selectors before (h ∷ rest) = ap (λ l. selectors_of h.event ++ l) (typed_selectors (before + length _) rest)

  typed_timers : (before : ℕ) (handlers : List Handler) → all_timers (typed_handlers order line before handlers) ≡ timers_in handlers
  typed_timers before [] = refl
  typed_timers before (h ∷ rest) = ap (λ l. cons_option (timer_of h.event) l) (typed_timers (before + length _) rest)

  typed_keys : (before : ℕ) (handlers : List Handler) → all_keys (typed_handlers order line before handlers) ≡ keys_in handlers
  typed_keys before [] = refl
  typed_keys before (h ∷ rest) = ap (λ l. cons_option (key_of h.event) l) (typed_keys (before + length _) rest)

module _ (base : List DbcMessage) (program : Program) (order : List ℕ) (line : ℕ → ℕ → ℕ) (none : offences_of base program ≡ []) where
  abbrev names : Names
  names = names_of base program

  abbrev all_told : List Told
  all_told = flat_map (told_by_part names) (parts_of program)

  -- no two that are told collide
  told_apart : Apart (λ (a b : Told). collide b.purpose a.purpose ≡ false) all_told
  told_apart =
      not_repeated (λ (a b : Told). collide a.purpose b.purpose) all_told
      (unmapped _ _ (front (purpose_offences names (parts_of program)) _ (back (outer_name_offences (parts_of program)) _ none)))

  -- the keys of one purpose are apart, and those of two that do not collide
  frames_own : (told : Told) → IsFormed told.purpose → Apart AreApart (frames_in told.purpose)
  frames_own told formed = go told.purpose formed
    where
      go : (a : Purpose) → IsFormed a → Apart AreApart (frames_in a)
      go (ForFrames channels keys) formed = own_apart channels keys formed
      go (ForTimer name) formed = tt
      go (ForKey key) formed = tt

  frames_far : (a b : Purpose) → IsFormed a → IsFormed b → collide b a ≡ false → AreAllApart (frames_in a) (frames_in b)
  frames_far (ForFrames here x) (ForFrames there y) one other none = cross_apart here there x y one other none
  frames_far (ForFrames here x) (ForTimer name) one other none = far_from_none (frames_in (ForFrames here x))
  frames_far (ForFrames here x) (ForKey key) one other none = far_from_none (frames_in (ForFrames here x))
  frames_far (ForTimer name) b one other none = tt
  frames_far (ForKey key) b one other none = tt

  frames_ranked : (a : Purpose) → IsFormed a → AllByRecursion (λ (keys : Selector). keys.rank ≤ 2) (frames_in a)
  frames_ranked (ForFrames channels keys) formed = ranked channels keys formed
  frames_ranked (ForTimer name) formed = tt
  frames_ranked (ForKey key) formed = tt

  -- the selectors are of known ranks and apart
  pub selectors_kept : KeepsSelectors (all_selectors (typed_program base program order line).handlers)
  selectors_kept =
      let forms = have_forms base program none in
      let are = typed_selectors order line _ (handlers_of names program) ∙ frames_parts names forms (parts_of program) in
      let formed = formed_parts names forms (parts_of program) in
      record {
        ranks = subst (λ l. All (λ (keys : Selector). keys.rank ≤ 2) l) (sym are) (All-from_recursion (λ (keys : Selector). keys.rank ≤ 2) _
            (lists_all (λ (told : Told). frames_in told.purpose) (λ (told : Told). IsFormed told.purpose) (λ (keys : Selector). keys.rank ≤ 2)
            (λ told is. frames_ranked told.purpose is) all_told formed));
        apart = subst (λ l. AllPairs AreApart l) (sym are)
            (pairs AreApart (frames_of_told all_told) (lists_apart (λ (told : Told). frames_in told.purpose) (λ (told : Told). IsFormed told.purpose)
            (λ (a b : Told). collide b.purpose a.purpose ≡ false) AreApart frames_own (λ a b one other none. frames_far a.purpose b.purpose one other none) all_told formed told_apart));
      }

  -- the timers exist and differ
  pub timers_kept : HasTables (names_of base program) (typed_program base program order line) →
      KeepsTimers (all_timers (typed_program base program order line).handlers) (length (typed_program base program order line).timers)
  timers_kept tables =
      let typed : Typed = typed_program base program order line in
      let are = typed_timers order line _ (handlers_of names program) ∙ timers_parts names (have_forms base program none) (parts_of program) (parts_clean base program none) in
      record {
        exist = subst (λ l. All (λ timer. timer < length typed.timers) l) (sym are) (All-from_recursion (λ timer. timer < length typed.timers) _
            (kept_all (λ (told : Told). timer_in names told.purpose) (λ timer. timer < length typed.timers) (λ told n is. timer_exists names typed tables told.purpose n is) all_told));
        differ = subst (λ l. AllPairs (λ a b. a ≢ b) l) (sym are)
            (pairs (λ a b. a ≢ b) (told_as (timer_in names) all_told) (kept_apart (λ (told : Told). timer_in names told.purpose) (λ (a b : Told). collide b.purpose a.purpose ≡ false) (λ a b. a ≢ b) (λ a b x y. timers_differ names a.purpose b.purpose x y) all_told told_apart));
      }

  -- the keys differ
  pub keys_kept : AllPairs (λ a b. a ≢ b) (all_keys (typed_program base program order line).handlers)
  keys_kept =
      subst (λ l. AllPairs (λ a b. a ≢ b) l) (sym (typed_keys order line _ (handlers_of names program) ∙ keys_parts names (have_forms base program none) (parts_of program)))
      (pairs (λ a b. a ≢ b) (told_as key_in all_told) (kept_apart (λ (told : Told). key_in told.purpose) (λ (a b : Told). collide b.purpose a.purpose ≡ false) (λ a b. a ≢ b) (λ a b x y. keys_differ a.purpose b.purpose x y) all_told told_apart))
