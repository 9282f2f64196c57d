-- What holds of the names that the procedures of a program call holds of those of each event procedure and of each
-- function.
use Rattle.std.proofs.Common.{◌≡◌, ℕ, zero, suc, List, [], ◌∷◌, ◌++◌, Option, Some, None, All, subst, slice_get}
use Rattle.std.specs.Prelude.{filter_map}
use Rattle.std.specs.List.{cons_option, flat_map}
use Rattle.std.specs.Option.{option_map_or}
use Rattle.std.proofs.lemmas.List.Elements.{All-cons, All-head, All-nil, All-tail}
use Rattle.run_effects.specs.declared.event.Event.{Event}
use Rattle.capl_tree.specs.declared.procedure.Head.{Head}
use Rattle.capl_tree.specs.declared.procedure.Head.TheVariants as head
use Rattle.capl_tree.specs.declared.statement.Stmt.{Stmt}
use Rattle.capl_meaning.specs.Variable.{Globals, Part, Procedure}
use Rattle.capl_meaning.specs.Names.{Function, Names, function_by, function_of_part, inside}
use Rattle.capl_meaning.specs.Statement.{Handler, event_of, handlers_of_part}
use Rattle.source_laws.proofs.Effects.{All-back, All-front}
use Rattle.source_laws.proofs.ProcedureEffects.{AllCalled}
use Rattle.source_logs.specs.Silent.{called_by_part}

-- what holds of all holds of the one at a place
pub at_place : {A : Type 0} (P : A → Type 0) (xs : List A) (i : ℕ) (x : A) → All P xs → slice_get xs i ≡ Some x → P x
at_place P [] i x all e = absurd (let f : None ≡ Some x = e in cc)
at_place P (y ∷ xs) zero x all e = let f : Some y ≡ Some x = e in let same : y ≡ x = cc in subst P same (All-head P y xs all)
at_place P (y ∷ xs) (suc i) x all e = at_place P xs i x (All-tail P y xs all) e

module _ (Q : List ℕ → Type 0) where
  abbrev CalledByFunction : Function → Type 0
  CalledByFunction f = AllCalled Q f.body

  abbrev CalledByHandler : Handler → Type 0
  CalledByHandler h = AllCalled Q h.body

  -- so of the functions
  pub functions_called : (parts : List Part) → All Q (flat_map called_by_part parts) → All CalledByFunction (filter_map function_of_part parts)
  functions_called [] all = All-nil _
  functions_called (Globals file declarations ∷ parts) all = functions_called parts all
  functions_called (Procedure number file procedure ∷ parts) all =
      let own = called_by_part (Procedure number file procedure) in
      go procedure.head procedure.body (All-front Q own (flat_map called_by_part parts) all) (functions_called parts (All-back Q own (flat_map called_by_part parts) all))
    where
      go : (h : Head) (body : List Stmt) → AllCalled Q body → All CalledByFunction (filter_map function_of_part parts)
          → All CalledByFunction (cons_option (function_by number file h body) (filter_map function_of_part parts))
      go (head.Function kind name parameters at) body one more =
          All-cons CalledByFunction (record { number = number; file = file; token = at; name = name; gives = kind; parameters = parameters; body = body }) (filter_map function_of_part parts) one more
      go head.PreStart body one more = more
      go head.Start body one more = more
      go head.Stop body one more = more
      go (head.Message selectors) body one more = more
      go (head.Timer name at) body one more = more
      go (head.Key value) body one more = more

  -- and of the event procedures
  pub handlers_called : (names : Names) (parts : List Part) → All Q (flat_map called_by_part parts) → All CalledByHandler (flat_map (handlers_of_part names) parts)
  handlers_called names [] all = All-nil _
  handlers_called names (Globals file declarations ∷ parts) all = handlers_called names parts all
  handlers_called names (Procedure number file procedure ∷ parts) all =
      let own = called_by_part (Procedure number file procedure) in
      go (event_of names procedure.head) (All-front Q own (flat_map called_by_part parts) all) (handlers_called names parts (All-back Q own (flat_map called_by_part parts) all))
    where
      go : (o : Option Event) → AllCalled Q procedure.body → All CalledByHandler (flat_map (handlers_of_part names) parts)
          → All CalledByHandler (option_map_or (λ e. record {
            scope = inside names number file procedure.head;
            event = e;
            body = procedure.body;
            file = file;
            token = procedure.at;
          } ∷ []) o [] ++ flat_map (handlers_of_part names) parts)
      go None one more = more
      go (Some e) one more =
          All-cons CalledByHandler (record { scope = inside names number file procedure.head; event = e; body = procedure.body; file = file; token = procedure.at })
          (flat_map (handlers_of_part names) parts) one more
