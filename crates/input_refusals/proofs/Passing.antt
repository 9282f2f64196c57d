-- How answers are passed on, where contents are told.
use Rattle.std.proofs.Common.{◌≡◌, Option, Some, None, Result, Ok, Err, sym, subst}
use Rattle.std.specs.Prelude.{IfSome, IsErrAnd}
use Rattle.texts.specs.declared.blame.Blame.{Blame}
use Rattle.capl_include.specs.Expansion.{Contents}
use Rattle.input_refusals.specs.Agreement.{Agrees, Judges, IsBlamedOrNoMemory}
use Rattle.input_refusals.specs.declared.refusal.InputRefusal.{InputRefusal}
use Rattle.input_refusals.specs.declared.refusal.InputRefusal.TheVariants.{Blamed, Failed, NoMemory}

-- what follows from contents that are told
pub told_from : (held : Option Contents) (First Second : Contents → Type 0) → ((contents : Contents) → First contents → Second contents) →
    IfSome held First → IfSome held Second
told_from None First Second follows first = tt
told_from (Some contents) First Second follows first = follows contents first

-- the same from two facts
pub told_from_two : (held : Option Contents) (First Second Third : Contents → Type 0) →
    ((contents : Contents) → First contents → Second contents → Third contents) → IfSome held First → IfSome held Second → IfSome held Third
told_from_two None First Second Third follows first second = tt
told_from_two (Some contents) First Second Third follows first second = follows contents first second

-- what holds of all contents
pub told_always : (held : Option Contents) (Second : Contents → Type 0) → ((contents : Contents) → Second contents) → IfSome held Second
told_always None Second follows = tt
told_always (Some contents) Second follows = follows contents

refused_on : {A B : Type 0} (IsSo : A → Type 0) (IsBlame : Blame → Type 0) (IsWanted : B → Type 0) (IsLater : Blame → Type 0) (refusal : InputRefusal) →
    ((blame : Blame) → IsBlame blame → IsLater blame) → Agrees IsSo IsBlame (Err refusal) → Agrees IsWanted IsLater (Err refusal)
refused_on IsSo IsBlame IsWanted IsLater (Blamed blame) later agrees = later blame agrees
refused_on IsSo IsBlame IsWanted IsLater Failed later agrees = tt
refused_on IsSo IsBlame IsWanted IsLater NoMemory later agrees = tt

-- a refusal is passed on as one of more
pub passed_on : {A B : Type 0} (IsSo : A → Type 0) (IsBlame : Blame → Type 0) (IsWanted : B → Type 0) (IsLater : Blame → Type 0) (refusal : InputRefusal) (result : Result B InputRefusal) →
    IsErrAnd result (λ e. e ≡ refusal) → ((blame : Blame) → IsBlame blame → IsLater blame) → Agrees IsSo IsBlame (Err refusal) → Agrees IsWanted IsLater result
passed_on IsSo IsBlame IsWanted IsLater refusal (Ok x) is later agrees = absurd is
passed_on IsSo IsBlame IsWanted IsLater refusal (Err e) is later agrees =
    refused_on IsSo IsBlame IsWanted IsLater e later (subst (λ r. Agrees IsSo IsBlame (Err r)) (sym is) agrees)

judged_refused : {A B : Type 0} (IsSo : A → Type 0) (IsBlame : Blame → Type 0) (IsWanted : B → Type 0) (IsLater : Blame → Type 0) (refusal : InputRefusal) →
    ((blame : Blame) → IsBlame blame → IsLater blame) → Judges IsSo IsBlame (Err refusal) → Judges IsWanted IsLater (Err refusal)
judged_refused IsSo IsBlame IsWanted IsLater (Blamed blame) later agrees = later blame agrees
judged_refused IsSo IsBlame IsWanted IsLater Failed later agrees = absurd agrees
judged_refused IsSo IsBlame IsWanted IsLater NoMemory later agrees = tt

-- the same of what reads no file
pub judged_on : {A B : Type 0} (IsSo : A → Type 0) (IsBlame : Blame → Type 0) (IsWanted : B → Type 0) (IsLater : Blame → Type 0) (refusal : InputRefusal) (result : Result B InputRefusal) →
    IsErrAnd result (λ e. e ≡ refusal) → ((blame : Blame) → IsBlame blame → IsLater blame) → Judges IsSo IsBlame (Err refusal) → Judges IsWanted IsLater result
judged_on IsSo IsBlame IsWanted IsLater refusal (Ok x) is later agrees = absurd is
judged_on IsSo IsBlame IsWanted IsLater refusal (Err e) is later agrees =
    judged_refused IsSo IsBlame IsWanted IsLater e later (subst (λ r. Judges IsSo IsBlame (Err r)) (sym is) agrees)

-- what is judged agrees
pub agrees_judged : {A : Type 0} (IsSo : A → Type 0) (IsBlame : Blame → Type 0) (result : Result A InputRefusal) → Judges IsSo IsBlame result → Agrees IsSo IsBlame result
agrees_judged IsSo IsBlame (Ok x) judges = judges
agrees_judged IsSo IsBlame (Err (Blamed blame)) judges = judges
agrees_judged IsSo IsBlame (Err Failed) judges = tt
agrees_judged IsSo IsBlame (Err NoMemory) judges = tt

-- what is judged does not fail
pub judged_no_fault : {A : Type 0} (IsSo : A → Type 0) (IsBlame : Blame → Type 0) (refusal : InputRefusal) → Judges IsSo IsBlame (Err refusal) → refusal ≡ Failed → ⊥
judged_no_fault IsSo IsBlame (Blamed blame) judges is = cc
judged_no_fault IsSo IsBlame Failed judges is = judges
judged_no_fault IsSo IsBlame NoMemory judges is = cc

-- a refusal with a right blame is judged right
pub blamed : {A : Type 0} (IsSo : A → Type 0) (IsBlame : Blame → Type 0) (blame : Blame) (refusal : InputRefusal) →
    IsBlame blame → IsBlamedOrNoMemory blame refusal → Judges IsSo IsBlame (Err refusal)
blamed IsSo IsBlame blame (Blamed other) right is = subst IsBlame (sym is) right
blamed IsSo IsBlame blame Failed right is = is
blamed IsSo IsBlame blame NoMemory right is = tt

-- a refusal of what reads no file is passed on by what reads files
pub judged_told : {A B : Type 0} (IsSo : A → Type 0) (IsBlame : Blame → Type 0) (IsWanted : B → Type 0) (IsLater : Blame → Type 0) (refusal : InputRefusal) (result : Result B InputRefusal) →
    IsErrAnd result (λ e. e ≡ refusal) → ((blame : Blame) → IsBlame blame → IsLater blame) → Judges IsSo IsBlame (Err refusal) → Agrees IsWanted IsLater result
judged_told IsSo IsBlame IsWanted IsLater refusal result is later judges =
    agrees_judged IsWanted IsLater result (judged_on IsSo IsBlame IsWanted IsLater refusal result is later judges)

-- what follows from three facts of contents that are told
pub told_from_three : (held : Option Contents) (First Second Third Fourth : Contents → Type 0) →
    ((contents : Contents) → First contents → Second contents → Third contents → Fourth contents) →
    IfSome held First → IfSome held Second → IfSome held Third → IfSome held Fourth
told_from_three None First Second Third Fourth follows first second third = tt
told_from_three (Some contents) First Second Third Fourth follows first second third = follows contents first second third
