-- What the parts of the reading say of all inputs.
use Rattle.std.proofs.Common.{◌≡◌, ℕ, List, Option, Some, None, Result, Ok, Err, inl, inr, refl, sym, ap, subst, ◌∙◌, rules}
use Rattle.std.specs.Prelude.{◌⊎◌, IfSome, IsErrAnd, IsErrOf, IsOk}
use Rattle.std.specs.Borrow.{Bor}
use Rattle.std.specs.Option.{option_copied}
use Rattle.texts.specs.declared.blame.Blame.{Blame}
use Rattle.bytecode.specs.declared.code.Code.{Code}
use Rattle.capl_include.specs.Expansion.{Contents}
use Rattle.check_names.specs.Names.{messages_of}
use Rattle.dbc_reader.specs.declared.message.DbcMessage.{DbcMessage}
use Rattle.scenario.specs.declared.scenario.NodeItem.{NodeItem}
use Rattle.scenario.specs.declared.scenario.Scenario.{Scenario}
use Rattle.replay_node.specs.declared.replay.Replay.{Replay}
use Rattle.sim_inputs.specs.Accepted.{AreAccepted, AreNodes, IsFirstBlame, BaseAt, IsNodesBlame, NodeSource, IsReplayBlame, ReplayAt, ScenarioAt}
use Rattle.sim_inputs.specs.Answer.{AreCoded, AreInputsOf, IsAnswer}
use Rattle.input_refusals.specs.Agreement.{Agrees}
use Rattle.sim_inputs.specs.Inside.Codes.{AreNodeCodes, AreOfSources, AreSources}
use Rattle.sim_inputs.specs.Inside.Messages.{messages_in}
use Rattle.sim_inputs.specs.declared.inputs.Inputs.{Inputs}
use Rattle.input_refusals.specs.declared.refusal.InputRefusal.{InputRefusal}
use Rattle.input_refusals.specs.declared.refusal.InputRefusal.TheVariants.{Blamed, Failed, NoMemory}
use Rattle.sim_inputs.proofs.OneReading.{not_both}
use Rattle.sim_inputs.proofs.ReplayLemmas.{NotBadToo}

answer_of : (contents : Contents) (name : List ℕ) {B : Type 0} (IsSo : B → Type 0) (IsBlame : Blame → Type 0) (refusal : InputRefusal) →
    ((blame : Blame) → IsBlame blame → IsFirstBlame contents name blame) → Agrees {A = B} IsSo IsBlame (Err refusal) → IsAnswer contents name (Err refusal)
answer_of contents name IsSo IsBlame (Blamed blame) later agrees = later blame agrees
answer_of contents name IsSo IsBlame Failed later agrees = tt
answer_of contents name IsSo IsBlame NoMemory later agrees = tt

-- a refusal of a part is one of the whole
pub refused_answer : (contents : Contents) (name : List ℕ) {B : Type 0} (IsSo : B → Type 0) (IsBlame : Blame → Type 0) (refusal : InputRefusal) (result : Result Inputs InputRefusal) →
    IsErrAnd result (λ e. e ≡ refusal) → ((blame : Blame) → IsBlame blame → IsFirstBlame contents name blame) → Agrees {A = B} IsSo IsBlame (Err refusal) → IsAnswer contents name result
refused_answer contents name IsSo IsBlame refusal (Ok x) is later agrees = absurd is
refused_answer contents name {B = B} IsSo IsBlame refusal (Err e) is later agrees =
    answer_of contents name {B = B} IsSo IsBlame e later (subst (λ r. Agrees {A = B} IsSo IsBlame (Err r)) (sym is) agrees)

-- a blame of the nodes is one of the inputs
pub nodes_blame : (contents : Contents) (name : List ℕ) (scenario : Scenario) (base : List DbcMessage) (nodes : List NodeItem) (blame : Blame) →
    ScenarioAt contents name scenario → BaseAt contents name scenario.database base → nodes ≡ scenario.nodes.items → IsNodesBlame contents name base 0 0 nodes blame → IsFirstBlame contents name blame
nodes_blame contents name scenario base nodes blame at base_at are wrong =
    inr (scenario, at, inr (base, base_at, inl (subst (λ (n : List NodeItem). IsNodesBlame contents name base 0 0 n blame) are wrong)))

-- the nodes whose codes these are
nodes_of : (contents : Contents) (name : List ℕ) (base : List DbcMessage) (scenario : Scenario) (nodes : List NodeItem) (made : List Code) (files : List (List (List ℕ))) →
    nodes ≡ scenario.nodes.items → (codes : AreNodeCodes contents name base nodes made files) → AreNodes contents name base scenario codes.sources
nodes_of contents name base scenario nodes made files are codes = record {
  sources_at = subst (λ (n : List NodeItem). AreSources contents name base n codes.sources) are codes.sources_at;
  fit = codes.fit;
}

-- a blame of the replay is one of the inputs
pub replay_blame : (contents : Contents) (name : List ℕ) (scenario : Scenario) (base : List DbcMessage) (nodes : List NodeItem) (made : List Code) (files : List (List (List ℕ))) (blame : Blame) →
    ScenarioAt contents name scenario → BaseAt contents name scenario.database base → nodes ≡ scenario.nodes.items → AreNodeCodes contents name base nodes made files →
    IsReplayBlame contents name scenario.replay blame → IsFirstBlame contents name blame
replay_blame contents name scenario base nodes made files blame at base_at are codes wrong =
    inr (scenario, at, inr (base, base_at, inr (codes.sources, nodes_of contents name base scenario nodes made files are codes, wrong)))

-- the codes of the nodes are those of the inputs
pub inputs_of : (contents : Contents) (name : List ℕ) (inputs : Inputs) (base : List DbcMessage) (nodes : List NodeItem) →
    ScenarioAt contents name inputs.scenario → BaseAt contents name inputs.scenario.database base → nodes ≡ inputs.scenario.nodes.items → AreNodeCodes contents name base nodes inputs.codes.items inputs.files →
    ReplayAt contents name inputs.scenario inputs.replay → AreInputsOf contents name inputs
inputs_of contents name inputs base nodes at base_at are codes replay_at = record {
  base = base;
  sources = codes.sources;
  accepted = record {
    scenario_at = at;
    base_at = base_at;
    nodes_at = nodes_of contents name base inputs.scenario nodes inputs.codes.items inputs.files are codes;
    replay_at = replay_at;
  };
  codes = codes.codes_are;
  files = codes.files_are;
}

-- what follows from four facts of contents that are told
pub told_from_four : (held : Option Contents) (First Second Third Fourth Fifth : Contents → Type 0) →
    ((contents : Contents) → First contents → Second contents → Third contents → Fourth contents → Fifth contents) →
    IfSome held First → IfSome held Second → IfSome held Third → IfSome held Fourth → IfSome held Fifth
told_from_four None First Second Third Fourth Fifth follows first second third fourth = tt
told_from_four (Some contents) First Second Third Fourth Fifth follows first second third fourth = follows contents first second third fourth

-- what is of sources is inputs of them
pub coded_of : (inputs : Inputs) (base : List DbcMessage) → AreOfSources base inputs.codes.items inputs.files → AreCoded inputs
coded_of inputs base are = record { base = base; sources = are.sources; codes = are.codes_are; trees = are.trees; files = are.files_are }

-- the messages that are lent are those of the database
lent_messages : (base : Option (List DbcMessage)) (lent : Option (Bor (List DbcMessage))) → option_copied lent ≡ base → messages_of lent ≡ messages_in base
lent_messages base lent is = messages_copied lent ∙ ap messages_in is
  where
    messages_copied : (lent : Option (Bor (List DbcMessage))) → messages_of lent ≡ messages_in (option_copied lent)
    messages_copied None = refl
    messages_copied (Some base) = refl

-- the database that is lent is the scenario's
pub lent_base : (contents : Contents) (name : List ℕ) (database : Option (List ℕ)) (base : Option (List DbcMessage)) (lent : Option (Bor (List DbcMessage))) →
    option_copied lent ≡ base → BaseAt contents name database (messages_in base) → BaseAt contents name database (messages_of lent)
lent_base contents name database base lent is at = subst (BaseAt contents name database) (sym (lent_messages base lent is)) at

-- accepted inputs are read, where there is memory and nothing fails
pub complete_answer : (contents : Contents) (name : List ℕ) (result : Result Inputs InputRefusal) (scenario : Scenario) (base : List DbcMessage) (sources : List NodeSource) (replay : Replay) (Rises : Type 0) → NotBadToo →
    IsAnswer contents name result → AreAccepted contents name scenario base sources replay → (IsErrOf result Failed → Rises) → ¬ Rises → IsOk result ⊎ (result ≡ Err NoMemory)
complete_answer contents name (Ok read) scenario base sources replay Rises good answer accepted rises none = inl (search rules)
complete_answer contents name (Err (Blamed blame)) scenario base sources replay Rises good answer accepted rises none =
    absurd (not_both good contents name scenario base sources replay blame accepted answer)
complete_answer contents name (Err Failed) scenario base sources replay Rises good answer accepted rises none = absurd (none (rises (search rules)))
complete_answer contents name (Err NoMemory) scenario base sources replay Rises good answer accepted rises none = inr refl
