-- How far the sources of nodes are read, and what that says of all nodes.
use Rattle.std.proofs.Common.{◌≡◌, ◌<◌, ◌≤◌, ◌+◌, ℕ, List, [], ◌∷◌, ◌++◌, length, map, Result, Ok, Err, take, drop, get_or, inl, inr, refl, sym, ap, subst, ◌∙◌, arith, add-one}
use Rattle.std.specs.Prelude.{◌⊎◌, IsErrAnd}
use Rattle.std.specs.List.{AllZip, sum_by}
use Rattle.std.proofs.Math.Seq.{drop-cons}
use Rattle.std.proofs.lemmas.List.{map-append, take_all, take_more}
use Rattle.std.proofs.lemmas.List.Elements.{All-append, All-cons, All-nil}
use Rattle.std.proofs.lemmas.List.Sums.{sum_by-append, sum_by-cons}
use Rattle.texts.specs.declared.blame.Blame.{Blame}
use Rattle.bytecode.specs.declared.code.Code.{Code}
use Rattle.sim_outside.specs.Files.{beside}
use Rattle.scenario.specs.declared.scenario.NodeItem.{NodeItem}
use Rattle.dbc_reader.specs.declared.message.DbcMessage.{DbcMessage}
use Rattle.capl_include.specs.Blame.{file_blame}
use Rattle.capl_include.specs.Expansion.{Contents}
use Rattle.source_compiler.specs.Code.{IsCodeFor}
use Rattle.source_compiler.specs.Compiled.{IsCoded, IsCompiledSource}
use Rattle.source_compiler.specs.Source.{AreTreesOf, IsSourceBlame}
use Rattle.source_compiler.specs.declared.compiled.Compiled.{Compiled}
use Rattle.input_refusals.specs.Agreement.{Agrees}
use Rattle.input_refusals.specs.declared.refusal.InputRefusal.{InputRefusal}
use Rattle.input_refusals.specs.declared.refusal.InputRefusal.TheVariants.{NoMemory}
use Rattle.sim_inputs.specs.Answer.{AreCodesFor}
use Rattle.sim_inputs.specs.Accepted.{too_large_rule, AreWithin, IsNodesBlame, IsNodeSource, NodeSource, cells_in, file_names, most_together, weight_in}
use Rattle.sim_inputs.specs.Inside.Codes.{AreNodeCodes, AreOfSources, AreSources}

-- The nodes up to a number are read: these are their codes and the names of their files, so many cells and so great a weight their programs
-- have together, and the first blame of the other nodes is that of all.
pub record AreReadTo (contents : Contents) (name : List ℕ) (base : List DbcMessage) (nodes : List NodeItem) (index cells weights : ℕ) (codes : List Code) (files : List (List (List ℕ))) : Type 0 where
  pub sources : List NodeSource
  pub sources_at : AreSources contents name base (take index nodes) sources
  pub codes_are : AreCodesFor base sources codes
  pub files_are : files ≡ map file_names sources
  pub cells_are : cells ≡ sum_by (cells_in base) sources
  pub weights_are : weights ≡ sum_by weight_in sources
  pub later : (blame : Blame) → IsNodesBlame contents name base cells weights (drop index nodes) blame → IsNodesBlame contents name base 0 0 nodes blame

-- a source is named beside the scenario
pub named_beside : (source naming name item file : List ℕ) → source ≡ beside naming item → naming ≡ name → item ≡ file → source ≡ beside name file
named_beside source naming name item file is same also = is ∙ (λ i. beside (same i) (also i))

-- want of memory agrees with all
pub memory_agrees : {A : Type 0} (IsSo : A → Type 0) (IsBlame : Blame → Type 0) (result : Result A InputRefusal) → IsErrAnd result (λ e. e ≡ NoMemory) → Agrees IsSo IsBlame result
memory_agrees IsSo IsBlame (Ok x) is = absurd is
memory_agrees {A = A} IsSo IsBlame (Err e) is = subst (λ r. Agrees {A = A} IsSo IsBlame (Err r)) (sym is) tt

zip_push : {A B : Type 0} (R : A → B → Type 0) (xs : List A) (ys : List B) (x : A) (y : B) → AllZip R xs ys → R x y → AllZip R (xs ++ x ∷ []) (ys ++ y ∷ [])
zip_push R [] [] x y zipped has = (has, tt)
zip_push R [] (z ∷ ys) x y zipped has = absurd zipped
zip_push R (z ∷ xs) [] x y zipped has = absurd zipped
zip_push R (w ∷ xs) (z ∷ ys) x y zipped has = (zipped.0, zip_push R xs ys x y zipped.1 has)

sum_push : {X : Type 0} (f : X → ℕ) (xs : List X) (x : X) → sum_by f (xs ++ x ∷ []) ≡ sum_by f xs + f x
sum_push f xs x = let more = sum_by-append f xs (x ∷ []) in let one = sum_by-cons f x [] in omega arith

names_push : (files names : List (List (List ℕ))) (here : List (List ℕ)) (sources : List NodeSource) (source : NodeSource) → files ≡ map file_names sources → here ≡ file_names source → names ≡ files ++ here ∷ [] →
    names ≡ map file_names (sources ++ source ∷ [])
names_push files names here sources source are is pushed = pushed ∙ (λ i. are i ++ is i ∷ []) ∙ sym (map-append file_names sources (source ∷ []))

-- no code is of no source
pub none_coded : (base : List DbcMessage) → AreOfSources base [] []
none_coded base = record { sources = []; codes_are = tt; trees = All-nil (λ (s : NodeSource). AreTreesOf s.files s.program); files_are = refl }

-- one more code, and the names of its files, are of one more source
pub more_coded : (base : List DbcMessage) (codes more : List Code) (files names : List (List (List ℕ))) (compiled : Compiled) →
    AreOfSources base codes files → IsCoded base compiled → more ≡ codes ++ compiled.code ∷ [] → names ≡ files ++ compiled.files ∷ [] → AreOfSources base more names
more_coded base codes more files names compiled are coded pushed pushed_too =
    let one : NodeSource = record { files = coded.files; program = coded.program } in
    let HaveTrees : NodeSource → Type 0 = λ s. AreTreesOf s.files s.program in
    record {
      sources = are.sources ++ one ∷ [];
      codes_are = subst (λ (c : List Code). AreCodesFor base (are.sources ++ one ∷ []) c) (sym pushed)
          (zip_push (λ (s : NodeSource) (c : Code). IsCodeFor base s.files s.program c) are.sources codes one compiled.code are.codes_are coded.made.code_is);
      trees = All-append HaveTrees are.sources (one ∷ []) are.trees (All-cons HaveTrees one [] coded.trees (All-nil HaveTrees));
      files_are = names_push files names compiled.files are.sources one are.files_are coded.made.files_are pushed_too;
    }

-- the nodes from one on
from_here : (nodes : List NodeItem) (index : ℕ) (node : NodeItem) → index < length nodes → node ≡ get_or nodes index node → drop index nodes ≡ node ∷ drop (index + 1) nodes
from_here nodes index node within is = drop-cons nodes index node within ∙ (λ i. sym is i ∷ drop (sym (add-one index) i) nodes)

-- a blame of the next node or of one behind it is one of all
behind : (contents : Contents) (name : List ℕ) (base : List DbcMessage) (nodes : List NodeItem) (index cells weights : ℕ) (codes : List Code) (files : List (List (List ℕ))) (node : NodeItem) (blame : Blame) →
    AreReadTo contents name base nodes index cells weights codes files → index < length nodes → node ≡ get_or nodes index node →
    IsNodesBlame contents name base cells weights (node ∷ drop (index + 1) nodes) blame → IsNodesBlame contents name base 0 0 nodes blame
behind contents name base nodes index cells weights codes files node blame read within is wrong =
    read.later blame (subst (λ (n : List NodeItem). IsNodesBlame contents name base cells weights n blame) (sym (from_here nodes index node within is)) wrong)

-- the source of a node that was compiled
abbrev source_of : (contents : Contents) (name : List ℕ) (base : List DbcMessage) (compiled : Compiled) → IsCompiledSource contents name base compiled → NodeSource
source_of contents name base compiled is = record { files = is.files; program = is.program }

-- one more is read
pub more_read : (contents : Contents) (name source : List ℕ) (base : List DbcMessage) (nodes : List NodeItem) (index cells weights : ℕ) (codes more : List Code) (files names : List (List (List ℕ))) (node : NodeItem) (compiled : Compiled) →
    AreReadTo contents name base nodes index cells weights codes files → index < length nodes → node ≡ get_or nodes index node → source ≡ beside name node.file →
    IsCompiledSource contents source base compiled → AreWithin (cells + compiled.cells) (weights + compiled.weight) → more ≡ codes ++ compiled.code ∷ [] → names ≡ files ++ compiled.files ∷ [] →
    AreReadTo contents name base nodes (index + 1) (cells + compiled.cells) (weights + compiled.weight) more names
more_read contents name source base nodes index cells weights codes more files names node compiled read within is named made fit pushed pushed_too =
    let here = subst (λ s. IsCompiledSource contents s base compiled) named made in
    let one : NodeSource = source_of contents (beside name node.file) base compiled here in
    let cells_here : compiled.cells ≡ cells_in base one = here.made.cells_are in
    let weight_here : compiled.weight ≡ weight_in one = here.made.weight_is in
    record {
      sources = read.sources ++ one ∷ [];
      sources_at = subst (λ (n : List NodeItem). AreSources contents name base n (read.sources ++ one ∷ []))
          (sym (take_more nodes index node within ∙ ap (λ (n : NodeItem). take index nodes ++ n ∷ []) (sym is)))
          (zip_push (IsNodeSource contents name base) (take index nodes) read.sources node one read.sources_at here.source);
      codes_are = subst (λ (c : List Code). AreCodesFor base (read.sources ++ one ∷ []) c) (sym pushed)
          (zip_push (λ (s : NodeSource) (c : Code). IsCodeFor base s.files s.program c) read.sources codes one compiled.code read.codes_are here.made.code_is);
      files_are = names_push files names compiled.files read.sources one read.files_are here.made.files_are pushed_too;
      cells_are = (λ i. read.cells_are i + cells_here i) ∙ sym (sum_push (cells_in base) read.sources one);
      weights_are = (λ i. read.weights_are i + weight_here i) ∙ sym (sum_push weight_in read.sources one);
      later = λ blame later. behind contents name base nodes index cells weights codes files node blame read within is
          (inr (
            one,
            here.source,
            inr (
              subst (λ n. AreWithin n (weights + weight_in one)) (λ i. cells + cells_here i) (subst (λ n. AreWithin (cells + compiled.cells) n) (λ i. weights + weight_here i) fit),
              subst (λ n. IsNodesBlame contents name base n (weights + weight_in one) (drop (index + 1) nodes) blame) (λ i. cells + cells_here i)
                  (subst (λ n. IsNodesBlame contents name base (cells + compiled.cells) n (drop (index + 1) nodes) blame) (λ i. weights + weight_here i) later),
            ),
          ));
    }

-- the source of the next node is to blame
pub source_blamed : (contents : Contents) (name source : List ℕ) (base : List DbcMessage) (nodes : List NodeItem) (index cells weights : ℕ) (codes : List Code) (files : List (List (List ℕ))) (node : NodeItem) (blame : Blame) →
    AreReadTo contents name base nodes index cells weights codes files → index < length nodes → node ≡ get_or nodes index node → source ≡ beside name node.file →
    IsSourceBlame contents source base blame → IsNodesBlame contents name base 0 0 nodes blame
source_blamed contents name source base nodes index cells weights codes files node blame read within is named wrong =
    behind contents name base nodes index cells weights codes files node blame read within is
    (inl (subst (λ s. IsSourceBlame contents s base blame) named wrong))

-- the programs up to that of the next node are too large together
pub sum_blamed : (contents : Contents) (name source : List ℕ) (base : List DbcMessage) (nodes : List NodeItem) (index cells weights : ℕ) (codes : List Code) (files : List (List (List ℕ))) (node : NodeItem) (compiled : Compiled) →
    AreReadTo contents name base nodes index cells weights codes files → index < length nodes → node ≡ get_or nodes index node → source ≡ beside name node.file →
    IsCompiledSource contents source base compiled → (most_together < cells + compiled.cells) ⊎ (most_together < weights + compiled.weight) →
    IsNodesBlame contents name base 0 0 nodes (file_blame source too_large_rule)
sum_blamed contents name source base nodes index cells weights codes files node compiled read within is named made large =
    let here = subst (λ s. IsCompiledSource contents s base compiled) named made in
    let one : NodeSource = source_of contents (beside name node.file) base compiled here in
    let cells_here : compiled.cells ≡ cells_in base one = here.made.cells_are in
    let weight_here : compiled.weight ≡ weight_in one = here.made.weight_is in
    behind contents name base nodes index cells weights codes files node (file_blame source too_large_rule) read within is
    (inr (
      one,
      here.source,
      inl (
        subst (λ n. (most_together < n) ⊎ (most_together < weights + weight_in one)) (λ i. cells + cells_here i)
            (subst (λ n. (most_together < cells + compiled.cells) ⊎ (most_together < n)) (λ i. weights + weight_here i) large),
        λ i. file_blame (named i) too_large_rule,
      ),
    ))

-- all are read
pub all_read : (contents : Contents) (name : List ℕ) (base : List DbcMessage) (nodes : List NodeItem) (index cells weights : ℕ) (codes : List Code) (files names : List (List (List ℕ))) →
    AreReadTo contents name base nodes index cells weights codes files → length nodes ≤ index → AreWithin cells weights → names ≡ files → AreNodeCodes contents name base nodes codes names
all_read contents name base nodes index cells weights codes files names read over fit told = record {
  sources = read.sources;
  sources_at = subst (λ (n : List NodeItem). AreSources contents name base n read.sources) (take_all index nodes over) read.sources_at;
  fit = subst (λ n. AreWithin n (sum_by weight_in read.sources)) read.cells_are (subst (λ n. AreWithin cells n) read.weights_are fit);
  codes_are = read.codes_are;
  files_are = told ∙ read.files_are;
}
