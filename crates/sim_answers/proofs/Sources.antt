-- Each source is accepted, or has a first blame.
use Rattle.std.proofs.Common.{◌≡◌, ◌≤◌, ◌-◌, ℕ, List, [], ◌∷◌, length, All, inl, inr, refl, ap}
use Rattle.std.specs.Prelude.{◌⊎◌, slice_get}
use Rattle.std.specs.List.{AllZip}
use Rattle.std.proofs.lemmas.Bool.{cases_lt}
use Rattle.std.proofs.lemmas.List.Elements.{All-nil, All-cons, All-head, All-tail}
use Rattle.texts.specs.declared.blame.Blame.{Blame}
use Rattle.texts.specs.Rule.{source_rule}
use Rattle.dbc_reader.specs.declared.message.DbcMessage.{DbcMessage}
use Rattle.capl_nesting.specs.Tokens.{toks}
use Rattle.capl_tree.specs.Nesting.{nesting}
use Rattle.capl_grammar.specs.File.{IsSourceOf}
use Rattle.capl_tree.specs.Weight.{weight}
use Rattle.capl_tree.specs.declared.file.FileTree.{FileTree}
use Rattle.capl_tree.specs.declared.file.Program.{Program}
use Rattle.capl_parser.specs.Refusal.{nesting_limit}
use Rattle.viable_prefixes.specs.Prefix.{IsFirstWrong}
use Rattle.capl_include.specs.Blame.{file_blame, place_blame}
use Rattle.capl_include.specs.Expansion.{Contents, Outcome, Went, Stopped, IsExpansion}
use Rattle.capl_include.specs.declared.expanded.SourceFile.{SourceFile}
use Rattle.capl_meaning.specs.Offences.{IsFirst, offences_of}
use Rattle.capl_meaning.specs.Store.{cells_of_program}
use Rattle.capl_meaning.specs.declared.offence.Offence.{Offence}
use Rattle.source_compiler.specs.Source.{FilesAt, IsFirstFile, IsScreened, IsTokenBlame, HasTree, IsParsed, AreTreesOf, IsTreeBlame, IsOffenceBlame, IsSizeBlame, offence_blame, wrong_blame, most, IsSource, IsProgramBlame, IsSourceBlame}
use Rattle.whole_readings.proofs.Expansions.{expansion_comes}
use Rattle.whole_readings.proofs.Offences.{none_or_first}
use Rattle.whole_readings.proofs.Screens.{BreakNone, HasFirstBreak, none_or_first_break}
use Rattle.whole_readings.proofs.Trees.{tree_or_first_wrong}

-- ---- files, one after another

-- all files are right, or one is the first that is not
first_file : (IsRight : SourceFile → Type 0) (IsWrong : Blame → SourceFile → Type 0)
    → ((file : SourceFile) → IsRight file ⊎ ((blame : Blame) × IsWrong blame file))
    → (files : List SourceFile) → All IsRight files ⊎ ((blame : Blame) × IsFirstFile IsRight (IsWrong blame) files)
first_file IsRight IsWrong known [] = inl (All-nil IsRight)
first_file IsRight IsWrong known (file ∷ files) =
    elim (known file) [
      | inr (blame, wrong) ↦ inr (blame, record { before = []; file = file; after = files; split = refl; right_before = All-nil IsRight; wrong = wrong })
      | inl right ↦ elim (first_file IsRight IsWrong known files) [
        | inl all ↦ inl (All-cons IsRight file files right all)
        | inr (blame, is) ↦ inr (
          blame,
          record {
            before = file ∷ is.before;
            file = is.file;
            after = is.after;
            split = ap (λ l. file ∷ l) is.split;
            right_before = All-cons IsRight file is.before right is.right_before;
            wrong = is.wrong;
          },
        )
      ]
    ]

screened_by : (file : SourceFile) → BreakNone file.tokens ⊎ HasFirstBreak file.tokens → IsScreened file ⊎ ((blame : Blame) × IsTokenBlame blame file)
screened_by file (inl none) = inl none
screened_by file (inr (place, rule, breaks, first)) =
    inr (place_blame file.name breaks.token.line breaks.token.column rule, record { place = place; rule = rule; breaks = breaks; first = first; is = refl })

spelled_by : (file : SourceFile) → nesting (toks file.tokens) ≤ nesting_limit
    → ((tree : FileTree) × IsSourceOf (toks file.tokens) tree)
    ⊎ ((number : ℕ) × ((tree : FileTree) → IsSourceOf (toks file.tokens) tree → ⊥) × IsFirstWrong (toks file.tokens) number)
    → IsParsed file ⊎ ((blame : Blame) × IsTreeBlame blame file)
spelled_by file shallow (inl (tree, is)) = inl (tree, (shallow, is))
spelled_by file shallow (inr (number, none, first)) =
    inr (
      wrong_blame file.name (slice_get file.tokens number) (slice_get file.tokens (length file.tokens - 1)),
      inr (record { shallow = shallow; no_tree = none; number = number; first = first; is = refl }),
    )

parsed_or_not : (file : SourceFile) → IsParsed file ⊎ ((blame : Blame) × IsTreeBlame blame file)
parsed_or_not file =
    elim (cases_lt nesting_limit (nesting (toks file.tokens))) [
      | inl deep ↦ inr (file_blame file.name (source_rule 3), inl (deep, refl))
      | inr shallow ↦ spelled_by file shallow (tree_or_first_wrong (toks file.tokens))
    ]

-- the trees of files that have some
trees_of : (files : List SourceFile) → All IsParsed files → (trees : List FileTree) × AllZip HasTree files trees
trees_of [] all = ([], tt)
trees_of (file ∷ files) all =
    let first = All-head IsParsed file files all in
    let rest = trees_of files (All-tail IsParsed file files all) in
    (first.0 ∷ rest.0, (first.1, rest.1))

-- ---- the program

-- the source of a name is accepted, or has a first blame
abbrev pub IsAcceptedOrBlamed : Contents → List ℕ → List DbcMessage → Type 0
IsAcceptedOrBlamed contents name base =
    ((files : List SourceFile) × (program : Program) × IsSource contents name base files program)
    ⊎ ((blame : Blame) × IsSourceBlame contents name base blame)

module _ (contents : Contents) (name : List ℕ) (base : List DbcMessage) (files : List SourceFile) (at : FilesAt contents name files) where
  blamed : (blame : Blame) → IsProgramBlame base name files blame → IsAcceptedOrBlamed contents name base
  blamed blame is = inr (blame, inr (files, at, is))

  module _ (screened : All IsScreened files) (program : Program) (trees : AreTreesOf files program) where
    meant : (blame : Blame) → IsOffenceBlame base files program blame ⊎ IsSizeBlame base name program blame → IsAcceptedOrBlamed contents name base
    meant blame is = blamed blame (inr (inr (screened, (program, trees, is))))

    sized : offences_of base program ≡ [] → IsAcceptedOrBlamed contents name base
    sized none =
        elim (cases_lt most (cells_of_program base program)) [
          | inl large ↦ meant (file_blame name (source_rule 29)) (inr (none, inl large, refl))
          | inr few ↦ elim (cases_lt most (weight program)) [
            | inl heavy ↦ meant (file_blame name (source_rule 29)) (inr (none, inr heavy, refl))
            | inr light ↦ inl (files, program, record { files_at = at; screened = screened; trees = trees; no_offence = none; few_cells = few; light = light })
          ]
        ]

    by_offences : (offences_of base program ≡ []) ⊎ ((first : Offence) × IsFirst first (offences_of base program)) → IsAcceptedOrBlamed contents name base
    by_offences (inl none) = sized none
    by_offences (inr (first, is)) = meant (offence_blame files first) (inl (first, is, refl))

  by_trees : All IsScreened files → All IsParsed files → IsAcceptedOrBlamed contents name base
  by_trees screened parsed =
      let trees = trees_of files parsed in
      let program : Program = record { files = trees.0 } in
      by_offences screened program trees.1 (none_or_first (offences_of base program))

  by_screens : All IsScreened files → IsAcceptedOrBlamed contents name base
  by_screens screened =
      elim (first_file IsParsed IsTreeBlame parsed_or_not files) [
        | inl parsed ↦ by_trees screened parsed
        | inr (blame, is) ↦ blamed blame (inr (inl (screened, is)))
      ]

  by_files : IsAcceptedOrBlamed contents name base
  by_files =
      elim (first_file IsScreened IsTokenBlame (λ file. screened_by file (none_or_first_break file.tokens)) files) [
        | inl screened ↦ by_screens screened
        | inr (blame, is) ↦ blamed blame (inl is)
      ]

by_outcome : (contents : Contents) (name : List ℕ) (base : List DbcMessage) (outcome : Outcome) → IsExpansion contents name outcome → IsAcceptedOrBlamed contents name base
by_outcome contents name base (Went end) is = by_files contents name base end.files (end, is, refl)
by_outcome contents name base (Stopped blame) is = inr (blame, inl is)

-- each source is accepted, or has a first blame
pub source_or_blame : (contents : Contents) (name : List ℕ) (base : List DbcMessage) → IsAcceptedOrBlamed contents name base
source_or_blame contents name base = let end = expansion_comes contents name in by_outcome contents name base end.0 end.1
