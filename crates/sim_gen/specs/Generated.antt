-- The generated scenario: its nodes, their requests and their sources are this project's own. The form of a
-- scenario is this project's too; a source is in CAPL (CAPL manual, message, timer and event procedures).
use Rattle.std.specs.Prelude.{ℕ, zero, suc, ◌+◌, List, [], ◌∷◌, ◌++◌, map, codes, decimal, if◌then◌else◌, Option, Some}
use Rattle.std.specs.List.{flat_map, find}
use Rattle.sim_gen.specs.declared.generated.Made.{Made}
use Rattle.sim_gen.specs.declared.generated.Source.{Source}
use Rattle.std.specs.Option.{option_map}
use Rattle.std.specs.Str.{bytes_eq}

-- ---- The generated scenario.

-- the numbers from 1 to the count
abbrev pub numbers_to : ℕ → List ℕ
numbers_to zero = []
numbers_to (suc count) = numbers_to count ++ suc count ∷ []

-- `nK`, the name of node K
abbrev pub node_name : ℕ → List ℕ
node_name number = codes "n" ++ decimal number

-- `nK.can`, the name of its source
abbrev pub source_name : ℕ → List ℕ
source_name number = node_name number ++ codes ".can"

-- the line `node nK nK.can` of a scenario
abbrev pub node_line : ℕ → List ℕ
node_line number = codes "node " ++ node_name number ++ codes " " ++ source_name number ++ codes "\n"

-- the line `scenario 1`, a line for each node, and the line `until 1000`
abbrev pub scenario_text : ℕ → List ℕ
scenario_text count = codes "scenario 1\n" ++ flat_map node_line (numbers_to count) ++ codes "until 1000\n"

-- the variables of node K: its message has the identifier 256 + K
abbrev pub variables_line : ℕ → List ℕ
variables_line number =
    codes "variables { message " ++ decimal (256 + number)
    ++ codes " m; msTimer t; long i; long s; long n; }\n"

-- what every node does: each 20 ms it adds 0 to 999 to a sum and sends this; it counts the frames that it
-- sees and writes their number at the end
abbrev pub procedures : List ℕ
procedures =
    codes "on start { setTimerCyclic(t, 20); }\n"
    ++ codes "on timer t { for (i = 0; i < 1000; i++) s = s + i; m.dword(0) = s; output(m); }\n"
    ++ codes "on message * { n++; }\n"
    ++ codes "on stopMeasurement { write(\"%ld\", n); }\n"

-- the source of node K
abbrev pub source : ℕ → Source
source number = record { name = source_name number; text = variables_line number ++ procedures }

-- the scenario of so many nodes, and the sources of nodes 1, 2 and so on
abbrev pub generated : ℕ → Made
generated count = record { scenario = scenario_text count; sources = map source (numbers_to count) }

-- ---- What the files of a generated scenario hold, by their names.

-- the name of the scenario's own file
abbrev pub scenario_name : List ℕ
scenario_name = codes "gen"

-- the text of the first source of a name, if there is one
abbrev pub source_text : List Source → List ℕ → Option (List ℕ)
source_text sources name =
    option_map (λ source. source.text) (find (λ source. bytes_eq source.name name) sources)

-- what each name holds: the text of the scenario, or that of a source
abbrev pub made_contents : Made → List ℕ → Option (List ℕ)
made_contents made name =
    if bytes_eq name scenario_name then Some made.scenario else source_text made.sources name

-- what the files of the generated scenario of so many nodes hold
abbrev pub generated_files : ℕ → List ℕ → Option (List ℕ)
generated_files count = made_contents (generated count)
