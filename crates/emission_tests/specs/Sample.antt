-- What the declarations of a sample become: parameters and variables by the names of their symbols, and for each
-- resource the same name and the same id, with the loop around it. The modules of the second file have outputs.
use Rattle.std.specs.Prelude.{ℕ, Bool, false, ◌==◌, List, [], ◌∷◌, map, Option, Some, None, codes, slice_get}
use Rattle.std.specs.Prelude.{if◌then◌else◌}
use Rattle.arm_expr.specs.Tree.{Tree, text, call}
use Rattle.bicep_names.specs.declared.kind.Kind.{Kind}
use Rattle.bicep_names.specs.declared.kind.Kind.TheVariants as kind
use Rattle.bicep_meaning.specs.Files.{SourceFile, at_once}
use Rattle.bicep_emission.specs.Emitted.{one, two, no_value, item_of, index_of, properties_of}
use Rattle.emitted_expressions.specs.Sight.{Sight}
use Rattle.emission_tests.specs.declared.sample.Sample.{Sample}

abbrev pub symbol_of : List ℕ → ℕ × List ℕ × Kind
symbol_of t = (0, t, kind.Parameter)

-- a file with symbols and outputs of these names and nothing else
abbrev pub file_with : List (List ℕ) → List (List ℕ) → SourceFile
file_with names outputs = record {
  symbols = map symbol_of names;
  declared = record { declarations = []; outputs = [] };
  outputs = outputs;
  modules = [];
  has_entry = λ n. false;
  accepts = λ n j. false;
  batches = at_once;
}

abbrev pub file_of : List (List ℕ) → SourceFile
file_of names = file_with names []

-- whether this is the number of the second file
abbrev pub is_second : Option ℕ → Bool
is_second None = false
is_second (Some n) = n == 1

abbrev pub variable_of : Option (List ℕ) → Tree
variable_of None = no_value
variable_of (Some t) = call (codes "variables") (one (text t))

-- the variable of number 7 reads state, so it has no entry
abbrev pub stated : Tree
stated = properties_of (text (codes "T.N/s")) []

abbrev pub sight_of : Sample → Sight
sight_of x = record {
  file = file_of x.names.items;
  files = file_of [] ∷ file_with [] x.outputs.items ∷ [];
  scope = record {
    variable = λ n. if n == 7 then stated else variable_of (slice_get x.names.items n);
    items = λ n. call (codes "parameters") (one (text (codes "xs")));
    name = λ n fs. item_of (slice_get fs 0);
    id = λ n fs. call (codes "resourceId") (two (text (codes "T.N/a")) (index_of (slice_get fs 0)));
  };
}
