-- What the declarations of a sample become: the variable of the first symbol is a parameter, and each other one has the
-- one before it twice.
use Rattle.std.specs.Prelude.{ℕ, zero, suc, false, [], codes}
use Rattle.arm_expr.specs.Tree.{Tree, text, call}
use Rattle.bicep_meaning.specs.Files.{SourceFile, at_once}
use Rattle.bicep_emission.specs.Emitted.{one, three, no_value}
use Rattle.emitted_expressions.specs.Sight.{Sight}
use Rattle.tree_tests.specs.declared.sample.Sample.{Sample}

-- a file of which no symbol has a name
abbrev pub file : SourceFile
file = record {
  symbols = [];
  declared = record { declarations = []; outputs = [] };
  outputs = [];
  modules = [];
  has_entry = λ n. false;
  accepts = λ n j. false;
  batches = at_once;
}

abbrev pub doubled : ℕ → Tree
doubled zero = call (codes "parameters") (one (text (codes "p")))
doubled (suc n) = call (codes "format") (three (text (codes "{0}{1}")) (doubled n) (doubled n))

abbrev pub sight_of : Sample → Sight
sight_of x = record {
  file = file;
  files = [];
  scope = record {
    variable = doubled;
    items = λ n. no_value;
    name = λ n fs. no_value;
    id = λ n fs. no_value;
  };
}
