use Rattle.std.proofs.Common.{List, [], ap, ◌∙◌}
use Rattle.bicep_meaning.specs.Files.{SourceFile}
use Rattle.bicep_emission.specs.Emitted.{emitted}
use Rattle.emitted_declarations.specs.Declared.{Emission, whole}
use Rattle.emitted_expressions.specs.Sight.{Sight}
use Rattle.filled_tables.specs.Same.{SameExpressions}
use Rattle.alike_files.proofs.laws.defaults_become_the_same.Goals as goal

-- the file, and what all its declarations become
abbrev seen : SourceFile → List SourceFile → Sight
seen file files = record { file = file; files = files; scope = (whole file files).scope }

pub returns : goal.returns
returns c = λ f g fs gs agree same e.
    let become = c.agreeing_files_become_the_same.ensures f g fs gs agree same in
    let expressions : SameExpressions (seen f fs) (seen g gs) =
    λ x ts. ap (λ (b : Emission). emitted f fs b.scope x ts) become
    ∙ c.expressions_become_the_same.ensures f g fs gs agree same (whole g gs).scope x ts in
    c.trees_become_the_same.ensures (seen f fs) (seen g gs) expressions e []
