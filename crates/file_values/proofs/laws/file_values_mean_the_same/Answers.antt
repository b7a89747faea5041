use Rattle.std.proofs.Common.{List, [], Some, None, length, sym, ap, ◌∙◌, subst}
use Rattle.arm_env.specs.declared.env.Looping.{Looping}
use Rattle.arm_eval.specs.Trees.{tree_value}
use Rattle.bicep_meaning.specs.Declared as meaning
use Rattle.bicep_meaning.specs.Files.{SourceFile}
use Rattle.bicep_meaning.specs.Meaning.{value, value_of}
use Rattle.bicep_emission.specs.Emitted.{emitted}
use Rattle.bicep_emission.specs.Stands.{Like, ScopeStands, surroundings}
use Rattle.emitted_declarations.specs.Declared.{Emission, whole}
use Rattle.emitted_expressions.specs.Sight.{Sight}
use Rattle.emitted_trees.specs.Standing.{named_value, output_value}
use Rattle.emitted_trees.specs.Templates.{TemplateTree, TemplateValue}
use Rattle.emitted_trees.specs.Written.{tree_json, IsWithin, ValueIsWithin}
use Rattle.filled_tables.specs.Same.{SameExpressions}
use Rattle.file_values.proofs.laws.file_values_mean_the_same.Goals as goal

-- the file, and what all its declarations become
abbrev seen : SourceFile → List SourceFile → Sight
seen file files = record { file = file; files = files; scope = (whole file files).scope }

pub returns-clause-trees : goal.returns-clause-trees
returns-clause-trees c = λ file files is_sound q fs x here h loops gs sound frames.
    let become =
    c.agreeing_files_become_the_same.ensures file here.file files here.files h.agree h.outputs in
    let same : SameExpressions (seen file files) (seen here.file here.files) =
    λ a ts. ap (λ (b : Emission). emitted file files b.scope a ts) become
    ∙ c.expressions_become_the_same.ensures file here.file files here.files h.agree h.outputs
    (whole here.file here.files).scope a ts in
    let stands : (ls : List Looping) → ScopeStands x (surroundings here ls) (whole here.file here.files).scope
    (meaning.whole here) =
    λ ls. (
    c.declarations_mean_the_same.ensures x here ls h.place h.answers h.variables
    (c.agreeing_files_are_sound.ensures file here.file h.agree is_sound) (length here.file.symbols)
    ).scope in
    subst (λ (t : TemplateTree). IsWithin t
    → Like x (tree_value (tree_json t) (surroundings here loops)) (value here (meaning.whole here) q gs))
    (sym (c.trees_become_the_same.ensures (seen file files) (seen here.file here.files) same q fs))
    (c.trees_mean_the_same.ensures x here h.place h.answers (whole here.file here.files).scope (meaning.whole here)
    stands q loops fs gs sound frames)

pub returns-clause-named : goal.returns-clause-named
returns-clause-named c = λ file files is_sound name v fs x here h loops gs sound frames.
    let become =
    c.agreeing_files_become_the_same.ensures file here.file files here.files h.agree h.outputs in
    let same : SameExpressions (seen file files) (seen here.file here.files) =
    λ a ts. ap (λ (b : Emission). emitted file files b.scope a ts) become
    ∙ c.expressions_become_the_same.ensures file here.file files here.files h.agree h.outputs
    (whole here.file here.files).scope a ts in
    let stands : (ls : List Looping) → ScopeStands x (surroundings here ls) (whole here.file here.files).scope
    (meaning.whole here) =
    λ ls. (
    c.declarations_mean_the_same.ensures x here ls h.place h.answers h.variables
    (c.agreeing_files_are_sound.ensures file here.file h.agree is_sound) (length here.file.symbols)
    ).scope in
    subst (λ (t : TemplateValue). ValueIsWithin t
    → Like x (named_value name t (surroundings here loops)) (value_of here (meaning.whole here) v gs))
    (sym (c.values_become_the_same.ensures (seen file files) (seen here.file here.files) same (Some name) v fs))
    (c.named_values_mean_the_same.ensures x here h.place h.answers (whole here.file here.files).scope
    (meaning.whole here) stands name v loops fs gs sound frames)

pub returns-clause-outputs : goal.returns-clause-outputs
returns-clause-outputs c = λ file files is_sound v x here h loops sound.
    let become =
    c.agreeing_files_become_the_same.ensures file here.file files here.files h.agree h.outputs in
    let same : SameExpressions (seen file files) (seen here.file here.files) =
    λ a ts. ap (λ (b : Emission). emitted file files b.scope a ts) become
    ∙ c.expressions_become_the_same.ensures file here.file files here.files h.agree h.outputs
    (whole here.file here.files).scope a ts in
    let stands : (ls : List Looping) → ScopeStands x (surroundings here ls) (whole here.file here.files).scope
    (meaning.whole here) =
    λ ls. (
    c.declarations_mean_the_same.ensures x here ls h.place h.answers h.variables
    (c.agreeing_files_are_sound.ensures file here.file h.agree is_sound) (length here.file.symbols)
    ).scope in
    subst (λ (t : TemplateValue). ValueIsWithin t
    → Like x (output_value t (surroundings here loops)) (value_of here (meaning.whole here) v []))
    (sym (c.values_become_the_same.ensures (seen file files) (seen here.file here.files) same None v []))
    (c.outputs_mean_the_same.ensures x here h.place h.answers (whole here.file here.files).scope (meaning.whole here)
    stands v loops sound)
