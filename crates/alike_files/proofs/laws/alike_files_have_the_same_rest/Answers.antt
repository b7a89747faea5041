use Rattle.std.proofs.Common.{◌≡◌, List, refl, ap, ◌∙◌, subst}
use Rattle.bicep_meaning.specs.Files.{SourceFile}
use Rattle.bicep_emission.specs.Emitted.{emitted}
use Rattle.emitted_declarations.specs.Declared.{Emission, whole}
use Rattle.emitted_expressions.specs.Sight.{Sight}
use Rattle.agreeing_files.specs.Agreeing.{Agree}
use Rattle.filled_tables.specs.Same.{SameExpressions}
use Rattle.alike_files.specs.Alike.{AreAlike}
use Rattle.alike_files.specs.Rest.{HasRest}
use Rattle.alike_files.proofs.NumberLemmas.{with_rest}
use Rattle.alike_files.proofs.TemplateLemmas.{rest_is}
use Rattle.alike_files.proofs.laws.alike_files_have_the_same_rest.Goals as goal

-- the file, and what all its declarations become
abbrev seen : SourceFile → List SourceFile → Sight
seen file files = record { file = file; files = files; scope = (whole file files).scope }

is_second : (f g : SourceFile) → AreAlike f g → with_rest f g ≡ g
is_second f g a =
    let s = a.agree.symbols in
    let d = a.agree.declared in
    let o = a.outputs in
    λ i. record {
      symbols = s i;
      declared = d i;
      outputs = o i;
      modules = g.modules;
      has_entry = λ n. a.agree.has_entry n i;
      accepts = g.accepts;
      batches = λ n. a.batches n i;
    }

pub returns : goal.returns
returns c = λ f g fs gs a same z u h.
    let k = with_rest f g in
    let agree : Agree f k = record { symbols = refl; declared = refl; has_entry = λ n. refl } in
    let become = c.agreeing_files_become_the_same.ensures f k fs gs agree same in
    let expressions : SameExpressions (seen f fs) (seen k gs) =
    λ x ts. ap (λ (b : Emission). emitted f fs b.scope x ts) become
    ∙ c.expressions_become_the_same.ensures f k fs gs agree same (whole k gs).scope x ts in
    subst (λ x. HasRest gs x z u) (is_second f g a)
    (rest_is f g fs gs become (c.members_become_the_same.ensures (seen f fs) (seen k gs) expressions)
    (c.values_become_the_same.ensures (seen f fs) (seen k gs) expressions)
    (c.types_are_the_same.ensures f k agree) z u h)
