use Rattle.std.proofs.Common.{ap, sym, ◌∙◌}
use Rattle.std.specs.Prelude.{slice_get}
use Rattle.bicep_meaning.specs.Meaning.{file_of}
use Rattle.emission_tests.proofs.SampleLemmas.{of_second, of_others}
use Rattle.emission_tests.proofs.sample.SampleDeclarations.output.Goals as goal

pub returns-then-is_of_second : goal.returns-then-is_of_second
returns-then-is_of_second c =
    c.text_at.ensures ∙ ap (λ ts. slice_get ts c.args.number) c.as_slice.ensures.value
    ∙ of_second c.args.self.now.outputs.items c.args.number (file_of c.args.target)
    (sym c.if-is_of_second.true ∙ c.is_of_second.ensures)

pub returns-else-is_of_second : goal.returns-else-is_of_second
returns-else-is_of_second c =
    of_others c.args.self.now.outputs.items c.args.number (file_of c.args.target)
    (sym c.if-is_of_second.false ∙ c.is_of_second.ensures)
