use Rattle.std.proofs.Common.{◌∙◌, ap, sym}
use Rattle.bicep_program.proofs.FileLemmas.{names_next}
use Rattle.bicep_program.proofs.circles.names_of.Goals as goal

pub loop-number-preserved : goal.loop-number-preserved
loop-number-preserved c =
    names_next c.args.files.now c.args.numbers.now c.loop-number.number-index c.index-files-number.result
    c.loop-number.names c.push.new.self c.in_ok-copy.field-0 c.loop-number-test.true c.requires
    c.index-files-number.is (c.in_ok-copy.ensures ∙ ap (λ f. f.name) (sym c.index-files-number.is))
    c.loop-number.invariant c.in_ok-push.ensures
