use Rattle.std.proofs.Common.{ap, sym, ◌∙◌}
use Rattle.bicep_machine.specs.Machine.{gone_on}
use Rattle.bicep_machine.specs.Views.{frames_of}
use Rattle.bicep_expressions.proofs.StepLemmas.{qualified-other}
use Rattle.bicep_expressions.proofs.expressions.go_on_qualified.Goals as goal

pub returns-in-Ok : goal.returns-in-Ok
returns-in-Ok c =
    let S = frames_of c.args.stack.now.items in
    let e = qualified-other c.args.space c.args.from c.args.name c.args.inside S c.args.terminal
    c.in_default.not-OpenParen in
    rw (e ∙ ap (λ k. gone_on 64 k c.args.inside S c.args.terminal) (sym c.in-Ok.ensures)) c.go_on.ensures
