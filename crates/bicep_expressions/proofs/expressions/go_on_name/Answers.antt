use Rattle.std.proofs.Common.{ap, sym, ◌∙◌}
use Rattle.bicep_machine.specs.Machine.{gone_on}
use Rattle.bicep_machine.specs.Views.{frames_of}
use Rattle.bicep_expressions.proofs.StepLemmas.{named-other}
use Rattle.bicep_expressions.proofs.expressions.go_on_name.Goals as goal

pub returns-in-Access : goal.returns-in-Access
returns-in-Access c = rw c.in-Access.is (c.dot.ensures (frames_of c.args.stack.now.items) c.args.at)

pub returns-in-Ok : goal.returns-in-Ok
returns-in-Ok c =
    let S = frames_of c.args.stack.now.items in
    let e = named-other c.args.name c.args.inside S c.args.at c.args.terminal c.in_default.not-OpenParen
    c.in_default.not-Access c.in_default.not-Name in
    let k = ap (λ k. gone_on 64 k c.args.inside S c.args.terminal) (sym c.in-Ok.ensures) in
    rw (e ∙ k) c.go_on.ensures
