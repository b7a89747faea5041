use Rattle.std.proofs.Common.{◌≡◌, sym, subst}
use Rattle.reading.specs.Knowledge.{told, waits}
use Rattle.arm_env.specs.Cell.{look_of}
use Rattle.arm_eval.specs.Got.{IsEntry}
use Rattle.arm_eval.proofs.GotLemmas.{says_late, says_needs}
use Rattle.arm_eval.proofs.got.awaited.Goals as goal

pub returns-in-State : goal.returns-in-State
returns-in-State c = λ p r h. says_needs p r c.in-State.key
    (subst (λ x. told p r ≡ waits (look_of x)) c.in-State.is h)

pub returns-in-Parameter : goal.returns-in-Parameter
returns-in-Parameter c = λ p r h. says_late p r (look_of c.args.cell)
    (subst (λ x. IsEntry (look_of x)) (sym c.in-Parameter.is) tt) h

pub returns-in-Variable : goal.returns-in-Variable
returns-in-Variable c = λ p r h. says_late p r (look_of c.args.cell)
    (subst (λ x. IsEntry (look_of x)) (sym c.in-Variable.is) tt) h

pub returns-in-Output : goal.returns-in-Output
returns-in-Output c = λ p r h. says_late p r (look_of c.args.cell)
    (subst (λ x. IsEntry (look_of x)) (sym c.in-Output.is) tt) h

pub returns-in-Named : goal.returns-in-Named
returns-in-Named c = λ p r h. says_late p r (look_of c.args.cell)
    (subst (λ x. IsEntry (look_of x)) (sym c.in-Named.is) tt) h

pub returns-in-Deployment : goal.returns-in-Deployment
returns-in-Deployment c = λ p r h. says_late p r (look_of c.args.cell)
    (subst (λ x. IsEntry (look_of x)) (sym c.in-Deployment.is) tt) h

pub returns-in-Outputs : goal.returns-in-Outputs
returns-in-Outputs c = λ p r h. says_late p r (look_of c.args.cell)
    (subst (λ x. IsEntry (look_of x)) (sym c.in-Outputs.is) tt) h
