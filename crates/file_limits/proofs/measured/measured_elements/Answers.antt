use Rattle.std.proofs.Common.{sym, ap, ◌∙◌}
use Rattle.bicep_dependencies.specs.Dependencies.{has}
use Rattle.file_limits.proofs.measured.measured_elements.Goals as goal

pub returns-in-Some : goal.returns-in-Some
returns-in-Some c =
    c.measured_dependencies.ensures c.args.number
    (λ n. ap (λ ks. has ks n) (sym c.in-Some.ensures) ∙ c.requires.mentioned c.args.number n)

pub returns-in-None : goal.returns-in-None
returns-in-None c =
    c.measured_dependencies-in-None.ensures c.args.number
    (λ n. ap (λ ks. has ks n) (c.new-none.ensures.empty ∙ sym c.in-None.ensures)
    ∙ c.requires.mentioned c.args.number n)
