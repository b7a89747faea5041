use Rattle.std.proofs.Common.{◌≡◌, sym, ap, subst, ◌∙◌}
use Rattle.std.specs.Prelude.{IfOk}
use Rattle.bicep_dependencies.specs.Dependencies.{has}
use Rattle.emitted_modules.specs.Seen.{file_in, files_in}
use Rattle.emitted_dependencies.specs.Dependencies.{dependencies}
use Rattle.emitted_dependencies.specs.Elements.{elements}
use Rattle.file_resources.proofs.needs.elements_of.Goals as goal

pub returns-in-Some : goal.returns-in-Some
returns-in-Some c =
    c.depends_on.ensures c.args.number
    (λ n. ap (λ ks. has ks n) (sym c.in-Some.ensures) ∙ c.requires.mentioned c.args.number n)

pub returns-in-None : goal.returns-in-None
returns-in-None c =
    let s = c.args.table.now in
    subst
    (λ r. IfOk r (λ js. js
    ≡ elements (files_in s) (file_in s) c.args.form (dependencies (file_in s) c.args.number)))
    (sym c.letting_go.ensures)
    (c.depends_on-in-None.ensures c.args.number
    (λ n. ap (λ ks. has ks n) (c.new-none.ensures.empty ∙ sym c.in-None.ensures)
    ∙ c.requires.mentioned c.args.number n))
