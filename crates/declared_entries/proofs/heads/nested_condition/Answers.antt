use Rattle.std.proofs.Common.{◌∷◌, [], sym, subst}
use Rattle.std.specs.Prelude.{IfOk, Some}
use Rattle.bicep_resolved.specs.View.{source_of}
use Rattle.bicep_meaning.specs.Files.{inside}
use Rattle.bicep_emission.specs.Emitted.{emitted}
use Rattle.emission_laws.specs.Holes.{holes}
use Rattle.emitted_declarations.specs.Declared.{condition_by}
use Rattle.kept_expressions.specs.Kept.{IsKeptHoles}
use Rattle.declared_table.specs.Seen.{file_in, files_in, emission_in}
use Rattle.declared_entries.proofs.heads.nested_condition.Goals as goal

pub returns-in-Ok : goal.returns-in-Ok
returns-in-Ok c =
    let s = c.args.table.now in
    let e = source_of c.in-Some.own.now in
    rw c.in-Some.is
    (subst (λ x. IfOk x (IsKeptHoles
    (condition_by (file_in s) (files_in s) (emission_in s) (inside c.args.around) (Some e) (holes ∷ []))))
    (sym c.letting_go.ensures)
    (c.both_hold.ensures ((emission_in s).condition c.args.around [])
    (emitted (file_in s) (files_in s) (emission_in s).scope e (holes ∷ [])) c.condition_at-upper.ensures
    c.in-Ok.ensures))
