use Rattle.std.proofs.Common.{◌∷◌, [], subst, ap, ◌∙◌}
use Rattle.bicep_resolved.specs.Target.{number_of}
use Rattle.bicep_resolved.specs.View.{reach_of}
use Rattle.bicep_emission.specs.Emitted.{frames_of}
use Rattle.emission_laws.specs.Holes.{holes}
use Rattle.emission_laws.proofs.SameLemmas.{one_run}
use Rattle.std.specs.Prelude.{IfOk}
use Rattle.emitted_declarations.specs.Declared.{with_slash}
use Rattle.kept_expressions.specs.Kept.{IsKeptHoles}
use Rattle.declared_table.specs.Seen.{file_in, files_in, emission_in}
use Rattle.declared_entries.proofs.heads.full_name.Goals as goal

pub returns-in-Nothing : goal.returns-in-Nothing
returns-in-Nothing c = λ a h. rw c.in-Nothing.is (c.copied_holes.ensures a h)

pub returns-in-Inside : goal.returns-in-Inside
returns-in-Inside c = λ a h. rw c.in-Inside.is (c.name_after.ensures [] a tt c.no_frame.ensures h)

pub returns-in-Below : goal.returns-in-Below
returns-in-Below c = λ a h.
    let s = c.args.table.now in
    let sc = (emission_in s).scope in
    let r = reach_of c.in-Below.reach.now in
    let fs = frames_of (file_in s) (files_in s) sc r (holes ∷ []) in
    rw c.in-Below.is
    (subst (λ n. IfOk c.name_after-in-Below.result (IsKeptHoles (with_slash ((emission_in s).full_name n fs) a)))
    (c.number-number.ensures ∙ ap number_of c.target.ensures)
    (c.name_after-in-Below.ensures fs a (one_run (file_in s) (files_in s) sc r (holes ∷ [])) c.reached.ensures h))
