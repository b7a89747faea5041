use Rattle.std.proofs.Common.{◌∷◌, [], ◌++◌, ap, ◌∙◌, subst}
use Rattle.std.specs.Prelude.{IfOk}
use Rattle.bicep_resolved.specs.Target.{number_of}
use Rattle.bicep_resolved.specs.View.{reach_of}
use Rattle.bicep_emission.specs.Emitted.{frames_of}
use Rattle.emission_laws.specs.Holes.{holes}
use Rattle.kept_expressions.specs.Kept.{AreKeptHoles}
use Rattle.kept_parts.proofs.ListLemmas.{kept_more}
use Rattle.declared_table.specs.Seen.{file_in, files_in, emission_in}
use Rattle.declared_entries.proofs.parts.resource_parts.Goals as goal

pub returns-in-Inside : goal.returns-in-Inside
returns-in-Inside c = λ a h.
    rw c.in-Inside.is
    (kept_more ((emission_in c.args.table.now).parts c.in-Inside.around []) a c.parts_in-parts.result
    c.copied_holes.result c.with.result c.with.ensures (c.parts_in-parts.ensures [] c.no_frame.ensures)
    (c.copied_holes.ensures a h))

pub returns-in-Below : goal.returns-in-Below
returns-in-Below c = λ a h.
    let s = c.args.table.now in
    let b = emission_in s in
    let r = reach_of c.in-Below.reach.now in
    let fs = frames_of (file_in s) (files_in s) b.scope r (holes ∷ []) in
    rw c.in-Below.is
    (subst (λ n. IfOk c.with-in-Below.result (λ ps. AreKeptHoles (b.parts n fs ++ a ∷ []) ps.items))
    (c.number-parent.ensures ∙ ap number_of c.target.ensures)
    (kept_more (b.parts c.number-parent.result fs) a c.parts_in-parts-in-Below.result c.copied_holes-in-Below.result
    c.with-in-Below.result c.with-in-Below.ensures (c.parts_in-parts-in-Below.ensures fs c.reached.ensures)
    (c.copied_holes-in-Below.ensures a h)))
