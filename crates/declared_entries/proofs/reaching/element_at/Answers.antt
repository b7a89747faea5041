use Rattle.std.proofs.Common.{length, subst}
use Rattle.std.specs.Prelude.{IfOk, if◌then◌else◌}
use Rattle.bicep_emission.specs.Emitted.{element, no_value}
use Rattle.emission_laws.proofs.FilledLemmas.{has_holes}
use Rattle.kept_parts.specs.Frames.{IsKeptFrame}
use Rattle.declared_table.specs.Seen.{file_in, files_in, whole_in}
use Rattle.declared_entries.proofs.reaching.element_at.Goals as goal

pub returns-in-Some : goal.returns-in-Some
returns-in-Some c = λ i h.
    let s = c.args.table.now in
    let n = c.args.number in
    let own = (whole_in s).scope.items n in
    subst (λ b. IfOk c.element_frame.result (IsKeptFrame (element (if b then own else no_value) i)))
    c.in-Some.ensures.known
    (c.element_frame.ensures own i
    (has_holes (file_in s) (files_in s) c.requires.sound (length (file_in s).symbols) n).items
    c.in-Some.ensures.entry.items h)

pub returns-in-None : goal.returns-in-None
returns-in-None c = λ i h.
    let own = (whole_in c.args.table.now).scope.items c.args.number in
    subst (λ b. IfOk c.element_of_nothing.result (IsKeptFrame (element (if b then own else no_value) i)))
    c.in-None.ensures.known (c.element_of_nothing.ensures i h)
