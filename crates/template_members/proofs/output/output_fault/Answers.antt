use Rattle.template_members.proofs.output.output_fault.Goals as goal

pub returns : goal.returns
returns c = rw (c.output_members-required.ensures, c.has_copy-looped.ensures) at c.object_fault.ensures
