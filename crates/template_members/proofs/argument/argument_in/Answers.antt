use Rattle.template_members.proofs.argument.argument_in.Goals as goal

pub returns : goal.returns
returns c = rw (c.argument_members-required.ensures, c.has_loop.ensures) at c.members_fault.ensures
