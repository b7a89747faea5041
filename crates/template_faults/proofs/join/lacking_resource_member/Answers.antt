use Rattle.template_faults.proofs.join.lacking_resource_member.Goals as goal

pub returns : goal.returns
returns c = rw c.required_members.ensures at c.missing.ensures
