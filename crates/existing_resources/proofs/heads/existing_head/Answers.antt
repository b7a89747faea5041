use Rattle.existing_resources.proofs.heads.existing_head.Goals as goal

pub returns-in-Ok : goal.returns-in-Ok
returns-in-Ok c = record { declaration = c.in-Ok.declaration; head = c.in-Ok.ensures; is = c.marked.ensures }
