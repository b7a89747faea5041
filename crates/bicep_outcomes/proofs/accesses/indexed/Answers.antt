use Rattle.bicep_outcomes.proofs.accesses.indexed.Goals as goal

pub returns-in-Ok : goal.returns-in-Ok
returns-in-Ok c = rw c.in-Ok.is (c.made.ensures _ c.index_of.ensures)
