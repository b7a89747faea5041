use Rattle.bicep_program.proofs.loading.fault_of.Goals as goal

pub returns-in-Err-clause-fault : goal.returns-in-Err-clause-fault
returns-in-Err-clause-fault c = λ folder main reached unread. c.unnamed.ensures.fault folder main
