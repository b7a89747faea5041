use Rattle.deploy_journal.proofs.journal.Journal.append.Goals as goal

-- until the first call the disk is as the ghost field says
pub returns-in-Ok-clause-crash : goal.returns-in-Ok-clause-crash
returns-in-Ok-clause-crash g c = λ whole t i. c.put_record.ensures.crash t i (c.args.self.now.kept whole i)

pub returns-in-Err-clause-crash : goal.returns-in-Err-clause-crash
returns-in-Err-clause-crash g c = λ whole t i. c.put_record.ensures.crash t i (c.args.self.now.kept whole i)
