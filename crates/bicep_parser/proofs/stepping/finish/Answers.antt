use Rattle.bicep_parser.proofs.stepping.finish.Goals as goal

pub returns-in-Qualified : goal.returns-in-Qualified
returns-in-Qualified c = rw c.in-Qualified.is (c.end_qualified.ensures c.in-Qualified.field-0)
