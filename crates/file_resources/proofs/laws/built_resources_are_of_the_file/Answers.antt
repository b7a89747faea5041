use Rattle.file_resources.proofs.ListedLemmas.{resources_are, dependents_are, none_exist}
use Rattle.file_resources.proofs.laws.built_resources_are_of_the_file.Goals as goal

pub returns-clause-resources : goal.returns-clause-resources
returns-clause-resources c = λ z s us h rs built paired within m. resources_are z s us paired within h rs built m

pub returns-clause-dependents : goal.returns-clause-dependents
returns-clause-dependents c = λ z s us h rs built paired within m. dependents_are z s us paired within h rs built m

pub returns-clause-none_exist : goal.returns-clause-none_exist
returns-clause-none_exist c = λ z s us h rs built. none_exist s us z h rs built
