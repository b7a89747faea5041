use Rattle.std.proofs.Common.{refl}
use Rattle.source_files.proofs.laws.source_files_are_of_texts.Goals as goal

pub returns-clause-file : goal.returns-clause-file
returns-clause-file c = λ z t r. record { symbols = refl; declared = refl; entries = λ n. refl }

pub returns-clause-batches : goal.returns-clause-batches
returns-clause-batches c = λ z t r n. refl

pub returns-clause-rules : goal.returns-clause-rules
returns-clause-rules c = λ z t r n j. refl
