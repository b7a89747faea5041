use Rattle.renamed_reads.proofs.ReadLemmas.{guarded_same}
use Rattle.renamed_reads.proofs.laws.guarded_cells_are_alike.Goals as goal

pub returns : goal.returns
returns z = λ r i w marks c d a b e k. guarded_same r i w marks c d a b e k
