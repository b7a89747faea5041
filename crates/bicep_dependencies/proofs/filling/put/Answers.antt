use Rattle.std.proofs.Common.{ℕ}
use Rattle.std.proofs.lemmas.List.{map-set}
use Rattle.std.specs.BTreeSet.{BTreeSet}
use Rattle.bicep_dependencies.proofs.filling.put.Goals as goal

pub returns : goal.returns
returns c = map-set (λ (s : BTreeSet ℕ). s.keys) c.args.sets.now.items c.args.place c.args.set
