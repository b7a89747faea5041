use Rattle.std.proofs.Common.{drop}
use Rattle.module_links.specs.Links.{entry_names, IsNew}
use Rattle.module_links.proofs.links.number_of.Given as goal

abbrev pub invariant-loop-k : goal.invariant-loop-k
invariant-loop-k l = IsNew (entry_names (drop l.k l.entries)) l.name → IsNew (entry_names l.entries) l.name
