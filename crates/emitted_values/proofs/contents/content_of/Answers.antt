use Rattle.std.proofs.Common.{subst}
use Rattle.tree_building.specs.Built.{Matches}
use Rattle.emitted_values.proofs.ContentLemmas.{plain_content}
use Rattle.emitted_values.proofs.contents.content_of.Goals as goal

pub returns-in-Tree : goal.returns-in-Tree
returns-in-Tree c = λ v m h. plain_content v c.in-Tree.value (subst (Matches v) c.in-Tree.is m) h

pub returns-in-Each : goal.returns-in-Each
returns-in-Each c = λ v m h. c.looped_content.ensures v (subst (Matches v) c.in-Each.is m) h
