use Rattle.emitted_files.proofs.InnerLemmas.{owner_is, visible_is, no_loops_around}
use Rattle.emitted_files.proofs.laws.scopes_see_themselves.Goals as goal

pub returns : goal.returns
returns c = record {
  owner = λ z files u h q. owner_is z files u h q;
  visible = λ z files u h q. visible_is z files u h q;
  loops = λ z files u h q. no_loops_around z files u h q;
}
