use Rattle.emitted_values.proofs.ContentLemmas.{looped}
use Rattle.emitted_values.proofs.contents.looped_content.Goals as goal

pub returns : goal.returns
returns c = λ v m h. looped v c.args.looped m h
