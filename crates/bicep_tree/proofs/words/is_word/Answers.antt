use Rattle.std.proofs.Common.{◌∙◌}
use Rattle.bicep_tree.proofs.WordLemmas.{is_word}
use Rattle.bicep_tree.proofs.words.is_word.Goals as goal

pub returns : goal.returns
returns c = c.eq.ensures ∙ is_word c.args.text.now c.args.word.now c.utf8.text c.requires
