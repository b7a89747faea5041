use Rattle.std.proofs.Common.{drop}
use Rattle.key_tags.proofs.PushLemmas.{TextsLeft}
use Rattle.key_tags.proofs.code.push_texts.Given as goal

abbrev pub invariant-loop-text : goal.invariant-loop-text
invariant-loop-text l = TextsLeft l.tag.items l.initial.tag.items (drop l.text-index l.texts) l.texts
