use Rattle.std.proofs.Common.{sym}
use Rattle.template_texts.proofs.SoundLemmas.{no_text_named}
use Rattle.template_texts.proofs.sound.text_named.Goals as goal

pub returns-in-len2-up : goal.returns-in-len2-up
returns-in-len2-up c = sym (no_text_named c.args.arguments.now c.in-len2-up.len_at_least)
