use Rattle.std.proofs.Common.{chars}
use Rattle.key_tags.proofs.PushLemmas.{text_pushed}
use Rattle.key_tags.proofs.code.push_text.Goals as goal

pub returns : goal.returns
returns c =
    text_pushed c.args.tag.now.items c.push_characters.new.tag.items c.push.new.self.items c.args.text.now
    (chars c.as_str.result.now) c.in_ok-push_characters.ensures c.as_str.ensures.characters c.in_ok-push.ensures.items
