use Rattle.std.proofs.Common.{refl, ◌∙◌}
use Rattle.foundation.proofs.AsciiWords.{word}
use Rattle.emitted_templates.specs.Templates.{schema, content_version}
use Rattle.emitted_templates.proofs.whole.texts.Goals as goal

pub returns-in-Ok : goal.returns-in-Ok
returns-in-Ok c = (c.in_ok-schema.ensures ∙ word schema refl, c.in-Ok.ensures ∙ word content_version refl)
