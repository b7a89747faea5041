use Rattle.std.proofs.Common.{◌∙◌, chars, ap}
use Rattle.std.proofs.lemmas.Str.{chars-append}
use Rattle.deploy_core.proofs.naming.joined.Goals as goal

pub returns : goal.returns
returns c =
    c.from_string.ensures.characters ∙ ap chars c.in_ok-text.ensures.ok
    ∙ chars-append c.args.first.now c.args.last.now c.utf8.first
