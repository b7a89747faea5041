use Rattle.std.proofs.Common.{◌∙◌, ap}
use Rattle.std.specs.Prelude.{bytes_eq}
use Rattle.foundation.proofs.AsciiWords.{word}
use Rattle.module_links.proofs.paths.is_word.Goals as goal

pub returns : goal.returns
returns c = c.equals.ensures ∙ ap (λ w. bytes_eq w c.args.text.now) (word c.args.word.now c.requires)
