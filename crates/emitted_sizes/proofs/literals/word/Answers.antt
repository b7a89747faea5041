use Rattle.std.proofs.Common.{refl, ap, ◌∙◌}
use Rattle.foundation.proofs.AsciiWords.{word}
use Rattle.emitted_sizes.specs.Extent.{bounded, quoted}
use Rattle.emitted_sizes.proofs.literals.word.Goals as goal

pub returns : goal.returns
returns c =
    λ h. (c.quoted_length.ensures ∙ ap (λ t. bounded (quoted t)) (word c.args.characters.now h), refl)
