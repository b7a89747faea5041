use Rattle.std.proofs.Common.{◌∙◌, ap, w64}
use Rattle.std.specs.Prelude.{FitsSigned}
use Rattle.std.proofs.lemmas.Int.{to_z-of_z}
use Rattle.std.specs.Str.{chars}
use Rattle.function_prints.proofs.TextLemmas.{number_characters}
use Rattle.function_prints.proofs.printed.number_text.Goals as goal

pub returns : goal.returns
returns c =
    let fits : FitsSigned w64 c.args.number = c.ranges.number in
    c.from_string.ensures.characters ∙ ap chars (simp to_z-of_z at c.in_ok-text.ensures.ok)
    ∙ number_characters c.args.number c.ranges.number
