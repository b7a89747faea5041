-- The usual spelling of a name has as many characters as the name.
use Rattle.std.proofs.Common.{◌≡◌, ℕ, List, length, sym, ap, ◌∙◌}
use Rattle.std.proofs.lemmas.List.{length-map}
use Rattle.std.specs.Char.{to_ascii_lowercase}
use Rattle.arm_value.specs.Look.{fold}
use Rattle.bicep_emission.specs.Spelled.{spelled}
use Rattle.bicep_emission.proofs.SpelledLemmas.{spelled_folds}

pub spelled_length : (t : List ℕ) → length (spelled (fold t)) ≡ length t
spelled_length t =
    sym (length-map (spelled (fold t)) to_ascii_lowercase) ∙ ap length (spelled_folds (fold t))
    ∙ length-map (fold t) to_ascii_lowercase ∙ length-map t to_ascii_lowercase
