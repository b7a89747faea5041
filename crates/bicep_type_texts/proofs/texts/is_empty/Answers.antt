use Rattle.std.proofs.Common.{◌≡◌, ℕ, List, [], ◌∷◌, bytes_eq, chars, refl, ◌∙◌}
use Rattle.arm_ids.specs.Segments.{is_empty}
use Rattle.bicep_type_texts.proofs.texts.is_empty.Goals as goal

same_as_none : (text : List ℕ) → bytes_eq text [] ≡ is_empty text
same_as_none [] = refl
same_as_none (c ∷ cs) = refl

pub returns : goal.returns
returns c = c.is_word.ensures ∙ same_as_none (chars c.args.text.now)
