use Rattle.std.proofs.Common.{codes, refl, ◌∙◌}
use Rattle.foundation.proofs.AsciiWords.{word}
use Rattle.provider_trait.specs.JobParts.{assigned}
use Rattle.provider_trait.proofs.FirstPartLemmas.{put_named, in_order}
use Rattle.provider_trait.proofs.first_part.first_members.Goals as goal

pub returns : goal.returns
returns c =
    put_named _ (codes "worker") _ _ _ _ c.in_ok-with_number.ensures (word (codes "worker") refl)
    (put_named _ (codes "task") _ _ _ _ c.in_ok-numbered.ensures (word (codes "task") refl)
    (put_named _ (codes "id") _ _ _ _ c.in_ok-named.ensures (word (codes "id") refl)
    (put_named _ (codes "body") _ _ _ _ c.in_ok-filled.ensures (word (codes "body") refl)
    (put_named _ (codes "api") _ _ _ _ c.in_ok-versioned.ensures (word (codes "api") refl) c.new.ensures))))
    ∙ in_order (assigned c.args.parts.now)
