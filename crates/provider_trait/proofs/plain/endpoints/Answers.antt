use Rattle.std.proofs.Common.{codes, refl}
use Rattle.foundation.proofs.AsciiWords.{word}
use Rattle.provider_trait.specs.Plain.{endpoints}
use Rattle.provider_trait.proofs.PlainLemmas.{with_endpoint}
use Rattle.provider_trait.proofs.plain.endpoints.Goals as goal

pub returns : goal.returns
unfolding endpoints
returns c =
    let name = c.args.name.now in
    with_endpoint name _ (codes "table") _ _ _ c.in_ok-with_endpoint.ensures (word (codes "table") refl)
    (with_endpoint name _ (codes "queue") _ _ _ c.in_ok-three.ensures (word (codes "queue") refl)
    (with_endpoint name _ (codes "file") _ _ _ c.in_ok-two.ensures (word (codes "file") refl)
    (with_endpoint name _ (codes "blob") _ _ _ c.in_ok-one.ensures (word (codes "blob") refl) c.new.ensures)))
