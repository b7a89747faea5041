use Rattle.std.proofs.Common.{codes, refl, ◌∙◌}
use Rattle.foundation.proofs.AsciiWords.{word}
use Rattle.request_places.proofs.PlainLemmas.{place_made}
use Rattle.request_places.proofs.places.place_of.Goals as goal

pub returns : goal.returns
returns c =
    place_made _ _ _ _ _ _ _ _ c.in_ok-of.ensures c.in_ok-of-2.ensures
    (c.in_ok-of-3.ensures ∙ word (codes "westeurope") refl) c.in_ok-of-4.ensures
