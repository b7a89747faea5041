use Rattle.plan_listing.proofs.WordLemmas.{four_texts_in}
use Rattle.plan_listing.proofs.words.first_texts.Goals as goal

pub returns : goal.returns
returns c =
    four_texts_in (λ t. t.items) c.with_text-4.result c.new.result.items c.in_ok-texts.texts.items
    c.in_ok-texts-2.texts.items c.in_ok-texts-3.texts.items c.new.ensures.items c.in_ok-texts.ensures
    c.in_ok-texts-2.ensures c.in_ok-texts-3.ensures c.with_text-4.ensures
