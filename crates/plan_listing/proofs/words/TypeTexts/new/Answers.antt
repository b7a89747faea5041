use Rattle.plan_listing.proofs.WordLemmas.{all_texts}
use Rattle.plan_listing.proofs.words.TypeTexts.new.Goals as goal

pub invariant_of-result : goal.invariant_of-result
invariant_of-result c = record {
  are_types = all_texts c.in_ok-texts.texts.items c.in_ok-texts-2.texts.items c.in_ok-texts-3.texts.items
      c.in_ok-texts-4.texts.items c.in_ok-texts.ensures c.in_ok-texts-2.ensures c.in_ok-texts-3.ensures
      c.in_ok-texts-4.ensures;
}
