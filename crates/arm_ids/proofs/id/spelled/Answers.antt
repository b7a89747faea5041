use Rattle.std.proofs.Common.{refl, sym, ◌∙◌}
use Rattle.arm_ids.proofs.IdLemmas.{reading_by_parts}
use Rattle.arm_ids.proofs.id.spelled.Goals as goal

pub returns : goal.returns
returns c =
    c.in_ok-id.ensures
    ∙ sym (reading_by_parts c.args.segments.now _ _ _ _ _ _ _ _ c.in-len7-up.len_at_least refl c.root-item.is
    c.subscriptions-item.is c.subscription-item.is c.groups-item.is c.group-item.is c.providers-item.is
    c.provider-item.is (sym c.is_empty.ensures ∙ c.if-not-is_empty.false) (sym c.are_words.ensures
    ∙ c.if-not-are_words.false))
