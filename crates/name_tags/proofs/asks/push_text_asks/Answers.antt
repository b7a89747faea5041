use Rattle.std.proofs.Common.{◌++◌, ◌∙◌, Some, ap, sym}
use Rattle.tag_needs.specs.Tags.{tags_of}
use Rattle.plan_codes.specs.NameCodes.{text_asks}
use Rattle.name_tags.proofs.LoopLemmas.{asked_in_one}
use Rattle.name_tags.proofs.asks.push_text_asks.Goals as goal
use Rattle.foundation.proofs.Options.{if_ok}

pub returns-in-One : goal.returns-in-One
returns-in-One c =
    if_ok _ _ c.push_asks_in_one.result c.push_asks_in_one.ensures (λ v e u h.
    asked_in_one c.args.scope c.args.text.now c.args.loops.now u (tags_of c.args.tags.now)
    (tags_of c.push_asks_in_one.new.tags) e h
    ∙ ap (λ m. tags_of c.args.tags.now ++ text_asks c.args.scope m (Some u) c.args.text.now) (sym c.in-One.is))
