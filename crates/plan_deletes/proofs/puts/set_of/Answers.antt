use Rattle.std.proofs.Common.{◌≡◌, ◌+◌, ◌++◌, ◌∷◌, [], ◌∙◌, ap, sym, subst, take}
use Rattle.std.proofs.lemmas.List.{take_more}
use Rattle.arm_ids.specs.declared.id.ResourceId.{ResourceId}
use Rattle.plan_deletes.specs.KeySets.{HasKeys}
use Rattle.plan_deletes.proofs.KeyLemmas.{keys_more}
use Rattle.plan_deletes.proofs.puts.set_of.Goals as goal

pub loop-key-preserved : goal.loop-key-preserved
loop-key-preserved c =
    let keys = c.args.keys.now in
    let i = c.loop-key.key-index in
    let k = c.key-item.result in
    let more : take (i + 1) keys ≡ take i keys ++ k ∷ [] =
    take_more keys i k c.loop-key-test.true ∙ ap (λ (x : ResourceId). take i keys ++ x ∷ []) (sym c.key-item.is) in
    subst (HasKeys c.insert.new.self) (sym more)
    (keys_more c.loop-key.set c.insert.new.self (take i keys) c.in_ok-tag.tag k c.loop-key.invariant
    c.in_ok-tag.ensures c.in_ok-insert.ensures.updates)
