use Rattle.std.proofs.Common.{ℕ, List, [], ◌∷◌, ◌++◌, Vec, Global, ap, ◌∙◌}
use Rattle.function_texts.proofs.SplitLemmas.{spelled, texts_more, texts_fail, texts_end}
use Rattle.function_texts.proofs.splits.texts_in.Goals as goal
use Rattle.foundation.proofs.Lists.{map-push}

pub returns-in-None : goal.returns-in-None
returns-in-None c = texts_fail (spelled c.loop-value.all.items) c.args.values.now c.loop-value.value-index
    c.value-item.result _ c.loop-value-test.true c.value-item.is c.in-None.ensures c.loop-value.invariant

pub loop-value-preserved : goal.loop-value-preserved
loop-value-preserved c =
    texts_more (spelled c.loop-value.all.items) (spelled c.push.new.self.items) c.in-Some.text.now c.args.values.now
    c.loop-value.value-index c.value-item.result _ c.loop-value-test.true c.value-item.is c.in-Some.ensures
    (ap spelled c.in_ok-push-in-Some.ensures.items ∙ map-push (λ (d : Vec ℕ Global). d.items) c.loop-value.all.items _
    ∙ ap (λ (t : List ℕ). spelled c.loop-value.all.items ++ t ∷ []) c.in_ok-characters-in-Some.ensures)
    c.loop-value.invariant

pub returns : goal.returns
returns c = texts_end (spelled c.loop-value.all.items) c.args.values.now c.loop-value.value-index _
    c.loop-value-test.false c.loop-value.invariant
