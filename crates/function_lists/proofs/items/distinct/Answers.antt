use Rattle.std.proofs.Common.{◌∙◌, ◌++◌, ◌∷◌, [], ap, map, take, subst}
use Rattle.std.specs.Prelude.{if◌then◌else◌}
use Rattle.arm_value.specs.View.{json}
use Rattle.function_lists.specs.Index.{IsIndexOf}
use Rattle.function_lists.proofs.ItemLemmas.{distinct_more, distinct_ends, front_more}
use Rattle.function_lists.proofs.items.distinct.Goals as goal

pub loop-value-preserved : goal.loop-value-preserved
loop-value-preserved c =
    let vs = c.args.values.now in
    let i = c.loop-value.value-index in
    let v = c.value-item.result in
    let kept = map json c.loop-value.all.items in
    let front = map json (take i vs) in
    record {
      all = distinct_more kept (map json c.add_passing.new.all.items) vs i v _ c.loop-value-test.true c.value-item.is
          (c.in_ok-add_passing.ensures
          ∙ ap (λ b. if b then kept ++ json v ∷ [] else kept)
          (c.in_ok-is_new.ensures.is_new front c.loop-value.invariant.before)) c.loop-value.invariant.all;
      before = subst (IsIndexOf c.add.new.texts) (front_more vs i v c.loop-value-test.true c.value-item.is)
          (c.in_ok-is_new.ensures.added front c.loop-value.invariant.before);
    }

pub returns : goal.returns
returns c = distinct_ends (map json c.loop-value.all.items) c.args.values.now c.loop-value.value-index _
    c.loop-value-test.false c.loop-value.invariant.all
