use Rattle.std.proofs.Common.{◌∙◌, sym, ap, map, []}
use Rattle.std.proofs.lemmas.Iterator.Adapters.{YieldsList-from_vec}
use Rattle.std.proofs.lemmas.Iterator.Consumers.{YieldsList-end}
use Rattle.arm_value.specs.View.{entry, member}
use Rattle.arm_value.specs.Json.{put_each}
use Rattle.arm_value.proofs.GatherLemmas.{gathered, map-same}
use Rattle.arm_value.proofs.gather.sorted.Goals as goal

pub loop-field-init : goal.loop-field-init
loop-field-init c = ap (map entry) c.new-sorted.ensures.empty

pub loop-field-preserved : goal.loop-field-preserved
loop-field-preserved c =
    gathered c.loop-field.sorted.entries c.insert.new.self.entries c.loop-field.yielded c.in-Some.field
    c.into_string.result c.loop-field.invariant c.in_ok-insert.ensures.entries c.into_string.ensures.characters

pub returns : goal.returns
returns c =
    let gives = c.into_iter-field-iterator.ensures.into_iter_gives in
    let whole = YieldsList-end (YieldsList-from_vec c.args.members.items gives.0 (gives.1 ∙ c.args.members.ok.0))
    c.loop-field.yielded c.loop-field.field-iterator c.loop-field.yielded_by c.next.result c.next.new.self
    c.in-None.is c.next.ensures.steps in
    c.loop-field.invariant ∙ ap (λ fs. put_each [] (map member fs)) (sym (map-same c.loop-field.yielded) ∙ whole.0)
