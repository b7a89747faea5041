use Rattle.std.proofs.Common.{map, subst, sym}
use Rattle.std.specs.Prelude.{IfErr}
use Rattle.arm_value.specs.View.{json}
use Rattle.plan_elements.specs.Elements.{IsUnread}
use Rattle.plan_elements.proofs.ElementLemmas.{elements_begin, elements_more, elements_end, item_json}
use Rattle.plan_elements.proofs.elements.elements_read.Goals as goal

pub elements-init : goal.elements-init
elements-init c =
    elements_begin c.args.register.now.table c.args.opener (map json c.args.trees.now) c.new-values.result.items
    c.new-values.ensures.items

pub elements-preserved : goal.elements-preserved
elements-preserved c =
    let h = c.elements-test.true in
    elements_more c.args.register.now.table c.args.opener c.args.trees.now c.elements.number
    c.index-trees-number.result _
    c.elements.values.items c.push.new.self.items h c.index-trees-number.is c.in-Ok.ensures
    c.in_ok-push-in-Ok.ensures.items c.elements.invariant

pub returns-in-Err-clause-unread : goal.returns-in-Err-clause-unread
returns-in-Err-clause-unread c =
    let h = c.elements-test.true in
    subst (λ r. IfErr r (IsUnread c.args.register.now.table)) (sym c.stopped_at.ensures) (record {
      is_instance = c.requires.instance;
      elements = map json c.args.trees.now;
      are_elements = c.requires.trees;
      tree = json c.index-trees-number.result;
      has = item_json c.args.trees.now c.elements.number c.index-trees-number.result h c.index-trees-number.is;
      stops = c.in-Err.ensures;
    })

pub returns-clause-read : goal.returns-clause-read
returns-clause-read c =
    let h = c.elements-test.false in
    elements_end c.args.register.now.table c.args.opener c.args.trees.now c.elements.values.items c.elements.number
    h c.elements.invariant
