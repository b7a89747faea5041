use Rattle.std.proofs.Common.{◌++◌, ◌∷◌, [], List, refl, sym, subst, ap, ◌∙◌, append_assoc, append-nil}
use Rattle.std.proofs.lemmas.List.{drop_all}
use Rattle.bicep_outcomes.specs.declared.loops.Turn.{Turn}
use Rattle.bicep_outcomes.specs.Outcomes.{AreCopies, IsInner}
use Rattle.bicep_outcomes.proofs.loops.within.Goals as goal
use Rattle.foundation.proofs.Lists.{next_item}

pub loop-outer-init : goal.loop-outer-init
loop-outer-init c =
    λ cs h. subst (λ (xs : List Turn). IsInner c.args.turn c.args.turns.now (xs ++ cs))
    (sym (c.in_ok-inner.ensures ∙ ap (λ (xs : List Turn). xs ++ c.args.turn ∷ []) c.new.ensures.items)) (refl, h)

pub loop-outer-preserved : goal.loop-outer-preserved
loop-outer-preserved c =
    λ cs h. subst (λ (xs : List Turn). IsInner c.args.turn c.args.turns.now (xs ++ cs)) (sym c.in-Ok.ensures)
    (subst (λ (ys : List Turn). IsInner c.args.turn c.args.turns.now ys)
    (sym (append_assoc c.loop-outer.inner.items (c.copy_of.result ∷ []) cs))
    (c.loop-outer.invariant (c.copy_of.result ∷ cs)
    (subst (λ (ts : List Turn). AreCopies ts (c.copy_of.result ∷ cs))
    (sym (next_item c.args.turns.now c.loop-outer.outer-index c.outer-item.result c.loop-outer-test.true
    c.outer-item.is))
    (c.copy_of.ensures, h))))

pub returns : goal.returns
returns c =
    subst (λ (ys : List Turn). IsInner c.args.turn c.args.turns.now ys) (append-nil c.loop-outer.inner.items)
    (c.loop-outer.invariant []
    (subst (λ (ts : List Turn). AreCopies ts [])
    (sym (drop_all c.loop-outer.outer-index c.args.turns.now c.loop-outer-test.false)) tt))
