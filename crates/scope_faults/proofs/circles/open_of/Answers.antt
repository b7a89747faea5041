use Rattle.std.proofs.Common.{ℕ, ◌<◌, ◌∙◌, ap, length, subst, sym}
use Rattle.std.specs.declared.alloc.Global.{Global}
use Rattle.std.specs.declared.vec.Vec.{Vec}
use Rattle.scope_faults.proofs.CircleLemmas.{OpenLeft, open_begins, open_more, open_less, open_ends, each_at}
use Rattle.scope_faults.proofs.circles.open_of.Goals.{then-is_open+in_ok-push, else-is_open}
use Rattle.scope_faults.proofs.circles.open_of.Goals as goal

pub each-init : goal.each-init
each-init c =
    open_begins c.args.later.now.entries.items c.args.lines.now c.new-vacant.result.items c.new-vacant.ensures.items

pub is_open-requires : goal.is_open-requires
is_open-requires c =
    each_at (λ j. j < length c.args.later.now.entries.items) c.args.lines.now c.each.at-index c.each-test.true
    c.requires

pub each-preserved : goal.each-preserved
each-preserved c =
    let es = c.args.later.now.entries.items in
    elim c.if-is_open.branch [
      | then-is_open+in_ok-push w ↦
          open_more es c.args.lines.now c.each.vacant.items c.if-is_open.vacant.items c.each.at-index c.each-test.true
          (ap (λ v. v.items) w.vacant-is ∙ w.in_ok-push.ensures.items) (sym c.is_open.ensures ∙ w.if-is_open.true)
          c.each.invariant
      | else-is_open w ↦
          open_less es c.args.lines.now c.if-is_open.vacant.items c.each.at-index c.each-test.true
          (sym c.is_open.ensures ∙ w.if-is_open.false)
          (subst (λ (v : Vec ℕ Global). OpenLeft es c.args.lines.now v.items c.each.at-index) (sym w.vacant-is)
          c.each.invariant)
    ]

pub returns : goal.returns
returns c =
    open_ends c.args.later.now.entries.items c.args.lines.now c.each.vacant.items c.each.at-index c.each-test.false
    c.each.invariant
