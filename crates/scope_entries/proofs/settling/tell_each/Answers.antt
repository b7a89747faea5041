use Rattle.std.proofs.Common.{◌+◌, ℕ, get_or, ap, sym, subst, ◌∙◌}
use Rattle.std.specs.declared.vec.Vec.{Vec}
use Rattle.std.specs.declared.alloc.Global.{Global}
use Rattle.scope_entries.specs.Entries.{IsTurn}
use Rattle.scope_entries.proofs.GoesLemmas.{goes_on}
use Rattle.scope_entries.proofs.RoundLemmas.{IsSoFar, round_begins, round_kept, round_left, round_ends, own_at}
use Rattle.scope_entries.proofs.settling.tell_each.Goals.{in-Kept, in-Waiting+in_ok-push-in-Waiting}
use Rattle.scope_entries.proofs.settling.tell_each.Goals as goal

pub lines-init : goal.lines-init
lines-init c =
    round_begins c.args.on c.args.register.now.table c.args.frame c.args.later.now c.args.pending.now
    c.new-left.result.items c.new-left.ensures.items

pub tell_line-requires-clause-fit : goal.tell_line-requires-clause-fit
tell_line-requires-clause-fit c = c.lines.invariant.goes.fit c.requires.fit

pub tell_line-requires-clause-told : goal.tell_line-requires-clause-told
tell_line-requires-clause-told c = c.lines.invariant.goes.told c.requires.told

pub tell_line-requires-clause-own : goal.tell_line-requires-clause-own
tell_line-requires-clause-own c =
    own_at c.args.register.now.table c.args.frame c.args.pending.now c.lines.at-index c.lines-test.true c.requires.own

pub lines-preserved : goal.lines-preserved
lines-preserved c =
    let t = c.args.register.now.table in
    elim c.match-branch-2.branch [
      | in-Kept w ↦
          subst (λ (v : Vec ℕ Global). IsSoFar c.args.on t c.args.frame c.args.later.now c.tell_line.new.later
          c.args.pending.now (c.lines.at-index + 1) v.items) (sym w.left-is)
          (round_kept c.args.on t c.args.frame c.args.later.now c.args.pending.now c.lines.later c.tell_line.new.later
          c.lines.at-index c.lines.left.items c.lines-test.true c.lines.invariant c.tell_line.ensures.goes
          (subst (IsTurn c.args.on t c.lines.later c.tell_line.new.later c.args.frame
          (get_or c.args.pending.now c.lines.at-index 0)) w.in-Kept.is c.in_ok-tell_line.ensures.turned))
      | in-Waiting+in_ok-push-in-Waiting w ↦
          let turned = subst (IsTurn c.args.on t c.lines.later c.tell_line.new.later c.args.frame
          (get_or c.args.pending.now c.lines.at-index 0)) w.in-Waiting.is c.in_ok-tell_line.ensures.turned in
          round_left c.args.on t c.args.frame c.args.later.now c.args.pending.now c.lines.later c.tell_line.new.later
          c.lines.at-index c.lines.left.items c.match-branch-2.left.items c.lines-test.true c.lines.invariant
          c.tell_line.ensures.goes turned.0 turned.1
          (own_at t c.args.frame c.args.pending.now c.lines.at-index c.lines-test.true c.requires.own)
          (ap (λ v. v.items) w.left-is ∙ w.in_ok-push-in-Waiting.ensures.items)
    ]

pub returns-clause-goes : goal.returns-clause-goes
returns-clause-goes c = c.lines.invariant.goes

pub returns-clause-round : goal.returns-clause-round
returns-clause-round c =
    round_ends c.args.on c.args.register.now.table c.args.frame c.args.later.now c.args.pending.now c.lines.later
    c.lines.at-index c.lines.left.items c.lines-test.false c.lines.invariant

pub returns-in-Stopped-clause-goes : goal.returns-in-Stopped-clause-goes
returns-in-Stopped-clause-goes c =
    goes_on c.args.register.now.table c.args.later.now c.lines.later c.tell_line.new.later c.lines.invariant.goes
    c.tell_line.ensures.goes

pub returns-in_err-tell_line-clause-goes : goal.returns-in_err-tell_line-clause-goes
returns-in_err-tell_line-clause-goes c =
    goes_on c.args.register.now.table c.args.later.now c.lines.later c.tell_line.new.later c.lines.invariant.goes
    c.tell_line.ensures.goes

pub returns-in_err-push-in-Waiting-clause-goes : goal.returns-in_err-push-in-Waiting-clause-goes
returns-in_err-push-in-Waiting-clause-goes c =
    goes_on c.args.register.now.table c.args.later.now c.lines.later c.tell_line.new.later c.lines.invariant.goes
    c.tell_line.ensures.goes
