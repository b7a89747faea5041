use Rattle.std.proofs.Common.{arith, length, ◌≡◌, ◌<◌}
use Rattle.scope_entries.proofs.GoesLemmas.{goes_nowhere, goes_on}
use Rattle.scope_entries.proofs.RoundLemmas.{covered_left, circle_at, round_of}
use Rattle.scope_entries.proofs.settling.settle_lines.Goals as goal

pub rounds-init : goal.rounds-init
rounds-init c = record {
  goes = goes_nowhere c.args.register.now.table c.args.later.now;
  own = c.requires.own;
  covered = c.requires.covered;
}

pub tell_each-requires-clause-fit : goal.tell_each-requires-clause-fit
tell_each-requires-clause-fit c = c.rounds.invariant.goes.fit c.requires.fit

pub tell_each-requires-clause-told : goal.tell_each-requires-clause-told
tell_each-requires-clause-told c = c.rounds.invariant.goes.told c.requires.told

pub returns-in_err-left-clause-goes : goal.returns-in_err-left-clause-goes
returns-in_err-left-clause-goes c =
    goes_on c.args.register.now.table c.args.later.now c.rounds.later c.tell_each.new.later c.rounds.invariant.goes
    c.tell_each.ensures.goes

pub returns-then-len-clause-goes : goal.returns-then-len-clause-goes
returns-then-len-clause-goes c =
    goes_on c.args.register.now.table c.args.later.now c.rounds.later c.tell_each.new.later c.rounds.invariant.goes
    c.tell_each.ensures.goes

pub returns-then-len-clause-settling : goal.returns-then-len-clause-settling
returns-then-len-clause-settling c =
    let t = c.args.register.now.table in
    let m = c.tell_each.new.later in
    let left = c.in-Left.left.items in
    let pending = c.rounds.pending.items in
    let round = round_of c.args.on t c.args.frame m c.as_slice.result.now pending c.in_ok-left.field-0 c.in-Left.left
    c.as_slice.ensures.value c.in-Left.is c.in_ok-left.ensures.round in
    let same : length left ≡ length pending =
    omega (
      arith,
      c.if-len.true,
      c.len-in-Left.ensures,
      c.len-in-Left-2.ensures,
      c.in-Left.left.ok.0,
      c.rounds.pending.ok.0,
    ) in
    let some : 0 < length pending = omega (arith, c.rounds-test.true, c.len.ensures, c.rounds.pending.ok.0) in
    circle_at c.args.on t c.args.frame m pending left round c.requires.complete.ready c.requires.there
    (covered_left c.args.on t c.args.frame m pending left round c.rounds.later c.tell_each.ensures.goes
    c.rounds.invariant.covered) same some c.index.result.now c.index.ensures

pub rounds-preserved : goal.rounds-preserved
rounds-preserved c =
    let t = c.args.register.now.table in
    let m = c.tell_each.new.later in
    let round = round_of c.args.on t c.args.frame m c.as_slice.result.now c.rounds.pending.items c.in_ok-left.field-0
    c.in-Left.left c.as_slice.ensures.value c.in-Left.is c.in_ok-left.ensures.round in
    record {
      goes =
          goes_on t c.args.later.now c.rounds.later m c.rounds.invariant.goes c.tell_each.ensures.goes;
      own = round.own;
      covered =
          covered_left c.args.on t c.args.frame m c.rounds.pending.items c.in-Left.left.items round c.rounds.later
          c.tell_each.ensures.goes c.rounds.invariant.covered;
    }

pub returns-in-Stopped-clause-goes : goal.returns-in-Stopped-clause-goes
returns-in-Stopped-clause-goes c =
    goes_on c.args.register.now.table c.args.later.now c.rounds.later c.tell_each.new.later c.rounds.invariant.goes
    c.tell_each.ensures.goes
