use Rattle.std.proofs.Common.{length, refl, ap, ◌∙◌, arith}
use Rattle.deploy_http.proofs.ReadingLemmas.{begins_more, begins_same}
use Rattle.deploy_http.proofs.taking.fill.Goals as goal

pub loop-bytes-init : goal.loop-bytes-init
loop-bytes-init g c = record {
  moved = λ t. refl;
  room = omega arith;
  added = begins_same c.args.bytes.now;
  apart = refl;
  faults = refl;
}

pub loop-bytes-preserved : goal.loop-bytes-preserved
loop-bytes-preserved g c = record {
  moved = λ t. c.loop-bytes.invariant.moved t ∙ c.in-Ok.ensures.moved t;
  room = omega (
    arith,
    c.in-Ok.ensures.count,
    c.in-Ok.ensures.few,
    ap length c.as_slice.ensures,
    ap length c.as_slice-in-loop-bytes.ensures,
    c.loop-bytes.invariant.room,
  );
  added = begins_more c.args.bytes.now c.loop-bytes.bytes c.take_more.new.bytes c.loop-bytes.invariant.added
      c.in-Ok.ensures.added;
  apart = c.in-Ok.ensures.apart ∙ c.loop-bytes.invariant.apart;
  faults = c.in-Ok.ensures.cause ∙ c.loop-bytes.invariant.faults;
}

pub returns-then-taken-eq0-clause-added : goal.returns-then-taken-eq0-clause-added
returns-then-taken-eq0-clause-added g c =
    begins_more c.args.bytes.now c.loop-bytes.bytes c.take_more.new.bytes c.loop-bytes.invariant.added
    c.in-Ok.ensures.added

pub returns-in-Err-clause-added : goal.returns-in-Err-clause-added
returns-in-Err-clause-added g c =
    begins_more c.args.bytes.now c.loop-bytes.bytes c.take_more.new.bytes c.loop-bytes.invariant.added
    c.in-Err.ensures.added

pub returns-clause-added : goal.returns-clause-added
returns-clause-added g c = c.loop-bytes.invariant.added
