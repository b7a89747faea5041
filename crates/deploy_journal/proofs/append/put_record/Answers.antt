use Rattle.std.proofs.Common.{◌+◌, ◌≤◌, ◌++◌, [], ◌∷◌, ℕ, List, length, ◌∙◌, ap, refl, sym, subst, arith}
use Rattle.arm_edges.specs.Disk.{Parts}
use Rattle.deploy_journal.specs.Records.{body, record_of, Holds}
use Rattle.deploy_journal.proofs.Lists.{staged, written_gate, overwritten_within, holds_within, length_patched}
use Rattle.deploy_journal.proofs.Moments.{on_ok, since_then, b_goes_on, b_kept, b_torn, b_same}
use Rattle.deploy_journal.proofs.Crash.{body_since, gate_since, since_same}
use Rattle.deploy_journal.proofs.append.put_record.Goals as goal

pub returns-in_err-write_body-clause-crash : goal.returns-in_err-write_body-clause-crash
returns-in_err-write_body-clause-crash g c = λ t i only records holds.
    body_since g.D.Disk.moment g.D.Disk.left g.D.Disk.reads _ _ records c.args.gate
    (record_of c.args.kind c.args.first.now c.args.second.now) only holds (c.write_body.ensures.images i)

pub returns-in_err-write_at-clause-crash : goal.returns-in_err-write_at-clause-crash
returns-in_err-write_at-clause-crash g c = λ t i only records holds.
    let r = record_of c.args.kind c.args.first.now c.args.second.now in
    let before = body_since g.D.Disk.moment g.D.Disk.left g.D.Disk.reads _ _ records c.args.gate r only holds
    (c.write_body.ensures.images i) in
    let form = staged records c.args.gate r (g.D.Disk.reads c.args.disk.now).a holds in
    let is = c.in_ok-write_body.ensures.written t (holds_within records c.args.gate _ holds) ∙ form.1 in
    let at_gate = gate_since g.D.Disk.moment g.D.Disk.left g.D.Disk.reads _ _ records c.args.gate holds.gate r form.0
    holds.place (c.in_ok-write_body.ensures.kept i) is (c.write_at.ensures.images i) in
    since_then g.D.Disk.moment g.D.Disk.left _ _ _ _ before at_gate

pub returns-clause-crash : goal.returns-clause-crash
returns-clause-crash g c = λ t i only records holds.
    let r = record_of c.args.kind c.args.first.now c.args.second.now in
    let before = body_since g.D.Disk.moment g.D.Disk.left g.D.Disk.reads _ _ records c.args.gate r only holds
    (c.write_body.ensures.images i) in
    let form = staged records c.args.gate r (g.D.Disk.reads c.args.disk.now).a holds in
    let is = c.in_ok-write_body.ensures.written t (holds_within records c.args.gate _ holds) ∙ form.1 in
    let at_gate = gate_since g.D.Disk.moment g.D.Disk.left g.D.Disk.reads _ _ records c.args.gate holds.gate r form.0
    holds.place (c.in_ok-write_body.ensures.kept i) is (c.write_at.ensures.images i) in
    since_same g.D.Disk.moment g.D.Disk.left g.D.Disk.reads _ _ _ _
    (since_then g.D.Disk.moment g.D.Disk.left _ _ _ _ before at_gate) (c.sync.ensures.images i)

pub returns-clause-holds : goal.returns-clause-holds
returns-clause-holds g c = on_ok c.sync.result
    (λ _ t records holds.
    let r = record_of c.args.kind c.args.first.now c.args.second.now in
    let old = (g.D.Disk.reads c.args.disk.now).a in
    let form = staged records c.args.gate r old holds in
    let within = holds_within records c.args.gate old holds in
    let body_is = c.in_ok-write_body.ensures.written t within in
    let is = body_is ∙ form.1 in
    let long : c.args.gate ≤ length (g.D.Disk.reads c.write_body.new.disk).a =
    omega (arith, ap length body_is, length_patched (c.args.gate + 1) (body r (0 ∷ [])) old within) in
    let gate_is = (c.in_ok-write_at.ensures.written t).here
    ∙ overwritten_within c.args.gate (1 ∷ []) (g.D.Disk.reads c.write_body.new.disk).a long in
    let done =
    written_gate records c.args.gate (c.args.gate + (18 + length c.args.first.now + length c.args.second.now))
    holds.gate r form.0 (g.D.Disk.reads c.write_body.new.disk).a holds.place refl is in
    subst (λ (l : List ℕ). Holds (records ++ r ∷ [])
    (c.args.gate + (18 + length c.args.first.now + length c.args.second.now)) l)
    (sym (ap (λ (f : Parts). f.a) c.sync.ensures.reads ∙ gate_is)) done)
    c.sync.ensures.kept

pub returns-in_err-write_at-clause-part_b_images : goal.returns-in_err-write_at-clause-part_b_images
returns-in_err-write_at-clause-part_b_images g c = λ t.
    b_goes_on g.D.Disk.moment g.D.Disk.left _ _ _
    (b_kept g.D.Disk.moment g.D.Disk.left (c.args.gate + 1) _ _ (c.write_body.ensures.images t))
    (b_torn g.D.Disk.moment g.D.Disk.left c.args.gate 1 _ _ (c.write_at.ensures.images t))

pub returns-clause-part_b_images : goal.returns-clause-part_b_images
returns-clause-part_b_images g c = λ t.
    let then = b_goes_on g.D.Disk.moment g.D.Disk.left in
    then _ _ _
    (then _ _ _ (b_kept g.D.Disk.moment g.D.Disk.left (c.args.gate + 1) _ _ (c.write_body.ensures.images t))
    (b_torn g.D.Disk.moment g.D.Disk.left c.args.gate 1 _ _ (c.write_at.ensures.images t)))
    (b_same g.D.Disk.moment g.D.Disk.left _ _ (c.sync.ensures.images t))
