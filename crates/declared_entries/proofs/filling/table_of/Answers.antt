use Rattle.std.proofs.Common.{◌<◌, get_or, length, sym, ap, subst, refl, ◌∙◌, arith, true, false}
use Rattle.std.specs.Prelude.{◌≡◌}
use Rattle.declared_entries.proofs.FillLemmas.{one_more_known, set_length, none_before}
use Rattle.declared_entries.proofs.TurnLemmas.{sound_in, same_at, node_there, sight_is, heads_are}
use Rattle.declared_entries.proofs.filling.table_of.Goals as goal

pub loop-node-init : goal.loop-node-init
loop-node-init c = record {
  files = c.in_ok-table.ensures.file;
  marks = c.in_ok-table.ensures.marks;
  count = c.in_ok-table.ensures.count;
  known = λ m h. none_before c.in_ok-table.table.1.1 c.args.order.now m h;
}

pub add-requires-clause-there : goal.add-requires-clause-there
add-requires-clause-there c =
    let v = c.loop-node.invariant in
    let i = c.loop-node.node-index in
    let n = get_or c.args.order.now i 0 in
    subst (λ k. n < k) (sym v.count)
    (node_there c.args.file.now c.args.files.now c.args.marks.now c.args.order.now c.requires.paired
    c.requires.order c.requires.sound c.loop-node.table v.files v.marks i n c.loop-node-test.true refl)

pub add-requires-clause-sound : goal.add-requires-clause-sound
add-requires-clause-sound c =
    let v = c.loop-node.invariant in
    sound_in c.args.file.now c.args.files.now c.args.marks.now c.args.order.now c.requires.paired
    c.requires.order c.requires.sound c.loop-node.table v.files v.marks

pub add-requires-clause-same : goal.add-requires-clause-same
add-requires-clause-same c =
    let v = c.loop-node.invariant in
    let i = c.loop-node.node-index in
    same_at c.args.file.now c.args.files.now c.args.marks.now c.args.order.now c.requires.paired
    c.requires.order c.requires.sound c.loop-node.table v.files v.marks i (get_or c.args.order.now i 0)
    c.loop-node-test.true refl v.known

pub loop-node-preserved : goal.loop-node-preserved
loop-node-preserved c =
    let v = c.loop-node.invariant in
    let i = c.loop-node.node-index in
    let n = get_or c.args.order.now i 0 in
    let bs = c.loop-node.table.1.1 in
    let there =
    subst (λ k. n < k) (sym v.count)
    (node_there c.args.file.now c.args.files.now c.args.marks.now c.args.order.now c.requires.paired
    c.requires.order c.requires.sound c.loop-node.table v.files v.marks i n c.loop-node-test.true refl) in
    record {
      files = c.in_ok-add.ensures.file.0 ∙ v.files;
      marks = c.in_ok-add.ensures.file.1 ∙ v.marks;
      count = ap length c.in_ok-add.ensures.known ∙ set_length bs n ∙ v.count;
      known = λ m h.
          subst (λ xs. get_or xs m false ≡ true) (sym c.in_ok-add.ensures.known)
          (one_more_known bs c.args.order.now i n there refl v.known m h);
    }

pub returns-clause-sight : goal.returns-clause-sight
returns-clause-sight c =
    let v = c.loop-node.invariant in
    let ended = c.loop-node-test.false in
    sight_is c.args.file.now c.args.files.now c.args.marks.now c.args.order.now c.requires.paired
    c.requires.order c.requires.sound c.loop-node.table v.files v.marks
    (λ m h. let within = h.1 in v.known m (h.0, omega (arith, within, ended), h.2))

pub returns-clause-names : goal.returns-clause-names
returns-clause-names c = λ n fs run.
    let v = c.loop-node.invariant in
    let ended = c.loop-node-test.false in
    (heads_are c.args.file.now c.args.files.now c.args.marks.now c.args.order.now c.requires.paired
    c.requires.order c.requires.sound c.loop-node.table v.files v.marks
    (λ m h. let within = h.1 in v.known m (h.0, omega (arith, within, ended), h.2)) n fs run).0

pub returns-clause-conditions : goal.returns-clause-conditions
returns-clause-conditions c = λ n fs run.
    let v = c.loop-node.invariant in
    let ended = c.loop-node-test.false in
    (heads_are c.args.file.now c.args.files.now c.args.marks.now c.args.order.now c.requires.paired
    c.requires.order c.requires.sound c.loop-node.table v.files v.marks
    (λ m h. let within = h.1 in v.known m (h.0, omega (arith, within, ended), h.2)) n fs run).1
