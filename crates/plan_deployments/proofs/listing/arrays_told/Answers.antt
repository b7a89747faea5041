use Rattle.std.proofs.Common.{◌+◌, ◌≤◌, sym, ap, subst, ◌∙◌, arith, length, get_or, drop}
use Rattle.arm_value.specs.Json.{array, row, items_nesting}
use Rattle.plan_table.specs.Listed.{listed_of}
use Rattle.plan_table.specs.Found.{scope_at}
use Rattle.plan_sight.specs.Ready.{told_in}
use Rattle.plan_names.proofs.GatherLemmas.{fewer_listed, no_more_listed}
use Rattle.plan_deployments.proofs.ItemLemmas.{one_more_nests}
use Rattle.plan_deployments.proofs.ListLemmas.{arrays_after, rest, read_here, number_here, arrays_more, arrays_same}
use Rattle.plan_deployments.proofs.ListLemmas.{arrays_stop, arrays_end}
use Rattle.plan_deployments.proofs.listing.arrays_told.Goals as goal
use Rattle.plan_deployments.proofs.listing.arrays_told.Goals.{then-is_nested+in-Ok+in_ok-push-in-Ok, else-is_nested}

pub loop-number-init : goal.loop-number-init
loop-number-init c =
    let t = c.args.table.now in
    let o = scope_at t c.args.frame in (
      ap (λ js. arrays_after js (told_in t (rest o.position 0 o.resources))) c.new-arrays.ensures,
      subst (λ js. items_nesting js ≤ 2) (sym c.new-arrays.ensures) (omega arith),
    )

pub resource_told-requires-clause-number : goal.resource_told-requires-clause-number
resource_told-requires-clause-number c =
    let t = c.args.table.now in
    number_here t c.args.frame c.loop-number.number c.index.result.now c.index-resources-number.result
    c.requires.there c.index.ensures
    (fewer_listed t c.args.frame c.index.result.now c.requires.there c.index.ensures c.loop-number.number _
    (ap length c.as_slice-resources.ensures.value) c.loop-number-test.true)
    (c.index-resources-number.is
    ∙ ap (λ xs. get_or xs c.loop-number.number c.index-resources-number.result) c.as_slice-resources.ensures.value)
    c.is_nested.result c.is_nested.ensures c.if-is_nested.true

pub returns-in-Err-clause-told : goal.returns-in-Err-clause-told
returns-in-Err-clause-told c =
    let t = c.args.table.now in
    let o = scope_at t c.args.frame in
    let y = c.index-resources-number.result in
    let l = fewer_listed t c.args.frame c.index.result.now c.requires.there c.index.ensures c.loop-number.number _
    (ap length c.as_slice-resources.ensures.value) c.loop-number-test.true in
    let q = c.index-resources-number.is
    ∙ ap (λ xs. get_or xs c.loop-number.number y) c.as_slice-resources.ensures.value in
    arrays_stop t o.position c.loop-number.arrays o.resources c.loop-number.number (listed_of y) _
    (read_here t c.args.frame c.loop-number.number c.index.result.now y c.requires.there c.index.ensures l q)
    c.loop-number.invariant.0 c.in-Err.lack (sym c.is_nested.ensures ∙ c.if-is_nested.true) c.in-Err.ensures.told

pub loop-number-preserved : goal.loop-number-preserved
loop-number-preserved c =
    let t = c.args.table.now in
    let o = scope_at t c.args.frame in
    let y = c.index-resources-number.result in
    let l = fewer_listed t c.args.frame c.index.result.now c.requires.there c.index.ensures c.loop-number.number _
    (ap length c.as_slice-resources.ensures.value) c.loop-number-test.true in
    let q = c.index-resources-number.is
    ∙ ap (λ xs. get_or xs c.loop-number.number y) c.as_slice-resources.ensures.value in
    let here = read_here t c.args.frame c.loop-number.number c.index.result.now y c.requires.there c.index.ensures l q
    in
    elim c.if-is_nested.branch [
      | then-is_nested+in-Ok+in_ok-push-in-Ok w ↦ (
        arrays_more t o.position c.loop-number.arrays o.resources c.loop-number.number (listed_of y) _ here
            c.loop-number.invariant.0 _ w.in-Ok.items (sym c.is_nested.ensures ∙ w.if-is_nested.true)
            w.in-Ok.ensures.told (w.arrays-is ∙ w.in_ok-push-in-Ok.ensures),
        one_more_nests c.loop-number.arrays _ (array (row w.in-Ok.items)) 2 c.loop-number.invariant.1
            (let few = w.in-Ok.ensures.nests in omega (arith, few)) (w.arrays-is ∙ w.in_ok-push-in-Ok.ensures),
      )
      | else-is_nested w ↦ (
        ap (λ js. arrays_after js (told_in t (rest o.position (c.loop-number.number + 1)
            (drop (c.loop-number.number + 1) o.resources)))) w.arrays-is
            ∙ arrays_same t o.position c.loop-number.arrays o.resources c.loop-number.number (listed_of y) _ here
            c.loop-number.invariant.0 (sym c.is_nested.ensures ∙ w.if-is_nested.false),
        subst (λ js. items_nesting js ≤ 2) (sym w.arrays-is) c.loop-number.invariant.1,
      )
    ]

pub returns-clause-told : goal.returns-clause-told
returns-clause-told c =
    let t = c.args.table.now in
    let o = scope_at t c.args.frame in
    arrays_end t o.position c.loop-number.arrays o.resources c.loop-number.number _
    (no_more_listed t c.args.frame c.index.result.now c.requires.there c.index.ensures c.loop-number.number _
    (ap length c.as_slice-resources.ensures.value) c.loop-number-test.false) c.loop-number.invariant.0

pub returns-clause-nests : goal.returns-clause-nests
returns-clause-nests c = c.loop-number.invariant.1
