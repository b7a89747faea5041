use Rattle.std.proofs.Common.{◌≤◌, Some, length, map, sym, ap, refl, ◌∙◌, arith}
use Rattle.std.proofs.lemmas.List.{length-map}
use Rattle.std.proofs.lemmas.Option.{slice_get-map, slice_get_read}
use Rattle.std.specs.Prelude.{option_map}
use Rattle.bicep_declared.specs.View.{declared_tree}
use Rattle.source_worlds.specs.Numbers.{passing}
use Rattle.template_numbers.specs.Listed.{is_listed_by, is_listed}
use Rattle.template_numbers.proofs.NumberLemmas.{none_found, one_found, all_found}
use Rattle.template_numbers.proofs.listed.listed.Goals as goal

pub loop-number-init : goal.loop-number-init
loop-number-init c =
    let xs = c.args.declarations.now in
    none_found (is_listed c.args.form (map declared_tree xs)) (length xs) c.new-all.result.items c.new-all.ensures.items

pub loop-number-preserved : goal.loop-number-preserved
loop-number-preserved c =
    let z = c.args.form in
    let xs = c.args.declarations.now in
    let k = c.loop-number.number in
    let x = c.index-declarations-number.result in
    one_found (is_listed z (map declared_tree xs)) (length xs) k c.loop-number.all.items c.in_ok-all.all.items
    (is_listed_by z (Some (declared_tree x))) c.loop-number-test.true
    (ap (is_listed_by z)
    (slice_get-map declared_tree xs k
    ∙ ap (option_map declared_tree)
    (slice_get_read xs (length xs) k x refl c.loop-number-test.true c.index-declarations-number.is)))
    c.in_ok-all.ensures c.loop-number.invariant

pub returns : goal.returns
returns c =
    let xs = c.args.declarations.now in
    let done = c.loop-number-test.false in
    let all : length xs ≤ c.loop-number.number = omega (arith, done) in
    all_found (is_listed c.args.form (map declared_tree xs)) (length xs) c.loop-number.number c.loop-number.all.items
    all c.loop-number.invariant
    ∙ ap (λ n. passing (is_listed c.args.form (map declared_tree xs)) 0 n) (sym (length-map xs declared_tree))
