use Rattle.std.proofs.Common.{rules, ◌∙◌, sym}
use Rattle.std.proofs.lemmas.Fn.{always_returns_same}
use Rattle.arm_value.specs.Json.{null, key_cmp}
use Rattle.arm_value.specs.Same.{is_same}
use Rattle.arm_value.specs.View.{json}
use Rattle.function_lists.proofs.FieldLemmas.{found_at, found_none}
use Rattle.function_lists.proofs.unions.has_field.Goals as goal

pub returns-in-Ok : goal.returns-in-Ok
returns-in-Ok c =
    let k = c.args.field.now.name in
    let v = json c.args.field.now.value in
    let here = c.index-fields-place.result in
    let found =
    c.in-Ok.ensures.position (λ f. key_cmp f.name k)
    (always_returns_same _ _ _ (λ a r f called. (search rules, search rules))) in
    c.same.ensures.test
    ∙ sym (found_at (λ n. is_same v n.1) k c.args.fields.now c.in-Ok.place here c.requires c.in-Ok.ensures.bound
    (found here))

pub returns-in-Err : goal.returns-in-Err
returns-in-Err c =
    let k = c.args.field.now.name in
    let v = json c.args.field.now.value in
    let found =
    c.in-Err.ensures.position (λ f. key_cmp f.name k)
    (always_returns_same _ _ _ (λ a r f called. (search rules, search rules))) in
    sym (found_none (λ n. is_same v n.1) k null c.args.fields.now c.in-Err.field-0 c.requires c.in-Err.ensures.bound
    found)
