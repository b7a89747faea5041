use Rattle.std.proofs.Common.{rules, chars}
use Rattle.std.proofs.lemmas.Fn.{always_returns_same}
use Rattle.arm_value.specs.Json.{key_cmp}
use Rattle.arm_value.proofs.SetLemmas.{is_place}
use Rattle.arm_value.proofs.set.place.Goals as goal

pub returns : goal.returns
returns c =
    let facts = c.binary_search_by.ensures in
    let by_name = facts.position (λ field. key_cmp field.name (chars c.args.name.now))
    (always_returns_same _ _ _ (λ a r f called. (search rules, search rules))) in
    is_place (chars c.args.name.now) c.args.fields.now c.binary_search_by.result c.requires facts.bound by_name
