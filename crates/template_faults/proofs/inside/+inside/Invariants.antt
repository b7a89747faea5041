use Rattle.std.proofs.Common.{◌≡◌, ◌+◌, ◌*◌, [], drop, map}
use Rattle.arm_value.specs.Json.{nesting, members_nesting, row, pairs}
use Rattle.arm_value.specs.View.{json, member}
use Rattle.template_faults.specs.Faults.{resources_of, row_in, pairs_in, children_of, properties_of, nested_of}
use Rattle.template_faults.proofs.inside.+inside.Given as goal

abbrev pub decreases-template_in : goal.decreases-template_in
decreases-template_in l = 10 * nesting (json l.value.now)

abbrev pub decreases-resources_of : goal.decreases-resources_of
decreases-resources_of l = 10 * members_nesting l.fields.now + 9

abbrev pub decreases-array_in : goal.decreases-array_in
decreases-array_in l = 10 * nesting (json l.value.now) + 8

abbrev pub decreases-symbols_in : goal.decreases-symbols_in
decreases-symbols_in l = 10 * nesting (json l.value.now) + 8

abbrev pub decreases-resource_in : goal.decreases-resource_in
decreases-resource_in l = 10 * nesting (json l.value.now) + 5

abbrev pub decreases-children_of : goal.decreases-children_of
decreases-children_of l = 10 * members_nesting l.fields.now + 9

abbrev pub decreases-properties_of : goal.decreases-properties_of
decreases-properties_of l = 10 * members_nesting l.fields.now + 9

abbrev pub decreases-properties_in : goal.decreases-properties_in
decreases-properties_in l = 10 * nesting (json l.value.now) + 8

abbrev pub decreases-nested_of : goal.decreases-nested_of
decreases-nested_of l = 10 * members_nesting l.fields.now + 9

abbrev pub invariant-resources_of-loop-field : goal.invariant-resources_of-loop-field
invariant-resources_of-loop-field l =
    resources_of l.here l.form (pairs (map member l.field-items))
    ≡ resources_of l.here l.form (pairs (map member (drop l.field-index l.field-items)))

abbrev pub invariant-array_in-loop-i : goal.invariant-array_in-loop-i
invariant-array_in-loop-i l =
    row_in l.here l.rank [] 0 (row (map json l.item-items))
    ≡ row_in l.here l.rank l.names l.i (row (map json (drop l.i l.item-items)))

abbrev pub invariant-symbols_in-loop-field : goal.invariant-symbols_in-loop-field
invariant-symbols_in-loop-field l =
    pairs_in l.here [] (pairs (map member l.field-items))
    ≡ pairs_in l.here l.names (pairs (map member (drop l.field-index l.field-items)))

abbrev pub invariant-children_of-loop-field : goal.invariant-children_of-loop-field
invariant-children_of-loop-field l =
    children_of l.here l.symbolic (pairs (map member l.field-items))
    ≡ children_of l.here l.symbolic (pairs (map member (drop l.field-index l.field-items)))

abbrev pub invariant-properties_of-loop-field : goal.invariant-properties_of-loop-field
invariant-properties_of-loop-field l =
    properties_of l.here l.is_deployment (pairs (map member l.field-items))
    ≡ properties_of l.here l.is_deployment (pairs (map member (drop l.field-index l.field-items)))

abbrev pub invariant-nested_of-loop-field : goal.invariant-nested_of-loop-field
invariant-nested_of-loop-field l =
    nested_of l.here l.scope (pairs (map member l.field-items))
    ≡ nested_of l.here l.scope (pairs (map member (drop l.field-index l.field-items)))
