-- Bodies of resources and modules in which nothing is misplaced.
use Rattle.std.proofs.Common.{◌≡◌, [], ◌∷◌, None}
use Rattle.foundation.specs.Options.{or_else}
use Rattle.bicep_found.specs.Found.{both}
use Rattle.bicep_tree.specs.Tree as tree
use Rattle.bicep_names.specs.Scope.{Scope}
use Rattle.bicep_names.specs.Resolve.{resolved, resolved_members}
use Rattle.bicep_misplaced.specs.declared.spot.Owner.{Owner}
use Rattle.bicep_misplaced.specs.declared.spot.Repeated.TheVariants as repeated
use Rattle.bicep_misplaced.specs.declared.spot.Spot.TheVariants as spot
use Rattle.bicep_misplaced.specs.Expressions.{bad_in}
use Rattle.bicep_misplaced.specs.Resources.{bad_in_loop, bad_in_body, bad_in_fields}
use Rattle.bicep_declared.specs.Declarations.{BodyTree}
use Rattle.bicep_declared.specs.Declare.{body_of, plain_body, body_if, body_each, body_each_if}
use Rattle.sound_values.proofs.FoundLemmas.{second_none}
use Rattle.placed_files.proofs.FieldLemmas.{AreAllPlaced, of_fields}
use Rattle.placed_files.proofs.FoundLemmas.{Always, always_mapped, always_second}

abbrev pub BodyIsPlaced : BodyTree → Type 0
BodyIsPlaced b = AreAllPlaced b.fields

pub of_body : (sc : Scope) (o : Owner) (b : tree.BodyTree) → bad_in_body o b ≡ None
    → Always BodyIsPlaced (body_of sc b)
of_body sc o (tree.body_plain (tree.braces at ms)) b =
    always_mapped BodyIsPlaced (plain_body at) (resolved_members sc ms []) (of_fields sc o repeated.Once ms [] b)
of_body sc o (tree.body_if place c (tree.braces at ms)) b =
    let fields = bad_in_fields o repeated.Once (tree.braces at ms) in
    always_mapped BodyIsPlaced (body_if at) (both (resolved sc c []) (resolved_members sc ms []))
    (always_second AreAllPlaced (resolved sc c []) (resolved_members sc ms [])
    (of_fields sc o repeated.Once ms [] (second_none (bad_in spot.Inside c) fields b)))
of_body sc o (tree.body_each (tree.loop place ns xs) (tree.braces at ms)) b =
    let fields = bad_in_fields o repeated.Each (tree.braces at ms) in
    always_mapped BodyIsPlaced (body_each place at) (both (resolved sc xs []) (resolved_members sc ms (ns ∷ [])))
    (always_second AreAllPlaced (resolved sc xs []) (resolved_members sc ms (ns ∷ []))
    (of_fields sc o repeated.Each ms (ns ∷ []) (second_none (bad_in_loop (tree.loop place ns xs)) fields b)))
of_body sc o (tree.body_each_if (tree.loop place ns xs) from c (tree.braces at ms)) b =
    let fields = bad_in_fields o repeated.Each (tree.braces at ms) in
    let inner = both (resolved sc c (ns ∷ [])) (resolved_members sc ms (ns ∷ [])) in
    always_mapped BodyIsPlaced (body_each_if place at) (both (resolved sc xs []) inner)
    (always_second (λ q. AreAllPlaced q.1) (resolved sc xs []) inner
    (always_second AreAllPlaced (resolved sc c (ns ∷ [])) (resolved_members sc ms (ns ∷ []))
    (of_fields sc o repeated.Each ms (ns ∷ [])
    (second_none (bad_in spot.Inside c) fields
    (second_none (bad_in_loop (tree.loop place ns xs)) (or_else (bad_in spot.Inside c) fields) b)))))
