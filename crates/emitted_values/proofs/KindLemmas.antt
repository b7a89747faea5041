-- Values are of a type in a template where they are of it in the file.
use Rattle.std.proofs.Common.{◌≡◌, refl}
use Rattle.arm_value.specs.Json.{Json, null, bool, int, text, array, object}
use Rattle.bicep_tree.specs.declared.leaf.TypeName.{TypeName}
use Rattle.bicep_tree.specs.declared.leaf.TypeName.TheVariants as name
use Rattle.bicep_meaning.specs.Instances as source
use Rattle.template_parameters.specs.Rule as rule
use Rattle.emitted_values.specs.Kinds.{kind_of}

pub same_values : (t : TypeName) (j : Json) → rule.is_of (kind_of t) j ≡ source.is_of t j
same_values name.String null = refl
same_values name.String (bool b) = refl
same_values name.String (int z) = refl
same_values name.String (text s) = refl
same_values name.String (array js) = refl
same_values name.String (object ms) = refl
same_values name.Int null = refl
same_values name.Int (bool b) = refl
same_values name.Int (int z) = refl
same_values name.Int (text s) = refl
same_values name.Int (array js) = refl
same_values name.Int (object ms) = refl
same_values name.Bool null = refl
same_values name.Bool (bool b) = refl
same_values name.Bool (int z) = refl
same_values name.Bool (text s) = refl
same_values name.Bool (array js) = refl
same_values name.Bool (object ms) = refl
same_values name.Object null = refl
same_values name.Object (bool b) = refl
same_values name.Object (int z) = refl
same_values name.Object (text s) = refl
same_values name.Object (array js) = refl
same_values name.Object (object ms) = refl
same_values name.Array null = refl
same_values name.Array (bool b) = refl
same_values name.Array (int z) = refl
same_values name.Array (text s) = refl
same_values name.Array (array js) = refl
same_values name.Array (object ms) = refl
