-- Where a resource is, and what its type and its children make of it.
use Rattle.std.specs.Prelude.{ℕ, ◌||◌, ◌&&◌, Bool, true, false, List, [], ◌∷◌, Option, Some, None, codes}
use Rattle.std.specs.Prelude.{if◌then◌else◌}
use Rattle.arm_ids.specs.Members.{is_deployment_type, is_declaration_member}
use Rattle.arm_value.specs.Json.{Json, text, Pairs}
use Rattle.arm_value.specs.Look.{is_same_folded, look_in}
use Rattle.resource_members.specs.declared.setting.Rank.{Rank}
use Rattle.resource_members.specs.declared.setting.Rank.TheVariants.{Listed, Child, Symbolic}
use Rattle.resource_members.specs.declared.setting.Setting.{Setting}
use Rattle.template_members.specs.Arguments.{has_item}

-- whether a type is that of nested deployments
abbrev pub has_deployment_type : Option Json → Bool
has_deployment_type (Some (text t)) = is_deployment_type t
has_deployment_type _ = false

-- whether a resource of this type is a nested deployment: a child has one segment of a type, so it never is
abbrev pub is_deployment : Rank → Option Json → Bool
is_deployment Listed kind = has_deployment_type kind
is_deployment Child kind = false
is_deployment Symbolic kind = has_deployment_type kind

-- whether a resource with these children is a parent
abbrev pub is_parent : Rank → Option Json → Bool
is_parent Listed (Some j) = has_item j
is_parent Listed None = false
is_parent Child children = false
is_parent Symbolic children = false

abbrev pub setting_of : Rank → Pairs → Setting
setting_of rank ms = record {
  rank = rank;
  is_deployment = is_deployment rank (look_in (codes "type") ms);
  is_parent = is_parent rank (look_in (codes "resources") ms);
}

abbrev pub is_symbolic : Rank → Bool
is_symbolic Listed = false
is_symbolic Child = false
is_symbolic Symbolic = true

-- whether the member says that the resource exists already
abbrev pub is_existence : Setting → List ℕ → Bool
is_existence s k = is_symbolic s.rank && is_same_folded (codes "existing") k

-- whether the member has the template of a nested deployment
abbrev pub is_properties : Setting → List ℕ → Bool
is_properties s k = s.is_deployment && is_same_folded (codes "properties") k

-- whether no two members have the name, in letters of any case: that of a member which the language names
abbrev pub is_single : Setting → List ℕ → Bool
is_single s k = is_declaration_member k || (is_existence s k || is_properties s k)

-- the members that a resource must have, in byte order
abbrev pub resource_members : Bool → List (List ℕ)
resource_members deployment =
    if deployment then codes "apiVersion" ∷ codes "name" ∷ codes "properties" ∷ codes "type" ∷ []
    else codes "apiVersion" ∷ codes "name" ∷ codes "type" ∷ []
