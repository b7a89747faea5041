-- What the members of a resource are for, and the type of nested deployments.
use Rattle.std.specs.Prelude.{ℕ, Bool, List, [], ◌∷◌, codes}
use Rattle.std.specs.List.{list_any}
use Rattle.arm_value.specs.Look.{is_same_folded}

-- whether the name is one of these, in letters of any case
abbrev pub is_among : List (List ℕ) → List ℕ → Bool
is_among names name = list_any (λ other. is_same_folded other name) names

-- the members that declare a resource; the others are its body
abbrev pub declaration_members : List (List ℕ)
declaration_members =
    codes "type" ∷ codes "apiVersion" ∷ codes "name" ∷ codes "condition" ∷ codes "dependsOn" ∷ codes "copy"
    ∷ codes "resources" ∷ codes "comments" ∷ codes "metadata" ∷ []

-- the members that no resource has
abbrev pub refused_members : List (List ℕ)
refused_members = codes "scope" ∷ codes "subscriptionId" ∷ codes "resourceGroup" ∷ []

-- whether a member of this name declares its resource
unfoldable pub is_declaration_member : List ℕ → Bool
is_declaration_member name = is_among declaration_members name

-- whether no resource has a member of this name
unfoldable pub is_refused_member : List ℕ → Bool
is_refused_member name = is_among refused_members name

-- whether the type is that of nested deployments, which are no resources of their group
unfoldable pub is_deployment_type : List ℕ → Bool
is_deployment_type kind = is_same_folded (codes "Microsoft.Resources/deployments") kind

abbrev pub deployment_type : List ℕ
deployment_type = codes "Microsoft.Resources/deployments"
