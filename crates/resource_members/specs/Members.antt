-- Why the members of a resource are refused, but for what its children and the template of a nested deployment have in
-- them (Microsoft Learn, "Template structure and syntax").
use Rattle.std.specs.Prelude.{ℕ, Bool, true, false, List, [], Option, Some, None, codes, if◌then◌else◌}
use Rattle.arm_expr.specs.Brackets.{Meaning, an_expression, plain, meaning, is_bracketed}
use Rattle.arm_ids.specs.Members.{is_declaration_member, is_refused_member}
use Rattle.arm_ids.specs.Segments.{has_slash}
use Rattle.arm_value.specs.Json.{Json, bool, text, array}
use Rattle.arm_value.specs.Look.{is_same_folded}
use Rattle.resource_members.specs.Copies.{copy_fault}
use Rattle.resource_members.specs.Settings.{is_symbolic, is_existence, is_properties}
use Rattle.resource_members.specs.declared.setting.Rank.{Rank}
use Rattle.resource_members.specs.declared.setting.Rank.TheVariants.{Listed, Child, Symbolic}
use Rattle.resource_members.specs.declared.setting.Setting.{Setting}
use Rattle.template_parts.specs.declared.fault.TemplateFault.{TemplateFault}
use Rattle.template_parts.specs.declared.fault.TemplateFault.TheVariants.{WrongForm}
use Rattle.template_texts.specs.declared.sight.Place.TheVariants.{Elsewhere}
use Rattle.template_texts.specs.declared.sight.Sight.{Sight}
use Rattle.template_values.specs.Order.{first_of}
use Rattle.template_values.specs.Values.{value_fault}

-- a fault where a text is in brackets
abbrev pub bracket_fault : List ℕ → Option TemplateFault
bracket_fault t = if is_bracketed t then Some (WrongForm []) else None

-- why a value is refused that must be a text without brackets
abbrev pub word_fault : Json → Option TemplateFault
word_fault (text t) = bracket_fault t
word_fault _ = Some (WrongForm [])

-- a fault where a text has more than one segment, if it is that of a child
abbrev pub segment_fault : Rank → List ℕ → Option TemplateFault
segment_fault Listed t = None
segment_fault Child t = if has_slash t then Some (WrongForm []) else None
segment_fault Symbolic t = None

-- why a type is refused: it is a text without brackets, and that of a child has one segment
abbrev pub type_fault : Rank → Json → Option TemplateFault
type_fault rank (text t) = first_of (bracket_fault t) (segment_fault rank t)
type_fault rank _ = Some (WrongForm [])

-- a fault where a plain text has more than one segment, if it is the name of a child
abbrev pub plain_name_fault : Rank → Meaning → Option TemplateFault
plain_name_fault rank (plain t) = segment_fault rank t
plain_name_fault rank an_expression = None

abbrev pub spelled_name_fault : Rank → Json → Option TemplateFault
spelled_name_fault rank (text t) = plain_name_fault rank (meaning t)
spelled_name_fault rank _ = None

-- why a name is refused: it is a value, and that of a child has one segment where it is plain
abbrev pub name_fault : Sight → Rank → Json → Option TemplateFault
name_fault here rank j = first_of (value_fault here Elsewhere j) (spelled_name_fault rank j)

-- why a value is refused that must be an array of what the resource depends on
abbrev pub depends_fault : Sight → Json → Option TemplateFault
depends_fault here (array js) = value_fault here Elsewhere (array js)
depends_fault here _ = Some (WrongForm [])

-- a fault where a resource has children and a symbolic name
abbrev pub children_fault : Rank → Option TemplateFault
children_fault rank = if is_symbolic rank then Some (WrongForm []) else None

-- why a member is refused that declares a resource
abbrev pub further_fault : Sight → Setting → List (List ℕ) → List ℕ → Json → Option TemplateFault
further_fault here s names k j =
    if is_same_folded (codes "dependsOn") k then depends_fault here j
    else (if is_same_folded (codes "copy") k then copy_fault here s names j
    else (if is_same_folded (codes "resources") k then children_fault s.rank else None))

abbrev pub declaring_fault : Sight → Setting → List (List ℕ) → List ℕ → Json → Option TemplateFault
declaring_fault here s names k j =
    if is_same_folded (codes "type") k then type_fault s.rank j
    else (if is_same_folded (codes "apiVersion") k then word_fault j
    else (if is_same_folded (codes "name") k then name_fault here s.rank j
    else (if is_same_folded (codes "condition") k then value_fault here Elsewhere j
    else further_fault here s names k j)))

-- why a value is refused that must say whether the resource exists: no nested deployment does
abbrev pub existing_fault : Bool → Json → Option TemplateFault
existing_fault deployment (bool false) = None
existing_fault deployment (bool true) = if deployment then Some (WrongForm []) else None
existing_fault deployment _ = Some (WrongForm [])

-- why a member of the body is refused: it is a value, and its name is not in brackets
abbrev pub body_fault : Sight → List ℕ → Json → Option TemplateFault
body_fault here k j = if is_bracketed k then Some (WrongForm []) else value_fault here Elsewhere j

-- why a member that is not named by every template is refused
abbrev pub other_fault : Sight → Setting → List ℕ → Json → Option TemplateFault
other_fault here s k j =
    if is_existence s k then existing_fault s.is_deployment j
    else (if is_properties s k then None else body_fault here k j)

-- why a member of a resource is refused, where the loops before it have these names
abbrev pub member_fault : Sight → Setting → List (List ℕ) → List ℕ → Json → Option TemplateFault
member_fault here s names k j =
    if is_refused_member k then Some (WrongForm [])
    else (if is_declaration_member k then declaring_fault here s names k j else other_fault here s k j)
