-- The resources of a template (Microsoft Learn, "Resource declaration in ARM templates", "Resource iteration in ARM
-- templates", "Linked and nested templates").
use Rattle.std.specs.Prelude.{ℕ, ℤ, pos, nat_le, ◌&&◌, ◌||◌, chars, codes, Bool, List, [], ◌∷◌, map}
use Rattle.std.specs.Prelude.{Option, Some, None, option_map, is_some, if◌then◌else◌}
use Rattle.arm_value.specs.Json.{Json, Member}
use Rattle.arm_value.specs.Look.{is_same_folded}
use Rattle.template_parts.specs.declared.content.Argument.{Argument}
use Rattle.template_parts.specs.declared.declaration.Declaration.{Declaration}
use Rattle.template_parts.specs.declared.looping.Batches.{Batches}
use Rattle.template_parts.specs.declared.looping.Batches.TheVariants.{Parallel, Serial}
use Rattle.template_parts.specs.declared.looping.ResourceCopy.{ResourceCopy}
use Rattle.template_parts.specs.declared.mode.Form.{Form}
use Rattle.template_parts.specs.declared.mode.Form.TheVariants.{One, Two}
use Rattle.template_parts.specs.declared.mode.Scope.{Scope}
use Rattle.template_parts.specs.declared.mode.Scope.TheVariants.{Outer, Inner}
use Rattle.template_meaning.specs.Values.{Place, inside, optional, value_in, text_in, number_in, is_true, items_in}
use Rattle.template_meaning.specs.Values.{members_in, is_word}
use Rattle.template_meaning.specs.Parts.{unlooped, argument_of}

-- ---- which resources there are

-- a resource that is listed: its symbolic name, where it has one, and its value
abbrev pub Listed : Type 0
Listed = Option (List ℕ) × Json

-- the resources of an array
abbrev pub unnamed : Place → List Listed
unnamed o = map (λ j. (None, j)) (items_in o)

-- the resources of an object, by their symbolic names
abbrev pub symbolic : Place → List Listed
symbolic o = map (λ m. (Some m.0, m.1)) (members_in o)

abbrev pub listed : Form → Place → List Listed
listed One o = unnamed o
listed Two o = symbolic o

-- ---- what declares a resource

-- the size of a batch, which is 1 where none is given; the rules allow 1 to 800
abbrev pub batch_size : Option ℤ → ℕ
batch_size (Some (pos n)) = if nat_le n 800 then n else 1
batch_size _ = 1

abbrev pub batches_of : Place → Batches
batches_of o =
    if is_word (codes "serial") (inside (codes "mode") o)
    then Serial (batch_size (number_in (inside (codes "batchSize") o))) else Parallel

abbrev pub copy_by : Place → ResourceCopy
copy_by o = record {
  name = text_in (inside (codes "name") o);
  count = value_in (inside (codes "count") o);
  batches = batches_of o;
}

abbrev pub copy_in : Place → Option ResourceCopy
copy_in o = option_map (λ j. copy_by (Some j)) o

-- only a resource with a symbolic name may exist already
abbrev pub declaration_of : Option (List ℕ) → Place → Declaration
declaration_of symbol o = record {
  symbol = symbol;
  existing = is_some symbol && is_true (inside (codes "existing") o);
  kind = text_in (inside (codes "type") o);
  api_version = text_in (inside (codes "apiVersion") o);
  name = value_in (inside (codes "name") o);
  condition = optional (inside (codes "condition") o);
  depends_on = items_in (inside (codes "dependsOn") o);
  copy = copy_in (inside (codes "copy") o);
  metadata = optional (inside (codes "metadata") o);
}

-- ---- the body of a resource

abbrev pub is_named : List ℕ → List ℕ → Bool
is_named word name = is_same_folded (chars word) name

-- whether a member of this name declares the resource
abbrev pub is_declaring : List ℕ → Bool
is_declaring name =
    is_named (codes "type") name || is_named (codes "apiVersion") name || is_named (codes "name") name
    || is_named (codes "condition") name || is_named (codes "dependsOn") name || is_named (codes "copy") name

-- whether a member of this name is beside the declaration and the body, or is one that no resource has
abbrev pub is_beside : List ℕ → Bool
is_beside name =
    is_named (codes "resources") name || is_named (codes "comments") name || is_named (codes "metadata") name
    || is_named (codes "scope") name || is_named (codes "subscriptionId") name
    || is_named (codes "resourceGroup") name

-- whether a member of this name is none of the body of a resource with the symbolic name
abbrev pub is_outside : Option (List ℕ) → List ℕ → Bool
is_outside symbol name =
    is_declaring name || is_beside name || (is_some symbol && is_named (codes "existing") name)

-- the members of the body: all others
abbrev pub body_of : Option (List ℕ) → List Member → List Member
body_of symbol [] = []
body_of symbol (m ∷ ms) = if is_outside symbol m.0 then body_of symbol ms else m ∷ body_of symbol ms

-- ---- nested deployments

abbrev pub is_deployment : Place → Bool
is_deployment o = is_word (codes "Microsoft.Resources/deployments") (inside (codes "type") o)

abbrev pub scope_in : Place → Scope
scope_in o =
    if is_word (codes "inner") (inside (codes "scope") (inside (codes "expressionEvaluationOptions") o)) then Inner
    else Outer

-- what is given for the parameters of the nested template
abbrev pub arguments_in : Place → List Argument
arguments_in o = map argument_of (unlooped (members_in (inside (codes "parameters") o)))
