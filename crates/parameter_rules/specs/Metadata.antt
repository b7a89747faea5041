-- The metadata of parameters, outputs, resources and modules.
use Rattle.std.specs.Prelude.{ℕ, List, [], Option, Some, None, option_map, option_and_then, codes}
use Rattle.arm_value.specs.Json.{Json, text, object, pairs, Member, put, put_each}
use Rattle.bicep_tree.specs.declared.leaf.Literal.{Literal}
use Rattle.bicep_tree.specs.declared.leaf.Literal.TheVariants as l
use Rattle.bicep_tree.specs.Tree.{Tree, Trees, none, more, DecoratorTrees}
use Rattle.bicep_tree.specs.Tree as tree
use Rattle.bicep_decorators.specs.Literals.{literal_in}
use Rattle.bicep_decorators.specs.declared.kind.DecoratorKind.TheVariants as k
use Rattle.parameter_rules.specs.Kinds.{arguments_of}
use Rattle.parameter_rules.specs.Literals.{members_of}

abbrev pub text_in : Option Literal → Option (List ℕ)
text_in (Some (l.Text t)) = Some t
text_in o = None

abbrev pub first_text : Trees → Option (List ℕ)
first_text none = None
first_text (more e es) = text_in (literal_in e)

-- `@description`
abbrev pub description_of : DecoratorTrees → Option (List ℕ)
description_of ds = option_and_then first_text (arguments_of k.Description ds)

abbrev pub members_in : Tree → List Member
members_in (tree.object o) = put_each [] (members_of o)
members_in e = []

abbrev pub first_members : Trees → List Member
first_members none = []
first_members (more e es) = members_in e

-- `@metadata`
abbrev pub written : DecoratorTrees → Option (List Member)
written ds = option_map first_members (arguments_of k.Metadata ds)

abbrev pub or_none : Option (List Member) → List Member
or_none None = []
or_none (Some ms) = ms

abbrev pub plain : Option (List Member) → Option Json
plain None = None
plain (Some ms) = Some (object (pairs ms))

-- a description is a member of the metadata
abbrev pub metadata_by : Option (List ℕ) → Option (List Member) → Option Json
metadata_by None o = plain o
metadata_by (Some d) o = Some (object (pairs (put (codes "description") (text d) (or_none o))))

abbrev pub metadata_of : DecoratorTrees → Option Json
metadata_of ds = metadata_by (description_of ds) (written ds)
