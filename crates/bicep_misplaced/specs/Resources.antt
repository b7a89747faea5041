-- What is misplaced in a resource or a module.
use Rattle.std.specs.Prelude.{ℕ, Bool, true, false, List, ◌||◌, ◌&&◌, Option, Some, None, bytes_eq, codes}
use Rattle.std.specs.Prelude.{if◌then◌else◌}
use Rattle.bicep_tree.specs.declared.leaf.Label.{Label}
use Rattle.bicep_tree.specs.declared.leaf.Quoted.{Quoted}
use Rattle.bicep_tree.specs.Offset.{label_offset, resource_offset}
use Rattle.bicep_tree.specs.Symbol.{label_text}
use Rattle.bicep_tree.specs.Tree.{ObjectTree, MemberTree, MemberTrees, ValueTree, LoopTree, DecoratorTree}
use Rattle.bicep_tree.specs.Tree.{DecoratorTrees, ResourceTree, BodyTree}
use Rattle.bicep_tree.specs.Tree as tree
use Rattle.bicep_misplaced.specs.declared.spot.Owner.{Owner}
use Rattle.bicep_misplaced.specs.declared.spot.Owner.TheVariants as owner
use Rattle.bicep_misplaced.specs.declared.spot.Repeated.{Repeated}
use Rattle.bicep_misplaced.specs.declared.spot.Repeated.TheVariants as repeated
use Rattle.bicep_misplaced.specs.declared.spot.Spot.TheVariants as spot
use Rattle.bicep_misplaced.specs.Types.{is_bad_path, is_one_segment}
use Rattle.bicep_misplaced.specs.Words.{is_bad_name, is_bad_field}
use Rattle.bicep_misplaced.specs.Expressions.{bad_in, bad_in_all}
use Rattle.foundation.specs.Options.{or_else}
use Rattle.bicep_tree.specs.Declarations.{body_members}

-- ---- decorators

abbrev pub bad_in_decorator : DecoratorTree → Option ℕ
bad_in_decorator (tree.decorator at f es) = bad_in_all spot.Outside es

abbrev pub bad_in_decorators : DecoratorTrees → Option ℕ
bad_in_decorators tree.no_decorator = None
bad_in_decorators (tree.and_decorator d ds) = or_else (bad_in_decorator d) (bad_in_decorators ds)

-- ---- fields

abbrev pub bad_field : Owner → Label → Option ℕ
bad_field o l = if is_bad_field o (label_text l) || is_bad_name spot.Field (label_text l) then Some (label_offset l)
    else None

-- the value of a field is no for-expression
abbrev pub bad_in_field_value : ValueTree → Option ℕ
bad_in_field_value (tree.plain e) = bad_in spot.Field e
bad_in_field_value (tree.each (tree.loop at ns xs) e) = Some at

-- whether a member is a field of that name, letter by letter
abbrev pub is_field : List ℕ → MemberTree → Bool
is_field name (tree.property l v) = bytes_eq (label_text l) name
is_field name (tree.child ds r) = false

abbrev pub has_field : List ℕ → MemberTrees → Bool
has_field name tree.no_member = false
has_field name (tree.and_member m ms) = is_field name m || has_field name ms

-- ---- bodies

abbrev pub bad_in_loop : LoopTree → Option ℕ
bad_in_loop (tree.loop at ns xs) = bad_in spot.Inside xs

abbrev pub bad_path : Quoted → Option ℕ
bad_path q = if is_bad_path q.text then Some q.at else None

-- an existing resource has no condition
abbrev pub bad_condition : Bool → BodyTree → Option ℕ
bad_condition true (tree.body_if at c o) = Some at
bad_condition true (tree.body_each_if l at c o) = Some at
bad_condition existing b = None

abbrev pub object_members : ObjectTree → MemberTrees
object_members (tree.braces b ms) = ms

abbrev pub name_word : List ℕ
name_word = codes "name"

abbrev pub parent_word : List ℕ
parent_word = codes "parent"

abbrev pub named : ℕ → MemberTrees → Option ℕ
named at ms = if has_field name_word ms then None else Some at

-- a resource has a name
abbrev pub missing_name : ℕ → BodyTree → Option ℕ
missing_name at b = named at (body_members b)

abbrev pub parented : Quoted → MemberTrees → Option ℕ
parented q ms = if is_one_segment q.text && has_field parent_word ms then Some q.at else None

-- beside `parent` the type text names the whole type, which has two segments or more; a nested resource has no `parent`
abbrev pub short_type : Owner → Quoted → BodyTree → Option ℕ
short_type owner.Resource q b = parented q (body_members b)
short_type owner.Module q b = parented q (body_members b)
short_type owner.Nested q b = None

-- what is misplaced in a resource beside its body
abbrev pub bad_around : Owner → ℕ → Quoted → Bool → BodyTree → Option ℕ
bad_around o at q existing b =
    or_else (bad_path q) (or_else (bad_condition existing b) (or_else (missing_name at b) (short_type o q b)))

-- a resource is written in the body of a resource that is no loop, where its parts are looked at
abbrev pub nested_at : Owner → Repeated → ℕ → Option ℕ → Option ℕ
nested_at owner.Module t at parts = Some at
nested_at owner.Resource repeated.Each at parts = Some at
nested_at owner.Nested repeated.Each at parts = Some at
nested_at owner.Resource repeated.Once at parts = parts
nested_at owner.Nested repeated.Once at parts = parts

abbrev mutual
  -- the first misplaced thing in a resource
  pub bad_in_resource : Owner → ResourceTree → Option ℕ
  bad_in_resource o (tree.resource at n q existing b) = or_else (bad_around o at q existing b) (bad_in_body o b)

  pub bad_in_body : Owner → BodyTree → Option ℕ
  bad_in_body o (tree.body_plain x) = bad_in_fields o repeated.Once x
  bad_in_body o (tree.body_if at c x) = or_else (bad_in spot.Inside c) (bad_in_fields o repeated.Once x)
  bad_in_body o (tree.body_each l x) = or_else (bad_in_loop l) (bad_in_fields o repeated.Each x)
  bad_in_body o (tree.body_each_if l at c x) =
      or_else (bad_in_loop l) (or_else (bad_in spot.Inside c) (bad_in_fields o repeated.Each x))

  pub bad_in_fields : Owner → Repeated → ObjectTree → Option ℕ
  bad_in_fields o t (tree.braces at ms) = bad_in_all_fields o t ms

  pub bad_in_all_fields : Owner → Repeated → MemberTrees → Option ℕ
  bad_in_all_fields o t tree.no_member = None
  bad_in_all_fields o t (tree.and_member m ms) = or_else (bad_in_field o t m) (bad_in_all_fields o t ms)

  pub bad_in_field : Owner → Repeated → MemberTree → Option ℕ
  bad_in_field o t (tree.property l v) = or_else (bad_field o l) (bad_in_field_value v)
  bad_in_field o t (tree.child ds r) =
      or_else (bad_in_decorators ds) (nested_at o t (resource_offset r) (bad_in_resource owner.Nested r))
