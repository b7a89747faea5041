-- Which decorators may be where, with which arguments (Microsoft Learn, "Parameters in Bicep", "Outputs in Bicep",
-- "Iterative loops in Bicep").
use Rattle.std.specs.Prelude.{ℕ, ◌&&◌, ◌||◌, Bool, true, false, not, List, [], ◌∷◌, ◌++◌, Option, Some, None, bytes_eq}
use Rattle.std.specs.Prelude.{codes, pos, int_le, if◌then◌else◌}
use Rattle.std.specs.List.{list_any}
use Rattle.bicep_tree.specs.declared.leaf.Function.{Function}
use Rattle.bicep_tree.specs.declared.leaf.Function.TheVariants as function
use Rattle.bicep_tree.specs.declared.leaf.Literal.{Literal}
use Rattle.bicep_tree.specs.declared.leaf.Literal.TheVariants as l
use Rattle.bicep_tree.specs.declared.leaf.TypeName.{TypeName}
use Rattle.bicep_tree.specs.declared.leaf.TypeName.TheVariants as type
use Rattle.bicep_tree.specs.Tree.{Tree, object, array, Trees, none, more, ObjectTree, braces}
use Rattle.bicep_tree.specs.Tree.{MemberTree, MemberTrees, no_member, and_member, property, child, DecoratorTree}
use Rattle.bicep_tree.specs.Tree.{DecoratorTrees, no_decorator, and_decorator, decorator, ResourceTree, resource}
use Rattle.bicep_tree.specs.Tree.{BodyTree, body_plain, body_if, body_each, body_each_if, DeclarationTree, metadata}
use Rattle.bicep_tree.specs.Tree.{target_scope, param, param_with, var, output, a_resource, a_module, StatementTree}
use Rattle.bicep_tree.specs.Tree.{statement, FileTree}
use Rattle.bicep_decorators.specs.Literals.{literal_in, is_literal_object, are_literals, is_whole}
use Rattle.bicep_decorators.specs.declared.kind.DecoratorKind.{DecoratorKind}
use Rattle.bicep_decorators.specs.declared.kind.DecoratorKind.TheVariants as k
use Rattle.bicep_decorators.specs.declared.place.Place.{Place}
use Rattle.bicep_decorators.specs.declared.place.Place.TheVariants as place
use Rattle.foundation.specs.Options.{or_else}

-- the decorators that bound a value or a loop, by their names, letter by letter
unfoldable pub bound_named : List ℕ → Option DecoratorKind
bound_named name = if bytes_eq name (codes "minLength") then Some k.MinLength
    else if bytes_eq name (codes "maxLength") then Some k.MaxLength
    else if bytes_eq name (codes "minValue") then Some k.MinValue
    else if bytes_eq name (codes "maxValue") then Some k.MaxValue
    else if bytes_eq name (codes "batchSize") then Some k.BatchSize
    else None

-- the decorators that there are, by their names, letter by letter
unfoldable pub decorator_named : List ℕ → Option DecoratorKind
decorator_named name = if bytes_eq name (codes "description") then Some k.Description
    else if bytes_eq name (codes "metadata") then Some k.Metadata
    else if bytes_eq name (codes "allowed") then Some k.Allowed
    else if bytes_eq name (codes "secure") then Some k.Secure
    else bound_named name

abbrev pub is_secret : TypeName → Bool
is_secret type.String = true
is_secret type.Object = true
is_secret t = false

abbrev pub is_sized : TypeName → Bool
is_sized type.String = true
is_sized type.Array = true
is_sized t = false

abbrev pub is_number : TypeName → Bool
is_number type.Int = true
is_number t = false

-- before a parameter of a type that passes a test
abbrev pub on_parameter : (TypeName → Bool) → Place → Bool
on_parameter test (place.Parameter t) = test t
on_parameter test place.Output = false
on_parameter test place.Loop = false
on_parameter test place.Other = false

abbrev pub on_output : Place → Bool
on_output place.Output = true
on_output p = false

abbrev pub on_loop : Place → Bool
on_loop place.Loop = true
on_loop p = false

-- whether a decorator may be at a place
abbrev pub may_be : Place → DecoratorKind → Bool
may_be p k.Description = true
may_be p k.Metadata = on_parameter (λ t. true) p || on_output p
may_be p k.Allowed = on_parameter (λ t. true) p
may_be p k.Secure = on_parameter is_secret p
may_be p k.MinLength = on_parameter is_sized p
may_be p k.MaxLength = on_parameter is_sized p
may_be p k.MinValue = on_parameter is_number p
may_be p k.MaxValue = on_parameter is_number p
may_be p k.BatchSize = on_loop p

-- ---- arguments

abbrev pub is_text_literal : Option Literal → Bool
is_text_literal (Some (l.Text t)) = true
is_text_literal o = false

-- a text without interpolation
abbrev pub is_text : Tree → Bool
is_text e = is_text_literal (literal_in e)

abbrev pub is_positive_literal : Option Literal → Bool
is_positive_literal (Some (l.Number z)) = int_le (pos 1) z
is_positive_literal o = false

-- a whole number from 1 on
abbrev pub is_positive : Tree → Bool
is_positive e = is_positive_literal (literal_in e)

-- an object of literals
abbrev pub is_record : Tree → Bool
is_record (object o) = is_literal_object o
is_record e = false

-- an array of literals
abbrev pub is_list : Tree → Bool
is_list (array at es) = are_literals es
is_list e = false

-- whether a decorator takes this as its only argument
abbrev pub fits : DecoratorKind → Tree → Bool
fits k.Description e = is_text e
fits k.Metadata e = is_record e
fits k.Allowed e = is_list e
fits k.Secure e = false
fits k.MinLength e = is_whole e
fits k.MaxLength e = is_whole e
fits k.MinValue e = is_whole e
fits k.MaxValue e = is_whole e
fits k.BatchSize e = is_positive e

-- whether a decorator takes no argument
abbrev pub takes_none : DecoratorKind → Bool
takes_none k.Secure = true
takes_none kind = false

-- whether there are no other arguments
abbrev pub is_end : Trees → Bool
is_end none = true
is_end (more e es) = false

-- whether a decorator takes these arguments: `@secure` none, and every other one
abbrev pub takes : DecoratorKind → Trees → Bool
takes kind none = takes_none kind
takes kind (more e es) = is_end es && fits kind e

-- ---- decorators

-- the name of a decorator, without `sys.`
abbrev pub function_text : Function → List ℕ
function_text (function.Plain n) = n.text
function_text (function.Qualified at space n) = n.text

abbrev pub decorator_name : DecoratorTree → List ℕ
decorator_name (decorator at f es) = function_text f

abbrev pub decorator_at : DecoratorTree → ℕ
decorator_at (decorator at f es) = at

abbrev pub admits : Place → Option DecoratorKind → Trees → Bool
admits p None es = false
admits p (Some kind) es = may_be p kind && takes kind es

-- whether the decorator may be at the place, with its arguments
abbrev pub is_allowed : Place → DecoratorTree → Bool
is_allowed p (decorator at f es) = admits p (decorator_named (function_text f)) es

-- whether the name is one of these
abbrev pub is_among : List (List ℕ) → List ℕ → Bool
is_among names name = list_any (bytes_eq name) names

-- whether the decorator may be at the place, and was not given before
abbrev pub is_fine : Place → List (List ℕ) → DecoratorTree → Bool
is_fine p before d = is_allowed p d && not (is_among before (decorator_name d))

-- the offset of the first decorator that may not be at the place, or that was given before
abbrev pub bad_from : Place → List (List ℕ) → DecoratorTrees → Option ℕ
bad_from p before no_decorator = None
bad_from p before (and_decorator d ds) =
    if is_fine p before d then bad_from p (before ++ decorator_name d ∷ []) ds else Some (decorator_at d)

abbrev pub bad_at : Place → DecoratorTrees → Option ℕ
bad_at p ds = bad_from p [] ds

-- ---- places

abbrev pub body_place : BodyTree → Place
body_place (body_plain o) = place.Other
body_place (body_if at c o) = place.Other
body_place (body_each l o) = place.Loop
body_place (body_each_if l at c o) = place.Loop

abbrev pub resource_place : ResourceTree → Place
resource_place (resource at n t x b) = body_place b

abbrev pub place_of : DeclarationTree → Place
place_of (metadata at n e) = place.Other
place_of (target_scope at e) = place.Other
place_of (param at n t) = place.Parameter t
place_of (param_with at n t e) = place.Parameter t
place_of (var at n v) = place.Other
place_of (output at n t v) = place.Output
place_of (a_resource r) = resource_place r
place_of (a_module at n path b) = body_place b

-- ---- files

-- the first bad decorator of the resources that are nested in a resource
abbrev mutual
  pub bad_in_resource : ResourceTree → Option ℕ
  bad_in_resource (resource at n t x b) = bad_in_body b

  pub bad_in_body : BodyTree → Option ℕ
  bad_in_body (body_plain o) = bad_in_object o
  bad_in_body (body_if b c o) = bad_in_object o
  bad_in_body (body_each l o) = bad_in_object o
  bad_in_body (body_each_if l b c o) = bad_in_object o

  pub bad_in_object : ObjectTree → Option ℕ
  bad_in_object (braces at ms) = bad_in_members ms

  pub bad_in_members : MemberTrees → Option ℕ
  bad_in_members no_member = None
  bad_in_members (and_member m ms) = or_else (bad_in_member m) (bad_in_members ms)

  pub bad_in_member : MemberTree → Option ℕ
  bad_in_member (property n v) = None
  bad_in_member (child ds r) = or_else (bad_at (resource_place r) ds) (bad_in_resource r)

abbrev pub bad_in_declaration : DeclarationTree → Option ℕ
bad_in_declaration (a_resource r) = bad_in_resource r
bad_in_declaration d = None

abbrev pub bad_in_statement : StatementTree → Option ℕ
bad_in_statement (statement ds d) = or_else (bad_at (place_of d) ds) (bad_in_declaration d)

-- the first bad decorator of a file
abbrev pub bad_in_file : FileTree → Option ℕ
bad_in_file [] = None
bad_in_file (s ∷ ss) = or_else (bad_in_statement s) (bad_in_file ss)
