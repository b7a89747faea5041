-- Names that are given twice in the objects and loops of expressions, resources and modules.
use Rattle.std.specs.Prelude.{ℕ, List, Option, None, bytes_eq, codes, if◌then◌else◌}
use Rattle.bicep_tree.specs.Symbol.{label_text}
use Rattle.bicep_tree.specs.Tree.{Tree, Trees, Holes, ObjectTree, MemberTree, MemberTrees, ValueTree, LoopTree}
use Rattle.bicep_tree.specs.Tree.{DecoratorTree, DecoratorTrees, ResourceTree, BodyTree}
use Rattle.bicep_tree.specs.Tree as tree
use Rattle.bicep_members.specs.Labels.{repeated_label, repeated_folded, repeated_index}
use Rattle.foundation.specs.Options.{or_else}
use Rattle.bicep_tree.specs.Declarations.{body_members}

-- ---- expressions

abbrev mutual
  -- the first name that is given twice in an object or a loop of an expression
  pub repeated_in : Tree → Option ℕ
  repeated_in (tree.name n) = None
  repeated_in (tree.literal at v) = None
  repeated_in (tree.interpolated at first hs) = repeated_in_holes hs
  repeated_in (tree.object o) = repeated_in_object o
  repeated_in (tree.array at es) = repeated_in_all es
  repeated_in (tree.parentheses at e) = repeated_in e
  repeated_in (tree.call f es) = repeated_in_all es
  repeated_in (tree.access e k n) = repeated_in e
  repeated_in (tree.index e k i) = or_else (repeated_in e) (repeated_in i)
  repeated_in (tree.not_null e) = repeated_in e
  repeated_in (tree.prefixed at p e) = repeated_in e
  repeated_in (tree.binary o a b) = or_else (repeated_in a) (repeated_in b)
  repeated_in (tree.conditional c a b) = or_else (repeated_in c) (or_else (repeated_in a) (repeated_in b))

  pub repeated_in_all : Trees → Option ℕ
  repeated_in_all tree.none = None
  repeated_in_all (tree.more e es) = or_else (repeated_in e) (repeated_in_all es)

  pub repeated_in_holes : Holes → Option ℕ
  repeated_in_holes tree.no_hole = None
  repeated_in_holes (tree.hole e after hs) = or_else (repeated_in e) (repeated_in_holes hs)

  pub repeated_in_object : ObjectTree → Option ℕ
  repeated_in_object (tree.braces at ms) = or_else (repeated_label ms) (repeated_in_members ms)

  pub repeated_in_members : MemberTrees → Option ℕ
  repeated_in_members tree.no_member = None
  repeated_in_members (tree.and_member m ms) = or_else (repeated_in_member m) (repeated_in_members ms)

  -- resources that are written in an expression are not looked at: they are misplaced
  pub repeated_in_member : MemberTree → Option ℕ
  repeated_in_member (tree.property l v) = repeated_in_value v
  repeated_in_member (tree.child ds r) = None

  pub repeated_in_value : ValueTree → Option ℕ
  repeated_in_value (tree.plain e) = repeated_in e
  repeated_in_value (tree.each l e) = or_else (repeated_in_loop l) (repeated_in e)

  pub repeated_in_loop : LoopTree → Option ℕ
  repeated_in_loop (tree.loop at ns xs) = or_else (repeated_index ns) (repeated_in xs)

-- ---- resources

abbrev pub repeated_in_decorator : DecoratorTree → Option ℕ
repeated_in_decorator (tree.decorator at f es) = repeated_in_all es

abbrev pub repeated_in_decorators : DecoratorTrees → Option ℕ
repeated_in_decorators tree.no_decorator = None
repeated_in_decorators (tree.and_decorator d ds) = or_else (repeated_in_decorator d) (repeated_in_decorators ds)

abbrev mutual
  -- the first name that is given twice in a resource or in one that is nested in it
  pub repeated_in_resource : ResourceTree → Option ℕ
  repeated_in_resource (tree.resource at n q x b) = repeated_in_body b

  pub repeated_in_body : BodyTree → Option ℕ
  repeated_in_body (tree.body_plain o) = repeated_in_fields o
  repeated_in_body (tree.body_if at c o) = or_else (repeated_in c) (repeated_in_fields o)
  repeated_in_body (tree.body_each l o) = or_else (repeated_in_loop l) (repeated_in_fields o)
  repeated_in_body (tree.body_each_if l at c o) =
      or_else (repeated_in_loop l) (or_else (repeated_in c) (repeated_in_fields o))

  pub repeated_in_fields : ObjectTree → Option ℕ
  repeated_in_fields (tree.braces at ms) = or_else (repeated_label ms) (repeated_in_all_fields ms)

  pub repeated_in_all_fields : MemberTrees → Option ℕ
  repeated_in_all_fields tree.no_member = None
  repeated_in_all_fields (tree.and_member m ms) = or_else (repeated_in_field m) (repeated_in_all_fields ms)

  pub repeated_in_field : MemberTree → Option ℕ
  repeated_in_field (tree.property l v) = repeated_in_value v
  repeated_in_field (tree.child ds r) = or_else (repeated_in_decorators ds) (repeated_in_resource r)

-- ---- modules

abbrev pub params_word : List ℕ
params_word = codes "params"

abbrev pub repeated_argument_of : ObjectTree → Option ℕ
repeated_argument_of (tree.braces at ms) = repeated_folded ms

-- parentheses around the object are left out
abbrev pub repeated_argument : Tree → Option ℕ
repeated_argument (tree.object o) = repeated_argument_of o
repeated_argument (tree.parentheses at e) = repeated_argument e
repeated_argument e = None

abbrev pub repeated_argument_in : ValueTree → Option ℕ
repeated_argument_in (tree.plain e) = repeated_argument e
repeated_argument_in (tree.each l e) = None

-- the arguments in the field `params` of a module have different names after ASCII case folding
abbrev pub repeated_in_params : MemberTree → Option ℕ
repeated_in_params (tree.property l v) =
    if bytes_eq (label_text l) params_word then repeated_argument_in v else None
repeated_in_params (tree.child ds r) = None

abbrev pub repeated_in_all_params : MemberTrees → Option ℕ
repeated_in_all_params tree.no_member = None
repeated_in_all_params (tree.and_member m ms) = or_else (repeated_in_params m) (repeated_in_all_params ms)

-- the first name that is given twice in a module
abbrev pub repeated_in_module : BodyTree → Option ℕ
repeated_in_module b = or_else (repeated_in_body b) (repeated_in_all_params (body_members b))
