-- The tree that a value of the code represents.
use Rattle.std.specs.Prelude.{ℕ, List, map}
use Rattle.bicep_tree.specs.declared.expr.Body.{Body, fold-Body}
use Rattle.bicep_tree.specs.declared.expr.Decorator.{Decorator, fold-Decorator}
use Rattle.bicep_tree.specs.declared.expr.Expr.{Expr, fold-Expr}
use Rattle.bicep_tree.specs.declared.expr.Hole.{Hole, fold-Hole}
use Rattle.bicep_tree.specs.declared.expr.Loop.{Loop, fold-Loop}
use Rattle.bicep_tree.specs.declared.expr.Member.{Member, fold-Member}
use Rattle.bicep_tree.specs.declared.expr.Object.{Object, fold-Object}
use Rattle.bicep_tree.specs.declared.expr.Resource.{Resource, fold-Resource}
use Rattle.bicep_tree.specs.declared.expr.Value.{Value, fold-Value}
use Rattle.bicep_tree.specs.declared.expr.Body.TheOpen.{Body-F, Decorator-F, Expr-F, Hole-F, Loop-F, Member-F}
use Rattle.bicep_tree.specs.declared.expr.Body.TheOpen.{Object-F, Resource-F, Value-F}
use Rattle.bicep_tree.specs.declared.declaration.Declaration.{Declaration}
use Rattle.bicep_tree.specs.declared.declaration.Declaration.TheVariants as d
use Rattle.bicep_tree.specs.declared.declaration.Statement.{Statement}
use Rattle.bicep_tree.specs.Tree.{Tree, name, literal, interpolated, object, array, parentheses, call, access, index}
use Rattle.bicep_tree.specs.Tree.{not_null, prefixed, binary, conditional, ObjectTree, braces, MemberTree, property}
use Rattle.bicep_tree.specs.Tree.{child, ValueTree, plain, each, LoopTree, loop, DecoratorTree, decorator}
use Rattle.bicep_tree.specs.Tree.{ResourceTree, resource, BodyTree, body_plain, body_if, body_each, body_each_if}
use Rattle.bicep_tree.specs.Tree.{DeclarationTree, metadata, target_scope, param, param_with, var, output, a_resource}
use Rattle.bicep_tree.specs.Tree.{a_module, StatementTree, statement, FileTree, trees, holes, members, decorators}

-- a hole's value, and the characters after it
abbrev pub HoleTree : Type 0
HoleTree = Tree × List ℕ

-- one layer of each type, where the parts are trees
abbrev pub body_layer : Body-F BodyTree Tree MemberTree ValueTree DecoratorTree HoleTree LoopTree ObjectTree
    ResourceTree → BodyTree
body_layer (Body-F.Body::Plain o) = body_plain o
body_layer (Body-F.If at c o) = body_if at c o
body_layer (Body-F.Body::Each l o) = body_each l o
body_layer (Body-F.EachIf l at c o) = body_each_if l at c o

abbrev pub expr_layer : Expr-F BodyTree Tree MemberTree ValueTree DecoratorTree HoleTree LoopTree ObjectTree
    ResourceTree → Tree
expr_layer (Expr-F.Name n) = name n
expr_layer (Expr-F.Literal at v) = literal at v
expr_layer (Expr-F.Interpolated at first hs) = interpolated at first (holes hs.items)
expr_layer (Expr-F.Object o) = object o
expr_layer (Expr-F.Array at es) = array at (trees es.items)
expr_layer (Expr-F.Parentheses at e) = parentheses at e.value
expr_layer (Expr-F.Call f es) = call f (trees es.items)
expr_layer (Expr-F.Access e k n) = access e.value k n
expr_layer (Expr-F.Index e k i) = index e.value k i.value
expr_layer (Expr-F.NotNull e) = not_null e.value
expr_layer (Expr-F.Prefix at p e) = prefixed at p e.value
expr_layer (Expr-F.Binary o a b) = binary o a.value b.value
expr_layer (Expr-F.Conditional c a b) = conditional c.value a.value b.value

abbrev pub member_layer : Member-F BodyTree Tree MemberTree ValueTree DecoratorTree HoleTree LoopTree ObjectTree
    ResourceTree → MemberTree
member_layer (Member-F.Property l v) = property l v
member_layer (Member-F.Child ds r) = child (decorators ds.items) r

abbrev pub value_layer : Value-F BodyTree Tree MemberTree ValueTree DecoratorTree HoleTree LoopTree ObjectTree
    ResourceTree → ValueTree
value_layer (Value-F.Value::Plain e) = plain e
value_layer (Value-F.Value::Each l e) = each l e

abbrev pub decorator_layer : Decorator-F BodyTree Tree MemberTree ValueTree DecoratorTree HoleTree LoopTree ObjectTree
    ResourceTree → DecoratorTree
decorator_layer x = decorator x.at x.function (trees x.arguments.items)

abbrev pub hole_layer : Hole-F BodyTree Tree MemberTree ValueTree DecoratorTree HoleTree LoopTree ObjectTree
    ResourceTree → HoleTree
hole_layer x = (x.value, x.after)

abbrev pub loop_layer : Loop-F BodyTree Tree MemberTree ValueTree DecoratorTree HoleTree LoopTree ObjectTree
    ResourceTree → LoopTree
loop_layer x = loop x.at x.names x.over

abbrev pub object_layer : Object-F BodyTree Tree MemberTree ValueTree DecoratorTree HoleTree LoopTree ObjectTree
    ResourceTree → ObjectTree
object_layer x = braces x.at (members x.members.items)

abbrev pub resource_layer : Resource-F BodyTree Tree MemberTree ValueTree DecoratorTree HoleTree LoopTree ObjectTree
    ResourceTree → ResourceTree
resource_layer x = resource x.at x.name x.path x.existing x.body

unfoldable pub tree_of : Expr → Tree
tree_of = fold-Expr BodyTree Tree MemberTree ValueTree DecoratorTree HoleTree LoopTree ObjectTree ResourceTree
    body_layer expr_layer member_layer value_layer decorator_layer hole_layer loop_layer object_layer resource_layer

unfoldable pub body_of : Body → BodyTree
body_of = fold-Body BodyTree Tree MemberTree ValueTree DecoratorTree HoleTree LoopTree ObjectTree ResourceTree
    body_layer expr_layer member_layer value_layer decorator_layer hole_layer loop_layer object_layer resource_layer

unfoldable pub member_of : Member → MemberTree
member_of = fold-Member BodyTree Tree MemberTree ValueTree DecoratorTree HoleTree LoopTree ObjectTree ResourceTree
    body_layer expr_layer member_layer value_layer decorator_layer hole_layer loop_layer object_layer resource_layer

unfoldable pub value_of : Value → ValueTree
value_of = fold-Value BodyTree Tree MemberTree ValueTree DecoratorTree HoleTree LoopTree ObjectTree ResourceTree
    body_layer expr_layer member_layer value_layer decorator_layer hole_layer loop_layer object_layer resource_layer

unfoldable pub decorator_of : Decorator → DecoratorTree
decorator_of = fold-Decorator BodyTree Tree MemberTree ValueTree DecoratorTree HoleTree LoopTree ObjectTree
    ResourceTree body_layer expr_layer member_layer value_layer decorator_layer hole_layer loop_layer object_layer
    resource_layer

unfoldable pub hole_of : Hole → HoleTree
hole_of = fold-Hole BodyTree Tree MemberTree ValueTree DecoratorTree HoleTree LoopTree ObjectTree ResourceTree
    body_layer expr_layer member_layer value_layer decorator_layer hole_layer loop_layer object_layer resource_layer

unfoldable pub loop_of : Loop → LoopTree
loop_of = fold-Loop BodyTree Tree MemberTree ValueTree DecoratorTree HoleTree LoopTree ObjectTree ResourceTree
    body_layer expr_layer member_layer value_layer decorator_layer hole_layer loop_layer object_layer resource_layer

unfoldable pub object_of : Object → ObjectTree
object_of = fold-Object BodyTree Tree MemberTree ValueTree DecoratorTree HoleTree LoopTree ObjectTree ResourceTree
    body_layer expr_layer member_layer value_layer decorator_layer hole_layer loop_layer object_layer resource_layer

unfoldable pub resource_of : Resource → ResourceTree
resource_of = fold-Resource BodyTree Tree MemberTree ValueTree DecoratorTree HoleTree LoopTree ObjectTree ResourceTree
    body_layer expr_layer member_layer value_layer decorator_layer hole_layer loop_layer object_layer resource_layer

abbrev pub declaration_of : Declaration → DeclarationTree
declaration_of (d.Metadata at n e) = metadata at n (tree_of e)
declaration_of (d.TargetScope at e) = target_scope at (tree_of e)
declaration_of (d.Param at n ty) = param at n ty
declaration_of (d.ParamWith at n ty e) = param_with at n ty (tree_of e)
declaration_of (d.Var at n v) = var at n (value_of v)
declaration_of (d.Output at n ty v) = output at n ty (value_of v)
declaration_of (d.Resource r) = a_resource (resource_of r)
declaration_of (d.Module at n p b) = a_module at n p (body_of b)

abbrev pub statement_of : Statement → StatementTree
statement_of s = statement (decorators (map decorator_of s.decorators.items)) (declaration_of s.declaration)

abbrev pub file_of : List Statement → FileTree
file_of ss = map statement_of ss
