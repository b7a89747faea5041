-- What the views of trees are, variant by variant.
use Rattle.std.proofs.Common.{◌≡◌, ℕ, List, map, ap, sym, ◌∙◌}
use Rattle.std.specs.declared.vec.Vec.{Vec}
use Rattle.std.specs.declared.boxed.Box.{Box}
use Rattle.std.specs.declared.alloc.Global.{Global}
use Rattle.bicep_tree.specs.declared.leaf.Name.{Name}
use Rattle.bicep_tree.specs.declared.leaf.Label.{Label}
use Rattle.bicep_tree.specs.declared.leaf.Literal.{Literal}
use Rattle.bicep_tree.specs.declared.leaf.Function.{Function}
use Rattle.bicep_tree.specs.declared.leaf.Access.{Access}
use Rattle.bicep_tree.specs.declared.leaf.Indexing.{Indexing}
use Rattle.bicep_tree.specs.declared.leaf.Prefix.{Prefix}
use Rattle.bicep_tree.specs.declared.leaf.Operator.{Operator}
use Rattle.bicep_tree.specs.declared.expr.Body.{Body, fold-Body, fold-roll-Body}
use Rattle.bicep_tree.specs.declared.expr.Decorator.{Decorator, fold-Decorator, fold-roll-Decorator}
use Rattle.bicep_tree.specs.declared.expr.Expr.{Expr, fold-Expr, fold-roll-Expr}
use Rattle.bicep_tree.specs.declared.expr.Hole.{Hole, fold-Hole, fold-roll-Hole}
use Rattle.bicep_tree.specs.declared.expr.Loop.{Loop, fold-Loop, fold-roll-Loop}
use Rattle.bicep_tree.specs.declared.expr.Member.{Member, fold-Member, fold-roll-Member}
use Rattle.bicep_tree.specs.declared.expr.Object.{Object, fold-Object, fold-roll-Object}
use Rattle.bicep_tree.specs.declared.expr.Resource.{Resource, fold-Resource, fold-roll-Resource}
use Rattle.bicep_tree.specs.declared.expr.Value.{Value, fold-Value, fold-roll-Value}
use Rattle.bicep_tree.specs.declared.expr.Body.TheViews as views
use Rattle.bicep_tree.specs.declared.expr.Body.TheOpen.{Body-F, Decorator-F, Expr-F, Hole-F, Loop-F, Member-F}
use Rattle.bicep_tree.specs.declared.expr.Body.TheOpen.{Object-F, Resource-F, Value-F}
use Rattle.bicep_tree.specs.declared.expr.Body.TheVariants as b
use Rattle.bicep_tree.specs.declared.expr.Expr.TheVariants as e
use Rattle.bicep_tree.specs.declared.expr.Member.TheVariants as m
use Rattle.bicep_tree.specs.declared.expr.Value.TheVariants as v
use Rattle.bicep_tree.specs.Tree.{Tree, name, literal, interpolated, object, array, parentheses, call, access, index}
use Rattle.bicep_tree.specs.Tree.{not_null, prefixed, binary, conditional, ObjectTree, braces, MemberTree, property}
use Rattle.bicep_tree.specs.Tree.{child, ValueTree, plain, each, LoopTree, loop, DecoratorTree, decorator}
use Rattle.bicep_tree.specs.Tree.{ResourceTree, resource, BodyTree, body_plain, body_if, body_each, body_each_if}
use Rattle.bicep_tree.specs.Tree.{trees, holes, members, decorators}
use Rattle.bicep_tree.specs.View.{HoleTree, body_layer, expr_layer, member_layer, value_layer, decorator_layer}
use Rattle.bicep_tree.specs.View.{hole_layer, loop_layer, object_layer, resource_layer, tree_of, body_of, member_of}
use Rattle.bicep_tree.specs.View.{value_of, decorator_of, hole_of, loop_of, object_of, resource_of}

pub tree_of-Name : (n : Name) → tree_of (e.Name n) ≡ name n
unfolding tree_of body_of member_of value_of decorator_of hole_of loop_of object_of resource_of
tree_of-Name n =
    ap (fold-Expr BodyTree Tree MemberTree ValueTree DecoratorTree HoleTree LoopTree ObjectTree ResourceTree
    body_layer expr_layer member_layer value_layer decorator_layer hole_layer loop_layer object_layer resource_layer)
    (sym (e.rolls-Name n))
    ∙ fold-roll-Expr BodyTree Tree MemberTree ValueTree DecoratorTree HoleTree LoopTree ObjectTree ResourceTree
    body_layer expr_layer member_layer value_layer decorator_layer hole_layer loop_layer object_layer resource_layer
    (Expr-F.Name n)

pub tree_of-Literal : (at : ℕ) (x : Literal) → tree_of (e.Literal at x) ≡ literal at x
unfolding tree_of body_of member_of value_of decorator_of hole_of loop_of object_of resource_of
tree_of-Literal at x =
    ap (fold-Expr BodyTree Tree MemberTree ValueTree DecoratorTree HoleTree LoopTree ObjectTree ResourceTree
    body_layer expr_layer member_layer value_layer decorator_layer hole_layer loop_layer object_layer resource_layer)
    (sym (e.rolls-Literal at x))
    ∙ fold-roll-Expr BodyTree Tree MemberTree ValueTree DecoratorTree HoleTree LoopTree ObjectTree ResourceTree
    body_layer expr_layer member_layer value_layer decorator_layer hole_layer loop_layer object_layer resource_layer
    (Expr-F.Literal at x)

pub tree_of-Interpolated : (at : ℕ) (first : List ℕ) (hs : Vec Hole Global)
    → tree_of (e.Interpolated at first hs) ≡ interpolated at first (holes (map hole_of hs.items))
unfolding tree_of body_of member_of value_of decorator_of hole_of loop_of object_of resource_of
tree_of-Interpolated at first hs =
    ap (fold-Expr BodyTree Tree MemberTree ValueTree DecoratorTree HoleTree LoopTree ObjectTree ResourceTree
    body_layer expr_layer member_layer value_layer decorator_layer hole_layer loop_layer object_layer resource_layer)
    (sym (e.rolls-Interpolated at first hs))
    ∙ fold-roll-Expr BodyTree Tree MemberTree ValueTree DecoratorTree HoleTree LoopTree ObjectTree ResourceTree
    body_layer expr_layer member_layer value_layer decorator_layer hole_layer loop_layer object_layer resource_layer
    (Expr-F.Interpolated at first hs)

pub tree_of-Object : (x : Object) → tree_of (e.Object x) ≡ object (object_of x)
unfolding tree_of body_of member_of value_of decorator_of hole_of loop_of object_of resource_of
tree_of-Object x =
    ap (fold-Expr BodyTree Tree MemberTree ValueTree DecoratorTree HoleTree LoopTree ObjectTree ResourceTree
    body_layer expr_layer member_layer value_layer decorator_layer hole_layer loop_layer object_layer resource_layer)
    (sym (e.rolls-Object x))
    ∙ fold-roll-Expr BodyTree Tree MemberTree ValueTree DecoratorTree HoleTree LoopTree ObjectTree ResourceTree
    body_layer expr_layer member_layer value_layer decorator_layer hole_layer loop_layer object_layer resource_layer
    (Expr-F.Object x)

pub tree_of-Array : (at : ℕ) (es : Vec Expr Global) → tree_of (e.Array at es) ≡ array at (trees (map tree_of es.items))
unfolding tree_of body_of member_of value_of decorator_of hole_of loop_of object_of resource_of
tree_of-Array at es =
    ap (fold-Expr BodyTree Tree MemberTree ValueTree DecoratorTree HoleTree LoopTree ObjectTree ResourceTree
    body_layer expr_layer member_layer value_layer decorator_layer hole_layer loop_layer object_layer resource_layer)
    (sym (e.rolls-Array at es))
    ∙ fold-roll-Expr BodyTree Tree MemberTree ValueTree DecoratorTree HoleTree LoopTree ObjectTree ResourceTree
    body_layer expr_layer member_layer value_layer decorator_layer hole_layer loop_layer object_layer resource_layer
    (Expr-F.Array at es)

pub tree_of-Parentheses : (at : ℕ) (x : Box Expr Global)
    → tree_of (e.Parentheses at x) ≡ parentheses at (tree_of x.value)
unfolding tree_of body_of member_of value_of decorator_of hole_of loop_of object_of resource_of
tree_of-Parentheses at x =
    ap (fold-Expr BodyTree Tree MemberTree ValueTree DecoratorTree HoleTree LoopTree ObjectTree ResourceTree
    body_layer expr_layer member_layer value_layer decorator_layer hole_layer loop_layer object_layer resource_layer)
    (sym (e.rolls-Parentheses at x))
    ∙ fold-roll-Expr BodyTree Tree MemberTree ValueTree DecoratorTree HoleTree LoopTree ObjectTree ResourceTree
    body_layer expr_layer member_layer value_layer decorator_layer hole_layer loop_layer object_layer resource_layer
    (Expr-F.Parentheses at x)

pub tree_of-Call : (f : Function) (es : Vec Expr Global) → tree_of (e.Call f es) ≡ call f (trees (map tree_of es.items))
unfolding tree_of body_of member_of value_of decorator_of hole_of loop_of object_of resource_of
tree_of-Call f es =
    ap (fold-Expr BodyTree Tree MemberTree ValueTree DecoratorTree HoleTree LoopTree ObjectTree ResourceTree
    body_layer expr_layer member_layer value_layer decorator_layer hole_layer loop_layer object_layer resource_layer)
    (sym (e.rolls-Call f es))
    ∙ fold-roll-Expr BodyTree Tree MemberTree ValueTree DecoratorTree HoleTree LoopTree ObjectTree ResourceTree
    body_layer expr_layer member_layer value_layer decorator_layer hole_layer loop_layer object_layer resource_layer
    (Expr-F.Call f es)

pub tree_of-Access : (x : Box Expr Global) (k : Access) (n : Name)
    → tree_of (e.Access x k n) ≡ access (tree_of x.value) k n
unfolding tree_of body_of member_of value_of decorator_of hole_of loop_of object_of resource_of
tree_of-Access x k n =
    ap (fold-Expr BodyTree Tree MemberTree ValueTree DecoratorTree HoleTree LoopTree ObjectTree ResourceTree
    body_layer expr_layer member_layer value_layer decorator_layer hole_layer loop_layer object_layer resource_layer)
    (sym (e.rolls-Access x k n))
    ∙ fold-roll-Expr BodyTree Tree MemberTree ValueTree DecoratorTree HoleTree LoopTree ObjectTree ResourceTree
    body_layer expr_layer member_layer value_layer decorator_layer hole_layer loop_layer object_layer resource_layer
    (Expr-F.Access x k n)

pub tree_of-Index : (x : Box Expr Global) (k : Indexing) (y : Box Expr Global)
    → tree_of (e.Index x k y) ≡ index (tree_of x.value) k (tree_of y.value)
unfolding tree_of body_of member_of value_of decorator_of hole_of loop_of object_of resource_of
tree_of-Index x k y =
    ap (fold-Expr BodyTree Tree MemberTree ValueTree DecoratorTree HoleTree LoopTree ObjectTree ResourceTree
    body_layer expr_layer member_layer value_layer decorator_layer hole_layer loop_layer object_layer resource_layer)
    (sym (e.rolls-Index x k y))
    ∙ fold-roll-Expr BodyTree Tree MemberTree ValueTree DecoratorTree HoleTree LoopTree ObjectTree ResourceTree
    body_layer expr_layer member_layer value_layer decorator_layer hole_layer loop_layer object_layer resource_layer
    (Expr-F.Index x k y)

pub tree_of-NotNull : (x : Box Expr Global) → tree_of (e.NotNull x) ≡ not_null (tree_of x.value)
unfolding tree_of body_of member_of value_of decorator_of hole_of loop_of object_of resource_of
tree_of-NotNull x =
    ap (fold-Expr BodyTree Tree MemberTree ValueTree DecoratorTree HoleTree LoopTree ObjectTree ResourceTree
    body_layer expr_layer member_layer value_layer decorator_layer hole_layer loop_layer object_layer resource_layer)
    (sym (e.rolls-NotNull x))
    ∙ fold-roll-Expr BodyTree Tree MemberTree ValueTree DecoratorTree HoleTree LoopTree ObjectTree ResourceTree
    body_layer expr_layer member_layer value_layer decorator_layer hole_layer loop_layer object_layer resource_layer
    (Expr-F.NotNull x)

pub tree_of-Prefix : (at : ℕ) (p : Prefix) (x : Box Expr Global)
    → tree_of (e.Prefix at p x) ≡ prefixed at p (tree_of x.value)
unfolding tree_of body_of member_of value_of decorator_of hole_of loop_of object_of resource_of
tree_of-Prefix at p x =
    ap (fold-Expr BodyTree Tree MemberTree ValueTree DecoratorTree HoleTree LoopTree ObjectTree ResourceTree
    body_layer expr_layer member_layer value_layer decorator_layer hole_layer loop_layer object_layer resource_layer)
    (sym (e.rolls-Prefix at p x))
    ∙ fold-roll-Expr BodyTree Tree MemberTree ValueTree DecoratorTree HoleTree LoopTree ObjectTree ResourceTree
    body_layer expr_layer member_layer value_layer decorator_layer hole_layer loop_layer object_layer resource_layer
    (Expr-F.Prefix at p x)

pub tree_of-Binary : (p : Operator) (x : Box Expr Global) (y : Box Expr Global)
    → tree_of (e.Binary p x y) ≡ binary p (tree_of x.value) (tree_of y.value)
unfolding tree_of body_of member_of value_of decorator_of hole_of loop_of object_of resource_of
tree_of-Binary p x y =
    ap (fold-Expr BodyTree Tree MemberTree ValueTree DecoratorTree HoleTree LoopTree ObjectTree ResourceTree
    body_layer expr_layer member_layer value_layer decorator_layer hole_layer loop_layer object_layer resource_layer)
    (sym (e.rolls-Binary p x y))
    ∙ fold-roll-Expr BodyTree Tree MemberTree ValueTree DecoratorTree HoleTree LoopTree ObjectTree ResourceTree
    body_layer expr_layer member_layer value_layer decorator_layer hole_layer loop_layer object_layer resource_layer
    (Expr-F.Binary p x y)

pub tree_of-Conditional : (x : Box Expr Global) (y : Box Expr Global) (z : Box Expr Global)
    → tree_of (e.Conditional x y z) ≡ conditional (tree_of x.value) (tree_of y.value) (tree_of z.value)
unfolding tree_of body_of member_of value_of decorator_of hole_of loop_of object_of resource_of
tree_of-Conditional x y z =
    ap (fold-Expr BodyTree Tree MemberTree ValueTree DecoratorTree HoleTree LoopTree ObjectTree ResourceTree
    body_layer expr_layer member_layer value_layer decorator_layer hole_layer loop_layer object_layer resource_layer)
    (sym (e.rolls-Conditional x y z))
    ∙ fold-roll-Expr BodyTree Tree MemberTree ValueTree DecoratorTree HoleTree LoopTree ObjectTree ResourceTree
    body_layer expr_layer member_layer value_layer decorator_layer hole_layer loop_layer object_layer resource_layer
    (Expr-F.Conditional x y z)

pub body_of-Plain : (x : Object) → body_of (b.Plain x) ≡ body_plain (object_of x)
unfolding tree_of body_of member_of value_of decorator_of hole_of loop_of object_of resource_of
body_of-Plain x =
    ap (fold-Body BodyTree Tree MemberTree ValueTree DecoratorTree HoleTree LoopTree ObjectTree ResourceTree
    body_layer expr_layer member_layer value_layer decorator_layer hole_layer loop_layer object_layer resource_layer)
    (sym (b.rolls-Plain x))
    ∙ fold-roll-Body BodyTree Tree MemberTree ValueTree DecoratorTree HoleTree LoopTree ObjectTree ResourceTree
    body_layer expr_layer member_layer value_layer decorator_layer hole_layer loop_layer object_layer resource_layer
    (Body-F.Body::Plain x)

pub body_of-If : (at : ℕ) (c : Expr) (x : Object) → body_of (b.If at c x) ≡ body_if at (tree_of c) (object_of x)
unfolding tree_of body_of member_of value_of decorator_of hole_of loop_of object_of resource_of
body_of-If at c x =
    ap (fold-Body BodyTree Tree MemberTree ValueTree DecoratorTree HoleTree LoopTree ObjectTree ResourceTree
    body_layer expr_layer member_layer value_layer decorator_layer hole_layer loop_layer object_layer resource_layer)
    (sym (b.rolls-If at c x))
    ∙ fold-roll-Body BodyTree Tree MemberTree ValueTree DecoratorTree HoleTree LoopTree ObjectTree ResourceTree
    body_layer expr_layer member_layer value_layer decorator_layer hole_layer loop_layer object_layer resource_layer
    (Body-F.If at c x)

pub body_of-Each : (l : Loop) (x : Object) → body_of (b.Each l x) ≡ body_each (loop_of l) (object_of x)
unfolding tree_of body_of member_of value_of decorator_of hole_of loop_of object_of resource_of
body_of-Each l x =
    ap (fold-Body BodyTree Tree MemberTree ValueTree DecoratorTree HoleTree LoopTree ObjectTree ResourceTree
    body_layer expr_layer member_layer value_layer decorator_layer hole_layer loop_layer object_layer resource_layer)
    (sym (b.rolls-Each l x))
    ∙ fold-roll-Body BodyTree Tree MemberTree ValueTree DecoratorTree HoleTree LoopTree ObjectTree ResourceTree
    body_layer expr_layer member_layer value_layer decorator_layer hole_layer loop_layer object_layer resource_layer
    (Body-F.Body::Each l x)

pub body_of-EachIf : (l : Loop) (at : ℕ) (c : Expr) (x : Object)
    → body_of (b.EachIf l at c x) ≡ body_each_if (loop_of l) at (tree_of c) (object_of x)
unfolding tree_of body_of member_of value_of decorator_of hole_of loop_of object_of resource_of
body_of-EachIf l at c x =
    ap (fold-Body BodyTree Tree MemberTree ValueTree DecoratorTree HoleTree LoopTree ObjectTree ResourceTree
    body_layer expr_layer member_layer value_layer decorator_layer hole_layer loop_layer object_layer resource_layer)
    (sym (b.rolls-EachIf l at c x))
    ∙ fold-roll-Body BodyTree Tree MemberTree ValueTree DecoratorTree HoleTree LoopTree ObjectTree ResourceTree
    body_layer expr_layer member_layer value_layer decorator_layer hole_layer loop_layer object_layer resource_layer
    (Body-F.EachIf l at c x)

pub member_of-Property : (l : Label) (x : Value) → member_of (m.Property l x) ≡ property l (value_of x)
unfolding tree_of body_of member_of value_of decorator_of hole_of loop_of object_of resource_of
member_of-Property l x =
    ap (fold-Member BodyTree Tree MemberTree ValueTree DecoratorTree HoleTree LoopTree ObjectTree ResourceTree
    body_layer expr_layer member_layer value_layer decorator_layer hole_layer loop_layer object_layer resource_layer)
    (sym (m.rolls-Property l x))
    ∙ fold-roll-Member BodyTree Tree MemberTree ValueTree DecoratorTree HoleTree LoopTree ObjectTree ResourceTree
    body_layer expr_layer member_layer value_layer decorator_layer hole_layer loop_layer object_layer resource_layer
    (Member-F.Property l x)

pub member_of-Child : (ds : Vec Decorator Global) (r : Resource)
    → member_of (m.Child ds r) ≡ child (decorators (map decorator_of ds.items)) (resource_of r)
unfolding tree_of body_of member_of value_of decorator_of hole_of loop_of object_of resource_of
member_of-Child ds r =
    ap (fold-Member BodyTree Tree MemberTree ValueTree DecoratorTree HoleTree LoopTree ObjectTree ResourceTree
    body_layer expr_layer member_layer value_layer decorator_layer hole_layer loop_layer object_layer resource_layer)
    (sym (m.rolls-Child ds r))
    ∙ fold-roll-Member BodyTree Tree MemberTree ValueTree DecoratorTree HoleTree LoopTree ObjectTree ResourceTree
    body_layer expr_layer member_layer value_layer decorator_layer hole_layer loop_layer object_layer resource_layer
    (Member-F.Child ds r)

pub value_of-Plain : (x : Expr) → value_of (v.Plain x) ≡ plain (tree_of x)
unfolding tree_of body_of member_of value_of decorator_of hole_of loop_of object_of resource_of
value_of-Plain x =
    ap (fold-Value BodyTree Tree MemberTree ValueTree DecoratorTree HoleTree LoopTree ObjectTree ResourceTree
    body_layer expr_layer member_layer value_layer decorator_layer hole_layer loop_layer object_layer resource_layer)
    (sym (v.rolls-Plain x))
    ∙ fold-roll-Value BodyTree Tree MemberTree ValueTree DecoratorTree HoleTree LoopTree ObjectTree ResourceTree
    body_layer expr_layer member_layer value_layer decorator_layer hole_layer loop_layer object_layer resource_layer
    (Value-F.Value::Plain x)

pub value_of-Each : (l : Loop) (x : Expr) → value_of (v.Each l x) ≡ each (loop_of l) (tree_of x)
unfolding tree_of body_of member_of value_of decorator_of hole_of loop_of object_of resource_of
value_of-Each l x =
    ap (fold-Value BodyTree Tree MemberTree ValueTree DecoratorTree HoleTree LoopTree ObjectTree ResourceTree
    body_layer expr_layer member_layer value_layer decorator_layer hole_layer loop_layer object_layer resource_layer)
    (sym (v.rolls-Each l x))
    ∙ fold-roll-Value BodyTree Tree MemberTree ValueTree DecoratorTree HoleTree LoopTree ObjectTree ResourceTree
    body_layer expr_layer member_layer value_layer decorator_layer hole_layer loop_layer object_layer resource_layer
    (Value-F.Value::Each l x)

pub ruleset enums = (
  tree_of-Name,
  tree_of-Literal,
  tree_of-Interpolated,
  tree_of-Object,
  tree_of-Array,
  tree_of-Parentheses,
  tree_of-Call,
  tree_of-Access,
  tree_of-Index,
  tree_of-NotNull,
  tree_of-Prefix,
  tree_of-Binary,
  tree_of-Conditional,
  body_of-Plain,
  body_of-If,
  body_of-Each,
  body_of-EachIf,
  member_of-Property,
  member_of-Child,
  value_of-Plain,
  value_of-Each,
)

pub decorator_of-is : (x : Decorator)
    → decorator_of x ≡ decorator x.at x.function (trees (map tree_of x.arguments.items))
unfolding tree_of body_of member_of value_of decorator_of hole_of loop_of object_of resource_of
decorator_of-is x =
    let r : Decorator-F Body Expr Member Value Decorator Hole Loop Object Resource =
    record { at = x.at; function = x.function; arguments = x.arguments } in
    ap (fold-Decorator BodyTree Tree MemberTree ValueTree DecoratorTree HoleTree LoopTree ObjectTree ResourceTree
    body_layer expr_layer member_layer value_layer decorator_layer hole_layer loop_layer object_layer
    resource_layer) (views.is-struct-Decorator x ∙ sym (views.rolls-struct-Decorator r))
    ∙ fold-roll-Decorator BodyTree Tree MemberTree ValueTree DecoratorTree HoleTree LoopTree ObjectTree
    ResourceTree body_layer expr_layer member_layer value_layer decorator_layer hole_layer loop_layer object_layer
    resource_layer r

pub hole_of-is : (x : Hole) → hole_of x ≡ (tree_of x.value, x.after)
unfolding tree_of body_of member_of value_of decorator_of hole_of loop_of object_of resource_of
hole_of-is x =
    let r : Hole-F Body Expr Member Value Decorator Hole Loop Object Resource =
    record { value = x.value; after = x.after } in
    ap (fold-Hole BodyTree Tree MemberTree ValueTree DecoratorTree HoleTree LoopTree ObjectTree ResourceTree
    body_layer expr_layer member_layer value_layer decorator_layer hole_layer loop_layer object_layer
    resource_layer) (views.is-struct-Hole x ∙ sym (views.rolls-struct-Hole r))
    ∙ fold-roll-Hole BodyTree Tree MemberTree ValueTree DecoratorTree HoleTree LoopTree ObjectTree ResourceTree
    body_layer expr_layer member_layer value_layer decorator_layer hole_layer loop_layer object_layer
    resource_layer r

pub loop_of-is : (x : Loop) → loop_of x ≡ loop x.at x.names (tree_of x.over)
unfolding tree_of body_of member_of value_of decorator_of hole_of loop_of object_of resource_of
loop_of-is x =
    let r : Loop-F Body Expr Member Value Decorator Hole Loop Object Resource =
    record { at = x.at; names = x.names; over = x.over } in
    ap (fold-Loop BodyTree Tree MemberTree ValueTree DecoratorTree HoleTree LoopTree ObjectTree ResourceTree
    body_layer expr_layer member_layer value_layer decorator_layer hole_layer loop_layer object_layer
    resource_layer) (views.is-struct-Loop x ∙ sym (views.rolls-struct-Loop r))
    ∙ fold-roll-Loop BodyTree Tree MemberTree ValueTree DecoratorTree HoleTree LoopTree ObjectTree ResourceTree
    body_layer expr_layer member_layer value_layer decorator_layer hole_layer loop_layer object_layer
    resource_layer r

pub object_of-is : (x : Object) → object_of x ≡ braces x.at (members (map member_of x.members.items))
unfolding tree_of body_of member_of value_of decorator_of hole_of loop_of object_of resource_of
object_of-is x =
    let r : Object-F Body Expr Member Value Decorator Hole Loop Object Resource =
    record { at = x.at; members = x.members } in
    ap (fold-Object BodyTree Tree MemberTree ValueTree DecoratorTree HoleTree LoopTree ObjectTree ResourceTree
    body_layer expr_layer member_layer value_layer decorator_layer hole_layer loop_layer object_layer
    resource_layer) (views.is-struct-Object x ∙ sym (views.rolls-struct-Object r))
    ∙ fold-roll-Object BodyTree Tree MemberTree ValueTree DecoratorTree HoleTree LoopTree ObjectTree ResourceTree
    body_layer expr_layer member_layer value_layer decorator_layer hole_layer loop_layer object_layer
    resource_layer r

pub resource_of-is : (x : Resource) → resource_of x ≡ resource x.at x.name x.path x.existing (body_of x.body)
unfolding tree_of body_of member_of value_of decorator_of hole_of loop_of object_of resource_of
resource_of-is x =
    let r : Resource-F Body Expr Member Value Decorator Hole Loop Object Resource =
    record { at = x.at; name = x.name; path = x.path; existing = x.existing; body = x.body } in
    ap (fold-Resource BodyTree Tree MemberTree ValueTree DecoratorTree HoleTree LoopTree ObjectTree ResourceTree
    body_layer expr_layer member_layer value_layer decorator_layer hole_layer loop_layer object_layer
    resource_layer) (views.is-struct-Resource x ∙ sym (views.rolls-struct-Resource r))
    ∙ fold-roll-Resource BodyTree Tree MemberTree ValueTree DecoratorTree HoleTree LoopTree ObjectTree
    ResourceTree body_layer expr_layer member_layer value_layer decorator_layer hole_layer loop_layer object_layer
    resource_layer r

pub ruleset structs = (decorator_of-is, hole_of-is, loop_of-is, object_of-is, resource_of-is)
