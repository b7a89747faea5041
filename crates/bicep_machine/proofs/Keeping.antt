-- What is kept of a tree, and that building from what is kept of the parts gives what is kept of the whole.
use Rattle.std.proofs.Common.{◌≡◌, suc, ℕ, ◌+◌, ◌<◌, ◌≤◌, max, nat_lt, nat_le, List, [], ◌∷◌, Bool, true, false, cond}
use Rattle.std.proofs.Common.{refl, ap, sym, ◌∙◌, arith, subst}
use Rattle.std.proofs.lemmas.Bool.Decides.{nat_tests}
use Rattle.foundation.proofs.Comparisons.{le_false, le_true, lt_false}
use Rattle.bicep_tree.specs.Tree.{Tree, object, Trees, none, more, Holes, no_hole, hole, ObjectTree, MemberTree}
use Rattle.bicep_tree.specs.Tree.{property, child, MemberTrees, no_member, and_member, ValueTree, plain, each}
use Rattle.bicep_tree.specs.Tree.{LoopTree, loop, DecoratorTree, decorator, DecoratorTrees, no_decorator}
use Rattle.bicep_tree.specs.Tree.{and_decorator, ResourceTree, resource, BodyTree, body_plain, body_if, body_each}
use Rattle.bicep_tree.specs.Tree.{body_each_if, DeclarationTree, metadata, target_scope, param, param_with, var}
use Rattle.bicep_tree.specs.Tree.{output, a_resource, a_module, StatementTree, statement, FileTree, trees, holes}
use Rattle.bicep_tree.specs.Tree.{members, decorators}
use Rattle.bicep_tree.specs.Nesting.{nesting, deepest, deepest_hole, object_nesting, member_nesting, deepest_member}
use Rattle.bicep_tree.specs.Nesting.{value_nesting, loop_nesting, decorator_nesting, deepest_decorator}
use Rattle.bicep_tree.specs.Nesting.{resource_nesting, body_nesting, declaration_nesting, statement_nesting}
use Rattle.bicep_tree.specs.Nesting.{file_nesting}
use Rattle.bicep_machine.specs.Kept.{Kept, empty, gap, object_gap, value_gap, body_gap, made}

-- lists of trees
abbrev pub each_tree : Trees → List Tree
each_tree none = []
each_tree (more e es) = e ∷ each_tree es

abbrev pub each_hole : Holes → List (Tree × List ℕ)
each_hole no_hole = []
each_hole (hole e s hs) = (e, s) ∷ each_hole hs

abbrev pub each_member : MemberTrees → List MemberTree
each_member no_member = []
each_member (and_member m ms) = m ∷ each_member ms

abbrev pub each_decorator : DecoratorTrees → List DecoratorTree
each_decorator no_decorator = []
each_decorator (and_decorator d ds) = d ∷ each_decorator ds

pub trees-each : (es : Trees) → trees (each_tree es) ≡ es
trees-each none = refl
trees-each (more e es) = ap (more e) (trees-each es)

pub holes-each : (hs : Holes) → holes (each_hole hs) ≡ hs
holes-each no_hole = refl
holes-each (hole e s hs) = ap (hole e s) (holes-each hs)

pub members-each : (ms : MemberTrees) → members (each_member ms) ≡ ms
members-each no_member = refl
members-each (and_member m ms) = ap (and_member m) (members-each ms)

pub decorators-each : (ds : DecoratorTrees) → decorators (each_decorator ds) ≡ ds
decorators-each no_decorator = refl
decorators-each (and_decorator d ds) = ap (and_decorator d) (decorators-each ds)

module _ (most : ℕ) where
  -- the part where it nests within the limit
  unfoldable pub fits : {X : Type 0} → X → X → ℕ → Kept X
  fits lost x n = cond (nat_le n most) (x, n) (lost, suc most)

  -- kept whole within the limit, and known to nest too deep beyond it
  pub record Stands {X : Type 0} (k : Kept X) (x : X) (n : ℕ) : Type 0 where
    pub whole : n ≤ most → k ≡ (x, n)
    pub deep : most < n → most < k.1

  pub fits-whole : {X : Type 0} (lost x : X) (n : ℕ) → n ≤ most → fits lost x n ≡ (x, n)
  unfolding fits
  fits-whole lost x n h = ap (λ b. cond b (x, n) (lost, suc most)) (le_true n most h)

  pub fits-deep : {X : Type 0} (lost x : X) (n : ℕ) → most < n → fits lost x n ≡ (lost, suc most)
  unfolding fits
  fits-deep lost x n h = ap (λ b. cond b (x, n) (lost, suc most)) (le_false n most h)

  pub fits_stands : {X : Type 0} (lost x : X) (n : ℕ) → Stands (fits lost x n) x n
  fits_stands lost x n = record {
    whole = fits-whole lost x n;
    deep = λ h. subst (λ k. most < k.1) (sym (fits-deep lost x n h)) (omega arith);
  }

  -- two parts beside each other
  abbrev pub beside : {X Y : Type 0} → Kept X → Kept Y → Kept (X × Y)
  beside k j = ((k.0, j.0), max k.1 j.1)

  pub both_stand : {X Y : Type 0} (k : Kept X) (x : X) (n : ℕ) (j : Kept Y) (y : Y) (m : ℕ) → Stands k x n
      → Stands j y m → Stands (beside k j) (x, y) (max n m)
  both_stand k x n j y m h g = record {
    whole = λ le. ap (λ p. beside p j) (h.whole (omega arith)) ∙ ap (λ p. beside (x, n) p) (g.whole (omega arith));
    deep = λ lt. either lt;
  }
    where
      by : (b : Bool) → nat_lt most n ≡ b → most < max n m → most < max k.1 j.1
      by true e lt = let d = h.deep (grind (arith, nat_tests)) in omega (arith, d)
      by false e lt = let d = g.deep (grind (arith, nat_tests)) in omega (arith, d)

      either : most < max n m → most < max k.1 j.1
      either lt = by (nat_lt most n) refl lt

  -- what is made of kept parts
  pub made_of : {X Y : Type 0} (f : X → Y) (lost : Y) (k : Kept X) (x : X) (n : ℕ) → Stands k x n
      → made most lost (f k.0) k.1 ≡ fits lost (f x) (suc n)
  unfolding made
  made_of f lost k x n h = by (nat_lt n most) refl
    where
      deep_here : (b : Bool) → nat_le n most ≡ b → most ≤ n → most ≤ k.1
      deep_here true e le = let w : k.1 ≡ n = ap (λ p. p.1) (h.whole (grind (arith, nat_tests))) in omega (arith, w)
      deep_here false e le = let d = h.deep (grind (arith, nat_tests)) in omega (arith, d)

      by : (b : Bool) → nat_lt n most ≡ b → made most lost (f k.0) k.1 ≡ fits lost (f x) (suc n)
      by true e =
          let lt : n < most = grind (arith, nat_tests) in
          ap (λ p. made most lost (f p.0) p.1) (h.whole (omega arith))
          ∙ ap (λ b. cond b (f x, n + 1) (lost, most + 1)) e ∙ ap (λ d. (f x, d)) (omega arith)
          ∙ sym (fits-whole lost (f x) (suc n) (omega arith))
      by false e =
          let le : most ≤ n = grind (arith, nat_tests) in
          ap (λ b. cond b (f k.0, k.1 + 1) (lost, most + 1)) (lt_false k.1 most (deep_here (nat_le n most) refl le))
          ∙ ap (λ d. (lost, d)) (omega arith) ∙ sym (fits-deep lost (f x) (suc n) (omega arith))

  -- a part inside another of its depth
  pub through : {X Y : Type 0} (f : X → Y) (k : Kept X) (x : X) (n : ℕ) → Stands k x n → Stands (f k.0, k.1) (f x) n
  through f k x n h = record {
    whole = λ le. ap (λ p. (f p.0, p.1)) (h.whole le);
    deep = h.deep;
  }

  -- ---- what is kept of trees

  -- what replaces an expression that nests too deep
  abbrev pub lost_of : Tree → Tree
  lost_of (object o) = object object_gap
  lost_of e = gap

  abbrev pub keep : Tree → Kept Tree
  keep e = fits (lost_of e) e (nesting e)

  abbrev pub keep_object : ObjectTree → Kept ObjectTree
  keep_object o = fits object_gap o (object_nesting o)

  abbrev pub keep_list : List Tree → Kept (List Tree)
  keep_list [] = empty
  keep_list (e ∷ es) = ((keep e).0 ∷ (keep_list es).0, max (keep e).1 (keep_list es).1)

  abbrev pub keep_holes : List (Tree × List ℕ) → Kept (List (Tree × List ℕ))
  keep_holes [] = empty
  keep_holes (h ∷ hs) = (((keep h.0).0, h.1) ∷ (keep_holes hs).0, max (keep h.0).1 (keep_holes hs).1)

  abbrev pub keep_loop : LoopTree → Kept LoopTree
  keep_loop (loop at ns e) = (loop at ns (keep e).0, (keep e).1)

  abbrev pub keep_value : ValueTree → Kept ValueTree
  keep_value (plain e) = (plain (keep e).0, (keep e).1)
  keep_value (each l e) = fits value_gap (each l e) (value_nesting (each l e))

  abbrev pub keep_decorator : DecoratorTree → Kept DecoratorTree
  keep_decorator (decorator at f es) =
      (decorator at f (trees (keep_list (each_tree es)).0), (keep_list (each_tree es)).1)

  abbrev pub keep_decorators : List DecoratorTree → Kept (List DecoratorTree)
  keep_decorators [] = empty
  keep_decorators (d ∷ ds) =
      ((keep_decorator d).0 ∷ (keep_decorators ds).0, max (keep_decorator d).1 (keep_decorators ds).1)

  abbrev pub keep_body : BodyTree → Kept BodyTree
  keep_body (body_plain o) = (body_plain (keep_object o).0, (keep_object o).1)
  keep_body (body_if at c o) = (body_if at (keep c).0 (keep_object o).0, max (keep c).1 (keep_object o).1)
  keep_body (body_each l o) = fits body_gap (body_each l o) (body_nesting (body_each l o))
  keep_body (body_each_if l at c o) = fits body_gap (body_each_if l at c o) (body_nesting (body_each_if l at c o))

  abbrev pub keep_resource : ResourceTree → Kept ResourceTree
  keep_resource (resource at n p x b) = (resource at n p x (keep_body b).0, (keep_body b).1)

  abbrev pub keep_member : MemberTree → Kept MemberTree
  keep_member (property l v) = (property l (keep_value v).0, (keep_value v).1)
  keep_member (child ds r) = (
    child (decorators (keep_decorators (each_decorator ds)).0) (keep_resource r).0,
    max (keep_decorators (each_decorator ds)).1 (keep_resource r).1,
  )

  abbrev pub keep_members : List MemberTree → Kept (List MemberTree)
  keep_members [] = empty
  keep_members (m ∷ ms) = ((keep_member m).0 ∷ (keep_members ms).0, max (keep_member m).1 (keep_members ms).1)

  abbrev pub keep_declaration : DeclarationTree → Kept DeclarationTree
  keep_declaration (metadata at n e) = (metadata at n (keep e).0, (keep e).1)
  keep_declaration (target_scope at e) = (target_scope at (keep e).0, (keep e).1)
  keep_declaration (param at n ty) = (param at n ty, 0)
  keep_declaration (param_with at n ty e) = (param_with at n ty (keep e).0, (keep e).1)
  keep_declaration (var at n v) = (var at n (keep_value v).0, (keep_value v).1)
  keep_declaration (output at n ty v) = (output at n ty (keep_value v).0, (keep_value v).1)
  keep_declaration (a_resource r) = (a_resource (keep_resource r).0, (keep_resource r).1)
  keep_declaration (a_module at n p b) = (a_module at n p (keep_body b).0, (keep_body b).1)

  abbrev pub keep_statement : StatementTree → Kept StatementTree
  keep_statement (statement ds d) = (
    statement (decorators (keep_decorators (each_decorator ds)).0) (keep_declaration d).0,
    max (keep_decorators (each_decorator ds)).1 (keep_declaration d).1,
  )

  abbrev pub keep_file : FileTree → Kept FileTree
  keep_file [] = empty
  keep_file (s ∷ ss) = ((keep_statement s).0 ∷ (keep_file ss).0, max (keep_statement s).1 (keep_file ss).1)

  -- ---- each is whole within the limit

  pub tree_stands : (e : Tree) → Stands (keep e) e (nesting e)
  tree_stands e = fits_stands (lost_of e) e (nesting e)

  pub object_stands : (o : ObjectTree) → Stands (keep_object o) o (object_nesting o)
  object_stands o = fits_stands object_gap o (object_nesting o)

  -- nothing nests not at all
  nothing_stands : {X : Type 0} (x : X) → Stands (x, 0) x 0
  nothing_stands x = record { whole = λ h. refl; deep = λ h. h }

  pub list_stands : (es : Trees) → Stands (keep_list (each_tree es)) (each_tree es) (deepest es)
  list_stands none = nothing_stands []
  list_stands (more e es) =
      through (λ p. p.0 ∷ p.1) (beside (keep e) (keep_list (each_tree es))) (e, each_tree es)
      (max (nesting e) (deepest es))
      (both_stand (keep e) e (nesting e) (keep_list (each_tree es)) (each_tree es) (deepest es) (tree_stands e)
      (list_stands es))

  pub trees_stand : (es : Trees)
      → Stands (trees (keep_list (each_tree es)).0, (keep_list (each_tree es)).1) es (deepest es)
  trees_stand es =
      subst (λ x. Stands (trees (keep_list (each_tree es)).0, (keep_list (each_tree es)).1) x (deepest es))
      (trees-each es) (through trees (keep_list (each_tree es)) (each_tree es) (deepest es) (list_stands es))

  pub hole_list_stands : (hs : Holes) → Stands (keep_holes (each_hole hs)) (each_hole hs) (deepest_hole hs)
  hole_list_stands no_hole = nothing_stands []
  hole_list_stands (hole e s hs) =
      through (λ p. (p.0, s) ∷ p.1) (beside (keep e) (keep_holes (each_hole hs))) (e, each_hole hs)
      (max (nesting e) (deepest_hole hs))
      (both_stand (keep e) e (nesting e) (keep_holes (each_hole hs)) (each_hole hs) (deepest_hole hs) (tree_stands e)
      (hole_list_stands hs))

  pub loop_stands : (l : LoopTree) → Stands (keep_loop l) l (loop_nesting l)
  loop_stands (loop at ns e) = through (loop at ns) (keep e) e (nesting e) (tree_stands e)

  pub value_stands : (v : ValueTree) → Stands (keep_value v) v (value_nesting v)
  value_stands (plain e) = through plain (keep e) e (nesting e) (tree_stands e)
  value_stands (each l e) = fits_stands value_gap (each l e) (value_nesting (each l e))

  pub decorator_stands : (d : DecoratorTree) → Stands (keep_decorator d) d (decorator_nesting d)
  decorator_stands (decorator at f es) =
      through (decorator at f) (trees (keep_list (each_tree es)).0, (keep_list (each_tree es)).1) es (deepest es)
      (trees_stand es)

  pub decorator_list_stands : (ds : DecoratorTrees)
      → Stands (keep_decorators (each_decorator ds)) (each_decorator ds) (deepest_decorator ds)
  decorator_list_stands no_decorator = nothing_stands []
  decorator_list_stands (and_decorator d ds) =
      through (λ p. p.0 ∷ p.1) (beside (keep_decorator d) (keep_decorators (each_decorator ds)))
      (d, each_decorator ds) (max (decorator_nesting d) (deepest_decorator ds))
      (both_stand (keep_decorator d) d (decorator_nesting d) (keep_decorators (each_decorator ds)) (each_decorator ds)
      (deepest_decorator ds) (decorator_stands d) (decorator_list_stands ds))

  pub decorators_stand : (ds : DecoratorTrees)
      → Stands (decorators (keep_decorators (each_decorator ds)).0, (keep_decorators (each_decorator ds)).1) ds
      (deepest_decorator ds)
  decorators_stand ds =
      subst (λ x. Stands (decorators (keep_decorators (each_decorator ds)).0, (keep_decorators (each_decorator ds)).1)
      x (deepest_decorator ds)) (decorators-each ds)
      (through decorators (keep_decorators (each_decorator ds)) (each_decorator ds) (deepest_decorator ds)
      (decorator_list_stands ds))

  pub body_stands : (b : BodyTree) → Stands (keep_body b) b (body_nesting b)
  body_stands (body_plain o) = through body_plain (keep_object o) o (object_nesting o) (object_stands o)
  body_stands (body_if at c o) =
      through (λ p. body_if at p.0 p.1) (beside (keep c) (keep_object o)) (c, o) (max (nesting c) (object_nesting o))
      (both_stand (keep c) c (nesting c) (keep_object o) o (object_nesting o) (tree_stands c) (object_stands o))
  body_stands (body_each l o) = fits_stands body_gap (body_each l o) (body_nesting (body_each l o))
  body_stands (body_each_if l at c o) =
      fits_stands body_gap (body_each_if l at c o) (body_nesting (body_each_if l at c o))

  pub resource_stands : (r : ResourceTree) → Stands (keep_resource r) r (resource_nesting r)
  resource_stands (resource at n p x b) = through (resource at n p x) (keep_body b) b (body_nesting b) (body_stands b)

  pub member_stands : (m : MemberTree) → Stands (keep_member m) m (member_nesting m)
  member_stands (property l v) = through (property l) (keep_value v) v (value_nesting v) (value_stands v)
  member_stands (child ds r) =
      let k : Kept DecoratorTrees =
      (decorators (keep_decorators (each_decorator ds)).0, (keep_decorators (each_decorator ds)).1) in
      through (λ p. child p.0 p.1) (beside k (keep_resource r)) (ds, r)
      (max (deepest_decorator ds) (resource_nesting r))
      (both_stand k ds (deepest_decorator ds) (keep_resource r) r (resource_nesting r) (decorators_stand ds)
      (resource_stands r))

  pub member_list_stands : (ms : MemberTrees)
      → Stands (keep_members (each_member ms)) (each_member ms) (deepest_member ms)
  member_list_stands no_member = nothing_stands []
  member_list_stands (and_member m ms) =
      through (λ p. p.0 ∷ p.1) (beside (keep_member m) (keep_members (each_member ms))) (m, each_member ms)
      (max (member_nesting m) (deepest_member ms))
      (both_stand (keep_member m) m (member_nesting m) (keep_members (each_member ms)) (each_member ms)
      (deepest_member ms) (member_stands m) (member_list_stands ms))

  pub declaration_stands : (d : DeclarationTree) → Stands (keep_declaration d) d (declaration_nesting d)
  declaration_stands (metadata at n e) = through (metadata at n) (keep e) e (nesting e) (tree_stands e)
  declaration_stands (target_scope at e) = through (target_scope at) (keep e) e (nesting e) (tree_stands e)
  declaration_stands (param at n ty) = nothing_stands (param at n ty)
  declaration_stands (param_with at n ty e) = through (param_with at n ty) (keep e) e (nesting e) (tree_stands e)
  declaration_stands (var at n v) = through (var at n) (keep_value v) v (value_nesting v) (value_stands v)
  declaration_stands (output at n ty v) = through (output at n ty) (keep_value v) v (value_nesting v) (value_stands v)
  declaration_stands (a_resource r) = through a_resource (keep_resource r) r (resource_nesting r) (resource_stands r)
  declaration_stands (a_module at n p b) = through (a_module at n p) (keep_body b) b (body_nesting b) (body_stands b)

  pub statement_stands : (s : StatementTree) → Stands (keep_statement s) s (statement_nesting s)
  statement_stands (statement ds d) =
      let k : Kept DecoratorTrees =
      (decorators (keep_decorators (each_decorator ds)).0, (keep_decorators (each_decorator ds)).1) in
      through (λ p. statement p.0 p.1) (beside k (keep_declaration d)) (ds, d)
      (max (deepest_decorator ds) (declaration_nesting d))
      (both_stand k ds (deepest_decorator ds) (keep_declaration d) d (declaration_nesting d) (decorators_stand ds)
      (declaration_stands d))

  pub file_stands : (f : FileTree) → Stands (keep_file f) f (file_nesting f)
  file_stands [] = nothing_stands []
  file_stands (s ∷ ss) =
      through (λ p. p.0 ∷ p.1) (beside (keep_statement s) (keep_file ss)) (s, ss)
      (max (statement_nesting s) (file_nesting ss))
      (both_stand (keep_statement s) s (statement_nesting s) (keep_file ss) ss (file_nesting ss) (statement_stands s)
      (file_stands ss))
