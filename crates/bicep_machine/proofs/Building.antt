-- What is built of kept parts is what is kept of the whole.
use Rattle.std.proofs.Common.{◌≡◌, suc, ℕ, ◌+◌, max, nat_le, Bool, true, false, cond, List, [], ◌∷◌, ◌++◌, refl, ap}
use Rattle.std.proofs.Common.{sym, ◌∙◌, arith}
use Rattle.bicep_tree.specs.declared.leaf.Name.{Name}
use Rattle.bicep_tree.specs.declared.leaf.Function.{Function}
use Rattle.bicep_tree.specs.declared.leaf.Access.{Access}
use Rattle.bicep_tree.specs.declared.leaf.Indexing.{Indexing}
use Rattle.bicep_tree.specs.declared.leaf.Prefix.{Prefix}
use Rattle.bicep_tree.specs.declared.leaf.Operator.{Operator}
use Rattle.bicep_tree.specs.Tree.{Tree, interpolated, object, array, parentheses, call, access, index, not_null}
use Rattle.bicep_tree.specs.Tree.{prefixed, binary, conditional, Trees, Holes, ObjectTree, braces, MemberTree}
use Rattle.bicep_tree.specs.Tree.{MemberTrees, each, LoopTree, DecoratorTree, body_each, body_each_if, StatementTree}
use Rattle.bicep_tree.specs.Tree.{FileTree, trees, holes, members, decorators}
use Rattle.bicep_tree.specs.Nesting.{nesting, deepest, deepest_hole, object_nesting, deepest_member, loop_nesting}
use Rattle.bicep_machine.specs.Kept.{Kept, flat, put, gap, object_gap, value_gap, body_gap, made, of_holes}
use Rattle.bicep_machine.specs.Kept.{of_members, of_items, of_parentheses, of_call, of_access, of_index, of_not_null}
use Rattle.bicep_machine.specs.Kept.{of_prefix, of_binary, of_conditional, of_each, of_body_each, of_body_each_if}
use Rattle.bicep_machine.specs.Kept.{of_object}
use Rattle.bicep_machine.proofs.Keeping.{each_tree, each_hole, each_member, each_decorator, trees-each, holes-each}
use Rattle.bicep_machine.proofs.Keeping.{members-each, fits, fits-whole, Stands, beside, both_stand, made_of, lost_of}
use Rattle.bicep_machine.proofs.Keeping.{keep, keep_object, keep_list, keep_holes, keep_loop, keep_value}
use Rattle.bicep_machine.proofs.Keeping.{keep_decorator, keep_decorators, keep_body, keep_member, keep_members}
use Rattle.bicep_machine.proofs.Keeping.{keep_statement, keep_file, tree_stands, object_stands, list_stands}
use Rattle.bicep_machine.proofs.Keeping.{hole_list_stands, member_list_stands, loop_stands}

module _ (most : ℕ) where
  built : {X Y : Type 0} (f : X → Y) (lost y : Y) (k : Kept X) (x : X) (n d : ℕ) → Stands most k x n → f x ≡ y
      → suc n ≡ d → made most lost (f k.0) k.1 ≡ fits most lost y d
  built f lost y k x n d s e m = made_of most f lost k x n s ∙ ap (λ z. fits most lost z (suc n)) e
      ∙ ap (fits most lost y) m

  pub keep_leaf : (e : Tree) → nesting e ≡ 0 → flat e ≡ keep most e
  keep_leaf e z = sym (fits-whole most (lost_of most e) e (nesting e) (omega (arith, z)) ∙ ap (λ n. (e, n)) z)

  pub keep_binary : (o : Operator) (a b : Tree)
      → of_binary most o (keep most a) (keep most b) ≡ keep most (binary o a b)
  keep_binary o a b =
      built (λ p. binary o p.0 p.1) gap (binary o a b) (beside most (keep most a) (keep most b)) (a, b)
      (max (nesting a) (nesting b)) (nesting (binary o a b))
      (both_stand most (keep most a) a (nesting a) (keep most b) b (nesting b) (tree_stands most a)
      (tree_stands most b)) refl (omega arith)

  pub keep_index : (a : Tree) (k : Indexing) (b : Tree)
      → of_index most (keep most a) k (keep most b) ≡ keep most (index a k b)
  keep_index a k b =
      built (λ p. index p.0 k p.1) gap (index a k b) (beside most (keep most a) (keep most b)) (a, b)
      (max (nesting a) (nesting b)) (nesting (index a k b))
      (both_stand most (keep most a) a (nesting a) (keep most b) b (nesting b) (tree_stands most a)
      (tree_stands most b)) refl (omega arith)

  pub keep_conditional : (c a b : Tree)
      → of_conditional most (keep most c) (keep most a) (keep most b) ≡ keep most (conditional c a b)
  keep_conditional c a b =
      let branches = both_stand most (keep most a) a (nesting a) (keep most b) b (nesting b) (tree_stands most a)
      (tree_stands most b) in
      built (λ p. conditional p.0 p.1.0 p.1.1) gap (conditional c a b)
      (beside most (keep most c) (beside most (keep most a) (keep most b))) (c, (a, b))
      (max (nesting c) (max (nesting a) (nesting b))) (nesting (conditional c a b))
      (both_stand most (keep most c) c (nesting c) (beside most (keep most a) (keep most b)) (a, b)
      (max (nesting a) (nesting b)) (tree_stands most c) branches) refl (omega arith)

  pub keep_prefixed : (at : ℕ) (p : Prefix) (e : Tree) → of_prefix most at p (keep most e) ≡ keep most (prefixed at p e)
  keep_prefixed at p e = built (prefixed at p) gap (prefixed at p e) (keep most e) e (nesting e)
      (nesting (prefixed at p e)) (tree_stands most e) refl (omega arith)

  pub keep_not_null : (e : Tree) → of_not_null most (keep most e) ≡ keep most (not_null e)
  keep_not_null e = built not_null gap (not_null e) (keep most e) e (nesting e) (nesting (not_null e))
      (tree_stands most e) refl (omega arith)

  pub keep_access : (e : Tree) (k : Access) (n : Name) → of_access most (keep most e) k n ≡ keep most (access e k n)
  keep_access e k n = built (λ x. access x k n) gap (access e k n) (keep most e) e (nesting e)
      (nesting (access e k n)) (tree_stands most e) refl (omega arith)

  pub keep_parentheses : (at : ℕ) (e : Tree) → of_parentheses most at (keep most e) ≡ keep most (parentheses at e)
  keep_parentheses at e = built (parentheses at) gap (parentheses at e) (keep most e) e (nesting e)
      (nesting (parentheses at e)) (tree_stands most e) refl (omega arith)

  pub each-trees : (es : List Tree) → each_tree (trees es) ≡ es
  each-trees [] = refl
  each-trees (e ∷ es) = ap (λ xs. e ∷ xs) (each-trees es)

  pub each-holes : (hs : List (Tree × List ℕ)) → each_hole (holes hs) ≡ hs
  each-holes [] = refl
  each-holes (h ∷ hs) = ap (λ xs. h ∷ xs) (each-holes hs)

  pub each-members : (ms : List MemberTree) → each_member (members ms) ≡ ms
  each-members [] = refl
  each-members (m ∷ ms) = ap (λ xs. m ∷ xs) (each-members ms)

  pub each-decorators : (ds : List DecoratorTree) → each_decorator (decorators ds) ≡ ds
  each-decorators [] = refl
  each-decorators (d ∷ ds) = ap (λ xs. d ∷ xs) (each-decorators ds)

  call_of_each : (f : Function) (es : Trees) → of_call most f (keep_list most (each_tree es)) ≡ keep most (call f es)
  call_of_each f es =
      built (λ xs. call f (trees xs)) gap (call f es) (keep_list most (each_tree es)) (each_tree es) (deepest es)
      (nesting (call f es)) (list_stands most es) (ap (call f) (trees-each es)) (omega arith)

  pub keep_call : (f : Function) (es : List Tree) → of_call most f (keep_list most es) ≡ keep most (call f (trees es))
  keep_call f es = ap (λ xs. of_call most f (keep_list most xs)) (sym (each-trees es)) ∙ call_of_each f (trees es)

  array_of_each : (at : ℕ) (es : Trees) → of_items most at (keep_list most (each_tree es)) ≡ keep most (array at es)
  array_of_each at es =
      built (λ xs. array at (trees xs)) gap (array at es) (keep_list most (each_tree es)) (each_tree es) (deepest es)
      (nesting (array at es)) (list_stands most es) (ap (array at) (trees-each es)) (omega arith)

  pub keep_array : (at : ℕ) (es : List Tree) → of_items most at (keep_list most es) ≡ keep most (array at (trees es))
  keep_array at es = ap (λ xs. of_items most at (keep_list most xs)) (sym (each-trees es)) ∙ array_of_each at (trees es)

  text_of_each : (at : ℕ) (s : List ℕ) (hs : Holes)
      → of_holes most at s (keep_holes most (each_hole hs)) ≡ keep most (interpolated at s hs)
  text_of_each at s hs =
      built (λ xs. interpolated at s (holes xs)) gap (interpolated at s hs) (keep_holes most (each_hole hs))
      (each_hole hs) (deepest_hole hs) (nesting (interpolated at s hs)) (hole_list_stands most hs)
      (ap (interpolated at s) (holes-each hs)) (omega arith)

  pub keep_interpolated : (at : ℕ) (s : List ℕ) (hs : List (Tree × List ℕ))
      → of_holes most at s (keep_holes most hs) ≡ keep most (interpolated at s (holes hs))
  keep_interpolated at s hs = ap (λ xs. of_holes most at s (keep_holes most xs)) (sym (each-holes hs))
      ∙ text_of_each at s (holes hs)

  braces_of_each : (at : ℕ) (ms : MemberTrees)
      → of_members most at (keep_members most (each_member ms)) ≡ keep_object most (braces at ms)
  braces_of_each at ms =
      built (λ xs. braces at (members xs)) object_gap (braces at ms) (keep_members most (each_member ms))
      (each_member ms) (deepest_member ms) (object_nesting (braces at ms)) (member_list_stands most ms)
      (ap (braces at) (members-each ms)) (omega arith)

  pub keep_braces : (at : ℕ) (ms : List MemberTree)
      → of_members most at (keep_members most ms) ≡ keep_object most (braces at (members ms))
  keep_braces at ms = ap (λ xs. of_members most at (keep_members most xs)) (sym (each-members ms))
      ∙ braces_of_each at (members ms)

  -- an object is an expression of its depth
  pub keep_object_is : (o : ObjectTree) → of_object (keep_object most o) ≡ keep most (object o)
  unfolding fits
  keep_object_is o = by (nat_le (object_nesting o) most)
    where
      by : (b : Bool) → of_object (cond b (o, object_nesting o) (object_gap, suc most))
          ≡ cond b (object o, object_nesting o) (object object_gap, suc most)
      by true = refl
      by false = refl

  pub keep_each : (l : LoopTree) (e : Tree) → of_each most (keep_loop most l) (keep most e) ≡ keep_value most (each l e)
  keep_each l e =
      built (λ p. each p.0 p.1) value_gap (each l e) (beside most (keep_loop most l) (keep most e)) (l, e)
      (max (loop_nesting l) (nesting e)) (1 + max (loop_nesting l) (nesting e))
      (both_stand most (keep_loop most l) l (loop_nesting l) (keep most e) e (nesting e) (loop_stands most l)
      (tree_stands most e)) refl (omega arith)

  pub keep_body_each : (l : LoopTree) (o : ObjectTree)
      → of_body_each most (keep_loop most l) (keep_object most o) ≡ keep_body most (body_each l o)
  keep_body_each l o =
      built (λ p. body_each p.0 p.1) body_gap (body_each l o) (beside most (keep_loop most l) (keep_object most o))
      (l, o) (max (loop_nesting l) (object_nesting o)) (1 + max (loop_nesting l) (object_nesting o))
      (both_stand most (keep_loop most l) l (loop_nesting l) (keep_object most o) o (object_nesting o)
      (loop_stands most l) (object_stands most o)) refl (omega arith)

  pub keep_body_each_if : (l : LoopTree) (at : ℕ) (c : Tree) (o : ObjectTree)
      → of_body_each_if most (keep_loop most l) at (keep most c) (keep_object most o) ≡ keep_body most
      (body_each_if l at c o)
  keep_body_each_if l at c o =
      let inner = both_stand most (keep most c) c (nesting c) (keep_object most o) o (object_nesting o)
      (tree_stands most c) (object_stands most o) in
      built (λ p. body_each_if p.0 at p.1.0 p.1.1) body_gap (body_each_if l at c o)
      (beside most (keep_loop most l) (beside most (keep most c) (keep_object most o))) (l, (c, o))
      (max (loop_nesting l) (max (nesting c) (object_nesting o)))
      (1 + max (loop_nesting l) (max (nesting c) (object_nesting o)))
      (both_stand most (keep_loop most l) l (loop_nesting l) (beside most (keep most c) (keep_object most o)) (c, o)
      (max (nesting c) (object_nesting o)) (loop_stands most l) inner) refl (omega arith)

  -- ---- lists with one more

  pub list_put : (es : List Tree) (e : Tree) → put (keep_list most es) (keep most e) ≡ keep_list most (es ++ e ∷ [])
  list_put [] e = ap (λ n. ((keep most e).0 ∷ [], n)) (omega arith)
  list_put (x ∷ es) e =
      ap (λ n. ((keep most x).0 ∷ ((keep_list most es).0 ++ (keep most e).0 ∷ []), n)) (omega arith)
      ∙ ap (λ k. ((keep most x).0 ∷ k.0, max (keep most x).1 k.1)) (list_put es e)

  pub holes_put : (hs : List (Tree × List ℕ)) (e : Tree) (s : List ℕ)
      → put (keep_holes most hs) (((keep most e).0, s), (keep most e).1) ≡ keep_holes most (hs ++ (e, s) ∷ [])
  holes_put [] e s = ap (λ n. (((keep most e).0, s) ∷ [], n)) (omega arith)
  holes_put (h ∷ hs) e s =
      ap (λ n. (((keep most h.0).0, h.1) ∷ ((keep_holes most hs).0 ++ ((keep most e).0, s) ∷ []), n)) (omega arith)
      ∙ ap (λ k. (((keep most h.0).0, h.1) ∷ k.0, max (keep most h.0).1 k.1)) (holes_put hs e s)

  pub members_put : (ms : List MemberTree) (m : MemberTree)
      → put (keep_members most ms) (keep_member most m) ≡ keep_members most (ms ++ m ∷ [])
  members_put [] m = ap (λ n. ((keep_member most m).0 ∷ [], n)) (omega arith)
  members_put (x ∷ ms) m =
      ap (λ n. ((keep_member most x).0 ∷ ((keep_members most ms).0 ++ (keep_member most m).0 ∷ []), n)) (omega arith)
      ∙ ap (λ k. ((keep_member most x).0 ∷ k.0, max (keep_member most x).1 k.1)) (members_put ms m)

  pub decorators_put : (ds : List DecoratorTree) (d : DecoratorTree)
      → put (keep_decorators most ds) (keep_decorator most d) ≡ keep_decorators most (ds ++ d ∷ [])
  decorators_put [] d = ap (λ n. ((keep_decorator most d).0 ∷ [], n)) (omega arith)
  decorators_put (x ∷ ds) d =
      ap (λ n. ((keep_decorator most x).0 ∷ ((keep_decorators most ds).0 ++ (keep_decorator most d).0 ∷ []), n))
      (omega arith) ∙ ap (λ k. ((keep_decorator most x).0 ∷ k.0, max (keep_decorator most x).1 k.1))
      (decorators_put ds d)

  pub statements_put : (ss : FileTree) (s : StatementTree)
      → put (keep_file most ss) (keep_statement most s) ≡ keep_file most (ss ++ s ∷ [])
  statements_put [] s = ap (λ n. ((keep_statement most s).0 ∷ [], n)) (omega arith)
  statements_put (x ∷ ss) s =
      ap (λ n. ((keep_statement most x).0 ∷ ((keep_file most ss).0 ++ (keep_statement most s).0 ∷ []), n))
      (omega arith) ∙ ap (λ k. ((keep_statement most x).0 ∷ k.0, max (keep_statement most x).1 k.1))
      (statements_put ss s)
