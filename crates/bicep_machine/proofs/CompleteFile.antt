-- A file that is spelled is read.
use Rattle.std.proofs.Common.{◌≡◌, ℕ, ◌≤◌, List, [], ◌∷◌, ◌++◌, Bool, true, false, true≢false, Option, Some}
use Rattle.std.proofs.Common.{option_and_then, codes, refl, ap, sym, ◌∙◌, arith, subst, append_assoc}
use Rattle.std.specs.List.{AllByRecursion}
use Rattle.bicep_tree.specs.declared.leaf.LoopNames.TheVariants as loop_name
use Rattle.bicep_tree.specs.declared.leaf.Name.{Name}
use Rattle.bicep_tree.specs.declared.leaf.Literal.TheVariants as l
use Rattle.bicep_tree.specs.declared.leaf.TypeName.{TypeName}
use Rattle.bicep_tree.specs.declared.leaf.TypeName.TheVariants as type
use Rattle.bicep_tree.specs.declared.terminal.Terminal.{Terminal}
use Rattle.bicep_tree.specs.declared.terminal.Terminal.TheVariants as t
use Rattle.bicep_tree.specs.Tree.{Tree, ValueTree, plain, each, LoopTree, loop, DecoratorTree, decorator}
use Rattle.bicep_tree.specs.Tree.{DecoratorTrees, no_decorator, and_decorator, ResourceTree, resource, BodyTree}
use Rattle.bicep_tree.specs.Tree.{DeclarationTree, metadata, target_scope, param, param_with, var, output, a_module}
use Rattle.bicep_tree.specs.Tree.{StatementTree, statement, FileTree}
use Rattle.bicep_tree.specs.Tree as tree
use Rattle.bicep_tree.specs.Terminals.{Placed}
use Rattle.bicep_tree.specs.Forms.{is_newline, any}
use Rattle.bicep_tree.specs.Expressions.{expression, value}
use Rattle.bicep_tree.specs.Declarations.{type_word, declaration, a_statement, a_file, further_statements}
use Rattle.bicep_machine.specs.declared.word.Word.TheVariants as w
use Rattle.bicep_machine.specs.declared.word.Owner.TheVariants as owner
use Rattle.bicep_machine.specs.Kept.{Kept, flat, put, empty, of_loop, of_decorator}
use Rattle.bicep_machine.specs.Stack as s
use Rattle.bicep_machine.specs.Stack.{Decorators, header, nothing_before, Assigned, to_metadata, to_scope, to_param}
use Rattle.bicep_machine.specs.Stack.{to_var, to_output, Frame, opened, assigned, over, looped, bodied, in_file}
use Rattle.bicep_machine.specs.Stack.{State, wanted, done, item, at_sign, decorated, past_decorators, declaring}
use Rattle.bicep_machine.specs.Stack.{declared, typed, headed, between, past_statement, Next, among}
use Rattle.bicep_machine.specs.Closing.{of_statement, with_expression, named_on, over_on, each_on, bracket_on}
use Rattle.bicep_machine.specs.Closing.{colon_on, newline_on}
use Rattle.bicep_machine.specs.Machine.{word_of, type_of, word_on, type_on, ended_by, transition, run, parsed}
use Rattle.bicep_machine.proofs.Keeping.{each_tree, each_decorator, keep, keep_list, keep_value, keep_decorators}
use Rattle.bicep_machine.proofs.Keeping.{keep_declaration, keep_statement, keep_file}
use Rattle.bicep_machine.proofs.Building.{keep_each, decorators_put, statements_put}
use Rattle.bicep_machine.proofs.Running.{last, Spined, spined, spine, closes, Reads, Goes, takes_at, goes_at, goes}
use Rattle.bicep_machine.proofs.Running.{ends, rejoins}
use Rattle.bicep_machine.proofs.Complete.{complete, complete_arguments, complete_decorated, complete_body}
use Rattle.bicep_machine.proofs.Complete.{reads_function, resource_header, loop_begins}

-- ---- words

type_is : (ty : TypeName) → type_of (type_word ty) ≡ Some ty
unfolding type_of
type_is type.String = refl
type_is type.Int = refl
type_is type.Bool = refl
type_is type.Object = refl
type_is type.Array = refl

metadata_is : word_of (codes "metadata") ≡ Some w.Metadata
unfolding word_of
metadata_is = refl

scope_is : word_of (codes "targetScope") ≡ Some w.TargetScope
unfolding word_of
scope_is = refl

param_is : word_of (codes "param") ≡ Some w.Param
unfolding word_of
param_is = refl

var_is : word_of (codes "var") ≡ Some w.Var
unfolding word_of
var_is = refl

output_is : word_of (codes "output") ≡ Some w.Output
unfolding word_of
output_is = refl

resource_is : word_of (codes "resource") ≡ Some w.Resource
unfolding word_of
resource_is = refl

module_is : word_of (codes "module") ≡ Some w.Module
unfolding word_of
module_is = refl

module _ (most : ℕ) (low : 1 ≤ most) (r : Kept FileTree) where
  abbrev Read : State → Bool → List Frame → List Placed → Type 0
  Read = Reads most r

  abbrev Go : Next → List Placed → Type 0
  Go = Goes most r

  -- an expression in its place is a statement
  as_statement : (e : Tree) (ds : Decorators) (d : Assigned) (ss : Kept FileTree) (S : List Frame) (ts : List Placed)
      → Spined e → Read (past_statement (of_statement ds (with_expression d (keep most e)))) false (in_file ss ∷ S) ts
      → Read (done (keep most (last e))) false (spine most e (assigned ds d ∷ in_file ss ∷ S)) ts
  as_statement e ds d ss S [] sp h =
      ap (ended_by most) (closes most e 0 (assigned ds d ∷ in_file ss ∷ S) sp (omega arith)) ∙ h
  as_statement e ds d ss S ((at, t.Newline) ∷ ts) sp h =
      rejoins most r (keep most (last e)) (spine most e (assigned ds d ∷ in_file ss ∷ S)) (
        between,
        false,
        in_file (put ss (of_statement ds (with_expression d (keep most e)))) ∷ S,
      ) ts tt
      (ap (newline_on most) (closes most e 0 (assigned ds d ∷ in_file ss ∷ S) sp (omega arith))) h
  as_statement e ds d ss S ((at, y) ∷ ts) sp h = absurd cc

  -- a parameter without a default is one
  as_param : (ds : Decorators) (o : ℕ) (n : Name) (ty : TypeName) (S : List Frame) (ts : List Placed)
      → Read (past_statement (of_statement ds (flat (param o n ty)))) false S ts
      → Read (typed ds o w.Param n ty) false S ts
  as_param ds o n ty S [] h = h
  as_param ds o n ty S ((at, t.Newline) ∷ ts) h = h
  as_param ds o n ty S ((at, y) ∷ ts) h = absurd cc

  -- an expression after `=`
  assigns : (e : Tree) (ds : Decorators) (d : Assigned) (ss : Kept FileTree) (S : List Frame) (ts ks : List Placed)
      → expression false e ts ks
      → Read (past_statement (of_statement ds (with_expression d (keep most e)))) false (in_file ss ∷ S) ks
      → Read (wanted false) false (assigned ds d ∷ in_file ss ∷ S) ts
  assigns e ds d ss S ts ks h goal =
      complete most low r e (wanted false) false (assigned ds d ∷ in_file ss ∷ S) ts ks tt tt h
      (as_statement e ds d ss S ks (spined e false ts ks h) goal)

  -- a for-expression after `=`
  assigns_each : (o : ℕ) (ns : _) (e1 e2 : Tree) (ds : Decorators) (d : Assigned) (U : List Frame) (n : Next)
      (ts ks : List Placed)
      → ((o : ℕ) (x : Name)
      → named_on o false x (assigned ds d ∷ U) ≡ Some (among o (loop_name.Item x), false, assigned ds d ∷ U))
      → ((o : ℕ) (ns : _)
      → over_on o ns (assigned ds d ∷ U) ≡ Some (wanted false, false, over o ns ∷ assigned ds d ∷ U))
      → each_on (keep_value most (each (loop o ns e1) e2)) (assigned ds d ∷ U) ≡ n
      → value (each (loop o ns e1) e2) ts ks → Go n ks → Read (wanted false) false (assigned ds d ∷ U) ts
  assigns_each o ns e1 e2 ds d U n ts ks placed may is
      (m3, (k1, op, (k2, fo, (k3, names, (k4, within, (k5, inner, colon))))), (m4, each_one, cl)) goal =
      goes_at most r (wanted false) (assigned ds d ∷ U) o t.OpenBracket ts k1
      (Some (item, false, opened o false ∷ assigned ds d ∷ U)) op refl
      (goes_at most r item (opened o false ∷ assigned ds d ∷ U) fo.0 (t.Name (codes "for")) k1 k2
      (Some (s.named (record { at = fo.0; text = codes "for" }), false, opened o false ∷ assigned ds d ∷ U)) fo.1
      refl
      (loop_begins most low r ns o fo.0 (assigned ds d ∷ U) k2 k4 (placed o) (k3, names, within)
      (ap (λ q. option_and_then (λ p. run most p.0 p.1 p.2 k4) q) (may o ns)
      ∙ complete most low r e1 (wanted false) false (over o ns ∷ assigned ds d ∷ U) k4 k5 tt tt inner
      (ends most r e1 false (over o ns ∷ assigned ds d ∷ U) t.Colon k5 m3 (colon_on most false)
      (spined e1 false k4 k5 inner) (k5, ([], tt, refl), colon) refl (λ k V x. refl)
      (complete most low r e2 (wanted false) false (looped (of_loop o ns (keep most e1)) ∷ assigned ds d ∷ U) m3 m4 tt
      tt each_one
      (ends most r e2 false (looped (of_loop o ns (keep most e1)) ∷ assigned ds d ∷ U) t.CloseBracket m4 ks
      (bracket_on most false) (spined e2 false m3 m4 each_one) (m4, ([], tt, refl), cl) refl (λ k V x. refl)
      (ap (λ v. option_and_then (λ p. run most p.0 p.1 p.2 ks) (each_on v (assigned ds d ∷ U)))
      (keep_each most (loop o ns e1) e2) ∙ ap (λ q. option_and_then (λ p. run most p.0 p.1 p.2 ks) q) is
      ∙ goal)))))))

  -- a declaration, from where its word may stand
  complete_declaration : (d : DeclarationTree) (X : State) (K : Decorators) (ss : Kept FileTree) (S : List Frame)
      (ts ks : List Placed)
      → ((at : ℕ) (u : List ℕ) → transition most X false (in_file ss ∷ S) at (t.Name u) ≡ word_on K at (word_of u)
      (in_file ss ∷ S)) → declaration d ts ks
      → Read (past_statement (of_statement K (keep_declaration most d))) false (in_file ss ∷ S) ks
      → Read X false (in_file ss ∷ S) ts
  complete_declaration (metadata o n e) X K ss S ts ks from (m1, wd, (m2, nm, (m3, asg, inner))) goal =
      let U = in_file ss ∷ S in
      goes_at most r X U o (t.Name (codes "metadata")) ts m1 (Some (declaring K o w.Metadata, false, U)) wd
      (from o (codes "metadata") ∙ ap (λ x. word_on K o x U) metadata_is)
      (takes_at most r (declaring K o w.Metadata) false U n.at (t.Name n.text) m1 m2
      (Some (declared K o w.Metadata n, false, U)) nm refl refl
      (goes most r (declared K o w.Metadata n) U t.Assign m2 m3
      (Some (wanted false, false, assigned K (to_metadata o n) ∷ U)) asg (λ y. refl)
      (assigns e K (to_metadata o n) ss S m3 ks inner goal)))
  complete_declaration (target_scope o e) X K ss S ts ks from (m1, wd, (m2, asg, inner)) goal =
      let U = in_file ss ∷ S in
      goes_at most r X U o (t.Name (codes "targetScope")) ts m1 (Some (declaring K o w.TargetScope, false, U)) wd
      (from o (codes "targetScope") ∙ ap (λ x. word_on K o x U) scope_is)
      (goes most r (declaring K o w.TargetScope) U t.Assign m1 m2
      (Some (wanted false, false, assigned K (to_scope o) ∷ U)) asg (λ y. refl)
      (assigns e K (to_scope o) ss S m2 ks inner goal))
  complete_declaration (param o n ty) X K ss S ts ks from (m1, wd, (m2, nm, kind)) goal =
      let U = in_file ss ∷ S in
      goes_at most r X U o (t.Name (codes "param")) ts m1 (Some (declaring K o w.Param, false, U)) wd
      (from o (codes "param") ∙ ap (λ x. word_on K o x U) param_is)
      (takes_at most r (declaring K o w.Param) false U n.at (t.Name n.text) m1 m2
      (Some (declared K o w.Param n, false, U)) nm refl refl
      (goes most r (declared K o w.Param n) U (t.Name (type_word ty)) m2 ks (Some (typed K o w.Param n ty, false, U))
      kind (λ y. ap (λ x. type_on K o w.Param n x U) (type_is ty)) (as_param K o n ty U ks goal)))
  complete_declaration (param_with o n ty e) X K ss S ts ks from (m1, wd, (m2, nm, (m3, kind, (m4, asg, inner)))) goal =
      let U = in_file ss ∷ S in
      goes_at most r X U o (t.Name (codes "param")) ts m1 (Some (declaring K o w.Param, false, U)) wd
      (from o (codes "param") ∙ ap (λ x. word_on K o x U) param_is)
      (takes_at most r (declaring K o w.Param) false U n.at (t.Name n.text) m1 m2
      (Some (declared K o w.Param n, false, U)) nm refl refl
      (goes most r (declared K o w.Param n) U (t.Name (type_word ty)) m2 m3 (Some (typed K o w.Param n ty, false, U))
      kind (λ y. ap (λ x. type_on K o w.Param n x U) (type_is ty))
      (goes most r (typed K o w.Param n ty) U t.Assign m3 m4
      (Some (wanted false, false, assigned K (to_param o n ty) ∷ U)) asg (λ y. refl)
      (assigns e K (to_param o n ty) ss S m4 ks inner goal))))
  complete_declaration (var o n (plain e)) X K ss S ts ks from (m1, wd, (m2, nm, (m3, asg, inner))) goal =
      let U = in_file ss ∷ S in
      goes_at most r X U o (t.Name (codes "var")) ts m1 (Some (declaring K o w.Var, false, U)) wd
      (from o (codes "var") ∙ ap (λ x. word_on K o x U) var_is)
      (takes_at most r (declaring K o w.Var) false U n.at (t.Name n.text) m1 m2
      (Some (declared K o w.Var n, false, U)) nm refl refl
      (goes most r (declared K o w.Var n) U t.Assign m2 m3 (Some (wanted false, false, assigned K (to_var o n) ∷ U))
      asg (λ y. refl) (assigns e K (to_var o n) ss S m3 ks inner goal)))
  complete_declaration (var o n (each (loop p ns e1) e2)) X K ss S ts ks from (m1, wd, (m2, nm, (m3, asg, inner)))
      goal =
      let U = in_file ss ∷ S in
      goes_at most r X U o (t.Name (codes "var")) ts m1 (Some (declaring K o w.Var, false, U)) wd
      (from o (codes "var") ∙ ap (λ x. word_on K o x U) var_is)
      (takes_at most r (declaring K o w.Var) false U n.at (t.Name n.text) m1 m2
      (Some (declared K o w.Var n, false, U)) nm refl refl
      (goes most r (declared K o w.Var n) U t.Assign m2 m3 (Some (wanted false, false, assigned K (to_var o n) ∷ U))
      asg (λ y. refl)
      (assigns_each p ns e1 e2 K (to_var o n) U
      (Some (past_statement (of_statement K (keep_declaration most (var o n (each (loop p ns e1) e2)))), false, U)) m3
      ks
      (λ a b. refl) (λ a b. refl) refl inner goal)))
  complete_declaration (output o n ty (plain e)) X K ss S ts ks from (m1, wd, (m2, nm, (m3, kind, (m4, asg, inner))))
      goal =
      let U = in_file ss ∷ S in
      goes_at most r X U o (t.Name (codes "output")) ts m1 (Some (declaring K o w.Output, false, U)) wd
      (from o (codes "output") ∙ ap (λ x. word_on K o x U) output_is)
      (takes_at most r (declaring K o w.Output) false U n.at (t.Name n.text) m1 m2
      (Some (declared K o w.Output n, false, U)) nm refl refl
      (goes most r (declared K o w.Output n) U (t.Name (type_word ty)) m2 m3
      (Some (typed K o w.Output n ty, false, U)) kind (λ y. ap (λ x. type_on K o w.Output n x U) (type_is ty))
      (goes most r (typed K o w.Output n ty) U t.Assign m3 m4
      (Some (wanted false, false, assigned K (to_output o n ty) ∷ U)) asg (λ y. refl)
      (assigns e K (to_output o n ty) ss S m4 ks inner goal))))
  complete_declaration (output o n ty (each (loop p ns e1) e2)) X K ss S ts ks from (
    m1,
    wd,
    (m2, nm, (m3, kind, (m4, asg, inner))),
  ) goal =
      let U = in_file ss ∷ S in
      goes_at most r X U o (t.Name (codes "output")) ts m1 (Some (declaring K o w.Output, false, U)) wd
      (from o (codes "output") ∙ ap (λ x. word_on K o x U) output_is)
      (takes_at most r (declaring K o w.Output) false U n.at (t.Name n.text) m1 m2
      (Some (declared K o w.Output n, false, U)) nm refl refl
      (goes most r (declared K o w.Output n) U (t.Name (type_word ty)) m2 m3
      (Some (typed K o w.Output n ty, false, U)) kind (λ y. ap (λ x. type_on K o w.Output n x U) (type_is ty))
      (goes most r (typed K o w.Output n ty) U t.Assign m3 m4
      (Some (wanted false, false, assigned K (to_output o n ty) ∷ U)) asg (λ y. refl)
      (assigns_each p ns e1 e2 K (to_output o n ty) U
      (Some (
        past_statement (of_statement K (keep_declaration most (output o n ty (each (loop p ns e1) e2)))),
        false,
        U,
      ))
      m4 ks (λ a b. refl) (λ a b. refl) refl inner goal))))
  complete_declaration (tree.a_resource (resource o n q x b)) X K ss S ts ks from (
    m1,
    wd,
    (m2, nm, (m3, qu, (m4, ex, (m5, asg, bd)))),
  ) goal =
      let U = in_file ss ∷ S in
      goes_at most r X U o (t.Name (codes "resource")) ts m1 (Some (declaring K o w.Resource, false, U)) wd
      (from o (codes "resource") ∙ ap (λ x. word_on K o x U) resource_is)
      (takes_at most r (declaring K o w.Resource) false U n.at (t.Name n.text) m1 m2
      (Some (declared K o w.Resource n, false, U)) nm refl refl
      (resource_header most low r K o n q x U m2 m5 (m3, qu, (m4, ex, asg))
      (complete_body most low r b (header K o (owner.Resource x) n q) U m5 ks bd goal)))
  complete_declaration (a_module o n q b) X K ss S ts ks from (m1, wd, (m2, nm, (m3, qu, (m4, asg, bd)))) goal =
      let U = in_file ss ∷ S in
      goes_at most r X U o (t.Name (codes "module")) ts m1 (Some (declaring K o w.Module, false, U)) wd
      (from o (codes "module") ∙ ap (λ x. word_on K o x U) module_is)
      (takes_at most r (declaring K o w.Module) false U n.at (t.Name n.text) m1 m2
      (Some (declared K o w.Module n, false, U)) nm refl refl
      (goes_at most r (declared K o w.Module n) U q.at (t.Literal (l.Text q.text)) m2 m3
      (Some (headed (header K o owner.Module n q), false, U)) qu refl
      (goes most r (headed (header K o owner.Module n q)) U t.Assign m3 m4
      (Some (s.body, false, bodied (header K o owner.Module n q) nothing_before ∷ U)) asg (λ y. refl)
      (complete_body most low r b (header K o owner.Module n q) U m4 ks bd goal))))

  complete_statement : (st : StatementTree) (ss : Kept FileTree) (S : List Frame) (ts ks : List Placed)
      → a_statement st ts ks → Read (past_statement (keep_statement most st)) false (in_file ss ∷ S) ks
      → Read between false (in_file ss ∷ S) ts
  complete_statement (statement no_decorator d) ss S ts ks (m, nothing, dec) goal =
      ap (run most between false (in_file ss ∷ S)) nothing
      ∙ complete_declaration d between empty ss S m ks (λ a u. refl) dec goal
  complete_statement (statement (and_decorator (decorator p f2 es) ds) d) ss S ts ks
      (m, (k1, (j1, sg, (j2, fn, (j3, op, args))), (k2, nl, decs)), dec) goal =
      let U = in_file ss ∷ S in
      goes_at most r between U p t.At ts j1 (Some (at_sign empty p, false, U)) sg refl
      (reads_function most low r f2 empty p U j1 j3 (j2, fn, op)
      (complete_arguments most low r es (s.decorating empty p f2) false U j3 k1 args
      (goes most r (decorated (put empty (of_decorator p f2 (keep_list most (each_tree es))))) U t.Newline k1 k2
      (Some (past_decorators (put empty (of_decorator p f2 (keep_list most (each_tree es)))), false, U)) nl
      (λ y. refl)
      (subst (λ k. Read (past_decorators k) false U k2) (sym (decorators_put most [] (decorator p f2 es)))
      (complete_decorated most low r ds (decorator p f2 es ∷ []) U k2 m decs
      (complete_declaration d (past_decorators (keep_decorators most (decorator p f2 es ∷ each_decorator ds)))
      (keep_decorators most (decorator p f2 es ∷ each_decorator ds)) ss S m ks (λ a u. refl) dec goal))))))

  -- newlines between statements
  lines_passed : (U : List Frame) (passed m : List Placed) → AllByRecursion (λ t. is_newline t.1 ≡ true) passed
      → Read between false U m → Read between false U (passed ++ m)
  lines_passed U [] m all h = h
  lines_passed U ((at, t.Newline) ∷ passed) m all h = lines_passed U passed m all.1 h
  lines_passed U ((at, y) ∷ passed) m all h = absurd (true≢false (sym all.0))

  skips_lines : (U : List Frame) (ts m : List Placed) → any is_newline ts m → Read between false U m
      → Read between false U ts
  skips_lines U ts m k h = ap (run most between false U) k.2 ∙ lines_passed U k.0 m k.1 h

  -- a newline after a statement
  after_line : (k : Kept StatementTree) (ss : Kept FileTree) (S : List Frame) (at : ℕ) (y : Terminal)
      (m : List Placed) → is_newline y ≡ true → Read between false (in_file (put ss k) ∷ S) m
      → Read (past_statement k) false (in_file ss ∷ S) ((at, y) ∷ m)
  after_line k ss S at t.Newline m is h = h
  after_line k ss S at y m is h = absurd (true≢false (sym is))

  complete_further : (fs : FileTree) (st : StatementTree) (before : FileTree) (ts : List Placed)
      → further_statements fs ts [] → keep_file most (before ++ st ∷ fs) ≡ r
      → Read (past_statement (keep_statement most st)) false (in_file (keep_file most before) ∷ []) ts
  complete_further [] st before ts (passed, all, is) e =
      ap (run most (past_statement (keep_statement most st)) false (in_file (keep_file most before) ∷ [])) is
      ∙ by passed all
    where
      filed : ◌≡◌ {A = Option (Kept FileTree)} (Some (put (keep_file most before) (keep_statement most st))) (Some r)
      filed = ap Some (statements_put most before st ∙ e)

      by : (passed : List Placed) → AllByRecursion (λ t. is_newline t.1 ≡ true) passed
          → Read (past_statement (keep_statement most st)) false (in_file (keep_file most before) ∷ []) (passed ++ [])
      by [] all = filed
      by ((at, y) ∷ passed) all = after_line (keep_statement most st) (keep_file most before) [] at y (passed ++ [])
          all.0 (lines_passed (in_file (put (keep_file most before) (keep_statement most st)) ∷ []) passed [] all.1
          filed)
  complete_further (s2 ∷ fs) st before ts (m1, (at, y, is, line), (m2, lines, (m3, one_more, rest))) e =
      ap (run most (past_statement (keep_statement most st)) false (in_file (keep_file most before) ∷ [])) is
      ∙ after_line (keep_statement most st) (keep_file most before) [] at y m1 line
      (subst (λ k. Read between false (in_file k ∷ []) m1) (sym (statements_put most before st))
      (skips_lines (in_file (keep_file most (before ++ st ∷ [])) ∷ []) m1 m2 lines
      (complete_statement s2 (keep_file most (before ++ st ∷ [])) [] m2 m3 one_more
      (complete_further fs s2 (before ++ st ∷ []) m3 rest
      (ap (keep_file most) (append_assoc before (st ∷ []) (s2 ∷ fs)) ∙ e)))))

  complete_file : (f : FileTree) (ts : List Placed) → a_file f ts [] → keep_file most f ≡ r
      → Read between false (in_file empty ∷ []) ts
  complete_file [] ts lines e = skips_lines (in_file empty ∷ []) ts [] lines (ap Some e)
  complete_file (st ∷ fs) ts (m1, lines, (m2, first_one, rest)) e =
      skips_lines (in_file empty ∷ []) ts m1 lines
      (complete_statement st empty [] m1 m2 first_one (complete_further fs st [] m2 rest e))

-- a file that the tokens spell is what is kept of it
pub parsed_complete : (most : ℕ) → 1 ≤ most → (f : FileTree) (ts : List Placed) → a_file f ts []
    → parsed most ts ≡ Some (keep_file most f)
parsed_complete most low f ts h = complete_file most low (keep_file most f) f ts h refl
