-- Where an expression ends, what was read goes into what is open.
use Rattle.std.proofs.Common.{◌≡◌, ℕ, ◌<◌, ◌≤◌, max, nat_le, List, [], ◌∷◌, ◌++◌, Bool, true, false, true≢false, Some}
use Rattle.std.proofs.Common.{cond, codes, bytes_eq, refl, ap, sym, ◌∙◌, arith, subst}
use Rattle.std.specs.List.{AllByRecursion}
use Rattle.std.proofs.lemmas.Bool.Decides.{nat_tests}
use Rattle.std.proofs.lemmas.Slice.Eq.{bytes_eq-Decides}
use Rattle.bicep_tree.specs.declared.leaf.LoopNames.{LoopNames}
use Rattle.bicep_tree.specs.declared.leaf.Function.{Function}
use Rattle.bicep_tree.specs.declared.terminal.Terminal.{Terminal}
use Rattle.bicep_tree.specs.declared.terminal.Terminal.TheVariants as t
use Rattle.bicep_tree.specs.Tree.{Tree, name, object, array, interpolated, parentheses, call, index, prefixed, binary}
use Rattle.bicep_tree.specs.Tree.{conditional, Trees, none, more, ObjectTree, braces, MemberTree, property, child}
use Rattle.bicep_tree.specs.Tree.{ValueTree, plain, each, LoopTree, loop, DecoratorTree, decorator, BodyTree}
use Rattle.bicep_tree.specs.Tree.{body_plain, body_if, body_each, body_each_if, DeclarationTree, metadata}
use Rattle.bicep_tree.specs.Tree.{target_scope, param, param_with, var, output, a_module, StatementTree, statement}
use Rattle.bicep_tree.specs.Tree.{FileTree, trees, holes, members, decorators, resource}
use Rattle.bicep_tree.specs.Tree as tree
use Rattle.bicep_tree.specs.Precedence.{level, rank}
use Rattle.bicep_tree.specs.Terminals.{Placed}
use Rattle.bicep_tree.specs.Forms.{Form, ◌▹◌, is_newline, is_separator, one, any, skipped, sign_at, sign, token_at}
use Rattle.bicep_tree.specs.Forms.{token, named, word, function}
use Rattle.bicep_tree.specs.Forms as form
use Rattle.bicep_tree.specs.Expressions.{expression, under, arguments, an_object, a_member, value}
use Rattle.bicep_tree.specs.Expressions as grammar
use Rattle.bicep_tree.specs.Declarations.{declaration, a_statement}
use Rattle.bicep_machine.specs.declared.word.Owner.TheVariants as owner
use Rattle.bicep_machine.specs.Kept.{Kept, put, empty, of_holes, of_members, of_items, of_parentheses, of_call}
use Rattle.bicep_machine.specs.Kept.{of_index, of_prefix, of_binary, of_conditional, of_each, of_body_each}
use Rattle.bicep_machine.specs.Kept.{of_body_each_if, of_object, of_plain, of_property, of_loop, of_decorator}
use Rattle.bicep_machine.specs.Kept.{of_body_plain, of_body_if, of_hole}
use Rattle.bicep_machine.specs.Stack as s
use Rattle.bicep_machine.specs.Stack.{Decorators, Callee, Header, header, Front, nothing_before, a_condition}
use Rattle.bicep_machine.specs.Stack.{loop_and_condition, Assigned, to_metadata, to_scope, to_param, to_var}
use Rattle.bicep_machine.specs.Stack.{to_output, Frame, grouping, calling, indexing, opened, in_array, in_object}
use Rattle.bicep_machine.specs.Stack.{in_text, prefixing, left, asked, chosen, valued, assigned, over, body_over}
use Rattle.bicep_machine.specs.Stack.{in_names, looped, in_condition, bodied, in_file, State, wanted, done, item}
use Rattle.bicep_machine.specs.Stack.{member, past_member, among, looped_body, guarded, body_end, decorated, between}
use Rattle.bicep_machine.specs.Stack.{past_statement, Next}
use Rattle.bicep_machine.specs.Closing.{Closed, of_statement, with_expression, filed, member_put, body_on, each_on}
use Rattle.bicep_machine.specs.Closing.{over_on, with_condition, guarded_by, closed, fronted, object_on}
use Rattle.bicep_machine.specs.Closing.{members_closed, member_closed, items_closed, called, call_closed, paren_on}
use Rattle.bicep_machine.specs.Closing.{bracket_on, comma_on, brace_on, colon_on, late_colon_on, middle_on, right_on}
use Rattle.bicep_machine.specs.Closing.{newline_on}
use Rattle.bicep_machine.proofs.Keeping.{keep, keep_object, keep_list, keep_holes, keep_loop, keep_value}
use Rattle.bicep_machine.proofs.Keeping.{keep_decorators, keep_body, keep_declaration, keep_member, keep_members}
use Rattle.bicep_machine.proofs.Keeping.{keep_statement, keep_file}
use Rattle.bicep_machine.proofs.Building.{keep_binary, keep_index, keep_conditional, keep_prefixed, keep_parentheses}
use Rattle.bicep_machine.proofs.Building.{keep_call, keep_array, keep_interpolated, keep_braces, keep_object_is}
use Rattle.bicep_machine.proofs.Building.{keep_each, keep_body_each, keep_body_each_if, list_put, holes_put}
use Rattle.bicep_machine.proofs.Building.{members_put, decorators_put, statements_put, each-trees, each-decorators}
use Rattle.bicep_machine.proofs.Running.{level_bounds}
use Rattle.bicep_machine.proofs.Reading.{ItemsRead, ArgumentsRead, some_one, not_skipped, plain_token, parts_put}
use Rattle.bicep_machine.proofs.Reading.{parts_last, parts_end, whole_items, whole_members, arguments_put}
use Rattle.bicep_machine.proofs.Reading.{arguments_last, holes_more, holes_last}
use Rattle.bicep_machine.proofs.ReadSoFar.{flag, Takes, IsObject, assigned_form, Decorated, front_form, Headed, Open}
use Rattle.bicep_machine.proofs.ReadSoFar.{IsFirst, Holds}
use Rattle.foundation.proofs.Comparisons.{lt_of_false, le_of_true}

pub takes_high : (S : List Frame) (n : ℕ) → 8 ≤ n → Takes S n
takes_high [] n h = tt
takes_high (prefixing at p ∷ S) n h = h
takes_high (left o e ∷ S) n h = omega (arith, (level_bounds o).1)
takes_high (F ∷ S) n h = tt

pub takes_least : (S : List Frame) → Takes S 1 → Takes S 0
takes_least [] h = tt
takes_least (prefixing at p ∷ S) h = absurd (omega arith)
takes_least (left o e ∷ S) h = absurd (omega (arith, (level_bounds o).0))
takes_least (F ∷ S) h = tt

pub to_token : (i : Bool) (at : ℕ) (y : Terminal) (a b : List Placed) → token_at i at y a b → token i y a b
to_token i at y a b h = (h.0, h.1, (at, h.2))

pub plain_sign : (y : Terminal) (a b : List Placed) → token false y a b → sign y a b
plain_sign y a b h = (h.2.0, not_skipped a h.0 h.1 ∙ h.2.1)

-- an expression that ended as far as the next token asks
pub record Ended (most : ℕ) (n : ℕ) (i : Bool) (all m : List Placed) (p : Closed) : Type 0 where
  pub whole : Tree
  pub is : p.0 ≡ keep most whole
  pub least : n ≤ rank whole
  pub stopped : Takes p.1 n
  pub same : i ≡ flag p.1
  pub from : List Placed
  pub before : Open most p.1 all from
  pub text : expression (flag p.1) whole from m

by_cond : (P : Closed → Type 0) (b : Bool) (x y : Closed) → (b ≡ true → P x) → (b ≡ false → P y) → P (cond b x y)
by_cond P true x y g h = g refl
by_cond P false x y g h = h refl

module _ (most : ℕ) where
  plain_end : (S : List Frame) (n : ℕ) (k : Kept Tree) (e : Tree) (i : Bool) (all m1 m : List Placed)
      → k ≡ keep most e → i ≡ flag S → n ≤ rank e → Takes S n → Open most S all m1 → expression (flag S) e m1 m
      → Ended most n i all m (k, S)
  plain_end S n k e i all m1 m is same le tk op ex =
      record { whole = e; is = is; least = le; stopped = tk; same = same; from = m1; before = op; text = ex }

  pub ended : (S : List Frame) (n : ℕ) (k : Kept Tree) (e : Tree) (i : Bool) (all m1 m : List Placed) → n ≤ 7
      → k ≡ keep most e → i ≡ flag S → n ≤ rank e → Takes S (rank e) → Open most S all m1 → expression (flag S) e m1 m
      → Ended most n i all m (closed most n k S)
  ended [] n k e i all m1 m high is same le tk op ex = absurd op
  ended (prefixing at p ∷ S) n k e i all m1 m high is same le tk (m0, op, tok) ex =
      ended S n (of_prefix most at p k) (prefixed at p e) i all m0 m high (ap (of_prefix most at p) is
      ∙ keep_prefixed most at p e) same (omega arith) (takes_high S 8 (omega arith)) op (tk, (m1, tok, ex))
  ended (left o j ∷ S) n k e i all m1 m high is same le tk (b, js, lv, ts, (m0, op, (m2, l1, (m3, tok, sk)))) ex =
      by_cond (Ended most n i all m) (nat_le n (level o)) (closed most n (of_binary most o j k) S) (k, left o j ∷ S)
      (λ y. ended S n (of_binary most o j k) (binary o b e) i all m0 m high (ap (λ x. of_binary most o x k) js
      ∙ ap (of_binary most o (keep most b)) is ∙ keep_binary most o b e) same (le_of_true n (level o) y) ts op
      ((lv, tk), (m2, l1, (m3, tok, (m1, sk, ex)))))
      (λ y. plain_end (left o j ∷ S) n k e i all m1 m is same le (lt_of_false n (level o) y) (
        b,
        js,
        lv,
        ts,
        (m0, op, (m2, l1, (m3, tok, sk))),
      ) ex)
  ended (chosen kc kb ∷ S) n k e i all m1 m high is same le tk (
    c,
    b,
    cs,
    bs,
    oc,
    ts,
    (m0, op, (m2, l1, (m3, qu, (m4, s1, (m5, l2, (m6, co, s2)))))),
  ) ex =
      by_cond (Ended most n i all m) (nat_le n 0) (closed most n (of_conditional most kc kb k) S) (k, chosen kc kb ∷ S)
      (λ y. ended S n (of_conditional most kc kb k) (conditional c b e) i all m0 m high
      (ap (λ x. of_conditional most x kb k) cs ∙ ap (λ x. of_conditional most (keep most c) x k) bs
      ∙ ap (of_conditional most (keep most c) (keep most b)) is ∙ keep_conditional most c b e) same
      (le_of_true n 0 y) ts op (oc, (m2, l1, (m3, qu, (m4, s1, (m5, l2, (m6, co, (m1, s2, ex))))))))
      (λ y. plain_end (chosen kc kb ∷ S) n k e i all m1 m is same le tt (
        c,
        b,
        cs,
        bs,
        oc,
        ts,
        (m0, op, (m2, l1, (m3, qu, (m4, s1, (m5, l2, (m6, co, s2)))))),
      ) ex)
  ended (grouping at was ∷ S) n k e i all m1 m high is same le tk op ex =
      plain_end (grouping at was ∷ S) n k e i all m1 m is same le tt op ex
  ended (calling c was es ∷ S) n k e i all m1 m high is same le tk op ex =
      plain_end (calling c was es ∷ S) n k e i all m1 m is same le tt op ex
  ended (indexing x y ∷ S) n k e i all m1 m high is same le tk op ex =
      plain_end (indexing x y ∷ S) n k e i all m1 m is same le tt op ex
  ended (opened at was ∷ S) n k e i all m1 m high is same le tk op ex =
      plain_end (opened at was ∷ S) n k e i all m1 m is same le tt op ex
  ended (in_array at was es ∷ S) n k e i all m1 m high is same le tk op ex =
      plain_end (in_array at was es ∷ S) n k e i all m1 m is same le tt op ex
  ended (in_object at was ms ∷ S) n k e i all m1 m high is same le tk op ex =
      plain_end (in_object at was ms ∷ S) n k e i all m1 m is same le tt op ex
  ended (in_text at u hs ∷ S) n k e i all m1 m high is same le tk op ex =
      plain_end (in_text at u hs ∷ S) n k e i all m1 m is same le tt op ex
  ended (asked c ∷ S) n k e i all m1 m high is same le tk op ex =
      plain_end (asked c ∷ S) n k e i all m1 m is same le tt op ex
  ended (valued l ∷ S) n k e i all m1 m high is same le tk op ex =
      plain_end (valued l ∷ S) n k e i all m1 m is same le tt op ex
  ended (assigned ds d ∷ S) n k e i all m1 m high is same le tk op ex =
      plain_end (assigned ds d ∷ S) n k e i all m1 m is same le tt op ex
  ended (over at ns ∷ S) n k e i all m1 m high is same le tk op ex =
      plain_end (over at ns ∷ S) n k e i all m1 m is same le tt op ex
  ended (body_over at ns h ∷ S) n k e i all m1 m high is same le tk op ex =
      plain_end (body_over at ns h ∷ S) n k e i all m1 m is same le tt op ex
  ended (in_names at ∷ S) n k e i all m1 m high is same le tk op ex =
      plain_end (in_names at ∷ S) n k e i all m1 m is same le tt op ex
  ended (looped l ∷ S) n k e i all m1 m high is same le tk op ex =
      plain_end (looped l ∷ S) n k e i all m1 m is same le tt op ex
  ended (in_condition at h g ∷ S) n k e i all m1 m high is same le tk op ex =
      plain_end (in_condition at h g ∷ S) n k e i all m1 m is same le tt op ex
  ended (bodied h g ∷ S) n k e i all m1 m high is same le tk op ex =
      plain_end (bodied h g ∷ S) n k e i all m1 m is same le tt op ex
  ended (in_file ss ∷ S) n k e i all m1 m high is same le tk op ex =
      plain_end (in_file ss ∷ S) n k e i all m1 m is same le tt op ex

  -- ---- what ends goes into its place

  pub object_flag : (S : List Frame) → IsObject S → false ≡ flag S
  object_flag [] h = absurd h
  object_flag (in_object at was ms ∷ S) h = refl
  object_flag (F ∷ S) h = absurd h

  -- a statement is kept with its decorators
  pub statement_kept : (ds : Decorators) (dts : List DecoratorTree) (j : Kept DeclarationTree) (d : DeclarationTree)
      → ds ≡ keep_decorators most dts → j ≡ keep_declaration most d
      → of_statement ds j ≡ keep_statement most (statement (decorators dts) d)
  statement_kept ds dts j d e g = ap (λ x. of_statement x j) e ∙ ap (of_statement (keep_decorators most dts)) g
      ∙ ap (λ x. of_statement (keep_decorators most x) (keep_declaration most d)) (sym (each-decorators most dts))

  -- a body is in its declaration
  pub body_stands : (h : Header) (S : List Frame) (j : Kept BodyTree) (b : BodyTree) (all m0 m : List Placed)
      → j ≡ keep_body most b → Headed most S (Open most S all) h (sign t.Assign) m0 → grammar.body b m0 m
      → Holds most (body_on h j S) all m
  body_stands (header ds at (owner.Resource x) n q) S j b all m0 m is (
    place,
    (m1, (fl, dts, m2, dsk, op, decs), (x1, wd, (x2, nm, (x3, qu, (x4, ex, asg))))),
  ) bd = (
    sym fl,
    (
      statement (decorators dts) (tree.a_resource (resource at n q x b)),
      statement_kept ds dts (tree.a_resource (resource at n q x j.0), j.1) (tree.a_resource (resource at n q x b))
          dsk (ap (λ k. (tree.a_resource (resource at n q x k.0), k.1)) is),
      (m2, op, (m1, decs, (x1, wd, (x2, nm, (x3, qu, (x4, ex, (m0, asg, bd))))))),
    ),
  )
  body_stands (header ds at (owner.Child x) n q) S j b all m0 m is (
    place,
    (m1, (fl, dts, m2, dsk, op, decs), (x1, wd, (x2, nm, (x3, qu, (x4, ex, asg))))),
  ) bd = (
    sym fl,
    (
      place,
      child (decorators dts) (resource at n q x b),
      ap (λ y. (child (decorators y.0) (resource at n q x j.0), max y.1 j.1)) dsk
          ∙ ap (λ y. (
            child (decorators (keep_decorators most dts).0) (resource at n q x y.0),
            max (keep_decorators most dts).1 y.1,
          )) is
          ∙ ap (λ y. (
            child (decorators (keep_decorators most y).0) (resource at n q x (keep_body most b).0),
            max (keep_decorators most y).1 (keep_body most b).1,
          )) (sym (each-decorators most dts)),
      (m2, op, (m1, decs, (x1, wd, (x2, nm, (x3, qu, (x4, ex, (m0, asg, bd))))))),
    ),
  )
  body_stands (header ds at owner.Module n q) S j b all m0 m is (
    place,
    (m1, (fl, dts, m2, dsk, op, decs), (x1, wd, (x2, nm, (x3, qu, asg)))),
  ) bd = (
    sym fl,
    (
      statement (decorators dts) (a_module at n q b),
      statement_kept ds dts (a_module at n q j.0, j.1) (a_module at n q b) dsk
          (ap (λ k. (a_module at n q k.0, k.1)) is),
      (m2, op, (m1, decs, (x1, wd, (x2, nm, (x3, qu, (m0, asg, bd)))))),
    ),
  )

  pub headed_flag : (S : List Frame) (P : List Placed → Type 0) (h : Header) (F : Form) (m : List Placed)
      → Headed most S P h F m → false ≡ flag S
  headed_flag S P (header ds at p n q) F m h = sym h.1.1.0

  fronted_stands : (h : Header) (g : Front) (S : List Frame) (k : Kept ObjectTree) (o : ObjectTree)
      (all m0 m1 m : List Placed) → k ≡ keep_object most o → Headed most S (Open most S all) h (sign t.Assign) m0
      → front_form most g m0 m1 → an_object false o m1 m → Holds most (fronted most h g k S) all m
  fronted_stands h nothing_before S k o all m0 m1 m is hd fr ob =
      body_stands h S (of_body_plain k) (body_plain o) all m0 m (ap of_body_plain is) hd
      (subst (λ x. an_object false o x m) (sym fr) ob)
  fronted_stands h (a_condition at kc) S k o all m0 m1 m is hd (c, cs, und) ob =
      body_stands h S (of_body_if at kc k) (body_if at c o) all m0 m (ap (λ x. of_body_if at x k) cs
      ∙ ap (of_body_if at (keep most c)) is) hd (m1, und, ob)
  fronted_stands h (s.a_loop kl) S k o all m0 m1 m is hd (lt, ls, lp) ob = (
    headed_flag S (Open most S all) h (sign t.Assign) m0 hd,
    (
      body_each lt o,
      ap (λ x. of_body_each most x k) ls ∙ ap (of_body_each most (keep_loop most lt)) is
          ∙ keep_body_each most lt o,
      (m0, hd, (m1, lp, ob)),
    ),
  )
  fronted_stands h (loop_and_condition kl at kc) S k o all m0 m1 m is hd (lt, c, ls, cs, (m2, lp, und)) ob = (
    headed_flag S (Open most S all) h (sign t.Assign) m0 hd,
    (
      body_each_if lt at c o,
      ap (λ x. of_body_each_if most x at kc k) ls
          ∙ ap (λ x. of_body_each_if most (keep_loop most lt) at x k) cs
          ∙ ap (of_body_each_if most (keep_loop most lt) at (keep most c)) is ∙ keep_body_each_if most lt at c o,
      (m0, hd, (m2, lp, (m1, und, ob))),
    ),
  )

  plain_object : (S : List Frame) (i : Bool) (k : Kept ObjectTree) (o : ObjectTree) (all m1 m : List Placed)
      → k ≡ keep_object most o → i ≡ flag S → Open most S all m1 → an_object (flag S) o m1 m
      → Holds most (Some (done (of_object k), i, S)) all m
  plain_object S i k o all m1 m is same op ob =
      (same, (object o, ap of_object is ∙ keep_object_is most o, omega arith, (m1, op, ob)))

  pub object_stands : (S : List Frame) (i : Bool) (k : Kept ObjectTree) (o : ObjectTree) (all m1 m : List Placed)
      → k ≡ keep_object most o → i ≡ flag S → Open most S all m1 → an_object (flag S) o m1 m
      → Holds most (object_on most i k S) all m
  object_stands [] i k o all m1 m is same op ob = absurd op
  object_stands (bodied h g ∷ S) i k o all m1 m is same (m0, hd, fr) ob =
      fronted_stands h g S k o all m0 m1 m is hd fr ob
  object_stands (F ∷ S) i k o all m1 m is same op ob = plain_object (F ∷ S) i k o all m1 m is same op ob

  pub member_closes : (j : Kept MemberTree) (d : MemberTree) (S : List Frame) (all m1 m2 m : List Placed)
      → j ≡ keep_member most d → Open most S all m1 → a_member d m1 m2 → sign t.CloseBrace m2 m
      → Holds most (member_closed most j S) all m
  member_closes j d (in_object at was k ∷ S) all m1 m2 m is (ms, ks, same, (m0, op, (mb, tok, rd))) mem cl =
      object_stands S was (of_members most at (put k j)) (braces at (members (ms ++ d ∷ []))) all m0 m
      (ap (λ x. of_members most at (put x j)) ks ∙ ap (λ x. of_members most at (put (keep_members most ms) x)) is
      ∙ ap (of_members most at) (members_put most ms d) ∙ keep_braces most at (ms ++ d ∷ [])) same op (
        mb,
        tok,
        whole_members (ms ++ d ∷ []) mb m
            (parts_last is_separator a_member (sign t.CloseBrace) ms d mb m1 m2 m rd mem cl),
      )
  member_closes j d S all m1 m2 m is op mem cl = tt

  pub members_close : (S : List Frame) (all m1 m : List Placed) → Open most S all m1 → sign t.CloseBrace m1 m
      → Holds most (members_closed most S) all m
  members_close (in_object at was k ∷ S) all m1 m (ms, ks, same, (m0, op, (mb, tok, rd))) cl =
      object_stands S was (of_members most at k) (braces at (members ms)) all m0 m (ap (of_members most at) ks
      ∙ keep_braces most at ms) same op
      (mb, tok, whole_members ms mb m (parts_end is_separator a_member (sign t.CloseBrace) ms mb m1 m rd cl))
  members_close S all m1 m op cl = tt

  pub member_stands : (j : Kept MemberTree) (d : MemberTree) (S : List Frame) (all m1 m2 m : List Placed)
      → j ≡ keep_member most d → Open most S all m1 → a_member d m1 m2 → (one is_separator ▹ any is_separator) m2 m
      → Holds most (member_put j S) all m
  member_stands j d (in_object at was k ∷ S) all m1 m2 m is (ms, ks, same, (m0, op, (mb, tok, rd))) mem sep = (
    refl,
    (
      tt,
      (
        ms ++ d ∷ [],
        ap (λ x. put x j) ks ∙ ap (put (keep_members most ms)) is ∙ members_put most ms d,
        same,
        (m0, op, (mb, tok, parts_put is_separator a_member ms d mb m1 m2 m rd mem sep)),
      ),
    ),
  )
  member_stands j d S all m1 m2 m is op mem sep = tt

  pub items_close : (S : List Frame) (all m1 m : List Placed) → Open most S all m1 → sign t.CloseBracket m1 m
      → Holds most (items_closed most S) all m
  items_close (opened at was ∷ S) all m1 m (same, (m0, op, tok)) cl =
      (same, (array at none, keep_array most at [], omega arith, (m0, op, (m1, tok, (m1, ([], tt, refl), cl)))))
  items_close (in_array at was k ∷ S) all m1 m (es, ks, same, (m0, op, (mb, tok, rd))) cl = (
    same,
    (
      array at (trees es),
      ap (of_items most at) ks ∙ keep_array most at es,
      omega arith,
      (
        m0,
        op,
        (
          mb,
          tok,
          whole_items es mb m (parts_end is_separator (expression false) (sign t.CloseBracket) es mb m1 m rd cl),
        ),
      ),
    ),
  )
  items_close S all m1 m op cl = tt

  -- newlines are separators
  lines_passed : (ps a b : List Placed) → AllByRecursion (λ t. is_newline t.1 ≡ true) ps
      → AllByRecursion (λ t. is_separator t.1 ≡ true) ps
  lines_passed [] a b h = tt
  lines_passed ((at, t.Newline) ∷ ps) a b h = (refl, lines_passed ps a b h.1)
  lines_passed ((at, y) ∷ ps) a b h = absurd (true≢false (sym h.0))

  line_is : (y : Terminal) → is_newline y ≡ true → is_separator y ≡ true
  line_is t.Newline e = refl
  line_is y e = absurd (true≢false (sym e))

  lines_separate : (a b : List Placed) → (one is_newline ▹ any is_newline) a b
      → (one is_separator ▹ any is_separator) a b
  lines_separate a b (m, (at, y, is, e), (ps, h, ps_is)) =
      (m, (at, y, is, line_is y e), (ps, lines_passed ps a b h, ps_is))

  -- ---- after a call

  -- a call with all its arguments
  function_stands : (g : Function) (was : Bool) (k : Kept (List Tree)) (S : List Frame) (es : List Tree)
      (all m0 m1 m : List Placed) → k ≡ keep_list most es → was ≡ flag S → Open most S all m0
      → (function (flag S) g ▹ token (flag S) t.OpenParen) m0 m1 → arguments (trees es) m1 m
      → Holds most (called most (s.function g) was k S) all m
  function_stands g was k S es all m0 m1 m ks same op (mf, fn, pr) args = (
    same,
    (
      call g (trees es),
      ap (of_call most g) ks ∙ keep_call most g es,
      omega arith,
      (m0, op, (mf, fn, (m1, pr, args))),
    ),
  )

  decorator_stands : (ds : Decorators) (at : ℕ) (g : Function) (was : Bool) (k : Kept (List Tree)) (S : List Frame)
      (es : List Tree) (all m0 m1 m : List Placed) → k ≡ keep_list most es → was ≡ flag S
      → Decorated most S (Open most S all) ds m0 → (sign_at at t.At ▹ form.decorating g ▹ sign t.OpenParen) m0 m1
      → arguments (trees es) m1 m → Holds most (called most (s.decorating ds at g) was k S) all m
  decorator_stands ds at g was k S es all m0 m1 m ks same (fl, dts, mm, dsk, op, decs) (x1, sg, (x2, fn, pr)) args = (
    same,
    (
      fl,
      dts,
      decorator at g (trees es),
      mm,
      ap (λ y. put y (of_decorator at g k)) dsk
          ∙ ap (λ y. put (keep_decorators most dts) (of_decorator at g y)) ks
          ∙ ap (λ y. put (keep_decorators most dts) (of_decorator at g (keep_list most y))) (sym (each-trees most es))
          ∙ decorators_put most dts (decorator at g (trees es)),
      op,
      (m0, decs, (x1, sg, (x2, fn, (m1, pr, args)))),
    ),
  )

  pub last_argument : (c : Callee) (was : Bool) (k : Kept (List Tree)) (S : List Frame) (j : Kept Tree) (e : Tree)
      (all m1 m2 m : List Placed) → j ≡ keep most e → Open most (calling c was k ∷ S) all m1 → expression true e m1 m2
      → token true t.CloseParen m2 m → Holds most (called most c was (put k j) S) all m
  last_argument (s.function g) was k S j e all m1 m2 m is (es, ks, same, (m0, op, (mb, hd, rd))) ex cl =
      function_stands g was (put k j) S (es ++ e ∷ []) all m0 mb m (ap (λ y. put y j) ks
      ∙ ap (put (keep_list most es)) is ∙ list_put most es e) same op hd (arguments_last es e mb m1 m2 m rd ex cl)
  last_argument (s.decorating ds at g) was k S j e all m1 m2 m is (es, ks, same, (m0, op, (mb, hd, rd))) ex cl =
      decorator_stands ds at g was (put k j) S (es ++ e ∷ []) all m0 mb m (ap (λ y. put y j) ks
      ∙ ap (put (keep_list most es)) is ∙ list_put most es e) same op hd (arguments_last es e mb m1 m2 m rd ex cl)

  -- a list that is kept empty is empty
  none_kept : (es : List Tree) → ◌≡◌ {A = Kept (List Tree)} empty (keep_list most es) → es ≡ []
  none_kept [] h = refl
  none_kept (e ∷ es) h = let z : ◌≡◌ {A = List Tree} [] ((keep most e).0 ∷ (keep_list most es).0) = ap (λ p. p.0) h in
      absurd cc

  pub no_argument : (S : List Frame) (all m1 m : List Placed) → IsFirst most S → Open most S all m1
      → token true t.CloseParen m1 m → Holds most (call_closed most S) all m
  no_argument [] all m1 m fi op cl = tt
  no_argument (calling (s.function g) was k ∷ S) all m1 m fi (es, ks, same, (m0, op, (mb, hd, rd))) cl =
      let none_is : es ≡ [] = none_kept es (sym fi ∙ ks) in
      function_stands g was k S [] all m0 mb m fi same op hd
      (subst (λ y. token true t.CloseParen y m) (sym (subst (λ xs. ArgumentsRead xs mb m1) none_is rd)) cl)
  no_argument (calling (s.decorating ds at g) was k ∷ S) all m1 m fi (es, ks, same, (m0, op, (mb, hd, rd))) cl =
      let none_is : es ≡ [] = none_kept es (sym fi ∙ ks) in
      decorator_stands ds at g was k S [] all m0 mb m fi same op hd
      (subst (λ y. token true t.CloseParen y m) (sym (subst (λ xs. ArgumentsRead xs mb m1) none_is rd)) cl)
  no_argument (F ∷ S) all m1 m fi op cl = tt

  -- ---- after an expression whose operators are closed

  pub paren_stands : (p : Closed) (i : Bool) (all m1 m : List Placed) → Ended most 0 i all m1 p
      → token i t.CloseParen m1 m → Holds most (paren_on most p) all m
  paren_stands (k, []) i all m1 m h cl = tt
  paren_stands (k, grouping at was ∷ S) i all m1 m h cl =
      let (same, (m0, op, tok)) = h.before in (
        same,
        (
          parentheses at h.whole,
          ap (of_parentheses most at) h.is ∙ keep_parentheses most at h.whole,
          omega arith,
          (m0, op, (h.from, tok, (m1, h.text, subst (λ b. token b t.CloseParen m1 m) h.same cl))),
        ),
      )
  paren_stands (k, calling c was es ∷ S) i all m1 m h cl =
      last_argument c was es S k h.whole all h.from m1 m h.is h.before h.text
      (subst (λ b. token b t.CloseParen m1 m) h.same cl)
  paren_stands (k, in_condition at hd g ∷ S) i all m1 m h cl = by g h.before
    where
      by : (g : Front) → Open most (in_condition at hd g ∷ S) all h.from
          → Holds most (guarded_by hd (with_condition g at k) S) all m
      by nothing_before (m0, hdd, (x1, no_front, (x2, iff, pr))) = (
        refl,
        (
          tt,
          (
            m0,
            hdd,
            (
              h.whole,
              h.is,
              subst (λ y. under at (expression true h.whole) y m) (sym no_front) (
                x2,
                iff,
                (h.from, pr, (m1, h.text, subst (λ b. token b t.CloseParen m1 m) h.same cl)),
              ),
            ),
          ),
        ),
      )
      by (s.a_loop kl) (m0, hdd, (x1, (lt, ls, lp), (x2, iff, pr))) = (
        refl,
        (
          tt,
          (
            m0,
            hdd,
            (
              lt,
              h.whole,
              ls,
              h.is,
              (x1, lp, (x2, iff, (h.from, pr, (m1, h.text, subst (λ b. token b t.CloseParen m1 m) h.same cl)))),
            ),
          ),
        ),
      )
      by g op = tt
  paren_stands (k, F ∷ S) i all m1 m h cl = tt

  each_stands : (j : Kept ValueTree) (lt : LoopTree) (e : Tree) (S : List Frame) (all m1 m : List Placed)
      → j ≡ keep_value most (each lt e) → Open most S all m1 → value (each lt e) m1 m → Holds most (each_on j S) all m
  each_stands j lt e [] all m1 m is op vl = tt
  each_stands j lt e (valued n ∷ S) all m1 m is (ob, (m0, op, (x1, lab, col))) vl =
      (object_flag S ob, (ob, property n (each lt e), ap (of_property n) is, (m0, op, (x1, lab, (m1, col, vl)))))
  each_stands j lt e (assigned ds (to_var at n) ∷ S) all m1 m is (
    m0,
    (fl, dts, mm, dsk, op, decs),
    (x1, wd, (x2, nm, asg)),
  ) vl = (
    sym fl,
    (
      statement (decorators dts) (var at n (each lt e)),
      statement_kept ds dts (var at n j.0, j.1) (var at n (each lt e)) dsk (ap (λ y. (var at n y.0, y.1)) is),
      (mm, op, (m0, decs, (x1, wd, (x2, nm, (m1, asg, vl))))),
    ),
  )
  each_stands j lt e (assigned ds (to_output at n ty) ∷ S) all m1 m is (
    m0,
    (fl, dts, mm, dsk, op, decs),
    (x1, wd, (x2, nm, (x3, kd, asg))),
  ) vl = (
    sym fl,
    (
      statement (decorators dts) (output at n ty (each lt e)),
      statement_kept ds dts (output at n ty j.0, j.1) (output at n ty (each lt e)) dsk
          (ap (λ y. (output at n ty y.0, y.1)) is),
      (mm, op, (m0, decs, (x1, wd, (x2, nm, (x3, kd, (m1, asg, vl)))))),
    ),
  )
  each_stands j lt e (F ∷ S) all m1 m is op vl = tt

  pub bracket_stands : (p : Closed) (i : Bool) (all m1 m : List Placed) → Ended most 0 i all m1 p
      → token i t.CloseBracket m1 m → Holds most (bracket_on most i p) all m
  bracket_stands (k, []) i all m1 m h cl = tt
  bracket_stands (k, indexing j x ∷ S) i all m1 m h cl =
      let (b, bs, pr, (m0, op, (x1, ex, br))) = h.before in (
        h.same,
        (
          index b x h.whole,
          ap (λ y. of_index most y x k) bs ∙ ap (of_index most (keep most b) x) h.is
              ∙ keep_index most b x h.whole,
          omega arith,
          (m0, op, (pr, (x1, ex, (h.from, br, (m1, h.text, subst (λ b. token b t.CloseBracket m1 m) h.same cl))))),
        ),
      )
  bracket_stands (k, opened at was ∷ S) i all m1 m h cl =
      let (same, (m0, op, tok)) = h.before in (
        same,
        (
          array at (trees (h.whole ∷ [])),
          ap (λ y. of_items most at (put empty y)) h.is
              ∙ ap (of_items most at) (list_put most [] h.whole) ∙ keep_array most at (h.whole ∷ []),
          omega arith,
          (
            m0,
            op,
            (
              h.from,
              tok,
              whole_items (h.whole ∷ []) h.from m
                  (parts_last is_separator (expression false) (sign t.CloseBracket) [] h.whole h.from h.from m1 m (
                    [],
                    tt,
                    refl,
                  ) h.text (plain_sign t.CloseBracket m1 m (subst (λ b. token b t.CloseBracket m1 m) h.same cl))),
            ),
          ),
        ),
      )
  bracket_stands (k, in_array at was j ∷ S) i all m1 m h cl =
      let (es, ks, same, (m0, op, (mb, tok, rd))) = h.before in (
        same,
        (
          array at (trees (es ++ h.whole ∷ [])),
          ap (λ y. of_items most at (put y k)) ks ∙ ap (λ y. of_items most at (put (keep_list most es) y)) h.is
              ∙ ap (of_items most at) (list_put most es h.whole) ∙ keep_array most at (es ++ h.whole ∷ []),
          omega arith,
          (
            m0,
            op,
            (
              mb,
              tok,
              whole_items (es ++ h.whole ∷ []) mb m
                  (parts_last is_separator (expression false) (sign t.CloseBracket) es h.whole mb h.from m1 m rd h.text
                  (plain_sign t.CloseBracket m1 m (subst (λ b. token b t.CloseBracket m1 m) h.same cl))),
            ),
          ),
        ),
      )
  bracket_stands (k, looped j ∷ S) i all m1 m h cl =
      let (lt, ls, (m0, op, lp)) = h.before in
      each_stands (of_each most j k) lt h.whole S all m0 m (ap (λ y. of_each most y k) ls
      ∙ ap (of_each most (keep_loop most lt)) h.is ∙ keep_each most lt h.whole) op (
        h.from,
        lp,
        (m1, h.text, plain_sign t.CloseBracket m1 m (subst (λ b. token b t.CloseBracket m1 m) h.same cl)),
      )
  bracket_stands (k, F ∷ S) i all m1 m h cl = tt

  -- a separator after an item
  item_stands : (at : ℕ) (was : Bool) (S : List Frame) (j : Kept (List Tree)) (es : List Tree) (k : Kept Tree)
      (e : Tree) (all m0 mb m1 m2 m : List Placed) → j ≡ keep_list most es → k ≡ keep most e → was ≡ flag S
      → Open most S all m0 → token_at (flag S) at t.OpenBracket m0 mb → ItemsRead es mb m1 → expression false e m1 m2
      → (one is_separator ▹ any is_separator) m2 m
      → Holds most (Some (item, false, in_array at was (put j k) ∷ S)) all m
  item_stands at was S j es k e all m0 mb m1 m2 m js ks same op tok rd ex sep = (
    refl,
    (
      tt,
      (
        es ++ e ∷ [],
        ap (λ y. put y k) js ∙ ap (put (keep_list most es)) ks ∙ list_put most es e,
        same,
        (m0, op, (mb, tok, parts_put is_separator (expression false) es e mb m1 m2 m rd ex sep)),
      ),
    ),
  )

  comma_is : (at : ℕ) (m1 m : List Placed) → m1 ≡ (at, t.Comma) ∷ m → (one is_separator ▹ any is_separator) m1 m
  comma_is at m1 m e =
      subst (λ y. (one is_separator ▹ any is_separator) y m) (sym e) (some_one is_separator (at, t.Comma) m refl)

  sign_separates : (m1 m : List Placed) → sign t.Comma m1 m → (one is_separator ▹ any is_separator) m1 m
  sign_separates m1 m (at, e) = comma_is at m1 m e

  pub comma_stands : (p : Closed) (i : Bool) (all m1 m : List Placed) → Ended most 0 i all m1 p → token i t.Comma m1 m
      → Holds most (comma_on most p) all m
  comma_stands (k, []) i all m1 m h cl = tt
  comma_stands (k, calling (s.function g) was j ∷ S) i all m1 m h cl =
      let (es, ks, same, (m0, op, (mb, hd, rd))) = h.before in (
        refl,
        (
          es ++ h.whole ∷ [],
          ap (λ y. put y k) ks ∙ ap (put (keep_list most es)) h.is ∙ list_put most es h.whole,
          same,
          (
            m0,
            op,
            (mb, hd, arguments_put es h.whole mb h.from m1 m rd h.text (subst (λ b. token b t.Comma m1 m) h.same cl)),
          ),
        ),
      )
  comma_stands (k, calling (s.decorating ds at g) was j ∷ S) i all m1 m h cl =
      let (es, ks, same, (m0, op, (mb, hd, rd))) = h.before in (
        refl,
        (
          es ++ h.whole ∷ [],
          ap (λ y. put y k) ks ∙ ap (put (keep_list most es)) h.is ∙ list_put most es h.whole,
          same,
          (
            m0,
            op,
            (mb, hd, arguments_put es h.whole mb h.from m1 m rd h.text (subst (λ b. token b t.Comma m1 m) h.same cl)),
          ),
        ),
      )
  comma_stands (k, opened at was ∷ S) i all m1 m h cl =
      let (same, (m0, op, tok)) = h.before in
      item_stands at was S empty [] k h.whole all m0 h.from h.from m1 m refl h.is same op tok ([], tt, refl) h.text
      (sign_separates m1 m (plain_sign t.Comma m1 m (subst (λ b. token b t.Comma m1 m) h.same cl)))
  comma_stands (k, in_array at was j ∷ S) i all m1 m h cl =
      let (es, ks, same, (m0, op, (mb, tok, rd))) = h.before in
      item_stands at was S j es k h.whole all m0 mb h.from m1 m ks h.is same op tok rd h.text
      (sign_separates m1 m (plain_sign t.Comma m1 m (subst (λ b. token b t.Comma m1 m) h.same cl)))
  comma_stands (k, valued n ∷ S) i all m1 m h cl =
      let (ob, (m0, op, (x1, lab, col))) = h.before in
      member_stands (of_property n (of_plain k)) (property n (plain h.whole)) S all m0 m1 m
      (ap (λ y. of_property n (of_plain y)) h.is) op (x1, lab, (h.from, col, h.text))
      (sign_separates m1 m (plain_sign t.Comma m1 m (subst (λ b. token b t.Comma m1 m) h.same cl)))
  comma_stands (k, F ∷ S) i all m1 m h cl = tt

  pub brace_stands : (p : Closed) (i : Bool) (all m1 m : List Placed) → Ended most 0 i all m1 p
      → token i t.CloseBrace m1 m → Holds most (brace_on most p) all m
  brace_stands (k, []) i all m1 m h cl = tt
  brace_stands (k, valued n ∷ S) i all m1 m h cl =
      let (ob, (m0, op, (x1, lab, col))) = h.before in
      member_closes (of_property n (of_plain k)) (property n (plain h.whole)) S all m0 m1 m
      (ap (λ y. of_property n (of_plain y)) h.is) op (x1, lab, (h.from, col, h.text))
      (plain_sign t.CloseBrace m1 m (subst (λ b. token b t.CloseBrace m1 m) h.same cl))
  brace_stands (k, F ∷ S) i all m1 m h cl = tt

  -- `:` after the first branch of a conditional
  asked_stands : (k j : Kept Tree) (S : List Frame) (b : Bool) (all m1 m : List Placed)
      (h : Ended most 0 b all m1 (k, asked j ∷ S)) → token true t.Colon m1 m
      → Holds most (Some (wanted true, b, chosen j k ∷ S)) all m
  asked_stands k j S b all m1 m h cl =
      let (c, cs, oc, ts, (m0, op, (x1, ex, (x2, qu, sk)))) = h.before in (
        h.same,
        (
          tt,
          (
            c,
            h.whole,
            cs,
            h.is,
            oc,
            ts,
            (m0, op, (x1, ex, (x2, qu, (h.from, sk, (m1, h.text, (m, cl, ([], tt, refl))))))),
          ),
        ),
      )

  pub colon_stands : (p : Closed) (i : Bool) (all m1 m : List Placed) → Ended most 0 i all m1 p → token i t.Colon m1 m
      → token true t.Colon m1 m → Holds most (colon_on most i p) all m
  colon_stands (k, []) i all m1 m h cl late = tt
  colon_stands (k, asked j ∷ S) i all m1 m h cl late = asked_stands k j S i all m1 m h late
  colon_stands (k, over at ns ∷ S) i all m1 m h cl late =
      let (m0, op, (x1, opn, (x2, fo, (x3, names, within)))) = h.before in (
        refl,
        (
          loop at ns h.whole,
          ap (of_loop at ns) h.is,
          (
            m0,
            op,
            (
              x1,
              opn,
              (
                x2,
                fo,
                (
                  x3,
                  names,
                  (h.from, within, (m1, h.text, plain_sign t.Colon m1 m (subst (λ b. token b t.Colon m1 m) h.same cl))),
                ),
              ),
            ),
          ),
        ),
      )
  colon_stands (k, body_over at ns hd ∷ S) i all m1 m h cl late =
      let (m0, hdd, (x1, opn, (x2, fo, (x3, names, within)))) = h.before in (
        refl,
        (
          tt,
          (
            m0,
            hdd,
            (
              loop at ns h.whole,
              ap (of_loop at ns) h.is,
              (
                x1,
                opn,
                (
                  x2,
                  fo,
                  (
                    x3,
                    names,
                    (
                      h.from,
                      within,
                      (m1, h.text, plain_sign t.Colon m1 m (subst (λ b. token b t.Colon m1 m) h.same cl)),
                    ),
                  ),
                ),
              ),
            ),
          ),
        ),
      )
  colon_stands (k, F ∷ S) i all m1 m h cl late = tt

  pub late_colon_stands : (p : Closed) (all m1 m : List Placed) → Ended most 0 false all m1 p
      → token true t.Colon m1 m → Holds most (late_colon_on most p) all m
  late_colon_stands (k, []) all m1 m h cl = tt
  late_colon_stands (k, asked j ∷ S) all m1 m h cl = asked_stands k j S false all m1 m h cl
  late_colon_stands (k, F ∷ S) all m1 m h cl = tt

  pub middle_stands : (p : Closed) (i : Bool) (u : List ℕ) (all m1 m : List Placed) → Ended most 0 i all m1 p
      → token i (t.MiddlePiece u) m1 m → Holds most (middle_on most i u p) all m
  middle_stands (k, []) i u all m1 m h cl = tt
  middle_stands (k, in_text at head j ∷ S) i u all m1 m h cl =
      let (hs, ks, (m0, op, (mb, tok, rd))) = h.before in (
        h.same,
        (
          hs ++ (h.whole, u) ∷ [],
          ap (λ y. put y (of_hole k u)) ks
              ∙ ap (λ y. put (keep_holes most hs) (of_hole y u)) h.is ∙ holes_put most hs h.whole u,
          (
            m0,
            op,
            (
              mb,
              tok,
              holes_more (flag S) hs h.whole u mb h.from m1 m rd h.text
                  (subst (λ b. token b (t.MiddlePiece u) m1 m) h.same cl),
            ),
          ),
        ),
      )
  middle_stands (k, F ∷ S) i u all m1 m h cl = tt

  pub right_stands : (p : Closed) (i : Bool) (u : List ℕ) (all m1 m : List Placed) → Ended most 0 i all m1 p
      → token i (t.RightPiece u) m1 m → Holds most (right_on most i u p) all m
  right_stands (k, []) i u all m1 m h cl = tt
  right_stands (k, in_text at head j ∷ S) i u all m1 m h cl =
      let (hs, ks, (m0, op, (mb, tok, rd))) = h.before in (
        h.same,
        (
          interpolated at head (holes (hs ++ (h.whole, u) ∷ [])),
          ap (λ y. of_holes most at head (put y (of_hole k u))) ks
              ∙ ap (λ y. of_holes most at head (put (keep_holes most hs) (of_hole y u))) h.is
              ∙ ap (of_holes most at head) (holes_put most hs h.whole u)
              ∙ keep_interpolated most at head (hs ++ (h.whole, u) ∷ []),
          omega arith,
          (
            m0,
            op,
            (
              mb,
              tok,
              holes_last (flag S) hs h.whole u mb h.from m1 m rd h.text
                  (subst (λ b. token b (t.RightPiece u) m1 m) h.same cl),
            ),
          ),
        ),
      )
  right_stands (k, F ∷ S) i u all m1 m h cl = tt

  -- ---- statements

  pub statement_filed : (j : Kept StatementTree) (st : StatementTree) (S : List Frame) (all m1 m2 m : List Placed)
      → j ≡ keep_statement most st → Open most S all m1 → a_statement st m1 m2
      → (one is_newline ▹ any is_newline) m2 m → Holds most (filed j S) all m
  statement_filed j st (in_file k ∷ []) all m1 m2 m is (ss, ks, rd) sm sep = (
    refl,
    (
      tt,
      (
        ss ++ st ∷ [],
        ap (λ y. put y j) ks ∙ ap (put (keep_file most ss)) is ∙ statements_put most ss st,
        parts_put is_newline a_statement ss st all m1 m2 m rd sm sep,
      ),
    ),
  )
  statement_filed j st (in_file k ∷ (F ∷ S)) all m1 m2 m is op sm sep = absurd op
  statement_filed j st S all m1 m2 m is op sm sep = tt

  -- a declaration with its expression
  with_kept : (d : Assigned) (k : Kept Tree) (e : Tree) → k ≡ keep most e → (x : DeclarationTree)
      × (with_expression d k ≡ keep_declaration most x)
      × ((m0 m1 m : List Placed) → assigned_form d m0 m1 → expression false e m1 m → declaration x m0 m)
  with_kept (to_metadata at n) k e is = (
    metadata at n e,
    ap (λ y. (metadata at n y.0, y.1)) is,
    λ m0 m1 m (x1, wd, (x2, nm, asg)) ex. (x1, wd, (x2, nm, (m1, asg, ex))),
  )
  with_kept (to_scope at) k e is = (
    target_scope at e,
    ap (λ y. (target_scope at y.0, y.1)) is,
    λ m0 m1 m (x1, wd, asg) ex. (x1, wd, (m1, asg, ex)),
  )
  with_kept (to_param at n ty) k e is = (
    param_with at n ty e,
    ap (λ y. (param_with at n ty y.0, y.1)) is,
    λ m0 m1 m (x1, wd, (x2, nm, (x3, kd, asg))) ex. (x1, wd, (x2, nm, (x3, kd, (m1, asg, ex)))),
  )
  with_kept (to_var at n) k e is = (
    var at n (plain e),
    ap (λ y. (var at n (plain y.0), y.1)) is,
    λ m0 m1 m (x1, wd, (x2, nm, asg)) ex. (x1, wd, (x2, nm, (m1, asg, ex))),
  )
  with_kept (to_output at n ty) k e is = (
    output at n ty (plain e),
    ap (λ y. (output at n ty (plain y.0), y.1)) is,
    λ m0 m1 m (x1, wd, (x2, nm, (x3, kd, asg))) ex. (x1, wd, (x2, nm, (x3, kd, (m1, asg, ex)))),
  )

  -- a declaration and its decorators
  pub record Declared (j : Kept StatementTree) (S : List Frame) (all m : List Placed) : Type 0 where
    pub made_of : StatementTree
    pub kept_is : j ≡ keep_statement most made_of
    pub begins_at : List Placed
    pub opens : Open most S all begins_at
    pub spelled : a_statement made_of begins_at m

  pub declared_with : (ds : Decorators) (d : Assigned) (k : Kept Tree) (e : Tree) (S : List Frame)
      (all m1 m : List Placed) → k ≡ keep most e → Open most (assigned ds d ∷ S) all m1 → expression false e m1 m
      → Declared (of_statement ds (with_expression d k)) S all m
  declared_with ds d k e S all m1 m is (m0, (fl, dts, mm, dsk, op, decs), fm) ex =
      let w = with_kept d k e is in
      record {
        made_of = statement (decorators dts) w.0;
        kept_is =
            statement_kept ds dts (with_expression d k) w.0 dsk w.1;
        begins_at = mm;
        opens = op;
        spelled =
            (m0, decs, w.2 m0 m1 m fm ex);
      }

  pub newline_stands : (p : Closed) (all m1 m : List Placed) → Ended most 0 false all m1 p
      → (one is_newline ▹ any is_newline) m1 m → Holds most (newline_on most p) all m
  newline_stands (k, []) all m1 m h ln = tt
  newline_stands (k, opened at was ∷ S) all m1 m h ln =
      let (same, (m0, op, tok)) = h.before in
      item_stands at was S empty [] k h.whole all m0 h.from h.from m1 m refl h.is same op tok ([], tt, refl) h.text
      (lines_separate m1 m ln)
  newline_stands (k, in_array at was j ∷ S) all m1 m h ln =
      let (es, ks, same, (m0, op, (mb, tok, rd))) = h.before in
      item_stands at was S j es k h.whole all m0 mb h.from m1 m ks h.is same op tok rd h.text (lines_separate m1 m ln)
  newline_stands (k, valued n ∷ S) all m1 m h ln =
      let (ob, (m0, op, (x1, lab, col))) = h.before in
      member_stands (of_property n (of_plain k)) (property n (plain h.whole)) S all m0 m1 m
      (ap (λ y. of_property n (of_plain y)) h.is) op (x1, lab, (h.from, col, h.text)) (lines_separate m1 m ln)
  newline_stands (k, assigned ds d ∷ S) all m1 m h ln =
      let c = declared_with ds d k h.whole S all h.from m1 h.is h.before h.text in
      statement_filed (of_statement ds (with_expression d k)) c.made_of S all c.begins_at m1 m c.kept_is c.opens
      c.spelled ln
  newline_stands (k, F ∷ S) all m1 m h ln = tt

  -- ---- loops

  pub over_stands : (at : ℕ) (ns : LoopNames) (S : List Frame) (all m1 m2 m : List Placed) → Open most S all m1
      → (token_at (flag S) at t.OpenBracket ▹ word (codes "for") ▹ grammar.loop_names ns) m1 m2
      → word (codes "in") m2 m → Holds most (over_on at ns S) all m
  over_stands at ns [] all m1 m2 m op ns_read within = tt
  over_stands at ns (valued n ∷ S) all m1 m2 m op (x1, opn, (x2, fo, names)) within =
      (refl, (m1, op, (x1, plain_token at t.OpenBracket m1 x1 opn, (x2, fo, (m2, names, within)))))
  over_stands at ns (assigned ds (to_var w n) ∷ S) all m1 m2 m op (x1, opn, (x2, fo, names)) within =
      (refl, (m1, op, (x1, plain_token at t.OpenBracket m1 x1 opn, (x2, fo, (m2, names, within)))))
  over_stands at ns (assigned ds (to_output w n ty) ∷ S) all m1 m2 m op (x1, opn, (x2, fo, names)) within =
      (refl, (m1, op, (x1, plain_token at t.OpenBracket m1 x1 opn, (x2, fo, (m2, names, within)))))
  over_stands at ns (bodied h nothing_before ∷ S) all m1 m2 m (m0, hdd, no_front) (x1, opn, (x2, fo, names)) within =
      (refl, (m0, hdd, (x1, no_front ∙ plain_token at t.OpenBracket m1 x1 opn, (x2, fo, (m2, names, within)))))
  over_stands at ns (F ∷ S) all m1 m2 m op ns_read within = tt
