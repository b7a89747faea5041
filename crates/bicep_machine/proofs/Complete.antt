-- What is spelled is read, whatever follows it: expressions, and what is in their objects.
use Rattle.std.proofs.Common.{◌≡◌, ℕ, ◌+◌, ◌&&◌, ◌≤◌, nat_lt, List, [], ◌∷◌, ◌++◌, Bool, true, false, true≢false}
use Rattle.std.proofs.Common.{Some, None, option_and_then, cond, codes, refl, ap, sym, ◌∙◌, arith, subst, append-nil}
use Rattle.std.proofs.Common.{append_assoc}
use Rattle.std.specs.List.{AllByRecursion}
use Rattle.std.proofs.lemmas.Bool.Decides.{nat_tests}
use Rattle.bicep_tree.specs.declared.leaf.Name.{Name}
use Rattle.bicep_tree.specs.declared.leaf.Quoted.{Quoted}
use Rattle.bicep_tree.specs.declared.leaf.Label.{Label}
use Rattle.bicep_tree.specs.declared.leaf.Label.TheVariants as label
use Rattle.bicep_tree.specs.declared.leaf.Literal.TheVariants as l
use Rattle.bicep_tree.specs.declared.leaf.LoopNames.{LoopNames}
use Rattle.bicep_tree.specs.declared.leaf.LoopNames.TheVariants as ns
use Rattle.bicep_tree.specs.declared.leaf.Namespace.{Namespace}
use Rattle.bicep_tree.specs.declared.leaf.Namespace.TheVariants as z
use Rattle.bicep_tree.specs.declared.leaf.Function.{Function}
use Rattle.bicep_tree.specs.declared.leaf.Function.TheVariants as f
use Rattle.bicep_tree.specs.declared.leaf.Access.TheVariants as a
use Rattle.bicep_tree.specs.declared.leaf.Indexing.TheVariants as x
use Rattle.bicep_tree.specs.declared.leaf.Prefix.TheVariants as p
use Rattle.bicep_tree.specs.declared.terminal.Terminal.{Terminal}
use Rattle.bicep_tree.specs.declared.terminal.Terminal.TheVariants as t
use Rattle.bicep_tree.specs.Tree.{Tree, name, literal, interpolated, object, array, parentheses, call, access, index}
use Rattle.bicep_tree.specs.Tree.{not_null, prefixed, binary, conditional, Trees, none, more, Holes, no_hole, hole}
use Rattle.bicep_tree.specs.Tree.{ObjectTree, braces, MemberTree, property, child, MemberTrees, no_member, and_member}
use Rattle.bicep_tree.specs.Tree.{plain, each, LoopTree, loop, DecoratorTree, decorator, DecoratorTrees, no_decorator}
use Rattle.bicep_tree.specs.Tree.{and_decorator, resource, BodyTree, body_plain, body_if, body_each, body_each_if}
use Rattle.bicep_tree.specs.Tree.{FileTree, trees, holes, members}
use Rattle.bicep_tree.specs.Precedence.{level, rank}
use Rattle.bicep_tree.specs.Terminals.{Placed}
use Rattle.bicep_tree.specs.Forms.{◌▹◌, is_newline, is_separator, one, any, skipped, sign, sign_at, token_at, token}
use Rattle.bicep_tree.specs.Forms.{named, word, quoted, namespace_word, index_sign, prefix_sign, function, decorating}
use Rattle.bicep_tree.specs.Forms as form
use Rattle.bicep_tree.specs.Expressions.{expression, loop_names, separators, separated, under, arguments}
use Rattle.bicep_tree.specs.Expressions.{further_arguments, items, further_items, a_hole, after_hole, an_object}
use Rattle.bicep_tree.specs.Expressions.{object_members, further_members, a_member, value, a_loop, a_decorator}
use Rattle.bicep_tree.specs.Expressions.{a_resource, body}
use Rattle.bicep_tree.specs.Expressions as grammar
use Rattle.bicep_machine.specs.declared.word.Word.TheVariants as w
use Rattle.bicep_machine.specs.declared.word.Owner.TheVariants as owner
use Rattle.bicep_machine.specs.Kept.{Kept, flat, put, empty, gap, made, of_holes, of_members, of_items, of_call}
use Rattle.bicep_machine.specs.Kept.{of_access, of_not_null, of_body_each, of_body_each_if, of_object, of_plain}
use Rattle.bicep_machine.specs.Kept.{of_property, of_loop, of_decorator}
use Rattle.bicep_machine.specs.Stack as s
use Rattle.bicep_machine.specs.Stack.{Decorators, Callee, Header, header, Front, nothing_before, a_condition}
use Rattle.bicep_machine.specs.Stack.{loop_and_condition, Frame, grouping, calling, indexing, opened, in_array}
use Rattle.bicep_machine.specs.Stack.{in_object, in_text, prefixing, left, asked, chosen, valued, assigned, over}
use Rattle.bicep_machine.specs.Stack.{body_over, in_names, looped, in_condition, bodied, in_file, State, wanted}
use Rattle.bicep_machine.specs.Stack.{qualifying, qualified, dotted, done, paused, item, for_wanted, names_wanted}
use Rattle.bicep_machine.specs.Stack.{one_wanted, one_named, other_wanted, both_named, member, labelled, past_member}
use Rattle.bicep_machine.specs.Stack.{among, looped_body, condition, guarded, body_end, at_sign, decorator_named}
use Rattle.bicep_machine.specs.Stack.{decorator_spaced, decorator_ready, decorated, past_decorators, declaring}
use Rattle.bicep_machine.specs.Stack.{declared, headed, existed, Next}
use Rattle.bicep_machine.specs.Closing.{closed, named_on, over_on, body_on, is_for, member_put, object_on, called}
use Rattle.bicep_machine.specs.Closing.{paren_on, bracket_on, comma_on, brace_on, colon_on, late_colon_on, middle_on}
use Rattle.bicep_machine.specs.Closing.{right_on, newline_on}
use Rattle.bicep_machine.specs.Machine.{is_in, is_if, is_sys, is_resource, is_existing, namespace_of, space_on}
use Rattle.bicep_machine.specs.Machine.{child_on, with_operator, with_question, transition, run}
use Rattle.bicep_machine.proofs.Keeping.{trees-each, holes-each, members-each, each_tree, each_hole, each_member}
use Rattle.bicep_machine.proofs.Keeping.{each_decorator, keep, keep_object, keep_list, keep_holes, keep_decorators}
use Rattle.bicep_machine.proofs.Keeping.{keep_body, keep_member, keep_members}
use Rattle.bicep_machine.proofs.Building.{keep_leaf, keep_index, keep_not_null, keep_access, keep_parentheses}
use Rattle.bicep_machine.proofs.Building.{keep_call, keep_array, keep_interpolated, keep_braces, keep_object_is}
use Rattle.bicep_machine.proofs.Building.{keep_each, keep_body_each, keep_body_each_if, list_put, holes_put}
use Rattle.bicep_machine.proofs.Building.{members_put, decorators_put}
use Rattle.bicep_machine.proofs.Running.{Fits, Fits-mono, level_bounds, last, Spined, spined, last-primary, spine}
use Rattle.bicep_machine.proofs.Running.{spine-primary, stops, closes, Reads, Goes, moves, takes_at, takes, goes_at}
use Rattle.bicep_machine.proofs.Running.{goes, Begins, begins, skips_after, named_reads, ends, rejoins}

-- ---- words

pub for_is : is_for (codes "for") ≡ true
unfolding is_for
for_is = refl

pub in_is : is_in (codes "in") ≡ true
unfolding is_in
in_is = refl

pub if_is : is_if (codes "if") ≡ true
unfolding is_if
if_is = refl

pub sys_is : is_sys (codes "sys") ≡ true
unfolding is_sys
sys_is = refl

pub resource_is : is_resource (codes "resource") ≡ true
unfolding is_resource
resource_is = refl

pub existing_is : is_existing (codes "existing") ≡ true
unfolding is_existing
existing_is = refl

pub namespace_is : (n : Namespace) → namespace_of (namespace_word n) ≡ Some n
unfolding namespace_of
namespace_is z.Sys = refl
namespace_is z.Az = refl

-- an array before its items: nothing was read after its `[`, or perhaps separators
abbrev pub array_frame : ℕ → Bool → ℕ → Bool → List Tree → Frame
array_frame most true at i [] = opened at i
array_frame most true at i (e ∷ es) = in_array at i (keep_list most (e ∷ es))
array_frame most false at i es = in_array at i (keep_list most es)

module _ (most : ℕ) (low : 1 ≤ most) (r : Kept FileTree) where
  abbrev Read : State → Bool → List Frame → List Placed → Type 0
  Read = Reads most r

  abbrev Go : Next → List Placed → Type 0
  Go = Goes most r

  same_done : (k j : Kept Tree) (i : Bool) (S : List Frame) (ts : List Placed) → k ≡ j → Read (done j) i S ts
      → Read (done k) i S ts
  same_done k j i S ts e h = subst (λ x. Read (done x) i S ts) (sym e) h

  -- ---- tokens with newlines before them

  late_lines : (k : Kept Tree) (U : List Frame) (passed m : List Placed)
      → AllByRecursion (λ t. (true && is_newline t.1) ≡ true) passed → Read (paused k) false U m
      → Read (paused k) false U (passed ++ m)
  late_lines k U [] m all h = h
  late_lines k U ((at, t.Newline) ∷ passed) m all h = late_lines k U passed m all.1 h
  late_lines k U ((at, y) ∷ passed) m all h = absurd (true≢false (sym all.0))

  late : (k : Kept Tree) (i : Bool) (U : List Frame) (y : Terminal) (ts m : List Placed) (n : Next)
      → token true y ts m → is_newline y ≡ false → ((at : ℕ) → transition most (done k) i U at y ≡ n)
      → ((at : ℕ) → i ≡ false → transition most (paused k) false U at y ≡ n) → Go n m → Read (done k) i U ts
  late k true U y ts m n tk ne e g h = takes most r (done k) true U y ts m n tk ne e h
  late k false U y ts m n tk ne e g h = ap (run most (done k) false U) tk.1.2 ∙ by tk.1.0 tk.1.1
    where
      by : (passed : List Placed) → AllByRecursion (λ t. (true && is_newline t.1) ≡ true) passed
          → Read (done k) false U (passed ++ tk.0)
      by [] all = ap (run most (done k) false U) tk.2.1 ∙ moves most r (done k) false U tk.2.0 y m n ne (e tk.2.0) h
      by ((at, t.Newline) ∷ passed) all = late_lines k U passed tk.0 all.1 (ap (run most (paused k) false U) tk.2.1
          ∙ moves most r (paused k) false U tk.2.0 y m n ne (g tk.2.0 refl) h)
      by ((at, u) ∷ passed) all = absurd (true≢false (sym all.0))

  -- `?` after a condition
  asks : (e : Tree) (i : Bool) (S : List Frame) (ts m : List Placed) → Spined e → 1 ≤ rank e → Fits S 1
      → token true t.Question ts m → Read (wanted true) i (asked (keep most e) ∷ S) m
      → Read (done (keep most (last e))) i (spine most e S) ts
  asks e i S ts m sp le fits tk h =
      let shut : closed most 1 (keep most (last e)) (spine most e S) ≡ (keep most e, S) = closes most e 1 S sp le
      ∙ stops most S 1 (keep most e) (omega arith) (omega arith) fits in
      late (keep most (last e)) i (spine most e S) t.Question ts m (Some (wanted true, i, asked (keep most e) ∷ S)) tk
      refl (λ at. ap (with_question most i) shut) (λ at f. ap (with_question most false) shut
      ∙ ap (λ b. Some (wanted true, b, asked (keep most e) ∷ S)) (sym f)) h

  -- `:` after the first branch
  chooses : (e : Tree) (c : Kept Tree) (i : Bool) (S : List Frame) (ts m : List Placed) → Spined e
      → token true t.Colon ts m → Read (wanted true) i (chosen c (keep most e) ∷ S) m
      → Read (done (keep most (last e))) i (spine most e (asked c ∷ S)) ts
  chooses e c i S ts m sp tk h =
      let shut : closed most 0 (keep most (last e)) (spine most e (asked c ∷ S)) ≡ (keep most e, asked c ∷ S) =
      closes most e 0 (asked c ∷ S) sp (omega arith) in
      late (keep most (last e)) i (spine most e (asked c ∷ S)) t.Colon ts m
      (Some (wanted true, i, chosen c (keep most e) ∷ S)) tk refl (λ at. ap (colon_on most i) shut)
      (λ at f. ap (late_colon_on most) shut ∙ ap (λ b. Some (wanted true, b, chosen c (keep most e) ∷ S)) (sym f))
      h

  -- ---- separators

  -- in an object
  member_parted : (U : List Frame) (passed m : List Placed) → AllByRecursion (λ t. is_separator t.1 ≡ true) passed
      → Read member false U m → Read member false U (passed ++ m)
  member_parted U [] m all h = h
  member_parted U ((at, t.Newline) ∷ passed) m all h = member_parted U passed m all.1 h
  member_parted U ((at, t.Comma) ∷ passed) m all h = member_parted U passed m all.1 h
  member_parted U ((at, y) ∷ passed) m all h = absurd (true≢false (sym all.0))

  pub parts_members : (U : List Frame) (ts m : List Placed) → separators ts m → Read member false U m
      → Read member false U ts
  parts_members U ts m k h = ap (run most member false U) k.2 ∙ member_parted U k.0 m k.1 h

  -- after a member
  past_parted : (d : Kept MemberTree) (U V : List Frame) (at : ℕ) (y : Terminal) (m : List Placed)
      → is_separator y ≡ true → member_put d U ≡ Some (member, false, V) → Read member false V m
      → Read (past_member d) false U ((at, y) ∷ m)
  past_parted d U V at t.Newline m is e h = ap (λ n. option_and_then (λ q. run most q.0 q.1 q.2 m) n) e ∙ h
  past_parted d U V at t.Comma m is e h = ap (λ n. option_and_then (λ q. run most q.0 q.1 q.2 m) n) e ∙ h
  past_parted d U V at y m is e h = absurd (true≢false (sym is))

  -- in an array, before an item
  item_passed : (o : ℕ) (i : Bool) (es : List Tree) (S : List Frame) (passed m : List Placed)
      → AllByRecursion (λ t. is_separator t.1 ≡ true) passed
      → Read item false (in_array o i (keep_list most es) ∷ S) m
      → Read item false (in_array o i (keep_list most es) ∷ S) (passed ++ m)
  item_passed o i es S [] m all h = h
  item_passed o i es S ((at, t.Newline) ∷ passed) m all h = item_passed o i es S passed m all.1 h
  item_passed o i es S ((at, t.Comma) ∷ passed) m all h = item_passed o i es S passed m all.1 h
  item_passed o i es S ((at, y) ∷ passed) m all h = absurd (true≢false (sym all.0))

  parts_items : (o : ℕ) (i : Bool) (es : List Tree) (S : List Frame) (ts m : List Placed) → separators ts m
      → Read item false (in_array o i (keep_list most es) ∷ S) m
      → Read item false (in_array o i (keep_list most es) ∷ S) ts
  parts_items o i es S ts m k h = ap (run most item false (in_array o i (keep_list most es) ∷ S)) k.2
      ∙ item_passed o i es S k.0 m k.1 h

  -- after the `[`
  parts_opened : (o : ℕ) (i : Bool) (S : List Frame) (ts m : List Placed) → separators ts m
      → ((b : Bool) → Read item false (array_frame most b o i [] ∷ S) m) → Read item false (opened o i ∷ S) ts
  parts_opened o i S ts m k h = ap (run most item false (opened o i ∷ S)) k.2 ∙ by k.0 k.1
    where
      by : (passed : List Placed) → AllByRecursion (λ t. is_separator t.1 ≡ true) passed
          → Read item false (opened o i ∷ S) (passed ++ m)
      by [] all = h true
      by ((at, t.Newline) ∷ passed) all = item_passed o i [] S passed m all.1 (h false)
      by ((at, t.Comma) ∷ passed) all = item_passed o i [] S passed m all.1 (h false)
      by ((at, y) ∷ passed) all = absurd (true≢false (sym all.0))

  -- an item is in its array
  item_put : (b : Bool) (o : ℕ) (i : Bool) (es : List Tree) (e : Tree) (S : List Frame)
      → comma_on most (keep most e, array_frame most b o i es ∷ S)
      ≡ Some (item, false, in_array o i (keep_list most (es ++ e ∷ [])) ∷ S)
  item_put true o i [] e S = ap (λ k. Some (item, false, in_array o i k ∷ S)) (list_put most [] e)
  item_put true o i (y ∷ es) e S = ap (λ k. Some (item, false, in_array o i k ∷ S)) (list_put most (y ∷ es) e)
  item_put false o i es e S = ap (λ k. Some (item, false, in_array o i k ∷ S)) (list_put most es e)

  item_line : (b : Bool) (o : ℕ) (i : Bool) (es : List Tree) (e : Tree) (S : List Frame)
      → newline_on most (keep most e, array_frame most b o i es ∷ S)
      ≡ Some (item, false, in_array o i (keep_list most (es ++ e ∷ [])) ∷ S)
  item_line true o i [] e S = ap (λ k. Some (item, false, in_array o i k ∷ S)) (list_put most [] e)
  item_line true o i (y ∷ es) e S = ap (λ k. Some (item, false, in_array o i k ∷ S)) (list_put most (y ∷ es) e)
  item_line false o i es e S = ap (λ k. Some (item, false, in_array o i k ∷ S)) (list_put most es e)

  shut_array : (b : Bool) (o : ℕ) (i : Bool) (es : List Tree) (k : Kept Tree) (S : List Frame)
      → closed most 0 k (array_frame most b o i es ∷ S) ≡ (k, array_frame most b o i es ∷ S)
  shut_array true o i [] k S = refl
  shut_array true o i (y ∷ es) k S = refl
  shut_array false o i es k S = refl

  -- a separator after an item
  part_item : (e : Tree) (b : Bool) (o : ℕ) (i : Bool) (es : List Tree) (S : List Frame) (at : ℕ) (y : Terminal)
      (m : List Placed) → Spined e → is_separator y ≡ true
      → Read item false (in_array o i (keep_list most (es ++ e ∷ [])) ∷ S) m
      → Read (done (keep most (last e))) false (spine most e (array_frame most b o i es ∷ S)) ((at, y) ∷ m)
  part_item e b o i es S at t.Comma m sp is h =
      ends most r e false (array_frame most b o i es ∷ S) t.Comma ((at, t.Comma) ∷ m) m (comma_on most) sp
      ((at, t.Comma) ∷ m, ([], tt, refl), (at, refl)) refl (λ k U at. refl)
      (ap (λ p. option_and_then (λ q. run most q.0 q.1 q.2 m) (comma_on most p)) (shut_array b o i es (keep most e) S)
      ∙ ap (λ n. option_and_then (λ q. run most q.0 q.1 q.2 m) n) (item_put b o i es e S) ∙ h)
  part_item e b o i es S at t.Newline m sp is h =
      rejoins most r (keep most (last e)) (spine most e (array_frame most b o i es ∷ S)) (
        item,
        false,
        in_array o i (keep_list most (es ++ e ∷ [])) ∷ S,
      ) m tt
      (ap (newline_on most) (closes most e 0 (array_frame most b o i es ∷ S) sp (omega arith)
      ∙ shut_array b o i es (keep most e) S) ∙ item_line b o i es e S) h
  part_item e b o i es S at y m sp is h = absurd (true≢false (sym is))

  -- `]` after an item
  close_item : (e : Tree) (b : Bool) (o : ℕ) (i : Bool) (es : List Tree) (S : List Frame) (ts ks : List Placed)
      → Spined e → sign t.CloseBracket ts ks → Read (done (keep most (array o (trees (es ++ e ∷ []))))) i S ks
      → Read (done (keep most (last e))) false (spine most e (array_frame most b o i es ∷ S)) ts
  close_item e b o i es S ts ks sp (at, is) h =
      ends most r e false (array_frame most b o i es ∷ S) t.CloseBracket ts ks (bracket_on most false) sp
      (ts, ([], tt, refl), (at, is)) refl (λ k U at. refl)
      (ap (λ p. option_and_then (λ q. run most q.0 q.1 q.2 ks) (bracket_on most false p))
      (shut_array b o i es (keep most e) S) ∙ by b es h)
    where
      by : (b : Bool) (es : List Tree) → Read (done (keep most (array o (trees (es ++ e ∷ []))))) i S ks
          → Go (bracket_on most false (keep most e, array_frame most b o i es ∷ S)) ks
      by true [] h = same_done _ _ i S ks (ap (of_items most o) (list_put most [] e) ∙ keep_array most o (e ∷ [])) h
      by true (y ∷ es) h = same_done _ _ i S ks (ap (of_items most o) (list_put most (y ∷ es) e)
          ∙ keep_array most o ((y ∷ es) ++ e ∷ [])) h
      by false es h = same_done _ _ i S ks (ap (of_items most o) (list_put most es e)
          ∙ keep_array most o (es ++ e ∷ [])) h

  -- `]` after separators
  close_items : (b : Bool) (o : ℕ) (i : Bool) (es : List Tree) (S : List Frame) (ts ks : List Placed)
      → sign t.CloseBracket ts ks → Read (done (keep most (array o (trees es)))) i S ks
      → Read item false (array_frame most b o i es ∷ S) ts
  close_items true o i [] S ts ks k h =
      goes most r item (opened o i ∷ S) t.CloseBracket ts ks (Some (done (of_items most o empty), i, S)) k
      (λ at. refl) (same_done _ _ i S ks (keep_array most o []) h)
  close_items true o i (y ∷ es) S ts ks k h =
      goes most r item (in_array o i (keep_list most (y ∷ es)) ∷ S) t.CloseBracket ts ks
      (Some (done (of_items most o (keep_list most (y ∷ es))), i, S)) k (λ at. refl)
      (same_done _ _ i S ks (keep_array most o (y ∷ es)) h)
  close_items false o i es S ts ks k h = goes most r item (in_array o i (keep_list most es) ∷ S) t.CloseBracket ts ks
      (Some (done (of_items most o (keep_list most es)), i, S)) k (λ at. refl)
      (same_done _ _ i S ks (keep_array most o es) h)

  -- ---- members

  -- a value in its place is a member
  as_member : (e : Tree) (n : Label) (o : ℕ) (was : Bool) (ms : Kept (List MemberTree)) (S : List Frame)
      (ts : List Placed) → Spined e
      → Read (past_member (of_property n (of_plain (keep most e)))) false (in_object o was ms ∷ S) ts
      → Read (done (keep most (last e))) false (spine most e (valued n ∷ in_object o was ms ∷ S)) ts
  as_member e n o was ms S [] sp h = absurd cc
  as_member e n o was ms S ((at, t.Newline) ∷ ts) sp h =
      rejoins most r (keep most (last e)) (spine most e (valued n ∷ in_object o was ms ∷ S)) (
        member,
        false,
        in_object o was (put ms (of_property n (of_plain (keep most e)))) ∷ S,
      ) ts tt
      (ap (newline_on most) (closes most e 0 (valued n ∷ in_object o was ms ∷ S) sp (omega arith))) h
  as_member e n o was ms S ((at, t.Comma) ∷ ts) sp h =
      ends most r e false (valued n ∷ in_object o was ms ∷ S) t.Comma ((at, t.Comma) ∷ ts) ts (comma_on most) sp
      ((at, t.Comma) ∷ ts, ([], tt, refl), (at, refl)) refl (λ k U at. refl) h
  as_member e n o was ms S ((at, t.CloseBrace) ∷ ts) sp h =
      ends most r e false (valued n ∷ in_object o was ms ∷ S) t.CloseBrace ((at, t.CloseBrace) ∷ ts) ts
      (brace_on most) sp ((at, t.CloseBrace) ∷ ts, ([], tt, refl), (at, refl)) refl (λ k U at. refl) h
  as_member e n o was ms S ((at, y) ∷ ts) sp h = absurd cc

  -- an object that is an expression
  object_plain : (S : List Frame) (n : ℕ) (i : Bool) (k : Kept ObjectTree) → Fits S n
      → object_on most i k S ≡ Some (done (of_object k), i, S)
  object_plain [] n i k h = refl
  object_plain (bodied b g ∷ S) n i k h = absurd h
  object_plain (F ∷ S) n i k h = refl

  -- ---- loops

  pair_made : (w a b : Name)
      → of_call most (f.Plain w) (name a ∷ name b ∷ [], 0) ≡ (
        call (f.Plain w) (more (name a) (more (name b) none)),
        1,
      )
  unfolding made
  pair_made w a b = ap (λ v. cond v (call (f.Plain w) (more (name a) (more (name b) none)), 0 + 1) (gap, most + 1))
      (low_is most low)
    where
      low_is : (n : ℕ) → 1 ≤ n → nat_lt 0 n ≡ true
      low_is n h = grind (arith, nat_tests)

  -- the names after `[for`, and `in`
  pub loop_begins : (l : LoopNames) (o from : ℕ) (P : List Frame) (ts m : List Placed)
      → ((n : Name) → named_on o false n P ≡ Some (among o (ns.Item n), false, P))
      → (loop_names l ▹ word (codes "in")) ts m → Go (over_on o l P) m
      → Read (s.named (record { at = from; text = codes "for" })) false (opened o false ∷ P) ts
  loop_begins (ns.Item n) o from P ts m may (k1, nm, wd) h =
      takes_at most r _ false (opened o false ∷ P) n.at (t.Name n.text) ts k1 (Some (among o (ns.Item n), false, P))
      nm refl (ap (λ b. cond b (named_on o false n P) None) for_is ∙ may n)
      (goes most r (among o (ns.Item n)) P (t.Name (codes "in")) k1 m (over_on o (ns.Item n) P) wd
      (λ at. ap (λ b. cond b (over_on o (ns.Item n) P) None) in_is) h)
  loop_begins (ns.Both a b) o from P ts m may (k1, (k2, op, (k3, na, (k4, cm, (k5, nb, cl)))), wd) h =
      let w : Name = record { at = from; text = codes "for" } in
      let F : List (Kept Tree) = [] in
      goes most r (s.named w) (opened o false ∷ P) t.OpenParen ts k2
      (Some (s.first, true, calling (s.function (f.Plain w)) false empty ∷ opened o false ∷ P)) op (λ at. refl)
      (takes_at most r s.first true (calling (s.function (f.Plain w)) false empty ∷ opened o false ∷ P) a.at
      (t.Name a.text) k2 k3
      (Some (s.named a, true, calling (s.function (f.Plain w)) false empty ∷ opened o false ∷ P)) na refl refl
      (takes most r (s.named a) true (calling (s.function (f.Plain w)) false empty ∷ opened o false ∷ P) t.Comma k3 k4
      (Some (
        wanted false,
        true,
        calling (s.function (f.Plain w)) false (put empty (flat (name a)))
            ∷ opened o false ∷ P,
      )) cm refl (λ at. refl)
      (takes_at most r (wanted false) true (calling (s.function (f.Plain w)) false (put empty (flat (name a)))
      ∷ opened o false ∷ P) b.at (t.Name b.text) k4 k5
      (Some (
        s.named b,
        true,
        calling (s.function (f.Plain w)) false (put empty (flat (name a))) ∷ opened o false
            ∷ P,
      )) nb refl refl
      (takes most r (s.named b) true (calling (s.function (f.Plain w)) false (put empty (flat (name a)))
      ∷ opened o false ∷ P) t.CloseParen k5 k1
      (Some (done (of_call most (f.Plain w) (name a ∷ name b ∷ [], 0)), false, opened o false ∷ P)) cl refl
      (λ at. refl)
      (same_done _ _ false (opened o false ∷ P) k1 (pair_made w a b)
      (goes most r (done (call (f.Plain w) (more (name a) (more (name b) none)), 1)) (opened o false ∷ P)
      (t.Name (codes "in")) k1 m (over_on o (ns.Both a b) P) wd
      (λ at. ap (λ v. cond v (cond (is_for (codes "for")) (over_on o (ns.Both a b) P) None) None) in_is
      ∙ ap (λ v. cond v (over_on o (ns.Both a b) P) None) for_is) h))))))

  -- the names after `[for` of a body, and `in`
  pub body_begins : (ns : LoopNames) (o : ℕ) (P : List Frame) (ts m : List Placed)
      → (loop_names ns ▹ word (codes "in")) ts m → Go (over_on o ns P) m → Read (names_wanted o) false P ts
  body_begins (ns.Item n) o P ts m (k1, nm, wd) h =
      takes_at most r (names_wanted o) false P n.at (t.Name n.text) ts k1 (Some (among o (ns.Item n), false, P)) nm
      refl refl
      (goes most r (among o (ns.Item n)) P (t.Name (codes "in")) k1 m (over_on o (ns.Item n) P) wd
      (λ at. ap (λ b. cond b (over_on o (ns.Item n) P) None) in_is) h)
  body_begins (ns.Both a b) o P ts m (k1, (k2, op, (k3, na, (k4, cm, (k5, nb, cl)))), wd) h =
      goes most r (names_wanted o) P t.OpenParen ts k2 (Some (one_wanted, true, in_names o ∷ P)) op (λ at. refl)
      (takes_at most r one_wanted true (in_names o ∷ P) a.at (t.Name a.text) k2 k3
      (Some (one_named a, true, in_names o ∷ P)) na refl refl
      (takes most r (one_named a) true (in_names o ∷ P) t.Comma k3 k4 (Some (other_wanted a, true, in_names o ∷ P)) cm
      refl (λ at. refl)
      (takes_at most r (other_wanted a) true (in_names o ∷ P) b.at (t.Name b.text) k4 k5
      (Some (both_named a b, true, in_names o ∷ P)) nb refl refl
      (takes most r (both_named a b) true (in_names o ∷ P) t.CloseParen k5 k1 (Some (among o (ns.Both a b), false, P))
      cl refl (λ at. refl)
      (goes most r (among o (ns.Both a b)) P (t.Name (codes "in")) k1 m (over_on o (ns.Both a b) P) wd
      (λ at. ap (λ v. cond v (over_on o (ns.Both a b) P) None) in_is) h)))))

  -- a primary expression is the last of itself
  from_primary : (e : Tree) (i : Bool) (S : List Frame) (ts : List Placed) → 9 ≤ rank e
      → Read (done (keep most e)) i S ts → Read (done (keep most (last e))) i (spine most e S) ts
  from_primary e i S ts le h = subst (λ y. Read (done (keep most y)) i (spine most e S) ts) (sym (last-primary e le))
      (subst (λ T. Read (done (keep most e)) i T ts) (sym (spine-primary most e S le)) h)

  array_fits : (c : Bool) (at : ℕ) (i : Bool) (es : List Tree) (S : List Frame) (n : ℕ)
      → Fits (array_frame most c at i es ∷ S) n
  array_fits true at i [] S n = tt
  array_fits true at i (e ∷ es) S n = tt
  array_fits false at i es S n = tt

  go_same : (n m : Next) (ts : List Placed) → n ≡ m → Go m ts → Go n ts
  go_same n m ts e h = ap (λ q. option_and_then (λ p. run most p.0 p.1 p.2 ts) q) e ∙ h

  -- the braces of an object whose members were read
  braces_same : (at : ℕ) (was : Bool) (k : Kept (List MemberTree)) (ms : List MemberTree) (S : List Frame)
      (ks : List Placed) → k ≡ keep_members most ms
      → Go (object_on most was (keep_object most (braces at (members ms))) S) ks
      → Go (object_on most was (of_members most at k) S) ks
  braces_same at was k ms S ks e h = go_same _ _ ks (ap (λ y. object_on most was (of_members most at y) S) e
      ∙ ap (λ o. object_on most was o S) (keep_braces most at ms)) h

  -- separators and `}` after a member
  end_member : (at : ℕ) (was : Bool) (ms : List MemberTree) (m : MemberTree) (S : List Frame) (ts ks : List Placed)
      → (separators ▹ sign t.CloseBrace) ts ks
      → Go (object_on most was (keep_object most (braces at (members (ms ++ m ∷ [])))) S) ks
      → Read (past_member (keep_member most m)) false (in_object at was (keep_members most ms) ∷ S) ts
  end_member at was ms m S ts ks (m1, (passed, all, is), cl) h =
      ap (run most (past_member (keep_member most m)) false (in_object at was (keep_members most ms) ∷ S)) is
      ∙ by passed all
    where
      shut : Read member false (in_object at was (put (keep_members most ms) (keep_member most m)) ∷ S) m1
      shut = goes most r member (in_object at was (put (keep_members most ms) (keep_member most m)) ∷ S) t.CloseBrace
          m1 ks (object_on most was (of_members most at (put (keep_members most ms) (keep_member most m))) S) cl
          (λ x. refl) (braces_same at was (put (keep_members most ms) (keep_member most m)) (ms ++ m ∷ []) S ks
          (members_put most ms m) h)

      by : (passed : List Placed) → AllByRecursion (λ t. is_separator t.1 ≡ true) passed
          → Read (past_member (keep_member most m)) false (in_object at was (keep_members most ms) ∷ S) (passed ++ m1)
      by [] all = goes most r (past_member (keep_member most m)) (in_object at was (keep_members most ms) ∷ S)
          t.CloseBrace m1 ks
          (object_on most was (of_members most at (put (keep_members most ms) (keep_member most m))) S) cl (λ x. refl)
          (braces_same at was (put (keep_members most ms) (keep_member most m)) (ms ++ m ∷ []) S ks
          (members_put most ms m) h)
      by ((x, y) ∷ passed) all = past_parted (keep_member most m) (in_object at was (keep_members most ms) ∷ S)
          (in_object at was (put (keep_members most ms) (keep_member most m)) ∷ S) x y (passed ++ m1) all.0 refl
          (member_parted (in_object at was (put (keep_members most ms) (keep_member most m)) ∷ S) passed m1 all.1
          shut)

  -- separators, and another member
  next_member : (at : ℕ) (was : Bool) (ms : List MemberTree) (m : MemberTree) (S : List Frame) (ts ks : List Placed)
      → separated ts ks → Read member false (in_object at was (keep_members most (ms ++ m ∷ [])) ∷ S) ks
      → Read (past_member (keep_member most m)) false (in_object at was (keep_members most ms) ∷ S) ts
  next_member at was ms m S ts ks (m1, (x, y, is, sep), seps) h =
      ap (run most (past_member (keep_member most m)) false (in_object at was (keep_members most ms) ∷ S)) is
      ∙ past_parted (keep_member most m) (in_object at was (keep_members most ms) ∷ S)
      (in_object at was (keep_members most (ms ++ m ∷ [])) ∷ S) x y m1 sep
      (ap (λ k. Some (member, false, in_object at was k ∷ S)) (members_put most ms m))
      (parts_members (in_object at was (keep_members most (ms ++ m ∷ [])) ∷ S) m1 ks seps h)

  -- the end of the members after one
  all_members : (before : List MemberTree) (m : MemberTree) (ms : MemberTrees)
      → (before ++ m ∷ []) ++ each_member ms ≡ before ++ m ∷ each_member ms
  all_members before m ms = append_assoc before (m ∷ []) (each_member ms)

  -- ---- names and words

  reads_label : (n : Label) (U : List Frame) (ts m : List Placed) → form.labelled n ts m → Read (labelled n) false U m
      → Read member false U ts
  reads_label (label.Name n) U ts m k h =
      takes_at most r member false U n.at (t.Name n.text) ts m (Some (labelled (label.Name n), false, U)) k refl refl
      h
  reads_label (label.Quoted q) U ts m k h =
      goes_at most r member U q.at (t.Literal (l.Text q.text)) ts m (Some (labelled (label.Quoted q), false, U)) k
      refl h

  label_colon : (n : Label) (U : List Frame) (at : ℕ)
      → transition most (labelled n) false U at t.Colon ≡ Some (wanted false, false, valued n ∷ U)
  label_colon (label.Name n) U at = refl
  label_colon (label.Quoted q) U at = refl

  reads_for : (o at : ℕ) (U : List Frame) (ts m : List Placed) → sign_at at (t.Name (codes "for")) ts m
      → Read (names_wanted o) false U m → Read (for_wanted o) false U ts
  reads_for o at U ts m k h =
      goes_at most r (for_wanted o) U at (t.Name (codes "for")) ts m (Some (names_wanted o, false, U)) k
      (ap (λ b. cond b (Some (names_wanted o, false, U)) None) for_is) h

  -- the function of a decorator, and `(`
  pub reads_function : (g : Function) (K : Decorators) (d : ℕ) (U : List Frame) (ts m : List Placed)
      → (form.decorating g ▹ sign t.OpenParen) ts m
      → Read s.first true (calling (s.decorating K d g) false empty ∷ U) m → Read (at_sign K d) false U ts
  reads_function (f.Plain n) K d U ts m (m1, nm, op) h =
      takes_at most r (at_sign K d) false U n.at (t.Name n.text) ts m1 (Some (decorator_named K d n, false, U)) nm
      refl refl
      (goes most r (decorator_named K d n) U t.OpenParen m1 m
      (Some (s.first, true, calling (s.decorating K d (f.Plain n)) false empty ∷ U)) op (λ y. refl) h)
  reads_function (f.Qualified at z.Sys n) K d U ts m (m1, (m2, sp, (m3, dot, nm)), op) h =
      let y_at : Name = record { at = at; text = codes "sys" } in
      goes_at most r (at_sign K d) U at (t.Name (codes "sys")) ts m2 (Some (decorator_named K d y_at, false, U)) sp refl
      (goes most r (decorator_named K d y_at) U (t.Access a.Member) m2 m3 (Some (decorator_spaced K d at, false, U))
      dot (λ y. ap (λ b. cond b (Some (decorator_spaced K d at, false, U)) None) sys_is)
      (takes_at most r (decorator_spaced K d at) false U n.at (t.Name n.text) m3 m1
      (Some (decorator_ready K d (f.Qualified at z.Sys n), false, U)) nm refl refl
      (goes most r (decorator_ready K d (f.Qualified at z.Sys n)) U t.OpenParen m1 m
      (Some (s.first, true, calling (s.decorating K d (f.Qualified at z.Sys n)) false empty ∷ U)) op
      (λ y. refl) h)))
  reads_function (f.Qualified at z.Az n) K d U ts m (m1, nm, op) h = absurd nm

  -- a type text, `existing` perhaps, and `=`
  pub child_header : (K : Decorators) (o : ℕ) (n : Name) (q : Quoted) (x : Bool) (U : List Frame) (ts m : List Placed)
      → (quoted q ▹ grammar.existing x ▹ sign t.Assign) ts m
      → Read s.body false (bodied (header K o (owner.Child x) n q) nothing_before ∷ U) m
      → Read (declared K o w.Child n) false U ts
  child_header K o n q false U ts m (m1, qu, (m2, ex, asg)) h =
      goes_at most r (declared K o w.Child n) U q.at (t.Literal (l.Text q.text)) ts m1
      (Some (headed (header K o (owner.Child false) n q), false, U)) qu refl
      (ap (run most (headed (header K o (owner.Child false) n q)) false U) ex
      ∙ goes most r (headed (header K o (owner.Child false) n q)) U t.Assign m2 m
      (Some (s.body, false, bodied (header K o (owner.Child false) n q) nothing_before ∷ U)) asg (λ y. refl) h)
  child_header K o n q true U ts m (m1, qu, (m2, ex, asg)) h =
      goes_at most r (declared K o w.Child n) U q.at (t.Literal (l.Text q.text)) ts m1
      (Some (headed (header K o (owner.Child false) n q), false, U)) qu refl
      (goes most r (headed (header K o (owner.Child false) n q)) U (t.Name (codes "existing")) m1 m2
      (Some (existed (header K o (owner.Child true) n q), false, U)) ex
      (λ y. ap (λ b. cond b (Some (existed (header K o (owner.Child true) n q), false, U)) None) existing_is)
      (goes most r (existed (header K o (owner.Child true) n q)) U t.Assign m2 m
      (Some (s.body, false, bodied (header K o (owner.Child true) n q) nothing_before ∷ U)) asg (λ y. refl) h))

  pub resource_header : (K : Decorators) (o : ℕ) (n : Name) (q : Quoted) (x : Bool) (U : List Frame)
      (ts m : List Placed) → (quoted q ▹ grammar.existing x ▹ sign t.Assign) ts m
      → Read s.body false (bodied (header K o (owner.Resource x) n q) nothing_before ∷ U) m
      → Read (declared K o w.Resource n) false U ts
  resource_header K o n q false U ts m (m1, qu, (m2, ex, asg)) h =
      goes_at most r (declared K o w.Resource n) U q.at (t.Literal (l.Text q.text)) ts m1
      (Some (headed (header K o (owner.Resource false) n q), false, U)) qu refl
      (ap (run most (headed (header K o (owner.Resource false) n q)) false U) ex
      ∙ goes most r (headed (header K o (owner.Resource false) n q)) U t.Assign m2 m
      (Some (s.body, false, bodied (header K o (owner.Resource false) n q) nothing_before ∷ U)) asg (λ y. refl) h)
  resource_header K o n q true U ts m (m1, qu, (m2, ex, asg)) h =
      goes_at most r (declared K o w.Resource n) U q.at (t.Literal (l.Text q.text)) ts m1
      (Some (headed (header K o (owner.Resource false) n q), false, U)) qu refl
      (goes most r (headed (header K o (owner.Resource false) n q)) U (t.Name (codes "existing")) m1 m2
      (Some (existed (header K o (owner.Resource true) n q), false, U)) ex
      (λ y. ap (λ b. cond b (Some (existed (header K o (owner.Resource true) n q), false, U)) None) existing_is)
      (goes most r (existed (header K o (owner.Resource true) n q)) U t.Assign m2 m
      (Some (s.body, false, bodied (header K o (owner.Resource true) n q) nothing_before ∷ U)) asg (λ y. refl) h))

  in_braces : (ms : MemberTrees) (at : ℕ) (U : List Frame) (ks : List Placed)
      → Go (object_on most false (keep_object most (braces at ms)) U) ks
      → Go (object_on most false (keep_object most (braces at (members ([] ++ each_member ms)))) U) ks
  in_braces ms at U ks h =
      go_same _ _ ks (ap (λ xs. object_on most false (keep_object most (braces at xs)) U) (members-each ms)) h

  mutual
    pub complete : (e : Tree) (st : State) (i : Bool) (S : List Frame) (ts ks : List Placed) → Begins most r st i
        → Fits S (rank e) → expression i e ts ks → Read (done (keep most (last e))) i (spine most e S) ks
        → Read st i S ts
    complete (name n) st i S ts ks b fits h goal =
        begins most r st i S n.at (t.Name n.text) ts ks (s.named n, i, S) b h refl refl
        (named_reads most r n i S ks (same_done _ _ i S ks (keep_leaf most (name n) refl) goal))
    complete (literal at v) st i S ts ks b fits h goal =
        begins most r st i S at (t.Literal v) ts ks (done (flat (literal at v)), i, S) b h refl refl
        (same_done _ _ i S ks (keep_leaf most (literal at v) refl) goal)
    complete (interpolated at u hs) st i S ts ks b fits (m, tk, rest) goal =
        begins most r st i S at (t.LeftPiece u) ts m (wanted false, i, in_text at u empty ∷ S) b tk refl refl
        (complete_holes hs at u [] i S m ks rest
        (subst (λ xs. Read (done (keep most (interpolated at u xs))) i S ks) (sym (holes-each hs)) goal))
    complete (object (braces at ms)) st i S ts ks b fits (m, tk, (m1, sep, rest)) goal =
        begins most r st i S at t.OpenBrace ts m (member, false, in_object at i empty ∷ S) b tk refl refl
        (parts_members (in_object at i empty ∷ S) m m1 sep
        (complete_members ms [] at i S m1 ks rest
        (ap (λ n. option_and_then (λ q. run most q.0 q.1 q.2 ks) n)
        (ap (λ xs. object_on most i (keep_object most (braces at xs)) S) (members-each ms)
        ∙ object_plain S (rank (object (braces at ms))) i (keep_object most (braces at ms)) fits)
        ∙ same_done _ _ i S ks (keep_object_is most (braces at ms)) goal)))
    complete (array at es) st i S ts ks b fits (m, tk, (m1, sep, rest)) goal =
        begins most r st i S at t.OpenBracket ts m (item, false, opened at i ∷ S) b tk refl refl
        (parts_opened at i S m m1 sep
        (λ c. complete_items es c [] at i S m1 ks rest
        (subst (λ xs. Read (done (keep most (array at xs))) i S ks) (sym (trees-each es)) goal)))
    complete (parentheses at e) st i S ts ks b fits (m, tk, (m1, inner, cl)) goal =
        begins most r st i S at t.OpenParen ts m (wanted false, true, grouping at i ∷ S) b tk refl refl
        (complete e (wanted false) true (grouping at i ∷ S) m m1 tt tt inner
        (ends most r e true (grouping at i ∷ S) t.CloseParen m1 ks (paren_on most) (spined e true m m1 inner) cl refl
        (λ k U at. refl) (same_done _ _ i S ks (keep_parentheses most at e) goal)))
    complete (call (f.Plain n) es) st i S ts ks b fits (m, nm, (m1, op, args)) goal =
        begins most r st i S n.at (t.Name n.text) ts m (s.named n, i, S) b nm refl refl
        (takes most r (s.named n) i S t.OpenParen m m1
        (Some (s.first, true, calling (s.function (f.Plain n)) i empty ∷ S)) op refl (λ at. refl)
        (complete_arguments es (s.function (f.Plain n)) i S m1 ks args
        (same_done _ _ i S ks (keep_call most (f.Plain n) (each_tree es))
        (subst (λ xs. Read (done (keep most (call (f.Plain n) xs))) i S ks) (sym (trees-each es)) goal))))
    complete (call (f.Qualified at y n) es) st i S ts ks b fits (m, (m2, sp, (m3, dot, nm)), (m1, op, args)) goal =
        let y_at : Name = record { at = at; text = namespace_word y } in
        begins most r st i S at (t.Name (namespace_word y)) ts m2 (s.named y_at, i, S) b sp refl refl
        (takes most r (s.named y_at) i S (t.Access a.Member) m2 m3 (Some (qualifying y y_at, i, S)) dot refl
        (λ at. ap (λ o. space_on most o y_at i S) (namespace_is y))
        (takes_at most r (qualifying y y_at) i S n.at (t.Name n.text) m3 m (Some (qualified y y_at n, i, S)) nm refl
        refl
        (takes most r (qualified y y_at n) i S t.OpenParen m m1
        (Some (s.first, true, calling (s.function (f.Qualified at y n)) i empty ∷ S)) op refl (λ at. refl)
        (complete_arguments es (s.function (f.Qualified at y n)) i S m1 ks args
        (same_done _ _ i S ks (keep_call most (f.Qualified at y n) (each_tree es))
        (subst (λ xs. Read (done (keep most (call (f.Qualified at y n) xs))) i S ks) (sym (trees-each es))
        goal))))))
    complete (access e k n) st i S ts ks b fits (le, (m, inner, (m1, dot, nm))) goal =
        complete e st i S ts m b (Fits-mono S 9 (rank e) le fits) inner
        (from_primary e i S m le
        (takes most r (done (keep most e)) i S (t.Access k) m m1 (Some (dotted k (keep most e), i, S)) dot refl
        (λ at. refl)
        (takes_at most r (dotted k (keep most e)) i S n.at (t.Name n.text) m1 ks
        (Some (done (of_access most (keep most e) k n), i, S)) nm refl refl
        (same_done _ _ i S ks (keep_access most e k n) goal))))
    complete (index e x.Plain y) st i S ts ks b fits (le, (m, inner, (m1, op, (m2, at, cl)))) goal =
        complete e st i S ts m b (Fits-mono S 9 (rank e) le fits) inner
        (from_primary e i S m le
        (takes most r (done (keep most e)) i S t.OpenBracket m m1
        (Some (wanted false, i, indexing (keep most e) x.Plain ∷ S)) op refl (λ at. refl)
        (complete y (wanted false) i (indexing (keep most e) x.Plain ∷ S) m1 m2 tt tt at
        (ends most r y i (indexing (keep most e) x.Plain ∷ S) t.CloseBracket m2 ks (bracket_on most i)
        (spined y i m1 m2 at) cl refl (λ k U at. refl)
        (same_done _ _ i S ks (keep_index most e x.Plain y) goal)))))
    complete (index e x.Safe y) st i S ts ks b fits (le, (m, inner, (m1, op, (m2, at, cl)))) goal =
        complete e st i S ts m b (Fits-mono S 9 (rank e) le fits) inner
        (from_primary e i S m le
        (takes most r (done (keep most e)) i S t.SafeBracket m m1
        (Some (wanted false, i, indexing (keep most e) x.Safe ∷ S)) op refl (λ at. refl)
        (complete y (wanted false) i (indexing (keep most e) x.Safe ∷ S) m1 m2 tt tt at
        (ends most r y i (indexing (keep most e) x.Safe ∷ S) t.CloseBracket m2 ks (bracket_on most i)
        (spined y i m1 m2 at) cl refl (λ k U at. refl)
        (same_done _ _ i S ks (keep_index most e x.Safe y) goal)))))
    complete (not_null e) st i S ts ks b fits (le, (m, inner, tk)) goal =
        complete e st i S ts m b (Fits-mono S 9 (rank e) le fits) inner
        (from_primary e i S m le
        (takes most r (done (keep most e)) i S t.Not m ks (Some (done (of_not_null most (keep most e)), i, S)) tk refl
        (λ at. refl) (same_done _ _ i S ks (keep_not_null most e) goal)))
    complete (prefixed at p.Not e) st i S ts ks b fits (le, (m, tk, inner)) goal =
        begins most r st i S at t.Not ts m (wanted false, i, prefixing at p.Not ∷ S) b tk refl refl
        (complete e (wanted false) i (prefixing at p.Not ∷ S) m ks tt le inner goal)
    complete (prefixed at p.Negate e) st i S ts ks b fits (le, (m, tk, inner)) goal =
        begins most r st i S at (prefix_sign p.Negate) ts m (wanted false, i, prefixing at p.Negate ∷ S) b tk refl
        refl (complete e (wanted false) i (prefixing at p.Negate ∷ S) m ks tt le inner goal)
    complete (binary op a b2) st i S ts ks b fits (g, (m, l1, (m1, tk, (m2, sk, l2)))) goal =
        let sp = spined a i ts m l1 in
        complete a st i S ts m b (Fits-mono S (level op) (rank a) g.0 fits) l1
        (takes most r (done (keep most (last a))) i (spine most a S) (t.Operator op) m m1
        (Some (wanted true, i, left op (keep most a) ∷ S)) tk refl
        (λ at. ap (with_operator most i op) (closes most a (level op) S sp g.0
        ∙ stops most S (level op) (keep most a) (level_bounds op).0 (level_bounds op).1 fits))
        (skips_after most r i (left op (keep most a) ∷ S) m1 m2 sk
        (complete b2 (wanted true) i (left op (keep most a) ∷ S) m2 ks tt g.1 l2 goal)))
    complete (conditional c a b2) st i S ts ks b fits
        (g, (m, l1, (m1, qu, (m2, sk, (m3, l2, (m4, co, (m5, sl, l3))))))) goal =
        let fits1 = Fits-mono S 0 1 (omega arith) fits in
        complete c st i S ts m b (Fits-mono S 0 (rank c) (omega arith) fits) l1
        (asks c i S m m1 (spined c i ts m l1) g fits1 qu
        (skips_after most r i (asked (keep most c) ∷ S) m1 m2 sk
        (complete a (wanted true) i (asked (keep most c) ∷ S) m2 m3 tt tt l2
        (chooses a (keep most c) i S m3 m4 (spined a i m2 m3 l2) co
        (skips_after most r i (chosen (keep most c) (keep most a) ∷ S) m4 m5 sl
        (complete b2 (wanted true) i (chosen (keep most c) (keep most a) ∷ S) m5 ks tt tt l3 goal))))))

    complete_holes : (hs : Holes) (at : ℕ) (u : List ℕ) (before : List (Tree × List ℕ)) (i : Bool) (S : List Frame)
        (ts ks : List Placed) → a_hole i hs ts ks
        → Read (done (keep most (interpolated at u (holes (before ++ each_hole hs))))) i S ks
        → Read (wanted false) i (in_text at u (keep_holes most before) ∷ S) ts
    complete_holes no_hole at u before i S ts ks h goal = absurd h
    complete_holes (hole e v hs) at u before i S ts ks (m, inner, rest) goal =
        complete e (wanted false) i (in_text at u (keep_holes most before) ∷ S) ts m tt tt inner
        (complete_after hs e v at u before i S m ks (spined e i ts m inner) rest goal)

    complete_after : (hs : Holes) (e : Tree) (v : List ℕ) (at : ℕ) (u : List ℕ) (before : List (Tree × List ℕ))
        (i : Bool) (S : List Frame) (ts ks : List Placed) → Spined e → after_hole i v hs ts ks
        → Read (done (keep most (interpolated at u (holes (before ++ (e, v) ∷ each_hole hs))))) i S ks
        → Read (done (keep most (last e))) i (spine most e (in_text at u (keep_holes most before) ∷ S)) ts
    complete_after no_hole e v at u before i S ts ks sp tk goal =
        ends most r e i (in_text at u (keep_holes most before) ∷ S) (t.RightPiece v) ts ks (right_on most i v) sp tk
        refl (λ k U x. refl)
        (same_done _ _ i S ks (ap (of_holes most at u) (holes_put most before e v)
        ∙ keep_interpolated most at u (before ++ (e, v) ∷ [])) goal)
    complete_after (hole e2 v2 hs) e v at u before i S ts ks sp (m, tk, (m1, inner, rest)) goal =
        ends most r e i (in_text at u (keep_holes most before) ∷ S) (t.MiddlePiece v) ts m (middle_on most i v) sp tk
        refl (λ k U x. refl)
        (subst (λ k. Read (wanted false) i (in_text at u k ∷ S) m) (sym (holes_put most before e v))
        (complete e2 (wanted false) i (in_text at u (keep_holes most (before ++ (e, v) ∷ [])) ∷ S) m m1 tt tt inner
        (complete_after hs e2 v2 at u (before ++ (e, v) ∷ []) i S m1 ks (spined e2 i m m1 inner) rest
        (subst (λ xs. Read (done (keep most (interpolated at u (holes xs)))) i S ks)
        (sym (append_assoc before ((e, v) ∷ []) ((e2, v2) ∷ each_hole hs))) goal))))

    pub complete_arguments : (es : Trees) (c : Callee) (was : Bool) (S : List Frame) (ts ks : List Placed)
        → arguments es ts ks → Go (called most c was (keep_list most (each_tree es)) S) ks
        → Read s.first true (calling c was empty ∷ S) ts
    complete_arguments none c was S ts ks tk goal =
        takes most r s.first true (calling c was empty ∷ S) t.CloseParen ts ks (called most c was empty S) tk refl
        (λ at. refl) goal
    complete_arguments (more e es) c was S ts ks (m, inner, rest) goal =
        complete e s.first true (calling c was empty ∷ S) ts m tt tt inner
        (complete_further es e c was [] S m ks (spined e true ts m inner) rest goal)

    complete_further : (es : Trees) (e : Tree) (c : Callee) (was : Bool) (before : List Tree) (S : List Frame)
        (ts ks : List Placed) → Spined e → further_arguments es ts ks
        → Go (called most c was (keep_list most (before ++ e ∷ each_tree es)) S) ks
        → Read (done (keep most (last e))) true (spine most e (calling c was (keep_list most before) ∷ S)) ts
    complete_further none e c was before S ts ks sp tk goal =
        ends most r e true (calling c was (keep_list most before) ∷ S) t.CloseParen ts ks (paren_on most) sp tk refl
        (λ k U at. refl) (go_same _ _ ks (ap (λ k. called most c was k S) (list_put most before e)) goal)
    complete_further (more e2 es) e c was before S ts ks sp (m, tk, (m1, inner, rest)) goal =
        ends most r e true (calling c was (keep_list most before) ∷ S) t.Comma ts m (comma_on most) sp tk refl
        (λ k U at. refl)
        (subst (λ k. Read (wanted false) true (calling c was k ∷ S) m) (sym (list_put most before e))
        (complete e2 (wanted false) true (calling c was (keep_list most (before ++ e ∷ [])) ∷ S) m m1 tt tt inner
        (complete_further es e2 c was (before ++ e ∷ []) S m1 ks (spined e2 true m m1 inner) rest
        (go_same _ _ ks
        (ap (λ xs. called most c was (keep_list most xs) S) (append_assoc before (e ∷ []) (e2 ∷ each_tree es)))
        goal))))

    complete_items : (es : Trees) (c : Bool) (before : List Tree) (at : ℕ) (i : Bool) (S : List Frame)
        (ts ks : List Placed) → items es ts ks
        → Read (done (keep most (array at (trees (before ++ each_tree es))))) i S ks
        → Read item false (array_frame most c at i before ∷ S) ts
    complete_items none c before at i S ts ks cl goal =
        close_items c at i before S ts ks cl
        (subst (λ xs. Read (done (keep most (array at (trees xs)))) i S ks) (append-nil before) goal)
    complete_items (more e es) c before at i S ts ks (m, inner, rest) goal =
        complete e item false (array_frame most c at i before ∷ S) ts m refl (array_fits c at i before S (rank e))
        inner (complete_further_items es e c before at i S m ks (spined e false ts m inner) rest goal)

    complete_further_items : (es : Trees) (e : Tree) (c : Bool) (before : List Tree) (at : ℕ) (i : Bool)
        (S : List Frame) (ts ks : List Placed) → Spined e → further_items es ts ks
        → Read (done (keep most (array at (trees (before ++ e ∷ each_tree es))))) i S ks
        → Read (done (keep most (last e))) false (spine most e (array_frame most c at i before ∷ S)) ts
    complete_further_items none e c before at i S ts ks sp (m, (passed, all, is), cl) goal =
        ap (run most (done (keep most (last e))) false (spine most e (array_frame most c at i before ∷ S))) is
        ∙ by passed all
      where
        by : (passed : List Placed) → AllByRecursion (λ t. is_separator t.1 ≡ true) passed
            → Read (done (keep most (last e))) false (spine most e (array_frame most c at i before ∷ S)) (passed ++ m)
        by [] all = close_item e c at i before S m ks sp cl goal
        by ((x, y) ∷ passed) all =
            part_item e c at i before S x y (passed ++ m) sp all.0
            (item_passed at i (before ++ e ∷ []) S passed m all.1
            (close_items false at i (before ++ e ∷ []) S m ks cl goal))
    complete_further_items (more e2 es) e c before at i S ts ks sp (m, (m2, (x, y, is, sep), seps), (m1, inner, rest))
        goal =
        ap (run most (done (keep most (last e))) false (spine most e (array_frame most c at i before ∷ S))) is
        ∙ part_item e c at i before S x y m2 sp sep
        (parts_items at i (before ++ e ∷ []) S m2 m seps
        (complete e2 item false (in_array at i (keep_list most (before ++ e ∷ [])) ∷ S) m m1 refl tt inner
        (complete_further_items es e2 false (before ++ e ∷ []) at i S m1 ks (spined e2 false m m1 inner) rest
        (subst (λ xs. Read (done (keep most (array at (trees xs)))) i S ks)
        (sym (append_assoc before (e ∷ []) (e2 ∷ each_tree es))) goal))))

    complete_members : (ms : MemberTrees) (before : List MemberTree) (at : ℕ) (was : Bool) (S : List Frame)
        (ts ks : List Placed) → object_members ms ts ks
        → Go (object_on most was (keep_object most (braces at (members (before ++ each_member ms)))) S) ks
        → Read member false (in_object at was (keep_members most before) ∷ S) ts
    complete_members no_member before at was S ts ks cl goal =
        goes most r member (in_object at was (keep_members most before) ∷ S) t.CloseBrace ts ks
        (object_on most was (of_members most at (keep_members most before)) S) cl (λ x. refl)
        (braces_same at was (keep_members most before) before S ks refl
        (go_same _ _ ks (ap (λ xs. object_on most was (keep_object most (braces at (members xs))) S)
        (sym (append-nil before))) goal))
    complete_members (and_member m ms) before at was S ts ks (m1, mem, rest) goal =
        complete_member m S at was (keep_members most before) ts m1 mem
        (complete_further_members ms m before at was S m1 ks rest goal)

    complete_further_members : (ms : MemberTrees) (m : MemberTree) (before : List MemberTree) (at : ℕ) (was : Bool)
        (S : List Frame) (ts ks : List Placed) → further_members ms ts ks
        → Go (object_on most was (keep_object most (braces at (members (before ++ m ∷ each_member ms)))) S) ks
        → Read (past_member (keep_member most m)) false (in_object at was (keep_members most before) ∷ S) ts
    complete_further_members no_member m before at was S ts ks h goal = end_member at was before m S ts ks h goal
    complete_further_members (and_member m2 ms) m before at was S ts ks (m1, seps, (m3, mem, rest)) goal =
        next_member at was before m S ts m1 seps
        (complete_member m2 S at was (keep_members most (before ++ m ∷ [])) m1 m3 mem
        (complete_further_members ms m2 (before ++ m ∷ []) at was S m3 ks rest
        (go_same _ _ ks (ap (λ xs. object_on most was (keep_object most (braces at (members xs))) S)
        (append_assoc before (m ∷ []) (m2 ∷ each_member ms))) goal)))

    complete_member : (m : MemberTree) (S : List Frame) (at : ℕ) (was : Bool) (ms : Kept (List MemberTree))
        (ts ks : List Placed) → a_member m ts ks
        → Read (past_member (keep_member most m)) false (in_object at was ms ∷ S) ks
        → Read member false (in_object at was ms ∷ S) ts
    complete_member (property n (plain e)) S at was ms ts ks (m1, lab, (m2, co, inner)) goal =
        reads_label n (in_object at was ms ∷ S) ts m1 lab
        (goes most r (labelled n) (in_object at was ms ∷ S) t.Colon m1 m2
        (Some (wanted false, false, valued n ∷ in_object at was ms ∷ S)) co
        (label_colon n (in_object at was ms ∷ S))
        (complete e (wanted false) false (valued n ∷ in_object at was ms ∷ S) m2 ks tt tt inner
        (as_member e n at was ms S ks (spined e false m2 ks inner) goal)))
    complete_member (property n (each (loop o ns e1) e2)) S at was ms ts ks (
      m1,
      lab,
      (m2, co, (m3, (k1, op, (k2, fo, (k3, names, (k4, within, (k5, inner, colon))))), (m4, each_one, cl))),
    ) goal =
        let U = in_object at was ms ∷ S in
        reads_label n U ts m1 lab
        (goes most r (labelled n) U t.Colon m1 m2 (Some (wanted false, false, valued n ∷ U)) co (label_colon n U)
        (goes_at most r (wanted false) (valued n ∷ U) o t.OpenBracket m2 k1
        (Some (item, false, opened o false ∷ valued n ∷ U)) op refl
        (goes_at most r item (opened o false ∷ valued n ∷ U) fo.0 (t.Name (codes "for")) k1 k2
        (Some (s.named (record { at = fo.0; text = codes "for" }), false, opened o false ∷ valued n ∷ U)) fo.1
        refl
        (loop_begins ns o fo.0 (valued n ∷ U) k2 k4 (λ x. refl) (k3, names, within)
        (complete e1 (wanted false) false (over o ns ∷ valued n ∷ U) k4 k5 tt tt inner
        (ends most r e1 false (over o ns ∷ valued n ∷ U) t.Colon k5 m3 (colon_on most false)
        (spined e1 false k4 k5 inner) (k5, ([], tt, refl), colon) refl (λ k V x. refl)
        (complete e2 (wanted false) false (looped (of_loop o ns (keep most e1)) ∷ valued n ∷ U) m3 m4 tt tt each_one
        (ends most r e2 false (looped (of_loop o ns (keep most e1)) ∷ valued n ∷ U) t.CloseBracket m4 ks
        (bracket_on most false) (spined e2 false m3 m4 each_one) (m4, ([], tt, refl), cl) refl (λ k V x. refl)
        (go_same _ _ ks (ap (λ v. Some (past_member (of_property n v), false, U)) (keep_each most (loop o ns e1) e2))
        goal)))))))))
    complete_member (child no_decorator (resource o n q x b)) S at was ms ts ks (
      m0,
      nothing,
      (m1, rsw, (m2, nm, (m3, qu, (m4, ex, (m5, asg, bd))))),
    ) goal =
        let U = in_object at was ms ∷ S in
        ap (run most member false U) nothing
        ∙ goes_at most r member U o (t.Name (codes "resource")) m0 m1
        (Some (labelled (label.Name (record { at = o; text = codes "resource" })), false, U)) rsw refl
        (takes_at most r (labelled (label.Name (record { at = o; text = codes "resource" }))) false U n.at
        (t.Name n.text) m1 m2 (Some (declared empty o w.Child n, false, U)) nm refl
        (ap (λ b. cond b (Some (declared empty o w.Child n, false, U)) None) resource_is)
        (child_header empty o n q x U m2 m5 (m3, qu, (m4, ex, asg))
        (complete_body b (header empty o (owner.Child x) n q) U m5 ks bd goal)))
    complete_member (child (and_decorator (decorator d f2 es) ds) (resource o n q x b)) S at was ms ts ks (
      m0,
      (k1, (j1, sg, (j2, fn, (j3, op, args))), (k2, nl, decs)),
      (m1, rsw, (m2, nm, (m3, qu, (m4, ex, (m5, asg, bd))))),
    ) goal =
        let U = in_object at was ms ∷ S in
        let K : Decorators = keep_decorators most (decorator d f2 es ∷ each_decorator ds) in
        goes_at most r member U d t.At ts j1 (Some (at_sign empty d, false, U)) sg refl
        (reads_function f2 empty d U j1 j3 (j2, fn, op)
        (complete_arguments es (s.decorating empty d f2) false U j3 k1 args
        (goes most r (decorated (put empty (of_decorator d f2 (keep_list most (each_tree es))))) U t.Newline k1 k2
        (Some (past_decorators (put empty (of_decorator d f2 (keep_list most (each_tree es)))), false, U)) nl
        (λ y. refl)
        (subst (λ k. Read (past_decorators k) false U k2) (sym (decorators_put most [] (decorator d f2 es)))
        (complete_decorated ds (decorator d f2 es ∷ []) U k2 m0 decs
        (goes_at most r (past_decorators K) U o (t.Name (codes "resource")) m0 m1
        (Some (declaring K o w.Child, false, U)) rsw (ap (λ b. child_on K o b U) resource_is)
        (takes_at most r (declaring K o w.Child) false U n.at (t.Name n.text) m1 m2
        (Some (declared K o w.Child n, false, U)) nm refl refl
        (child_header K o n q x U m2 m5 (m3, qu, (m4, ex, asg))
        (complete_body b (header K o (owner.Child x) n q) U m5 ks bd goal)))))))))

    pub complete_decorated : (ds : DecoratorTrees) (before : List DecoratorTree) (U : List Frame)
        (ts ks : List Placed) → grammar.decorated ds ts ks
        → Read (past_decorators (keep_decorators most (before ++ each_decorator ds))) false U ks
        → Read (past_decorators (keep_decorators most before)) false U ts
    complete_decorated no_decorator before U ts ks h goal =
        ap (run most (past_decorators (keep_decorators most before)) false U) h
        ∙ subst (λ xs. Read (past_decorators (keep_decorators most xs)) false U ks) (append-nil before) goal
    complete_decorated (and_decorator (decorator d f2 es) ds) before U ts ks (
      k1,
      (j1, sg, (j2, fn, (j3, op, args))),
      (k2, nl, decs),
    ) goal =
        let K : Decorators = keep_decorators most before in
        goes_at most r (past_decorators K) U d t.At ts j1 (Some (at_sign K d, false, U)) sg refl
        (reads_function f2 K d U j1 j3 (j2, fn, op)
        (complete_arguments es (s.decorating K d f2) false U j3 k1 args
        (goes most r (decorated (put K (of_decorator d f2 (keep_list most (each_tree es))))) U t.Newline k1 k2
        (Some (past_decorators (put K (of_decorator d f2 (keep_list most (each_tree es)))), false, U)) nl
        (λ y. refl)
        (subst (λ k. Read (past_decorators k) false U k2) (sym (decorators_put most before (decorator d f2 es)))
        (complete_decorated ds (before ++ decorator d f2 es ∷ []) U k2 ks decs
        (subst (λ xs. Read (past_decorators (keep_decorators most xs)) false U ks)
        (sym (append_assoc before (decorator d f2 es ∷ []) (each_decorator ds))) goal))))))

    pub complete_body : (b : BodyTree) (h : Header) (S : List Frame) (ts ks : List Placed) → body b ts ks
        → Go (body_on h (keep_body most b) S) ks → Read s.body false (bodied h nothing_before ∷ S) ts
    complete_body (body_plain (braces at ms)) h S ts ks (m, tk, (m1, sep, mem)) goal =
        takes_at most r s.body false (bodied h nothing_before ∷ S) at t.OpenBrace ts m
        (Some (member, false, in_object at false empty ∷ bodied h nothing_before ∷ S)) tk refl refl
        (parts_members (in_object at false empty ∷ bodied h nothing_before ∷ S) m m1 sep
        (complete_members ms [] at false (bodied h nothing_before ∷ S) m1 ks mem
        (in_braces ms at (bodied h nothing_before ∷ S) ks goal)))
    complete_body (body_if o c (braces at ms)) h S ts ks (
      m0,
      (j1, ifw, (j2, op, (j3, inner, cl))),
      (m, tk, (m1, sep, mem)),
    ) goal =
        goes_at most r s.body (bodied h nothing_before ∷ S) o (t.Name (codes "if")) ts j1
        (Some (condition o, false, bodied h nothing_before ∷ S)) ifw
        (ap (λ b. cond b (Some (condition o, false, bodied h nothing_before ∷ S)) None) if_is)
        (goes most r (condition o) (bodied h nothing_before ∷ S) t.OpenParen j1 j2
        (Some (wanted false, true, in_condition o h nothing_before ∷ S)) op (λ y. refl)
        (complete c (wanted false) true (in_condition o h nothing_before ∷ S) j2 j3 tt tt inner
        (ends most r c true (in_condition o h nothing_before ∷ S) t.CloseParen j3 m0 (paren_on most)
        (spined c true j2 j3 inner) cl refl (λ k V y. refl)
        (takes_at most r guarded false (bodied h (a_condition o (keep most c)) ∷ S) at t.OpenBrace m0 m
        (Some (member, false, in_object at false empty ∷ bodied h (a_condition o (keep most c)) ∷ S)) tk refl refl
        (parts_members (in_object at false empty ∷ bodied h (a_condition o (keep most c)) ∷ S) m m1 sep
        (complete_members ms [] at false (bodied h (a_condition o (keep most c)) ∷ S) m1 ks mem
        (in_braces ms at (bodied h (a_condition o (keep most c)) ∷ S) ks goal)))))))
    complete_body (body_each (loop o ns e1) (braces at ms)) h S ts ks
        (m3, (k1, opn, (k2, fo, (k3, names, (k4, within, (k5, inner, colon))))), (m4, (m, tk, (m1, sep, mem)), cl))
        goal =
        let L : Kept LoopTree = of_loop o ns (keep most e1) in
        goes_at most r s.body (bodied h nothing_before ∷ S) o t.OpenBracket ts k1
        (Some (for_wanted o, false, bodied h nothing_before ∷ S)) opn refl
        (reads_for o fo.0 (bodied h nothing_before ∷ S) k1 k2 fo.1
        (body_begins ns o (bodied h nothing_before ∷ S) k2 k4 (k3, names, within)
        (complete e1 (wanted false) false (body_over o ns h ∷ S) k4 k5 tt tt inner
        (ends most r e1 false (body_over o ns h ∷ S) t.Colon k5 m3 (colon_on most false) (spined e1 false k4 k5 inner)
        (k5, ([], tt, refl), colon) refl (λ k V y. refl)
        (takes_at most r looped_body false (bodied h (s.a_loop L) ∷ S) at t.OpenBrace m3 m
        (Some (member, false, in_object at false empty ∷ bodied h (s.a_loop L) ∷ S)) tk refl refl
        (parts_members (in_object at false empty ∷ bodied h (s.a_loop L) ∷ S) m m1 sep
        (complete_members ms [] at false (bodied h (s.a_loop L) ∷ S) m1 m4 mem
        (in_braces ms at (bodied h (s.a_loop L) ∷ S) m4
        (goes most r (body_end h (of_body_each most L (keep_object most (braces at ms)))) S t.CloseBracket m4 ks
        (body_on h (of_body_each most L (keep_object most (braces at ms))) S) cl (λ y. refl)
        (go_same _ _ ks (ap (λ b. body_on h b S) (keep_body_each most (loop o ns e1) (braces at ms))) goal))))))))))
    complete_body (body_each_if (loop o ns e1) q c (braces at ms)) h S ts ks (
      m3,
      (k1, opn, (k2, fo, (k3, names, (k4, within, (k5, inner, colon))))),
      (m0, (j1, ifw, (j2, op, (j3, cnd, cls))), (m4, (m, tk, (m1, sep, mem)), cl)),
    ) goal =
        let L : Kept LoopTree = of_loop o ns (keep most e1) in
        goes_at most r s.body (bodied h nothing_before ∷ S) o t.OpenBracket ts k1
        (Some (for_wanted o, false, bodied h nothing_before ∷ S)) opn refl
        (reads_for o fo.0 (bodied h nothing_before ∷ S) k1 k2 fo.1
        (body_begins ns o (bodied h nothing_before ∷ S) k2 k4 (k3, names, within)
        (complete e1 (wanted false) false (body_over o ns h ∷ S) k4 k5 tt tt inner
        (ends most r e1 false (body_over o ns h ∷ S) t.Colon k5 m3 (colon_on most false) (spined e1 false k4 k5 inner)
        (k5, ([], tt, refl), colon) refl (λ k V y. refl)
        (goes_at most r looped_body (bodied h (s.a_loop L) ∷ S) q (t.Name (codes "if")) m3 j1
        (Some (condition q, false, bodied h (s.a_loop L) ∷ S)) ifw
        (ap (λ b. cond b (Some (condition q, false, bodied h (s.a_loop L) ∷ S)) None) if_is)
        (goes most r (condition q) (bodied h (s.a_loop L) ∷ S) t.OpenParen j1 j2
        (Some (wanted false, true, in_condition q h (s.a_loop L) ∷ S)) op (λ y. refl)
        (complete c (wanted false) true (in_condition q h (s.a_loop L) ∷ S) j2 j3 tt tt cnd
        (ends most r c true (in_condition q h (s.a_loop L) ∷ S) t.CloseParen j3 m0 (paren_on most)
        (spined c true j2 j3 cnd) cls refl (λ k V y. refl)
        (takes_at most r guarded false (bodied h (loop_and_condition L q (keep most c)) ∷ S) at t.OpenBrace m0 m
        (Some (member, false, in_object at false empty ∷ bodied h (loop_and_condition L q (keep most c)) ∷ S)) tk
        refl refl
        (parts_members (in_object at false empty ∷ bodied h (loop_and_condition L q (keep most c)) ∷ S) m m1 sep
        (complete_members ms [] at false (bodied h (loop_and_condition L q (keep most c)) ∷ S) m1 m4 mem
        (in_braces ms at (bodied h (loop_and_condition L q (keep most c)) ∷ S) m4
        (goes most r (body_end h (of_body_each_if most L q (keep most c) (keep_object most (braces at ms)))) S
        t.CloseBracket m4 ks (body_on h (of_body_each_if most L q (keep most c) (keep_object most (braces at ms)))
        S) cl (λ y. refl)
        (go_same _ _ ks (ap (λ b. body_on h b S) (keep_body_each_if most (loop o ns e1) q c (braces at ms)))
        goal))))))))))))))
