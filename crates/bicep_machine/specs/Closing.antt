-- The ends of expressions: operators are closed as far as the next token asks, and what is open then takes the
-- expression.
use Rattle.std.specs.Prelude.{ℕ, max, nat_le, Bool, true, false, List, [], ◌∷◌, bytes_eq, codes, Option, Some, None}
use Rattle.std.specs.Prelude.{if◌then◌else◌}
use Rattle.bicep_tree.specs.declared.leaf.Name.{Name}
use Rattle.bicep_tree.specs.declared.leaf.LoopNames.{LoopNames}
use Rattle.bicep_tree.specs.declared.leaf.LoopNames.TheVariants as ns
use Rattle.bicep_tree.specs.declared.leaf.Function.TheVariants as f
use Rattle.bicep_tree.specs.Tree.{Tree, name, call, none, more, ObjectTree, MemberTree, child, ValueTree, plain}
use Rattle.bicep_tree.specs.Tree.{resource, BodyTree, DeclarationTree, metadata, target_scope, param_with, var}
use Rattle.bicep_tree.specs.Tree.{output, a_resource, a_module, StatementTree, statement, decorators}
use Rattle.bicep_tree.specs.Precedence.{level}
use Rattle.bicep_machine.specs.declared.word.Owner.TheVariants as owner
use Rattle.bicep_machine.specs.Kept.{Kept, put, empty, of_holes, of_members, of_items, of_parentheses, of_call}
use Rattle.bicep_machine.specs.Kept.{of_index, of_prefix, of_binary, of_conditional, of_each, of_body_each}
use Rattle.bicep_machine.specs.Kept.{of_body_each_if, of_object, of_plain, of_property, of_loop, of_decorator}
use Rattle.bicep_machine.specs.Kept.{of_body_plain, of_body_if, of_hole}
use Rattle.bicep_machine.specs.Stack.{Decorators, Callee, function, decorating, Header, header, Front, nothing_before}
use Rattle.bicep_machine.specs.Stack.{a_condition, a_loop, loop_and_condition, Assigned, to_metadata, to_scope}
use Rattle.bicep_machine.specs.Stack.{to_param, to_var, to_output, Frame, grouping, calling, indexing, opened}
use Rattle.bicep_machine.specs.Stack.{in_array, in_object, in_text, prefixing, left, asked, chosen, valued, assigned}
use Rattle.bicep_machine.specs.Stack.{over, body_over, looped, in_condition, bodied, in_file, wanted, done, item}
use Rattle.bicep_machine.specs.Stack.{member, past_member, among, looped_body, guarded, body_end, decorated, between}
use Rattle.bicep_machine.specs.Stack.{past_statement, Next}

-- an expression, and what is open around it
abbrev pub Closed : Type 0
Closed = Kept Tree × List Frame

-- ---- statements and members

abbrev pub of_statement : Decorators → Kept DeclarationTree → Kept StatementTree
of_statement ds d = (statement (decorators ds.0) d.0, max ds.1 d.1)

-- the declaration with its expression
abbrev pub with_expression : Assigned → Kept Tree → Kept DeclarationTree
with_expression (to_metadata at n) e = (metadata at n e.0, e.1)
with_expression (to_scope at) e = (target_scope at e.0, e.1)
with_expression (to_param at n ty) e = (param_with at n ty e.0, e.1)
with_expression (to_var at n) e = (var at n (plain e.0), e.1)
with_expression (to_output at n ty) e = (output at n ty (plain e.0), e.1)

-- the declaration with its for-expression, where it takes one
abbrev pub with_each : Assigned → Kept ValueTree → Option (Kept DeclarationTree)
with_each (to_var at n) v = Some (var at n v.0, v.1)
with_each (to_output at n ty) v = Some (output at n ty v.0, v.1)
with_each d v = None

-- a statement is in the file
abbrev pub filed : Kept StatementTree → List Frame → Next
filed s (in_file ss ∷ S) = Some (between, false, in_file (put ss s) ∷ S)
filed s S = None

-- a member is in its object
abbrev pub member_put : Kept MemberTree → List Frame → Next
member_put m (in_object at was ms ∷ S) = Some (member, false, in_object at was (put ms m) ∷ S)
member_put m S = None

-- what a resource or a module is
abbrev pub body_on : Header → Kept BodyTree → List Frame → Next
body_on (header ds at (owner.Resource x) n p) b S =
    Some (past_statement (of_statement ds (a_resource (resource at n p x b.0), b.1)), false, S)
body_on (header ds at (owner.Child x) n p) b S =
    Some (past_member (child (decorators ds.0) (resource at n p x b.0), max ds.1 b.1), false, S)
body_on (header ds at owner.Module n p) b S =
    Some (past_statement (of_statement ds (a_module at n p b.0, b.1)), false, S)

-- a for-expression is in its place
abbrev pub each_declared : Decorators → Option (Kept DeclarationTree) → List Frame → Next
each_declared ds None S = None
each_declared ds (Some d) S = Some (past_statement (of_statement ds d), false, S)

abbrev pub each_on : Kept ValueTree → List Frame → Next
each_on v (valued l ∷ S) = Some (past_member (of_property l v), false, S)
each_on v (assigned ds d ∷ S) = each_declared ds (with_each d v) S
each_on v S = None

-- `[for x in` is in its place
abbrev pub over_on : ℕ → LoopNames → List Frame → Next
over_on at ns (valued l ∷ S) = Some (wanted false, false, over at ns ∷ valued l ∷ S)
over_on at ns (assigned ds (to_var w n) ∷ S) = Some (wanted false, false, over at ns ∷ assigned ds (to_var w n) ∷ S)
over_on at ns (assigned ds (to_output w n ty) ∷ S) =
    Some (wanted false, false, over at ns ∷ assigned ds (to_output w n ty) ∷ S)
over_on at ns (bodied h nothing_before ∷ S) = Some (wanted false, false, body_over at ns h ∷ S)
over_on at ns S = None

-- the two names, where the expression is `for (x, i)`
unfoldable pub is_for : List ℕ → Bool
is_for w = bytes_eq w (codes "for")

abbrev pub pair_of : Tree → Option (Name × Name × Name)
pair_of (call (f.Plain w) (more (name a) (more (name b) none))) = Some (w, a, b)
pair_of e = None

abbrev pub pair_on : Option (Name × Name × Name) → List Frame → Next
pair_on (Some p) (opened at was ∷ S) = if is_for p.0.text then over_on at (ns.Both p.1 p.2) S else None
pair_on o S = None

-- whether a declaration may have a for-expression after its `=`
abbrev pub takes_loops : Assigned → Bool
takes_loops (to_var at n) = true
takes_loops (to_output at n ty) = true
takes_loops d = false

-- whether a for-expression may be right in it
abbrev pub holds_loops : Frame → Bool
holds_loops (valued l) = true
holds_loops (assigned ds d) = takes_loops d
holds_loops F = false

-- `[for x` of a value, where that may be there
abbrev pub named_on : ℕ → Bool → Name → List Frame → Next
named_on at was n [] = None
named_on at was n (F ∷ S) = if holds_loops F then Some (among at (ns.Item n), was, F ∷ S) else None

-- `[for x` in its place
abbrev pub item_on : Name → Name → List Frame → Next
item_on w n (opened at was ∷ S) = if is_for w.text then named_on at was n S else None
item_on w n S = None

-- newlines and commas between items
abbrev pub item_parted : List Frame → Next
item_parted (opened at was ∷ S) = Some (item, false, in_array at was empty ∷ S)
item_parted (in_array at was es ∷ S) = Some (item, false, in_array at was es ∷ S)
item_parted S = None

-- the condition of a body
abbrev pub with_condition : Front → ℕ → Kept Tree → Option Front
with_condition nothing_before at c = Some (a_condition at c)
with_condition (a_loop l) at c = Some (loop_and_condition l at c)
with_condition f at c = None

abbrev pub guarded_by : Header → Option Front → List Frame → Next
guarded_by h None S = None
guarded_by h (Some f) S = Some (guarded, false, bodied h f ∷ S)

module _ (most : ℕ) where
  -- closes the operators that bind at least so tightly
  abbrev pub closed : ℕ → Kept Tree → List Frame → Closed
  closed n e [] = (e, [])
  closed n e (prefixing at p ∷ S) = closed n (of_prefix most at p e) S
  closed n e (left o a ∷ S) = if nat_le n (level o) then closed n (of_binary most o a e) S else (e, left o a ∷ S)
  closed n e (chosen c a ∷ S) = if nat_le n 0 then closed n (of_conditional most c a e) S else (e, chosen c a ∷ S)
  closed n e (F ∷ S) = (e, F ∷ S)

  -- an object, by what it is in
  abbrev pub fronted : Header → Front → Kept ObjectTree → List Frame → Next
  fronted h nothing_before o S = body_on h (of_body_plain o) S
  fronted h (a_condition at c) o S = body_on h (of_body_if at c o) S
  fronted h (a_loop l) o S = Some (body_end h (of_body_each most l o), false, S)
  fronted h (loop_and_condition l at c) o S = Some (body_end h (of_body_each_if most l at c o), false, S)

  abbrev pub object_on : Bool → Kept ObjectTree → List Frame → Next
  object_on i o (bodied h f ∷ S) = fronted h f o S
  object_on i o S = Some (done (of_object o), i, S)

  abbrev pub members_closed : List Frame → Next
  members_closed (in_object at was ms ∷ S) = object_on was (of_members most at ms) S
  members_closed S = None

  abbrev pub member_closed : Kept MemberTree → List Frame → Next
  member_closed m (in_object at was ms ∷ S) = object_on was (of_members most at (put ms m)) S
  member_closed m S = None

  abbrev pub items_closed : List Frame → Next
  items_closed (opened at was ∷ S) = Some (done (of_items most at empty), was, S)
  items_closed (in_array at was es ∷ S) = Some (done (of_items most at es), was, S)
  items_closed S = None

  -- the last argument, and `)`
  abbrev pub called : Callee → Bool → Kept (List Tree) → List Frame → Next
  called (function f) was es S = Some (done (of_call most f es), was, S)
  called (decorating ds at f) was es S = Some (decorated (put ds (of_decorator at f es)), was, S)

  -- `(` and `)` without an argument
  abbrev pub call_closed : List Frame → Next
  call_closed (calling c was es ∷ S) = called c was es S
  call_closed S = None

  -- ---- after an expression, whose operators are closed

  abbrev pub paren_on : Closed → Next
  paren_on (e, grouping at was ∷ S) = Some (done (of_parentheses most at e), was, S)
  paren_on (e, calling c was es ∷ S) = called c was (put es e) S
  paren_on (e, in_condition at h f ∷ S) = guarded_by h (with_condition f at e) S
  paren_on (e, S) = None

  abbrev pub bracket_on : Bool → Closed → Next
  bracket_on i (e, indexing x k ∷ S) = Some (done (of_index most x k e), i, S)
  bracket_on i (e, opened at was ∷ S) = Some (done (of_items most at (put empty e)), was, S)
  bracket_on i (e, in_array at was es ∷ S) = Some (done (of_items most at (put es e)), was, S)
  bracket_on i (e, looped l ∷ S) = each_on (of_each most l e) S
  bracket_on i (e, S) = None

  abbrev pub comma_on : Closed → Next
  comma_on (e, calling c was es ∷ S) = Some (wanted false, true, calling c was (put es e) ∷ S)
  comma_on (e, opened at was ∷ S) = Some (item, false, in_array at was (put empty e) ∷ S)
  comma_on (e, in_array at was es ∷ S) = Some (item, false, in_array at was (put es e) ∷ S)
  comma_on (e, valued l ∷ S) = member_put (of_property l (of_plain e)) S
  comma_on (e, S) = None

  abbrev pub brace_on : Closed → Next
  brace_on (e, valued l ∷ S) = member_closed (of_property l (of_plain e)) S
  brace_on (e, S) = None

  abbrev pub colon_on : Bool → Closed → Next
  colon_on i (e, asked c ∷ S) = Some (wanted true, i, chosen c e ∷ S)
  colon_on i (e, over at ns ∷ S) = Some (wanted false, false, looped (of_loop at ns e) ∷ S)
  colon_on i (e, body_over at ns h ∷ S) = Some (looped_body, false, bodied h (a_loop (of_loop at ns e)) ∷ S)
  colon_on i (e, S) = None

  -- `:` after a newline
  abbrev pub late_colon_on : Closed → Next
  late_colon_on (e, asked c ∷ S) = Some (wanted true, false, chosen c e ∷ S)
  late_colon_on (e, S) = None

  abbrev pub middle_on : Bool → List ℕ → Closed → Next
  middle_on i s (e, in_text at head hs ∷ S) = Some (wanted false, i, in_text at head (put hs (of_hole e s)) ∷ S)
  middle_on i s (e, S) = None

  abbrev pub right_on : Bool → List ℕ → Closed → Next
  right_on i s (e, in_text at head hs ∷ S) = Some (done (of_holes most at head (put hs (of_hole e s))), i, S)
  right_on i s (e, S) = None

  -- a newline that is not skipped
  abbrev pub newline_on : Closed → Next
  newline_on (e, opened at was ∷ S) = Some (item, false, in_array at was (put empty e) ∷ S)
  newline_on (e, in_array at was es ∷ S) = Some (item, false, in_array at was (put es e) ∷ S)
  newline_on (e, valued l ∷ S) = member_put (of_property l (of_plain e)) S
  newline_on (e, assigned ds d ∷ S) = filed (of_statement ds (with_expression d e)) S
  newline_on (e, S) = None
