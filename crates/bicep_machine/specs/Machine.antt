-- Reading a file, one token after another, with what is open on a stack.
use Rattle.std.specs.Prelude.{ℕ, ◌&&◌, Bool, true, false, List, [], ◌∷◌, bytes_eq, codes, Option, Some, None}
use Rattle.std.specs.Prelude.{option_and_then, if◌then◌else◌}
use Rattle.bicep_tree.specs.declared.leaf.Name.{Name}
use Rattle.bicep_tree.specs.declared.leaf.Quoted.{Quoted}
use Rattle.bicep_tree.specs.declared.leaf.Label.{Label}
use Rattle.bicep_tree.specs.declared.leaf.Label.TheVariants as label
use Rattle.bicep_tree.specs.declared.leaf.Literal.TheVariants as l
use Rattle.bicep_tree.specs.declared.leaf.LoopNames.{LoopNames}
use Rattle.bicep_tree.specs.declared.leaf.LoopNames.TheVariants as ns
use Rattle.bicep_tree.specs.declared.leaf.Namespace.{Namespace}
use Rattle.bicep_tree.specs.declared.leaf.Namespace.TheVariants as space
use Rattle.bicep_tree.specs.declared.leaf.Function.{Function}
use Rattle.bicep_tree.specs.declared.leaf.Function.TheVariants as f
use Rattle.bicep_tree.specs.declared.leaf.Access.{Access}
use Rattle.bicep_tree.specs.declared.leaf.Access.TheVariants as a
use Rattle.bicep_tree.specs.declared.leaf.Indexing.TheVariants as x
use Rattle.bicep_tree.specs.declared.leaf.Prefix.TheVariants as p
use Rattle.bicep_tree.specs.declared.leaf.Operator.{Operator}
use Rattle.bicep_tree.specs.declared.leaf.Operator.TheVariants as o
use Rattle.bicep_tree.specs.declared.leaf.TypeName.{TypeName}
use Rattle.bicep_tree.specs.declared.leaf.TypeName.TheVariants as type
use Rattle.bicep_tree.specs.declared.terminal.Terminal.{Terminal}
use Rattle.bicep_tree.specs.declared.terminal.Terminal.TheVariants as t
use Rattle.bicep_tree.specs.Tree.{Tree, name, literal, param, MemberTree, BodyTree, StatementTree}
use Rattle.bicep_tree.specs.Precedence.{level}
use Rattle.bicep_tree.specs.Terminals.{Placed}
use Rattle.bicep_tree.specs.Forms.{is_newline}
use Rattle.bicep_machine.specs.declared.word.Word.{Word}
use Rattle.bicep_machine.specs.declared.word.Word.TheVariants as w
use Rattle.bicep_machine.specs.declared.word.Owner.TheVariants as owner
use Rattle.bicep_machine.specs.Kept.{Kept, flat, put, empty, of_access, of_not_null}
use Rattle.bicep_machine.specs.Stack.{Decorators, function, decorating, Header, header, nothing_before, to_metadata}
use Rattle.bicep_machine.specs.Stack.{to_scope, to_param, to_var, to_output, Frame, grouping, calling, indexing}
use Rattle.bicep_machine.specs.Stack.{opened, in_object, in_text, prefixing, left, asked, valued, assigned, in_names}
use Rattle.bicep_machine.specs.Stack.{in_condition, bodied, in_file, State, wanted, first, named, qualifying}
use Rattle.bicep_machine.specs.Stack.{qualified, dotted, done, paused, item, for_wanted, names_wanted, one_wanted}
use Rattle.bicep_machine.specs.Stack.{one_named, other_wanted, both_named, member, labelled, past_member, among, body}
use Rattle.bicep_machine.specs.Stack.{looped_body, condition, guarded, body_end, at_sign, decorator_named}
use Rattle.bicep_machine.specs.Stack.{decorator_spaced, decorator_ready, decorated, past_decorators, declaring}
use Rattle.bicep_machine.specs.Stack.{declared, typed, headed, existed, between, past_statement, Next}
use Rattle.bicep_machine.specs.Closing.{Closed, of_statement, with_expression, filed, member_put, body_on, over_on}
use Rattle.bicep_machine.specs.Closing.{is_for, pair_of, pair_on, item_on, item_parted, closed, members_closed}
use Rattle.bicep_machine.specs.Closing.{member_closed, items_closed, call_closed, paren_on, bracket_on, comma_on}
use Rattle.bicep_machine.specs.Closing.{brace_on, colon_on, late_colon_on, middle_on, right_on, newline_on}

-- ---- words

unfoldable pub is_in : List ℕ → Bool
is_in w = bytes_eq w (codes "in")

unfoldable pub is_if : List ℕ → Bool
is_if w = bytes_eq w (codes "if")

unfoldable pub is_sys : List ℕ → Bool
is_sys w = bytes_eq w (codes "sys")

unfoldable pub is_resource : List ℕ → Bool
is_resource w = bytes_eq w (codes "resource")

unfoldable pub is_existing : List ℕ → Bool
is_existing w = bytes_eq w (codes "existing")

-- the name space of a word
unfoldable pub namespace_of : List ℕ → Option Namespace
namespace_of w = if bytes_eq w (codes "sys") then Some space.Sys else if bytes_eq w (codes "az") then Some space.Az
    else None

-- the type of a word
unfoldable pub type_of : List ℕ → Option TypeName
type_of w =
    if bytes_eq w (codes "string") then Some type.String
    else if bytes_eq w (codes "int") then Some type.Int
    else if bytes_eq w (codes "bool") then Some type.Bool
    else if bytes_eq w (codes "object") then Some type.Object
    else if bytes_eq w (codes "array") then Some type.Array
    else None

-- what a word begins in a file
unfoldable pub word_of : List ℕ → Option Word
word_of s =
    if bytes_eq s (codes "metadata") then Some w.Metadata
    else if bytes_eq s (codes "targetScope") then Some w.TargetScope
    else if bytes_eq s (codes "param") then Some w.Param
    else if bytes_eq s (codes "var") then Some w.Var
    else if bytes_eq s (codes "output") then Some w.Output
    else if bytes_eq s (codes "resource") then Some w.Resource
    else if bytes_eq s (codes "module") then Some w.Module
    else None

-- a name at its place
abbrev pub name_at : ℕ → List ℕ → Name
name_at at s = record { at = at; text = s }

abbrev pub quoted_at : ℕ → List ℕ → Quoted
quoted_at at s = record { at = at; text = s }

-- ---- steps that build no composite

-- an expression begins
abbrev pub begun : Bool → List Frame → ℕ → Terminal → Next
begun i S at (t.Name s) = Some (named (name_at at s), i, S)
begun i S at (t.Literal v) = Some (done (flat (literal at v)), i, S)
begun i S at (t.LeftPiece s) = Some (wanted false, i, in_text at s empty ∷ S)
begun i S at t.OpenBrace = Some (member, false, in_object at i empty ∷ S)
begun i S at t.OpenBracket = Some (item, false, opened at i ∷ S)
begun i S at t.OpenParen = Some (wanted false, true, grouping at i ∷ S)
begun i S at t.Not = Some (wanted false, i, prefixing at p.Not ∷ S)
begun i S at (t.Operator o.Subtract) = Some (wanted false, i, prefixing at p.Negate ∷ S)
begun i S at s = None

abbrev pub wanted_step : Bool → Bool → List Frame → ℕ → Terminal → Next
wanted_step true i S at t.Newline = Some (wanted true, i, S)
wanted_step w i S at s = begun i S at s

-- what a word begins, after decorators
abbrev pub word_on : Decorators → ℕ → Option Word → List Frame → Next
word_on ds at None S = None
word_on ds at (Some w) S = Some (declaring ds at w, false, S)

abbrev pub child_on : Decorators → ℕ → Bool → List Frame → Next
child_on ds at false S = None
child_on ds at true S = Some (declaring ds at w.Child, false, S)

-- a word after decorators, in an object or in a file
abbrev pub decorated_word : Decorators → ℕ → List ℕ → List Frame → Next
decorated_word ds at s (in_object o was ms ∷ S) = child_on ds at (is_resource s) (in_object o was ms ∷ S)
decorated_word ds at s (in_file ss ∷ S) = word_on ds at (word_of s) (in_file ss ∷ S)
decorated_word ds at s S = None

abbrev pub between_step : List Frame → ℕ → Terminal → Next
between_step S at t.Newline = Some (between, false, S)
between_step S at t.At = Some (at_sign empty at, false, S)
between_step S at (t.Name s) = word_on empty at (word_of s) S
between_step S at s = None

abbrev pub past_statement_step : Kept StatementTree → List Frame → Terminal → Next
past_statement_step s S t.Newline = filed s S
past_statement_step s S x = None

abbrev pub at_sign_step : Decorators → ℕ → List Frame → ℕ → Terminal → Next
at_sign_step ds sign S at (t.Name s) = Some (decorator_named ds sign (name_at at s), false, S)
at_sign_step ds sign S at s = None

abbrev pub decorator_named_step : Decorators → ℕ → Name → List Frame → Terminal → Next
decorator_named_step ds sign n S t.OpenParen =
    Some (first, true, calling (decorating ds sign (f.Plain n)) false empty ∷ S)
decorator_named_step ds sign n S (t.Access a.Member) = if is_sys n.text
    then Some (decorator_spaced ds sign n.at, false, S) else None
decorator_named_step ds sign n S s = None

abbrev pub decorator_spaced_step : Decorators → ℕ → ℕ → List Frame → ℕ → Terminal → Next
decorator_spaced_step ds sign from S at (t.Name s) =
    Some (decorator_ready ds sign (f.Qualified from space.Sys (name_at at s)), false, S)
decorator_spaced_step ds sign from S at s = None

abbrev pub decorator_ready_step : Decorators → ℕ → Function → List Frame → Terminal → Next
decorator_ready_step ds sign g S t.OpenParen = Some (first, true, calling (decorating ds sign g) false empty ∷ S)
decorator_ready_step ds sign g S s = None

abbrev pub decorated_step : Decorators → List Frame → Terminal → Next
decorated_step ds S t.Newline = Some (past_decorators ds, false, S)
decorated_step ds S s = None

abbrev pub past_decorators_step : Decorators → List Frame → ℕ → Terminal → Next
past_decorators_step ds S at t.At = Some (at_sign ds at, false, S)
past_decorators_step ds S at (t.Name s) = decorated_word ds at s S
past_decorators_step ds S at s = None

abbrev pub declaring_step : Decorators → ℕ → Word → List Frame → ℕ → Terminal → Next
declaring_step ds from w.TargetScope S at t.Assign = Some (wanted false, false, assigned ds (to_scope from) ∷ S)
declaring_step ds from w.TargetScope S at s = None
declaring_step ds from word S at (t.Name s) = Some (declared ds from word (name_at at s), false, S)
declaring_step ds from word S at s = None

abbrev pub type_on : Decorators → ℕ → Word → Name → Option TypeName → List Frame → Next
type_on ds from word n None S = None
type_on ds from word n (Some ty) S = Some (typed ds from word n ty, false, S)

abbrev pub declared_step : Decorators → ℕ → Word → Name → List Frame → ℕ → Terminal → Next
declared_step ds from w.Metadata n S at t.Assign = Some (wanted false, false, assigned ds (to_metadata from n) ∷ S)
declared_step ds from w.Var n S at t.Assign = Some (wanted false, false, assigned ds (to_var from n) ∷ S)
declared_step ds from w.Param n S at (t.Name s) = type_on ds from w.Param n (type_of s) S
declared_step ds from w.Output n S at (t.Name s) = type_on ds from w.Output n (type_of s) S
declared_step ds from w.Resource n S at (t.Literal (l.Text s)) =
    Some (headed (header ds from (owner.Resource false) n (quoted_at at s)), false, S)
declared_step ds from w.Child n S at (t.Literal (l.Text s)) =
    Some (headed (header ds from (owner.Child false) n (quoted_at at s)), false, S)
declared_step ds from w.Module n S at (t.Literal (l.Text s)) =
    Some (headed (header ds from owner.Module n (quoted_at at s)), false, S)
declared_step ds from word n S at s = None

abbrev pub typed_step : Decorators → ℕ → Word → Name → TypeName → List Frame → Terminal → Next
typed_step ds from w.Param n ty S t.Assign = Some (wanted false, false, assigned ds (to_param from n ty) ∷ S)
typed_step ds from w.Param n ty S t.Newline = filed (of_statement ds (flat (param from n ty))) S
typed_step ds from w.Output n ty S t.Assign = Some (wanted false, false, assigned ds (to_output from n ty) ∷ S)
typed_step ds from word n ty S s = None

-- the header of an existing resource
abbrev pub made_existing : Header → Option Header
made_existing (header ds at (owner.Resource x) n q) = Some (header ds at (owner.Resource true) n q)
made_existing (header ds at (owner.Child x) n q) = Some (header ds at (owner.Child true) n q)
made_existing (header ds at owner.Module n q) = None

abbrev pub existing_on : Option Header → List Frame → Next
existing_on None S = None
existing_on (Some h) S = Some (existed h, false, S)

abbrev pub headed_step : Header → List Frame → Terminal → Next
headed_step h S t.Assign = Some (body, false, bodied h nothing_before ∷ S)
headed_step h S (t.Name s) = if is_existing s then existing_on (made_existing h) S else None
headed_step h S s = None

abbrev pub existed_step : Header → List Frame → Terminal → Next
existed_step h S t.Assign = Some (body, false, bodied h nothing_before ∷ S)
existed_step h S s = None

abbrev pub body_step : List Frame → ℕ → Terminal → Next
body_step S at t.OpenBrace = Some (member, false, in_object at false empty ∷ S)
body_step S at t.OpenBracket = Some (for_wanted at, false, S)
body_step S at (t.Name s) = if is_if s then Some (condition at, false, S) else None
body_step S at s = None

abbrev pub looped_body_step : List Frame → ℕ → Terminal → Next
looped_body_step S at t.OpenBrace = Some (member, false, in_object at false empty ∷ S)
looped_body_step S at (t.Name s) = if is_if s then Some (condition at, false, S) else None
looped_body_step S at s = None

abbrev pub condition_step : ℕ → List Frame → Terminal → Next
condition_step at (bodied h g ∷ S) t.OpenParen = Some (wanted false, true, in_condition at h g ∷ S)
condition_step at S s = None

abbrev pub guarded_step : List Frame → ℕ → Terminal → Next
guarded_step S at t.OpenBrace = Some (member, false, in_object at false empty ∷ S)
guarded_step S at s = None

abbrev pub body_end_step : Header → Kept BodyTree → List Frame → Terminal → Next
body_end_step h b S t.CloseBracket = body_on h b S
body_end_step h b S s = None

abbrev pub for_wanted_step : ℕ → List Frame → Terminal → Next
for_wanted_step from S (t.Name s) = if is_for s then Some (names_wanted from, false, S) else None
for_wanted_step from S s = None

abbrev pub names_wanted_step : ℕ → List Frame → ℕ → Terminal → Next
names_wanted_step from S at (t.Name s) = Some (among from (ns.Item (name_at at s)), false, S)
names_wanted_step from S at t.OpenParen = Some (one_wanted, true, in_names from ∷ S)
names_wanted_step from S at s = None

abbrev pub one_wanted_step : List Frame → ℕ → Terminal → Next
one_wanted_step S at (t.Name s) = Some (one_named (name_at at s), true, S)
one_wanted_step S at s = None

abbrev pub one_named_step : Name → List Frame → Terminal → Next
one_named_step n S t.Comma = Some (other_wanted n, true, S)
one_named_step n S s = None

abbrev pub other_wanted_step : Name → List Frame → ℕ → Terminal → Next
other_wanted_step n S at (t.Name s) = Some (both_named n (name_at at s), true, S)
other_wanted_step n S at s = None

abbrev pub both_named_step : Name → Name → List Frame → Terminal → Next
both_named_step n m (in_names from ∷ S) t.CloseParen = Some (among from (ns.Both n m), false, S)
both_named_step n m S s = None

abbrev pub among_step : ℕ → LoopNames → List Frame → Terminal → Next
among_step at ns S (t.Name s) = if is_in s then over_on at ns S else None
among_step at ns S s = None

-- the name `resource` and another name begin a nested resource
abbrev pub labelled_step : Label → List Frame → ℕ → Terminal → Next
labelled_step n S at t.Colon = Some (wanted false, false, valued n ∷ S)
labelled_step (label.Name n) S at (t.Name s) = if is_resource n.text
    then Some (declared empty n.at w.Child (name_at at s), false, S) else None
labelled_step n S at s = None

module _ (most : ℕ) where
  -- ---- steps after an expression

  abbrev pub with_operator : Bool → Operator → Closed → Next
  with_operator i o (e, S) = Some (wanted true, i, left o e ∷ S)

  abbrev pub with_question : Bool → Closed → Next
  with_question i (e, S) = Some (wanted true, i, asked e ∷ S)

  -- an expression goes on or ends
  abbrev pub gone_on : Kept Tree → Bool → List Frame → Terminal → Next
  gone_on e i S (t.Access k) = Some (dotted k e, i, S)
  gone_on e i S t.OpenBracket = Some (wanted false, i, indexing e x.Plain ∷ S)
  gone_on e i S t.SafeBracket = Some (wanted false, i, indexing e x.Safe ∷ S)
  gone_on e i S t.Not = Some (done (of_not_null most e), i, S)
  gone_on e i S (t.Operator o) = with_operator i o (closed most (level o) e S)
  gone_on e i S t.Question = with_question i (closed most 1 e S)
  gone_on e i S t.Colon = colon_on most i (closed most 0 e S)
  gone_on e i S t.CloseParen = paren_on most (closed most 0 e S)
  gone_on e i S t.CloseBracket = bracket_on most i (closed most 0 e S)
  gone_on e i S t.Comma = comma_on most (closed most 0 e S)
  gone_on e i S t.CloseBrace = brace_on most (closed most 0 e S)
  gone_on e i S (t.MiddlePiece s) = middle_on most i s (closed most 0 e S)
  gone_on e i S (t.RightPiece s) = right_on most i s (closed most 0 e S)
  gone_on e i S t.Newline = Some (paused e, i, S)
  gone_on e i S (t.Name s) = if is_in s then pair_on (pair_of e.0) S else None
  gone_on e i S s = None

  -- `.` after a name
  abbrev pub space_on : Option Namespace → Name → Bool → List Frame → Next
  space_on None n i S = Some (dotted a.Member (flat (name n)), i, S)
  space_on (Some space) n i S = Some (qualifying space n, i, S)

  abbrev pub named_step : Name → Bool → List Frame → ℕ → Terminal → Next
  named_step n i S at t.OpenParen = Some (first, true, calling (function (f.Plain n)) i empty ∷ S)
  named_step n i S at (t.Access a.Member) = space_on (namespace_of n.text) n i S
  named_step n i S at (t.Name s) = item_on n (name_at at s) S
  named_step n i S at s = gone_on (flat (name n)) i S s

  abbrev pub qualifying_step : Namespace → Name → Bool → List Frame → ℕ → Terminal → Next
  qualifying_step space n i S at (t.Name s) = Some (qualified space n (name_at at s), i, S)
  qualifying_step space n i S at s = None

  abbrev pub qualified_step : Namespace → Name → Name → Bool → List Frame → Terminal → Next
  qualified_step space n m i S t.OpenParen =
      Some (first, true, calling (function (f.Qualified n.at space m)) i empty ∷ S)
  qualified_step space n m i S s = gone_on (of_access most (flat (name n)) a.Member m) i S s

  abbrev pub dotted_step : Access → Kept Tree → Bool → List Frame → ℕ → Terminal → Next
  dotted_step k e i S at (t.Name s) = Some (done (of_access most e k (name_at at s)), i, S)
  dotted_step k e i S at s = None

  abbrev pub first_step : Bool → List Frame → ℕ → Terminal → Next
  first_step i S at t.CloseParen = call_closed most S
  first_step i S at s = begun i S at s

  abbrev pub item_step : List Frame → ℕ → Terminal → Next
  item_step S at t.Newline = item_parted S
  item_step S at t.Comma = item_parted S
  item_step S at t.CloseBracket = items_closed most S
  item_step S at s = begun false S at s

  abbrev pub member_step : List Frame → ℕ → Terminal → Next
  member_step S at t.Newline = Some (member, false, S)
  member_step S at t.Comma = Some (member, false, S)
  member_step S at t.CloseBrace = members_closed most S
  member_step S at t.At = Some (at_sign empty at, false, S)
  member_step S at (t.Name s) = Some (labelled (label.Name (name_at at s)), false, S)
  member_step S at (t.Literal (l.Text s)) = Some (labelled (label.Quoted (quoted_at at s)), false, S)
  member_step S at s = None

  abbrev pub past_member_step : Kept MemberTree → List Frame → Terminal → Next
  past_member_step m S t.Newline = member_put m S
  past_member_step m S t.Comma = member_put m S
  past_member_step m S t.CloseBrace = member_closed most m S
  past_member_step m S s = None

  -- a token after a newline that ended an expression
  abbrev pub rejoined : State × Bool × List Frame → ℕ → Terminal → Next
  rejoined (item, i, S) at s = item_step S at s
  rejoined (member, i, S) at s = member_step S at s
  rejoined (between, i, S) at s = between_step S at s
  rejoined q at s = None

  abbrev pub paused_step : Kept Tree → List Frame → ℕ → Terminal → Next
  paused_step e S at t.Newline = Some (paused e, false, S)
  paused_step e S at t.Question = with_question false (closed most 1 e S)
  paused_step e S at t.Colon = late_colon_on most (closed most 0 e S)
  paused_step e S at s = option_and_then (λ q. rejoined q at s) (newline_on most (closed most 0 e S))

  -- a token that is no skipped newline
  abbrev pub transition : State → Bool → List Frame → ℕ → Terminal → Next
  transition (wanted w) i S at s = wanted_step w i S at s
  transition first i S at s = first_step i S at s
  transition (named n) i S at s = named_step n i S at s
  transition (qualifying space n) i S at s = qualifying_step space n i S at s
  transition (qualified space n m) i S at s = qualified_step space n m i S s
  transition (dotted k e) i S at s = dotted_step k e i S at s
  transition (done e) i S at s = gone_on e i S s
  transition (paused e) i S at s = paused_step e S at s
  transition item i S at s = item_step S at s
  transition (for_wanted from) i S at s = for_wanted_step from S s
  transition (names_wanted from) i S at s = names_wanted_step from S at s
  transition one_wanted i S at s = one_wanted_step S at s
  transition (one_named n) i S at s = one_named_step n S s
  transition (other_wanted n) i S at s = other_wanted_step n S at s
  transition (both_named n m) i S at s = both_named_step n m S s
  transition member i S at s = member_step S at s
  transition (labelled n) i S at s = labelled_step n S at s
  transition (past_member m) i S at s = past_member_step m S s
  transition (among from ns) i S at s = among_step from ns S s
  transition body i S at s = body_step S at s
  transition looped_body i S at s = looped_body_step S at s
  transition (condition from) i S at s = condition_step from S s
  transition guarded i S at s = guarded_step S at s
  transition (body_end h b) i S at s = body_end_step h b S s
  transition (at_sign ds from) i S at s = at_sign_step ds from S at s
  transition (decorator_named ds from n) i S at s = decorator_named_step ds from n S s
  transition (decorator_spaced ds from n) i S at s = decorator_spaced_step ds from n S at s
  transition (decorator_ready ds from g) i S at s = decorator_ready_step ds from g S s
  transition (decorated ds) i S at s = decorated_step ds S s
  transition (past_decorators ds) i S at s = past_decorators_step ds S at s
  transition (declaring ds from word) i S at s = declaring_step ds from word S at s
  transition (declared ds from word n) i S at s = declared_step ds from word n S at s
  transition (typed ds from word n ty) i S at s = typed_step ds from word n ty S s
  transition (headed h) i S at s = headed_step h S s
  transition (existed h) i S at s = existed_step h S s
  transition between i S at s = between_step S at s
  transition (past_statement st) i S at s = past_statement_step st S s

  -- one token
  abbrev pub step : State → Bool → List Frame → Placed → Next
  step s i S t = if i && is_newline t.1 then Some (s, i, S) else transition s i S t.0 t.1

  -- ---- the end

  -- a file whose last statement this is
  abbrev pub ended : Kept StatementTree → List Frame → Option (Kept (List StatementTree))
  ended s (in_file ss ∷ []) = Some (put ss s)
  ended s S = None

  abbrev pub ended_by : Closed → Option (Kept (List StatementTree))
  ended_by (e, assigned ds d ∷ S) = ended (of_statement ds (with_expression d e)) S
  ended_by (e, S) = None

  abbrev pub ended_between : List Frame → Option (Kept (List StatementTree))
  ended_between (in_file ss ∷ []) = Some ss
  ended_between S = None

  abbrev pub finished : State → List Frame → Option (Kept (List StatementTree))
  finished between S = ended_between S
  finished (past_statement st) S = ended st S
  finished (typed ds from w.Param n ty) S = ended (of_statement ds (flat (param from n ty))) S
  finished (named n) S = ended_by (closed most 0 (flat (name n)) S)
  finished (qualified space n m) S = ended_by (closed most 0 (of_access most (flat (name n)) a.Member m) S)
  finished (done e) S = ended_by (closed most 0 e S)
  finished (paused e) S = ended_by (closed most 0 e S)
  finished s S = None

  abbrev pub run : State → Bool → List Frame → List Placed → Option (Kept (List StatementTree))
  run s i S [] = finished s S
  run s i S (t ∷ ts) = option_and_then (λ q. run q.0 q.1 q.2 ts) (step s i S t)

  -- the file that the tokens spell, as it is kept
  abbrev pub parsed : List Placed → Option (Kept (List StatementTree))
  parsed ts = run between false (in_file empty ∷ []) ts
