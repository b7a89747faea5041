-- Where a reading is: what was read last, and what is open.
use Rattle.std.specs.Prelude.{ℕ, Bool, List, Option}
use Rattle.bicep_tree.specs.declared.leaf.Name.{Name}
use Rattle.bicep_tree.specs.declared.leaf.Quoted.{Quoted}
use Rattle.bicep_tree.specs.declared.leaf.Label.{Label}
use Rattle.bicep_tree.specs.declared.leaf.LoopNames.{LoopNames}
use Rattle.bicep_tree.specs.declared.leaf.Namespace.{Namespace}
use Rattle.bicep_tree.specs.declared.leaf.Function.{Function}
use Rattle.bicep_tree.specs.declared.leaf.Access.{Access}
use Rattle.bicep_tree.specs.declared.leaf.Indexing.{Indexing}
use Rattle.bicep_tree.specs.declared.leaf.Prefix.{Prefix}
use Rattle.bicep_tree.specs.declared.leaf.Operator.{Operator}
use Rattle.bicep_tree.specs.declared.leaf.TypeName.{TypeName}
use Rattle.bicep_tree.specs.Tree.{Tree, MemberTree, LoopTree, DecoratorTree, BodyTree, StatementTree}
use Rattle.bicep_machine.specs.declared.word.Word.{Word}
use Rattle.bicep_machine.specs.declared.word.Owner.{Owner}
use Rattle.bicep_machine.specs.Kept.{Kept}

abbrev pub Decorators : Type 0
Decorators = Kept (List DecoratorTree)

-- what the `(` of a call follows
pub data Callee : Type 0 where
  function : Function → Callee
  -- a decorator's function, after other decorators and the `@`
  decorating : Decorators → ℕ → Function → Callee

-- what comes before the body of a resource or a module
pub data Header : Type 0 where
  header : Decorators → ℕ → Owner → Name → Quoted → Header

-- what comes before the object of a body
pub data Front : Type 0 where
  nothing_before : Front
  a_condition : ℕ → Kept Tree → Front
  a_loop : Kept LoopTree → Front
  loop_and_condition : Kept LoopTree → ℕ → Kept Tree → Front

-- what comes before the expression of a declaration
pub data Assigned : Type 0 where
  to_metadata : ℕ → Name → Assigned
  to_scope : ℕ → Assigned
  to_param : ℕ → Name → TypeName → Assigned
  to_var : ℕ → Name → Assigned
  to_output : ℕ → Name → TypeName → Assigned

-- What is open. A truth value says whether newlines were skipped around it.
pub data Frame : Type 0 where
  -- `(`
  grouping : ℕ → Bool → Frame
  -- a call and its arguments so far
  calling : Callee → Bool → Kept (List Tree) → Frame
  -- an index after a value
  indexing : Kept Tree → Indexing → Frame
  -- `[` with nothing after it
  opened : ℕ → Bool → Frame
  -- an array, its items so far, and separators
  in_array : ℕ → Bool → Kept (List Tree) → Frame
  in_object : ℕ → Bool → Kept (List MemberTree) → Frame
  -- an interpolated text, its first characters, and its holes so far
  in_text : ℕ → List ℕ → Kept (List (Tree × List ℕ)) → Frame
  -- an operator before its operand
  prefixing : ℕ → Prefix → Frame
  -- a left operand and its operator
  left : Operator → Kept Tree → Frame
  -- the condition of a conditional, and `?`
  asked : Kept Tree → Frame
  -- the condition, the first branch, and `:`
  chosen : Kept Tree → Kept Tree → Frame
  -- the name of a member, and `:`
  valued : Label → Frame
  -- a declaration up to its `=`
  assigned : Decorators → Assigned → Frame
  -- `[for x in` of a value
  over : ℕ → LoopNames → Frame
  -- `[for x in` of a body
  body_over : ℕ → LoopNames → Header → Frame
  -- `[for (` of a body
  in_names : ℕ → Frame
  -- `[for x in xs:` of a value
  looped : Kept LoopTree → Frame
  -- `if (` of a body
  in_condition : ℕ → Header → Front → Frame
  -- a body up to its object
  bodied : Header → Front → Frame
  -- the file
  in_file : Kept (List StatementTree) → Frame

-- What was read last.
pub data State : Type 0 where
  -- something after which an expression comes; newlines before it are skipped where this says so
  wanted : Bool → State
  -- `(` of a call
  first : State
  -- a name in the place of an expression
  named : Name → State
  -- `sys` or `az`, and `.`
  qualifying : Namespace → Name → State
  -- and a name
  qualified : Namespace → Name → Name → State
  -- a value and `.`, `.?` or `::`
  dotted : Access → Kept Tree → State
  -- an expression that binds most
  done : Kept Tree → State
  -- and a newline that is not skipped
  paused : Kept Tree → State
  -- `[`, or separators after it or an item
  item : State
  -- `[` in the place of a body
  for_wanted : ℕ → State
  -- `[for` in the place of a body
  names_wanted : ℕ → State
  -- `[for (` in the place of a body
  one_wanted : State
  -- and a name
  one_named : Name → State
  -- and `,`
  other_wanted : Name → State
  -- and another name
  both_named : Name → Name → State
  -- `{`, or separators after it or a member
  member : State
  -- the name of a member
  labelled : Label → State
  -- a member
  past_member : Kept MemberTree → State
  -- `[for` and the names
  among : ℕ → LoopNames → State
  -- `=` before a body
  body : State
  -- `:` before the body of a loop
  looped_body : State
  -- `if`
  condition : ℕ → State
  -- `if (c)`
  guarded : State
  -- the object of a loop's body
  body_end : Header → Kept BodyTree → State
  -- decorators and `@`
  at_sign : Decorators → ℕ → State
  -- and a name
  decorator_named : Decorators → ℕ → Name → State
  -- `@sys.`, with the offset of `sys`
  decorator_spaced : Decorators → ℕ → ℕ → State
  -- `@sys.f`
  decorator_ready : Decorators → ℕ → Function → State
  -- decorators, after which a newline comes
  decorated : Decorators → State
  -- and the newline
  past_decorators : Decorators → State
  -- the word of a declaration
  declaring : Decorators → ℕ → Word → State
  -- and its name
  declared : Decorators → ℕ → Word → Name → State
  -- and its type
  typed : Decorators → ℕ → Word → Name → TypeName → State
  -- a resource or module up to its type text or path; `existing` may come
  headed : Header → State
  -- `existing`
  existed : Header → State
  -- newlines, or nothing yet, in a file
  between : State
  -- a statement
  past_statement : Kept StatementTree → State

-- a state, whether newlines are skipped, and what is open
abbrev pub Next : Type 0
Next = Option (State × Bool × List Frame)
