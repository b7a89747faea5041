-- Which tokens spell which expressions and the members of their objects (Microsoft Learn, "Bicep file structure and
-- syntax"). `inside` is true where newlines are skipped: between `(` and `)`, outside the braces and the array brackets
-- there. After an operator between operands, and on both sides of the `?` and the `:` of a conditional, newlines are
-- skipped everywhere.
use Rattle.std.specs.Prelude.{ℕ, Bool, true, false, List, codes}
use Rattle.bicep_tree.specs.declared.leaf.LoopNames.{LoopNames}
use Rattle.bicep_tree.specs.declared.leaf.LoopNames.TheVariants as ns
use Rattle.bicep_tree.specs.declared.terminal.Terminal.TheVariants as t
use Rattle.bicep_tree.specs.Tree.{Tree, name, literal, interpolated, object, array, parentheses, call, access, index}
use Rattle.bicep_tree.specs.Tree.{not_null, prefixed, binary, conditional, Trees, none, more, Holes, no_hole, hole}
use Rattle.bicep_tree.specs.Tree.{ObjectTree, braces, MemberTree, property, child, MemberTrees, no_member, and_member}
use Rattle.bicep_tree.specs.Tree.{ValueTree, plain, each, LoopTree, loop, DecoratorTree, decorator, DecoratorTrees}
use Rattle.bicep_tree.specs.Tree.{no_decorator, and_decorator, ResourceTree, resource, BodyTree, body_plain, body_if}
use Rattle.bicep_tree.specs.Tree.{body_each, body_each_if}
use Rattle.bicep_tree.specs.Precedence.{Groups, IsPrimary, IsUnary, IsOperand}
use Rattle.bicep_tree.specs.Forms.{Form, ◌▹◌, provided, nothing, never, sign_at, sign, is_separator, one, any}
use Rattle.bicep_tree.specs.Forms.{skipped, token_at, token, named, word, quoted, labelled, index_sign, prefix_sign}
use Rattle.bicep_tree.specs.Forms.{function, decorating}

-- the names of a loop: `x`, or `(x, i)`
abbrev pub loop_names : LoopNames → Form
loop_names (ns.Item n) = named false n
loop_names (ns.Both n i) = sign t.OpenParen ▹ named true n ▹ token true t.Comma ▹ named true i ▹ token true t.CloseParen

-- `existing`, where it is an existing resource
abbrev pub existing : Bool → Form
existing true = word (codes "existing")
existing false = nothing

-- any number of separators
abbrev pub separators : Form
separators = any is_separator

-- one separator at least
abbrev pub separated : Form
separated = one is_separator ▹ any is_separator

-- `if (c)`, with the form of its condition
abbrev pub under : ℕ → Form → Form
under at c = sign_at at (t.Name (codes "if")) ▹ sign t.OpenParen ▹ c ▹ token true t.CloseParen

abbrev mutual
  pub expression : Bool → Tree → Form
  expression i (name n) = named i n
  expression i (literal at v) = token_at i at (t.Literal v)
  expression i (interpolated at first hs) = token_at i at (t.LeftPiece first) ▹ a_hole i hs
  expression i (object o) = an_object i o
  expression i (array at es) = token_at i at t.OpenBracket ▹ separators ▹ items es
  expression i (parentheses at e) = token_at i at t.OpenParen ▹ expression true e ▹ token true t.CloseParen
  expression i (call f es) = function i f ▹ token i t.OpenParen ▹ arguments es
  expression i (access e k n) = provided (IsPrimary e) (expression i e ▹ token i (t.Access k) ▹ named i n)
  expression i (index e k x) =
      provided (IsPrimary e) (expression i e ▹ token i (index_sign k) ▹ expression i x ▹ token i t.CloseBracket)
  expression i (not_null e) = provided (IsPrimary e) (expression i e ▹ token i t.Not)
  expression i (prefixed at p e) = provided (IsUnary e) (token_at i at (prefix_sign p) ▹ expression i e)
  expression i (binary o a b) =
      provided (Groups o a b) (expression i a ▹ token i (t.Operator o) ▹ skipped true ▹ expression i b)
  expression i (conditional c a b) =
      provided (IsOperand c)
      (expression i c ▹ token true t.Question ▹ skipped true ▹ expression i a ▹ token true t.Colon ▹ skipped true
      ▹ expression i b)

  -- arguments, up to the `)`
  pub arguments : Trees → Form
  arguments none = token true t.CloseParen
  arguments (more e es) = expression true e ▹ further_arguments es

  -- the arguments after one
  pub further_arguments : Trees → Form
  further_arguments none = token true t.CloseParen
  further_arguments (more e es) = token true t.Comma ▹ expression true e ▹ further_arguments es

  -- items, up to the `]`
  pub items : Trees → Form
  items none = sign t.CloseBracket
  items (more e es) = expression false e ▹ further_items es

  -- the items after one
  pub further_items : Trees → Form
  further_items none = separators ▹ sign t.CloseBracket
  further_items (more e es) = separated ▹ expression false e ▹ further_items es

  -- a hole of an interpolated text, and the parts after it
  pub a_hole : Bool → Holes → Form
  a_hole i no_hole = never
  a_hole i (hole e s hs) = expression i e ▹ after_hole i s hs

  -- the characters after a hole, and the other holes
  pub after_hole : Bool → List ℕ → Holes → Form
  after_hole i s no_hole = token i (t.RightPiece s)
  after_hole i s (hole e u hs) = token i (t.MiddlePiece s) ▹ expression i e ▹ after_hole i u hs

  pub an_object : Bool → ObjectTree → Form
  an_object i (braces at ms) = token_at i at t.OpenBrace ▹ separators ▹ object_members ms

  -- members, up to the `}`
  pub object_members : MemberTrees → Form
  object_members no_member = sign t.CloseBrace
  object_members (and_member m ms) = a_member m ▹ further_members ms

  -- the members after one
  pub further_members : MemberTrees → Form
  further_members no_member = separators ▹ sign t.CloseBrace
  further_members (and_member m ms) = separated ▹ a_member m ▹ further_members ms

  pub a_member : MemberTree → Form
  a_member (property l v) = labelled l ▹ sign t.Colon ▹ value v
  a_member (child ds r) = decorated ds ▹ a_resource r

  pub value : ValueTree → Form
  value (plain e) = expression false e
  value (each l e) = a_loop l ▹ expression false e ▹ sign t.CloseBracket

  -- `[for x in xs:`
  pub a_loop : LoopTree → Form
  a_loop (loop at ns e) =
      sign_at at t.OpenBracket ▹ word (codes "for") ▹ loop_names ns ▹ word (codes "in") ▹ expression false e ▹ sign
      t.Colon

  -- decorators, each before a newline
  pub decorated : DecoratorTrees → Form
  decorated no_decorator = nothing
  decorated (and_decorator d ds) = a_decorator d ▹ sign t.Newline ▹ decorated ds

  pub a_decorator : DecoratorTree → Form
  a_decorator (decorator at f es) = sign_at at t.At ▹ decorating f ▹ sign t.OpenParen ▹ arguments es

  pub a_resource : ResourceTree → Form
  a_resource (resource at n p x b) =
      sign_at at (t.Name (codes "resource")) ▹ named false n ▹ quoted p ▹ existing x ▹ sign t.Assign ▹ body b

  pub body : BodyTree → Form
  body (body_plain o) = an_object false o
  body (body_if at c o) = under at (expression true c) ▹ an_object false o
  body (body_each l o) = a_loop l ▹ an_object false o ▹ sign t.CloseBracket
  body (body_each_if l at c o) = a_loop l ▹ under at (expression true c) ▹ an_object false o ▹ sign t.CloseBracket
