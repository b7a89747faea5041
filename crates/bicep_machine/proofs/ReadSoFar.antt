-- What was read, by what is open and by what was read last.
use Rattle.std.proofs.Common.{◌≡◌, ℕ, ◌<◌, ◌≤◌, List, [], ◌∷◌, ◌++◌, Bool, true, false, Some, None, codes}
use Rattle.bicep_tree.specs.declared.leaf.Name.{Name}
use Rattle.bicep_tree.specs.declared.leaf.Quoted.{Quoted}
use Rattle.bicep_tree.specs.declared.leaf.Access.TheVariants as a
use Rattle.bicep_tree.specs.declared.terminal.Terminal.TheVariants as t
use Rattle.bicep_tree.specs.Tree.{Tree, MemberTree, LoopTree, DecoratorTree, BodyTree, body_each, body_each_if}
use Rattle.bicep_tree.specs.Tree.{StatementTree, FileTree, decorators}
use Rattle.bicep_tree.specs.Precedence.{level, rank, IsPrimary, IsOperand}
use Rattle.bicep_tree.specs.Terminals.{Placed}
use Rattle.bicep_tree.specs.Forms.{Form, ◌▹◌, nothing, never, is_newline, one, any, skipped, sign_at, sign, token_at}
use Rattle.bicep_tree.specs.Forms.{token, named, word, quoted, index_sign, prefix_sign, namespace_word, function}
use Rattle.bicep_tree.specs.Forms.{decorating}
use Rattle.bicep_tree.specs.Forms as form
use Rattle.bicep_tree.specs.Expressions.{expression, loop_names, existing, under, an_object, a_member, a_decorator}
use Rattle.bicep_tree.specs.Expressions as grammar
use Rattle.bicep_tree.specs.Declarations.{type_word, word_at, a_statement}
use Rattle.bicep_machine.specs.declared.word.Word.{Word}
use Rattle.bicep_machine.specs.declared.word.Word.TheVariants as w
use Rattle.bicep_machine.specs.declared.word.Owner.{Owner}
use Rattle.bicep_machine.specs.declared.word.Owner.TheVariants as owner
use Rattle.bicep_machine.specs.Kept.{empty}
use Rattle.bicep_machine.specs.Stack as s
use Rattle.bicep_machine.specs.Stack.{Decorators, Header, header, Front, nothing_before, a_condition}
use Rattle.bicep_machine.specs.Stack.{loop_and_condition, Assigned, to_metadata, to_scope, to_param, to_var}
use Rattle.bicep_machine.specs.Stack.{to_output, Frame, grouping, calling, indexing, opened, in_array, in_object}
use Rattle.bicep_machine.specs.Stack.{in_text, prefixing, left, asked, chosen, valued, assigned, over, body_over}
use Rattle.bicep_machine.specs.Stack.{in_names, looped, in_condition, bodied, in_file, State, wanted, qualifying}
use Rattle.bicep_machine.specs.Stack.{qualified, dotted, done, paused, item, for_wanted, names_wanted, one_wanted}
use Rattle.bicep_machine.specs.Stack.{one_named, other_wanted, both_named, member, labelled, past_member, among}
use Rattle.bicep_machine.specs.Stack.{looped_body, condition, guarded, body_end, at_sign, decorator_named}
use Rattle.bicep_machine.specs.Stack.{decorator_spaced, decorator_ready, decorated, past_decorators, declaring}
use Rattle.bicep_machine.specs.Stack.{declared, typed, headed, existed, between, past_statement, Next}
use Rattle.bicep_machine.proofs.Keeping.{keep, keep_list, keep_holes, keep_loop, keep_decorators, keep_body}
use Rattle.bicep_machine.proofs.Keeping.{keep_member, keep_members, keep_statement, keep_file}
use Rattle.bicep_machine.proofs.Reading.{ItemsRead, MembersRead, StatementsRead, ArgumentsRead, HolesRead}

-- whether newlines are skipped in what is open
abbrev pub flag : List Frame → Bool
flag [] = false
flag (grouping at was ∷ S) = true
flag (calling c was es ∷ S) = true
flag (in_condition at h g ∷ S) = true
flag (in_names at ∷ S) = true
flag (indexing e k ∷ S) = flag S
flag (in_text at head hs ∷ S) = flag S
flag (prefixing at p ∷ S) = flag S
flag (left o e ∷ S) = flag S
flag (asked c ∷ S) = flag S
flag (chosen c e ∷ S) = flag S
flag (F ∷ S) = false

-- an expression that binds so may stand there
abbrev pub Takes : List Frame → ℕ → Type 0
Takes [] n = Unit {0}
Takes (prefixing at p ∷ S) n = 8 ≤ n
Takes (left o e ∷ S) n = level o < n
Takes (F ∷ S) n = Unit {0}

-- what is open is an object, an array, the file, a body, the names of its loop, or an operator that skips newlines
abbrev pub IsObject : List Frame → Type 0
IsObject (in_object at was ms ∷ S) = Unit {0}
IsObject S = ⊥

abbrev pub IsArray : List Frame → Type 0
IsArray (opened at was ∷ S) = Unit {0}
IsArray (in_array at was es ∷ S) = Unit {0}
IsArray S = ⊥

abbrev pub IsFile : List Frame → Type 0
IsFile (in_file ss ∷ S) = Unit {0}
IsFile S = ⊥

abbrev pub IsBody : List Frame → Type 0
IsBody (bodied h g ∷ S) = Unit {0}
IsBody S = ⊥

abbrev pub IsNames : List Frame → Type 0
IsNames (in_names at ∷ S) = Unit {0}
IsNames S = ⊥

abbrev pub IsOperator : List Frame → Type 0
IsOperator (left o e ∷ S) = Unit {0}
IsOperator (asked c ∷ S) = Unit {0}
IsOperator (chosen c e ∷ S) = Unit {0}
IsOperator S = ⊥

-- a nested resource is in an object
abbrev pub InPlace : Owner → List Frame → Type 0
InPlace (owner.Child x) S = IsObject S
InPlace p S = Unit {0}

abbrev pub Beginning : Word → List Frame → Type 0
Beginning w.Child S = IsObject S
Beginning word S = Unit {0}

-- a header that is not of an existing resource yet
abbrev pub IsNew : Header → Type 0
IsNew (header ds at (owner.Resource x) n q) = x ≡ false
IsNew (header ds at (owner.Child x) n q) = x ≡ false
IsNew h = Unit {0}

-- the word that begins a declaration
abbrev pub word_text : Word → List ℕ
word_text w.Metadata = codes "metadata"
word_text w.TargetScope = codes "targetScope"
word_text w.Param = codes "param"
word_text w.Var = codes "var"
word_text w.Output = codes "output"
word_text w.Resource = codes "resource"
word_text w.Child = codes "resource"
word_text w.Module = codes "module"

-- a header up to its type text or path, and what may follow that
abbrev pub header_form : ℕ → Owner → Name → Quoted → Form → Form
header_form at (owner.Resource x) n q F = word_at at (codes "resource") ▹ named false n ▹ quoted q ▹ existing x ▹ F
header_form at (owner.Child x) n q F = word_at at (codes "resource") ▹ named false n ▹ quoted q ▹ existing x ▹ F
header_form at owner.Module n q F = word_at at (codes "module") ▹ named false n ▹ quoted q ▹ F

-- a declaration up to its `=`
abbrev pub assigned_form : Assigned → Form
assigned_form (to_metadata at n) = word_at at (codes "metadata") ▹ named false n ▹ sign t.Assign
assigned_form (to_scope at) = word_at at (codes "targetScope") ▹ sign t.Assign
assigned_form (to_param at n ty) = word_at at (codes "param") ▹ named false n ▹ word (type_word ty) ▹ sign t.Assign
assigned_form (to_var at n) = word_at at (codes "var") ▹ named false n ▹ sign t.Assign
assigned_form (to_output at n ty) = word_at at (codes "output") ▹ named false n ▹ word (type_word ty) ▹ sign t.Assign

module _ (most : ℕ) where
  -- after this come decorators
  abbrev pub Decorated : List Frame → (List Placed → Type 0) → Decorators → List Placed → Type 0
  Decorated S P ds m = (flag S ≡ false) × (dts : List DecoratorTree) × (m1 : List Placed)
      × (ds ≡ keep_decorators most dts) × P m1 × grammar.decorated (decorators dts) m1 m

  -- and then this form
  abbrev pub Then : (List Placed → Type 0) → Form → List Placed → Type 0
  Then P F m = (m1 : List Placed) × P m1 × F m1 m

  abbrev pub front_form : Front → Form
  front_form nothing_before = nothing
  front_form (a_condition at k) = λ x y. (c : Tree) × (k ≡ keep most c) × under at (expression true c) x y
  front_form (s.a_loop k) = λ x y. (l : LoopTree) × (k ≡ keep_loop most l) × grammar.a_loop l x y
  front_form (loop_and_condition k at j) = λ x y. (l : LoopTree) × (c : Tree) × (k ≡ keep_loop most l)
      × (j ≡ keep most c) × (grammar.a_loop l ▹ under at (expression true c)) x y

  -- a header that may stand there, and then this form
  abbrev pub Headed : List Frame → (List Placed → Type 0) → Header → Form → List Placed → Type 0
  Headed S P (header ds at p n q) F m = InPlace p S × Then (Decorated S P ds) (header_form at p n q F) m

  -- from all, what is open was read, and m is left, where the next part of the topmost begins
  abbrev pub Open : List Frame → List Placed → List Placed → Type 0
  Open [] all m = ⊥
  Open (grouping at was ∷ S) all m = (was ≡ flag S) × Then (Open S all) (token_at (flag S) at t.OpenParen) m
  Open (calling (s.function g) was k ∷ S) all m =
      (es : List Tree) × (k ≡ keep_list most es) × (was ≡ flag S)
      × Then (Open S all) ((function (flag S) g ▹ token (flag S) t.OpenParen) ▹ ArgumentsRead es) m
  Open (calling (s.decorating ds at g) was k ∷ S) all m =
      (es : List Tree) × (k ≡ keep_list most es) × (was ≡ flag S)
      × Then (Decorated S (Open S all) ds)
      ((sign_at at t.At ▹ decorating g ▹ sign t.OpenParen) ▹ ArgumentsRead es) m
  Open (indexing k x ∷ S) all m = (e : Tree) × (k ≡ keep most e) × IsPrimary e
      × Then (Open S all) (expression (flag S) e ▹ token (flag S) (index_sign x)) m
  Open (opened at was ∷ S) all m = (was ≡ flag S) × Then (Open S all) (token_at (flag S) at t.OpenBracket) m
  Open (in_array at was k ∷ S) all m = (es : List Tree) × (k ≡ keep_list most es) × (was ≡ flag S)
      × Then (Open S all) (token_at (flag S) at t.OpenBracket ▹ ItemsRead es) m
  Open (in_object at was k ∷ S) all m = (ms : List MemberTree) × (k ≡ keep_members most ms) × (was ≡ flag S)
      × Then (Open S all) (token_at (flag S) at t.OpenBrace ▹ MembersRead ms) m
  Open (in_text at head k ∷ S) all m = (hs : List (Tree × List ℕ)) × (k ≡ keep_holes most hs)
      × Then (Open S all) (token_at (flag S) at (t.LeftPiece head) ▹ HolesRead (flag S) hs) m
  Open (prefixing at p ∷ S) all m = Then (Open S all) (token_at (flag S) at (prefix_sign p)) m
  Open (left o k ∷ S) all m =
      (e : Tree) × (k ≡ keep most e) × (level o ≤ rank e) × Takes S (level o)
      × Then (Open S all) (expression (flag S) e ▹ token (flag S) (t.Operator o) ▹ skipped true) m
  Open (asked k ∷ S) all m = (c : Tree) × (k ≡ keep most c) × IsOperand c × Takes S 0
      × Then (Open S all) (expression (flag S) c ▹ token true t.Question ▹ skipped true) m
  Open (chosen k j ∷ S) all m =
      (c : Tree) × (e : Tree) × (k ≡ keep most c) × (j ≡ keep most e) × IsOperand c × Takes S 0
      × Then (Open S all) (expression (flag S) c ▹ token true t.Question ▹ skipped true ▹ expression
      (flag S) e ▹ token true t.Colon ▹ skipped true) m
  Open (valued n ∷ S) all m = IsObject S × Then (Open S all) (form.labelled n ▹ sign t.Colon) m
  Open (assigned ds d ∷ S) all m = Then (Decorated S (Open S all) ds) (assigned_form d) m
  Open (over at ns ∷ S) all m =
      Then (Open S all) (sign_at at t.OpenBracket ▹ word (codes "for") ▹ loop_names ns ▹ word (codes "in")) m
  Open (body_over at ns h ∷ S) all m =
      Then (Headed S (Open S all) h (sign t.Assign))
      (sign_at at t.OpenBracket ▹ word (codes "for") ▹ loop_names ns ▹ word (codes "in")) m
  Open (in_names at ∷ S) all m = IsBody S
      × Then (Open S all) (token_at (flag S) at t.OpenBracket ▹ word (codes "for") ▹ sign t.OpenParen) m
  Open (looped k ∷ S) all m = (l : LoopTree) × (k ≡ keep_loop most l) × Then (Open S all) (grammar.a_loop l) m
  Open (in_condition at h g ∷ S) all m =
      Then (Headed S (Open S all) h (sign t.Assign))
      (front_form g ▹ sign_at at (t.Name (codes "if")) ▹ sign t.OpenParen) m
  Open (bodied h g ∷ S) all m = Then (Headed S (Open S all) h (sign t.Assign)) (front_form g) m
  Open (in_file k ∷ []) all m = (ss : FileTree) × (k ≡ keep_file most ss) × StatementsRead ss all m
  Open (in_file k ∷ (F ∷ S)) all m = ⊥

  -- the call has no argument yet
  abbrev pub IsFirst : List Frame → Type 0
  IsFirst (calling c was k ∷ S) = k ≡ empty
  IsFirst S = ⊥

  -- a loop's body without the `]`
  abbrev pub open_body : BodyTree → Form
  open_body (body_each l o) = grammar.a_loop l ▹ an_object false o
  open_body (body_each_if l at c o) = grammar.a_loop l ▹ under at (expression true c) ▹ an_object false o
  open_body b = never

  -- from all, this was read last, and m is left
  abbrev pub At : State → List Frame → List Placed → List Placed → Type 0
  At (wanted true) S all m = IsOperator S × Open S all m
  At (wanted false) S all m = Open S all m
  At s.first S all m = IsFirst S × Open S all m
  At (s.named n) S all m = Then (Open S all) (named (flag S) n) m
  At (qualifying y n) S all m = (n.text ≡ namespace_word y)
      × Then (Open S all) (named (flag S) n ▹ token (flag S) (t.Access a.Member)) m
  At (qualified y n x) S all m = (n.text ≡ namespace_word y)
      × Then (Open S all) (named (flag S) n ▹ token (flag S) (t.Access a.Member) ▹ named (flag S) x) m
  At (dotted k j) S all m = (e : Tree) × (j ≡ keep most e) × IsPrimary e
      × Then (Open S all) (expression (flag S) e ▹ token (flag S) (t.Access k)) m
  At (done j) S all m = (e : Tree) × (j ≡ keep most e) × IsPrimary e × Then (Open S all) (expression (flag S) e) m
  At (paused j) S all m = (e : Tree) × (j ≡ keep most e) × IsPrimary e × (flag S ≡ false)
      × Then (Open S all) (expression false e ▹ one is_newline ▹ any is_newline) m
  At item S all m = IsArray S × Open S all m
  At (for_wanted at) S all m = IsBody S × Then (Open S all) (token_at (flag S) at t.OpenBracket) m
  At (names_wanted at) S all m = IsBody S
      × Then (Open S all) (token_at (flag S) at t.OpenBracket ▹ word (codes "for")) m
  At one_wanted S all m = IsNames S × Open S all m
  At (one_named n) S all m = IsNames S × Then (Open S all) (named true n) m
  At (other_wanted n) S all m = IsNames S × Then (Open S all) (named true n ▹ token true t.Comma) m
  At (both_named n i) S all m = IsNames S × Then (Open S all) (named true n ▹ token true t.Comma ▹ named true i) m
  At member S all m = IsObject S × Open S all m
  At (labelled n) S all m = IsObject S × Then (Open S all) (form.labelled n) m
  At (past_member j) S all m = IsObject S × (d : MemberTree) × (j ≡ keep_member most d)
      × Then (Open S all) (a_member d) m
  At (among at ns) S all m =
      Then (Open S all) (token_at (flag S) at t.OpenBracket ▹ word (codes "for") ▹ loop_names ns) m
  At s.body S all m = IsBody S × Open S all m
  At looped_body S all m = IsBody S × Open S all m
  At (condition at) S all m = IsBody S × Then (Open S all) (sign_at at (t.Name (codes "if"))) m
  At guarded S all m = IsBody S × Open S all m
  At (body_end h j) S all m = (b : BodyTree) × (j ≡ keep_body most b)
      × Then (Headed S (Open S all) h (sign t.Assign)) (open_body b) m
  At (at_sign ds at) S all m = Then (Decorated S (Open S all) ds) (sign_at at t.At) m
  At (decorator_named ds at n) S all m = Then (Decorated S (Open S all) ds) (sign_at at t.At ▹ named false n) m
  At (decorator_spaced ds at from) S all m =
      Then (Decorated S (Open S all) ds)
      (sign_at at t.At ▹ sign_at from (t.Name (codes "sys")) ▹ sign (t.Access a.Member)) m
  At (decorator_ready ds at g) S all m = Then (Decorated S (Open S all) ds) (sign_at at t.At ▹ decorating g) m
  At (decorated ds) S all m = (flag S ≡ false) × (dts : List DecoratorTree) × (d : DecoratorTree) × (m1 : List Placed)
      × (ds ≡ keep_decorators most (dts ++ d ∷ [])) × Open S all m1
      × (grammar.decorated (decorators dts) ▹ a_decorator d) m1 m
  At (past_decorators ds) S all m = Decorated S (Open S all) ds m
  At (declaring ds at word) S all m = Beginning word S
      × Then (Decorated S (Open S all) ds) (word_at at (word_text word)) m
  At (declared ds at word n) S all m = Beginning word S
      × Then (Decorated S (Open S all) ds) (word_at at (word_text word) ▹ named false n) m
  At (typed ds at word n ty) S all m = Beginning word S
      × Then (Decorated S (Open S all) ds) (word_at at (word_text word) ▹ named false n ▹ form.word (type_word ty)) m
  At (headed h) S all m = IsNew h × Headed S (Open S all) h nothing m
  At (existed h) S all m = Headed S (Open S all) h nothing m
  At between S all m = IsFile S × Open S all m
  At (past_statement j) S all m = (st : StatementTree) × (j ≡ keep_statement most st)
      × Then (Open S all) (a_statement st) m

  -- after a step
  abbrev pub Holds : Next → List Placed → List Placed → Type 0
  Holds None all ts = Unit {0}
  Holds (Some q) all ts = (q.1 ≡ flag q.2) × At q.0 q.2 all ts
