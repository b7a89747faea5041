-- Bicep trees whose names are names of template expressions, as far as they can be written into these, whose numbers
-- are of 64 bits, whose texts have few holes, and in which types of resources are short.
use Rattle.std.specs.Prelude.{◌≤◌, ◌^◌, ℕ, suc, List, length}
use Rattle.arm_expr.specs.Grammar.{IsName}
use Rattle.bicep_tree.specs.Tree.{Tree, Trees, Holes, ObjectTree, MemberTree, MemberTrees, ValueTree, LoopTree}
use Rattle.bicep_tree.specs.Tree.{ResourceTree, BodyTree, DeclarationTree, StatementTree, FileTree}
use Rattle.bicep_tree.specs.Tree as tree
use Rattle.std.specs.List.{AllByRecursion}
use Rattle.bicep_names.specs.Resolve.{function_name}
use Rattle.emitted_numbers.specs.Wholes.{IsWholeLiteral}

-- the text has no more characters than a file may have bytes
abbrev pub IsShort : List ℕ → Type 0
IsShort text = length text ≤ 4194304

-- how many holes there are
abbrev pub count : Holes → ℕ
count tree.no_hole = 0
count (tree.hole e after hs) = suc (count hs)

abbrev mutual
  -- names of functions and of members after a `.`, and numbers
  pub IsWorded : Tree → Type 0
  IsWorded (tree.name n) = Unit {0}
  IsWorded (tree.literal at v) = IsWholeLiteral v
  IsWorded (tree.interpolated at first hs) = HolesAreWorded hs × (count hs ≤ 2 ^ 64)
  IsWorded (tree.object o) = ObjectIsWorded o
  IsWorded (tree.array at es) = AreWorded es
  IsWorded (tree.parentheses at e) = IsWorded e
  IsWorded (tree.call f es) = IsName (function_name f).text × AreWorded es
  IsWorded (tree.access e k n) = IsWorded e × IsName n.text
  IsWorded (tree.index e k i) = IsWorded e × IsWorded i
  IsWorded (tree.not_null e) = IsWorded e
  IsWorded (tree.prefixed at p e) = IsWorded e
  IsWorded (tree.binary o a b) = IsWorded a × IsWorded b
  IsWorded (tree.conditional c a b) = IsWorded c × (IsWorded a × IsWorded b)

  pub AreWorded : Trees → Type 0
  AreWorded tree.none = Unit {0}
  AreWorded (tree.more e es) = IsWorded e × AreWorded es

  pub HolesAreWorded : Holes → Type 0
  HolesAreWorded tree.no_hole = Unit {0}
  HolesAreWorded (tree.hole e after hs) = IsWorded e × HolesAreWorded hs

  pub ObjectIsWorded : ObjectTree → Type 0
  ObjectIsWorded (tree.braces at ms) = MembersAreWorded ms

  pub MembersAreWorded : MemberTrees → Type 0
  MembersAreWorded tree.no_member = Unit {0}
  MembersAreWorded (tree.and_member m ms) = MemberIsWorded m × MembersAreWorded ms

  pub MemberIsWorded : MemberTree → Type 0
  MemberIsWorded (tree.property l v) = ValueIsWorded v
  MemberIsWorded (tree.child ds r) = ResourceIsWorded r

  pub ValueIsWorded : ValueTree → Type 0
  ValueIsWorded (tree.plain e) = IsWorded e
  ValueIsWorded (tree.each l e) = LoopIsWorded l × IsWorded e

  pub LoopIsWorded : LoopTree → Type 0
  LoopIsWorded (tree.loop at ns xs) = IsWorded xs

  pub ResourceIsWorded : ResourceTree → Type 0
  ResourceIsWorded (tree.resource at n q x b) = IsName n.text × (IsShort q.text × BodyIsWorded b)

  pub BodyIsWorded : BodyTree → Type 0
  BodyIsWorded (tree.body_plain o) = ObjectIsWorded o
  BodyIsWorded (tree.body_if at c o) = IsWorded c × ObjectIsWorded o
  BodyIsWorded (tree.body_each l o) = LoopIsWorded l × ObjectIsWorded o
  BodyIsWorded (tree.body_each_if l at c o) = LoopIsWorded l × (IsWorded c × ObjectIsWorded o)

-- a declaration, and the name of what it declares
abbrev pub IsDeclaredWorded : DeclarationTree → Type 0
IsDeclaredWorded (tree.metadata at n e) = Unit {0}
IsDeclaredWorded (tree.target_scope at e) = Unit {0}
IsDeclaredWorded (tree.param at n t) = IsName n.text
IsDeclaredWorded (tree.param_with at n t e) = IsName n.text × IsWorded e
IsDeclaredWorded (tree.var at n v) = IsName n.text × ValueIsWorded v
IsDeclaredWorded (tree.output at n t v) = IsName n.text × ValueIsWorded v
IsDeclaredWorded (tree.a_resource r) = ResourceIsWorded r
IsDeclaredWorded (tree.a_module at n q b) = IsName n.text × BodyIsWorded b

abbrev pub StatementIsWorded : StatementTree → Type 0
StatementIsWorded (tree.statement ds d) = IsDeclaredWorded d

-- a file
abbrev pub FileIsWorded : FileTree → Type 0
FileIsWorded f = AllByRecursion StatementIsWorded f
