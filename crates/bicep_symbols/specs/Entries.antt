-- The symbols of a file: its parameters, variables, resources and modules in source order, a nested resource after its
-- parent. The number of a symbol is its place among these.
use Rattle.std.specs.Prelude.{ℕ, List, [], ◌∷◌, ◌++◌, length, map, Option, Some, None, encode_utf8_all}
use Rattle.bicep_tree.specs.declared.leaf.Name.{Name}
use Rattle.bicep_tree.specs.Tree.{ResourceTree, BodyTree, ObjectTree, MemberTree, MemberTrees, DeclarationTree}
use Rattle.bicep_tree.specs.Tree.{StatementTree, FileTree}
use Rattle.bicep_tree.specs.Tree as tree
use Rattle.bicep_names.specs.declared.kind.Kind.{Kind}
use Rattle.bicep_names.specs.declared.kind.Kind.TheVariants as k
use Rattle.bicep_names.specs.Scope.{Symbols}
use Rattle.bicep_symbols.specs.declared.entry.Entry.{Entry}

-- a symbol: the offset of its name, its name and its kind
abbrev pub Symbol : Type 0
Symbol = ℕ × List ℕ × Kind

abbrev pub symbol_of : Entry → Symbol
symbol_of e = (e.at, e.name, e.kind)

abbrev pub symbol_at : Name → Kind → Symbol
symbol_at n kind = (n.at, n.text, kind)

-- the kind of a resource that is nested in the one of a number, where there is one
abbrev pub resource_kind : Option ℕ → BodyTree → Kind
resource_kind inside (tree.body_plain o) = k.Resource inside
resource_kind inside (tree.body_if at c o) = k.Resource inside
resource_kind inside (tree.body_each l o) = k.ResourceLoop inside
resource_kind inside (tree.body_each_if l at c o) = k.ResourceLoop inside

-- the kind of a module of a file
abbrev pub module_kind : ℕ → BodyTree → Kind
module_kind file (tree.body_plain o) = k.Module file
module_kind file (tree.body_if at c o) = k.Module file
module_kind file (tree.body_each l o) = k.ModuleLoop file
module_kind file (tree.body_each_if l at c o) = k.ModuleLoop file

-- these symbols, and then those of a resource and of the resources that are nested in it
abbrev mutual
  pub with_resource : Option ℕ → ResourceTree → List Symbol → List Symbol
  with_resource inside (tree.resource at n q x b) ss =
      with_body (length ss) b (ss ++ symbol_at n (resource_kind inside b) ∷ [])

  pub with_body : ℕ → BodyTree → List Symbol → List Symbol
  with_body k (tree.body_plain o) ss = with_object k o ss
  with_body k (tree.body_if at c o) ss = with_object k o ss
  with_body k (tree.body_each l o) ss = with_object k o ss
  with_body k (tree.body_each_if l at c o) ss = with_object k o ss

  pub with_object : ℕ → ObjectTree → List Symbol → List Symbol
  with_object k (tree.braces at ms) ss = with_members k ms ss

  pub with_members : ℕ → MemberTrees → List Symbol → List Symbol
  with_members k tree.no_member ss = ss
  with_members k (tree.and_member m ms) ss = with_members k ms (with_member k m ss)

  pub with_member : ℕ → MemberTree → List Symbol → List Symbol
  with_member k (tree.property l v) ss = ss
  with_member k (tree.child ds r) ss = with_resource (Some k) r ss

-- these symbols, and then those of a declaration; a module has the file of that number
abbrev pub with_declaration : ℕ → DeclarationTree → List Symbol → List Symbol
with_declaration file (tree.metadata at n e) ss = ss
with_declaration file (tree.target_scope at e) ss = ss
with_declaration file (tree.param at n t) ss = ss ++ symbol_at n k.Parameter ∷ []
with_declaration file (tree.param_with at n t e) ss = ss ++ symbol_at n k.Parameter ∷ []
with_declaration file (tree.var at n v) ss = ss ++ symbol_at n k.Variable ∷ []
with_declaration file (tree.output at n t v) ss = ss
with_declaration file (tree.a_resource r) ss = with_resource None r ss
with_declaration file (tree.a_module at n q b) ss = ss ++ symbol_at n (module_kind file b) ∷ []

-- the first of the numbers of files, and those after a declaration, where each module takes one
abbrev pub first_file : List ℕ → ℕ
first_file [] = 0
first_file (m ∷ ms) = m

abbrev pub rest_files : List ℕ → List ℕ
rest_files [] = []
rest_files (m ∷ ms) = ms

abbrev pub files_after : DeclarationTree → List ℕ → List ℕ
files_after (tree.a_module at n q b) ms = rest_files ms
files_after d ms = ms

abbrev pub with_statement : List ℕ → StatementTree → List Symbol → List Symbol
with_statement ms (tree.statement ds d) ss = with_declaration (first_file ms) d ss

abbrev pub files_after_statement : StatementTree → List ℕ → List ℕ
files_after_statement (tree.statement ds d) ms = files_after d ms

abbrev pub with_statements : List ℕ → FileTree → List Symbol → List Symbol
with_statements ms [] ss = ss
with_statements ms (s ∷ rest) ss = with_statements (files_after_statement s ms) rest (with_statement ms s ss)

-- the symbols of a file whose modules have the files of these numbers, in order
abbrev pub symbols_of : List ℕ → FileTree → List Symbol
symbols_of ms f = with_statements ms f []

-- what `Symbols` of `bicep_names` has of a symbol: the bytes of its name, and its kind
abbrev pub entry_bytes : Symbol → List ℕ × Kind
entry_bytes s = (encode_utf8_all s.1, s.2)

abbrev pub looked_up : List Symbol → Symbols
looked_up ss = map entry_bytes ss
