-- The symbols of a file have the names of its declarations.
use Rattle.std.proofs.Common.{◌≡◌, ℕ, zero, suc, List, [], ◌∷◌, ◌++◌, length, Option, Some, None, subst}
use Rattle.std.proofs.lemmas.Option.{same_Some}
use Rattle.std.specs.Prelude.{option_map, slice_get}
use Rattle.std.specs.List.{AllByRecursion}
use Rattle.arm_expr.specs.Grammar.{IsName}
use Rattle.bicep_tree.specs.declared.leaf.Name.{Name}
use Rattle.bicep_tree.specs.Tree.{ResourceTree, BodyTree, ObjectTree, MemberTree, MemberTrees, DeclarationTree}
use Rattle.bicep_tree.specs.Tree.{FileTree}
use Rattle.bicep_tree.specs.Tree as tree
use Rattle.bicep_names.specs.declared.kind.Kind.{Kind}
use Rattle.bicep_names.specs.declared.kind.Kind.TheVariants as k
use Rattle.bicep_symbols.specs.Entries.{Symbol, symbol_at, resource_kind, module_kind, with_resource, with_body}
use Rattle.bicep_symbols.specs.Entries.{with_object, with_members, with_member, with_declaration, first_file}
use Rattle.bicep_symbols.specs.Entries.{files_after, with_statements, symbols_of}
use Rattle.bicep_numbers.proofs.FoundLemmas.{all-append}
use Rattle.file_words.specs.Words.{ObjectIsWorded, MembersAreWorded, MemberIsWorded, ResourceIsWorded, BodyIsWorded}
use Rattle.file_words.specs.Words.{IsDeclaredWorded, FileIsWorded}

abbrev pub HasName : Symbol → Type 0
HasName s = IsName s.1

abbrev pub HaveNames : List Symbol → Type 0
HaveNames ss = AllByRecursion HasName ss

one_more : (ss : List Symbol) (n : Name) (kind : Kind) → HaveNames ss → IsName n.text
    → HaveNames (ss ++ symbol_at n kind ∷ [])
one_more ss n kind h g = all-append HasName ss (symbol_at n kind ∷ []) h (g, tt)

mutual
  of_resource : (inside : Option ℕ) (r : ResourceTree) (ss : List Symbol) → ResourceIsWorded r → HaveNames ss
      → HaveNames (with_resource inside r ss)
  of_resource inside (tree.resource at n q x b) ss g h =
      let kind = resource_kind inside b in
      of_body (length ss) b (ss ++ symbol_at n kind ∷ []) g.1.1 (one_more ss n kind h g.0)

  of_body : (n : ℕ) (b : BodyTree) (ss : List Symbol) → BodyIsWorded b → HaveNames ss → HaveNames (with_body n b ss)
  of_body n (tree.body_plain o) ss g h = of_object n o ss g h
  of_body n (tree.body_if at c o) ss g h = of_object n o ss g.1 h
  of_body n (tree.body_each l o) ss g h = of_object n o ss g.1 h
  of_body n (tree.body_each_if l at c o) ss g h = of_object n o ss g.1.1 h

  of_object : (n : ℕ) (o : ObjectTree) (ss : List Symbol) → ObjectIsWorded o → HaveNames ss
      → HaveNames (with_object n o ss)
  of_object n (tree.braces at ms) ss g h = of_members n ms ss g h

  of_members : (n : ℕ) (ms : MemberTrees) (ss : List Symbol) → MembersAreWorded ms → HaveNames ss
      → HaveNames (with_members n ms ss)
  of_members n tree.no_member ss g h = h
  of_members n (tree.and_member m ms) ss g h = of_members n ms (with_member n m ss) g.1 (of_member n m ss g.0 h)

  of_member : (n : ℕ) (m : MemberTree) (ss : List Symbol) → MemberIsWorded m → HaveNames ss
      → HaveNames (with_member n m ss)
  of_member n (tree.property l v) ss g h = h
  of_member n (tree.child es q) ss g h = of_resource (Some n) q ss g h

of_declaration : (file : ℕ) (t : DeclarationTree) (ss : List Symbol) → IsDeclaredWorded t → HaveNames ss
    → HaveNames (with_declaration file t ss)
of_declaration file (tree.metadata at n e) ss g h = h
of_declaration file (tree.target_scope at e) ss g h = h
of_declaration file (tree.param at n t) ss g h = one_more ss n k.Parameter h g
of_declaration file (tree.param_with at n t e) ss g h = one_more ss n k.Parameter h g.0
of_declaration file (tree.var at n v) ss g h = one_more ss n k.Variable h g.0
of_declaration file (tree.output at n t v) ss g h = h
of_declaration file (tree.a_resource r) ss g h = of_resource None r ss g h
of_declaration file (tree.a_module at n q b) ss g h = one_more ss n (module_kind file b) h g.0

of_statements : (ms : List ℕ) (f : FileTree) (ss : List Symbol) → FileIsWorded f → HaveNames ss
    → HaveNames (with_statements ms f ss)
of_statements ms [] ss g h = h
of_statements ms (tree.statement ds t ∷ f) ss g h =
    of_statements (files_after t ms) f (with_declaration (first_file ms) t ss) g.1
    (of_declaration (first_file ms) t ss g.0 h)

pub symbols_named : (ms : List ℕ) (f : FileTree) → FileIsWorded f → HaveNames (symbols_of ms f)
symbols_named ms f h = of_statements ms f [] h tt

pub name_at : (ss : List Symbol) (n : ℕ) (x : List ℕ) → HaveNames ss
    → option_map (λ (s : Symbol). s.1) (slice_get ss n) ≡ Some x → IsName x
name_at [] zero x h e = absurd cc
name_at [] (suc n) x h e = absurd cc
name_at (s ∷ ss) zero x h e = subst IsName (same_Some s.1 x e) h.0
name_at (s ∷ ss) (suc n) x h e = name_at ss n x h.1 e
