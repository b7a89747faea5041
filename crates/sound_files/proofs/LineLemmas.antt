-- Each resource of a file has a type text that may be where it is: a whole one, or a segment where a resource is around
-- it.
use Rattle.std.proofs.Common.{◌≡◌, ℕ, suc, Bool, true, false, List, [], ◌∷◌, ◌++◌, length, map, Option, Some, None}
use Rattle.std.proofs.Common.{refl, sym, ap}
use Rattle.std.proofs.Common.{subst, ◌∙◌}
use Rattle.std.proofs.lemmas.List.{append-nil, append_assoc, map-append}
use Rattle.std.specs.Prelude.{option_to_list, slice_get, if◌then◌else◌}
use Rattle.foundation.proofs.Lists.{got_last}
use Rattle.bicep_tree.specs.Tree.{ResourceTree, BodyTree, ObjectTree, MemberTree, MemberTrees, DeclarationTree}
use Rattle.bicep_tree.specs.Tree.{FileTree}
use Rattle.bicep_tree.specs.Tree as tree
use Rattle.bicep_found.specs.Found.{found, both, all_found}
use Rattle.bicep_names.specs.Scope.{Scope}
use Rattle.bicep_names.specs.Resolve.{resolved, resolved_value}
use Rattle.bicep_symbols.specs.Entries.{Symbol, symbols_of, files_after_statement, first_file}
use Rattle.bicep_symbols.specs.Entries as entries
use Rattle.bicep_type_texts.specs.Texts.{is_whole, is_part}
use Rattle.bicep_type_texts.specs.Files as texts
use Rattle.bicep_declared.specs.Declarations.{DeclaredTree}
use Rattle.bicep_declared.specs.Declarations as d
use Rattle.bicep_declared.specs.Declare.{body_of, declared, part_declared, declared_all, some_parameter, some_variable}
use Rattle.bicep_declared.specs.Declare.{some_resource, some_module}
use Rattle.bicep_declared.specs.Sites.{declarations_of}
use Rattle.bicep_declared.specs.Sites as sites
use Rattle.bicep_placed.specs.Kinds.{around, path_of}
use Rattle.sound_declarations.proofs.FoundLemmas.{of_mapped, of_both, same_found, first_none, second_none}
use Rattle.sound_files.proofs.ListLemmas.{Grows, grows_by}

-- the type text of a resource; anything else has none
abbrev pub Path : Type 0
Path = Option (List ℕ)

-- a resource is at that place
pub record IsResourceAt (ps : List Path) (m : ℕ) : Type 0 where
  pub text : List ℕ
  pub is : slice_get ps m ≡ Some (Some text)

-- a symbol after these, by the number of the resource around it and its type text
abbrev pub Line : List Path → Option ℕ → Path → Type 0
Line before None None = Unit {0}
Line before None (Some t) = is_whole t ≡ true
Line before (Some m) None = ⊥
Line before (Some m) (Some t) = (is_part t ≡ true) × IsResourceAt before m

-- symbols after these, and their type texts
abbrev pub LinedFrom : List Path → List Symbol → List Path → Type 0
LinedFrom before [] [] = Unit {0}
LinedFrom before [] (p ∷ ps) = ⊥
LinedFrom before (s ∷ ss) [] = ⊥
LinedFrom before (s ∷ ss) (p ∷ ps) = Line before (around s.2) p × LinedFrom (before ++ p ∷ []) ss ps

push : (before : List Path) (ss : List Symbol) (ps : List Path) (s : Symbol) (p : Path) → LinedFrom before ss ps
    → Line (before ++ ps) (around s.2) p → LinedFrom before (ss ++ s ∷ []) (ps ++ p ∷ [])
push before [] [] s p h l = (subst (λ (qs : List Path). Line qs (around s.2) p) (append-nil before) l, tt)
push before [] (q ∷ ps) s p h l = absurd h
push before (z ∷ ss) [] s p h l = absurd h
push before (z ∷ ss) (q ∷ ps) s p h l = (
  h.0,
  push (before ++ q ∷ []) ss ps s p h.1
      (subst (λ (qs : List Path). Line qs (around s.2) p) (sym (append_assoc before (q ∷ []) ps)) l),
)

as_many : (before : List Path) (ss : List Symbol) (ps : List Path) → LinedFrom before ss ps → length ss ≡ length ps
as_many before [] [] h = refl
as_many before [] (p ∷ ps) h = absurd h
as_many before (s ∷ ss) [] h = absurd h
as_many before (s ∷ ss) (p ∷ ps) h = ap suc (as_many (before ++ p ∷ []) ss ps h.1)

-- ---- type texts as they are written

abbrev resource_path : ResourceTree → Path
resource_path (tree.resource at n q x b) = Some q.text

abbrev pub written_path : DeclarationTree → List Path
written_path (tree.metadata at n e) = []
written_path (tree.target_scope at e) = []
written_path (tree.param at n t) = None ∷ []
written_path (tree.param_with at n t e) = None ∷ []
written_path (tree.var at n v) = None ∷ []
written_path (tree.output at n t v) = []
written_path (tree.a_resource r) = resource_path r ∷ []
written_path (tree.a_module at n q b) = None ∷ []

abbrev pub written_paths : List DeclarationTree → List Path
written_paths [] = []
written_paths (t ∷ ts) = written_path t ++ written_paths ts

paths-append : (ts us : List DeclarationTree) → written_paths (ts ++ us) ≡ written_paths ts ++ written_paths us
paths-append [] us = refl
paths-append (t ∷ ts) us = ap (λ xs. written_path t ++ xs) (paths-append ts us)
    ∙ sym (append_assoc (written_path t) (written_paths ts) (written_paths us))

one_path : (ts : List DeclarationTree) (t : DeclarationTree)
    → written_paths (ts ++ t ∷ []) ≡ written_paths ts ++ written_path t
one_path ts t = paths-append ts (t ∷ []) ∙ ap (λ xs. written_paths ts ++ xs) (append-nil (written_path t))

-- ---- both lists go over a file alike

abbrev Lined : List Symbol → List DeclarationTree → Type 0
Lined ss ts = LinedFrom [] ss (written_paths ts)

-- from these declarations to more, with their symbols
record Step (ts : List DeclarationTree) (ss : List Symbol) (us : List DeclarationTree) : Type 0 where
  lined : Lined ss us
  grown : Grows (written_paths ts) (written_paths us)

-- one symbol more
one_more : (ss : List Symbol) (ts : List DeclarationTree) (s : Symbol) (t : DeclarationTree) (p : Path)
    → written_path t ≡ p ∷ [] → Lined ss ts → Line (written_paths ts) (around s.2) p
    → Step ts (ss ++ s ∷ []) (ts ++ t ∷ [])
one_more ss ts s t p e h l =
    let grows : written_paths ts ++ p ∷ [] ≡ written_paths (ts ++ t ∷ []) =
    ap (λ xs. written_paths ts ++ xs) (sym e) ∙ sym (one_path ts t) in
    record {
      lined = subst (LinedFrom [] (ss ++ s ∷ [])) grows (push [] ss (written_paths ts) s p h l);
      grown = subst (Grows (written_paths ts)) grows (grows_by (written_paths ts) (p ∷ []));
    }

-- none more
none_more : (ss : List Symbol) (ts : List DeclarationTree) (t : DeclarationTree) → written_path t ≡ []
    → Lined ss ts → Step ts ss (ts ++ t ∷ [])
none_more ss ts t e h =
    let same : written_paths ts ≡ written_paths (ts ++ t ∷ []) =
    sym (append-nil (written_paths ts)) ∙ ap (λ xs. written_paths ts ++ xs) (sym e) ∙ sym (one_path ts t) in
    record {
      lined = subst (LinedFrom [] ss) same h;
      grown = subst (Grows (written_paths ts)) same (λ m x g. g);
    }

followed : (ts us vs : List DeclarationTree) (ss zs : List Symbol) → Step ts ss us → Step us zs vs → Step ts zs vs
followed ts us vs ss zs a b = record { lined = b.lined; grown = λ m x e. b.grown m x (a.grown m x e) }

-- the resource that was added last
last_resource : (ss : List Symbol) (ts : List DeclarationTree) (t : DeclarationTree) (text : List ℕ)
    → written_path t ≡ Some text ∷ [] → Lined ss ts → IsResourceAt (written_paths (ts ++ t ∷ [])) (length ss)
last_resource ss ts t text e h = record {
  text = text;
  is =
      ap (λ (qs : List Path). slice_get qs (length ss))
      (one_path ts t ∙ ap (λ xs. written_paths ts ++ xs) e)
      ∙ ap (λ n. slice_get (written_paths ts ++ Some text ∷ []) n) (as_many [] ss (written_paths ts) h)
      ∙ got_last (written_paths ts) (Some text);
}

still : (ts us : List DeclarationTree) (k : ℕ) → Grows (written_paths ts) (written_paths us)
    → IsResourceAt (written_paths ts) k → IsResourceAt (written_paths us) k
still ts us k g r = record { text = r.text; is = g k (Some r.text) r.is }

kind_around : (inside : Option ℕ) (b : BodyTree) → around (entries.resource_kind inside b) ≡ inside
kind_around inside (tree.body_plain o) = refl
kind_around inside (tree.body_if at c o) = refl
kind_around inside (tree.body_each l o) = refl
kind_around inside (tree.body_each_if l at c o) = refl

set : (b : Bool) (at : ℕ) → (if b then None else Some at) ≡ None → b ≡ true
set true at e = refl
set false at e = absurd cc

-- no type text in the body of a resource is bad
abbrev BodyIsFree : ResourceTree → Type 0
BodyIsFree (tree.resource at n q x b) = texts.bad_in_body b ≡ None

nested_free : (r : ResourceTree) → texts.bad_in_nested r ≡ None → BodyIsFree r
nested_free (tree.resource at n q x b) e = second_none (texts.bad_part q) (texts.bad_in_body b) e

nested_line : (k : ℕ) (r : ResourceTree) (ps : List Path) → texts.bad_in_nested r ≡ None → IsResourceAt ps k
    → Line ps (Some k) (resource_path r)
nested_line k (tree.resource at n q x b) ps e h =
    (set (is_part q.text) q.at (first_none (texts.bad_part q) (texts.bad_in_body b) e), h)

whole_free : (r : ResourceTree) → texts.bad_in_resource r ≡ None → BodyIsFree r
whole_free (tree.resource at n q x b) e = second_none (texts.bad_whole q) (texts.bad_in_body b) e

whole_line : (r : ResourceTree) (ps : List Path) → texts.bad_in_resource r ≡ None → Line ps None (resource_path r)
whole_line (tree.resource at n q x b) ps e =
    set (is_whole q.text) q.at (first_none (texts.bad_whole q) (texts.bad_in_body b) e)

mutual
  lined_resource : (inside : Option ℕ) (r : ResourceTree) (ss : List Symbol) (ts : List DeclarationTree)
      → Line (written_paths ts) inside (resource_path r) → BodyIsFree r → Lined ss ts
      → Step ts (entries.with_resource inside r ss) (sites.with_nested r (ts ++ tree.a_resource r ∷ []))
  lined_resource inside (tree.resource at n q x b) ss ts l e h =
      let one = entries.symbol_at n (entries.resource_kind inside b) in
      let written = tree.a_resource (tree.resource at n q x b) in
      let added = one_more ss ts one written (Some q.text) refl h
      (subst (λ (o : Option ℕ). Line (written_paths ts) o (Some q.text)) (sym (kind_around inside b)) l) in
      followed ts (ts ++ written ∷ []) _ (ss ++ one ∷ []) _ added
      (lined_body (length ss) b (ss ++ one ∷ []) (ts ++ written ∷ []) e
      (last_resource ss ts written q.text refl h) added.lined)

  lined_body : (k : ℕ) (b : BodyTree) (ss : List Symbol) (ts : List DeclarationTree) → texts.bad_in_body b ≡ None
      → IsResourceAt (written_paths ts) k → Lined ss ts → Step ts (entries.with_body k b ss) (sites.with_body b ts)
  lined_body k (tree.body_plain o) ss ts e r h = lined_object k o ss ts e r h
  lined_body k (tree.body_if at c o) ss ts e r h = lined_object k o ss ts e r h
  lined_body k (tree.body_each l o) ss ts e r h = lined_object k o ss ts e r h
  lined_body k (tree.body_each_if l at c o) ss ts e r h = lined_object k o ss ts e r h

  lined_object : (k : ℕ) (o : ObjectTree) (ss : List Symbol) (ts : List DeclarationTree)
      → texts.bad_in_object o ≡ None → IsResourceAt (written_paths ts) k → Lined ss ts
      → Step ts (entries.with_object k o ss) (sites.with_object o ts)
  lined_object k (tree.braces at ms) ss ts e r h = lined_members k ms ss ts e r h

  lined_members : (k : ℕ) (ms : MemberTrees) (ss : List Symbol) (ts : List DeclarationTree)
      → texts.bad_in_members ms ≡ None → IsResourceAt (written_paths ts) k → Lined ss ts
      → Step ts (entries.with_members k ms ss) (sites.with_members ms ts)
  lined_members k tree.no_member ss ts e r h = record { lined = h; grown = λ m x g. g }
  lined_members k (tree.and_member m ms) ss ts e r h =
      let a = lined_member k m ss ts (first_none (texts.bad_in_member m) (texts.bad_in_members ms) e) r h in
      let us = sites.with_member m ts in
      followed ts us _ (entries.with_member k m ss) _ a
      (lined_members k ms (entries.with_member k m ss) us
      (second_none (texts.bad_in_member m) (texts.bad_in_members ms) e) (still ts us k a.grown r) a.lined)

  lined_member : (k : ℕ) (m : MemberTree) (ss : List Symbol) (ts : List DeclarationTree)
      → texts.bad_in_member m ≡ None → IsResourceAt (written_paths ts) k → Lined ss ts
      → Step ts (entries.with_member k m ss) (sites.with_member m ts)
  lined_member k (tree.property l v) ss ts e r h = record { lined = h; grown = λ m x g. g }
  lined_member k (tree.child es q) ss ts e r h =
      lined_resource (Some k) q ss ts (nested_line k q (written_paths ts) e r) (nested_free q e) h

-- ---- declarations and files

module_around : (file : ℕ) (b : BodyTree) → around (entries.module_kind file b) ≡ None
module_around file (tree.body_plain o) = refl
module_around file (tree.body_if at c o) = refl
module_around file (tree.body_each l o) = refl
module_around file (tree.body_each_if l at c o) = refl

lined_declaration : (file : ℕ) (t : DeclarationTree) (ss : List Symbol) (ts : List DeclarationTree)
    → texts.bad_in_declaration t ≡ None → Lined ss ts
    → Lined (entries.with_declaration file t ss) (sites.with_parts t (ts ++ t ∷ []))
lined_declaration file (tree.metadata at n x) ss ts e h = (none_more ss ts (tree.metadata at n x) refl h).lined
lined_declaration file (tree.target_scope at x) ss ts e h = (none_more ss ts (tree.target_scope at x) refl h).lined
lined_declaration file (tree.param at n t) ss ts e h =
    (one_more ss ts (entries.symbol_at n _) (tree.param at n t) None refl h tt).lined
lined_declaration file (tree.param_with at n t x) ss ts e h =
    (one_more ss ts (entries.symbol_at n _) (tree.param_with at n t x) None refl h tt).lined
lined_declaration file (tree.var at n v) ss ts e h =
    (one_more ss ts (entries.symbol_at n _) (tree.var at n v) None refl h tt).lined
lined_declaration file (tree.output at n t v) ss ts e h = (none_more ss ts (tree.output at n t v) refl h).lined
lined_declaration file (tree.a_resource r) ss ts e h =
    (lined_resource None r ss ts (whole_line r (written_paths ts) e) (whole_free r e) h).lined
lined_declaration file (tree.a_module at n q b) ss ts e h =
    (one_more ss ts (entries.symbol_at n (entries.module_kind file b)) (tree.a_module at n q b) None refl h
    (subst (λ (o : Option ℕ). Line (written_paths ts) o None) (sym (module_around file b)) tt)).lined

lined_statements : (ms : List ℕ) (f : FileTree) (ss : List Symbol) (ts : List DeclarationTree)
    → texts.bad_type f ≡ None → Lined ss ts → Lined (entries.with_statements ms f ss) (sites.with_statements f ts)
lined_statements ms [] ss ts e h = h
lined_statements ms (tree.statement es t ∷ f) ss ts e h =
    lined_statements (files_after_statement (tree.statement es t) ms) f
    (entries.with_declaration (first_file ms) t ss) (sites.with_parts t (ts ++ t ∷ []))
    (second_none (texts.bad_in_statement (tree.statement es t)) (texts.bad_type f) e)
    (lined_declaration (first_file ms) t ss ts
    (first_none (texts.bad_in_statement (tree.statement es t)) (texts.bad_type f) e) h)

-- ---- declarations whose names are found

abbrev found_paths : Option DeclaredTree → List Path
found_paths o = map path_of (option_to_list o)

paths_found : (sc : Scope) (t : DeclarationTree) (o : Option DeclaredTree) → declared sc t ≡ found o
    → found_paths o ≡ written_path t
paths_found sc (tree.metadata at n e) o h = ap found_paths (sym (same_found None o h))
paths_found sc (tree.target_scope at e) o h = ap found_paths (sym (same_found None o h))
paths_found sc (tree.param at n t) o h = ap found_paths (sym (same_found (Some (d.parameter n.at t)) o h))
paths_found sc (tree.param_with at n t e) o h =
    ap found_paths (sym ((of_mapped (some_parameter n.at t) (resolved sc e []) o h).made))
paths_found sc (tree.var at n v) o h =
    ap found_paths (sym ((of_mapped (some_variable n.at) (resolved_value sc v []) o h).made))
paths_found sc (tree.output at n t v) o h = ap found_paths (sym (same_found None o h))
paths_found sc (tree.a_resource (tree.resource at n q x b)) o h =
    ap found_paths (sym ((of_mapped (some_resource n.at q x) (body_of sc b) o h).made))
paths_found sc (tree.a_module at n q b) o h =
    ap found_paths (sym ((of_mapped (some_module n.at) (body_of sc b) o h).made))

all_paths : (sc : Scope) (ts : List DeclarationTree) (xs : List DeclaredTree) → declared_all sc ts ≡ found xs
    → map path_of xs ≡ written_paths ts
unfolding all_found
all_paths sc [] xs h = ap (map path_of) (sym (same_found [] xs h))
all_paths sc (t ∷ ts) xs h =
    let a = of_mapped (λ (p : List DeclaredTree × List DeclaredTree). p.0 ++ p.1)
    (both (part_declared sc t) (declared_all sc ts)) xs h in
    let b = of_both (part_declared sc t) (declared_all sc ts) a.part a.is in
    let o = of_mapped (λ (x : Option DeclaredTree). option_to_list x) (declared sc t) a.part.0 b.first in
    ap (map path_of) (sym a.made) ∙ map-append path_of a.part.0 a.part.1
    ∙ ap (λ (qs : List Path). qs ++ map path_of a.part.1) (ap (map path_of) (sym o.made) ∙ paths_found sc t o.part o.is)
    ∙ ap (λ (qs : List Path). written_path t ++ qs) (all_paths sc ts a.part.1 b.second)

-- the symbols of a file, and the type texts of its declarations
pub file_lined : (sc : Scope) (ms : List ℕ) (f : FileTree) (xs : List DeclaredTree) → texts.bad_type f ≡ None
    → declared_all sc (declarations_of f) ≡ found xs → LinedFrom [] (symbols_of ms f) (map path_of xs)
file_lined sc ms f xs e h =
    subst (LinedFrom [] (symbols_of ms f)) (sym (all_paths sc (declarations_of f) xs h))
    (lined_statements ms f [] [] e tt)
