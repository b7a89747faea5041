-- Symbols and declarations of a file in which nothing is misplaced: no variable is named `copy`.
use Rattle.std.proofs.Common.{◌≡◌, ◌+◌, ℕ, zero, suc, Bool, true, false, List, [], ◌∷◌, ◌++◌, length, map}
use Rattle.std.proofs.Common.{Option, Some, None}
use Rattle.std.proofs.Common.{refl, sym, ap, ◌∙◌, subst, arith}
use Rattle.std.specs.Prelude.{option_to_list, slice_get, position, if◌then◌else◌}
use Rattle.std.specs.List.{AllByRecursion, position_from}
use Rattle.std.proofs.lemmas.Iterator.Adapters.{position_from-zero}
use Rattle.std.proofs.lemmas.List.{append-nil, append_assoc, map-append}
use Rattle.foundation.proofs.Options.{same_some}
use Rattle.bicep_found.specs.Found.{found, all_found, both}
use Rattle.bicep_tree.specs.Tree.{ResourceTree, BodyTree, ObjectTree, MemberTree, MemberTrees, DeclarationTree}
use Rattle.bicep_tree.specs.Tree.{FileTree}
use Rattle.bicep_tree.specs.Tree as tree
use Rattle.bicep_names.specs.declared.kind.Kind.TheVariants as k
use Rattle.bicep_names.specs.Scope.{Scope}
use Rattle.bicep_names.specs.Resolve.{resolved, resolved_value}
use Rattle.bicep_symbols.specs.Entries.{Symbol, symbol_at, resource_kind, module_kind, first_file, files_after}
use Rattle.bicep_symbols.specs.Entries.{symbols_of}
use Rattle.bicep_symbols.specs.Entries as entries
use Rattle.bicep_misplaced.specs.Words.{is_copy}
use Rattle.bicep_misplaced.specs.Files.{bad_variable, bad_in_whole, bad_in_declaration, bad_in_statement, misplaced}
use Rattle.bicep_misplaced.specs.Resources.{bad_in_decorators}
use Rattle.bicep_declared.specs.Declarations.{DeclaredTree}
use Rattle.bicep_declared.specs.Declarations as d
use Rattle.bicep_declared.specs.Declare.{body_of, declared, part_declared, declared_all, some_parameter, some_variable}
use Rattle.bicep_declared.specs.Declare.{some_resource, some_module}
use Rattle.bicep_declared.specs.Sites.{declarations_of}
use Rattle.bicep_declared.specs.Sites as sites
use Rattle.bicep_numbers.proofs.FoundLemmas.{all-append}
use Rattle.sound_values.proofs.FoundLemmas.{first_none, second_none}
use Rattle.placed_files.proofs.FieldLemmas.{unset}
use Rattle.placed_files.proofs.FoundLemmas.{Always, weaker, always_mapped, always_made, always_both}

abbrev pub text_of : Symbol → List ℕ
text_of s = s.1

-- the names of the symbols of a declaration, without those that are nested in it
abbrev texts : DeclarationTree → List (List ℕ)
texts (tree.metadata at n e) = []
texts (tree.target_scope at e) = []
texts (tree.param at n t) = n.text ∷ []
texts (tree.param_with at n t e) = n.text ∷ []
texts (tree.var at n v) = n.text ∷ []
texts (tree.output at n t v) = []
texts (tree.a_resource (tree.resource at n q x b)) = n.text ∷ []
texts (tree.a_module at n q b) = n.text ∷ []

abbrev all_texts : List DeclarationTree → List (List ℕ)
all_texts [] = []
all_texts (t ∷ ts) = texts t ++ all_texts ts

texts-append : (ts us : List DeclarationTree) → all_texts (ts ++ us) ≡ all_texts ts ++ all_texts us
texts-append [] us = refl
texts-append (t ∷ ts) us =
    ap (λ xs. texts t ++ xs) (texts-append ts us) ∙ sym (append_assoc (texts t) (all_texts ts) (all_texts us))

one_text : (ts : List DeclarationTree) (t : DeclarationTree) → all_texts (ts ++ t ∷ []) ≡ all_texts ts ++ texts t
one_text ts t = texts-append ts (t ∷ []) ∙ ap (λ xs. all_texts ts ++ xs) (append-nil (texts t))

-- a variable has another name than `copy`
abbrev IsOther : DeclarationTree → Type 0
IsOther (tree.var at n v) = is_copy n.text ≡ false
IsOther (tree.metadata at n e) = Unit {0}
IsOther (tree.target_scope at e) = Unit {0}
IsOther (tree.param at n t) = Unit {0}
IsOther (tree.param_with at n t e) = Unit {0}
IsOther (tree.output at n t v) = Unit {0}
IsOther (tree.a_resource r) = Unit {0}
IsOther (tree.a_module at n q b) = Unit {0}

-- ---- symbols and declarations go over a file alike

record Step (ss : List Symbol) (ts : List DeclarationTree) : Type 0 where
  names : map text_of ss ≡ all_texts ts
  other : AllByRecursion IsOther ts

one_more : (ss : List Symbol) (ts : List DeclarationTree) (s : Symbol) (t : DeclarationTree) → texts t ≡ text_of s ∷ []
    → IsOther t → Step ss ts → Step (ss ++ s ∷ []) (ts ++ t ∷ [])
one_more ss ts s t e o h = record {
  names =
      map-append text_of ss (s ∷ []) ∙ ap (λ xs. xs ++ text_of s ∷ []) h.names
      ∙ sym (one_text ts t ∙ ap (λ xs. all_texts ts ++ xs) e);
  other = all-append IsOther ts (t ∷ []) h.other (o, tt);
}

none_more : (ss : List Symbol) (ts : List DeclarationTree) (t : DeclarationTree) → texts t ≡ [] → IsOther t
    → Step ss ts → Step ss (ts ++ t ∷ [])
none_more ss ts t e o h = record {
  names = h.names ∙ sym (one_text ts t ∙ ap (λ xs. all_texts ts ++ xs) e ∙ append-nil (all_texts ts));
  other = all-append IsOther ts (t ∷ []) h.other (o, tt);
}

mutual
  of_resource : (inside : Option ℕ) (r : ResourceTree) (ss : List Symbol) (ts : List DeclarationTree) → Step ss ts
      → Step (entries.with_resource inside r ss) (sites.with_nested r (ts ++ tree.a_resource r ∷ []))
  of_resource inside (tree.resource at n q x b) ss ts h =
      let own = tree.a_resource (tree.resource at n q x b) in
      of_body (length ss) b (ss ++ symbol_at n (resource_kind inside b) ∷ []) (ts ++ own ∷ [])
      (one_more ss ts (symbol_at n (resource_kind inside b)) own refl tt h)

  of_body : (m : ℕ) (b : BodyTree) (ss : List Symbol) (ts : List DeclarationTree) → Step ss ts
      → Step (entries.with_body m b ss) (sites.with_body b ts)
  of_body m (tree.body_plain o) ss ts h = of_object m o ss ts h
  of_body m (tree.body_if at c o) ss ts h = of_object m o ss ts h
  of_body m (tree.body_each l o) ss ts h = of_object m o ss ts h
  of_body m (tree.body_each_if l at c o) ss ts h = of_object m o ss ts h

  of_object : (m : ℕ) (o : ObjectTree) (ss : List Symbol) (ts : List DeclarationTree) → Step ss ts
      → Step (entries.with_object m o ss) (sites.with_object o ts)
  of_object m (tree.braces at ms) ss ts h = of_members m ms ss ts h

  of_members : (m : ℕ) (ms : MemberTrees) (ss : List Symbol) (ts : List DeclarationTree) → Step ss ts
      → Step (entries.with_members m ms ss) (sites.with_members ms ts)
  of_members m tree.no_member ss ts h = h
  of_members m (tree.and_member x ms) ss ts h =
      of_members m ms (entries.with_member m x ss) (sites.with_member x ts) (of_member m x ss ts h)

  of_member : (m : ℕ) (x : MemberTree) (ss : List Symbol) (ts : List DeclarationTree) → Step ss ts
      → Step (entries.with_member m x ss) (sites.with_member x ts)
  of_member m (tree.property l v) ss ts h = h
  of_member m (tree.child es r) ss ts h = of_resource (Some m) r ss ts h

of_declaration : (file : ℕ) (t : DeclarationTree) (ss : List Symbol) (ts : List DeclarationTree)
    → bad_in_declaration t ≡ None → Step ss ts
    → Step (entries.with_declaration file t ss) (sites.with_parts t (ts ++ t ∷ []))
of_declaration file (tree.metadata at n e) ss ts b h = none_more ss ts (tree.metadata at n e) refl tt h
of_declaration file (tree.target_scope at e) ss ts b h = none_more ss ts (tree.target_scope at e) refl tt h
of_declaration file (tree.param at n t) ss ts b h =
    one_more ss ts (symbol_at n k.Parameter) (tree.param at n t) refl tt h
of_declaration file (tree.param_with at n t e) ss ts b h =
    one_more ss ts (symbol_at n k.Parameter) (tree.param_with at n t e) refl tt h
of_declaration file (tree.var at n v) ss ts b h =
    one_more ss ts (symbol_at n k.Variable) (tree.var at n v) refl
    (unset (is_copy n.text) n.at (first_none (bad_variable n) (bad_in_whole v) b)) h
of_declaration file (tree.output at n t v) ss ts b h = none_more ss ts (tree.output at n t v) refl tt h
of_declaration file (tree.a_resource r) ss ts b h = of_resource None r ss ts h
of_declaration file (tree.a_module at n q x) ss ts b h =
    one_more ss ts (symbol_at n (module_kind file x)) (tree.a_module at n q x) refl tt h

of_statements : (ms : List ℕ) (f : FileTree) (ss : List Symbol) (ts : List DeclarationTree) → misplaced f ≡ None
    → Step ss ts → Step (entries.with_statements ms f ss) (sites.with_statements f ts)
of_statements ms [] ss ts b h = h
of_statements ms (tree.statement es t ∷ f) ss ts b h =
    of_statements (files_after t ms) f (entries.with_declaration (first_file ms) t ss)
    (sites.with_parts t (ts ++ t ∷ []))
    (second_none (bad_in_statement (tree.statement es t)) (misplaced f) b)
    (of_declaration (first_file ms) t ss ts
    (second_none (bad_in_decorators es) (bad_in_declaration t)
    (first_none (bad_in_statement (tree.statement es t)) (misplaced f) b)) h)

-- ---- declarations by the names of their symbols

abbrev pub Fits : List ℕ → DeclaredTree → Type 0
Fits x (d.variable at v) = is_copy x ≡ false
Fits x (d.parameter at t) = Unit {0}
Fits x (d.parameter_with at t e) = Unit {0}
Fits x (d.a_resource at q existing b) = Unit {0}
Fits x (d.a_module at b) = Unit {0}

abbrev pub AllFit : List (List ℕ) → List DeclaredTree → Type 0
AllFit [] [] = Unit {0}
AllFit [] (y ∷ ys) = ⊥
AllFit (x ∷ xs) [] = ⊥
AllFit (x ∷ xs) (y ∷ ys) = Fits x y × AllFit xs ys

fit-append : (xs us : List (List ℕ)) (ys vs : List DeclaredTree) → AllFit xs ys → AllFit us vs
    → AllFit (xs ++ us) (ys ++ vs)
fit-append [] us [] vs h g = g
fit-append [] us (y ∷ ys) vs h g = absurd h
fit-append (x ∷ xs) us [] vs h g = absurd h
fit-append (x ∷ xs) us (y ∷ ys) vs h g = (h.0, fit-append xs us ys vs h.1 g)

module _ (sc : Scope) where
  abbrev OneFits : DeclarationTree → Option DeclaredTree → Type 0
  OneFits t o = AllFit (texts t) (option_to_list o)

  one_fits : (t : DeclarationTree) → IsOther t → Always (OneFits t) (declared sc t)
  one_fits (tree.metadata at n e) h = tt
  one_fits (tree.target_scope at e) h = tt
  one_fits (tree.param at n t) h = (tt, tt)
  one_fits (tree.param_with at n t e) h =
      always_made (OneFits (tree.param_with at n t e)) (some_parameter n.at t) (resolved sc e []) (λ x. (tt, tt))
  one_fits (tree.var at n v) h =
      always_made (OneFits (tree.var at n v)) (some_variable n.at) (resolved_value sc v []) (λ x. (h, tt))
  one_fits (tree.output at n t v) h = tt
  one_fits (tree.a_resource (tree.resource at n q x b)) h =
      always_made (OneFits (tree.a_resource (tree.resource at n q x b))) (some_resource n.at q x) (body_of sc b)
      (λ y. (tt, tt))
  one_fits (tree.a_module at n q b) h =
      always_made (OneFits (tree.a_module at n q b)) (some_module n.at) (body_of sc b) (λ y. (tt, tt))

  all_fit : (ts : List DeclarationTree) → AllByRecursion IsOther ts
      → Always (AllFit (all_texts ts)) (declared_all sc ts)
  unfolding all_found
  all_fit [] h = tt
  all_fit (t ∷ ts) h =
      let rest = declared_all sc ts in
      always_mapped (AllFit (texts t ++ all_texts ts)) (λ p. p.0 ++ p.1) (both (part_declared sc t) rest)
      (weaker (λ p. AllFit (texts t) p.0 × AllFit (all_texts ts) p.1)
      (λ p. AllFit (texts t ++ all_texts ts) (p.0 ++ p.1))
      (λ p g. fit-append (texts t) (all_texts ts) p.0 p.1 g.0 g.1) (both (part_declared sc t) rest)
      (always_both (AllFit (texts t)) (AllFit (all_texts ts)) (part_declared sc t) rest
      (always_mapped (AllFit (texts t)) option_to_list (declared sc t) (one_fits t h.0)) (all_fit ts h.1)))

  -- what the declarations of a file are, by the names of its symbols
  pub of_file : (ms : List ℕ) (f : FileTree) (ys : List DeclaredTree) → misplaced f ≡ None
      → declared_all sc (declarations_of f) ≡ found ys → AllFit (map text_of (symbols_of ms f)) ys
  of_file ms f ys b e =
      let step = of_statements ms f [] [] b (record { names = refl; other = tt }) in
      subst (λ xs. AllFit xs ys) (sym step.names)
      (subst (Always (AllFit (all_texts (declarations_of f)))) e (all_fit (declarations_of f) step.other))

-- ---- the symbol of a name

module _ {E : Type 0} (test : E → Bool) where
  -- an entry that passes
  abbrev Passes : List E → ℕ → Type 0
  Passes xs n = (y : E) × ((slice_get xs n ≡ Some y) × (test y ≡ true))

  abbrev IsFrom : ℕ → List E → ℕ → Type 0
  IsFrom i xs n = (m : ℕ) × ((n ≡ i + m) × Passes xs m)

  from_by : (b : Bool) (i : ℕ) (x : E) (xs : List E) (n : ℕ) → test x ≡ b
      → (if b then Some i else position_from test (i + 1) xs) ≡ Some n
      → (position_from test (i + 1) xs ≡ Some n → IsFrom (i + 1) xs n) → IsFrom i (x ∷ xs) n
  from_by true i x xs n t e h =
      let q = same_some e in
      (0, (omega (arith, q), (x, (refl, t))))
  from_by false i x xs n t e h =
      let r = h e in
      let q = r.1.0 in
      (suc r.0, (omega (arith, q), r.1.1))

  from : (i : ℕ) (xs : List E) (n : ℕ) → position_from test i xs ≡ Some n → IsFrom i xs n
  from i [] n e = absurd cc
  from i (x ∷ xs) n e = from_by (test x) i x xs n refl e (from (i + 1) xs n)

  pub passes : (xs : List E) (n : ℕ) → position test xs ≡ Some n → Passes xs n
  passes xs n e =
      let r = from 0 xs n (sym (position_from-zero test xs) ∙ e) in
      let q = r.1.0 in
      let same : n ≡ r.0 = omega (arith, q) in
      subst (Passes xs) (sym same) r.1.1

pub fits_at : (ss : List Symbol) (ys : List DeclaredTree) (n : ℕ) (s : Symbol) (y : DeclaredTree)
    → AllFit (map text_of ss) ys → slice_get ss n ≡ Some s → slice_get ys n ≡ Some y → Fits (text_of s) y
fits_at [] ys zero s y h e g = absurd cc
fits_at [] ys (suc n) s y h e g = absurd cc
fits_at (z ∷ ss) [] n s y h e g = absurd h
fits_at (z ∷ ss) (x ∷ ys) zero s y h e g =
    subst (λ u. Fits (text_of u) y) (same_some e) (subst (Fits (text_of z)) (same_some g) h.0)
fits_at (z ∷ ss) (x ∷ ys) (suc n) s y h e g = fits_at ss ys n s y h.1 e g
