-- The template of each scope of a program is that of the file of the scope.
use Rattle.std.proofs.Common.{◌≡◌, ℕ, Bool, true, false, List, [], ◌∷◌, Option, Some, None, refl, sym, ap, ◌∙◌, subst}
use Rattle.std.specs.Prelude.{is_some, option_map, option_and_then, slice_get, if◌then◌else◌}
use Rattle.foundation.proofs.Options.{same_some}
use Rattle.template_parts.specs.declared.mode.Form.{Form}
use Rattle.template_tree.specs.Tree.{TemplateTree, BodyTree, body_members, deployment}
use Rattle.deploy_cells.specs.Cells.{Step, step, Position}
use Rattle.plan_cells.specs.Resources.{Listed, Nested, nested_at, nested_in, resource_at}
use Rattle.plan_cells.specs.Scopes.{template_at}
use Rattle.bicep_declared.specs.Declarations.{DeclaredTree}
use Rattle.bicep_declared.specs.Declarations as d
use Rattle.bicep_meaning.specs.Files.{SourceFile, declaration}
use Rattle.bicep_meaning.specs.Instances.{Put, put_by, put_of, module_file, file_at}
use Rattle.cell_renaming.specs.Renaming.{with_both, from_position, resource_by}
use Rattle.source_worlds.specs.Numbers.{is_put, if_put, in_template, symbol_of, numbering}
use Rattle.kept_templates.specs.Files.{IsFile, IsResource, IsBody, IsEmitted, file_of_scope}
use Rattle.kept_templates.specs.Values.{AreBoth}
use Rattle.kept_templates.specs.Modules.{is_module_by}
use Rattle.program_templates.specs.Kinds.{HasKinds, file_number}
use Rattle.program_templates.specs.Whole.{IsModuleAt, IsWhole, whole}

module _ (z : Form) (files : List SourceFile) where
  -- the file is that of a number, and the template is its own
  pub record IsAt (f : SourceFile) (v : TemplateTree) : Type 0 where
    pub number : ℕ
    pub is : slice_get files number ≡ Some f
    pub template : IsWhole z files number v

  abbrev AreAt : Option SourceFile → Option TemplateTree → Type 0
  AreAt o p = AreBoth IsAt o p

  -- what a whole template of the file of a number is
  record IsSplit (f : SourceFile) (v : TemplateTree) : Type 0 where
    kinds : HasKinds f
    file : IsFile files f z v
    inner : (m n j : ℕ) (x : Nested) → IsModuleAt z f v m n j x → IsWhole z files j x.template

  split : (f : SourceFile) (v : TemplateTree) → IsAt f v → IsSplit f v
  split f v a = by_whole a.number v a.is a.template
    where
      by_whole : (k : ℕ) (w : TemplateTree) → slice_get files k ≡ Some f → IsWhole z files k w → IsSplit f w
      by_whole k w is (whole _ _ g own inner) =
          let e : g ≡ f = same_some (sym own.is ∙ is) in
          subst (λ x. IsSplit x w) e (record { kinds = own.kinds; file = own.file; inner = inner })

  -- a whole template has a file of its number
  here : (k : ℕ) (v : TemplateTree) → IsWhole z files k v → AreAt (slice_get files k) (Some v)
  here k v w = by_whole k v w w
    where
      by_whole : (k : ℕ) (v : TemplateTree) → IsWhole z files k v → IsWhole z files k v
          → AreAt (slice_get files k) (Some v)
      by_whole k v w (whole _ _ f own inner) =
          subst (λ o. AreAt o (Some v)) (sym own.is) (record { number = k; is = own.is; template = w })

  -- ---- one step further

  -- the kind of what is put, by its declaration
  put_kind : (f : SourceFile) (n : ℕ) (o : Option DeclaredTree) (x : Put) → put_by f n o ≡ Some x
      → is_module_by o ≡ x.kind.is_deployment
  put_kind f n None x e = absurd cc
  put_kind f n (Some (d.parameter at t)) x e = absurd cc
  put_kind f n (Some (d.parameter_with at t v)) x e = absurd cc
  put_kind f n (Some (d.variable at v)) x e = absurd cc
  put_kind f n (Some (d.a_resource at q true b)) x e = absurd cc
  put_kind f n (Some (d.a_resource at q false b)) x e = ap (λ (y : Put). y.kind.is_deployment) (same_some e)
  put_kind f n (Some (d.a_module at b)) x e = ap (λ (y : Put). y.kind.is_deployment) (same_some e)

  none_is : (o : Option ℕ) → is_some o ≡ false → o ≡ None
  none_is None e = refl
  none_is (Some n) e = absurd cc

  abbrev nested : TemplateTree → ℕ → Option TemplateTree
  nested v m = option_map (λ (n : Nested). n.template) (nested_at v m)

  abbrev nested_of : Option Listed → Option Nested
  nested_of q = option_and_then (λ (r : Listed). nested_in r.content) q

  module _ (f : SourceFile) (v : TemplateTree) (h : IsSplit f v) (m : ℕ) where
    -- by the number of the file of the module
    of_module : (n : ℕ) (w : Nested) (o : Option ℕ) → file_number f n ≡ o → is_some o ≡ true
        → nested_at v m ≡ Some w → symbol_of z f m ≡ Some n
        → AreAt (option_and_then (slice_get files) o) (Some w.template)
    of_module n w None e t is symbol = absurd cc
    of_module n w (Some j) e t is symbol =
        here j w.template (h.inner m n j w (record { nested = is; symbol = symbol; file = e }))

    -- by what the resource of the template is
    of_body : (n : ℕ) (x : Put) (b : BodyTree) → put_of n f ≡ Some x → IsBody files f x b
        → nested_at v m ≡ nested_in b → symbol_of z f m ≡ Some n
        → AreAt (module_file files n f) (option_map (λ (y : Nested). y.template) (nested_in b))
    of_body n x (body_members ms) p b is symbol =
        subst (λ o. AreAt (option_and_then (slice_get files) o) None)
        (sym (none_is (file_number f n) (h.kinds.modules n ∙ put_kind f n (declaration f n) x p ∙ b.0))) tt
    of_body n x (deployment sc args w) p b is symbol =
        of_module n (record { scope = sc; arguments = args; template = w }) (file_number f n) refl
        (h.kinds.modules n ∙ put_kind f n (declaration f n) x p ∙ b.is_deployment) is symbol

    -- by the resource that is put, and by that of the template
    of_put : (n : ℕ) (o : Option Put) (q : Option Listed) → put_of n f ≡ o → is_some o ≡ true → resource_at v m ≡ q
        → AreBoth (IsResource files f) o q → symbol_of z f m ≡ Some n
        → AreAt (module_file files n f) (option_map (λ (y : Nested). y.template) (nested_of q))
    of_put n None q p t e b symbol = absurd cc
    of_put n (Some x) None p t e b symbol = absurd b
    of_put n (Some x) (Some r) p t e b symbol = of_body n x r.content p b.content (ap nested_of e) symbol

    -- what has a number in the template is put
    is_put_at : (n : ℕ) (o : Option ℕ) → option_and_then (if_put f) o ≡ Some n → is_put f n ≡ true
    is_put_at n None e = absurd cc
    is_put_at n (Some k) e = by_test (is_put f k) refl e
      where
        by_test : (b : Bool) → is_put f k ≡ b → (if b then Some k else None) ≡ Some n → is_put f n ≡ true
        by_test true t g = subst (λ j. is_put f j ≡ true) (same_some g) t
        by_test false t g = absurd cc

    none_nested : (q : Option Listed) → resource_at v m ≡ q → AreBoth (IsResource files f) None q
        → AreAt None (nested v m)
    none_nested None e b =
        subst (λ q. AreAt None (option_map (λ (y : Nested). y.template) (nested_of q))) (sym e) tt
    none_nested (Some r) e b = absurd b

    -- by the symbol of the number
    of_symbol : (o : Option ℕ) → symbol_of z f m ≡ o
        → AreAt (option_and_then (λ n. module_file files n f) o) (nested v m)
    of_symbol None e =
        none_nested (resource_at v m) refl
        (subst (λ o. AreBoth (IsResource files f) (option_and_then (λ k. put_of k f) o) (resource_at v m)) e
        (h.file.resources m))
    of_symbol (Some n) e =
        of_put n (put_of n f) (resource_at v m) refl (is_put_at n (slice_get (in_template z f) m) e) refl
        (subst (λ o. AreBoth (IsResource files f) (option_and_then (λ k. put_of k f) o) (resource_at v m)) e
        (h.file.resources m)) e

  module _ (t : Step) where
    abbrev after : Position → ℕ → Position
    after p n = step n t.copy ∷ p

    -- by the symbol of the step
    by_symbol : (p : Position) (f : SourceFile) (v : TemplateTree) → IsSplit f v → file_at files p ≡ Some f
        → (o : Option ℕ) → symbol_of z f t.resource ≡ o
        → AreAt (option_and_then (file_at files) (with_both (Some p) o after)) (nested v t.resource)
    unfolding file_at
    by_symbol p f v h is None e = of_symbol f v h t.resource None e
    by_symbol p f v h is (Some n) e =
        subst (λ g. AreAt (option_and_then (module_file files n) g) (nested v t.resource)) (sym is)
        (of_symbol f v h t.resource (Some n) e)

    -- by the file of the scope
    by_file : (p : Position) (g : Option SourceFile) (v : Option TemplateTree) → file_at files p ≡ g → AreAt g v
        → AreAt
        (option_and_then (file_at files)
        (with_both (Some p) (option_and_then (λ f. symbol_of z f t.resource) g) after))
        (option_map (λ (y : Nested). y.template) (option_and_then (λ w. nested_at w t.resource) v))
    by_file p None None is a = tt
    by_file p None (Some v) is a = absurd a
    by_file p (Some f) None is a = absurd a
    by_file p (Some f) (Some v) is a = by_symbol p f v (split f v a) is (symbol_of z f t.resource) refl

    -- by the position in the program
    by_position : (o : Option Position) (v : Option TemplateTree) → AreAt (option_and_then (file_at files) o) v
        → AreAt
        (option_and_then (file_at files)
        (with_both o (resource_by (numbering z files) o t.resource) after))
        (option_map (λ (y : Nested). y.template) (option_and_then (λ w. nested_at w t.resource) v))
    by_position None None a = tt
    by_position None (Some v) a = absurd a
    by_position (Some p) v a = by_file p (file_at files p) v refl a

  at_scope : (u : TemplateTree) → IsWhole z files 0 u → (q : Position)
      → AreAt (file_of_scope z files q) (template_at u q)
  unfolding template_at file_at
  at_scope u w [] = here 0 u w
  at_scope u w (t ∷ q) =
      by_position t (from_position (numbering z files) q) (template_at u q) (at_scope u w q)

  own : (o : Option SourceFile) (p : Option TemplateTree) → AreAt o p → AreBoth (λ f v. IsFile files f z v) o p
  own None None a = tt
  own None (Some v) a = absurd a
  own (Some f) None a = absurd a
  own (Some f) (Some v) a = (split f v a).file

  pub whole_is_emitted : (u : TemplateTree) → IsWhole z files 0 u → IsEmitted z files u
  whole_is_emitted u w q = own (file_of_scope z files q) (template_at u q) (at_scope u w q)
