-- Resources and modules that are made.
use Rattle.std.proofs.Common.{◌≡◌, ℕ, List, [], Option, Some, Result, Ok, Err, sym, ap, ◌∙◌, subst}
use Rattle.std.specs.Prelude.{IfOk}
use Rattle.std.specs.declared.alloc.AllocError.{AllocError}
use Rattle.arm_value.specs.Json.{Json}
use Rattle.arm_value.specs.declared.value.Value.{Value}
use Rattle.template_parts.specs.declared.declaration.Declaration.{Declaration}
use Rattle.template_parts.specs.declared.mode.Form.{Form}
use Rattle.template_tree.specs.Tree.{TemplateTree, trees}
use Rattle.template_tree.specs.View.{resource_tree, body_tree}
use Rattle.template_tree.specs.declared.resource.Resource.{Resource}
use Rattle.deploy_cells.specs.Puts.{Kind}
use Rattle.bicep_declared.specs.Declarations.{BodyTree}
use Rattle.bicep_meaning.specs.Files.{symbol_name}
use Rattle.bicep_meaning.specs.Instances.{resource_kind, module_kind}
use Rattle.emitted_modules.specs.Seen.{Shape, file_in, whole_in}
use Rattle.emitted_modules.specs.Limits.{members_at}
use Rattle.emitted_modules.specs.Resources.{IsHead, HasMembers}
use Rattle.emitted_modules.specs.Modules.{Needed, IsDeployment}
use Rattle.existing_resources.specs.Existing.{IsExistingHead, IsEmpty}
use Rattle.file_resources.specs.Built.{declared_by, needs_of, needs_with, symbol_in, IsDeclaredBy, IsResourceOf}
use Rattle.file_resources.specs.Built.{IsExistingOf, IsModuleOf}
use Rattle.file_resources.proofs.NameLemmas.{name_is}

-- what the declaration does not say, by the name of the symbol
pub needs_are : (z : Form) (s : Shape) (n : ℕ) (m : Option Value) (js : List Json) (x : List ℕ) (needs : Needed)
    → symbol_name (file_in s) n ≡ Some x
    → needs ≡ record { symbol = symbol_in z x; depends_on = js; batches = (file_in s).batches n; metadata = m }
    → needs ≡ needs_with z s n m js
needs_are z s n m js x needs e h =
    h
    ∙ ap (λ y. record {
      symbol = symbol_in z y;
      depends_on = js;
      batches = (file_in s).batches n;
      metadata = m;
    })
    (sym (name_is (file_in s) n x e))

module _ (z : Form) (s : Shape) (n : ℕ) (b : BodyTree) where
  declared_so : (x : List ℕ) (needs : Needed) (o : Option Value) (k : Kind) (d : Declaration)
      → symbol_name (file_in s) n ≡ Some x → needs ≡ needs_of z s n o → IsHead (whole_in s) n b.each k x needs d
      → IsDeclaredBy z s n b k d
  declared_so x needs o k d e m h =
      let of_needs = subst (λ y. IsHead (whole_in s) n b.each k x y d) m h in
      subst (λ y. IsHead (whole_in s) n b.each k y (needs_of z s n d.metadata) d) (sym (name_is (file_in s) n x e))
      (subst (λ p. IsHead (whole_in s) n b.each k x (needs_of z s n p) d) (sym of_needs.metadata) of_needs)

  -- a resource that is made has the metadata that is needed
  pub metadata_made : (x : List ℕ) (needs : Needed) (o : Option Value) (js : List Json) (k : Kind)
      → needs ≡ needs_with z s n o js → (r : Result Resource AllocError)
      → IfOk r (λ r. IsHead (whole_in s) n b.each k x needs r.declaration)
      → IfOk r (λ r. (declared_by (resource_tree r)).metadata ≡ o)
  metadata_made x needs o js k m (Err y) h = tt
  metadata_made x needs o js k m (Ok r) h = h.metadata ∙ ap (λ (y : Needed). y.metadata) m

  pub resource_made : (x : List ℕ) (needs : Needed) (o : Option Value) → symbol_name (file_in s) n ≡ Some x
      → needs ≡ needs_of z s n o → (r : Result Resource AllocError)
      → IfOk r (λ r. IsHead (whole_in s) n b.each (resource_kind (file_in s) n) x needs r.declaration)
      → IfOk r (λ r. HasMembers (members_at s n b) (body_tree r.body)) → IfOk r (λ r. r.resources ≡ [])
      → IfOk r (λ r. IsResourceOf z s n b (resource_tree r))
  resource_made x needs o e m (Err y) h k c = tt
  resource_made x needs o e m (Ok r) h k c = record {
    head = declared_so x needs o (resource_kind (file_in s) n) r.declaration e m h;
    body = k;
    childless = ap trees c;
  }

  existing_metadata : (x : List ℕ) (needs : Needed) (o : Option Value) (d : Declaration)
      → needs ≡ needs_with z s n o [] → IsExistingHead s n b x needs d → d.metadata ≡ o
  existing_metadata x needs o d m h =
      ap (λ (y : Declaration). y.metadata) h.is ∙ h.head.metadata ∙ ap (λ (y : Needed). y.metadata) m

  pub existing_noted : (x : List ℕ) (needs : Needed) (o : Option Value) → needs ≡ needs_with z s n o []
      → (r : Result Resource AllocError) → IfOk r (λ r. IsExistingHead s n b x needs r.declaration)
      → IfOk r (λ r. (declared_by (resource_tree r)).metadata ≡ o)
  existing_noted x needs o m (Err y) h = tt
  existing_noted x needs o m (Ok r) h = existing_metadata x needs o r.declaration m h

  pub existing_made : (x : List ℕ) (needs : Needed) (o : Option Value) → symbol_name (file_in s) n ≡ Some x
      → needs ≡ needs_with z s n o [] → (r : Result Resource AllocError)
      → IfOk r (λ r. IsExistingHead s n b x needs r.declaration) → IfOk r (λ r. IsEmpty (body_tree r.body))
      → IfOk r (λ r. r.resources ≡ []) → IfOk r (λ r. IsExistingOf z s n b (resource_tree r))
  existing_made x needs o e m (Err y) h k c = tt
  existing_made x needs o e m (Ok r) h k c =
      let own = r.declaration.metadata in
      let with_own = m ∙ ap (λ p. needs_with z s n p []) (sym (existing_metadata x needs o r.declaration m h)) in
      record {
        head =
            subst (λ y. IsExistingHead s n b y (needs_with z s n own []) r.declaration)
            (sym (name_is (file_in s) n x e)) (subst (λ y. IsExistingHead s n b x y r.declaration) with_own h);
        body = k;
        childless = ap trees c;
      }

  pub module_made : (u : TemplateTree) (x : List ℕ) (needs : Needed) (o : Option Value)
      → symbol_name (file_in s) n ≡ Some x → needs ≡ needs_of z s n o → (r : Result Resource AllocError)
      → IfOk r (λ r. IsHead (whole_in s) n b.each module_kind x needs r.declaration)
      → IfOk r (λ r. IsDeployment s n b u (body_tree r.body)) → IfOk r (λ r. r.resources ≡ [])
      → IfOk r (λ r. IsModuleOf z s n b u (resource_tree r))
  module_made u x needs o e m (Err y) h k c = tt
  module_made u x needs o e m (Ok r) h k c = record {
    head = declared_so x needs o module_kind r.declaration e m h;
    body = k;
    childless = ap trees c;
  }
