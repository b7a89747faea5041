-- When a type is wrong, and what is returned.
use Rattle.std.proofs.Common.{◌≡◌, inl, inr, ℕ, suc, List, [], ◌∷◌, Option, Some, None, refl, sym, ◌∙◌}
use Rattle.std.specs.List.{AllByRecursion}
use Rattle.std.specs.Prelude.{Result, Ok, Err, IfErr, OnOk, slice_get}
use Rattle.std.proofs.lemmas.Option.{none-some}
use Rattle.bicep_program.specs.Program.{ProgramFile}
use Rattle.resolved_program.specs.Programs.{ResolvedFileTree, IsResolved}
use Rattle.resolved_program.specs.Faults.{first_in}
use Rattle.resolved_program.proofs.FirstLemmas.{first_item, no_item}
use Rattle.bicep_checks.specs.Faults.{OfFile, IsCircleOf}
use Rattle.bicep_checks.specs.Order as order
use Rattle.bicep_checks.specs.declared.fault.CheckFault.{CheckFault as Untyped}
use Rattle.bicep_checks.specs.declared.fault.CheckFault.TheVariants as u
use Rattle.bicep_checks.proofs.FaultLemmas.{of_file, of_resolved, at_resolved}
use Rattle.bicep_types.specs.Program.{type_place}
use Rattle.bicep_types.specs.Faults.{HasFault, IsMistyped, HasNoUntyped, IsAnswer, metadata_place, as_fault}
use Rattle.bicep_types.specs.Checked.{Fits}
use Rattle.bicep_types.specs.Steps.{HasNoCircle, IsWrongAt}
use Rattle.bicep_types.specs.declared.fault.CheckFault.{CheckFault}
use Rattle.bicep_types.specs.declared.fault.CheckFault.TheVariants as fault

pub of_metadata : (files : List ProgramFile) (k at : ℕ) → first_in metadata_place files ≡ Some (k, at)
    → OfFile files k (IsMistyped files at)
of_metadata files k at e =
    let o = of_file metadata_place files k at e in
    record { file = o.file; is = o.is; holds = inl o.holds }

each : {A : Type 0} (P : A → Type 0) (xs : List A) → ((k : ℕ) (x : A) → slice_get xs k ≡ Some x → P x)
    → AllByRecursion P xs
each P [] f = tt
each P (x ∷ xs) f = (f 0 x refl, each P xs (λ k y e. f (suc k) y e))

module _ (files : List ProgramFile) (rs : List ResolvedFileTree) (h : IsResolved files rs) where
  -- no symbols are in a circle
  pub all_free : HasNoUntyped files → AllByRecursion HasNoCircle rs
  all_free n =
      each HasNoCircle rs
      (λ k r is names c. n (u.SymbolCycle k names) (of_resolved files rs h (IsCircleOf names) k r is c))

  wrong_at : (k at : ℕ) (r : ResolvedFileTree) → slice_get rs k ≡ Some r → type_place files r ≡ Some at
      → OfFile files k (IsMistyped files at)
  wrong_at k at r is e =
      let o = of_resolved files rs h (λ x. type_place files x ≡ Some at) k r is e in
      record { file = o.file; is = o.is; holds = inr o.holds }

  pub of_type : (k at : ℕ) → first_in (type_place files) rs ≡ Some (k, at) → OfFile files k (IsMistyped files at)
  of_type k at e = let r = first_item (type_place files) rs k at e in wrong_at k at r.0 r.1 r.2

  pub none_wrong : first_in metadata_place files ≡ None → first_in (type_place files) rs ≡ None → (k at : ℕ)
      → OfFile files k (IsMistyped files at) → ⊥
  none_wrong m t k at o = by o.holds
    where
      by : IsMistyped files at o.file → ⊥
      by (inl p) = none-some at (sym (no_item metadata_place files m k o.file o.is) ∙ p)
      by (inr p) =
          let r = at_resolved files rs h (λ x. type_place files x ≡ Some at) k o.file o.is p in
          none-some at (sym (no_item (type_place files) rs t k r.0 r.1) ∙ r.2)

  -- where no type is wrong, all parts of all files fit
  pub all_fit : ((k at : ℕ) → ¬ OfFile files k (IsMistyped files at)) → AllByRecursion (Fits files) rs
  all_fit n = each (Fits files) rs (λ k r is. by k r is (type_place files r) refl)
    where
      by : (k : ℕ) (r : ResolvedFileTree) → slice_get rs k ≡ Some r → (o : Option ℕ) → type_place files r ≡ o
          → Fits files r
      by k r is None e = e
      by k r is (Some at) e = absurd (n k at (wrong_at k at r is e))

  -- the first part that does not fit is the answer
  pub wrong_answer : HasNoUntyped files → (x : CheckFault) → IsWrongAt (first_in (type_place files) rs) x
      → IsAnswer files x
  wrong_answer n (fault.UnknownName k at) e = absurd e
  wrong_answer n (fault.NameTwice k at) e = absurd e
  wrong_answer n (fault.WrongType k at) e = (of_type k at e, n)
  wrong_answer n (fault.SymbolCycle k names) e = absurd e
  wrong_answer n (fault.BadDecorator k at) e = absurd e
  wrong_answer n (fault.BadForPlace k at) e = absurd e
  wrong_answer n (fault.MissingModuleParameter k at) e = absurd e
  wrong_answer n (fault.ExtraModuleParameter k at) e = absurd e
  wrong_answer n fault.OutOfMemory e = tt

  pub types_none : {A : Type 0} → first_in metadata_place files ≡ None → (r : Result A CheckFault)
      → OnOk r (first_in (type_place files) rs ≡ None)
      → OnOk r ((k at : ℕ) → ¬ OfFile files k (IsMistyped files at))
  types_none m (Ok x) e = none_wrong m e
  types_none m (Err x) e = tt

  pub types_answer : {A : Type 0} → HasNoUntyped files → (r : Result A CheckFault)
      → IfErr r (IsWrongAt (first_in (type_place files) rs)) → IfErr r (IsAnswer files)
  types_answer n (Ok x) e = tt
  types_answer n (Err x) e = wrong_answer n x e

pub metadata_answer : (files : List ProgramFile) → HasNoUntyped files → (k at : ℕ)
    → first_in metadata_place files ≡ Some (k, at) → IsAnswer files (fault.WrongType k at)
metadata_answer files n k at e = (of_metadata files k at e, n)

-- the answer where no type is looked at
pub untyped_answer : (files : List ProgramFile) (x : Untyped) → order.IsAnswer files x → IsAnswer files (as_fault x)
untyped_answer files (u.UnknownName k at) h = h
untyped_answer files (u.NameTwice k at) h = h
untyped_answer files (u.SymbolCycle k names) h = h
untyped_answer files (u.BadDecorator k at) h = h
untyped_answer files (u.BadForPlace k at) h = h
untyped_answer files (u.MissingModuleParameter k at) h = h
untyped_answer files (u.ExtraModuleParameter k at) h = h
untyped_answer files u.OutOfMemory h = h

pub none_at_all : (files : List ProgramFile) → HasNoUntyped files
    → ((k at : ℕ) → OfFile files k (IsMistyped files at) → ⊥) → (x : CheckFault) → ¬ HasFault files x
none_at_all files n t (fault.UnknownName k at) = n (u.UnknownName k at)
none_at_all files n t (fault.NameTwice k at) = n (u.NameTwice k at)
none_at_all files n t (fault.WrongType k at) = t k at
none_at_all files n t (fault.SymbolCycle k names) = n (u.SymbolCycle k names)
none_at_all files n t (fault.BadDecorator k at) = n (u.BadDecorator k at)
none_at_all files n t (fault.BadForPlace k at) = n (u.BadForPlace k at)
none_at_all files n t (fault.MissingModuleParameter k at) = n (u.MissingModuleParameter k at)
none_at_all files n t (fault.ExtraModuleParameter k at) = n (u.ExtraModuleParameter k at)
none_at_all files n t fault.OutOfMemory = λ f. f
