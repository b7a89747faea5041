-- When a fault holds, and when none of its kind does.
use Rattle.std.proofs.Common.{◌≡◌, ◌⊎◌, inl, inr, ℕ, List, Option, Some, None, refl, sym, ap, subst, ◌∙◌}
use Rattle.std.specs.Prelude.{slice_get}
use Rattle.std.proofs.lemmas.Option.{none-some, same_Some}
use Rattle.bicep_found.specs.Found.{Found, found, unknown, mapped}
use Rattle.bicep_names.specs.Unknown.{Tells}
use Rattle.bicep_declared.specs.Declare.{declared_file}
use Rattle.bicep_program.specs.Program.{ProgramFile}
use Rattle.bicep_program.proofs.LoadLemmas.{at_place}
use Rattle.resolved_program.specs.Programs.{ResolvedFileTree, scope_in, resolved_file, IsResolved}
use Rattle.resolved_program.specs.Faults.{first_in, unknown_in, unknown_of}
use Rattle.resolved_program.specs.Unknown.{FileHasUnknown}
use Rattle.resolved_program.proofs.FirstLemmas.{first_item, no_item, both_at}
use Rattle.resolved_program.proofs.UnknownLemmas.{tells_file}
use Rattle.bicep_checks.specs.Faults.{OfFile, OfResolved, IsCircleOf, IsMisplaced, text_place, link_place}
use Rattle.bicep_checks.specs.Faults.{state_place, either, Spot}
use Rattle.bicep_checks.specs.Steps.{IsFree, AreFree, IsCircleIn}

-- ---- what is found in the text of a file

pub of_file : {B : Type 0} (f : ProgramFile → Option B) (files : List ProgramFile) (k : ℕ) (y : B)
    → first_in f files ≡ Some (k, y) → OfFile files k (λ file. f file ≡ Some y)
of_file f files k y e =
    let r = first_item f files k y e in
    record { file = r.0; is = r.1; holds = r.2 }

pub of_none : {B : Type 0} (f : ProgramFile → Option B) (files : List ProgramFile) → first_in f files ≡ None
    → (k : ℕ) (y : B) → OfFile files k (λ file. f file ≡ Some y) → ⊥
of_none f files e k y o = none-some y (sym (no_item f files e k o.file o.is) ∙ o.holds)

-- ---- names that mean nothing

never : {A B : Type 0} (x : A) (at : ℕ) → unknown at ≡ found x → B
never x at e = absurd (cc)

named : {A B : Type 0} (P : ℕ → Type 0) (g : A → B) (x : Found A) (y : B) → mapped g x ≡ found y → Tells P x
    → (at : ℕ) → P at → ⊥
unfolding mapped
named P g (found z) y e h at p = h at p
named P g (unknown b) y e h at p = never y b e

pub none_unknown : (files : List ProgramFile) (rs : List ResolvedFileTree) → IsResolved files rs → (k at : ℕ)
    → OfFile files k (λ f. FileHasUnknown (scope_in files f) at f.tree) → ⊥
none_unknown files rs h k at o =
    let r = both_at (resolved_file files) (λ x. found x) files rs h k o.file o.is in
    named (λ b. FileHasUnknown (scope_in files o.file) b o.file.tree) _
    (declared_file (scope_in files o.file) o.file.tree) r.0 r.2 (tells_file (scope_in files o.file) o.file.tree) at
    o.holds

unnamed : {A B : Type 0} (P : ℕ → Type 0) (g : A → B) (x : Found A) (at : ℕ) → unknown_in (mapped g x) ≡ Some at
    → Tells P x → P at
unfolding mapped
unnamed P g (found z) at e h = absurd (none-some at e)
unnamed P g (unknown b) at e h = subst P (same_Some _ _ e) h

pub of_unknown : (files : List ProgramFile) (k at : ℕ) → first_in (unknown_of files) files ≡ Some (k, at)
    → OfFile files k (λ f. FileHasUnknown (scope_in files f) at f.tree)
of_unknown files k at e =
    let r = first_item (unknown_of files) files k at e in
    record {
      file = r.0;
      is = r.1;
      holds =
          unnamed (λ b. FileHasUnknown (scope_in files r.0) b r.0.tree) _ (declared_file (scope_in files r.0) r.0.tree)
          at r.2 (tells_file (scope_in files r.0) r.0.tree);
    }

-- ---- what is found in files whose names are found

abbrev pub value_or : {A : Type 0} → A → Found A → A
value_or x (found y) = y
value_or x (unknown at) = x

same_found : {A : Type 0} (x y : A) → found x ≡ found y → x ≡ y
same_found x y e = ap (value_or x) e

-- what begins there is misplaced by what its names stand for, or by what they read
abbrev IsPlace : ℕ → ResolvedFileTree → Type 0
IsPlace at r = (link_place r ≡ Some at) ⊎ (state_place r ≡ Some at)

module _ (files : List ProgramFile) (rs : List ResolvedFileTree) (h : IsResolved files rs) where
  -- a resolved file is that of a file
  pub of_resolved : (P : ResolvedFileTree → Type 0) (k : ℕ) (r : ResolvedFileTree) → slice_get rs k ≡ Some r → P r
      → OfFile files k (OfResolved files P)
  of_resolved P k r is p =
      let f = both_at (λ x. found x) (resolved_file files) rs files (sym h) k r is in
      record { file = f.0; is = f.1; holds = record { resolved = r; is = sym f.2; holds = p } }

  -- what holds of a file holds of its resolved file
  pub at_resolved : (P : ResolvedFileTree → Type 0) (k : ℕ) (f : ProgramFile) → slice_get files k ≡ Some f
      → OfResolved files P f → (r : ResolvedFileTree) × (slice_get rs k ≡ Some r) × P r
  at_resolved P k f is o =
      let r = both_at (resolved_file files) (λ x. found x) files rs h k f is in
      (r.0, r.1, subst P (same_found o.resolved r.0 (sym o.is ∙ r.2)) o.holds)

  -- ---- circles

  pub of_circle : (k : ℕ) (names : List (List ℕ)) → IsCircleIn rs k names
      → OfFile files k (OfResolved files (IsCircleOf names))
  of_circle k names c = of_resolved (IsCircleOf names) k c.file c.is c.circle

  pub none_circle : AreFree rs → (k : ℕ) (names : List (List ℕ))
      → OfFile files k (OfResolved files (IsCircleOf names)) → ⊥
  none_circle free k names o =
      let r = at_resolved (IsCircleOf names) k o.file o.is o.holds in
      at_place IsFree rs k r.0 r.1 free r.2.numbers r.2.circle

  -- ---- places

  at_name : (f : ResolvedFileTree → Option ℕ) (k at : ℕ)
      → ((r : ResolvedFileTree) → f r ≡ Some at → IsPlace at r) → first_in f rs ≡ Some (k, at)
      → OfFile files k (IsMisplaced files at)
  at_name f k at into e =
      let r = first_item f rs k at e in
      let o = of_resolved (IsPlace at) k r.0 r.1 (into r.0 r.2) in
      record { file = o.file; is = o.is; holds = inr o.holds }

  at_text : (k at : ℕ) → first_in text_place files ≡ Some (k, at) → OfFile files k (IsMisplaced files at)
  at_text k at e =
      let o = of_file text_place files k at e in
      record { file = o.file; is = o.is; holds = inl o.holds }

  pub of_place : (k at : ℕ)
      → either (first_in text_place files) (either (first_in link_place rs) (first_in state_place rs)) ≡ Some (k, at)
      → OfFile files k (IsMisplaced files at)
  of_place k at e = by (first_in text_place files) (first_in link_place rs) refl refl e
    where
      by : (o p : Spot) → first_in text_place files ≡ o → first_in link_place rs ≡ p
          → either o (either p (first_in state_place rs)) ≡ Some (k, at) → OfFile files k (IsMisplaced files at)
      by (Some x) p q r s = at_text k at (q ∙ s)
      by None (Some x) q r s = at_name link_place k at (λ y h. inl h) (r ∙ s)
      by None None q r s = at_name state_place k at (λ y h. inr h) s

  pub none_place : either (first_in text_place files) (either (first_in link_place rs) (first_in state_place rs)) ≡ None
      → (k at : ℕ) → OfFile files k (IsMisplaced files at) → ⊥
  none_place e k at o = by (first_in text_place files) (first_in link_place rs) refl refl e o.holds
    where
      in_names : first_in link_place rs ≡ None → first_in state_place rs ≡ None → (r : ResolvedFileTree)
          → slice_get rs k ≡ Some r → IsPlace at r → ⊥
      in_names p q r is (inl h) = none-some at (sym (no_item link_place rs p k r is) ∙ h)
      in_names p q r is (inr h) = none-some at (sym (no_item state_place rs q k r is) ∙ h)

      by : (x y : Spot) → first_in text_place files ≡ x → first_in link_place rs ≡ y
          → either x (either y (first_in state_place rs)) ≡ None → IsMisplaced files at o.file → ⊥
      by (Some z) y q r s m = none-some z (sym s)
      by None (Some z) q r s m = none-some z (sym s)
      by None None q r s (inl m) = none-some at (sym (no_item text_place files q k o.file o.is) ∙ m)
      by None None q r s (inr m) =
          let x = at_resolved (IsPlace at) k o.file o.is m in in_names r s x.0 x.1 x.2
