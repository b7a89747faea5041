-- Faults that compare all instances are false where keys differ.
use Rattle.std.proofs.Common.{◌≡◌, ◌⊎◌, inl, inr, ℕ, Bool, true, false, true≢false, List, [], refl, sym, ap, ◌∙◌}
use mathlib.Core.Path.{fun_ext}
use Rattle.deploy_cells.specs.Cells.{Step, Position, included, World}
use Rattle.deploy_cells.specs.Puts.{ResourcesDiffer, DeploymentsDiffer}
use Rattle.deploy_cells.specs.Same.{same_instance, same_step}
use Rattle.deploy_cells.proofs.SameLemmas.{cell_same, step_same}
use Rattle.plan_cells.specs.Known.{Table}
use Rattle.plan_cells.specs.Meaning.{Deployment, meaning}
use Rattle.plan_cells.specs.Desired.{kinds}
use Rattle.plan_cells.specs.Start.{IsStart, start, start_world}
use Rattle.plan_cells.proofs.KnownLemmas.{one_entry}
use Rattle.plan_refusals.specs.Keys.{ShareKey, ShareNestedKey}
use Rattle.plan_faults.specs.Faults.{IsSameKey, IsSameNestedKey}

-- there is one table of the start
pub one_start : (d : Deployment) (q s : Table) → IsStart d q → IsStart d s → q ≡ s
one_start d q s a b = fun_ext (λ c. one_entry (meaning d) start q s a b c)

module _ (d : Deployment) (w : World) where
  never_shared : ResourcesDiffer d.place (kinds d) w → (p : Position) (s : Step) (q : Position) (t : Step)
      → ShareKey d w p s q t → ⊥
  never_shared differ p s q t x =
      let same = differ p q s t x.kind x.other_kind x.title x.other_title x.is_put x.other_is_put x.have_one in
      let e : s ≡ t = cc in
      let g : p ≡ q = cc in
      true≢false (sym (cell_same (included p s))
      ∙ ap (λ (u : Step). same_instance p s p u) e ∙ ap (λ (r : Position). same_instance p s r t) g ∙ x.differ)

  never_nested : DeploymentsDiffer d.place (kinds d) w → (p : Position) (s t : Step) → ShareNestedKey d w p s t → ⊥
  never_nested differ p s t x =
      let e : s ≡ t = differ p s t x.kind x.other_kind x.title x.other_title x.is_nested x.other_is_nested x.have_one in
      true≢false (sym (step_same s) ∙ ap (λ (u : Step). same_step s u) e ∙ x.differ)

module _ (d : Deployment) (s : Table) (resources : ResourcesDiffer d.place (kinds d) (start_world s))
    (deployments : DeploymentsDiffer d.place (kinds d) (start_world s)) where
  pub never_same : (x y : List ℕ) → IsSameKey d s x y ⊎ IsSameNestedKey d s x y → ⊥
  never_same x y (inl k) =
      never_shared d (start_world s) resources k.first_at k.first_instance k.second_at k.second_instance k.share
  never_same x y (inr k) =
      never_nested d (start_world s) deployments k.around k.first_instance k.second_instance k.share
