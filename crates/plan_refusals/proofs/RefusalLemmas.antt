-- Rows without a value, and keys that differ.
use Rattle.std.proofs.Common.{◌≡◌, inl, inr, ℕ, ◌<◌, Bool, true, false, true≢false, List, [], ◌∷◌, length, Some}
use Rattle.std.proofs.Common.{refl, sym, ap, subst, ◌∙◌}
use Rattle.std.specs.Prelude.{not, ◌||◌}
use Rattle.deploy_cells.specs.Cells.{Step, Position, Cell, parameter, variable, offered, output, count, included, name}
use Rattle.deploy_cells.specs.Cells.{deployments, state, World}
use Rattle.deploy_cells.specs.Puts.{ResourcesDiffer, DeploymentsDiffer}
use Rattle.deploy_cells.specs.Same.{same_instance, same_step}
use Rattle.deploy_cells.proofs.SameLemmas.{cell_is, step_is}
use Rattle.plan_filling.specs.Meaning.{Deployment}
use Rattle.plan_filling.specs.Desired.{kinds}
use Rattle.plan_filling.specs.Rows.{Status, New, Open, Value, Empty, Late, Row, row_at, status_of, IsFinished}
use Rattle.plan_filling.specs.Steps.{Filled}
use Rattle.plan_filling.proofs.RowLemmas.{status_found}
use Rattle.plan_tasks.specs.Answered.{is_asked, has_value, is_answered}
use Rattle.plan_refusals.specs.Refusals.{is_needed, IsUnanswered}
use Rattle.plan_refusals.specs.Keys.{ShareKey, ShareNestedKey}

needed : (c : Cell) → is_asked c ≡ true → is_needed c ≡ true
needed (count p r) e = refl
needed (included p s) e = refl
needed (name p s) e = refl
needed (parameter p x) e = refl
needed (variable p x) e = refl
needed (offered p x) e = e
needed (output p x) e = e
needed (deployments p) e = e
needed (state k) e = e

asked_by : (a b : Bool) → (not a || b) ≡ false → a ≡ true
asked_by true b e = refl
asked_by false b e = absurd (true≢false e)

no_value_by : (a : Bool) → (not a || true) ≡ false → ⊥
no_value_by true e = true≢false e
no_value_by false e = true≢false e

pub unanswered : (d : Deployment) (rows : List Row) (j : ℕ) → Filled d rows → j < length rows
    → is_answered (row_at rows j) ≡ false → IsUnanswered d rows (row_at rows j).cell
unanswered d rows j f h e =
    by_status (row_at rows j).status refl (f.finished j h) (asked_by (is_asked c) (has_value (row_at rows j).status) e)
  where
    c : Cell
    c = (row_at rows j).cell

    listed : status_of rows c ≡ Some (row_at rows j).status
    listed = status_found rows j f.sound.distinct h

    by_status : (s : Status) → (row_at rows j).status ≡ s → IsFinished (row_at rows j).status → is_asked c ≡ true
        → IsUnanswered d rows c
    by_status New k g a = absurd (subst IsFinished k g)
    by_status Open k g a = absurd (subst IsFinished k g)
    by_status (Value v) k g a =
        absurd (no_value_by (is_asked c) (ap (λ s. not (is_asked c) || has_value s) (sym k) ∙ e))
    by_status Empty k g a = inr (record { is_needed = needed c a; is_empty = listed ∙ ap Some k })
    by_status (Late l) k g a =
        inl (l, record { is_asked = a; is_late = f.sound.good.late c l (listed ∙ ap Some k) })

-- ---- keys

abbrev pub position_in : Cell → Position
position_in (included p s) = p
position_in _ = []

abbrev step_in : Cell → Step
step_in (included p s) = s
step_in _ = record { resource = 0; copy = 0 }

instances_are : (p : Position) (s : Step) (q : Position) (t : Step) → same_instance p s q t ≡ true → (s ∷ p) ≡ (t ∷ q)
instances_are p s q t e =
    let same : included p s ≡ included q t = cell_is (included p s) (included q t) e in
    ap (λ (c : Cell). step_in c ∷ position_in c) same

pub resources_differ : (d : Deployment) (w : World)
    → ((p : Position) (s : Step) (q : Position) (t : Step) → ShareKey d w p s q t → ⊥)
    → ResourcesDiffer d.place (kinds d) w
resources_differ d w none p q s t k l m n a b e = by_test (same_instance p s q t) refl
  where
    by_test : (c : Bool) → same_instance p s q t ≡ c → (s ∷ p) ≡ (t ∷ q)
    by_test true g = instances_are p s q t g
    by_test false g =
        absurd (none p s q t (record {
          kind = k;
          other_kind = l;
          title = m;
          other_title = n;
          is_put = a;
          other_is_put = b;
          have_one = e;
          differ = g;
        }))

pub deployments_differ : (d : Deployment) (w : World)
    → ((p : Position) (s t : Step) → ShareNestedKey d w p s t → ⊥) → DeploymentsDiffer d.place (kinds d) w
deployments_differ d w none p s t k l m n a b e = by_test (same_step s t) refl
  where
    by_test : (c : Bool) → same_step s t ≡ c → s ≡ t
    by_test true g = step_is s t g
    by_test false g =
        absurd (none p s t (record {
          kind = k;
          other_kind = l;
          title = m;
          other_title = n;
          is_nested = a;
          other_is_nested = b;
          have_one = e;
          differ = g;
        }))
