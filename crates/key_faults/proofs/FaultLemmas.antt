-- That a fault of two instances with one key is true.
use Rattle.std.proofs.Common.{◌≡◌, inl, inr, ℕ, zero, suc, ◌<◌, List, [], ◌∷◌, length}
use Rattle.std.proofs.Common.{refl, sym, ap₂, subst, ◌∙◌, arith}
use Rattle.std.proofs.lemmas.List.{length-map}
use Rattle.arm_ids.specs.Held.{HeldResource}
use Rattle.template_parts.specs.declared.mode.Mode.{Mode}
use Rattle.deploy_cells.specs.Cells.{Step, step, Position}
use Rattle.plan_cells.specs.Start.{IsStart}
use Rattle.plan_filling.proofs.FinalLemmas.{filled_is_final}
use Rattle.plan_tasks.proofs.AnswerLemmas.{gates_known}
use Rattle.plan_table.specs.declared.table.Table.{Table}
use Rattle.plan_table.specs.Opened.{Opened, opened_of, opened_at}
use Rattle.plan_table.specs.Whole.{whole_of, scopes_of, rows_in}
use Rattle.plan_table.specs.Found.{scope_at}
use Rattle.plan_tasks.specs.Start.{start_of, IsStartTable}
use Rattle.plan_openers.specs.declared.opener.Opener.{Opener}
use Rattle.plan_openers.specs.Openers.{IsOpener}
use Rattle.plan_openers.specs.SameNested.{AreSameNested}
use Rattle.plan_puts.specs.PutTags.{AreSamePut}
use Rattle.plan_paths.specs.Texts.{a_position, instance_text}
use Rattle.plan_faults.specs.declared.fault.PlanFault.{PlanFault}
use Rattle.plan_faults.specs.declared.fault.PlanFault.TheVariants as fault
use Rattle.plan_faults.specs.Faults.{IsFault}
use Rattle.key_faults.specs.Positions.{position_text}

-- ---- what is there

opened_within : (os : List Opened) (f : ℕ) (s : Step) (p : Position) → (opened_at os f).position ≡ s ∷ p
    → f < length os
opened_within [] f s p e = absurd (cc)
opened_within (o ∷ os) zero s p e = omega arith
opened_within (o ∷ os) (suc f) s p e = let h = opened_within os f s p e in omega (arith, h)

scope_there : (t : Table) (f : ℕ) (s : Step) (p : Position) → (scope_at t f).position ≡ s ∷ p
    → f < length t.frames.items
scope_there t f s p e =
    let h = opened_within (scopes_of t) f s p e in
    let n = length-map t.frames.items opened_of in
    omega (arith, h, n)

pub first_there : (t : Table) (g h : ℕ) → AreSameNested t g h → g < length t.frames.items
first_there t g h a = scope_there t g a.first a.around a.is_first

pub second_there : (t : Table) (g h : ℕ) → AreSameNested t g h → h < length t.frames.items
second_there t g h a = scope_there t h a.second a.around a.is_second

-- such a scope is not the root
pub first_inside : (t : Table) (g h : ℕ) → AreSameNested t g h → (scope_at t g).position ≡ [] → ⊥
first_inside t g h a e = let both : [] ≡ a.first ∷ a.around = sym e ∙ a.is_first in cc

pub second_inside : (t : Table) (g h : ℕ) → AreSameNested t g h → (scope_at t h).position ≡ [] → ⊥
second_inside t g h a e = let both : [] ≡ a.second ∷ a.around = sym e ∙ a.is_second in cc

-- ---- faults

known_at_start : (t : Table) → IsStartTable t → IsStart (whole_of t) (start_of t)
known_at_start t s = (filled_is_final (whole_of t) (rows_in t) s.filled (gates_known (rows_in t) s.answered)).is_start

module _ (t : Table) (start : IsStartTable t) (mode : Mode) (held : List HeldResource) where
  pub put_fault : (x y : Opener) (f : PlanFault) → AreSamePut t x y
      → f ≡ fault.SameKey (position_text t x) (position_text t y) → IsFault (whole_of t) mode held f
  put_fault x y f h e =
      let s = known_at_start t start in
      subst (IsFault (whole_of t) mode held) (sym e) (
        start_of t,
        (
          s.is_known,
          (
            s,
            inl (record {
              first_at = (scope_at t x.frame).position;
              first_instance = step x.resource x.copy;
              second_at = (scope_at t y.frame).position;
              second_instance = step y.resource y.copy;
              share = h.share;
              is_first = refl;
              is_second = refl;
            }),
          ),
        ),
      )

  opened_at_text : (g : ℕ) (x : Opener) (s : Step) (p : Position) → IsOpener t g x
      → (scope_at t g).position ≡ s ∷ p → instance_text a_position (whole_of t).template p s ≡ position_text t x
  opened_at_text g x s p o e =
      let both : s ∷ p ≡ step x.resource x.copy ∷ (scope_at t x.frame).position = sym e ∙ o.is_scope.position in
      let here : p ≡ (scope_at t x.frame).position = cc in
      let one : s ≡ step x.resource x.copy = cc in
      ap₂ (instance_text a_position (whole_of t).template) here one

  pub nested_fault : (g h : ℕ) (x y : Opener) (f : PlanFault) → AreSameNested t g h → IsOpener t g x → IsOpener t h y
      → f ≡ fault.SameKey (position_text t x) (position_text t y) → IsFault (whole_of t) mode held f
  nested_fault g h x y f a o u e =
      let s = known_at_start t start in
      subst (IsFault (whole_of t) mode held) (sym e) (
        start_of t,
        (
          s.is_known,
          (
            s,
            inr (record {
              around = a.around;
              first_instance = a.first;
              second_instance = a.second;
              share = a.share;
              is_first = opened_at_text g x a.first a.around o a.is_first;
              is_second = opened_at_text h y a.second a.around u a.is_second;
            }),
          ),
        ),
      )
