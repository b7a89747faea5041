-- The instances that tasks start and end, in a template and in its program.
use Rattle.std.proofs.Common.{◌≡◌, ℕ, [], ◌∷◌, Option, Some, None, refl, ap, ◌∙◌, sym}
use Rattle.foundation.proofs.Options.{same_some}
use Rattle.deploy_cells.specs.Cells.{Step, step, Position}
use Rattle.plan_cells.specs.Needs.{Instance, started, ended}
use Rattle.plan_cells.specs.Tasks.{Task, enter, leave, put, delete}
use Rattle.cell_renaming.specs.Renaming.{Renaming, to_position}
use Rattle.cell_renaming.proofs.OptionLemmas.{of_both, of_map}
use Rattle.emitted_needs.specs.Tasks.{to_task}

-- an instance and its new one
pub record Renamed (r : Renaming) (o a : Option Instance) : Type 0 where
  pub at : Position
  pub instance : Step
  pub is : o ≡ Some (at, instance)
  pub new : Position
  pub number : ℕ
  pub is_new : to_position r at ≡ Some new
  pub is_number : r.number at instance.resource ≡ Some number
  pub becomes : a ≡ Some (new, step number instance.copy)

-- both are there, or neither
pub data AreBoth (r : Renaming) (o a : Option Instance) : Type 0 where
  both : Renamed r o a → AreBoth r o a
  neither : o ≡ None → a ≡ None → AreBoth r o a

module _ (r : Renaming) where
  of_put : (p : Position) (s : Step) (a : Task) (f : Task → Option Instance)
      → ((q : Position) (m : ℕ) → f (put q (step m s.copy)) ≡ Some (q, step m s.copy))
      → to_task r (put p s) ≡ Some a → AreBoth r (Some (p, s)) (f a)
  of_put p s a f h e =
      let g = of_both (to_position r p) (r.number p s.resource) (λ q m. put q (step m s.copy)) a e in
      both (record {
        at = p;
        instance = s;
        is = refl;
        new = g.left;
        number = g.right;
        is_new = g.first;
        is_number = g.second;
        becomes = ap f (sym g.made) ∙ h g.left g.right;
      })

  inside : (p : Position) (s : Step) (a : Task) (c : Position → Task) (f : Task → Option Instance)
      → ((q : Position) (t : Step) → f (c (t ∷ q)) ≡ Some (q, t)) → (q : Position)
      → to_position r (s ∷ p) ≡ Some q → c q ≡ a → AreBoth r (Some (p, s)) (f a)
  inside p s a c f h q e k =
      let g = of_both (to_position r p) (r.number p s.resource) (λ q m. step m s.copy ∷ q) q e in
      both (record {
        at = p;
        instance = s;
        is = refl;
        new = g.left;
        number = g.right;
        is_new = g.first;
        is_number = g.second;
        becomes = ap f (sym k) ∙ ap (λ q. f (c q)) (sym g.made) ∙ h g.left (step g.right s.copy);
      })

  pub started_both : (u a : Task) → to_task r u ≡ Some a → AreBoth r (started u) (started a)
  started_both (put p s) a e = of_put p s a started (λ q m. refl) e
  started_both (enter (s ∷ p)) a e =
      let g = of_map (to_position r (s ∷ p)) enter a e in
      inside p s a enter started (λ q t. refl) g.left g.first g.made
  started_both (enter []) a e = neither refl (ap started (sym (same_some e)))
  started_both (leave p) a e =
      let g = of_map (to_position r p) leave a e in neither refl (ap started (sym g.made))
  started_both (delete k) a e = neither refl (ap started (sym (same_some e)))

  pub ended_both : (u a : Task) → to_task r u ≡ Some a → AreBoth r (ended u) (ended a)
  ended_both (put p s) a e = of_put p s a ended (λ q m. refl) e
  ended_both (leave (s ∷ p)) a e =
      let g = of_map (to_position r (s ∷ p)) leave a e in
      inside p s a leave ended (λ q t. refl) g.left g.first g.made
  ended_both (leave []) a e = neither refl (ap ended (sym (same_some e)))
  ended_both (enter p) a e =
      let g = of_map (to_position r p) enter a e in neither refl (ap ended (sym g.made))
  ended_both (delete k) a e = neither refl (ap ended (sym (same_some e)))
