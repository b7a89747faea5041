-- A task is ready with one body, by whatever is known.
use Rattle.std.proofs.Common.{◌≡◌, inl, ℕ, Option, refl, sym, ap, subst, ◌∙◌}
use Rattle.std.proofs.lemmas.Option.{same_Some}
use Rattle.arm_value.specs.Json.{Json}
use Rattle.reading.specs.Knowledge.{Told, value, told, Grows, IsToldStill}
use Rattle.reading.proofs.Growth.{told_still}
use Rattle.deploy_cells.specs.Cells.{Cell}
use Rattle.deploy_cells.specs.Guarded.{Reads}
use Rattle.plan_cells.specs.Known.{Table}
use Rattle.plan_cells.specs.Meaning.{meaning}
use Rattle.plan_cells.specs.Start.{at_point}
use Rattle.plan_cells.specs.Tasks.{Task, enter, leave, put, delete}
use Rattle.deploy_histories.specs.Planned.{Planned, basis}
use Rattle.deploy_histories.specs.Events.{Progress}
use Rattle.deploy_histories.specs.Legal.{MayStart}
use Rattle.deploy_histories.specs.Points.{point, IsKnownThen}
use Rattle.deploy_histories.specs.Readiness.{readiness, ready, IsReadyWith}
use Rattle.deploy_histories.specs.Values.{a_body, body_reading, value_or_null}
use Rattle.deploy_histories.proofs.ReadinessLemmas.{ready_says}
use Rattle.task_standings.proofs.Agreement.{AreOne, joined, grows_left, grows_right, one_known}

same_value : (o u : Option Json) → ◌≡◌ {A = Told Cell (Option Json)} (value o) (value u) → o ≡ u
same_value o u e = cc

still : (p q : Table) → Grows p q → (r : Reads (Option Json)) (o : Option Json) → told p r ≡ value o
    → told q r ≡ value o
still p q g r o e =
    subst (λ (v : Told Cell (Option Json)). IsToldStill q r v) e (told_still Cell Json (Option Json) p q g r)

module _ (x : Planned) (p : Progress) (s t : Table) (k : IsKnownThen x p s) (l : IsKnownThen x p t) where
  are_one : AreOne s t
  are_one c o u i j =
      one_known (meaning x.deployment) (at_point (basis x) (point x p.status)) c o u (k c o i) (l c u j)

  both_values : (r : Reads (Option Json)) (o u : Option Json) → told s r ≡ value o → told t r ≡ value u → o ≡ u
  both_values r o u i j =
      same_value o u (sym (still s (joined s t) (grows_left s t) r o i)
      ∙ still t (joined s t) (grows_right s t are_one) r u j)

  body_same : (u : ℕ) (one : Task) (b c : Json) → IsReadyWith x s p u one b → IsReadyWith x t p u one c → b ≡ c
  body_same u (put q i) b c f g =
      let v = f.has_values (record { part = a_body; reading = body_reading x.deployment q i }) (inl refl) in
      let w = g.has_values (record { part = a_body; reading = body_reading x.deployment q i }) (inl refl) in
      sym f.has_body ∙ ap value_or_null v.1
      ∙ ap (λ (o : Option Json). value_or_null (value o)) (both_values (body_reading x.deployment q i) v.0 w.0 v.1 w.1)
      ∙ sym (ap value_or_null w.1) ∙ g.has_body
  body_same u (delete k) b c f g = sym f.has_body ∙ g.has_body
  body_same u (enter q) b c f g = sym f.has_body ∙ g.has_body
  body_same u (leave q) b c f g = sym f.has_body ∙ g.has_body

-- a task may start with one body alone
pub one_body : (x : Planned) (p : Progress) (u : ℕ) (one other : Task) (b c : Json) → MayStart x p u one b
    → MayStart x p u other c → b ≡ c
one_body x p u one other b c m n =
    let same = same_Some other one (sym n.is_task ∙ m.is_task) in
    body_same x p m.known n.known m.is_known n.is_known u one b c (ready_says x m.known p u one b m.is_ready)
    (ready_says x n.known p u one c
    (subst (λ (z : Task). readiness x n.known p.status u z ≡ ready c) same n.is_ready))
