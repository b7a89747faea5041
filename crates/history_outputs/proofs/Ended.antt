-- All that is known once a history has succeeded.
use Rattle.std.proofs.Common.{◌≡◌, List, Option, Some, None, refl, sym, ap, subst, ◌∙◌, map}
use Rattle.plan_cells.proofs.KnownLemmas.{same_entry}
use Rattle.arm_value.specs.Json.{Json}
use Rattle.reading.specs.Knowledge.{Known, known, absent, missing, Told, value, no_value, waits, told, Stays}
use Rattle.reading.specs.Knowledge.{IsToldStill}
use Rattle.reading.proofs.Growth.{told_still}
use Rattle.deploy_cells.specs.Cells.{Cell, World}
use Rattle.deploy_cells.specs.Guarded.{Meaning}
use Rattle.plan_cells.specs.Desired.{Satisfies}
use Rattle.plan_cells.specs.Known.{Moment, Table, entry_of, entry_told, IsKnown, is_outright, is_told}
use Rattle.plan_cells.specs.Known.{entry_by, IsTable}
use Rattle.plan_cells.specs.Meaning.{meaning}
use Rattle.plan_cells.specs.Start.{at_point}
use Rattle.deploy_histories.specs.Planned.{Planned, IsPlanned, basis}
use Rattle.deploy_histories.specs.Events.{Event, at_opening, progress}
use Rattle.deploy_histories.specs.Points.{point, IsTableOf}
use Rattle.deploy_histories.specs.Legal.{IsLegal, HasSucceeded}
use Rattle.deploy_histories.specs.Answers.{answers_of}
use Rattle.deploy_histories.specs.Outcome.{BelongsTo}
use Rattle.history_laws.specs.Past.{IsKept}
use Rattle.history_laws.proofs.Keeping.{kept_always}
use Rattle.history_laws.proofs.Alone.{anything, all_given}
use Rattle.history_laws.proofs.Way.{known_so}
use Rattle.history_laws.proofs.Belonging.{belongs_so}
use Rattle.history_starts.proofs.Lists.{lists_known}
use Rattle.history_worlds.proofs.Consistent.{one_known}
use Rattle.history_worlds.proofs.Values.{Valued, valued}
use Rattle.task_standings.specs.Outputs.{AreAllOutputs, outputs_in, value_of}
use Rattle.task_standings.specs.declared.standing.RootOutput.{RootOutput}
use Rattle.task_standings.proofs.Final.{outputs_are_so}

-- where each cell is known, what is known is a table
module _ (m : Meaning) (n : Moment) (has : (c : Cell) → (o : Option Json) × IsKnown m n c o) where
  all_known : Table
  all_known c = entry_of (has c).0

  is_so : (c : Cell) (o : Option Json) → all_known c ≡ entry_of o → IsKnown m n c o
  unfolding all_known
  is_so c o e = subst (λ (u : Option Json). IsKnown m n c u) (same_entry (has c).0 o e) (has c).1

  stays_of : (p : Table) → ((d : Cell) (u : Option Json) → p d ≡ entry_of u → IsKnown m n d u) → (d : Cell)
      (e : Known Json) → p d ≡ e → Stays e (all_known d)
  unfolding all_known
  stays_of p k d (known v) e = ap entry_of (one_known m n d (has d).0 (Some v) (has d).1 (k d (Some v) e))
  stays_of p k d absent e = ap entry_of (one_known m n d (has d).0 None (has d).1 (k d None e))
  stays_of p k d missing e = tt

  by_growth : (c : Cell) (o : Option Json) (r : Told Cell (Option Json)) → IsToldStill all_known (m c) r
      → entry_told r ≡ entry_of o → entry_told (told all_known (m c)) ≡ entry_of o
  by_growth c o (value x) s e = ap entry_told s ∙ e
  by_growth c o no_value s e = ap entry_told s ∙ e
  by_growth c (Some x) (waits d) s e = cc
  by_growth c None (waits d) s e = cc

  has_told : (c : Cell) (o : Option Json) → IsKnown m n c o
      → entry_of o ≡ entry_by (n c) (entry_told (told all_known (m c)))
  has_told c o (is_outright _ _ e) = sym (ap (λ a. entry_by a (entry_told (told all_known (m c)))) e)
  has_told c o (is_told _ _ p b k e) =
      sym (ap (λ a. entry_by a (entry_told (told all_known (m c)))) b
      ∙ by_growth c o (told p (m c)) (told_still _ _ _ p all_known (λ d. stays_of p k d (p d) refl) (m c)) e)

  pub a_table : (t : Table) × IsTable m n t
  unfolding all_known
  a_table = (all_known, record { closed = λ c. has_told c (has c).0 (has c).1; is_known = is_so })

module _ (x : Planned) (planned : IsPlanned x) (h : List Event) (legal : IsLegal x h)
    (ended : HasSucceeded x (progress h)) where
  kept : IsKept anything x (progress h).status
  kept = kept_always anything x h legal (all_given x at_opening h)

  value_here : (c : Cell) → Valued anything x planned (progress h) kept ended.all_done (lists_known x planned) c
  value_here c = valued anything x planned (progress h) kept ended.all_done (lists_known x planned) c

  pub table_there : (t : Table) × IsTableOf x (progress h) t
  table_there =
      a_table (meaning x.deployment) (at_point (basis x) (point x (progress h).status))
      (λ c. ((value_here c).0, (value_here c).1.is_known))

  -- what is known is so in each desired state to which the answers belong, and so are the outputs
  pub outputs_so : (os : List RootOutput) → AreAllOutputs x (progress h) os → (w : World)
      → Satisfies x.deployment x.held w → BelongsTo x w (answers_of h) → map value_of os ≡ outputs_in x w
  outputs_so os all w sat belongs =
      let t = table_there in
      outputs_are_so x t.0 os (all t.0 t.1) w
      (known_so x planned w sat (progress h) t.0 t.1.is_known (belongs_so x planned w sat h belongs))
