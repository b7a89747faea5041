-- What nothing refuses by the table of a start is refused by no other.
use Rattle.std.proofs.Common.{◌⊎◌, inl, inr, List, ℕ, refl, subst}
use Rattle.template_parts.specs.declared.fault.BindFault.{BindFault}
use Rattle.template_parts.specs.declared.limit.Which.{Which}
use Rattle.plan_cells.specs.Known as known
use Rattle.plan_cells.specs.Meaning.{Deployment}
use Rattle.plan_cells.specs.Start.{IsStart}
use Rattle.plan_filling.specs.Rows.{status_of}
use Rattle.plan_filling.specs.Limits.{IsOverrun}
use Rattle.plan_filling.proofs.FinalLemmas.{filled_is_final}
use Rattle.plan_table.specs.declared.table.Table.{Table}
use Rattle.plan_table.specs.Counted.{IsCounted}
use Rattle.plan_table.specs.Whole.{whole_of, rows_in}
use Rattle.plan_tasks.specs.Start.{start_of, IsStartTable}
use Rattle.plan_settling.specs.Refused.{AreSettled}
use Rattle.plan_tasks.proofs.AnswerLemmas.{gates_known}
use Rattle.plan_faults.specs.Known.{AreKnown}
use Rattle.plan_faults.specs.Dependencies.{IsUnknown, IsAmbiguous}
use Rattle.plan_faults.specs.Faults.{IsBindFault, IsSameKey, IsSameNestedKey, IsCountAbove, BySome}
use Rattle.fault_exactness.specs.Exact.{HaveOwnKeys, NoneExtra, NameOneKey}
use Rattle.fault_exactness.proofs.BrokenLemmas.{never_broken, never_above}
use Rattle.fault_exactness.proofs.UngivenLemmas.{never_ungiven, extra_too}
use Rattle.fault_exactness.proofs.LimitLemmas.{never_overrun}
use Rattle.fault_exactness.proofs.KeyLemmas.{one_start, never_same}

module _ (t : Table) (start : IsStartTable t) where
  abbrev d : Deployment
  d = whole_of t

  is_start : IsStart d (start_of t)
  is_start = (filled_is_final d (rows_in t) start.filled (gates_known (rows_in t) start.answered)).is_start

  module _ (path : List ℕ) (f : BindFault) (settled : AreSettled (rows_in t)) (none : NoneExtra d (start_of t))
      (q : known.Table) (k : AreKnown d q) where
    pub bind_never : IsBindFault d q path f → ⊥
    bind_never (inl b) =
        never_broken d (status_of (rows_in t)) start.filled.sound.good is_start (rows_in t) settled (λ c. refl) q k path
        f b
    bind_never (inr (inl u)) =
        never_ungiven d (status_of (rows_in t)) start.filled.sound.good is_start (rows_in t) settled (λ c. refl) q k
        path f u
    bind_never (inr (inr x)) =
        none path f
        (extra_too d (status_of (rows_in t)) start.filled.sound.good is_start (rows_in t) settled (λ c. refl) q k path
        f x)

  pub same_never : (first second : List ℕ) → HaveOwnKeys d (start_of t) → (q : known.Table) → IsStart d q
      → IsSameKey d q first second ⊎ IsSameNestedKey d q first second → ⊥
  same_never first second keys q s h =
      never_same d (start_of t) keys.resources_differ keys.deployments_differ first second
      (subst (λ (p : known.Table). IsSameKey d p first second ⊎ IsSameNestedKey d p first second)
      (one_start d q (start_of t) s is_start) h)

  pub unknown_never : (path : List ℕ) → NameOneKey d (start_of t) → (q : known.Table) → IsStart d q → IsUnknown d q path
      → ⊥
  unknown_never path names q s h =
      names.none_unknown path
      (subst (λ (p : known.Table). IsUnknown d p path) (one_start d q (start_of t) s is_start) h)

  pub ambiguous_never : (path : List ℕ) → NameOneKey d (start_of t) → (q : known.Table) → IsStart d q
      → IsAmbiguous d q path → ⊥
  ambiguous_never path names q s h =
      names.none_ambiguous path
      (subst (λ (p : known.Table). IsAmbiguous d p path) (one_start d q (start_of t) s is_start) h)

  pub limit_never : (w : Which) (n : ℕ) → AreSettled (rows_in t) → IsCounted t
      → IsOverrun d w n ⊎ BySome d (λ q. IsCountAbove d q w n) → ⊥
  limit_never w n settled counted (inl o) = never_overrun t start counted is_start w n o
  limit_never w n settled counted (inr h) =
      never_above d (status_of (rows_in t)) start.filled.sound.good is_start (rows_in t) settled (λ c. refl) h.0 h.1.0 w
      n h.1.1
