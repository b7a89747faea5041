-- What nothing refuses by the table of a start.
use Rattle.std.specs.Prelude.{List, ℕ}
use Rattle.template_parts.specs.declared.fault.BindFault.{BindFault}
use Rattle.deploy_cells.specs.Puts.{ResourcesDiffer, DeploymentsDiffer}
use Rattle.plan_cells.specs.Desired.{kinds}
use Rattle.plan_cells.specs.Known as known
use Rattle.plan_cells.specs.Meaning.{Deployment}
use Rattle.plan_cells.specs.Start.{start_world}
use Rattle.plan_faults.specs.Dependencies.{IsUnknown, IsAmbiguous}
use Rattle.plan_faults.specs.Faults.{IsExtra}

-- no two included instances that are put have one key, and no two nested deployments of a scope
pub record HaveOwnKeys (d : Deployment) (q : known.Table) : Type 0 where
  pub resources_differ : ResourcesDiffer d.place (kinds d) (start_world q)
  pub deployments_differ : DeploymentsDiffer d.place (kinds d) (start_world q)

-- no nested deployment gives what its template has no parameter for
abbrev pub NoneExtra : Deployment → known.Table → Type 0
NoneExtra d q = (path : List ℕ) (f : BindFault) → IsExtra d q path f → ⊥

-- each element of `dependsOn` names something, of one key
pub record NameOneKey (d : Deployment) (q : known.Table) : Type 0 where
  pub none_unknown : (path : List ℕ) → IsUnknown d q path → ⊥
  pub none_ambiguous : (path : List ℕ) → IsAmbiguous d q path → ⊥
