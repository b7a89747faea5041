-- Which instance of a nested deployment opened a scope of a table.
use Rattle.std.specs.Prelude.{◌≡◌, ℕ, true, Some}
use Rattle.deploy_cells.specs.Cells.{step}
use Rattle.plan_cells.specs.Resources.{Nested, nested_in}
use Rattle.plan_table.specs.declared.table.Table.{Table}
use Rattle.plan_table.specs.Found.{scope_at}
use Rattle.plan_refusals.specs.InOrder.{is_in}
use Rattle.plan_refusals.specs.Start.{start_of, IsInstance, IsScopeOf}
use Rattle.plan_openers.specs.declared.opener.Opener.{Opener}

-- the instance is a nested deployment that is included, and the scope number g is the one that it opened
pub record IsOpener (t : Table) (g : ℕ) (x : Opener) : Type 0 where
  pub is_instance : IsInstance t x.frame x.resource x.copy
  pub is_included : is_in (start_of t) (scope_at t x.frame).position (step x.resource x.copy) ≡ true
  pub nested : Nested
  pub is_nested : nested_in is_instance.number.listed.content ≡ Some nested
  pub is_scope : IsScopeOf t x.frame x.resource x.copy g nested
