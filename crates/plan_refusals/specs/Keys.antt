-- Two instances of a deployment that have one key.
use Rattle.std.specs.Prelude.{◌≡◌, ℕ, false, List}
use Rattle.deploy_cells.specs.Cells.{Step, Position, World}
use Rattle.deploy_cells.specs.Puts.{Kind, IsPut, IsNested, key_at}
use Rattle.deploy_cells.specs.Same.{same_instance, same_step}
use Rattle.plan_filling.specs.Meaning.{Deployment}
use Rattle.plan_filling.specs.Desired.{kinds}

-- two instances that are put have one key
pub record ShareKey (d : Deployment) (w : World) (p : Position) (s : Step) (q : Position) (t : Step) : Type 0 where
  pub kind : Kind
  pub other_kind : Kind
  pub title : List ℕ
  pub other_title : List ℕ
  pub is_put : IsPut (kinds d) w p s kind title
  pub other_is_put : IsPut (kinds d) w q t other_kind other_title
  pub have_one : key_at d.place kind.type title ≡ key_at d.place other_kind.type other_title
  pub differ : same_instance p s q t ≡ false

-- two nested deployments of a scope have one key
pub record ShareNestedKey (d : Deployment) (w : World) (p : Position) (s t : Step) : Type 0 where
  pub kind : Kind
  pub other_kind : Kind
  pub title : List ℕ
  pub other_title : List ℕ
  pub is_nested : IsNested (kinds d) w p s kind title
  pub other_is_nested : IsNested (kinds d) w p t other_kind other_title
  pub have_one : key_at d.place kind.type title ≡ key_at d.place other_kind.type other_title
  pub differ : same_step s t ≡ false
