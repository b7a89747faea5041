-- What is held when a deployment begins.
use Rattle.std.specs.Prelude.{◌≡◌, false}
use Rattle.arm_ids.specs.Segments.{has_slash}
use Rattle.arm_ids.specs.Held.{IsInOrder, HaveKeys}
use Rattle.arm_ids.specs.declared.id.Place.{Place}
use Rattle.deploy_histories.specs.Planned.{Planned}

-- neither the subscription nor the group of a place has a slash
pub record IsPlainPlace (place : Place) : Type 0 where
  pub subscription : has_slash place.subscription ≡ false
  pub group : has_slash place.group ≡ false

-- what is held is in the order of its ids, each is the id of a key, and ids in the place can be read back
pub record IsOpening (x : Planned) : Type 0 where
  pub in_order : IsInOrder x.held
  pub have_keys : HaveKeys x.held
  pub is_plain : IsPlainPlace x.deployment.place
