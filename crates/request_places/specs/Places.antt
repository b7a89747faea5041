-- Where the deployment of a request is made. Names are their bytes in UTF-8.
use Rattle.std.specs.Prelude.{◌≡◌, ℕ, false, List, chars, codes, None}
use Rattle.arm_ids.specs.Segments.{has_slash}
use Rattle.arm_ids.specs.declared.id.Place.{Place}
use Rattle.request_names.specs.Names.{bad_name}

-- the place of a deployment in a group of the subscription, which is at `westeurope`
abbrev pub place_of : List ℕ → List ℕ → List ℕ → Place
place_of subscription group deployment = record {
  subscription = chars subscription;
  group = chars group;
  location = codes "westeurope";
  deployment = chars deployment;
}

-- neither the subscription nor the group has a slash
pub record HasNoSlash (place : Place) : Type 0 where
  pub subscription : has_slash place.subscription ≡ false
  pub group : has_slash place.group ≡ false

-- where the names are in form, the place has none
abbrev pub PlacesArePlain : Type 0
PlacesArePlain = (subscription group deployment : List ℕ) → bad_name group deployment subscription ≡ None
    → HasNoSlash (place_of subscription group deployment)
