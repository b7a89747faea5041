-- Two of a list of keys that are the same.
use Rattle.std.specs.Prelude.{◌≡◌, ◌<◌, ℕ, List, slice_get, Some}
use Rattle.arm_ids.specs.declared.id.ResourceId.{ResourceId}

-- the keys at two places are the same, the lower place first
pub record AreSame (keys : List ResourceId) (i j : ℕ) : Type 0 where
  pub below : i < j
  pub key : ResourceId
  pub is_first : slice_get keys i ≡ Some key
  pub is_second : slice_get keys j ≡ Some key
