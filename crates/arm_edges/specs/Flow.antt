-- Bytes that come in and go out.
use Rattle.std.specs.Prelude.{◌≡◌, ℕ, ◌<◌, List, [], ◌++◌, length, take}

-- a read moved n bytes from the front of what is yet to come to the front of the buffer; none in a buffer that is not
-- empty only at the end
pub record Moved (n : ℕ) (before after buf : List ℕ) : Type 0 where
  pub bytes : before ≡ take n buf ++ after
  pub ends : n ≡ 0 → 0 < length buf → before ≡ []
