-- What the calls of a disk do to its two parts, and what a crash leaves between two syncs.
use Rattle.std.specs.Prelude.{◌<◌, ◌^◌, ◌≡◌, ℕ, ◌+◌, ◌-◌, ◌≤◌, min, max, List, [], ◌∷◌, ◌++◌, length, take, drop}
use Rattle.std.specs.Prelude.{replicate}
use Rattle.std.proofs.Common.{lit<}
use Rattle.arm_edges.specs.declared.disk.Part.{Part}
use Rattle.arm_edges.specs.declared.disk.Part.TheVariants.{A, B}

-- the bytes of both parts
pub record Parts : Type 0 where
  pub a : List ℕ
  pub b : List ℕ

-- the bytes of a part
abbrev pub on : Part → Parts → List ℕ
on A parts = parts.a
on B parts = parts.b

-- of two things, the one of that part
abbrev pub of_part : {T : Type 0} → Part → T → T → T
of_part A a b = a
of_part B a b = b

-- the part that is not meant
abbrev pub other : Part → Part
other A = B
other B = A

-- cut to n bytes, or filled up to n bytes with zeros
abbrev pub resized : ℕ → List ℕ → List ℕ
resized n old = take n old ++ replicate (n - length old) 0

-- with these bytes at that place; a gap before them is filled with zeros, and a write of nothing changes nothing
abbrev pub overwritten : ℕ → List ℕ → List ℕ → List ℕ
overwritten at [] old = old
overwritten at (byte ∷ bytes) old = resized at old ++ (byte ∷ bytes ++ drop (at + length (byte ∷ bytes)) old)

-- a write of n bytes at a place that may be on the disk in part: any bytes in its range and past the old end, up to
-- any place, and the same elsewhere
pub record Torn (at n : ℕ) (old new : List ℕ) : Type 0 where
  pub before : take (min at (length old)) new ≡ take at old
  pub after : take (length old - (at + n)) (drop (at + n) new) ≡ drop (at + n) old
  pub no_shorter : length old ≤ length new

-- a cut that may be on the disk in part: the same before the cut, and any bytes past it, up to any place
pub record Cut (n : ℕ) (old new : List ℕ) : Type 0 where
  pub before : take (min n (length old)) new ≡ take n old
  pub no_shorter : min n (length old) ≤ length new

-- one part changes so, and the other does not
pub record At (part : Part) (step : List ℕ → List ℕ → Type 0) (old new : Parts) : Type 0 where
  pub here : step (on part old) (on part new)
  pub there : on (other part) new ≡ on (other part) old

-- nothing changes
abbrev pub Unchanged : Parts → Parts → Type 0
Unchanged old new = new ≡ old

-- what a crash at an earlier moment may leave stays; a crash from the old moment on leaves what one at the old moment
-- may leave, after that step
pub record GoesOn {D : Type 0} (moment : D → ℕ) (left : D → ℕ → Parts → Type 0) (step : Parts → Parts → Type 0)
    (old new : D) : Type 0 where
  pub later : moment old ≤ moment new
  pub past : (t : ℕ) (image : Parts) → t ≤ moment old → left new t image → left old t image
  pub keeps : (t : ℕ) (image : Parts) → t ≤ moment old → left old t image → left new t image
  pub during : (t : ℕ) (image : Parts) → moment old ≤ t → t ≤ moment new → left new t image → (before : Parts)
      × left old (moment old) before × step before image

-- a read of n bytes at a place, into the front of a buffer; none in a buffer that is not empty only at the end
pub record ReadsAt (at n : ℕ) (file buf : List ℕ) : Type 0 where
  pub within : at + n ≤ max at (length file)
  pub bytes : take n buf ≡ take n (drop at file)
  pub ends : n ≡ 0 → 0 < length buf → length file ≤ at

-- a crash leaves this part as it reads
abbrev pub IsKept : Part → Parts → (Parts → Type 0) → Type 0
IsKept part parts images = (image : Parts) → images image → on part image ≡ on part parts

-- no part is longer than this
abbrev pub AreWithin : ℕ → Parts → Type 0
AreWithin reach parts = (length parts.a ≤ reach) × (length parts.b ≤ reach)

-- the parts of a disk that reports nothing
abbrev pub no_parts : Parts
no_parts = record { a = []; b = [] }

-- the largest reach
pub largest_fits : 18446744073709551615 < 2 ^ 64
largest_fits = lit< tt
