-- No seat has an open job at the beginning.
use Rattle.std.proofs.Common.{◌≡◌, ℕ, zero, suc, refl, ap, length, replicate, None}
use Rattle.driver_loop.specs.OpenJobs.{open_at}

pub replicate_length : {A : Type 0} (n : ℕ) (x : A) → length (replicate n x) ≡ n
replicate_length zero x = refl
replicate_length (suc n) x = ap suc (replicate_length n x)

pub none_open : (n k : ℕ) → open_at (replicate n None) k ≡ None
none_open zero k = refl
none_open (suc n) zero = refl
none_open (suc n) (suc k) = none_open n k
