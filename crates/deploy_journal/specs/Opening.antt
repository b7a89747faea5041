-- What an opening finds.
use Rattle.std.specs.Prelude.{◌≡◌, ◌≢◌, ℕ, ◌+◌, ◌≤◌, List, ◌∷◌, length, drop}
use Rattle.deploy_journal.specs.declared.open.Next.{Next}
use Rattle.deploy_journal.specs.declared.open.Next.TheVariants.{Entry, End, Cut}
use Rattle.deploy_journal.specs.declared.read.OpenFault.{OpenFault}
use Rattle.deploy_journal.specs.declared.read.OpenFault.TheVariants.{OutOfMemory, Damaged, DiskFault}
use Rattle.deploy_journal.specs.Records.{body, IsCutShort, IsDamagedAt}

-- these bytes begin with an open gate and a record, with a closed gate, or with an open gate and less than a record
abbrev pub NextMeans : Next → List ℕ → Type 0
NextMeans (Entry r) rest = rest ≡ 1 ∷ body r (drop (18 + length r.first + length r.second) rest)
NextMeans End rest = (gate : ℕ) × (k : List ℕ) × (gate ≢ 1) × (rest ≡ gate ∷ k)
NextMeans Cut rest = (cut : List ℕ) × (rest ≡ 1 ∷ cut) × IsCutShort cut

-- a record that was found ends within so many bytes
abbrev pub NextFits : ℕ → Next → Type 0
NextFits left (Entry r) = 18 + length r.first + length r.second ≤ left
NextFits left End = Unit {0}
NextFits left Cut = Unit {0}

-- where an opening answers that the file is damaged, it is
abbrev pub DamageMeans : List ℕ → OpenFault → Type 0
DamageMeans file OutOfMemory = Unit {0}
DamageMeans file (Damaged at) = IsDamagedAt file at
DamageMeans file DiskFault = Unit {0}
