-- A file of records, and which records it holds.
use Rattle.std.specs.Prelude.{◌≡◌, ◌≢◌, ◌⊎◌, ℕ, ◌+◌, ◌≤◌, List, [], ◌∷◌, ◌++◌, length, take, drop, codes}
use Rattle.std.specs.Int.{w64, to_be_bytes}
use Rattle.arm_edges.specs.Disk.{Parts}
use Rattle.deploy_journal.specs.declared.record.Record.{Record as Entry}

-- a record, as the code has it
abbrev pub Record : Type 0
Record = Entry

-- a length in eight bytes, the most significant first
unfoldable pub eight : ℕ → List ℕ
eight n = to_be_bytes w64 n

-- the bytes of a record after its gate, and then rest
abbrev pub body_bytes : ℕ → List ℕ → List ℕ → List ℕ → List ℕ
body_bytes kind first second rest =
    kind ∷ (eight (length first) ++ (eight (length second) ++ (first ++ (second ++ rest))))

-- the same of a record
abbrev pub body : Record → List ℕ → List ℕ
body r rest = body_bytes r.kind r.first r.second rest

-- the records, each after an open gate, and then rest
abbrev pub spelled : List Record → List ℕ → List ℕ
spelled [] rest = rest
spelled (r ∷ records) rest = 1 ∷ body r (spelled records rest)

-- these bytes at this place within the old
abbrev pub patched : ℕ → List ℕ → List ℕ → List ℕ
patched at bytes old = take at old ++ (bytes ++ drop (at + length bytes) old)

-- each file begins so
abbrev pub beginning : List ℕ
beginning = codes "armdeploy-jrnl-1"

-- the file holds these records: after them is a closed gate, at this place, and then anything
pub record Holds (records : List Record) (gate_at : ℕ) (file : List ℕ) : Type 0 where
  pub gate : ℕ
  pub rest : List ℕ
  pub closed : gate ≢ 1
  pub is : file ≡ beginning ++ spelled records (gate ∷ rest)
  pub place : gate_at ≡ 16 + length (spelled records [])

-- the file holds these records
abbrev pub HoldsRecords : List Record → List ℕ → Type 0
HoldsRecords records file = (gate_at : ℕ) × Holds records gate_at file

-- the bytes after an open gate are no record: they end too soon
abbrev pub IsCutShort : List ℕ → Type 0
IsCutShort rest = (r : Record) (k : List ℕ) → rest ≡ body r k → ⊥

-- the bytes end in the place of a gate, or inside a record
abbrev pub EndsBadly : List ℕ → Type 0
EndsBadly rest = (rest ≡ []) ⊎ ((cut : List ℕ) × (rest ≡ 1 ∷ cut) × IsCutShort cut)

-- the file holds no journal, as this place shows: it does not begin as one, or after some records it ends badly
abbrev pub IsDamagedAt : List ℕ → ℕ → Type 0
IsDamagedAt file at =
    ((at ≡ 0) × ((rest : List ℕ) → file ≡ beginning ++ rest → ⊥))
    ⊎ ((records : List Record) × (rest : List ℕ) × (file ≡ beginning ++ spelled records rest)
    × (at + length rest ≡ length file) × EndsBadly rest)

-- part B is unchanged
abbrev pub KeepsB : Parts → Parts → Type 0
KeepsB old new = new.b ≡ old.b

-- part A is unchanged up to this place, and part B is unchanged
pub record KeepsFront (n : ℕ) (old new : Parts) : Type 0 where
  pub front : n ≤ length old.a → (take n new.a ≡ take n old.a) × (n ≤ length new.a)
  pub part_b : KeepsB old new

-- each image from the old moment to the new has P, and earlier moments keep theirs
pub record Since {D : Type 0} (moment : D → ℕ) (left : D → ℕ → Parts → Type 0) (old new : D) (P : Parts
    → Type 0) : Type 0 where
  pub later : moment old ≤ moment new
  pub past : (t : ℕ) (c : Parts) → t ≤ moment old → left new t c → left old t c
  pub keeps : (t : ℕ) (c : Parts) → t ≤ moment old → left old t c → left new t c
  pub during : (t : ℕ) (c : Parts) → moment old ≤ t → t ≤ moment new → left new t c → P c

-- a record of this kind with these parts
abbrev pub record_of : ℕ → List ℕ → List ℕ → Record
record_of kind first second = record { kind = kind; first = first; second = second }

-- the file holds the records, with one more or without it
abbrev pub IsOneOf : List Record → Record → List ℕ → Type 0
IsOneOf records r file = HoldsRecords records file ⊎ HoldsRecords (records ++ r ∷ []) file
