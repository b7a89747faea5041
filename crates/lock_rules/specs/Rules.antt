-- What locks forbid (Microsoft Learn: lock your resources to protect your infrastructure).
use Rattle.std.specs.Prelude.{◌≡◌, ◌⊎◌, ℕ, Bool, true, List, [], ◌∷◌, ◌++◌}
use Rattle.arm_ids.specs.Scope.{Covers, CoversGroup, IsInGroup}
use Rattle.arm_ids.specs.declared.id.ResourceId.{ResourceId}
use Rattle.lock_rules.specs.declared.level.Level.{Level}
use Rattle.lock_rules.specs.declared.level.Level.TheVariants.{CanNotDelete, ReadOnly}
use Rattle.lock_rules.specs.declared.lock.Lock.{Lock}

-- none of the locks is so
abbrev pub NoneOf : (Lock → Type 0) → List Lock → Type 0
NoneOf P [] = Unit {0}
NoneOf P (lock ∷ locks) = (P lock → ⊥) × NoneOf P locks

-- the lock is the first that is so
pub record IsFirst (P : Lock → Type 0) (locks : List Lock) (lock : Lock) : Type 0 where
  pub front : List Lock
  pub rest : List Lock
  pub is : locks ≡ front ++ lock ∷ rest
  pub here : P lock
  pub before : NoneOf P front

-- a lock covers the key of a resource
abbrev pub CoversKey : ResourceId → Lock → Type 0
CoversKey key lock = Covers lock.scope key

-- a lock of this level covers the key
abbrev pub CoversAt : Level → ResourceId → Lock → Type 0
CoversAt level key lock = Covers lock.scope key × (lock.level ≡ level)

-- the lock that decides about a key: of those that cover it, the first of the most restrictive level
pub record IsEffective (locks : List Lock) (key : ResourceId) (lock : Lock) : Type 0 where
  pub first : IsFirst (CoversAt lock.level key) locks lock
  pub most : lock.level ≡ CanNotDelete → NoneOf (CoversAt ReadOnly key) locks

-- a lock covers the key, and its level forbids what is asked
abbrev pub Forbids : (Level → Bool) → ResourceId → Lock → Type 0
Forbids forbids key lock = Covers lock.scope key × (forbids lock.level ≡ true)

-- the lock that forbids what is asked: the one that decides, where its level forbids it
abbrev pub IsForbidding : (Level → Bool) → List Lock → ResourceId → Lock → Type 0
IsForbidding forbids locks key lock = IsEffective locks key lock × (forbids lock.level ≡ true)

-- a lock forbids that a group is deleted: it covers the group, or it lies in the group
abbrev pub ForbidsGroup : List ℕ → List ℕ → Lock → Type 0
ForbidsGroup subscription group lock =
    CoversGroup lock.scope subscription group ⊎ IsInGroup lock.scope subscription group
