-- The first lock that is so, and none that is.
use Rattle.std.proofs.Common.{◌≡◌, ◌<◌, ◌≤◌, ◌+◌, ℕ, Bool, true, false, List, Option, None, Some, [], ◌∷◌, ◌++◌, length}
use Rattle.std.proofs.Common.{get_or, take, drop, set, suc}
use Rattle.std.proofs.Common.{refl, sym, ap, ◌∙◌, subst}
use Rattle.std.specs.Option.{MatchOption}
use Rattle.std.proofs.lemmas.List.{set-get_or, set_split, take_more, take_all}
use Rattle.arm_ids.specs.Scope.{Covers}
use Rattle.arm_ids.specs.declared.id.ResourceId.{ResourceId}
use Rattle.lock_rules.specs.Levels.{forbids_put, forbids_deletion}
use Rattle.lock_rules.specs.Rules.{NoneOf, IsFirst, CoversKey, CoversAt, IsEffective, Forbids, IsForbidding}
use Rattle.lock_rules.specs.declared.level.Level.{Level}
use Rattle.lock_rules.specs.declared.level.Level.TheVariants.{CanNotDelete, ReadOnly}
use Rattle.lock_rules.specs.declared.lock.Lock.{Lock}

-- ---- any property of locks

pub none-push : (P : Lock → Type 0) (locks : List Lock) (lock : Lock) → NoneOf P locks → (P lock → ⊥)
    → NoneOf P (locks ++ lock ∷ [])
none-push P [] lock h n = (n, tt)
none-push P (l ∷ locks) lock h n = (h.0, none-push P locks lock h.1 n)

-- one lock further
pub none_more : (P : Lock → Type 0) (locks : List Lock) (i : ℕ) (lock : Lock) → i < length locks
    → lock ≡ get_or locks i lock → NoneOf P (take i locks) → (P lock → ⊥) → NoneOf P (take (i + 1) locks)
none_more P locks i lock h e none n =
    subst (NoneOf P) (sym (take_more locks i lock h ∙ ap (λ l. take i locks ++ l ∷ []) (sym e)))
    (none-push P (take i locks) lock none n)

-- no lock is left
pub none_all : (P : Lock → Type 0) (locks : List Lock) (i : ℕ) → length locks ≤ i → NoneOf P (take i locks)
    → NoneOf P locks
none_all P locks i h none = subst (NoneOf P) (take_all i locks h) none

-- the lock at a place is the first, where none is before it
pub first_here : (P : Lock → Type 0) (locks : List Lock) (i : ℕ) (lock : Lock) → i < length locks
    → lock ≡ get_or locks i lock → NoneOf P (take i locks) → P lock → IsFirst P locks lock
first_here P locks i lock h e none here = record {
  front = take i locks;
  rest = drop (suc i) locks;
  is =
      sym (set-get_or locks i lock) ∙ ap (set locks i) (sym e) ∙ set_split locks i lock h;
  here = here;
  before = none;
}

none_weaker : (P Q : Lock → Type 0) (locks : List Lock) → ((lock : Lock) → Q lock → P lock) → NoneOf P locks
    → NoneOf Q locks
none_weaker P Q [] f h = tt
none_weaker P Q (l ∷ locks) f h = ((λ q. h.0 (f l q)), none_weaker P Q locks f h.1)

-- ---- levels

not_both : (level : Level) → level ≡ ReadOnly → level ≡ CanNotDelete → ⊥
not_both level r c = cc

only_read_only : (level : Level) → forbids_put level ≡ true → level ≡ ReadOnly
only_read_only CanNotDelete e = absurd (cc)
only_read_only ReadOnly e = refl

all_forbid : (level : Level) → forbids_deletion level ≡ true
all_forbid CanNotDelete = refl
all_forbid ReadOnly = refl

covers_none : (key : ResourceId) (lock : Lock) (level : Level) → lock.level ≡ level → (CoversAt ReadOnly key lock → ⊥)
    → (CoversAt CanNotDelete key lock → ⊥) → Covers lock.scope key → ⊥
covers_none key lock CanNotDelete e r c covers = c (covers, e)
covers_none key lock ReadOnly e r c covers = r (covers, e)

-- where no lock of either level covers the key, none does
pub none_covers : (locks : List Lock) (key : ResourceId) → NoneOf (CoversAt ReadOnly key) locks
    → NoneOf (CoversAt CanNotDelete key) locks → NoneOf (CoversKey key) locks
none_covers [] key r c = tt
none_covers (l ∷ locks) key r c = (covers_none key l l.level refl r.0 c.0, none_covers locks key r.1 c.1)

pub effective_by : (locks : List Lock) (key : ResourceId) (lock : Lock) (level : Level)
    → IsFirst (CoversAt level key) locks lock → (level ≡ CanNotDelete → NoneOf (CoversAt ReadOnly key) locks)
    → IsEffective locks key lock
effective_by locks key lock level first most =
    let same = first.here.1 in
    record {
      first = subst (λ l. IsFirst (CoversAt l key) locks lock) (sym same) first;
      most =
          λ e. most (sym same ∙ e);
    }

pub effective_read_only : (locks : List Lock) (key : ResourceId) (lock : Lock)
    → IsFirst (CoversAt ReadOnly key) locks lock → IsEffective locks key lock
effective_read_only locks key lock first =
    effective_by locks key lock ReadOnly first (λ e. absurd (not_both ReadOnly refl e))

-- the lock that decides, where no lock that covers the key is ReadOnly
pub effective_rest : {X : Type 0} (now : X → Lock) (locks : List Lock) (key : ResourceId) (o : Option X)
    → NoneOf (CoversAt ReadOnly key) locks
    → MatchOption o (NoneOf (CoversAt CanNotDelete key) locks)
    (λ x. IsFirst (CoversAt CanNotDelete key) locks (now x))
    → MatchOption o (NoneOf (CoversKey key) locks) (λ x. IsEffective locks key (now x))
effective_rest now locks key None none found = none_covers locks key none found
effective_rest now locks key (Some x) none found =
    effective_by locks key (now x) CanNotDelete found (λ e. none)

pub put_forbidden : (locks : List Lock) (key : ResourceId) (lock : Lock)
    → IsFirst (CoversAt ReadOnly key) locks lock → IsForbidding forbids_put locks key lock
put_forbidden locks key lock first = (effective_read_only locks key lock first, ap forbids_put first.here.1)

pub put_free : (locks : List Lock) (key : ResourceId) → NoneOf (CoversAt ReadOnly key) locks
    → NoneOf (Forbids forbids_put key) locks
put_free locks key none =
    none_weaker (CoversAt ReadOnly key) (Forbids forbids_put key) locks (λ lock f. (f.0, only_read_only lock.level f.1))
    none

pub deletion_forbidden : (locks : List Lock) (key : ResourceId) (lock : Lock) → IsEffective locks key lock
    → IsForbidding forbids_deletion locks key lock
deletion_forbidden locks key lock e = (e, all_forbid lock.level)

pub deletion_free : (locks : List Lock) (key : ResourceId) → NoneOf (CoversKey key) locks
    → NoneOf (Forbids forbids_deletion key) locks
deletion_free locks key none =
    none_weaker (CoversKey key) (Forbids forbids_deletion key) locks (λ lock f. f.0) none
