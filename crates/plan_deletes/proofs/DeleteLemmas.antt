-- Deletes, one after another.
use Rattle.std.proofs.Common.{◌≡◌, ℕ, zero, suc, ◌+◌, ◌<◌, ◌≤◌, Bool, true, false, List}
use Rattle.std.proofs.Common.{[], ◌∷◌, ◌++◌, map, length}
use Rattle.std.proofs.Common.{drop, Option, Some, None, refl, sym, ap, ap₂, ◌∙◌, arith, append_assoc, append-nil}
use Rattle.std.proofs.Common.{bytes_eq}
use Rattle.std.proofs.lemmas.List.{map-append}
use Rattle.std.specs.Prelude.{slice_get, ◌&&◌, if◌then◌else◌}
use Rattle.foundation.proofs.Lists.{got_next, nothing_left}
use Rattle.arm_value.specs.Look.{fold, is_same_folded}
use Rattle.arm_ids.specs.Held.{HeldResource}
use Rattle.arm_ids.specs.Id.{IsKey}
use Rattle.arm_ids.specs.declared.id.Place.{Place}
use Rattle.arm_ids.specs.declared.id.ResourceId.{ResourceId}
use Rattle.arm_env.specs.Find.{id_key}
use Rattle.plan_cells.specs.Tasks.{delete, is_of_group, is_deleted, delete_by, deletes}

-- the group of a key, which is in small letters
pub group_is : (place : Place) (k : ResourceId) (a b : List ℕ) → IsKey k → a ≡ place.subscription → b ≡ place.group
    → (is_same_folded a k.subscription && is_same_folded b k.group) ≡ is_of_group place k
group_is place k a b h e g =
    ap₂ (λ x y. x && y)
    (ap (λ s. is_same_folded s k.subscription) e
    ∙ ap (λ (i : ResourceId). bytes_eq (fold place.subscription) i.subscription) h.is_folded)
    (ap (λ s. is_same_folded s k.group) g
    ∙ ap (λ (i : ResourceId). bytes_eq (fold place.group) i.group) h.is_folded)

-- a key that is listed where it is wanted
pub wanted_listed : (place : Place) (ks : List ResourceId) (k : ResourceId) (b : Bool) (old new : List ResourceId)
    → b ≡ is_deleted place ks k → new ≡ old ++ (if b then k ∷ [] else [])
    → map delete new ≡ map delete old ++ delete_by place ks (Some k)
wanted_listed place ks k b old new e h =
    ap (map delete) h ∙ map-append delete old (if b then k ∷ [] else []) ∙ ap (λ xs. map delete old ++ xs) (as_tasks b)
    ∙ ap (λ c. map delete old ++ (if c then delete k ∷ [] else [])) e
  where
    as_tasks : (c : Bool) → map delete (if c then k ∷ [] else []) ≡ (if c then delete k ∷ [] else [])
    as_tasks true = refl
    as_tasks false = refl

pub none_listed : (place : Place) (ks : List ResourceId) (old : List ResourceId) (o : Option ResourceId) → o ≡ None
    → map delete old ≡ map delete old ++ delete_by place ks o
none_listed place ks old o e =
    sym (append-nil (map delete old)) ∙ ap (λ x. map delete old ++ delete_by place ks x) (sym e)

-- with the deletes of what is held from a place on, the list is that of all
abbrev pub DeletesLeft : Place → List ResourceId → List HeldResource → List ResourceId → ℕ → Type 0
DeletesLeft place ks held found i =
    map delete found ++ deletes place ks (drop i held) ≡ deletes place ks held

get_there : (hs : List HeldResource) (i : ℕ) → i < length hs → (h : HeldResource) × (slice_get hs i ≡ Some h)
get_there [] i l = absurd (omega (arith, l))
get_there (x ∷ hs) zero l = (x, refl)
get_there (x ∷ hs) (suc i) l = get_there hs i (omega (arith, l))

pub deletes_more : (place : Place) (ks : List ResourceId) (held : List HeldResource) (i : ℕ)
    (found new : List ResourceId) → i < length held
    → ((h : HeldResource) → slice_get held i ≡ Some h
    → map delete new ≡ map delete found ++ delete_by place ks (id_key h.id))
    → DeletesLeft place ks held found i → DeletesLeft place ks held new (i + 1)
deletes_more place ks held i found new l a c =
    let h = get_there held i l in
    ap (λ xs. xs ++ deletes place ks (drop (i + 1) held)) (a h.0 h.1)
    ∙ append_assoc (map delete found) (delete_by place ks (id_key h.0.id)) (deletes place ks (drop (i + 1) held))
    ∙ ap (λ (j : ℕ). map delete found ++ (delete_by place ks (id_key h.0.id) ++ deletes place ks (drop j held)))
    (let z : i + 1 ≡ suc i = omega arith in z)
    ∙ ap (λ hs. map delete found ++ deletes place ks hs) (sym (got_next held i h.0 h.1)) ∙ c

pub deletes_end : (place : Place) (ks : List ResourceId) (held : List HeldResource) (i : ℕ) (found : List ResourceId)
    → length held ≤ i → DeletesLeft place ks held found i → map delete found ≡ deletes place ks held
deletes_end place ks held i found h c =
    sym (append-nil (map delete found))
    ∙ ap (λ hs. map delete found ++ deletes place ks hs) (sym (nothing_left held i h)) ∙ c
