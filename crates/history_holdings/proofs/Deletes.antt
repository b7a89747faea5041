-- What complete mode deletes, and what is found among what is held.
use Rattle.std.proofs.Common.{◌≡◌, inl, inr, ℕ, zero, suc, Bool, true, false, List, [], ◌∷◌, Option, Some, None}
use Rattle.std.proofs.Common.{refl, sym, ap, subst, ◌∙◌, bytes_eq}
use Rattle.std.specs.Prelude.{slice_get, if◌then◌else◌}
use Rattle.std.proofs.lemmas.Slice.Eq.{bytes_eq-Decides}
use Rattle.std.proofs.lemmas.Option.{same_Some}
use Rattle.arm_ids.specs.Id.{HasKey}
use Rattle.arm_ids.specs.Held.{HeldResource, held_by, find, HaveKeys}
use Rattle.arm_ids.specs.declared.id.Place.{Place}
use Rattle.arm_ids.specs.declared.id.ResourceId.{ResourceId}
use Rattle.arm_env.specs.Find.{id_key}
use Rattle.plan_cells.specs.Children.{Has}
use Rattle.plan_cells.specs.Tasks.{Task, delete, is_deleted, delete_by, deletes}
use Rattle.plan_cells.proofs.ListLemmas.{has_joined, has_left, has_right}

-- ---- what is found

found_if : (b : Bool) (id : List ℕ) (r h : HeldResource) (o : Option HeldResource) → bytes_eq id (held_by r) ≡ b
    → (if b then Some r else o) ≡ Some h → (o ≡ Some h → held_by h ≡ id) → held_by h ≡ id
found_if true id r h o b e f = ap held_by (sym (same_Some r h e)) ∙ sym ((bytes_eq-Decides id (held_by r)).0 b)
found_if false id r h o b e f = f e

-- what is found by an id is held by it
pub found_same : (id : List ℕ) (rs : List HeldResource) (h : HeldResource) → find id rs ≡ Some h → held_by h ≡ id
found_same id [] h e = let f : None ≡ Some h = e in absurd (cc)
found_same id (r ∷ rs) h e =
    found_if (bytes_eq id (held_by r)) id r h (find id rs) refl e (λ f. found_same id rs h f)

has_if : (b : Bool) (r h : HeldResource) (rs : List HeldResource) (o : Option HeldResource)
    → (if b then Some r else o) ≡ Some h → (o ≡ Some h → Has h rs) → Has h (r ∷ rs)
has_if true r h rs o e f = inl (same_Some r h e)
has_if false r h rs o e f = inr (f e)

-- and is among what is held
pub found_has : (id : List ℕ) (rs : List HeldResource) (h : HeldResource) → find id rs ≡ Some h → Has h rs
found_has id [] h e = let f : None ≡ Some h = e in absurd (cc)
found_has id (r ∷ rs) h e =
    has_if (bytes_eq id (held_by r)) r h rs (find id rs) e (λ f. found_has id rs h f)

pub key_of_held : (rs : List HeldResource) (h : HeldResource) → HaveKeys rs → Has h rs → HasKey h.id
key_of_held [] h k i = absurd i
key_of_held (r ∷ rs) h k i = elim i [
  | inl e ↦ subst (λ (s : HeldResource). HasKey s.id) e k.0
  | inr j ↦ key_of_held rs h k.1 j
]

-- ---- what is deleted

-- what is held at a key that is deleted
pub record IsDeletedOf (place : Place) (puts : List ResourceId) (held : List HeldResource)
    (k : ResourceId) : Type 0 where
  pub entry : HeldResource
  pub is_held : Has entry held
  pub of_key : id_key entry.id ≡ Some k
  pub is : is_deleted place puts k ≡ true

same_delete : (k l : ResourceId) → delete l ≡ delete k → l ≡ k
same_delete k l e = cc

module _ (place : Place) (puts : List ResourceId) where
  one_delete : (b : Bool) (k l : ResourceId) → is_deleted place puts l ≡ b
      → Has (delete k) (if b then delete l ∷ [] else []) → (l ≡ k) × (is_deleted place puts k ≡ true)
  one_delete true k l e h = elim h [
    | inl f ↦ (let s = same_delete k l f in (s, ap (is_deleted place puts) (sym s) ∙ e))
    | inr i ↦ absurd i
  ]
  one_delete false k l e h = absurd h

  of_entry : (r : HeldResource) (rs : List HeldResource) (k : ResourceId) (o : Option ResourceId) → id_key r.id ≡ o
      → Has (delete k) (delete_by place puts o) → IsDeletedOf place puts (r ∷ rs) k
  of_entry r rs k None e h = absurd h
  of_entry r rs k (Some l) e h =
      let d = one_delete (is_deleted place puts l) k l refl h in
      record { entry = r; is_held = inl refl; of_key = e ∙ ap Some d.0; is = d.1 }

  later : (r : HeldResource) (rs : List HeldResource) (k : ResourceId) → IsDeletedOf place puts rs k
      → IsDeletedOf place puts (r ∷ rs) k
  later r rs k d = record { entry = d.entry; is_held = inr d.is_held; of_key = d.of_key; is = d.is }

  pub deleted_of : (held : List HeldResource) (k : ResourceId) → Has (delete k) (deletes place puts held)
      → IsDeletedOf place puts held k
  deleted_of [] k h = absurd h
  deleted_of (r ∷ rs) k h =
      elim (has_joined (delete k) (delete_by place puts (id_key r.id)) (deletes place puts rs) h) [
        | inl i ↦ of_entry r rs k (id_key r.id) refl i
        | inr i ↦ later r rs k (deleted_of rs k i)
      ]

  here : (k : ResourceId) (o : Option ResourceId) → o ≡ Some k → is_deleted place puts k ≡ true
      → Has (delete k) (delete_by place puts o)
  here k o e d =
      subst (λ q. Has (delete k) (delete_by place puts q)) (sym e)
      (subst (λ (b : Bool). Has (delete k) (if b then delete k ∷ [] else [])) (sym d) (inl refl))

  pub deletes_all : (held : List HeldResource) (h : HeldResource) (k : ResourceId) → Has h held
      → id_key h.id ≡ Some k → is_deleted place puts k ≡ true → Has (delete k) (deletes place puts held)
  deletes_all [] h k i e d = absurd i
  deletes_all (r ∷ rs) h k i e d = elim i [
    | inl f ↦
        has_left (delete k) (delete_by place puts (id_key r.id)) (deletes place puts rs)
        (here k (id_key r.id) (ap (λ (s : HeldResource). id_key s.id) f ∙ e) d)
    | inr j ↦
        has_right (delete k) (delete_by place puts (id_key r.id)) (deletes place puts rs) (deletes_all rs h k j e d)
  ]

-- ---- the number of a task

pub numbered : (ts : List Task) (t : Task) → Has t ts → (u : ℕ) × (slice_get ts u ≡ Some t)
numbered [] t h = absurd h
numbered (s ∷ ts) t h = elim h [
  | inl e ↦ (zero, (let f : slice_get (s ∷ ts) zero ≡ Some t = ap Some e in f))
  | inr i ↦ (let n = numbered ts t i in (suc n.0, (let f : slice_get (s ∷ ts) (suc n.0) ≡ Some t = n.1 in f)))
]
