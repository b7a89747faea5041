-- What is held after a deployment to a desired state is one list.
use Rattle.std.proofs.Common.{◌≡◌, inl, inr, ℕ, Bool, true, false, true≢false, List, [], ◌∷◌, map, Option, Some, None}
use Rattle.std.proofs.Common.{refl, sym, ap, ap₂, subst, ◌∙◌, bytes_eq, Ordering, Less, Equal, Greater}
use Rattle.std.specs.Prelude.{◌||◌, if◌then◌else◌}
use Rattle.std.specs.List.{list_any}
use Rattle.std.specs.List.Sorted.{IsStrictlySortedBy}
use Rattle.std.proofs.lemmas.Slice.Eq.{bytes_eq-Decides}
use Rattle.std.proofs.lemmas.Option.{none-some, same_Some}
use Rattle.std.proofs.lemmas.Bool.{or_right}
use Rattle.foundation.proofs.Words.{word_eq}
use Rattle.arm_ids.specs.Id.{folded_text}
use Rattle.arm_ids.specs.Held.{HeldResource, held_by, find, id_cmp, IsInOrder, AllAbove}
use Rattle.arm_ids.specs.declared.id.ResourceId.{ResourceId}
use Rattle.arm_ids.proofs.HeldLemmas.{id_exact, id_before, find_above, all_further}
use Rattle.deploy_cells.specs.Cells.{state, World}
use Rattle.deploy_cells.specs.Puts.{Kind, key_at}
use Rattle.plan_cells.specs.Meaning.{Deployment}
use Rattle.plan_cells.specs.Desired.{Satisfies}
use Rattle.plan_cells.specs.Children.{Has}
use Rattle.deploy_histories.specs.Planned.{Planned, IsPlanned}
use Rattle.deploy_histories.specs.Answers.{Noted}
use Rattle.deploy_histories.specs.Outcome.{BelongsTo, NotPutAs, IsHeldAfter}
use Rattle.history_laws.proofs.Puts.{any_has}
use Rattle.history_laws.proofs.Included.{keys_listed, one_kind}
use Rattle.history_holdings.specs.Opening.{IsOpening}
use Rattle.history_holdings.proofs.Puts.{key_put}

-- ---- lists in which the same is found are the same

first_found : (b : Bool) (r : HeldResource) (o : Option HeldResource) → b ≡ true → (if b then Some r else o) ≡ Some r
first_found b r o e = ap (λ c. if c then Some r else o) e

-- the first is found by its id
head_found : (r : HeldResource) (rs : List HeldResource) (id : List ℕ) → id ≡ held_by r → find id (r ∷ rs) ≡ Some r
head_found r rs id e = first_found (bytes_eq id (held_by r)) r (find id rs) (word_eq id (held_by r) e)

-- what is in order is above its first
order_head : (s : HeldResource) (ss : List HeldResource) → IsInOrder (s ∷ ss) → AllAbove (held_by s) (map held_by ss)
unfolding IsStrictlySortedBy
order_head s ss h = h.0

order_rest : (s : HeldResource) (ss : List HeldResource) → IsInOrder (s ∷ ss) → IsInOrder ss
unfolding IsStrictlySortedBy
order_rest s ss h = h.1

order_of : (s : HeldResource) (ss : List HeldResource) → AllAbove (held_by s) (map held_by ss) → IsInOrder ss
    → IsInOrder (s ∷ ss)
unfolding IsStrictlySortedBy
order_of s ss a h = (a, h)

-- an id below the first is not found
below_none : (id : List ℕ) (s : HeldResource) (ss : List HeldResource) → id_cmp id (held_by s) ≡ Less
    → IsInOrder (s ∷ ss) → find id (s ∷ ss) ≡ None
below_none id s ss l h =
    find_above id (s ∷ ss) (l, all_further id (held_by s) (map held_by ss) l (order_head s ss h))

rest_at : (b : Bool) (r : HeldResource) (o q : Option HeldResource) → b ≡ false
    → (if b then Some r else o) ≡ (if b then Some r else q) → o ≡ q
rest_at true r o q n e = absurd (true≢false n)
rest_at false r o q n e = e

rest_found : (r : HeldResource) (rs ss : List HeldResource) → IsInOrder (r ∷ rs) → IsInOrder (r ∷ ss)
    → ((id : List ℕ) → find id (r ∷ rs) ≡ find id (r ∷ ss)) → (id : List ℕ) → find id rs ≡ find id ss
rest_found r rs ss a b h id = by_id (bytes_eq id (held_by r)) refl
  where
    by_id : (c : Bool) → bytes_eq id (held_by r) ≡ c → find id rs ≡ find id ss
    by_id true e =
        let i : id ≡ held_by r = (bytes_eq-Decides id (held_by r)).0 e in
        ap (λ (t : List ℕ). find t rs) i
        ∙ (find_above (held_by r) rs (order_head r rs a) ∙ (sym (find_above (held_by r) ss (order_head r ss b))
        ∙ ap (λ (t : List ℕ). find t ss) (sym i)))
    by_id false e = rest_at (bytes_eq id (held_by r)) r (find id rs) (find id ss) e (h id)

pub same_lists : (rs ss : List HeldResource) → IsInOrder rs → IsInOrder ss
    → ((id : List ℕ) → find id rs ≡ find id ss) → rs ≡ ss
same_lists [] [] a b h = refl
same_lists [] (s ∷ ss) a b h = absurd (none-some s (h (held_by s) ∙ head_found s ss (held_by s) refl))
same_lists (r ∷ rs) [] a b h = absurd (none-some r (sym (h (held_by r)) ∙ head_found r rs (held_by r) refl))
same_lists (r ∷ rs) (s ∷ ss) a b h =
    by_order (id_cmp (held_by r) (held_by s)) refl (λ ts c g. same_lists rs ts (order_rest r rs a) c g)
  where
    by_order : (o : Ordering) → id_cmp (held_by r) (held_by s) ≡ o
        → ((ts : List HeldResource) → IsInOrder ts → ((id : List ℕ) → find id rs ≡ find id ts) → rs ≡ ts)
        → (r ∷ rs) ≡ (s ∷ ss)
    by_order Less e more =
        absurd (none-some r (sym (below_none (held_by r) s ss e b)
        ∙ (sym (h (held_by r)) ∙ head_found r rs (held_by r) refl)))
    by_order Greater e more =
        absurd (none-some s (sym (below_none (held_by s) r rs (id_before (held_by r) (held_by s) e) a)
        ∙ (h (held_by s) ∙ head_found s ss (held_by s) refl)))
    by_order Equal e more =
        let i : held_by r ≡ held_by s = id_exact (held_by r) (held_by s) e in
        let one : r ≡ s
        = same_Some r s (sym (head_found r rs (held_by r) refl) ∙ (h (held_by r) ∙ head_found s ss (held_by r) i)) in
        ap₂ (λ t ts. t ∷ ts) one
        (more ss (order_rest s ss b)
        (rest_found r rs ss a
        (order_of r ss
        (subst (λ (t : HeldResource). AllAbove (held_by t) (map held_by ss)) (sym one) (order_head s ss b))
        (order_rest s ss b))
        (λ id. h id ∙ ap (λ (t : HeldResource). find id (t ∷ ss)) (sym one))))

-- ---- each id is that of a put, or of none

module _ (x : Planned) (planned : IsPlanned x) (opening : IsOpening x) (w : World)
    (sat : Satisfies x.deployment x.held w) (ns : List Noted) (belongs : BelongsTo x w ns)
    (a b : List HeldResource) (i : IsHeldAfter x.deployment x.mode x.held w a)
    (j : IsHeldAfter x.deployment x.mode x.held w b) where
  abbrev d : Deployment
  d = x.deployment

  abbrev is_at : List ℕ → ResourceId → Bool
  is_at id k = bytes_eq (folded_text k) id

  some_key : (id : List ℕ) (ks : List ResourceId) → list_any (is_at id) ks ≡ true
      → (k : ResourceId) × (Has k ks × (is_at id k ≡ true))
  some_key id [] e = absurd (true≢false (sym e))
  some_key id (k ∷ ks) e = by_first (is_at id k) refl e (λ f. some_key id ks f)
    where
      by_first : (c : Bool) → is_at id k ≡ c → (c || list_any (is_at id) ks) ≡ true
          → (list_any (is_at id) ks ≡ true → (l : ResourceId) × (Has l ks × (is_at id l ≡ true)))
          → (l : ResourceId) × (Has l (k ∷ ks) × (is_at id l ≡ true))
      by_first true f g more = (k, (inl refl, f))
      by_first false f g more = let m = more g in (m.0, (inr m.1.0, m.1.1))

  at_key : (id : List ℕ) (k : ResourceId) (ks : List ResourceId) → Has k ks → is_at id k ≡ true
      → list_any (is_at id) ks ≡ true
  at_key id k [] h e = absurd h
  at_key id k (l ∷ ks) h e = elim h [
    | inl f ↦ ap (λ (c : Bool). c || list_any (is_at id) ks) (ap (is_at id) f ∙ e)
    | inr m ↦ or_right (is_at id l) (list_any (is_at id) ks) (at_key id k ks m e)
  ]

  of_put : (id : List ℕ) (k : ResourceId) → Has k x.keys → is_at id k ≡ true → find id a ≡ find id b
  of_put id k h e =
      let q = key_put x planned opening w sat k h in
      let body = sat.have_bodies q.at q.instance q.kind q.title q.is_put in
      let n = belongs.each_put q.at q.instance q.kind q.title q.is_put in
      let z = n.1.1.is_put_as in
      let o = one_kind x planned w sat.is_world q.at q.instance z.kind q.kind z.title q.title z.is_put q.is_put in
      let stored : w (state (key_at d.place q.kind.type q.title)) ≡ Some n.1.1.stored
      = sym (ap₂ (λ (c : Kind) (t : List ℕ). w (state (key_at d.place c.type t))) o.0 o.1) ∙ z.has_state in
      let text : folded_text (key_at d.place q.kind.type q.title) ≡ id
      = ap folded_text q.has_key ∙ (bytes_eq-Decides (folded_text k) id).0 e in
      ap (λ (t : List ℕ). find t a) (sym text)
      ∙ (i.put_in q.at q.instance q.kind q.title body.0 n.1.1.stored q.is_put body.1 stored
      ∙ (sym (j.put_in q.at q.instance q.kind q.title body.0 n.1.1.stored q.is_put body.1 stored)
      ∙ ap (λ (t : List ℕ). find t b) text))

  not_put : (id : List ℕ) → list_any (is_at id) x.keys ≡ false → NotPutAs d w id
  not_put id e p s k n put same =
      let key : ResourceId = key_at d.place k.type n in
      let h = any_has key x.keys
      (keys_listed x planned w sat.is_world key
      (record { at = p; instance = s; kind = k; title = n; is_put = put; has_key = refl })) in
      true≢false (sym (at_key id key x.keys h ((bytes_eq-Decides (folded_text key) id).1 same)) ∙ e)

  by_key : (id : List ℕ) (c : Bool) → list_any (is_at id) x.keys ≡ c → find id a ≡ find id b
  by_key id true e = let k = some_key id x.keys e in of_put id k.0 k.1.0 k.1.1
  by_key id false e = let never = not_put id e in i.others id never ∙ sym (j.others id never)

  pub one : a ≡ b
  one = same_lists a b i.in_order j.in_order (λ id. by_key id (list_any (is_at id) x.keys) refl)
