-- What answers change of what is held, id by id.
use Rattle.std.proofs.Common.{◌≡◌, ◌⊎◌, inl, inr, ℕ, Bool, true, false, List, [], ◌∷◌, Option, Some, None}
use Rattle.std.proofs.Common.{refl, sym, ap, subst, ◌∙◌, bytes_eq}
use Rattle.std.specs.Prelude.{if◌then◌else◌}
use Rattle.std.proofs.lemmas.Slice.Eq.{bytes_eq-Decides}
use Rattle.foundation.proofs.Words.{word_eq}
use Rattle.foundation.proofs.Choices.{if_true}
use Rattle.arm_value.specs.Json.{Json}
use Rattle.arm_value.specs.Look.{fold}
use Rattle.arm_ids.specs.Id.{HasKey}
use Rattle.arm_ids.specs.Held.{HeldResource, find, IsInOrder, HaveKeys}
use Rattle.arm_ids.proofs.HeldLemmas.{IsInOrder-put, IsInOrder-without, HaveKeys-put, HaveKeys-without}
use Rattle.arm_ids.proofs.HeldLemmas.{find-put, find-without}
use Rattle.provider_trait.specs.declared.answer.Answer.{Answer}
use Rattle.provider_trait.specs.declared.answer.Answer.TheVariants.{Stored, Gone, Refused}
use Rattle.plan_cells.specs.Children.{Has}
use Rattle.deploy_histories.specs.Planned.{Planned}
use Rattle.deploy_histories.specs.Answers.{Noted}
use Rattle.deploy_histories.specs.Outcome.{Target, target_of, held_by_answer, held_after}

-- a resource is put at an id, or what is held there is removed
pub record Effect : Type 0 where
  pub id : List ℕ
  pub now : Option HeldResource

abbrev pub put_effect : HeldResource → Effect
put_effect r = record { id = fold r.id; now = Some r }

abbrev pub gone_effect : List ℕ → Effect
gone_effect id = record { id = fold id; now = None }

-- what an answer changes
abbrev pub effect : Option Target → Json → Answer → Option Effect
effect (Some g) body (Stored j) =
    Some (put_effect (record { id = g.id; api = g.api; body = body; state = j }))
effect (Some g) body Gone = Some (gone_effect g.id)
effect (Some g) body (Refused code) = None
effect None body a = None

abbrev pub effect_of : Planned → Noted → Option Effect
effect_of x n = effect (target_of x n.task) n.body n.answer

-- what is found at an id after an effect
abbrev pub found_by : List ℕ → Option Effect → Option HeldResource → Option HeldResource
found_by t None found = found
found_by t (Some e) found = if bytes_eq t e.id then e.now else found

found_step : (t : List ℕ) (o : Option Target) (body : Json) (a : Answer) (rs : List HeldResource) → IsInOrder rs
    → find t (held_by_answer o body a rs) ≡ found_by t (effect o body a) (find t rs)
found_step t (Some g) body (Stored j) rs h =
    find-put t (record { id = g.id; api = g.api; body = body; state = j }) rs
found_step t (Some g) body Gone rs h = find-without (fold g.id) t rs h
found_step t (Some g) body (Refused code) rs h = refl
found_step t None body (Stored j) rs h = refl
found_step t None body Gone rs h = refl
found_step t None body (Refused code) rs h = refl

order_step : (o : Option Target) (body : Json) (a : Answer) (rs : List HeldResource) → IsInOrder rs
    → IsInOrder (held_by_answer o body a rs)
order_step (Some g) body (Stored j) rs h =
    IsInOrder-put (record { id = g.id; api = g.api; body = body; state = j }) rs h
order_step (Some g) body Gone rs h = IsInOrder-without (fold g.id) rs h
order_step (Some g) body (Refused code) rs h = h
order_step None body (Stored j) rs h = h
order_step None body Gone rs h = h
order_step None body (Refused code) rs h = h

-- what is put has the id of a key
abbrev pub PutsKeys : Option Effect → Type 0
PutsKeys o = (e : Effect) (r : HeldResource) → o ≡ Some e → e.now ≡ Some r → HasKey r.id

keys_step : (o : Option Target) (body : Json) (a : Answer) (rs : List HeldResource) → PutsKeys (effect o body a)
    → HaveKeys rs → HaveKeys (held_by_answer o body a rs)
keys_step (Some g) body (Stored j) rs k h =
    let r : HeldResource = record { id = g.id; api = g.api; body = body; state = j } in
    HaveKeys-put r rs (k (put_effect r) r refl refl) h
keys_step (Some g) body Gone rs k h = HaveKeys-without (fold g.id) rs h
keys_step (Some g) body (Refused code) rs k h = h
keys_step None body (Stored j) rs k h = h
keys_step None body Gone rs k h = h
keys_step None body (Refused code) rs k h = h

pub order_after : (x : Planned) (ns : List Noted) (rs : List HeldResource) → IsInOrder rs
    → IsInOrder (held_after x ns rs)
order_after x [] rs h = h
order_after x (n ∷ ns) rs h = order_after x ns _ (order_step (target_of x n.task) n.body n.answer rs h)

pub keys_after : (x : Planned) (ns : List Noted) (rs : List HeldResource)
    → ((n : Noted) → Has n ns → PutsKeys (effect_of x n)) → HaveKeys rs → HaveKeys (held_after x ns rs)
keys_after x [] rs k h = h
keys_after x (n ∷ ns) rs k h =
    keys_after x ns _ (λ m i. k m (inr i))
    (keys_step (target_of x n.task) n.body n.answer rs (k n (inl refl)) h)

-- ---- what is found in the end

-- each effect at the id leaves this
abbrev pub Leaves : List ℕ → Option HeldResource → Option Effect → Type 0
Leaves t v o = (e : Effect) → o ≡ Some e → e.id ≡ t → e.now ≡ v

-- there is an effect at the id
abbrev pub Reaches : List ℕ → Option Effect → Type 0
Reaches t o = (e : Effect) × ((o ≡ Some e) × (e.id ≡ t))

if_leaves : {A : Type 0} (b : Bool) (a f v : A) → (b ≡ true → a ≡ v) → f ≡ v → (if b then a else f) ≡ v
if_leaves true a f v h e = h refl
if_leaves false a f v h e = e

found_still : (t : List ℕ) (v found : Option HeldResource) (o : Option Effect) → Leaves t v o → found ≡ v
    → found_by t o found ≡ v
found_still t v found None h e = e
found_still t v found (Some f) h e =
    if_leaves (bytes_eq t f.id) f.now found v (λ b. h f refl (sym ((bytes_eq-Decides t f.id).0 b))) e

found_now : (t : List ℕ) (v found : Option HeldResource) (o : Option Effect) → Leaves t v o → Reaches t o
    → found_by t o found ≡ v
found_now t v found o h r =
    ap (λ q. found_by t q found) r.1.0
    ∙ (if_true (bytes_eq t r.0.id) r.0.now found (word_eq t r.0.id (sym r.1.1)) ∙ h r.0 r.1.0 r.1.1)

-- an answer with an effect at the id
abbrev pub IsReached : Planned → List ℕ → List Noted → Type 0
IsReached x t ns = (n : Noted) × (Has n ns × Reaches t (effect_of x n))

-- where each effect at an id leaves the same, and this is held before or there is such an effect, it is held after
pub found_after : (x : Planned) (t : List ℕ) (v : Option HeldResource) (ns : List Noted) (rs : List HeldResource)
    → IsInOrder rs → ((n : Noted) → Has n ns → Leaves t v (effect_of x n)) → (find t rs ≡ v) ⊎ IsReached x t ns
    → find t (held_after x ns rs) ≡ v
found_after x t v [] rs order all h = elim h [ inl e ↦ e | inr r ↦ absurd r.1.0 ]
found_after x t v (n ∷ ns) rs order all h =
    found_after x t v ns (held_by_answer (target_of x n.task) n.body n.answer rs)
    (order_step (target_of x n.task) n.body n.answer rs order) (λ m i. all m (inr i))
    (elim h [
      | inl e ↦ inl (step ∙ found_still t v (find t rs) (effect_of x n) (all n (inl refl)) e)
      | inr r ↦ by_head r (r.1.0)
    ])
  where
    step : find t (held_by_answer (target_of x n.task) n.body n.answer rs) ≡ found_by t (effect_of x n) (find t rs)
    step = found_step t (target_of x n.task) n.body n.answer rs order

    by_head : (r : IsReached x t (n ∷ ns)) → (n ≡ r.0) ⊎ Has r.0 ns
        → (find t (held_by_answer (target_of x n.task) n.body n.answer rs) ≡ v) ⊎ IsReached x t ns
    by_head r (inl e) =
        inl (step ∙ found_now t v (find t rs) (effect_of x n) (all n (inl refl))
        (subst (λ m. Reaches t (effect_of x m)) (sym e) r.1.1))
    by_head r (inr i) = inr (r.0, (i, r.1.1))
