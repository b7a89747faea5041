-- Which task comes after which by the scopes that they are in: in a template as in its program.
use Rattle.std.proofs.Common.{◌≡◌, Bool, true, false, true≢false, [], ◌∷◌, Option, Some, None, refl}
use Rattle.std.proofs.Common.{sym, ap, ◌∙◌, subst}
use Rattle.std.specs.Prelude.{◌||◌, option_and_then}
use Rattle.std.proofs.lemmas.Bool.{or_left, or_right}
use Rattle.foundation.proofs.TruthValues.{both_ways}
use Rattle.foundation.proofs.Options.{same_some}
use Rattle.arm_ids.specs.Parent.{IsParent}
use Rattle.arm_ids.specs.declared.id.ResourceId.{ResourceId}
use Rattle.deploy_cells.specs.Cells.{step, Position}
use Rattle.deploy_cells.specs.Same.{same_position}
use Rattle.deploy_cells.proofs.SameLemmas.{position_is, position_same}
use Rattle.plan_cells.specs.Meaning.{Deployment}
use Rattle.plan_cells.specs.Needs as plan
use Rattle.plan_cells.specs.Needs.{is_child}
use Rattle.plan_cells.specs.Tasks.{Task, enter, leave, put, delete}
use Rattle.cell_renaming.specs.Renaming.{Renaming, IsOneToOne, to_position}
use Rattle.cell_renaming.proofs.CellLemmas.{to-from_position}
use Rattle.cell_renaming.proofs.OptionLemmas.{of_both, of_map, of_then}
use Rattle.source_needs.specs.Orders.{scope_of, IsAfter, after_entry, after_inside, after_own_entry, after_root}
use Rattle.source_needs.specs.Orders.{after_child}
use Rattle.emitted_needs.specs.Tasks.{to_task}

-- ---- positions

module _ (r : Renaming) (i : IsOneToOne r) where
  -- a new position is that of one position
  pub one_position : (p o q : Position) → to_position r p ≡ Some q → to_position r o ≡ Some q → p ≡ o
  one_position p o q e h = same_some (sym (to-from_position r i p q e) ∙ to-from_position r i o q h)

  pub positions_same : (p o q s : Position) → to_position r p ≡ Some q → to_position r o ≡ Some s
      → same_position q s ≡ same_position p o
  positions_same p o q s e h =
      both_ways (same_position q s) (same_position p o)
      (λ k. subst (λ x. same_position p x ≡ true)
      (one_position p o q e (h ∙ ap (λ x. Some x) (sym (position_is q s k)))) (position_same p))
      (λ k. subst (λ x. same_position q x ≡ true)
      (same_some (sym e ∙ ap (to_position r) (position_is p o k) ∙ h)) (position_same q))

module _ (r : Renaming) (i : IsOneToOne r) (t : Deployment) where
  -- ---- the scope of a task

  scope_same : (u v : Task) → to_task r u ≡ Some v
      → plan.scope_of t v ≡ option_and_then (to_position r) (scope_of u)
  scope_same (put p s) v e =
      let g = of_both (to_position r p) (r.number p s.resource) (λ q m. put q (step m s.copy)) v e in
      subst (λ v. plan.scope_of t v ≡ to_position r p) g.made (sym g.first)
  scope_same (enter []) v e = subst (λ v. plan.scope_of t v ≡ None) (same_some e) refl
  scope_same (enter (s ∷ p)) v e =
      let h = of_map (to_position r (s ∷ p)) enter v e in
      let g = of_both (to_position r p) (r.number p s.resource) (λ q m. step m s.copy ∷ q) h.left h.first in
      subst (λ v. plan.scope_of t v ≡ to_position r p) h.made
      (subst (λ q. plan.scope_of t (enter q) ≡ to_position r p) g.made (sym g.first))
  scope_same (leave []) v e = subst (λ v. plan.scope_of t v ≡ None) (same_some e) refl
  scope_same (leave (s ∷ p)) v e =
      let h = of_map (to_position r (s ∷ p)) leave v e in
      let g = of_both (to_position r p) (r.number p s.resource) (λ q m. step m s.copy ∷ q) h.left h.first in
      subst (λ v. plan.scope_of t v ≡ to_position r p) h.made
      (subst (λ q. plan.scope_of t (leave q) ≡ to_position r p) g.made (sym g.first))
  scope_same (delete k) v e = subst (λ v. plan.scope_of t v ≡ None) (same_some e) refl

  scope_forth : (u v : Task) (p q : Position) → to_task r u ≡ Some v → to_position r p ≡ Some q
      → scope_of u ≡ Some p → plan.is_position t q (plan.scope_of t v) ≡ true
  scope_forth u v p q e h k =
      subst (λ o. plan.is_position t q o ≡ true)
      (sym (scope_same u v e ∙ ap (option_and_then (to_position r)) k ∙ h)) (position_same q)

  is_there : (q : Position) (o : Option Position) → plan.is_position t q o ≡ true → o ≡ Some q
  is_there q None e = absurd (true≢false (sym e))
  is_there q (Some s) e = ap (λ x. Some x) (sym (position_is q s e))

  scope_back : (u v : Task) (p q : Position) → to_task r u ≡ Some v → to_position r p ≡ Some q
      → plan.is_position t q (plan.scope_of t v) ≡ true → scope_of u ≡ Some p
  scope_back u v p q e h k =
      let g = of_then (scope_of u) (to_position r) q (sym (scope_same u v e) ∙ is_there q (plan.scope_of t v) k) in
      g.first ∙ ap (λ x. Some x) (one_position r i g.left p q g.made h)

  -- ---- the rules

  abbrev pub in_order : Task → Task → Bool
  in_order u v = plan.is_entered_by t u v || (plan.leaves t u v || plan.deletes_after t u v)

  entered : (u v : Task) → plan.is_entered_by t u v ≡ true → in_order u v ≡ true
  entered u v e = or_left (plan.is_entered_by t u v) (plan.leaves t u v || plan.deletes_after t u v) e

  left : (u v : Task) → plan.leaves t u v ≡ true → in_order u v ≡ true
  left u v e =
      or_right (plan.is_entered_by t u v) (plan.leaves t u v || plan.deletes_after t u v)
      (or_left (plan.leaves t u v) (plan.deletes_after t u v) e)

  deleted : (u v : Task) → plan.deletes_after t u v ≡ true → in_order u v ≡ true
  deleted u v e =
      or_right (plan.is_entered_by t u v) (plan.leaves t u v || plan.deletes_after t u v)
      (or_right (plan.leaves t u v) (plan.deletes_after t u v) e)

  -- ---- forth

  leaves_inside : (q : Position) (v : Task) → plan.is_position t q (plan.scope_of t v) ≡ true
      → plan.leaves t (leave q) v ≡ true
  leaves_inside q v e = or_left (plan.is_position t q (plan.scope_of t v)) (plan.is_entry_of t q v) e

  leaves_own : (q : Position) → plan.leaves t (leave q) (enter q) ≡ true
  leaves_own q =
      or_right (plan.is_position t q (plan.scope_of t (enter q))) (plan.is_entry_of t q (enter q)) (position_same q)

  module _ (child_forth : (k l : ResourceId) → IsParent k l → is_child t k l ≡ true) where
    pub order_forth : (u v a b : Task) → to_task r u ≡ Some a → to_task r v ≡ Some b → IsAfter u v
        → in_order a b ≡ true
    order_forth u v a b e h (after_entry p k f) =
        let g = of_map (to_position r p) enter b (ap (to_task r) (sym f) ∙ h) in
        subst (λ b. in_order a b ≡ true) g.made
        (entered a (enter g.left) (scope_forth u a p g.left e g.first k))
    order_forth u v a b e h (after_inside p f k) =
        let g = of_map (to_position r p) leave a (ap (to_task r) (sym f) ∙ e) in
        subst (λ a. in_order a b ≡ true) g.made
        (left (leave g.left) b (leaves_inside g.left b (scope_forth v b p g.left h g.first k)))
    order_forth u v a b e h (after_own_entry p f k) =
        let g = of_map (to_position r p) leave a (ap (to_task r) (sym f) ∙ e) in
        let o = of_map (to_position r p) enter b (ap (to_task r) (sym k) ∙ h) in
        let s : g.left ≡ o.left = same_some (sym g.first ∙ o.first) in
        subst (λ a. in_order a b ≡ true) g.made
        (subst (λ b. in_order (leave g.left) b ≡ true) o.made
        (left (leave g.left) (enter o.left)
        (subst (λ q. plan.leaves t (leave g.left) (enter q) ≡ true) s (leaves_own g.left))))
    order_forth u v a b e h (after_root k f g) =
        subst (λ a. in_order a b ≡ true) (same_some (ap (to_task r) (sym f) ∙ e))
        (subst (λ b. in_order (delete k) b ≡ true) (same_some (ap (to_task r) (sym g) ∙ h))
        (deleted (delete k) (leave []) refl))
    order_forth u v a b e h (after_child k l f g c) =
        subst (λ a. in_order a b ≡ true) (same_some (ap (to_task r) (sym f) ∙ e))
        (subst (λ b. in_order (delete k) b ≡ true) (same_some (ap (to_task r) (sym g) ∙ h))
        (deleted (delete k) (delete l) (child_forth k l c)))

  -- ---- back

  entered_back : (u v a b : Task) → to_task r u ≡ Some a → to_task r v ≡ Some b
      → plan.is_entered_by t a b ≡ true → IsAfter u v
  entered_back u (enter p) a b e h k =
      let g = of_map (to_position r p) enter b h in
      after_entry p
      (scope_back u a p g.left e g.first (subst (λ b. plan.is_entered_by t a b ≡ true) (sym g.made) k)) refl
  entered_back u (leave p) a b e h k =
      let g = of_map (to_position r p) leave b h in
      absurd (true≢false (sym (subst (λ b. plan.is_entered_by t a b ≡ true) (sym g.made) k)))
  entered_back u (put p s) a b e h k =
      let g = of_both (to_position r p) (r.number p s.resource) (λ q m. put q (step m s.copy)) b h in
      absurd (true≢false (sym (subst (λ b. plan.is_entered_by t a b ≡ true) (sym g.made) k)))
  entered_back u (delete l) a b e h k =
      absurd (true≢false (sym (subst (λ b. plan.is_entered_by t a b ≡ true) (sym (same_some h)) k)))

  either_of : (a b : Bool) (C : Type 0) → (a || b) ≡ true → (a ≡ true → C) → (b ≡ true → C) → C
  either_of true b C e f g = f refl
  either_of false b C e f g = g e

  own_back : (v b : Task) (p q : Position) → to_task r v ≡ Some b → to_position r p ≡ Some q
      → plan.is_entry_of t q b ≡ true → v ≡ enter p
  own_back (enter o) b p q h f k =
      let g = of_map (to_position r o) enter b h in
      let s : q ≡ g.left =
      position_is q g.left (subst (λ b. plan.is_entry_of t q b ≡ true) (sym g.made) k) in
      ap enter (one_position r i o p q (g.first ∙ ap (λ x. Some x) (sym s)) f)
  own_back (leave o) b p q h f k =
      let g = of_map (to_position r o) leave b h in
      absurd (true≢false (sym (subst (λ b. plan.is_entry_of t q b ≡ true) (sym g.made) k)))
  own_back (put o s) b p q h f k =
      let g = of_both (to_position r o) (r.number o s.resource) (λ q m. put q (step m s.copy)) b h in
      absurd (true≢false (sym (subst (λ b. plan.is_entry_of t q b ≡ true) (sym g.made) k)))
  own_back (delete l) b p q h f k =
      absurd (true≢false (sym (subst (λ b. plan.is_entry_of t q b ≡ true) (sym (same_some h)) k)))

  leaves_back : (u v a b : Task) → to_task r u ≡ Some a → to_task r v ≡ Some b → plan.leaves t a b ≡ true
      → IsAfter u v
  leaves_back (leave p) v a b e h k =
      let g = of_map (to_position r p) leave a e in
      either_of (plan.is_position t g.left (plan.scope_of t b)) (plan.is_entry_of t g.left b) (IsAfter (leave p) v)
      (subst (λ a. plan.leaves t a b ≡ true) (sym g.made) k)
      (λ c. after_inside p refl (scope_back v b p g.left h g.first c))
      (λ c. after_own_entry p refl (own_back v b p g.left h g.first c))
  leaves_back (enter p) v a b e h k =
      let g = of_map (to_position r p) enter a e in
      absurd (true≢false (sym (subst (λ a. plan.leaves t a b ≡ true) (sym g.made) k)))
  leaves_back (put p s) v a b e h k =
      let g = of_both (to_position r p) (r.number p s.resource) (λ q m. put q (step m s.copy)) a e in
      absurd (true≢false (sym (subst (λ a. plan.leaves t a b ≡ true) (sym g.made) k)))
  leaves_back (delete l) v a b e h k =
      absurd (true≢false (sym (subst (λ a. plan.leaves t a b ≡ true) (sym (same_some e)) k)))

  module _ (child_back : (k l : ResourceId) → is_child t k l ≡ true → IsParent k l) where
    root_back : (k : ResourceId) (p q : Position) → to_position r p ≡ Some q
        → plan.deletes_after t (delete k) (leave q) ≡ true → IsAfter (delete k) (leave p)
    root_back k [] q f c = after_root k refl refl
    root_back k (s ∷ p) q f c =
        let g = of_both (to_position r p) (r.number p s.resource) (λ q m. step m s.copy ∷ q) q f in
        absurd (true≢false (sym (subst (λ q. plan.deletes_after t (delete k) (leave q) ≡ true) (sym g.made) c)))

    deletes_back : (u v a b : Task) → to_task r u ≡ Some a → to_task r v ≡ Some b
        → plan.deletes_after t a b ≡ true → IsAfter u v
    deletes_back (delete k) (leave p) a b e h c =
        let g = of_map (to_position r p) leave b h in
        root_back k p g.left g.first
        (subst (λ a. plan.deletes_after t a (leave g.left) ≡ true) (sym (same_some e))
        (subst (λ b. plan.deletes_after t a b ≡ true) (sym g.made) c))
    deletes_back (delete k) (delete l) a b e h c =
        after_child k l refl refl
        (child_back k l
        (subst (λ a. plan.deletes_after t a (delete l) ≡ true) (sym (same_some e))
        (subst (λ b. plan.deletes_after t a b ≡ true) (sym (same_some h)) c)))
    deletes_back (delete k) (enter p) a b e h c =
        let g = of_map (to_position r p) enter b h in
        absurd (true≢false (sym
        (subst (λ a. plan.deletes_after t a (enter g.left) ≡ true) (sym (same_some e))
        (subst (λ b. plan.deletes_after t a b ≡ true) (sym g.made) c))))
    deletes_back (delete k) (put p s) a b e h c =
        let g = of_both (to_position r p) (r.number p s.resource) (λ q m. put q (step m s.copy)) b h in
        absurd (true≢false (sym
        (subst (λ a. plan.deletes_after t a (put g.left (step g.right s.copy)) ≡ true) (sym (same_some e))
        (subst (λ b. plan.deletes_after t a b ≡ true) (sym g.made) c))))
    deletes_back (leave p) v a b e h c =
        let g = of_map (to_position r p) leave a e in
        absurd (true≢false (sym (subst (λ a. plan.deletes_after t a b ≡ true) (sym g.made) c)))
    deletes_back (enter p) v a b e h c =
        let g = of_map (to_position r p) enter a e in
        absurd (true≢false (sym (subst (λ a. plan.deletes_after t a b ≡ true) (sym g.made) c)))
    deletes_back (put p s) v a b e h c =
        let g = of_both (to_position r p) (r.number p s.resource) (λ q m. put q (step m s.copy)) a e in
        absurd (true≢false (sym (subst (λ a. plan.deletes_after t a b ≡ true) (sym g.made) c)))

    pub order_back : (u v a b : Task) → to_task r u ≡ Some a → to_task r v ≡ Some b → in_order a b ≡ true
        → IsAfter u v
    order_back u v a b e h k =
        either_of (plan.is_entered_by t a b) (plan.leaves t a b || plan.deletes_after t a b) (IsAfter u v) k
        (λ c. entered_back u v a b e h c)
        (λ c. either_of (plan.leaves t a b) (plan.deletes_after t a b) (IsAfter u v) c
        (λ c. leaves_back u v a b e h c) (λ c. deletes_back u v a b e h c))
