-- What is put is included at the start, and what is deleted is held.
use Rattle.std.proofs.Common.{◌≡◌, inl, inr, ℕ, Bool, true, false, true≢false, List, [], ◌∷◌, Some, refl, sym, subst, ◌∙◌}
use Rattle.std.specs.Prelude.{slice_get, bytes_eq, if◌then◌else◌}
use Rattle.std.proofs.lemmas.Slice.Eq.{bytes_eq-Decides}
use Rattle.arm_value.specs.Json.{bool}
use Rattle.arm_ids.specs.Id.{folded_text}
use Rattle.arm_ids.specs.Held.{HeldResource, held_by, find}
use Rattle.arm_ids.specs.declared.id.Place.{Place}
use Rattle.arm_ids.specs.declared.id.ResourceId.{ResourceId}
use Rattle.template_parts.specs.declared.mode.Mode.{Mode}
use Rattle.template_parts.specs.declared.mode.Mode.TheVariants.{Incremental, Complete}
use Rattle.deploy_cells.specs.Cells.{Step, Position, included}
use Rattle.plan_cells.specs.Children.{Has}
use Rattle.plan_cells.specs.Start.{start_world}
use Rattle.plan_cells.specs.Tasks.{Task, put, delete, deletes_in}
use Rattle.plan_cells.proofs.ListLemmas.{has_joined}
use Rattle.deploy_histories.specs.Planned.{Planned, IsPlanned}
use Rattle.history_laws.proofs.Puts.{listed_task, deletes_alone}
use Rattle.history_holdings.proofs.ReadingLemmas.{id_of_read}
use Rattle.history_holdings.proofs.Deletes.{deleted_of}
use Rattle.history_starts.proofs.Start.{the_list}
use Rattle.planned_tasks.proofs.ScopeLemmas.{of_template}

not_both : (p : Position) (s : Step) (k : ResourceId) → put p s ≡ delete k → ⊥
not_both p s k e = cc

-- ---- what is deleted is found among what is held

find_has : (id : List ℕ) (rs : List HeldResource) (h : HeldResource) → Has h rs → held_by h ≡ id
    → (r : HeldResource) × (find id rs ≡ Some r)
find_has id [] h i e = absurd i
find_has id (r ∷ rs) h i e = by_test (bytes_eq id (held_by r)) refl i (λ j. find_has id rs h j e)
  where
    by_test : (b : Bool) → bytes_eq id (held_by r) ≡ b → Has h (r ∷ rs)
        → (Has h rs → (s : HeldResource) × (find id rs ≡ Some s))
        → (s : HeldResource) × ((if b then Some r else find id rs) ≡ Some s)
    by_test true t i more = (r, refl)
    by_test false t (inl f) more =
        absurd (true≢false (sym ((bytes_eq-Decides id (held_by r)).1
        (sym (subst (λ (s : HeldResource). held_by s ≡ id) (sym f) e))) ∙ t))
    by_test false t (inr j) more = more j

by_mode : (mode : Mode) (place : Place) (ks : List ResourceId) (held : List HeldResource) (k : ResourceId)
    → Has (delete k) (deletes_in mode place ks held)
    → (r : HeldResource) × (find (folded_text k) held ≡ Some r)
by_mode Incremental place ks held k h = absurd h
by_mode Complete place ks held k h =
    let d = deleted_of place ks held k h in
    find_has (folded_text k) held d.entry d.is_held (id_of_read d.entry.id k d.of_key).spelled

module _ (x : Planned) (planned : IsPlanned x) where
  abbrev deleted : List Task
  deleted = deletes_in x.mode x.deployment.place x.keys x.held

  pub put_included : (p : Position) (s : Step) (u : ℕ) → slice_get x.tasks u ≡ Some (put p s)
      → start_world x.known (included p s) ≡ Some (bool true)
  put_included p s u e =
      let l = the_list x planned in
      elim (has_joined (put p s) l.scopes deleted
      (subst (λ (ts : List Task). Has (put p s) ts) l.joined (listed_task x.tasks u (put p s) e))) [
        | inl i ↦ of_template (start_world x.known) x.deployment.template [] l.scopes l.is_read (put p s) i
        | inr i ↦
            (let g = deletes_alone x.mode x.deployment.place x.keys x.held (put p s) i in
            absurd (not_both p s g.0 g.1))
      ]

  pub deletion_found : (u : ℕ) (k : ResourceId) → slice_get x.tasks u ≡ Some (delete k)
      → (r : HeldResource) × (find (folded_text k) x.held ≡ Some r)
  deletion_found u k e =
      let l = the_list x planned in
      elim (has_joined (delete k) l.scopes deleted
      (subst (λ (ts : List Task). Has (delete k) ts) l.joined (listed_task x.tasks u (delete k) e))) [
        | inl i ↦
            absurd (of_template (start_world x.known) x.deployment.template [] l.scopes l.is_read (delete k) i)
        | inr i ↦ by_mode x.mode x.deployment.place x.keys x.held k i
      ]
