-- The cells that have their values by a task, in a template and in its program.
use Rattle.std.proofs.Common.{◌≡◌, ℕ, Bool, true, false, true≢false, List, Option, Some, None, refl}
use Rattle.std.proofs.Common.{sym, ap, ◌∙◌, subst}
use Rattle.std.specs.Prelude.{◌&&◌, option_and_then}
use Rattle.foundation.proofs.Options.{same_some}
use Rattle.foundation.proofs.TruthValues.{and_true_is, and_false_is}
use Rattle.arm_value.specs.Json.{Json, null, bool, int, text, array, object}
use Rattle.arm_ids.specs.declared.id.ResourceId.{ResourceId}
use Rattle.template_parts.specs.declared.mode.Form.{Form}
use Rattle.deploy_cells.specs.Cells.{Step, step, Position, Cell, parameter, variable, offered, output, count, included}
use Rattle.deploy_cells.specs.Cells.{name, deployments, state, World}
use Rattle.deploy_cells.specs.Puts.{Kind}
use Rattle.deploy_cells.specs.Same.{same_position}
use Rattle.deploy_cells.proofs.SameLemmas.{id_is}
use Rattle.plan_cells.specs.Desired as template
use Rattle.plan_cells.specs.Meaning.{Deployment}
use Rattle.plan_cells.specs.Reads as plan
use Rattle.plan_cells.specs.Reads.{is_state_at, key_in}
use Rattle.plan_cells.specs.Tasks.{Task, enter, leave, put, delete, key_by}
use Rattle.bicep_meaning.specs.Instances.{SourceProgram, kinds}
use Rattle.bicep_emission.specs.Answered.{deployment_types}
use Rattle.cell_renaming.specs.Renaming.{Renaming, IsOneToOne, to_position, renamed}
use Rattle.cell_renaming.proofs.OptionLemmas.{of_both, of_map, to_both}
use Rattle.cell_renaming.proofs.ParentLemmas.{renamed_is}
use Rattle.source_needs.specs.Given.{key_of, declares_output, is_given_by}
use Rattle.source_needs.specs.Tasks.{IsTask}
use Rattle.source_worlds.specs.Numbers.{numbering}
use Rattle.source_worlds.proofs.NumberLemmas.{one_to_one}
use Rattle.emitted_worlds.specs.Files.{IsEmitted}
use Rattle.emitted_worlds.proofs.KindLemmas.{kinds_same}
use Rattle.emitted_programs.specs.Marks.{Marks, AreMarks, is_given}
use Rattle.emitted_worlds.specs.Facts.{HasOwnTypes}
use Rattle.emitted_needs.specs.Tasks.{to_task}
use Rattle.emitted_needs.proofs.OrderLemmas.{positions_same}

abbrev only_states : Option ResourceId → Cell → Type 0
only_states o c = is_state_at o c ≡ false

no_state : (o : Option ResourceId) (p : Position) (x : List ℕ)
    → only_states o (output p x) × only_states o (offered p x)
no_state None p x = (refl, refl)
no_state (Some k) p x = (refl, refl)

other_state : (o : Option ResourceId) (c : Cell) → is_given c ≡ false → only_states o c
other_state None c e = refl
other_state (Some k) (parameter p x) e = refl
other_state (Some k) (variable p x) e = refl
other_state (Some k) (offered p x) e = refl
other_state (Some k) (output p x) e = refl
other_state (Some k) (count p r) e = refl
other_state (Some k) (included p s) e = refl
other_state (Some k) (name p s) e = refl
other_state (Some k) (deployments p) e = refl
other_state (Some k) (state l) e = absurd (true≢false e)

of_types : (o : Option ResourceId) (k : ResourceId)
    → ((key : ResourceId) → o ≡ Some key → key.types ≡ deployment_types → ⊥) → k.types ≡ deployment_types
    → (b : Bool) → is_state_at o (state k) ≡ b → b ≡ false
of_types None k h e b g = sym g
of_types (Some key) k h e false g = refl
of_types (Some key) k h e true g =
    absurd (h key refl (ap (λ (i : ResourceId). i.types) (id_is key k g) ∙ e))

other_output : (t : Deployment) (q : Position) (c : Cell) → is_given c ≡ false → plan.is_output_of q c ≡ false
other_output t q (parameter p x) e = refl
other_output t q (variable p x) e = refl
other_output t q (offered p x) e = absurd (true≢false e)
other_output t q (output p x) e = absurd (true≢false e)
other_output t q (count p r) e = refl
other_output t q (included p s) e = refl
other_output t q (name p s) e = refl
other_output t q (deployments p) e = refl
other_output t q (state k) e = refl

module _ (z : Form) (d : SourceProgram) (t : Deployment) (m : IsEmitted z d.files t.template)
    (place : t.place ≡ d.place) (own : HasOwnTypes d) (w : World) where
  abbrev r : Renaming
  r = numbering z d.files

  i : IsOneToOne r
  i = one_to_one z d.files

  abbrev rw : World
  rw = renamed r w

  -- the cells that have their values by a task, and by its task of the template
  abbrev pub given_marks : Task → Task → Marks
  given_marks u v = record { template = plan.is_given_by t rw v; source = is_given_by d w u }

  -- ---- what is put

  pub key_same : (p q : Position) (s : Step) (k : ℕ) → to_position r p ≡ Some q → r.number p s.resource ≡ Some k
      → key_in t rw q (step k s.copy) ≡ key_of d w p s
  key_same p q s k at number =
      ap (λ o. option_and_then (key_by t.place (template.kinds t q k)) o)
      (renamed_is r i w (name p s) (name q (step k s.copy))
      (to_both (to_position r p) (r.number p s.resource) (λ q m. name q (step m s.copy)) q k at number))
      ∙ ap (λ o. option_and_then (key_by t.place o) (w (name p s))) (kinds_same z d t m p q s.resource k at number)
      ∙ ap (λ o. option_and_then (key_by o (kinds d p s.resource)) (w (name p s))) place

  key_formed : (p : Position) (s : Step) (kind : Kind) → kinds d p s.resource ≡ Some kind
      → kind.is_deployment ≡ false → (o : Option Json) (key : ResourceId)
      → option_and_then (key_by d.place (kinds d p s.resource)) o ≡ Some key → key.types ≡ deployment_types → ⊥
  key_formed p s kind e h None key g c = absurd cc
  key_formed p s kind e h (Some j) key g c =
      by_json j (sym (ap (λ o. key_by d.place o j) e) ∙ g)
    where
      by_json : (j : Json) → key_by d.place (Some kind) j ≡ Some key → ⊥
      by_json (text n) f =
          own p s.resource kind e h (ap (λ (i : ResourceId). i.types) (same_some f) ∙ c)
      by_json null f = absurd cc
      by_json (bool b) f = absurd cc
      by_json (int z) f = absurd cc
      by_json (array js) f = absurd cc
      by_json (object ms) f = absurd cc

  put_marks : (p q : Position) (s : Step) (k : ℕ) → to_position r p ≡ Some q → r.number p s.resource ≡ Some k
      → (kind : Kind) → kinds d p s.resource ≡ Some kind → kind.is_deployment ≡ false
      → AreMarks z d (given_marks (put p s) (put q (step k s.copy)))
  put_marks p q s k at number kind e h = record {
    states = λ l. ap (λ o. is_state_at o (state l)) (key_same p q s k at number);
    resources = λ l c. of_types (key_of d w p s) l (key_formed p s kind e h (w (name p s))) c
        (is_state_at (key_of d w p s) (state l)) refl;
    outputs = λ a b x f c. (no_state (key_in t rw q (step k s.copy)) b x).0 ∙ sym (no_state (key_of d w p s) a x).0;
    offers = λ a b x f c. (no_state (key_in t rw q (step k s.copy)) b x).1 ∙ sym (no_state (key_of d w p s) a x).0;
    undeclared = λ a x c. (no_state (key_of d w p s) a x).0;
    others = λ c g. (other_state (key_in t rw q (step k s.copy)) c g, other_state (key_of d w p s) c g);
  }

  -- ---- what is left

  declared : (p a : Position) (x : List ℕ) → declares_output d a x ≡ true
      → (same_position p a && declares_output d a x) ≡ same_position p a
  declared p a x e = ap (λ b. same_position p a && b) e ∙ and_true_is (same_position p a)

  undeclared : (p a : Position) (x : List ℕ) → declares_output d a x ≡ false
      → (same_position p a && declares_output d a x) ≡ false
  undeclared p a x e = ap (λ b. same_position p a && b) e ∙ and_false_is (same_position p a)

  leave_others : (p : Position) (c : Cell) → is_given c ≡ false → is_given_by d w (leave p) c ≡ false
  leave_others p (parameter q x) e = refl
  leave_others p (variable q x) e = refl
  leave_others p (offered q x) e = refl
  leave_others p (output q x) e = absurd (true≢false e)
  leave_others p (count q r) e = refl
  leave_others p (included q s) e = refl
  leave_others p (name q s) e = refl
  leave_others p (deployments q) e = refl
  leave_others p (state k) e = refl

  leave_marks : (p q : Position) → to_position r p ≡ Some q → AreMarks z d (given_marks (leave p) (leave q))
  leave_marks p q at = record {
    states = λ l. refl;
    resources = λ l c. refl;
    outputs = λ a b x f c. positions_same r i p a q b at f ∙ sym (declared p a x c);
    offers = λ a b x f c. positions_same r i p a q b at f ∙ sym (declared p a x c);
    undeclared = λ a x c. undeclared p a x c;
    others = λ c g. (other_output t q c g, leave_others p c g);
  }

  none_given : (u v : Task) → ((c : Cell) → plan.is_given_by t rw v c ≡ false)
      → ((c : Cell) → is_given_by d w u c ≡ false) → AreMarks z d (given_marks u v)
  none_given u v f g = record {
    states = λ l. f (state l) ∙ sym (g (state l));
    resources = λ l c. g (state l);
    outputs = λ a b x e c. f (output b x) ∙ sym (g (output a x));
    offers = λ a b x e c. f (offered b x) ∙ sym (g (output a x));
    undeclared = λ a x c. g (output a x);
    others = λ c e. (f c, g c);
  }

  -- ---- any task

  pub task_marks : (u v : Task) → to_task r u ≡ Some v → IsTask d w u → AreMarks z d (given_marks u v)
  task_marks (put p s) v e h =
      let g = of_both (to_position r p) (r.number p s.resource) (λ q m. put q (step m s.copy)) v e in
      subst (λ v. AreMarks z d (given_marks (put p s) v)) g.made
      (put_marks p g.left s g.right g.first g.second h.kind h.is_declared h.is_of)
  task_marks (leave p) v e h =
      let g = of_map (to_position r p) leave v e in
      subst (λ v. AreMarks z d (given_marks (leave p) v)) g.made (leave_marks p g.left g.first)
  task_marks (enter p) v e h =
      let g = of_map (to_position r p) enter v e in
      subst (λ v. AreMarks z d (given_marks (enter p) v)) g.made
      (none_given (enter p) (enter g.left) (λ c. refl) (λ c. refl))
  task_marks (delete k) v e h =
      subst (λ v. AreMarks z d (given_marks (delete k) v)) (same_some e)
      (none_given (delete k) (delete k) (λ c. refl) (λ c. refl))
