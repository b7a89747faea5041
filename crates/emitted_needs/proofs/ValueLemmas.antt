-- A value of a task reads what another gives in a template exactly where it does in the program.
use Rattle.std.proofs.Common.{◌≡◌, inl, inr, ℕ, true, false, true≢false, List, [], ◌∷◌, Option, Some, None, refl}
use Rattle.std.proofs.Common.{sym, ap, ◌∙◌, subst}
use Rattle.std.specs.Prelude.{option_map, option_and_then}
use Rattle.foundation.proofs.Options.{same_some}
use Rattle.arm_value.specs.Json.{Json, bool}
use Rattle.arm_value.specs.Kinds.{is_true}
use Rattle.arm_ids.specs.Held.{HeldResource}
use Rattle.arm_ids.specs.declared.id.Place.{Place}
use Rattle.reading.specs.Reading.{pure}
use Rattle.reading.specs.World.{reads_in, value_in}
use Rattle.reading.proofs.Parts.{value_in-continued}
use Rattle.template_parameters.specs.Binding.{BoundMeaning}
use Rattle.template_parts.specs.declared.mode.Form.{Form}
use Rattle.template_tree.specs.Tree.{TemplateTree}
use Rattle.deploy_cells.specs.Cells.{Step, step, Position, Cell, parameter, variable, offered, output, name}
use Rattle.deploy_cells.specs.Cells.{deployments, World, is_admitted}
use Rattle.deploy_cells.specs.Guarded.{Reads}
use Rattle.plan_cells.specs.Desired.{held_state}
use Rattle.plan_cells.specs.Meaning as meaning
use Rattle.plan_cells.specs.Meaning.{Deployment}
use Rattle.plan_cells.specs.Tasks.{Task, enter, leave, put, delete}
use Rattle.bicep_declared.specs.Declarations.{OutputTree}
use Rattle.bicep_meaning.specs.Files.{SourceFile}
use Rattle.bicep_meaning.specs.Instances as program
use Rattle.bicep_meaning.specs.Instances.{SourceProgram, file_at, output_folded, in_file, of_file, place_at, value_here}
use Rattle.bicep_emission.specs.Alike.{Seen, seen_in}
use Rattle.bicep_emission.proofs.SeenLemmas.{then_seen, seen-continued}
use Rattle.cell_renaming.specs.Renaming.{Renaming, IsOneToOne, to_position, renamed}
use Rattle.cell_renaming.proofs.OptionLemmas.{of_both, of_map, of_then}
use Rattle.cell_renaming.proofs.ParentLemmas.{renamed_is}
use Rattle.source_needs.specs.Given as source
use Rattle.source_needs.specs.Tasks.{IsScope, IsTask}
use Rattle.source_worlds.specs.Numbers.{numbering}
use Rattle.source_worlds.proofs.NumberLemmas.{one_to_one}
use Rattle.emitted_programs.specs.Alike.{AreAlike}
use Rattle.emitted_programs.specs.Given.{IsDeployed, deployed}
use Rattle.emitted_programs.proofs.AboveLemmas.{of_parameter, of_variable, of_offered}
use Rattle.emitted_programs.proofs.ProgramLemmas.{own_types}
use Rattle.emitted_programs.proofs.ReadLemmas.{deployed_facts, deployed_alike, deployed_bodies}
use Rattle.emitted_programs.specs.Marks.{Marks, AreMarks}
use Rattle.emitted_programs.proofs.PlaceLemmas.{source_place}
use Rattle.emitted_worlds.specs.Facts.{HasFacts}
use Rattle.emitted_worlds.proofs.SourceLemmas.{valued}
use Rattle.emitted_needs.specs.Needs as needs
use Rattle.emitted_needs.specs.Tasks.{to_task}
use Rattle.emitted_needs.proofs.MarkLemmas.{given_marks, task_marks}
use Rattle.emitted_needs.proofs.SeenReads.{Marked, is_seen, seen_is}

module _ (z : Form) (d : SourceProgram) (u : TemplateTree) (bound : List (List ℕ × BoundMeaning))
    (held : List HeldResource) (h : IsDeployed z d u bound held) (w : World)
    (satisfied : program.Satisfies d (held_state held) w) where
  abbrev r : Renaming
  r = numbering z d.files

  i : IsOneToOne r
  i = one_to_one z d.files

  abbrev rw : World
  rw = renamed r w

  abbrev dep : Deployment
  dep = deployed d u bound

  facts : HasFacts z d w
  facts = deployed_facts z d u bound held h w satisfied

  -- ---- tasks whose scopes are there

  is_open : (p : Position) → IsScope d w p → is_admitted w (deployments p) ≡ true
  is_open [] k = refl
  is_open (s ∷ p) k = ap is_true k.has_condition

  -- ---- an output that the program declares is offered

  abbrev offered_in : Position → SourceFile → Reads Json
  offered_in p f = in_file d p f (λ here. pure (bool true))

  raw_offered : (p : Position) (y : List ℕ) → program.raw d (offered p y)
      ≡ of_file d p (λ f. output_folded f y) (λ o here. pure (bool true))
  unfolding program.raw
  raw_offered p y = refl

  raw_output : (p : Position) (y : List ℕ) → program.raw d (output p y) ≡ program.output_value d p y
  unfolding program.raw
  raw_output p y = refl

  abbrev read_in_place : Option Place → Option Json
  read_in_place o = option_and_then (λ place. value_in w (let r : Reads Json = pure (bool true) in r)) o

  always_true : (o : Option Place) (j : Json) → read_in_place o ≡ Some j → j ≡ bool true
  unfolding value_in
  always_true None j g = absurd cc
  always_true (Some place) j g = sym (same_some g)

  always : (p : Position) (f : SourceFile) (j : Json) → value_in w (offered_in p f) ≡ Some j → j ≡ bool true
  always p f j e =
      always_true (value_in w (place_at d.place p)) j
      (sym (value_in-continued Cell Json Place Json w (place_at d.place p) (λ place. pure (bool true))) ∙ e)

  is_offered : (p : Position) (y : List ℕ) → is_admitted w (deployments p) ≡ true → (s : Reads Json)
      → program.raw d (output p y) ≡ Some s → is_true (w (offered p y)) ≡ true
  is_offered p y a s e =
      let f = of_then (file_at d.files p)
      (λ f. option_map (λ (o : OutputTree). in_file d p f (value_here o.value)) (output_folded f y)) s
      (sym (raw_output p y) ∙ e) in
      let o = of_map (output_folded f.left y) (λ (o : OutputTree). in_file d p f.left (value_here o.value)) s f.made in
      let c : program.raw d (offered p y) ≡ Some (offered_in p f.left) =
      raw_offered p y
      ∙ ap (option_and_then (λ f. option_map (λ o. offered_in p f) (output_folded f y))) f.first
      ∙ ap (option_map (λ o. offered_in p f.left)) o.first in
      let g = valued d w satisfied.is_world (offered p y) refl (offered_in p f.left) c (of_offered z d w facts p y ∙ a)
      in
      ap is_true (g.has ∙ ap (λ j. Some j) (always p f.left g.value g.is_read))

  -- ---- one reading and the other

  module _ (v b : Task) (e : to_task r v ≡ Some b) (is_task : IsTask d w v) where
    abbrev x : Marks
    x = given_marks z d dep h.emitted refl (own_types d h.sound) w v b

    are : AreMarks z d x
    are = task_marks z d dep h.emitted refl (own_types d h.sound) w v b e is_task

    -- what is read, and the cell of it that the task gives
    pub record ReadsGiven (o : Option (Reads Json)) : Type 0 where
      pub reading : Reads Json
      pub is : o ≡ Some reading
      pub marked : Marked x.template (reads_in rw reading)

    forth : (a b : Option (Reads Json)) → AreAlike z d w x a b → (s : Reads Json) → b ≡ Some s
        → Marked x.source (reads_in w s) → ReadsGiven a
    forth None None k s f g = absurd cc
    forth None (Some t) k s f g = absurd k
    forth (Some t) None k s f g = absurd k
    forth (Some t) (Some y) k s f g = record {
      reading = t;
      is = refl;
      marked = seen_is rw x.template t
          (ap (λ s. s.1) k ∙ is_seen w x.source y
          (subst (λ y. Marked x.source (reads_in w y)) (sym (same_some f)) g));
    }

    pub record GivenIsRead (o : Option (Reads Json)) : Type 0 where
      pub reading : Reads Json
      pub is : o ≡ Some reading
      pub marked : Marked x.source (reads_in w reading)

    back : (a b : Option (Reads Json)) → AreAlike z d w x a b → (s : Reads Json) → a ≡ Some s
        → Marked x.template (reads_in rw s) → GivenIsRead b
    back None None k s f g = absurd cc
    back None (Some t) k s f g = absurd k
    back (Some t) None k s f g = absurd k
    back (Some t) (Some y) k s f g = record {
      reading = y;
      is = refl;
      marked = seen_is w x.source y
          (ap (λ s. s.1) (sym k) ∙ is_seen rw x.template t
          (subst (λ y. Marked x.template (reads_in rw y)) (sym (same_some f)) g));
    }

    source_reads : (t : Task) (s : Reads Json) → source.IsReadingOf d s t → Marked x.source (reads_in w s)
        → source.ReadsFrom d w t v
    source_reads t s k g =
        record { reading = s; is_of = k; cell = g.cell; is_read = g.is_read; is_given = g.is_marked }

    template_reads : (t : Task) (s : Reads Json) → needs.IsReadingOf dep rw s t
        → Marked x.template (reads_in rw s) → needs.ReadsFrom dep rw t b
    template_reads t s k g =
        record { reading = s; is_of = k; cell = g.cell; is_read = g.is_read; is_given = g.is_marked }

    -- ---- a condition reads nothing

    abbrev after_place : Option Place → Seen Json
    after_place o = then_seen (o, false) (λ place. seen_in w x.source (let r : Reads Json = pure (bool true) in r))

    never_marked : (o : Option Place) → (after_place o).1 ≡ false
    unfolding seen_in
    never_marked None = refl
    never_marked (Some place) = refl

    unmarked_place : (p : Position) (f : SourceFile) → (seen_in w x.source (offered_in p f)).1 ≡ false
    unmarked_place p f =
        ap (λ s. s.1)
        (seen-continued w x.source (place_at d.place p) (λ place. pure (bool true))
        ∙ ap (λ t. then_seen t (λ place. seen_in w x.source (let r : Reads Json = pure (bool true) in r)))
        (source_place w x.source (λ p s. (are.others (name p s) refl).1) d.place p))
        ∙ never_marked (value_in w (place_at d.place p))

    -- ---- the cells of a scope

    module _ (p q : Position) (at : to_position r p ≡ Some q) (is_there : is_admitted w (deployments p) ≡ true)
        (y : List ℕ) where
      alike_parameter : AreAlike z d w x (meaning.raw dep (parameter q y)) (program.raw d (parameter p y))
      alike_parameter =
          deployed_alike z d u bound held h w satisfied x are (parameter p y) (parameter q y)
          (ap (option_map (λ q. parameter q y)) at) refl (of_parameter z d w facts p y ∙ is_there)

      alike_variable : AreAlike z d w x (meaning.raw dep (variable q y)) (program.raw d (variable p y))
      alike_variable =
          deployed_alike z d u bound held h w satisfied x are (variable p y) (variable q y)
          (ap (option_map (λ q. variable q y)) at) refl (of_variable z d w facts p y ∙ is_there)

      alike_offered : AreAlike z d w x (meaning.raw dep (offered q y)) (program.raw d (offered p y))
      alike_offered =
          deployed_alike z d u bound held h w satisfied x are (offered p y) (offered q y)
          (ap (option_map (λ q. offered q y)) at) refl (of_offered z d w facts p y ∙ is_there)

      alike_output : is_true (w (offered p y)) ≡ true
          → AreAlike z d w x (meaning.raw dep (output q y)) (program.raw d (output p y))
      alike_output k =
          deployed_alike z d u bound held h w satisfied x are (output p y) (output q y)
          (ap (option_map (λ q. output q y)) at) refl k

      offered_is : rw (offered q y) ≡ w (offered p y)
      offered_is = renamed_is r i w (offered p y) (offered q y) (ap (option_map (λ q. offered q y)) at)

      -- the condition of an output reads nothing
      offered_pure : (s : Reads Json) → program.raw d (offered p y) ≡ Some s
          → Marked x.source (reads_in w s) → ⊥
      offered_pure s e g =
          let f = of_then (file_at d.files p) (λ f. option_map (λ o. offered_in p f) (output_folded f y)) s
          (sym (raw_offered p y) ∙ e) in
          let o = of_map (output_folded f.left y) (λ o. offered_in p f.left) s f.made in
          true≢false
          (sym (is_seen w x.source s g)
          ∙ ap (λ s. (seen_in w x.source s).1) (sym o.made)
          ∙ unmarked_place p f.left)

    -- ---- forth

    reads_enter : (p q : Position) → to_position r p ≡ Some q → IsScope d w p → (s : Reads Json)
        → source.IsReadingOf d s (enter p) → Marked x.source (reads_in w s) → needs.ReadsFrom dep rw (enter q) b
    reads_enter p q at k s (y, inl f) g =
        let t = forth (meaning.raw dep (parameter q y)) (program.raw d (parameter p y))
        (alike_parameter p q at (is_open p k) y) s f g in
        template_reads (enter q) t.reading (y, inl t.is) t.marked
    reads_enter p q at k s (y, inr f) g =
        let t = forth (meaning.raw dep (variable q y)) (program.raw d (variable p y))
        (alike_variable p q at (is_open p k) y) s f g in
        template_reads (enter q) t.reading (y, inr t.is) t.marked

    reads_leave : (p q : Position) → to_position r p ≡ Some q → IsScope d w p → (s : Reads Json)
        → source.IsReadingOf d s (leave p) → Marked x.source (reads_in w s) → needs.ReadsFrom dep rw (leave q) b
    reads_leave p q at k s (y, f) g =
        let o = is_offered p y (is_open p k) s f in
        let t = forth (meaning.raw dep (output q y)) (program.raw d (output p y))
        (alike_output p q at (is_open p k) y o) s f g in
        template_reads (leave q) t.reading
        (y, inr (ap is_true (offered_is p q at (is_open p k) y) ∙ o, t.is)) t.marked

    alike_body : (p q : Position) (s : Step) (k : ℕ) → to_position r p ≡ Some q → r.number p s.resource ≡ Some k
        → IsTask d w (put p s)
        → AreAlike z d w x (meaning.bodies dep q (step k s.copy)) (program.bodies d p s)
    alike_body p q s k at number c =
        deployed_bodies z d u bound held h w satisfied x are p q s.resource k s.copy c.kind at number c.is_declared
        c.is_of c.has_condition

    pub reads_forth : (t a : Task) → to_task r t ≡ Some a → IsTask d w t → source.ReadsFrom d w t v
        → needs.ReadsFrom dep rw a b
    reads_forth (enter p) a f k g =
        let o = of_map (to_position r p) enter a f in
        subst (λ a. needs.ReadsFrom dep rw a b) o.made
        (reads_enter p o.left o.first k g.reading g.is_of
        (record { cell = g.cell; is_read = g.is_read; is_marked = g.is_given }))
    reads_forth (leave p) a f k g =
        let o = of_map (to_position r p) leave a f in
        subst (λ a. needs.ReadsFrom dep rw a b) o.made
        (reads_leave p o.left o.first k g.reading g.is_of
        (record { cell = g.cell; is_read = g.is_read; is_marked = g.is_given }))
    reads_forth (put p s) a f k g =
        let o = of_both (to_position r p) (r.number p s.resource) (λ q m. put q (step m s.copy)) a f in
        let c = forth (meaning.bodies dep o.left (step o.right s.copy)) (program.bodies d p s)
        (alike_body p o.left s o.right o.first o.second k) g.reading g.is_of
        (record { cell = g.cell; is_read = g.is_read; is_marked = g.is_given }) in
        subst (λ a. needs.ReadsFrom dep rw a b) o.made
        (template_reads (put o.left (step o.right s.copy)) c.reading c.is c.marked)
    reads_forth (delete l) a f k g = absurd g.is_of

    -- ---- back

    back_enter : (p q : Position) → to_position r p ≡ Some q → IsScope d w p → (s : Reads Json)
        → needs.IsReadingOf dep rw s (enter q) → Marked x.template (reads_in rw s)
        → source.ReadsFrom d w (enter p) v
    back_enter p q at k s (y, inl f) g =
        let t = back (meaning.raw dep (parameter q y)) (program.raw d (parameter p y))
        (alike_parameter p q at (is_open p k) y) s f g in
        source_reads (enter p) t.reading (y, inl t.is) t.marked
    back_enter p q at k s (y, inr f) g =
        let t = back (meaning.raw dep (variable q y)) (program.raw d (variable p y))
        (alike_variable p q at (is_open p k) y) s f g in
        source_reads (enter p) t.reading (y, inr t.is) t.marked

    back_leave : (p q : Position) → to_position r p ≡ Some q → IsScope d w p → (s : Reads Json)
        → needs.IsReadingOf dep rw s (leave q) → Marked x.template (reads_in rw s)
        → source.ReadsFrom d w (leave p) v
    back_leave p q at k s (y, inl f) g =
        let t = back (meaning.raw dep (offered q y)) (program.raw d (offered p y))
        (alike_offered p q at (is_open p k) y) s f g in
        absurd (offered_pure p q at (is_open p k) y t.reading t.is t.marked)
    back_leave p q at k s (y, inr f) g =
        let t = back (meaning.raw dep (output q y)) (program.raw d (output p y))
        (alike_output p q at (is_open p k) y (ap is_true (sym (offered_is p q at (is_open p k) y)) ∙ f.0)) s f.1 g in
        source_reads (leave p) t.reading (y, t.is) t.marked

    pub reads_back : (t a : Task) → to_task r t ≡ Some a → IsTask d w t → needs.ReadsFrom dep rw a b
        → source.ReadsFrom d w t v
    reads_back (enter p) a f k g =
        let o = of_map (to_position r p) enter a f in
        let c = subst (λ a. needs.ReadsFrom dep rw a b) (sym o.made) g in
        back_enter p o.left o.first k c.reading c.is_of
        (record { cell = c.cell; is_read = c.is_read; is_marked = c.is_given })
    reads_back (leave p) a f k g =
        let o = of_map (to_position r p) leave a f in
        let c = subst (λ a. needs.ReadsFrom dep rw a b) (sym o.made) g in
        back_leave p o.left o.first k c.reading c.is_of
        (record { cell = c.cell; is_read = c.is_read; is_marked = c.is_given })
    reads_back (put p s) a f k g =
        let o = of_both (to_position r p) (r.number p s.resource) (λ q m. put q (step m s.copy)) a f in
        let c = subst (λ a. needs.ReadsFrom dep rw a b) (sym o.made) g in
        let t = back (meaning.bodies dep o.left (step o.right s.copy)) (program.bodies d p s)
        (alike_body p o.left s o.right o.first o.second k) c.reading c.is_of
        (record { cell = c.cell; is_read = c.is_read; is_marked = c.is_given }) in
        source_reads (put p s) t.reading t.is t.marked
    reads_back (delete l) a f k g =
        let c = subst (λ a. needs.ReadsFrom dep rw a b) (sym (same_some f)) g in absurd c.is_of
