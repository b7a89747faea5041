-- The values of the elements of `dependsOn`: a name, or an id.
use Rattle.std.proofs.Common.{◌≡◌, ℕ, true, true≢false, List, [], Option, Some, None}
use Rattle.std.proofs.Common.{refl, sym, ap, ◌∙◌}
use Rattle.std.specs.Prelude.{is_some, option_map, option_and_then}
use Rattle.arm_value.specs.Json.{Json, text}
use Rattle.arm_ids.specs.Id.{folded, text_of}
use Rattle.arm_ids.specs.declared.id.Place.{Place}
use Rattle.arm_ids.specs.declared.id.ResourceId.{ResourceId}
use Rattle.arm_ids.specs.Held.{HeldResource}
use Rattle.arm_env.specs.Find.{id_key}
use Rattle.arm_env.specs.Part.{kept}
use Rattle.arm_env.specs.Look.{Looking, Surroundings}
use Rattle.arm_eval.specs.Trees.{tree_value}
use Rattle.reading.specs.Reading.{done, pure, continued}
use Rattle.reading.specs.World.{value_in}
use Rattle.reading.proofs.Parts.{value_in-continued}
use Rattle.template_parameters.specs.Binding.{BoundMeaning}
use Rattle.template_parts.specs.declared.mode.Form.{Form}
use Rattle.template_tree.specs.Tree.{TemplateTree}
use Rattle.deploy_cells.specs.Cells.{Step, Position, Cell, deployments, World, is_admitted}
use Rattle.deploy_cells.specs.Guarded.{Reads}
use Rattle.plan_cells.specs.Desired.{held_state}
use Rattle.plan_cells.specs.Sites.{reading_at, body_site}
use Rattle.bicep_tree.specs.declared.leaf.Literal.TheVariants as l
use Rattle.bicep_resolved.specs.Source as s
use Rattle.bicep_resolved.specs.declared.leaf.Field.TheVariants as field
use Rattle.bicep_resolved.specs.declared.leaf.Target.TheVariants as target
use Rattle.bicep_declared.specs.Declarations.{DeclaredTree}
use Rattle.bicep_declared.specs.Declarations as declared
use Rattle.bicep_meaning.specs.Around.{Here}
use Rattle.bicep_meaning.specs.Declared.{whole}
use Rattle.bicep_meaning.specs.Files.{SourceFile}
use Rattle.bicep_meaning.specs.Instances as program
use Rattle.bicep_meaning.specs.Instances.{SourceProgram, put_by, file_at, place_at, here_in, in_file}
use Rattle.bicep_meaning.specs.Meaning.{value, id_text, module_key}
use Rattle.bicep_meaning.specs.Rows.{capped}
use Rattle.bicep_emission.proofs.OutputLemmas.{deployment_made, key_made}
use Rattle.bicep_emission.proofs.SeenLemmas.{value-seen}
use Rattle.cell_renaming.specs.Renaming.{Renaming, to_position, renamed}
use Rattle.cell_renaming.proofs.OptionLemmas.{of_then}
use Rattle.source_needs.specs.Needs.{key_read}
use Rattle.source_worlds.specs.Numbers.{name_of, numbering}
use Rattle.emitted_worlds.specs.Values.{IsTree}
use Rattle.emitted_worlds.specs.Files.{id_by, name_element}
use Rattle.emitted_trees.specs.Templates as t
use Rattle.emitted_worlds.specs.Facts.{HasFacts}
use Rattle.emitted_programs.specs.Marks.{IsMarked, no_mark}
use Rattle.emitted_programs.specs.Sites.{IsInstance, AreLike}
use Rattle.emitted_programs.proofs.SiteLemmas.{site_alike, unmarked_world}
use Rattle.emitted_programs.specs.Given.{IsDeployed}
use Rattle.emitted_programs.proofs.AboveLemmas.{HasPlace, has_place}
use Rattle.emitted_programs.proofs.InstanceLemmas.{default_site, module_site, id_readable, module_readable}
use Rattle.emitted_programs.proofs.ReadLemmas.{deployed_facts}

-- ---- values of ids and names

abbrev pub id_json : ResourceId → Json
id_json i = text (text_of i)

kept_text : (x : List ℕ) → kept (text x) ≡ Some (text x)
kept_text x = refl

module _ (w : World) where
  text_capped : (x : List ℕ) → value_in w (capped (pure (text x))) ≡ Some (text x)
  unfolding capped continued value_in
  text_capped x = kept_text x

  kept_id : (o : Option ResourceId)
      → option_and_then (λ j. kept j) (option_map id_json o) ≡ option_map id_json o
  kept_id None = refl
  kept_id (Some i) = kept_text (text_of i)

  mapped : {A B : Type 0} (r : Reads A) (f : A → B)
      → value_in w (continued r (λ a. pure (f a))) ≡ option_map f (value_in w r)
  unfolding value_in
  mapped {A} {B} r f = value_in-continued Cell Json A B w r (λ a. pure (f a)) ∙ by_value (value_in w r)
    where
      by_value : (o : Option A)
          → option_and_then (λ a. value_in w (let s : Reads B = pure (f a) in s)) o ≡ option_map f o
      by_value None = refl
      by_value (Some a) = refl

  ended : {A B : Type 0} (r : Reads A) (f : A → Option B)
      → value_in w (continued r (λ a. done (f a))) ≡ option_and_then f (value_in w r)
  unfolding value_in
  ended {A} {B} r f = value_in-continued Cell Json A B w r (λ a. done (f a)) ∙ by_value (value_in w r)
    where
      by_value : (o : Option A)
          → option_and_then (λ a. value_in w (let s : Reads B = done (f a) in s)) o ≡ option_and_then f o
      by_value None = refl
      by_value (Some a) = refl

  id_text_value : (r : Reads ResourceId) → value_in w (id_text r) ≡ option_map id_json (value_in w r)
  id_text_value r = mapped r id_json

  id_capped : (r : Reads ResourceId) → value_in w (capped (id_text r)) ≡ option_map id_json (value_in w r)
  unfolding capped
  id_capped r =
      ended (id_text r) (λ j. kept j) ∙ ap (option_and_then (λ j. kept j)) (id_text_value r) ∙ kept_id (value_in w r)

map_after : {A B C : Type 0} (f : B → C) (g : A → Option B) (o : Option A)
    → option_and_then (λ a. option_map f (g a)) o ≡ option_map f (option_and_then g o)
map_after f g None = refl
map_after f g (Some a) = refl

-- ---- the value of an element

-- an element that is an id: its value is the text of the id of what is mentioned, or none
pub record IsIdElement (key : Option ResourceId) (o : Option Json) : Type 0 where
  pub id : Option ResourceId
  pub is : o ≡ option_map id_json id
  pub has_key : key ≡ option_map folded id
  pub readable : (i : ResourceId) → id ≡ Some i → id_key (text_of i) ≡ Some (folded i)

module _ (z : Form) (d : SourceProgram) (u : TemplateTree) (bound : List (List ℕ × BoundMeaning))
    (held : List HeldResource) (h : IsDeployed z d u bound held) (w : World)
    (satisfied : program.Satisfies d (held_state held) w) (p q : Position)
    (at : to_position (numbering z d.files) p ≡ Some q) (is_there : is_admitted w (deployments p) ≡ true)
    (f : SourceFile) (file : file_at d.files p ≡ Some f) where
  abbrev r : Renaming
  r = numbering z d.files

  abbrev rw : World
  rw = renamed r w

  facts : HasFacts z d w
  facts = deployed_facts z d u bound held h w satisfied

  abbrev no_marks_here : IsMarked z d w
  no_marks_here = unmarked_world z d w facts

  inst : IsInstance z d w p q f
  inst = record { position = at; file = file; is_there = is_there }

  place_is : HasPlace z d w facts p
  place_is = has_place z d w facts p q at is_there

  abbrev here : Here
  here = here_in d p f place_is.place

  in_place : {A : Type 0} (g : Place → Reads A)
      → value_in w (continued (place_at d.place p) g) ≡ value_in w (g place_is.place)
  in_place {A} g =
      value_in-continued Cell Json Place A w (place_at d.place p) g
      ∙ ap (option_and_then (λ place. value_in w (g place))) place_is.is

  abbrev read_at : Step → (Surroundings → Looking Json) → Option Json
  read_at o g = value_in rw (reading_at u d.place (body_site u q o) g)

  read_is : (o : Step) (g : Surroundings → Looking Json) (c : Here → Reads Json)
      → AreLike z d u w p f (body_site u q o) g c → read_at o g ≡ value_in w (c here)
  read_is o g c like =
      sym (value-seen rw no_mark (reading_at u d.place (body_site u q o) g))
      ∙ ap (λ s. s.0)
      (site_alike z d u h.emitted w no_marks_here p q f inst (body_site u q o) refl g c like)
      ∙ value-seen w no_mark (in_file d p f c) ∙ in_place (λ place. c (here_in d p f place))

  -- a name
  pub name_read : (o : Step) (n : ℕ) (j : Json) → IsTree (name_element d.files f n) j
      → read_at o (tree_value j) ≡ Some (text (name_of f n))
  name_read o n j e =
      read_is o (tree_value j) (λ here. value here (whole here) (s.literal 0 (l.Text (name_of f n))) [])
      (default_site z d u h.emitted h.sound w p q f inst (body_site u q o) refl
      (s.literal 0 (l.Text (name_of f n))) j tt e)
      ∙ text_capped w (name_of f n)

  -- an id
  abbrev mentioned_by : ℕ → Option DeclaredTree → Option ResourceId
  mentioned_by n c = value_in w (continued (place_at d.place p) (λ place. key_read (here_in d p f place) n c))

  -- a module's key is that of its id
  module_keys : (o : Option Json) → option_and_then (λ j. module_key here.place j) o
      ≡ option_map folded (option_and_then (λ j. deployment_made here j) o)
  module_keys None = refl
  module_keys (Some j) = sym (key_made here j)

  abbrev name_in_place : ℕ → Reads Json
  name_in_place n = (whole here).name n []

  pub id_read : (o : Step) (n : ℕ) (j : Json) (c : Option DeclaredTree) → is_some (put_by f n c) ≡ true
      → IsTree (t.expression (id_by d.files f n c)) j → IsIdElement (mentioned_by n c) (read_at o (tree_value j))
  id_read o n j None c e = absurd (true≢false (sym c))
  id_read o n j (Some (declared.parameter x y)) c e = absurd (true≢false (sym c))
  id_read o n j (Some (declared.parameter_with x y k)) c e = absurd (true≢false (sym c))
  id_read o n j (Some (declared.variable x y)) c e = absurd (true≢false (sym c))
  id_read o n j (Some (declared.a_resource x y existing b)) c e = record {
    id = value_in w ((whole here).id n []);
    is = read_is o (tree_value j)
        (λ here. value here (whole here) (s.field (s.symbol 0 (target.Resource n)) 0 field.Id) [])
        (default_site z d u h.emitted h.sound w p q f inst (body_site u q o) refl
        (s.field (s.symbol 0 (target.Resource n)) 0 field.Id) j tt e)
        ∙ id_capped w ((whole here).id n []);
    has_key = in_place (λ place. key_read (here_in d p f place) n (Some (declared.a_resource x y existing b)))
        ∙ mapped w ((whole here).id n []) folded;
    readable = λ i g. id_readable z d u h.emitted h.sound w p q f inst (body_site u q o) refl no_marks_here
        place_is.place place_is.is n i g;
  }
  id_read o n j (Some (declared.a_module x b)) c e = record {
    id = value_in w (continued (name_in_place n) (λ j. done (deployment_made here j)));
    is = read_is o (tree_value j)
        (λ here. id_text (continued ((whole here).name n []) (λ j. done (deployment_made here j))))
        (module_site z d u h.emitted h.sound w p q f inst (body_site u q o) refl n j e)
        ∙ id_text_value w (continued (name_in_place n) (λ j. done (deployment_made here j)));
    has_key = in_place (λ place. key_read (here_in d p f place) n (Some (declared.a_module x b)))
        ∙ ended w (name_in_place n) (λ j. module_key here.place j)
        ∙ module_keys (value_in w (name_in_place n))
        ∙ ap (option_map folded) (sym (ended w (name_in_place n) (λ j. deployment_made here j)));
    readable = λ i g.
        let k = of_then (value_in w (name_in_place n)) (λ j. deployment_made here j) i
        (sym (ended w (name_in_place n) (λ j. deployment_made here j)) ∙ g) in
        module_readable z d u h.emitted h.sound w p q f inst (body_site u q o) refl no_marks_here place_is.place
        place_is.is k.left i k.made;
  }
