-- What an element of `dependsOn` names in a template is what a mention means in its program.
use Rattle.std.proofs.Common.{◌≡◌, ℕ, Bool, true, false, List, Option, Some, None, refl, sym, ap}
use Rattle.std.proofs.Common.{◌∙◌, subst, bytes_eq}
use Rattle.std.specs.Prelude.{nat_lt, is_some, option_map, option_and_then}
use Rattle.foundation.proofs.Words.{itself}
use Rattle.foundation.proofs.Options.{same_some}
use Rattle.arm_value.specs.Json.{Json, text}
use Rattle.arm_ids.specs.Id.{folded, text_of, is_whole}
use Rattle.arm_ids.specs.Segments.{joined}
use Rattle.arm_ids.specs.declared.id.Place.{Place}
use Rattle.arm_ids.specs.declared.id.ResourceId.{ResourceId}
use Rattle.arm_ids.specs.Held.{HeldResource}
use Rattle.arm_env.specs.Find.{id_key}
use Rattle.arm_eval.specs.Trees.{tree_value}
use Rattle.reading.specs.Reading.{done, pure, read, continued}
use Rattle.reading.specs.World.{value_in}
use Rattle.reading.proofs.Parts.{value_in-continued}
use Rattle.template_parameters.specs.Binding.{BoundMeaning}
use Rattle.template_parts.specs.declared.mode.Form.{Form}
use Rattle.template_parts.specs.declared.mode.Form.TheVariants.{One, Two}
use Rattle.template_tree.specs.Tree.{TemplateTree}
use Rattle.deploy_cells.specs.Cells.{Step, step, Position, Cell, name, count, deployments, World, is_admitted, copies}
use Rattle.deploy_cells.specs.Puts.{id_at, key_at}
use Rattle.deploy_cells.specs.Same.{same_id}
use Rattle.deploy_cells.proofs.SameLemmas.{id_is, id_same}
use Rattle.plan_cells.specs.Desired.{held_state}
use Rattle.plan_cells.specs.Needs.{is_id_of, value_names, element_names}
use Rattle.plan_cells.specs.Resources.{Listed}
use Rattle.plan_cells.specs.Scopes.{template_at}
use Rattle.plan_cells.specs.Sites.{reading_at, body_site, form_at}
use Rattle.bicep_declared.specs.Declarations.{DeclaredTree, BodyTree}
use Rattle.bicep_declared.specs.Declarations as declared
use Rattle.bicep_meaning.specs.Declared.{body_of}
use Rattle.bicep_meaning.specs.Files.{SourceFile, symbol_name, declaration}
use Rattle.bicep_meaning.specs.Instances as source
use Rattle.bicep_meaning.specs.Instances.{SourceProgram, Put, put_of, put_by, file_at, unless_existing}
use Rattle.cell_renaming.specs.Renaming.{to_position, renamed}
use Rattle.cell_renaming.proofs.OptionLemmas.{to_both}
use Rattle.cell_renaming.proofs.ParentLemmas.{renamed_is}
use Rattle.source_needs.specs.Given.{key_of}
use Rattle.source_needs.specs.Needs.{key_mentioned, is_looped, Means}
use Rattle.source_worlds.specs.Numbers.{is_put, number_of, numbering}
use Rattle.source_worlds.proofs.NumberLemmas.{has_number, one_to_one}
use Rattle.emitted_worlds.specs.Values.{IsTree}
use Rattle.emitted_worlds.specs.Files.{element_by, name_element, id_by, dependency}
use Rattle.emitted_worlds.proofs.AbsentLemmas.{Match}
use Rattle.emitted_trees.specs.Templates as t
use Rattle.emitted_programs.specs.Given.{IsDeployed, deployed}
use Rattle.emitted_programs.proofs.ResourceLemmas.{put_number}
use Rattle.emitted_needs.specs.Symbols.{HasSymbols}
use Rattle.emitted_needs.proofs.ElementLemmas.{IsIdElement, id_json, name_read, id_read}
use Rattle.emitted_needs.proofs.NameLemmas.{id_names, loop_names, loop_forth, loop_back, symbol_names, symbol_same}
use Rattle.emitted_needs.proofs.NameLemmas.{name_is}
use Rattle.emitted_needs.proofs.TargetLemmas.{Target, target, title_here, has_title, key_here, type_begins, key_begins}
use Rattle.emitted_needs.proofs.TargetLemmas.{numbered_put}
use Rattle.emitted_needs.proofs.TitleLemmas.{BeginsPlain, id_slash}

-- ---- the body of what is put

body_unless : (b : Bool) (x a : Put) → unless_existing b x ≡ Some a → a.body ≡ x.body
body_unless true x a e = absurd cc
body_unless false x a e = ap (λ (x : Put). x.body) (sym (same_some e))

put_body : (f : SourceFile) (n : ℕ) (c : Option DeclaredTree) (a : Put) → put_by f n c ≡ Some a
    → option_and_then body_of c ≡ Some a.body
put_body f n None a e = absurd cc
put_body f n (Some (declared.parameter x y)) a e = absurd cc
put_body f n (Some (declared.parameter_with x y k)) a e = absurd cc
put_body f n (Some (declared.variable x y)) a e = absurd cc
put_body f n (Some (declared.a_resource x y existing b)) a e =
    ap (λ b. Some b)
    (sym (body_unless existing (record { number = n; body = b; kind = source.resource_kind f n }) a e))
put_body f n (Some (declared.a_module x b)) a e = ap (λ (x : Put). Some x.body) (same_some e)

pub looped_is : (f : SourceFile) (n : ℕ) (a : Put) → put_of n f ≡ Some a → is_looped f n ≡ is_some a.body.each
looped_is f n a e =
    ap (λ o. is_some (option_and_then (λ (b : BodyTree). b.each) o)) (put_body f n (declaration f n) a e)

-- ---- a scope of a deployed program

pub record Scene (z : Form) : Type 0 where
  pub d : SourceProgram
  pub u : TemplateTree
  pub bound : List (List ℕ × BoundMeaning)
  pub held : List HeldResource
  pub is_deployed : IsDeployed z d u bound held
  pub w : World
  pub satisfied : source.Satisfies d (held_state held) w
  pub at : Position
  pub new : Position
  pub is_new : to_position (numbering z d.files) at ≡ Some new
  pub is_there : is_admitted w (deployments at) ≡ true
  pub file : SourceFile
  pub is_file : file_at d.files at ≡ Some file
  pub tree : TemplateTree
  pub is_tree : template_at u new ≡ Some tree
  pub match : Match z d.files file tree
  pub symbols : HasSymbols file

-- an instance in it, and its number in the template
pub record Other {z : Form} (s : Scene z) : Type 0 where
  pub instance : Step
  pub number : ℕ
  pub is_number : number_of z s.file instance.resource ≡ Some number
  pub counted : nat_lt instance.copy (copies (s.w (count s.at instance.resource))) ≡ true

module _ {z : Form} (s : Scene z) where
  abbrev pub new_world : World
  new_world = renamed (numbering z s.d.files) s.w

  abbrev pub new_step : Other s → Step
  new_step o = step o.number o.instance.copy

  abbrev pub target_of : (o : Other s) → Target z s.d.files s.file s.tree o.instance.resource o.number
  target_of o = target z s.d.files s.file s.tree s.match o.instance.resource o.number o.is_number

  abbrev pub listed_of : Other s → Listed
  listed_of o = (target_of o).listed

  abbrev pub put_here : Other s → Put
  put_here o = (target_of o).put

  pub put_is : (o : Other s) → (put_here o).number ≡ o.instance.resource
  put_is o = put_number s.file o.instance.resource (put_here o) (target_of o).is_of

  abbrev pub title_of : Other s → List ℕ
  title_of o =
      (title_here s.d s.w s.satisfied.is_world s.at s.file s.is_file o.instance (put_here o) (target_of o).is_of
      o.counted).title

  titled : (o : Other s) → s.w (name s.at o.instance) ≡ Some (text (title_of o))
  titled o =
      has_title s.d s.w s.satisfied.is_world s.at s.file s.is_file o.instance (put_here o) (target_of o).is_of o.counted

  number_at : (o : Other s) → (numbering z s.d.files).number s.at o.instance.resource ≡ Some o.number
  number_at o = ap (option_and_then (λ f. number_of z f o.instance.resource)) s.is_file ∙ o.is_number

  titled_there : (o : Other s) → new_world (name s.new (new_step o)) ≡ Some (text (title_of o))
  titled_there o =
      renamed_is (numbering z s.d.files) (one_to_one z s.d.files) s.w (name s.at o.instance) (name s.new (new_step o))
      (to_both (to_position (numbering z s.d.files) s.at)
      ((numbering z s.d.files).number s.at o.instance.resource) (λ q m. name q (step m o.instance.copy)) s.new o.number
      s.is_new (number_at o))
      ∙ titled o

  -- the key of the instance, by the type of its entry
  entry_key : (o : Other s)
      → key_of s.d s.w s.at o.instance ≡ Some (key_at s.d.place (listed_of o).type (title_of o))
  entry_key o =
      key_here s.d s.w s.satisfied.is_world s.at s.file s.is_file o.instance (put_here o) (target_of o).is_of o.counted
      ∙ ap (λ t. Some (key_at s.d.place t (title_of o))) (sym (target_of o).is_resource.type)

  is_whole_title : (o : Other s) → is_whole (id_at s.d.place (put_here o).kind.type (title_of o)) ≡ true
  is_whole_title o =
      (title_here s.d s.w s.satisfied.is_world s.at s.file s.is_file o.instance (put_here o) (target_of o).is_of
      o.counted).is_whole

  entry_begins : (o : Other s) → BeginsPlain (listed_of o).type
  entry_begins o =
      subst BeginsPlain (sym (target_of o).is_resource.type)
      (type_begins s.d.place (put_here o).kind.type (title_of o) (is_whole_title o))

  entry_name_begins : (o : Other s) → BeginsPlain (joined (key_at s.d.place (listed_of o).type (title_of o)).names)
  entry_name_begins o =
      key_begins s.d.place (put_here o).kind.type (title_of o) (is_whole_title o)

  -- ---- what an element names, by its value

  abbrev pub names_it : Other s → Json → Bool
  names_it o x = value_names z s.d.place (Some s.tree) x (listed_of o) o.instance.copy (text (title_of o))

  abbrev pub element_read : Step → Json → Option Json
  element_read c j = value_in new_world (reading_at s.u s.d.place (body_site s.u s.new c) (tree_value j))

  abbrev read_after : {A : Type 0} → (Json → A) → Option Json → Option A
  read_after g o = value_in new_world (continued (done o) (λ n. pure (g n)))

  read_value : {A : Type 0} (g : Json → A) (o : Option Json) → read_after g o ≡ option_map g o
  unfolding value_in continued
  read_value g None = refl
  read_value g (Some n) = refl

  name_value : {A : Type 0} (c : Cell) (g : Json → A)
      → value_in new_world (continued (read c) (λ n. pure (g n))) ≡ option_map g (new_world c)
  unfolding value_in continued
  name_value c g = read_value g (new_world c)

  abbrev named_by : Other s → Json → Json → Bool
  named_by o x n =
      value_names (form_at (template_at s.u s.new)) s.d.place (template_at s.u s.new) x (listed_of o) o.instance.copy n

  same_scope : (o : Other s) (x : Json) → named_by o x (text (title_of o)) ≡ names_it o x
  same_scope o x =
      ap (λ c. value_names (form_at c) s.d.place c x (listed_of o) o.instance.copy (text (title_of o))) s.is_tree
      ∙ ap (λ y. value_names y s.d.place (Some s.tree) x (listed_of o) o.instance.copy (text (title_of o))) s.match.form

  after_value : (o : Other s) (e : Option Json)
      → option_and_then
      (λ x. value_in new_world (continued (read (name s.new (new_step o))) (λ n. pure (named_by o x n)))) e
      ≡ option_map (names_it o) e
  after_value o None = refl
  after_value o (Some x) =
      name_value (name s.new (new_step o)) (named_by o x) ∙ ap (option_map (named_by o x)) (titled_there o)
      ∙ ap (λ b. Some b) (same_scope o x)

  pub element_value : (o : Other s) (c : Step) (j : Json)
      → value_in new_world (element_names (deployed s.d s.u s.bound) s.new c j (new_step o) (listed_of o))
      ≡ option_map (names_it o) (element_read c j)
  element_value o c j =
      value_in-continued Cell Json Json Bool new_world
      (reading_at s.u s.d.place (body_site s.u s.new c) (tree_value j))
      (λ x. continued (read (name s.new (new_step o))) (λ n. pure (named_by o x n)))
      ∙ after_value o (element_read c j)

  -- ---- what this means

  -- the answer says whether a mention means the instance
  pub record Agrees (n : ℕ) (o : Other s) (b : Bool) : Type 0 where
    pub forth : b ≡ true → Means s.d s.w s.at s.file n o.instance z (is_looped s.file n)
    pub back : Means s.d s.w s.at s.file n o.instance z (is_looped s.file n) → b ≡ true

some_is : {A B : Type 0} (g : A → B) (e : Option A) (x : A) (b : B) → e ≡ Some x → option_map g e ≡ Some b → g x ≡ b
some_is g e x b h k = same_some (ap (option_map g) (sym h) ∙ k)

-- ---- in the second form

two_agrees : (s : Scene Two) (o : Other s) (c : Step) (n : ℕ) (j : Json) (b : Bool) → is_put s.file n ≡ true
    → IsTree (name_element s.d.files s.file n) j → option_map (names_it s o) (element_read s c j) ≡ Some b
    → Agrees s n o b
two_agrees s o c n j b put e h =
    let x = s.symbols.named n put in
    let y = s.symbols.named o.instance.resource
    (numbered_put Two s.d.files s.file s.tree s.match o.instance.resource o.number o.is_number) in
    let g : names_it s o (text x.0) ≡ b =
    some_is (names_it s o) (element_read s c j) (text x.0) b
    (name_read Two s.d s.u s.bound s.held s.is_deployed s.w s.satisfied s.at s.new s.is_new s.is_there s.file s.is_file
    c n j e ∙ ap (λ y. Some (text y)) (name_is s.file n x.0 x.1)) h in
    let k = symbol_names s.d.files s.file s.tree s.symbols n o.instance.resource x.0 y.0 x.1 y.1 s.d.place
    (listed_of s o) o.instance.copy (title_of s o)
    ((target_of s o).is_dependent.symbol ∙ ap (symbol_name s.file) (put_is s o) ∙ y.1) in
    record {
      forth = λ i. symbol_same s.d.files s.file s.tree s.symbols n o.instance.resource x.0 y.0 x.1 y.1
          (sym k ∙ g ∙ i);
      back = λ i. sym g ∙ k
          ∙ ap (bytes_eq x.0) (same_some (sym y.1 ∙ ap (symbol_name s.file) i ∙ x.1)) ∙ itself x.0;
    }

-- ---- in the first form, of a loop

loop_agrees : (s : Scene One) (o : Other s) (c : Step) (n : ℕ) (j : Json) (b : Bool) → is_put s.file n ≡ true
    → is_looped s.file n ≡ true → IsTree (name_element s.d.files s.file n) j
    → option_map (names_it s o) (element_read s c j) ≡ Some b → Agrees s n o b
loop_agrees s o c n j b put looped e h =
    let x = s.symbols.named n put in
    let g : names_it s o (text x.0) ≡ b =
    some_is (names_it s o) (element_read s c j) (text x.0) b
    (name_read One s.d s.u s.bound s.held s.is_deployed s.w s.satisfied s.at s.new s.is_new s.is_there s.file s.is_file
    c n j e ∙ ap (λ y. Some (text y)) (name_is s.file n x.0 x.1)) h in
    let m = has_number s.file n put One in
    let r = target One s.d.files s.file s.tree s.match n m.0 m.1 in
    let k = loop_names s.d.files s.file s.tree s.symbols n x.0 x.1 m.0 r.listed r.put r.is_listed r.is_resource
    (put_number s.file n r.put r.is_of) (sym (looped_is s.file n r.put r.is_of) ∙ looped) s.d.place (listed_of s o)
    (title_of s o) in
    record {
      forth = λ i. subst (Means s.d s.w s.at s.file n o.instance One) (sym looped)
          (sym (put_is s o)
          ∙ loop_back s.d.files s.file s.tree s.symbols n x.0 x.1 (put_here s o) (listed_of s o)
          (target_of s o).is_resource (sym k ∙ g ∙ i));
      back = λ i.
          let same : o.instance.resource ≡ n = subst (Means s.d s.w s.at s.file n o.instance One) looped i in
          sym g ∙ k
          ∙ loop_forth s.d.files s.file s.tree s.symbols n x.0 x.1 (put_here s o) (listed_of s o)
          (target_of s o).is_resource
          (sym (looped_is s.file o.instance.resource (put_here s o) (target_of s o).is_of)
          ∙ ap (is_looped s.file) same ∙ looped) (put_is s o ∙ same);
    }

-- ---- in the first form, of one without a loop

id_is_key : (place : Place) (x : List ℕ) (y : Listed) (title : List ℕ) (key : ResourceId) → id_key x ≡ Some key
    → is_id_of place x y title ≡ same_id key (key_at place y.type title)
id_is_key place x y title key e = rw e refl

by_id : (s : Scene One) (o : Other s) (n : ℕ) (b : Bool) (e : Option Json) → is_looped s.file n ≡ false
    → (x : IsIdElement (key_mentioned s.d s.w s.at s.file n) e) → (i : Option ResourceId) → x.id ≡ i
    → option_map (names_it s o) e ≡ Some b → Agrees s n o b
by_id s o n b e looped x None g h =
    let k : None ≡ Some b = sym (ap (option_map (names_it s o)) (x.is ∙ ap (option_map id_json) g)) ∙ h in
    absurd cc
by_id s o n b e looped x (Some i) g h =
    let slash = id_slash i in
    let key = key_at s.d.place (listed_of s o).type (title_of s o) in
    let same : same_id (folded i) (key_at s.d.place (listed_of s o).type (title_of s o)) ≡ b =
    sym (id_is_key s.d.place (text_of i) (listed_of s o) (title_of s o) (folded i) (x.readable i g))
    ∙ sym
    (id_names s.d.files s.file s.tree s.symbols (text_of i) slash.0 slash.1 s.match s.d.place (listed_of s o)
    (title_of s o) (entry_begins s o) (entry_name_begins s o))
    ∙ some_is (names_it s o) e (id_json i) b (x.is ∙ ap (option_map id_json) g) h in
    let has : key_mentioned s.d s.w s.at s.file n ≡ Some (folded i) = x.has_key ∙ ap (option_map folded) g in
    record {
      forth = λ k. subst (Means s.d s.w s.at s.file n o.instance One) (sym looped) (record {
        key = folded i;
        first = has;
        second = entry_key s o
            ∙ ap (λ k. Some k)
            (sym (id_is (folded i) (key_at s.d.place (listed_of s o).type (title_of s o)) (same ∙ k)));
      });
      back = λ k.
          let m = subst (Means s.d s.w s.at s.file n o.instance One) looped k in
          let is : key_at s.d.place (listed_of s o).type (title_of s o) ≡ folded i =
          same_some (sym (entry_key s o) ∙ m.second) ∙ sym (same_some (sym has ∙ m.first)) in
          sym same ∙ ap (same_id (folded i)) is ∙ id_same (folded i);
    }

id_agrees : (s : Scene One) (o : Other s) (c : Step) (n : ℕ) (j : Json) (b : Bool) → is_put s.file n ≡ true
    → is_looped s.file n ≡ false → IsTree (t.expression (id_by s.d.files s.file n (declaration s.file n))) j
    → option_map (names_it s o) (element_read s c j) ≡ Some b → Agrees s n o b
id_agrees s o c n j b put looped e h =
    let x = id_read One s.d s.u s.bound s.held s.is_deployed s.w s.satisfied s.at s.new s.is_new s.is_there s.file
    s.is_file c n j (declaration s.file n) put e in
    by_id s o n b (element_read s c j) looped x x.id refl h

-- ---- in both

one_agrees : (s : Scene One) (o : Other s) (c : Step) (n : ℕ) (j : Json) (b : Bool) → is_put s.file n ≡ true
    → (l : Bool) → is_looped s.file n ≡ l → IsTree (element_by s.d.files s.file One l n) j
    → option_map (names_it s o) (element_read s c j) ≡ Some b → Agrees s n o b
one_agrees s o c n j b put true l e h = loop_agrees s o c n j b put l e h
one_agrees s o c n j b put false l e h = id_agrees s o c n j b put l e h

pub element_agrees : (z : Form) (s : Scene z) (o : Other s) (c : Step) (n : ℕ) (j : Json) (b : Bool)
    → is_put s.file n ≡ true → IsTree (dependency s.d.files s.file z n) j
    → value_in (new_world s)
    (element_names (deployed s.d s.u s.bound) s.new c j (new_step s o) (listed_of s o)) ≡ Some b
    → Agrees s n o b
element_agrees One s o c n j b put e h =
    one_agrees s o c n j b put (is_looped s.file n) refl e (sym (element_value s o c j) ∙ h)
element_agrees Two s o c n j b put e h = two_agrees s o c n j b put e (sym (element_value s o c j) ∙ h)
