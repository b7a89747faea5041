-- What a scope of a template has is what the instance of its file has: variables and outputs.
use Rattle.std.proofs.Common.{◌≡◌, ℕ, Bool, true, false, List, [], ◌∷◌, Option, Some, None, refl, sym, ap, ◌∙◌, subst}
use Rattle.std.specs.Prelude.{not, option_map, option_and_then, if◌then◌else◌}
use Rattle.arm_value.specs.Json.{Json, bool}
use Rattle.arm_value.specs.View.{json}
use Rattle.arm_ids.specs.declared.id.Place.{Place}
use Rattle.reading.specs.Reading.{pure}
use Rattle.reading.specs.World.{value_in}
use Rattle.template_parameters.specs.Binding.{BoundMeaning}
use Rattle.template_parts.specs.declared.mode.Form.{Form}
use Rattle.template_parts.specs.declared.output.Output.{Output}
use Rattle.template_parts.specs.declared.variable.Variable.{Variable}
use Rattle.template_tree.specs.Tree.{TemplateTree}
use Rattle.deploy_cells.specs.Cells.{Step, Position, variable, offered, output, name, deployments, World}
use Rattle.deploy_cells.specs.Cells.{is_admitted}
use Rattle.deploy_cells.specs.Guarded.{Reads}
use Rattle.plan_cells.specs.Meaning as template
use Rattle.plan_cells.specs.Meaning.{Deployment}
use Rattle.plan_cells.specs.Scopes.{template_at, nested_of, is_outer, visible}
use Rattle.plan_cells.specs.Sites as sites
use Rattle.plan_cells.specs.Sites.{scope_site}
use Rattle.bicep_resolved.specs.Source.{ValueTree}
use Rattle.bicep_declared.specs.Declarations.{OutputTree}
use Rattle.bicep_meaning.specs.Around.{Here}
use Rattle.bicep_meaning.specs.Declared.{whole}
use Rattle.bicep_meaning.specs.Files.{SourceFile}
use Rattle.bicep_meaning.specs.Instances as program
use Rattle.bicep_meaning.specs.Instances.{SourceProgram, file_at, place_at, here_in, in_file, of_file, value_here}
use Rattle.bicep_meaning.specs.Meaning.{value_of}
use Rattle.bicep_emission.specs.Alike.{Seen, seen_in}
use Rattle.bicep_emission.proofs.SeenLemmas.{then_seen, seen-continued, after-false}
use Rattle.cell_renaming.specs.Renaming.{Renaming, IsOneToOne, to_position, renamed}
use Rattle.cell_renaming.proofs.CellLemmas.{to-from_position}
use Rattle.source_worlds.specs.Numbers.{numbering}
use Rattle.source_worlds.proofs.NumberLemmas.{one_to_one}
use Rattle.emitted_sites.specs.Values.{AreBoth}
use Rattle.emitted_sites.specs.Files.{IsVariable, IsOutput, IsEmitted}
use Rattle.emitted_sites.proofs.AbsentLemmas.{Match, scope_matches}
use Rattle.emitted_sites.proofs.InnerLemmas.{visible_is}
use Rattle.emitted_sites.specs.Marks.{IsMarked}
use Rattle.emitted_sites.specs.Sites.{IsInstance}
use Rattle.emitted_sites.proofs.PlaceLemmas.{source_place}
use Rattle.emitted_sites.proofs.SiteLemmas.{site_alike}
use Rattle.emitted_programs.specs.Given.{deployed}
use Rattle.emitted_programs.specs.Sound.{IsSoundProgram}
use Rattle.emitted_programs.proofs.AboveLemmas.{HasPlace, has_place}
use Rattle.emitted_programs.proofs.InstanceLemmas.{value_site, output_site}
use Rattle.emitted_programs.proofs.OptionLemmas.{Side, sees, Same, same_map, then_some}

-- a scope of the template is not outer
tail_is : (s : Position) (p q : List Position) → (s ∷ p) ≡ (s ∷ q) → p ≡ q
tail_is s p q e = cc

not_outer : (z : Form) (files : List SourceFile) (u : TemplateTree) → IsEmitted z files u → (q : Position) (s : Step)
    (b : Bool) → is_outer (nested_of u q s) ≡ b → not b ≡ true
unfolding visible
not_outer z files u m q s false e = refl
not_outer z files u m q s true e =
    let a = tail_is (s ∷ q) (if is_outer (nested_of u q s) then visible u q else []) []
    (visible_is z files u m (s ∷ q)) in
    let b : q ∷ [] ≡ [] =
    sym (visible_is z files u m q) ∙ sym (ap (λ b. if b then visible u q else []) e) ∙ a in
    absurd cc

pub constant_seen : (x : Side) (j : Json) → sees x (let r : Reads Json = pure j in r) ≡ (Some j, false)
unfolding seen_in
constant_seen x j = refl

module _ (z : Form) (d : SourceProgram) (u : TemplateTree) (bound : List (List ℕ × BoundMeaning))
    (m : IsEmitted z d.files u) (sound : IsSoundProgram d) (w : World) (marked : IsMarked z d w) where
  abbrev pub r : Renaming
  r = numbering z d.files

  pub i : IsOneToOne r
  i = one_to_one z d.files

  -- the renamed world and the world, with their marks
  abbrev pub v : Side
  v = record { world = renamed r w; marks = marked.marks.template }

  abbrev pub sw : Side
  sw = record { world = w; marks = marked.marks.source }

  abbrev pub t : Deployment
  t = deployed d u bound

  pub own_by : (q : Position) → template.is_own t q ≡ true
  own_by [] = refl
  own_by (s ∷ q) = not_outer z d.files u m q s (is_outer (nested_of u q s)) refl

  module _ (p q : Position) (at : to_position r p ≡ Some q) (is_open : is_admitted w (deployments p) ≡ true) where
    pub matches : AreBoth (Match z d.files) (file_at d.files p) (template_at u q)
    matches = scope_matches z d.files u m q p (to-from_position r i p q at)

    pub instance_of : (f : SourceFile) → file_at d.files p ≡ Some f → IsInstance z d w p q f
    instance_of f e = record { position = at; file = e; is_there = is_open }

    -- ---- places

    place_is : HasPlace z d w marked.facts p
    place_is = has_place z d w marked.facts p q at is_open

    pub in_some_place : (f : SourceFile) (s : Here → Reads Json) (o : Seen Json) → ((place : Place)
        → value_in w (place_at d.place p) ≡ Some place → sees sw (s (here_in d p f place)) ≡ o)
        → sees sw (in_file d p f s) ≡ o
    in_some_place f s o h =
        seen-continued w marked.marks.source (place_at d.place p) (λ place. s (here_in d p f place))
        ∙ ap (λ t. then_seen t (λ place. sees sw (s (here_in d p f place))))
        (source_place w marked.marks.source (λ p s. (marked.are_marks.others (name p s) refl).1) d.place p
        ∙ ap (λ o. let s : Seen Place = (o, false) in s) place_is.is)
        ∙ after-false (sees sw (s (here_in d p f place_is.place)))
        ∙ h place_is.place place_is.is

    pub constant : (f : SourceFile) (j : Json)
        → sees v (let x : Reads Json = pure j in x) ≡ sees sw (in_file d p f (λ here. pure j))
    constant f j =
        constant_seen v j
        ∙ sym (in_some_place f (λ here. pure j) (Some j, false) (λ place c. constant_seen sw j))

    -- ---- what both find in the file and in its template

    module _ {A B : Type 0} (R : SourceFile → A → B → Type 0) (find : SourceFile → Option A)
        (find_in : TemplateTree → Option B) (g : A → Here → Reads Json) (g_in : B → Reads Json)
        (finds : (f : SourceFile) → file_at d.files p ≡ Some f → (y : TemplateTree) → Match z d.files f y
        → AreBoth (R f) (find f) (find_in y))
        (same : (f : SourceFile) → IsInstance z d w p q f → (a : A) (b : B) → find f ≡ Some a
        → option_and_then find_in (template_at u q) ≡ Some b → R f a b
        → sees v (g_in b) ≡ sees sw (in_file d p f (g a))) where
      by_files : (o : Option SourceFile) (y : Option TemplateTree) → file_at d.files p ≡ o → template_at u q ≡ y
          → AreBoth (Match z d.files) o y
          → Same v sw (option_map g_in (option_and_then find_in y))
          (option_and_then (λ f. option_map (λ x. in_file d p f (g x)) (find f)) o)
      by_files None None e k h = tt
      by_files None (Some y) e k h = absurd h
      by_files (Some f) None e k h = absurd h
      by_files (Some f) (Some y) e k h =
          same_map v sw (R f) g_in (λ x. in_file d p f (g x)) (find f) (find_in y) (finds f e y h)
          (λ a b c x n. same f (instance_of f e) a b c (ap (option_and_then find_in) k ∙ x) n)

      pub both_find : Same v sw (option_map g_in (option_and_then find_in (template_at u q))) (of_file d p find g)
      both_find = by_files (file_at d.files p) (template_at u q) refl refl matches

    -- ---- variables

    variable_there : (x : List ℕ) (f : SourceFile) → IsInstance z d w p q f → (a : ValueTree) (b : Variable)
        → program.variable_named x f ≡ Some a
        → option_and_then (sites.variable_named x) (template_at u q) ≡ Some b → IsVariable d.files f a b
        → sees v (template.variable_value t q b) ≡ sees sw (in_file d p f (value_here a))
    variable_there x f n a b e k h =
        site_alike z d u m w marked p q f n (scope_site u q) refl (template.content_value b.name b.content)
        (λ here. value_of here (whole here) a [])
        (value_site z d u m sound w p q f n (scope_site u q) refl b.name a b.content
        ((sound.files p f n.file).variables x a e) h)

    pub same_variable : (x : List ℕ)
        → Same v sw (template.raw t (variable q x)) (program.raw d (variable p x))
    unfolding template.raw program.raw
    same_variable x =
        subst (λ o. Same v sw o (program.variable_value d p x))
        (sym
        (ap (λ b. if b then template.of_scope t q (sites.variable_named x) (λ y. Some (template.variable_value t q y))
        else None) (own_by q)
        ∙ then_some (template.variable_value t q) (option_and_then (sites.variable_named x) (template_at u q))))
        (both_find (λ f a b. IsVariable d.files f a b) (program.variable_named x) (sites.variable_named x) value_here
        (template.variable_value t q) (λ f e y h. h.variables x) (variable_there x))

    -- ---- outputs

    pub same_offered : (x : List ℕ)
        → Same v sw (template.raw t (offered q x)) (program.raw d (offered p x))
    unfolding template.raw program.raw
    same_offered x =
        subst (λ o. Same v sw o (of_file d p (λ f. program.output_folded f x) (λ o here. pure (bool true))))
        (sym (then_some (template.offered_value t q) (option_and_then (sites.output_named x) (template_at u q))))
        (both_find (λ f a b. IsOutput d.files f a b) (λ f. program.output_folded f x) (sites.output_named x)
        (λ o here. pure (bool true)) (template.offered_value t q) (λ f e y h. h.outputs x)
        (λ f n a b e k h.
        ap (λ c. sees v (template.condition_value t (scope_site u q) (option_map json c))) h.condition
        ∙ constant f (bool true)))

    output_there : (x : List ℕ) (f : SourceFile) → IsInstance z d w p q f → (a : OutputTree) (b : Output)
        → program.output_folded f x ≡ Some a
        → option_and_then (sites.output_named x) (template_at u q) ≡ Some b → IsOutput d.files f a b
        → sees v (template.output_value t q b) ≡ sees sw (in_file d p f (value_here a.value))
    output_there x f n a b e k h =
        site_alike z d u m w marked p q f n (scope_site u q) refl (template.output_content b.content)
        (λ here. value_of here (whole here) a.value [])
        (output_site z d u m sound w p q f n (scope_site u q) refl a.value b.content
        ((sound.files p f n.file).outputs x a e) h.content)

    pub same_output : (x : List ℕ) → Same v sw (template.raw t (output q x)) (program.raw d (output p x))
    unfolding template.raw program.raw
    same_output x =
        subst (λ o. Same v sw o (program.output_value d p x))
        (sym (then_some (template.output_value t q) (option_and_then (sites.output_named x) (template_at u q))))
        (both_find (λ f a b. IsOutput d.files f a b) (λ f. program.output_folded f x) (sites.output_named x)
        (λ o here. value_here o.value here) (template.output_value t q) (λ f e y h. h.outputs x) (output_there x))
