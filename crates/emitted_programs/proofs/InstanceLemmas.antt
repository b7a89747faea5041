-- What the declarations of a file become at a site of its template stands for what they mean in the instance.
use Rattle.std.proofs.Common.{◌≡◌, ◌<◌, ◌^◌, ℕ, Bool, true, false, length, codes, List, [], ◌∷◌}
use Rattle.std.proofs.Common.{Option, Some, None, refl, sym, ap, ◌∙◌, subst}
use Rattle.std.specs.Prelude.{if◌then◌else◌}
use Rattle.arm_value.specs.Json.{Json, Member, bool, object, pairs}
use Rattle.arm_value.specs.View.{json}
use Rattle.arm_value.specs.declared.value.Value.{Value}
use Rattle.arm_ids.specs.declared.id.Place.{Place}
use Rattle.arm_ids.specs.declared.id.ResourceId.{ResourceId}
use Rattle.reading.specs.Reading.{pure, continued, done}
use Rattle.reading.specs.World.{value_in}
use Rattle.arm_env.specs.declared.env.Looping.{Looping}
use Rattle.arm_env.specs.Look.{Looking, Surroundings}
use Rattle.arm_eval.specs.Trees.{tree_value}
use Rattle.function_lists.specs.Sizes.{size}
use Rattle.template_parts.specs.declared.content.Argument.{Argument}
use Rattle.template_parts.specs.declared.content.Content.{Content}
use Rattle.template_parts.specs.declared.looping.ResourceCopy.{ResourceCopy}
use Rattle.template_parts.specs.declared.mode.Form.{Form}
use Rattle.template_tree.specs.Tree.{TemplateTree}
use Rattle.deploy_cells.specs.Cells.{Position, Cell, World}
use Rattle.deploy_cells.specs.Guarded.{Reads}
use Rattle.plan_cells.specs.Meaning as template
use Rattle.plan_cells.specs.Resources.{Listed}
use Rattle.plan_cells.specs.Scopes.{loop_at}
use Rattle.plan_cells.specs.Sites.{Site}
use Rattle.bicep_resolved.specs.Source.{SourceTree, ValueTree, LoopTree}
use Rattle.bicep_resolved.specs.Source as s
use Rattle.bicep_meaning.specs.Around as source
use Rattle.bicep_meaning.specs.Around.{Here, Around}
use Rattle.bicep_meaning.specs.Declared as meaning
use Rattle.bicep_meaning.specs.Files.{SourceFile}
use Rattle.bicep_meaning.specs.Instances.{SourceProgram, Put, place_at, here_in, frames_by, frames_of, body_fields}
use Rattle.bicep_meaning.specs.Meaning.{value, value_of, id_text}
use Rattle.bicep_emission.specs.Alike.{Seen, seen_in}
use Rattle.bicep_emission.specs.Answered.{Sides, Answers, IsPlainPlace}
use Rattle.bicep_emission.specs.Emitted.{Frame, Scope, emitted}
use Rattle.bicep_emission.specs.Stands.{Like, Stands, FramesStand, ScopeStands, surroundings}
use Rattle.bicep_emission.proofs.OutputLemmas.{deployment_made, id_like, made_is}
use Rattle.bicep_emission.proofs.StateLemmas.{IsReadable}
use Rattle.declaration_laws.specs.Standing.{EmissionStands}
use Rattle.declaration_laws.proofs.DeclarationLemmas.{all_stand}
use Rattle.emitted_trees.specs.EmittedTrees.{tree_of, members_of, has_copy}
use Rattle.emitted_trees.specs.EmittedTrees as trees
use Rattle.emitted_trees.specs.Sound.{IsSound, IsSoundValue, allowed}
use Rattle.emitted_trees.specs.Standing.{FramesStandInside}
use Rattle.emitted_trees.specs.Templates as t
use Rattle.emitted_trees.proofs.TreeLemmas.{law, named_like, output_like, runs_stand, written_value}
use Rattle.emitted_sites.specs.Values.{AreBoth, IsTree, IsContent, IsCondition}
use Rattle.emitted_sites.specs.Files.{emission, module_id, frames_around, IsLoop, IsArgument, AreMembers, IsEmitted}
use Rattle.emitted_sites.specs.Files as files_of
use Rattle.emitted_sites.specs.Marks.{IsMarked}
use Rattle.emitted_sites.specs.Sites.{sides, IsInstance, AreLike}
use Rattle.emitted_sites.proofs.PlaceLemmas.{plain_place}
use Rattle.emitted_sites.proofs.SiteLemmas.{answers, answers_variables}
use Rattle.emitted_programs.specs.Sound.{IsSoundProgram}
use Rattle.emitted_programs.proofs.ContentLemmas.{content_within, named_content, output_content}
use Rattle.emitted_programs.proofs.TextLemmas.{expression_like, count_like, name_like, always_like}

-- what an expression or an object is
abbrev object_if : Bool → t.TemplateTree → t.TemplateTree → t.TemplateTree
object_if b x y = if b then x else y

true_seen : (w : World) (n : Cell → Bool) → seen_in w n (let r : Reads Json = pure (bool true) in r)
    ≡ (Some (bool true), false)
unfolding seen_in
true_seen w n = refl

module _ (z : Form) (d : SourceProgram) (u : TemplateTree) (m : IsEmitted z d.files u) (sound : IsSoundProgram d)
    (w : World) (p q : Position) (f : SourceFile) (at : IsInstance z d w p q f) (e : Site)
    (is_at : e.at ≡ q) where
  abbrev pub Likes : (Surroundings → Looking Json) → (Here → Reads Json) → Type 0
  Likes r s = AreLike z d u w p f e r s

  module _ (marked : IsMarked z d w) (place : Place) (k : value_in w (place_at d.place p) ≡ Some place) where
    abbrev x : Sides
    x = sides z d u w marked.marks place e

    abbrev here : Here
    here = here_in d p f place

    abbrev around : Surroundings
    around = surroundings here e.loops

    abbrev sc : Scope
    sc = (emission d.files f).scope

    abbrev a : Around
    a = meaning.whole here

    abbrev sees : Looking Json → Seen Json
    sees r = seen_in x.template x.template_marks r

    plain : IsPlainPlace here.place
    plain = plain_place w d.place place p sound.place k

    ans : Answers x here
    ans = answers z d u m w marked p q f at place e is_at

    stand : (ls : List Looping) → EmissionStands x here ls (emission d.files f) a
    stand ls =
        all_stand x here ls plain ans (answers_variables z d u m w marked p q f at place e is_at)
        (sound.files p f at.file).declarations (length f.symbols)

    scope_stands : (ls : List Looping) → ScopeStands x (surroundings here ls) sc a
    scope_stands ls = (stand ls).scope

    -- ---- values outside of resources

    named_there : (name : List ℕ) (v : ValueTree) (c : Content) (ls : List Looping) (fs : List Frame)
        (gs : List source.Frame) → e.loops ≡ ls → IsSoundValue allowed v → FramesStandInside x here ls fs gs
        → IsContent (trees.value_of f d.files sc (Some name) v fs) c
        → Like x (template.content_value name c around) (value_of here a v gs)
    named_there name v c ls fs gs g i h n =
        subst (λ ls. Like x (template.content_value name c (surroundings here ls)) (value_of here a v gs)) (sym g)
        (ap sees
        (named_content name (trees.value_of f d.files sc (Some name) v fs) c (surroundings here ls) n)
        ∙ named_like x here plain ans sc a scope_stands name v ls fs gs i h
        (content_within (trees.value_of f d.files sc (Some name) v fs) c n))

    output_there : (v : ValueTree) (c : Content) → IsSoundValue allowed v
        → IsContent (trees.value_of f d.files sc None v []) c
        → Like x (template.output_content c around) (value_of here a v [])
    output_there v c i n =
        ap sees (output_content (trees.value_of f d.files sc None v []) c around n)
        ∙ output_like x here plain ans sc a scope_stands v e.loops i
        (content_within (trees.value_of f d.files sc None v []) c n)

    tree_there : (src : SourceTree) (j : Json) (ls : List Looping) (fs : List Frame) (gs : List source.Frame)
        → e.loops ≡ ls → IsSound allowed src → FramesStandInside x here ls fs gs
        → IsTree (tree_of f d.files sc src fs) j → Like x (tree_value j around) (value here a src gs)
    tree_there src j ls fs gs g i h n =
        subst (λ ls. Like x (tree_value j (surroundings here ls)) (value here a src gs)) (sym g)
        (ap (λ j. sees (tree_value j (surroundings here ls))) n.is
        ∙ law x here plain ans sc a scope_stands allowed src ls fs gs i h n.is_within)

    no_frames : (ls : List Looping) → FramesStandInside x here ls [] []
    no_frames ls inner h = tt

    -- ---- resources

    loop_stands : (n i : ℕ) (o : Option LoopTree) (c : Option ResourceCopy) → AreBoth (IsLoop d.files f n) o c
        → i < 2 ^ 63 → FramesStandInside x here (loop_at c i) (frames_around (emission d.files f) n o)
        (frames_by (a.items n) o i)
    loop_stands n i None None h l = no_frames []
    loop_stands n i None (Some c) h l = absurd h
    loop_stands n i (Some o) None h l = absurd h
    loop_stands n i (Some o) (Some c) h l =
        runs_stand x here plain ans sc a scope_stands n (record { name = Some c.name; index = i; main = true }) []
        refl l

    items_there : (n : ℕ) (o : LoopTree) (c : ResourceCopy) → IsLoop d.files f n o c
        → Like x (tree_value (json c.count) around) (continued (a.items n) (λ j. done (size (j ∷ []))))
    items_there n o c h =
        count_like x around (sc.items n) (json c.count) (a.items n) h.count
        (((scope_stands e.loops).items n).alike ∙ (scope_stands e.loops).items_capped n)

    -- ---- ids

    -- an id is read again from its text
    pub id_readable : (n : ℕ) (i : ResourceId) → value_in w (a.id n []) ≡ Some i → IsReadable i
    id_readable n i g = (((scope_stands []).id n [] [] tt).is_of_resource i g).is_read

    pub module_readable : (j : Json) (i : ResourceId) → deployment_made here j ≡ Some i → IsReadable i
    module_readable j i g = (made_is x here e.loops plain ans j i g).0

    module_there : (n : ℕ) (j : Json) → IsTree (t.expression (module_id (sc.name n []))) j
        → Like x (tree_value j around) (id_text (continued (a.name n []) (λ j. done (deployment_made here j))))
    module_there n j h =
        ap (λ j. sees (tree_value j around)) h.is
        ∙ ap sees (written_value around (module_id (sc.name n [])) h.is_within)
        ∙ id_like x here e.loops plain ans (sc.name n []) (a.name n [])
        (((scope_stands e.loops).name n [] [] tt).alike ∙ (scope_stands e.loops).names_capped n [])

  -- ---- at the site

  pub value_site : (name : List ℕ) (v : ValueTree) (c : Content) → IsSoundValue allowed v
      → IsContent (trees.value_of f d.files (emission d.files f).scope (Some name) v []) c
      → Likes (template.content_value name c) (λ here. value_of here (meaning.whole here) v [])
  value_site name v c i n =
      λ marked place k. named_there marked place k name v c e.loops [] [] refl i (no_frames marked place k e.loops) n

  pub output_site : (v : ValueTree) (c : Content) → IsSoundValue allowed v
      → IsContent (trees.value_of f d.files (emission d.files f).scope None v []) c
      → Likes (template.output_content c) (λ here. value_of here (meaning.whole here) v [])
  output_site v c i n = λ marked place k. output_there marked place k v c i n

  pub default_site : (src : SourceTree) (j : Json) → IsSound allowed src
      → IsTree (tree_of f d.files (emission d.files f).scope src []) j
      → Likes (tree_value j) (λ here. value here (meaning.whole here) src [])
  default_site src j i n =
      λ marked place k. tree_there marked place k src j e.loops [] [] refl i (no_frames marked place k e.loops) n

  pub count_site : (n : ℕ) (o : LoopTree) (c : ResourceCopy) → IsLoop d.files f n o c
      → Likes (tree_value (json c.count)) (λ here. continued ((meaning.whole here).items n) (λ j. done (size (j ∷ []))))
  count_site n o c h = λ marked place k. items_there marked place k n o c h

  pub module_site : (n : ℕ) (j : Json) → IsTree (t.expression (module_id ((emission d.files f).scope.name n []))) j
      → Likes (tree_value j)
      (λ here. id_text (continued ((meaning.whole here).name n []) (λ j. done (deployment_made here j))))
  module_site n j h = λ marked place k. module_there marked place k n j h

  module _ (y : Put) (x : Listed) (h : files_of.IsResource d.files f y x) (i : ℕ) (l : i < 2 ^ 63)
      (is_loop : e.loops ≡ loop_at x.declaration.copy i) where
    abbrev fs : List Frame
    fs = files_of.frames_of d.files f y

    inside : (marked : IsMarked z d w) (place : Place) (k : value_in w (place_at d.place p) ≡ Some place)
        → FramesStandInside (sides z d u w marked.marks place e) (here_in d p f place) (loop_at x.declaration.copy i) fs
        (frames_of (here_in d p f place) y i)
    inside marked place k = loop_stands marked place k y.number i y.body.each x.declaration.copy h.loop l

    direct : (marked : IsMarked z d w) (place : Place) (k : value_in w (place_at d.place p) ≡ Some place)
        → FramesStand (sides z d u w marked.marks place e) (surroundings (here_in d p f place) e.loops) fs
        (frames_of (here_in d p f place) y i)
    direct marked place k =
        subst
        (λ ls. FramesStand (sides z d u w marked.marks place e) (surroundings (here_in d p f place) ls) fs
        (frames_of (here_in d p f place) y i)) (sym is_loop) (inside marked place k [] tt)

    pub argument_site : (v : ValueTree) (c : Argument) → IsSoundValue allowed v → IsArgument d.files f y v c
        → Likes (template.content_value (codes "value") c.content)
        (λ here. value_of here (meaning.whole here) v (frames_of here y i))
    argument_site v c s n =
        λ marked place k. named_there marked place k (codes "value") v c.content (loop_at x.declaration.copy i) fs
        (frames_of (here_in d p f place) y i) is_loop s (inside marked place k) n

    pub condition_site : (v : Value) → IsCondition ((emission d.files f).condition y.number fs) (Some v)
        → Likes (tree_value (json v)) (λ here. (meaning.whole here).condition y.number (frames_of here y i))
    condition_site v n =
        λ marked place k. let st = stand marked place k e.loops in
        expression_like (sides z d u w marked.marks place e) (surroundings (here_in d p f place) e.loops)
        ((emission d.files f).condition y.number fs) (json v)
        ((meaning.whole (here_in d p f place)).condition y.number (frames_of (here_in d p f place) y i)) n
        (st.condition y.number fs (frames_of (here_in d p f place) y i) (direct marked place k))
        (st.conditions_capped y.number (frames_of (here_in d p f place) y i))

    -- a condition that is left out is true
    pub always_site : IsCondition ((emission d.files f).condition y.number fs) None → (marked : IsMarked z d w)
        (place : Place) → value_in w (place_at d.place p) ≡ Some place
        → seen_in w marked.marks.source
        ((meaning.whole (here_in d p f place)).condition y.number (frames_of (here_in d p f place) y i))
        ≡ (Some (bool true), false)
    always_site n marked place k =
        let st = stand marked place k e.loops in
        let here = here_in d p f place in
        let r = (meaning.whole here).condition y.number (frames_of here y i) in
        always_like (sides z d u w marked.marks place e) (surroundings here e.loops) r
        (subst (λ c. Stands (sides z d u w marked.marks place e) (surroundings here e.loops) c r) n
        (st.condition y.number fs (frames_of here y i) (direct marked place k)))
        (st.conditions_capped y.number (frames_of here y i))
        ∙ true_seen w marked.marks.source

    pub name_site : Likes (tree_value (json x.declaration.name))
        (λ here. (meaning.whole here).full_name y.number (frames_of here y i))
    name_site =
        λ marked place k. let st = stand marked place k e.loops in
        name_like (sides z d u w marked.marks place e) (surroundings (here_in d p f place) e.loops)
        ((emission d.files f).full_name y.number fs) (json x.declaration.name)
        ((meaning.whole (here_in d p f place)).full_name y.number (frames_of (here_in d p f place) y i)) h.name
        (st.full_name y.number fs (frames_of (here_in d p f place) y i) (direct marked place k))
        (st.full_names_capped y.number (frames_of (here_in d p f place) y i))

    -- the object of the fields has no member that states loops
    object_is : has_copy (body_fields y.body.fields) ≡ false
        → tree_of f d.files (emission d.files f).scope (s.object y.body.at (body_fields y.body.fields)) fs
        ≡ t.object (members_of f d.files (emission d.files f).scope (body_fields y.body.fields) fs)
    object_is n =
        ap
        (λ b. object_if b
        (t.expression
        (emitted f d.files (emission d.files f).scope (s.object y.body.at (body_fields y.body.fields)) fs))
        (t.object (members_of f d.files (emission d.files f).scope (body_fields y.body.fields) fs))) n

    pub body_site : (ms : List Member) → has_copy (body_fields y.body.fields) ≡ false
        → IsSound allowed (s.object y.body.at (body_fields y.body.fields)) → AreMembers d.files f y ms
        → Likes (tree_value (object (pairs ms)))
        (λ here. value here (meaning.whole here) (s.object y.body.at (body_fields y.body.fields))
        (frames_of here y i))
    body_site ms c o n =
        λ marked place k. tree_there marked place k (s.object y.body.at (body_fields y.body.fields)) (object (pairs ms))
        (loop_at x.declaration.copy i) fs (frames_of (here_in d p f place) y i) is_loop o (inside marked place k)
        (subst (λ v. IsTree v (object (pairs ms))) (sym (object_is c)) n)
