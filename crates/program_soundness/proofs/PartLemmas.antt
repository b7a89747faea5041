-- Parts that fit are sound.
use Rattle.std.proofs.Common.{◌≡◌, ◌⊎◌, inl, inr, ℕ, Bool, true, false, List, [], ◌∷◌, ◌++◌, Option, Some, None, refl}
use Rattle.std.proofs.Common.{ap, ◌∙◌}
use Rattle.std.specs.Prelude.{Result, Ok, Err, bytes_eq, codes, if◌then◌else◌}
use Rattle.std.specs.List.{AllByRecursion}
use Rattle.deploy_cells.specs.Cells.{World}
use Rattle.bicep_tree.specs.Tree.{FileTree}
use Rattle.bicep_resolved.specs.declared.leaf.Target.{Target}
use Rattle.bicep_resolved.specs.declared.leaf.Target.TheVariants as r
use Rattle.bicep_resolved.specs.Source.{SourceTree, SourceTrees, ReachTree, PropertyTrees, ValueTree, LoopTree}
use Rattle.bicep_resolved.specs.Source as s
use Rattle.bicep_resolved.specs.Place.{offset, value_offset}
use Rattle.bicep_declared.specs.Declarations.{BodyTree, DeclaredTree, OutputTree}
use Rattle.bicep_declared.specs.Declarations as d
use Rattle.bicep_names.specs.declared.kind.Kind.{Kind}
use Rattle.bicep_program.specs.Program.{ProgramFile}
use Rattle.bicep_signatures.specs.declared.kinds.Kinds.{Kinds}
use Rattle.bicep_signatures.specs.declared.kinds.Kinds.TheVariants as kinds
use Rattle.bicep_signatures.specs.declared.value_type.ValueType.{ValueType}
use Rattle.bicep_signatures.specs.declared.value_type.ValueType.TheVariants as type
use Rattle.bicep_signatures.specs.Kinds.{fits}
use Rattle.bicep_typing.specs.Typed.{Typed, Fitting, all_fit, before, wanted}
use Rattle.bicep_typing.specs.Names.{Types}
use Rattle.bicep_typing.specs.Typing.{type_of, value_type, element_of}
use Rattle.bicep_type_faults.specs.Places.{kinds_of, typed, expression_fits, value_fits, loop_fits, condition_fits}
use Rattle.bicep_type_faults.specs.Places.{link_fits, linked_fits, all_linked_fit, parent_fits, links_fit}
use Rattle.bicep_type_faults.specs.Places.{dependents_fit}
use Rattle.bicep_type_faults.specs.Parameters.{parameter_kinds}
use Rattle.bicep_type_faults.specs.Files.{resource_field_fits, resource_fields_fit, arguments_fit, braces_fit}
use Rattle.bicep_type_faults.specs.Files.{params_fit, module_field_fits, module_fields_fit, body_fits, file_of}
use Rattle.bicep_type_faults.specs.Files.{declaration_fits, output_fits}
use Rattle.bicep_meaning.specs.Around.{Here, Frame}
use Rattle.bicep_meaning.specs.Declared.{around}
use Rattle.bicep_soundness.specs.Entries.{AreCounting}
use Rattle.bicep_soundness.specs.Suited.{ReachSuited}
use Rattle.bicep_soundness.specs.Sound.{IsTypedIn}
use Rattle.bicep_soundness.proofs.CommonLemmas.{fits_value}
use Rattle.bicep_soundness.proofs.TypedLemmas.{never, Has, Takes, before_is, takes}
use Rattle.bicep_soundness.proofs.LawLemmas.{is_sound, is_value_sound}
use Rattle.program_soundness.specs.Parts.{Part, valued, loop_parts, condition_parts, linked_part, linked_parts}
use Rattle.program_soundness.specs.Parts.{parent_parts}
use Rattle.program_soundness.specs.Parts.{links, dependent_parts, resource_field_parts, resource_parts, argument_parts}
use Rattle.program_soundness.specs.Parts.{braces_parts, params_parts, module_field_parts, module_parts, body_parts}
use Rattle.program_soundness.specs.Parts.{declaration_parts, output_part}
use Rattle.program_soundness.specs.Sound.{IsSoundAt, IsPartSound}

pub both_have : {A B : Type 0} (a : Result A ℕ) (b : Result B ℕ) → Has (before a b) → Has a × Has b
both_have a b h = let g = before_is a b h.value h.is in (g.0, record { value = h.value; is = g.1 })

all_taken : (t : ValueType) → fits kinds.Anything t ≡ true
all_taken type.Any = refl
all_taken type.Null = refl
all_taken type.Text = refl
all_taken type.Int = refl
all_taken type.Bool = refl
all_taken type.Object = refl
all_taken type.Array = refl

element_index : (at : ℕ) (x : Target) (b : ℕ) (y : Typed) → Has (element_of at x b y) → Takes kinds.Int y
unfolding element_of
element_index at (r.Resource n) b y h = never at h.value h.is
element_index at (r.Module n file) b y h = never at h.value h.is
element_index at (r.ResourceLoop n) b y h = takes kinds.Int b y (both_have (wanted kinds.Int b y) all_fit h).0
element_index at (r.ModuleLoop n file) b y h = takes kinds.Int b y (both_have (wanted kinds.Int b y) all_fit h).0

joined : {A : Type 0} (P : A → Type 0) (xs ys : List A) → AllByRecursion P xs → AllByRecursion P ys
    → AllByRecursion P (xs ++ ys)
joined P [] ys p q = q
joined P (x ∷ xs) ys p q = (p.0, joined P xs ys p.1 q)

picked : (P : Part → Type 0) (b : Bool) (x y : Fitting) (ps qs : List Part) → (Has x → AllByRecursion P ps)
    → (Has y → AllByRecursion P qs) → Has (if b then x else y) → AllByRecursion P (if b then ps else qs)
picked P true x y ps qs f g h = f h
picked P false x y ps qs f g h = g h

module _ (ts : Types) (here : Here) (w : World) (h : IsTypedIn ts here w) (k : ℕ) (fs : List Frame)
    (c : AreCounting w fs) where
  abbrev Sound : Part → Type 0
  Sound = IsPartSound ts here w k fs

  abbrev All : List Part → Type 0
  All = AllByRecursion (IsPartSound ts here w k fs)

  -- ---- values

  at_place : (ks : Kinds) (x : ValueTree) → Takes ks (value_type ts x) → IsSoundAt ts here w k fs ks x
  at_place ks x g =
      let own = is_value_sound ts here w h k x fs g.value c g.is in
      record {
        its_type = g.value;
        has_type = g.is;
        is_sound = own;
        meets = λ v e. fits_value ks g.value v (own.typed v e) g.fits;
      }

  taken_at : (ks : Kinds) (at : ℕ) (x : ValueTree) → Has (typed (wanted ks at (value_type ts x)))
      → IsSoundAt ts here w k fs ks x
  taken_at ks at x g =
      at_place ks x (takes ks at (value_type ts x) (both_have (wanted ks at (value_type ts x)) all_fit g).0)

  anything : (x : ValueTree) → Has (typed (value_type ts x)) → IsSoundAt ts here w k fs kinds.Anything x
  anything x g =
      let t = (both_have (value_type ts x) all_fit g).0 in
      at_place kinds.Anything x (record { value = t.value; is = t.is; fits = all_taken t.value })

  loop_sound : (o : Option LoopTree) → Has (loop_fits ts o) → All (loop_parts o)
  loop_sound None g = tt
  loop_sound (Some (s.loop at xs)) g = (taken_at kinds.Array (offset xs) (s.plain xs) g, tt)

  condition_sound : (o : Option SourceTree) → Has (condition_fits ts o) → All (condition_parts o)
  condition_sound None g = tt
  condition_sound (Some e) g = (taken_at kinds.Bool (offset e) (s.plain e) g, tt)

  -- ---- links

  link_sound : (x : ReachTree) → Has (link_fits ts x) → ReachSuited ts here (around here k) w x fs
  link_sound (s.symbol at x) g = tt
  link_sound (s.element at x y) g =
      let t = element_index at x (offset y) (type_of ts y) g in
      let own = is_sound ts here w h k y fs t.value c t.is in (
        λ v e. elim (fits_value kinds.Int t.value v (own.typed v e) t.fits) [
          | inl p ↦ inl p
          | inr any ↦ inr (t.is ∙ ap (λ u. Ok u) any)
        ],
        own.suited,
      )

  linked_sound : (e : SourceTree) → Has (linked_fits ts e) → Sound (linked_part e)
  linked_sound (s.name at x) g = anything (s.plain (s.name at x)) g
  linked_sound (s.literal at v) g = anything (s.plain (s.literal at v)) g
  linked_sound (s.interpolated at first ps) g = anything (s.plain (s.interpolated at first ps)) g
  linked_sound (s.object at ps) g = anything (s.plain (s.object at ps)) g
  linked_sound (s.array at es) g = anything (s.plain (s.array at es)) g
  linked_sound (s.call at name es) g = anything (s.plain (s.call at name es)) g
  linked_sound (s.instance x) g = link_sound x g
  linked_sound (s.field x at f) g = anything (s.plain (s.field x at f)) g
  linked_sound (s.output x at n) g = anything (s.plain (s.output x at n)) g
  linked_sound (s.member e x n) g = anything (s.plain (s.member e x n)) g
  linked_sound (s.index e x i) g = anything (s.plain (s.index e x i)) g
  linked_sound (s.prefixed at p e) g = anything (s.plain (s.prefixed at p e)) g
  linked_sound (s.binary o a b) g = anything (s.plain (s.binary o a b)) g
  linked_sound (s.conditional e a b) g = anything (s.plain (s.conditional e a b)) g

  all_linked_sound : (es : SourceTrees) → Has (all_linked_fit ts es) → All (linked_parts es)
  all_linked_sound s.none g = tt
  all_linked_sound (s.more e es) g =
      let p = both_have (linked_fits ts e) (all_linked_fit ts es) g in
      (linked_sound e p.0, all_linked_sound es p.1)

  parent_sound : (v : ValueTree) → Has (parent_fits ts v) → All (parent_parts v)
  parent_sound (s.plain e) g = (linked_sound e g, tt)
  parent_sound (s.each l e) g = (anything (s.each l e) g, tt)

  links_sound : (e : SourceTree) → Has (links_fit ts e) → All (links e)
  links_sound (s.name at x) g = (anything (s.plain (s.name at x)) g, tt)
  links_sound (s.literal at v) g = (anything (s.plain (s.literal at v)) g, tt)
  links_sound (s.interpolated at first ps) g = (anything (s.plain (s.interpolated at first ps)) g, tt)
  links_sound (s.object at ps) g = (anything (s.plain (s.object at ps)) g, tt)
  links_sound (s.array at es) g = all_linked_sound es g
  links_sound (s.call at name es) g = (anything (s.plain (s.call at name es)) g, tt)
  links_sound (s.instance x) g = (anything (s.plain (s.instance x)) g, tt)
  links_sound (s.field x at f) g = (anything (s.plain (s.field x at f)) g, tt)
  links_sound (s.output x at n) g = (anything (s.plain (s.output x at n)) g, tt)
  links_sound (s.member e x n) g = (anything (s.plain (s.member e x n)) g, tt)
  links_sound (s.index e x i) g = (anything (s.plain (s.index e x i)) g, tt)
  links_sound (s.prefixed at p e) g = (anything (s.plain (s.prefixed at p e)) g, tt)
  links_sound (s.binary o a b) g = (anything (s.plain (s.binary o a b)) g, tt)
  links_sound (s.conditional e a b) g = (anything (s.plain (s.conditional e a b)) g, tt)

  dependents_sound : (v : ValueTree) → Has (dependents_fit ts v) → All (dependent_parts v)
  dependents_sound (s.plain e) g = links_sound e g
  dependents_sound (s.each l e) g = (anything (s.each l e) g, tt)

  -- ---- fields

  other_field : (v : ValueTree) → Has (typed (value_type ts v)) → All (valued kinds.Anything v ∷ [])
  other_field v g = (anything v g, tt)

  resource_field_sound : (name : List ℕ) (v : ValueTree) → Has (resource_field_fits ts name v)
      → All (resource_field_parts name v)
  unfolding resource_field_fits resource_field_parts
  resource_field_sound name v g =
      picked Sound (bytes_eq name (codes "parent")) (parent_fits ts v)
      (if bytes_eq name (codes "dependsOn") then dependents_fit ts v else typed (value_type ts v)) (parent_parts v)
      (if bytes_eq name (codes "dependsOn") then dependent_parts v else (valued kinds.Anything v ∷ []))
      (parent_sound v)
      (picked Sound (bytes_eq name (codes "dependsOn")) (dependents_fit ts v) (typed (value_type ts v))
      (dependent_parts v) (valued kinds.Anything v ∷ []) (dependents_sound v) (other_field v)) g

  resource_sound : (ps : PropertyTrees) → Has (resource_fields_fit ts ps) → All (resource_parts ps)
  resource_sound s.no_property g = tt
  resource_sound (s.property at name v ps) g =
      let p = both_have (resource_field_fits ts name v) (resource_fields_fit ts ps) g in
      joined Sound (resource_field_parts name v) (resource_parts ps) (resource_field_sound name v p.0)
      (resource_sound ps p.1)

  arguments_sound : (file : Option FileTree) (ps : PropertyTrees) → Has (arguments_fit ts file ps)
      → All (argument_parts file ps)
  arguments_sound file s.no_property g = tt
  arguments_sound file (s.property at name v ps) g =
      let p = both_have (value_fits ts (parameter_kinds file name) v) (arguments_fit ts file ps) g in
      (taken_at (parameter_kinds file name) (value_offset v) v p.0, arguments_sound file ps p.1)

  braces_sound : (file : Option FileTree) (e : SourceTree) → Has (braces_fit ts file e) → All (braces_parts file e)
  braces_sound file (s.name at x) g = tt
  braces_sound file (s.literal at v) g = tt
  braces_sound file (s.interpolated at first ps) g = tt
  braces_sound file (s.object at ps) g = arguments_sound file ps g
  braces_sound file (s.array at es) g = tt
  braces_sound file (s.call at name es) g = tt
  braces_sound file (s.instance x) g = tt
  braces_sound file (s.field x at f) g = tt
  braces_sound file (s.output x at n) g = tt
  braces_sound file (s.member e x n) g = tt
  braces_sound file (s.index e x i) g = tt
  braces_sound file (s.prefixed at p e) g = tt
  braces_sound file (s.binary o a b) g = tt
  braces_sound file (s.conditional e a b) g = tt

  params_sound : (file : Option FileTree) (v : ValueTree) → Has (params_fit ts file v) → All (params_parts file v)
  params_sound file (s.plain e) g = braces_sound file e g
  params_sound file (s.each l e) g = tt

  module_field_sound : (file : Option FileTree) (name : List ℕ) (v : ValueTree)
      → Has (module_field_fits ts file name v) → All (module_field_parts file name v)
  unfolding module_field_fits module_field_parts
  module_field_sound file name v g =
      picked Sound (bytes_eq name (codes "params")) (params_fit ts file v)
      (if bytes_eq name (codes "dependsOn") then dependents_fit ts v else typed (value_type ts v)) (params_parts file v)
      (if bytes_eq name (codes "dependsOn") then dependent_parts v else (valued kinds.Anything v ∷ []))
      (params_sound file v)
      (picked Sound (bytes_eq name (codes "dependsOn")) (dependents_fit ts v) (typed (value_type ts v))
      (dependent_parts v) (valued kinds.Anything v ∷ []) (dependents_sound v) (other_field v)) g

  module_sound : (file : Option FileTree) (ps : PropertyTrees) → Has (module_fields_fit ts file ps)
      → All (module_parts file ps)
  module_sound file s.no_property g = tt
  module_sound file (s.property at name v ps) g =
      let p = both_have (module_field_fits ts file name v) (module_fields_fit ts file ps) g in
      joined Sound (module_field_parts file name v) (module_parts file ps) (module_field_sound file name v p.0)
      (module_sound file ps p.1)

  -- ---- declarations

  body_sound : (b : BodyTree) (x : Fitting) (ps : List Part) → (Has x → All ps) → Has (body_fits ts b x)
      → All (body_parts b ps)
  body_sound b x ps f g =
      let p = both_have (loop_fits ts b.each) (before (condition_fits ts b.condition) x) g in
      let q = both_have (condition_fits ts b.condition) x p.1 in
      joined Sound (loop_parts b.each) (condition_parts b.condition ++ ps) (loop_sound b.each p.0)
      (joined Sound (condition_parts b.condition) ps (condition_sound b.condition q.0) (f q.1))

  pub declaration_sound : (files : List ProgramFile) (x : Kind) (y : DeclaredTree)
      → Has (declaration_fits files ts x y) → All (declaration_parts (file_of files x) y)
  declaration_sound files x (d.parameter at t) g = tt
  declaration_sound files x (d.parameter_with at t e) g = (taken_at (kinds_of t) (offset e) (s.plain e) g, tt)
  declaration_sound files x (d.variable at v) g = (anything v g, tt)
  declaration_sound files x (d.a_resource at q existing b) g =
      body_sound b (resource_fields_fit ts b.fields) (resource_parts b.fields) (resource_sound b.fields) g
  declaration_sound files x (d.a_module at b) g =
      body_sound b (module_fields_fit ts (file_of files x) b.fields) (module_parts (file_of files x) b.fields)
      (module_sound (file_of files x) b.fields) g

  pub output_sound : (o : OutputTree) → Has (output_fits ts o) → Sound (output_part o)
  output_sound o g = taken_at (kinds_of o.kind) (value_offset o.value) o.value g
