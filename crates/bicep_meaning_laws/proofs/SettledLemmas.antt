-- Where what a declaration mentions means the same, so does the declaration; so declarations without a circle settle.
use Rattle.std.proofs.Common.{◌≡◌, ℕ, zero, suc, ◌<◌, List, [], ◌∷◌, ◌++◌, Option, Some, None, Bool, true, false}
use Rattle.std.proofs.Common.{refl}
use Rattle.std.proofs.Common.{ap, ◌∙◌, cond, arith}
use Rattle.std.specs.Prelude.{codes, bytes_eq, option_and_then}
use Rattle.arm_value.specs.Json.{Json}
use Rattle.arm_value.specs.Look.{fold}
use Rattle.reading.specs.Reading.{done, pure, read, continued, both}
use Rattle.reading.specs.World.{Each}
use Rattle.deploy_cells.specs.Cells.{variable}
use Rattle.deploy_cells.specs.Guarded.{Reads}
use Rattle.bicep_meaning.specs.Kind.{Kind}
use Rattle.bicep_meaning.specs.Kind.TheVariants as k
use Rattle.bicep_circles.specs.Source.{SourceTree, ReachTree, PropertyTrees, ValueTree, LoopTree, field_named}
use Rattle.bicep_circles.specs.Source as s
use Rattle.bicep_circles.specs.Target.{number_of, target_of}
use Rattle.bicep_meaning.specs.Declarations.{BodyTree, DeclaredTree}
use Rattle.bicep_meaning.specs.Declarations as d
use Rattle.bicep_circles.specs.Mentions.{reach_mentions, property_mentions, value_mentions, each_mentions, condition_mentions, body_mentions}
use Rattle.bicep_meaning.specs.Files.{symbol_kind, symbol_name, declaration, Parent, no_parent, inside, below, below_value, fields_parent, inside_or, around_kind, parent, type_of}
use Rattle.bicep_meaning.specs.Rows.{capped, and_value}
use Rattle.bicep_meaning.specs.Around.{Here, Frame, Around}
use Rattle.bicep_meaning.specs.Meaning.{frames}
use Rattle.bicep_meaning.specs.Declared.{body_of, name_after, id_after, id_named, value_or_none, variable_value, over, module_name, name_by, name_value, full_name_by, id_by, id_of, condition_by, condition_of, declared, around}
use Rattle.bicep_meaning_laws.specs.Ranked.{mentioned_in, mentioned_around, mentions_at, IsRanked, IsSame, IsSettled}
use Rattle.bicep_meaning_laws.proofs.SameLemmas.{first, second, reached, same_bare, same_value, same_frames}

abbrev some_mentions : Option ValueTree → List ℕ
some_mentions None = []
some_mentions (Some v) = value_mentions v

found_by : (P : ℕ → Type 0) (c : Bool) (v : ValueTree) (o : Option ValueTree) → Each P (value_mentions v)
    → Each P (some_mentions o) → Each P (some_mentions (cond c (Some v) o))
found_by P true v o h k = h
found_by P false v o h k = k

found_mentions : (P : ℕ → Type 0) (name : List ℕ) (ps : PropertyTrees) → Each P (property_mentions ps)
    → Each P (some_mentions (field_named name ps))
found_mentions P name s.no_property h = tt
found_mentions P name (s.property at x v ps) h =
    found_by P (bytes_eq x name) v (field_named name ps) (first P (value_mentions v) (property_mentions ps) h)
    (found_mentions P name ps (second P (value_mentions v) (property_mentions ps) h))

module _ (here : Here) (a b : Around) where
  abbrev Same : List ℕ → Type 0
  Same ms = Each (IsSame a b) ms

  abbrev SameParent : Parent → Type 0
  SameParent no_parent = Unit {0}
  SameParent (inside n) = IsSame a b n
  SameParent (below r) = Same (reach_mentions r)

  same_below : (o : Option ValueTree) → Same (some_mentions o) → SameParent (below_value o)
  same_below None h = tt
  same_below (Some (s.each l e)) h = tt
  same_below (Some (s.plain (s.instance r))) h = h
  same_below (Some (s.plain (s.name at x))) h = tt
  same_below (Some (s.plain (s.literal at v))) h = tt
  same_below (Some (s.plain (s.interpolated at start ps))) h = tt
  same_below (Some (s.plain (s.object at ps))) h = tt
  same_below (Some (s.plain (s.array at es))) h = tt
  same_below (Some (s.plain (s.call at name es))) h = tt
  same_below (Some (s.plain (s.field r at x))) h = tt
  same_below (Some (s.plain (s.output r at n))) h = tt
  same_below (Some (s.plain (s.member e n x))) h = tt
  same_below (Some (s.plain (s.index e n i))) h = tt
  same_below (Some (s.plain (s.prefixed at p e))) h = tt
  same_below (Some (s.plain (s.binary o x y))) h = tt
  same_below (Some (s.plain (s.conditional c x y))) h = tt

  body_fields_same : (x : BodyTree) → Same (body_mentions x) → Same (property_mentions x.fields)
  body_fields_same x h =
      second (IsSame a b) (condition_mentions x.condition) _
      (second (IsSame a b) (each_mentions x.each) (condition_mentions x.condition ++ property_mentions x.fields) h)

  body_condition_same : (x : BodyTree) → Same (body_mentions x) → Same (condition_mentions x.condition)
  body_condition_same x h =
      first (IsSame a b) _ (property_mentions x.fields)
      (second (IsSame a b) (each_mentions x.each) (condition_mentions x.condition ++ property_mentions x.fields) h)

  body_each_same : (x : BodyTree) → Same (body_mentions x) → Same (each_mentions x.each)
  body_each_same x h =
      first (IsSame a b) _ (condition_mentions x.condition ++ property_mentions x.fields) h

  same_fields_parent : (u : Option DeclaredTree) → Same (mentioned_in u) → SameParent (fields_parent u)
  same_fields_parent None h = tt
  same_fields_parent (Some (d.parameter at t)) h = tt
  same_fields_parent (Some (d.parameter_with at t e)) h = tt
  same_fields_parent (Some (d.variable at v)) h = tt
  same_fields_parent (Some (d.a_module at x)) h = tt
  same_fields_parent (Some (d.a_resource at q e x)) h =
      same_below (field_named (codes "parent") x.fields)
      (found_mentions (IsSame a b) (codes "parent") x.fields (body_fields_same x h))

  same_parent_by : (o : Option Kind) (p : Parent) → Same (mentioned_around o) → SameParent p
      → SameParent (inside_or (option_and_then around_kind o) p)
  same_parent_by None p h q = q
  same_parent_by (Some k.Parameter) p h q = q
  same_parent_by (Some k.Variable) p h q = q
  same_parent_by (Some (k.Resource None)) p h q = q
  same_parent_by (Some (k.Resource (Some n))) p h q = h.0
  same_parent_by (Some (k.ResourceLoop None)) p h q = q
  same_parent_by (Some (k.ResourceLoop (Some n))) p h q = h.0
  same_parent_by (Some (k.Module file)) p h q = q
  same_parent_by (Some (k.ModuleLoop file)) p h q = q

  module _ (n : ℕ) (h : Same (mentions_at here.file n)) where
    in_declaration : Same (mentioned_in (declaration here.file n))
    in_declaration = first (IsSame a b) _ (mentioned_around (symbol_kind here.file n)) h

    same_parent : SameParent (parent here.file n)
    same_parent =
        same_parent_by (symbol_kind here.file n) (fields_parent (declaration here.file n))
        (second (IsSame a b) (mentioned_in (declaration here.file n)) _ h)
        (same_fields_parent (declaration here.file n) in_declaration)

  same_some : (o : Option ValueTree) (fs : List Frame) → Same (some_mentions o)
      → value_or_none here a o fs ≡ value_or_none here b o fs
  same_some None fs h = refl
  same_some (Some v) fs h = ap capped (same_value here a b v fs h)

  same_variable : (n : ℕ) (u : Option DeclaredTree) → Same (mentioned_in u)
      → variable_value here a n u ≡ variable_value here b n u
  same_variable n None h = refl
  same_variable n (Some (d.parameter at t)) h = refl
  same_variable n (Some (d.parameter_with at t e)) h = refl
  same_variable n (Some (d.a_resource at q e x)) h = refl
  same_variable n (Some (d.a_module at x)) h = refl
  same_variable n (Some (d.variable at v)) h =
      ap (λ r. cond (here.file.has_entry n)
      (continued (done (symbol_name here.file n)) (λ x. read (variable here.at (fold x)))) (capped r))
      (same_value here a b v [] h)

  same_over : (l : Option LoopTree) → Same (each_mentions l) → over here a l ≡ over here b l
  same_over None h = refl
  same_over (Some (s.loop at xs)) h = ap capped (same_bare here a b xs [] h)

  same_items : (u : Option DeclaredTree) → Same (mentioned_in u)
      → over here a (option_and_then (λ x. x.each) (option_and_then body_of u))
      ≡ over here b (option_and_then (λ x. x.each) (option_and_then body_of u))
  same_items None h = refl
  same_items (Some (d.parameter at t)) h = refl
  same_items (Some (d.parameter_with at t e)) h = refl
  same_items (Some (d.variable at v)) h = refl
  same_items (Some (d.a_resource at q e x)) h = same_over x.each (body_each_same x h)
  same_items (Some (d.a_module at x)) h = same_over x.each (body_each_same x h)

  same_module_name : (n : ℕ) (x : BodyTree) (o : Option ValueTree) (fs : List Frame) → Same (some_mentions o)
      → module_name here a n x o fs ≡ module_name here b n x o fs
  same_module_name n x None fs h = refl
  same_module_name n x (Some v) fs h = ap capped (same_value here a b v fs h)

  same_name : (n : ℕ) (u : Option DeclaredTree) (fs : List Frame) → Same (mentioned_in u)
      → name_by here a n u fs ≡ name_by here b n u fs
  same_name n None fs h = refl
  same_name n (Some (d.parameter at t)) fs h = refl
  same_name n (Some (d.parameter_with at t e)) fs h = refl
  same_name n (Some (d.variable at v)) fs h = refl
  same_name n (Some (d.a_resource at q e x)) fs h =
      same_some (field_named (codes "name") x.fields) fs
      (found_mentions (IsSame a b) (codes "name") x.fields (body_fields_same x h))
  same_name n (Some (d.a_module at x)) fs h =
      same_module_name n x (field_named (codes "name") x.fields) fs
      (found_mentions (IsSame a b) (codes "name") x.fields (body_fields_same x h))

  same_full_name : (p : Parent) (r t : Reads Json) (fs : List Frame) → SameParent p → r ≡ t
      → full_name_by here a p r fs ≡ full_name_by here b p t fs
  same_full_name no_parent r t fs h e = e
  same_full_name (inside n) r t fs h e =
      let p = h.full_name [] in
      λ i. continued (both (p i) (e i)) (λ p. pure (name_after p.0 p.1))
  same_full_name (below x) r t fs h e =
      let q = reached (IsSame a b) x h in
      let p = ap (a.full_name (number_of (target_of x))) (same_frames here a b x fs h)
      ∙ q.full_name (frames here b x fs) in
      λ i. continued (both (p i) (e i)) (λ p. pure (name_after p.0 p.1))

  same_id_by : (p : Parent) (kind : List ℕ) (r t : Reads Json) (fs : List Frame) → SameParent p → r ≡ t
      → id_by here a p kind r fs ≡ id_by here b p kind t fs
  same_id_by no_parent kind r t fs h e = ap (λ r. continued r (λ j. done (id_named here.place kind j))) e
  same_id_by (inside n) kind r t fs h e =
      let p = h.id [] in
      λ i. continued (both (p i) (e i)) (λ p. done (id_after kind p.0 p.1))
  same_id_by (below x) kind r t fs h e =
      let q = reached (IsSame a b) x h in
      let p = ap (a.id (number_of (target_of x))) (same_frames here a b x fs h) ∙ q.id (frames here b x fs) in
      λ i. continued (both (p i) (e i)) (λ p. done (id_after kind p.0 p.1))

  same_condition_by : (p : Parent) (c : Option SourceTree) (fs : List Frame) → SameParent p
      → Same (condition_mentions c) → condition_by here a p c fs ≡ condition_by here b p c fs
  same_condition_by (inside n) (Some c) fs h e =
      let p = h.condition [] in
      let q = same_bare here a b c fs e in
      λ i. and_value (p i) (capped (q i))
  same_condition_by (inside n) None fs h e = h.condition []
  same_condition_by no_parent (Some c) fs h e = ap capped (same_bare here a b c fs e)
  same_condition_by (below x) (Some c) fs h e = ap capped (same_bare here a b c fs e)
  same_condition_by no_parent None fs h e = refl
  same_condition_by (below x) None fs h e = refl

  same_id : (n : ℕ) (u : Option DeclaredTree) (fs : List Frame) → SameParent (parent here.file n)
      → name_value here a n fs ≡ name_value here b n fs → id_of here a n u fs ≡ id_of here b n u fs
  same_id n None fs h e = refl
  same_id n (Some (d.parameter at t)) fs h e = refl
  same_id n (Some (d.parameter_with at t x)) fs h e = refl
  same_id n (Some (d.variable at v)) fs h e = refl
  same_id n (Some (d.a_module at x)) fs h e = refl
  same_id n (Some (d.a_resource at q y x)) fs h e =
      same_id_by (parent here.file n) (type_of here.file n).kind (name_value here a n fs) (name_value here b n fs)
      fs h e

  same_condition : (n : ℕ) (u : Option DeclaredTree) (fs : List Frame) → SameParent (parent here.file n)
      → Same (mentioned_in u) → condition_of here a n (option_and_then body_of u) fs
      ≡ condition_of here b n (option_and_then body_of u) fs
  same_condition n None fs h e = refl
  same_condition n (Some (d.parameter at t)) fs h e = refl
  same_condition n (Some (d.parameter_with at t x)) fs h e = refl
  same_condition n (Some (d.variable at v)) fs h e = refl
  same_condition n (Some (d.a_module at x)) fs h e =
      same_condition_by (parent here.file n) x.condition fs h (body_condition_same x e)
  same_condition n (Some (d.a_resource at q y x)) fs h e =
      same_condition_by (parent here.file n) x.condition fs h (body_condition_same x e)

  pub same_declared : (n : ℕ) → Same (mentions_at here.file n) → IsSame (declared here a) (declared here b) n
  unfolding declared
  same_declared n h =
      let e = in_declaration n h in
      let p = same_parent n h in
      record {
        variable = same_variable n (declaration here.file n) e;
        items = same_items (declaration here.file n) e;
        name = λ fs. same_name n (declaration here.file n) fs e;
        full_name = λ fs. same_full_name (parent here.file n) (name_value here a n fs) (name_value here b n fs) fs p
            (same_name n (declaration here.file n) fs e);
        condition = λ fs. same_condition n (declaration here.file n) fs p e;
        id = λ fs. same_id n (declaration here.file n) fs p (same_name n (declaration here.file n) fs e);
      }

module _ (here : Here) (rank : ℕ → ℕ) (ranked : IsRanked here.file rank) where
  lower : (k n : ℕ) (P : ℕ → Type 0) (ns : List ℕ) → rank n < suc k → Each (λ m. rank m < rank n) ns
      → ((m : ℕ) → rank m < k → P m) → Each P ns
  lower k n P [] h g f = tt
  lower k n P (m ∷ ns) h g f = (f m (let g0 = g.0 in omega arith), lower k n P ns h g.1 f)

  settled_at : (k n : ℕ) → rank n < k → IsSame (around here k) (around here (suc k)) n
  unfolding around
  settled_at zero n h = absurd (omega arith)
  settled_at (suc k) n h =
      same_declared here (around here k) (around here (suc k)) n
      (lower k n (IsSame (around here k) (around here (suc k))) (mentions_at here.file n) h (ranked n)
      (settled_at k))

  pub settled : (k : ℕ) → ((n : ℕ) → rank n < k) → IsSettled here (around here k)
  unfolding around
  settled k h n = settled_at k n (h n)
