-- Where what a declaration mentions becomes the same, so does the declaration; so declarations without a circle settle.
use Rattle.std.proofs.Common.{◌≡◌, ℕ, zero, suc, ◌<◌, List, [], ◌∷◌, ◌++◌, Option, Some, None, Bool, true, false}
use Rattle.std.proofs.Common.{refl}
use Rattle.std.proofs.Common.{ap, ◌∙◌, cond, arith, codes}
use Rattle.std.specs.Prelude.{bytes_eq, option_and_then}
use Rattle.arm_expr.specs.Tree.{Tree, call}
use Rattle.reading.specs.World.{Each}
use Rattle.bicep_declared.specs.Kind.{Kind}
use Rattle.bicep_declared.specs.Kind.TheVariants as k
use Rattle.bicep_declared.specs.Source.{SourceTree, ReachTree, PropertyTrees, ValueTree, LoopTree, field_named}
use Rattle.bicep_declared.specs.Source as s
use Rattle.bicep_declared.specs.Target.{number_of, target_of}
use Rattle.bicep_declared.specs.Declarations.{BodyTree, DeclaredTree}
use Rattle.bicep_declared.specs.Declarations as d
use Rattle.bicep_meaning_laws.specs.Mentions.{mentions, reach_mentions, property_mentions, value_mentions, each_mentions}
use Rattle.bicep_meaning_laws.specs.Mentions.{condition_mentions, body_mentions}
use Rattle.bicep_meaning_laws.specs.Files.{SourceFile, symbol_kind, symbol_name, declaration, Parent, no_parent}
use Rattle.bicep_meaning_laws.specs.Files.{inside, below, below_value, fields_parent, inside_or, around_kind, parent}
use Rattle.bicep_meaning_laws.specs.Files.{type_of}
use Rattle.bicep_meaning_laws.specs.Declared.{body_of}
use Rattle.bicep_meaning_laws.specs.Ranked.{mentioned_in, mentioned_around, mentions_at, IsRanked}
use Rattle.bicep_meaning_laws.proofs.SameLemmas.{first, second, reached}
use Rattle.declaration_laws.specs.Emitted.{Frame, two, emitted, emitted_value, frames_of}
use Rattle.declaration_laws.specs.Declared.{Emission, with_slash, variable_entry, parts_of, number_of_parts}
use Rattle.declaration_laws.specs.Declared.{id_of_parts, value_or_none, variable_of, over, module_name}
use Rattle.declaration_laws.specs.Declared.{name_by, name_of, full_name_by, condition_by, condition_of, parts_by}
use Rattle.declaration_laws.specs.Declared.{parts_at, id_at, next, through}
use Rattle.emission_laws.specs.Same.{SameScope, SameEmission}
use Rattle.emission_laws.proofs.SameLemmas.{one_run, same_emitted, same_value, same_frames}

abbrev some_mentions : Option ValueTree → List ℕ
some_mentions None = []
some_mentions (Some v) = value_mentions v

found_by : (P : ℕ → Type 0) (c : Bool) (v : ValueTree) (o : Option ValueTree) → Each P (value_mentions v)
    → Each P (some_mentions o) → Each P (some_mentions (cond c (Some v) o))
found_by P true v o h k = h
found_by P false v o h k = k

found_mentions : (P : ℕ → Type 0) (name : List ℕ) (ps : PropertyTrees) → Each P (property_mentions ps)
    → Each P (some_mentions (field_named name ps))
found_mentions P name s.no_property h = tt
found_mentions P name (s.property at x v ps) h =
    found_by P (bytes_eq x name) v (field_named name ps) (first P (value_mentions v) (property_mentions ps) h)
    (found_mentions P name ps (second P (value_mentions v) (property_mentions ps) h))

module _ (P : ℕ → Type 0) where
  abbrev OfParent : Parent → Type 0
  OfParent no_parent = Unit {0}
  OfParent (inside n) = P n
  OfParent (below r) = Each P (reach_mentions r)

  of_below : (o : Option ValueTree) → Each P (some_mentions o) → OfParent (below_value o)
  of_below None h = tt
  of_below (Some (s.each l e)) h = tt
  of_below (Some (s.plain (s.instance r))) h = h
  of_below (Some (s.plain (s.name at x))) h = tt
  of_below (Some (s.plain (s.literal at v))) h = tt
  of_below (Some (s.plain (s.interpolated at start ps))) h = tt
  of_below (Some (s.plain (s.object at ps))) h = tt
  of_below (Some (s.plain (s.array at es))) h = tt
  of_below (Some (s.plain (s.call at name es))) h = tt
  of_below (Some (s.plain (s.field r at x))) h = tt
  of_below (Some (s.plain (s.output r at n))) h = tt
  of_below (Some (s.plain (s.member e n x))) h = tt
  of_below (Some (s.plain (s.index e n i))) h = tt
  of_below (Some (s.plain (s.prefixed at p e))) h = tt
  of_below (Some (s.plain (s.binary o x y))) h = tt
  of_below (Some (s.plain (s.conditional c x y))) h = tt

  of_fields : (x : BodyTree) → Each P (body_mentions x) → Each P (property_mentions x.fields)
  of_fields x h =
      second P (condition_mentions x.condition) _
      (second P (each_mentions x.each) (condition_mentions x.condition ++ property_mentions x.fields) h)

  of_condition : (x : BodyTree) → Each P (body_mentions x) → Each P (condition_mentions x.condition)
  of_condition x h =
      first P _ (property_mentions x.fields)
      (second P (each_mentions x.each) (condition_mentions x.condition ++ property_mentions x.fields) h)

  of_each : (x : BodyTree) → Each P (body_mentions x) → Each P (each_mentions x.each)
  of_each x h = first P _ (condition_mentions x.condition ++ property_mentions x.fields) h

  of_name : (x : BodyTree) → Each P (body_mentions x) → Each P (some_mentions (field_named (codes "name") x.fields))
  of_name x h = found_mentions P (codes "name") x.fields (of_fields x h)

  of_fields_parent : (u : Option DeclaredTree) → Each P (mentioned_in u) → OfParent (fields_parent u)
  of_fields_parent None h = tt
  of_fields_parent (Some (d.parameter at t)) h = tt
  of_fields_parent (Some (d.parameter_with at t e)) h = tt
  of_fields_parent (Some (d.variable at v)) h = tt
  of_fields_parent (Some (d.a_module at x)) h = tt
  of_fields_parent (Some (d.a_resource at q e x)) h =
      of_below (field_named (codes "parent") x.fields) (found_mentions P (codes "parent") x.fields (of_fields x h))

  of_parent_by : (o : Option Kind) (p : Parent) → Each P (mentioned_around o) → OfParent p
      → OfParent (inside_or (option_and_then around_kind o) p)
  of_parent_by None p h q = q
  of_parent_by (Some k.Parameter) p h q = q
  of_parent_by (Some k.Variable) p h q = q
  of_parent_by (Some (k.Resource None)) p h q = q
  of_parent_by (Some (k.Resource (Some n))) p h q = h.0
  of_parent_by (Some (k.ResourceLoop None)) p h q = q
  of_parent_by (Some (k.ResourceLoop (Some n))) p h q = h.0
  of_parent_by (Some (k.Module file)) p h q = q
  of_parent_by (Some (k.ModuleLoop file)) p h q = q

  of_parent : (file : SourceFile) (n : ℕ) → Each P (mentions_at file n) → OfParent (parent file n)
  of_parent file n h =
      of_parent_by (symbol_kind file n) (fields_parent (declaration file n))
      (second P (mentioned_in (declaration file n)) _ h)
      (of_fields_parent (declaration file n) (first P _ (mentioned_around (symbol_kind file n)) h))

module _ (file : SourceFile) (files : List SourceFile) (a b : Emission) where
  abbrev Both : ℕ → Type 0
  Both n = SameEmission a b n

  abbrev Same : List ℕ → Type 0
  Same ms = Each Both ms

  scopes : (ms : List ℕ) → Same ms → Each (SameScope a.scope b.scope) ms
  scopes [] h = tt
  scopes (n ∷ ms) h = (h.0.scope, scopes ms h.1)

  same_source : (e : SourceTree) (fs : List Frame) → Same (mentions e)
      → emitted file files a.scope e fs ≡ emitted file files b.scope e fs
  same_source e fs h = same_emitted file files a.scope b.scope e fs (scopes (mentions e) h)

  same_of : (v : ValueTree) (fs : List Frame) → Same (value_mentions v)
      → emitted_value file files a.scope v fs ≡ emitted_value file files b.scope v fs
  same_of v fs h = same_value file files a.scope b.scope v fs (scopes (value_mentions v) h)

  same_some : (o : Option ValueTree) (fs : List Frame) → Same (some_mentions o)
      → value_or_none file files a o fs ≡ value_or_none file files b o fs
  same_some None fs h = refl
  same_some (Some v) fs h = same_of v fs h

  same_variable : (n : ℕ) (u : Option DeclaredTree) → Same (mentioned_in u)
      → variable_of file files a n u ≡ variable_of file files b n u
  same_variable n None h = refl
  same_variable n (Some (d.parameter at t)) h = refl
  same_variable n (Some (d.parameter_with at t e)) h = refl
  same_variable n (Some (d.a_resource at q e x)) h = refl
  same_variable n (Some (d.a_module at x)) h = refl
  same_variable n (Some (d.variable at v)) h =
      ap (λ t. cond (file.has_entry n) (variable_entry (symbol_name file n)) t) (same_of v [] h)

  same_over : (l : Option LoopTree) → Same (each_mentions l) → over file files a l ≡ over file files b l
  same_over None h = refl
  same_over (Some (s.loop at xs)) h = same_source xs [] h

  same_items : (u : Option DeclaredTree) → Same (mentioned_in u)
      → over file files a (option_and_then (λ x. x.each) (option_and_then body_of u))
      ≡ over file files b (option_and_then (λ x. x.each) (option_and_then body_of u))
  same_items None h = refl
  same_items (Some (d.parameter at t)) h = refl
  same_items (Some (d.parameter_with at t e)) h = refl
  same_items (Some (d.variable at v)) h = refl
  same_items (Some (d.a_resource at q e x)) h = same_over x.each (of_each Both x h)
  same_items (Some (d.a_module at x)) h = same_over x.each (of_each Both x h)

  same_module_name : (n : ℕ) (x : BodyTree) (o : Option ValueTree) (fs : List Frame) → Same (some_mentions o)
      → module_name file files a n x o fs ≡ module_name file files b n x o fs
  same_module_name n x None fs h = refl
  same_module_name n x (Some v) fs h = same_of v fs h

  same_name : (n : ℕ) (u : Option DeclaredTree) (fs : List Frame) → Same (mentioned_in u)
      → name_by file files a n u fs ≡ name_by file files b n u fs
  same_name n None fs h = refl
  same_name n (Some (d.parameter at t)) fs h = refl
  same_name n (Some (d.parameter_with at t e)) fs h = refl
  same_name n (Some (d.variable at v)) fs h = refl
  same_name n (Some (d.a_resource at q e x)) fs h =
      same_some (field_named (codes "name") x.fields) fs (of_name Both x h)
  same_name n (Some (d.a_module at x)) fs h =
      same_module_name n x (field_named (codes "name") x.fields) fs (of_name Both x h)

  -- what surrounds a use of a parent
  frames_same : (r : ReachTree) (fs : List Frame) → Same (reach_mentions r)
      → frames_of file files a.scope r fs ≡ frames_of file files b.scope r fs
  frames_same r fs h = same_frames file files a.scope b.scope r fs (scopes (reach_mentions r) h)

  same_full_name : (p : Parent) (r t : Tree) (fs : List Frame) → OfParent Both p → r ≡ t
      → full_name_by file files a p r fs ≡ full_name_by file files b p t fs
  same_full_name no_parent r t fs h e = e
  same_full_name (inside n) r t fs h e =
      let p = h.full_name [] tt in
      λ i. with_slash (p i) (e i)
  same_full_name (below x) r t fs h e =
      let q = reached Both x h in
      let p = ap (a.full_name (number_of (target_of x))) (frames_same x fs h)
      ∙ q.full_name (frames_of file files b.scope x fs) (one_run file files b.scope x fs) in
      λ i. with_slash (p i) (e i)

  same_parts_by : (p : Parent) (v : Option ValueTree) (n : ℕ) (r t : Tree) (fs : List Frame) → OfParent Both p → r ≡ t
      → parts_by file files a p v n r fs ≡ parts_by file files b p v n t fs
  same_parts_by no_parent v n r t fs h e = ap (λ o. parts_of v o n) e
  same_parts_by (inside m) v n r t fs h e =
      let p = h.parts [] tt in
      λ i. p i ++ e i ∷ []
  same_parts_by (below x) v n r t fs h e =
      let q = reached Both x h in
      let p = ap (a.parts (number_of (target_of x))) (frames_same x fs h)
      ∙ q.parts (frames_of file files b.scope x fs) (one_run file files b.scope x fs) in
      λ i. p i ++ e i ∷ []

  same_parts : (n : ℕ) (u : Option DeclaredTree) (fs : List Frame) → OfParent Both (parent file n)
      → name_of file files a n fs ≡ name_of file files b n fs
      → parts_at file files a n u fs ≡ parts_at file files b n u fs
  same_parts n None fs h e = refl
  same_parts n (Some (d.parameter at t)) fs h e = refl
  same_parts n (Some (d.parameter_with at t x)) fs h e = refl
  same_parts n (Some (d.variable at v)) fs h e = refl
  same_parts n (Some (d.a_module at x)) fs h e = refl
  same_parts n (Some (d.a_resource at q y x)) fs h e =
      same_parts_by (parent file n) (field_named (codes "name") x.fields) (number_of_parts (type_of file n).kind)
      (name_of file files a n fs) (name_of file files b n fs) fs h e

  same_id : (n : ℕ) (u : Option DeclaredTree) (fs : List Frame) → OfParent Both (parent file n)
      → name_of file files a n fs ≡ name_of file files b n fs
      → id_at file files a n u fs ≡ id_at file files b n u fs
  same_id n None fs h e = refl
  same_id n (Some (d.parameter at t)) fs h e = refl
  same_id n (Some (d.parameter_with at t x)) fs h e = refl
  same_id n (Some (d.variable at v)) fs h e = refl
  same_id n (Some (d.a_module at x)) fs h e = refl
  same_id n (Some (d.a_resource at q y x)) fs h e =
      ap (id_of_parts (type_of file n).kind) (same_parts n (Some (d.a_resource at q y x)) fs h e)

  same_condition_by : (p : Parent) (c : Option SourceTree) (fs : List Frame) → OfParent Both p
      → Same (condition_mentions c) → condition_by file files a p c fs ≡ condition_by file files b p c fs
  same_condition_by (inside n) (Some c) fs h e =
      let p = h.condition [] tt in
      let q = same_source c fs e in
      λ i. call (codes "and") (two (p i) (q i))
  same_condition_by (inside n) None fs h e = h.condition [] tt
  same_condition_by no_parent (Some c) fs h e = same_source c fs e
  same_condition_by (below x) (Some c) fs h e = same_source c fs e
  same_condition_by no_parent None fs h e = refl
  same_condition_by (below x) None fs h e = refl

  same_condition : (n : ℕ) (u : Option DeclaredTree) (fs : List Frame) → OfParent Both (parent file n)
      → Same (mentioned_in u) → condition_of file files a n (option_and_then body_of u) fs
      ≡ condition_of file files b n (option_and_then body_of u) fs
  same_condition n None fs h e = refl
  same_condition n (Some (d.parameter at t)) fs h e = refl
  same_condition n (Some (d.parameter_with at t x)) fs h e = refl
  same_condition n (Some (d.variable at v)) fs h e = refl
  same_condition n (Some (d.a_module at x)) fs h e =
      same_condition_by (parent file n) x.condition fs h (of_condition Both x e)
  same_condition n (Some (d.a_resource at q y x)) fs h e =
      same_condition_by (parent file n) x.condition fs h (of_condition Both x e)

  pub same_next : (n : ℕ) → Same (mentions_at file n) → SameEmission (next file files a) (next file files b) n
  unfolding next
  same_next n h =
      let e = first Both _ (mentioned_around (symbol_kind file n)) h in
      let p = of_parent Both file n h in
      record {
        scope = record {
          variable = same_variable n (declaration file n) e;
          items = same_items (declaration file n) e;
          name = λ fs r. same_name n (declaration file n) fs e;
          id = λ fs r. same_id n (declaration file n) fs p (same_name n (declaration file n) fs e);
        };
        full_name = λ fs r. same_full_name (parent file n) (name_of file files a n fs) (name_of file files b n fs) fs p
            (same_name n (declaration file n) fs e);
        condition = λ fs r. same_condition n (declaration file n) fs p e;
        parts = λ fs r. same_parts n (declaration file n) fs p (same_name n (declaration file n) fs e);
      }

module _ (file : SourceFile) (files : List SourceFile) (rank : ℕ → ℕ) (ranked : IsRanked file rank) where
  lower : (k n : ℕ) (P : ℕ → Type 0) (ns : List ℕ) → rank n < suc k → Each (λ m. rank m < rank n) ns
      → ((m : ℕ) → rank m < k → P m) → Each P ns
  lower k n P [] h g f = tt
  lower k n P (m ∷ ns) h g f = (f m (let g0 = g.0 in omega arith), lower k n P ns h g.1 f)

  settled_at : (k n : ℕ) → rank n < k → SameEmission (through file files k) (through file files (suc k)) n
  unfolding through
  settled_at zero n h = absurd (omega arith)
  settled_at (suc k) n h =
      same_next file files (through file files k) (through file files (suc k)) n
      (lower k n (SameEmission (through file files k) (through file files (suc k))) (mentions_at file n) h (ranked n)
      (settled_at k))

  pub settled : (k : ℕ) → ((n : ℕ) → rank n < k) → (n : ℕ)
      → SameEmission (through file files k) (next file files (through file files k)) n
  unfolding through
  settled k h n = settled_at k n (h n)
