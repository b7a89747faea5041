-- Each value that is emitted outside of expressions has the value of the Bicep value.
use Rattle.std.proofs.Common.{◌≡◌, ◌<◌, ℕ, ℤ, List, [], ◌∷◌, ◌++◌, Option, Some, None, Bool, true, false}
use Rattle.std.proofs.Common.{◌^◌, refl, sym, ap, ap₂, ◌∙◌, subst, arith}
use Rattle.std.specs.Prelude.{option_map, if◌then◌else◌}
use Rattle.std.specs.List.{AllByRecursion}
use Rattle.foundation.proofs.TruthValues.{or_left, or_right}
use Rattle.arm_value.specs.Json.{Json, int, array, row}
use Rattle.arm_expr.specs.Tree.{Tree}
use Rattle.arm_expr.specs.Print.{printed}
use Rattle.arm_expr.specs.Brackets.{escaped, is_copy}
use Rattle.arm_expr.proofs.BracketLemmas.{meaning-escaped}
use Rattle.arm_expr.proofs.PrintLemmas.{printed_spells}
use Rattle.arm_expr.proofs.Reading.{spelled_means}
use Rattle.arm_env.specs.Look as look
use Rattle.arm_env.specs.Look.{Looking, Surroundings}
use Rattle.arm_env.specs.declared.env.Looping.{Looping}
use Rattle.arm_env.specs.Object.{object_of}
use Rattle.arm_env.specs.Part.{kept}
use Rattle.arm_eval.specs.Trees.{tree_value, row_values, said_value, looping_of, turns, Copy}
use Rattle.arm_eval.specs.Outputs.{inputs, output_loop}
use Rattle.arm_eval.proofs.TextLemmas.{expression_read}
use Rattle.arm_eval.specs.Meaning.{value}
use Rattle.reading.specs.Reading.{done, pure, continued, both}
use Rattle.deploy_cells.specs.Guarded.{Reads}
use Rattle.bicep_tree.specs.declared.leaf.Literal.{Literal}
use Rattle.bicep_tree.specs.declared.leaf.Literal.TheVariants as l
use Rattle.bicep_tree.specs.declared.leaf.Prefix.{Prefix}
use Rattle.bicep_tree.specs.declared.leaf.Prefix.TheVariants as prefix
use Rattle.bicep_emission.specs.Source.{SourceTree, SourceTrees, PropertyTrees, ValueTree}
use Rattle.bicep_emission.specs.Source as s
use Rattle.bicep_emission.specs.Around as source
use Rattle.bicep_emission.specs.Around.{Here, run_at, runs}
use Rattle.bicep_emission.specs.Rows.{all, capped, literal_value}
use Rattle.bicep_emission.specs.Meaning as meaning
use Rattle.bicep_emission.specs.Meaning.{bare, bare_value}
use Rattle.bicep_emission.specs.Alike.{Seen, seen_in}
use Rattle.bicep_emission.specs.Answered.{Sides, Answers, IsPlainPlace}
use Rattle.bicep_emission.specs.Emittable.{IsEmittable}
use Rattle.bicep_emission.specs.Emitted.{Frame, Scope, emitted, element}
use Rattle.bicep_emission.specs.Stands.{Like, FramesStand, ScopeStands, surroundings}
use Rattle.bicep_emission.proofs.SeenLemmas.{then_seen, both_seen, done_seen, seen-continued, seen-both}
use Rattle.bicep_emission.proofs.CallLemmas.{AllLike, seen, like_on, like_all, like_capped}
use Rattle.bicep_emission.proofs.ExpressionLemmas as expressions
use Rattle.emitted_trees.specs.Templates.{TemplateTree, TemplateItems, TemplateMembers, TemplateValue}
use Rattle.emitted_trees.specs.Templates as t
use Rattle.emitted_trees.specs.EmittedTrees.{copy_index, count_of, negated, literal_or, has_copy, tree_of}
use Rattle.emitted_trees.specs.EmittedTrees.{items_of, members_of, value_of}
use Rattle.emitted_trees.specs.Written.{literal_json, expression_json, tree_json, items_json, IsWritable, IsWithin}
use Rattle.emitted_trees.specs.Written.{AreWithin, MembersAreWithin, ValueIsWithin}
use Rattle.emitted_trees.specs.Sound.{Loops, allowed, not_allowed, names, Differ, IsSound, AreSound, AreSoundMembers}
use Rattle.emitted_trees.specs.Sound.{IsSoundValue}
use Rattle.emitted_trees.specs.Standing.{FramesStandInside, named_value, output_value}
use Rattle.emitted_trees.proofs.ItemLemmas.{Item, named, onto}
use Rattle.emitted_trees.proofs.CollectedLemmas.{front, collected, collected_put}
use Rattle.emitted_trees.proofs.TemplateLemmas as objects
use Rattle.emitted_trees.proofs.TemplateLemmas.{member_names}
use Rattle.emitted_trees.proofs.LoopLemmas as loops

-- ---- texts

-- the text of an expression within the limits has the value of the expression
pub written_value : (around : Surroundings) (e : Tree) → IsWritable e
    → tree_value (expression_json e) around ≡ value around e
unfolding continued
written_value around e h =
    let spells = printed_spells e h.names h.ints in
    ap (said_value around (printed e)) (spelled_means (printed e) e spells)
    ∙ ap (λ o. continued (done o) (value around))
    ((expression_read (printed e) e).1 (spells, (h.is_short, h.is_flat)))

literal_read : (around : Surroundings) (v : Literal) → tree_value (literal_json v) around ≡ pure (literal_value v)
literal_read around (l.Number z) = refl
literal_read around (l.Text s) = ap (said_value around (escaped s)) (meaning-escaped s)
literal_read around l.True = refl
literal_read around l.False = refl
literal_read around l.Null = refl

-- ---- names of members

no_copies : (ps : PropertyTrees) → has_copy ps ≡ false → AllByRecursion (λ k. is_copy k ≡ false) (names ps)
no_copies s.no_property e = tt
no_copies (s.property at k v ps) e =
    (or_left (is_copy k) (has_copy ps) e, no_copies ps (or_right (is_copy k) (has_copy ps) e))

module _ (x : Sides) (here : Here) (place : IsPlainPlace here.place) (ans : Answers x here) (sc : Scope)
    (a : source.Around) (st : (ls : List Looping) → ScopeStands x (surroundings here ls) sc a) where
  abbrev sees : {A : Type 0} → Looking A → Seen A
  sees r = seen_in x.template x.template_marks r

  abbrev em : SourceTree → List Frame → Tree
  em e fs = emitted here.file here.files sc e fs

  abbrev be : SourceTree → List source.Frame → Reads Json
  be e gs = bare here a e gs

  abbrev tr : SourceTree → List Frame → TemplateTree
  tr e fs = tree_of here.file here.files sc e fs

  abbrev reads_tree : TemplateTree → List Looping → Looking Json
  reads_tree e ls = tree_value (tree_json e) (surroundings here ls)

  -- what loops around become stands for what they mean: also in further loops, where there may be some
  abbrev FramesHold : Loops → List Looping → List Frame → List source.Frame → Type 0
  FramesHold allowed ls fs gs = FramesStandInside x here ls fs gs
  FramesHold not_allowed ls fs gs = FramesStand x (surroundings here ls) fs gs

  frames_here : (m : Loops) (ls : List Looping) (fs : List Frame) (gs : List source.Frame) → FramesHold m ls fs gs
      → FramesStand x (surroundings here ls) fs gs
  frames_here allowed ls fs gs h = h [] tt
  frames_here not_allowed ls fs gs h = h

  -- ---- expressions and literals

  expression_like : (e : SourceTree) (ls : List Looping) (fs : List Frame) (gs : List source.Frame) → IsEmittable e
      → FramesStand x (surroundings here ls) fs gs → IsWritable (em e fs)
      → Like x (tree_value (expression_json (em e fs)) (surroundings here ls)) (capped (be e gs))
  expression_like e ls fs gs i h w =
      ap sees (written_value (surroundings here ls) (em e fs) w)
      ∙ (expressions.law x here ls place ans sc a (st ls) e fs gs i h).alike

  literal_capped : (v : Literal) → seen x (capped (pure (literal_value v))) ≡ done_seen (Some (literal_value v))
  unfolding capped continued seen_in
  literal_capped (l.Number z) = refl
  literal_capped (l.Text s) = refl
  literal_capped l.True = refl
  literal_capped l.False = refl
  literal_capped l.Null = refl

  pure_seen : (j : Json) → sees (pure j) ≡ done_seen (Some j)
  unfolding seen_in
  pure_seen j = refl

  literal_like : (v : Literal) (ls : List Looping)
      → Like x (tree_value (literal_json v) (surroundings here ls)) (capped (pure (literal_value v)))
  literal_like v ls =
      ap sees (literal_read (surroundings here ls) v) ∙ pure_seen (literal_value v) ∙ sym (literal_capped v)

  -- a number with a `-`
  negated_seen : (at : ℕ) (z y : ℤ) (gs : List source.Frame) → negated z ≡ Some y → (n : ℕ)
      → seen x (capped (be (s.prefixed n prefix.Negate (s.literal at (l.Number z))) gs)) ≡ done_seen (Some (int y))
  unfolding capped continued seen_in
  negated_seen at z y gs e n =
      ap (λ (o : Option ℤ). seen x (capped (done (option_map int o)))) e

  negated_like : (o : Option ℤ) (n at : ℕ) (z : ℤ) (ls : List Looping) (fs : List Frame) (gs : List source.Frame)
      → negated z ≡ o → FramesStand x (surroundings here ls) fs gs
      → IsWithin (literal_or (option_map l.Number o) (em (s.prefixed n prefix.Negate (s.literal at (l.Number z))) fs))
      → Like x (reads_tree (literal_or (option_map l.Number o)
      (em (s.prefixed n prefix.Negate (s.literal at (l.Number z))) fs)) ls)
      (capped (be (s.prefixed n prefix.Negate (s.literal at (l.Number z))) gs))
  negated_like (Some y) n at z ls fs gs e h w = pure_seen (int y) ∙ sym (negated_seen at z y gs e n)
  negated_like None n at z ls fs gs e h w =
      expression_like (s.prefixed n prefix.Negate (s.literal at (l.Number z))) ls fs gs tt h w

  -- what an operator before an expression becomes
  abbrev PrefixedLike : Prefix → SourceTree → Type 0
  PrefixedLike p e = (n : ℕ) (ls : List Looping) (fs : List Frame) (gs : List source.Frame)
      → IsEmittable (s.prefixed n p e) → FramesStand x (surroundings here ls) fs gs
      → IsWithin (tr (s.prefixed n p e) fs) → Like x (reads_tree (tr (s.prefixed n p e) fs) ls)
      (capped (be (s.prefixed n p e) gs))

  minus_like : (e : SourceTree) → PrefixedLike prefix.Negate e
  minus_like (s.literal at (l.Number z)) n ls fs gs i h w = negated_like (negated z) n at z ls fs gs refl h w
  minus_like (s.literal at (l.Text t)) n ls fs gs i h w =
      expression_like (s.prefixed n prefix.Negate (s.literal at (l.Text t))) ls fs gs i h w
  minus_like (s.literal at l.True) n ls fs gs i h w =
      expression_like (s.prefixed n prefix.Negate (s.literal at l.True)) ls fs gs i h w
  minus_like (s.literal at l.False) n ls fs gs i h w =
      expression_like (s.prefixed n prefix.Negate (s.literal at l.False)) ls fs gs i h w
  minus_like (s.literal at l.Null) n ls fs gs i h w =
      expression_like (s.prefixed n prefix.Negate (s.literal at l.Null)) ls fs gs i h w
  minus_like (s.name at v) n ls fs gs i h w = expression_like (s.prefixed n prefix.Negate (s.name at v)) ls fs gs i h w
  minus_like (s.interpolated at c ps) n ls fs gs i h w =
      expression_like (s.prefixed n prefix.Negate (s.interpolated at c ps)) ls fs gs i h w
  minus_like (s.object at ps) n ls fs gs i h w =
      expression_like (s.prefixed n prefix.Negate (s.object at ps)) ls fs gs i h w
  minus_like (s.array at es) n ls fs gs i h w =
      expression_like (s.prefixed n prefix.Negate (s.array at es)) ls fs gs i h w
  minus_like (s.call at f es) n ls fs gs i h w =
      expression_like (s.prefixed n prefix.Negate (s.call at f es)) ls fs gs i h w
  minus_like (s.instance r) n ls fs gs i h w =
      expression_like (s.prefixed n prefix.Negate (s.instance r)) ls fs gs i h w
  minus_like (s.field r at f) n ls fs gs i h w =
      expression_like (s.prefixed n prefix.Negate (s.field r at f)) ls fs gs i h w
  minus_like (s.output r at k) n ls fs gs i h w =
      expression_like (s.prefixed n prefix.Negate (s.output r at k)) ls fs gs i h w
  minus_like (s.member e k f) n ls fs gs i h w =
      expression_like (s.prefixed n prefix.Negate (s.member e k f)) ls fs gs i h w
  minus_like (s.index e k f) n ls fs gs i h w =
      expression_like (s.prefixed n prefix.Negate (s.index e k f)) ls fs gs i h w
  minus_like (s.prefixed at p e) n ls fs gs i h w =
      expression_like (s.prefixed n prefix.Negate (s.prefixed at p e)) ls fs gs i h w
  minus_like (s.binary o e f) n ls fs gs i h w =
      expression_like (s.prefixed n prefix.Negate (s.binary o e f)) ls fs gs i h w
  minus_like (s.conditional c e f) n ls fs gs i h w =
      expression_like (s.prefixed n prefix.Negate (s.conditional c e f)) ls fs gs i h w

  prefixed_like : (p : Prefix) (e : SourceTree) → PrefixedLike p e
  prefixed_like prefix.Not e n ls fs gs i h w = expression_like (s.prefixed n prefix.Not e) ls fs gs i h w
  prefixed_like prefix.Negate e n ls fs gs i h w = minus_like e n ls fs gs i h w

  -- ---- objects

  names_same : (ps : PropertyTrees) (fs : List Frame)
      → member_names (members_of here.file here.files sc ps fs) ≡ names ps
  names_same s.no_property fs = refl
  names_same (s.property at k v ps) fs = ap (λ (ks : List (List ℕ)). k ∷ ks) (names_same ps fs)

  abbrev source_items : PropertyTrees → List source.Frame → List Item
  source_items s.no_property gs = []
  source_items (s.property at k v ps) gs = named k (seen x (capped (bare_value here a v gs))) ∷ source_items ps gs

  all_front : {A : Type 0} (r : Reads A) (rs : List (Reads A)) → seen x (all (r ∷ rs))
      ≡ then_seen (both_seen (seen x r) (seen x (all rs))) (λ p. done_seen (Some (p.0 ∷ p.1)))
  unfolding all seen_in
  all_front r rs =
      seen-continued x.source x.source_marks (both r (all rs)) (λ p. pure (p.0 ∷ p.1))
      ∙ ap (λ s. then_seen s (λ p. done_seen (Some (p.0 ∷ p.1)))) (seen-both x.source x.source_marks r (all rs))

  member_seen : (k : List ℕ) (r : Reads Json)
      → seen x (meaning.member_of k r) ≡ then_seen (seen x r) (λ v. done_seen (Some (k, v)))
  unfolding seen_in
  member_seen k r = seen-continued x.source x.source_marks r (λ j. pure (k, j))

  source_collected : (ps : PropertyTrees) (gs : List source.Frame)
      → seen x (all (meaning.members here a ps gs)) ≡ collected (source_items ps gs)
  unfolding all seen_in
  source_collected s.no_property gs = refl
  source_collected (s.property at k v ps) gs =
      let r = capped (bare_value here a v gs) in
      all_front (meaning.member_of k r) (meaning.members here a ps gs)
      ∙ ap (λ s. then_seen (both_seen s (seen x (all (meaning.members here a ps gs))))
      (λ p. done_seen (Some (p.0 ∷ p.1)))) (member_seen k r)
      ∙ objects.member_front x (surroundings here []) k (seen x r) (seen x (all (meaning.members here a ps gs)))
      ∙ ap (front k (seen x r)) (source_collected ps gs)

  source_object : (at : ℕ) (ps : PropertyTrees) (gs : List source.Frame)
      → seen x (capped (be (s.object at ps) gs))
      ≡ objects.object_kept x (surroundings here []) (onto [] (source_items ps gs))
  unfolding capped seen_in
  source_object at ps gs =
      seen-continued x.source x.source_marks
      (continued (all (meaning.members here a ps gs)) (λ ms. pure (object_of ms))) (λ j. done (kept j))
      ∙ ap (λ s. then_seen s (λ j. done_seen (kept j)))
      (seen-continued x.source x.source_marks (all (meaning.members here a ps gs)) (λ ms. pure (object_of ms))
      ∙ ap (λ s. then_seen s (λ ms. done_seen (Some (object_of ms)))) (source_collected ps gs))
      ∙ objects.as_object x (surroundings here []) (collected (source_items ps gs))
      ∙ ap (objects.object_kept x (surroundings here [])) (collected_put (source_items ps gs) [])

  abbrev its : List Looping → PropertyTrees → List Frame → List Item
  its ls ps fs = objects.items x (surroundings here ls) (members_of here.file here.files sc ps fs)

  object_like : (b : Bool) (at : ℕ) (ps : PropertyTrees) (ls : List Looping) (fs : List Frame)
      (gs : List source.Frame) → has_copy ps ≡ b → (has_copy ps ≡ true → IsEmittable (s.object at ps))
      → Differ (names ps) → FramesStand x (surroundings here ls) fs gs
      → IsWithin (if b then t.expression (em (s.object at ps) fs)
      else t.object (members_of here.file here.files sc ps fs))
      → (MembersAreWithin (members_of here.file here.files sc ps fs) → its ls ps fs ≡ source_items ps gs)
      → Like x (reads_tree (if b then t.expression (em (s.object at ps) fs)
      else t.object (members_of here.file here.files sc ps fs)) ls) (capped (be (s.object at ps) gs))
  object_like true at ps ls fs gs e i d h w same = expression_like (s.object at ps) ls fs gs (i e) h w
  object_like false at ps ls fs gs e i d h w same =
      objects.object_value x (surroundings here ls) (members_of here.file here.files sc ps fs)
      (subst Differ (sym (names_same ps fs)) d)
      (subst (AllByRecursion (λ k. is_copy k ≡ false)) (sym (names_same ps fs)) (no_copies ps e))
      ∙ ap (λ is. objects.object_kept x (surroundings here ls) (onto [] is)) (same w)
      ∙ sym (source_object at ps gs)

  array_like : (at : ℕ) (es : SourceTrees) (ls : List Looping) (fs : List Frame) (gs : List source.Frame)
      → AllLike x (row_values (items_json (items_of here.file here.files sc es fs)) (surroundings here ls))
      (meaning.values here a es gs)
      → Like x (reads_tree (tr (s.array at es) fs) ls) (capped (be (s.array at es) gs))
  array_like at es ls fs gs h =
      let os = row_values (items_json (items_of here.file here.files sc es fs)) (surroundings here ls) in
      let rs = meaning.values here a es gs in
      like_capped x (continued (look.all os) (λ vs. pure (array (row vs))))
      (continued (all rs) (λ vs. pure (array (row vs))))
      (like_on x (look.all os) (all rs) (λ vs. Some (array (row vs))) (like_all x os rs h))

  -- ---- loops

  abbrev over : SourceTree → List source.Frame → Reads Json
  over xs gs = capped (be xs gs)

  -- the body of a loop of a name, in a run of it
  abbrev TurnsLike : List ℕ → SourceTree → SourceTree → List Looping → List Frame → List source.Frame → Type 0
  TurnsLike k xs e ls fs gs = (i : ℕ) → i < 800
      → Like x (reads_tree (tr e (element (em xs fs) (copy_index (Some k)) ∷ fs)) (looping_of k i ∷ ls))
      (capped (be e (run_at (over xs gs) i ∷ gs)))

  abbrev copy_for : List ℕ → SourceTree → SourceTree → List Frame → Copy
  copy_for k xs e fs =
      objects.copy_by x (surroundings here []) k (expression_json (count_of (em xs fs)))
      (tree_json (tr e (element (em xs fs) (copy_index (Some k)) ∷ fs)))

  each_like : (k : List ℕ) (xs e : SourceTree) (ls : List Looping) (fs : List Frame) (gs : List source.Frame)
      → IsEmittable xs → FramesStand x (surroundings here ls) fs gs → IsWritable (count_of (em xs fs))
      → TurnsLike k xs e ls fs gs
      → Like x (objects.loop_value x (surroundings here ls) (copy_for k xs e fs))
      (capped (source.looped (over xs gs) (λ f. capped (be e (f ∷ gs)))))
  each_like k xs e ls fs gs i h w turn =
      let around = surroundings here ls in
      let c = copy_for k xs e fs in
      let body : source.Frame → Reads Json = λ f. capped (be e (f ∷ gs)) in
      loops.loop_like x (tree_value (expression_json (count_of (em xs fs))) around) (λ n. turns c around 0 n)
      (over xs gs) body
      (loops.counting_like x around (tree_value (expression_json (count_of (em xs fs))) around) (em xs fs) (over xs gs)
      (written_value around (count_of (em xs fs)) w)
      (expressions.law x here ls place ans sc a (st ls) xs fs gs i h).alike)
      (λ n l. loops.turns_like x c around (over xs gs) body turn n 0 (omega arith))

  turn_frames : (k : List ℕ) (xs : SourceTree) (ls : List Looping) (fs : List Frame) (gs : List source.Frame) (i : ℕ)
      → i < 800 → IsEmittable xs → FramesStandInside x here ls fs gs
      → FramesStand x (surroundings here (looping_of k i ∷ ls)) (element (em xs fs) (copy_index (Some k)) ∷ fs)
      (run_at (over xs gs) i ∷ gs)
  turn_frames k xs ls fs gs i l m h =
      let inside = h (looping_of k i ∷ []) (refl, tt) in (
        loops.named_run x here place ans ls k (em xs fs) (be xs gs) i l
            (expressions.law x here (looping_of k i ∷ ls) place ans sc a (st (looping_of k i ∷ ls)) xs fs gs m inside),
        inside,
      )

  -- ---- the law

  mutual
    pub law : (m : Loops) (e : SourceTree) (ls : List Looping) (fs : List Frame) (gs : List source.Frame)
        → IsSound m e → FramesHold m ls fs gs → IsWithin (tr e fs) → Like x (reads_tree (tr e fs) ls) (capped (be e gs))
    law m (s.name at v) ls fs gs i h w = expression_like (s.name at v) ls fs gs tt (frames_here m ls fs gs h) w
    law m (s.literal at v) ls fs gs i h w = literal_like v ls
    law m (s.interpolated at c ps) ls fs gs i h w =
        expression_like (s.interpolated at c ps) ls fs gs i (frames_here m ls fs gs h) w
    law m (s.object at ps) ls fs gs i h w =
        object_like (has_copy ps) at ps ls fs gs refl i.0 i.1.0 (frames_here m ls fs gs h) w
        (λ b. items_like m ps ls fs gs i.1.1 h b)
    law m (s.array at es) ls fs gs i h w = array_like at es ls fs gs (all_like m es ls fs gs i h w)
    law m (s.call at f es) ls fs gs i h w = expression_like (s.call at f es) ls fs gs i (frames_here m ls fs gs h) w
    law m (s.instance r) ls fs gs i h w = expression_like (s.instance r) ls fs gs i (frames_here m ls fs gs h) w
    law m (s.field r at f) ls fs gs i h w = expression_like (s.field r at f) ls fs gs i (frames_here m ls fs gs h) w
    law m (s.output r at k) ls fs gs i h w = expression_like (s.output r at k) ls fs gs i (frames_here m ls fs gs h) w
    law m (s.member e k n) ls fs gs i h w = expression_like (s.member e k n) ls fs gs i (frames_here m ls fs gs h) w
    law m (s.index e k j) ls fs gs i h w = expression_like (s.index e k j) ls fs gs i (frames_here m ls fs gs h) w
    law m (s.prefixed at p e) ls fs gs i h w = prefixed_like p e at ls fs gs i (frames_here m ls fs gs h) w
    law m (s.binary o e f) ls fs gs i h w = expression_like (s.binary o e f) ls fs gs i (frames_here m ls fs gs h) w
    law m (s.conditional c e f) ls fs gs i h w =
        expression_like (s.conditional c e f) ls fs gs i (frames_here m ls fs gs h) w

    all_like : (m : Loops) (es : SourceTrees) (ls : List Looping) (fs : List Frame) (gs : List source.Frame)
        → AreSound m es → FramesHold m ls fs gs → AreWithin (items_of here.file here.files sc es fs)
        → AllLike x (row_values (items_json (items_of here.file here.files sc es fs)) (surroundings here ls))
        (meaning.values here a es gs)
    all_like m s.none ls fs gs i h w = tt
    all_like m (s.more e es) ls fs gs i h w = (law m e ls fs gs i.0 h w.0, all_like m es ls fs gs i.1 h w.1)

    items_like : (m : Loops) (ps : PropertyTrees) (ls : List Looping) (fs : List Frame) (gs : List source.Frame)
        → AreSoundMembers m ps → FramesHold m ls fs gs → MembersAreWithin (members_of here.file here.files sc ps fs)
        → its ls ps fs ≡ source_items ps gs
    items_like m s.no_property ls fs gs i h w = refl
    items_like m (s.property at k v ps) ls fs gs i h w =
        ap₂ (λ (s : Seen Json) (is : List Item). named k s ∷ is) (value_like m k v ls fs gs i.0 h w.0)
        (items_like m ps ls fs gs i.1 h w.1)

    pub value_like : (m : Loops) (k : List ℕ) (v : ValueTree) (ls : List Looping) (fs : List Frame)
        (gs : List source.Frame) → IsSoundValue m v → FramesHold m ls fs gs
        → ValueIsWithin (value_of here.file here.files sc (Some k) v fs)
        → objects.value_seen x (surroundings here ls) k (value_of here.file here.files sc (Some k) v fs)
        ≡ seen x (capped (bare_value here a v gs))
    value_like m k (s.plain e) ls fs gs i h w = law m e ls fs gs i h w
    value_like allowed k (s.each (s.loop at xs) e) ls fs gs i h w =
        each_like k xs e ls fs gs i.0 (frames_here allowed ls fs gs h) w.0
        (λ n l. law not_allowed e (looping_of k n ∷ ls) (element (em xs fs) (copy_index (Some k)) ∷ fs)
        (run_at (over xs gs) n ∷ gs) i.1 (turn_frames k xs ls fs gs n l i.0 h) w.1)
    value_like not_allowed k (s.each o e) ls fs gs i h w = absurd i

  -- ---- variables and arguments, and outputs

  named_is : (k : List ℕ) (v : ValueTree) (ls : List Looping) (fs : List Frame)
      → sees (named_value k (value_of here.file here.files sc (Some k) v fs) (surroundings here ls))
      ≡ objects.value_seen x (surroundings here ls) k (value_of here.file here.files sc (Some k) v fs)
  named_is k (s.plain e) ls fs = refl
  named_is k (s.each (s.loop at xs) e) ls fs = objects.named_loop x (surroundings here ls) (copy_for k xs e fs)

  pub named_like : (k : List ℕ) (v : ValueTree) (ls : List Looping) (fs : List Frame) (gs : List source.Frame)
      → IsSoundValue allowed v → FramesStandInside x here ls fs gs
      → ValueIsWithin (value_of here.file here.files sc (Some k) v fs)
      → Like x (named_value k (value_of here.file here.files sc (Some k) v fs) (surroundings here ls))
      (meaning.value_of here a v gs)
  named_like k v ls fs gs i h w = named_is k v ls fs ∙ value_like allowed k v ls fs gs i h w

  output_each : (xs e : SourceTree) (ls : List Looping) → IsEmittable xs → IsSound not_allowed e
      → IsWritable (count_of (em xs [])) → IsWithin (tr e (element (em xs []) (copy_index None) ∷ []))
      → Like x (output_value (t.each (count_of (em xs [])) (tr e (element (em xs []) (copy_index None) ∷ [])))
      (surroundings here ls)) (capped (source.looped (over xs []) (λ f. capped (be e (f ∷ [])))))
  output_each xs e ls i j w b =
      let around = surroundings here ls in
      let body : source.Frame → Reads Json = λ f. capped (be e (f ∷ [])) in
      let input = tree_json (tr e (element (em xs []) (copy_index None) ∷ [])) in
      loops.loop_like x (tree_value (expression_json (count_of (em xs []))) around) (λ n. inputs input around 0 n)
      (over xs []) body
      (loops.counting_like x around (tree_value (expression_json (count_of (em xs []))) around) (em xs []) (over xs [])
      (written_value around (count_of (em xs [])) w)
      (expressions.law x here ls place ans sc a (st ls) xs [] [] i tt).alike)
      (λ n l. loops.inputs_like x input around (over xs []) body (λ n l. turn n l) n 0 (omega arith))
    where
      turn : (n : ℕ) → n < 800
          → Like x (reads_tree (tr e (element (em xs []) (copy_index None) ∷ [])) (output_loop n ∷ ls))
          (capped (be e (run_at (over xs []) n ∷ [])))
      turn n l =
          let all = output_loop n ∷ ls in
          let over_stands = expressions.law x here all place ans sc a (st all) xs [] [] i tt in
          law not_allowed e all (element (em xs []) (copy_index None) ∷ []) (run_at (over xs []) n ∷ []) j (
            loops.main_run x here place ans [] (output_loop n) ls (em xs []) (over xs []) tt refl (omega arith)
                over_stands.holds_value over_stands.alike,
            tt,
          ) b

  pub output_like : (v : ValueTree) (ls : List Looping) → IsSoundValue allowed v
      → ValueIsWithin (value_of here.file here.files sc None v [])
      → Like x (output_value (value_of here.file here.files sc None v []) (surroundings here ls))
      (meaning.value_of here a v [])
  output_like (s.plain e) ls i w = law allowed e ls [] [] i (λ inner h. tt) w
  output_like (s.each (s.loop at xs) e) ls i w = output_each xs e ls i.0 i.1 w.0 w.1

  -- ---- the loop around a resource or a module

  -- what its runs become stands for what they mean
  pub runs_stand : (n : ℕ) (l : Looping) (ls : List Looping) → l.main ≡ true → l.index < 2 ^ 63
      → FramesStandInside x here (l ∷ ls) (element (sc.items n) (copy_index None) ∷ [])
      (run_at (a.items n) l.index ∷ [])
  runs_stand n l ls m b inner h =
      let all = inner ++ l ∷ ls in
      let items = (st all).items n in (
        loops.main_run x here place ans inner l ls (sc.items n) (a.items n) h m b items.holds_value
            (items.alike ∙ (st all).items_capped n),
        tt,
      )
