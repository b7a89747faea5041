-- What the declarations of a file become stands for what they mean.
use Rattle.std.proofs.Common.{◌≡◌, ℕ, zero, suc, length, List, [], ◌∷◌, ◌++◌, Option, Some, None, Bool, true, false}
use Rattle.std.proofs.Common.{codes}
use Rattle.std.proofs.Common.{refl, sym, ap, ◌∙◌, subst}
use Rattle.std.proofs.lemmas.Option.{none-some}
use Rattle.std.specs.Prelude.{◌==◌, map, slice_get, option_map, option_and_then, if◌then◌else◌}
use Rattle.arm_value.specs.Json.{Json, bool, text}
use Rattle.arm_value.specs.Look.{fold}
use Rattle.arm_ids.specs.Segments.{segments}
use Rattle.arm_expr.specs.Tree.{Tree, call, more}
use Rattle.arm_expr.specs.Tree as tree
use Rattle.arm_env.specs.declared.env.Looping.{Looping}
use Rattle.arm_env.specs.Look as look
use Rattle.arm_env.specs.Look.{Looking, Surroundings, json_in}
use Rattle.arm_env.specs.Names.{lazy_named, strict_named}
use Rattle.arm_env.specs.Held.{held_value}
use Rattle.arm_env.specs.declared.function.Lazy.TheVariants as lazy
use Rattle.emitted_declarations.specs.Meaning.{held, value, called}
use Rattle.emitted_declarations.proofs.Equations.{texts}
use Rattle.function_numbers.specs.Kinds.{truth_of}
use Rattle.reading.specs.Reading.{done, pure, none, read, continued, both, beside}
use Rattle.reading.specs.World.{value_in}
use Rattle.deploy_cells.specs.Guarded.{Reads}
use Rattle.deploy_cells.specs.Cells as cells
use Rattle.bicep_tree.specs.declared.leaf.Literal.TheVariants as l
use Rattle.bicep_tree.specs.declared.leaf.Quoted.{Quoted}
use Rattle.bicep_emission.specs.Source.{SourceTree, ReachTree, ValueTree, LoopTree, field_named}
use Rattle.bicep_emission.specs.Source as s
use Rattle.bicep_emission.specs.Target.{number_of, target_of}
use Rattle.emitted_declarations.specs.Declarations.{BodyTree, DeclaredTree}
use Rattle.emitted_declarations.specs.Declarations as d
use Rattle.bicep_emission.specs.Files.{SourceFile, symbol_name, declaration, Parent, no_parent, inside, below, parent, type_of}
use Rattle.bicep_emission.specs.Around as source
use Rattle.bicep_emission.specs.Around.{Here}
use Rattle.bicep_emission.specs.Rows.{capped, chosen, truth, and_value, conditional_value}
use Rattle.bicep_emission.specs.Meaning.{bare, bare_value, frames}
use Rattle.bicep_emission.specs.Declared as meaning
use Rattle.bicep_emission.specs.Declared.{body_of, body_at, id_named}
use Rattle.bicep_emission.specs.Alike.{Seen, seen_in}
use Rattle.bicep_emission.specs.Answered.{Sides, Answers, IsPlainPlace}
use Rattle.bicep_emission.specs.Emittable.{IsEmittable, IsValue}
use Rattle.bicep_emission.specs.Emitted as emitting
use Rattle.bicep_emission.specs.Emitted.{Frame, one, two, no_value, emitted, frames_of}
use Rattle.bicep_emission.specs.Texts.{format_text}
use Rattle.bicep_emission.specs.Stands.{Like, IsCapped, Stands, FramesStand, IdStands, surroundings}
use Rattle.bicep_emission.proofs.SeenLemmas.{done_seen, seen-same}
use Rattle.bicep_emission.proofs.KeptLemmas.{kept_of}
use Rattle.bicep_emission.proofs.AccessLemmas.{plain_lazy, plain_value, used_held}
use Rattle.bicep_emission.proofs.CallLemmas.{seen, seen-capped, seen-capped-on, seen-capped-twice, like_capped}
use Rattle.bicep_emission.proofs.OperatorLemmas.{like_and}
use Rattle.bicep_emission.proofs.BinaryLemmas.{like_literal}
use Rattle.bicep_emission.proofs.StateLemmas.{answered_like, used_same, plain_same}
use Rattle.bicep_emission.proofs.ExpressionLemmas as expressions
use Rattle.emitted_declarations.specs.Declared as emission
use Rattle.emitted_declarations.specs.Declared.{Emission, variable_entry, parts_of, number_of_parts, id_of_parts, with_slash, through, parts_by_number}
use Rattle.emitted_declarations.specs.Parts.{PartsStand}
use Rattle.emitted_declarations.proofs.ChildLemmas.{made_child}
use Rattle.emitted_declarations.proofs.IdLemmas.{child_parts, id_like, id_plain}
use Rattle.declaration_laws.specs.Sound.{IsSound, IsResourceType}
use Rattle.declaration_laws.specs.Standing.{AnswersVariables, EmissionStands}
use Rattle.declaration_laws.proofs.TextLemmas.{slash_like, index_like, index_capped}
use Rattle.declaration_laws.proofs.PartLemmas.{type_divided, ids_of_resources, text_parts, number_parts}
use Rattle.declaration_laws.proofs.PartLemmas.{empty_parts}

module _ (x : Sides) (here : Here) (ls : List Looping) (place : IsPlainPlace here.place) (ans : Answers x here)
    (vars : AnswersVariables x here) (sound : IsSound here.file) where
  abbrev around : Surroundings
  around = surroundings here ls

  abbrev file : SourceFile
  file = here.file

  abbrev files : List SourceFile
  files = here.files

  abbrev sees : {A : Type 0} → Looking A → Seen A
  sees r = seen_in x.template x.template_marks r

  -- ---- what is capped

  none_capped : IsCapped x none
  unfolding capped continued seen_in
  none_capped = refl

  text_capped : (t : List ℕ) → IsCapped x (pure (text t))
  unfolding capped continued seen_in
  text_capped t = refl

  bool_kept : (o : Option Bool) → kept_of (option_map bool o) ≡ option_map bool o
  bool_kept (Some b) = refl
  bool_kept None = refl

  truth_capped : (r : Reads Json) → IsCapped x (truth r)
  unfolding truth
  truth_capped r =
      seen-capped-on x r (λ j. option_map bool (truth_of j))
      ∙ seen-same x.source x.source_marks r (λ j. done (kept_of (option_map bool (truth_of j))))
      (λ j. done (option_map bool (truth_of j))) (λ j. ap (λ o. seen x (done o)) (bool_kept (truth_of j)))

  -- ---- what stands

  none_is : Stands x around no_value none
  none_is = expressions.none_stands x here ls place ans none (expressions.none_capped x here ls place ans)

  none_id : IdStands x around no_value none
  unfolding continued value_in
  none_id = record {
    alike = expressions.none_like x here ls place ans;
    holds_value = expressions.holds x here ls place ans no_value (expressions.none_plain x here ls place ans);
    is_of_resource = λ i e. absurd (none-some i e);
  }

  again : (e : Tree) (r : Reads Json) → Stands x around e r → Stands x around e (capped r)
  again e r i = record { alike = i.alike ∙ sym (seen-capped-twice x r); holds_value = i.holds_value }

  -- ---- the entries of variables

  variable_held : (name : List ℕ)
      → sees (held around (call (codes "variables") (one (tree.text name))))
      ≡ sees (held_value (look.seen json_in (look.variable (fold name))))
  unfolding called lazy_named strict_named look.all continued both beside
  variable_held name = ap (λ v. sees (called around (codes "variables") (v ∷ []))) (texts around name)

  entry_stands : (n : ℕ) (o : Option (List ℕ)) → symbol_name file n ≡ o → file.has_entry n ≡ true
      → Stands x around (variable_entry o) (continued (done o) (λ name. read (cells.variable here.at (fold name))))
  unfolding continued
  entry_stands n None e h = none_is
  entry_stands n (Some name) e h =
      expressions.stands x here ls place ans (variable_entry (Some name)) (read (cells.variable here.at (fold name)))
      (used_same x.template x.template_marks (held around (variable_entry (Some name)))
      (held_value (look.seen json_in (look.variable (fold name)))) (variable_held name)
      ∙ used_held x.template x.template_marks (look.seen json_in (look.variable (fold name)))
      ∙ like_capped x (look.seen json_in (look.variable (fold name))) (read (cells.variable here.at (fold name)))
      (answered_like x around (look.variable (fold name)) (cells.variable here.at (fold name)) (vars n name e h)))
      (plain_same x.template x.template_marks (held around (variable_entry (Some name)))
      (held_value (look.seen json_in (look.variable (fold name)))) (variable_held name)
      (plain_value x.template x.template_marks (look.seen json_in (look.variable (fold name)))))

  -- ---- one level of declarations

  module _ (b : Emission) (a : source.Around) (st : EmissionStands x here ls b a) where
    expression_stands : (e : SourceTree) (fs : List Frame) (gs : List source.Frame) → IsEmittable e
        → FramesStand x around fs gs → Stands x around (emitted file files b.scope e fs) (bare here a e gs)
    expression_stands e fs gs m h = expressions.law x here ls place ans b.scope a st.scope e fs gs m h

    value_stands : (v : ValueTree) (fs : List Frame) (gs : List source.Frame) → IsValue v → FramesStand x around fs gs
        → Stands x around (emission.value_of file files b v fs) (capped (bare_value here a v gs))
    value_stands (s.plain e) fs gs m h =
        again (emitted file files b.scope e fs) (bare here a e gs) (expression_stands e fs gs m h)
    value_stands (s.each o e) fs gs m h = absurd m

    -- ---- variables

    variable_at : (n : ℕ) (o : Option DeclaredTree) → declaration file n ≡ o → (q : Bool) → file.has_entry n ≡ q
        → Stands x around (emission.variable_of file files b n o) (meaning.variable_value here a n o)
    variable_at n (Some (d.variable at v)) e true h =
        subst (λ q. Stands x around (if q then variable_entry (symbol_name file n)
        else emission.value_of file files b v [])
        (if q then continued (done (symbol_name file n)) (λ name. read (cells.variable here.at (fold name)))
        else capped (bare_value here a v []))) (sym h) (entry_stands n (symbol_name file n) refl h)
    variable_at n (Some (d.variable at v)) e false h =
        subst (λ q. Stands x around (if q then variable_entry (symbol_name file n)
        else emission.value_of file files b v [])
        (if q then continued (done (symbol_name file n)) (λ name. read (cells.variable here.at (fold name)))
        else capped (bare_value here a v []))) (sym h) (value_stands v [] [] (sound.variables n at v e h) tt)
    variable_at n (Some (d.parameter at t)) e q h = none_is
    variable_at n (Some (d.parameter_with at t v)) e q h = none_is
    variable_at n (Some (d.a_resource at t existing body)) e q h = none_is
    variable_at n (Some (d.a_module at body)) e q h = none_is
    variable_at n None e q h = none_is

    -- ---- what loops run over

    over_stands : (p : Option LoopTree) → ((at : ℕ) (xs : SourceTree) → p ≡ Some (s.loop at xs) → IsEmittable xs)
        → Stands x around (emission.over file files b p) (meaning.over here a p)
    over_stands None f = none_is
    over_stands (Some (s.loop at xs)) f =
        again (emitted file files b.scope xs []) (bare here a xs []) (expression_stands xs [] [] (f at xs refl) tt)

    loop_emittable : (n : ℕ) (o : Option BodyTree) → body_at file n ≡ o → (at : ℕ) (xs : SourceTree)
        → option_and_then (λ b. b.each) o ≡ Some (s.loop at xs) → IsEmittable xs
    loop_emittable n None e at xs h = absurd (none-some (s.loop at xs) h)
    loop_emittable n (Some body) e at xs h = sound.loops n at body xs e h

    over_capped : (p : Option LoopTree) → IsCapped x (meaning.over here a p)
    over_capped None = none_capped
    over_capped (Some (s.loop at xs)) = seen-capped-twice x (bare here a xs [])

    -- ---- names

    named_stands : (p : Option ValueTree) → ((v : ValueTree) → p ≡ Some v → IsValue v) → (fs : List Frame)
        (gs : List source.Frame) → FramesStand x around fs gs
        → Stands x around (emission.value_or_none file files b p fs) (meaning.value_or_none here a p gs)
    named_stands None f fs gs h = none_is
    named_stands (Some v) f fs gs h = value_stands v fs gs (f v refl) h

    first_index : (fs : List Frame) (gs : List source.Frame) → FramesStand x around fs gs
        → Like x (value around (emitting.index_of (slice_get fs 0))) (source.index_of (slice_get gs 0))
    first_index [] [] h = expressions.none_like x here ls place ans
    first_index [] (g ∷ gs) h = absurd h
    first_index (f ∷ fs) [] h = absurd h
    first_index (f ∷ fs) (g ∷ gs) h = h.0.index.alike ∙ h.0.index_capped

    symbol_stands : (o : Option (List ℕ)) (p : Option LoopTree) (fs : List Frame) (gs : List source.Frame)
        → FramesStand x around fs gs
        → Stands x around (emission.named_by_symbol o p fs) (meaning.named_by_symbol o p gs)
    symbol_stands None p fs gs h = none_is
    symbol_stands (Some t) None fs gs h = expressions.text_stands x here ls place ans b.scope a st.scope t
    symbol_stands (Some t) (Some p) fs gs h =
        expressions.stands x here ls place ans (emission.symbol_in_loop t (Some p) fs)
        (meaning.symbol_in_loop t (Some p) gs)
        (index_like x around t (emitting.index_of (slice_get fs 0)) (source.index_of (slice_get gs 0))
        (first_index fs gs h))
        (expressions.format_plain x here ls place ans b.scope a st.scope
        (more (tree.text (format_text 0 (t ++ 45 ∷ []) emission.one_hole)) (one (emitting.index_of (slice_get fs 0)))))

    module_stands : (n : ℕ) (body : BodyTree) (p : Option ValueTree) → ((v : ValueTree) → p ≡ Some v → IsValue v)
        → (fs : List Frame) (gs : List source.Frame) → FramesStand x around fs gs
        → Stands x around (emission.module_name file files b n body p fs) (meaning.module_name here a n body p gs)
    module_stands n body (Some v) f fs gs h = value_stands v fs gs (f v refl) h
    module_stands n body None f fs gs h = symbol_stands (symbol_name file n) body.each fs gs h

    name_at : (n : ℕ) (o : Option DeclaredTree) → declaration file n ≡ o → (fs : List Frame) (gs : List source.Frame)
        → FramesStand x around fs gs
        → Stands x around (emission.name_by file files b n o fs) (meaning.name_by here a n o gs)
    name_at n (Some (d.a_resource at t existing body)) e fs gs h =
        named_stands (field_named (codes "name") body.fields)
        (λ v q. sound.names n body v (ap (option_and_then body_of) e) q) fs gs h
    name_at n (Some (d.a_module at body)) e fs gs h =
        module_stands n body (field_named (codes "name") body.fields)
        (λ v q. sound.names n body v (ap (option_and_then body_of) e) q) fs gs h
    name_at n (Some (d.variable at v)) e fs gs h = none_is
    name_at n (Some (d.parameter at t)) e fs gs h = none_is
    name_at n (Some (d.parameter_with at t v)) e fs gs h = none_is
    name_at n None e fs gs h = none_is

    named_capped : (p : Option ValueTree) (gs : List source.Frame) → IsCapped x (meaning.value_or_none here a p gs)
    named_capped None gs = none_capped
    named_capped (Some v) gs = seen-capped-twice x (bare_value here a v gs)

    symbol_capped : (o : Option (List ℕ)) (p : Option LoopTree) (gs : List source.Frame)
        → IsCapped x (meaning.named_by_symbol o p gs)
    symbol_capped None p gs = none_capped
    symbol_capped (Some t) None gs = text_capped t
    symbol_capped (Some t) (Some p) gs = index_capped x t (source.index_of (slice_get gs 0))

    module_capped : (n : ℕ) (body : BodyTree) (p : Option ValueTree) (gs : List source.Frame)
        → IsCapped x (meaning.module_name here a n body p gs)
    module_capped n body (Some v) gs = seen-capped-twice x (bare_value here a v gs)
    module_capped n body None gs = symbol_capped (symbol_name file n) body.each gs

    name_capped : (n : ℕ) (o : Option DeclaredTree) (gs : List source.Frame)
        → IsCapped x (meaning.name_by here a n o gs)
    name_capped n (Some (d.a_resource at t existing body)) gs =
        named_capped (field_named (codes "name") body.fields) gs
    name_capped n (Some (d.a_module at body)) gs = module_capped n body (field_named (codes "name") body.fields) gs
    name_capped n (Some (d.variable at v)) gs = none_capped
    name_capped n (Some (d.parameter at t)) gs = none_capped
    name_capped n (Some (d.parameter_with at t v)) gs = none_capped
    name_capped n None gs = none_capped

    -- a name has the value that is read, without the cap
    name_like : (n : ℕ) (fs : List Frame) (gs : List source.Frame) → FramesStand x around fs gs
        → Like x (value around (emission.name_of file files b n fs)) (meaning.name_value here a n gs)
    name_like n fs gs h =
        (name_at n (declaration file n) refl fs gs h).alike ∙ name_capped n (declaration file n) gs

    -- ---- full names

    upper_like : (n : ℕ) (fs : List Frame) (gs : List source.Frame) → FramesStand x around fs gs
        → Like x (value around (b.full_name n fs)) (a.full_name n gs)
    upper_like n fs gs h = (st.full_name n fs gs h).alike ∙ st.full_names_capped n gs

    slash_stands : (p q : Tree) (r t : Reads Json) → Like x (value around p) r → Like x (value around q) t
        → Stands x around (with_slash p q) (continued (both r t) (λ w. pure (meaning.name_after w.0 w.1)))
    slash_stands p q r t i j =
        expressions.stands x here ls place ans (with_slash p q)
        (continued (both r t) (λ w. pure (meaning.name_after w.0 w.1))) (slash_like x around p q r t i j)
        (expressions.format_plain x here ls place ans b.scope a st.scope
        (more (tree.text (format_text 0 [] (emission.two_holes (47 ∷ [])))) (two p q)))

    reach_frames : (n : ℕ) (r : ReachTree) → parent file n ≡ below r → (fs : List Frame) (gs : List source.Frame)
        → FramesStand x around fs gs → FramesStand x around (frames_of file files b.scope r fs) (frames here a r gs)
    reach_frames n r e fs gs h =
        expressions.frames_stand x here ls place ans b.scope a st.scope r fs gs (sound.parents n r e) h

    full_name_at : (n : ℕ) (p : Parent) → parent file n ≡ p → (fs : List Frame) (gs : List source.Frame)
        → FramesStand x around fs gs
        → Stands x around (emission.full_name_by file files b p (emission.name_of file files b n fs) fs)
        (meaning.full_name_by here a p (meaning.name_value here a n gs) gs)
    full_name_at n no_parent e fs gs h = name_at n (declaration file n) refl fs gs h
    full_name_at n (inside m) e fs gs h =
        slash_stands (b.full_name m []) (emission.name_of file files b n fs) (a.full_name m [])
        (meaning.name_value here a n gs) (upper_like m [] [] tt) (name_like n fs gs h)
    full_name_at n (below r) e fs gs h =
        slash_stands (b.full_name (number_of (target_of r)) (frames_of file files b.scope r fs))
        (emission.name_of file files b n fs) (a.full_name (number_of (target_of r)) (frames here a r gs))
        (meaning.name_value here a n gs)
        (upper_like (number_of (target_of r)) (frames_of file files b.scope r fs) (frames here a r gs)
        (reach_frames n r e fs gs h)) (name_like n fs gs h)

    full_name_capped : (n : ℕ) (p : Parent) (gs : List source.Frame)
        → IsCapped x (meaning.full_name_by here a p (meaning.name_value here a n gs) gs)
    full_name_capped n no_parent gs = name_capped n (declaration file n) gs
    full_name_capped n (inside m) gs =
        seen-capped-on x (both (a.full_name m []) (meaning.name_value here a n gs))
        (λ w. Some (meaning.name_after w.0 w.1))
    full_name_capped n (below r) gs =
        seen-capped-on x
        (both (a.full_name (number_of (target_of r)) (frames here a r gs)) (meaning.name_value here a n gs))
        (λ w. Some (meaning.name_after w.0 w.1))

    -- ---- conditions

    true_stands : Stands x around (call (codes "true") tree.none) (pure (bool true))
    true_stands =
        expressions.stands x here ls place ans (call (codes "true") tree.none) (pure (bool true))
        (like_literal x around l.True) (expressions.literal_plain x here ls place ans b.scope a st.scope l.True)

    source_stands : (c : SourceTree) (fs : List Frame) (gs : List source.Frame) → IsEmittable c
        → FramesStand x around fs gs
        → Stands x around (emitted file files b.scope c fs) (capped (bare here a c gs))
    source_stands c fs gs m h =
        again (emitted file files b.scope c fs) (bare here a c gs) (expression_stands c fs gs m h)

    both_true : (m : ℕ) (c : SourceTree) (fs : List Frame) (gs : List source.Frame) → IsEmittable c
        → FramesStand x around fs gs
        → Stands x around (call (codes "and") (two (b.condition m []) (emitted file files b.scope c fs)))
        (and_value (a.condition m []) (capped (bare here a c gs)))
    unfolding lazy_named
    both_true m c fs gs k h =
        expressions.stands x here ls place ans
        (call (codes "and") (two (b.condition m []) (emitted file files b.scope c fs)))
        (and_value (a.condition m []) (capped (bare here a c gs)))
        (like_and x around (b.condition m []) (emitted file files b.scope c fs) (a.condition m [])
        (capped (bare here a c gs))
        ((st.condition m [] [] tt).alike ∙ st.conditions_capped m [])
        (expression_stands c fs gs k h).alike)
        (plain_lazy x.template x.template_marks around (codes "and")
        (two (b.condition m []) (emitted file files b.scope c fs)) lazy.And refl)

    condition_by_parent : (p : Parent) (c : Option SourceTree) → ((e : SourceTree) → c ≡ Some e → IsEmittable e)
        → (fs : List Frame) (gs : List source.Frame) → FramesStand x around fs gs
        → Stands x around (emission.condition_by file files b p c fs) (meaning.condition_by here a p c gs)
    condition_by_parent (inside m) (Some c) f fs gs h = both_true m c fs gs (f c refl) h
    condition_by_parent (inside m) None f fs gs h = st.condition m [] [] tt
    condition_by_parent no_parent (Some c) f fs gs h = source_stands c fs gs (f c refl) h
    condition_by_parent no_parent None f fs gs h = true_stands
    condition_by_parent (below r) (Some c) f fs gs h = source_stands c fs gs (f c refl) h
    condition_by_parent (below r) None f fs gs h = true_stands

    condition_at : (n : ℕ) (o : Option BodyTree) → body_at file n ≡ o → (fs : List Frame) (gs : List source.Frame)
        → FramesStand x around fs gs
        → Stands x around (emission.condition_of file files b n o fs) (meaning.condition_of here a n o gs)
    condition_at n None e fs gs h = none_is
    condition_at n (Some body) e fs gs h =
        condition_by_parent (parent file n) body.condition (λ c q. sound.conditions n body c e q) fs gs h

    chosen_capped : (o : Option Bool) (r : Reads Json) → IsCapped x r
        → IsCapped x (chosen o r (pure (bool false)))
    unfolding capped continued seen_in
    chosen_capped (Some true) r e = e
    chosen_capped (Some false) r e = refl
    chosen_capped None r e = refl

    and_capped : (r q : Reads Json) → IsCapped x (and_value r q)
    unfolding and_value conditional_value
    and_capped r q =
        seen-capped x r (λ j. chosen (truth_of j) (truth q) (pure (bool false)))
        ∙ seen-same x.source x.source_marks r (λ j. capped (chosen (truth_of j) (truth q) (pure (bool false))))
        (λ j. chosen (truth_of j) (truth q) (pure (bool false)))
        (λ j. chosen_capped (truth_of j) (truth q) (truth_capped q))

    true_capped : IsCapped x (pure (bool true))
    unfolding capped continued seen_in
    true_capped = refl

    condition_capped_by : (p : Parent) (c : Option SourceTree) (gs : List source.Frame)
        → IsCapped x (meaning.condition_by here a p c gs)
    condition_capped_by (inside m) (Some c) gs = and_capped (a.condition m []) (capped (bare here a c gs))
    condition_capped_by (inside m) None gs = st.conditions_capped m []
    condition_capped_by no_parent (Some c) gs = seen-capped-twice x (bare here a c gs)
    condition_capped_by no_parent None gs = true_capped
    condition_capped_by (below r) (Some c) gs = seen-capped-twice x (bare here a c gs)
    condition_capped_by (below r) None gs = true_capped

    condition_capped : (n : ℕ) (o : Option BodyTree) (gs : List source.Frame)
        → IsCapped x (meaning.condition_of here a n o gs)
    condition_capped n None gs = none_capped
    condition_capped n (Some body) gs = condition_capped_by (parent file n) body.condition gs

    -- ---- the parts of names

    abbrev kind_of : ℕ → List ℕ
    kind_of n = (type_of file n).kind

    literal_seen : (at : ℕ) (t : List ℕ) (gs : List source.Frame)
        → seen x (meaning.value_or_none here a (Some (s.plain (s.literal at (l.Text t)))) gs)
        ≡ done_seen (Some (text t))
    unfolding capped continued seen_in
    literal_seen at t gs = refl

    module _ (kind : List ℕ) (h : IsResourceType kind) (own : Tree) (r : Reads Json)
        (i : Like x (value around own) r) where
      abbrev Named : List Tree → Type 0
      Named ps = PartsStand x around kind ps (continued r (λ v. done (id_named here.place kind v)))

      by_number : Named (parts_by_number own (number_of_parts kind))
      by_number = number_parts x around kind own r i h (number_of_parts kind) refl

      of_text : (t : List ℕ) → seen x r ≡ done_seen (Some (text t)) → (q : Bool)
          → Named (if q then map tree.text (segments t) else parts_by_number own (number_of_parts kind))
      of_text t e true = text_parts x around kind t r e
      of_text t e false = by_number

      abbrev IsText : Option ValueTree → Type 0
      IsText p = (at : ℕ) (t : List ℕ) → p ≡ Some (s.plain (s.literal at (l.Text t)))
          → seen x r ≡ done_seen (Some (text t))

      alone : (p : Option ValueTree) → IsText p → Named (parts_of p own (number_of_parts kind))
      alone (Some (s.plain (s.literal at (l.Text t)))) f =
          of_text t (f at t refl) (length (segments t) == number_of_parts kind)
      alone (Some (s.plain (s.literal at (l.Number z)))) f = by_number
      alone (Some (s.plain (s.literal at l.True))) f = by_number
      alone (Some (s.plain (s.literal at l.False))) f = by_number
      alone (Some (s.plain (s.literal at l.Null))) f = by_number
      alone (Some (s.plain (s.name at v))) f = by_number
      alone (Some (s.plain (s.interpolated at first ps))) f = by_number
      alone (Some (s.plain (s.object at ps))) f = by_number
      alone (Some (s.plain (s.array at es))) f = by_number
      alone (Some (s.plain (s.call at name es))) f = by_number
      alone (Some (s.plain (s.instance t))) f = by_number
      alone (Some (s.plain (s.field t at v))) f = by_number
      alone (Some (s.plain (s.output t at k))) f = by_number
      alone (Some (s.plain (s.member e k n))) f = by_number
      alone (Some (s.plain (s.index e k j))) f = by_number
      alone (Some (s.plain (s.prefixed at q e))) f = by_number
      alone (Some (s.plain (s.binary q e g))) f = by_number
      alone (Some (s.plain (s.conditional c e g))) f = by_number
      alone (Some (s.each o e)) f = by_number
      alone None f = by_number

    literal_name : (n at : ℕ) (q : Quoted) (existing : Bool) (body : BodyTree)
        → declaration file n ≡ Some (d.a_resource at q existing body) → (gs : List source.Frame) (k : ℕ) (t : List ℕ)
        → field_named (codes "name") body.fields ≡ Some (s.plain (s.literal k (l.Text t)))
        → seen x (meaning.name_value here a n gs) ≡ done_seen (Some (text t))
    literal_name n at q existing body e gs k t f =
        ap (λ o. seen x (meaning.name_by here a n o gs)) e
        ∙ ap (λ p. seen x (meaning.value_or_none here a p gs)) f ∙ literal_seen k t gs

    resource_parts : (n at : ℕ) (q : Quoted) (existing : Bool) (body : BodyTree)
        → declaration file n ≡ Some (d.a_resource at q existing body) → (p : Parent) → parent file n ≡ p
        → (fs : List Frame) (gs : List source.Frame) → FramesStand x around fs gs
        → PartsStand x around (kind_of n)
        (emission.parts_by file files b p (field_named (codes "name") body.fields) (number_of_parts (kind_of n))
        (emission.name_of file files b n fs) fs)
        (meaning.id_by here a p (kind_of n) (meaning.name_value here a n gs) gs)
    resource_parts n at q existing body e no_parent f fs gs h =
        alone (kind_of n) (sound.types n at q existing body e) (emission.name_of file files b n fs)
        (meaning.name_value here a n gs) (name_like n fs gs h) (field_named (codes "name") body.fields)
        (λ k t g. literal_name n at q existing body e gs k t g)
    resource_parts n at q existing body e (inside m) f fs gs h =
        child_parts x around (kind_of n) (kind_of m) (b.parts m []) (emission.name_of file files b n fs) (a.id m [])
        (meaning.name_value here a n gs) (made_child here.place (kind_of n) (kind_of m) (sound.types_inside n m f))
        (st.parts m [] [] tt) (name_like n fs gs h)
    resource_parts n at q existing body e (below r) f fs gs h =
        child_parts x around (kind_of n) (kind_of (number_of (target_of r)))
        (b.parts (number_of (target_of r)) (frames_of file files b.scope r fs)) (emission.name_of file files b n fs)
        (a.id (number_of (target_of r)) (frames here a r gs)) (meaning.name_value here a n gs)
        (made_child here.place (kind_of n) (kind_of (number_of (target_of r))) (sound.types_below n r f))
        (st.parts (number_of (target_of r)) (frames_of file files b.scope r fs) (frames here a r gs)
        (reach_frames n r f fs gs h)) (name_like n fs gs h)

    parts_stand : (n : ℕ) (o : Option DeclaredTree) → declaration file n ≡ o → (fs : List Frame)
        (gs : List source.Frame) → FramesStand x around fs gs
        → PartsStand x around (kind_of n) (emission.parts_at file files b n o fs) (meaning.id_of here a n o gs)
    parts_stand n (Some (d.a_resource at q existing body)) e fs gs h =
        resource_parts n at q existing body e (parent file n) refl fs gs h
    parts_stand n (Some (d.a_module at body)) e fs gs h = empty_parts x around (kind_of n)
    parts_stand n (Some (d.variable at v)) e fs gs h = empty_parts x around (kind_of n)
    parts_stand n (Some (d.parameter at t)) e fs gs h = empty_parts x around (kind_of n)
    parts_stand n (Some (d.parameter_with at t v)) e fs gs h = empty_parts x around (kind_of n)
    parts_stand n None e fs gs h = empty_parts x around (kind_of n)

    -- ---- ids

    id_stands : (n : ℕ) (o : Option DeclaredTree) → declaration file n ≡ o → (fs : List Frame) (gs : List source.Frame)
        → FramesStand x around fs gs
        → IdStands x around (emission.id_at file files b n o fs) (meaning.id_of here a n o gs)
    id_stands n (Some (d.a_resource at q existing body)) e fs gs h =
        let ps = emission.parts_at file files b n (Some (d.a_resource at q existing body)) fs in
        let r = meaning.id_of here a n (Some (d.a_resource at q existing body)) gs in
        let there : PartsStand x around (kind_of n) ps r =
        resource_parts n at q existing body e (parent file n) refl fs gs h in
        let t = sound.types n at q existing body e in record {
          alike = id_like x around (kind_of n) ps r (type_divided (kind_of n) t) there;
          holds_value = expressions.holds x here ls place ans (id_of_parts (kind_of n) ps) (id_plain x around
              (kind_of n) ps);
          is_of_resource = ids_of_resources x around place (kind_of n) t ps r there;
        }
    id_stands n (Some (d.a_module at body)) e fs gs h = none_id
    id_stands n (Some (d.variable at v)) e fs gs h = none_id
    id_stands n (Some (d.parameter at t)) e fs gs h = none_id
    id_stands n (Some (d.parameter_with at t v)) e fs gs h = none_id
    id_stands n None e fs gs h = none_id

    next_stands : EmissionStands x here ls (emission.next file files b) (meaning.declared here a)
    unfolding emission.next meaning.declared
    next_stands = record {
      scope = record {
        variable = λ n. variable_at n (declaration file n) refl (file.has_entry n) refl;
        items = λ n. over_stands (option_and_then (λ b. b.each) (body_at file n))
            (loop_emittable n (body_at file n) refl);
        items_capped = λ n. over_capped (option_and_then (λ b. b.each) (body_at file n));
        name = λ n fs gs h. name_at n (declaration file n) refl fs gs h;
        names_capped = λ n gs. name_capped n (declaration file n) gs;
        id = λ n fs gs h. id_stands n (declaration file n) refl fs gs h;
      };
      full_name = λ n fs gs h. full_name_at n (parent file n) refl fs gs h;
      full_names_capped = λ n gs. full_name_capped n (parent file n) gs;
      condition = λ n fs gs h. condition_at n (body_at file n) refl fs gs h;
      conditions_capped = λ n gs. condition_capped n (body_at file n) gs;
      parts = λ n fs gs h. parts_stand n (declaration file n) refl fs gs h;
    }

  blank_stands : EmissionStands x here ls emission.blank meaning.blank
  blank_stands = record {
    scope = record {
      variable = λ n. none_is;
      items = λ n. none_is;
      items_capped = λ n. none_capped;
      name = λ n fs gs h. none_is;
      names_capped = λ n gs. none_capped;
      id = λ n fs gs h. none_id;
    };
    full_name = λ n fs gs h. none_is;
    full_names_capped = λ n gs. none_capped;
    condition = λ n fs gs h. none_is;
    conditions_capped = λ n gs. none_capped;
    parts = λ n fs gs h. empty_parts x around (type_of file n).kind;
  }

  pub all_stand : (k : ℕ) → EmissionStands x here ls (through file files k) (meaning.around here k)
  unfolding through meaning.around
  all_stand zero = blank_stands
  all_stand (suc k) = next_stands (through file files k) (meaning.around here k) (all_stand k)

  pub file_law : (e : SourceTree) (fs : List Frame) (gs : List source.Frame) → IsEmittable e
      → FramesStand x around fs gs
      → Stands x around (emitted file files (emission.whole file files).scope e fs)
      (bare here (meaning.whole here) e gs)
  file_law e fs gs m h =
      expression_stands (through file files (length file.symbols)) (meaning.around here (length file.symbols))
      (all_stand (length file.symbols)) e fs gs m h
