-- Each expression that is emitted stands for what it is emitted of.
use Rattle.std.proofs.Common.{◌≡◌, ℕ, zero, suc, List, [], ◌∷◌, ◌++◌, Option, Some, None, codes, refl, sym, ap, ap₂}
use Rattle.std.proofs.Common.{◌∙◌, subst, true}
use Rattle.std.specs.Prelude.{slice_get}
use Rattle.arm_value.specs.Json.{Json, int, text}
use Rattle.arm_value.specs.Look.{fold}
use Rattle.arm_ids.specs.Id.{text_of, folded}
use Rattle.arm_ids.specs.declared.id.ResourceId.{ResourceId}
use Rattle.expression_values.specs.Tree.{Tree, Trees, call, member, index, more}
use Rattle.expression_values.specs.Tree as tree
use Rattle.bicep_meaning.specs.Table.{table, row_in}
use Rattle.bicep_meaning.specs.Values.{value_of, of_numbers}
use Rattle.reading.specs.Reading.{done, pure, none, read, continued, both, beside}
use Rattle.expression_values.specs.Looping.{Looping}
use Rattle.expression_values.specs.Look as look
use Rattle.expression_values.specs.Look.{Look, Fact, Looking, Surroundings, json_in, parameter}
use Rattle.expression_values.specs.Names.{lazy_named, strict_named, placed_named}
use Rattle.expression_values.specs.Lazy.TheVariants as lazy
use Rattle.expression_values.specs.Part.{part_of}
use Rattle.expression_values.specs.Held as holding
use Rattle.expression_values.specs.Object as object
use Rattle.expression_values.specs.Held.{Held, held_value}
use Rattle.expression_values.specs.Meaning.{held, value, values, used, called}
use Rattle.expression_values.proofs.Equations.{texts, capped_twice}
use Rattle.bicep_meaning.specs.Guarded.{Reads}
use Rattle.bicep_meaning.specs.Cells as cells
use Rattle.bicep_resolved.specs.Indexing.{Indexing}
use Rattle.bicep_resolved.specs.Indexing.TheVariants as indexing
use Rattle.bicep_resolved.specs.Literal.{Literal}
use Rattle.bicep_resolved.specs.Literal.TheVariants as l
use Rattle.bicep_resolved.specs.Operator.{Operator}
use Rattle.bicep_resolved.specs.Operator.TheVariants as o
use Rattle.bicep_resolved.specs.Prefix.{Prefix}
use Rattle.bicep_resolved.specs.Prefix.TheVariants as prefix
use Rattle.bicep_resolved.specs.declared.leaf.Field.{Field}
use Rattle.bicep_resolved.specs.declared.leaf.Field.TheVariants as field
use Rattle.bicep_resolved.specs.declared.leaf.Meaning.{Meaning}
use Rattle.bicep_resolved.specs.declared.leaf.Meaning.TheVariants as m
use Rattle.bicep_resolved.specs.declared.leaf.Selector.{Selector}
use Rattle.bicep_resolved.specs.declared.leaf.Selector.TheVariants as selector
use Rattle.bicep_resolved.specs.Source.{SourceTree, SourceTrees, PieceTrees, PropertyTrees, ReachTree, ValueTree}
use Rattle.bicep_resolved.specs.Source as s
use Rattle.bicep_resolved.specs.Target.{number_of, target_of}
use Rattle.bicep_meaning.specs.Functions.{may_call}
use Rattle.bicep_meaning.specs.Files.{symbol_name, type_of}
use Rattle.bicep_meaning.specs.Around as source
use Rattle.bicep_meaning.specs.Around.{Here}
use Rattle.bicep_meaning.specs.Rows as rows
use Rattle.bicep_meaning.specs.Rows.{all, capped, by_both, conditional_value}
use Rattle.bicep_meaning.specs.Meaning as meaning
use Rattle.bicep_meaning.specs.Meaning.{bare, field_value, named, output_name, output_value, parameter_entry, frames, id_text}
use Rattle.bicep_emission.specs.Alike.{Seen, after, seen_in}
use Rattle.bicep_emission.specs.Answered.{IsPlainPlace, Sides, Answers}
use Rattle.bicep_emission.specs.Emittable.{IsEmittable, AreEmittable, AreHoles, AreMembers, IsReach}
use Rattle.bicep_emission.specs.Texts.{format_text}
use Rattle.bicep_emission.specs.Spelled.{spelled}
use Rattle.bicep_emission.specs.Emitted as emitting
use Rattle.bicep_emission.specs.Emitted.{one, two, Frame, Scope, no_value, parameter_of, emitted, all_of, holes_of}
use Rattle.bicep_emission.specs.Emitted.{members_of, emitted_value, frames_of, literal_of, binary_of, prefix_of}
use Rattle.bicep_emission.specs.Emitted.{member_of, part_at, field_of, output_of, output_named}
use Rattle.bicep_emission.specs.Stands.{Like, HoldsValue, Stands, FrameStands, FramesStand, IsOfResource, ScopeStands}
use Rattle.bicep_emission.proofs.SeenLemmas.{then_seen, both_seen, done_seen}
use Rattle.bicep_emission.proofs.KeptLemmas.{kept_of}
use Rattle.bicep_emission.proofs.AccessLemmas.{plainly, IsPlain, plain_value, plain_function, plain_lazy, held_seen}
use Rattle.bicep_emission.proofs.AccessLemmas.{used_held, member_seen, plain_member, index_seen, plain_index}
use Rattle.bicep_emission.proofs.CallLemmas.{AllLike, seen, seen-on, seen-capped-on, seen-capped-twice, like_done}
use Rattle.bicep_emission.proofs.CallLemmas.{like_plain, like_capped}
use Rattle.bicep_emission.proofs.OperatorLemmas.{by_both_seen, like_conditional}
use Rattle.bicep_emission.proofs.BinaryLemmas.{like_binary, like_prefix, like_literal, like_try, like_try_member}
use Rattle.bicep_emission.proofs.StateLemmas as states
use Rattle.bicep_emission.proofs.StateLemmas.{answered_like, all_after, properties_like, properties_plain}
use Rattle.bicep_emission.proofs.StateLemmas.{member_like, member_plain}
use Rattle.bicep_emission.proofs.ListLemmas.{like_array, like_object, like_text, named_readings, member_readings}
use Rattle.bicep_emission.proofs.ListLemmas.{after_readings, AreReadings}
use Rattle.bicep_emission.proofs.NamedCallLemmas.{like_named, plain_named}
use Rattle.bicep_emission.proofs.SpelledLemmas.{spelled_folds, same_called, same_called_by_files}
use Rattle.bicep_emission.proofs.OutputLemmas.{like_output, plain_output}

module _ (x : Sides) (here : Here) (ls : List Looping) (plain_place : IsPlainPlace here.place)
    (ans : Answers x here) where
  abbrev around : Surroundings
  around = record { loops = ls; place = here.place }

  abbrev sees : {A : Type 0} → Looking A → Seen A
  sees r = seen_in x.template x.template_marks r

  abbrev Plain : Tree → Type 0
  Plain e = IsPlain x.template x.template_marks (held around e)

  -- ---- two ways to say that what is held is a value

  value_capped : (e : Tree) → holding.capped (value around e) ≡ value around e
  unfolding used
  value_capped e = capped_twice (continued (held around e) holding.forced)

  held_is : (e : Tree) → sees (held_value (value around e)) ≡ plainly (sees (value around e))
  held_is e = held_seen x.template x.template_marks (value around e) ∙ ap (λ r. plainly (sees r)) (value_capped e)

  pub holds : (e : Tree) → Plain e → HoldsValue x around e
  holds e p = p ∙ sym (held_is e)

  pub is_plain : (e : Tree) → HoldsValue x around e → Plain e
  is_plain e p = p ∙ held_is e

  pub stands : (e : Tree) (r : Reads Json) → Like x (value around e) (capped r) → Plain e → Stands x around e r
  stands e r i p = record { alike = i; holds_value = holds e p }

  -- ---- what has no value

  pub none_capped : seen x (capped none) ≡ done_seen None
  unfolding capped continued seen_in
  none_capped = refl

  pub none_like : Like x (value around no_value) none
  unfolding lazy_named strict_named placed_named table row_in value_of of_numbers all continued
  none_like = like_plain x around (codes "add") tree.none [] refl refl tt

  pub none_plain : Plain no_value
  unfolding lazy_named strict_named placed_named
  none_plain = plain_function x.template x.template_marks around (codes "add") tree.none refl refl

  pub none_stands : (r : Reads Json) → seen x (capped r) ≡ done_seen None → Stands x around no_value r
  unfolding seen_in
  none_stands r e = stands no_value r (none_like ∙ sym e) none_plain

  -- ---- names

  item_stands : (fs : List Frame) (gs : List source.Frame) (n : ℕ) → FramesStand x around fs gs
      → Stands x around (emitting.item_of (slice_get fs n)) (source.item_of (slice_get gs n))
  item_stands [] [] zero h = none_stands none none_capped
  item_stands [] [] (suc n) h = none_stands none none_capped
  item_stands [] (g ∷ gs) n h = absurd h
  item_stands (f ∷ fs) [] n h = absurd h
  item_stands (f ∷ fs) (g ∷ gs) zero h = h.0.item
  item_stands (f ∷ fs) (g ∷ gs) (suc n) h = item_stands fs gs n h.1

  index_stands : (fs : List Frame) (gs : List source.Frame) (n : ℕ) → FramesStand x around fs gs
      → Stands x around (emitting.index_of (slice_get fs n)) (source.index_of (slice_get gs n))
  index_stands [] [] zero h = none_stands none none_capped
  index_stands [] [] (suc n) h = none_stands none none_capped
  index_stands [] (g ∷ gs) n h = absurd h
  index_stands (f ∷ fs) [] n h = absurd h
  index_stands (f ∷ fs) (g ∷ gs) zero h = h.0.index
  index_stands (f ∷ fs) (g ∷ gs) (suc n) h = index_stands fs gs n h.1

  parameter_held : (name : List ℕ)
      → sees (held around (call (codes "parameters") (one (tree.text name))))
      ≡ sees (held_value (look.seen json_in (parameter (fold name))))
  unfolding called lazy_named strict_named look.all continued both beside
  parameter_held name = ap (λ v. sees (called around (codes "parameters") (v ∷ []))) (texts around name)

  parameter_stands : (n : ℕ) (o : Option (List ℕ)) → symbol_name here.file n ≡ o
      → Stands x around (parameter_of o) (continued (done o) (λ name. read (cells.parameter here.at (fold name))))
  unfolding continued
  parameter_stands n None e = none_stands none none_capped
  parameter_stands n (Some name) e =
      stands (parameter_of (Some name)) (read (cells.parameter here.at (fold name)))
      (states.used_same x.template x.template_marks (held around (parameter_of (Some name)))
      (held_value (look.seen json_in (parameter (fold name)))) (parameter_held name)
      ∙ used_held x.template x.template_marks (look.seen json_in (parameter (fold name)))
      ∙ like_capped x (look.seen json_in (parameter (fold name))) (read (cells.parameter here.at (fold name)))
      (answered_like x around (parameter (fold name)) (cells.parameter here.at (fold name)) (ans.parameters n name e)))
      (states.plain_same x.template x.template_marks (held around (parameter_of (Some name)))
      (held_value (look.seen json_in (parameter (fold name)))) (parameter_held name)
      (plain_value x.template x.template_marks (look.seen json_in (parameter (fold name)))))

  module _ (sc : Scope) (a : source.Around) (st : ScopeStands x around sc a) where
    name_stands : (v : Meaning) (fs : List Frame) (gs : List source.Frame) → FramesStand x around fs gs
        → Stands x around (emitting.named here.file here.files sc v fs) (named here a v gs)
    unfolding parameter_entry
    name_stands (m.Parameter n) fs gs h = parameter_stands n (symbol_name here.file n) refl
    name_stands (m.Variable n) fs gs h = st.variable n
    name_stands (m.Item n) fs gs h = item_stands fs gs n h
    name_stands (m.Index n) fs gs h = index_stands fs gs n h

    -- ---- operators

    plain_function_of : (name : List ℕ) (es : Trees) → lazy_named name ≡ None → strict_named name ≡ None
        → Plain (call name es)
    plain_function_of name es e h = plain_function x.template x.template_marks around name es e h

    pub binary_plain : (op : Operator) (p q : Tree) → Plain (binary_of op p q)
    unfolding lazy_named strict_named placed_named
    binary_plain o.Coalesce p q = plain_lazy x.template x.template_marks around (codes "coalesce")
        (two p q) lazy.Coalesce refl
    binary_plain o.Or p q = plain_lazy x.template x.template_marks around (codes "or") (two p q) lazy.Or refl
    binary_plain o.And p q = plain_lazy x.template x.template_marks around (codes "and") (two p q) lazy.And refl
    binary_plain o.Equals p q = plain_function_of (codes "equals") (two p q) refl refl
    binary_plain o.NotEquals p q = plain_function_of (codes "not") (one (call (codes "equals") (two p q))) refl refl
    binary_plain o.EqualsInsensitive p q =
        plain_function_of (codes "equals") (two (emitting.small p) (emitting.small q)) refl refl
    binary_plain o.NotEqualsInsensitive p q =
        plain_function_of (codes "not") (one (call (codes "equals") (two (emitting.small p)
        (emitting.small q)))) refl refl
    binary_plain o.Less p q = plain_function_of (codes "less") (two p q) refl refl
    binary_plain o.LessOrEqual p q = plain_function_of (codes "lessOrEquals") (two p q) refl refl
    binary_plain o.Greater p q = plain_function_of (codes "greater") (two p q) refl refl
    binary_plain o.GreaterOrEqual p q = plain_function_of (codes "greaterOrEquals") (two p q) refl refl
    binary_plain o.Add p q = plain_function_of (codes "add") (two p q) refl refl
    binary_plain o.Subtract p q = plain_function_of (codes "sub") (two p q) refl refl
    binary_plain o.Multiply p q = plain_function_of (codes "mul") (two p q) refl refl
    binary_plain o.Divide p q = plain_function_of (codes "div") (two p q) refl refl
    binary_plain o.Remainder p q = plain_function_of (codes "mod") (two p q) refl refl

    prefix_plain : (p : Prefix) (q : Tree) → Plain (prefix_of p q)
    unfolding lazy_named strict_named placed_named
    prefix_plain prefix.Not q = plain_function_of (codes "not") (one q) refl refl
    prefix_plain prefix.Negate q = plain_function_of (codes "sub") (two (tree.int _) q) refl refl

    text_plain : (t : List ℕ) → Plain (tree.text t)
    text_plain t = plain_value x.template x.template_marks (pure (text t))

    pub literal_plain : (v : Literal) → Plain (literal_of v)
    unfolding lazy_named strict_named placed_named
    literal_plain (l.Number z) = plain_value x.template x.template_marks (pure (int z))
    literal_plain (l.Text t) = text_plain t
    literal_plain l.True = plain_function_of (codes "true") tree.none refl refl
    literal_plain l.False = plain_function_of (codes "false") tree.none refl refl
    literal_plain l.Null = plain_function_of (codes "null") tree.none refl refl

    pub text_stands : (t : List ℕ) → Stands x around (tree.text t) (pure (text t))
    unfolding capped continued
    text_stands t = stands (tree.text t) (pure (text t))
        (ap (λ u. sees u) (texts around t) ∙ like_done x (Some (text t))) (text_plain t)

    -- ---- accesses

    member_stands : (k : Selector) (e : Tree) (r : Reads Json) (name : List ℕ) → Stands x around e r
        → Stands x around (member_of k e name) (continued (capped r) (λ j. done (rows.member_value k j (text name))))
    unfolding lazy_named strict_named placed_named
    member_stands selector.Plain e r name i =
        stands (member e name) (continued (capped r) (λ j. done (part_of j (text name))))
        (member_seen x.template x.template_marks around e name (is_plain e i.holds_value)
        ∙ ap (λ s. then_seen s (λ j. done_seen (kept_of (part_of j (text name))))) i.alike
        ∙ sym (seen-on x (capped r) (λ j. kept_of (part_of j (text name))))
        ∙ sym (seen-capped-on x (capped r) (λ j. part_of j (text name))))
        (plain_member x.template x.template_marks around e name (is_plain e i.holds_value))
    member_stands selector.Safe e r name i =
        stands (emitting.try_get e (tree.text name)) (continued (capped r) (λ j. done
        (rows.member_value selector.Safe j (text name))))
        (like_try_member x around e name (capped r) i.alike)
        (plain_function_of (codes "tryGet") (two e (tree.text name)) refl refl)

    part_stands : (e i : Tree) (r q : Reads Json) → Plain e → Like x (value around e) r → Like x (value around i) q
        → Stands x around (index e i) (by_both part_of r q)
    part_stands e i r q p h k =
        stands (index e i) (by_both part_of r q)
        (index_seen x.template x.template_marks around e i p
        ∙ ap₂ (λ s t. then_seen (both_seen s t) (λ p. done_seen (kept_of (part_of p.0 p.1)))) h k
        ∙ sym (by_both_seen x part_of r q))
        (plain_index x.template x.template_marks around e i p)

    at_stands : (k : Indexing) (e i : Tree) (r q : Reads Json) → Stands x around e r → Stands x around i q
        → Stands x around (part_at k e i) (by_both (rows.index_value k) (capped r) (capped q))
    unfolding lazy_named strict_named placed_named
    at_stands indexing.Plain e i r q h k = part_stands e i (capped r) (capped q)
        (is_plain e h.holds_value) h.alike k.alike
    at_stands indexing.Safe e i r q h k =
        stands (emitting.try_get e i) (by_both (rows.index_value indexing.Safe) (capped r) (capped q))
        (like_try x around e i (capped r) (capped q) h.alike k.alike)
        (plain_function_of (codes "tryGet") (two e i) refl refl)

    -- ---- fields

    abbrev resource_of : (i : ResourceId) → IsOfResource x i → states.IsOfResource x i
    resource_of i k = record {
      is_read = k.is_read;
      no_deployment = ans.no_deployments (folded i) k.is_resource;
      is_unmarked = ans.deployments_unmarked (folded i);
    }

    -- a text is kept
    id_capped : (r : Reads ResourceId) → seen x (capped (id_text r)) ≡ seen x (id_text r)
    id_capped r = seen-capped-on x r (λ i. Some (text (text_of i)))

    field_stands : (n : ℕ) (f : Field) (fs : List Frame) (gs : List source.Frame) → FramesStand x around fs gs
        → Stands x around (field_of here.file here.files sc n f fs) (field_value here a n f gs)
    field_stands n field.Id fs gs h =
        let i = st.id n fs gs h in
        record { alike = i.alike ∙ sym (id_capped (a.id n gs)); holds_value = i.holds_value }
    field_stands n field.Name fs gs h = st.name n fs gs h
    field_stands n field.Type fs gs h = text_stands (type_of here.file n).kind
    field_stands n field.ApiVersion fs gs h = text_stands (type_of here.file n).version
    field_stands n field.Properties fs gs h =
        let i = st.id n fs gs h in
        stands (emitting.properties_of (sc.id n fs) (type_of here.file n).version)
        (meaning.state_member (codes "properties") (a.id n gs))
        (properties_like x around ans.states (sc.id n fs) (a.id n gs) i.alike (λ k e. resource_of k
        (i.is_of_resource k e))
        (type_of here.file n).version)
        (properties_plain x around ans.states (sc.id n fs) (a.id n gs) i.alike (λ k e. resource_of k
        (i.is_of_resource k e))
        (type_of here.file n).version)
    field_stands n field.Outputs fs gs h = none_stands none none_capped
    field_stands n (field.Other name) fs gs h =
        let i = st.id n fs gs h in
        stands (emitting.state_member_of (sc.id n fs) (type_of here.file n).version name) (meaning.state_member name
        (a.id n gs))
        (member_like x around ans.states (sc.id n fs) (a.id n gs) i.alike (λ k e. resource_of k (i.is_of_resource k e))
        (type_of here.file n).version name)
        (member_plain x around ans.states (sc.id n fs) (a.id n gs) i.alike (λ k e. resource_of k (i.is_of_resource k e))
        (type_of here.file n).version name)

    output_stands : (name : Option (List ℕ)) (n : ℕ) (fs : List Frame) (gs : List source.Frame)
        → FramesStand x around fs gs
        → Stands x around (output_of name (sc.name n fs)) (output_value here name (a.name n gs))
    unfolding output_value continued
    output_stands None n fs gs h = none_stands none none_capped
    output_stands (Some name) n fs gs h =
        let i = st.name n fs gs h in
        let like : Like x (value around (sc.name n fs)) (a.name n gs) = i.alike ∙ st.names_capped n gs in
        stands (output_of (Some name) (sc.name n fs)) (output_value here (Some name) (a.name n gs))
        (like_output x here ls plain_place ans name (sc.name n fs) (a.name n gs) like)
        (plain_output x here ls plain_place ans name (sc.name n fs) (a.name n gs) like)

    -- ---- the law

    abbrev em : SourceTree → List Frame → Tree
    em e fs = emitted here.file here.files sc e fs

    abbrev be : SourceTree → List source.Frame → Reads Json
    be e gs = bare here a e gs

    call_plain : (name : List ℕ) (es : Trees) → lazy_named name ≡ None → strict_named name ≡ None → Plain (call name es)
    call_plain name es e h = plain_function_of name es e h

    -- the function of a name in the usual case of its letters
    spelled_called : (name : List ℕ) → may_call name ≡ true → may_call (spelled name) ≡ true
    spelled_called name e = same_called_by_files (spelled name) name (spelled_folds name) ∙ e

    -- a run of a loop
    element_stands : (n : ℕ) (e : Tree) (r : Reads Json) → Stands x around e r
        → FrameStands x around (emitting.element (sc.items n) e) (source.element (a.items n) (capped r))
    unfolding source.element
    element_stands n e r i =
        let xs = st.items n in
        record {
          item = part_stands (sc.items n) e (a.items n) (capped r) (is_plain (sc.items n) xs.holds_value)
              (xs.alike ∙ st.items_capped n) i.alike;
          index = record { alike = i.alike ∙ sym (seen-capped-twice x r); holds_value = i.holds_value };
          index_capped = seen-capped-twice x r;
        }

    pub format_plain : (es : Trees) → Plain (call (codes "format") es)
    unfolding lazy_named strict_named placed_named
    format_plain es = call_plain (codes "format") es refl refl

    object_plain : (es : Trees) → Plain (call (codes "createObject") es)
    unfolding lazy_named strict_named placed_named
    object_plain es = call_plain (codes "createObject") es refl refl

    array_plain : (es : Trees) → Plain (call (codes "createArray") es)
    unfolding lazy_named strict_named placed_named
    array_plain es = call_plain (codes "createArray") es refl refl

    if_plain : (es : Trees) → Plain (call (codes "if") es)
    unfolding lazy_named
    if_plain es = plain_lazy x.template x.template_marks around (codes "if") es lazy.If refl

    name_like : (name : List ℕ) → Like x (value around (tree.text name)) (pure (text name))
    name_like name = ap (λ u. sees u) (texts around name) ∙ like_done x (Some (text name))

    -- the names and readings of members
    abbrev members_read : PropertyTrees → List source.Frame → List (List ℕ × Reads Json)
    members_read s.no_property gs = []
    members_read (s.property at name v ps) gs = (name, capped (meaning.bare_value here a v gs)) ∷ members_read ps gs

    members_same : (ps : PropertyTrees) (gs : List source.Frame)
        → member_readings x (members_read ps gs) ≡ meaning.members here a ps gs
    members_same s.no_property gs = refl
    members_same (s.property at name v ps) gs =
        ap (λ ms. meaning.member_of name (capped (meaning.bare_value here a v gs)) ∷ ms) (members_same ps gs)

    -- the readings of holes
    abbrev holes_read : PieceTrees → List source.Frame → List (Reads Json)
    holes_read s.no_piece gs = []
    holes_read (s.piece e after ps) gs = capped (be e gs) ∷ holes_read ps gs

    holes_same : (ps : PieceTrees) (gs : List source.Frame)
        → after_readings x ps (holes_read ps gs) ≡ meaning.texts here a ps gs
    holes_same s.no_piece gs = refl
    holes_same (s.piece e after ps) gs =
        ap (λ rs. meaning.printed_before after (capped (be e gs)) ∷ rs) (holes_same ps gs)

    are_readings : (ps : PieceTrees) (gs : List source.Frame) → AreReadings x ps (holes_read ps gs)
    are_readings s.no_piece gs = tt
    are_readings (s.piece e after ps) gs = are_readings ps gs

    mutual
      pub law : (e : SourceTree) (fs : List Frame) (gs : List source.Frame) → IsEmittable e → FramesStand x around fs gs
          → Stands x around (em e fs) (be e gs)
      law (s.name at v) fs gs m h = name_stands v fs gs h
      law (s.literal at v) fs gs m h = stands (literal_of v) (pure (rows.literal_value v)) (like_literal x around v)
          (literal_plain v)
      law (s.interpolated at first ps) fs gs m h =
          stands (em (s.interpolated at first ps) fs) (be (s.interpolated at first ps) gs)
          (subst (λ rs. Like x (value around (em (s.interpolated at first ps) fs)) (capped (continued (all rs)
          (λ ts. pure (text (first ++ meaning.joined ts))))))
          (holes_same ps gs)
          (like_text x around first ps (holes_of here.file here.files sc ps fs) (holes_read ps gs)
          (are_readings ps gs) m.1
          (holes_like ps fs gs m.0 h)))
          (format_plain (more (tree.text (format_text 0 first ps)) (holes_of here.file here.files sc ps fs)))
      law (s.object at ps) fs gs m h =
          stands (em (s.object at ps) fs) (be (s.object at ps) gs)
          (subst (λ rs. Like x (value around (em (s.object at ps) fs)) (capped (continued (all rs) (λ ms. pure
          (object.object_of ms)))))
          (members_same ps gs)
          (like_object x around (members_of here.file here.files sc ps fs) (members_read ps gs)
          (members_like ps fs gs m h)))
          (object_plain (members_of here.file here.files sc ps fs))
      law (s.array at es) fs gs m h =
          stands (em (s.array at es) fs) (be (s.array at es) gs)
          (like_array x around (all_of here.file here.files sc es fs) (meaning.values here a es gs)
          (all_like es fs gs m h))
          (array_plain (all_of here.file here.files sc es fs))
      law (s.call at name es) fs gs m h =
          stands (em (s.call at name es) fs) (be (s.call at name es) gs)
          (like_named x around (spelled name) (all_of here.file here.files sc es fs) (meaning.values here a es gs)
          (spelled_called name m.0) (all_like es fs gs m.1 h)
          ∙ ap (λ r. seen x (capped r)) (same_called (spelled name) name (spelled_folds name) here.place
          (meaning.values here a es gs)))
          (plain_named x around (spelled name) (all_of here.file here.files sc es fs) (spelled_called name m.0))
      law (s.instance r) fs gs m h = none_stands none none_capped
      law (s.field r at f) fs gs m h =
          field_stands (number_of (target_of r)) f (frames_of here.file here.files sc r fs) (frames here a r gs)
          (frames_stand r fs gs m h)
      law (s.output r at k) fs gs m h =
          output_stands (output_named here.file here.files sc (target_of r) k) (number_of (target_of r))
          (frames_of here.file here.files sc r fs) (frames here a r gs) (frames_stand r fs gs m h)
      law (s.member e k n) fs gs m h = member_stands k (em e fs) (be e gs) n.text (law e fs gs m h)
      law (s.index e k i) fs gs m h = at_stands k (em e fs) (em i fs) (be e gs) (be i gs) (law e fs gs m.0 h)
          (law i fs gs m.1 h)
      law (s.prefixed at p e) fs gs m h =
          stands (prefix_of p (em e fs)) (continued (capped (be e gs)) (λ j. done (rows.prefix_value p j)))
          (like_prefix x around p (em e fs) (capped (be e gs)) (law e fs gs m h).alike) (prefix_plain p (em e fs))
      law (s.binary op p q) fs gs m h =
          stands (binary_of op (em p fs) (em q fs)) (rows.operated op (capped (be p gs)) (capped (be q gs)))
          (like_binary x around (em p fs) (em q fs) (capped (be p gs)) (capped (be q gs)) (law p fs gs m.0 h).alike
          (law q fs gs m.1 h).alike op) (binary_plain op (em p fs) (em q fs))
      law (s.conditional c p q) fs gs m h =
          stands (em (s.conditional c p q) fs) (conditional_value (capped (be c gs)) (capped (be p gs)) (capped
          (be q gs)))
          (like_conditional x around (em c fs) (em p fs) (em q fs) (capped (be c gs)) (capped (be p gs)) (capped
          (be q gs))
          (seen-capped-twice x (be p gs)) (seen-capped-twice x (be q gs)) (law c fs gs m.0 h).alike
          (law p fs gs m.1.0 h).alike (law q fs gs m.1.1 h).alike)
          (if_plain (emitting.three (em c fs) (em p fs) (em q fs)))

      all_like : (es : SourceTrees) (fs : List Frame) (gs : List source.Frame) → AreEmittable es
          → FramesStand x around fs gs
          → AllLike x (values around (all_of here.file here.files sc es fs)) (meaning.values here a es gs)
      all_like s.none fs gs m h = tt
      all_like (s.more e es) fs gs m h = ((law e fs gs m.0 h).alike, all_like es fs gs m.1 h)

      holes_like : (ps : PieceTrees) (fs : List Frame) (gs : List source.Frame) → AreHoles ps
          → FramesStand x around fs gs
          → AllLike x (values around (holes_of here.file here.files sc ps fs)) (holes_read ps gs)
      holes_like s.no_piece fs gs m h = tt
      holes_like (s.piece e after ps) fs gs m h = ((law e fs gs m.0 h).alike, holes_like ps fs gs m.1 h)

      members_like : (ps : PropertyTrees) (fs : List Frame) (gs : List source.Frame) → AreMembers ps
          → FramesStand x around fs gs
          → AllLike x (values around (members_of here.file here.files sc ps fs)) (named_readings x (members_read ps gs))
      members_like s.no_property fs gs m h = tt
      members_like (s.property at name (s.plain e) ps) fs gs m h =
          (name_like name, ((law e fs gs m.0 h).alike, members_like ps fs gs m.1 h))
      members_like (s.property at name (s.each o e) ps) fs gs m h = absurd m.0

      pub frames_stand : (r : ReachTree) (fs : List Frame) (gs : List source.Frame) → IsReach r
          → FramesStand x around fs gs
          → FramesStand x around (frames_of here.file here.files sc r fs) (frames here a r gs)
      frames_stand (s.symbol at t) fs gs m h = tt
      frames_stand (s.element at t e) fs gs m h = (
        element_stands (number_of t) (em e fs) (be e gs)
            (law e fs gs m h),
        tt,
      )
