-- Outputs of modules, by `reference` of the id of a nested deployment.
use Rattle.std.proofs.Common.{◌≡◌, ℕ, List, [], ◌∷◌, Option, Some, None, true, false, codes, map, refl, sym, ap, ap₂}
use Rattle.std.proofs.Common.{◌∙◌, subst}
use Rattle.std.specs.Prelude.{slice_get, option_map, option_and_then}
use Rattle.std.proofs.lemmas.Option.{none-some, cond_some}
use Rattle.arm_value.specs.Json.{Json, null, bool, int, text, array, object}
use Rattle.arm_value.specs.Look.{fold}
use Rattle.arm_ids.specs.Id.{text_of, folded}
use Rattle.arm_ids.specs.Segments.{segments}
use Rattle.arm_ids.specs.declared.id.ResourceId.{ResourceId}
use Rattle.arm_ids.proofs.SegmentLemmas.{segments-fold}
use Rattle.expression_values.specs.Tree.{Tree, Trees, call, member}
use Rattle.expression_values.specs.Tree as tree
use Rattle.reading.specs.Reading.{done, pure, none, read, continued}
use Rattle.reading.specs.World.{value_in}
use Rattle.expression_values.specs.Looping.{Looping}
use Rattle.expression_values.specs.Look as look
use Rattle.expression_values.specs.Look.{Look, Fact, Looking, Surroundings, a_value, a_truth, json_in, truth_in, state, deployment, output}
use Rattle.expression_values.specs.Names.{lazy_named, strict_named, placed_named}
use Rattle.expression_values.specs.Held as held_part
use Rattle.expression_values.specs.Held.{Held, plain, capped, held_value, access, value_named, one_output, outputs, is_word}
use Rattle.expression_values.specs.Part.{kept}
use Rattle.expression_values.specs.Strict.TheVariants as strict
use Rattle.arm_value.specs.Look as names
use Rattle.bicep_meaning.specs.Cuts as cuts
use Rattle.std.proofs.lemmas.Option.{option_and_then_some}
use Rattle.reading.proofs.Parts.{value_in-continued}
use Rattle.expression_values.specs.Asked.TheVariants.{Properties}
use Rattle.expression_values.specs.Meaning.{held, value, used, referred, found_at, state_asked}
use Rattle.expression_values.proofs.Equations.{texts, capped_twice}
use Rattle.bicep_meaning.specs.Guarded.{Reads}
use Rattle.bicep_meaning.specs.Cells as cells
use Rattle.bicep_meaning.specs.Cells.{step}
use Rattle.bicep_meaning.specs.Listing.{Sought, found, left_away, not_here, sought}
use Rattle.bicep_meaning.specs.Around.{Here}
use Rattle.bicep_meaning.specs.Rows as rows
use Rattle.bicep_meaning.specs.Rows.{all}
use Rattle.bicep_meaning.specs.Meaning.{id_text, module_key, instance_output, found_output, output_at, output_value, has_key}
use Rattle.bicep_emission.specs.Alike.{Seen, after, seen_in}
use Rattle.bicep_emission.specs.Answered.{IsPlainPlace, Sides, Answers, IsAnswered, IsInstance, IsFound, IsListed}
use Rattle.bicep_emission.specs.Answered.{deployment_types}
use Rattle.bicep_emission.specs.Emitted.{one, two, output_of}
use Rattle.bicep_emission.proofs.SeenLemmas.{then_seen, done_seen, after-false, then-then, then-same, then-at}
use Rattle.bicep_emission.proofs.SeenLemmas.{seen-continued, value-seen}
use Rattle.bicep_emission.proofs.KeptLemmas.{kept_of}
use Rattle.bicep_emission.specs.Made.{made, is_made, made_whole}
use Rattle.bicep_emission.proofs.MadeLemmas.{resource_id_is, reads_back, key_is}
use Rattle.bicep_emission.proofs.AccessLemmas.{plainly, IsPlain, plain_value, used_seen, used_held}
use Rattle.bicep_emission.proofs.CallLemmas.{Like, like_done, like_capped, seen, seen-on, seen-capped, seen-capped-on}
use Rattle.bicep_emission.proofs.CallLemmas.{seen-front, seen-empty, front_seen}
use Rattle.bicep_emission.proofs.ListLemmas.{whole_seen}
use Rattle.bicep_emission.proofs.NamedCallLemmas.{strict_like}
use Rattle.bicep_emission.proofs.StateLemmas.{IsReadable, reference_held, used_of, answered_like}
use Rattle.arm_ids.specs.Members.{deployment_type}

-- the id of a nested deployment by its name
abbrev pub deployment_made : Here → Json → Option ResourceId
deployment_made here (text n) = made_whole here.place deployment_type (n ∷ [])
deployment_made here j = None

pub key_made : (here : Here) (j : Json) → option_map folded (deployment_made here j) ≡ module_key here.place j
key_made here (text n) = key_is here.place deployment_type n refl
key_made here null = refl
key_made here (bool b) = refl
key_made here (int z) = refl
key_made here (array js) = refl
key_made here (object ms) = refl

pub text_kept : (o : Option ResourceId)
    → (let s : Seen Json = done_seen (kept_of (option_map text (option_map text_of o))) in s)
    ≡ then_seen (done_seen o) (λ i. done_seen (Some (text (text_of i))))
text_kept (Some i) = refl
text_kept None = refl

-- what `resourceId` gives
id_given : (here : Here) (j : Json)
    → done_seen (kept_of (rows.value_by here.place (codes "resourceId") (Some strict.ResourceId)
    (text deployment_type ∷ j ∷ [])))
    ≡ then_seen (done_seen (deployment_made here j)) (λ i. done_seen (Some (text (text_of i))))
unfolding cuts.texts_in
id_given here (text n) =
    ap (λ o. done_seen (kept_of (option_map text o))) (resource_id_is here.place deployment_type (n ∷ []) refl)
    ∙ text_kept (made_whole here.place deployment_type (n ∷ []))
id_given here null = refl
id_given here (bool b) = refl
id_given here (int z) = refl
id_given here (array js) = refl
id_given here (object ms) = refl

module _ (x : Sides) (here : Here) (ls : List Looping) (plain_place : IsPlainPlace here.place)
    (ans : Answers x here) where
  abbrev around : Surroundings
  around = record { loops = ls; place = here.place }

  abbrev sees : {A : Type 0} → Looking A → Seen A
  sees r = seen_in x.template x.template_marks r

  -- ---- the id

  abbrev id_of_name : Reads Json → Reads ResourceId
  id_of_name name = continued name (λ j. done (deployment_made here j))

  pure_seen : {A : Type 0} (v : A) → seen x (pure v) ≡ done_seen (Some v)
  unfolding seen_in
  pure_seen v = refl

  made_seen : (name : Reads Json) → seen x (id_of_name name)
      ≡ then_seen (seen x name) (λ j. done_seen (deployment_made here j))
  unfolding seen_in
  made_seen name = seen-continued x.source x.source_marks name (λ j. done (deployment_made here j))

  pub id_like : (title : Tree) (name : Reads Json) → Like x (value around title) name
      → Like x (value around (call (codes "resourceId") (two (tree.text deployment_type) title))) (id_text
      (id_of_name name))
  unfolding lazy_named strict_named placed_named seen_in
  id_like title name i =
      strict_like x around (codes "resourceId") (two (tree.text deployment_type) title)
      (pure (text deployment_type) ∷ name ∷ []) (Some strict.ResourceId) refl refl tt (
        ap (λ u. seen_in x.template x.template_marks u) (texts around deployment_type)
            ∙ like_done x (Some (text deployment_type)),
        (i, tt),
      )
      ∙ seen-capped-on x (all (pure (text deployment_type) ∷ name ∷ []))
      (λ vs. rows.value_by here.place (codes "resourceId") (Some strict.ResourceId) vs)
      ∙ seen-on x (all (pure (text deployment_type) ∷ name ∷ [])) given
      ∙ ap (λ u. then_seen u (λ vs. done_seen (given vs)))
      (seen-front x (pure (text deployment_type)) (name ∷ [])
      ∙ ap₂ front_seen (pure_seen (text deployment_type)) (seen-front x name []
      ∙ ap (front_seen (seen x name)) (seen-empty x)))
      ∙ whole_seen x around (text deployment_type) (front_seen (seen x name) (done_seen (Some []))) (λ vs. done_seen
      (given vs))
      ∙ last_of (seen x name) (λ vs. done_seen (given (text deployment_type ∷ vs)))
      ∙ then-same (seen x name) (λ j. done_seen (given (text deployment_type ∷ j ∷ [])))
      (λ j. then_seen (done_seen (deployment_made here j)) (λ i. done_seen (Some (text (text_of i))))) (id_given here)
      ∙ sym (then-then (seen x name) (λ j. done_seen (deployment_made here j)) (λ i. done_seen (Some (text
      (text_of i)))))
      ∙ ap (λ u. then_seen u (λ i. done_seen (Some (text (text_of i))))) (sym (made_seen name))
      ∙ sym (seen-continued x.source x.source_marks (id_of_name name) (λ i. pure (text (text_of i))))
    where
      given : List Json → Option Json
      given vs = kept_of (rows.value_by here.place (codes "resourceId") (Some strict.ResourceId) vs)

      last_of : (s : Seen Json) (k : List Json → Seen Json)
          → then_seen (front_seen s (done_seen (Some []))) k ≡ then_seen s (λ j. k (j ∷ []))
      last_of (Some j, b) k = refl
      last_of (None, b) k = refl

  pub made_is : (j : Json) (i : ResourceId) → deployment_made here j ≡ Some i
      → IsReadable i × (i.types ≡ segments deployment_type)
  made_is (text n) i e =
      let p = cond_some (is_made here.place deployment_type (n ∷ [])) (made here.place deployment_type (n
      ∷ [])) i e in (
        subst IsReadable p.1 (reads_back here.place deployment_type (n ∷ []) plain_place p.0),
        ap (λ (i : ResourceId). i.types) (sym p.1),
      )
  made_is null i e = absurd (none-some i e)
  made_is (bool b) i e = absurd (none-some i e)
  made_is (int z) i e = absurd (none-some i e)
  made_is (array js) i e = absurd (none-some i e)
  made_is (object ms) i e = absurd (none-some i e)

  -- ---- the output

  module _ (name : List ℕ) where
    abbrev chain : ResourceId → Looking Held
    chain k =
        continued (continued (continued (referred Properties k) (λ h. access h (text (codes "outputs"))))
        (λ h. access h (text name))) (λ h. access h (text (codes "value")))

    same_chain : (k : ResourceId) (r : Looking Held) → sees (referred Properties k) ≡ sees r
        → sees (chain k)
        ≡ sees (continued (continued (continued r (λ h. access h (text (codes "outputs")))) (λ h. access h (text name)))
        (λ h. access h (text (codes "value"))))
    same_chain k r e = going (continued (continued (referred Properties k) (λ h. access h (text (codes "outputs"))))
        (λ h. access h (text name)))
        (continued (continued r (λ h. access h (text (codes "outputs")))) (λ h. access h (text name)))
        (λ h. access h (text (codes "value")))
        (going (continued (referred Properties k) (λ h. access h (text (codes "outputs"))))
        (continued r (λ h. access h (text (codes "outputs")))) (λ h. access h (text name))
        (going (referred Properties k) r (λ h. access h (text (codes "outputs"))) e))
      where
        going : (p q : Looking Held) (f : Held → Looking Held) → sees p ≡ sees q
            → sees (continued p f) ≡ sees (continued q f)
        going p q f e = seen-continued x.template x.template_marks p f ∙ ap (λ s. then_seen s (λ h. sees (f h))) e
            ∙ sym (seen-continued x.template x.template_marks q f)

    -- where nothing is found
    no_chain : (k : ResourceId) → sees (referred Properties k) ≡ done_seen None → sees (chain k) ≡ done_seen None
    unfolding continued seen_in
    no_chain k e = same_chain k none e

    -- where an instance is found
    abbrev found_value : ResourceId → Looking Json
    found_value k = value_named k name

    found_chain : (k : ResourceId) → sees (referred Properties k) ≡ sees (pure (held_part.deployment k))
        → sees (chain k) ≡ sees (held_value (found_value k))
    unfolding continued
    found_chain k e = same_chain k (pure (held_part.deployment k)) e

    truth_seen : (k : ResourceId) → sees (look.seen truth_in (deployment k))
        ≡ done_seen (option_and_then truth_in (x.template (deployment k)))
    unfolding look.seen seen_in
    truth_seen k = ap (λ b. after b (done_seen (option_and_then truth_in (x.template (deployment k)))))
        (ans.deployments_unmarked k)

    referred_by : (k : ResourceId) (o : Option Fact) → x.template (deployment k) ≡ o
        → sees (referred Properties k) ≡ then_seen (done_seen (option_and_then truth_in o)) (λ b. sees
        (found_at Properties k b))
    referred_by k o e = seen-continued x.template x.template_marks (look.seen truth_in (deployment k))
        (found_at Properties k)
        ∙ ap (λ s. then_seen s (λ b. sees (found_at Properties k b))) (truth_seen k
        ∙ ap (λ o. done_seen (option_and_then truth_in o)) e)

    state_none : (k : ResourceId) → x.template (state k) ≡ None → x.template_marks (state k) ≡ false
        → sees (state_asked k Properties) ≡ done_seen None
    unfolding look.seen held_value capped continued seen_in
    state_none k e h = ap₂ (λ o b. after b (sees (state_from k o))) e h
      where
        state_from : ResourceId → Option Fact → Looking Held
        state_from k o = held_value (continued (done (option_and_then json_in o)) (λ s. done (names.look
            (codes "properties") s)))

    -- ---- by what is found in the program

    abbrev of_found : Sought → Seen Json
    of_found f = seen x (rows.capped (found_output here (fold name) f))

    none_seen : seen x (rows.capped none) ≡ done_seen None
    unfolding rows.capped continued seen_in
    none_seen = refl

    nothing_used : (k : ResourceId) → sees (chain k) ≡ done_seen None → sees (used (chain k)) ≡ done_seen None
    nothing_used k e = used_seen x.template x.template_marks (chain k)
        ∙ ap (λ s. then_seen (then_seen s (λ h. sees (held_part.forced h))) (λ j. done_seen (kept j))) e

    nothing_plain : (k : ResourceId) → sees (chain k) ≡ done_seen None → IsPlain x.template x.template_marks (chain k)
    nothing_plain k e = e ∙ sym (ap plainly (nothing_used k e))

    output_like : (k : ResourceId) (n i : ℕ) → IsAnswered x (output k (fold name)) (cells.output (step n i
        ∷ here.at) (fold name))
        → Like x (look.seen json_in (output k (fold name))) (read (cells.output (step n i ∷ here.at) (fold name)))
    output_like k n i e = answered_like x around (output k (fold name)) (cells.output (step n i
        ∷ here.at) (fold name)) e

    found_used : (k : ResourceId) (n i : ℕ) → sees (referred Properties k) ≡ sees (pure (held_part.deployment k))
        → IsAnswered x (output k (fold name)) (cells.output (step n i ∷ here.at) (fold name))
        → sees (used (chain k)) ≡ seen x (rows.capped (read (cells.output (step n i ∷ here.at) (fold name))))
    found_used k n i e a =
        used_seen x.template x.template_marks (chain k)
        ∙ ap (λ s. then_seen (then_seen s (λ h. sees (held_part.forced h))) (λ j. done_seen (kept j))) (found_chain k e)
        ∙ sym (used_seen x.template x.template_marks (held_value (found_value k)))
        ∙ used_held x.template x.template_marks (found_value k)
        ∙ ap sees (capped_twice (look.seen json_in (output k (fold name))))
        ∙ like_capped x (look.seen json_in (output k (fold name))) (read (cells.output (step n i
        ∷ here.at) (fold name)))
        (output_like k n i a)

    found_plain : (k : ResourceId) → sees (referred Properties k) ≡ sees (pure (held_part.deployment k))
        → IsPlain x.template x.template_marks (chain k)
    found_plain k e =
        found_chain k e ∙ plain_value x.template x.template_marks (found_value k)
        ∙ ap plainly (used_seen x.template x.template_marks (held_value (found_value k))
        ∙ sym (ap (λ s. then_seen (then_seen s (λ h. sees (held_part.forced h))) (λ j. done_seen (kept j)))
        (found_chain k e))
        ∙ sym (used_seen x.template x.template_marks (chain k)))

    -- what is used, and that it is plain
    abbrev IsSame : ResourceId → Seen Json → Type 0
    IsSame k s = (sees (used (chain k)) ≡ s) × IsPlain x.template x.template_marks (chain k)

    same_nothing : (k : ResourceId) → sees (referred Properties k) ≡ done_seen None → IsSame k (done_seen None)
    same_nothing k e = (nothing_used k (no_chain k e), nothing_plain k (no_chain k e))

    true_seen : (k : ResourceId) → x.template (deployment k) ≡ Some (a_truth true)
        → sees (referred Properties k) ≡ sees (pure (held_part.deployment k))
    unfolding seen_in
    true_seen k e = referred_by k (Some (a_truth true)) e

    none_there : (k : ResourceId) → x.template (deployment k) ≡ None → sees (referred Properties k) ≡ done_seen None
    none_there k e = referred_by k None e

    instance_same : (k : ResourceId) (o : Option ℕ) (i : ℕ) → IsInstance x here k (fold name) o i
        → IsSame k (seen x (rows.capped (instance_output here (fold name) o i)))
    instance_same k None i e = subst (IsSame k) (sym none_seen) (same_nothing k (none_there k e))
    instance_same k (Some n) i e = (found_used k n i (true_seen k e.0) e.1, found_plain k (true_seen k e.0))

    found_same : (k : ResourceId) (f : Sought) → IsFound x here k (fold name) f → IsSame k (of_found f)
    found_same k (found a i) e = instance_same k (slice_get here.file.modules a) i e
    found_same k left_away e = subst (IsSame k) (sym none_seen) (same_nothing k (none_there k e))
    found_same k not_here e =
        subst (IsSame k) (sym none_seen)
        (same_nothing k (referred_by k (Some (a_truth false)) e.0
        ∙ after-false (sees (state_asked k Properties)) ∙ state_none k e.1 e.2))

    abbrev of_listing : ResourceId → Option Json → Seen Json
    of_listing k o = then_seen (done_seen o) (λ j. of_found (sought (has_key here.place k) j))

    listed_same : (k : ResourceId) (o : Option Json) → IsListed x here k (fold name) o → IsSame k (of_listing k o)
    listed_same k None e = same_nothing k (none_there k e)
    listed_same k (Some j) e =
        subst (IsSame k) (sym (after-false (of_found (sought (has_key here.place k) j))))
        (found_same k (sought (has_key here.place k) j) e)

    read_seen : seen x (read (cells.deployments here.at)) ≡ done_seen (x.source (cells.deployments here.at))
    unfolding seen_in
    read_seen = ap (λ b. after b (done_seen (x.source (cells.deployments here.at)))) ans.listing_unmarked

    output_seen : (k : ResourceId) → seen x (rows.capped (output_at here name k))
        ≡ of_listing k (x.source (cells.deployments here.at))
    unfolding output_at
    output_seen k =
        seen-capped x (read (cells.deployments here.at)) (λ j. found_output here (fold name) (sought
        (has_key here.place k) j))
        ∙ seen-continued x.source x.source_marks (read (cells.deployments here.at))
        (λ j. rows.capped (found_output here (fold name) (sought (has_key here.place k) j)))
        ∙ ap (λ s. then_seen s (λ j. of_found (sought (has_key here.place k) j))) read_seen

    -- the types of the key
    types_are : (i : ResourceId) → i.types ≡ segments deployment_type → (folded i).types ≡ deployment_types
    types_are i e = ap (map fold) e ∙ sym (segments-fold deployment_type)

    key_same : (i : ResourceId) → i.types ≡ segments deployment_type
        → IsSame (folded i) (seen x (rows.capped (output_at here name (folded i))))
    key_same i e =
        subst (IsSame (folded i)) (sym (output_seen (folded i)))
        (listed_same (folded i) (x.source (cells.deployments here.at)) (ans.outputs (folded i) name (types_are i e)))

    -- ---- the whole expression

    module _ (title : Tree) (r : Reads Json) (i : Like x (value around title) r) where
      abbrev whole : Tree
      whole = output_of (Some name) title

      id_value : (i : ResourceId) → value_in x.source (id_of_name r) ≡ Some i
          → IsReadable i × (i.types ≡ segments deployment_type)
      unfolding value_in
      id_value i e =
          option_and_then_some (λ j. deployment_made here j) (value_in x.source r) i
          (sym (value_in-continued cells.Cell Json Json ResourceId x.source r (λ j. done (deployment_made here j))) ∙ e)
          (λ j h k. made_is j i k)

      whole_held : sees (held around whole) ≡ then_seen (seen x (id_of_name r)) (λ i. sees (chain (folded i)))
      whole_held =
          lift (λ h. access h (text (codes "value"))) (held around (tree.member (tree.member reference_of
          (codes "outputs")) name))
          (λ i. continued (continued (referred Properties (folded i)) (λ h. access h (text (codes "outputs"))))
          (λ h. access h (text name)))
          (lift (λ h. access h (text name)) (held around (tree.member reference_of (codes "outputs")))
          (λ i. continued (referred Properties (folded i)) (λ h. access h (text (codes "outputs"))))
          (lift (λ h. access h (text (codes "outputs"))) (held around reference_of) (λ i. referred Properties
          (folded i))
          (reference_held x around (call (codes "resourceId") (two (tree.text deployment_type) title)) (id_of_name r)
          (id_like title r i) (λ i e. (id_value i e).0) tree.none [] Properties refl (λ t. refl))))
        where
          reference_of : Tree
          reference_of = call (codes "reference") (one (call (codes "resourceId") (two
              (tree.text deployment_type) title)))

          lift : (f : Held → Looking Held) (p : Looking Held) (g : ResourceId → Looking Held)
              → sees p ≡ then_seen (seen x (id_of_name r)) (λ i. sees (g i))
              → sees (continued p f) ≡ then_seen (seen x (id_of_name r)) (λ i. sees (continued (g i) f))
          lift f p g e = seen-continued x.template x.template_marks p f ∙ ap (λ s. then_seen s (λ h. sees (f h))) e
              ∙ then-then (seen x (id_of_name r)) (λ i. sees (g i)) (λ h. sees (f h))
              ∙ then-same (seen x (id_of_name r)) (λ i. then_seen (sees (g i)) (λ h. sees (f h))) (λ i. sees
              (continued (g i) f))
              (λ i. sym (seen-continued x.template x.template_marks (g i) f))

      -- in the program, by the id
      by_id : (o : Option ResourceId)
          → then_seen (done_seen o) (λ i. seen x (rows.capped (output_at here name (folded i))))
          ≡ seen x (rows.capped (continued (done (option_map folded o)) (output_at here name)))
      unfolding continued rows.capped seen_in
      by_id (Some i) = after-false (seen x (continued (output_at here name (folded i)) (λ j. done (kept j))))
      by_id None = refl

      value_seen : seen x (rows.capped (output_value here (Some name) r))
          ≡ then_seen (seen x (id_of_name r)) (λ i. seen x (rows.capped (output_at here name (folded i))))
      unfolding output_value continued
      value_seen =
          seen-capped x r (λ j. continued (done (module_key here.place j)) (output_at here name))
          ∙ seen-continued x.source x.source_marks r
          (λ j. rows.capped (continued (done (module_key here.place j)) (output_at here name)))
          ∙ then-same (seen x r) (λ j. seen x (rows.capped (continued (done (module_key here.place j))
          (output_at here name))))
          (λ j. then_seen (done_seen (deployment_made here j)) (λ i. seen x (rows.capped (output_at here name
          (folded i)))))
          (λ j. ap (λ o. seen x (rows.capped (continued (done o) (output_at here name)))) (sym (key_made here j))
          ∙ sym (by_id (deployment_made here j)))
          ∙ sym (then-then (seen x r) (λ j. done_seen (deployment_made here j))
          (λ i. seen x (rows.capped (output_at here name (folded i)))))
          ∙ ap (λ s. then_seen s (λ i. seen x (rows.capped (output_at here name (folded i))))) (sym (made_seen r))

      pub like_output : Like x (value around whole) (rows.capped (output_value here (Some name) r))
      like_output =
          used_of x.template x.template_marks (held around whole) (seen x (id_of_name r)) (λ i. chain
          (folded i)) whole_held
          ∙ then-at (seen x (id_of_name r)) (λ i. sees (used (chain (folded i))))
          (λ i. seen x (rows.capped (output_at here name (folded i))))
          (λ i e. (key_same i (id_value i (sym (value-seen x.source x.source_marks (id_of_name r)) ∙ e)).1).0)
          ∙ sym value_seen

      pub plain_output : IsPlain x.template x.template_marks (held around whole)
      plain_output =
          whole_held
          ∙ then-at (seen x (id_of_name r)) (λ i. sees (chain (folded i))) (λ i. plainly (sees (used (chain
          (folded i)))))
          (λ i e. (key_same i (id_value i (sym (value-seen x.source x.source_marks (id_of_name r)) ∙ e)).1).1)
          ∙ sym (then-then (seen x (id_of_name r)) (λ i. sees (used (chain (folded i)))) (λ j. done_seen (Some
          (plain j))))
          ∙ ap plainly (sym (used_of x.template x.template_marks (held around whole) (seen x (id_of_name r))
          (λ i. chain (folded i)) whole_held))
