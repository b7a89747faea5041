-- States of resources, by `reference`.
use Rattle.std.proofs.Common.{◌≡◌, ℕ, List, [], ◌∷◌, Option, Some, None, Bool, false, codes, refl, sym, ap, ap₂, ◌∙◌}
use Rattle.std.specs.Prelude.{option_map, option_and_then}
use Rattle.arm_value.specs.Json.{Json, null, bool, int, text, array, object}
use Rattle.arm_value.specs.Look as names
use Rattle.arm_ids.specs.Id.{text_of, folded}
use Rattle.arm_ids.specs.declared.id.ResourceId.{ResourceId}
use Rattle.expression_values.specs.Tree.{Tree, Trees, call, member, more}
use Rattle.expression_values.specs.Tree as tree
use Rattle.reading.specs.Reading.{done, pure, read, continued, both}
use Rattle.reading.specs.World.{value_in}
use Rattle.expression_values.specs.Look as look
use Rattle.expression_values.specs.Look.{Look, Fact, Looking, Surroundings, a_value, a_truth, json_in, truth_in, state, deployment}
use Rattle.expression_values.specs.Names.{lazy_named, strict_named}
use Rattle.expression_values.specs.Part.{part_of, kept}
use Rattle.expression_values.specs.Find.{id_key}
use Rattle.expression_values.specs.Held.{Held, plain, state_whole, held_value, forced, access}
use Rattle.expression_values.specs.Asked.{Asked}
use Rattle.expression_values.specs.Asked.TheVariants.{Properties, Whole}
use Rattle.expression_values.specs.Row.{asked}
use Rattle.expression_values.specs.Meaning.{held, value, values, used, called, reference, referred, found_at, state_asked, key_meant}
use Rattle.expression_values.proofs.Equations.{texts}
use Rattle.bicep_meaning.specs.Guarded.{Reads}
use Rattle.bicep_meaning.specs.Cells as cells
use Rattle.bicep_meaning.specs.Rows as rows
use Rattle.bicep_meaning.specs.Meaning.{state_member, id_text}
use Rattle.bicep_emission.specs.Alike.{Seen, after, seen_in}
use Rattle.bicep_emission.specs.Answered.{Sides, IsAnswered}
use Rattle.bicep_emission.specs.Emitted.{one, two, three, properties_of, state_member_of}
use Rattle.bicep_emission.proofs.SeenLemmas.{then_seen, both_seen, done_seen, after-false, then-then, then-same}
use Rattle.bicep_emission.proofs.SeenLemmas.{then-at, seen-continued, seen-both, value-seen}
use Rattle.bicep_emission.proofs.KeptLemmas.{kept_of}
use Rattle.bicep_emission.proofs.AccessLemmas.{plainly, IsPlain, plain_value, plain_continued, used_seen, used_held}
use Rattle.bicep_emission.proofs.AccessLemmas.{used_continued, keep_done}
use Rattle.bicep_emission.proofs.CallLemmas.{Like, like_on, like_capped, seen, seen-on, seen-capped, seen-capped-on}

-- what is looked at first, before known values
first_of : (s : Seen Json) (c : List Json)
    → then_seen (both_seen s (done_seen (Some c))) (λ p. done_seen (Some (p.0 ∷ p.1)))
    ≡ then_seen s (λ a. done_seen (Some (a ∷ c)))
first_of (Some a, b) c = refl
first_of (None, b) c = refl

-- readings that look at nothing
abbrev pub known_list : List Json → List (Looking Json)
known_list [] = []
known_list (v ∷ vs) = pure v ∷ known_list vs

-- a member of a state
part_is_look : (j : Json) (name : List ℕ) → part_of j (text name) ≡ names.look name j
part_is_look null name = refl
part_is_look (bool b) name = refl
part_is_look (int z) name = refl
part_is_look (text t) name = refl
part_is_look (array js) name = refl
part_is_look (object ms) name = refl

json_value : (o : Option Json) → option_and_then json_in (option_map a_value o) ≡ o
json_value (Some j) = refl
json_value None = refl

module _ (w : Look → Option Fact) (m : Look → Bool) where
  abbrev sees : {A : Type 0} → Looking A → Seen A
  sees r = seen_in w m r

  -- known values
  all_known : (vs : List Json) → sees (look.all (known_list vs)) ≡ done_seen (Some vs)
  unfolding look.all seen_in
  all_known [] = refl
  all_known (v ∷ vs) = seen-continued w m (both (pure v) (look.all (known_list vs))) (λ p. pure (p.0 ∷ p.1))
      ∙ ap (λ s. then_seen s (λ p. done_seen (Some (p.0 ∷ p.1))))
      (seen-both w m (pure v) (look.all (known_list vs)) ∙ ap (both_seen (done_seen (Some v))) (all_known vs))

  -- one value, and known values
  pub all_after : (r : Looking Json) (rs : List (Looking Json)) (vs : List Json) → rs ≡ known_list vs
      → sees (look.all (r ∷ rs)) ≡ then_seen (sees r) (λ a. done_seen (Some (a ∷ vs)))
  unfolding look.all seen_in
  all_after r rs vs e = ap (λ rs. sees (look.all (r ∷ rs))) e
      ∙ seen-continued w m (both r (look.all (known_list vs))) (λ p. pure (p.0 ∷ p.1))
      ∙ ap (λ s. then_seen s (λ p. done_seen (Some (p.0 ∷ p.1))))
      (seen-both w m r (look.all (known_list vs)) ∙ ap (both_seen (sees r)) (all_known vs))
      ∙ first_of (sees r) vs

  -- what is used of what goes on
  pub used_of : {A : Type 0} (r : Looking Held) (s : Seen A) (f : A → Looking Held)
      → sees r ≡ then_seen s (λ v. sees (f v)) → sees (used r) ≡ then_seen s (λ v. sees (used (f v)))
  used_of r s f e = used_seen w m r
      ∙ ap (λ t. then_seen (then_seen t (λ h. sees (forced h))) (λ j. done_seen (kept j))) e
      ∙ ap (λ t. then_seen t (λ j. done_seen (kept j))) (then-then s (λ v. sees (f v)) (λ h. sees (forced h)))
      ∙ then-then s (λ v. then_seen (sees (f v)) (λ h. sees (forced h))) (λ j. done_seen (kept j))
      ∙ then-same s (λ v. then_seen (then_seen (sees (f v)) (λ h. sees (forced h))) (λ j. done_seen (kept j)))
      (λ v. sees (used (f v))) (λ v. sym (used_seen w m (f v)))

  pub plain_of : {A : Type 0} (r : Looking Held) (s : Seen A) (f : A → Looking Held)
      → sees r ≡ then_seen s (λ v. sees (f v)) → ((v : A) → IsPlain w m (f v)) → IsPlain w m r
  plain_of r s f e h = e
      ∙ then-same s (λ v. sees (f v)) (λ v. plainly (sees (used (f v)))) h
      ∙ sym (then-then s (λ v. sees (used (f v))) (λ j. done_seen (Some (plain j))))
      ∙ ap plainly (sym (used_of r s f e))

  -- what is held alike is used alike
  pub used_same : (r q : Looking Held) → sees r ≡ sees q → sees (used r) ≡ sees (used q)
  used_same r q e = used_seen w m r
      ∙ ap (λ t. then_seen (then_seen t (λ h. sees (forced h))) (λ j. done_seen (kept j))) e ∙ sym (used_seen w m q)

  pub plain_same : (r q : Looking Held) → sees r ≡ sees q → IsPlain w m q → IsPlain w m r
  plain_same r q e p = e ∙ p ∙ ap plainly (sym (used_same r q e))

  -- no nested deployment is at the key
  state_seen : (a : Asked) (k : ResourceId) → w (deployment k) ≡ Some (a_truth false) → m (deployment k) ≡ false
      → sees (referred a k) ≡ sees (state_asked k a)
  unfolding look.seen seen_in
  state_seen a k e h =
      seen-continued w m (look.seen truth_in (deployment k)) (found_at a k)
      ∙ ap₂ (λ o b. then_seen (after b (done_seen (option_and_then truth_in o))) (λ t. sees (found_at a k t))) e h
      ∙ after-false (sees (state_asked k a))

  reference_seen : (a : Asked) (t : List ℕ) (k : ResourceId) → id_key t ≡ Some k
      → sees (reference (t, a)) ≡ sees (referred a k)
  unfolding continued
  reference_seen a t k e = ap (λ o. sees (continued (key_meant t o) (referred a))) e

  after_asked : (vs : List Json) (q : List ℕ × Asked) → asked vs ≡ Some q
      → sees (continued (done (asked vs)) reference) ≡ sees (reference q)
  unfolding continued
  after_asked vs q e = ap (λ o. sees (continued (done o) reference)) e

-- an id whose text is read as it again
abbrev pub IsReadable : ResourceId → Type 0
IsReadable i = id_key (text_of i) ≡ Some (folded i)

-- and at whose key no nested deployment is seen
pub record IsOfResource (x : Sides) (i : ResourceId) : Type 0 where
  pub is_read : IsReadable i
  pub no_deployment : x.template (deployment (folded i)) ≡ Some (a_truth false)
  pub is_unmarked : x.template_marks (deployment (folded i)) ≡ false

module _ (x : Sides) (here : Surroundings) where
  id_seen : (r : Reads ResourceId) → seen x (id_text r)
      ≡ then_seen (seen x r) (λ i. done_seen (Some (text (text_of i))))
  unfolding seen_in
  id_seen r = seen-continued x.source x.source_marks r (λ i. pure (text (text_of i)))

  -- `reference` of an id and known values
  pub reference_held : (id : Tree) (r : Reads ResourceId) → Like x (value here id) (id_text r)
      → ((i : ResourceId) → value_in x.source r ≡ Some i → IsReadable i) → (ts : Trees) (cs : List Json) (a : Asked)
      → values here ts ≡ known_list cs → ((t : List ℕ) → asked (text t ∷ cs) ≡ Some (t, a))
      → seen_in x.template x.template_marks (held here (call (codes "reference") (more id ts)))
      ≡ then_seen (seen x r) (λ i. seen_in x.template x.template_marks (referred a (folded i)))
  unfolding called lazy_named strict_named
  reference_held id r i known ts cs a e h =
      seen-continued x.template x.template_marks (look.all (value here id ∷ values here ts))
      (λ vs. continued (done (asked vs)) reference)
      ∙ ap (λ s. then_seen s going)
      (all_after x.template x.template_marks (value here id) (values here ts) cs e
      ∙ ap (λ s. then_seen s (λ v. done_seen (Some (v ∷ cs)))) (i ∙ id_seen r))
      ∙ ap (λ s. then_seen s going)
      (then-then (seen x r) (λ i. done_seen (Some (text (text_of i)))) (λ v. done_seen (Some (v ∷ cs))))
      ∙ then-then (seen x r) (λ i. done_seen (Some (text (text_of i) ∷ cs))) going
      ∙ then-at (seen x r) (λ i. after false (going (text (text_of i) ∷ cs)))
      (λ i. seen_in x.template x.template_marks (referred a (folded i)))
      (λ i q. after-false (going (text (text_of i) ∷ cs))
      ∙ after_asked x.template x.template_marks (text (text_of i) ∷ cs) (text_of i, a) (h (text_of i))
      ∙ reference_seen x.template x.template_marks a (text_of i) (folded i)
      (known i (sym (value-seen x.source x.source_marks r) ∙ q)))
    where
      going : List Json → Seen Held
      going vs = seen_in x.template x.template_marks (continued (done (asked vs)) reference)

  -- `reference` of the id of a resource
  referred_seen : (id : Tree) (r : Reads ResourceId) → Like x (value here id) (id_text r)
      → ((i : ResourceId) → value_in x.source r ≡ Some i → IsOfResource x i) → (ts : Trees) (cs : List Json) (a : Asked)
      → values here ts ≡ known_list cs → ((t : List ℕ) → asked (text t ∷ cs) ≡ Some (t, a))
      → seen_in x.template x.template_marks (held here (call (codes "reference") (more id ts)))
      ≡ then_seen (seen x r) (λ i. seen_in x.template x.template_marks (state_asked (folded i) a))
  referred_seen id r i known ts cs a e h =
      reference_held id r i (λ i q. (known i q).is_read) ts cs a e h
      ∙ then-at (seen x r) (λ i. seen_in x.template x.template_marks (referred a (folded i)))
      (λ i. seen_in x.template x.template_marks (state_asked (folded i) a))
      (λ i q. state_of i (known i (sym (value-seen x.source x.source_marks r) ∙ q)))
    where
      state_of : (i : ResourceId) → IsOfResource x i
          → seen_in x.template x.template_marks (referred a (folded i))
          ≡ seen_in x.template x.template_marks (state_asked (folded i) a)
      state_of i k = state_seen x.template x.template_marks a (folded i) k.no_deployment k.is_unmarked

  -- what answers a cell
  pub answered_like : (l : Look) (c : cells.Cell) → IsAnswered x l c → Like x (look.seen json_in l) (read c)
  unfolding look.seen seen_in
  answered_like l c e = ap₂ (λ o b. after b (done_seen (option_and_then json_in o))) e.0 e.1
      ∙ ap (λ o. after (x.source_marks c) (done_seen o)) (json_value (x.source c))

  state_like : (k : ResourceId) → IsAnswered x (state k) (cells.state k)
      → Like x (look.seen json_in (state k)) (read (cells.state k))
  state_like k e = answered_like (state k) (cells.state k) e

  module _ (states : (k : ResourceId) → IsAnswered x (state k) (cells.state k)) (id : Tree) (r : Reads ResourceId)
      (i : Like x (value here id) (id_text r))
      (known : (i : ResourceId) → value_in x.source r ≡ Some i → IsOfResource x i) (version : List ℕ) where
    abbrev sees_there : {A : Type 0} → Looking A → Seen A
    sees_there q = seen_in x.template x.template_marks q

    -- ---- the properties of a state

    abbrev properties_at : ResourceId → Looking Json
    properties_at i =
        continued (look.seen json_in (state (folded i))) (λ j. done (names.look (codes "properties") j))

    properties_held : sees_there (held here (properties_of id version))
        ≡ then_seen (seen x r) (λ i. sees_there (held_value (properties_at i)))
    properties_held = referred_seen id r i known (one (tree.text version)) (text version ∷ []) Properties
        (ap (λ v. v ∷ []) (texts here version)) (λ t. refl)

    pub properties_plain : IsPlain x.template x.template_marks (held here (properties_of id version))
    properties_plain = plain_of x.template x.template_marks (held here (properties_of id version)) (seen x r)
        (λ i. held_value (properties_at i)) properties_held
        (λ i. plain_value x.template x.template_marks (properties_at i))

    pub properties_like : Like x (value here (properties_of id version)) (rows.capped (state_member
        (codes "properties") r))
    unfolding state_member
    properties_like =
        used_of x.template x.template_marks (held here (properties_of id version)) (seen x r)
        (λ i. held_value (properties_at i)) properties_held
        ∙ then-same (seen x r) (λ i. sees_there (used (held_value (properties_at i))))
        (λ i. seen x (rows.capped (continued (read (cells.state (folded i))) (λ j. done (names.look
        (codes "properties") j)))))
        (λ i. used_held x.template x.template_marks (properties_at i)
        ∙ like_capped x (properties_at i)
        (continued (read (cells.state (folded i))) (λ j. done (names.look (codes "properties") j)))
        (like_on x (look.seen json_in (state (folded i))) (read (cells.state (folded i)))
        (λ j. names.look (codes "properties") j) (state_like (folded i) (states (folded i)))))
        ∙ sym (seen-continued x.source x.source_marks r
        (λ i. rows.capped (continued (read (cells.state (folded i))) (λ j. done (names.look (codes "properties") j)))))
        ∙ sym (seen-capped x r (λ i. continued (read (cells.state (folded i))) (λ j. done (names.look
        (codes "properties") j))))

    -- ---- a member of the whole state

    module _ (name : List ℕ) where
      abbrev whole_of : Tree
      whole_of = call (codes "reference") (three id (tree.text version) (tree.text (codes "Full")))

      abbrev part_there : ResourceId → Looking Held
      part_there i = continued (look.seen json_in (state (folded i))) (λ j. held_value (done (part_of j (text name))))

      whole_seen : sees_there (held here whole_of)
          ≡ then_seen (seen x r) (λ i. sees_there (state_asked (folded i) Whole))
      whole_seen = referred_seen id r i known (two (tree.text version) (tree.text (codes "Full")))
          (text version ∷ text (codes "Full") ∷ []) Whole
          (ap₂ (λ v w. v ∷ w ∷ []) (texts here version) (texts here (codes "Full"))) (λ t. refl)

      part_after : (i : ResourceId)
          → then_seen (sees_there (state_asked (folded i) Whole)) (λ h. sees_there (access h (text name)))
          ≡ sees_there (part_there i)
      unfolding seen_in
      part_after i =
          ap (λ s. then_seen s (λ h. sees_there (access h (text name))))
          (seen-continued x.template x.template_marks (look.seen json_in (state (folded i))) (λ j. pure
          (state_whole j)))
          ∙ then-then (sees_there (look.seen json_in (state (folded i)))) (λ j. done_seen (Some (state_whole j)))
          (λ h. sees_there (access h (text name)))
          ∙ then-same (sees_there (look.seen json_in (state (folded i))))
          (λ j. after false (sees_there (held_value (done (part_of j (text name))))))
          (λ j. sees_there (held_value (done (part_of j (text name)))))
          (λ j. after-false (sees_there (held_value (done (part_of j (text name))))))
          ∙ sym (seen-continued x.template x.template_marks (look.seen json_in (state (folded i)))
          (λ j. held_value (done (part_of j (text name)))))

      member_held : sees_there (held here (state_member_of id version name))
          ≡ then_seen (seen x r) (λ i. sees_there (part_there i))
      member_held =
          seen-continued x.template x.template_marks (held here whole_of) (λ h. access h (text name))
          ∙ ap (λ s. then_seen s (λ h. sees_there (access h (text name)))) whole_seen
          ∙ then-then (seen x r) (λ i. sees_there (state_asked (folded i) Whole)) (λ h. sees_there (access h
          (text name)))
          ∙ then-same (seen x r)
          (λ i. then_seen (sees_there (state_asked (folded i) Whole)) (λ h. sees_there (access h (text name))))
          (λ i. sees_there (part_there i)) part_after

      pub member_plain : IsPlain x.template x.template_marks (held here (state_member_of id version name))
      member_plain = plain_of x.template x.template_marks (held here (state_member_of id version name)) (seen x r)
          part_there member_held
          (λ i. plain_continued x.template x.template_marks (look.seen json_in (state (folded i)))
          (λ j. held_value (done (part_of j (text name))))
          (λ j. plain_value x.template x.template_marks (done (part_of j (text name)))))

      part_used : (i : ResourceId) → sees_there (used (part_there i))
          ≡ seen x (rows.capped (continued (read (cells.state (folded i))) (λ j. done (names.look name j))))
      part_used i =
          used_continued x.template x.template_marks (look.seen json_in (state (folded i)))
          (λ j. held_value (done (part_of j (text name))))
          ∙ ap (λ s. then_seen s (λ j. sees_there (used (held_value (done (part_of j (text name)))))))
          (state_like (folded i) (states (folded i)))
          ∙ then-same (seen x (read (cells.state (folded i))))
          (λ j. sees_there (used (held_value (done (part_of j (text name))))))
          (λ j. done_seen (kept_of (names.look name j)))
          (λ j. used_held x.template x.template_marks (done (part_of j (text name)))
          ∙ keep_done x.template x.template_marks (part_of j (text name))
          ∙ ap (λ o. done_seen (kept_of o)) (part_is_look j name))
          ∙ sym (seen-on x (read (cells.state (folded i))) (λ j. kept_of (names.look name j)))
          ∙ sym (seen-capped-on x (read (cells.state (folded i))) (λ j. names.look name j))

      pub member_like : Like x (value here (state_member_of id version name)) (rows.capped (state_member name r))
      unfolding state_member
      member_like =
          used_of x.template x.template_marks (held here (state_member_of id version name))
          (seen x r) part_there member_held
          ∙ then-same (seen x r) (λ i. sees_there (used (part_there i)))
          (λ i. seen x (rows.capped (continued (read (cells.state (folded i))) (λ j. done
          (names.look name j))))) part_used
          ∙ sym (seen-continued x.source x.source_marks r
          (λ i. rows.capped (continued (read (cells.state (folded i))) (λ j. done (names.look name j)))))
          ∙ sym (seen-capped x r (λ i. continued (read (cells.state (folded i))) (λ j. done (names.look name j))))
