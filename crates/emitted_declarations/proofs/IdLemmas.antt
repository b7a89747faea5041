-- Ids by the parts of names.
use Rattle.std.proofs.Common.{◌≡◌, ℕ, zero, suc, length, List, [], ◌∷◌, ◌++◌, map, Option, Some, None, Bool, true}
use Rattle.std.proofs.Common.{false}
use Rattle.std.proofs.Common.{codes, refl, sym, ap, ap₂, ◌∙◌}
use Rattle.std.specs.Prelude.{◌||◌, pos, option_map, option_and_then}
use Rattle.foundation.proofs.TruthValues.{or_assoc}
use Rattle.arm_value.specs.Json.{Json, null, bool, int, text, array, object}
use Rattle.arm_ids.specs.Id.{text_of}
use Rattle.arm_ids.specs.Segments.{segments, has_slash}
use Rattle.arm_ids.specs.declared.id.Place.{Place}
use Rattle.arm_ids.specs.declared.id.ResourceId.{ResourceId}
use Rattle.arm_expr.specs.Tree.{Tree, call, index, trees}
use Rattle.arm_expr.specs.Tree as tree
use Rattle.bicep_emission.specs.Table.{table, row_in}
use Rattle.bicep_emission.specs.Values.{function_value, value_of, of_texts, of_lists, of_prints}
use Rattle.function_lists.specs.Ends.{without_front}
use Rattle.function_prints.specs.Printed.{join_items}
use Rattle.function_prints.specs.Cuts as cuts
use Rattle.reading.specs.Reading.{done, pure, continued, both, joined}
use Rattle.arm_env.specs.Look as look
use Rattle.arm_env.specs.Look.{Looking, Surroundings}
use Rattle.arm_env.specs.Names.{lazy_named, strict_named, placed_named}
use Rattle.arm_env.specs.Id.{resource_id}
use Rattle.arm_env.specs.Part.{part_of}
use Rattle.arm_env.specs.declared.function.Strict.TheVariants as strict
use Rattle.expression_values.specs.Meaning.{held, value, values, used, called, strict_row}
use Rattle.expression_values.proofs.Equations.{texts}
use Rattle.deploy_cells.specs.Guarded.{Reads}
use Rattle.bicep_emission.specs.Declared.{id_named, id_after}
use Rattle.bicep_emission.specs.Meaning.{id_text}
use Rattle.bicep_emission.specs.Alike.{Seen, seen_in}
use Rattle.bicep_emission.specs.Answered.{Sides}
use Rattle.bicep_emission.specs.Emitted.{two}
use Rattle.bicep_emission.specs.Stands.{Like}
use Rattle.bicep_emission.proofs.SeenLemmas.{then_seen, both_seen, done_seen, then-then, then-same, seen-both, seen-continued}
use Rattle.bicep_emission.proofs.KeptLemmas.{kept_of}
use Rattle.bicep_emission.proofs.AccessLemmas.{IsPlain, plain_function, plain_continued, index_seen, used_continued}
use Rattle.bicep_emission.proofs.CallLemmas.{seen, seen-on, seen-capped-on, like_two}
use Rattle.bicep_emission.proofs.BinaryLemmas.{known_second, with_second, text_like, int_like}
use Rattle.bicep_emission.proofs.ListLemmas.{whole_seen}
use Rattle.bicep_emission.specs.Made.{made_whole}
use Rattle.bicep_emission.proofs.MadeLemmas.{resource_id_is}
use Rattle.bicep_emission.proofs.NamedCallLemmas.{placed_row, plain_row}
use Rattle.bicep_emission.proofs.OutputLemmas.{text_kept}
use Rattle.bicep_emission.proofs.StateLemmas.{all_after}
use Rattle.emitted_declarations.specs.Declared.{split_name, rest_of_name, segments_from, id_of_parts}
use Rattle.emitted_declarations.specs.Parts.{made_of, PartsStand}
use Rattle.emitted_declarations.proofs.SplitLemmas.{slash}
use Rattle.emitted_declarations.proofs.NameLemmas.{names_from, parts_make}
use Rattle.emitted_declarations.proofs.PartLemmas.{split_of, segment_of, rest_of, values_from, values_are, no_values}

done_then : {A B : Type 0} (o : Option A) (g : A → Option B)
    → then_seen (let s : Seen A = done_seen o in s) (λ v. done_seen (g v))
    ≡ (let s : Seen B = done_seen (option_and_then g o) in s)
done_then (Some v) g = refl
done_then None g = refl

or_same : (b : Bool) → (b || b) ≡ b
or_same true = refl
or_same false = refl

-- one after another, of one value
both_of : (s : Seen Json) (f : Json → Option Json) (g : Json → Option (List Json))
    → then_seen (both_seen (then_seen s (λ v. done_seen (f v))) (then_seen s (λ v. done_seen (g v))))
    (λ p. done_seen (Some (p.0 ∷ p.1)))
    ≡ then_seen s (λ v. done_seen (option_map (λ p. p.0 ∷ p.1) (joined (f v) (g v))))
both_of (None, true) f g = refl
both_of (None, false) f g = refl
both_of (Some v, b) f g = by_marks (joined (f v) (g v))
  where
    by_marks : (o : Option (Json × List Json))
        → then_seen (let s : Seen (Json × List Json) = (o, b || b) in s) (λ p. done_seen (Some (p.0 ∷ p.1)))
        ≡ (option_map (λ p. p.0 ∷ p.1) o, b)
    by_marks (Some p) = ap (λ (m : Bool). let r : Seen (List Json) = (Some (p.0 ∷ p.1), m) in r) (or_same b)
    by_marks None = ap (λ (m : Bool). let r : Seen (List Json) = (None, m) in r) (or_same b)

module _ (x : Sides) (around : Surroundings) where
  abbrev sees : {A : Type 0} → Looking A → Seen A
  sees r = seen_in x.template x.template_marks r

  -- the expression is this of the value of the reading
  abbrev Of : {A : Type 0} → Looking A → Reads Json → (Json → Option A) → Type 0
  Of l r f = sees l ≡ then_seen (seen x r) (λ v. done_seen (f v))

  module _ (own : Tree) (r : Reads Json) (i : Like x (value around own) r) where
    split_is : Of (value around (split_name own)) r split_of
    unfolding lazy_named strict_named placed_named table row_in value_of of_texts
    split_is =
        like_two x around (codes "split") own (tree.text slash) r (pure (text slash)) cuts.split_by refl refl
        (λ v w. refl) i (text_like x around slash)
        ∙ with_second x around (text slash) r cuts.split_by
        ∙ seen-capped-on x r (λ v. cuts.split_by v (text slash)) ∙ seen-on x r (λ v. split_of v)

    split_plain : IsPlain x.template x.template_marks (held around (split_name own))
    unfolding lazy_named strict_named placed_named
    split_plain = plain_function x.template x.template_marks around (codes "split") (two own
        (tree.text slash)) refl refl

    -- a function of such a value and a known one
    by_known : (name : List ℕ) (a c : Tree) (k : Json) (f : Json → Option Json) (g : Json → Json → Option Json)
        → lazy_named name ≡ None → strict_named name ≡ None
        → ((v w : Json) → kept_of (function_value name (v ∷ w ∷ [])) ≡ kept_of (g v w))
        → Like x (value around c) (pure k)
        → Of (value around a) r f
        → Of (value around (call name (two a c))) r (λ v. option_and_then (λ w. kept_of (g w k)) (f v))
    by_known name a c k f g e h q j o =
        like_two x around name a c (continued r (λ v. done (f v))) (pure k) g e h q (o ∙ sym (seen-on x r f)) j
        ∙ with_second x around k (continued r (λ v. done (f v))) g
        ∙ seen-capped-on x (continued r (λ v. done (f v))) (λ w. g w k)
        ∙ seen-on x (continued r (λ v. done (f v))) (λ w. kept_of (g w k))
        ∙ ap (λ s. then_seen s (λ w. done_seen (kept_of (g w k)))) (seen-on x r f)
        ∙ then-then (seen x r) (λ v. done_seen (f v)) (λ w. done_seen (kept_of (g w k)))
        ∙ then-same (seen x r) (λ v. then_seen (done_seen (f v)) (λ w. done_seen (kept_of (g w k))))
        (λ v. done_seen (option_and_then (λ w. kept_of (g w k)) (f v)))
        (λ v. done_then (f v) (λ w. kept_of (g w k)))

    rest_is : (n : ℕ) → Of (value around (rest_of_name own n)) r (rest_of n)
    unfolding lazy_named strict_named placed_named table row_in value_of of_lists of_prints
    rest_is n =
        by_known (codes "join") (call (codes "skip") (two (split_name own) (tree.int (pos n)))) (tree.text slash)
        (text slash)
        (λ v. option_and_then (λ a. kept_of (without_front a (int (pos n)))) (split_of v)) join_items refl refl
        (λ v w. refl)
        (text_like x around slash)
        (by_known (codes "skip") (split_name own) (tree.int (pos n)) (int (pos n)) split_of without_front refl refl
        (λ v w. refl)
        (int_like x around (pos n)) split_is)

    segment_is : (n : ℕ) → Of (value around (index (split_name own) (tree.int (pos n)))) r (segment_of n)
    unfolding seen_in
    segment_is n =
        index_seen x.template x.template_marks around (split_name own) (tree.int (pos n)) split_plain
        ∙ ap₂ (λ s t. then_seen (both_seen s t) (λ p. done_seen (kept_of (part_of p.0 p.1)))) split_is
        (int_like x around (pos n))
        ∙ known_second (int (pos n)) (then_seen (seen x r) (λ v. done_seen (split_of v))) part_of
        ∙ then-then (seen x r) (λ v. done_seen (split_of v)) (λ a. done_seen (kept_of (part_of a (int (pos n)))))
        ∙ then-same (seen x r) (λ v. then_seen (done_seen (split_of v)) (λ a. done_seen (kept_of (part_of a (int
        (pos n))))))
        (λ v. done_seen (segment_of n v)) (λ v. done_then (split_of v) (λ a. kept_of (part_of a (int (pos n)))))

    pub parts_are : (n k : ℕ) → Of (look.all (values around (trees (segments_from own k n)))) r (values_from k n)
    unfolding look.all seen_in
    parts_are zero k =
        all_after x.template x.template_marks (value around (rest_of_name own k)) [] [] refl
        ∙ ap (λ s. then_seen s (λ a. done_seen (Some (a ∷ [])))) (rest_is k)
        ∙ then-then (seen x r) (λ v. done_seen (rest_of k v)) (λ a. done_seen (Some (a ∷ [])))
        ∙ then-same (seen x r) (λ v. then_seen (done_seen (rest_of k v)) (λ a. done_seen (Some (a ∷ []))))
        (λ v. done_seen (option_map (λ a. a ∷ []) (rest_of k v))) (λ v. one_of (rest_of k v))
      where
        one_of : (o : Option Json) → then_seen (done_seen o) (λ a. done_seen (Some (a ∷ [])))
            ≡ done_seen (option_map (λ a. a ∷ []) o)
        one_of (Some a) = refl
        one_of None = refl
    parts_are (suc n) k =
        seen-continued x.template x.template_marks
        (both (value around (index (split_name own) (tree.int (pos k)))) (look.all (values around (trees
        (segments_from own (suc k) n)))))
        (λ p. pure (p.0 ∷ p.1))
        ∙ ap (λ s. then_seen s (λ p. done_seen (Some (p.0 ∷ p.1))))
        (seen-both x.template x.template_marks (value around (index (split_name own) (tree.int (pos k))))
        (look.all (values around (trees (segments_from own (suc k) n))))
        ∙ ap₂ both_seen (segment_is k) (parts_are n (suc k)))
        ∙ both_of (seen x r) (segment_of k) (values_from (suc k) n)

  -- ---- the id of a name without a parent

  -- the id of a type and a value as a name
  made_named : (place : Place) (kind : List ℕ) (v : Json) → Option ResourceId
  made_named place kind v = id_named place kind v

  pub texts_back : (ns : List (List ℕ)) → cuts.texts_in (map text ns) ≡ Some ns
  unfolding cuts.texts_in
  texts_back [] = refl
  texts_back (n ∷ ns) = ap (λ o. option_map (λ (ts : List (List ℕ)). n ∷ ts) o) (texts_back ns)

  names_back : (place : Place) (kind : List ℕ) (o : Option (List (List ℕ)))
      → option_and_then (made_of place kind) (option_map (map text) o) ≡ option_and_then (made_whole place kind) o
  names_back place kind (Some ns) = ap (option_and_then (made_whole place kind)) (texts_back ns)
  names_back place kind None = refl

  split_none : (v : Json) → ((t : List ℕ) → v ≡ text t → ⊥) → split_of v ≡ None
  split_none (text t) h = absurd (h t refl)
  split_none null h = refl
  split_none (bool b) h = refl
  split_none (int z) h = refl
  split_none (array js) h = refl
  split_none (object ms) h = refl

  no_parts : (place : Place) (kind : List ℕ) (n : ℕ) (v : Json) → split_of v ≡ None
      → option_and_then (made_of place kind) (values_from 0 n v) ≡ None
  no_parts place kind n v e = ap (option_and_then (made_of place kind)) (no_values v n e)

  -- the parts of a value make the id that it names
  pub named_by_parts : (place : Place) (kind : List ℕ) (n : ℕ) → length (segments kind) ≡ suc (suc n) → (v : Json)
      → option_and_then (made_of place kind) (values_from 0 n v) ≡ id_named place kind v
  named_by_parts place kind n h (text t) =
      ap (option_and_then (made_of place kind)) (values_are t n)
      ∙ names_back place kind (names_from (segments t) n) ∙ parts_make place kind t n h
  named_by_parts place kind n h null = no_parts place kind n null refl
  named_by_parts place kind n h (bool b) = no_parts place kind n (bool b) refl
  named_by_parts place kind n h (int z) = no_parts place kind n (int z) refl
  named_by_parts place kind n h (array js) = no_parts place kind n (array js) refl
  named_by_parts place kind n h (object ms) = no_parts place kind n (object ms) refl

  -- by a list of values that are of the name
  pub parts_of_name : (kind : List ℕ) (ps : List Tree) (r : Reads Json) (f : Json → Option (List Json))
      → Of (look.all (values around (trees ps))) r f
      → ((v : Json) → option_and_then (made_of around.place kind) (f v) ≡ id_named around.place kind v)
      → PartsStand x around kind ps (continued r (λ v. done (id_named around.place kind v)))
  unfolding seen_in
  parts_of_name kind ps r f o h =
      seen-continued x.template x.template_marks (look.all (values around (trees ps))) (λ vs. done
      (made_of around.place kind vs))
      ∙ ap (λ s. then_seen s (λ vs. done_seen (made_of around.place kind vs))) o
      ∙ then-then (seen x r) (λ v. done_seen (f v)) (λ vs. done_seen (made_of around.place kind vs))
      ∙ then-same (seen x r) (λ v. then_seen (done_seen (f v)) (λ vs. done_seen (made_of around.place kind vs)))
      (λ v. done_seen (id_named around.place kind v))
      (λ v. done_then (f v) (made_of around.place kind)
      ∙ ap (λ (o : Option ResourceId). let s : Seen ResourceId = done_seen o in s) (h v))
      ∙ sym (seen-continued x.source x.source_marks r (λ v. done (id_named around.place kind v)))

  -- ---- the id of a child

  last_seen : (os : List (Looking Json)) (o : Looking Json)
      → sees (look.all (os ++ o ∷ []))
      ≡ then_seen (both_seen (sees (look.all os)) (sees o)) (λ p. done_seen (Some (p.0 ++ p.1 ∷ [])))
  unfolding look.all seen_in
  last_seen [] o =
      all_after x.template x.template_marks o [] [] refl ∙ first_one (sees o)
    where
      first_one : (s : Seen Json) → then_seen s (λ a. done_seen (Some (a ∷ [])))
          ≡ then_seen (both_seen (done_seen (Some [])) s) (λ p. done_seen (Some (p.0 ++ p.1 ∷ [])))
      first_one (Some a, true) = refl
      first_one (Some a, false) = refl
      first_one (None, true) = refl
      first_one (None, false) = refl
  last_seen (p ∷ os) o =
      seen-continued x.template x.template_marks (both p (look.all (os ++ o ∷ []))) (λ q. pure (q.0 ∷ q.1))
      ∙ ap (λ s. then_seen s (λ q. done_seen (Some (q.0 ∷ q.1))))
      (seen-both x.template x.template_marks p (look.all (os ++ o ∷ [])) ∙ ap (both_seen (sees p)) (last_seen os o))
      ∙ moved (sees p) (sees (look.all os)) (sees o)
      ∙ ap (λ s. then_seen (both_seen s (sees o)) (λ q. done_seen (Some (q.0 ++ q.1 ∷ []))))
      (sym (seen-continued x.template x.template_marks (both p (look.all os)) (λ q. pure (q.0 ∷ q.1))
      ∙ ap (λ s. then_seen s (λ q. done_seen (Some (q.0
      ∷ q.1)))) (seen-both x.template x.template_marks p (look.all os))))
    where
      marked : Option (List Json) → Bool → Seen (List Json)
      marked o b = (o, b)

      moved : (a : Seen Json) (s : Seen (List Json)) (t : Seen Json)
          → then_seen (both_seen a (then_seen (both_seen s t) (λ p. done_seen (Some (p.0 ++ p.1 ∷ [])))))
          (λ q. done_seen (Some (q.0 ∷ q.1)))
          ≡ then_seen (both_seen (then_seen (both_seen a s) (λ q. done_seen (Some (q.0 ∷ q.1)))) t)
          (λ q. done_seen (Some (q.0 ++ q.1 ∷ [])))
      moved (Some u, b) (Some us, c) (Some w, e) = ap (marked (Some (u ∷ us ++ w ∷ []))) (or_assoc e c b)
      moved (Some u, b) (Some us, c) (None, e) = ap (marked None) (or_assoc e c b)
      moved (Some u, b) (None, c) (Some w, e) = ap (marked None) (or_assoc e c b)
      moved (Some u, b) (None, c) (None, e) = ap (marked None) (or_assoc e c b)
      moved (None, b) (Some us, c) (Some w, e) = ap (marked None) (or_assoc e c b)
      moved (None, b) (Some us, c) (None, e) = ap (marked None) (or_assoc e c b)
      moved (None, b) (None, c) (Some w, e) = ap (marked None) (or_assoc e c b)
      moved (None, b) (None, c) (None, e) = ap (marked None) (or_assoc e c b)

  values_last : (ps : List Tree) (e : Tree)
      → values around (trees (ps ++ e ∷ [])) ≡ values around (trees ps) ++ value around e ∷ []
  values_last [] e = refl
  values_last (p ∷ ps) e = ap (λ (os : List (Looking Json)). value around p ∷ os) (values_last ps e)

  -- the id of a child is made of that of its parent
  pub child_parts : (kind upper : List ℕ) (ps : List Tree) (own : Tree) (up : Reads ResourceId) (r : Reads Json)
      → ((vs : List Json) (v : Json) → made_of around.place kind (vs ++ v ∷ [])
      ≡ option_and_then (λ i. id_after kind i v) (made_of around.place upper vs))
      → PartsStand x around upper ps up → Like x (value around own) r
      → PartsStand x around kind (ps ++ own ∷ []) (continued (both up r) (λ p. done (id_after kind p.0 p.1)))
  unfolding seen_in
  child_parts kind upper ps own up r h u i =
      seen-continued x.template x.template_marks (look.all (values around (trees (ps ++ own ∷ []))))
      (λ vs. done (made_of around.place kind vs))
      ∙ ap (λ os. then_seen (sees (look.all os)) (λ vs. done_seen (made_of around.place kind vs))) (values_last ps own)
      ∙ ap (λ s. then_seen s (λ vs. done_seen (made_of around.place kind vs))) (last_seen (values around (trees ps))
      (value around own))
      ∙ joined_after (sees (look.all (values around (trees ps)))) (sees (value around own))
      ∙ ap₂ (λ s t. then_seen (both_seen s t) (λ p. done_seen (id_after kind p.0 p.1)))
      (sym (seen-continued x.template x.template_marks (look.all (values around (trees ps)))
      (λ vs. done (made_of around.place upper vs))) ∙ u) i
      ∙ sym (seen-continued x.source x.source_marks (both up r) (λ p. done (id_after kind p.0 p.1))
      ∙ ap (λ s. then_seen s (λ p. done_seen (id_after kind p.0 p.1))) (seen-both x.source x.source_marks up r))
    where
      marked : Option ResourceId → Bool → Seen ResourceId
      marked o b = (o, b)

      with_up : (o : Option ResourceId) (v : Json) (m : Bool)
          → marked (option_and_then (λ i. id_after kind i v) o) m
          ≡ then_seen (joined o (Some v), m) (λ p. done_seen (id_after kind p.0 p.1))
      with_up (Some i) v m = refl
      with_up None v m = refl

      without : (o : Option ResourceId) (m : Bool)
          → marked None m ≡ then_seen (joined o (let n : Option Json = None in n), m) (λ p. done_seen
          (id_after kind p.0 p.1))
      without (Some i) m = refl
      without None m = refl

      joined_after : (s : Seen (List Json)) (t : Seen Json)
          → then_seen (then_seen (both_seen s t) (λ p. done_seen (Some (p.0 ++ p.1 ∷ []))))
          (λ vs. done_seen (made_of around.place kind vs))
          ≡ then_seen (both_seen (then_seen s (λ vs. done_seen (made_of around.place upper vs))) t)
          (λ p. done_seen (id_after kind p.0 p.1))
      joined_after (Some vs, b) (Some v, c) =
          ap (λ o. marked o (c || b)) (h vs v) ∙ with_up (made_of around.place upper vs) v (c || b)
      joined_after (Some vs, b) (None, c) = without (made_of around.place upper vs) (c || b)
      joined_after (None, b) (Some v, c) = refl
      joined_after (None, b) (None, c) = refl

  -- ---- the text of an id

  -- `resourceId` of a type and parts
  given : (kind : List ℕ) → has_slash kind ≡ true → (vs : List Json)
      → sees (used (strict_row around strict.ResourceId (text kind ∷ vs)))
      ≡ then_seen (done_seen (made_of around.place kind vs)) (λ i. done_seen (Some (text (text_of i))))
  unfolding cuts.texts_in
  given kind h vs = placed_row x around strict.ResourceId tt (text kind ∷ vs) ∙ by_texts (cuts.texts_in vs)
    where
      by_texts : (o : Option (List (List ℕ)))
          → done_seen (kept_of (option_map text (option_and_then (resource_id around.place) (option_map (λ ts. kind
          ∷ ts) o))))
          ≡ then_seen (done_seen (option_and_then (made_whole around.place kind) o)) (λ i. done_seen (Some (text
          (text_of i))))
      by_texts (Some ns) =
          ap (λ o. done_seen (kept_of (option_map text o))) (resource_id_is around.place kind ns h)
          ∙ text_kept (made_whole around.place kind ns)
      by_texts None = refl

  pub id_like : (kind : List ℕ) (ps : List Tree) (r : Reads ResourceId) → has_slash kind ≡ true
      → PartsStand x around kind ps r → Like x (value around (id_of_parts kind ps)) (id_text r)
  unfolding called lazy_named strict_named placed_named look.all seen_in
  id_like kind ps r h i =
      used_continued x.template x.template_marks (look.all (value around (tree.text kind) ∷ values around (trees ps)))
      (strict_row around strict.ResourceId)
      ∙ ap (λ s. then_seen s (λ vs. sees (used (strict_row around strict.ResourceId vs))))
      (seen-continued x.template x.template_marks (both (value around (tree.text kind)) (look.all (values around
      (trees ps))))
      (λ p. pure (p.0 ∷ p.1))
      ∙ ap (λ s. then_seen s (λ p. done_seen (Some (p.0 ∷ p.1))))
      (seen-both x.template x.template_marks (value around (tree.text kind)) (look.all (values around (trees ps)))
      ∙ ap (λ u. both_seen (sees u) (sees (look.all (values around (trees ps))))) (texts around kind)))
      ∙ whole_seen x around (text kind) (sees (look.all (values around (trees ps))))
      (λ vs. sees (used (strict_row around strict.ResourceId vs)))
      ∙ then-same (sees (look.all (values around (trees ps))))
      (λ vs. sees (used (strict_row around strict.ResourceId (text kind ∷ vs))))
      (λ vs. then_seen (done_seen (made_of around.place kind vs)) (λ i. done_seen (Some (text (text_of i)))))
      (given kind h)
      ∙ sym (then-then (sees (look.all (values around (trees ps)))) (λ vs. done_seen (made_of around.place kind vs))
      (λ i. done_seen (Some (text (text_of i)))))
      ∙ ap (λ s. then_seen s (λ i. done_seen (Some (text (text_of i)))))
      (sym (seen-continued x.template x.template_marks (look.all (values around (trees ps)))
      (λ vs. done (made_of around.place kind vs))) ∙ i)
      ∙ sym (seen-continued x.source x.source_marks r (λ i. pure (text (text_of i))))

  pub id_plain : (kind : List ℕ) (ps : List Tree)
      → IsPlain x.template x.template_marks (held around (id_of_parts kind ps))
  unfolding called lazy_named strict_named placed_named
  id_plain kind ps =
      plain_continued x.template x.template_marks (look.all (value around (tree.text kind) ∷ values around (trees ps)))
      (strict_row around strict.ResourceId) (plain_row x around strict.ResourceId tt)
