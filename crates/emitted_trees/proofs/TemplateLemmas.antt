-- Objects of a template: their own members and those that loops give are read as one list of members, in any order.
use Rattle.std.proofs.Common.{◌≡◌, ◌≢◌, ℕ, List, [], ◌∷◌, ◌++◌, Option, Some, None, Bool, true, false, codes}
use Rattle.std.proofs.Common.{refl, sym, ap, ap₂, ◌∙◌, map, Ordering, Less, Equal, Greater}
use Rattle.std.proofs.lemmas.List.{append_assoc, map-append}
use Rattle.std.specs.Prelude.{◌||◌, ◌&&◌, not, bytes_eq, if◌then◌else◌}
use Rattle.std.specs.List.{AllByRecursion, list_any}
use Rattle.std.specs.Ordering.{match_ordering}
use Rattle.arm_value.proofs.MemberLemmas.{put_each-append}
use Rattle.foundation.proofs.Words.{eq_word}
use Rattle.foundation.proofs.TruthValues.{unless, or_false}
use Rattle.arm_value.specs.Json.{Json, array, object, Member, row, pairs, keys, key_cmp, put, put_each}
use Rattle.arm_env.specs.Look as look
use Rattle.arm_env.specs.Look.{Looking, Surroundings}
use Rattle.arm_env.specs.Held as held
use Rattle.arm_env.specs.Object.{object_of}
use Rattle.arm_env.specs.Part.{kept}
use Rattle.arm_eval.specs.Trees as trees
use Rattle.arm_expr.specs.Brackets.{is_copy}
use Rattle.arm_eval.specs.Trees.{Copy, turns, array_of, counting, copied, are_new, differ, joined, concat, tree_value, given_members, copies, row_copies, object_by}
use Rattle.reading.specs.Reading.{done, pure, continued, both}
use Rattle.bicep_emission.specs.Alike.{Seen, seen_in}
use Rattle.bicep_emission.specs.Answered.{Sides}
use Rattle.bicep_emission.proofs.SeenLemmas.{then_seen, both_seen, done_seen, seen-continued, seen-both, seen-twice}
use Rattle.emitted_trees.specs.Sound.{Differ}
use Rattle.emitted_trees.specs.Templates.{TemplateMembers, TemplateValue}
use Rattle.emitted_trees.specs.Templates as t
use Rattle.emitted_trees.specs.Written.{expression_json, copy_member, tree_json, own_members, loops}
use Rattle.emitted_trees.proofs.ItemLemmas.{Item, nothing, named, onto, Same, Apart, AllApart, same_front, same_after}
use Rattle.emitted_trees.proofs.ItemLemmas.{same_moved, AreNamed, Absent, Distinct, absent_put, same_in_order}
use Rattle.emitted_trees.proofs.CollectedLemmas.{front, front_item, collected, all_put, collected_put, item_names}
use Rattle.emitted_trees.proofs.CollectedLemmas.{object_seen}

-- ---- lists

all_map : {A : Type 0} (P Q : A → Type 0) (xs : List A) → ((x : A) → P x → Q x) → AllByRecursion P xs
    → AllByRecursion Q xs
all_map P Q [] f h = tt
all_map P Q (x ∷ xs) f h = (f x h.0, all_map P Q xs f h.1)

all_zip : {A : Type 0} (P Q R : A → Type 0) (xs : List A) → ((x : A) → P x → Q x → R x) → AllByRecursion P xs
    → AllByRecursion Q xs → AllByRecursion R xs
all_zip P Q R [] f h g = tt
all_zip P Q R (x ∷ xs) f h g = (f x h.0 g.0, all_zip P Q R xs f h.1 g.1)

-- ---- names

not_among : (k : List ℕ) (ks : List (List ℕ)) → AllByRecursion (λ other. k ≢ other) ks
    → list_any (bytes_eq k) ks ≡ false
not_among k [] h = refl
not_among k (l ∷ ks) h =
    ap₂ (λ a b. a || b) (unless (bytes_eq k l) (λ e. h.0 (eq_word k l e))) (not_among k ks h.1)

new_names : (ms : List Member) (ks : List (List ℕ)) → AllByRecursion (λ k. Absent k ms) ks
    → are_new (keys ms) ks ≡ true
new_names ms [] h = refl
new_names ms (k ∷ ks) h = ap₂ (λ a b. not a && b) (not_among k (keys ms) h.0) (new_names ms ks h.1)

names_differ : (ks : List (List ℕ)) → Differ ks → differ ks ≡ true
names_differ [] h = refl
names_differ (k ∷ ks) h = ap₂ (λ a b. not a && b) (not_among k ks h.0) (names_differ ks h.1)

abbrev NoCopy : List Member → Type 0
NoCopy ms = AllByRecursion (λ k. is_copy k ≡ false) (keys ms)

no_copy_by : (o : Ordering) (k : List ℕ) (j : Json) (m : Member) (ms : List Member) → is_copy k ≡ false
    → is_copy m.0 ≡ false → NoCopy ms → NoCopy (put k j ms)
    → NoCopy (match_ordering o ((k, j) ∷ m ∷ ms) ((k, j) ∷ ms) (m ∷ put k j ms))
no_copy_by Less k j m ms h g a r = (h, (g, a))
no_copy_by Equal k j m ms h g a r = (h, a)
no_copy_by Greater k j m ms h g a r = (g, r)

no_copy_put : (k : List ℕ) (j : Json) (ms : List Member) → is_copy k ≡ false → NoCopy ms → NoCopy (put k j ms)
no_copy_put k j [] h a = (h, tt)
no_copy_put k j (m ∷ ms) h a = no_copy_by (key_cmp k m.0) k j m ms h a.0 a.1 (no_copy_put k j ms h a.1)

no_copy_put_each : (ms ns : List Member) → NoCopy ms → NoCopy ns → NoCopy (put_each ms ns)
no_copy_put_each ms [] h a = h
no_copy_put_each ms (n ∷ ns) h a = no_copy_put_each (put n.0 n.1 ms) ns (no_copy_put n.0 n.1 ms a.0 h) a.1

absent_put_each : (l : List ℕ) (ms ns : List Member) → Absent l ms → Absent l ns → Absent l (put_each ms ns)
absent_put_each l ms [] h a = h
absent_put_each l ms (n ∷ ns) h a = absent_put_each l (put n.0 n.1 ms) ns (absent_put l n.0 n.1 ms a.0 h) a.1

not_copy : (k : List ℕ) → is_copy k ≡ false → k ≢ codes "copy"
not_copy k h e = let same : is_copy k ≡ true = ap is_copy e in let both : false ≡ true = sym h ∙ same in cc

absent_append : (k : List ℕ) (ms ns : List Member) → Absent k ms → Absent k ns → Absent k (ms ++ ns)
absent_append k [] ns h a = a
absent_append k (m ∷ ms) ns h a = (h.0, absent_append k ms ns h.1 a)

absent_copy : (k : List ℕ) (js : List Json) → is_copy k ≡ false → Absent k (copy_member js)
absent_copy k [] h = tt
absent_copy k (j ∷ js) h = (not_copy k h, tt)

copy_distinct : (js : List Json) → Distinct (copy_member js)
copy_distinct [] = tt
copy_distinct (j ∷ js) = (tt, tt)

distinct_append : (ms : List Member) (js : List Json) → NoCopy ms → Distinct ms → Distinct (ms ++ copy_member js)
distinct_append [] js n d = copy_distinct js
distinct_append (m ∷ ms) js n d =
    (absent_append m.0 ms (copy_member js) d.0 (absent_copy m.0 js n.0), distinct_append ms js n.1 d.1)

-- ---- members of a template

abbrev pub member_names : TemplateMembers → List (List ℕ)
member_names t.no_member = []
member_names (t.member k v ms) = k ∷ member_names ms

abbrev loop_names : TemplateMembers → List (List ℕ)
loop_names t.no_member = []
loop_names (t.member k (t.plain e) ms) = loop_names ms
loop_names (t.member k (t.each c e) ms) = k ∷ loop_names ms

all_own : (P : List ℕ → Type 0) (ms : TemplateMembers) → AllByRecursion P (member_names ms)
    → AllByRecursion P (keys (own_members ms))
all_own P t.no_member h = tt
all_own P (t.member k (t.plain e) ms) h = (h.0, all_own P ms h.1)
all_own P (t.member k (t.each c e) ms) h = all_own P ms h.1

all_loops : (P : List ℕ → Type 0) (ms : TemplateMembers) → AllByRecursion P (member_names ms)
    → AllByRecursion P (loop_names ms)
all_loops P t.no_member h = tt
all_loops P (t.member k (t.plain e) ms) h = all_loops P ms h.1
all_loops P (t.member k (t.each c e) ms) h = (h.0, all_loops P ms h.1)

own_distinct : (ms : TemplateMembers) → Differ (member_names ms) → Distinct (own_members ms)
own_distinct t.no_member h = tt
own_distinct (t.member k (t.plain e) ms) h = (all_own (λ other. k ≢ other) ms h.0, own_distinct ms h.1)
own_distinct (t.member k (t.each c e) ms) h = own_distinct ms h.1

loops_differ : (ms : TemplateMembers) → Differ (member_names ms) → Differ (loop_names ms)
loops_differ t.no_member h = tt
loops_differ (t.member k (t.plain e) ms) h = loops_differ ms h.1
loops_differ (t.member k (t.each c e) ms) h = (all_loops (λ other. k ≢ other) ms h.0, loops_differ ms h.1)

-- the names of loops are not among the others
loops_absent : (ms : TemplateMembers) → Differ (member_names ms)
    → AllByRecursion (λ l. Absent l (own_members ms)) (loop_names ms)
loops_absent t.no_member h = tt
loops_absent (t.member k (t.plain e) ms) h =
    all_zip (λ l. k ≢ l) (λ l. Absent l (own_members ms)) (λ l. (l ≢ k) × Absent l (own_members ms)) (loop_names ms)
    (λ l d a. ((λ q. d (sym q)), a)) (all_loops (λ other. k ≢ other) ms h.0) (loops_absent ms h.1)
loops_absent (t.member k (t.each c e) ms) h = (all_own (λ other. k ≢ other) ms h.0, loops_absent ms h.1)

module _ (x : Sides) (here : Surroundings) where
  abbrev sees : {A : Type 0} → Looking A → Seen A
  sees r = seen_in x.template x.template_marks r

  all_front : {A : Type 0} (r : Looking A) (rs : List (Looking A)) → sees (look.all (r ∷ rs))
      ≡ then_seen (both_seen (sees r) (sees (look.all rs))) (λ p. done_seen (Some (p.0 ∷ p.1)))
  unfolding look.all seen_in
  all_front r rs =
      seen-continued x.template x.template_marks (both r (look.all rs)) (λ p. pure (p.0 ∷ p.1))
      ∙ ap (λ s. then_seen s (λ p. done_seen (Some (p.0 ∷ p.1))))
      (seen-both x.template x.template_marks r (look.all rs))

  -- ---- the members that an object has of its own

  abbrev one_member : List ℕ → Json → List Member
  one_member k v = (k, v) ∷ []

  abbrev item_by : Bool → Member → Item
  item_by true m = nothing
  item_by false m = named m.0 (sees (tree_value m.1 here))

  abbrev pub item_of : Member → Item
  item_of m = item_by (is_copy m.0) m

  abbrev joined_front : Seen (List Member) → Seen (List (List Member)) → Seen (List Member)
  joined_front s u =
      then_seen (then_seen (both_seen s u) (λ p. done_seen (Some (p.0 ∷ p.1)))) (λ mss. done_seen (Some (concat mss)))

  abbrev joined_all : Seen (List (List Member)) → Seen (List Member)
  joined_all u = then_seen u (λ mss. done_seen (Some (concat mss)))

  none_joined : (u : Seen (List (List Member))) → joined_front (done_seen (Some [])) u ≡ joined_all u
  none_joined (Some mss, b) = ap (λ m. let r : Seen (List Member) = (Some (concat mss), m) in r) (or_false b)
  none_joined (None, b) = ap (λ m. let r : Seen (List Member) = (None, m) in r) (or_false b)

  member_joined : (k : List ℕ) (s : Seen Json) (u : Seen (List (List Member)))
      → joined_front (then_seen s (λ v. done_seen (Some (one_member k v)))) u ≡ front k s (joined_all u)
  member_joined k (Some v, b) (Some mss, c) = refl
  member_joined k (Some v, b) (None, c) = refl
  member_joined k (None, b) (Some mss, c) = refl
  member_joined k (None, b) (None, c) = refl

  own_by : (b : Bool) (m : Member) (u : Seen (List (List Member)))
      → joined_front (sees (if b then pure [] else continued (tree_value m.1 here) (λ v. pure (one_member m.0 v)))) u
      ≡ front_item (item_by b m) (joined_all u)
  unfolding seen_in
  own_by true m u = none_joined u
  own_by false m u =
      ap (λ s. joined_front s u)
      (seen-continued x.template x.template_marks (tree_value m.1 here) (λ v. pure (one_member m.0 v)))
      ∙ member_joined m.0 (sees (tree_value m.1 here)) u

  own_collected : (ms : List Member)
      → joined_all (sees (look.all (trees.own_members (pairs ms) here))) ≡ collected (map item_of ms)
  unfolding look.all seen_in
  own_collected [] = refl
  own_collected (m ∷ ms) =
      ap joined_all (all_front (trees.own_member m.0 (tree_value m.1 here)) (trees.own_members (pairs ms) here))
      ∙ own_by (is_copy m.0) m (sees (look.all (trees.own_members (pairs ms) here)))
      ∙ ap (front_item (item_of m)) (own_collected ms)

  -- ---- the members that loops give

  abbrev pub loop_value : Copy → Looking Json
  loop_value c = continued (counting (c.count here)) (λ n. array_of (turns c here 0 n))

  abbrev pub loop_item : Copy → Item
  loop_item c = named c.name (sees (loop_value c))

  pub copied_seen : (c : Copy)
      → sees (copied here (Some c)) ≡ then_seen (sees (loop_value c)) (λ v. done_seen (Some (c.name, v)))
  unfolding seen_in
  copied_seen c =
      sym (seen-twice x.template x.template_marks (counting (c.count here)) (λ n. array_of (turns c here 0 n))
      (λ v. pure (c.name, v)))
      ∙ seen-continued x.template x.template_marks (loop_value c) (λ v. pure (c.name, v))

  value_of_named : (k : List ℕ) (s : Seen Json)
      → then_seen (then_seen s (λ v. done_seen (let m : Option Member = Some (k, v) in m))) (λ m. done_seen (Some m.1))
      ≡ s
  value_of_named k (Some v, true) = refl
  value_of_named k (Some v, false) = refl
  value_of_named k (None, b) = refl

  -- the loop of a variable, or of an argument of a nested deployment
  pub named_loop : (c : Copy) → sees (continued (copied here (Some c)) (λ m. pure m.1)) ≡ sees (loop_value c)
  unfolding seen_in
  named_loop c =
      seen-continued x.template x.template_marks (copied here (Some c)) (λ m. pure m.1)
      ∙ ap (λ s. then_seen s (λ m. done_seen (Some m.1))) (copied_seen c)
      ∙ value_of_named c.name (sees (loop_value c))

  abbrev all_copied : List Copy → List (Looking Member)
  all_copied [] = []
  all_copied (c ∷ cs) = copied here (Some c) ∷ all_copied cs

  pub member_front : (k : List ℕ) (s : Seen Json) (u : Seen (List Member))
      → then_seen (both_seen (then_seen s (λ v. done_seen (Some (k, v)))) u) (λ p. done_seen (Some (p.0 ∷ p.1)))
      ≡ front k s u
  member_front k (Some v, b) (Some ms, c) = refl
  member_front k (Some v, b) (None, c) = refl
  member_front k (None, b) (Some ms, c) = refl
  member_front k (None, b) (None, c) = refl

  loops_collected : (cs : List Copy) → sees (look.all (all_copied cs)) ≡ collected (map loop_item cs)
  unfolding look.all seen_in
  loops_collected [] = refl
  loops_collected (c ∷ cs) =
      all_front (copied here (Some c)) (all_copied cs)
      ∙ ap (λ s. then_seen (both_seen s (sees (look.all (all_copied cs)))) (λ p. done_seen (Some (p.0 ∷ p.1))))
      (copied_seen c)
      ∙ member_front c.name (sees (loop_value c)) (sees (look.all (all_copied cs)))
      ∙ ap (front c.name (sees (loop_value c))) (loops_collected cs)

  -- ---- an object

  -- the object of members that were put in their order
  abbrev pub object_kept : Seen (List Member) → Seen Json
  object_kept u = then_seen u (λ ms. done_seen (kept (object (pairs ms))))

  concat_both : (names : List (List ℕ)) (s : Seen (List (List Member))) (u : Seen (List Member))
      → then_seen (both_seen s u) (λ p. done_seen (joined names (concat p.0) p.1))
      ≡ then_seen (both_seen (joined_all s) u) (λ p. done_seen (joined names p.0 p.1))
  concat_both names (Some mss, b) (Some ms, c) = refl
  concat_both names (Some mss, b) (None, c) = refl
  concat_both names (None, b) (Some ms, c) = refl
  concat_both names (None, b) (None, c) = refl

  pub as_object : (u : Seen (List Member))
      → then_seen (then_seen u (λ ms. done_seen (Some (object_of ms)))) (λ j. done_seen (kept j))
      ≡ object_kept (all_put [] u)
  as_object (Some ms, b) = refl
  as_object (None, b) = refl

  object_is : (names : List (List ℕ)) (ms : List Member) (g : Looking (List Member)) (cs : List Copy)
      → sees g ≡ collected (map loop_item cs)
      → (are_new names (item_names (map loop_item cs)) && differ (item_names (map loop_item cs))) ≡ true
      → sees (object_by names (trees.own_members (pairs ms) here) g)
      ≡ object_kept (onto [] (map item_of ms ++ map loop_item cs))
  unfolding held.capped seen_in
  object_is names ms g cs given new =
      let os = trees.own_members (pairs ms) here in
      seen-continued x.template x.template_marks
      (continued (both (look.all os) g) (λ p. done (joined names (concat p.0) p.1))) (λ j. done (kept j))
      ∙ ap (λ s. then_seen s (λ j. done_seen (kept j)))
      (seen-continued x.template x.template_marks (both (look.all os) g) (λ p. done (joined names (concat p.0) p.1))
      ∙ ap (λ s. then_seen s (λ p. done_seen (joined names (concat p.0) p.1)))
      (seen-both x.template x.template_marks (look.all os) g)
      ∙ concat_both names (sees (look.all os)) (sees g)
      ∙ ap₂ (λ s u. then_seen (both_seen s u) (λ p. done_seen (joined names p.0 p.1))) (own_collected ms) given
      ∙ object_seen names (map item_of ms) (map loop_item cs) new)
      ∙ as_object (collected (map item_of ms ++ map loop_item cs))
      ∙ ap object_kept (collected_put (map item_of ms ++ map loop_item cs) [])

  -- ---- the member `copy`

  given_by : (o : Ordering) (j : Json) (m : Member) (ms : List Member) → is_copy m.0 ≡ false
      → given_members (pairs (put (codes "copy") j ms)) here ≡ copies j here
      → given_members (pairs (match_ordering o ((codes "copy", j) ∷ m ∷ ms) ((codes "copy", j) ∷ ms)
      (m ∷ put (codes "copy") j ms))) here ≡ copies j here
  given_by Less j m ms h r = refl
  given_by Equal j m ms h r = refl
  given_by Greater j m ms h r =
      ap (λ b. if b then copies m.1 here else given_members (pairs (put (codes "copy") j ms)) here) h ∙ r

  given_put : (j : Json) (ms : List Member) → NoCopy ms
      → given_members (pairs (put (codes "copy") j ms)) here ≡ copies j here
  given_put j [] h = refl
  given_put j (m ∷ ms) h = given_by (key_cmp (codes "copy") m.0) j m ms h.0 (given_put j ms h.1)

  given_none : (ms : List Member) → NoCopy ms → given_members (pairs ms) here ≡ pure []
  given_none [] h = refl
  given_none (m ∷ ms) h =
      ap (λ b. if b then copies m.1 here else given_members (pairs ms) here) h.0 ∙ given_none ms h.1

  abbrev pub copy_by : List ℕ → Json → Json → Copy
  copy_by k count input = record { name = k; count = tree_value count; input = tree_value input }

  -- the loops of members
  abbrev pub loop_copies : TemplateMembers → List Copy
  loop_copies t.no_member = []
  loop_copies (t.member k (t.plain e) ms) = loop_copies ms
  loop_copies (t.member k (t.each c e) ms) = copy_by k (expression_json c) (tree_json e) ∷ loop_copies ms

  copies_are : (ms : TemplateMembers) → row_copies (row (loops ms)) here ≡ all_copied (loop_copies ms)
  unfolding lib.Utf8.encode
  copies_are t.no_member = refl
  copies_are (t.member k (t.plain e) ms) = copies_are ms
  copies_are (t.member k (t.each c e) ms) =
      ap (λ os. copied here (Some (copy_by k (expression_json c) (tree_json e))) ∷ os) (copies_are ms)

  abbrev sorted : List Member → List Json → List Member
  sorted own js = put_each [] (own ++ copy_member js)

  given_sorted : (own : List Member) (js : List Json) → NoCopy own
      → given_members (pairs (sorted own js)) here ≡ look.all (row_copies (row js) here)
  unfolding look.all
  given_sorted own [] h =
      ap (λ ms. given_members (pairs ms) here) (put_each-append [] own [])
      ∙ given_none (put_each [] own) (no_copy_put_each [] own tt h)
  given_sorted own (j ∷ js) h =
      ap (λ ms. given_members (pairs ms) here) (put_each-append [] own (copy_member (j ∷ js)))
      ∙ given_put (array (row (j ∷ js))) (put_each [] own) (no_copy_put_each [] own tt h)

  loop_names_are : (ms : TemplateMembers) → item_names (map loop_item (loop_copies ms)) ≡ loop_names ms
  loop_names_are t.no_member = refl
  loop_names_are (t.member k (t.plain e) ms) = loop_names_are ms
  loop_names_are (t.member k (t.each c e) ms) = ap (λ (ks : List (List ℕ)). k ∷ ks) (loop_names_are ms)

  -- ---- the order of members

  apart_by : (b : Bool) (k : List ℕ) (s : Seen Json) (m : Member) → k ≢ m.0 → Apart (named k s) (item_by b m)
  apart_by true k s m h = tt
  apart_by false k s m h = h

  named_by : (a : Bool) (m n : Member) → m.0 ≢ n.0 → Apart (item_by a m) (item_of n)
  named_by true m n h = tt
  named_by false m n h = apart_by (is_copy n.0) m.0 (sees (tree_value m.1 here)) n h

  are_named : AreNamed item_of
  are_named m n h = named_by (is_copy m.0) m n h

  apart_from : (k : List ℕ) (s : Seen Json) (ms : List Member) → Absent k ms → AllApart (named k s) (map item_of ms)
  apart_from k s [] h = tt
  apart_from k s (m ∷ ms) h = (apart_by (is_copy m.0) k s m h.0, apart_from k s ms h.1)

  -- what the value of a member is read as
  abbrev pub value_seen : List ℕ → TemplateValue → Seen Json
  value_seen k (t.plain e) = sees (tree_value (tree_json e) here)
  value_seen k (t.each c e) = sees (loop_value (copy_by k (expression_json c) (tree_json e)))

  abbrev pub items : TemplateMembers → List Item
  items t.no_member = []
  items (t.member k v ms) = named k (value_seen k v) ∷ items ms

  in_source_order : (ms : TemplateMembers) → Differ (member_names ms)
      → AllByRecursion (λ k. is_copy k ≡ false) (member_names ms)
      → Same (map item_of (own_members ms) ++ map loop_item (loop_copies ms)) (items ms)
  in_source_order t.no_member d n base = refl
  in_source_order (t.member k (t.plain e) ms) d n base =
      ap (λ b. onto base (item_by b (k, tree_json e) ∷ map item_of (own_members ms) ++ map loop_item (loop_copies ms)))
      n.0
      ∙ same_front (named k (sees (tree_value (tree_json e) here)))
      (map item_of (own_members ms) ++ map loop_item (loop_copies ms)) (items ms) (in_source_order ms d.1 n.1) base
  in_source_order (t.member k (t.each c e) ms) d n base =
      let s = sees (loop_value (copy_by k (expression_json c) (tree_json e))) in
      sym (same_moved (named k s) (map item_of (own_members ms)) (map loop_item (loop_copies ms))
      (apart_from k s (own_members ms) (all_own (λ other. k ≢ other) ms d.0)) base)
      ∙ same_front (named k s) (map item_of (own_members ms) ++ map loop_item (loop_copies ms)) (items ms)
      (in_source_order ms d.1 n.1) base

  copy_is_nothing : (js : List Json) (xs : List Item) → Same (map item_of (copy_member js) ++ xs) xs
  copy_is_nothing [] xs base = refl
  copy_is_nothing (j ∷ js) xs base = refl

  -- an object is read as its members in their order, with those that loops give among them
  pub object_value : (ms : TemplateMembers) → Differ (member_names ms)
      → AllByRecursion (λ k. is_copy k ≡ false) (member_names ms)
      → sees (tree_value (tree_json (t.object ms)) here) ≡ object_kept (onto [] (items ms))
  object_value ms d n =
      let own = own_members ms in
      let js = loops ms in
      let cs = loop_copies ms in
      let all = sorted own js in
      let no_copy : NoCopy own = all_own (λ k. is_copy k ≡ false) ms n in
      let absent : AllByRecursion (λ l. Absent l all) (loop_names ms) =
      all_zip (λ l. Absent l own) (λ l. is_copy l ≡ false) (λ l. Absent l all) (loop_names ms)
      (λ l a c. absent_put_each l [] (own ++ copy_member js) tt
      (absent_append l own (copy_member js) a (absent_copy l js c)))
      (loops_absent ms d) (all_loops (λ k. is_copy k ≡ false) ms n) in
      let new : (are_new (keys all) (loop_names ms) && differ (loop_names ms)) ≡ true =
      ap₂ (λ a b. a && b) (new_names all (loop_names ms) absent) (names_differ (loop_names ms) (loops_differ ms d)) in
      object_is (keys all) all (given_members (pairs all) here) cs
      (ap sees (given_sorted own js no_copy ∙ ap look.all (copies_are ms)) ∙ loops_collected cs)
      (ap (λ ks. are_new (keys all) ks && differ ks) (loop_names_are ms) ∙ new)
      ∙ ap object_kept
      (same_in_order item_of are_named (own ++ copy_member js) (map loop_item cs)
      (distinct_append own js no_copy (own_distinct ms d)) []
      ∙ ap (onto [])
      (ap (λ is. is ++ map loop_item cs) (map-append item_of own (copy_member js))
      ∙ append_assoc (map item_of own) (map item_of (copy_member js)) (map loop_item cs))
      ∙ same_after (map item_of own) (map item_of (copy_member js) ++ map loop_item cs) (map loop_item cs)
      (copy_is_nothing js (map loop_item cs)) []
      ∙ in_source_order ms d n [])
