-- Which nested deployment around a text names.
use Rattle.std.proofs.Common.{◌≡◌, ℕ, ◌+◌, ◌<◌, ◌≤◌, Bool, true, false, List, [], ◌∷◌, ◌++◌, drop, map, length, get_or}
use Rattle.std.proofs.Common.{chars, Option, Some, None, Result, Ok, Err, refl, sym, ap, subst, ◌∙◌}
use Rattle.std.specs.Prelude.{option_map, if◌then◌else◌}
use Rattle.arm_value.specs.Json.{Json}
use Rattle.arm_value.specs.View.{json}
use Rattle.arm_value.specs.declared.value.Value.{Value}
use Rattle.arm_ids.specs.declared.id.Place.{Place}
use Rattle.arm_ids.specs.declared.id.ResourceId.{ResourceId}
use Rattle.arm_env.specs.Look.{Fact, a_key}
use Rattle.reading.specs.Reading.{pure, read, continued}
use Rattle.reading.specs.Knowledge.{Told, value, told, and_then}
use Rattle.reading.proofs.Parts.{told-continued}
use Rattle.deploy_cells.specs.Cells.{Position, Cell, deployments}
use Rattle.deploy_cells.specs.Guarded.{Reads}
use Rattle.deploy_cells.specs.Listing.{Named, named_of, instances_of, listing_of}
use Rattle.plan_sight.specs.Scopes.{visible}
use Rattle.plan_sight.specs.Sites.{first_with, first_name, concat, seek_name, named_or, all_but_first, deployment_key}
use Rattle.plan_table.specs.Rows.{status_of, table}
use Rattle.plan_table.specs.declared.table.Table.{Table}
use Rattle.plan_table.specs.declared.frame.Frame.{Frame}
use Rattle.plan_table.specs.Opened.{Opened}
use Rattle.plan_table.specs.Whole.{whole_of, scopes_of, rows_in}
use Rattle.plan_table.specs.Found.{scope_at}
use Rattle.plan_sight.specs.declared.lack.Lack.{Lack}
use Rattle.plan_sight.specs.Ready.{IsReady, told_in}
use Rattle.plan_sight.specs.Seen.{Lacks, Stops}
use Rattle.plan_sight.proofs.LookLemmas.{scope_is, scopes_there, frames_there}
use Rattle.plan_nested.proofs.HitLemmas.{next_of, no_more}
use Rattle.plan_nested.proofs.SeekLemmas.{around_own, around_outer, visible_here, read_goes, read_stops, stop_goes}
use Rattle.plan_nested.proofs.OutputLemmas.{lacks_stopped}
use Rattle.plan_nested.specs.Hits.{entry_of}
use Rattle.plan_nested.specs.Entry.{Entry}
use Rattle.arm_env.specs.Find.{names_key}
use Rattle.plan_names.specs.Named.{name_first, NamedOr, is_spelled}
use Rattle.plan_names.proofs.SpelledLemmas.{key_spelled}
use Rattle.arm_ids.specs.Members.{deployment_type}

-- ---- the first name that passes a test

abbrev pub or_name : Option (List ℕ) → Option (List ℕ) → Option (List ℕ)
or_name (Some n) o = Some n
or_name None o = o

append_by : (b : Bool) (n : Named) (o p : Option Named) (s : Option (List ℕ))
    → option_map (λ (x : Named). x.name) p ≡ or_name (option_map (λ (x : Named). x.name) o) s
    → option_map (λ (x : Named). x.name) (if b then Some n else p)
    ≡ or_name (option_map (λ (x : Named). x.name) (if b then Some n else o)) s
append_by true n o p s h = refl
append_by false n o p s h = h

pub name_joined : (test : List ℕ → Bool) (ns ms : List Named)
    → first_name test (ns ++ ms) ≡ or_name (first_name test ns) (first_name test ms)
name_joined test [] ms = refl
name_joined test (n ∷ ns) ms =
    append_by (test n.name) n (first_with (λ n. test n.name) ns) (first_with (λ n. test n.name) (ns ++ ms))
    (first_name test ms) (name_joined test ns ms)

-- ---- the loops over names

pub name_here : (test : List ℕ → Bool) (n : Named) (ns : List Named) → test n.name ≡ true
    → first_name test (n ∷ ns) ≡ Some n.name
name_here test n ns e =
    ap (λ b. option_map (λ (x : Named). x.name) (if b then Some n else first_with (λ n. test n.name) ns)) e

pub name_later : (test : List ℕ → Bool) (n : Named) (ns : List Named) → test n.name ≡ false
    → first_name test (n ∷ ns) ≡ first_name test ns
name_later test n ns e =
    ap (λ b. option_map (λ (x : Named). x.name) (if b then Some n else first_with (λ n. test n.name) ns)) e

module _ (test : List ℕ → Bool) (vs : List Value) (i : ℕ) where
  abbrev names : List Named
  names = map named_of (map json vs)

  module _ (v : Value) (e : Entry) (b : Bool) (all : Option (List ℕ)) (less : i < length vs) (at : v ≡ get_or vs i v)
      (is : entry_of e ≡ named_of (json v)) (named : b ≡ test (chars e.name.now)) where
    next_is : drop i names ≡ named_of (json v) ∷ drop (i + 1) names
    next_is = next_of named_of json vs i v less at

    test_is : test (named_of (json v)).name ≡ b
    test_is = ap (λ (m : Named). test m.name) (sym is) ∙ sym named

    pub name_at : b ≡ true → first_name test (drop i names) ≡ all → Some (chars e.name.now) ≡ all
    name_at t before =
        ap (λ (m : Named). Some m.name) is
        ∙ sym (name_here test (named_of (json v)) (drop (i + 1) names) (test_is ∙ t))
        ∙ ap (first_name test) (sym next_is) ∙ before

    pub name_passed : b ≡ false → first_name test (drop i names) ≡ all → first_name test (drop (i + 1) names) ≡ all
    name_passed t before =
        sym (name_later test (named_of (json v)) (drop (i + 1) names) (test_is ∙ t))
        ∙ ap (first_name test) (sym next_is) ∙ before

  pub names_end : (all : Option (List ℕ)) → length vs ≤ i → first_name test (drop i names) ≡ all → None ≡ all
  names_end all h before = ap (first_name test) (sym (no_more named_of json vs i h)) ∙ before

  abbrev listed : List (List Named)
  listed = map instances_of (map json vs)

  module _ (v : Value) (less : i < length vs) (at : v ≡ get_or vs i v) where
    joined_is : first_name test (concat (drop i listed))
        ≡ or_name (first_name test (instances_of (json v))) (first_name test (concat (drop (i + 1) listed)))
    joined_is =
        ap (λ nss. first_name test (concat nss)) (next_of instances_of json vs i v less at)
        ∙ name_joined test (instances_of (json v)) (concat (drop (i + 1) listed))

  pub listed_at : (v : Value) (n : List ℕ) (all : Option (List ℕ)) → i < length vs → v ≡ get_or vs i v
      → first_name test (instances_of (json v)) ≡ Some n → first_name test (concat (drop i listed)) ≡ all
      → Some n ≡ all
  listed_at v n all h e f before =
      ap (λ o. or_name o (first_name test (concat (drop (i + 1) listed)))) (sym f) ∙ sym (joined_is v h e) ∙ before

  pub listed_passed : (v : Value) (all : Option (List ℕ)) → i < length vs → v ≡ get_or vs i v
      → first_name test (instances_of (json v)) ≡ None → first_name test (concat (drop i listed)) ≡ all
      → first_name test (concat (drop (i + 1) listed)) ≡ all
  listed_passed v all h e f before =
      ap (λ o. or_name o (first_name test (concat (drop (i + 1) listed)))) (sym f) ∙ sym (joined_is v h e) ∙ before

  pub listed_end : (all : Option (List ℕ)) → length vs ≤ i → first_name test (concat (drop i listed)) ≡ all
      → None ≡ all
  listed_end all h before =
      ap (λ nss. first_name test (concat nss)) (sym (no_more instances_of json vs i h)) ∙ before

-- ---- outwards

module _ (t : Table) (test : List ℕ → Bool) (place : Place) where
  abbrev pub seeking : List Position → Reads (Option Fact)
  seeking ps = continued (seek_name test ps) (λ o. pure (option_map (λ n. a_key (deployment_key place n)) o))

  told_pure : {A : Type 0} (x : A) → told_in t (pure x) ≡ value x
  unfolding told
  told_pure x = refl

  goes : {A B : Type 0} (r : Reads A) (k : A → Reads B)
      → told_in t (continued r k) ≡ and_then (told_in t r) (λ x. told_in t (k x))
  goes {A} {B} r k = told-continued Cell Json A B (table (status_of (rows_in t))) r k

  pub none_around : (f : ℕ) (ready : IsReady t) (there : f < length (scopes_of t)) → (scope_at t f).is_own ≡ true
      → told_in t (seeking (all_but_first (visible (whole_of t).template (scope_at t f).position))) ≡ value None
  none_around f ready there e =
      ap (λ ps. told_in t (seeking ps)) (around_own t f ready there e)
      ∙ goes (seek_name test []) (λ o. pure (option_map (λ n. a_key (deployment_key place n)) o))
      ∙ ap (λ u. and_then u (λ o. told_in t (pure (option_map (λ n. a_key (deployment_key place n)) o))))
      (told_pure None) ∙ told_pure None

  -- the scope around, and those around that
  pub one_outwards : (f : ℕ) (ready : IsReady t) (there : f < length (scopes_of t)) → (scope_at t f).is_own ≡ false
      → (next : (scope_at t f).around < length (scopes_of t))
      → seeking (all_but_first (visible (whole_of t).template (scope_at t f).position))
      ≡ continued (name_first t (scope_at t f).around test
      (seek_name test (all_but_first (visible (whole_of t).template (scope_at t (scope_at t f).around).position))))
      (λ o. pure (option_map (λ n. a_key (deployment_key place n)) o))
  one_outwards f ready there e next =
      ap seeking ((around_outer t f ready there e).scopes
      ∙ visible_here t (scope_at t f).around ready next (scope_at t (scope_at t f).around).position)

  abbrev pub rest_of : Reads (Option (List ℕ)) → Reads (Option Fact)
  rest_of r = continued r (λ o. pure (option_map (λ n. a_key (deployment_key place n)) o))

  pub name_goes : (r s : Reads (Option (List ℕ))) → told_in t r ≡ told_in t s
      → told_in t (rest_of r) ≡ told_in t (rest_of s)
  name_goes r s e =
      goes r (λ o. pure (option_map (λ n. a_key (deployment_key place n)) o))
      ∙ ap (λ u. and_then u (λ o. told_in t (pure (option_map (λ n. a_key (deployment_key place n)) o)))) e
      ∙ sym (goes s (λ o. pure (option_map (λ n. a_key (deployment_key place n)) o)))

  pub name_found : (r : Reads (Option (List ℕ))) (n : List ℕ) → told_in t r ≡ value (Some n)
      → told_in t (rest_of r) ≡ value (Some (a_key (deployment_key place n)))
  name_found r n e =
      goes r (λ o. pure (option_map (λ n. a_key (deployment_key place n)) o))
      ∙ ap (λ u. and_then u (λ o. told_in t (pure (option_map (λ n. a_key (deployment_key place n)) o)))) e
      ∙ told_pure (Some (a_key (deployment_key place n)))

  pub name_stops : (r : Reads (Option (List ℕ))) (l : Lack) → Stops t l (told_in t r)
      → Lacks t l (told_in t (rest_of r))
  name_stops r l h =
      lacks_stopped t l (told_in t (rest_of r))
      (subst (Stops t l) (sym (goes r (λ o. pure (option_map (λ n. a_key (deployment_key place n)) o))))
      (stop_goes t l (told_in t r)
      (λ o. told_in t (pure (option_map (λ n. a_key (deployment_key place n)) o))) h))

  -- ---- one scope

  abbrev pub here_of : ℕ → Reads (Option (List ℕ)) → Reads (Option (List ℕ))
  here_of f rest = name_first t f test rest

  named_by : (o : Option (List ℕ)) (x : Option ResourceId) (rest : Reads (Option (List ℕ)))
      → x ≡ option_map (deployment_key place) o
      → NamedOr t place (Ok x) rest (told_in t (named_or o rest))
  named_by (Some n) (Some k) rest e = let same : k ≡ deployment_key place n = cc in (n, (told_pure (Some n), same))
  named_by (Some n) None rest e = absurd (cc)
  named_by None (Some k) rest e = absurd (cc)
  named_by None None rest e = refl

  pub here_named : (f : ℕ) (j : Json) (x : Option ResourceId)
      → told_in t (read (deployments (scope_at t f).position)) ≡ value j
      → x ≡ option_map (deployment_key place) (first_name test (concat (listing_of j)))
      → (rest : Reads (Option (List ℕ))) → NamedOr t place (Ok x) rest (told_in t (here_of f rest))
  here_named f j x e h rest =
      subst (NamedOr t place (Ok x) rest)
      (sym (read_goes t (read (deployments (scope_at t f).position))
      (λ k. named_or (first_name test (concat (listing_of k))) rest) j e))
      (named_by (first_name test (concat (listing_of j))) x rest h)

  pub here_lacks : (f : ℕ) (e : Lack) → Stops t e (told_in t (read (deployments (scope_at t f).position)))
      → (rest : Reads (Option (List ℕ))) → NamedOr t place (Err e) rest (told_in t (here_of f rest))
  here_lacks f e h rest =
      read_stops t e (read (deployments (scope_at t f).position))
      (λ k. named_or (first_name test (concat (listing_of k))) rest) h

  found_key : (o : Option ResourceId) (k : ResourceId) (rest : Reads (Option (List ℕ)))
      (u : Told Cell (Option (List ℕ))) → o ≡ Some k → NamedOr t place (Ok o) rest u
      → (n : List ℕ) × ((u ≡ value (Some n)) × (k ≡ deployment_key place n))
  found_key (Some l) k rest u e h = let same : l ≡ k = cc in (h.0, (h.1.0, sym same ∙ h.1.1))
  found_key None k rest u e h = absurd (cc)

  passed_key : (o : Option ResourceId) (rest : Reads (Option (List ℕ))) (u : Told Cell (Option (List ℕ)))
      → o ≡ None → NamedOr t place (Ok o) rest u → u ≡ told_in t rest
  passed_key (Some l) rest u e h = absurd (cc)
  passed_key None rest u e h = h

-- ---- the loop over the scopes

module _ (t : Table) (at : ℕ) (ready : IsReady t) (h : at < length t.frames.items) (fr : Frame)
    (e : fr ≡ get_or t.frames.items at fr) where
  own_is : (scope_at t at).is_own ≡ fr.own
  own_is = ap (λ (s : Opened). s.is_own) (scope_is t at fr h e)

  module _ (w : fr.own ≡ false) (gr : Frame) (d : gr ≡ get_or t.frames.items at gr) where
    around_is : (scope_at t at).around ≡ gr.around
    around_is = ap (λ (s : Opened). s.around) (scope_is t at gr h d)

    pub out_there : gr.around < length t.frames.items
    out_there =
        frames_there t gr.around
        (subst (λ g. g < length (scopes_of t)) around_is
        (around_outer t at ready (scopes_there t at h) (own_is ∙ w)).within)

    pub out_less : gr.around < at
    out_less = subst (λ g. g < at) around_is (around_outer t at ready (scopes_there t at h) (own_is ∙ w)).less

    -- what is sought around a scope, by the scope around it
    out_is : (test : List ℕ → Bool) (place : Place)
        → told_in t (seeking t test place (all_but_first (visible (whole_of t).template (scope_at t at).position)))
        ≡ told_in t (rest_of t test place (here_of t test place gr.around
        (seek_name test (all_but_first (visible (whole_of t).template (scope_at t gr.around).position)))))
    out_is test place =
        ap (told_in t) (one_outwards t test place at ready (scopes_there t at h) (own_is ∙ w)
        (around_outer t at ready (scopes_there t at h) (own_is ∙ w)).within)
        ∙ ap (λ g. told_in t (rest_of t test place (here_of t test place g
        (seek_name test (all_but_first (visible (whole_of t).template (scope_at t g).position)))))) around_is

  own_here : fr.own ≡ true → (scope_at t at).is_own ≡ true
  own_here w = own_is ∙ w

pub none_there : (t : Table) (test : List ℕ → Bool) (place : Place) (at : ℕ) (all : Told Cell (Option Fact)) → IsReady t
    → at < length t.frames.items
    → told_in t (seeking t test place (all_but_first (visible (whole_of t).template (scope_at t at).position))) ≡ all
    → (fr : Frame) → fr ≡ get_or t.frames.items at fr → fr.own ≡ true → all ≡ value None
none_there t test place at all ready h before fr e w =
    sym before ∙ none_around t test place at ready (scopes_there t at h) (own_here t at ready h fr e w)

-- the two tests of names
pub tests_agree : (x : List ℕ) (place : Place)
    → (λ n. names_key x (deployment_key place n)) ≡ is_spelled x deployment_type
tests_agree x place = λ i n. key_spelled place x n i

module _ (t : Table) (x : List ℕ) (place : Place) (at : ℕ) (all : Told Cell (Option Fact)) (ready : IsReady t)
    (h : at < length t.frames.items)
    (before : told_in t (seeking t (λ n. names_key x (deployment_key place n)) place
    (all_but_first (visible (whole_of t).template (scope_at t at).position))) ≡ all)
    (fr : Frame) (e : fr ≡ get_or t.frames.items at fr) (w : fr.own ≡ false) (gr : Frame)
    (d : gr ≡ get_or t.frames.items at gr) where
  abbrev test : List ℕ → Bool
  test = is_spelled x deployment_type

  abbrev rest : Reads (Option (List ℕ))
  rest = seek_name test (all_but_first (visible (whole_of t).template (scope_at t gr.around).position))

  sought_is : told_in t (rest_of t test place (here_of t test place gr.around rest)) ≡ all
  sought_is =
      sym (out_is t at ready h fr e w gr d test place)
      ∙ ap (λ f. told_in t (seeking t f place
      (all_but_first (visible (whole_of t).template (scope_at t at).position)))) (sym (tests_agree x place))
      ∙ before

  abbrev NamedHere : Result (Option ResourceId) Lack → Type 0
  NamedHere r = (rest : Reads (Option (List ℕ)))
      → NamedOr t place r rest (told_in t (name_first t gr.around test rest))

  pub key_shown : (o : Option ResourceId) (k : ResourceId) → o ≡ Some k → NamedHere (Ok o)
      → all ≡ value (Some (a_key k))
  key_shown o k is n =
      let f = found_key t test place o k rest (told_in t (name_first t gr.around test rest)) is (n rest) in
      sym sought_is ∙ name_found t test place (here_of t test place gr.around rest) f.0 f.1.0
      ∙ ap (λ l. value (Some (a_key l))) (sym f.1.1)

  pub key_lacks : (l : Lack) → NamedHere (Err l) → Lacks t l all
  key_lacks l n =
      subst (Lacks t l) sought_is (name_stops t test place (here_of t test place gr.around rest) l (n rest))

  pub key_passed : (o : Option ResourceId) → o ≡ None → NamedHere (Ok o)
      → told_in t (seeking t (λ n. names_key x (deployment_key place n)) place
      (all_but_first (visible (whole_of t).template (scope_at t gr.around).position))) ≡ all
  key_passed o is n =
      ap (λ f. told_in t (seeking t f place
      (all_but_first (visible (whole_of t).template (scope_at t gr.around).position)))) (tests_agree x place)
      ∙ sym (name_goes t test place (here_of t test place gr.around rest) rest
      (passed_key t test place o rest (told_in t (name_first t gr.around test rest)) is (n rest)))
      ∙ sought_is
