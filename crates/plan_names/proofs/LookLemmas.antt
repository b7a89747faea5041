-- Which key a text names, by the keys that were gathered.
use Rattle.std.proofs.Common.{◌≡◌, ℕ, ◌+◌, ◌<◌, ◌≤◌, Bool, true, false, List, [], ◌∷◌, ◌++◌, drop, length, get_or}
use Rattle.std.proofs.Common.{Option, Some, None, refl, sym, ap, subst, ◌∙◌, arith}
use Rattle.std.specs.Prelude.{◌&&◌, option_map, if◌then◌else◌}
use Rattle.std.proofs.lemmas.List.{drop_more, drop_all}
use Rattle.arm_value.specs.Json.{Json}
use Rattle.arm_ids.specs.declared.id.Place.{Place}
use Rattle.arm_ids.specs.declared.id.ResourceId.{ResourceId}
use Rattle.arm_env.specs.declared.env.Spelled.{Spelled}
use Rattle.arm_env.specs.Find.{names_key, names_only, first_named, is_same_key}
use Rattle.arm_env.specs.Look.{Fact, a_key}
use Rattle.reading.specs.Reading.{pure, continued}
use Rattle.reading.specs.Knowledge.{value, told, and_then}
use Rattle.reading.proofs.Parts.{told-continued}
use Rattle.deploy_cells.specs.Cells.{Position, Cell}
use Rattle.deploy_cells.specs.Guarded.{Reads}
use Rattle.plan_sight.specs.Scopes.{visible, template_at}
use Rattle.plan_sight.specs.Sites.{named_at, all_spelled, key_by, seek_name, all_but_first, deployment_key, listed_at_scope}
use Rattle.plan_table.specs.Rows.{status_of, table}
use Rattle.plan_table.specs.declared.table.Table.{Table}
use Rattle.plan_table.specs.Whole.{whole_of, rows_in}
use Rattle.plan_table.specs.Found.{scope_at}
use Rattle.plan_sight.specs.declared.lack.Lack.{Lack}
use Rattle.plan_sight.specs.Ready.{IsReady, told_in}
use Rattle.plan_sight.specs.Seen.{Lacks, Stops}
use Rattle.plan_sight.proofs.LookLemmas.{scopes_there}
use Rattle.plan_nested.proofs.InvertLemmas.{and_value, value_is}
use Rattle.plan_nested.proofs.SeekLemmas.{stop_goes}
use Rattle.plan_nested.proofs.OutputLemmas.{lacks_stopped}
use Rattle.plan_names.specs.Named.{keys_named, gathered, are_one, the_one}
use Rattle.plan_names.proofs.GatherLemmas.{first_is, first_none, only_is, stops_back}

-- ---- whether all keys are one

module _ (k : ResourceId) (ks : List ResourceId) (i : ℕ) where
  module _ (l : ResourceId) (h : i < length ks) (e : l ≡ get_or ks i l) (b : Bool) (same : b ≡ is_same_key k l) where
    next : drop i ks ≡ l ∷ drop (i + 1) ks
    next = drop_more ks i l h ∙ ap (λ x. x ∷ drop (i + 1) ks) (sym e)

    by_first : are_one k (drop i ks) ≡ (b && are_one k (drop (i + 1) ks))
    by_first = ap (are_one k) next ∙ ap (λ c. c && are_one k (drop (i + 1) ks)) (sym same)

    pub one_differs : b ≡ false → are_one k (drop i ks) ≡ are_one k ks → false ≡ are_one k ks
    one_differs n before = sym (by_first ∙ ap (λ c. c && are_one k (drop (i + 1) ks)) n) ∙ before

    pub same_next : b ≡ true → are_one k (drop i ks) ≡ are_one k ks → are_one k (drop (i + 1) ks) ≡ are_one k ks
    same_next n before = sym (by_first ∙ ap (λ c. c && are_one k (drop (i + 1) ks)) n) ∙ before

  pub ones_end : length ks ≤ i → are_one k (drop i ks) ≡ are_one k ks → true ≡ are_one k ks
  ones_end h before = ap (are_one k) (sym (drop_all i ks h)) ∙ before

-- ---- which key a text names

module _ (t : Table) (f : ℕ) (x : List ℕ) (place : Place) (ready : IsReady t) (there : f < length t.frames.items) where
  abbrev whole : Position → List Position
  whole p = all_but_first (visible (whole_of t).template p)

  abbrev p : Position
  p = (scope_at t f).position

  abbrev all_read : Reads (List Spelled)
  all_read = all_spelled place p 0 (scope_at t f).resources

  abbrev by_names : List Spelled → Reads (Option Fact)
  by_names ss = key_by place x (whole p) ss (first_named x ss)

  resources_are : listed_at_scope (template_at (whole_of t).template p) ≡ (scope_at t f).resources
  resources_are =
      let kept = ready.laid.kept f (scopes_there t f there) in
      ap listed_at_scope kept.template ∙ sym kept.resources

  named_told : told_in t (named_at (whole_of t).template place p x)
      ≡ and_then (told_in t all_read) (λ ss. told_in t (by_names ss))
  named_told =
      ap (λ rs. told_in t (continued (all_spelled place p 0 rs) by_names)) resources_are
      ∙ told-continued Cell Json (List Spelled) (Option Fact) (table (status_of (rows_in t))) all_read by_names

  read_as : (ks : List ResourceId) → gathered x [] (told_in t all_read) ≡ value ks
      → (ss : List Spelled) × ((told_in t all_read ≡ value ss) × (keys_named x ss ≡ ks))
  read_as ks e =
      let v = and_value (told_in t all_read) (λ ss. value ([] ++ keys_named x ss)) ks e in
      (v.0, (v.1.0, value_is (keys_named x v.0) ks v.1.1))

  goes_on : (ss : List Spelled) → told_in t all_read ≡ value ss
      → told_in t (named_at (whole_of t).template place p x) ≡ told_in t (by_names ss)
  goes_on ss e = named_told ∙ ap (λ u. and_then u (λ ss. told_in t (by_names ss))) e

  empty_is : (ks : List ResourceId) → length ks ≡ 0 → ks ≡ []
  empty_is [] e = refl
  empty_is (k ∷ ks) e = absurd (omega (arith, e))

  pub by_none : (ks : List ResourceId) → gathered x [] (told_in t all_read) ≡ value ks → length ks ≡ 0
      → told_in t (named_at (whole_of t).template place p x)
      ≡ told_in t (continued (seek_name (λ n. names_key x (deployment_key place n)) (whole p))
      (λ o. pure (option_map (λ n. a_key (deployment_key place n)) o)))
  by_none ks e h =
      let r = read_as ks e in
      goes_on r.0 r.1.0
      ∙ ap (λ o. told_in t (key_by place x (whole p) r.0 o)) (first_none x r.0 (r.1.1 ∙ empty_is ks h))

  told_pure : (o : Option Fact) → told_in t (pure o) ≡ value o
  unfolding told
  told_pure o = refl

  key_shown : (b : Bool) (k : ResourceId)
      → (if b then Some (a_key k) else None) ≡ option_map (λ k. a_key k) (if b then Some k else None)
  key_shown true k = refl
  key_shown false k = refl

  by_first_key : (ss : List Spelled) (ks : List ResourceId) → keys_named x ss ≡ ks → (length ks ≡ 0 → ⊥)
      → told_in t (by_names ss) ≡ value (option_map (λ k. a_key k) (the_one ks))
  by_first_key ss [] e h = absurd (h refl)
  by_first_key ss (k ∷ ks) e h =
      ap (λ o. told_in t (key_by place x (whole p) ss o)) (first_is x ss k ks e)
      ∙ told_pure (if names_only x k ss then Some (a_key k) else None)
      ∙ ap (λ b. value (if b then Some (a_key k) else None)) (only_is x k ss ∙ ap (are_one k) e)
      ∙ ap value (key_shown (are_one k (k ∷ ks)) k)

  pub by_some : (items ks : List ResourceId) → ks ≡ items → gathered x [] (told_in t all_read) ≡ value items
      → (length items ≡ 0 → ⊥)
      → told_in t (named_at (whole_of t).template place p x) ≡ value (option_map (λ k. a_key k) (the_one ks))
  by_some items ks same e h =
      let r = read_as items e in
      goes_on r.0 r.1.0 ∙ by_first_key r.0 items r.1.1 h
      ∙ ap (λ ls. value (option_map (λ k. a_key k) (the_one ls))) (sym same)

  pub by_stop : (e : Lack) → Stops t e (gathered x [] (told_in t all_read))
      → Lacks t e (told_in t (named_at (whole_of t).template place p x))
  by_stop e h =
      lacks_stopped t e (told_in t (named_at (whole_of t).template place p x))
      (subst (Stops t e) (sym named_told)
      (stop_goes t e (told_in t all_read) (λ ss. told_in t (by_names ss))
      (stops_back t x place p e [] (told_in t all_read) h)))
