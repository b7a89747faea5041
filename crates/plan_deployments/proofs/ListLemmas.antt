-- The arrays of the nested deployments of a scope.
use Rattle.std.proofs.Common.{◌≡◌, ℕ, zero, suc, ◌+◌, ◌<◌, ◌≤◌, Bool, true, false, List, [], ◌∷◌, ◌++◌, map, drop}
use Rattle.std.proofs.Common.{length}
use Rattle.std.proofs.Common.{get_or, Some, refl, sym, ap, subst, ◌∙◌, arith}
use Rattle.std.proofs.Common.{append_assoc, append-nil}
use Rattle.std.specs.Prelude.{is_some, slice_get, if◌then◌else◌}
use Rattle.std.proofs.lemmas.List.{drop_more, drop_all}
use Rattle.arm_value.specs.Json.{Json, array, row}
use Rattle.reading.specs.Reading.{pure, continued}
use Rattle.reading.specs.Knowledge.{Told, value, no_value, waits, and_then}
use Rattle.deploy_cells.specs.Cells.{Position, Cell}
use Rattle.deploy_cells.specs.Guarded.{Reads}
use Rattle.deploy_cells.specs.Listing.{Named, named_json, instances_json, listing_json, resource_named, all_named}
use Rattle.deploy_cells.specs.Listing.{listing_value}
use Rattle.plan_cells.specs.Resources.{Listed, is_nested, nested_in, nested_from, nested_numbers}
use Rattle.plan_table.specs.declared.frame.Frame.{Frame}
use Rattle.plan_table.specs.declared.listed.Listed as code
use Rattle.plan_table.specs.declared.table.Table.{Table}
use Rattle.plan_table.specs.Listed.{listed_of}
use Rattle.plan_table.specs.Lines.{IsNumber}
use Rattle.plan_table.specs.Opened.{Opened}
use Rattle.plan_table.specs.Found.{scope_at}
use Rattle.plan_table.proofs.FrameLemmas.{resource_read}
use Rattle.plan_sight.specs.declared.lack.Lack.{Lack}
use Rattle.plan_sight.specs.declared.lack.Lack.TheVariants as lack
use Rattle.plan_sight.specs.Ready.{IsReady, told_in}
use Rattle.plan_sight.specs.Seen.{Stops}
use Rattle.plan_sight.proofs.LookLemmas.{scope_is, scopes_there}
use Rattle.plan_names.proofs.InvertLemmas.{and_value}
use Rattle.plan_names.proofs.SeekLemmas.{stop_goes, read_stops}
use Rattle.plan_names.proofs.GatherLemmas.{listed_length, number_of}
use Rattle.plan_deployments.specs.Items.{items_told, arrays_told}
use Rattle.plan_sight.proofs.ToldLemmas.{told_pure, goes}

-- what stops a reading of which the value is seen so stops the reading
stops_back : {A B : Type 0} (t : Table) (f : A → B) (e : Lack) (u : Told Cell A)
    → Stops t e (and_then u (λ x. value (f x))) → Stops t e u
stops_back t f lack.NotThere u h = absurd h
stops_back t f lack.NoValue (value x) h = absurd (cc)
stops_back t f lack.NoValue no_value h = refl
stops_back t f lack.NoValue (waits c) h = absurd (cc)
stops_back t f (lack.Line j) (value x) h = absurd (let e = h.1 in cc)
stops_back t f (lack.Line j) no_value h = absurd (let e = h.1 in cc)
stops_back t f (lack.Line j) (waits c) h = (h.0, (let e = h.1 in cc))
stops_back t f (lack.State k) (value x) h = absurd (cc)
stops_back t f (lack.State k) no_value h = absurd (cc)
stops_back t f (lack.State k) (waits c) h = cc
stops_back t f lack.OutOfMemory u h = tt

-- ---- a resource of a scope that was read

put_if : (b : Bool) (c : Bool) → (if b then false else c) ≡ true → b ≡ false
put_if true c e = absurd (cc)
put_if false c e = refl

pub not_existing : (x : Listed) → is_nested x ≡ true → x.declaration.existing ≡ false
not_existing x e = put_if x.declaration.existing (is_some (nested_in x.content)) e

at_get : {A : Type 0} (xs : List A) (i : ℕ) (x : A) → slice_get xs i ≡ Some x
    → (i < length xs) × (x ≡ get_or xs i x)
at_get [] zero x e = absurd (cc)
at_get [] (suc i) x e = absurd (cc)
at_get (y ∷ xs) zero x e = (omega arith, let same : y ≡ x = cc in sym same)
at_get (y ∷ xs) (suc i) x e = let r = at_get xs i x e in (let less = r.0 in omega (arith, less), r.1)

drop_at : {A : Type 0} (xs : List A) (i : ℕ) (x : A) → slice_get xs i ≡ Some x → drop i xs ≡ x ∷ drop (i + 1) xs
drop_at xs i x e =
    let r = at_get xs i x e in drop_more xs i x r.0 ∙ ap (λ y. y ∷ drop (i + 1) xs) (sym r.1)

module _ (t : Table) (f i : ℕ) (fr : Frame) (y : code.Listed) (h : f < length t.frames.items)
    (e : fr ≡ get_or t.frames.items f fr) (l : i < length (scope_at t f).resources)
    (q : y ≡ get_or fr.resources.items i y) where
  pub read_here : slice_get (scope_at t f).resources i ≡ Some (listed_of y)
  read_here =
      ap (λ (o : Opened). slice_get o.resources i) (scope_is t f fr h e)
      ∙ resource_read fr.resources.items i y (listed_length t f fr h e i l) q

  pub number_here : (b : Bool) → b ≡ is_nested (listed_of y) → b ≡ true → IsNumber (scope_at t f) i
  number_here b r s =
      number_of t f i fr y h e l q (not_existing (listed_of y) (sym r ∙ s))

-- ---- the loop over the resources

-- these arrays, and then those of the nested deployments that are read
abbrev pub arrays_after : List Json → Told Cell (List (List Named)) → Told Cell (List Json)
arrays_after got u = and_then u (λ nss. value (got ++ map instances_json nss))

-- those of the resources from number i on
abbrev pub rest : Position → ℕ → List Listed → Reads (List (List Named))
rest p i xs = all_named p (nested_from i xs)

module _ (t : Table) (p : Position) where
  after : (got : List Json) (ns : List Named) (u : Told Cell (List (List Named)))
      → arrays_after got (and_then u (λ nss. told_in t (pure (ns ∷ nss))))
      ≡ arrays_after (got ++ instances_json ns ∷ []) u
  after got ns (value nss) =
      ap (arrays_after got) (told_pure t (ns ∷ nss))
      ∙ ap value (sym (append_assoc got (instances_json ns ∷ []) (map instances_json nss)))
  after got ns no_value = refl
  after got ns (waits c) = refl

  first_told : (r : ℕ) (rs : List ℕ) → told_in t (all_named p (r ∷ rs))
      ≡ and_then (told_in t (resource_named p r))
      (λ ns. told_in t (continued (all_named p rs) (λ nss. pure (ns ∷ nss))))
  first_told r rs = goes t (resource_named p r) (λ ns. continued (all_named p rs) (λ nss. pure (ns ∷ nss)))

  array_next : (got : List Json) (r : ℕ) (rs : List ℕ) (is : List Json)
      → items_told (told_in t (resource_named p r)) ≡ value is
      → arrays_after got (told_in t (all_named p (r ∷ rs)))
      ≡ arrays_after (got ++ array (row is) ∷ []) (told_in t (all_named p rs))
  array_next got r rs is e =
      let v = and_value (told_in t (resource_named p r)) (λ ns. value (map named_json ns)) is e in
      let same : map named_json v.0 ≡ is = (let w = v.1.1 in cc) in
      ap (arrays_after got) (first_told r rs
      ∙ ap (λ u. and_then u (λ ns. told_in t (continued (all_named p rs) (λ nss. pure (ns ∷ nss))))) v.1.0
      ∙ goes t (all_named p rs) (λ nss. pure (v.0 ∷ nss)))
      ∙ after got v.0 (told_in t (all_named p rs))
      ∙ ap (λ js. arrays_after (got ++ array (row js) ∷ []) (told_in t (all_named p rs))) same

  nested_first : (i : ℕ) (x : Listed) (xs : List Listed) (b : Bool) → is_nested x ≡ b
      → nested_from i (x ∷ xs) ≡ (if b then i ∷ nested_from (suc i) xs else nested_from (suc i) xs)
  nested_first i x xs b e = ap (λ c. if c then i ∷ nested_from (suc i) xs else nested_from (suc i) xs) e

  module _ (got : List Json) (xs : List Listed) (i : ℕ) (x : Listed) (all : Told Cell (List Json))
      (has : slice_get xs i ≡ Some x) (before : arrays_after got (told_in t (rest p i (drop i xs))) ≡ all) where
    by_kind : (b : Bool) → is_nested x ≡ b
        → nested_from i (drop i xs)
        ≡ (if b then i ∷ nested_from (suc i) (drop (i + 1) xs) else nested_from (suc i) (drop (i + 1) xs))
    by_kind b e = ap (nested_from i) (drop_at xs i x has) ∙ nested_first i x (drop (i + 1) xs) b e

    next_is : i + 1 ≡ suc i
    next_is = omega arith

    pub arrays_more : (more is : List Json) → is_nested x ≡ true
        → items_told (told_in t (resource_named p i)) ≡ value is → more ≡ got ++ array (row is) ∷ []
        → arrays_after more (told_in t (rest p (i + 1) (drop (i + 1) xs))) ≡ all
    arrays_more more is n e q =
        ap (λ k. arrays_after more (told_in t (rest p k (drop (i + 1) xs)))) next_is
        ∙ ap (λ js. arrays_after js (told_in t (rest p (suc i) (drop (i + 1) xs)))) q
        ∙ sym (array_next got i (nested_from (suc i) (drop (i + 1) xs)) is e)
        ∙ ap (λ rs. arrays_after got (told_in t (all_named p rs))) (sym (by_kind true n)) ∙ before

    pub arrays_same : is_nested x ≡ false → arrays_after got (told_in t (rest p (i + 1) (drop (i + 1) xs))) ≡ all
    arrays_same n =
        ap (λ k. arrays_after got (told_in t (rest p k (drop (i + 1) xs)))) next_is
        ∙ ap (λ rs. arrays_after got (told_in t (all_named p rs))) (sym (by_kind false n)) ∙ before

    pub arrays_stop : (e : Lack) → is_nested x ≡ true → Stops t e (items_told (told_in t (resource_named p i)))
        → Stops t e all
    arrays_stop e n s =
        subst (Stops t e) (ap (λ rs. arrays_after got (told_in t (all_named p rs))) (sym (by_kind true n)) ∙ before)
        (stop_goes t e (told_in t (all_named p (i ∷ nested_from (suc i) (drop (i + 1) xs))))
        (λ nss. value (got ++ map instances_json nss))
        (subst (Stops t e) (sym (first_told i (nested_from (suc i) (drop (i + 1) xs))))
        (stop_goes t e (told_in t (resource_named p i))
        (λ ns. told_in t (continued (all_named p (nested_from (suc i) (drop (i + 1) xs))) (λ nss. pure (ns ∷ nss))))
        (stops_back t (λ ns. map named_json ns) e (told_in t (resource_named p i)) s))))

  pub arrays_end : (got : List Json) (xs : List Listed) (i : ℕ) (all : Told Cell (List Json)) → length xs ≤ i
      → arrays_after got (told_in t (rest p i (drop i xs))) ≡ all → all ≡ value got
  arrays_end got xs i all h before =
      sym before ∙ ap (λ ys. arrays_after got (told_in t (rest p i ys))) (drop_all i xs h)
      ∙ ap (arrays_after got) (told_pure t []) ∙ ap value (append-nil got)

-- ---- the value

made : (t : Table) (p : Position) (rs : List ℕ) (js : List Json)
    → arrays_told (told_in t (all_named p rs)) ≡ value js → told_in t (listing_value p rs) ≡ value (array (row js))
unfolding listing_value
made t p rs js e =
    let v = and_value (told_in t (all_named p rs)) (λ nss. value (map instances_json nss)) js e in
    let same : map instances_json v.0 ≡ js = (let w = v.1.1 in cc) in
    goes t (all_named p rs) (λ nss. pure (listing_json nss))
    ∙ ap (λ u. and_then u (λ nss. told_in t (pure (listing_json nss)))) v.1.0
    ∙ told_pure t (listing_json v.0) ∙ ap (λ ks. value (array (row ks))) same

lacks : (t : Table) (p : Position) (rs : List ℕ) (e : Lack)
    → Stops t e (arrays_told (told_in t (all_named p rs))) → Stops t e (told_in t (listing_value p rs))
unfolding listing_value
lacks t p rs e h = read_stops t e (all_named p rs) (λ nss. pure (listing_json nss))
    (stops_back t (λ nss. map instances_json nss) e (told_in t (all_named p rs)) h)

-- the numbers of the nested deployments of a scope
pub numbers_here : (t : Table) (f : ℕ) → IsReady t → f < length t.frames.items
    → nested_from 0 (scope_at t f).resources ≡ nested_numbers (scope_at t f).template
numbers_here t f ready h = ap (nested_from 0) (ready.laid.kept f (scopes_there t f h)).resources

-- of the same numbers
pub listing_made : (t : Table) (p : Position) (rs ns : List ℕ) → rs ≡ ns → (js : List Json)
    → arrays_told (told_in t (all_named p rs)) ≡ value js → told_in t (listing_value p ns) ≡ value (array (row js))
listing_made t p rs ns q js e =
    ap (λ ms. told_in t (listing_value p ms)) (sym q) ∙ made t p rs js e

pub listing_stops : (t : Table) (p : Position) (rs ns : List ℕ) → rs ≡ ns → (e : Lack)
    → Stops t e (arrays_told (told_in t (all_named p rs))) → Stops t e (told_in t (listing_value p ns))
listing_stops t p rs ns q e h = subst (λ ms. Stops t e (told_in t (listing_value p ms))) q (lacks t p rs e h)
