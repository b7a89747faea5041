-- The keys that are gathered of the resources of a scope.
use Rattle.std.proofs.Common.{◌≡◌, ℕ, zero, suc, ◌+◌, ◌-◌, ◌<◌, ◌≤◌, Bool, true, false, not, List, [], ◌∷◌, ◌++◌}
use Rattle.std.proofs.Common.{drop, length}
use Rattle.std.proofs.Common.{get_or, Option, Some, None, Result, Ok, Err, refl, sym, ap, subst, ◌∙◌, arith, append-nil}
use Rattle.std.proofs.Common.{append_assoc}
use Rattle.std.specs.Prelude.{◌&&◌, ◌||◌, if◌then◌else◌, slice_get, MatchOption}
use Rattle.std.proofs.lemmas.List.{drop_more, drop_all, length-map}
use Rattle.std.proofs.lemmas.Option.{slice_get_within}
use Rattle.arm_value.specs.Json.{Json, text}
use Rattle.arm_value.specs.View.{json}
use Rattle.arm_value.specs.declared.value.Value.{Value}
use Rattle.arm_value.specs.declared.value.Value.TheVariants as values
use Rattle.arm_ids.specs.declared.id.Place.{Place}
use Rattle.arm_ids.specs.declared.id.ResourceId.{ResourceId}
use Rattle.arm_env.specs.declared.env.Spelled.{Spelled}
use Rattle.arm_env.specs.Find.{names_resource, first_named, names_only, is_same_key}
use Rattle.reading.specs.Reading.{done, pure, read, continued}
use Rattle.reading.specs.Knowledge.{Told, value, no_value, waits, told, finished, and_then}
use Rattle.deploy_cells.specs.Cells.{step, Position, Cell, name, count, copies}
use Rattle.deploy_cells.specs.Guarded.{Reads}
use Rattle.deploy_cells.specs.Puts.{key_at}
use Rattle.plan_sight.specs.Resources.{Listed}
use Rattle.plan_table.specs.declared.frame.Frame.{Frame}
use Rattle.plan_table.specs.declared.listed.Listed as code
use Rattle.plan_table.specs.Listed.{listed_of}
use Rattle.plan_table.specs.Opened.{Opened}
use Rattle.plan_table.specs.Lines.{cell_of, line_at, IsNumber}
use Rattle.plan_table.specs.Found.{scope_at, IsLineOf, Counts, state_at}
use Rattle.plan_sight.specs.Ready.{IsReady, told_in}
use Rattle.plan_sight.proofs.LookLemmas.{scope_is, scopes_there, found_none}
use Rattle.plan_sight.proofs.RuleLemmas.{kind_here}
use Rattle.plan_table.proofs.FrameLemmas.{resource_read}
use Rattle.plan_sight.specs.Sites.{spelled_by, instances_spelled, resource_spelled, all_spelled}
use Rattle.plan_table.specs.Rows.{status_of, table}
use Rattle.plan_table.specs.declared.table.Table.{Table}
use Rattle.plan_table.specs.Whole.{rows_in, scopes_of}
use Rattle.plan_sight.specs.declared.lack.Lack.{Lack}
use Rattle.plan_sight.specs.declared.lack.Lack.TheVariants as lack
use Rattle.plan_sight.specs.Seen.{Stops}
use Rattle.plan_nested.proofs.InvertLemmas.{and_value, read_known}
use Rattle.plan_nested.proofs.SeekLemmas.{stop_goes, read_goes, read_stops, copy_there}
use Rattle.plan_names.proofs.SpelledLemmas.{spelled_is}
use Rattle.plan_names.specs.Named.{is_spelled, keys_named, gathered, Gathers, one_spelled, GathersOne, Pushes, IsCopy}
use Rattle.plan_names.specs.Named.{are_one, HasCount}
use Rattle.plan_sight.proofs.ToldLemmas.{told_pure, told_done, goes}

joined_by : (b : Bool) (k : ResourceId) (ys zs : List ResourceId)
    → (if b then k ∷ (ys ++ zs) else ys ++ zs) ≡ (if b then k ∷ ys else ys) ++ zs
joined_by true k ys zs = refl
joined_by false k ys zs = refl

keys_joined : (x : List ℕ) (ys zs : List Spelled) → keys_named x (ys ++ zs) ≡ keys_named x ys ++ keys_named x zs
keys_joined x [] zs = refl
keys_joined x (y ∷ ys) zs =
    ap (λ ks. if names_resource x y then y.key ∷ ks else ks) (keys_joined x ys zs)
    ∙ joined_by (names_resource x y) y.key (keys_named x ys) (keys_named x zs)

-- what is gathered, after these
module _ (t : Table) (x : List ℕ) where
  after : (got ks : List ResourceId) (ys : List Spelled) (f : List Spelled → List Spelled) (u : Told Cell (List
      Spelled))
      → ((zs : List Spelled) → keys_named x (f zs) ≡ ks ++ keys_named x zs)
      → gathered x got (and_then u (λ zs. told_in t (pure (f zs)))) ≡ gathered x (got ++ ks) u
  after got ks ys f (value zs) h =
      ap (gathered x got) (told_pure t (f zs)) ∙ ap (λ l. value (got ++ l)) (h zs)
      ∙ ap value (sym (append_assoc got ks (keys_named x zs)))
  after got ks ys f no_value h = refl
  after got ks ys f (waits c) h = refl

  by_one : (s : Spelled) (zs : List Spelled)
      → keys_named x (s ∷ zs) ≡ keys_named x (s ∷ []) ++ keys_named x zs
  by_one s zs = keys_joined x (s ∷ []) zs

  stopped : (e : Lack) (got : List ResourceId) (u : Told Cell (List Spelled)) → Stops t e u
      → Stops t e (gathered x got u)
  stopped e got u h = stop_goes t e u (λ ss. value (got ++ keys_named x ss)) h

  module _ (place : Place) (p : Position) (r : ℕ) (kind : List ℕ) where
    abbrev instances : ℕ → ℕ → Reads (List Spelled)
    instances i n = instances_spelled place p r kind i n

    by_told : (u : Told Cell Json) (g : Spelled → Reads (List Spelled))
        → and_then u (λ j. and_then (finished (spelled_by place kind j)) (λ s. told_in t (g s)))
        ≡ and_then (and_then u (λ j. finished (spelled_by place kind j))) (λ s. told_in t (g s))
    by_told (value j) g = refl
    by_told no_value g = refl
    by_told (waits c) g = refl

    next_of : (u : Told Cell Json) (g : Spelled → Reads (List Spelled))
        → and_then u (λ j. told_in t (continued (done (spelled_by place kind j)) g))
        ≡ and_then u (λ j. and_then (finished (spelled_by place kind j)) (λ s. told_in t (g s)))
    next_of (value j) g =
        goes t (done (spelled_by place kind j)) g
        ∙ ap (λ v. and_then v (λ s. told_in t (g s))) (told_done t (spelled_by place kind j))
    next_of no_value g = refl
    next_of (waits c) g = refl

    one_of : (u : Told Cell Json)
        → and_then u (λ j. told_in t (done (spelled_by place kind j)))
        ≡ and_then u (λ j. finished (spelled_by place kind j))
    one_of (value j) = told_done t (spelled_by place kind j)
    one_of no_value = refl
    one_of (waits c) = refl

    -- the name of an instance, and then those of the later ones
    first_told : (i n : ℕ)
        → told_in t (instances i (suc n))
        ≡ and_then (told_in t (one_spelled place p r kind i))
        (λ s. told_in t (continued (instances (suc i) n) (λ ss. pure (s ∷ ss))))
    first_told i n =
        let nm : Reads Json = read (name p (step r i)) in
        goes t nm (λ j. continued (done (spelled_by place kind j))
        (λ s. continued (instances (suc i) n) (λ ss. pure (s ∷ ss))))
        ∙ next_of (told_in t nm) (λ s. continued (instances (suc i) n) (λ ss. pure (s ∷ ss)))
        ∙ by_told (told_in t nm) (λ s. continued (instances (suc i) n) (λ ss. pure (s ∷ ss)))
        ∙ ap (λ v. and_then v (λ s. told_in t (continued (instances (suc i) n) (λ ss. pure (s ∷ ss)))))
        (sym (goes t nm (λ j. done (spelled_by place kind j)) ∙ one_of (told_in t nm)))

    instance_next : (got : List ResourceId) (i n : ℕ) (s : Spelled)
        → told_in t (one_spelled place p r kind i) ≡ value s
        → gathered x got (told_in t (instances i (suc n)))
        ≡ gathered x (got ++ keys_named x (s ∷ [])) (told_in t (instances (suc i) n))
    instance_next got i n s e =
        ap (gathered x got) (first_told i n
        ∙ ap (λ v. and_then v (λ s. told_in t (continued (instances (suc i) n) (λ ss. pure (s ∷ ss))))) e
        ∙ goes t (instances (suc i) n) (λ ss. pure (s ∷ ss)))
        ∙ after got (keys_named x (s ∷ [])) [] (λ zs. s ∷ zs) (told_in t (instances (suc i) n)) (by_one s)

    instance_stops : (got : List ResourceId) (i n : ℕ) (e : Lack) → Stops t e (told_in t (one_spelled place p r kind i))
        → Stops t e (gathered x got (told_in t (instances i (suc n))))
    instance_stops got i n e h =
        stopped e got (told_in t (instances i (suc n))) (subst (Stops t e) (sym (first_told i n))
        (stop_goes t e (told_in t (one_spelled place p r kind i))
        (λ s. told_in t (continued (instances (suc i) n) (λ ss. pure (s ∷ ss)))) h))

    -- ---- the loop over the instances

    pub instances_more : (old got more : List ResourceId) (i many : ℕ) → i < many
        → GathersOne t x got more (Ok tt) (told_in t (one_spelled place p r kind i))
        → gathered x got (told_in t (instances i (many - i))) ≡ gathered x old (told_in t (instances 0 many))
        → gathered x more (told_in t (instances (i + 1) (many - (i + 1))))
        ≡ gathered x old (told_in t (instances 0 many))
    instances_more old got more i many h g before =
        let left : many - i ≡ suc (many - (i + 1)) = omega (arith, h) in
        let at : i + 1 ≡ suc i = omega arith in
        ap (λ k. gathered x more (told_in t (instances k (many - (i + 1))))) at
        ∙ ap (λ ks. gathered x ks (told_in t (instances (suc i) (many - (i + 1))))) g.1.1
        ∙ sym (instance_next got i (many - (i + 1)) g.0 g.1.0)
        ∙ ap (λ n. gathered x got (told_in t (instances i n))) (sym left) ∙ before

    pub instances_stop : (old got : List ResourceId) (i many : ℕ) (e : Lack) → i < many
        → Stops t e (told_in t (one_spelled place p r kind i))
        → gathered x got (told_in t (instances i (many - i))) ≡ gathered x old (told_in t (instances 0 many))
        → Stops t e (gathered x old (told_in t (instances 0 many)))
    instances_stop old got i many e h s before =
        let left : many - i ≡ suc (many - (i + 1)) = omega (arith, h) in
        subst (Stops t e) (ap (λ n. gathered x got (told_in t (instances i n))) (sym left) ∙ before)
        (instance_stops got i (many - (i + 1)) e s)

    pub instances_end : (old got : List ResourceId) (i many : ℕ) → many ≤ i
        → gathered x got (told_in t (instances i (many - i))) ≡ gathered x old (told_in t (instances 0 many))
        → gathered x old (told_in t (instances 0 many)) ≡ value got
    instances_end old got i many h before =
        let none : many - i ≡ 0 = omega (arith, h) in
        sym before ∙ ap (λ n. gathered x got (told_in t (instances i n))) none
        ∙ ap (gathered x got) (told_pure t []) ∙ ap value (append-nil got)

  -- ---- the loop over the resources

  module _ (place : Place) (p : Position) where
    all_first : (r : ℕ) (y : Listed) (ys : List Listed)
        → told_in t (all_spelled place p r (y ∷ ys))
        ≡ and_then (told_in t (resource_spelled place p r y))
        (λ a. told_in t (continued (all_spelled place p (suc r) ys) (λ b. pure (a ++ b))))
    all_first r y ys =
        goes t (resource_spelled place p r y) (λ a. continued (all_spelled place p (suc r) ys) (λ b. pure (a ++ b)))

    resource_next : (got more : List ResourceId) (r : ℕ) (y : Listed) (ys : List Listed)
        → gathered x got (told_in t (resource_spelled place p r y)) ≡ value more
        → gathered x got (told_in t (all_spelled place p r (y ∷ ys)))
        ≡ gathered x more (told_in t (all_spelled place p (suc r) ys))
    resource_next got more r y ys e =
        let v = and_value (told_in t (resource_spelled place p r y)) (λ ss. value (got ++ keys_named x ss)) more e in
        let is : got ++ keys_named x v.0 ≡ more = (let same = v.1.1 in cc) in
        ap (gathered x got) (all_first r y ys
        ∙ ap (λ u. and_then u (λ a. told_in t (continued (all_spelled place p (suc r) ys) (λ b. pure (a ++ b))))) v.1.0
        ∙ goes t (all_spelled place p (suc r) ys) (λ b. pure (v.0 ++ b)))
        ∙ after got (keys_named x v.0) [] (λ b. v.0 ++ b) (told_in t (all_spelled place p (suc r) ys))
        (keys_joined x v.0)
        ∙ ap (λ ks. gathered x ks (told_in t (all_spelled place p (suc r) ys))) is

    pub stops_back : (e : Lack) (got : List ResourceId) (u : Told Cell (List Spelled))
        → Stops t e (gathered x got u) → Stops t e u
    stops_back lack.NotThere got u h = absurd h
    stops_back lack.NoValue got (value ss) h = absurd (cc)
    stops_back lack.NoValue got no_value h = refl
    stops_back lack.NoValue got (waits c) h = absurd (cc)
    stops_back (lack.Line j) got (value ss) h = absurd (let e = h.1 in cc)
    stops_back (lack.Line j) got no_value h = absurd (let e = h.1 in cc)
    stops_back (lack.Line j) got (waits c) h = (h.0, (let e = h.1 in cc))
    stops_back (lack.State k) got (value ss) h = absurd (cc)
    stops_back (lack.State k) got no_value h = absurd (cc)
    stops_back (lack.State k) got (waits c) h = cc
    stops_back lack.OutOfMemory got u h = tt

    pub all_more : (got more : List ResourceId) (xs : List Listed) (i : ℕ) (y : Listed)
        (all : Told Cell (List ResourceId)) → i < length xs → y ≡ get_or xs i y
        → gathered x got (told_in t (resource_spelled place p i y)) ≡ value more
        → gathered x got (told_in t (all_spelled place p i (drop i xs))) ≡ all
        → gathered x more (told_in t (all_spelled place p (i + 1) (drop (i + 1) xs))) ≡ all
    all_more got more xs i y all h e g before =
        let next : drop i xs ≡ y ∷ drop (i + 1) xs =
        drop_more xs i y h ∙ ap (λ z. z ∷ drop (i + 1) xs) (sym e) in
        let at : i + 1 ≡ suc i = omega arith in
        ap (λ k. gathered x more (told_in t (all_spelled place p k (drop (i + 1) xs)))) at
        ∙ sym (resource_next got more i y (drop (i + 1) xs) g)
        ∙ ap (λ ys. gathered x got (told_in t (all_spelled place p i ys))) (sym next) ∙ before

    pub all_stop : (got : List ResourceId) (xs : List Listed) (i : ℕ) (y : Listed) (l : Lack)
        (all : Told Cell (List ResourceId)) → i < length xs → y ≡ get_or xs i y
        → Stops t l (gathered x got (told_in t (resource_spelled place p i y)))
        → gathered x got (told_in t (all_spelled place p i (drop i xs))) ≡ all → Stops t l all
    all_stop got xs i y l all h e s before =
        let next : drop i xs ≡ y ∷ drop (i + 1) xs =
        drop_more xs i y h ∙ ap (λ z. z ∷ drop (i + 1) xs) (sym e) in
        subst (Stops t l) (ap (λ ys. gathered x got (told_in t (all_spelled place p i ys))) (sym next) ∙ before)
        (stopped l got (told_in t (all_spelled place p i (y ∷ drop (i + 1) xs)))
        (subst (Stops t l) (sym (all_first i y (drop (i + 1) xs)))
        (stop_goes t l (told_in t (resource_spelled place p i y))
        (λ a. told_in t (continued (all_spelled place p (suc i) (drop (i + 1) xs)) (λ b. pure (a ++ b))))
        (stops_back l got (told_in t (resource_spelled place p i y)) s))))

    pub all_end : (got : List ResourceId) (xs : List Listed) (i : ℕ) (all : Told Cell (List ResourceId)) → length xs ≤ i
        → gathered x got (told_in t (all_spelled place p i (drop i xs))) ≡ all → all ≡ value got
    all_end got xs i all h before =
        sym before ∙ ap (λ ys. gathered x got (told_in t (all_spelled place p i ys))) (drop_all i xs h)
        ∙ ap (gathered x got) (told_pure t []) ∙ ap value (append-nil got)

-- ---- which key it is

first_by : (b : Bool) (k : ResourceId) (ks : List ResourceId) (o : Option ResourceId)
    → ((l : ResourceId) (ls : List ResourceId) → ks ≡ l ∷ ls → o ≡ Some l)
    → (l : ResourceId) (ls : List ResourceId) → (if b then k ∷ ks else ks) ≡ l ∷ ls
    → (if b then Some k else o) ≡ Some l
first_by true k ks o h l ls e = let same : k ≡ l = cc in ap Some same
first_by false k ks o h l ls e = h l ls e

pub first_is : (x : List ℕ) (ss : List Spelled) (k : ResourceId) (ks : List ResourceId) → keys_named x ss ≡ k ∷ ks
    → first_named x ss ≡ Some k
first_is x [] k ks e = absurd (cc)
first_is x (s ∷ ss) k ks e =
    first_by (names_resource x s) s.key (keys_named x ss) (first_named x ss) (λ l ls f. first_is x ss l ls f) k ks e

none_by : (b : Bool) (k : ResourceId) (ks : List ResourceId) (o : Option ResourceId) → (ks ≡ [] → o ≡ None)
    → (if b then k ∷ ks else ks) ≡ [] → (if b then Some k else o) ≡ None
none_by true k ks o h e = absurd (cc)
none_by false k ks o h e = h e

pub first_none : (x : List ℕ) (ss : List Spelled) → keys_named x ss ≡ [] → first_named x ss ≡ None
first_none x [] e = refl
first_none x (s ∷ ss) e =
    none_by (names_resource x s) s.key (keys_named x ss) (first_named x ss) (λ f. first_none x ss f) e

only_by : (b : Bool) (k l : ResourceId) (ks : List ResourceId) (c : Bool) → c ≡ are_one k ks
    → ((not b || is_same_key k l) && c) ≡ are_one k (if b then l ∷ ks else ks)
only_by true k l ks c e = ap (λ d. is_same_key k l && d) e
only_by false k l ks c e = e

pub only_is : (x : List ℕ) (k : ResourceId) (ss : List Spelled) → names_only x k ss ≡ are_one k (keys_named x ss)
only_is x k [] = refl
only_is x k (s ∷ ss) = only_by (names_resource x s) k s.key (keys_named x ss) (names_only x k ss) (only_is x k ss)

-- ---- one name

pub name_pushed : (place : Place) (x kind n : List ℕ) (old new : List ResourceId) (j : Json) → j ≡ text n
    → new ≡ old ++ (if is_spelled x kind n then key_at place kind n ∷ [] else [])
    → Pushes x (spelled_by place kind j) old new (Ok tt)
name_pushed place x kind n old new j e h =
    let s : Spelled = record { spelling = kind ++ 47 ∷ n; key = key_at place kind n } in (
      s,
      (
        ap (spelled_by place kind) e,
        h ∙ ap (λ b. old ++ (if b then key_at place kind n ∷ [] else [])) (sym (spelled_is place x kind n)),
      ),
    )

pub no_name : (place : Place) (kind : List ℕ) (v : Value) → ((s : List ℕ) → v ≡ values.Text s → ⊥)
    → spelled_by place kind (json v) ≡ None
no_name place kind values.Null h = refl
no_name place kind (values.Bool b) h = refl
no_name place kind (values.Int z) h = refl
no_name place kind (values.Text s) h = absurd (h s refl)
no_name place kind (values.Array js) h = refl
no_name place kind (values.Object ms) h = refl

module _ (t : Table) (x : List ℕ) (place : Place) (p : Position) (r i : ℕ) (kind : List ℕ) where
  abbrev nm : Reads Json
  nm = read (name p (step r i))

  one_told : (j : Json) → told_in t nm ≡ value j
      → told_in t (one_spelled place p r kind i) ≡ finished (spelled_by place kind j)
  one_told j e =
      read_goes t nm (λ k. done (spelled_by place kind k)) j e ∙ told_done t (spelled_by place kind j)

  none_told : (j : Json) (o : Option Spelled) → o ≡ None
      → told_in t (one_spelled place p r kind i) ≡ finished o → told_in t (one_spelled place p r kind i) ≡ no_value
  none_told j o e h = h ∙ ap finished e

  pub instance_pushed : (j : Json) (old new : List ResourceId) (u : Result (Unit {0}) Lack) → told_in t nm ≡ value j
      → Pushes x (spelled_by place kind j) old new u
      → GathersOne t x old new u (told_in t (one_spelled place p r kind i))
  instance_pushed j old new (Ok u) e h = (h.0, (one_told j e ∙ ap finished h.1.0, h.1.1))
  instance_pushed j old new (Err lack.NotThere) e h = absurd h
  instance_pushed j old new (Err lack.NoValue) e h = one_told j e ∙ ap finished h
  instance_pushed j old new (Err (lack.Line k)) e h = absurd h
  instance_pushed j old new (Err (lack.State k)) e h = absurd h
  instance_pushed j old new (Err lack.OutOfMemory) e h = tt

  pub instance_stopped : (old new : List ResourceId) (e : Lack) → Stops t e (told_in t nm)
      → GathersOne t x old new (Err e) (told_in t (one_spelled place p r kind i))
  instance_stopped old new e h = read_stops t e nm (λ k. done (spelled_by place kind k)) h

-- by the type that was read
pub by_type : (t : Table) (x : List ℕ) (place : Place) (p : Position) (r i : ℕ) (kind : List ℕ) (y : Listed)
    (old new : List ResourceId) (u : Result (Unit {0}) Lack) → y.type ≡ kind
    → GathersOne t x old new u (told_in t (one_spelled place p r kind i))
    → GathersOne t x old new u (told_in t (one_spelled place p r y.type i))
by_type t x place p r i kind y old new u e h =
    subst (λ k. GathersOne t x old new u (told_in t (one_spelled place p r k i))) (sym e) h

-- ---- instances of a scope

pub listed_within : (t : Table) (f r : ℕ) → IsNumber (scope_at t f) r → r < length (scope_at t f).resources
listed_within t f r n = slice_get_within (scope_at t f).resources r n.listed n.has

pub number_within : (t : Table) (f : ℕ) (fr : Frame) → f < length t.frames.items → fr ≡ get_or t.frames.items f fr
    → (r : ℕ) → IsNumber (scope_at t f) r → r < length fr.resources.items
number_within t f fr h e r n =
    let same : length (scope_at t f).resources ≡ length fr.resources.items =
    ap (λ (o : Opened). length o.resources) (scope_is t f fr h e) ∙ length-map fr.resources.items listed_of in
    let less = listed_within t f r n in omega (arith, same, less)

pub instance_lacks : (t : Table) (x : List ℕ) (place : Place) (f r i at : ℕ)
    → IsLineOf t f (name (scope_at t f).position (step r i)) at
    → (kind : List ℕ) (old new : List ResourceId) (e : Lack)
    → Stops t e (told_in t (read (cell_of (scopes_of t) (line_at t.lines.items at).spot)))
    → GathersOne t x old new (Err e) (told_in t (one_spelled place (scope_at t f).position r kind i))
instance_lacks t x place f r i at l kind old new e h =
    instance_stopped t x place (scope_at t f).position r i kind old new e
    (subst (λ c. Stops t e (told_in t (read c))) l.is h)

pub instance_read : (t : Table) (x : List ℕ) (place : Place) (f r i : ℕ) (fr : Frame) (y : code.Listed)
    → f < length t.frames.items → fr ≡ get_or t.frames.items f fr → IsNumber (scope_at t f) r
    → y ≡ get_or fr.resources.items r y
    → (z : Listed) → slice_get (scope_at t f).resources r ≡ Some z
    → (at : ℕ) → IsLineOf t f (name (scope_at t f).position (step r i)) at
    → (v : Value) (old new : List ResourceId) (u : Result (Unit {0}) Lack)
    → told_in t (read (cell_of (scopes_of t) (line_at t.lines.items at).spot)) ≡ value (json v)
    → Pushes x (spelled_by place y.kind (json v)) old new u
    → GathersOne t x old new u (told_in t (one_spelled place (scope_at t f).position r z.type i))
instance_read t x place f r i fr y h e n q z has at l v old new u told pushes =
    by_type t x place (scope_at t f).position r i y.kind z old new u
    (kind_here t f r fr y z h e (listed_within t f r n) q has)
    (instance_pushed t x place (scope_at t f).position r i y.kind (json v) old new u
    (ap (λ c. told_in t (read c)) (sym l.is) ∙ told) pushes)

-- the line of a count that has a value
pub no_copy : (t : Table) (f r i : ℕ) → IsReady t → f < length t.frames.items → IsNumber (scope_at t f) r
    → IsCopy t f r i → (o : Option ℕ) → o ≡ None
    → MatchOption o ((j : ℕ) → IsLineOf t f (count (scope_at t f).position r) j → Counts i (state_at t j) → ⊥)
    (λ _. Unit {0}) → ⊥
no_copy t f r i ready h n c o e m =
    copy_there t f ready (scopes_there t f h) r i n c.number c.counted c.copy (found_none _ o e m)

pub instances_begin : (t : Table) (x : List ℕ) (place : Place) (p : Position) (r : ℕ) (kind : List ℕ)
    (old : List ResourceId) (n : ℕ)
    → gathered x old (told_in t (instances_spelled place p r kind 0 (n - 0)))
    ≡ gathered x old (told_in t (instances_spelled place p r kind 0 n))
instances_begin t x place p r kind old n =
    let all : n - 0 ≡ n = omega arith in
    ap (λ m. gathered x old (told_in t (instances_spelled place p r kind 0 m))) all

pub copy_of : (t : Table) (f r n i : ℕ) → HasCount t f r n → i < n → IsCopy t f r i
copy_of t f r n i h l = record { number = h.number; counted = h.counted; copy = subst (λ m. i < m) h.is l }

-- ---- counts

count_told : (t : Table) (f r at : ℕ) → IsLineOf t f (count (scope_at t f).position r) at → (v : Value)
    → told_in t (read (cell_of (scopes_of t) (line_at t.lines.items at).spot)) ≡ value (json v)
    → told_in t (read (count (scope_at t f).position r)) ≡ value (json v)
count_told t f r at l v h = ap (λ c. told_in t (read c)) (sym l.is) ∙ h

pub has_count : (t : Table) (f r at : ℕ) → IsLineOf t f (count (scope_at t f).position r) at → (v : Value) (n : ℕ)
    → told_in t (read (cell_of (scopes_of t) (line_at t.lines.items at).spot)) ≡ value (json v)
    → n ≡ copies (Some (json v)) → HasCount t f r n
has_count t f r at l v n h e = record {
  number = json v;
  counted = read_known (table (status_of (rows_in t))) (count (scope_at t f).position r) (json v)
      (count_told t f r at l v h);
  is = e;
}

module _ (t : Table) (x : List ℕ) (place : Place) (f r at : ℕ)
    (l : IsLineOf t f (count (scope_at t f).position r) at) (y : Listed) (n : IsNumber (scope_at t f) r)
    (has : slice_get (scope_at t f).resources r ≡ Some y) where
  not_existing : y.declaration.existing ≡ false
  not_existing =
      let same : Some n.listed ≡ Some y = sym n.has ∙ has in
      let is : n.listed ≡ y = cc in ap (λ (z : Listed). z.declaration.existing) (sym is) ∙ n.is_put

  abbrev by_count : Reads (List Spelled)
  by_count =
      continued (read (count (scope_at t f).position r))
      (λ v. instances_spelled place (scope_at t f).position r y.type 0 (copies (Some v)))

  spelled_by_count : resource_spelled place (scope_at t f).position r y ≡ by_count
  spelled_by_count = ap (λ b. if b then pure [] else by_count) not_existing

  pub counted_gathers : (v : Value) (c : ℕ)
      → told_in t (read (cell_of (scopes_of t) (line_at t.lines.items at).spot)) ≡ value (json v)
      → c ≡ copies (Some (json v)) → (old new : List ResourceId) (u : Result (Unit {0}) Lack)
      → Gathers t x old new u (told_in t (instances_spelled place (scope_at t f).position r y.type 0 c))
      → Gathers t x old new u (told_in t (resource_spelled place (scope_at t f).position r y))
  counted_gathers v c h e old new u g =
      subst (Gathers t x old new u)
      (ap (λ m. told_in t (instances_spelled place (scope_at t f).position r y.type 0 m)) e
      ∙ sym (ap (told_in t) spelled_by_count
      ∙ read_goes t (read (count (scope_at t f).position r))
      (λ v. instances_spelled place (scope_at t f).position r y.type 0 (copies (Some v))) (json v)
      (count_told t f r at l v h))) g

  pub counted_stops : (old : List ResourceId) (e : Lack)
      → Stops t e (told_in t (read (cell_of (scopes_of t) (line_at t.lines.items at).spot)))
      → Stops t e (gathered x old (told_in t (resource_spelled place (scope_at t f).position r y)))
  counted_stops old e h =
      stopped t x e old (told_in t (resource_spelled place (scope_at t f).position r y))
      (subst (λ u. Stops t e (told_in t u)) (sym spelled_by_count)
      (read_stops t e (read (count (scope_at t f).position r))
      (λ v. instances_spelled place (scope_at t f).position r y.type 0 (copies (Some v)))
      (subst (λ c. Stops t e (told_in t (read c))) l.is h)))

-- ---- resources

pub listed_length : (t : Table) (f : ℕ) (fr : Frame) → f < length t.frames.items → fr ≡ get_or t.frames.items f fr
    → (r : ℕ) → r < length (scope_at t f).resources → r < length fr.resources.items
listed_length t f fr h e r less =
    let same : length (scope_at t f).resources ≡ length fr.resources.items =
    ap (λ (o : Opened). length o.resources) (scope_is t f fr h e) ∙ length-map fr.resources.items listed_of in
    omega (arith, same, less)

listed_read : (t : Table) (f r : ℕ) (fr : Frame) (y : code.Listed) → f < length t.frames.items
    → fr ≡ get_or t.frames.items f fr → r < length (scope_at t f).resources → y ≡ get_or fr.resources.items r y
    → slice_get (scope_at t f).resources r ≡ Some (listed_of y)
listed_read t f r fr y h e l i =
    ap (λ (o : Opened). slice_get o.resources r) (scope_is t f fr h e)
    ∙ resource_read fr.resources.items r y (listed_length t f fr h e r l) i

pub existing_gathers : (t : Table) (x : List ℕ) (place : Place) (f r : ℕ) (fr : Frame) (y : code.Listed) (z : Listed)
    → f < length t.frames.items → fr ≡ get_or t.frames.items f fr → r < length (scope_at t f).resources
    → y ≡ get_or fr.resources.items r y → slice_get (scope_at t f).resources r ≡ Some z
    → y.declaration.now.existing ≡ true → (old : List ResourceId)
    → gathered x old (told_in t (resource_spelled place (scope_at t f).position r z)) ≡ value old
existing_gathers t x place f r fr y z h e l i s b old =
    let same : Some (listed_of y) ≡ Some z = sym (listed_read t f r fr y h e l i) ∙ s in
    let is : listed_of y ≡ z = cc in
    let none : z.declaration.existing ≡ true = ap (λ (w : Listed). w.declaration.existing) (sym is) ∙ b in
    ap (λ c. gathered x old (told_in t (if c then pure []
    else continued (read (count (scope_at t f).position r))
    (λ v. instances_spelled place (scope_at t f).position r z.type 0 (copies (Some v)))))) none
    ∙ ap (gathered x old) (told_pure t []) ∙ ap value (append-nil old)

pub number_of : (t : Table) (f r : ℕ) (fr : Frame) (y : code.Listed) → f < length t.frames.items
    → fr ≡ get_or t.frames.items f fr → r < length (scope_at t f).resources → y ≡ get_or fr.resources.items r y
    → y.declaration.now.existing ≡ false → IsNumber (scope_at t f) r
number_of t f r fr y h e l i b = record {
  listed = listed_of y;
  has = listed_read t f r fr y h e l i;
  is_put = b;
}

pub fewer_listed : (t : Table) (f : ℕ) (fr : Frame) → f < length t.frames.items → fr ≡ get_or t.frames.items f fr
    → (i n : ℕ) → n ≡ length fr.resources.items → i < n → i < length (scope_at t f).resources
fewer_listed t f fr h e i n q less =
    let same : length (scope_at t f).resources ≡ length fr.resources.items =
    ap (λ (o : Opened). length o.resources) (scope_is t f fr h e) ∙ length-map fr.resources.items listed_of in
    omega (arith, same, q, less)

pub no_more_listed : (t : Table) (f : ℕ) (fr : Frame) → f < length t.frames.items → fr ≡ get_or t.frames.items f fr
    → (i n : ℕ) → n ≡ length fr.resources.items → n ≤ i → length (scope_at t f).resources ≤ i
no_more_listed t f fr h e i n q more =
    let same : length (scope_at t f).resources ≡ length fr.resources.items =
    ap (λ (o : Opened). length o.resources) (scope_is t f fr h e) ∙ length-map fr.resources.items listed_of in
    omega (arith, same, q, more)

one_at : {A : Type 0} (xs : List A) (i : ℕ) → i < length xs
    → (y : A) × ((slice_get xs i ≡ Some y) × (y ≡ get_or xs i y))
one_at [] i h = absurd (omega (arith, h))
one_at (x ∷ xs) zero h = (x, (refl, refl))
one_at (x ∷ xs) (suc i) h = let r = one_at xs i (omega (arith, h)) in (r.0, (r.1.0, r.1.1))

module _ (t : Table) (x : List ℕ) (place : Place) (p : Position) (got more : List ResourceId) (xs : List Listed) (i : ℕ)
  where
    pub all_more_at : (all : Told Cell (List ResourceId)) → i < length xs
        → ((y : Listed) → slice_get xs i ≡ Some y → Gathers t x got more (Ok tt) (told_in t (resource_spelled place
        p i y)))
        → gathered x got (told_in t (all_spelled place p i (drop i xs))) ≡ all
        → gathered x more (told_in t (all_spelled place p (i + 1) (drop (i + 1) xs))) ≡ all
    all_more_at all h g before =
        let y = one_at xs i h in all_more t x place p got more xs i y.0 all h y.1.1 (g y.0 y.1.0) before

    pub all_stop_at : (l : Lack) (all : Told Cell (List ResourceId)) → i < length xs
        → ((y : Listed) → slice_get xs i ≡ Some y
        → Gathers t x got more (Err l) (told_in t (resource_spelled place p i y)))
        → gathered x got (told_in t (all_spelled place p i (drop i xs))) ≡ all → Stops t l all
    all_stop_at l all h g before =
        let y = one_at xs i h in all_stop t x place p got xs i y.0 l all h y.1.1 (g y.0 y.1.0) before
