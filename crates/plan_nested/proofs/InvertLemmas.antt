-- What follows from the value that lists the nested deployments of a scope.
use Rattle.std.proofs.Common.{◌≡◌, ℕ, zero, suc, ◌+◌, ◌<◌, Bool, true, false, List, [], ◌∷◌, Option, Some, None, refl}
use Rattle.std.proofs.Common.{sym}
use Rattle.std.proofs.Common.{ap, subst, ◌∙◌, arith}
use Rattle.std.specs.Prelude.{slice_get, option_map}
use Rattle.arm_value.specs.Json.{Json, null, bool, int, text, array, object}
use Rattle.reading.specs.Reading.{done, pure, read, continued}
use Rattle.reading.specs.Knowledge.{Known, known, absent, missing, Told, value, no_value, waits, told, finished}
use Rattle.reading.specs.Knowledge.{by_entry}
use Rattle.reading.specs.Knowledge.{and_then}
use Rattle.reading.proofs.Parts.{told-continued}
use Rattle.deploy_cells.specs.Cells.{Step, step, Position, Cell, count, included, name, deployments, admits, copies}
use Rattle.deploy_cells.specs.Guarded.{Reads, told_by, told_where}
use Rattle.deploy_cells.specs.Listing.{Named, named_by, one_named, instances_named, resource_named, all_named}
use Rattle.deploy_cells.specs.Listing.{listing_value, listing_json}
use Rattle.template_tree.specs.Tree.{TemplateTree}
use Rattle.plan_sight.specs.Resources.{nested_numbers}
use Rattle.plan_sight.specs.Scopes.{template_at}
use Rattle.plan_sight.specs.Meaning.{Deployment, plain, raw, ruled, if_meets}
use Rattle.deploy_cells.specs.Guarded.{there_if}

abbrev pub one_value : {A : Type 0} → A → Told Cell A
one_value x = value x

pub value_is : {A : Type 0} (x y : A) → one_value x ≡ one_value y → x ≡ y
value_is x y e = cc

pub and_value : {A B : Type 0} (t : Told Cell A) (f : A → Told Cell B) (y : B) → and_then t f ≡ value y
    → (x : A) × ((t ≡ value x) × (f x ≡ value y))
and_value (value x) f y e = (x, (refl, e))
and_value no_value f y e = absurd (cc)
and_value (waits c) f y e = absurd (cc)

entry_read : (c : Cell) (e : Known Json) (v : Json) → by_entry c (λ o. finished o) e ≡ value v → e ≡ known v
entry_read c (known x) v h = cc
entry_read c absent v h = absurd (cc)
entry_read c missing v h = absurd (cc)

is_included : (a b : Json) (x : Named) → named_by a b ≡ Some x → x.included ≡ true → b ≡ bool true
is_included (text n) (bool c) x e h =
    let same : record { name = n; included = c } ≡ x = cc in
    let is : c ≡ true = ap (λ (y : Named). y.included) same ∙ h in ap bool is
is_included (text n) null x e h = absurd (cc)
is_included (text n) (int z) x e h = absurd (cc)
is_included (text n) (text s) x e h = absurd (cc)
is_included (text n) (array js) x e h = absurd (cc)
is_included (text n) (object ms) x e h = absurd (cc)
is_included null b x e h = absurd (cc)
is_included (bool c) b x e h = absurd (cc)
is_included (int z) b x e h = absurd (cc)
is_included (array js) b x e h = absurd (cc)
is_included (object ms) b x e h = absurd (cc)

has_text : (a b : Json) (x : Named) → named_by a b ≡ Some x → a ≡ text x.name
has_text (text n) (bool c) x e =
    let same : record { name = n; included = c } ≡ x = cc in
    let is : n ≡ x.name = ap (λ (y : Named). y.name) same in ap text is
has_text (text n) null x e = absurd (cc)
has_text (text n) (int z) x e = absurd (cc)
has_text (text n) (text s) x e = absurd (cc)
has_text (text n) (array js) x e = absurd (cc)
has_text (text n) (object ms) x e = absurd (cc)
has_text null b x e = absurd (cc)
has_text (bool c) b x e = absurd (cc)
has_text (int z) b x e = absurd (cc)
has_text (array js) b x e = absurd (cc)
has_text (object ms) b x e = absurd (cc)

pub none_there : {A B : Type 0} (i : ℕ) (x : A) → slice_get [] i ≡ Some x → B
none_there zero x e = absurd (cc)
none_there (suc i) x e = absurd (cc)

module _ (q : Cell → Known Json) where
  pub went : {A B : Type 0} (r : Reads A) (f : A → Reads B) (y : B) → told q (continued r f) ≡ value y
      → (x : A) × ((told q r ≡ value x) × (told q (f x) ≡ value y))
  went {A} {B} r f y e =
      and_value (told q r) (λ x. told q (f x)) y (sym (told-continued Cell Json A B q r f) ∙ e)

  finished_is : {A : Type 0} (o : Option A) (x : A) → finished {C = Cell} o ≡ value x → o ≡ Some x
  finished_is (Some y) x e = cc
  finished_is None x e = absurd (cc)

  pub done_is : {A : Type 0} (o : Option A) (x : A) → told q (done o) ≡ value x → o ≡ Some x
  unfolding told
  done_is o x e = finished_is o x e

  pub pure_is : {A : Type 0} (y x : A) → told q (pure y) ≡ value x → y ≡ x
  pure_is y x e = let same : Some y ≡ Some x = done_is (Some y) x e in cc

  pub read_known : (c : Cell) (v : Json) → told q (read c) ≡ value v → q c ≡ known v
  unfolding told
  read_known c v e = entry_read c (q c) v e

  named_told : (p : Position) (s : Step) (x : Named) → told q (one_named p s) ≡ value x → x.included ≡ true
      → q (included p s) ≡ known (bool true)
  named_told p s x e h =
      let n = went (read (name p s)) (λ n. continued (read (included p s)) (λ b. done (named_by n b))) x e in
      let b = went (read (included p s)) (λ b. done (named_by n.0 b)) x n.1.1 in
      read_known (included p s) (bool true)
      (b.1.0 ∙ ap value (is_included n.0 b.0 x (done_is (named_by n.0 b.0) x b.1.1) h))

  pub name_told : (p : Position) (s : Step) (x : Named) → told q (one_named p s) ≡ value x
      → q (name p s) ≡ known (text x.name)
  name_told p s x e =
      let n = went (read (name p s)) (λ n. continued (read (included p s)) (λ b. done (named_by n b))) x e in
      let b = went (read (included p s)) (λ b. done (named_by n.0 b)) x n.1.1 in
      read_known (name p s) (text x.name)
      (n.1.0 ∙ ap value (has_text n.0 b.0 x (done_is (named_by n.0 b.0) x b.1.1)))

  pub instances_told : (p : Position) (r a n : ℕ) (ns : List Named) (i : ℕ) (x : Named)
      → told q (instances_named p r a n) ≡ value ns → slice_get ns i ≡ Some x
      → (i < n) × (told q (one_named p (step r (a + i))) ≡ value x)
  instances_told p r a zero [] i x e h = none_there i x h
  instances_told p r a zero (y ∷ ys) i x e h =
      let no : [] ≡ y ∷ ys = pure_is [] (y ∷ ys) e in absurd (cc)
  instances_told p r a (suc n) ns zero x e h =
      let f = went (one_named p (step r a))
      (λ y. continued (instances_named p r (suc a) n) (λ ys. pure (y ∷ ys))) ns e in
      let g = went (instances_named p r (suc a) n) (λ ys. pure (f.0 ∷ ys)) ns f.1.1 in
      let is : f.0 ∷ g.0 ≡ ns = pure_is (f.0 ∷ g.0) ns g.1.1 in
      let here : slice_get (f.0 ∷ g.0) 0 ≡ Some x = ap (λ ys. slice_get ys 0) is ∙ h in
      let same : f.0 ≡ x = cc in
      let at : a ≡ a + 0 = omega arith in
      (omega arith, subst (λ k. told q (one_named p (step r k)) ≡ value x) at (f.1.0 ∙ ap value same))
  instances_told p r a (suc n) ns (suc i) x e h =
      let f = went (one_named p (step r a))
      (λ y. continued (instances_named p r (suc a) n) (λ ys. pure (y ∷ ys))) ns e in
      let g = went (instances_named p r (suc a) n) (λ ys. pure (f.0 ∷ ys)) ns f.1.1 in
      let is : f.0 ∷ g.0 ≡ ns = pure_is (f.0 ∷ g.0) ns g.1.1 in
      let here : slice_get (f.0 ∷ g.0) (suc i) ≡ Some x = ap (λ ys. slice_get ys (suc i)) is ∙ h in
      let rest = instances_told p r (suc a) n g.0 i x g.1.0 here in
      let few : i < n = rest.0 in
      let at : suc a + i ≡ a + suc i = omega arith in
      (omega (arith, few), subst (λ k. told q (one_named p (step r k)) ≡ value x) at rest.1)

  pub all_told : (p : Position) (rs : List ℕ) (nss : List (List Named)) (k : ℕ) (ns : List Named)
      → told q (all_named p rs) ≡ value nss → slice_get nss k ≡ Some ns
      → (r : ℕ) × ((slice_get rs k ≡ Some r) × (told q (resource_named p r) ≡ value ns))
  all_told p [] [] k ns e h = none_there k ns h
  all_told p [] (y ∷ ys) k ns e h = let no : [] ≡ y ∷ ys = pure_is [] (y ∷ ys) e in absurd (cc)
  all_told p (r ∷ rs) nss zero ns e h =
      let f = went (resource_named p r) (λ y. continued (all_named p rs) (λ ys. pure (y ∷ ys))) nss e in
      let g = went (all_named p rs) (λ ys. pure (f.0 ∷ ys)) nss f.1.1 in
      let is : f.0 ∷ g.0 ≡ nss = pure_is (f.0 ∷ g.0) nss g.1.1 in
      let here : slice_get (f.0 ∷ g.0) 0 ≡ Some ns = ap (λ ys. slice_get ys 0) is ∙ h in
      let same : f.0 ≡ ns = cc in
      (r, (refl, f.1.0 ∙ ap value same))
  all_told p (r ∷ rs) nss (suc k) ns e h =
      let f = went (resource_named p r) (λ y. continued (all_named p rs) (λ ys. pure (y ∷ ys))) nss e in
      let g = went (all_named p rs) (λ ys. pure (f.0 ∷ ys)) nss f.1.1 in
      let is : f.0 ∷ g.0 ≡ nss = pure_is (f.0 ∷ g.0) nss g.1.1 in
      let here : slice_get (f.0 ∷ g.0) (suc k) ≡ Some ns = ap (λ ys. slice_get ys (suc k)) is ∙ h in
      all_told p rs g.0 k ns g.1.0 here

  -- an instance that is listed as included, by what is known of it
  pub record IsKnownIncluded (p : Position) (r i : ℕ) : Type 0 where
    pub number : Json
    pub counted : q (count p r) ≡ known number
    pub copy : i < copies (Some number)
    pub is_true : q (included p (step r i)) ≡ known (bool true)

  pub resource_told : (p : Position) (r i : ℕ) (ns : List Named) (x : Named)
      → told q (resource_named p r) ≡ value ns → slice_get ns i ≡ Some x → x.included ≡ true
      → IsKnownIncluded p r i
  resource_told p r i ns x e h y =
      let c = went (read (count p r)) (λ v. instances_named p r 0 (copies (Some v))) ns e in
      let one = instances_told p r 0 (copies (Some c.0)) ns i x c.1.1 h in
      let first : 0 + i ≡ i = omega arith in
      record {
        number = c.0;
        counted = read_known (count p r) c.0 c.1.0;
        copy = one.0;
        is_true = named_told p (step r i) x (subst (λ k. told q (one_named p (step r k)) ≡ value x) first one.1) y;
      }

  pub listing_told : (p : Position) (rs : List ℕ) (j : Json) → told q (listing_value p rs) ≡ value j
      → (nss : List (List Named)) × ((told q (all_named p rs) ≡ value nss) × (j ≡ listing_json nss))
  unfolding listing_value
  listing_told p rs j e =
      let f = went (all_named p rs) (λ xs. pure (listing_json xs)) j e in
      (f.0, (f.1.0, sym (pure_is (listing_json f.0) j f.1.1)))

  -- ---- what a cell is where it is there

  where_value : (b : Bool) (u : Told Cell (Option Json)) (x : Json) → told_where b u ≡ value (Some x)
      → u ≡ value (Some x)
  where_value true u x e = e
  where_value false u x e = absurd (cc)

  by_gate : (c d : Cell) (g : Known Json) (u : Told Cell (Option Json)) (x : Json)
      → by_entry d (λ v. told_where (admits c v) u) g ≡ value (Some x) → u ≡ value (Some x)
  by_gate c d (known v) u x e = where_value (admits c (Some v)) u x e
  by_gate c d absent u x e = where_value (admits c None) u x e
  by_gate c d missing u x e = absurd (cc)

  pub unguarded : (c : Cell) (o : Option Cell) (u : Told Cell (Option Json)) (x : Json)
      → told_by q c o u ≡ value (Some x) → u ≡ value (Some x)
  unguarded c None u x e = e
  unguarded c (Some d) u x e = by_gate c d (q d) u x e

  pub ruled_value : (d : Deployment) (f : Json → Bool) (r : Reads Json) (j : Json)
      → told q (there_if (Some (ruled d f r))) ≡ value (Some j)
      → (x : Json) × ((told q r ≡ value x) × (if_meets d (f x) x ≡ Some j))
  ruled_value d f r j e =
      let a = went (ruled d f r) (λ v. pure (Some v)) (Some j) e in
      let same : Some a.0 ≡ Some j = pure_is (Some a.0) (Some j) a.1.1 in
      let is : a.0 ≡ j = cc in
      let b = went r (λ j. done (if_meets d (f j) j)) a.0 a.1.0 in
      (b.0, (b.1.0, done_is (if_meets d (f b.0) b.0) a.0 b.1.1 ∙ ap Some is))

  pub deployments_told : (d : Deployment) (p : Position) (u : TemplateTree) (j : Json)
      → template_at d.template p ≡ Some u → told q (plain d (deployments p)) ≡ value (Some j)
      → told q (listing_value p (nested_numbers u)) ≡ value j
  unfolding plain raw
  deployments_told d p u j t e =
      let is : told q (there_if (Some (ruled d (λ _. true) (listing_value p (nested_numbers u))))) ≡ value (Some j) =
      ap (λ o. told q (there_if (option_map (ruled d (λ _. true)) (option_map (λ t. listing_value p (nested_numbers
      t)) o))))
      (sym t) ∙ e in
      let v = ruled_value d (λ _. true) (listing_value p (nested_numbers u)) j is in
      let same : Some v.0 ≡ Some j = v.1.1 in
      let one : v.0 ≡ j = cc in v.1.0 ∙ ap value one
