-- Which task needs which, by the numbers of their tags.
use Rattle.std.proofs.Common.{◌≡◌, ℕ, suc, ◌<◌, ◌≤◌, Bool, true, false, List, [], ◌∷◌, ◌++◌, map}
use Rattle.std.proofs.Common.{Option, Some, None, refl, sym, ap, ap₂, subst, ◌∙◌, arith}
use Rattle.std.specs.Prelude.{nat_eq, ◌&&◌, ◌||◌, bytes_eq, if◌then◌else◌}
use Rattle.std.specs.List.{list_any}
use Rattle.foundation.proofs.Comparisons.{eq_itself}
use Rattle.arm_value.specs.Json.{Json, null, bool, int, text, array, object}
use Rattle.arm_value.specs.Look.{fold}
use Rattle.arm_ids.specs.declared.id.ResourceId.{ResourceId}
use Rattle.arm_env.specs.Find.{id_key}
use Rattle.plan_tags.specs.Trees.{tree_value}
use Rattle.plan_tags.specs.Titles.{element}
use Rattle.reading.specs.Reading.{pure, read, continued, onward}
use Rattle.reading.specs.Knowledge.{known, value, told, and_then, by_entry}
use Rattle.reading.proofs.Parts.{told-continued}
use Rattle.template_parts.specs.declared.looping.Batches.{Batches}
use Rattle.template_parts.specs.declared.looping.Batches.TheVariants.{Parallel, Serial}
use Rattle.template_parts.specs.declared.looping.ResourceCopy.{ResourceCopy}
use Rattle.template_parts.specs.declared.mode.Form.{Form}
use Rattle.template_parts.specs.declared.mode.Form.TheVariants.{One, Two}
use Rattle.template_tree.specs.Tree.{TemplateTree}
use Rattle.arm_ids.specs.declared.id.Place.{Place}
use Rattle.deploy_cells.specs.Cells.{Step, Position, Cell, name}
use Rattle.deploy_cells.specs.Guarded.{Reads}
use Rattle.deploy_cells.specs.Same.{same_position}
use Rattle.deploy_cells.proofs.SameLemmas.{position_is}
use Rattle.plan_tags.specs.Known.{Table}
use Rattle.plan_tags.specs.Resources.{Listed}
use Rattle.plan_tags.specs.Scopes.{template_at, resource_of}
use Rattle.plan_tags.specs.Sites.{reading_at, body_site, form_at}
use Rattle.plan_tags.specs.Meaning.{Deployment}
use Rattle.plan_tags.specs.Tasks.{Task, enter, leave, put, delete}
use Rattle.plan_tags.specs.Needs.{Instance, started, ended, copy_of, is_loop, value_names, element_names, or_else, elements_name, depends_by, depends, depends_on, needs_by_order, needs}
use Rattle.plan_tags.specs.Tags.{Tag, entry, inside, before, root_left, child_of, tags_of, asks_of, by_batch, by_copy, same_tag, parent_by}
use Rattle.plan_tags.specs.Tags as plain
use Rattle.plan_tags.proofs.TagLemmas.{by_tags}
use Rattle.tag_needs.specs.Tags.{shares}
use Rattle.key_tags.specs.KeyCodes.{key_code}
use Rattle.plan_codes.specs.Codes.{code, IsNumbering, IsTagOf}
use Rattle.plan_codes.specs.NameCodes.{loop_code, keyed, spelled, symbolic, loop_names, symbol_names, names_of}
use Rattle.plan_codes.specs.NameCodes.{key_asks}
use Rattle.plan_codes.specs.NameCodes.{asks_in_one, value_asks, values_ask}
use Rattle.plan_codes.specs.TaskCodes.{AreRead, IsNamed, IsDepending, AreDepending, MayBeNamed, IsTaskIn, title_in}
use Rattle.plan_codes.specs.TaskCodes.{listed_names, instance_names, instance_asks, task_tags, task_asks}
use Rattle.plan_codes.proofs.CodeLemmas.{tag_eq}
use Rattle.plan_codes.proofs.NameLemmas.{value_named}
use Rattle.foundation.proofs.TruthValues.{or_assoc, or_crossed, and_false_is, or_false}

-- ---- truth values

and_or : (a b c : Bool) → (a && (b || c)) ≡ ((a && b) || (a && c))
and_or true b c = refl
and_or false b c = refl

-- ---- what lists share

any_joined : (f : List ℕ → Bool) (xs ys : List (List ℕ)) → list_any f (xs ++ ys) ≡ (list_any f xs || list_any f ys)
any_joined f [] ys = refl
any_joined f (x ∷ xs) ys =
    ap (λ b. f x || b) (any_joined f xs ys) ∙ sym (or_assoc (f x) (list_any f xs) (list_any f ys))

shares_left : (xs ys ts : List (List ℕ)) → shares (xs ++ ys) ts ≡ (shares xs ts || shares ys ts)
shares_left xs ys ts = any_joined (λ a. list_any (bytes_eq a) ts) xs ys

shares_right : (xs ts us : List (List ℕ)) → shares xs (ts ++ us) ≡ (shares xs ts || shares xs us)
shares_right [] ts us = refl
shares_right (a ∷ xs) ts us =
    ap (λ b. b || shares xs (ts ++ us)) (any_joined (bytes_eq a) ts us)
    ∙ ap (λ b. (list_any (bytes_eq a) ts || list_any (bytes_eq a) us) || b) (shares_right xs ts us)
    ∙ or_crossed (list_any (bytes_eq a) ts) (list_any (bytes_eq a) us) (shares xs ts) (shares xs us)

nothing_shared : (xs : List (List ℕ)) → shares xs [] ≡ false
nothing_shared [] = refl
nothing_shared (x ∷ xs) = nothing_shared xs

abbrev AllOf : {A : Type 0} → (A → Type 0) → List A → Type 0
AllOf P [] = Unit {0}
AllOf P (x ∷ xs) = P x × AllOf P xs

all_joined : {A : Type 0} (P : A → Type 0) (xs ys : List A) → AllOf P xs → AllOf P ys → AllOf P (xs ++ ys)
all_joined P [] ys h k = k
all_joined P (x ∷ xs) ys h k = (h.0, all_joined P xs ys h.1 k)

module _ (A B : List ℕ → Type 0) (never : (x y : List ℕ) → A x → B y → bytes_eq x y ≡ false) where
  none_equal : (x : List ℕ) (ys : List (List ℕ)) → A x → AllOf B ys → list_any (bytes_eq x) ys ≡ false
  none_equal x [] h k = refl
  none_equal x (y ∷ ys) h k = ap (λ b. b || list_any (bytes_eq x) ys) (never x y h k.0) ∙ none_equal x ys h k.1

  none_shared : (xs ys : List (List ℕ)) → AllOf A xs → AllOf B ys → shares xs ys ≡ false
  none_shared [] ys h k = refl
  none_shared (x ∷ xs) ys h k = ap (λ b. b || shares xs ys) (none_equal x ys h.0 k) ∙ none_shared xs ys h.1 k

-- ---- sorts of numbers

-- of a tag, and of a name in the scope number f
record IsCode (x : List ℕ) : Type 0 where
  sort : ℕ
  rest : List ℕ
  low : sort < 5
  is : x ≡ sort ∷ rest

record IsNameIn (f : ℕ) (x : List ℕ) : Type 0 where
  sort : ℕ
  rest : List ℕ
  high : 5 ≤ sort
  is : x ≡ sort ∷ f ∷ rest

not_equal : (a b : ℕ) → a < 5 → 5 ≤ b → nat_eq a b ≡ false
not_equal a b h k = grind (arith, h, k)

not_equal_back : (a b : ℕ) → 5 ≤ a → b < 5 → nat_eq a b ≡ false
not_equal_back a b h k = grind (arith, h, k)

code_no_name : (f : ℕ) (x y : List ℕ) → IsCode x → IsNameIn f y → bytes_eq x y ≡ false
code_no_name f x y h k =
    ap₂ bytes_eq h.is k.is
    ∙ ap (λ b. b && bytes_eq h.rest (f ∷ k.rest)) (not_equal h.sort k.sort h.low k.high)

name_no_code : (f : ℕ) (x y : List ℕ) → IsNameIn f x → IsCode y → bytes_eq x y ≡ false
name_no_code f x y h k =
    ap₂ bytes_eq h.is k.is
    ∙ ap (λ b. b && bytes_eq (f ∷ h.rest) k.rest) (not_equal_back h.sort k.sort h.high k.low)

other_scope : (f g : ℕ) → nat_eq f g ≡ false → (x y : List ℕ) → IsNameIn f x → IsNameIn g y → bytes_eq x y ≡ false
other_scope f g e x y h k =
    ap₂ bytes_eq h.is k.is
    ∙ ap (λ b. nat_eq h.sort k.sort && (b && bytes_eq h.rest k.rest)) e
    ∙ and_false_is (nat_eq h.sort k.sort)

code_low : (number : Position → ℕ) (t : Tag) → IsCode (code number t)
code_low number (entry p) = record { sort = 0; rest = number p ∷ []; low = omega arith; is = refl }
code_low number (inside p) = record { sort = 1; rest = number p ∷ []; low = omega arith; is = refl }
code_low number (before p r n) = record { sort = 2; rest = number p ∷ r ∷ n ∷ []; low = omega arith; is = refl }
code_low number root_left = record { sort = 3; rest = []; low = omega arith; is = refl }
code_low number (child_of k) = record { sort = 4; rest = key_code k; low = omega arith; is = refl }

codes_low : (number : Position → ℕ) (ts : List Tag) → AllOf IsCode (map (code number) ts)
codes_low number [] = tt
codes_low number (t ∷ ts) = (code_low number t, codes_low number ts)

loop_high : (f : ℕ) (x : List ℕ) → IsNameIn f (loop_code f x)
loop_high f x = record { sort = 5; rest = x; high = omega arith; is = refl }

key_high : (f : ℕ) (k : ResourceId) → IsNameIn f (keyed f k)
key_high f k = record { sort = 6; rest = key_code k; high = omega arith; is = refl }

spelled_high : (f : ℕ) (x : List ℕ) → IsNameIn f (spelled f x)
spelled_high f x = record { sort = 7; rest = x; high = omega arith; is = refl }

symbolic_high : (f : ℕ) (x : List ℕ) → IsNameIn f (symbolic f x)
symbolic_high f x = record { sort = 8; rest = x; high = omega arith; is = refl }

loops_high : (f : ℕ) (o : Option ResourceCopy) → AllOf (IsNameIn f) (loop_names f o)
loops_high f None = tt
loops_high f (Some c) = (loop_high f (fold c.name), tt)

symbols_high : (f i : ℕ) (looped : Bool) (o : Option (List ℕ)) → AllOf (IsNameIn f) (symbol_names f i looped o)
symbols_high f i looped None = tt
symbols_high f i true (Some x) = (symbolic_high f x, (symbolic_high f (element x i), tt))
symbols_high f i false (Some x) = (symbolic_high f x, tt)

names_high : (f : ℕ) (form : Form) (place : Place) (r : Listed) (i : ℕ) (n : List ℕ)
    → AllOf (IsNameIn f) (names_of f form place r i n)
names_high f One place r i n =
    all_joined (IsNameIn f) (loop_names f r.declaration.copy) _ (loops_high f r.declaration.copy)
    (key_high f _, (spelled_high f _, (spelled_high f _, tt)))
names_high f Two place r i n =
    all_joined (IsNameIn f) (symbol_names f i _ r.declaration.symbol) _ (symbols_high f i _ r.declaration.symbol)
    (key_high f _, tt)

keys_high : (f : ℕ) (o : Option ResourceId) → AllOf (IsNameIn f) (key_asks f o)
keys_high f None = tt
keys_high f (Some k) = (key_high f k, tt)

one_high : (f : ℕ) (b : Bool) (x : List ℕ) → AllOf (IsNameIn f) (asks_in_one f b x)
one_high f true x = (loop_high f (fold x), tt)
one_high f false x = (spelled_high f (fold x), keys_high f (id_key x))

value_high : (f : ℕ) (form : Form) (t : Option TemplateTree) (v : Json) → AllOf (IsNameIn f) (value_asks f form t v)
value_high f One t (text x) = one_high f (is_loop x t) x
value_high f Two t (text x) = (symbolic_high f x, keys_high f (id_key x))
value_high f form t null = tt
value_high f form t (bool b) = tt
value_high f form t (int z) = tt
value_high f form t (array xs) = tt
value_high f form t (object ms) = tt

values_high : (f : ℕ) (form : Form) (t : Option TemplateTree) (vs : List Json)
    → AllOf (IsNameIn f) (values_ask f form t vs)
values_high f form t [] = tt
values_high f form t (v ∷ vs) =
    all_joined (IsNameIn f) (value_asks f form t v) (values_ask f form t vs) (value_high f form t v)
    (values_high f form t vs)

-- ---- the tags of a task

module _ (d : Deployment) (number : Position → ℕ) (P : Position → Type 0) (apart : IsNumbering number P) where
  instance_tags : (f : ℕ → ℕ) (p : Position) (s : Step) (o : Option ResourceCopy) → P p
      → AllOf (IsTagOf P) (by_copy f p s o)
  instance_tags f p s None h = tt
  instance_tags f p s (Some c) h = by_kind c.batches
    where
      by_kind : (b : Batches) → AllOf (IsTagOf P) (by_batch f p s b)
      by_kind Parallel = tt
      by_kind (Serial size) = (h, tt)

  abbrev looped : Position → Step → Option ResourceCopy
  looped p s = copy_of d (resource_of d.template p s.resource)

  parents_in : (l : ResourceId) (ts ns : List (List ℕ)) → AllOf (IsTagOf P) (parent_by l ts ns)
  parents_in l [] ns = tt
  parents_in l (x ∷ xs) [] = tt
  parents_in l (x ∷ xs) (y ∷ ys) = (tt, tt)

  asks_in : (u : Task) → IsTaskIn P u → AllOf (IsTagOf P) (asks_of d u)
  asks_in (enter []) h = tt
  asks_in (enter (s ∷ p)) h = (
    h.1,
    all_joined (IsTagOf P) (by_copy (λ n. n) p s (looped p s)) [] (instance_tags (λ n. n) p s
        (looped p s) h.1) tt,
  )
  asks_in (leave []) h = (h, (h, tt))
  asks_in (leave (s ∷ p)) h = (h.1, (h.0, (h.0, tt)))
  asks_in (put p s) h =
      (h, all_joined (IsTagOf P) (by_copy (λ n. n) p s (looped p s)) [] (instance_tags (λ n. n) p s (looped p s) h) tt)
  asks_in (delete k) h = (tt, (tt, tt))

  tags_in : (v : Task) → IsTaskIn P v → AllOf (IsTagOf P) (tags_of d v)
  tags_in (enter []) h = (h, tt)
  tags_in (enter (s ∷ p)) h = (h.0, (h.1, tt))
  tags_in (leave []) h = (tt, tt)
  tags_in (leave (s ∷ p)) h = (
    h.1,
    all_joined (IsTagOf P) (by_copy (λ n. suc n) p s (looped p s)) []
        (instance_tags (λ n. suc n) p s (looped p s) h.1) tt,
  )
  tags_in (put p s) h = (
    h,
    all_joined (IsTagOf P) (by_copy (λ n. suc n) p s (looped p s)) []
        (instance_tags (λ n. suc n) p s (looped p s) h) tt,
  )
  tags_in (delete l) h = parents_in l l.types l.names

  one_coded : (a : Tag) (ts : List Tag) → IsTagOf P a → AllOf (IsTagOf P) ts
      → list_any (bytes_eq (code number a)) (map (code number) ts) ≡ list_any (same_tag a) ts
  one_coded a [] h k = refl
  one_coded a (t ∷ ts) h k = ap₂ (λ x y. x || y) (tag_eq number P apart a t h k.0) (one_coded a ts h k.1)

  all_coded : (asks ts : List Tag) → AllOf (IsTagOf P) asks → AllOf (IsTagOf P) ts
      → shares (map (code number) asks) (map (code number) ts) ≡ plain.shares asks ts
  all_coded [] ts h k = refl
  all_coded (a ∷ asks) ts h k = ap₂ (λ x y. x || y) (one_coded a ts h.0 k) (all_coded asks ts h.1 k)

  order_coded : (u v : Task) → IsTaskIn P u → IsTaskIn P v
      → shares (map (code number) (asks_of d u)) (map (code number) (tags_of d v)) ≡ needs_by_order d u v
  order_coded u v h k = all_coded (asks_of d u) (tags_of d v) (asks_in u h) (tags_in v k) ∙ sym (by_tags d u v)

  -- ---- what is read of names

  module _ (q : Table) where
    one_then : {A B : Type 0} (r : Reads A) (f : A → Reads B)
        → told q (continued r f) ≡ and_then (told q r) (λ x. told q (f x))
    one_then {A} {B} r f = told-continued Cell Json A B q r f

    is_pure : {A : Type 0} (x : A) → told q (pure {C = Cell} {J = Json} x) ≡ value x
    unfolding told
    is_pure x = refl

    read_then : {A : Type 0} (c : Cell) (v : Json) (f : Json → Reads A) → q c ≡ known v
        → told q (continued (read c) f) ≡ told q (f v)
    unfolding told continued
    read_then c v f e = ap (by_entry c (λ o. told q (onward o f))) e

    value_then : {A : Type 0} (r : Reads Json) (v : Json) (f : Json → Reads A) → told q r ≡ value v
        → told q (continued r f) ≡ told q (f v)
    value_then r v f e = one_then r f ∙ ap (λ x. and_then x (λ y. told q (f y))) e

    abbrev named_by : Position → ℕ → List ℕ → Listed → List Json → Bool
    named_by p i n x vs =
        list_any (λ v. value_names (form_at (template_at d.template p)) d.place (template_at d.template p) v x i
        (text n)) vs

    one_told : (p : Position) (s other : Step) (j v : Json) (x : Listed) (n : List ℕ)
        → told q (reading_at d.template d.place (body_site d.template p s) (tree_value j)) ≡ value v
        → q (name p other) ≡ known (text n)
        → told q (element_names d p s j other x)
        ≡ value (value_names (form_at (template_at d.template p)) d.place (template_at d.template p) v x other.copy
        (text n))
    one_told p s other j v x n e h =
        value_then (reading_at d.template d.place (body_site d.template p s) (tree_value j)) v
        (λ w. continued (read (name p other)) (λ m.
        pure (value_names (form_at (template_at d.template p)) d.place (template_at d.template p) w x other.copy m))) e
        ∙ read_then (name p other) (text n) (λ m.
        pure (value_names (form_at (template_at d.template p)) d.place (template_at d.template p) v x other.copy m)) h
        ∙ is_pure (value_names (form_at (template_at d.template p)) d.place
        (template_at d.template p) v x other.copy (text n))

    else_told : (b c : Bool) (r : Reads Bool) → told q r ≡ value c → told q (or_else d b r) ≡ value (b || c)
    else_told true c r e = is_pure true
    else_told false c r e = e

    elements_told : (p : Position) (s other : Step) (js vs : List Json) (x : Listed) (n : List ℕ)
        → AreRead d q p s js vs → q (name p other) ≡ known (text n)
        → told q (elements_name d p s js other x) ≡ value (named_by p other.copy n x vs)
    elements_told p s other [] [] x n a h = is_pure false
    elements_told p s other [] (v ∷ vs) x n a h = absurd a
    elements_told p s other (j ∷ js) [] x n a h = absurd a
    elements_told p s other (j ∷ js) (v ∷ vs) x n a h =
        let b = value_names (form_at (template_at d.template p)) d.place (template_at d.template p) v x other.copy
        (text n) in
        one_then (element_names d p s j other x) (λ c. or_else d c (elements_name d p s js other x))
        ∙ ap (λ y. and_then y (λ c. told q (or_else d c (elements_name d p s js other x))))
        (one_told p s other j v x n a.0 h)
        ∙ else_told b (named_by p other.copy n x vs) (elements_name d p s js other x)
        (elements_told p s other js vs x n a.1 h)

    depends_told : (p : Position) (s other : Step) (vs : List Json) (i : IsDepending d q (p, s) vs)
        (j : IsNamed d q (p, other)) → told q (depends d p s other) ≡ value (named_by p other.copy j.title j.listed vs)
    depends_told p s other vs i j =
        ap₂ (λ a b. told q (depends_by d p s other a b)) i.is_listed j.is_listed
        ∙ elements_told p s other i.listed.declaration.depends_on vs j.listed j.title i.are_read j.has_name

    -- ---- by the numbers of names

    values_named : (f g : ℕ) (form : Form) (t : Option TemplateTree) (vs : List Json) (x : Listed) (i : ℕ) (n : List ℕ)
        → shares (values_ask f form t vs) (names_of g form d.place x i n)
        ≡ (nat_eq f g && list_any (λ v. value_names form d.place t v x i (text n)) vs)
    values_named f g form t [] x i n = sym (and_false_is (nat_eq f g))
    values_named f g form t (v ∷ vs) x i n =
        shares_left (value_asks f form t v) (values_ask f form t vs) (names_of g form d.place x i n)
        ∙ ap₂ (λ a b. a || b) (value_named f g d.place x i n form t v) (values_named f g form t vs x i n)
        ∙ sym (and_or (nat_eq f g) (value_names form d.place t v x i (text n))
        (list_any (λ w. value_names form d.place t w x i (text n)) vs))

    names_are : (i : Instance) (j : IsNamed d q i)
        → instance_names d number q (Some i)
        ≡ names_of (number i.0) (form_at (template_at d.template i.0)) d.place j.listed i.1.copy j.title
    names_are i j =
        ap₂ (λ k o. listed_names d number i.0 i.1 (title_in k) o) j.has_name j.is_listed

    here : (p r : Position) (s other : Step) (vs : List Json) → p ≡ r → IsDepending d q (p, s) vs
        → (j : IsNamed d q (r, other))
        → told q (depends d p s other) ≡ value (shares (instance_asks d number (Some (p, s)) vs)
        (instance_names d number q (Some (r, other))))
    here p r s other vs e i j =
        subst (λ (x : Position). (k : IsNamed d q (x, other))
        → told q (depends d p s other) ≡ value (shares (instance_asks d number (Some (p, s)) vs)
        (instance_names d number q (Some (x, other))))) e (λ k. same_scope k) j
      where
        same_scope : (k : IsNamed d q (p, other))
            → told q (depends d p s other) ≡ value (shares (instance_asks d number (Some (p, s)) vs)
            (instance_names d number q (Some (p, other))))
        same_scope k =
            depends_told p s other vs i k
            ∙ ap value (sym (
            ap (shares (instance_asks d number (Some (p, s)) vs)) (names_are (p, other) k)
            ∙ values_named (number p) (number p) (form_at (template_at d.template p))
            (template_at d.template p) vs k.listed
            other.copy k.title
            ∙ ap (λ b. b && named_by p other.copy k.title k.listed vs) (eq_itself (number p))))

    elsewhere : (p r : Position) (s other : Step) (vs : List Json) → nat_eq (number p) (number r) ≡ false
        → (j : IsNamed d q (r, other))
        → shares (instance_asks d number (Some (p, s)) vs) (instance_names d number q (Some (r, other))) ≡ false
    elsewhere p r s other vs e j =
        ap (shares (instance_asks d number (Some (p, s)) vs)) (names_are (r, other) j)
        ∙ none_shared (IsNameIn (number p)) (IsNameIn (number r)) (other_scope (number p) (number r) e)
        (instance_asks d number (Some (p, s)) vs)
        (names_of (number r) (form_at (template_at d.template r)) d.place j.listed other.copy j.title)
        (values_high (number p) (form_at (template_at d.template p)) (template_at d.template p) vs)
        (names_high (number r) (form_at (template_at d.template r)) d.place j.listed other.copy j.title)

    instances_told : (i j : Instance) (vs : List Json) → P i.0 → P j.0 → IsDepending d q i vs → IsNamed d q j
        → told q (depends_on d (Some i) (Some j))
        ≡ value (shares (instance_asks d number (Some i) vs) (instance_names d number q (Some j)))
    instances_told i j vs h k a b = by_test (same_position i.0 j.0) refl
      where
        by_test : (c : Bool) → same_position i.0 j.0 ≡ c
            → told q (if c then depends d i.0 i.1 j.1 else pure false)
            ≡ value (shares (instance_asks d number (Some i) vs) (instance_names d number q (Some j)))
        by_test true e = here i.0 j.0 i.1 j.1 vs (position_is i.0 j.0 e) a b
        by_test false e =
            is_pure false
            ∙ ap value (sym (elsewhere i.0 j.0 i.1 j.1 vs (apart i.0 j.0 h k ∙ e) b))

    abbrev InScope : Option Instance → Type 0
    InScope None = Unit {0}
    InScope (Some i) = P i.0

    starts_in : (u : Task) → IsTaskIn P u → InScope (started u)
    starts_in (enter []) h = tt
    starts_in (enter (s ∷ p)) h = h.1
    starts_in (leave p) h = tt
    starts_in (put p s) h = h
    starts_in (delete k) h = tt

    ends_in : (v : Task) → IsTaskIn P v → InScope (ended v)
    ends_in (enter p) h = tt
    ends_in (leave []) h = tt
    ends_in (leave (s ∷ p)) h = h.1
    ends_in (put p s) h = h
    ends_in (delete k) h = tt

    depends_on_told : (i j : Option Instance) (vs : List Json) → InScope i → InScope j → AreDepending d q i vs
        → MayBeNamed d q j
        → told q (depends_on d i j) ≡ value (shares (instance_asks d number i vs) (instance_names d number q j))
    depends_on_told None j vs h k a b = is_pure false
    depends_on_told (Some i) None vs h k a b =
        is_pure false ∙ ap value (sym (nothing_shared (instance_asks d number (Some i) vs)))
    depends_on_told (Some i) (Some j) vs h k a b = instances_told i j vs h k a b

    asks_high : (i : Option Instance) (vs : List Json) → (f : ℕ) × AllOf (IsNameIn f) (instance_asks d number i vs)
    asks_high None vs = (0, tt)
    asks_high (Some i) vs =
        (number i.0, values_high (number i.0) (form_at (template_at d.template i.0)) (template_at d.template i.0) vs)

    listed_high : (p : Position) (s : Step) (n : List ℕ) (o : Option Listed)
        → AllOf (IsNameIn (number p)) (listed_names d number p s n o)
    listed_high p s n None = tt
    listed_high p s n (Some r) = names_high (number p) (form_at (template_at d.template p)) d.place r s.copy n

    names_all_high : (j : Option Instance) → (f : ℕ) × AllOf (IsNameIn f) (instance_names d number q j)
    names_all_high None = (0, tt)
    names_all_high (Some i) =
        (number i.0, listed_high i.0 i.1 (title_in (q (name i.0 i.1))) (resource_of d.template i.0 i.1.resource))

    all_shared : (xs bs ts us : List (List ℕ)) → shares xs us ≡ false → shares bs ts ≡ false
        → shares (xs ++ bs) (ts ++ us) ≡ (shares xs ts || shares bs us)
    all_shared xs bs ts us e h =
        shares_left xs bs (ts ++ us)
        ∙ ap₂ (λ a b. a || b)
        (shares_right xs ts us ∙ ap (λ b. shares xs ts || b) e ∙ or_false (shares xs ts))
        (shares_right bs ts us ∙ ap (λ b. b || shares bs us) h)

    needs_told : (u v : Task) (b c : Bool) → needs_by_order d u v ≡ b → told q (depends_on d (started u) (ended v))
        ≡ value c
        → told q (needs d u v) ≡ value (b || c)
    unfolding needs
    needs_told u v true c e h =
        ap (λ x. told q (if x then pure true else depends_on d (started u) (ended v))) e ∙ is_pure true
    needs_told u v false c e h =
        ap (λ x. told q (if x then pure true else depends_on d (started u) (ended v))) e ∙ h

    pub needs_coded : (u v : Task) (vs : List Json) → IsTaskIn P u → IsTaskIn P v → AreDepending d q (started u) vs
        → MayBeNamed d q (ended v)
        → told q (needs d u v) ≡ value (shares (task_asks d number u vs) (task_tags d number q v))
    needs_coded u v vs h k a b =
        let asks = map (code number) (asks_of d u) in
        let tags = map (code number) (tags_of d v) in
        let names = instance_asks d number (started u) vs in
        let titles = instance_names d number q (ended v) in
        let high = names_all_high (ended v) in
        let asked = asks_high (started u) vs in
        needs_told u v (needs_by_order d u v) (shares names titles) refl
        (depends_on_told (started u) (ended v) vs (starts_in u h) (ends_in v k) a b)
        ∙ ap (λ x. value (x || shares names titles)) (sym (order_coded u v h k))
        ∙ ap value (sym (all_shared asks names tags titles
        (none_shared IsCode (IsNameIn high.0) (code_no_name high.0) asks titles (codes_low number (asks_of d u)) high.1)
        (none_shared (IsNameIn asked.0) IsCode (name_no_code asked.0) names tags asked.1 (codes_low number
        (tags_of d v)))))
