-- A value names an instance of its scope exactly where it asks for one of its names.
use Rattle.std.proofs.Common.{◌≡◌, ℕ, Bool, true, false, List, [], ◌∷◌, ◌++◌, Option, Some, None, refl, ap, ap₂, ◌∙◌}
use Rattle.std.specs.Prelude.{nat_eq, ◌&&◌, ◌||◌, bytes_eq}
use Rattle.std.specs.List.{list_any}
use Rattle.foundation.proofs.Comparisons.{eq_itself}
use Rattle.foundation.proofs.TruthValues.{and_false_is}
use Rattle.arm_value.specs.Json.{Json, null, bool, int, text, array, object}
use Rattle.arm_value.specs.Look.{fold}
use Rattle.arm_ids.specs.declared.id.Place.{Place}
use Rattle.arm_ids.specs.declared.id.ResourceId.{ResourceId}
use Rattle.arm_env.specs.Find.{id_key}
use Rattle.arm_eval.specs.Titles.{element}
use Rattle.template_parts.specs.declared.looping.ResourceCopy.{ResourceCopy}
use Rattle.template_parts.specs.declared.mode.Form.{Form}
use Rattle.template_parts.specs.declared.mode.Form.TheVariants.{One, Two}
use Rattle.template_tree.specs.Tree.{TemplateTree}
use Rattle.tag_needs.specs.Tags.{shares}
use Rattle.key_tags.specs.KeyCodes.{key_code}
use Rattle.plan_cells.specs.Resources.{Listed}
use Rattle.plan_cells.specs.Needs.{is_loop, value_names}
use Rattle.plan_codes.specs.NameCodes.{loop_code, keyed, spelled, symbolic, loop_names, symbol_names, names_of}
use Rattle.plan_codes.specs.NameCodes.{key_asks, asks_in_one, value_asks}
use Rattle.plan_codes.proofs.NameLemmas.{value_named}

pub nothing_shared : (xs : List (List ℕ)) → shares xs [] ≡ false
nothing_shared [] = refl
nothing_shared (x ∷ xs) = nothing_shared xs

-- ---- names of another scope

abbrev AllOf : (List ℕ → Type 0) → List (List ℕ) → Type 0
AllOf P [] = Unit {0}
AllOf P (x ∷ xs) = P x × AllOf P xs

all_joined : (P : List ℕ → Type 0) (xs ys : List (List ℕ)) → AllOf P xs → AllOf P ys → AllOf P (xs ++ ys)
all_joined P [] ys h k = k
all_joined P (x ∷ xs) ys h k = (h.0, all_joined P xs ys h.1 k)

-- a name in the scope number f
record IsNameIn (f : ℕ) (x : List ℕ) : Type 0 where
  sort : ℕ
  rest : List ℕ
  is : x ≡ sort ∷ f ∷ rest

module _ (f g : ℕ) (apart : nat_eq f g ≡ false) where
  not_equal : (x y : List ℕ) → IsNameIn f x → IsNameIn g y → bytes_eq x y ≡ false
  not_equal x y h k =
      ap₂ bytes_eq h.is k.is
      ∙ ap (λ b. nat_eq h.sort k.sort && (b && bytes_eq h.rest k.rest)) apart
      ∙ and_false_is (nat_eq h.sort k.sort)

  none_equal : (x : List ℕ) (ys : List (List ℕ)) → IsNameIn f x → AllOf (IsNameIn g) ys
      → list_any (bytes_eq x) ys ≡ false
  none_equal x [] h k = refl
  none_equal x (y ∷ ys) h k = ap (λ b. b || list_any (bytes_eq x) ys) (not_equal x y h k.0) ∙ none_equal x ys h k.1

  none_shared : (xs ys : List (List ℕ)) → AllOf (IsNameIn f) xs → AllOf (IsNameIn g) ys → shares xs ys ≡ false
  none_shared [] ys h k = refl
  none_shared (x ∷ xs) ys h k = ap (λ b. b || shares xs ys) (none_equal x ys h.0 k) ∙ none_shared xs ys h.1 k

loop_in : (f : ℕ) (x : List ℕ) → IsNameIn f (loop_code f x)
loop_in f x = record { sort = 5; rest = x; is = refl }

key_in_scope : (f : ℕ) (k : ResourceId) → IsNameIn f (keyed f k)
key_in_scope f k = record { sort = 6; rest = key_code k; is = refl }

spelled_in : (f : ℕ) (x : List ℕ) → IsNameIn f (spelled f x)
spelled_in f x = record { sort = 7; rest = x; is = refl }

symbolic_in : (f : ℕ) (x : List ℕ) → IsNameIn f (symbolic f x)
symbolic_in f x = record { sort = 8; rest = x; is = refl }

loops_in : (f : ℕ) (o : Option ResourceCopy) → AllOf (IsNameIn f) (loop_names f o)
loops_in f None = tt
loops_in f (Some c) = (loop_in f (fold c.name), tt)

symbols_in : (f i : ℕ) (looped : Bool) (o : Option (List ℕ)) → AllOf (IsNameIn f) (symbol_names f i looped o)
symbols_in f i looped None = tt
symbols_in f i true (Some x) = (symbolic_in f x, (symbolic_in f (element x i), tt))
symbols_in f i false (Some x) = (symbolic_in f x, tt)

names_in_scope : (f : ℕ) (form : Form) (place : Place) (r : Listed) (i : ℕ) (n : List ℕ)
    → AllOf (IsNameIn f) (names_of f form place r i n)
names_in_scope f One place r i n =
    all_joined (IsNameIn f) (loop_names f r.declaration.copy) _ (loops_in f r.declaration.copy)
    (key_in_scope f _, (spelled_in f _, (spelled_in f _, tt)))
names_in_scope f Two place r i n =
    all_joined (IsNameIn f) (symbol_names f i _ r.declaration.symbol) _ (symbols_in f i _ r.declaration.symbol)
    (key_in_scope f _, tt)

keys_in : (f : ℕ) (o : Option ResourceId) → AllOf (IsNameIn f) (key_asks f o)
keys_in f None = tt
keys_in f (Some k) = (key_in_scope f k, tt)

one_in : (f : ℕ) (b : Bool) (x : List ℕ) → AllOf (IsNameIn f) (asks_in_one f b x)
one_in f true x = (loop_in f (fold x), tt)
one_in f false x = (spelled_in f (fold x), keys_in f (id_key x))

asks_in_scope : (f : ℕ) (form : Form) (t : Option TemplateTree) (v : Json)
    → AllOf (IsNameIn f) (value_asks f form t v)
asks_in_scope f One t (text x) = one_in f (is_loop x t) x
asks_in_scope f Two t (text x) = (symbolic_in f x, keys_in f (id_key x))
asks_in_scope f form t null = tt
asks_in_scope f form t (bool b) = tt
asks_in_scope f form t (int z) = tt
asks_in_scope f form t (array xs) = tt
asks_in_scope f form t (object ms) = tt

-- a value asks for no name of an instance of another scope
pub elsewhere : (f g : ℕ) → nat_eq f g ≡ false → (form other : Form) (place : Place) (t : Option TemplateTree)
    (v : Json) (r : Listed) (i : ℕ) (n : List ℕ) → shares (value_asks f form t v) (names_of g other place r i n) ≡ false
elsewhere f g apart form other place t v r i n =
    none_shared f g apart (value_asks f form t v) (names_of g other place r i n) (asks_in_scope f form t v)
    (names_in_scope g other place r i n)

-- ---- names of the same scope

pub named_here : (f : ℕ) (form : Form) (place : Place) (t : Option TemplateTree) (v : Json) (r : Listed) (i : ℕ)
    (n : List ℕ)
    → shares (value_asks f form t v) (names_of f form place r i n) ≡ value_names form place t v r i (text n)
named_here f form place t v r i n =
    value_named f f place r i n form t v ∙ ap (λ b. b && value_names form place t v r i (text n)) (eq_itself f)

-- ---- what was listed after nothing

pub with_none : (old new names : List (List ℕ)) → old ≡ [] → new ≡ old ++ names → new ≡ names
with_none old new names e h = h ∙ ap (λ ts. ts ++ names) e
