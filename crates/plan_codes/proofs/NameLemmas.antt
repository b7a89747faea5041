-- Values of elements of `dependsOn` ask for the names of the instances that they name.
use Rattle.std.proofs.Common.{◌≡◌, ℕ, Bool, true, false, List, [], ◌∷◌, ◌++◌, Option, Some, None, refl, sym, ap, ◌∙◌}
use Rattle.std.specs.Prelude.{nat_eq, ◌&&◌, ◌||◌, bytes_eq, is_some, if◌then◌else◌}
use Rattle.arm_value.specs.Json.{Json, null, bool, int, text, array, object}
use Rattle.arm_value.specs.Look.{fold, is_same_folded}
use Rattle.arm_ids.specs.Segments.{joined}
use Rattle.arm_ids.specs.declared.id.Place.{Place}
use Rattle.arm_ids.specs.declared.id.ResourceId.{ResourceId}
use Rattle.arm_env.specs.Find.{id_key}
use Rattle.plan_tags.specs.Titles.{element}
use Rattle.template_parts.specs.declared.looping.ResourceCopy.{ResourceCopy}
use Rattle.template_parts.specs.declared.mode.Form.{Form}
use Rattle.template_parts.specs.declared.mode.Form.TheVariants.{One, Two}
use Rattle.template_tree.specs.Tree.{TemplateTree}
use Rattle.deploy_cells.specs.Puts.{key_at}
use Rattle.deploy_cells.specs.Same.{same_id}
use Rattle.plan_tags.specs.Resources.{Listed}
use Rattle.plan_tags.specs.Needs.{has_loop, is_loop, is_id_of, names_in_one, is_symbol, is_element, names_in_two, value_names}
use Rattle.tag_needs.specs.Tags.{shares}
use Rattle.key_tags.specs.KeyCodes.{key_code}
use Rattle.plan_codes.specs.NameCodes.{loop_code, keyed, spelled, symbolic, loop_names, symbol_names, names_of}
use Rattle.plan_codes.specs.NameCodes.{key_asks}
use Rattle.plan_codes.specs.NameCodes.{value_asks}
use Rattle.key_tags.proofs.CodeLemmas.{key_eq}
use Rattle.foundation.proofs.TruthValues.{or_false_twice, and_false_is}

-- ---- in the first form

abbrev pub loop_is : List ℕ → Option ResourceCopy → Bool
loop_is x None = false
loop_is x (Some c) = is_same_folded x c.name

pub has_loop_is : (x : List ℕ) (r : Listed) (o : Option ResourceCopy) →
    r.declaration.copy ≡ o → has_loop x r ≡ loop_is x o
has_loop_is x r None e = rw e refl
has_loop_is x r (Some c) e = rw e refl

abbrev id_is : Option ResourceId → ResourceId → Bool
id_is None l = false
id_is (Some k) l = same_id k l

is_id_is : (place : Place) (x : List ℕ) (r : Listed) (n : List ℕ) (o : Option ResourceId) → id_key x ≡ o
    → is_id_of place x r n ≡ id_is o (key_at place r.type n)
is_id_is place x r n None e = rw e refl
is_id_is place x r n (Some k) e = rw e refl

loops_shared : (f g : ℕ) (x : List ℕ) (o : Option ResourceCopy) (k : ResourceId) (a c : List ℕ)
    → shares (loop_code f (fold x) ∷ []) (loop_names g o ++ (keyed g k ∷ spelled g a ∷ spelled g c ∷ []))
    ≡ (nat_eq f g && loop_is x o)
loops_shared f g x None k a c = sym (and_false_is (nat_eq f g))
loops_shared f g x (Some l) k a c = or_false_twice (nat_eq f g && bytes_eq (fold x) (fold l.name))

two_spelled : (b a c : Bool) → (((b && a) || ((b && c) || false)) || false) ≡ (b && (false || (a || c)))
two_spelled true true c = refl
two_spelled true false true = refl
two_spelled true false false = refl
two_spelled false a c = refl

key_too : (b a c s : Bool)
    → (((b && a) || ((b && c) || false)) || (((b && s) || false) || false)) ≡ (b && (s || (a || c)))
key_too true true c true = refl
key_too true true c false = refl
key_too true false true true = refl
key_too true false true false = refl
key_too true false false true = refl
key_too true false false false = refl
key_too false a c s = refl

names_shared : (f g : ℕ) (x : List ℕ) (o : Option ResourceCopy) (i : Option ResourceId) (k : ResourceId) (a c : List ℕ)
    → shares (spelled f x ∷ key_asks f i) (loop_names g o ++ (keyed g k ∷ spelled g a ∷ spelled g c ∷ []))
    ≡ (nat_eq f g && (id_is i k || (bytes_eq x a || bytes_eq x c)))
names_shared f g x None None k a c = two_spelled (nat_eq f g) (bytes_eq x a) (bytes_eq x c)
names_shared f g x (Some l) None k a c = two_spelled (nat_eq f g) (bytes_eq x a) (bytes_eq x c)
names_shared f g x None (Some j) k a c =
    key_too (nat_eq f g) (bytes_eq x a) (bytes_eq x c) (bytes_eq (key_code j) (key_code k))
    ∙ ap (λ s. nat_eq f g && (s || (bytes_eq x a || bytes_eq x c))) (key_eq j k)
names_shared f g x (Some l) (Some j) k a c =
    key_too (nat_eq f g) (bytes_eq x a) (bytes_eq x c) (bytes_eq (key_code j) (key_code k))
    ∙ ap (λ s. nat_eq f g && (s || (bytes_eq x a || bytes_eq x c))) (key_eq j k)

module _ (f g : ℕ) (place : Place) (r : Listed) (i : ℕ) (n : List ℕ) where
  abbrev key : ResourceId
  key = key_at place r.type n

  one_by : (is_loops : Bool) (x : List ℕ)
      → shares (if is_loops then loop_code f (fold x) ∷ [] else spelled f (fold x) ∷ key_asks f (id_key x))
      (loop_names g r.declaration.copy
      ++ (keyed g key ∷ spelled g (fold (r.type ++ 47 ∷ n)) ∷ spelled g (fold (joined key.names)) ∷ []))
      ≡ (nat_eq f g && names_in_one place is_loops x r (text n))
  one_by true x =
      loops_shared f g x r.declaration.copy key (fold (r.type ++ 47 ∷ n)) (fold (joined key.names))
      ∙ ap (λ b. nat_eq f g && b) (sym (has_loop_is x r r.declaration.copy refl))
  one_by false x =
      names_shared f g (fold x) r.declaration.copy (id_key x) key (fold (r.type ++ 47 ∷ n)) (fold (joined key.names))
      ∙ ap (λ b. nat_eq f g
      && (b || (is_same_folded x (r.type ++ 47 ∷ n) || is_same_folded x (joined key.names))))
      (sym (is_id_is place x r n (id_key x) refl))

  -- ---- in the second form

  symbol_alone : (b y e : Bool) → (((b && y) || ((b && e) || (false || false))) || false) ≡ (b && (y || (e || false)))
  symbol_alone true true e = refl
  symbol_alone true false true = refl
  symbol_alone true false false = refl
  symbol_alone false y e = refl

  symbol_key : (b y e s : Bool)
      → (((b && y) || ((b && e) || (false || false))) || ((false || (false || ((b && s) || false))) || false))
      ≡ (b && (y || (e || s)))
  symbol_key true true e s = refl
  symbol_key true false true s = refl
  symbol_key true false false true = refl
  symbol_key true false false false = refl
  symbol_key false y e s = refl

  plain_alone : (b y : Bool) → (((b && y) || (false || false)) || false) ≡ (b && (y || (false || false)))
  plain_alone true true = refl
  plain_alone true false = refl
  plain_alone false y = refl

  plain_key : (b y s : Bool)
      → (((b && y) || (false || false)) || ((false || ((b && s) || false)) || false)) ≡ (b && (y || (false || s)))
  plain_key true true s = refl
  plain_key true false true = refl
  plain_key true false false = refl
  plain_key false y s = refl

  symbols_shared : (x : List ℕ) (looped : Bool) (o : Option (List ℕ)) (k : Option ResourceId)
      → shares (symbolic f x ∷ key_asks f k) (symbol_names g i looped o ++ keyed g key ∷ [])
      ≡ (nat_eq f g && (is_symbol x o || (is_element x i looped o || id_is k key)))
  symbols_shared x looped None None = sym (and_false_is (nat_eq f g))
  symbols_shared x looped None (Some j) =
      or_false_twice (nat_eq f g && bytes_eq (key_code j) (key_code key)) ∙ ap (λ s. nat_eq f g && s) (key_eq j key)
  symbols_shared x true (Some y) None = symbol_alone (nat_eq f g) (bytes_eq x y) (bytes_eq x (element y i))
  symbols_shared x true (Some y) (Some j) =
      symbol_key (nat_eq f g) (bytes_eq x y) (bytes_eq x (element y i)) (bytes_eq (key_code j) (key_code key))
      ∙ ap (λ s. nat_eq f g && (bytes_eq x y || (bytes_eq x (element y i) || s))) (key_eq j key)
  symbols_shared x false (Some y) None = plain_alone (nat_eq f g) (bytes_eq x y)
  symbols_shared x false (Some y) (Some j) =
      plain_key (nat_eq f g) (bytes_eq x y) (bytes_eq (key_code j) (key_code key))
      ∙ ap (λ s. nat_eq f g && (bytes_eq x y || (false || s))) (key_eq j key)

  two_by : (x : List ℕ)
      → shares (symbolic f x ∷ key_asks f (id_key x))
      (symbol_names g i (is_some r.declaration.copy) r.declaration.symbol ++ keyed g key ∷ [])
      ≡ (nat_eq f g && names_in_two place x r i (text n))
  two_by x =
      symbols_shared x (is_some r.declaration.copy) r.declaration.symbol (id_key x)
      ∙ ap (λ b. nat_eq f g && (is_symbol x r.declaration.symbol
      || (is_element x i (is_some r.declaration.copy) r.declaration.symbol || b)))
      (sym (is_id_is place x r n (id_key x) refl))

  pub value_named : (form : Form) (t : Option TemplateTree) (v : Json)
      → shares (value_asks f form t v) (names_of g form place r i n)
      ≡ (nat_eq f g && value_names form place t v r i (text n))
  value_named One t (text x) = one_by (is_loop x t) x
  value_named Two t (text x) = two_by x
  value_named form t null = sym (and_false_is (nat_eq f g))
  value_named form t (bool b) = sym (and_false_is (nat_eq f g))
  value_named form t (int z) = sym (and_false_is (nat_eq f g))
  value_named form t (array xs) = sym (and_false_is (nat_eq f g))
  value_named form t (object ms) = sym (and_false_is (nat_eq f g))
