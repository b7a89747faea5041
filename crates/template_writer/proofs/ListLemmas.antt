-- Loops that write the parts of a list one after another.
use Rattle.std.proofs.Common.{◌≡◌, ◌<◌, ◌≤◌, ◌+◌, ℕ, zero, suc, length, get_or, take, drop, List, [], ◌∷◌, ◌++◌, map}
use Rattle.std.proofs.Common.{refl, sym, ap, ap₂, ◌∙◌, subst, arith, add-one}
use Rattle.std.proofs.lemmas.List.{take_all, drop_all, append-nil}
use Rattle.std.specs.List.Sorted.{IsStrictlySortedBy}
use Rattle.foundation.proofs.Lists.{next_item}
use Rattle.arm_value.specs.Json.{Json, Member, keys, key_cmp, nesting, items_nesting, members_nesting, IsInOrder}
use Rattle.arm_value.specs.View.{json}
use Rattle.arm_value.specs.declared.value.Value.{Value}
use Rattle.arm_value.proofs.GatherLemmas.{front_in_order, append_one}
use Rattle.arm_value.proofs.JsonLemmas.{map-take, map-take-more, IsInOrder-take}
use Rattle.template_parts.specs.declared.content.Content.{Content}
use Rattle.template_parts.specs.declared.content.Content.TheVariants as content
use Rattle.template_parts.specs.declared.variable.Variable.{Variable}
use Rattle.template_written.specs.Parts.{named_loop, plain_before, plain_variables, loop_before, variable_loops}

-- ---- a list of which each part is written as a member, or as an item

-- the member that a part is nests no deeper than the deepest
pub member_in : {A : Type 0} (f : A → Member) (xs : List A) (i : ℕ) (x : A) (n : ℕ) → i < length xs → x ≡ get_or xs i x
    → members_nesting (map f xs) ≤ n → nesting (f x).1 ≤ n
member_in f [] i x n h e d = absurd (omega arith)
member_in f (y ∷ xs) zero x n h e d = omega (arith, d, ap (λ z. nesting (f z).1) e)
member_in f (y ∷ xs) (suc i) x n h e d = member_in f xs i x n (omega arith) e (omega (arith, d))

pub item_in : {A : Type 0} (f : A → Json) (xs : List A) (i : ℕ) (x : A) (n : ℕ) → i < length xs → x ≡ get_or xs i x
    → items_nesting (map f xs) ≤ n → nesting (f x) ≤ n
item_in f [] i x n h e d = absurd (omega arith)
item_in f (y ∷ xs) zero x n h e d = omega (arith, d, ap (λ z. nesting (f z)) e)
item_in f (y ∷ xs) (suc i) x n h e d = item_in f xs i x n (omega arith) e (omega (arith, d))

-- one part more
pub part_more : {A T : Type 0} (f : A → T) (made new : List T) (xs : List A) (i : ℕ) (x : A) (y : T)
    → made ≡ map f (take i xs) → i < length xs → x ≡ get_or xs i x → y ≡ f x → new ≡ made ++ y ∷ []
    → new ≡ map f (take (i + 1) xs)
part_more f made new xs i x y a h is s n =
    n ∙ ap₂ (λ ps z. ps ++ z ∷ []) a s ∙ sym (rw add-one (map-take-more f xs i x h is))

-- the members so far and the next are in order
pub part_last : {A : Type 0} (f : A → Member) (made : List Member) (xs : List A) (i : ℕ) (x : A) (m : Member)
    → IsInOrder (map f xs) → made ≡ map f (take i xs) → i < length xs → x ≡ get_or xs i x → m ≡ f x
    → IsInOrder (made ++ m ∷ [])
part_last f made xs i x m o a h is s =
    subst IsInOrder (sym (part_more f made (made ++ m ∷ []) xs i x m a h is s refl ∙ map-take f xs (i + 1)))
    (IsInOrder-take (map f xs) (i + 1) o)

pub part_all : {A T : Type 0} (f : A → T) (made : List T) (xs : List A) (i : ℕ) → made ≡ map f (take i xs)
    → length xs ≤ i → made ≡ map f xs
part_all f made xs i a h = a ∙ ap (map f) (take_all i xs h)

-- parts whose names are in order are members in order
pub in_order : {A : Type 0} (f : A → Member) (name : A → List ℕ) (xs : List A) → ((x : A) → (f x).0 ≡ name x)
    → IsStrictlySortedBy key_cmp (map name xs) → IsInOrder (map f xs)
in_order f name xs same o = subst (IsStrictlySortedBy key_cmp) (sym (names_of xs)) o
  where
    names_of : (ys : List _) → keys (map f ys) ≡ map name ys
    names_of [] = refl
    names_of (y ∷ ys) = ap₂ (λ n ns. n ∷ ns) (same y) (names_of ys)

-- ---- variables that no loop gives

append_nests : (ms : List Member) (m : Member) (ns : List Member) → nesting m.1 ≤ members_nesting (ms ++ m ∷ ns)
append_nests [] m ns = omega arith
append_nests (x ∷ ms) m ns = omega (arith, append_nests ms m ns)

plain_at : (all made : List Member) (vs : List Variable) (i : ℕ) (v : Variable) (x : Value)
    → all ≡ made ++ plain_variables (drop i vs) → i < length vs → v ≡ get_or vs i v → v.content ≡ content.Value x
    → all ≡ made ++ (v.name, json x) ∷ plain_variables (drop (i + 1) vs)
plain_at all made vs i v x a h is c =
    a ∙ ap (λ ds. made ++ plain_variables ds) (next_item vs i v h is)
    ∙ ap (λ (k : Content). made ++ plain_before v.name k (plain_variables (drop (i + 1) vs))) c

pub plain_nests : (all made : List Member) (vs : List Variable) (i : ℕ) (v : Variable) (x : Value) (n : ℕ)
    → all ≡ made ++ plain_variables (drop i vs) → i < length vs → v ≡ get_or vs i v → v.content ≡ content.Value x
    → members_nesting all ≤ n → nesting (json x) ≤ n
plain_nests all made vs i v x n a h is c d =
    omega (
      arith,
      d,
      ap members_nesting (plain_at all made vs i v x a h is c),
      append_nests made (v.name, json x) (plain_variables (drop (i + 1) vs)),
    )

pub plain_last : (all made : List Member) (vs : List Variable) (i : ℕ) (v : Variable) (x : Value)
    → all ≡ made ++ plain_variables (drop i vs) → i < length vs → v ≡ get_or vs i v → v.content ≡ content.Value x
    → IsInOrder all → IsInOrder (made ++ (v.name, json x) ∷ [])
plain_last all made vs i v x a h is c o =
    front_in_order (made ++ (v.name, json x) ∷ []) (plain_variables (drop (i + 1) vs))
    (subst IsInOrder (plain_at all made vs i v x a h is c
    ∙ append_one made (plain_variables (drop (i + 1) vs)) (v.name, json x)) o)

pub plain_more : (all made new : List Member) (vs : List Variable) (i : ℕ) (v : Variable) (x : Value)
    → all ≡ made ++ plain_variables (drop i vs) → i < length vs → v ≡ get_or vs i v → v.content ≡ content.Value x
    → new ≡ made ++ (v.name, json x) ∷ [] → all ≡ new ++ plain_variables (drop (i + 1) vs)
plain_more all made new vs i v x a h is c n =
    plain_at all made vs i v x a h is c ∙ append_one made (plain_variables (drop (i + 1) vs)) (v.name, json x)
    ∙ ap (λ ms. ms ++ plain_variables (drop (i + 1) vs)) (sym n)

pub plain_left : (all made : List Member) (vs : List Variable) (i : ℕ) (v : Variable) (count input : Value)
    → all ≡ made ++ plain_variables (drop i vs) → i < length vs → v ≡ get_or vs i v
    → v.content ≡ content.Copy count input → all ≡ made ++ plain_variables (drop (i + 1) vs)
plain_left all made vs i v count input a h is c =
    a ∙ ap (λ ds. made ++ plain_variables ds) (next_item vs i v h is)
    ∙ ap (λ (k : Content). made ++ plain_before v.name k (plain_variables (drop (i + 1) vs))) c

pub plain_all : (all made : List Member) (vs : List Variable) (i : ℕ) → all ≡ made ++ plain_variables (drop i vs)
    → length vs ≤ i → made ≡ all
plain_all all made vs i a h =
    sym (a ∙ ap (λ ds. made ++ plain_variables ds) (drop_all i vs h) ∙ append-nil made)

-- ---- the loops that give the other variables

items_append_nests : (js : List Json) (j : Json) (ks : List Json) → nesting j ≤ items_nesting (js ++ j ∷ ks)
items_append_nests [] j ks = omega arith
items_append_nests (x ∷ js) j ks = omega (arith, items_append_nests js j ks)

loop_at : (all made : List Json) (vs : List Variable) (i : ℕ) (v : Variable) (count input : Value)
    → all ≡ made ++ variable_loops (drop i vs) → i < length vs → v ≡ get_or vs i v
    → v.content ≡ content.Copy count input
    → all ≡ made ++ named_loop v.name (json count) (json input) ∷ variable_loops (drop (i + 1) vs)
loop_at all made vs i v count input a h is c =
    a ∙ ap (λ ds. made ++ variable_loops ds) (next_item vs i v h is)
    ∙ ap (λ (k : Content). made ++ loop_before v.name k (variable_loops (drop (i + 1) vs))) c

pub loop_nests : (all made : List Json) (vs : List Variable) (i : ℕ) (v : Variable) (count input : Value) (n : ℕ)
    → all ≡ made ++ variable_loops (drop i vs) → i < length vs → v ≡ get_or vs i v
    → v.content ≡ content.Copy count input → items_nesting all ≤ n
    → nesting (named_loop v.name (json count) (json input)) ≤ n
loop_nests all made vs i v count input n a h is c d =
    omega (
      arith,
      d,
      ap items_nesting (loop_at all made vs i v count input a h is c),
      items_append_nests made (named_loop v.name (json count) (json input)) (variable_loops (drop (i + 1) vs)),
    )

pub loop_more : (all made new : List Json) (vs : List Variable) (i : ℕ) (v : Variable) (count input : Value)
    → all ≡ made ++ variable_loops (drop i vs) → i < length vs → v ≡ get_or vs i v
    → v.content ≡ content.Copy count input → new ≡ made ++ named_loop v.name (json count) (json input) ∷ []
    → all ≡ new ++ variable_loops (drop (i + 1) vs)
loop_more all made new vs i v count input a h is c n =
    loop_at all made vs i v count input a h is c
    ∙ append_one made (variable_loops (drop (i + 1) vs)) (named_loop v.name (json count) (json input))
    ∙ ap (λ js. js ++ variable_loops (drop (i + 1) vs)) (sym n)

pub loop_left : (all made : List Json) (vs : List Variable) (i : ℕ) (v : Variable) (x : Value)
    → all ≡ made ++ variable_loops (drop i vs) → i < length vs → v ≡ get_or vs i v → v.content ≡ content.Value x
    → all ≡ made ++ variable_loops (drop (i + 1) vs)
loop_left all made vs i v x a h is c =
    a ∙ ap (λ ds. made ++ variable_loops ds) (next_item vs i v h is)
    ∙ ap (λ (k : Content). made ++ loop_before v.name k (variable_loops (drop (i + 1) vs))) c

pub loop_all : (all made : List Json) (vs : List Variable) (i : ℕ) → all ≡ made ++ variable_loops (drop i vs)
    → length vs ≤ i → made ≡ all
loop_all all made vs i a h =
    sym (a ∙ ap (λ ds. made ++ variable_loops ds) (drop_all i vs h) ∙ append-nil made)
