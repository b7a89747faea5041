-- The parts of a template that keeps the rules nest no deeper than what is written of it.
use Rattle.std.proofs.Common.{◌≡◌, ◌≤◌, ◌+◌, ◌-◌, ◌^◌, ◌||◌, ℕ, zero, suc, Bool, true, false, true≢false, chars, codes}
use Rattle.std.proofs.Common.{max, min, List, [], ◌∷◌, map, Option, Some, None, Ordering, Less, Equal, Greater}
use Rattle.std.proofs.Common.{refl, sym, ap, ◌∙◌, subst, arith, ◌&&◌, ◌⊎◌, inl, inr}
use Rattle.std.proofs.lemmas.Slice.Eq.{bytes_eq-Decides}
use Rattle.std.specs.Ordering.{match_ordering}
use Rattle.std.specs.Prelude.{option_map, is_some}
use Rattle.foundation.proofs.TruthValues.{or_true}
use Rattle.arm_value.specs.Json.{Json, text, array, object, Member, row, keys, put, key_cmp, nesting}
use Rattle.arm_value.specs.Json.{items_nesting, members_nesting}
use Rattle.arm_value.specs.Look.{fold}
use Rattle.arm_value.specs.View.{json}
use Rattle.arm_value.specs.declared.value.Value.{Value}
use Rattle.arm_value.proofs.SetLemmas.{equal_keys}
use Rattle.plain_values.specs.Plain.{written_plainly}
use Rattle.template_parts.specs.declared.content.Argument.{Argument}
use Rattle.template_parts.specs.declared.content.Content.{Content}
use Rattle.template_parts.specs.declared.content.Content.TheVariants as content
use Rattle.template_parts.specs.declared.declaration.Declaration.{Declaration}
use Rattle.template_parts.specs.declared.looping.ResourceCopy.{ResourceCopy}
use Rattle.template_parts.specs.declared.mode.Form.{Form}
use Rattle.template_parts.specs.declared.mode.Form.TheVariants.{One, Two}
use Rattle.template_parts.specs.declared.mode.Scope.{Scope}
use Rattle.template_parts.specs.declared.mode.Scope.TheVariants.{Outer, Inner}
use Rattle.template_parts.specs.declared.output.Output.{Output}
use Rattle.template_parts.specs.declared.parameter.Parameter.{Parameter}
use Rattle.template_parts.specs.declared.variable.Variable.{Variable}
use Rattle.template_tree.specs.Tree.{Header, TemplateTree, template, ResourceTree, resource, BodyTree, body_members}
use Rattle.template_tree.specs.Tree.{deployment, Trees, no_resources, a_resource}
use Rattle.template_meaning.specs.Parts.{is_copy}
use Rattle.template_meaning.specs.Resources.{is_named, is_declaring, is_beside, is_outside}
use Rattle.template_written.specs.Keeps.{Keeps, KeepEach, KeepsResource, KeepsBody, KeepsSymbol, KeepsVariables}
use Rattle.template_written.specs.Keeps.{AllInside, NoneLoops}
use Rattle.template_written.specs.Parts.{written_parameter, parameter_slots, value_slot, loop_slots, named_loop}
use Rattle.template_written.specs.Parts.{plain_before, plain_variables, loop_before, variable_loops, written_variables}
use Rattle.template_written.specs.Parts.{output_loop, output_slots, written_output, argument_loop, argument_slots}
use Rattle.template_written.specs.Parts.{written_argument, copy_slots, true_or_none, declaration_slots}
use Rattle.template_written.specs.Slots.{Slot, put_slot, put_slots, an_object, array_unless_empty, object_unless_empty}
use Rattle.template_written.specs.Slots.{NestsWithin, SlotsNest}
use Rattle.template_written.specs.Written.{written, written_each, written_by_symbol, written_resource, written_body}
use Rattle.template_written.specs.Written.{header_slots, deployment_slots, options_of, resources_by}
use Rattle.template_written.proofs.BackLemmas.{copy_word}
use Rattle.template_written.proofs.SlotLemmas.{slots_nest, are_apart, names}
use Rattle.template_nestings.specs.Nestings.{up, deepest, listed, items_or_none, value_or_none, allowed_nesting}
use Rattle.template_nestings.specs.Nestings.{parameter_nesting, loop_nesting, content_nesting, variable_nesting}
use Rattle.template_nestings.specs.Nestings.{argument_nesting, output_content, output_nesting, header_nesting}
use Rattle.template_nestings.specs.Nestings.{copy_nesting, declaration_nesting, children_nesting, scope_nesting}
use Rattle.template_nestings.specs.Nestings.{properties_nesting, template_nesting, resource_nesting, body_nesting}
use Rattle.template_nestings.specs.Nestings.{trees_nesting}
use Rattle.template_nestings.proofs.NumberLemmas.{left_of, right_of, both_of, at_least, listed_none, listed_more}
use Rattle.template_nestings.proofs.NumberLemmas.{items_none, items_more}
use Rattle.template_nestings.proofs.PartLemmas.{plainly}

-- ---- numbers

min_left : (a b n : ℕ) → a ≤ n → min a b ≤ n
min_left a b n h = omega (arith, h)

-- an array or an object nests so deep where its parts nest less
up_within : (x y n : ℕ) → ((p : ℕ) → y ≤ p → x ≤ p) → suc y ≤ n → up x ≤ n
up_within x y zero f h = absurd (omega (arith, h))
up_within x y (suc p) f h = min_left (x + 1) (2 ^ 64 - 1) (suc p) (next x p (f p (less y p h)))
  where
    less : (y p : ℕ) → suc y ≤ suc p → y ≤ p
    less y p h = omega (arith, h)

    next : (x p : ℕ) → x ≤ p → x + 1 ≤ suc p
    next x p h = omega (arith, h)

-- the object of slots
object_deep : (x n : ℕ) (ss : List Slot) → are_apart (names ss) ≡ true → ((p : ℕ) → SlotsNest p ss → x ≤ p)
    → nesting (an_object ss) ≤ n → up x ≤ n
object_deep x n ss a f h =
    up_within x (members_nesting (put_slots ss [])) n (λ p g. f p (slots_nest p ss [] a g)) h

-- ---- values

value_deep : (n : ℕ) (o : Option Value) → NestsWithin n (option_map json o) → value_or_none o ≤ n
value_deep n None h = at_least n
value_deep n (Some v) h = h

allowed_deep : (n : ℕ) (o : Option (List Json))
    → NestsWithin n (option_map (λ js. array (row (map written_plainly js))) o) → allowed_nesting o ≤ n
allowed_deep n None h = at_least n
allowed_deep n (Some js) h =
    up_within (items_nesting js) (items_nesting (map written_plainly js)) n (λ p g. subst (λ m. m ≤ p) (plainly js) g) h

array_deep : (n : ℕ) (js : List Json) → NestsWithin n (array_unless_empty js) → items_or_none js ≤ n
array_deep n [] h = subst (λ m. m ≤ n) (sym items_none) (at_least n)
array_deep n (j ∷ js) h =
    subst (λ m. m ≤ n) (sym (items_more j js))
    (up_within (items_nesting (j ∷ js)) (items_nesting (j ∷ js)) n (λ p g. g) h)

-- ---- lists

module _ {A : Type 0} (f : A → ℕ) (g : A → Member) (each : (n : ℕ) (a : A) → nesting (g a).1 ≤ n → f a ≤ n) where
  members_deep : (n : ℕ) (xs : List A) → members_nesting (map g xs) ≤ n → deepest f xs ≤ n
  members_deep n [] h = at_least n
  members_deep n (x ∷ xs) h =
      both_of (f x) (deepest f xs) n (each n x (left_of (nesting (g x).1) (members_nesting (map g xs)) n h))
      (members_deep n xs (right_of (nesting (g x).1) (members_nesting (map g xs)) n h))

  list_deep : (n : ℕ) (xs : List A) → NestsWithin n (object_unless_empty (map g xs)) → listed f xs ≤ n
  list_deep n [] h = subst (λ m. m ≤ n) (sym (listed_none f)) (at_least n)
  list_deep n (x ∷ xs) h =
      subst (λ m. m ≤ n) (sym (listed_more f x xs))
      (up_within (deepest f (x ∷ xs)) (members_nesting (map g (x ∷ xs))) n (λ p k. members_deep p (x ∷ xs) k) h)

-- ---- parameters

parameter_deep : (n : ℕ) (q : Parameter) → nesting (written_parameter q).1 ≤ n → parameter_nesting q ≤ n
parameter_deep n q h =
    let a = value_or_none q.default_value in
    let b = allowed_nesting q.allowed_values in
    let c = value_or_none q.metadata in
    object_deep (max a (max b c)) n (parameter_slots q) refl
    (λ p s. both_of a (max b c) p (value_deep p q.default_value s.1.0)
    (both_of b c p (allowed_deep p q.allowed_values s.1.1.0) (value_deep p q.metadata s.1.1.1.1.1.1.1.0))) h

-- ---- loops

loop_deep : (n : ℕ) (count input : Value) → nesting (an_object (loop_slots (json count) (json input))) ≤ n
    → loop_nesting count input ≤ n
loop_deep n count input h =
    let a = nesting (json count) in
    let b = nesting (json input) in
    object_deep (max a b) n (loop_slots (json count) (json input)) refl (λ p s. both_of a b p s.0 s.1.0) h

named_deep : (n : ℕ) (x : List ℕ) (count input : Value) → nesting (named_loop x (json count) (json input)) ≤ n
    → loop_nesting count input ≤ n
named_deep n x count input h =
    let a = nesting (json count) in
    let b = nesting (json input) in
    object_deep (max a b) n ((codes "name", Some (text x)) ∷ loop_slots (json count) (json input)) refl
    (λ p s. both_of a b p s.1.0 s.1.1.0) h

-- ---- variables

-- of an array of loops, that of each
first_loop : (n : ℕ) (j : Json) (js : List Json) → NestsWithin n (array_unless_empty (j ∷ js)) → suc (nesting j) ≤ n
first_loop n j js h = omega (arith, h)

other_loops : (n : ℕ) (j : Json) (js : List Json) → NestsWithin n (array_unless_empty (j ∷ js))
    → NestsWithin n (array_unless_empty js)
other_loops n j [] h = tt
other_loops n j (k ∷ js) h = omega (arith, h)

variable_deep : (n : ℕ) (x : List ℕ) (c : Content) (ms : List Member) (js : List Json)
    → members_nesting (plain_before x c ms) ≤ n → NestsWithin n (array_unless_empty (loop_before x c js))
    → (content_nesting c ≤ n) × ((members_nesting ms ≤ n) × NestsWithin n (array_unless_empty js))
variable_deep n x (content.Value v) ms js h g =
    (left_of (nesting (json v)) (members_nesting ms) n h, (right_of (nesting (json v)) (members_nesting ms) n h, g))
variable_deep n x (content.Copy count input) ms js h g =
    let j = named_loop x (json count) (json input) in (
      up_within (loop_nesting count input) (nesting j) n (λ p k. named_deep p x count input k) (first_loop n j js g),
      (h, other_loops n j js g),
    )

variables_deep : (n : ℕ) (vs : List Variable) → members_nesting (plain_variables vs) ≤ n
    → NestsWithin n (array_unless_empty (variable_loops vs)) → deepest variable_nesting vs ≤ n
variables_deep n [] h g = at_least n
variables_deep n (v ∷ vs) h g =
    let r = variable_deep n v.name v.content (plain_variables vs) (variable_loops vs) h g in
    both_of (variable_nesting v) (deepest variable_nesting vs) n r.0 (variables_deep n vs r.1.0 r.1.1)

-- ---- members beside others that are put

module _ (test : List ℕ → Bool) where
  -- the name of no member passes
  abbrev NonePass : List (List ℕ) → Type 0
  NonePass [] = Unit {0}
  NonePass (n ∷ ns) = (test n ≡ false) × NonePass ns

  -- the members are among others, whose names pass
  abbrev Among : List Member → List Member → Type 0
  Among [] ns = Unit {0}
  Among (m ∷ ms) [] = ⊥
  Among (m ∷ ms) (x ∷ ns) = ((m ≡ x) × Among ms ns) ⊎ ((test x.0 ≡ true) × Among (m ∷ ms) ns)

  among_self : (ms : List Member) → Among ms ms
  among_self [] = tt
  among_self (m ∷ ms) = inl (refl, among_self ms)

  among_deep : (n : ℕ) (ms ns : List Member) → Among ms ns → members_nesting ns ≤ n → members_nesting ms ≤ n
  among_deep n [] ns a h = at_least n
  among_deep n (m ∷ ms) [] a h = absurd a
  among_deep n (m ∷ ms) (x ∷ ns) (inl a) h =
      both_of (nesting m.1) (members_nesting ms) n
      (subst (λ (y : Member). nesting y.1 ≤ n) (sym a.0) (left_of (nesting x.1) (members_nesting ns) n h))
      (among_deep n ms ns a.1 (right_of (nesting x.1) (members_nesting ns) n h))
  among_deep n (m ∷ ms) (x ∷ ns) (inr a) h =
      among_deep n (m ∷ ms) ns a.1 (right_of (nesting x.1) (members_nesting ns) n h)

  same_key : (k : List ℕ) (j : Json) (m x : Member) (ms ns : List Member) → test k ≡ true → test m.0 ≡ false
      → key_cmp k x.0 ≡ Equal → Among (m ∷ ms) (x ∷ ns) → Among (m ∷ ms) ((k, j) ∷ ns)
  same_key k j m x ms ns c d e (inl a) =
      absurd (true≢false (sym c ∙ ap test (equal_keys k x.0 e) ∙ sym (ap (λ (y : Member). test y.0) a.0) ∙ d))
  same_key k j m x ms ns c d e (inr a) = inr (c, a.1)

  later : (k : List ℕ) (j : Json) (m x : Member) (ms ns : List Member)
      → (Among ms ns → Among ms (put k j ns)) → (Among (m ∷ ms) ns → Among (m ∷ ms) (put k j ns))
      → Among (m ∷ ms) (x ∷ ns) → Among (m ∷ ms) (x ∷ put k j ns)
  later k j m x ms ns f g (inl a) = inl (a.0, f a.1)
  later k j m x ms ns f g (inr a) = inr (a.0, g a.1)

  by_order : (k : List ℕ) (j : Json) (m x : Member) (ms ns : List Member) (o : Ordering) → key_cmp k x.0 ≡ o
      → test k ≡ true → test m.0 ≡ false → (Among ms ns → Among ms (put k j ns))
      → (Among (m ∷ ms) ns → Among (m ∷ ms) (put k j ns)) → Among (m ∷ ms) (x ∷ ns)
      → Among (m ∷ ms) (match_ordering o ((k, j) ∷ x ∷ ns) ((k, j) ∷ ns) (x ∷ put k j ns))
  by_order k j m x ms ns Less e c d f g a = inr (c, a)
  by_order k j m x ms ns Equal e c d f g a = same_key k j m x ms ns c d e a
  by_order k j m x ms ns Greater e c d f g a = later k j m x ms ns f g a

  among_put : (k : List ℕ) (j : Json) (ms ns : List Member) → test k ≡ true → NonePass (keys ms) → Among ms ns
      → Among ms (put k j ns)
  among_put k j [] ns c d a = tt
  among_put k j (m ∷ ms) [] c d a = absurd a
  among_put k j (m ∷ ms) (x ∷ ns) c d a =
      by_order k j m x ms ns (key_cmp k x.0) refl c d.0 (λ b. among_put k j ms ns c d.1 b)
      (λ b. among_put k j (m ∷ ms) ns c d b) a

  -- the name of each slot that is there passes
  abbrev SlotPasses : List ℕ → Option Json → Type 0
  SlotPasses k None = Unit {0}
  SlotPasses k (Some j) = test (chars k) ≡ true

  abbrev AllPass : List Slot → Type 0
  AllPass [] = Unit {0}
  AllPass (s ∷ ss) = SlotPasses s.0 s.1 × AllPass ss

  among_slot : (k : List ℕ) (o : Option Json) (ms ns : List Member) → SlotPasses k o → NonePass (keys ms) → Among ms ns
      → Among ms (put_slot k o ns)
  unfolding put_slot
  among_slot k None ms ns c d a = a
  among_slot k (Some j) ms ns c d a = among_put (chars k) j ms ns c d a

  among_slots : (ss : List Slot) (ms ns : List Member) → AllPass ss → NonePass (keys ms) → Among ms ns
      → Among ms (put_slots ss ns)
  among_slots [] ms ns c d a = a
  among_slots (s ∷ ss) ms ns c d a =
      among_slots ss ms (put_slot s.0 s.1 ns) c.1 d (among_slot s.0 s.1 ms ns c.0 d a)

  -- the members nest no deeper than with the slots
  beside_deep : (n : ℕ) (ss : List Slot) (ms : List Member) → AllPass ss → NonePass (keys ms)
      → members_nesting (put_slots ss ms) ≤ n → members_nesting ms ≤ n
  beside_deep n ss ms c d h = among_deep n ms (put_slots ss ms) (among_slots ss ms ms c d (among_self ms)) h

-- ---- the lists of a template

none_loops : (ns : List (List ℕ)) → NoneLoops ns → NonePass is_copy ns
none_loops [] h = tt
none_loops (n ∷ ns) h = (h.0, none_loops ns h.1)

copies_pass : (js : List Json) → SlotPasses is_copy (codes "copy") (array_unless_empty js)
copies_pass [] = tt
copies_pass (j ∷ js) = copy_word

-- variables that are written nest in an object
not_empty : (n : ℕ) (ms : List Member) → (ms ≡ [] → ⊥) → NestsWithin n (object_unless_empty ms)
    → suc (members_nesting ms) ≤ n
not_empty n [] e h = absurd (e refl)
not_empty n (m ∷ ms) e h = h

put_there : (k : List ℕ) (j : Json) (ms : List Member) → put k j ms ≡ [] → ⊥
put_there k j [] e = cc
put_there k j (m ∷ ms) e = by_order (key_cmp k m.0) e
  where
    by_order : (o : Ordering) → match_ordering o ((k, j) ∷ m ∷ ms) ((k, j) ∷ ms) (m ∷ put k j ms) ≡ [] → ⊥
    by_order Less e = cc
    by_order Equal e = cc
    by_order Greater e = cc

slot_there : (k : List ℕ) (o : Option Json) (ms : List Member) → (o ≡ None → ms ≡ [] → ⊥) → put_slot k o ms ≡ [] → ⊥
unfolding put_slot
slot_there k None ms h e = h refl e
slot_there k (Some j) ms h e = put_there (chars k) j ms e

loops_there : (j : Json) (js : List Json) → array_unless_empty (j ∷ js) ≡ None → ⊥
loops_there j js e = cc

written_there : (v : Variable) (vs : List Variable) → written_variables (v ∷ vs) ≡ [] → ⊥
written_there v vs e =
    slot_there (codes "copy") (array_unless_empty (variable_loops (v ∷ vs))) (plain_variables (v ∷ vs))
    (by_content v.content) e
  where
    by_content : (c : Content) → array_unless_empty (loop_before v.name c (variable_loops vs)) ≡ None
        → plain_before v.name c (plain_variables vs) ≡ [] → ⊥
    by_content (content.Value x) n e = cc
    by_content (content.Copy count input) n e =
        loops_there (named_loop v.name (json count) (json input)) (variable_loops vs) n

all_deep : (n : ℕ) (vs : List Variable) → KeepsVariables vs
    → NestsWithin n (object_unless_empty (written_variables vs)) → listed variable_nesting vs ≤ n
all_deep n [] k h = subst (λ m. m ≤ n) (sym (listed_none variable_nesting)) (at_least n)
all_deep n (v ∷ vs) k h =
    let slots = (codes "copy", array_unless_empty (variable_loops (v ∷ vs))) ∷ [] in
    let plain = plain_variables (v ∷ vs) in
    subst (λ m. m ≤ n) (sym (listed_more variable_nesting v vs))
    (up_within (deepest variable_nesting (v ∷ vs)) (members_nesting (written_variables (v ∷ vs))) n
    (λ p g. variables_deep p (v ∷ vs)
    (beside_deep is_copy p slots plain (copies_pass (variable_loops (v ∷ vs)), tt)
    (none_loops (keys plain) k.named) g) (slots_nest p slots plain refl g).0)
    (not_empty n (written_variables (v ∷ vs)) (written_there v vs) h))

-- ---- outputs and arguments

output_by : (n : ℕ) (c : Content) → NestsWithin n (value_slot c) → NestsWithin n (output_loop c)
    → output_content c ≤ n
output_by n (content.Value v) h g = h
output_by n (content.Copy count input) h g = loop_deep n count input g

output_deep : (n : ℕ) (o : Output) → nesting (written_output o).1 ≤ n → output_nesting o ≤ n
output_deep n o h =
    let a = output_content o.content in
    let b = value_or_none o.condition in
    let c = value_or_none o.metadata in
    object_deep (max a (max b c)) n (output_slots o) refl
    (λ p s. both_of a (max b c) p (output_by p o.content s.1.0 s.1.1.0)
    (both_of b c p (value_deep p o.condition s.1.1.1.0) (value_deep p o.metadata s.1.1.1.1.0))) h

argument_by : (n : ℕ) (c : Content) → NestsWithin n (value_slot c) → NestsWithin n (argument_loop c)
    → content_nesting c ≤ n
argument_by n (content.Value v) h g = h
argument_by n (content.Copy count input) h g =
    let j = named_loop (chars (codes "value")) (json count) (json input) in
    up_within (loop_nesting count input) (items_nesting (j ∷ [])) n
    (λ p k. named_deep p (chars (codes "value")) count input (left_of (nesting j) 0 p k)) g

argument_deep : (n : ℕ) (a : Argument) → nesting (written_argument a).1 ≤ n → argument_nesting a ≤ n
argument_deep n a h =
    object_deep (content_nesting a.content) n (argument_slots a.content) refl
    (λ p s. argument_by p a.content s.0 s.1.0) h

-- ---- what declares a resource

copy_deep : (n : ℕ) (o : Option ResourceCopy) → NestsWithin n (option_map (λ c. an_object (copy_slots c)) o)
    → copy_nesting o ≤ n
copy_deep n None h = at_least n
copy_deep n (Some c) h = object_deep (nesting (json c.count)) n (copy_slots c) refl (λ p s. s.1.0) h

declaration_deep : (n : ℕ) (d : Declaration) (js : List Json) → SlotsNest n (declaration_slots d js)
    → declaration_nesting d ≤ n
declaration_deep n d js s =
    let name = nesting (json d.name) in
    let condition = value_or_none d.condition in
    let depends = items_or_none d.depends_on in
    let loop = copy_nesting d.copy in
    let metadata = value_or_none d.metadata in
    both_of name (max condition (max depends (max loop metadata))) n s.1.1.0
    (both_of condition (max depends (max loop metadata)) n (value_deep n d.condition s.1.1.1.0)
    (both_of depends (max loop metadata) n (array_deep n d.depends_on s.1.1.1.1.0)
    (both_of loop metadata n (copy_deep n d.copy s.1.1.1.1.1.0) (value_deep n d.metadata s.1.1.1.1.1.1.0))))

-- names of members that declare a resource, or are beside its body
first : (a b c d e f : Bool) → a ≡ true → (a || b || c || d || e || f) ≡ true
first true b c d e f h = refl
first false b c d e f h = absurd (true≢false (sym h))

second : (a b c d e f : Bool) → b ≡ true → (a || b || c || d || e || f) ≡ true
second true b c d e f h = refl
second false true c d e f h = refl
second false false c d e f h = absurd (true≢false (sym h))

third : (a b c d e f : Bool) → c ≡ true → (a || b || c || d || e || f) ≡ true
third true b c d e f h = refl
third false true c d e f h = refl
third false false true d e f h = refl
third false false false d e f h = absurd (true≢false (sym h))

fourth : (a b c d e f : Bool) → d ≡ true → (a || b || c || d || e || f) ≡ true
fourth true b c d e f h = refl
fourth false true c d e f h = refl
fourth false false true d e f h = refl
fourth false false false true e f h = refl
fourth false false false false e f h = absurd (true≢false (sym h))

fifth : (a b c d e f : Bool) → e ≡ true → (a || b || c || d || e || f) ≡ true
fifth true b c d e f h = refl
fifth false true c d e f h = refl
fifth false false true d e f h = refl
fifth false false false true e f h = refl
fifth false false false false true f h = refl
fifth false false false false false f h = absurd (true≢false (sym h))

sixth : (a b c d e f : Bool) → f ≡ true → (a || b || c || d || e || f) ≡ true
sixth a b c d e true h = or_true (a || b || c || d || e)
sixth a b c d e false h = absurd (true≢false (sym h))

declares : (a b c : Bool) → a ≡ true → (a || b || c) ≡ true
declares true b c h = refl
declares false b c h = absurd (true≢false (sym h))

is_beside_it : (a b c : Bool) → b ≡ true → (a || b || c) ≡ true
is_beside_it true b c h = refl
is_beside_it false true c h = refl
is_beside_it false false c h = absurd (true≢false (sym h))

exists : (a b c : Bool) → c ≡ true → (a || b || c) ≡ true
exists a b true h = or_true (a || b)
exists a b false h = absurd (true≢false (sym h))

itself : (w : List ℕ) → is_named w (chars w) ≡ true
itself w = (bytes_eq-Decides (fold (chars w)) (fold (chars w))).1 refl

module _ (symbol : Option (List ℕ)) where
  abbrev also : List ℕ → Bool
  also n = is_some symbol && is_named (codes "existing") n

  -- a name that declares the resource, by its place among these names
  declaring : (w : List ℕ) → is_declaring (chars w) ≡ true → is_outside symbol (chars w) ≡ true
  declaring w h = declares (is_declaring (chars w)) (is_beside (chars w)) (also (chars w)) h

  beside : (w : List ℕ) → is_beside (chars w) ≡ true → is_outside symbol (chars w) ≡ true
  beside w h = is_beside_it (is_declaring (chars w)) (is_beside (chars w)) (also (chars w)) h

  -- the words that declare a resource, in their order
  words : (x : List ℕ)
      → (is_named (codes "type") x ≡ true → is_declaring x ≡ true)
      × ((is_named (codes "apiVersion") x ≡ true → is_declaring x ≡ true)
      × ((is_named (codes "name") x ≡ true → is_declaring x ≡ true)
      × ((is_named (codes "condition") x ≡ true → is_declaring x ≡ true)
      × ((is_named (codes "dependsOn") x ≡ true → is_declaring x ≡ true)
      × (is_named (codes "copy") x ≡ true → is_declaring x ≡ true)))))
  words x =
      let a = is_named (codes "type") x in
      let b = is_named (codes "apiVersion") x in
      let c = is_named (codes "name") x in
      let d = is_named (codes "condition") x in
      let e = is_named (codes "dependsOn") x in
      let f = is_named (codes "copy") x in (
        λ h. first a b c d e f h,
        (
          λ h. second a b c d e f h,
          (
            λ h. third a b c d e f h,
            (λ h. fourth a b c d e f h, (λ h. fifth a b c d e f h, λ h. sixth a b c d e f h)),
          ),
        ),
      )

  -- those beside a body
  others : (x : List ℕ)
      → (is_named (codes "resources") x ≡ true → is_beside x ≡ true)
      × (is_named (codes "metadata") x ≡ true → is_beside x ≡ true)
  others x =
      let a = is_named (codes "resources") x in
      let b = is_named (codes "comments") x in
      let c = is_named (codes "metadata") x in
      let d = is_named (codes "scope") x in
      let e = is_named (codes "subscriptionId") x in
      let f = is_named (codes "resourceGroup") x in
      (λ h. first a b c d e f h, λ h. third a b c d e f h)

  passes : (w : List ℕ) (o : Option Json) → is_outside symbol (chars w) ≡ true → SlotPasses (is_outside symbol) w o
  passes w None h = tt
  passes w (Some j) h = h

existing_passes : (f : Form) (d : Declaration) → KeepsSymbol f d
    → SlotPasses (is_outside d.symbol) (codes "existing") (true_or_none d.existing)
existing_passes One d k =
    subst (λ b. SlotPasses (is_outside d.symbol) (codes "existing") (true_or_none b)) (sym k.1) tt
existing_passes Two d k =
    let x = chars (codes "existing") in
    passes d.symbol (codes "existing") (true_or_none d.existing)
    (exists (is_declaring x) (is_beside x) (also d.symbol x)
    (ap (λ b. b && is_named (codes "existing") x) k ∙ itself (codes "existing")))

all_pass : (f : Form) (d : Declaration) (js : List Json) → KeepsSymbol f d
    → AllPass (is_outside d.symbol) (declaration_slots d js)
all_pass f d js k =
    let o = d.symbol in (
      declaring o (codes "type") ((words o (chars (codes "type"))).0 (itself (codes "type"))),
      (
        declaring o (codes "apiVersion") ((words o (chars (codes "apiVersion"))).1.0 (itself (codes "apiVersion"))),
        (
          declaring o (codes "name") ((words o (chars (codes "name"))).1.1.0 (itself (codes "name"))),
          (
            passes o (codes "condition") (option_map json d.condition) (declaring o (codes "condition")
                ((words o (chars (codes "condition"))).1.1.1.0 (itself (codes "condition")))),
            (
              passes o (codes "dependsOn") (array_unless_empty d.depends_on) (declaring o (codes "dependsOn")
                  ((words o (chars (codes "dependsOn"))).1.1.1.1.0 (itself (codes "dependsOn")))),
              (
                passes o (codes "copy") (option_map (λ c. an_object (copy_slots c)) d.copy) (declaring o (codes "copy")
                    ((words o (chars (codes "copy"))).1.1.1.1.1 (itself (codes "copy")))),
                (
                  passes o (codes "metadata") (option_map json d.metadata) (beside o (codes "metadata")
                      ((others o (chars (codes "metadata"))).1 (itself (codes "metadata")))),
                  (
                    existing_passes f d k,
                    (
                      passes o (codes "resources") (array_unless_empty js) (beside o (codes "resources")
                          ((others o (chars (codes "resources"))).0 (itself (codes "resources")))),
                      tt,
                    ),
                  ),
                ),
              ),
            ),
          ),
        ),
      ),
    )

none_inside : (o : Option (List ℕ)) (ns : List (List ℕ)) → AllInside o ns → NonePass (is_outside o) ns
none_inside o [] h = tt
none_inside o (n ∷ ns) h = (h.0, none_inside o ns h.1)

-- ---- templates

options_deep : (n : ℕ) (s : Scope) → NestsWithin n (options_of s) → scope_nesting s ≤ n
unfolding put_slot
options_deep n Outer h = at_least n
options_deep n Inner h = h

header_deep : (n : ℕ) (h : Header) (j : Json) → KeepsVariables h.variables → SlotsNest n (header_slots h j)
    → header_nesting h ≤ n
header_deep n h j k s =
    let a = listed parameter_nesting h.parameters in
    let b = listed variable_nesting h.variables in
    let c = listed output_nesting h.outputs in
    both_of a (max b c) n (list_deep parameter_nesting written_parameter parameter_deep n h.parameters s.1.1.1.0)
    (both_of b c n (all_deep n h.variables k s.1.1.1.1.0)
    (list_deep output_nesting written_output output_deep n h.outputs s.1.1.1.1.1.0))

by_form : (x n : ℕ) (f : Form) (js : List Json) (ms : List Member) → ((p : ℕ) → items_nesting js ≤ p → x ≤ p)
    → ((p : ℕ) → members_nesting ms ≤ p → x ≤ p) → nesting (resources_by f js ms) ≤ n → up x ≤ n
by_form x n One js ms a b h = up_within x (items_nesting js) n a h
by_form x n Two js ms a b h = up_within x (members_nesting ms) n b h

children_deep : (n : ℕ) (rs : Trees) → ((p : ℕ) → items_nesting (written_each rs) ≤ p → trees_nesting rs ≤ p)
    → NestsWithin n (array_unless_empty (written_each rs)) → children_nesting rs (trees_nesting rs) ≤ n
children_deep n no_resources each h = at_least n
children_deep n (a_resource r rs) each h =
    up_within (trees_nesting (a_resource r rs)) (items_nesting (written_each (a_resource r rs))) n each h

-- how deep the body of a resource nests as it is written
abbrev NestsBody : ℕ → BodyTree → Type 0
NestsBody n (body_members ms) = members_nesting ms ≤ n
NestsBody n (deployment s ps t) = nesting (an_object (deployment_slots s ps (written t))) ≤ n

body_by : (n : ℕ) (d : Declaration) (js : List Json) (b : BodyTree)
    → AllPass (is_outside d.symbol) (declaration_slots d js) → KeepsBody d b
    → members_nesting (put_slots (declaration_slots d js) (written_body b)) ≤ n → NestsBody n b
body_by n d js (body_members ms) a k g =
    beside_deep (is_outside d.symbol) n (declaration_slots d js) ms a (none_inside d.symbol (keys ms) k.1) g
body_by n d js (deployment s ps t) a k g =
    (slots_nest n ((codes "properties", Some (an_object (deployment_slots s ps (written t)))) ∷ declaration_slots d js)
    [] refl g).0

properties_deep : (n : ℕ) (s : Scope) (ps : List Argument) (x : ℕ) (j : Json) → ((p : ℕ) → nesting j ≤ p → x ≤ p)
    → nesting (an_object (deployment_slots s ps j)) ≤ n → properties_nesting s ps x ≤ n
properties_deep n s ps x j f h =
    let a = scope_nesting s in
    let b = listed argument_nesting ps in
    object_deep (max a (max b x)) n (deployment_slots s ps j) refl
    (λ p z. both_of a (max b x) p (options_deep p s z.1.0)
    (both_of b x p (list_deep argument_nesting written_argument argument_deep p ps z.1.1.0) (f p z.1.1.1.0))) h

-- a resource, by its children and its body
of_resource : (f : Form) (d : Declaration) (b : BodyTree) (rs : Trees) → KeepsSymbol f d → KeepsBody d b → (n : ℕ)
    → ((p : ℕ) → items_nesting (written_each rs) ≤ p → trees_nesting rs ≤ p) → (NestsBody n b → body_nesting b ≤ n)
    → members_nesting (put_slots (declaration_slots d (written_each rs)) (written_body b)) ≤ n
    → max (declaration_nesting d) (max (children_nesting rs (trees_nesting rs)) (body_nesting b)) ≤ n
of_resource f d b rs k m n items body h =
    let js = written_each rs in
    let c = children_nesting rs (trees_nesting rs) in
    let s = slots_nest n (declaration_slots d js) (written_body b) refl h in
    both_of (declaration_nesting d) (max c (body_nesting b)) n (declaration_deep n d js s)
    (both_of c (body_nesting b) n (children_deep n rs items s.1.1.1.1.1.1.1.1.0)
    (body (body_by n d js b (all_pass f d js k) m h)))

mutual
  pub template_deep : (u : TemplateTree) → Keeps u → (n : ℕ) → nesting (written u) ≤ n → template_nesting u ≤ n
  template_deep (template h rs) k n g =
      let j = resources_by h.form (written_each rs) (written_by_symbol rs) in
      object_deep (max (header_nesting h) (up (trees_nesting rs))) n (header_slots h j) refl
      (λ p s. both_of (header_nesting h) (up (trees_nesting rs)) p (header_deep p h j k.0.variables s)
      (by_form (trees_nesting rs) p h.form (written_each rs) (written_by_symbol rs)
      (λ q e. items_deep h.form rs k.2 q e) (λ q e. symbols_deep h.form rs k.2 q e) s.1.1.1.1.1.1.0)) g

  items_deep : (f : Form) (rs : Trees) → KeepEach f rs → (n : ℕ) → items_nesting (written_each rs) ≤ n
      → trees_nesting rs ≤ n
  items_deep f no_resources k n g = at_least n
  items_deep f (a_resource r rs) k n g =
      both_of (resource_nesting r) (trees_nesting rs) n
      (resource_deep f r k.0 n (left_of (nesting (written_resource r)) (items_nesting (written_each rs)) n g))
      (items_deep f rs k.1 n (right_of (nesting (written_resource r)) (items_nesting (written_each rs)) n g))

  symbols_deep : (f : Form) (rs : Trees) → KeepEach f rs → (n : ℕ) → members_nesting (written_by_symbol rs) ≤ n
      → trees_nesting rs ≤ n
  symbols_deep f no_resources k n g = at_least n
  symbols_deep f (a_resource r rs) k n g =
      both_of (resource_nesting r) (trees_nesting rs) n
      (resource_deep f r k.0 n (left_of (nesting (written_resource r)) (members_nesting (written_by_symbol rs)) n g))
      (symbols_deep f rs k.1 n (right_of (nesting (written_resource r)) (members_nesting (written_by_symbol rs)) n g))

  resource_deep : (f : Form) (r : ResourceTree) → KeepsResource f r → (n : ℕ) → nesting (written_resource r) ≤ n
      → resource_nesting r ≤ n
  resource_deep f (resource d b rs) k n g =
      let js = written_each rs in
      let a = declaration_nesting d in
      let c = children_nesting rs (trees_nesting rs) in
      up_within (max a (max c (body_nesting b))) (members_nesting (put_slots (declaration_slots d js) (written_body b)))
      n (λ p h. of_resource f d b rs k.0 k.2 p (λ q e. items_deep One rs k.3 q e) (λ e. body_deep d b k.2 p e) h) g

  body_deep : (d : Declaration) (b : BodyTree) → KeepsBody d b → (n : ℕ) → NestsBody n b → body_nesting b ≤ n
  body_deep d (body_members ms) k n g = g
  body_deep d (deployment s ps t) k n g =
      properties_deep n s ps (template_nesting t) (written t) (λ q e. template_deep t k.3 q e) g
