-- How deep objects of slots, and parts of a template, nest.
use Rattle.std.proofs.Common.{◌≡◌, ◌≤◌, ◌<◌, ℕ, suc, Bool, true, false, chars, codes, max, List, [], ◌∷◌, ◌++◌, map}
use Rattle.std.proofs.Common.{Option, Some, None, Ordering, Less, Equal, Greater, refl, sym, subst, arith}
use Rattle.std.specs.Ordering.{match_ordering}
use Rattle.std.specs.Prelude.{option_map}
use Rattle.arm_value.specs.Json.{Json, int, text, array, object, Member, row, put, key_cmp, nesting}
use Rattle.arm_value.specs.Json.{items_nesting, members_nesting}
use Rattle.arm_value.specs.View.{json}
use Rattle.arm_value.specs.declared.value.Value.{Value}
use Rattle.arm_expr.specs.Brackets.{escaped}
use Rattle.plain_values.specs.Plain.{written_plainly}
use Rattle.plain_values.proofs.TextsLemmas.{nesting-each_text}
use Rattle.template_parts.specs.declared.content.Argument.{Argument}
use Rattle.template_parts.specs.declared.content.Content.{Content}
use Rattle.template_parts.specs.declared.content.Content.TheVariants as content
use Rattle.template_parts.specs.declared.declaration.Declaration.{Declaration}
use Rattle.template_parts.specs.declared.looping.Batches.{Batches}
use Rattle.template_parts.specs.declared.looping.Batches.TheVariants.{Parallel, Serial}
use Rattle.template_parts.specs.declared.looping.ResourceCopy.{ResourceCopy}
use Rattle.template_parts.specs.declared.mode.Form.{Form}
use Rattle.template_parts.specs.declared.mode.Form.TheVariants.{One, Two}
use Rattle.template_parts.specs.declared.mode.Scope.{Scope}
use Rattle.template_parts.specs.declared.mode.Scope.TheVariants.{Outer, Inner}
use Rattle.template_parts.specs.declared.output.Output.{Output}
use Rattle.template_parts.specs.declared.parameter.Parameter.{Parameter}
use Rattle.template_parts.specs.declared.variable.Variable.{Variable}
use Rattle.template_written.specs.Parts.{written_parameter, parameter_slots, value_slot, loop_slots, named_loop}
use Rattle.template_written.specs.Parts.{plain_before, plain_variables, loop_before, variable_loops, written_variables}
use Rattle.template_written.specs.Parts.{output_loop, output_slots, written_output, argument_loop, argument_slots}
use Rattle.template_written.specs.Parts.{written_argument, mode_of, size_of, copy_slots, true_or_none, part_slots}
use Rattle.template_written.specs.Slots.{Slot, put_slot, put_slots, an_object, array_unless_empty}
use Rattle.template_written.specs.Slots.{object_unless_empty, NestsWithin, SlotsNest}
use Rattle.template_written.specs.Written.{version_of, options_of}
use Rattle.template_nestings.specs.Nestings.{deepest, listed, items_or_none, value_or_none, allowed_nesting}
use Rattle.template_nestings.specs.Nestings.{parameter_nesting, loop_nesting, content_nesting, variable_nesting}
use Rattle.template_nestings.specs.Nestings.{argument_nesting, output_content, output_nesting, copy_nesting}
use Rattle.template_nestings.specs.Nestings.{declaration_nesting, scope_nesting}
use Rattle.template_nestings.proofs.NumberLemmas.{most, inside, left_of, right_of, both_of, one_more, at_least}
use Rattle.template_nestings.proofs.NumberLemmas.{listed_more, items_more}

-- ---- objects

put_by : (n : ℕ) (k : List ℕ) (j : Json) (m : Member) (ms : List Member) (o : Ordering) → nesting j ≤ n
    → members_nesting (m ∷ ms) ≤ n → members_nesting (put k j ms) ≤ n
    → members_nesting (match_ordering o ((k, j) ∷ m ∷ ms) ((k, j) ∷ ms) (m ∷ put k j ms)) ≤ n
put_by n k j m ms Less h g r = both_of (nesting j) (members_nesting (m ∷ ms)) n h g
put_by n k j m ms Equal h g r =
    both_of (nesting j) (members_nesting ms) n h (right_of (nesting m.1) (members_nesting ms) n g)
put_by n k j m ms Greater h g r =
    both_of (nesting m.1) (members_nesting (put k j ms)) n (left_of (nesting m.1) (members_nesting ms) n g) r

put_within : (n : ℕ) (k : List ℕ) (j : Json) (ms : List Member) → nesting j ≤ n → members_nesting ms ≤ n
    → members_nesting (put k j ms) ≤ n
put_within n k j [] h g = both_of (nesting j) 0 n h g
put_within n k j (m ∷ ms) h g =
    put_by n k j m ms (key_cmp k m.0) h g
    (put_within n k j ms h (right_of (nesting m.1) (members_nesting ms) n g))

slot_within : (n : ℕ) (k : List ℕ) (o : Option Json) (ms : List Member) → NestsWithin n o → members_nesting ms ≤ n
    → members_nesting (put_slot k o ms) ≤ n
unfolding put_slot
slot_within n k None ms h g = g
slot_within n k (Some j) ms h g = put_within n (chars k) j ms h g

pub slots_within : (n : ℕ) (ss : List Slot) (ms : List Member) → SlotsNest n ss → members_nesting ms ≤ n
    → members_nesting (put_slots ss ms) ≤ n
slots_within n [] ms h g = g
slots_within n (s ∷ ss) ms h g = slots_within n ss (put_slot s.0 s.1 ms) h.1 (slot_within n s.0 s.1 ms h.0 g)

-- the object of these in something that nests so deep
pub object_within : (n p : ℕ) (ss : List Slot) → n ≡ suc p → SlotsNest p ss → nesting (an_object ss) ≤ n
object_within n p ss e h = one_more (members_nesting (put_slots ss [])) n p e (slots_within p ss [] h (at_least p))

pub slots_append : (n : ℕ) (ts ss : List Slot) → SlotsNest n ts → SlotsNest n ss → SlotsNest n (ts ++ ss)
slots_append n [] ss h g = g
slots_append n (t ∷ ts) ss h g = (h.0, slots_append n ts ss h.1 g)

-- ---- values

value_within : (n : ℕ) (o : Option Value) → value_or_none o ≤ n → NestsWithin n (option_map json o)
value_within n None h = tt
value_within n (Some v) h = h

number_within : {A : Type 0} (n : ℕ) (f : A → Json) → ((a : A) → nesting (f a) ≡ 0) → (o : Option A)
    → NestsWithin n (option_map f o)
number_within n f e None = tt
number_within n f e (Some a) = subst (λ m. m ≤ n) (sym (e a)) (at_least n)

pub plainly : (js : List Json) → items_nesting (map written_plainly js) ≡ items_nesting js
plainly [] = refl
plainly (j ∷ js) = λ i. max (nesting-each_text escaped j i) (plainly js i)

allowed_within : (n : ℕ) → n < most → (o : Option (List Json)) → allowed_nesting o ≤ n
    → NestsWithin n (option_map (λ js. array (row (map written_plainly js))) o)
allowed_within n l None h = tt
allowed_within n l (Some js) h =
    let p = inside (items_nesting js) n l h in
    one_more (items_nesting (map written_plainly js)) n p.depth p.is
    (subst (λ m. m ≤ p.depth) (sym (plainly js)) p.within)

-- ---- lists

module _ {A : Type 0} (f : A → ℕ) (g : A → Member)
    (each : (n : ℕ) → n < most → (a : A) → f a ≤ n → nesting (g a).1 ≤ n) where
  members_within : (n : ℕ) → n < most → (xs : List A) → deepest f xs ≤ n → members_nesting (map g xs) ≤ n
  members_within n l [] h = at_least n
  members_within n l (x ∷ xs) h =
      both_of (nesting (g x).1) (members_nesting (map g xs)) n (each n l x (left_of (f x) (deepest f xs) n h))
      (members_within n l xs (right_of (f x) (deepest f xs) n h))

  pub list_within : (n : ℕ) → n < most → (xs : List A) → listed f xs ≤ n
      → NestsWithin n (object_unless_empty (map g xs))
  list_within n l [] h = tt
  list_within n l (x ∷ xs) h =
      let p = inside (deepest f (x ∷ xs)) n l (subst (λ m. m ≤ n) (listed_more f x xs) h) in
      one_more (members_nesting (map g (x ∷ xs))) n p.depth p.is (members_within p.depth p.small (x ∷ xs) p.within)

array_within : (n : ℕ) → n < most → (js : List Json) → items_or_none js ≤ n → NestsWithin n (array_unless_empty js)
array_within n l [] h = tt
array_within n l (j ∷ js) h =
    let p = inside (items_nesting (j ∷ js)) n l (subst (λ m. m ≤ n) (items_more j js) h) in
    one_more (items_nesting (j ∷ js)) n p.depth p.is p.within

-- ---- parameters

pub parameter_within : (n : ℕ) → n < most → (q : Parameter) → parameter_nesting q ≤ n
    → nesting (written_parameter q).1 ≤ n
parameter_within n l q h =
    let rest = max (allowed_nesting q.allowed_values) (value_or_none q.metadata) in
    let p = inside (max (value_or_none q.default_value) rest) n l h in
    let r = right_of (value_or_none q.default_value) rest p.depth p.within in
    object_within n p.depth (parameter_slots q) p.is (
      at_least p.depth,
      (
        value_within p.depth q.default_value (left_of (value_or_none q.default_value) rest p.depth p.within),
        (
          allowed_within p.depth p.small q.allowed_values
              (left_of (allowed_nesting q.allowed_values) (value_or_none q.metadata) p.depth r),
          (
            number_within p.depth int (λ z. refl) q.bounds.min_value,
            (
              number_within p.depth int (λ z. refl) q.bounds.max_value,
              (
                number_within p.depth int (λ z. refl) q.bounds.min_length,
                (
                  number_within p.depth int (λ z. refl) q.bounds.max_length,
                  (
                    value_within p.depth q.metadata
                        (right_of (allowed_nesting q.allowed_values) (value_or_none q.metadata) p.depth r),
                    tt,
                  ),
                ),
              ),
            ),
          ),
        ),
      ),
    )

-- ---- loops

slots_of_loop : (n : ℕ) (count input : Value) → max (nesting (json count)) (nesting (json input)) ≤ n
    → SlotsNest n (loop_slots (json count) (json input))
slots_of_loop n count input h =
    let a = nesting (json count) in
    let b = nesting (json input) in
    (left_of a b n h, (right_of a b n h, tt))

loop_within : (n : ℕ) → n < most → (count input : Value) → loop_nesting count input ≤ n
    → nesting (an_object (loop_slots (json count) (json input))) ≤ n
loop_within n l count input h =
    let p = inside (max (nesting (json count)) (nesting (json input))) n l h in
    object_within n p.depth (loop_slots (json count) (json input)) p.is (slots_of_loop p.depth count input p.within)

named_within : (n : ℕ) → n < most → (x : List ℕ) (count input : Value) → loop_nesting count input ≤ n
    → nesting (named_loop x (json count) (json input)) ≤ n
named_within n l x count input h =
    let p = inside (max (nesting (json count)) (nesting (json input))) n l h in
    object_within n p.depth ((codes "name", Some (text x)) ∷ loop_slots (json count) (json input)) p.is
    (at_least p.depth, slots_of_loop p.depth count input p.within)

-- ---- variables

-- those that no loop gives, and the loops of the others, which are in an array
record AreWithin (n : ℕ) (vs : List Variable) : Type 0 where
  plain : members_nesting (plain_variables vs) ≤ n
  loops : NestsWithin n (array_unless_empty (variable_loops vs))

array_or_none : (n : ℕ) (js : List Json) → suc (items_nesting js) ≤ n → NestsWithin n (array_unless_empty js)
array_or_none n [] h = tt
array_or_none n (j ∷ js) h = h

more_loops : (n : ℕ) (j : Json) (js : List Json) → suc (nesting j) ≤ n → NestsWithin n (array_unless_empty js)
    → NestsWithin n (array_unless_empty (j ∷ js))
more_loops n j [] h g = omega (arith, h)
more_loops n j (k ∷ js) h g = omega (arith, h, g)

variable_by : (n : ℕ) → n < most → (x : List ℕ) (c : Content) (ms : List Member) (js : List Json)
    → content_nesting c ≤ n → members_nesting ms ≤ n → NestsWithin n (array_unless_empty js)
    → (members_nesting (plain_before x c ms) ≤ n) × NestsWithin n (array_unless_empty (loop_before x c js))
variable_by n l x (content.Value v) ms js h g k = (both_of (nesting (json v)) (members_nesting ms) n h g, k)
variable_by n l x (content.Copy count input) ms js h g k =
    let p = inside (loop_nesting count input) n l h in
    let j = named_loop x (json count) (json input) in
    (g, more_loops n j js (one_more (nesting j) n p.depth p.is (named_within p.depth p.small x count input p.within)) k)

variables_within : (n : ℕ) → n < most → (vs : List Variable) → deepest variable_nesting vs ≤ n → AreWithin n vs
variables_within n l [] h = record { plain = at_least n; loops = tt }
variables_within n l (v ∷ vs) h =
    let r = variables_within n l vs (right_of (variable_nesting v) (deepest variable_nesting vs) n h) in
    let q = variable_by n l v.name v.content (plain_variables vs) (variable_loops vs)
    (left_of (variable_nesting v) (deepest variable_nesting vs) n h) r.plain r.loops in
    record { plain = q.0; loops = q.1 }

object_or_none : (n p : ℕ) (ms : List Member) → n ≡ suc p → members_nesting ms ≤ p
    → NestsWithin n (object_unless_empty ms)
object_or_none n p [] e h = tt
object_or_none n p (m ∷ ms) e h = one_more (members_nesting (m ∷ ms)) n p e h

none_within : (n : ℕ) → NestsWithin n (object_unless_empty (written_variables []))
unfolding put_slot
none_within n = tt

pub all_variables : (n : ℕ) → n < most → (vs : List Variable) → listed variable_nesting vs ≤ n
    → NestsWithin n (object_unless_empty (written_variables vs))
all_variables n l [] h = none_within n
all_variables n l (v ∷ vs) h =
    let p = inside (deepest variable_nesting (v ∷ vs)) n l (subst (λ m. m ≤ n) (listed_more variable_nesting v vs) h) in
    let w = variables_within p.depth p.small (v ∷ vs) p.within in
    object_or_none n p.depth (written_variables (v ∷ vs)) p.is
    (slots_within p.depth ((codes "copy", array_unless_empty (variable_loops (v ∷ vs))) ∷ [])
    (plain_variables (v ∷ vs)) (w.loops, tt) w.plain)

-- ---- outputs

output_by : (n : ℕ) → n < most → (c : Content) → output_content c ≤ n
    → NestsWithin n (value_slot c) × NestsWithin n (output_loop c)
output_by n l (content.Value v) h = (h, tt)
output_by n l (content.Copy count input) h = (tt, loop_within n l count input h)

pub output_within : (n : ℕ) → n < most → (o : Output) → output_nesting o ≤ n → nesting (written_output o).1 ≤ n
output_within n l o h =
    let c = value_or_none o.condition in
    let m = value_or_none o.metadata in
    let p = inside (max (output_content o.content) (max c m)) n l h in
    let r = right_of (output_content o.content) (max c m) p.depth p.within in
    let q = output_by p.depth p.small o.content (left_of (output_content o.content) (max c m) p.depth p.within) in
    object_within n p.depth (output_slots o) p.is (
      at_least p.depth,
      (
        q.0,
        (
          q.1,
          (
            value_within p.depth o.condition (left_of c m p.depth r),
            (value_within p.depth o.metadata (right_of c m p.depth r), tt),
          ),
        ),
      ),
    )

-- ---- arguments

argument_by : (n : ℕ) → n < most → (c : Content) → content_nesting c ≤ n
    → NestsWithin n (value_slot c) × NestsWithin n (argument_loop c)
argument_by n l (content.Value v) h = (h, tt)
argument_by n l (content.Copy count input) h =
    let p = inside (loop_nesting count input) n l h in
    let j = named_loop (chars (codes "value")) (json count) (json input) in (
      tt,
      one_more (items_nesting (j ∷ [])) n p.depth p.is
          (both_of (nesting j) 0 p.depth (named_within p.depth p.small (chars (codes "value")) count input p.within)
          (at_least p.depth)),
    )

pub argument_within : (n : ℕ) → n < most → (a : Argument) → argument_nesting a ≤ n
    → nesting (written_argument a).1 ≤ n
argument_within n l a h =
    let p = inside (content_nesting a.content) n l h in
    let q = argument_by p.depth p.small a.content p.within in
    object_within n p.depth (argument_slots a.content) p.is (q.0, (q.1, tt))

-- ---- what declares a resource

mode_within : (n : ℕ) (b : Batches) → NestsWithin n (mode_of b) × NestsWithin n (size_of b)
mode_within n Parallel = (tt, tt)
mode_within n (Serial k) = (at_least n, at_least n)

copy_within : (n : ℕ) → n < most → (o : Option ResourceCopy) → copy_nesting o ≤ n
    → NestsWithin n (option_map (λ c. an_object (copy_slots c)) o)
copy_within n l None h = tt
copy_within n l (Some c) h =
    let p = inside (nesting (json c.count)) n l h in
    let b = mode_within p.depth c.batches in
    object_within n p.depth (copy_slots c) p.is (at_least p.depth, (p.within, (b.0, (b.1, tt))))

existing_within : (n : ℕ) (b : Bool) → NestsWithin n (true_or_none b)
existing_within n true = at_least n
existing_within n false = tt

pub declaration_within : (n : ℕ) → n < most → (d : Declaration) → declaration_nesting d ≤ n
    → SlotsNest n (part_slots d)
declaration_within n l d h =
    let name = nesting (json d.name) in
    let condition = value_or_none d.condition in
    let depends = items_or_none d.depends_on in
    let loop = copy_nesting d.copy in
    let metadata = value_or_none d.metadata in
    let r = right_of name (max condition (max depends (max loop metadata))) n h in
    let q = right_of condition (max depends (max loop metadata)) n r in
    let z = right_of depends (max loop metadata) n q in (
      at_least n,
      (
        at_least n,
        (
          left_of name (max condition (max depends (max loop metadata))) n h,
          (
            value_within n d.condition (left_of condition (max depends (max loop metadata)) n r),
            (
              array_within n l d.depends_on (left_of depends (max loop metadata) n q),
              (
                copy_within n l d.copy (left_of loop metadata n z),
                (value_within n d.metadata (right_of loop metadata n z), (existing_within n d.existing, tt)),
              ),
            ),
          ),
        ),
      ),
    )

-- ---- options

pub version_within : (n : ℕ) (f : Form) → NestsWithin n (version_of f)
version_within n One = tt
version_within n Two = at_least n

pub options_within : (n : ℕ) (s : Scope) → scope_nesting s ≤ n → NestsWithin n (options_of s)
unfolding put_slot
options_within n Outer h = tt
options_within n Inner h = h
