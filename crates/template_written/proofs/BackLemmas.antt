-- What the parts of a template are, once they are written.
use Rattle.std.proofs.Common.{◌≡◌, ℕ, ℤ, nat_lt, chars, codes, bytes_eq, Bool, true, false, List, [], ◌∷◌, map}
use Rattle.std.proofs.Common.{Option, Some, None, option_map, if◌then◌else◌, refl, ap, ap₂, ◌∙◌}
use Rattle.std.specs.List.{list_all}
use Rattle.std.proofs.lemmas.Slice.Eq.{bytes_eq-Decides}
use Rattle.arm_value.specs.Json.{Json, int, text, array, Member, row}
use Rattle.arm_value.specs.Look.{is_same_folded}
use Rattle.arm_value.specs.View.{json}
use Rattle.arm_value.specs.declared.value.Value.{Value}
use Rattle.arm_value.proofs.TreeLemmas.{members-pairs}
use Rattle.plain_values.specs.Plain.{meant, written_plainly}
use Rattle.plain_values.proofs.TextsLemmas.{written_means}
use Rattle.template_parts.specs.declared.content.Argument.{Argument}
use Rattle.template_parts.specs.declared.content.Content.{Content}
use Rattle.template_parts.specs.declared.content.Content.TheVariants as content
use Rattle.template_parts.specs.declared.output.Output.{Output}
use Rattle.template_parts.specs.declared.parameter.Parameter.{Parameter}
use Rattle.template_parts.specs.declared.value_type.ValueType.{ValueType}
use Rattle.template_parts.specs.declared.value_type.ValueType.TheVariants as type
use Rattle.template_meaning.specs.Values.{Place, inside, optional, value_in, number_in, items_in, members_in}
use Rattle.template_meaning.specs.Values.{is_word}
use Rattle.template_meaning.specs.Parts.{type_in, bounds_of, allowed_in, parameter_of, loop_of, content_by, output_of}
use Rattle.template_meaning.specs.Parts.{is_copy, copies_in, first_in, argument_of}
use Rattle.template_meaning.proofs.ValueLemmas.{value_back}
use Rattle.foundation.proofs.AsciiWords as ascii
use Rattle.template_written.specs.Slots.{Slot, put_slot, an_object, word, array_unless_empty, object_unless_empty}
use Rattle.template_written.specs.Parts.{type_word, parameter_slots, written_parameter, value_slot, loop_slots}
use Rattle.template_written.specs.Parts.{named_loop}
use Rattle.template_written.specs.Parts.{output_loop, output_slots, written_output, value_loop}
use Rattle.template_written.specs.Parts.{argument_slots, written_argument}
use Rattle.template_written.proofs.SlotLemmas.{look_slot, slot_at}
use Rattle.arm_value.proofs.SameLemmas.{items-row}

-- ---- values that may be missing

pub optional_back : (o : Option Value) → optional (option_map json o) ≡ o
optional_back None = refl
optional_back (Some v) = ap Some (value_back v)

pub number_back : (o : Option ℤ) → number_in (option_map int o) ≡ o
number_back None = refl
number_back (Some z) = refl

pub members_unless : (ms : List Member) → members_in (object_unless_empty ms) ≡ ms
members_unless [] = refl
members_unless (m ∷ ms) = ap (λ r. m ∷ r) (members-pairs ms)

pub items_unless : (js : List Json) → items_in (array_unless_empty js) ≡ js
items_unless [] = refl
items_unless (j ∷ js) = ap (λ r. j ∷ r) (items-row js)

meant_back : (js : List Json) → map meant (map written_plainly js) ≡ js
meant_back [] = refl
meant_back (j ∷ js) = ap₂ (λ k ks. k ∷ ks) (written_means j) (meant_back js)

allowed_back : (o : Option (List Json))
    → allowed_in (option_map (λ js. array (row (map written_plainly js))) o) ≡ o
allowed_back None = refl
allowed_back (Some js) = ap Some (ap (map meant) (items-row (map written_plainly js)) ∙ meant_back js)

-- ---- words

pub is_word-word : (w v : List ℕ) → list_all (λ b. nat_lt b 128) w ≡ true → list_all (λ b. nat_lt b 128) v ≡ true
    → is_word w (Some (word v)) ≡ is_same_folded w v
is_word-word w v a b = ap₂ is_same_folded (ascii.word w a) (ascii.word v b)

-- the type that a word names
type_of : List ℕ → ValueType
type_of w =
    if is_same_folded (codes "securestring") w then type.SecureString
    else (if is_same_folded (codes "int") w then type.Int
    else (if is_same_folded (codes "bool") w then type.Bool
    else (if is_same_folded (codes "object") w then type.Object
    else (if is_same_folded (codes "secureobject") w then type.SecureObject
    else (if is_same_folded (codes "array") w then type.Array else type.String)))))

pick : Bool → Bool → Bool → Bool → Bool → Bool → ValueType
pick a b c d e f =
    if a then type.SecureString
    else (if b then type.Int
    else (if c then type.Bool
    else (if d then type.Object else (if e then type.SecureObject else (if f then type.Array else type.String)))))

type_in-word : (w : List ℕ) → list_all (λ b. nat_lt b 128) w ≡ true → type_in (Some (word w)) ≡ type_of w
unfolding type_of pick
type_in-word w a =
    λ x.
    pick (is_word-word (codes "securestring") w refl a x) (is_word-word (codes "int") w refl a x)
    (is_word-word (codes "bool") w refl a x) (is_word-word (codes "object") w refl a x)
    (is_word-word (codes "secureobject") w refl a x) (is_word-word (codes "array") w refl a x)

pub type_back : (k : ValueType) → type_in (Some (word (type_word k))) ≡ k
unfolding type_of
type_back type.String = type_in-word (codes "string") refl
type_back type.SecureString = type_in-word (codes "securestring") refl
type_back type.Int = type_in-word (codes "int") refl
type_back type.Bool = type_in-word (codes "bool") refl
type_back type.Object = type_in-word (codes "object") refl
type_back type.SecureObject = type_in-word (codes "secureObject") refl
type_back type.Array = type_in-word (codes "array") refl

-- ---- parameters

-- the members of a parameter that is written
in_parameter : (p : Parameter) (name : List ℕ) → list_all (λ b. nat_lt b 128) name ≡ true
    → inside name (Some (an_object (parameter_slots p))) ≡ slot_at name (parameter_slots p)
in_parameter p name a = look_slot name (parameter_slots p) [] a refl refl

bounds_back : (p : Parameter) → bounds_of (Some (an_object (parameter_slots p))) ≡ p.bounds
bounds_back p = λ x. record {
  min_value = (ap number_in (in_parameter p (codes "minValue") refl) ∙ number_back p.bounds.min_value) x;
  max_value = (ap number_in (in_parameter p (codes "maxValue") refl) ∙ number_back p.bounds.max_value) x;
  min_length = (ap number_in (in_parameter p (codes "minLength") refl) ∙ number_back p.bounds.min_length) x;
  max_length = (ap number_in (in_parameter p (codes "maxLength") refl) ∙ number_back p.bounds.max_length) x;
}

pub parameter_back : (p : Parameter) → parameter_of (written_parameter p) ≡ p
parameter_back p = λ x. record {
  name = p.name;
  kind = (ap type_in (in_parameter p (codes "type") refl) ∙ type_back p.kind) x;
  default_value = (ap optional (in_parameter p (codes "defaultValue") refl) ∙ optional_back p.default_value) x;
  allowed_values = (ap allowed_in (in_parameter p (codes "allowedValues") refl) ∙ allowed_back p.allowed_values) x;
  bounds = bounds_back p x;
  metadata = (ap optional (in_parameter p (codes "metadata") refl) ∙ optional_back p.metadata) x;
}

-- ---- loops and what has one

value_in_back : (v : Value) → value_in (Some (json v)) ≡ v
value_in_back v = value_back v

-- the loop of an object of which the last two slots are its count and its input
pub loop_back : (ss : List Slot) (count input : Value)
    → inside (codes "count") (Some (an_object ss)) ≡ Some (json count)
    → inside (codes "input") (Some (an_object ss)) ≡ Some (json input)
    → loop_of (Some (an_object ss)) ≡ content.Copy count input
loop_back ss count input c i =
    λ x. content.Copy ((ap value_in c ∙ value_back count) x) ((ap value_in i ∙ value_back input) x)

pub plain_loop_back : (count input : Value)
    → loop_of (Some (an_object (loop_slots (json count) (json input)))) ≡ content.Copy count input
plain_loop_back count input =
    let ss = loop_slots (json count) (json input) in
    loop_back ss count input (look_slot (codes "count") ss [] refl refl refl)
    (look_slot (codes "input") ss [] refl refl refl)

pub named_loop_back : (name : List ℕ) (count input : Value)
    → loop_of (Some (named_loop name (json count) (json input))) ≡ content.Copy count input
named_loop_back name count input =
    let ss : List Slot = (codes "name", Some (text name)) ∷ loop_slots (json count) (json input) in
    loop_back ss count input (look_slot (codes "count") ss [] refl refl refl)
    (look_slot (codes "input") ss [] refl refl refl)

-- ---- outputs

in_output : (o : Output) (name : List ℕ) → list_all (λ b. nat_lt b 128) name ≡ true
    → inside name (Some (an_object (output_slots o))) ≡ slot_at name (output_slots o)
in_output o name a = look_slot name (output_slots o) [] a refl refl

output_content : (c : Content) (o : Place) → inside (codes "value") o ≡ value_slot c → content_by (output_loop c) o ≡ c
output_content (content.Value v) o e = ap (λ p. content.Value (value_in p)) e ∙ ap (λ w. content.Value w) (value_back v)
output_content (content.Copy count input) o e = plain_loop_back count input

pub output_back : (o : Output) → output_of (written_output o) ≡ o
output_back o = λ x. record {
  name = o.name;
  kind = (ap type_in (in_output o (codes "type") refl) ∙ type_back o.kind) x;
  content = (ap (λ c. content_by c (Some (an_object (output_slots o)))) (in_output o (codes "copy") refl)
      ∙ output_content o.content (Some (an_object (output_slots o))) (in_output o (codes "value") refl)) x;
  condition = (ap optional (in_output o (codes "condition") refl) ∙ optional_back o.condition) x;
  metadata = (ap optional (in_output o (codes "metadata") refl) ∙ optional_back o.metadata) x;
}

-- ---- arguments

pub copy_word : is_copy (chars (codes "copy")) ≡ true
copy_word = (bytes_eq-Decides (chars (codes "copy")) (chars (codes "copy"))).1 refl

value_word : is_copy (chars (codes "value")) ≡ false
value_word = ap₂ bytes_eq (ascii.word (codes "copy") refl) (ascii.word (codes "value") refl)

argument_content : (c : Content)
    → content_by (first_in (items_in (copies_in (members_in (Some (an_object (argument_slots c)))))))
    (Some (an_object (argument_slots c))) ≡ c
unfolding put_slot
argument_content (content.Value v) =
    let ss = argument_slots (content.Value v) in
    ap (λ b. content_by (first_in (items_in (if b then Some (json v) else None))) (Some (an_object ss))) value_word
    ∙ ap (λ p. content.Value (value_in p)) (look_slot (codes "value") ss [] refl refl refl)
    ∙ ap (λ w. content.Value w) (value_back v)
argument_content (content.Copy count input) =
    let ss = argument_slots (content.Copy count input) in
    let loops = array (row (value_loop (json count) (json input) ∷ [])) in
    ap (λ b. content_by (first_in (items_in (if b then Some loops else None))) (Some (an_object ss))) copy_word
    ∙ named_loop_back (chars (codes "value")) count input

pub argument_back : (a : Argument) → argument_of (written_argument a) ≡ a
argument_back a = λ x. record { name = a.name; content = argument_content a.content x }

-- ---- lists

pub map_back : {A : Type 0} (w : A → Member) (r : Member → A) → ((x : A) → r (w x) ≡ x) → (xs : List A)
    → map r (map w xs) ≡ xs
map_back w r h [] = refl
map_back w r h (x ∷ xs) = ap₂ (λ y ys. y ∷ ys) (h x) (map_back w r h xs)
