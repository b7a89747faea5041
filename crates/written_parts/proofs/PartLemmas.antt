-- The parameters, the outputs and the loops of a template that has no fault, once they are written.
use Rattle.std.proofs.Common.{◌≡◌, ◌≤◌, ◌||◌, ℕ, codes, bytes_eq, Bool, true, false}
use Rattle.std.proofs.Common.{List, [], ◌∷◌, Option, Some, None, option_map, is_some, refl, sym, ap, ◌∙◌, subst}
use Rattle.std.proofs.Common.{arith, if◌then◌else◌}
use Rattle.arm_value.specs.Json.{Json, null, bool, int, text, array, object, Pairs, nesting, pairs_nesting}
use Rattle.arm_value.specs.Look.{fold, look_in}
use Rattle.arm_value.specs.View.{json}
use Rattle.arm_value.specs.declared.value.Value.{Value}
use Rattle.foundation.proofs.AsciiWords as ascii
use Rattle.template_meaning.specs.Values.{inside, value_in, text_in}
use Rattle.template_meaning.specs.Parts.{parameter_by, output_by, content_by, loop_of}
use Rattle.template_members.specs.Objects.{every, object_fault}
use Rattle.template_members.specs.Parameters.{kind_fault, unless_type, type_named, allowed_fault, int_fault}
use Rattle.template_members.specs.Parameters.{other_fault}
use Rattle.template_members.specs.Parameters.{parameter_member, parameter_fault}
use Rattle.template_members.specs.Outputs.{copy_member, copy_fault, has_copy, output_members, output_value}
use Rattle.template_members.specs.Outputs.{output_member}
use Rattle.template_members.specs.Outputs.{output_fault}
use Rattle.template_members.specs.Loops.{new_name_fault, loop_member, loop_fault}
use Rattle.template_members.specs.declared.loops.Owner.{Owner}
use Rattle.template_parts.specs.declared.content.Content.{Content}
use Rattle.template_parts.specs.declared.content.Content.TheVariants as content
use Rattle.template_parts.specs.declared.fault.TemplateFault.TheVariants.{WrongForm}
use Rattle.template_parts.specs.declared.output.Output.{Output}
use Rattle.template_parts.specs.declared.parameter.Parameter.{Parameter}
use Rattle.template_parts.specs.declared.value_type.ValueType.{ValueType}
use Rattle.template_parts.specs.declared.value_type.ValueType.TheVariants as type
use Rattle.template_texts.specs.declared.sight.Place.{Place}
use Rattle.template_texts.specs.declared.sight.Place.TheVariants.{Elsewhere}
use Rattle.template_texts.specs.declared.sight.Sight.{Sight}
use Rattle.template_values.specs.Order.{has}
use Rattle.template_values.specs.Values.{value_fault, loop_members, loop_name}
use Rattle.template_values.specs.Values as values
use Rattle.template_written.specs.Slots.{an_object, word, NestsWithin}
use Rattle.template_written.specs.Parts.{type_word, parameter_slots, value_slot, loop_slots, named_loop, output_loop}
use Rattle.template_written.specs.Parts.{output_slots}
use Rattle.template_written.proofs.SlotLemmas.{slot_at, look_slot}
use Rattle.written_parts.proofs.FaultLemmas.{Holds, always, Sound, At, found_accepted, has_inside, look_single}
use Rattle.written_parts.proofs.FaultLemmas.{sound_members}
use Rattle.written_parts.proofs.ObjectLemmas.{object_passes, object_within, inside_within}
use Rattle.written_parts.proofs.ValueLemmas.{kept, kept_value, within_kept, within_value, int_passes, int_within}
use Rattle.written_parts.proofs.ValueLemmas.{allowed_passes, allowed_within, by_object, missing_none, Kept}

-- ---- parameters

type_passes : (k : ValueType) → kind_fault (word (type_word k)) ≡ None
type_passes type.String = ap (λ t. unless_type (type_named t)) (ascii.word (codes "string") refl)
type_passes type.SecureString = ap (λ t. unless_type (type_named t)) (ascii.word (codes "securestring") refl)
type_passes type.Int = ap (λ t. unless_type (type_named t)) (ascii.word (codes "int") refl)
type_passes type.Bool = ap (λ t. unless_type (type_named t)) (ascii.word (codes "bool") refl)
type_passes type.Object = ap (λ t. unless_type (type_named t)) (ascii.word (codes "object") refl)
type_passes type.SecureObject = ap (λ t. unless_type (type_named t)) (ascii.word (codes "secureObject") refl)
type_passes type.Array = ap (λ t. unless_type (type_named t)) (ascii.word (codes "array") refl)

parameter_at : (here : Sight) (place : Place) (name : List ℕ) → At (parameter_member here place) name
unfolding other_fault
parameter_at here place name k j e =
    ap (λ f. if bytes_eq (fold (codes "type")) f then kind_fault j
    else (if bytes_eq (fold (codes "defaultValue")) f then value_fault here place j
    else (if bytes_eq (fold (codes "allowedValues")) f then allowed_fault j
    else (if (bytes_eq (fold (codes "minValue")) f || bytes_eq (fold (codes "maxValue")) f)
    || bytes_eq (fold (codes "minLength")) f || bytes_eq (fold (codes "maxLength")) f then int_fault j
    else (if bytes_eq (fold (codes "metadata")) f then None else Some (WrongForm [])))))) e

parameter_passes : (here : Sight) (place : Place) (p : Parameter)
    → Holds (λ j. value_fault here place j ≡ None) (option_map json p.default_value)
    → parameter_fault here place (an_object (parameter_slots p)) ≡ None
unfolding other_fault
parameter_passes here place p h =
    object_passes (codes "type" ∷ []) every (parameter_member here place) (parameter_slots p) refl
    ((refl, refl, refl), tt) (
      type_passes p.kind,
      (
        h,
        (
          allowed_passes p.allowed_values,
          (
            int_passes p.bounds.min_value,
            (
              int_passes p.bounds.max_value,
              (
                int_passes p.bounds.min_length,
                (
                  int_passes p.bounds.max_length,
                  (always (λ j. None ≡ None) (λ j. refl) (option_map json p.metadata), tt),
                ),
              ),
            ),
          ),
        ),
      ),
    )

parameter_sound : (here : Sight) (place : Place) (name : List ℕ) (ms : Pairs)
    → Sound (codes "type" ∷ []) every (parameter_member here place) ms
    → Kept (parameter_fault here place) (object ms) (an_object (parameter_slots (parameter_by name (Some (object ms)))))
unfolding other_fault
parameter_sound here place name ms s =
    let p = parameter_by name (Some (object ms)) in
    let n = pairs_nesting ms in
    let default = found_accepted (parameter_member here place) (codes "defaultValue") refl
    (parameter_at here place (codes "defaultValue")) ms s.accepted in
    let allowed = found_accepted (parameter_member here place) (codes "allowedValues") refl
    (parameter_at here place (codes "allowedValues")) ms s.accepted in (
      parameter_passes here place p
          (kept (λ j. value_fault here place j ≡ None) (inside (codes "defaultValue") (Some (object ms))) default),
      object_within n (parameter_slots p) (
        omega arith,
        (
          within_kept n (inside (codes "defaultValue") (Some (object ms))) (inside_within (codes "defaultValue") ms),
          (
            allowed_within n (inside (codes "allowedValues") (Some (object ms))) allowed
                (inside_within (codes "allowedValues") ms),
            (
              int_within n p.bounds.min_value,
              (
                int_within n p.bounds.max_value,
                (
                  int_within n p.bounds.min_length,
                  (
                    int_within n p.bounds.max_length,
                    (
                      within_kept n (inside (codes "metadata") (Some (object ms)))
                          (inside_within (codes "metadata") ms),
                      tt,
                    ),
                  ),
                ),
              ),
            ),
          ),
        ),
      ),
    )

-- a parameter is kept
pub parameter_kept : (here : Sight) (place : Place) (name : List ℕ) (j : Json) → parameter_fault here place j ≡ None
    → Kept (parameter_fault here place) j (an_object (parameter_slots (parameter_by name (Some j))))
parameter_kept here place name j e =
    by_object (codes "type" ∷ []) every (parameter_member here place)
    (λ i. Kept (parameter_fault here place) i (an_object (parameter_slots (parameter_by name (Some i)))))
    (λ ms s. parameter_sound here place name ms s) j e

-- ---- loops of a count and an input

-- the values of a content are accepted
abbrev pub ContentFine : Sight → Place → Content → Type 0
ContentFine here place (content.Value v) = value_fault here place (json v) ≡ None
ContentFine here place (content.Copy c i) =
    (value_fault here place (json c) ≡ None) × (value_fault here place (json i) ≡ None)

copy_at : (here : Sight) (name : List ℕ) → At (copy_member here) name
copy_at here name k j e =
    ap (λ f. if bytes_eq (fold (codes "count")) f || bytes_eq (fold (codes "input")) f then value_fault here Elsewhere j
    else Some (WrongForm [])) e

copy_passes : (here : Sight) (count input : Json) → value_fault here Elsewhere count ≡ None
    → value_fault here Elsewhere input ≡ None → copy_fault here (an_object (loop_slots count input)) ≡ None
copy_passes here count input c i =
    object_passes (codes "count" ∷ codes "input" ∷ []) every (copy_member here) (loop_slots count input) refl
    ((refl, refl, refl), ((refl, refl, refl), tt)) (c, (i, tt))

loop_within : (ms : Pairs) → nesting (an_object (loop_slots (json (value_in (inside (codes "count") (Some
    (object ms)))))
    (json (value_in (inside (codes "input") (Some (object ms))))))) ≤ nesting (object ms)
loop_within ms =
    let n = pairs_nesting ms in
    object_within n
    (loop_slots (json (value_in (inside (codes "count") (Some (object ms)))))
    (json (value_in (inside (codes "input") (Some (object ms)))))) (
      within_value n (inside (codes "count") (Some (object ms))) (inside_within (codes "count") ms),
      (within_value n (inside (codes "input") (Some (object ms))) (inside_within (codes "input") ms), tt),
    )

-- the loop of an output
copy_kept : (here : Sight) (j : Json) → copy_fault here j ≡ None
    → ContentFine here Elsewhere (loop_of (Some j))
    × (nesting (an_object (loop_slots (json (value_in (inside (codes "count") (Some j))))
    (json (value_in (inside (codes "input") (Some j)))))) ≤ nesting j)
copy_kept here j e =
    by_object (codes "count" ∷ codes "input" ∷ []) every (copy_member here)
    (λ i. ContentFine here Elsewhere (loop_of (Some i))
    × (nesting (an_object (loop_slots (json (value_in (inside (codes "count") (Some i))))
    (json (value_in (inside (codes "input") (Some i)))))) ≤ nesting i))
    (λ ms s. (
      (
        kept_value (λ i. value_fault here Elsewhere i ≡ None) refl (inside (codes "count") (Some (object ms)))
            (found_accepted (copy_member here) (codes "count") refl (copy_at here (codes "count")) ms s.accepted),
        kept_value (λ i. value_fault here Elsewhere i ≡ None) refl (inside (codes "input") (Some (object ms)))
            (found_accepted (copy_member here) (codes "input") refl (copy_at here (codes "input")) ms s.accepted),
      ),
      loop_within ms,
    )) j e

-- ---- outputs

output_at : (here : Sight) (looped : Bool) (name : List ℕ) → At (output_member here looped) name
output_at here looped name k j e =
    ap (λ f. if bytes_eq (fold (codes "type")) f then kind_fault j
    else (if bytes_eq (fold (codes "value")) f then output_value here looped j
    else (if bytes_eq (fold (codes "copy")) f then copy_fault here j
    else (if bytes_eq (fold (codes "condition")) f then value_fault here Elsewhere j
    else (if bytes_eq (fold (codes "metadata")) f then None else Some (WrongForm [])))))) e

output_by_content : (here : Sight) (name : List ℕ) (kind : ValueType) (c : Content) (condition metadata : Option Value)
    → ContentFine here Elsewhere c
    → Holds (λ j. value_fault here Elsewhere j ≡ None) (option_map json condition)
    → object_fault (output_members (is_some (output_loop c))) every (output_member here (is_some (output_loop c)))
    (an_object (output_slots (record {
      name = name;
      kind = kind;
      content = c;
      condition = condition;
      metadata = metadata;
    }))) ≡ None
output_by_content here name kind (content.Value v) condition metadata f h =
    object_passes (codes "type" ∷ codes "value" ∷ []) every (output_member here false)
    (output_slots (record {
      name = name;
      kind = kind;
      content = content.Value v;
      condition = condition;
      metadata = metadata;
    })) refl ((refl, refl, refl), ((refl, refl, refl), tt))
    (type_passes kind, (f, (tt, (h, (always (λ j. None ≡ None) (λ j. refl) (option_map json metadata), tt)))))
output_by_content here name kind (content.Copy count input) condition metadata f h =
    object_passes (codes "type" ∷ []) every (output_member here true)
    (output_slots (record {
      name = name;
      kind = kind;
      content = content.Copy count input;
      condition = condition;
      metadata = metadata;
    })) refl ((refl, refl, refl), tt) (
      type_passes kind,
      (
        tt,
        (
          copy_passes here (json count) (json input) f.0 f.1,
          (h, (always (λ j. None ≡ None) (λ j. refl) (option_map json metadata), tt)),
        ),
      ),
    )

written_copy : (o : Output) → has_copy (an_object (output_slots o)) ≡ is_some (slot_at (codes "copy") (output_slots o))
written_copy o =
    has_inside (codes "copy") refl _
    ∙ ap (λ (x : Option Json). is_some x) (look_slot (codes "copy") (output_slots o) [] refl refl refl)

output_passes : (here : Sight) (o : Output) → ContentFine here Elsewhere o.content
    → Holds (λ j. value_fault here Elsewhere j ≡ None) (option_map json o.condition)
    → output_fault here (an_object (output_slots o)) ≡ None
output_passes here o f h =
    ap (λ b. object_fault (output_members b) every (output_member here b) (an_object (output_slots o)))
    (written_copy o)
    ∙ output_by_content here o.name o.kind o.content o.condition o.metadata f h

content_fine : (here : Sight) (c o : Option Json) (looped : Bool) → looped ≡ is_some c
    → Holds (λ j. copy_fault here j ≡ None) c
    → Holds (λ j. output_value here looped j ≡ None) (inside (codes "value") o)
    → ContentFine here Elsewhere (content_by c o)
content_fine here None o looped e h v =
    let w = subst (λ b. Holds (λ j. output_value here b j ≡ None) (inside (codes "value") o)) e v in
    kept_value (λ j. value_fault here Elsewhere j ≡ None) refl (inside (codes "value") o) w
content_fine here (Some j) o looped e h v = (copy_kept here j h).0

content_within : (here : Sight) (n : ℕ) (c o : Option Json) → Holds (λ j. copy_fault here j ≡ None) c
    → NestsWithin n c → NestsWithin n (inside (codes "value") o)
    → NestsWithin n (value_slot (content_by c o)) × NestsWithin n (output_loop (content_by c o))
content_within here n None o h w v = (within_value n (inside (codes "value") o) v, tt)
content_within here n (Some j) o h w v = (tt, omega (arith, w, (copy_kept here j h).1))

output_sound : (here : Sight) (name : List ℕ) (ms : Pairs)
    → Sound (output_members (has (codes "copy") ms)) every (output_member here (has (codes "copy") ms)) ms
    → Kept (output_fault here) (object ms) (an_object (output_slots (output_by name (Some (object ms)))))
output_sound here name ms s =
    let b = has (codes "copy") ms in
    let v = Some (object ms) in
    let o = output_by name v in
    let n = pairs_nesting ms in
    let copy = found_accepted (output_member here b) (codes "copy") refl (output_at here b (codes "copy")) ms s.accepted
    in
    let value = found_accepted (output_member here b) (codes "value") refl (output_at here b (codes "value")) ms
    s.accepted in
    let condition = found_accepted (output_member here b) (codes "condition") refl (output_at here b
    (codes "condition"))
    ms s.accepted in
    let inner = content_within here n (inside (codes "copy") v) v copy (inside_within (codes "copy") ms)
    (inside_within (codes "value") ms) in (
      output_passes here o
          (content_fine here (inside (codes "copy") v) v b (has_inside (codes "copy") refl ms) copy value)
          (kept (λ j. value_fault here Elsewhere j ≡ None) (inside (codes "condition") v) condition),
      object_within n (output_slots o) (
        omega arith,
        (
          inner.0,
          (
            inner.1,
            (
              within_kept n (inside (codes "condition") v) (inside_within (codes "condition") ms),
              (within_kept n (inside (codes "metadata") v) (inside_within (codes "metadata") ms), tt),
            ),
          ),
        ),
      ),
    )

-- an output is kept
pub output_kept : (here : Sight) (name : List ℕ) (j : Json) → output_fault here j ≡ None
    → Kept (output_fault here) j (an_object (output_slots (output_by name (Some j))))
output_kept here name null e = cc
output_kept here name (bool b) e = cc
output_kept here name (int z) e = cc
output_kept here name (text t) e = cc
output_kept here name (array js) e = cc
output_kept here name (object ms) e =
    let b = has (codes "copy") ms in
    output_sound here name ms (sound_members (output_members b) every (output_member here b) ms e)

-- ---- loops with a name

loop_at : (here : Sight) (place : Place) (owner : Owner) (names : List (List ℕ)) (name : List ℕ)
    → At (loop_member here place owner names) name
loop_at here place owner names name k j e =
    ap (λ f. if bytes_eq (fold (codes "name")) f then new_name_fault owner names j
    else (if bytes_eq (fold (codes "count")) f || bytes_eq (fold (codes "input")) f then value_fault here place j
    else Some (WrongForm []))) e

pub loop_passes : (here : Sight) (place : Place) (owner : Owner) (names : List (List ℕ)) (name : List ℕ)
    (count input : Json) → new_name_fault owner names (text name) ≡ None → value_fault here place count ≡ None
    → value_fault here place input ≡ None
    → loop_fault here place owner names (named_loop name count input) ≡ None
loop_passes here place owner names name count input e c i =
    object_passes loop_members every (loop_member here place owner names)
    ((codes "name", Some (text name)) ∷ loop_slots count input) refl
    ((refl, refl, refl), ((refl, refl, refl), ((refl, refl, refl), tt))) (e, (c, (i, tt)))

-- the loop that a loop is written as
abbrev pub relooped : Json → Json
relooped j =
    named_loop (text_in (inside (codes "name") (Some j))) (json (value_in (inside (codes "count") (Some j))))
    (json (value_in (inside (codes "input") (Some j))))

named_text : (owner : Owner) (names : List (List ℕ)) (o : Option Json) → is_some o ≡ true
    → Holds (λ j. new_name_fault owner names j ≡ None) o
    → (o ≡ Some (text (text_in o))) × (new_name_fault owner names (text (text_in o)) ≡ None)
named_text owner names None t h = cc
named_text owner names (Some null) t h = cc
named_text owner names (Some (bool b)) t h = cc
named_text owner names (Some (int z)) t h = cc
named_text owner names (Some (text s)) t h = (refl, h)
named_text owner names (Some (array js)) t h = cc
named_text owner names (Some (object ms)) t h = cc

-- what is known of a loop that is not refused
pub record Looped (here : Sight) (place : Place) (owner : Owner) (names : List (List ℕ)) (j : Json) : Type 0 where
  pub new : new_name_fault owner names (text (text_in (inside (codes "name") (Some j)))) ≡ None
  pub named : loop_name j ≡ Some (text_in (inside (codes "name") (Some j)))
  pub count : value_fault here place (json (value_in (inside (codes "count") (Some j)))) ≡ None
  pub input : value_fault here place (json (value_in (inside (codes "input") (Some j)))) ≡ None
  pub within : (t : List ℕ) → nesting (named_loop t (json (value_in (inside (codes "count") (Some j))))
      (json (value_in (inside (codes "input") (Some j))))) ≤ nesting j

loop_sound : (here : Sight) (place : Place) (owner : Owner) (names : List (List ℕ)) (ms : Pairs)
    → Sound loop_members every (loop_member here place owner names) ms
    → Looped here place owner names (object ms)
loop_sound here place owner names ms s =
    let rule = loop_member here place owner names in
    let v = Some (object ms) in
    let n = pairs_nesting ms in
    let there = missing_none loop_members ms s.there in
    let name = found_accepted rule (codes "name") refl (loop_at here place owner names (codes "name")) ms s.accepted in
    let found = named_text owner names (inside (codes "name") v)
    (sym (has_inside (codes "name") refl ms) ∙ there.1.1.0) name in
    record {
      new = found.1;
      named = ap (λ o. values.text_in o) (sym (look_single every (codes "name") ms (λ l e. refl) s.apart)
          ∙ ap (λ w. look_in w ms) (sym (ascii.word (codes "name") refl)) ∙ found.0);
      count = kept_value (λ j. value_fault here place j ≡ None) refl (inside (codes "count") v)
          (found_accepted rule (codes "count") refl (loop_at here place owner names (codes "count")) ms s.accepted);
      input = kept_value (λ j. value_fault here place j ≡ None) refl (inside (codes "input") v)
          (found_accepted rule (codes "input") refl (loop_at here place owner names (codes "input")) ms s.accepted);
      within = λ t. object_within n
          ((codes "name", Some (text t))
          ∷ loop_slots (json (value_in (inside (codes "count") v))) (json (value_in (inside (codes "input") v)))) (
            omega arith,
            (
              within_value n (inside (codes "count") v) (inside_within (codes "count") ms),
              (within_value n (inside (codes "input") v) (inside_within (codes "input") ms), tt),
            ),
          );
    }

pub loop_read : (here : Sight) (place : Place) (owner : Owner) (names : List (List ℕ)) (j : Json)
    → loop_fault here place owner names j ≡ None → Looped here place owner names j
loop_read here place owner names j e =
    by_object loop_members every (loop_member here place owner names) (Looped here place owner names)
    (λ ms s. loop_sound here place owner names ms s) j e
