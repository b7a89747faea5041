-- What declares a resource that has no fault, once it is written.
use Rattle.std.proofs.Common.{◌≡◌, ◌≤◌, ◌&&◌, ℕ, pos, negsuc, nat_lt, nat_le, codes, bytes_eq}
use Rattle.std.proofs.Common.{Bool, true, false, List, [], ◌∷◌, Option, Some, None, option_map, is_some, refl, sym, ap}
use Rattle.std.proofs.Common.{◌∙◌, subst, arith, if◌then◌else◌}
use Rattle.std.specs.List.{list_any}
use Rattle.arm_ids.specs.Members.{declaration_members, refused_members, is_declaration_member}
use Rattle.arm_ids.specs.Members.{is_refused_member}
use Rattle.arm_value.specs.Json.{Json, null, bool, int, text, array, object, no_items, item}
use Rattle.arm_value.specs.Json.{Pairs, nesting, row_nesting, pairs_nesting}
use Rattle.arm_value.specs.Look.{fold, is_same_folded}
use Rattle.arm_value.specs.View.{json}
use Rattle.arm_value.proofs.TreeLemmas.{row-items}
use Rattle.foundation.proofs.AsciiWords as ascii
use Rattle.foundation.proofs.TruthValues.{and_false, and_true}
use Rattle.resource_members.specs.Copies.{loop_name_fault, is_mode, mode_fault, batch_fault, copy_member}
use Rattle.resource_members.specs.Copies.{loop_fault, may_loop, copy_fault}
use Rattle.resource_members.specs.Members.{word_fault, type_fault, name_fault}
use Rattle.resource_members.specs.Members.{depends_fault, children_fault, declaring_fault}
use Rattle.resource_members.specs.Members.{existing_fault, body_fault, other_fault, member_fault}
use Rattle.resource_members.specs.Settings.{is_symbolic, is_properties, is_single, resource_members}
use Rattle.resource_members.specs.declared.setting.Rank.{Rank}
use Rattle.resource_members.specs.declared.setting.Setting.{Setting}
use Rattle.template_meaning.specs.Values.{inside, optional, text_in, number_in, is_true, items_in, is_word}
use Rattle.template_meaning.specs.Resources.{batch_size, copy_by, copy_in, declaration_of}
use Rattle.template_members.specs.Objects.{every}
use Rattle.template_parts.specs.declared.fault.TemplateFault.{TemplateFault}
use Rattle.template_parts.specs.declared.fault.TemplateFault.TheVariants.{WrongForm, Limit}
use Rattle.template_parts.specs.declared.limit.Which.TheVariants as which
use Rattle.template_parts.specs.declared.looping.Batches.{Batches}
use Rattle.template_parts.specs.declared.looping.Batches.TheVariants.{Parallel, Serial}
use Rattle.template_texts.specs.declared.sight.Place.TheVariants.{Elsewhere}
use Rattle.template_texts.specs.declared.sight.Sight.{Sight}
use Rattle.template_values.specs.Order.{missing, has}
use Rattle.template_values.specs.Values.{value_fault}
use Rattle.template_written.specs.Slots.{an_object, array_unless_empty, NestsWithin, SlotsNest}
use Rattle.template_written.specs.Parts.{mode_of, size_of, copy_slots, true_or_none, declaration_slots}
use Rattle.written_parts.proofs.FaultLemmas.{Holds, always, Sound, At, found_accepted, has_inside}
use Rattle.written_parts.proofs.ObjectLemmas.{object_passes, object_within, inside_within, SlotsPass}
use Rattle.written_parts.proofs.ValueLemmas.{kept, kept_value, within_kept, within_value, by_object, missing_none}

-- ---- texts

-- a type, or a version, that is there and not refused is a text
pub typed_text : (rank : Rank) (o : Option Json) → is_some o ≡ true → Holds (λ j. type_fault rank j ≡ None) o
    → o ≡ Some (text (text_in o))
typed_text rank None t h = cc
typed_text rank (Some null) t h = cc
typed_text rank (Some (bool b)) t h = cc
typed_text rank (Some (int z)) t h = cc
typed_text rank (Some (text s)) t h = refl
typed_text rank (Some (array js)) t h = cc
typed_text rank (Some (object ms)) t h = cc

word_text : (o : Option Json) → is_some o ≡ true → Holds (λ j. word_fault j ≡ None) o → o ≡ Some (text (text_in o))
word_text None t h = cc
word_text (Some null) t h = cc
word_text (Some (bool b)) t h = cc
word_text (Some (int z)) t h = cc
word_text (Some (text s)) t h = refl
word_text (Some (array js)) t h = cc
word_text (Some (object ms)) t h = cc

loop_text : (names : List (List ℕ)) (o : Option Json) → is_some o ≡ true
    → Holds (λ j. loop_name_fault names j ≡ None) o → o ≡ Some (text (text_in o))
loop_text names None t h = cc
loop_text names (Some null) t h = cc
loop_text names (Some (bool b)) t h = cc
loop_text names (Some (int z)) t h = cc
loop_text names (Some (text s)) t h = refl
loop_text names (Some (array js)) t h = cc
loop_text names (Some (object ms)) t h = cc

-- what holds of a text that is there holds of the text that is read
pub text_kept : (P : Json → Type 0) (o : Option Json) → o ≡ Some (text (text_in o)) → Holds P o → P (text (text_in o))
text_kept P o e h = subst (Holds P) e h

-- ---- loops of resources

copy_at : (here : Sight) (names : List (List ℕ)) (name : List ℕ) → At (copy_member here names) name
copy_at here names name k j e =
    ap (λ f. if bytes_eq (fold (codes "name")) f then loop_name_fault names j
    else (if bytes_eq (fold (codes "count")) f then value_fault here Elsewhere j
    else (if bytes_eq (fold (codes "mode")) f then mode_fault j
    else (if bytes_eq (fold (codes "batchSize")) f then batch_fault j else Some (WrongForm []))))) e

-- the modes and the sizes that are written are not refused
BatchesFine : Batches → Type 0
BatchesFine b = Holds (λ j. mode_fault j ≡ None) (mode_of b) × Holds (λ j. batch_fault j ≡ None) (size_of b)

serial_passes : (n : ℕ) → batch_fault (int (pos n)) ≡ None → BatchesFine (Serial n)
unfolding BatchesFine
serial_passes n e = (ap (λ t. if is_mode t then None else Some (WrongForm [])) (ascii.word (codes "serial") refl), e)

size_kept : (o : Option Json) → Holds (λ j. batch_fault j ≡ None) o
    → batch_fault (int (pos (batch_size (number_in o)))) ≡ None
size_kept None h = refl
size_kept (Some null) h = cc
size_kept (Some (bool b)) h = cc
size_kept (Some (int (pos n))) h = by_tests (nat_lt n 1) (nat_lt 800 n) (nat_le n 800) refl refl refl h
  where
    by_tests : (a b c : Bool) → nat_lt n 1 ≡ a → nat_lt 800 n ≡ b → nat_le n 800 ≡ c
        → (if a then Some (WrongForm []) else (if b then Some (Limit which.Batch n) else None)) ≡ None
        → batch_fault (int (pos (if c then n else 1))) ≡ None
    by_tests true b c d e f g = cc
    by_tests false true c d e f g = cc
    by_tests false false true d e f g = h
    by_tests false false false d e f g = refl
size_kept (Some (int (negsuc n))) h = cc
size_kept (Some (text t)) h = cc
size_kept (Some (array js)) h = cc
size_kept (Some (object ms)) h = cc

batches_fine : (o p : Option Json) → Holds (λ j. batch_fault j ≡ None) p
    → BatchesFine (if is_word (codes "serial") o then Serial (batch_size (number_in p)) else Parallel)
unfolding BatchesFine
batches_fine o p h = by_test (is_word (codes "serial") o)
  where
    by_test : (b : Bool) → BatchesFine (if b then Serial (batch_size (number_in p)) else Parallel)
    by_test true = serial_passes (batch_size (number_in p)) (size_kept p h)
    by_test false = (tt, tt)

batches_within : (n : ℕ) (b : Batches) → NestsWithin n (mode_of b) × NestsWithin n (size_of b)
batches_within n Parallel = (tt, tt)
batches_within n (Serial m) = (omega arith, omega arith)

-- what is known of a resource's loop that is not refused
pub record CopyKept (here : Sight) (names : List (List ℕ)) (j : Json) : Type 0 where
  pub passes : loop_fault here names (an_object (copy_slots (copy_by (Some j)))) ≡ None
  pub within : nesting (an_object (copy_slots (copy_by (Some j)))) ≤ nesting j
  pub named : inside (codes "name") (Some j) ≡ Some (text (copy_by (Some j)).name)

copy_sound : (here : Sight) (names : List (List ℕ)) (ms : Pairs)
    → Sound (codes "count" ∷ codes "name" ∷ []) every (copy_member here names) ms → CopyKept here names (object ms)
unfolding BatchesFine
copy_sound here names ms s =
    let rule = copy_member here names in
    let v = Some (object ms) in
    let n = pairs_nesting ms in
    let c = copy_by v in
    let there = missing_none (codes "count" ∷ codes "name" ∷ []) ms s.there in
    let name = found_accepted rule (codes "name") refl (copy_at here names (codes "name")) ms s.accepted in
    let count = found_accepted rule (codes "count") refl (copy_at here names (codes "count")) ms s.accepted in
    let size = found_accepted rule (codes "batchSize") refl (copy_at here names (codes "batchSize")) ms s.accepted in
    let is = loop_text names (inside (codes "name") v) (sym (has_inside (codes "name") refl ms) ∙ there.1.0) name in
    let fine = batches_fine (inside (codes "mode") v) (inside (codes "batchSize") v) size in
    let near = batches_within n c.batches in
    record {
      passes = object_passes (codes "count" ∷ codes "name" ∷ []) every rule (copy_slots c) refl
          ((refl, refl, refl), ((refl, refl, refl), tt)) (
            text_kept (λ j. loop_name_fault names j ≡ None) (inside (codes "name") v) is name,
            (
              kept_value (λ j. value_fault here Elsewhere j ≡ None) refl (inside (codes "count") v) count,
              (fine.0, (fine.1, tt)),
            ),
          );
      within = object_within n (copy_slots c) (
        omega arith,
        (
          within_value n (inside (codes "count") v) (inside_within (codes "count") ms),
          (near.0, (near.1, tt)),
        ),
      );
      named = is;
    }

copy_read : (here : Sight) (names : List (List ℕ)) (j : Json) → loop_fault here names j ≡ None → CopyKept here names j
copy_read here names j e =
    by_object (codes "count" ∷ codes "name" ∷ []) every (copy_member here names) (CopyKept here names)
    (λ ms s. copy_sound here names ms s) j e

may_by : (b : Bool) (o : Option TemplateFault) → (if b then o else Some (WrongForm [])) ≡ None → (b ≡ true) × (o ≡ None)
may_by true o e = (refl, e)
may_by false o e = cc

-- the loop of a resource is kept
pub copy_known : (here : Sight) (s : Setting) (names : List (List ℕ)) (j : Json) → copy_fault here s names j ≡ None
    → CopyKept here names j × (copy_fault here s names (an_object (copy_slots (copy_by (Some j)))) ≡ None)
copy_known here s names j e =
    let p = may_by (may_loop s.rank s.is_parent) (loop_fault here names j) e in
    let k = copy_read here names j p.1 in (
      k,
      ap (λ b. if b then loop_fault here names (an_object (copy_slots (copy_by (Some j)))) else Some (WrongForm [])) p.0
          ∙ k.passes,
    )

-- ---- lists

-- a list that is there is the array that it was read from
pub array_kept : (P : Json → Type 0) (o : Option Json) → Holds P o → Holds P (array_unless_empty (items_in o))
array_kept P None h = tt
array_kept P (Some null) h = tt
array_kept P (Some (bool b)) h = tt
array_kept P (Some (int z)) h = tt
array_kept P (Some (text t)) h = tt
array_kept P (Some (array no_items)) h = tt
array_kept P (Some (array (item j js))) h = subst (λ r. P (array (item j r))) (sym (row-items js)) h
array_kept P (Some (object ms)) h = tt

pub array_within : (n : ℕ) (o : Option Json) → NestsWithin n o → NestsWithin n (array_unless_empty (items_in o))
array_within n None h = tt
array_within n (Some null) h = tt
array_within n (Some (bool b)) h = tt
array_within n (Some (int z)) h = tt
array_within n (Some (text t)) h = tt
array_within n (Some (array no_items)) h = tt
array_within n (Some (array (item j js))) h = omega (arith, h, ap row_nesting (row-items js))
array_within n (Some (object ms)) h = tt

-- ---- what a rule says of the members that declare a resource

pub declared_at : (here : Sight) (s : Setting) (names : List (List ℕ)) (name : List ℕ)
    → list_any (λ other. is_same_folded other name) refused_members ≡ false
    → list_any (λ other. is_same_folded other name) declaration_members ≡ true → At (member_fault here s names) name
unfolding is_declaration_member is_refused_member
declared_at here s names name r d k j e =
    let choose : List ℕ → Bool → Bool → Option TemplateFault =
    λ x a b. if a then Some (WrongForm [])
    else (if b then declaring_fault here s names x j else other_fault here s x j) in
    let refused = ap (λ f. list_any (λ other. bytes_eq (fold other) f) refused_members) e in
    let declares = ap (λ f. list_any (λ other. bytes_eq (fold other) f) declaration_members) e in
    ap (λ b. choose k b (is_declaration_member k)) (refused ∙ r) ∙ ap (λ b. choose k false b) (declares ∙ d)
    ∙ ap (λ f. if bytes_eq (fold (codes "type")) f then type_fault s.rank j
    else (if bytes_eq (fold (codes "apiVersion")) f then word_fault j
    else (if bytes_eq (fold (codes "name")) f then name_fault here s.rank j
    else (if bytes_eq (fold (codes "condition")) f then value_fault here Elsewhere j
    else (if bytes_eq (fold (codes "dependsOn")) f then depends_fault here j
    else (if bytes_eq (fold (codes "copy")) f then copy_fault here s names j
    else (if bytes_eq (fold (codes "resources")) f then children_fault s.rank else None))))))) e
    ∙ sym (ap (λ b. choose name b (is_declaration_member name)) r ∙ ap (λ b. choose name false b) d)

-- what is said of `existing` where the resource has a symbolic name
existing_is : (here : Sight) (s : Setting) (names : List (List ℕ)) (k : List ℕ) (j : Json) → is_symbolic s.rank ≡ true
    → fold k ≡ fold (codes "existing") → member_fault here s names k j ≡ existing_fault s.is_deployment j
unfolding is_declaration_member is_refused_member
existing_is here s names k j y e =
    let there = and_true (is_symbolic s.rank) (is_same_folded (codes "existing") k) y
    (ap (λ f. bytes_eq (fold (codes "existing")) f) e) in
    ap (λ b. if b then Some (WrongForm [])
    else (if is_declaration_member k then declaring_fault here s names k j else other_fault here s k j))
    (ap (λ f. list_any (λ other. bytes_eq (fold other) f) refused_members) e)
    ∙ ap (λ b. if b then declaring_fault here s names k j else other_fault here s k j)
    (ap (λ f. list_any (λ other. bytes_eq (fold other) f) declaration_members) e)
    ∙ ap (λ b. if b then existing_fault s.is_deployment j
    else (if is_properties s k then None else body_fault here k j)) there

-- the template of a nested deployment is looked at elsewhere
pub properties_are : (here : Sight) (s : Setting) (names : List (List ℕ)) (j : Json) → s.is_deployment ≡ true
    → member_fault here s names (codes "properties") j ≡ None
unfolding is_declaration_member is_refused_member
properties_are here s names j d =
    ap (λ b. if b then existing_fault s.is_deployment j
    else (if is_properties s (codes "properties") then None else body_fault here (codes "properties") j))
    (and_false (is_symbolic s.rank) false refl)
    ∙ ap (λ b. if b && true then None else body_fault here (codes "properties") j) d

existing_found : (here : Sight) (s : Setting) (names : List (List ℕ)) → is_symbolic s.rank ≡ true
    → At (member_fault here s names) (codes "existing")
existing_found here s names y k j e =
    existing_is here s names k j y e ∙ sym (existing_is here s names (codes "existing") j y refl)

existing_kept : (P : Json → Type 0) (o : Option Json) → Holds P o → Holds P (true_or_none (is_true o))
existing_kept P None h = tt
existing_kept P (Some null) h = tt
existing_kept P (Some (bool true)) h = h
existing_kept P (Some (bool false)) h = tt
existing_kept P (Some (int z)) h = tt
existing_kept P (Some (text t)) h = tt
existing_kept P (Some (array js)) h = tt
existing_kept P (Some (object ms)) h = tt

existing_passes : (here : Sight) (s : Setting) (names : List (List ℕ)) (symbol : Option (List ℕ)) (ms : Pairs)
    → is_symbolic s.rank ≡ is_some symbol → Sound (resource_members s.is_deployment) (is_single s)
    (member_fault here s names) ms
    → Holds (λ j. member_fault here s names (codes "existing") j ≡ None)
    (true_or_none (is_some symbol && is_true (inside (codes "existing") (Some (object ms)))))
existing_passes here s names None ms y k = tt
existing_passes here s names (Some n) ms y k =
    existing_kept (λ j. member_fault here s names (codes "existing") j ≡ None)
    (inside (codes "existing") (Some (object ms)))
    (found_accepted (member_fault here s names) (codes "existing") refl (existing_found here s names y) ms k.accepted)

truth_within : (n : ℕ) (b : Bool) → NestsWithin n (true_or_none b)
truth_within n true = omega arith
truth_within n false = tt

copy_passes : (here : Sight) (s : Setting) (names : List (List ℕ)) (o : Option Json)
    → Holds (λ j. copy_fault here s names j ≡ None) o
    → Holds (λ j. copy_fault here s names j ≡ None) (option_map (λ c. an_object (copy_slots c)) (copy_in o))
copy_passes here s names None h = tt
copy_passes here s names (Some j) h = (copy_known here s names j h).1

copy_within : (here : Sight) (s : Setting) (names : List (List ℕ)) (n : ℕ) (o : Option Json)
    → Holds (λ j. copy_fault here s names j ≡ None) o → NestsWithin n o
    → NestsWithin n (option_map (λ c. an_object (copy_slots c)) (copy_in o))
copy_within here s names n None h w = tt
copy_within here s names n (Some j) h w = omega (arith, w, (copy_known here s names j h).0.within)

-- what is known of a resource that is not refused, with these children written
pub record DeclarationKept (here : Sight) (s : Setting) (names : List (List ℕ)) (symbol : Option (List ℕ)) (ms : Pairs)
    (children : List Json) : Type 0 where
  pub kind : inside (codes "type") (Some (object ms)) ≡ Some (text (declaration_of symbol (Some (object ms))).kind)
  pub passes : SlotsPass (member_fault here s names) (declaration_slots (declaration_of symbol (Some
      (object ms))) children)
  pub within : SlotsNest (pairs_nesting ms) (declaration_slots (declaration_of symbol (Some (object ms))) children)

required_there : (b : Bool) (ms : Pairs) → missing (resource_members b) ms ≡ None
    → (has (codes "type") ms ≡ true) × (has (codes "apiVersion") ms ≡ true)
required_there true ms e =
    let p = missing_none (codes "apiVersion" ∷ codes "name" ∷ codes "properties" ∷ codes "type" ∷ []) ms e in
    (p.1.1.1.0, p.0)
required_there false ms e =
    let p = missing_none (codes "apiVersion" ∷ codes "name" ∷ codes "type" ∷ []) ms e in (p.1.1.0, p.0)

pub declaration_kept : (here : Sight) (s : Setting) (names : List (List ℕ)) (symbol : Option (List ℕ)) (ms : Pairs)
    (children : List Json) → Sound (resource_members s.is_deployment) (is_single s) (member_fault here s names) ms
    → is_symbolic s.rank ≡ is_some symbol
    → Holds (λ j. children_fault s.rank ≡ None) (array_unless_empty children)
    → NestsWithin (pairs_nesting ms) (array_unless_empty children)
    → DeclarationKept here s names symbol ms children
unfolding is_declaration_member is_refused_member
declaration_kept here s names symbol ms children k y h w =
    let rule = member_fault here s names in
    let v = Some (object ms) in
    let n = pairs_nesting ms in
    let required = required_there s.is_deployment ms k.there in
    let kind = found_accepted rule (codes "type") refl (declared_at here s names
    (codes "type") refl refl) ms k.accepted in
    let api = found_accepted rule (codes "apiVersion") refl (declared_at here s names (codes "apiVersion") refl refl) ms
    k.accepted in
    let name = found_accepted rule (codes "name") refl (declared_at here s names
    (codes "name") refl refl) ms k.accepted in
    let condition = found_accepted rule (codes "condition") refl
    (declared_at here s names (codes "condition") refl refl) ms k.accepted in
    let depends = found_accepted rule (codes "dependsOn") refl (declared_at here s names (codes "dependsOn") refl refl)
    ms k.accepted in
    let copy = found_accepted rule (codes "copy") refl (declared_at here s names
    (codes "copy") refl refl) ms k.accepted in
    let kind_is = typed_text s.rank (inside (codes "type") v) (sym (has_inside (codes "type") refl ms)
    ∙ required.0) kind in
    let api_is = word_text (inside (codes "apiVersion") v) (sym (has_inside (codes "apiVersion") refl ms)
    ∙ required.1) api
    in
    record {
      kind = kind_is;
      passes = (
        text_kept (λ j. type_fault s.rank j ≡ None) (inside (codes "type") v) kind_is kind,
        (
          text_kept (λ j. word_fault j ≡ None) (inside (codes "apiVersion") v) api_is api,
          (
            kept_value (λ j. name_fault here s.rank j ≡ None) refl (inside (codes "name") v) name,
            (
              kept (λ j. value_fault here Elsewhere j ≡ None) (inside (codes "condition") v) condition,
              (
                array_kept (λ j. depends_fault here j ≡ None) (inside (codes "dependsOn") v) depends,
                (
                  copy_passes here s names (inside (codes "copy") v) copy,
                  (
                    always (λ j. None ≡ None) (λ j. refl) (option_map json (optional (inside (codes "metadata") v))),
                    (existing_passes here s names symbol ms y k, (h, tt)),
                  ),
                ),
              ),
            ),
          ),
        ),
      );
      within = (
        omega arith,
        (
          omega arith,
          (
            within_value n (inside (codes "name") v) (inside_within (codes "name") ms),
            (
              within_kept n (inside (codes "condition") v) (inside_within (codes "condition") ms),
              (
                array_within n (inside (codes "dependsOn") v) (inside_within (codes "dependsOn") ms),
                (
                  copy_within here s names n (inside (codes "copy") v) copy (inside_within (codes "copy") ms),
                  (
                    within_kept n (inside (codes "metadata") v) (inside_within (codes "metadata") ms),
                    (truth_within n (is_some symbol && is_true (inside (codes "existing") v)), (w, tt)),
                  ),
                ),
              ),
            ),
          ),
        ),
      );
    }
