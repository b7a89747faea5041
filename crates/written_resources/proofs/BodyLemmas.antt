-- The body of a resource that has no fault, and the resource with it, once they are written.
use Rattle.std.proofs.Common.{◌≡◌, ◌≤◌, ◌||◌, ◌&&◌, ℕ, suc, nat_lt, chars, codes, bytes_eq, Bool, true, false}
use Rattle.std.proofs.Common.{List, [], ◌∷◌, Option, Some, None, option_map, is_some, refl, sym, ap, ap₂, ◌∙◌}
use Rattle.std.proofs.Common.{arith, if◌then◌else◌}
use Rattle.std.specs.List.{list_all, list_any}
use Rattle.arm_ids.specs.Members.{declaration_members, is_declaration_member}
use Rattle.arm_value.specs.Json.{Json, object, Member}
use Rattle.arm_value.specs.Json.{Pairs, no_pairs, pair, pairs, keys, pair_keys, nesting}
use Rattle.arm_value.specs.Json.{members_nesting}
use Rattle.arm_value.specs.Look.{fold, is_same_folded, first_by, look, look_in}
use Rattle.foundation.proofs.AsciiWords as ascii
use Rattle.resource_members.specs.Members.{member_fault}
use Rattle.resource_members.specs.Settings.{is_deployment, is_parent, setting_of, is_symbolic, is_single}
use Rattle.resource_members.specs.Settings.{resource_members}
use Rattle.resource_members.specs.Settings.{is_existence, is_properties}
use Rattle.resource_members.specs.Copies.{copy_fault}
use Rattle.resource_members.specs.declared.setting.Rank.{Rank}
use Rattle.resource_members.specs.declared.setting.Rank.TheVariants.{Child}
use Rattle.resource_members.specs.declared.setting.Setting.{Setting}
use Rattle.template_faults.specs.Counts.{array_count, children_count}
use Rattle.template_faults.specs.Faults.{named, earlier, loop_in, resource_by, array_in, resource_in}
use Rattle.template_faults.specs.Faults.{children_of, properties_of, properties_in}
use Rattle.template_meaning.specs.Values.{inside, is_true}
use Rattle.template_meaning.specs.Resources.{is_outside, body_of, declaration_of, copy_in, copy_by}
use Rattle.template_members.specs.Objects.{Single, Rule}
use Rattle.template_texts.specs.declared.sight.Sight.{Sight}
use Rattle.template_values.specs.Order.{decided}
use Rattle.template_values.specs.Values as values
use Rattle.template_written.specs.Slots.{Slot, put_slots, an_object, array_unless_empty, SlotsNest}
use Rattle.template_written.specs.Parts.{copy_slots, true_or_none, declaration_slots}
use Rattle.template_written.proofs.SlotLemmas.{names, are_apart, look_slot}
use Rattle.written_parts.proofs.FaultLemmas.{Holds, Accepts, Differ, Apart, named_none, look_single}
use Rattle.written_parts.proofs.FaultLemmas.{faulty_nothing, same_fold}
use Rattle.written_parts.proofs.ObjectLemmas.{SlotsPass, NoneHas, FreeOf, AreIn, accepts_slots, apart_slots}
use Rattle.written_parts.proofs.ObjectLemmas.{slots_there}
use Rattle.written_parts.proofs.ObjectLemmas.{slots_within}
use Rattle.written_resources.proofs.ResourceLemmas.{copy_known}
use Rattle.foundation.proofs.TruthValues.{or_true}

-- ---- the members of a body

accepts_by : (rule : Rule) (m : Member) (ms : List Member) (b : Bool) → rule m.0 m.1 ≡ None → Accepts rule (pairs ms)
    → Accepts rule (pairs (if b then ms else m ∷ ms))
accepts_by rule m ms true e a = a
accepts_by rule m ms false e a = (e, a)

pub accepts_body : (rule : Rule) (symbol : Option (List ℕ)) (xs : List Member) → Accepts rule (pairs xs)
    → Accepts rule (pairs (body_of symbol xs))
accepts_body rule symbol [] a = a
accepts_body rule symbol (m ∷ ms) a =
    accepts_by rule m (body_of symbol ms) (is_outside symbol m.0) a.0 (accepts_body rule symbol ms a.1)

differ_by : (single : Single) (n : List ℕ) (m : Member) (ms : List Member) (b : Bool)
    → (single m.0 ≡ true → is_same_folded m.0 n ≡ false) → Differ single n (keys ms)
    → Differ single n (keys (if b then ms else m ∷ ms))
differ_by single n m ms true e d = d
differ_by single n m ms false e d = (e, d)

differ_body : (single : Single) (n : List ℕ) (symbol : Option (List ℕ)) (xs : List Member) → Differ single n (keys xs)
    → Differ single n (keys (body_of symbol xs))
differ_body single n symbol [] d = d
differ_body single n symbol (m ∷ ms) d =
    differ_by single n m (body_of symbol ms) (is_outside symbol m.0) d.0 (differ_body single n symbol ms d.1)

apart_by : (single : Single) (m : Member) (ms : List Member) (b : Bool) → Differ single m.0 (keys ms)
    → Apart single (keys ms) → Apart single (keys (if b then ms else m ∷ ms))
apart_by single m ms true d a = a
apart_by single m ms false d a = (d, a)

pub apart_body : (single : Single) (symbol : Option (List ℕ)) (xs : List Member) → Apart single (keys xs)
    → Apart single (keys (body_of symbol xs))
apart_body single symbol [] a = a
apart_body single symbol (m ∷ ms) a =
    apart_by single m (body_of symbol ms) (is_outside symbol m.0) (differ_body single m.0 symbol ms a.0)
    (apart_body single symbol ms a.1)

nests_by : (m : Member) (ms xs : List Member) (b : Bool) → members_nesting ms ≤ members_nesting xs
    → members_nesting (if b then ms else m ∷ ms) ≤ members_nesting (m ∷ xs)
nests_by m ms xs true h = omega (arith, h)
nests_by m ms xs false h = omega (arith, h)

pub nests_body : (symbol : Option (List ℕ)) (xs : List Member)
    → members_nesting (body_of symbol xs) ≤ members_nesting xs
nests_body symbol [] = omega arith
nests_body symbol (m ∷ ms) = nests_by m (body_of symbol ms) ms (is_outside symbol m.0) (nests_body symbol ms)

-- no member of a body has a name that is outside of bodies
pub none_outside : (w : List ℕ) (symbol : Option (List ℕ)) (xs : List Member)
    → ((k : List ℕ) → is_same_folded (chars w) k ≡ true → is_outside symbol k ≡ true)
    → NoneHas w (body_of symbol xs)
none_outside w symbol [] h = refl
none_outside w symbol (m ∷ ms) h = by_test (is_outside symbol m.0) refl (none_outside w symbol ms h)
  where
    other : (b : Bool) → is_same_folded (chars w) m.0 ≡ b → is_outside symbol m.0 ≡ false → b ≡ false
    other true e f = sym (h m.0 e) ∙ f
    other false e f = refl

    by_test : (b : Bool) → is_outside symbol m.0 ≡ b → NoneHas w (body_of symbol ms)
        → NoneHas w (if b then body_of symbol ms else m ∷ body_of symbol ms)
    by_test true e r = r
    by_test false e r =
        ap (λ b. if b then Some m.1 else first_by (is_same_folded (chars w)) (pairs (body_of symbol ms)))
        (other (is_same_folded (chars w) m.0) refl e)
        ∙ r

pub outside_type : (s : Option (List ℕ)) (k : List ℕ) → is_same_folded (chars (codes "type")) k ≡ true
    → is_outside s k ≡ true
outside_type s k e = simp e

pub outside_api : (s : Option (List ℕ)) (k : List ℕ) → is_same_folded (chars (codes "apiVersion")) k ≡ true
    → is_outside s k ≡ true
outside_api s k e = simp (e, or_true)

pub outside_name : (s : Option (List ℕ)) (k : List ℕ) → is_same_folded (chars (codes "name")) k ≡ true
    → is_outside s k ≡ true
outside_name s k e = simp (e, or_true)

pub outside_condition : (s : Option (List ℕ)) (k : List ℕ) → is_same_folded (chars (codes "condition")) k ≡ true
    → is_outside s k ≡ true
outside_condition s k e = simp (e, or_true)

pub outside_depends : (s : Option (List ℕ)) (k : List ℕ) → is_same_folded (chars (codes "dependsOn")) k ≡ true
    → is_outside s k ≡ true
outside_depends s k e = simp (e, or_true)

pub outside_copy : (s : Option (List ℕ)) (k : List ℕ) → is_same_folded (chars (codes "copy")) k ≡ true
    → is_outside s k ≡ true
outside_copy s k e = simp (e, or_true)

pub outside_metadata : (s : Option (List ℕ)) (k : List ℕ) → is_same_folded (chars (codes "metadata")) k ≡ true
    → is_outside s k ≡ true
outside_metadata s k e = simp (e, or_true)

pub outside_resources : (s : Option (List ℕ)) (k : List ℕ) → is_same_folded (chars (codes "resources")) k ≡ true
    → is_outside s k ≡ true
outside_resources s k e = simp (e, or_true)

pub outside_existing : (s : List ℕ) (k : List ℕ) → is_same_folded (chars (codes "existing")) k ≡ true
    → is_outside (Some s) k ≡ true
outside_existing s k e = simp (e, or_true)

body_free : (w : List ℕ) (symbol : Option (List ℕ)) (xs : List Member)
    → ((k : List ℕ) → is_same_folded (chars w) k ≡ true → is_outside symbol k ≡ true) → (o : Option Json)
    → Holds (λ j. NoneHas w (body_of symbol xs)) o
body_free w symbol xs h None = tt
body_free w symbol xs h (Some j) = none_outside w symbol xs h

existing_free : (symbol : Option (List ℕ)) (xs : List Member) (b : Bool)
    → Holds (λ j. NoneHas (codes "existing") (body_of symbol xs)) (true_or_none (is_some symbol && b))
existing_free None xs b = tt
existing_free (Some s) xs b = body_free (codes "existing") (Some s) xs (outside_existing s) (true_or_none b)

pub declaration_free : (symbol : Option (List ℕ)) (o : Option Json) (children : List Json) (xs : List Member)
    → FreeOf (declaration_slots (declaration_of symbol o) children) (body_of symbol xs)
declaration_free symbol o children xs =
    let d = declaration_of symbol o in (
      none_outside (codes "type") symbol xs (outside_type symbol),
      (
        none_outside (codes "apiVersion") symbol xs (outside_api symbol),
        (
          none_outside (codes "name") symbol xs (outside_name symbol),
          (
            body_free (codes "condition") symbol xs (outside_condition symbol) _,
            (
              body_free (codes "dependsOn") symbol xs (outside_depends symbol) _,
              (
                body_free (codes "copy") symbol xs (outside_copy symbol) _,
                (
                  body_free (codes "metadata") symbol xs (outside_metadata symbol) _,
                  (
                    existing_free symbol xs (is_true (inside (codes "existing") o)),
                    (
                      body_free (codes "resources") symbol xs (outside_resources symbol)
                          (array_unless_empty children),
                      tt,
                    ),
                  ),
                ),
              ),
            ),
          ),
        ),
      ),
    )

-- ---- the first member of a name, where names differ

-- the children of a resource without a symbolic name
pub first_children_of : (here : Sight) (ms : Pairs) → children_of here false ms ≡ None
    → Holds (λ j. array_in here Child j ≡ None) (first_by (is_same_folded (codes "resources")) ms)
first_children_of here no_pairs e = tt
first_children_of here (pair k j ms) e =
    by_test (is_same_folded (codes "resources") k) (λ g. first_children_of here ms g) e
  where
    by_test : (b : Bool) → (children_of here false ms ≡ None
        → Holds (λ j. array_in here Child j ≡ None) (first_by (is_same_folded (codes "resources")) ms))
        → (if b then named k (array_in here Child j) else children_of here false ms) ≡ None
        → Holds (λ j. array_in here Child j
        ≡ None) (if b then Some j else first_by (is_same_folded (codes "resources")) ms)
    by_test true h g = named_none k (array_in here Child j) g
    by_test false h g = h g

pub children_of_nothing : (here : Sight) (ms : Pairs)
    → Holds (λ j. array_in here Child j ≡ None) (first_by (is_same_folded (codes "resources")) ms)
    → children_of here false ms ≡ None
children_of_nothing here no_pairs h = refl
children_of_nothing here (pair k j ms) h =
    by_test (is_same_folded (codes "resources") k) (λ g. children_of_nothing here ms g) h
  where
    by_test : (b : Bool)
        → (Holds (λ j. array_in here Child j ≡ None) (first_by (is_same_folded (codes "resources")) ms)
        → children_of here false ms ≡ None)
        → Holds (λ j. array_in here Child j
        ≡ None) (if b then Some j else first_by (is_same_folded (codes "resources")) ms)
        → (if b then named k (array_in here Child j) else children_of here false ms) ≡ None
    by_test true r g = ap (named k) g
    by_test false r g = r g

-- the properties of a nested deployment
pub first_properties_of : (here : Sight) (ms : Pairs) → properties_of here true ms ≡ None
    → Holds (λ j. properties_in here j ≡ None) (first_by (is_same_folded (codes "properties")) ms)
first_properties_of here no_pairs e = tt
first_properties_of here (pair k j ms) e =
    by_test (is_same_folded (codes "properties") k) (λ g. first_properties_of here ms g) e
  where
    by_test : (b : Bool) → (properties_of here true ms ≡ None
        → Holds (λ j. properties_in here j ≡ None) (first_by (is_same_folded (codes "properties")) ms))
        → (if b then named k (properties_in here j) else properties_of here true ms) ≡ None
        → Holds (λ j. properties_in here j
        ≡ None) (if b then Some j else first_by (is_same_folded (codes "properties")) ms)
    by_test true h g = named_none k (properties_in here j) g
    by_test false h g = h g

pub properties_of_nothing : (here : Sight) (ms : Pairs)
    → Holds (λ j. properties_in here j ≡ None) (first_by (is_same_folded (codes "properties")) ms)
    → properties_of here true ms ≡ None
properties_of_nothing here no_pairs h = refl
properties_of_nothing here (pair k j ms) h =
    by_test (is_same_folded (codes "properties") k) (λ g. properties_of_nothing here ms g) h
  where
    by_test : (b : Bool)
        → (Holds (λ j. properties_in here j ≡ None) (first_by (is_same_folded (codes "properties")) ms)
        → properties_of here true ms ≡ None)
        → Holds (λ j. properties_in here j
        ≡ None) (if b then Some j else first_by (is_same_folded (codes "properties")) ms)
        → (if b then named k (properties_in here j) else properties_of here true ms) ≡ None
    by_test true r g = ap (named k) g
    by_test false r g = r g

-- a resource with a symbolic name has no children, and only a nested deployment has properties that are looked at
pub symbolic_children : (here : Sight) (ms : Pairs) → children_of here true ms ≡ None
symbolic_children here no_pairs = refl
symbolic_children here (pair k j ms) = by_test (is_same_folded (codes "resources") k) (symbolic_children here ms)
  where
    by_test : (b : Bool) → children_of here true ms ≡ None → (if b then None else children_of here true ms) ≡ None
    by_test true h = refl
    by_test false h = h

pub no_properties : (here : Sight) (ms : Pairs) → properties_of here false ms ≡ None
no_properties here no_pairs = refl
no_properties here (pair k j ms) = by_test (is_same_folded (codes "properties") k) (no_properties here ms)
  where
    by_test : (b : Bool) → properties_of here false ms ≡ None → (if b then None else properties_of here false ms) ≡ None
    by_test true h = refl
    by_test false h = h

-- the number of the children is that of the first member `resources`
unfoldable pub count_in : Option Json → ℕ
count_in None = 0
count_in (Some j) = array_count j

pub first_count : (ms : Pairs) → children_count ms ≡ count_in (first_by (is_same_folded (codes "resources")) ms)
unfolding count_in
first_count no_pairs = refl
first_count (pair k j ms) = by_test (is_same_folded (codes "resources") k) (first_count ms)
  where
    by_test : (b : Bool) → children_count ms ≡ count_in (first_by (is_same_folded (codes "resources")) ms)
        → (if b then array_count j else children_count ms)
        ≡ count_in (if b then Some j else first_by (is_same_folded (codes "resources")) ms)
    by_test true h = refl
    by_test false h = h

-- ---- what is found in the value of a resource

-- a name that members of resources have once alone
single_name : (s : Setting) (name l : List ℕ) → is_same_folded name l ≡ true
    → list_any (λ other. is_same_folded other name) declaration_members ≡ true → is_single s l ≡ true
unfolding is_declaration_member
single_name s name l e d =
    let here : list_any (λ other. is_same_folded other l) declaration_members ≡ true =
    sym (ap (λ f. list_any (λ other. bytes_eq (fold other) f) declaration_members) (same_fold name l e)) ∙ d in
    ap (λ b. b || (is_existence s l || is_properties s l)) here

-- a member that declares a resource is found the same way exactly and in letters of any case
pub declared_found : (s : Setting) (name : List ℕ) (ms : Pairs) → list_all (λ b. nat_lt b 128) name ≡ true
    → list_any (λ other. is_same_folded other name) declaration_members ≡ true → Apart (is_single s) (pair_keys ms)
    → first_by (is_same_folded name) ms ≡ inside name (Some (object ms))
declared_found s name ms w d a =
    sym (look_single (is_single s) name ms (λ l e. single_name s name l e d) a)
    ∙ ap (λ n. look_in n ms) (sym (ascii.word name w))

pub properties_found : (s : Setting) (ms : Pairs) → s.is_deployment ≡ true → Apart (is_single s) (pair_keys ms)
    → first_by (is_same_folded (codes "properties")) ms ≡ inside (codes "properties") (Some (object ms))
properties_found s ms y a =
    sym (look_single (is_single s) (codes "properties") ms
    (λ l e. ap₂ (λ x z. is_declaration_member l || (is_existence s l || (x && z))) y e
    ∙ ap (λ b. is_declaration_member l || b) (or_true (is_existence s l)) ∙ or_true (is_declaration_member l)) a)
    ∙ ap (λ n. look_in n ms) (sym (ascii.word (codes "properties") refl))

pub look_inside : (name : List ℕ) (ms : Pairs) → list_all (λ b. nat_lt b 128) name ≡ true
    → look_in name ms ≡ inside name (Some (object ms))
look_inside name ms w = ap (λ n. look_in n ms) (sym (ascii.word name w))

-- ---- the setting of a resource

pub copy_name : (here : Sight) (s : Setting) (names : List (List ℕ)) (o : Option Json)
    → Holds (λ j. copy_fault here s names j ≡ None) o
    → loop_in (option_map (λ c. an_object (copy_slots c)) (copy_in o)) ≡ loop_in o
copy_name here s names None h = refl
copy_name here s names (Some j) h =
    let c = copy_by (Some j) in
    let k = (copy_known here s names j h).0 in
    ap values.text_in (look_found (codes "name") (an_object (copy_slots c)) refl
    ∙ look_slot (codes "name") (copy_slots c) []
    refl refl refl) ∙ sym (ap values.text_in (look_found (codes "name") j refl ∙ k.named))
  where
    look_found : (name : List ℕ) (i : Json) → list_all (λ b. nat_lt b 128) name ≡ true
        → look name i ≡ inside name (Some i)
    look_found name i w = ap (λ n. look n i) (sym (ascii.word name w))

-- ---- a resource that is written

-- the parts of a resource that is not refused, as it is written: slots over the members of its body
pub record Assembled (here : Sight) (s : Setting) (taken : List (List ℕ)) (n : ℕ) (ss : List Slot) (base : List Member)
    : Type 0 where
  pub differ : are_apart (names ss) ≡ true
  pub free : FreeOf ss base
  pub there : AreIn (resource_members s.is_deployment) ss base
  pub passes : SlotsPass (member_fault here s taken) ss
  pub accepted : Accepts (member_fault here s taken) (pairs base)
  pub apart : Apart (is_single s) (keys base)
  pub within : SlotsNest n ss
  pub inner : members_nesting base ≤ n

-- what is known of the object of these slots and members, with children and properties that are not refused
pub resource_passes : (here : Sight) (rank : Rank) (names : List (List ℕ)) (s : Setting) (n : ℕ) (ss : List Slot)
    (base : List Member) → Assembled here s names n ss base → setting_of rank (pairs (put_slots ss base)) ≡ s
    → children_of here (is_symbolic rank) (pairs (put_slots ss base)) ≡ None
    → properties_of here s.is_deployment (pairs (put_slots ss base)) ≡ None
    → (resource_in here rank names (object (pairs (put_slots ss base))) ≡ None)
    × (nesting (object (pairs (put_slots ss base))) ≤ suc n)
resource_passes here rank names s n ss base k e c p =
    let ws = pairs (put_slots ss base) in
    let faulty = faulty_nothing (is_single s) (member_fault here s names) ws
    (accepts_slots (member_fault here s names) ss base k.differ k.passes k.accepted)
    (apart_slots (is_single s) ss base k.differ k.free k.apart) in
    let gone = slots_there (resource_members s.is_deployment) ss base k.differ k.there in
    let inner = ap₂ earlier c p in (
      ap (λ (x : Setting). resource_by here x names ws
          (earlier (children_of here (is_symbolic rank) ws) (properties_of here x.is_deployment ws))) e
          ∙ ap₂ decided gone (ap₂ earlier faulty inner),
      omega (arith, slots_within n ss base k.within k.inner),
    )

-- what a resource makes of its type and its children
pub same_setting : (rank : Rank) (ms ws : Pairs) → look_in (codes "type") ws ≡ look_in (codes "type") ms
    → is_parent rank (look_in (codes "resources") ws) ≡ is_parent rank (look_in (codes "resources") ms)
    → setting_of rank ws ≡ setting_of rank ms
same_setting rank ms ws t p = λ x. record {
  rank = rank;
  is_deployment = ap (is_deployment rank) t x;
  is_parent = p x;
}
