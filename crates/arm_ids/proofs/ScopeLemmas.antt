-- What a scope covers, and which scopes are one, by their parts.
use Rattle.std.proofs.Common.{◌≡◌, ◌≤◌, ℕ, suc, length, Bool, true, false, List, [], ◌∷◌, ◌++◌, refl, sym, ap, ap₂}
use Rattle.std.proofs.Common.{◌∙◌, arith, subst, IsTrue, ◌↔◌, true≢false, append-nil}
use Rattle.std.proofs.lemmas.List.{length-append}
use Rattle.foundation.proofs.Words.{itself}
use Rattle.arm_value.specs.Look.{fold}
use Rattle.arm_ids.specs.Segments.{is_front, by_turns}
use Rattle.arm_ids.specs.Id.{path, IsKey}
use Rattle.arm_ids.specs.Parent.{begins}
use Rattle.arm_ids.specs.Scope.{key_segments, IsSame, Covers, CoversGroup, IsInGroup}
use Rattle.arm_ids.specs.declared.id.ResourceId.{ResourceId}
use Rattle.arm_ids.specs.declared.scope.Scope.{Scope}
use Rattle.arm_ids.specs.declared.scope.Scope.TheVariants.{Subscription, Group, Resource}
use Rattle.arm_ids.proofs.FrontLemmas.{front_rest, begun, begun_back, equal_from_front}
use Rattle.foundation.proofs.TruthValues.{and_true}

small_subscription : (k : ResourceId) → IsKey k → fold k.subscription ≡ k.subscription
small_subscription k h = ap (λ (i : ResourceId). i.subscription) h.is_folded

small_group : (k : ResourceId) → IsKey k → fold k.group ≡ k.group
small_group k h = ap (λ (i : ResourceId). i.group) h.is_folded

pub subscription_covers : (s : List ℕ) (k : ResourceId) → IsKey k → fold s ≡ fold k.subscription
    → Covers (Subscription s) k
subscription_covers s k h e =
    (k.group ∷ path k.types k.names, ap (λ x. x ∷ k.group ∷ path k.types k.names) (sym (e ∙ small_subscription k h)))

pub subscription_covered : (s : List ℕ) (k : ResourceId) → IsKey k → Covers (Subscription s) k
    → fold s ≡ fold k.subscription
subscription_covered s k h (rest, e) =
    let same : k.subscription ≡ fold s = cc in
    sym same ∙ sym (small_subscription k h)

pub group_covers : (s g : List ℕ) (k : ResourceId) → IsKey k → fold s ≡ fold k.subscription → fold g ≡ fold k.group
    → Covers (Group s g) k
group_covers s g k h e f = (
  path k.types k.names,
  ap₂ (λ x y. x ∷ y ∷ path k.types k.names) (sym (e ∙ small_subscription k h))
      (sym (f ∙ small_group k h)),
)

pub group_covered : (s g : List ℕ) (k : ResourceId) → IsKey k → Covers (Group s g) k → (fold s ≡ fold k.subscription)
    × (fold g ≡ fold k.group)
group_covered s g k h (rest, e) =
    let same : k.subscription ≡ fold s = cc in
    let also : k.group ≡ fold g = cc in
    (sym same ∙ sym (small_subscription k h), sym also ∙ sym (small_group k h))

by_turns-append : (xs ys us vs : List (List ℕ)) → length xs ≡ length ys
    → by_turns (xs ++ us) (ys ++ vs) ≡ by_turns xs ys ++ by_turns us vs
by_turns-append [] [] us vs l = refl
by_turns-append [] (y ∷ ys) us vs l = absurd (omega (arith, l))
by_turns-append (x ∷ xs) [] us vs l = absurd (omega (arith, l))
by_turns-append (x ∷ xs) (y ∷ ys) us vs l = ap (λ r. x ∷ y ∷ r) (by_turns-append xs ys us vs (omega (arith, l)))

path-append : (xs ys us vs : List (List ℕ)) → length xs ≡ suc (length ys)
    → path (xs ++ us) (ys ++ vs) ≡ path xs ys ++ by_turns us vs
path-append [] ys us vs l = absurd (omega (arith, l))
path-append (x ∷ xs) ys us vs l = ap (λ r. x ∷ r) (by_turns-append xs ys us vs (omega (arith, l)))

-- a key that begins another covers it
pub key_covers : (k key : ResourceId) → IsKey k → begins k key ≡ true → Covers (Resource k) key
key_covers k key h e =
    let b = begun k key e in
    let types = front_rest k.types key.types b.types in
    let names = front_rest k.names key.names b.names in (
      by_turns types.0 names.0,
      (λ j. sym b.subscription j ∷ sym b.group j ∷ (ap₂ path types.1 names.1
          ∙ path-append k.types k.names types.0 names.0 h.is_id.paired) j),
    )

turns_front : (xs ys us vs rest : List (List ℕ)) → length xs ≡ length ys → length us ≡ length vs
    → by_turns us vs ≡ by_turns xs ys ++ rest → (is_front xs us ≡ true) × (is_front ys vs ≡ true)
turns_front [] [] us vs rest l m e = (refl, refl)
turns_front [] (y ∷ ys) us vs rest l m e = absurd (omega (arith, l))
turns_front (x ∷ xs) [] us vs rest l m e = absurd (omega (arith, l))
turns_front (x ∷ xs) (y ∷ ys) [] vs rest l m e = cc
turns_front (x ∷ xs) (y ∷ ys) (u ∷ us) [] rest l m e = cc
turns_front (x ∷ xs) (y ∷ ys) (u ∷ us) (v ∷ vs) rest l m e =
    let first : u ≡ x = cc in
    let second : v ≡ y = cc in
    let others : by_turns us vs ≡ by_turns xs ys ++ rest = cc in
    let h = turns_front xs ys us vs rest (omega (arith, l)) (omega (arith, m)) others in (
      ap (λ z. is_front (x ∷ xs) (z ∷ us)) first ∙ and_true _ _ (itself x) h.0,
      ap (λ z. is_front (y ∷ ys) (z ∷ vs)) second ∙ and_true _ _ (itself y) h.1,
    )

path_front : (xs ys us vs rest : List (List ℕ)) → length xs ≡ suc (length ys) → length us ≡ suc (length vs)
    → path us vs ≡ path xs ys ++ rest → (is_front xs us ≡ true) × (is_front ys vs ≡ true)
path_front [] ys us vs rest l m e = absurd (omega (arith, l))
path_front (x ∷ xs) ys [] vs rest l m e = absurd (omega (arith, m))
path_front (x ∷ xs) ys (u ∷ us) vs rest l m e =
    let first : u ≡ x = cc in
    let others : by_turns us vs ≡ by_turns xs ys ++ rest = cc in
    let h = turns_front xs ys us vs rest (omega (arith, l)) (omega (arith, m)) others in
    (ap (λ z. is_front (x ∷ xs) (z ∷ us)) first ∙ and_true _ _ (itself x) h.0, h.1)

-- a key that covers another begins it
pub key_covered : (k key : ResourceId) → IsKey k → IsKey key → Covers (Resource k) key → begins k key ≡ true
key_covered k key h g (rest, e) =
    let subscription : key.subscription ≡ k.subscription = cc in
    let group : key.group ≡ k.group = cc in
    let others : path key.types key.names ≡ path k.types k.names ++ rest = cc in
    let fronts = path_front k.types k.names key.types key.names rest h.is_id.paired g.is_id.paired others in
    begun_back k key (record { subscription = sym subscription; group = sym group; types = fronts.0; names = fronts.1 })

-- what a test answers of a scope of each kind
pub in_subscription : (r : Bool) (scope : Scope) (s : List ℕ) (parts key : ResourceId) → scope ≡ Subscription s
    → parts ≡ key → IsKey key → (IsTrue r ↔ (fold s ≡ fold parts.subscription)) → (IsTrue r ↔ Covers scope key)
in_subscription r scope s parts key is same h test =
    let P : Scope → Type 0 = λ x. IsTrue r ↔ Covers x key in
    let e = ap (λ (i : ResourceId). fold i.subscription) same in
    subst P (sym is) (
      λ yes. subscription_covers s key h (test.0 yes ∙ e),
      λ covers. test.1 (subscription_covered s key h covers ∙ sym e),
    )

pub in_group : (r : Bool) (scope : Scope) (s g : List ℕ) (parts key : ResourceId) → scope ≡ Group s g → parts ≡ key
    → IsKey key → (IsTrue r ↔ (fold s ≡ fold parts.subscription) × (fold g ≡ fold parts.group))
    → (IsTrue r ↔ Covers scope key)
in_group r scope s g parts key is same h test =
    let P : Scope → Type 0 = λ x. IsTrue r ↔ Covers x key in
    let e = ap (λ (i : ResourceId). fold i.subscription) same in
    let f = ap (λ (i : ResourceId). fold i.group) same in
    subst P (sym is) (
      λ yes. let both = test.0 yes in group_covers s g key h (both.0 ∙ e) (both.1 ∙ f),
      λ covers. let both =
          group_covered s g key h covers in test.1 (both.0 ∙ sym e, both.1 ∙ sym f),
    )

pub in_resource : (r : Bool) (scope : Scope) (k i parts key : ResourceId) → scope ≡ Resource k → i ≡ k → parts ≡ key
    → IsKey k → IsKey key → r ≡ begins i parts → (IsTrue r ↔ Covers scope key)
in_resource r scope k i parts key is same_k same h g test =
    let P : Scope → Type 0 = λ x. IsTrue r ↔ Covers x key in
    let e : r ≡ begins k key = test ∙ ap₂ begins same_k same in
    subst P (sym is) (λ yes. key_covers k key h (sym e ∙ yes), λ covers. e ∙ key_covered k key h g covers)

-- ---- which scopes are one

-- lists of different lengths are not one
apart : {A : Type 0} (xs ys : List A) → (length xs ≡ length ys → ⊥) → (IsTrue false ↔ (xs ≡ ys))
apart xs ys h = (λ yes. absurd (true≢false (sym yes)), λ e. absurd (h (ap length e)))

-- a key has three segments or more
long_key : (key : ResourceId) → IsKey key → 3 ≤ length (key_segments key)
long_key key h = long (key.types) h.is_id.paired
  where
    long : (types : List (List ℕ)) → length types ≡ suc (length key.names)
        → 3 ≤ length (key.subscription ∷ key.group ∷ path types key.names)
    long [] e = absurd (omega (arith, e))
    long (provider ∷ types) e = omega arith

pub same_subscriptions : (r : Bool) (self : Scope) (s own : List ℕ) → self ≡ Subscription own
    → (IsTrue r ↔ (fold s ≡ fold own)) → (IsTrue r ↔ IsSame (Subscription s) self)
same_subscriptions r self s own is test =
    let P : Scope → Type 0 = λ x. IsTrue r ↔ IsSame (Subscription s) x in
    let back : (fold s ∷ [] ≡ fold own ∷ []) → fold s ≡ fold own = λ e. cc in
    subst P (sym is) (λ yes. ap (λ x. x ∷ []) (test.0 yes), λ e. test.1 (back e))

pub same_groups : (r : Bool) (self : Scope) (s g own own_group : List ℕ) → self ≡ Group own own_group
    → (IsTrue r ↔ (fold s ≡ fold own) × (fold g ≡ fold own_group)) → (IsTrue r ↔ IsSame (Group s g) self)
same_groups r self s g own own_group is test =
    let P : Scope → Type 0 = λ x. IsTrue r ↔ IsSame (Group s g) x in
    let first : (fold s ∷ fold g ∷ [] ≡ fold own ∷ fold own_group ∷ []) → fold s ≡ fold own = λ e. cc in
    let second : (fold s ∷ fold g ∷ [] ≡ fold own ∷ fold own_group ∷ []) → fold g ≡ fold own_group = λ e. cc in
    subst P (sym is) (
      λ yes. let both = test.0 yes in ap₂ (λ x y. x ∷ y ∷ []) both.0 both.1,
      λ e. test.1 (first e, second e),
    )

one_key : (k key : ResourceId) → IsKey k → IsKey key → key_segments k ≡ key_segments key → k ≡ key
one_key k key h g e =
    let more : key_segments key ≡ key_segments k ++ [] = sym e ∙ sym (append-nil (key_segments k)) in
    let less : key_segments k ≡ key_segments key ++ [] = e ∙ sym (append-nil (key_segments key)) in
    let b = begun k key (key_covered k key h g ([], more)) in
    let c = begun key k (key_covered key k g h ([], less)) in
    let types = front_rest k.types key.types b.types in
    let back = front_rest key.types k.types c.types in
    let sizes : length k.types ≡ length key.types =
    omega (arith, ap length types.1, length-append k.types types.0, ap length back.1, length-append key.types back.0) in
    let names : length k.names ≡ length key.names =
    omega (arith, sizes, h.is_id.paired, g.is_id.paired) in
    λ j. record {
      subscription = b.subscription j;
      group = b.group j;
      types = equal_from_front k.types key.types sizes b.types j;
      names = equal_from_front k.names key.names names b.names j;
    }

pub same_keys : (r : Bool) (self : Scope) (k own : ResourceId) → self ≡ Resource own → IsKey k → IsKey own
    → (IsTrue r ↔ (k ≡ own)) → (IsTrue r ↔ IsSame (Resource k) self)
same_keys r self k own is h g test =
    let P : Scope → Type 0 = λ x. IsTrue r ↔ IsSame (Resource k) x in
    subst P (sym is) (λ yes. ap key_segments (test.0 yes), λ e. test.1 (one_key k own h g e))

-- a scope of another kind is another one
pub other_than_subscription : (self : Scope) (s own group : List ℕ) → self ≡ Group own group
    → (IsTrue false ↔ IsSame (Subscription s) self)
other_than_subscription self s own group is =
    let P : Scope → Type 0 = λ x. IsTrue false ↔ IsSame (Subscription s) x in
    subst P (sym is) (apart (fold s ∷ []) (fold own ∷ fold group ∷ []) (λ e. omega (arith, e)))

pub subscription_or_key : (self : Scope) (s : List ℕ) (key : ResourceId) → self ≡ Resource key
    → (IsTrue false ↔ IsSame (Subscription s) self)
subscription_or_key self s key is =
    let P : Scope → Type 0 = λ x. IsTrue false ↔ IsSame (Subscription s) x in
    subst P (sym is) (apart (fold s ∷ []) (key_segments key) (λ e. omega (arith, e)))

pub group_or_subscription : (self : Scope) (s g own : List ℕ) → self ≡ Subscription own
    → (IsTrue false ↔ IsSame (Group s g) self)
group_or_subscription self s g own is =
    let P : Scope → Type 0 = λ x. IsTrue false ↔ IsSame (Group s g) x in
    subst P (sym is) (apart (fold s ∷ fold g ∷ []) (fold own ∷ []) (λ e. omega (arith, e)))

pub group_or_key : (r : Bool) (self : Scope) (s g : List ℕ) (key : ResourceId) → self ≡ Resource key → IsKey key
    → r ≡ false → (IsTrue r ↔ IsSame (Group s g) self)
group_or_key r self s g key is h e =
    let P : Scope → Type 0 = λ x. IsTrue r ↔ IsSame (Group s g) x in
    let Q : Bool → Type 0 = λ b. IsTrue b ↔ IsSame (Group s g) (Resource key) in
    subst P (sym is) (subst Q (sym e) (apart (fold s ∷ fold g ∷ []) (key_segments key)
    (λ same. omega (arith, same, long_key key h))))

pub key_or_subscription : (self : Scope) (key : ResourceId) (own : List ℕ) → self ≡ Subscription own
    → (IsTrue false ↔ IsSame (Resource key) self)
key_or_subscription self key own is =
    let P : Scope → Type 0 = λ x. IsTrue false ↔ IsSame (Resource key) x in
    subst P (sym is) (apart (key_segments key) (fold own ∷ []) (λ e. omega (arith, e)))

pub key_or_group : (r : Bool) (self : Scope) (key : ResourceId) (own group : List ℕ) → self ≡ Group own group
    → IsKey key → r ≡ false → (IsTrue r ↔ IsSame (Resource key) self)
key_or_group r self key own group is h e =
    let P : Scope → Type 0 = λ x. IsTrue r ↔ IsSame (Resource key) x in
    let Q : Bool → Type 0 = λ b. IsTrue b ↔ IsSame (Resource key) (Group own group) in
    subst P (sym is) (subst Q (sym e) (apart (key_segments key) (fold own ∷ fold group ∷ [])
    (λ same. omega (arith, same, long_key key h))))

-- ---- which scopes cover a group, and which are in it

pub subscription_covers_group : (r : Bool) (scope : Scope) (own s g : List ℕ) → scope ≡ Subscription own
    → (IsTrue r ↔ (fold own ≡ fold s)) → (IsTrue r ↔ CoversGroup scope s g)
subscription_covers_group r scope own s g is test =
    let P : Scope → Type 0 = λ x. IsTrue r ↔ CoversGroup x s g in
    let back : CoversGroup (Subscription own) s g → fold own ≡ fold s =
    (λ (w : CoversGroup (Subscription own) s g). let e : fold s ∷ fold g ∷ [] ≡ fold own ∷ w.0 = w.1 in
    let same : fold s ≡ fold own = cc in sym same) in
    subst P (sym is) (λ yes. (fold g ∷ [], ap (λ x. x ∷ fold g ∷ []) (sym (test.0 yes))), λ w. test.1 (back w))

pub group_covers_group : (r : Bool) (scope : Scope) (own own_group s g : List ℕ) → scope ≡ Group own own_group
    → (IsTrue r ↔ (fold own ≡ fold s) × (fold own_group ≡ fold g)) → (IsTrue r ↔ CoversGroup scope s g)
group_covers_group r scope own own_group s g is test =
    let P : Scope → Type 0 = λ x. IsTrue r ↔ CoversGroup x s g in
    let back : CoversGroup (Group own own_group) s g → (fold own ≡ fold s) × (fold own_group ≡ fold g) =
    (λ (w : CoversGroup (Group own own_group) s g).
    let e : fold s ∷ fold g ∷ [] ≡ fold own ∷ fold own_group ∷ w.0 = w.1 in
    let same : fold s ≡ fold own = cc in
    let also : fold g ≡ fold own_group = cc in
    (sym same, sym also)) in
    subst P (sym is) (
      λ yes. let both = test.0 yes in ([], ap₂ (λ x y. x ∷ y ∷ []) (sym both.0) (sym both.1)),
      λ w. test.1 (back w),
    )

pub key_covers_no_group : (r : Bool) (scope : Scope) (key : ResourceId) (s g : List ℕ) → scope ≡ Resource key
    → IsKey key → r ≡ false → (IsTrue r ↔ CoversGroup scope s g)
key_covers_no_group r scope key s g is h e =
    let P : Scope → Type 0 = λ x. IsTrue r ↔ CoversGroup x s g in
    subst P (sym is) (
      λ yes. absurd (true≢false (sym yes ∙ e)),
      λ w. absurd (omega (arith, ap length w.1, length-append (key_segments key) w.0, long_key key h)),
    )

pub subscription_in_no_group : (scope : Scope) (own s g : List ℕ) → scope ≡ Subscription own
    → (IsTrue false ↔ IsInGroup scope s g)
subscription_in_no_group scope own s g is =
    let P : Scope → Type 0 = λ x. IsTrue false ↔ IsInGroup x s g in
    subst P (sym is) (
      λ yes. absurd (true≢false (sym yes)),
      λ w. absurd (omega (arith, ap length w.1)),
    )

pub group_in_group : (r : Bool) (scope : Scope) (own own_group s g : List ℕ) → scope ≡ Group own own_group
    → (IsTrue r ↔ (fold s ≡ fold own) × (fold g ≡ fold own_group)) → (IsTrue r ↔ IsInGroup scope s g)
group_in_group r scope own own_group s g is test =
    let P : Scope → Type 0 = λ x. IsTrue r ↔ IsInGroup x s g in
    let back : IsInGroup (Group own own_group) s g → (fold s ≡ fold own) × (fold g ≡ fold own_group) =
    (λ (w : IsInGroup (Group own own_group) s g).
    let e : fold own ∷ fold own_group ∷ [] ≡ fold s ∷ fold g ∷ w.0 = w.1 in
    let same : fold own ≡ fold s = cc in
    let also : fold own_group ≡ fold g = cc in
    (sym same, sym also)) in
    subst P (sym is) (
      λ yes. let both = test.0 yes in ([], ap₂ (λ x y. x ∷ y ∷ []) (sym both.0) (sym both.1)),
      λ w. test.1 (back w),
    )

pub key_in_group : (r : Bool) (scope : Scope) (key parts : ResourceId) (s g : List ℕ) → scope ≡ Resource key
    → parts ≡ key → IsKey key → (IsTrue r ↔ (fold s ≡ fold parts.subscription) × (fold g ≡ fold parts.group))
    → (IsTrue r ↔ IsInGroup scope s g)
key_in_group r scope key parts s g is same h test =
    let P : Scope → Type 0 = λ x. IsTrue r ↔ IsInGroup x s g in
    subst P (sym is) (in_group r (Group s g) s g parts key refl same h test)
