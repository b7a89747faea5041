-- The ids of scopes, and the texts of which scopes are read.
use Rattle.std.proofs.Common.{◌≡◌, ◌≤◌, ℕ, length, Bool, true, false, ◌&&◌, not, List, [], ◌∷◌, refl}
use Rattle.std.proofs.Common.{sym, ap, ◌∙◌, ◌++◌, arith, codes, Some, None, true≢false, subst, cond}
use Rattle.std.proofs.Common.{Result, Ok, Err, IfOk}
use Rattle.std.specs.List.{list_any}
use Rattle.std.proofs.lemmas.List.{length-map}
use Rattle.std.proofs.lemmas.Slice.Eq.{bytes_eq-Decides}
use Rattle.std.proofs.lemmas.Bool.{not_from_false}
use Rattle.foundation.proofs.TruthValues.{both, and_true, nor, of_not}
use Rattle.arm_value.specs.Look.{fold, is_same_folded}
use Rattle.arm_ids.specs.Segments.{segments, slashed, is_empty, has_slash}
use Rattle.arm_ids.specs.Id.{IsPlain, IsIdOf, IsNoKey}
use Rattle.arm_ids.specs.ScopeId.{IsSegment, IsSubscriptionId, IsGroupId, IsIdOfScope, IsNoScope, IsPlainScope}
use Rattle.arm_ids.specs.ScopeId.{is_pair, is_start, container_of, scope_id}
use Rattle.arm_ids.specs.declared.id.ResourceId.{ResourceId}
use Rattle.arm_ids.specs.declared.fault.IdFault.{IdFault}
use Rattle.arm_ids.specs.declared.fault.IdFault.TheVariants.{EmptySegment, SegmentsDiffer, NotAnId, OutOfMemory}
use Rattle.arm_ids.specs.declared.scope.Scope.{Scope}
use Rattle.arm_ids.specs.declared.scope.Scope.TheVariants.{Subscription, Group, Resource}
use Rattle.arm_ids.proofs.SegmentLemmas.{segments_cut, segments-slashed, slashed-segments, segments-fold}
use Rattle.arm_ids.proofs.SegmentLemmas.{none_in_front, none_after, has_slash-fold}
use Rattle.arm_ids.proofs.IdLemmas.{reads}
use Rattle.arm_ids.proofs.KeyLemmas.{reads_as_key}

-- a fixed word in letters of any case has no slash
word_cut : (word text : List ℕ) → is_same_folded word text ≡ true → has_slash word ≡ false → has_slash text ≡ false
word_cut word text e cut =
    sym (has_slash-fold text)
    ∙ ap has_slash (sym ((bytes_eq-Decides (fold word) (fold text)).0 e)) ∙ has_slash-fold word ∙ cut

if_true : (b : Bool) (scope : Scope) → b ≡ true → cond b (Some scope) None ≡ Some scope
if_true true scope e = refl
if_true false scope e = absurd (true≢false (sym e))

found_if : (b : Bool) (scope found : Scope) → cond b (Some scope) None ≡ Some found → (b ≡ true) × (scope ≡ found)
found_if true scope found e = (refl, cc)
found_if false scope found e = cc

-- the word and the name of a pair
pair_parts : (word a s : List ℕ) → is_pair word a s ≡ true → (is_same_folded word a ≡ true) × (is_empty s ≡ false)
pair_parts word a s e =
    let h = both (is_same_folded word a) (not (is_empty s)) e in
    (h.0, of_not (is_empty s) h.1)

pair_of : (word a s : List ℕ) → is_same_folded word a ≡ true → is_empty s ≡ false → is_pair word a s ≡ true
pair_of word a s e f = and_true (is_same_folded word a) (not (is_empty s)) e (not_from_false (is_empty s) f)

nil_of : (s : List ℕ) → is_empty s ≡ true → s ≡ []
nil_of [] e = refl
nil_of (c ∷ cs) e = absurd (true≢false (sym e))

-- a text is its segments after the first, which is empty
text_is : (t : List ℕ) (root : List ℕ) (ss : List (List ℕ)) → segments t ≡ root ∷ ss → is_empty root ≡ true
    → t ≡ slashed ss
text_is t root ss e blank =
    let joined : 47 ∷ t ≡ 47 ∷ (root ++ slashed ss) = sym (slashed-segments t) ∙ ap slashed e in
    let same : t ≡ root ++ slashed ss = cc in
    same ∙ ap (λ r. r ++ slashed ss) (nil_of root blank)

-- the segments of a text have no slash
cut_of : (t : List ℕ) (ss : List (List ℕ)) → segments t ≡ ss → list_any has_slash ss ≡ false
cut_of t ss e = ap (list_any has_slash) (sym e) ∙ segments_cut t

-- what is read of the segments of a text
found_subscription : (t root a s : List ℕ) (scope : Scope) → segments t ≡ root ∷ a ∷ s ∷ []
    → cond (is_empty root && is_pair (codes "subscriptions") a s) (Some (Subscription s)) None ≡ Some scope
    → IsIdOfScope t scope
found_subscription t root a s scope e found =
    let h = found_if (is_empty root && is_pair (codes "subscriptions") a s) (Subscription s) scope found in
    let tests = both (is_empty root) (is_pair (codes "subscriptions") a s) h.0 in
    let pair = pair_parts (codes "subscriptions") a s tests.1 in
    let cut = cut_of t (root ∷ a ∷ s ∷ []) e in
    subst (IsIdOfScope t) h.1 (record {
      word = a;
      is_word = pair.0;
      name = record {
        filled = pair.1;
        cut = none_in_front has_slash s [] (none_after has_slash a (s ∷ [])
            (none_after has_slash root (a ∷ s ∷ []) cut));
      };
      spelled = text_is t root (a ∷ s ∷ []) e tests.0;
    })

found_group : (t root a s b g : List ℕ) (scope : Scope) → segments t ≡ root ∷ a ∷ s ∷ b ∷ g ∷ []
    → cond (is_start root a s && is_pair (codes "resourceGroups") b g) (Some (Group s g)) None ≡ Some scope
    → IsIdOfScope t scope
found_group t root a s b g scope e found =
    let h = found_if (is_start root a s && is_pair (codes "resourceGroups") b g) (Group s g) scope found in
    let pairs = both (is_start root a s) (is_pair (codes "resourceGroups") b g) h.0 in
    let tests = both (is_empty root) (is_pair (codes "subscriptions") a s) pairs.0 in
    let pair = pair_parts (codes "subscriptions") a s tests.1 in
    let group_pair = pair_parts (codes "resourceGroups") b g pairs.1 in
    let cut = cut_of t (root ∷ a ∷ s ∷ b ∷ g ∷ []) e in
    let after = none_after has_slash a (s ∷ b ∷ g ∷ []) (none_after has_slash root (a ∷ s ∷ b ∷ g ∷ []) cut) in
    subst (IsIdOfScope t) h.1 (record {
      word = a;
      is_word = pair.0;
      name = record { filled = pair.1; cut = none_in_front has_slash s (b ∷ g ∷ []) after };
      group_word = b;
      is_group_word = group_pair.0;
      group_name = record {
        filled = group_pair.1;
        cut = none_in_front has_slash g [] (none_after has_slash b (g ∷ [])
            (none_after has_slash s (b ∷ g ∷ []) after));
      };
      spelled = text_is t root (a ∷ s ∷ b ∷ g ∷ []) e tests.0;
    })

pub found_scope : (t : List ℕ) (ss : List (List ℕ)) (scope : Scope) → segments t ≡ ss
    → container_of ss ≡ Some scope → IsIdOfScope t scope
found_scope t [] scope e found = cc
found_scope t (root ∷ []) scope e found = cc
found_scope t (root ∷ a ∷ []) scope e found = cc
found_scope t (root ∷ a ∷ s ∷ []) scope e found = found_subscription t root a s scope e found
found_scope t (root ∷ a ∷ s ∷ b ∷ []) scope e found = cc
found_scope t (root ∷ a ∷ s ∷ b ∷ g ∷ []) scope e found = found_group t root a s b g scope e found
found_scope t (root ∷ a ∷ s ∷ b ∷ g ∷ c ∷ rest) scope e found = cc

-- the id of a subscription or of a group is read as it
read_subscription : (t s : List ℕ) → IsSubscriptionId t s → container_of (segments t) ≡ Some (Subscription s)
read_subscription t s h =
    let cut : list_any has_slash (h.word ∷ s ∷ []) ≡ false =
    nor (has_slash h.word) _ (word_cut (codes "subscriptions") h.word h.is_word refl)
    (nor (has_slash s) false h.name.cut refl) in
    ap (λ u. container_of (segments u)) h.spelled ∙ ap container_of (segments-slashed (h.word ∷ s ∷ []) cut)
    ∙ if_true (is_pair (codes "subscriptions") h.word s) (Subscription s)
    (pair_of (codes "subscriptions") h.word s h.is_word h.name.filled)

read_group : (t s g : List ℕ) → IsGroupId t s g → container_of (segments t) ≡ Some (Group s g)
read_group t s g h =
    let ss = h.word ∷ s ∷ h.group_word ∷ g ∷ [] in
    let cut : list_any has_slash ss ≡ false =
    nor (has_slash h.word) _ (word_cut (codes "subscriptions") h.word h.is_word refl)
    (nor (has_slash s) _ h.name.cut
    (nor (has_slash h.group_word) _ (word_cut (codes "resourceGroups") h.group_word h.is_group_word refl)
    (nor (has_slash g) false h.group_name.cut refl))) in
    ap (λ u. container_of (segments u)) h.spelled ∙ ap container_of (segments-slashed ss cut)
    ∙ if_true (is_pair (codes "subscriptions") h.word s && is_pair (codes "resourceGroups") h.group_word g)
    (Group s g)
    (and_true (is_pair (codes "subscriptions") h.word s) (is_pair (codes "resourceGroups") h.group_word g)
    (pair_of (codes "subscriptions") h.word s h.is_word h.name.filled)
    (pair_of (codes "resourceGroups") h.group_word g h.is_group_word h.group_name.filled))

-- the id of a resource has seven segments or more
long_id : (t : List ℕ) (key : ResourceId) → IsIdOf t key → 7 ≤ length (segments t)
long_id t key h =
    let r = reads (segments (fold t)) key (reads_as_key t key h) in
    omega (arith, length-map (segments t) fold, ap length (segments-fold t), ap length r.shape)

container_short : (ss : List (List ℕ)) → 7 ≤ length ss → container_of ss ≡ None
container_short [] l = absurd (omega (arith, l))
container_short (root ∷ []) l = refl
container_short (root ∷ a ∷ []) l = refl
container_short (root ∷ a ∷ s ∷ []) l = absurd (omega (arith, l))
container_short (root ∷ a ∷ s ∷ b ∷ []) l = refl
container_short (root ∷ a ∷ s ∷ b ∷ g ∷ []) l = absurd (omega (arith, l))
container_short (root ∷ a ∷ s ∷ b ∷ g ∷ c ∷ rest) l = refl

-- where a subscription or a group is read, the text is the id of no other scope
pub only_scope : (t : List ℕ) (scope : Scope) → container_of (segments t) ≡ Some scope → (other : Scope)
    → IsIdOfScope t other → other ≡ scope
only_scope t scope e (Subscription s) h =
    let one : Some (Subscription s) ≡ Some scope = sym (read_subscription t s h) ∙ e in cc
only_scope t scope e (Group s g) h =
    let one : Some (Group s g) ≡ Some scope = sym (read_group t s g h) ∙ e in cc
only_scope t scope e (Resource key) h =
    let none : None ≡ Some scope = sym (container_short (segments t) (long_id t key h)) ∙ e in cc

-- where none is read, the text is the id of a resource or of no scope
pub no_container : (t : List ℕ) → container_of (segments t) ≡ None → (scope : Scope) → IsIdOfScope t scope
    → (key : ResourceId) × ((scope ≡ Resource key) × IsIdOf t key)
no_container t e (Subscription s) h =
    let some : Some (Subscription s) ≡ None = sym (read_subscription t s h) ∙ e in cc
no_container t e (Group s g) h =
    let some : Some (Group s g) ≡ None = sym (read_group t s g h) ∙ e in cc
no_container t e (Resource key) h = (key, (refl, h))

-- the ids of a subscription and of a group whose names are segments read back
pub subscription_reads_back : (s : List ℕ) → IsSegment s → IsSubscriptionId (scope_id (Subscription s)) s
subscription_reads_back s h = record { word = codes "subscriptions"; is_word = refl; name = h; spelled = refl }

pub group_reads_back : (s g : List ℕ) → IsSegment s → IsSegment g → IsGroupId (scope_id (Group s g)) s g
group_reads_back s g h k = record {
  word = codes "subscriptions";
  is_word = refl;
  name = h;
  group_word = codes "resourceGroups";
  is_group_word = refl;
  group_name = k;
  spelled = refl;
}

-- where no subscription and no group is read, only the key is
pub only_resource : (t : List ℕ) (key : ResourceId) → container_of (segments t) ≡ None
    → ((other : ResourceId) → IsIdOf t other → other ≡ key) → (other : Scope) → IsIdOfScope t other
    → other ≡ Resource key
only_resource t key e only other h =
    let w = no_container t e other h in
    w.1.0 ∙ ap Resource (only w.0 w.1.1)

pub no_scope_fault : (t : List ℕ) (f : IdFault) → container_of (segments t) ≡ None → IsNoKey t f → IsNoScope t f
no_scope_fault t NotAnId e h = λ scope is. let w = no_container t e scope is in h w.0 w.1.1
no_scope_fault t OutOfMemory e h = tt
no_scope_fault t EmptySegment e h = h
no_scope_fault t SegmentsDiffer e h = h

-- the text of a scope of each kind reads back
pub subscription_text : {E : Type 0} (r : Result (List ℕ) E) (scope : Scope) (s : List ℕ) → scope ≡ Subscription s
    → IfOk r (λ t. t ≡ scope_id (Subscription s)) → IfOk r (λ t. IsPlainScope scope → IsIdOfScope t scope)
subscription_text (Ok t) scope s is e =
    let P : Scope → Type 0 = λ x. IsPlainScope x → IsIdOfScope t x in
    let Q : List ℕ → Type 0 = λ u. IsSubscriptionId u s in
    subst P (sym is) (λ h. subst Q (sym e) (subscription_reads_back s h))
subscription_text (Err f) scope s is e = tt

pub group_text : {E : Type 0} (r : Result (List ℕ) E) (scope : Scope) (s g : List ℕ) → scope ≡ Group s g
    → IfOk r (λ t. t ≡ scope_id (Group s g)) → IfOk r (λ t. IsPlainScope scope → IsIdOfScope t scope)
group_text (Ok t) scope s g is e =
    let P : Scope → Type 0 = λ x. IsPlainScope x → IsIdOfScope t x in
    let Q : List ℕ → Type 0 = λ u. IsGroupId u s g in
    subst P (sym is) (λ h. subst Q (sym e) (group_reads_back s g h.0 h.1))
group_text (Err f) scope s g is e = tt

pub key_text : {E : Type 0} (r : Result (List ℕ) E) (scope : Scope) (key : ResourceId) → scope ≡ Resource key
    → IfOk r (λ t. IsPlain key → IsIdOf t key) → IfOk r (λ t. IsPlainScope scope → IsIdOfScope t scope)
key_text (Ok t) scope key is e =
    let P : Scope → Type 0 = λ x. IsPlainScope x → IsIdOfScope t x in subst P (sym is) e
key_text (Err f) scope key is e = tt

-- what the tests of segments answer
pub fails_first : (a b : Bool) → a ≡ false → false ≡ (a && b)
fails_first false b e = refl
fails_first true b e = absurd (true≢false e)

pub decides_second : (a b r : Bool) → a ≡ true → r ≡ b → r ≡ (a && b)
decides_second true b r e f = f
decides_second false b r e f = absurd (true≢false (sym e))
