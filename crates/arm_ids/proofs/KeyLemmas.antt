-- Keys and the texts of which they are read.
use Rattle.std.proofs.Common.{◌≡◌, ℕ, length, Bool, true, false, ◌&&◌, List, [], ◌∷◌, map, refl, sym, ap, ap₂, ◌∙◌}
use Rattle.std.proofs.Common.{arith, codes, Some, None, true≢false, subst, Result, Ok, Err, IfOk}
use Rattle.std.specs.List.{list_any}
use Rattle.std.proofs.lemmas.List.{length-map, map-append}
use Rattle.std.proofs.lemmas.Slice.Eq.{bytes_eq-Decides}
use Rattle.arm_value.specs.Look.{fold, is_same_folded}
use Rattle.arm_ids.specs.Segments.{segments, slashed, is_empty, has_slash, firsts, seconds}
use Rattle.arm_ids.specs.Id.{folded, path, text_of, folded_text, id_segments, named_segments, IsResourceId, IsKey}
use Rattle.arm_ids.specs.Id.{IsPlain, IsIdOf, IsNoId, IsNoKey, reading, are_words}
use Rattle.arm_ids.specs.declared.fault.IdFault.{IdFault}
use Rattle.arm_ids.specs.declared.fault.IdFault.TheVariants.{EmptySegment, SegmentsDiffer, NotAnId, OutOfMemory}
use Rattle.arm_ids.specs.declared.id.ResourceId.{ResourceId}
use Rattle.arm_ids.proofs.SegmentLemmas.{segments_cut, segments-fold, slashed-segments, fold-fold, fold-slashed}
use Rattle.arm_ids.proofs.SegmentLemmas.{all_folded_twice, has_slash-fold, any_slash-fold, any_empty-fold}
use Rattle.arm_ids.proofs.SegmentLemmas.{map-by_turns, by_turns-apart, fold-firsts, fold-seconds, none_in_front}
use Rattle.arm_ids.proofs.SegmentLemmas.{none_after}
use Rattle.arm_ids.proofs.IdLemmas.{read_back, Reads, reads, id_from_reading}

fold-path : (ts ns : List (List ℕ)) → map fold (path ts ns) ≡ path (map fold ts) (map fold ns)
fold-path [] ns = refl
fold-path (provider ∷ ts) ns = ap (λ r. fold provider ∷ r) (map-by_turns ts ns)

-- the segments of a key's id
small_segments : ResourceId → List (List ℕ)
small_segments i =
    codes "subscriptions" ∷ i.subscription ∷ codes "resourcegroups" ∷ i.group ∷ codes "providers" ∷ path i.types i.names

folded_text-slashed : (i : ResourceId) → folded_text i ≡ slashed (small_segments (folded i))
unfolding small_segments text_of
folded_text-slashed i =
    fold-slashed (id_segments i)
    ∙ ap (λ r. slashed (codes "subscriptions" ∷ fold i.subscription ∷ codes "resourcegroups" ∷ fold i.group
    ∷ codes "providers" ∷ r)) (fold-path i.types i.names)

pub folded-folded : (i : ResourceId) → folded (folded i) ≡ folded i
folded-folded i =
    λ j. record {
      subscription = fold-fold i.subscription j;
      group = fold-fold i.group j;
      types =
          all_folded_twice i.types j;
      names = all_folded_twice i.names j;
    }

-- an id and its key have one folded text
pub folded_text-folded : (i : ResourceId) → folded_text (folded i) ≡ folded_text i
folded_text-folded i =
    folded_text-slashed (folded i) ∙ ap (λ k. slashed (small_segments k)) (folded-folded i)
    ∙ sym (folded_text-slashed i)

named-folded : (i : ResourceId) → named_segments (folded i) ≡ map fold (named_segments i)
named-folded i = ap (λ r. fold i.subscription ∷ fold i.group ∷ r) (sym (map-append fold i.types i.names))

folded_is_id : (i : ResourceId) → IsResourceId i → IsResourceId (folded i)
folded_is_id i h = record {
  filled = ap (list_any is_empty) (named-folded i) ∙ any_empty-fold (named_segments i) ∙ h.filled;
  paired = omega (arith, length-map i.types fold, length-map i.names fold, h.paired);
  named = omega (arith, length-map i.names fold, h.named);
  types_cut = any_slash-fold i.types ∙ h.types_cut;
  names_cut = any_slash-fold i.names ∙ h.names_cut;
}

pub folded_is_key : (i : ResourceId) → IsResourceId i → IsKey (folded i)
folded_is_key i h = record { is_id = folded_is_id i h; is_folded = folded-folded i }

-- what the text of an id names is its key
pub id_of_folded : (i : ResourceId) → IsResourceId i → IsPlain i → IsIdOf (text_of i) (folded i)
id_of_folded i h plain = record {
  is_key = folded_is_key i h;
  is_plain = record {
    subscription = has_slash-fold i.subscription ∙ plain.subscription;
    group =
        has_slash-fold i.group ∙ plain.group;
  };
  spelled = sym (folded_text-folded i);
}

-- the id of a key names the key
pub id_of_key : (k : ResourceId) → IsKey k → IsPlain k → IsIdOf (folded_text k) k
id_of_key k h plain = record { is_key = h; is_plain = plain; spelled = fold-fold (text_of k) }

-- every text that is an id of a key is read as it
pub reads_as_key : (t : List ℕ) (k : ResourceId) → IsIdOf t k → reading (fold t) ≡ Some k
unfolding small_segments
reads_as_key t k h =
    ap reading (h.spelled ∙ folded_text-slashed k ∙ ap (λ i. slashed (small_segments i)) h.is_key.is_folded)
    ∙ read_back (codes "subscriptions") (codes "resourcegroups") (codes "providers") k.subscription k.group
    k.types k.names refl refl refl refl h.is_key.is_id h.is_plain

words_are : (a b c : List ℕ) → are_words a b c ≡ true → (fold a ≡ codes "subscriptions")
    × (fold b ≡ codes "resourcegroups") × (fold c ≡ codes "providers")
words_are a b c e =
    let h = three (is_same_folded (codes "subscriptions") a) (is_same_folded (codes "resourceGroups") b)
    (is_same_folded (codes "providers") c) e in (
      sym ((bytes_eq-Decides (codes "subscriptions") (fold a)).0 h.0),
      sym ((bytes_eq-Decides (codes "resourcegroups") (fold b)).0 h.1),
      sym ((bytes_eq-Decides (codes "providers") (fold c)).0 h.2),
    )
  where
    three : (x y z : Bool) → (x && (y && z)) ≡ true → (x ≡ true) × (y ≡ true) × (z ≡ true)
    three true true z e = (refl, refl, e)
    three true false z e = absurd (true≢false (sym e))
    three false y z e = absurd (true≢false (sym e))

-- what a folded text is read as has only small letters
read_folded : (t : List ℕ) (i : ResourceId) → Reads (segments (fold t)) i → folded i ≡ i
read_folded t i h =
    let same : map fold (segments (fold t)) ≡ segments (fold t) =
    ap (map fold) (segments-fold t) ∙ all_folded_twice (segments t) ∙ sym (segments-fold t) in
    let listed : map fold ([] ∷ h.a ∷ i.subscription ∷ h.b ∷ i.group ∷ h.c ∷ h.provider ∷ h.rest) ≡ [] ∷ h.a
    ∷ i.subscription ∷ h.b ∷ i.group ∷ h.c ∷ h.provider ∷ h.rest =
    ap (map fold) (sym h.shape) ∙ same ∙ h.shape in
    let subscription : fold i.subscription ≡ i.subscription = cc in
    let group : fold i.group ≡ i.group = cc in
    let provider : fold h.provider ≡ h.provider = cc in
    let rest : map fold h.rest ≡ h.rest = cc in
    let types : map fold i.types ≡ i.types = ap (map fold) h.types
    ∙ ap₂ (λ x xs. x ∷ xs) provider (fold-firsts h.rest ∙ ap firsts rest) ∙ sym h.types in
    let names : map fold i.names ≡ i.names = ap (map fold) h.names ∙ fold-seconds h.rest ∙ ap seconds rest
    ∙ sym h.names in
    λ j. record { subscription = subscription j; group = group j; types = types j; names = names j }

path_is : (i : ResourceId) (xs : List (List ℕ)) (h : Reads xs i) → IsResourceId i
    → path i.types i.names ≡ h.provider ∷ h.rest
path_is i xs h is_id =
    let same : length (firsts h.rest) ≡ length (seconds h.rest) =
    omega (arith, ap length h.types, ap length h.names, is_id.paired) in
    ap₂ path h.types h.names ∙ ap (λ r. h.provider ∷ r) (by_turns-apart h.rest same)

spelled_by : (t : List ℕ) (i : ResourceId) → Reads (segments (fold t)) i → IsResourceId i → folded i ≡ i
    → fold t ≡ folded_text i
unfolding small_segments
spelled_by t i h is_id is_folded =
    let all = h.a ∷ i.subscription ∷ h.b ∷ i.group ∷ h.c ∷ h.provider ∷ h.rest in
    let joined : 47 ∷ slashed all ≡ 47 ∷ fold t = ap slashed (sym h.shape) ∙ slashed-segments (fold t) in
    let text : fold t ≡ slashed all = cc in
    let words = words_are h.a h.b h.c h.words in
    let path_folded : map fold (h.provider ∷ h.rest) ≡ path (map fold i.types) (map fold i.names) =
    ap (map fold) (sym (path_is i (segments (fold t)) h is_id)) ∙ fold-path i.types i.names in
    sym (fold-fold t) ∙ ap fold text ∙ fold-slashed all
    ∙ (λ j. slashed (words.0 j ∷ fold i.subscription ∷ words.1 j ∷ fold i.group ∷ words.2 j ∷ path_folded j))
    ∙ sym (folded_text-slashed i)

plain_by : (t : List ℕ) (i : ResourceId) → Reads (segments (fold t)) i → IsPlain i
plain_by t i h =
    let P : List (List ℕ) → Type 0 = λ xs. list_any has_slash xs ≡ false in
    let cut : list_any has_slash ([] ∷ h.a ∷ i.subscription ∷ h.b ∷ i.group ∷ h.c ∷ h.provider ∷ h.rest) ≡ false =
    subst P h.shape (segments_cut (fold t)) in
    let from_subscription = none_after has_slash h.a (i.subscription ∷ h.b ∷ i.group ∷ h.c ∷ h.provider ∷ h.rest) cut
    in
    let from_group =
    none_after has_slash h.b (i.group ∷ h.c ∷ h.provider ∷ h.rest)
    (none_after has_slash i.subscription (h.b ∷ i.group ∷ h.c ∷ h.provider ∷ h.rest) from_subscription) in
    record {
      subscription = none_in_front has_slash i.subscription (h.b ∷ i.group ∷ h.c ∷ h.provider ∷ h.rest)
          from_subscription;
      group = none_in_front has_slash i.group (h.c ∷ h.provider ∷ h.rest) from_group;
    }

-- what a text is read as is the key whose id it is
pub is_id_of : (t : List ℕ) (i : ResourceId) → reading (fold t) ≡ Some i → IsIdOf t i
is_id_of t i e =
    let h = reads (segments (fold t)) i e in
    let is_id = id_from_reading (fold t) i e in
    let is_folded = read_folded t i h in
    record {
      is_key = record { is_id = is_id; is_folded = is_folded };
      is_plain = plain_by t i h;
      spelled =
          spelled_by t i h is_id is_folded;
    }

pub only_key : (t : List ℕ) (i : ResourceId) → reading (fold t) ≡ Some i → (other : ResourceId) → IsIdOf t other
    → other ≡ i
only_key t i e other h = let both : Some other ≡ Some i = sym (reads_as_key t other h) ∙ e in cc

pub no_key : (t : List ℕ) → reading (fold t) ≡ None → (key : ResourceId) → IsIdOf t key → ⊥
no_key t e key h = let both : Some key ≡ None = sym (reads_as_key t key h) ∙ e in cc

pub key_made : (i k : ResourceId) (t : List ℕ) → k ≡ folded i → IsResourceId i → t ≡ folded_text i → IsKey k
    × (t ≡ folded_text k)
key_made i k t e h text =
    (subst IsKey (sym e) (folded_is_key i h), text ∙ sym (folded_text-folded i) ∙ ap folded_text (sym e))

pub id_text_names : (i r : ResourceId) (t : List ℕ) → i ≡ r → IsResourceId i → t ≡ text_of i → IsPlain r
    → IsIdOf t (folded r)
id_text_names i r t e h text plain =
    let P : List ℕ → Type 0 = λ t. IsIdOf t (folded r) in
    subst P (sym (text ∙ ap text_of e)) (id_of_folded r (subst IsResourceId e h) plain)

-- a text that is no id when it is folded is the id of no key
pub no_key_fault : (t s : List ℕ) (f : IdFault) → s ≡ fold t → IsNoId s f → IsNoKey t f
no_key_fault t s NotAnId e h = no_key t (ap reading (sym e) ∙ h)
no_key_fault t s OutOfMemory e h = tt
no_key_fault t s EmptySegment e h = h
no_key_fault t s SegmentsDiffer e h = h

pub copy_reads_back : {E : Type 0} (r : Result (List ℕ) E) (k : ResourceId) (t : List ℕ) → IfOk r (λ s. s ≡ t)
    → t ≡ folded_text k → IsKey k → IfOk r (λ s. IsPlain k → IsIdOf s k)
copy_reads_back (Ok s) k t e text is_key =
    λ plain. let P : List ℕ → Type 0 = λ t. IsIdOf t k in subst P (sym (e ∙ text)) (id_of_key k is_key plain)
copy_reads_back (Err f) k t e text is_key = tt
