-- Ids that `resourceId` makes of a type and names.
use Rattle.std.proofs.Common.{◌≡◌, ℕ, suc, length, List, [], ◌∷◌, ◌++◌, Some, None, Bool, true, false}
use Rattle.std.proofs.Common.{refl, sym, ap, ◌∙◌, subst, cond, ◌||◌, ◌&&◌, not, arith}
use Rattle.std.specs.Prelude.{◌==◌, nat_lt, option_map, if◌then◌else◌}
use Rattle.std.specs.List.{list_any, onto_first}
use Rattle.arm_ids.specs.Id.{is_whole, has_empty_segment, text_of, folded, IsResourceId}
use Rattle.arm_ids.specs.Segments.{segments, is_slash, has_slash, is_empty}
use Rattle.arm_ids.specs.declared.id.Place.{Place}
use Rattle.arm_ids.specs.declared.id.ResourceId.{ResourceId}
use Rattle.arm_ids.proofs.IdLemmas.{reading-text_of}
use Rattle.arm_ids.proofs.SegmentLemmas.{segments_cut}
use Rattle.arm_ids.proofs.TextLemmas.{some_segment}
use Rattle.expression_values.specs.Id.{id_in_group, resource_id, with_group}
use Rattle.foundation.proofs.TruthValues.{both, unless, or_left, or_right, and_false_is, of_not}
use Rattle.foundation.proofs.Comparisons.{lt_true, eq_of_true, positive}
use Rattle.expression_values.specs.Find.{id_key}
use Rattle.bicep_meaning.specs.Puts.{key_formed}
use Rattle.bicep_emission.specs.Made.{made, is_made, made_whole}
use Rattle.bicep_emission.specs.Answered.{IsPlainPlace}

any-append : {A : Type 0} (p : A → Bool) (xs ys : List A) → list_any p (xs ++ ys) ≡ (list_any p xs || list_any p ys)
any-append p [] ys = refl
any-append p (x ∷ xs) ys = step (p x) (list_any p xs) (list_any p ys) (list_any p (xs ++ ys)) (any-append p xs ys)
  where
    step : (a b c d : Bool) → d ≡ (b || c) → (a || d) ≡ ((a || b) || c)
    step true b c d e = refl
    step false b c d e = e

-- the two ways to say that an id is whole
same_whole : (s g t n p l c : Bool) → (l ≡ true → p ≡ true)
    → (not s && (not g && (l && (not t && (not n && not c)))))
    ≡ ((not (s || (g || (t || n))) && (l && p)) && not c)
same_whole true g t n p l c h = refl
same_whole false true t n p l c h = refl
same_whole false false true n p true c h = refl
same_whole false false true n p false c h = refl
same_whole false false false true p true c h = refl
same_whole false false false true p false c h = refl
same_whole false false false false p true c h = ap (λ q. q && not c) (sym (h refl))
same_whole false false false false p false c h = refl

-- a text with a slash has two segments or more
abbrev HasTwo : List ℕ → Type 0
HasTwo t = (a : List ℕ) × ((b : List ℕ) × ((rest : List (List ℕ)) × (segments t ≡ a ∷ b ∷ rest)))

first_is : (c : ℕ) (cs : List ℕ) (b : Bool) → is_slash c ≡ b
    → segments (c ∷ cs) ≡ cond b ([] ∷ segments cs) (onto_first c (segments cs))
first_is c cs b h = ap (λ b. cond b ([] ∷ segments cs) (onto_first c (segments cs))) h

two_by : (c : ℕ) (cs : List ℕ) → (has_slash cs ≡ true → HasTwo cs) → (b : Bool) → is_slash c ≡ b
    → (b || has_slash cs) ≡ true → HasTwo (c ∷ cs)
two_by c cs f true h e =
    let p = some_segment cs in ([], (p.0, (p.1, first_is c cs true h ∙ ap (λ (ss : List (List ℕ)). [] ∷ ss) p.2)))
two_by c cs f false h e =
    let q = f e in (c ∷ q.0, (q.1.0, (q.1.1.0, first_is c cs false h ∙ ap (onto_first c) q.1.1.1)))

two_segments : (t : List ℕ) → has_slash t ≡ true → HasTwo t
two_segments [] e = absurd cc
two_segments (c ∷ cs) e = two_by c cs (two_segments cs) (is_slash c) refl e

two_is_not_one : (n : ℕ) → suc (suc n) ≡ 1 → ⊥
two_is_not_one n e = omega arith

-- names for such types are there
some_names : (a b : List ℕ) (rest ns : List (List ℕ)) → (length (a ∷ b ∷ rest) == suc (length ns)) ≡ true
    → nat_lt 0 (length ns) ≡ true
some_names a b rest [] e = absurd (two_is_not_one (length rest) (eq_of_true (suc (suc (length rest))) 1 e))
some_names a b rest (n ∷ ns) e = lt_true 0 (suc (length ns)) (omega arith)

are_some : (kind : List ℕ) (ns : List (List ℕ)) → has_slash kind ≡ true
    → (length (segments kind) == suc (length ns)) ≡ true → nat_lt 0 (length ns) ≡ true
are_some kind ns h e =
    let q = two_segments kind h in
    some_names q.0 q.1.0 q.1.1.0 ns (subst (λ ts. (length ts == suc (length ns)) ≡ true) q.1.1.1 e)

text_if : (b c : Bool) (i : ResourceId) → b ≡ c
    → (if b then Some (text_of i) else None) ≡ option_map text_of (if c then Some i else None)
text_if b true i e = ap (λ d. if d then Some (text_of i) else None) e
text_if b false i e = ap (λ d. if d then Some (text_of i) else None) e

-- the id in a group
pub in_group : (place : Place) (kind : List ℕ) (ns : List (List ℕ)) → has_slash kind ≡ true
    → id_in_group (record { subscription = place.subscription; name = place.group }) kind ns
    ≡ option_map text_of (made_whole place kind ns)
in_group place kind ns h =
    text_if _ (is_made place kind ns) (made place kind ns)
    (same_whole (is_empty place.subscription) (is_empty place.group) (list_any is_empty (segments kind))
    (list_any is_empty ns) (nat_lt 0 (length ns)) (length (segments kind) == suc (length ns)) (list_any has_slash ns)
    (are_some kind ns h)
    ∙ ap (λ b. (not (is_empty place.subscription || (is_empty place.group || b))
    && ((length (segments kind) == suc (length ns)) && nat_lt 0 (length ns))) && not (list_any has_slash ns))
    (sym (any-append is_empty (segments kind) ns)))

-- `resourceId` of a type and names
pub resource_id_is : (place : Place) (kind : List ℕ) (ns : List (List ℕ)) → has_slash kind ≡ true
    → resource_id place (kind ∷ ns) ≡ option_map text_of (made_whole place kind ns)
resource_id_is place kind ns h =
    ap (λ b. if b then id_in_group (record { subscription = place.subscription; name = place.group }) kind ns
    else with_group place.subscription kind ns) h
    ∙ in_group place kind ns h

-- ---- the id is read from its text

is_id : (place : Place) (kind : List ℕ) (ns : List (List ℕ)) → is_made place kind ns ≡ true
    → IsResourceId (made place kind ns)
is_id place kind ns e =
    let a = both (is_whole (made place kind ns)) (not (list_any has_slash ns)) e in
    let b = both (not (has_empty_segment (made place kind ns)))
    ((length (segments kind) == suc (length ns)) && nat_lt 0 (length ns)) a.0 in
    let c = both (length (segments kind) == suc (length ns)) (nat_lt 0 (length ns)) b.1 in record {
      filled = of_not (has_empty_segment (made place kind ns)) b.0;
      paired = eq_of_true (length (segments kind)) (suc (length ns)) c.0;
      named = positive (length ns) c.1;
      types_cut = segments_cut kind;
      names_cut = of_not (list_any has_slash ns) a.1;
    }

pub reads_back : (place : Place) (kind : List ℕ) (ns : List (List ℕ)) → IsPlainPlace place
    → is_made place kind ns ≡ true → id_key (text_of (made place kind ns)) ≡ Some (folded (made place kind ns))
reads_back place kind ns p e =
    ap (option_map folded) (reading-text_of (made place kind ns) (is_id place kind ns e)
    (record { subscription = p.subscription; group = p.group }))

-- ---- names with one segment

pub one_segment : (t : List ℕ) → has_slash t ≡ false → segments t ≡ t ∷ []
one_segment [] e = refl
one_segment (c ∷ cs) e =
    ap (λ b. cond b ([] ∷ segments cs) (onto_first c (segments cs))) (or_left (is_slash c) (list_any is_slash cs) e)
    ∙ ap (onto_first c) (one_segment cs (or_right (is_slash c) (list_any is_slash cs) e))

-- a type of two segments and a name with a slash make no id
too_many : (s g : List ℕ) (ts ns : List (List ℕ)) → length ts ≡ 2 → (a b : List ℕ) (rest : List (List ℕ))
    → ns ≡ a ∷ b ∷ rest → is_whole (record { subscription = s; group = g; types = ts; names = ns }) ≡ false
too_many s g ts ns h a b rest e =
    ap (λ q. not (has_empty_segment (record { subscription = s; group = g; types = ts; names = ns })) &&
    (q && nat_lt 0 (length ns)))
    (unless (length ts == suc (length ns)) (λ q. three (eq_of_true (length ts) (suc (length ns)) q) (ap length e)))
    ∙ and_false_is (not (has_empty_segment (record { subscription = s; group = g; types = ts; names = ns })))
  where
    three : length ts ≡ suc (length ns) → length ns ≡ suc (suc (length rest)) → ⊥
    three q r = omega arith

folded_if : (b c : Bool) (i : ResourceId) → c ≡ true
    → option_map folded (if b && c then Some i else None) ≡ (if b then Some (folded i) else None)
folded_if true c i e = ap (λ c. option_map folded (if c then Some i else None)) e
folded_if false c i e = refl

nothing_if : (b c : Bool) (i : ResourceId) → c ≡ false → option_map folded (if b && c then Some i else None) ≡ None
nothing_if true c i e = ap (λ c. option_map folded (if c then Some i else None)) e
nothing_if false c i e = refl

-- the key of a type of two segments and a name
pub key_is : (place : Place) (kind n : List ℕ) → length (segments kind) ≡ 2
    → option_map folded (made_whole place kind (n ∷ [])) ≡ key_formed place kind n
key_is place kind n h = by_slash (has_slash n) refl
  where
    any_slash : (b : Bool) → has_slash n ≡ b → not (list_any has_slash (n ∷ [])) ≡ not (b || false)
    any_slash b e = ap (λ b. not (b || false)) e

    by_slash : (b : Bool) → has_slash n ≡ b
        → option_map folded (made_whole place kind (n ∷ [])) ≡ key_formed place kind n
    by_slash false e =
        folded_if (is_whole (made place kind (n ∷ []))) (not (list_any has_slash (n ∷ []))) (made place kind (n ∷ []))
        (any_slash false e)
        ∙ sym (ap (λ ns. if is_whole (made place kind ns) then Some (folded (made place kind ns)) else None)
        (one_segment n e))
    by_slash true e =
        let q = two_segments n e in
        nothing_if (is_whole (made place kind (n ∷ []))) (not (list_any has_slash (n ∷ []))) (made place kind (n ∷ []))
        (any_slash true e)
        ∙ sym (ap (λ b. if b then Some (folded (made place kind (segments n))) else None)
        (too_many place.subscription place.group (segments kind) (segments n) h q.0 q.1.0 q.1.1.0 q.1.1.1))
