-- Types in type texts, by their segments.
use Rattle.std.proofs.Common.{◌≡◌, ◌<◌, ◌≤◌, ℕ, suc, ◌+◌, Bool, true, false, true≢false, List, [], ◌∷◌, ◌++◌, length}
use Rattle.std.proofs.Common.{map}
use Rattle.std.proofs.Common.{Option, Some, None, refl, sym, ap, ap₂, ◌∙◌, subst, arith, cond, length-append}
use Rattle.std.proofs.lemmas.List.{length-map, map-append}
use Rattle.std.specs.Prelude.{◌==◌, ◌&&◌, not, nat_le, option_map, if◌then◌else◌}
use Rattle.std.specs.List.{list_any, onto_first}
use Rattle.foundation.proofs.Comparisons.{le_of_true, eq_of_true}
use Rattle.foundation.proofs.TruthValues.{both, nor, of_not}
use Rattle.foundation.proofs.Words.{eq_word, word_eq}
use Rattle.arm_value.specs.Look.{fold, is_same_folded}
use Rattle.arm_ids.specs.Members.{deployment_type}
use Rattle.arm_ids.specs.Segments.{segments, is_slash, is_empty, has_slash}
use Rattle.arm_ids.proofs.SegmentLemmas.{segments-fold, any_empty-fold}
use Rattle.arm_ids.proofs.TextLemmas.{some_segment}
use Rattle.bicep_misplaced.specs.Types.{divided, is_undivided}
use Rattle.bicep_type_texts.specs.Texts.{is_type, is_deployments, is_whole, is_whole_by, is_segment, is_part}
use Rattle.bicep_type_texts.specs.Texts.{is_part_by}
use Rattle.bicep_placed.specs.Kinds.{kind_in, kind_by, is_folded_front, is_child}
use Rattle.bicep_emission.proofs.MadeLemmas.{one_segment}
use Rattle.declaration_laws.specs.ChildTypes.{IsChildType}
use Rattle.declaration_laws.specs.Sound.{IsResourceType}

-- ---- whole types

-- the type in a whole type text
pub record IsWholeType (kind : List ℕ) : Type 0 where
  pub filled : list_any is_empty (segments kind) ≡ false
  pub type : IsResourceType kind

more_than_one : (n : ℕ) → 2 ≤ n → 1 < n
more_than_one n h = omega (arith, h)

whole_by : (text : List ℕ) (o : Option (List ℕ × List ℕ)) → is_whole_by o ≡ true → IsWholeType (kind_by text o)
unfolding is_type is_deployments
whole_by text None e = absurd cc
whole_by text (Some q) e =
    let a = both (is_type q.0) (not (is_deployments q.0) && not (is_empty q.1)) e in
    let t = both (nat_le 2 (length (segments q.0))) (not (list_any is_empty (segments q.0))) a.0 in
    let n = both (not (is_deployments q.0)) (not (is_empty q.1)) a.1 in
    record {
      filled = of_not (list_any is_empty (segments q.0)) t.1;
      type = record {
        has_segments = more_than_one (length (segments q.0)) (le_of_true 2 (length (segments q.0)) t.0);
        is_resource =
            λ same. true≢false (sym (word_eq (fold deployment_type) (fold q.0) (sym same)) ∙ of_not (is_deployments q.0)
            n.0);
      };
    }

pub whole_type : (text : List ℕ) → is_whole text ≡ true → IsWholeType (kind_in text)
whole_type text e = whole_by text (divided 64 text) e

-- ---- segments

undivided_rest : (f : List ℕ × List ℕ → List ℕ × List ℕ) (o : Option (List ℕ × List ℕ))
    → is_undivided (option_map f o) ≡ is_undivided o
undivided_rest f None = refl
undivided_rest f (Some q) = refl

slash_step : (c : ℕ) (cs : List ℕ) → (is_undivided (divided 47 cs) ≡ true → has_slash cs ≡ false) → (b : Bool)
    → (c == 47) ≡ b
    → is_undivided (if b then Some ([], cs) else option_map (λ q. (c ∷ q.0, q.1)) (divided 47 cs)) ≡ true
    → has_slash (c ∷ cs) ≡ false
slash_step c cs rest true g h = absurd cc
slash_step c cs rest false g h =
    nor (is_slash c) (has_slash cs) g (rest (sym (undivided_rest (λ q. (c ∷ q.0, q.1)) (divided 47 cs)) ∙ h))

not_slashed : (t : List ℕ) → is_undivided (divided 47 t) ≡ true → has_slash t ≡ false
not_slashed [] e = refl
not_slashed (c ∷ cs) e = slash_step c cs (not_slashed cs) (c == 47) refl e

part_by : (text : List ℕ) (o : Option (List ℕ × List ℕ)) → is_part_by text o ≡ true
    → is_segment (kind_by text o) ≡ true
part_by text None e = e
part_by text (Some q) e = (both (is_segment q.0) (not (is_empty q.1)) e).0

-- the type in the type text of a nested resource is one segment
pub part_type : (text : List ℕ) → is_part text ≡ true → has_slash (kind_in text) ≡ false
part_type text e =
    let kind = kind_in text in
    not_slashed kind
    ((both (is_undivided (divided 47 kind)) (not (is_empty kind)) (part_by text (divided 64 text) e)).0)

onto_front : (x : ℕ) (p : List ℕ) (ps qs rs : List (List ℕ)) → rs ≡ p ∷ ps
    → onto_first x (rs ++ qs) ≡ onto_first x rs ++ qs
onto_front x p ps qs rs e =
    subst (λ (us : List (List ℕ)). onto_first x (us ++ qs) ≡ onto_first x us ++ qs) (sym e) refl

segments_step : (b : Bool) (x : ℕ) (ps qs : List (List ℕ)) → onto_first x (ps ++ qs) ≡ onto_first x ps ++ qs
    → cond b ([] ∷ (ps ++ qs)) (onto_first x (ps ++ qs)) ≡ cond b ([] ∷ ps) (onto_first x ps) ++ qs
segments_step true x ps qs e = refl
segments_step false x ps qs e = e

segments_with : (s t : List ℕ) → has_slash t ≡ false → segments (s ++ 47 ∷ t) ≡ segments s ++ t ∷ []
segments_with [] t e = ap (λ ps. [] ∷ ps) (one_segment t e)
segments_with (x ∷ s) t e =
    let q = some_segment s in
    ap (λ ps. cond (is_slash x) ([] ∷ ps) (onto_first x ps)) (segments_with s t e)
    ∙ segments_step (is_slash x) x (segments s) (t ∷ []) (onto_front x q.0 q.1 (t ∷ []) (segments s) q.2)

-- ---- types of children

-- a type and one segment more
module _ (up part : List ℕ) (h : IsResourceType up) (e : has_slash part ≡ false) where
  pub child_type : IsChildType (up ++ 47 ∷ part) up
  child_type = record {
    last = fold part;
    is = ap (map fold) (segments_with up part e) ∙ map-append fold (segments up) (part ∷ []);
    parent = h.has_segments;
  }

  count : length (segments (up ++ 47 ∷ part)) ≡ length (segments up) + 1
  count = ap length (segments_with up part e) ∙ length-append (segments up) (part ∷ [])

  two : length (segments (fold deployment_type)) ≡ 2
  two = refl

  pub nested_type : IsResourceType (up ++ 47 ∷ part)
  nested_type =
      let many = h.has_segments in
      record {
        has_segments = let n = count in omega (arith, n, many);
        is_resource = λ same.
            let n : length (segments (up ++ 47 ∷ part)) ≡ 2 =
            sym (length-map (segments (up ++ 47 ∷ part)) fold)
            ∙ ap length (sym (segments-fold (up ++ 47 ∷ part)))
            ∙ ap (λ t. length (segments t)) same ∙ two in
            let m = count in
            absurd (omega (arith, n, m, many));
      }

-- ---- the field `parent`

-- the segments of a child, in small letters: those of its parent, and one
pub record IsLonger (ps ks : List (List ℕ)) : Type 0 where
  pub last : List ℕ
  pub is : map fold ks ≡ map fold ps ++ last ∷ []

none_longer : (n : ℕ) → suc (suc n) ≡ 1 → ⊥
none_longer n e = omega (arith, e)

less : (m n : ℕ) → suc m ≡ suc n + 1 → m ≡ n + 1
less m n e = omega (arith, e)

longer_by : (ps ks : List (List ℕ)) → length ks ≡ length ps + 1 → is_folded_front ps ks ≡ true → IsLonger ps ks
longer_by [] [] l e = absurd (omega (arith, l))
longer_by [] (k ∷ []) l e = record { last = fold k; is = refl }
longer_by [] (k ∷ j ∷ ks) l e = absurd (none_longer (length ks) l)
longer_by (p ∷ ps) [] l e = absurd cc
longer_by (p ∷ ps) (k ∷ ks) l e =
    let a = both (is_same_folded p k) (is_folded_front ps ks) e in
    let r = longer_by ps ks (less (length ks) (length ps) l) a.1 in
    record {
      last = r.last;
      is = ap₂ (λ x xs. x ∷ xs) (sym (eq_word (fold p) (fold k) a.0)) r.is;
    }

pub child_segments : (parent kind : List ℕ) → is_child parent kind ≡ true → IsLonger (segments parent) (segments kind)
unfolding is_child
child_segments parent kind e =
    let a = both (length (segments kind) == length (segments parent) + 1)
    (is_folded_front (segments parent) (segments kind)) e in
    longer_by (segments parent) (segments kind)
    (eq_of_true (length (segments kind)) (length (segments parent) + 1) a.0) a.1

-- nothing is a child of an empty type, if none of its segments is empty
pub no_parent : (kind : List ℕ) → is_child [] kind ≡ true → list_any is_empty (segments kind) ≡ false → ⊥
no_parent kind e f =
    let r = child_segments [] kind e in
    true≢false (sym (ap (list_any is_empty) r.is) ∙ any_empty-fold (segments kind) ∙ f)
