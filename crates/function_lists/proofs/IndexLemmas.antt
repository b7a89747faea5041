-- Values that are found by their compact texts.
use Rattle.std.proofs.Common.{◌≡◌, ℕ, true, ◌||◌, List, [], ◌∷◌, ◌++◌, Some, bytes_eq}
use Rattle.std.proofs.Common.{refl, ap, ap₂, sym, ◌∙◌}
use Rattle.std.specs.Prelude.{cond}
use Rattle.std.specs.Cmp.{both_ways}
use Rattle.std.specs.List.{AllByRecursion, list_any}
use Rattle.std.specs.BTreeSet.{BTreeSet, contains, IsEmpty, Updates}
use Rattle.std.specs.declared.vec.Vec.{Vec}
use Rattle.std.specs.declared.alloc.Global.{Global}
use Rattle.std.proofs.lemmas.List.Folds.{list_any-append}
use Rattle.std.proofs.lemmas.Map.Text.{is_eq-slice_cmp}
use Rattle.std.proofs.lemmas.Slice.Eq.{bytes_eq-Decides}
use Rattle.arm_value.specs.Json.{Json}
use Rattle.arm_value.specs.Reading.{data_of, reading}
use Rattle.arm_value.specs.Same.{is_same}
use Rattle.arm_value.proofs.SameLemmas.{decides_equal}
use Rattle.function_lists.specs.Items.{is_among}
use Rattle.function_lists.specs.Index.{text_of, ReadsBack, text_cmp, IsIndexOf}
use Rattle.foundation.proofs.Words.{swapped}
use Rattle.foundation.proofs.TruthValues.{last_or}
use Rattle.arm_value.proofs.EqualData.{same_data}

-- ---- a text and its value

same_value : (j k : Json) → ReadsBack j → ReadsBack k → text_of j ≡ text_of k → j ≡ k
same_value j k a b texts =
    let datas : Some (data_of j) ≡ Some (data_of k) = sym a ∙ ap reading texts ∙ b in
    same_data j k (cc)

-- texts that read back are equal where their values are
texts_tell : (j k : Json) → ReadsBack j → ReadsBack k → bytes_eq (text_of j) (text_of k) ≡ is_same j k
texts_tell j k a b =
    let equal = decides_equal (is_same j k) j k refl in
    both_ways (bytes_eq (text_of j) (text_of k)) (is_same j k)
    (λ t. equal.1 (same_value j k a b ((bytes_eq-Decides (text_of j) (text_of k)).0 t)))
    (λ t. (bytes_eq-Decides (text_of j) (text_of k)).1 (ap text_of (equal.0 t)))

among_texts : (j : Json) (js : List Json) → ReadsBack j → AllByRecursion ReadsBack js
    → list_any (λ k. bytes_eq (text_of j) (text_of k)) js ≡ is_among js j
among_texts j [] a h = refl
among_texts j (k ∷ js) a h = ap₂ (λ x y. x || y) (texts_tell j k a h.0) (among_texts j js a h.1)

-- ---- the set

-- what the set says of a text, it says of the value
pub is_indexed : (texts : BTreeSet (Vec ℕ Global)) (key : Vec ℕ Global) (js : List Json) (j : Json)
    → IsIndexOf texts js → key.items ≡ text_of j → ReadsBack j → contains text_cmp texts key ≡ is_among js j
is_indexed texts key js j h e a =
    h.has key ∙ ap (λ s. list_any (λ k. bytes_eq s (text_of k)) js) e ∙ among_texts j js a h.read_back

pub index_empty : (texts : BTreeSet (Vec ℕ Global)) → IsEmpty texts → IsIndexOf texts []
index_empty texts e = record { has = λ s. ap (list_any _) e; read_back = tt }

all_push : (js : List Json) (j : Json) → AllByRecursion ReadsBack js → ReadsBack j
    → AllByRecursion ReadsBack (js ++ j ∷ [])
all_push [] j h a = (a, tt)
all_push (k ∷ js) j h a = (h.0, all_push js j h.1 a)

-- one more value
pub index_more : (old new : BTreeSet (Vec ℕ Global)) (key : Vec ℕ Global) (js : List Json) (j : Json)
    → IsIndexOf old js → key.items ≡ text_of j → ReadsBack j → Updates text_cmp old new key true
    → IsIndexOf new (js ++ j ∷ [])
index_more old new key js j h e a u = record {
  has = λ s.
      let here = is_eq-slice_cmp key.items s.items ∙ swapped key.items s.items ∙ ap (bytes_eq s.items) e in
      u.0 s ∙ ap₂ (λ x y. cond x true y) here (h.has s)
      ∙ last_or (bytes_eq s.items (text_of j)) (list_any (λ k. bytes_eq s.items (text_of k)) js)
      ∙ sym (list_any-append (λ k. bytes_eq s.items (text_of k)) js (j ∷ []));
  read_back = all_push js j h.read_back a;
}
