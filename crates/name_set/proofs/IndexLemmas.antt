-- Names that are found by the bytes of their folded characters.
use Rattle.std.proofs.Common.{◌≡◌, ℕ, true, ◌||◌, List, [], ◌∷◌, ◌++◌, bytes_eq, encode_utf8_all}
use Rattle.std.proofs.Common.{refl, ap, ap₂, sym, ◌∙◌}
use Rattle.std.specs.Prelude.{cond}
use Rattle.std.specs.Cmp.{both_ways}
use Rattle.std.specs.List.{list_any}
use Rattle.std.specs.BTreeSet.{BTreeSet, contains, Updates}
use Rattle.std.specs.declared.vec.Vec.{Vec}
use Rattle.std.specs.declared.alloc.Global.{Global}
use Rattle.std.proofs.lemmas.List.Folds.{list_any-append}
use Rattle.std.proofs.lemmas.Map.Text.{is_eq-slice_cmp}
use Rattle.std.proofs.lemmas.Slice.Eq.{bytes_eq-Decides}
use Rattle.std.proofs.lemmas.Str.{encodes_same}
use Rattle.arm_value.specs.Look.{fold}
use Rattle.name_set.specs.Names.{is_named, bytes_cmp, IsIndexOf, is_listed, IsTextIndexOf}
use Rattle.foundation.proofs.TruthValues.{last_or}
use Rattle.foundation.proofs.Words.{swapped}

-- texts are equal where their bytes are
encoded_eq : (s t : List ℕ) → bytes_eq (encode_utf8_all s) (encode_utf8_all t) ≡ bytes_eq s t
encoded_eq s t =
    both_ways (bytes_eq (encode_utf8_all s) (encode_utf8_all t)) (bytes_eq s t)
    (λ h. (bytes_eq-Decides s t).1 (encodes_same s t ((bytes_eq-Decides (encode_utf8_all s) (encode_utf8_all t)).0 h)))
    (λ h. (bytes_eq-Decides (encode_utf8_all s) (encode_utf8_all t)).1
    (ap encode_utf8_all ((bytes_eq-Decides s t).0 h)))

among_names : (name : List ℕ) (names : List (List ℕ))
    → list_any (λ n. bytes_eq (encode_utf8_all (fold name)) (encode_utf8_all (fold n))) names ≡ is_named names name
among_names name [] = refl
among_names name (n ∷ names) = ap₂ (λ x y. x || y) (encoded_eq (fold name) (fold n)) (among_names name names)

-- what the index says of a key, it says of the name
pub is_indexed : (index : BTreeSet (Vec ℕ Global)) (names : List (List ℕ)) (key : Vec ℕ Global) (name : List ℕ)
    → IsIndexOf index names → key.items ≡ encode_utf8_all (fold name)
    → contains bytes_cmp index key ≡ is_named names name
is_indexed index names key name h e =
    h key ∙ ap (λ s. list_any (λ n. bytes_eq s (encode_utf8_all (fold n))) names) e ∙ among_names name names

-- one more name
pub index_more : (old new : BTreeSet (Vec ℕ Global)) (names : List (List ℕ)) (key : Vec ℕ Global) (name : List ℕ)
    → IsIndexOf old names → key.items ≡ encode_utf8_all (fold name) → Updates bytes_cmp old new key true
    → IsIndexOf new (names ++ name ∷ [])
index_more old new names key name h e u =
    λ s.
    let here = is_eq-slice_cmp key.items s.items ∙ swapped key.items s.items ∙ ap (bytes_eq s.items) e in
    u.0 s ∙ ap₂ (λ x y. cond x true y) here (h s)
    ∙ last_or (bytes_eq s.items (encode_utf8_all (fold name)))
    (list_any (λ n. bytes_eq s.items (encode_utf8_all (fold n))) names)
    ∙ sym (list_any-append (λ n. bytes_eq s.items (encode_utf8_all (fold n))) names (name ∷ []))

-- ---- letter by letter

among_texts : (text : List ℕ) (texts : List (List ℕ))
    → list_any (λ t. bytes_eq (encode_utf8_all text) (encode_utf8_all t)) texts ≡ is_listed texts text
among_texts text [] = refl
among_texts text (t ∷ texts) = ap₂ (λ x y. x || y) (encoded_eq text t) (among_texts text texts)

pub is_text_indexed : (index : BTreeSet (Vec ℕ Global)) (texts : List (List ℕ)) (key : Vec ℕ Global) (text : List ℕ)
    → IsTextIndexOf index texts → key.items ≡ encode_utf8_all text → contains bytes_cmp index key ≡ is_listed texts text
is_text_indexed index texts key text h e =
    h key ∙ ap (λ s. list_any (λ t. bytes_eq s (encode_utf8_all t)) texts) e ∙ among_texts text texts

-- one more text
pub text_index_more : (old new : BTreeSet (Vec ℕ Global)) (texts : List (List ℕ)) (key : Vec ℕ Global) (text : List ℕ)
    → IsTextIndexOf old texts → key.items ≡ encode_utf8_all text → Updates bytes_cmp old new key true
    → IsTextIndexOf new (texts ++ text ∷ [])
text_index_more old new texts key text h e u =
    λ s.
    let here = is_eq-slice_cmp key.items s.items ∙ swapped key.items s.items ∙ ap (bytes_eq s.items) e in
    u.0 s ∙ ap₂ (λ x y. cond x true y) here (h s)
    ∙ last_or (bytes_eq s.items (encode_utf8_all text)) (list_any (λ t. bytes_eq s.items (encode_utf8_all t)) texts)
    ∙ sym (list_any-append (λ t. bytes_eq s.items (encode_utf8_all t)) texts (text ∷ []))
