-- Symbols and outputs that are looked up in a map.
use Rattle.std.proofs.Common.{◌≡◌, ℕ, ◌+◌, List, [], ◌∷◌, ◌++◌, map, Bool, true, false, Option, Some, None, refl, sym}
use Rattle.std.proofs.Common.{ap}
use Rattle.std.proofs.Common.{◌∙◌, bytes_eq, cond, ◌||◌}
use Rattle.std.specs.Prelude.{position, string_bytes}
use Rattle.std.specs.String.{string_eq}
use Rattle.indexmap.specs.IndexMap.{insert_entry}
use Rattle.indexmap.specs.IndexSet.{insert_key}
use Rattle.std.specs.List.{position_from, list_any}
use Rattle.std.specs.Map.{lookup, keys_of}
use Rattle.std.proofs.lemmas.Iterator.Adapters.{position_from-zero}
use Rattle.std.specs.declared.string.String.{String}
use Rattle.std.specs.declared.alloc.Global.{Global}
use Rattle.bicep_names.specs.declared.kind.Kind.{Kind}
use Rattle.bicep_names.specs.Scope.{symbol_from, seen}

abbrev pub test : List ℕ → String Global → Bool
test q k = bytes_eq q (string_bytes k)

abbrev paired : Option ℕ → Option Kind → Option (ℕ × Kind)
paired (Some n) (Some k) = Some (n, k)
paired _ _ = None

by_test : (b : Bool) (n : ℕ) (k : Kind) (i : Option ℕ) (o : Option Kind) (r : Option (ℕ × Kind)) → r ≡ paired i o
    → cond b (Some (n, k)) r ≡ paired (cond b (Some n) i) (cond b (Some k) o)
by_test true n k i o r h = refl
by_test false n k i o r h = h

paired_is : (q : List ℕ) (es : List (String Global × Kind)) (n : ℕ)
    → symbol_from n q (map seen es) ≡ paired (position_from (test q) n (keys_of es)) (lookup (test q) es)
paired_is q [] n = refl
paired_is q (e ∷ es) n = by_test (bytes_eq q (string_bytes e.0)) n e.1 _ _ _ (paired_is q es (n + 1))

pub symbol_is : (q : List ℕ) (es : List (String Global × Kind)) (i : Option ℕ) (o : Option Kind)
    → position (test q) (keys_of es) ≡ i → lookup (test q) es ≡ o → symbol_from 0 q (map seen es) ≡ paired i o
symbol_is q es i o f g =
    paired_is q es 0
    ∙ ap (λ j. paired j (lookup (test q) es)) (sym (position_from-zero (test q) (keys_of es)) ∙ f) ∙ ap (paired i) g

added_by : (b : Bool) (x : List ℕ × Kind) (k : String Global) (v : Kind) (e : String Global × Kind)
    (rest es : List (String Global × Kind)) (o : Option (ℕ × Kind)) → cond b (Some (0, e.1)) o ≡ None
    → (o ≡ None → map seen rest ≡ map seen es ++ x ∷ [])
    → map seen (cond b ((e.0, v) ∷ es) (e ∷ rest)) ≡ (seen e ∷ map seen es) ++ x ∷ []
added_by true x k v e rest es o h g = absurd (cc)
added_by false x k v e rest es o h g = ap (λ ys. seen e ∷ ys) (g h)

none_at : (b : Bool) (x y : ℕ × Kind) (o : Option (ℕ × Kind)) → cond b (Some x) o ≡ None → cond b (Some y) o ≡ None
none_at true x y o h = absurd (cc)
none_at false x y o h = h

-- a symbol that is not there goes last
pub symbol_added : (es : List (String Global × Kind)) (k : String Global) (v : Kind) (n : ℕ)
    → symbol_from n (string_bytes k) (map seen es) ≡ None
    → map seen (insert_entry string_eq es k v) ≡ map seen es ++ (string_bytes k, v) ∷ []
symbol_added [] k v n h = refl
symbol_added (e ∷ es) k v n h =
    added_by (bytes_eq (string_bytes k) (string_bytes e.0)) (string_bytes k, v) k v e
    (insert_entry string_eq es k v) es _
    (none_at (bytes_eq (string_bytes k) (string_bytes e.0)) (n, e.1) (0, e.1) _ h) (λ g. symbol_added es k v (n + 1) g)

place_from : (q : List ℕ) (keys : List (String Global)) (n : ℕ)
    → position_from (bytes_eq q) n (map string_bytes keys) ≡ position_from (test q) n keys
place_from q [] n = refl
place_from q (k ∷ ks) n = ap (cond (bytes_eq q (string_bytes k)) (Some n)) (place_from q ks (n + 1))

-- a place among the bytes of keys
pub place_is : (q : List ℕ) (keys : List (String Global))
    → position (bytes_eq q) (map string_bytes keys) ≡ position (test q) keys
place_is q keys =
    position_from-zero (bytes_eq q) (map string_bytes keys) ∙ place_from q keys 0
    ∙ sym (position_from-zero (test q) keys)

absent_by : (b : Bool) (n : ℕ) (o : Option ℕ) (r : Bool) → cond b (Some n) o ≡ None → (o ≡ None → r ≡ false)
    → (b || r) ≡ false
absent_by true n o r h g = absurd (cc)
absent_by false n o r h g = g h

absent : (k : String Global) (ks : List (String Global)) (n : ℕ)
    → position_from (bytes_eq (string_bytes k)) n (map string_bytes ks) ≡ None → list_any (string_eq k) ks ≡ false
absent k [] n h = refl
absent k (x ∷ ks) n h =
    absent_by (bytes_eq (string_bytes k) (string_bytes x)) n
    (position_from (bytes_eq (string_bytes k)) (n + 1) (map string_bytes ks)) (list_any (string_eq k) ks) h
    (λ g. absent k ks (n + 1) g)

map-last : (ks : List (String Global)) (k : String Global)
    → map string_bytes (ks ++ k ∷ []) ≡ map string_bytes ks ++ string_bytes k ∷ []
map-last [] k = refl
map-last (x ∷ ks) k = ap (λ ys. string_bytes x ∷ ys) (map-last ks k)

-- a name that is not there goes last
pub output_added : (ks : List (String Global)) (k : String Global)
    → position (bytes_eq (string_bytes k)) (map string_bytes ks) ≡ None
    → map string_bytes (insert_key string_eq ks k) ≡ map string_bytes ks ++ string_bytes k ∷ []
output_added ks k h =
    rw (absent k ks 0 (sym (position_from-zero (bytes_eq (string_bytes k)) (map string_bytes ks)) ∙ h)) (map-last ks k)
