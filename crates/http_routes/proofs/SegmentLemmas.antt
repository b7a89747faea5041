-- Segments that are read one by one.
use Rattle.std.proofs.Common.{◌≡◌, ℕ, Bool, true, false, List, [], ◌∷◌, ◌++◌, Option, Some, None, cond, chars, refl}
use Rattle.std.proofs.Common.{sym, ap, ◌∙◌, append_assoc}
use Rattle.std.specs.Prelude.{option_map}
use Rattle.std.specs.Str.{IsUtf8, is_utf8}
use Rattle.std.proofs.lemmas.Str.{is_utf8-from_IsUtf8, IsUtf8-from_is_utf8}
use Rattle.http_routes.specs.Segments.{Part, before, all_segments, decoded, is_name, segment_of}

-- what was read, before what is left to read
abbrev pub after_these : List Part → Option (List Part) → Option (List Part)
after_these done rest = option_map (λ parts. done ++ parts) rest

-- the next segment
pub read_more : (done : List Part) (part : Part) (sent : List ℕ) (rest : List (List ℕ)) → segment_of sent ≡ Some part
    → after_these (done ++ part ∷ []) (all_segments rest) ≡ after_these done (all_segments (sent ∷ rest))
read_more done part sent rest e =
    by (all_segments rest) ∙ ap (λ o. after_these done (before o (all_segments rest))) (sym e)
  where
    by : (o : Option (List Part)) → after_these (done ++ part ∷ []) o ≡ after_these done (before (Some part) o)
    by (Some parts) = ap Some (append_assoc done (part ∷ []) parts)
    by None = refl

-- a segment that is none
pub read_none : (done : List Part) (sent : List ℕ) (rest : List (List ℕ)) → segment_of sent ≡ None
    → None ≡ after_these done (all_segments (sent ∷ rest))
read_none done sent rest e = ap (λ o. after_these done (before o (all_segments rest))) (sym e)

-- bytes that are a name in UTF-8, are no name, or are no UTF-8
pub decodes : (sent bytes : List ℕ) → is_name bytes ≡ true → IsUtf8 bytes
    → Some (record { sent = sent; name = chars bytes }) ≡ decoded sent bytes
decodes sent bytes name utf8 = sym (
    ap (λ b. cond b (cond (is_utf8 bytes) (Some (record { sent = sent; name = chars bytes })) None) None) name
    ∙ ap (λ b. cond b (Some (record { sent = sent; name = chars bytes })) None) (is_utf8-from_IsUtf8 bytes utf8))

pub no_name : (sent bytes : List ℕ) → is_name bytes ≡ false → None ≡ decoded sent bytes
no_name sent bytes e =
    sym (ap (λ b. cond b (cond (is_utf8 bytes) (Some (record { sent = sent; name = chars bytes })) None) None) e)

pub no_utf8 : (sent bytes : List ℕ) → ¬ (IsUtf8 bytes) → None ≡ decoded sent bytes
no_utf8 sent bytes h = by (is_name bytes) (is_utf8 bytes) refl refl
  where
    by : (n u : Bool) → is_name bytes ≡ n → is_utf8 bytes ≡ u → None ≡ decoded sent bytes
    by false u e f = no_name sent bytes e
    by true true e f = absurd (h (IsUtf8-from_is_utf8 bytes f))
    by true false e f = sym (
        ap (λ b. cond b (cond (is_utf8 bytes) (Some (record { sent = sent; name = chars bytes })) None) None) e
        ∙ ap (λ b. cond b (Some (record { sent = sent; name = chars bytes })) None) f)
