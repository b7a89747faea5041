-- Texts that mean symbols, and the keys that titles give.
use Rattle.std.proofs.Common.{◌≡◌, ◌<◌, ◌+◌, ◌^◌, ℕ, suc, List, [], ◌∷◌, ◌++◌, length, get_or, drop, Option, Some, None}
use Rattle.std.proofs.Common.{Bool, true, false, not, ◌&&◌, chars, codes, IsUtf8, decimal, sym, ap, ◌∙◌, lit<, arith}
use Rattle.std.specs.Prelude.{if◌then◌else◌, ◌==◌, nat_lt}
use Rattle.std.specs.Str.{IsAscii}
use Rattle.std.proofs.lemmas.List.{drop_all, length_push}
use Rattle.std.proofs.lemmas.Str.{chars-append, chars-IsAscii, IsAscii-append}
use Rattle.std.proofs.lemmas.Fmt.{IsAscii-decimal}
use Rattle.foundation.proofs.Comparisons.{eq_false}
use Rattle.foundation.proofs.Lists.{next_item}
use Rattle.foundation.proofs.AsciiWords.{one_ascii}
use Rattle.arm_value.specs.Json.{text}
use Rattle.arm_ids.specs.Id.{resource, resource_at, is_whole, folded, has_empty_segment, IsResourceId, Refuses}
use Rattle.arm_ids.specs.declared.fault.IdFault.TheVariants.{EmptySegment, SegmentsDiffer}
use Rattle.arm_ids.specs.declared.id.Place.{Place}
use Rattle.arm_ids.specs.declared.id.ResourceId.{ResourceId}
use Rattle.arm_ids.proofs.IdLemmas.{whole}
use Rattle.arm_eval.specs.Titles.{grown, number_from, element, key_at}

-- ---- the number in the brackets of a text, character by character

pub number_turn : (cs ys : List ℕ) (c : ℕ) (n : Option ℕ)
    → (length ys < length cs) × (c ≡ get_or cs (length ys) c)
    → number_from None cs ≡ number_from n (drop (length ys) cs)
    → number_from None cs ≡ number_from (grown n c) (drop (length (ys ++ c ∷ [])) cs)
number_turn cs ys c n t e =
    let long : length (ys ++ c ∷ []) ≡ length ys + 1 = length_push ys c in
    e ∙ ap (number_from n) (next_item cs (length ys) c t.0 t.1)
    ∙ ap (λ k. number_from (grown n c) (drop k cs)) (sym long)

pub number_end : (cs ys : List ℕ) (n : Option ℕ) → length ys ≡ length cs
    → number_from None cs ≡ number_from n (drop (length ys) cs) → n ≡ number_from None cs
number_end cs ys n l e = sym (e ∙ ap (number_from n) (drop_all (length ys) cs (omega (arith, l))))

-- ---- `n[i]`

pub in_brackets : (i : ℕ) → i < 2 ^ 64 → IsAscii (codes "[" ++ (decimal i ++ codes "]"))
in_brackets i h =
    IsAscii-append (codes "[") (decimal i ++ codes "]") (one_ascii 91 (lit< tt))
    (IsAscii-append (decimal i) (codes "]") (IsAscii-decimal i h) (one_ascii 93 (lit< tt)))

pub spelled_element : (name : List ℕ) (i : ℕ) → IsUtf8 name → i < 2 ^ 64
    → chars (name ++ (codes "[" ++ (decimal i ++ codes "]"))) ≡ element (chars name) i
spelled_element name i u h =
    chars-append name (codes "[" ++ (decimal i ++ codes "]")) u
    ∙ ap (λ r. chars name ++ r) (chars-IsAscii (codes "[" ++ (decimal i ++ codes "]")) (in_brackets i h))

-- ---- the key of a type and a name

module _ (place : Place) (kind name k n : List ℕ) (f : chars k ≡ kind) (g : chars n ≡ name) where
  as_spelled : resource_at place k n ≡ resource place.subscription place.group kind name
  as_spelled = λ j. resource place.subscription place.group (f j) (g j)

  key_if : (i : ResourceId) (b : Bool) → is_whole i ≡ b
      → (if is_whole i then Some (folded i) else None) ≡ (if b then Some (folded i) else None)
  key_if i b e = ap (λ b. if b then Some (folded i) else None) e

  pub key_of_id : (i : ResourceId) → i ≡ resource_at place k n → IsResourceId i
      → Some (folded i) ≡ key_at place kind (text name)
  key_of_id i e h =
      let same : i ≡ resource place.subscription place.group kind name = e ∙ as_spelled in
      sym (key_if i true (whole i h)) ∙ ap (λ i. if is_whole i then Some (folded i) else None) same

  not_formed : is_whole (resource_at place k n) ≡ false → None ≡ key_at place kind (text name)
  not_formed e =
      sym (ap (λ i. if is_whole i then Some (folded i) else None) (sym as_spelled)
      ∙ key_if (resource_at place k n) false e)

  pub empty_forms_none : Refuses (resource_at place k n) EmptySegment → None ≡ key_at place kind (text name)
  empty_forms_none e =
      let i = resource_at place k n in
      not_formed (ap (λ b. not b && ((length i.types == suc (length i.names)) && nat_lt 0 (length i.names))) e)

  differ : (a b : Bool) → a ≡ false → b ≡ false → (c : Bool) → (not a && (b && c)) ≡ false
  differ a b e h c = ap (λ a. not a && (b && c)) e ∙ ap (λ b. b && c) h

  pub unpaired_form_none : Refuses (resource_at place k n) SegmentsDiffer → None ≡ key_at place kind (text name)
  unpaired_form_none h =
      let i = resource_at place k n in
      not_formed (differ (has_empty_segment i) (length i.types == suc (length i.names)) h.0
      (eq_false (length i.types) (suc (length i.names)) h.1) (nat_lt 0 (length i.names)))
