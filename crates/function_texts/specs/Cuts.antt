-- The functions that cut texts (Microsoft Learn: ARM template functions, string).
use Rattle.std.specs.Prelude.{ℕ, zero, suc, ◌+◌, ◌<◌, ◌≡◌, ◌==◌, nat_le, pos, Bool, List, [], ◌∷◌, ◌++◌, length, take}
use Rattle.std.specs.Prelude.{drop, map, Option, Some, None, option_map, option_and_then, if◌then◌else◌, not, ◌&&◌}
use Rattle.std.specs.List.{list_all, flat_map}
use Rattle.arm_value.specs.Json.{Json, int, text, array, items}
use Rattle.function_numbers.specs.Kinds.{text_of, of_two}
use Rattle.function_lists.specs.Values.{array_of}
use Rattle.function_texts.specs.Places.{begins}

-- so many characters from a place on, where there are so many
abbrev pub part : List ℕ → ℕ → ℕ → Option (List ℕ)
part s start count = if nat_le (start + count) (length s) then Some (take count (drop start s)) else None

-- the characters from a place on, up to the length
abbrev pub rest_from : List ℕ → ℕ → Option (List ℕ)
rest_from s start = if nat_le start (length s) then Some (drop start s) else None

-- the number that a value is, where it is not below 0
abbrev pub count_of : Json → Option ℕ
count_of (int (pos n)) = Some n
count_of _ = None

-- the text from a place on, or so many characters of it
abbrev pub cut : Json → Json → Option Json
cut j k = option_and_then (λ s. option_and_then (λ start. option_map text (rest_from s start)) (count_of k)) (text_of j)

abbrev pub cut_part : Json → Json → Json → Option Json
cut_part j k l =
    option_and_then
    (λ s. option_and_then (λ start. option_and_then (λ count. option_map text (part s start count)) (count_of l))
    (count_of k)) (text_of j)

abbrev pub substring : List Json → Option Json
substring (j ∷ k ∷ []) = cut j k
substring (j ∷ k ∷ l ∷ []) = cut_part j k l
substring _ = None

-- the first of the delimiters that the characters begin with
unfoldable pub delimiter_at : List (List ℕ) → List ℕ → Option (List ℕ)
delimiter_at [] s = None
delimiter_at (d ∷ ds) s = if begins d s then Some d else delimiter_at ds s

-- a text cut at a delimiter: what is before it, the delimiter, and what is after it
pub record Cut : Type 0 where
  pub before : List ℕ
  pub delimiter : List ℕ
  pub after : List ℕ

-- the cut of a text at the first place where a delimiter begins, and at the first delimiter that begins there
pub record IsFirstCut (ds : List (List ℕ)) (s : List ℕ) (cut : Cut) : Type 0 where
  pub whole : s ≡ cut.before ++ (cut.delimiter ++ cut.after)
  pub there : delimiter_at ds (cut.delimiter ++ cut.after) ≡ Some cut.delimiter
  pub none_before : (place : ℕ) → place < length cut.before → delimiter_at ds (drop place s) ≡ None

-- no delimiter begins in the text
abbrev pub IsUncut : List (List ℕ) → List ℕ → Type 0
IsUncut ds s = (place : ℕ) → place < length s → delimiter_at ds (drop place s) ≡ None

-- The pieces of a text are what is before its first cut, and the pieces of what is after it; without a cut, the text.
unfoldable pub ArePieces : List (List ℕ) → List ℕ → List (List ℕ) → Type 0
ArePieces ds s [] = ⊥
ArePieces ds s (p ∷ []) = IsUncut ds s × (p ≡ s)
ArePieces ds s (p ∷ q ∷ ps) = (cut : Cut) × IsFirstCut ds s cut × (p ≡ cut.before) × ArePieces ds cut.after (q ∷ ps)

-- the cut at the first character, where a delimiter begins there, else the later cut with the character before it
abbrev pub cut_here : Option (List ℕ) → ℕ → List ℕ → Option Cut → Option Cut
cut_here (Some d) c cs later = Some (record { before = []; delimiter = d; after = drop (length d) (c ∷ cs) })
cut_here None c cs later =
    option_map (λ k. record { before = c ∷ k.before; delimiter = k.delimiter; after = k.after }) later

-- the first cut of a text, if there is one
unfoldable pub first_cut : List (List ℕ) → List ℕ → Option Cut
first_cut ds [] = None
first_cut ds (c ∷ cs) = cut_here (delimiter_at ds (c ∷ cs)) c cs (first_cut ds cs)

-- what is before a cut, and the pieces of what is after it; without a cut, the text
abbrev pub cut_at : Option Cut → List ℕ → (List ℕ → List (List ℕ)) → List (List ℕ)
cut_at None s pieces_after = s ∷ []
cut_at (Some k) s pieces_after = k.before ∷ pieces_after k.after

-- the pieces of a text that is cut at most n times
unfoldable pub pieces_within : ℕ → List (List ℕ) → List ℕ → List (List ℕ)
pieces_within zero ds s = s ∷ []
pieces_within (suc n) ds s = cut_at (first_cut ds s) s (pieces_within n ds)

-- the pieces of a text between the delimiters
unfoldable pub pieces : List (List ℕ) → List ℕ → List (List ℕ)
pieces ds s = pieces_within (length s) ds s

-- the pieces with a text between them
abbrev pub joined : List ℕ → List (List ℕ) → List ℕ
joined between [] = []
joined between (p ∷ ps) = p ++ flat_map (λ q. between ++ q) ps

-- the text with each part replaced: cut at the part, and joined with the other text
unfoldable pub replaced : List ℕ → List ℕ → List ℕ → List ℕ
replaced old new s = joined new (pieces (old ∷ []) s)

-- the text with each part replaced; an empty part is none
abbrev pub replaced_in : List ℕ → List ℕ → List ℕ → Option Json
replaced_in s old new = if length old == 0 then None else Some (text (replaced old new s))

abbrev pub replaced_text : Json → Json → Json → Option Json
replaced_text j k l =
    option_and_then (λ s. option_and_then (λ old. option_and_then (λ new. replaced_in s old new) (text_of l))
    (text_of k)) (text_of j)

abbrev pub replace : List Json → Option Json
replace (j ∷ k ∷ l ∷ []) = replaced_text j k l
replace _ = None

-- the texts that all of these are
unfoldable pub texts_in : List Json → Option (List (List ℕ))
texts_in [] = Some []
texts_in (j ∷ js) = option_and_then (λ s. option_map (λ ss. s ∷ ss) (texts_in js)) (text_of j)

abbrev pub delimiters : Json → Option (List (List ℕ))
delimiters (text d) = Some (d ∷ [])
delimiters (array js) = texts_in (items js)
delimiters _ = None

-- whether no delimiter is empty
abbrev pub none_empty : List (List ℕ) → Bool
none_empty ds = list_all (λ d. not (length d == 0)) ds

-- whether there is a delimiter, and none is empty
abbrev pub can_cut : List (List ℕ) → Bool
can_cut ds = not (length ds == 0) && none_empty ds

-- the text cut at each delimiter, of several at one place at the first in their order
abbrev pub split_text : List ℕ → List (List ℕ) → Option Json
split_text s ds = if can_cut ds then array_of (map text (pieces ds s)) else None

abbrev pub split_by : Json → Json → Option Json
split_by j k = option_and_then (λ s. option_and_then (split_text s) (delimiters k)) (text_of j)

abbrev pub split : List Json → Option Json
split args = of_two split_by args
