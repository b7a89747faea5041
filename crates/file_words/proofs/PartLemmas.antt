-- The types of resources of files that are read are short, so the names of resources have few parts.
use Rattle.std.proofs.Common.{◌≡◌, ◌≤◌, ◌<◌, ℕ, zero, suc, ◌+◌, ◌-◌, Bool, true, false, List, [], ◌∷◌, length, Option}
use Rattle.std.proofs.Common.{Some, None, refl, arith, cond}
use Rattle.std.specs.Prelude.{◌==◌, ◌^◌, option_map, option_and_then, if◌then◌else◌}
use Rattle.std.specs.List.{slice_split, onto_first}
use Rattle.bicep_declared.specs.Declarations.{DeclaredTree}
use Rattle.bicep_declared.specs.Declarations as d
use Rattle.bicep_misplaced.specs.Types.{divided}
use Rattle.bicep_meaning.specs.Files.{SourceFile, Typed, declaration, symbol_kind, Parent, parent, no_parent}
use Rattle.bicep_meaning.specs.Files.{inside_or, around_kind, fields_parent, divided_or, type_text, type_by}
use Rattle.bicep_meaning.specs.Files.{type_within, type_of}
use Rattle.emitted_numbers.specs.Wholes.{HasFewParts}
use Rattle.file_words.specs.Words.{IsShort}
use Rattle.file_words.proofs.FileLemmas.{IsGood, FileIsGood, at_number}

-- ---- what is before a mark

abbrev front_length : Option (List ℕ × List ℕ) → ℕ
front_length None = 0
front_length (Some q) = length q.0

divided_short : (m : ℕ) (cs : List ℕ) → front_length (divided m cs) ≤ length cs
divided_short m [] = omega arith
divided_short m (c ∷ cs) = by (c == m) (divided m cs) (divided_short m cs)
  where
    by : (b : Bool) (o : Option (List ℕ × List ℕ)) → front_length o ≤ length cs
        → front_length (if b then Some ([], cs) else option_map (λ q. (c ∷ q.0, q.1)) o) ≤ suc (length cs)
    by true o h = omega arith
    by false None h = omega arith
    by false (Some q) h = omega (arith, h)

kind_short : (text v : List ℕ) (o : Option (List ℕ × List ℕ)) → IsShort text → front_length o ≤ length text
    → IsShort (divided_or text v o).kind
kind_short text v None h le = h
kind_short text v (Some q) h le = omega (arith, h, le)

-- ---- types

type_text_short : (o : Option DeclaredTree) → ((x : DeclaredTree) → o ≡ Some x → IsGood x) → IsShort (type_text o)
type_text_short None h = omega arith
type_text_short (Some (d.parameter at t)) h = omega arith
type_text_short (Some (d.parameter_with at t e)) h = omega arith
type_text_short (Some (d.variable at v)) h = omega arith
type_text_short (Some (d.a_resource at q existing b)) h = (h (d.a_resource at q existing b) refl).0
type_text_short (Some (d.a_module at b)) h = omega arith

by_around : (up : ℕ → Typed) (o : Option ℕ) (p : Parent) (text : List ℕ) → inside_or o p ≡ no_parent → IsShort text
    → IsShort (type_by up o text).kind
by_around up None p text e h = kind_short text [] (divided 64 text) h (divided_short 64 text)
by_around up (Some m) p text e h = absurd cc

module _ (f : SourceFile) (good : FileIsGood f.declared) where
  short_within : (k n : ℕ) → parent f n ≡ no_parent → IsShort (type_within f k n).kind
  unfolding type_within
  short_within zero n e = omega arith
  short_within (suc k) n e =
      by_around (λ m. type_within f k m) (option_and_then around_kind (symbol_kind f n))
      (fields_parent (declaration f n)) (type_text (declaration f n)) e
      (type_text_short (declaration f n) (at_number f good n))

-- ---- parts

onto_first_short : (x : ℕ) (ps : List (List ℕ)) (n : ℕ) → length ps ≤ n + 1 → length (onto_first x ps) ≤ n + 1
onto_first_short x [] n h = omega arith
onto_first_short x (p ∷ ps) n h = omega (arith, h)

split_short : (test : ℕ → Bool) (xs : List ℕ) → length (slice_split test xs) ≤ length xs + 1
split_short test [] = omega arith
split_short test (x ∷ xs) = by (test x) (split_short test xs)
  where
    by : (b : Bool) → length (slice_split test xs) ≤ length xs + 1
        → length (cond b ([] ∷ slice_split test xs) (onto_first x (slice_split test xs))) ≤ suc (length xs) + 1
    by true h = omega (arith, h)
    by false h = let g = onto_first_short x (slice_split test xs) (length xs) h in omega (arith, g)

few_parts : (kind : List ℕ) → IsShort kind → length (slice_split (λ c. c == 47) kind) - 1 < 2 ^ 63
few_parts kind h = let s = split_short (λ c. c == 47) kind in omega (arith, h, s)

pub has_few_parts : (f : SourceFile) → FileIsGood f.declared → HasFewParts f
has_few_parts f good n e = few_parts (type_of f n).kind (short_within f good (length f.symbols) n e)
