-- Which number the resource of a symbol has in the template of its file.
use Rattle.std.specs.Prelude.{ℕ, zero, suc, length, nat_eq, Bool, List, [], ◌∷◌, Option, Some, None}
use Rattle.std.specs.Prelude.{is_some, option_map, option_and_then, slice_get, if◌then◌else◌}
use Rattle.std.specs.Ordering.{match_ordering}
use Rattle.arm_value.specs.Json.{key_cmp}
use Rattle.template_parts.specs.declared.mode.Form.{Form}
use Rattle.template_parts.specs.declared.mode.Form.TheVariants.{One, Two}
use Rattle.bicep_meaning.specs.Files.{SourceFile, symbol_name}
use Rattle.bicep_meaning.specs.Declared.{body_at}
use Rattle.bicep_meaning.specs.Instances.{put_of, file_at}
use Rattle.cell_renaming.specs.Renaming.{Renaming}

-- those of k numbers from n on that pass a test
abbrev pub passing : (ℕ → Bool) → ℕ → ℕ → List ℕ
passing test n zero = []
passing test n (suc k) = if test n then n ∷ passing test (suc n) k else passing test (suc n) k

-- where a number is in a list
abbrev pub place_in : ℕ → List ℕ → Option ℕ
place_in n [] = None
place_in n (x ∷ xs) = if nat_eq n x then Some 0 else option_map suc (place_in n xs)

-- whether a symbol is that of a resource that is put, or of a module
abbrev pub is_put : SourceFile → ℕ → Bool
is_put f n = is_some (put_of n f)

-- whether it is that of a resource, which may be an existing one, or of a module
abbrev pub is_resource : SourceFile → ℕ → Bool
is_resource f n = is_some (body_at f n)

abbrev pub or_empty : Option (List ℕ) → List ℕ
or_empty None = []
or_empty (Some x) = x

abbrev pub name_of : SourceFile → ℕ → List ℕ
name_of f n = or_empty (symbol_name f n)

-- in its place by the bytes of names
abbrev pub inserted : SourceFile → ℕ → List ℕ → List ℕ
inserted f n [] = n ∷ []
inserted f n (m ∷ ms) =
    match_ordering (key_cmp (name_of f n) (name_of f m)) (n ∷ m ∷ ms) (n ∷ m ∷ ms) (m ∷ inserted f n ms)

abbrev pub by_name : SourceFile → List ℕ → List ℕ
by_name f [] = []
by_name f (n ∷ ns) = inserted f n (by_name f ns)

-- the symbols of the resources of the template of a file, in its order: in the first form those that are put, in the
-- order of the source, and in the second all, in the order of their names, by which a template has them
abbrev pub in_template : Form → SourceFile → List ℕ
in_template One f = passing (is_put f) 0 (length f.declared.declarations)
in_template Two f = by_name f (passing (is_resource f) 0 (length f.declared.declarations))

abbrev pub if_put : SourceFile → ℕ → Option ℕ
if_put f n = if is_put f n then Some n else None

-- the number of the resource of a symbol, and the symbol of the resource of a number; an existing one has none
abbrev pub number_of : Form → SourceFile → ℕ → Option ℕ
number_of z f n = option_and_then (λ m. place_in m (in_template z f)) (if_put f n)

abbrev pub symbol_of : Form → SourceFile → ℕ → Option ℕ
symbol_of z f m = option_and_then (if_put f) (slice_get (in_template z f) m)

-- in the file of each instance
abbrev pub numbering : Form → List SourceFile → Renaming
numbering z files = record {
  number = λ p n. option_and_then (λ f. number_of z f n) (file_at files p);
  resource = λ p m. option_and_then (λ f. symbol_of z f m) (file_at files p);
}
