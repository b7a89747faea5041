-- Lists of marks, by the numbers of symbols.
use Rattle.std.proofs.Common.{◌≡◌, ◌≤◌, ◌+◌, ℕ, zero, suc, Bool, false, List, [], ◌∷◌, ◌++◌, length, map}
use Rattle.std.proofs.Common.{Ok, Err, refl, sym, ap, ◌∙◌, arith}
use Rattle.std.specs.Prelude.{◌&&◌, not, slice_index_or, Result, IfOk}
use Rattle.std.specs.declared.alloc.AllocError.{AllocError}
use Rattle.std.specs.declared.alloc.Global.{Global}
use Rattle.std.specs.declared.vec.Vec.{Vec}
use Rattle.std.proofs.lemmas.Option.{slice_get_past}
use Rattle.template_parts.specs.declared.looping.Batches.{Batches}
use Rattle.template_parts.specs.declared.looping.Batches.TheVariants.{Parallel}
use Rattle.bicep_names.specs.declared.kind.Kind.{Kind}
use Rattle.bicep_symbols.specs.declared.entry.Entry.{Entry}
use Rattle.bicep_declared.specs.declared.declared.Declared.{Declared}
use Rattle.bicep_declared.specs.Declarations.{DeclaredTree}
use Rattle.bicep_declared.specs.View.{declared_tree}
use Rattle.bicep_checks.proofs.KindLemmas.{same_file}
use Rattle.bicep_mentions.specs.Entries.{has_entry, is_variable, state_reads}
use Rattle.resolved_program.specs.declared.resolved.ResolvedFile.{ResolvedFile}
use Rattle.resolved_program.specs.View.{file_view}
use Rattle.sound_files.specs.Files.{IsFileOf}
use Rattle.declared_table.specs.Seen.{file_of, mark_of, unmarked}
use Rattle.declared_table.specs.declared.mark.Mark.{Mark}
use Rattle.file_tables.specs.Orders.{HasEntries, mark_at}

-- the marks are those of the numbers from that one on
abbrev pub AreMarks : {A : Type 0} → (ℕ → A) → ℕ → List A → Type 0
AreMarks p k [] = Unit {0}
AreMarks p k (b ∷ bs) = (b ≡ p k) × AreMarks p (suc k) bs

pub one_more : {A : Type 0} (p : ℕ → A) (k : ℕ) (bs : List A) (b : A) → AreMarks p k bs → b ≡ p (length bs + k)
    → AreMarks p k (bs ++ b ∷ [])
one_more {A} p k [] b h e = let none : length {A = A} [] + k ≡ k = omega arith in (e ∙ ap p none, tt)
one_more p k (c ∷ bs) b h e =
    let same : suc (length bs) + k ≡ length bs + suc k = omega arith in
    (h.0, one_more p (suc k) bs b h.1 (e ∙ ap p same))

past_end : {A : Type 0} (d : A) (xs : List A) (n : ℕ) → length xs ≤ n → slice_index_or xs n d ≡ d
past_end d [] n le = refl
past_end d (x ∷ xs) zero le = absurd (omega (arith, le))
past_end d (x ∷ xs) (suc n) le = past_end d xs n (omega (arith, le))

-- a list that has all marks but those of one kind, read at a number
read : {A : Type 0} (none : A) (p : ℕ → A) (k : ℕ) (bs : List A) → AreMarks p k bs
    → ((n : ℕ) → length bs ≤ n → p (n + k) ≡ none) → (n : ℕ) → slice_index_or bs n none ≡ p (n + k)
read none p k [] h f n = sym (f n (omega arith))
read none p k (b ∷ bs) h f zero = let same : k ≡ 0 + k = omega arith in h.0 ∙ ap p same
read none p k (b ∷ bs) h f (suc n) =
    let shift : (m : ℕ) → m + suc k ≡ suc m + k = λ m. omega arith in
    read none p (suc k) bs h.1 (λ m le. ap p (shift m) ∙ f (suc m) (omega (arith, le))) n ∙ ap p (shift n)

-- no number beyond the declarations is marked
none_there : (kinds : List Kind) (ds : List DeclaredTree) (n : ℕ) → length ds ≤ n → has_entry kinds ds n ≡ false
none_there kinds ds n le = ap (λ x. is_variable x && not ((state_reads kinds ds).own n)) (slice_get_past ds n le)

-- where each declaration has its mark, all numbers have theirs
pub all_marked : (kinds : List Kind) (ds : List DeclaredTree) (bs : List Bool) → AreMarks (has_entry kinds ds) 0 bs
    → length ds ≤ length bs → (n : ℕ) → slice_index_or bs n false ≡ has_entry kinds ds n
all_marked kinds ds bs h all n =
    let none : n + 0 ≡ n = omega arith in
    read false (has_entry kinds ds) 0 bs h (λ m le. none_there kinds ds (m + 0) (omega (arith, le, all))) n
    ∙ ap (has_entry kinds ds) none

-- marks of the symbols and declarations are those of their file
pub entries_are : (r : ResolvedFile) (es : List Entry) (ds : List Declared) → es ≡ r.entries.items
    → ds ≡ r.declared.declarations.items → (v : Result (Vec Bool Global) AllocError)
    → IfOk v (λ bs. (n : ℕ) → slice_index_or bs.items n false
    ≡ has_entry (map (λ (e : Entry). e.kind) es) (map declared_tree ds) n)
    → IfOk v (λ bs. HasEntries (file_view r) bs.items)
entries_are r es ds p q (Ok bs) h = λ n. h n ∙ same_file (λ xs ts. has_entry xs ts n) r es ds p q
entries_are r es ds p q (Err e) h = tt

-- ---- marks that are joined

module _ (bs : List Bool) (xs : List Batches) where
  -- a number beyond both lists has no mark
  beyond : (n : ℕ) → length bs ≤ n → length xs ≤ n → mark_at bs xs n ≡ unmarked
  beyond n p q = λ i. record { has_entry = past_end false bs n p i; batches = past_end Parallel xs n q i }

  -- where each number of both lists has its mark, all numbers have theirs
  pub all_joined : (ms : List Mark) → AreMarks (mark_at bs xs) 0 ms → length bs ≤ length ms → length xs ≤ length ms
      → (n : ℕ) → mark_of ms n ≡ mark_at bs xs n
  all_joined ms h p q n =
      let same : n + 0 ≡ n = omega arith in
      read unmarked (mark_at bs xs) 0 ms h
      (λ m le. beyond (m + 0) (omega (arith, le, p)) (omega (arith, le, q))) n
      ∙ ap (mark_at bs xs) same

  module _ (r : ResolvedFile) where
    -- marks of a file make the file that it stands for
    pub is_file : HasEntries (file_view r) bs → (v : Result (Vec Mark Global) AllocError)
        → IfOk v (λ ms. (n : ℕ) → mark_of ms.items n ≡ mark_at bs xs n)
        → IfOk v (λ ms. IsFileOf (file_view r) (file_of r ms.items))
    is_file entries (Ok ms) h = record {
      symbols = refl;
      declared = refl;
      entries = λ n. ap (λ (m : Mark). m.has_entry) (h n) ∙ entries n;
    }
    is_file entries (Err e) h = tt

  -- and they have the batches
  pub batches_are : (v : Result (Vec Mark Global) AllocError)
      → IfOk v (λ ms. (n : ℕ) → mark_of ms.items n ≡ mark_at bs xs n)
      → IfOk v (λ ms. (n : ℕ) → (mark_of ms.items n).batches ≡ slice_index_or xs n Parallel)
  batches_are (Ok ms) h = λ n. ap (λ (m : Mark). m.batches) (h n)
  batches_are (Err e) h = tt
