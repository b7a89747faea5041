-- The entries of a table, as it is filled.
use Rattle.std.proofs.Common.{◌≡◌, ◌<◌, ◌⊎◌, inl, inr, ℕ, zero, suc, List, [], ◌∷◌, ◌++◌, length, Option, Some, None}
use Rattle.std.proofs.Common.{ap, sym, ◌∙◌, arith, subst, replicate}
use Rattle.std.proofs.lemmas.Option.{none-some, same_Some}
use Rattle.std.specs.Prelude.{slice_get, slice_set}
use Rattle.foundation.proofs.Lists.{got_before, got_last}
use Rattle.emitted_expressions.specs.Files.{SourceFile}
use Rattle.resolved_program.specs.declared.resolved.ResolvedFile.{ResolvedFile}
use Rattle.kept_parts.specs.Declared.{Emission, whole}
use Rattle.declared_types.specs.declared.resources.Typed.{Typed}
use Rattle.declared_table.specs.Seen.{Shape, file_of, files_of, file_in, whole_in}
use Rattle.declared_table.specs.Entries.{IsEntry, AreEntries, IsTable}
use Rattle.declared_table.specs.declared.entry.Entry.{Entry}
use Rattle.declared_table.specs.declared.mark.Mark.{Mark}
use Rattle.declared_table.proofs.ListLemmas.{set_cases, one_longer}

abbrev no_places : ℕ → List (Option ℕ)
no_places count = replicate count None

nowhere : (count n p : ℕ) → slice_get (no_places count) n ≡ Some (Some p) → ⊥
nowhere zero n p e = none-some (Some p) e
nowhere (suc count) zero p e = none-some p (same_Some None (Some p) e)
nowhere (suc count) (suc n) p e = nowhere count n p e

module _ (file : SourceFile) (b : Emission) where
  pub no_entries : (count : ℕ) → AreEntries file b (replicate count None) []
  no_entries count = record {
    there = λ n p e. absurd (nowhere count n p e);
    is = λ n p x e here. absurd (nowhere count n p e);
  }

  pub entry_added : (places : List (Option ℕ)) (es : List Entry) (n : ℕ) (e : Entry) → AreEntries file b places es
      → IsEntry file b n e → AreEntries file b (slice_set places n (Some (length es))) (es ++ e ∷ [])
  entry_added places es n e old new = record { there = there; is = is }
    where
      longer : (p : ℕ) → p < length es → p < length (es ++ e ∷ [])
      longer p h = let l = one_longer es e in omega (arith, h, l)

      last : (p : ℕ) → Some (Some (length es)) ≡ Some (Some p) → length es ≡ p
      last p q = same_Some (length es) p (same_Some (Some (length es)) (Some p) q)

      there : (m p : ℕ) → slice_get (slice_set places n (Some (length es))) m ≡ Some (Some p)
          → p < length (es ++ e ∷ [])
      there m p at = by (set_cases places n m (Some (length es)))
        where
          by : (slice_get (slice_set places n (Some (length es))) m ≡ slice_get places m)
              ⊎ ((m ≡ n) × (slice_get (slice_set places n (Some (length es))) m ≡ Some (Some (length es))))
              → p < length (es ++ e ∷ [])
          by (inl same) = longer p (old.there m p (sym same ∙ at))
          by (inr here) =
              let l = one_longer es e in let q = last p (sym here.1 ∙ at) in omega (arith, l, q)

      is : (m p : ℕ) (x : Entry) → slice_get (slice_set places n (Some (length es))) m ≡ Some (Some p)
          → slice_get (es ++ e ∷ []) p ≡ Some x → IsEntry file b m x
      is m p x at here = by (set_cases places n m (Some (length es)))
        where
          by : (slice_get (slice_set places n (Some (length es))) m ≡ slice_get places m)
              ⊎ ((m ≡ n) × (slice_get (slice_set places n (Some (length es))) m ≡ Some (Some (length es))))
              → IsEntry file b m x
          by (inl same) =
              let at_old = sym same ∙ at in
              old.is m p x at_old (sym (got_before es e p (old.there m p at_old)) ∙ here)
          by (inr q) =
              subst (λ k. IsEntry file b k x) (sym q.0)
              (subst (IsEntry file b n)
              (same_Some e x (sym (got_last es e) ∙ ap (slice_get (es ++ e ∷ [])) (last p (sym q.1 ∙ at)) ∙ here))
              new)

-- a table with one more entry
pub table_pushed : (r : ResolvedFile) (rs : List ResolvedFile) (marks : List Mark) (ts : List Typed)
    (places : List (Option ℕ)) (es : List Entry) → IsTable r rs marks ts places es → (n : ℕ) (e : Entry)
    → IsEntry (file_of r marks) (whole (file_of r marks) (files_of rs)) n e
    → (place : ℕ) (places2 : List (Option ℕ)) (es2 : List Entry) → place ≡ length es
    → places2 ≡ slice_set places n (Some place) → es2 ≡ es ++ e ∷ [] → IsTable r rs marks ts places2 es2
table_pushed r rs marks ts places es t n e new place places2 es2 last set pushed = record {
  paired = t.paired;
  types = t.types;
  entries = subst (λ ps. AreEntries file b ps es2) (sym (set ∙ ap (λ p. slice_set places n (Some p)) last))
      (subst (AreEntries file b (slice_set places n (Some (length es)))) (sym pushed)
      (entry_added file b places es n e t.entries new));
}
  where
    file : SourceFile
    file = file_of r marks

    b : Emission
    b = whole (file_of r marks) (files_of rs)

-- what holds of the value of a table holds of what it is made of
pub entry_inside : (s t : Shape) (n : ℕ) (e : Entry) → s ≡ t → IsEntry (file_in s) (whole_in s) n e
    → IsEntry (file_in t) (whole_in t) n e
entry_inside s t n e same h = subst (λ x. IsEntry (file_in x) (whole_in x) n e) same h
