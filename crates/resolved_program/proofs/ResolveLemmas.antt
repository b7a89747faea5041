-- Files that are resolved one after another.
use Rattle.std.proofs.Common.{◌≡◌, ℕ, ◌+◌, List, [], ◌∷◌, ◌++◌, length, map, Some, None, refl, sym, ap, subst}
use Rattle.std.proofs.Common.{◌∙◌}
use Rattle.std.proofs.lemmas.List.{map-append, append_assoc, length-append, append-nil}
use Rattle.bicep_found.specs.Found.{found, unknown}
use Rattle.bicep_found.specs.declared.stop.Stop.{Stop}
use Rattle.bicep_found.specs.declared.stop.Stop.TheVariants as stop
use Rattle.bicep_names.specs.Scope.{OutputNames}
use Rattle.bicep_declared.proofs.FileLemmas.{map-after}
use Rattle.bicep_program.specs.Program.{ProgramFile}
use Rattle.resolved_program.specs.declared.fault.ResolveFault.{ResolveFault}
use Rattle.resolved_program.specs.declared.fault.ResolveFault.TheVariants as fault
use Rattle.resolved_program.specs.Programs.{ResolvedFileTree, NamedTree, resolved_named, file_named, output_names}
use Rattle.resolved_program.specs.Programs.{IsResolved}
use Rattle.resolved_program.specs.Faults.{first_from, first_in, numbered, unknown_in, unknown_by, unknown_at}
use Rattle.resolved_program.specs.Faults.{IsUnknownIn, IsFirst, twice_of}
use Rattle.resolved_program.proofs.FirstLemmas.{first-mapped}

-- these files are resolved, and the rest decides
pub record IsSoFar (os : List OutputNames) (all rest : List NamedTree) (rs : List ResolvedFileTree) : Type 0 where
  pub so_far : map (λ r. found r) rs ++ map (resolved_named os) rest ≡ map (resolved_named os) all
  pub decides : first_in (unknown_by os) all ≡ first_from (unknown_by os) (length rs) rest

pub begun : (os : List OutputNames) (all : List NamedTree) (rs : List ResolvedFileTree) → rs ≡ []
    → IsSoFar os all all rs
begun os all rs e = subst (IsSoFar os all all) (sym e) (record { so_far = refl; decides = refl })

-- one file more
pub more : (os : List OutputNames) (all rest : List NamedTree) (n : NamedTree) (rs new : List ResolvedFileTree)
    (r : ResolvedFileTree) → IsSoFar os all (n ∷ rest) rs → resolved_named os n ≡ found r → new ≡ rs ++ r ∷ []
    → IsSoFar os all rest new
more os all rest n rs new r h e p = subst (IsSoFar os all rest) (sym p) (record {
  so_far =
      ap (λ xs. xs ++ map (resolved_named os) rest) (map-append (λ x. found x) rs (r ∷ []))
      ∙ append_assoc (map (λ x. found x) rs) (found r ∷ []) (map (resolved_named os) rest)
      ∙ ap (λ x. map (λ y. found y) rs ++ x ∷ map (resolved_named os) rest) (sym e) ∙ h.so_far;
  decides =
      h.decides
      ∙ ap (λ x. numbered (length rs) (unknown_in x) (first_from (unknown_by os) (length rs + 1) rest)) e
      ∙ ap (λ k. first_from (unknown_by os) k rest) (sym (length-append rs (r ∷ [])));
})

-- a file in which a name means nothing
pub lost : (os : List OutputNames) (all rest : List NamedTree) (n : NamedTree) (rs : List ResolvedFileTree) (k : ℕ)
    (why : Stop) → IsSoFar os all (n ∷ rest) rs → k ≡ length rs
    → ((at : ℕ) → why ≡ stop.Unknown at → resolved_named os n ≡ unknown at) → IsUnknownIn os all (unknown_at k why)
lost os all rest n rs k (stop.Unknown at) h e f =
    h.decides
    ∙ ap (λ x. numbered (length rs) (unknown_in x) (first_from (unknown_by os) (length rs + 1) rest)) (f at refl)
    ∙ ap (λ j. Some (j, at)) (sym e)
lost os all rest n rs k stop.OutOfMemory h e f = tt

-- after the last
pub all_found : (os : List OutputNames) (all : List NamedTree) (rs : List ResolvedFileTree) → IsSoFar os all [] rs
    → map (resolved_named os) all ≡ map (λ r. found r) rs
all_found os all rs h = sym h.so_far ∙ append-nil (map (λ r. found r) rs)

pub at_rest : (os : List OutputNames) (all rest left : List NamedTree) (rs : List ResolvedFileTree)
    → IsSoFar os all rest rs → rest ≡ left → IsSoFar os all left rs
at_rest os all rest left rs h e = subst (λ r. IsSoFar os all r rs) e h

-- ---- the whole program

module _ (fs : List ProgramFile) (ns : List NamedTree) (os : List OutputNames) (n : ns ≡ map file_named fs)
    (o : os ≡ map output_names fs) where
  -- what the files stand for
  pub whole : (rs : List ResolvedFileTree) → map (resolved_named os) ns ≡ map (λ r. found r) rs → IsResolved fs rs
  whole rs h =
      sym (map-after (resolved_named (map output_names fs)) file_named fs)
      ∙ ap (map (resolved_named (map output_names fs))) (sym n) ∙ ap (λ x. map (resolved_named x) ns) (sym o) ∙ h

  -- the first name that means nothing
  pub first : (x : ResolveFault) → first_in twice_of fs ≡ None → IsUnknownIn os ns x → IsFirst fs x
  first (fault.Twice k at) t h = absurd h
  first (fault.Unknown k at) t h = (
    t,
    first-mapped (unknown_by (map output_names fs)) file_named 0 fs
        ∙ ap (first_in (unknown_by (map output_names fs))) (sym n) ∙ ap (λ x. first_in (unknown_by x) ns) (sym o) ∙ h,
  )
  first fault.OutOfMemory t h = tt
