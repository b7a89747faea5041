-- Files whose names are listed one after another.
use Rattle.std.proofs.Common.{◌≡◌, ℕ, ◌+◌, List, [], ◌∷◌, ◌++◌, map, Option, Some, None, refl, sym, ap, subst, ◌∙◌}
use Rattle.std.proofs.lemmas.List.{append-nil, append_assoc}
use Rattle.bicep_names.specs.Scope.{OutputNames}
use Rattle.bicep_symbols.specs.Repeated.{IsTwice}
use Rattle.bicep_symbols.specs.declared.fault.NameFault.{NameFault}
use Rattle.bicep_symbols.specs.declared.fault.NameFault.TheVariants as name
use Rattle.bicep_program.specs.Program.{ProgramFile}
use Rattle.resolved_program.specs.Programs.{NamedTree, file_named, output_names}
use Rattle.resolved_program.specs.Faults.{first_from, first_in, numbered, twice_of, twice_at, IsTwiceIn}

-- the names of these files are listed, and the rest decides
pub record IsListed (files rest : List ProgramFile) (k : ℕ) (ns : List NamedTree) (os : List OutputNames)
    : Type 0 where
  pub named : ns ++ map file_named rest ≡ map file_named files
  pub outputs : os ++ map output_names rest ≡ map output_names files
  pub decides : first_in twice_of files ≡ first_from twice_of k rest

-- one file more
pub more : (files rest : List ProgramFile) (file : ProgramFile) (k : ℕ) (ns new : List NamedTree)
    (os held : List OutputNames) → IsListed files (file ∷ rest) k ns os → twice_of file ≡ None
    → new ≡ ns ++ file_named file ∷ [] → held ≡ os ++ output_names file ∷ [] → IsListed files rest (k + 1) new held
more files rest file k ns new os held h t n o = record {
  named =
      ap (λ xs. xs ++ map file_named rest) n ∙ append_assoc ns (file_named file ∷ []) (map file_named rest) ∙ h.named;
  outputs =
      ap (λ xs. xs ++ map output_names rest) o ∙ append_assoc os (output_names file ∷ []) (map output_names rest)
      ∙ h.outputs;
  decides = h.decides ∙ ap (λ x. numbered k x (first_from twice_of (k + 1) rest)) t;
}

-- a file in which a name is given twice
pub lost : (files rest : List ProgramFile) (file : ProgramFile) (k : ℕ) (ns : List NamedTree)
    (os : List OutputNames) (x : NameFault) → IsListed files (file ∷ rest) k ns os → IsTwice (twice_of file) x
    → IsTwiceIn files (twice_at k x)
lost files rest file k ns os (name.Twice at) h t =
    h.decides ∙ ap (λ x. numbered k x (first_from twice_of (k + 1) rest)) t
lost files rest file k ns os name.OutOfMemory h t = tt

-- after the last
pub all_named : (files : List ProgramFile) (k : ℕ) (ns : List NamedTree) (os : List OutputNames)
    → IsListed files [] k ns os → ns ≡ map file_named files
all_named files k ns os h = sym (append-nil ns) ∙ h.named

pub all_outputs : (files : List ProgramFile) (k : ℕ) (ns : List NamedTree) (os : List OutputNames)
    → IsListed files [] k ns os → os ≡ map output_names files
all_outputs files k ns os h = sym (append-nil os) ∙ h.outputs

pub none_twice : (files : List ProgramFile) (k : ℕ) (ns : List NamedTree) (os : List OutputNames)
    → IsListed files [] k ns os → first_in twice_of files ≡ None
none_twice files k ns os h = h.decides

pub at_rest : (files rest left : List ProgramFile) (k : ℕ) (ns : List NamedTree) (os : List OutputNames)
    → IsListed files rest k ns os → rest ≡ left → IsListed files left k ns os
at_rest files rest left k ns os h e = subst (λ r. IsListed files r k ns os) e h

-- before the first
pub begun : (files : List ProgramFile) (ns : List NamedTree) (os : List OutputNames) → ns ≡ [] → os ≡ []
    → IsListed files files 0 ns os
begun files ns os n o = record {
  named = ap (λ xs. xs ++ map file_named files) n;
  outputs = ap (λ xs. xs ++ map output_names files) o;
  decides = refl;
}
