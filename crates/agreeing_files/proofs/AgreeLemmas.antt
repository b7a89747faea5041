-- Files that agree.
use Rattle.std.proofs.Common.{◌≡◌, ℕ, List, length, ap, ◌∙◌, subst}
use Rattle.bicep_resolved.specs.Source.{SourceTree}
use Rattle.bicep_resolved.specs.Target.{number_of, target_of}
use Rattle.bicep_meaning.specs.Files.{SourceFile, type_of}
use Rattle.bicep_emission.specs.Emitted.{Frame, Scope, emitted}
use Rattle.declaration_laws.specs.Sound.{IsSound, IsResourceType}
use Rattle.emitted_declarations.specs.ChildTypes.{IsChildType}
use Rattle.emitted_declarations.specs.Declared.{whole}
use Rattle.agreeing_files.specs.Agreeing.{Agree, outputs_of}
use Rattle.agreeing_files.proofs.TypeLemmas.{other, type_same}
use Rattle.agreeing_files.proofs.EmittedLemmas.{emitted_same}
use Rattle.agreeing_files.proofs.DeclaredLemmas.{through_same}

module _ (f g : SourceFile) (a : Agree f g) where
  -- the first, with what the second has that emission does not look at
  abbrev between : SourceFile
  between = other f g

  is_second : between ≡ g
  is_second =
      let s = a.symbols in
      let d = a.declared in
      λ i. record {
        symbols = s i;
        declared = d i;
        outputs = g.outputs;
        modules = g.modules;
        has_entry = λ n. a.has_entry n i;
        accepts = g.accepts;
        batches = g.batches;
      }

  pub types : (n : ℕ) → type_of f n ≡ type_of g n
  types n = type_same f g n ∙ ap (λ h. type_of h n) is_second

  module _ (fs gs : List SourceFile) (same : outputs_of fs ≡ outputs_of gs) where
    pub become : whole f fs ≡ whole g gs
    become = through_same f g fs gs same (length f.symbols) ∙ ap (λ h. whole h gs) is_second

    pub expressions : (sc : Scope) (e : SourceTree) (ts : List Frame) → emitted f fs sc e ts ≡ emitted g gs sc e ts
    expressions sc e ts = emitted_same f g fs gs same sc e ts ∙ ap (λ h. emitted h gs sc e ts) is_second

  between_sound : IsSound f → IsSound between
  between_sound s =
      let t : (n : ℕ) → type_of f n ≡ type_of between n = type_same f g in
      record {
        variables = s.variables;
        names = s.names;
        loops = s.loops;
        conditions = s.conditions;
        parents = s.parents;
        types = λ n at q existing b e. subst (λ k. IsResourceType k.kind) (t n) (s.types n at q existing b e);
        types_inside = λ n m e. subst (λ k. IsChildType k.kind (type_of between m).kind) (t n)
            (subst (λ k. IsChildType (type_of f n).kind k.kind) (t m) (s.types_inside n m e));
        types_below = λ n r e. subst (λ k. IsChildType k.kind (type_of between (number_of (target_of r))).kind) (t n)
            (subst (λ k. IsChildType (type_of f n).kind k.kind) (t (number_of (target_of r))) (s.types_below n r e));
      }

  pub sound : IsSound f → IsSound g
  sound s = subst IsSound is_second (between_sound s)
