-- A table that is filled in an order.
use Rattle.std.proofs.Common.{◌≡◌, ◌<◌, ◌∙◌, ℕ, suc, List, [], ◌∷◌, length, map, true, refl, sym}
use Rattle.std.proofs.Common.{subst, ap, arith, get_or}
use Rattle.depend_graph.specs.Orders.{IsAmong}
use Rattle.resolved_program.specs.declared.resolved.ResolvedFile.{ResolvedFile}
use Rattle.bicep_names.specs.declared.kind.Kind.{Kind}
use Rattle.bicep_symbols.specs.Entries.{symbol_of}
use Rattle.bicep_declared.specs.Declarations.{DeclaredTree}
use Rattle.bicep_circles.specs.Links.{links}
use Rattle.bicep_symbols.specs.declared.entry.Entry.{Entry}
use Rattle.bicep_emission.specs.Emitted.{Frame}
use Rattle.declaration_laws.specs.Sound.{IsSound}
use Rattle.emitted_declarations.specs.Declared.{next, whole}
use Rattle.emission_laws.specs.Holes.{IsRun}
use Rattle.emission_laws.specs.Same.{SameEmission}
use Rattle.declared_table.specs.Known.{known, known_full_name, known_condition}
use Rattle.declared_table.specs.Orders.{IsPaired, IsOrderOf, kinds}
use Rattle.declared_table.proofs.TurnLemmas.{earlier_suffice, every_known, heads_known}
use Rattle.declared_table.specs.Seen.{Shape, file_of, files_of, file_in, files_in, is_known, whole_in, emission_in, sight, whole_sight, full_name_in, condition_in}
use Rattle.declared_table.specs.declared.mark.Mark.{Mark}

links_length : (xs : List Kind) (ds : List DeclaredTree) → length xs ≡ length ds → length (links xs ds) ≡ length xs
links_length [] ds e = refl
links_length (x ∷ xs) [] e = absurd (omega (arith, e))
links_length (x ∷ xs) (d ∷ ds) e = ap suc (links_length xs ds (omega (arith, e)))

kinds_length : (xs : List (ℕ × List ℕ × Kind)) → length (map (λ x. x.2) xs) ≡ length xs
kinds_length [] = refl
kinds_length (x ∷ xs) = ap suc (kinds_length xs)

-- the file, the files of the program, and the marks of the symbols
abbrev Given : Type 0
Given = (ResolvedFile × List ResolvedFile) × List Mark

module _ (r : ResolvedFile) (rs : List ResolvedFile) (marks : List Mark) (order : List ℕ)
    (paired : IsPaired (file_of r marks)) (o : IsOrderOf (file_of r marks) order) (sound : IsSound (file_of r marks))
    (s : Shape) (files : s.0 ≡ (r, rs)) (entries : s.1.0 ≡ marks) where
  given : ◌≡◌ {A = Given} ((r, rs), marks) (s.0, s.1.0)
  given = λ i. (sym files i, sym entries i)

  pub sound_in : IsSound (file_in s)
  sound_in = subst (λ (x : Given). IsSound (file_of x.0.0 x.1)) given sound

  pub same_at : (i n : ℕ) → i < length order → get_or order i 0 ≡ n
      → ((m : ℕ) → IsAmong order i m → is_known s m ≡ true)
      → SameEmission (next (file_in s) (files_in s) (emission_in s)) (whole_in s) n
  same_at i n h at before =
      subst (λ k. SameEmission (next (file_in s) (files_in s) (emission_in s)) (whole_in s) k) at
      (subst (λ (x : Given). SameEmission
      (next (file_of x.0.0 x.1) (files_of x.0.1) (known (is_known s) (whole (file_of x.0.0 x.1) (files_of x.0.1))))
      (whole (file_of x.0.0 x.1) (files_of x.0.1)) (get_or order i 0)) given
      (earlier_suffice (file_of r marks) (files_of rs) order paired o (is_known s) sound i h before))

  pub node_there : (i n : ℕ) → i < length order → get_or order i 0 ≡ n → n < length r.entries.items
  node_there i n h at =
      let within = o.nodes i h in
      let all = links_length (kinds (file_of r marks)) (file_of r marks).declared.declarations
      (kinds_length (file_of r marks).symbols ∙ paired) in
      let each = kinds_length (file_of r marks).symbols in
      let named = map_length r.entries.items in
      omega (arith, within, all, each, named, at)
    where
      map_length : (es : List Entry) → length (map symbol_of es) ≡ length es
      map_length [] = refl
      map_length (e ∷ es) = ap suc (map_length es)

  module _ (all : (m : ℕ) → IsAmong order (length order) m → is_known s m ≡ true) where
    pub sight_is : sight s ≡ whole_sight (file_of r marks) (files_of rs)
    sight_is =
        (λ i. record {
          file = file_of (sym given i).0.0 (sym given i).1;
          files = files_of (sym given i).0.1;
          scope = (known (is_known s) (whole (file_of (sym given i).0.0 (sym given i).1)
              (files_of (sym given i).0.1))).scope;
        })
        ∙ (λ i. record {
          file = file_of r marks;
          files = files_of rs;
          scope = every_known (file_of r marks) (files_of rs) order paired o (is_known s) all i;
        })

    pub heads_are : (n : ℕ) (fs : List Frame) → IsRun fs
        → (full_name_in s n fs ≡ (whole (file_of r marks) (files_of rs)).full_name n fs)
        × (condition_in s n fs ≡ (whole (file_of r marks) (files_of rs)).condition n fs)
    heads_are n fs run =
        subst (λ (x : Given).
        (known_full_name (is_known s) (whole (file_of x.0.0 x.1) (files_of x.0.1)) n fs
        ≡ (whole (file_of r marks) (files_of rs)).full_name n fs)
        × (known_condition (is_known s) (whole (file_of x.0.0 x.1) (files_of x.0.1)) n fs
        ≡ (whole (file_of r marks) (files_of rs)).condition n fs)) given
        (heads_known (file_of r marks) (files_of rs) order paired o (is_known s) sound all n fs run)
