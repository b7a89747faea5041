-- The symbolic names of a template are in order.
use Rattle.std.proofs.Common.{◌≡◌, ℕ, Bool, true, false, List, [], ◌∷◌, length, Option, Some, None}
use Rattle.std.proofs.Common.{refl, sym, ap, subst, bytes_eq}
use Rattle.std.proofs.lemmas.Slice.Eq.{bytes_eq-Decides}
use Rattle.std.specs.List.Sorted.{IsStrictlySortedBy}
use Rattle.std.specs.Ordering.{match_ordering}
use Rattle.std.specs.Prelude.{is_some, option_and_then, if◌then◌else◌}
use Rattle.arm_value.specs.Json.{key_cmp}
use Rattle.arm_value.specs.Look.{fold}
use Rattle.template_parts.specs.declared.mode.Form.TheVariants.{Two}
use Rattle.bicep_declared.specs.Declarations.{DeclaredTree}
use Rattle.bicep_meaning.specs.Declared.{body_of}
use Rattle.bicep_meaning.specs.Files.{SourceFile, declaration, symbol_name}
use Rattle.ordered_emissions.specs.Orders.{IsPaired}
use Rattle.source_worlds.specs.Numbers.{passing, is_resource, name_of, by_name, in_template}
use Rattle.source_worlds.specs.Numbers as worlds
use Rattle.source_worlds.proofs.ListLemmas.{NotIn, AllDiffer, passing_differ}
use Rattle.named_parts.specs.Found.{found}
use Rattle.named_parts.specs.Order.{AreInOrder, inserted}
use Rattle.named_parts.proofs.OrderLemmas.{in_order}
use Rattle.counted_templates.specs.Found.{Differ}
use Rattle.counted_templates.specs.Lists.{symbol_text}
use Rattle.counted_templates.proofs.EachLemmas.{EachIs, passing_each, by_name_each}
use Rattle.counted_templates.proofs.NameLemmas.{named}

module _ (f : SourceFile) where
  same_by : (n m : ℕ) (ms : List ℕ) → worlds.inserted f n ms ≡ inserted (name_of f) n ms
      → worlds.inserted f n (m ∷ ms) ≡ inserted (name_of f) n (m ∷ ms)
  same_by n m ms r =
      ap (λ xs. match_ordering (key_cmp (name_of f n) (name_of f m)) (n ∷ m ∷ ms) (n ∷ m ∷ ms) (m ∷ xs)) r

  same_inserted : (n : ℕ) (ms : List ℕ) → worlds.inserted f n ms ≡ inserted (name_of f) n ms
  same_inserted n [] = refl
  same_inserted n (m ∷ ms) = same_by n m ms (same_inserted n ms)

  -- a number of a symbol
  abbrev pub IsNamed : ℕ → Type 0
  IsNamed n = symbol_name f n ≡ Some (name_of f n)

  abbrev Other : ℕ → ℕ → Type 0
  Other n m = n ≡ m → ⊥

  each_other : (n : ℕ) (ms : List ℕ) → NotIn n ms → EachIs (Other n) ms
  each_other n [] d = tt
  each_other n (m ∷ ms) d = (d.0, each_other n ms d.1)

  module _ (differ : Differ symbol_text f.symbols) where
    not_found : (n : ℕ) (ms : List ℕ) → IsNamed n → EachIs IsNamed ms → EachIs (Other n) ms
        → found (name_of f) (fold (name_of f n)) ms ≡ None
    not_found n [] h g d = refl
    not_found n (m ∷ ms) h g d =
        by_test (bytes_eq (fold (name_of f n)) (fold (name_of f m))) refl (not_found n ms h g.1 d.1)
      where
        by_test : (b : Bool) → bytes_eq (fold (name_of f n)) (fold (name_of f m)) ≡ b
            → found (name_of f) (fold (name_of f n)) ms ≡ None
            → (if b then Some m else found (name_of f) (fold (name_of f n)) ms) ≡ None
        by_test true e r =
            absurd (d.0 (differ n m (name_of f n) (name_of f m) h g.0
            ((bytes_eq-Decides (fold (name_of f n)) (fold (name_of f m))).0 e)))
        by_test false e r = r

    sorted : (ns : List ℕ) → EachIs IsNamed ns → AllDiffer ns → AreInOrder (name_of f) (by_name f ns)
    unfolding IsStrictlySortedBy
    sorted [] h d = tt
    sorted (n ∷ ns) h d =
        subst (AreInOrder (name_of f)) (sym (same_inserted n (by_name f ns)))
        (in_order (name_of f) n (by_name f ns) (sorted ns h.1 d.1)
        (not_found n (by_name f ns) h.0 (by_name_each IsNamed f ns h.1)
        (by_name_each (Other n) f ns (each_other n ns d.0))))

    -- the names of all resources of the file
    pub names_in_order : IsPaired f → AreInOrder (name_of f) (in_template Two f)
    names_in_order paired =
        let ns = passing (is_resource f) 0 (length f.declared.declarations) in
        sorted ns
        (passing_each IsNamed (is_resource f) (λ n e. named_by n (declaration f n) refl e) 0
        (length f.declared.declarations)) (passing_differ (is_resource f) 0 (length f.declared.declarations))
      where
        named_by : (n : ℕ) (o : Option DeclaredTree) → declaration f n ≡ o
            → is_some (option_and_then body_of o) ≡ true → IsNamed n
        named_by n None e h = absurd cc
        named_by n (Some d) e h = named f paired n d e
