-- A table that is filled in an order of the symbols says what is known of them.
use Rattle.std.proofs.Common.{◌≡◌, ◌<◌, ◌≤◌, ◌+◌, ℕ, zero, suc, Bool, false, List, [], ◌∷◌, length, map, get_or}
use Rattle.std.proofs.Common.{Some, refl, sym, ap, ◌∙◌, arith}
use Rattle.std.specs.Prelude.{replicate}
use Rattle.std.proofs.Math.ListN.{set}
use Rattle.std.proofs.lemmas.Grind.{get_or-set_at}
use Rattle.std.proofs.lemmas.List.{get_or-set_other, length-set}
use Rattle.depend_graph.proofs.Keeping.{get_or-replicate, length-replicate}
use Rattle.bicep_names.specs.declared.kind.Kind.{Kind}
use Rattle.bicep_declared.specs.Declarations.{DeclaredTree}
use Rattle.bicep_mentions.specs.Links.{links}
use Rattle.bicep_mentions.specs.Orders.{IsLinkOrder}
use Rattle.bicep_mentions.proofs.FillLemmas as fill
use Rattle.bicep_mentions.specs.States.{StateReads}
use Rattle.bicep_mentions.specs.Names.{own_reads, whole_reads}
use Rattle.bicep_mentions.specs.Agreement.{AgreeAt, IsKnown}
use Rattle.bicep_mentions.specs.Entries.{declaration_at, own_by, whole_by, state_reads}
use Rattle.bicep_mentions.proofs.RankLemmas.{none_beyond, beyond, step_agrees}
use Rattle.bicep_mentions.proofs.OrderLemmas.{states_settle, has_place}
use Rattle.bicep_states.specs.View.{reads_in}

-- ---- declarations

module _ {A B : Type 0} (f : A → Kind) (g : B → DeclaredTree) where
  -- the declaration of a number, by the lists
  pub declaration_is : (es : List A) (bs : List B) (n : ℕ) (a : A) (b : B) → n < length es → n < length bs
      → a ≡ get_or es n a → b ≡ get_or bs n b → declaration_at (map f es) (map g bs) n ≡ Some (f a, g b)
  declaration_is [] bs n a b h k p q = absurd (omega (arith, h))
  declaration_is (x ∷ es) [] n a b h k p q = absurd (omega (arith, k))
  declaration_is (x ∷ es) (y ∷ bs) zero a b h k p q =
      ap (λ z. Some (f z, g y)) (sym p) ∙ ap (λ z. Some (f a, g z)) (sym q)
  declaration_is (x ∷ es) (y ∷ bs) (suc n) a b h k p q =
      declaration_is es bs n a b (omega (arith, h)) (omega (arith, k)) p q

  -- the number of a symbol is within both lists
  pub within_both : (es : List A) (bs : List B) (n : ℕ) → n < length (links (map f es) (map g bs))
      → (n < length es) × (n < length bs)
  within_both [] bs n h = absurd (omega (arith, h))
  within_both (x ∷ es) [] n h = absurd (omega (arith, h))
  within_both (x ∷ es) (y ∷ bs) zero h = (omega arith, omega arith)
  within_both (x ∷ es) (y ∷ bs) (suc n) h =
      let both = within_both es bs n (omega (arith, h)) in
      let first = both.0 in
      let second = both.1 in
      (omega (arith, first), omega (arith, second))

-- ---- tables

-- what is said of a symbol is right
abbrev IsRight : List Kind → List DeclaredTree → StateReads → ℕ → Type 0
IsRight xs ds r n = AgreeAt r (state_reads xs ds) n

-- the table has a place for each declaration, and is right of the first symbols of the order
pub record IsFilled (xs : List Kind) (ds : List DeclaredTree) (order : List ℕ) (own whole : List Bool) (i : ℕ)
    : Type 0 where
  pub own_size : length own ≡ length ds
  pub whole_size : length whole ≡ length ds
  pub right : fill.IsFilled (links xs ds) order StateReads (IsRight xs ds) (reads_in own whole) i

module _ (xs : List Kind) (ds : List DeclaredTree) (order : List ℕ) where
  -- an empty table
  pub filled_begun : (own whole : List Bool) → own ≡ replicate (length ds) false → whole ≡ replicate (length ds) false
      → IsFilled xs ds order own whole 0
  filled_begun own whole e f = record {
    own_size = ap length e ∙ length-replicate (length ds) false;
    whole_size = ap length f ∙ length-replicate (length ds) false;
    right = record { far = far; same = λ j h. absurd (omega (arith, h)) };
  }
    where
      far : (m : ℕ) → length (links xs ds) ≤ m → IsRight xs ds (reads_in own whole) m
      far m h =
          let none = beyond xs ds (length ds) m (none_beyond xs ds m h) in (
            ap (λ bs. get_or bs m false) e ∙ get_or-replicate (length ds) m false ∙ sym none.0,
            ap (λ bs. get_or bs m false) f ∙ get_or-replicate (length ds) m false ∙ sym none.1,
          )

  module _ (o : IsLinkOrder (links xs ds) order) where
    -- what the declaration of the next symbol says is right
    next_right : (own whole : List Bool) (i : ℕ) (x : Kind) (d : DeclaredTree) → i < length order
        → IsFilled xs ds order own whole i → declaration_at xs ds (get_or order i 0) ≡ Some (x, d)
        → (own_reads (reads_in own whole) d ≡ (state_reads xs ds).own (get_or order i 0))
        × (whole_reads (reads_in own whole) x d ≡ (state_reads xs ds).whole (get_or order i 0))
    next_right own whole i x d h f e =
        let n = get_or order i 0 in
        let settled = states_settle xs ds order o n in
        let here = step_agrees xs ds (reads_in own whole) (state_reads xs ds) n (Some (x, d)) e
        (λ m c.
        fill.known_before (links xs ds) order o StateReads (IsRight xs ds) (reads_in own whole) i m h f.right c) in (
          here.0 ∙ sym (settled.0 ∙ ap (own_by (state_reads xs ds)) e),
          here.1 ∙ sym (settled.1 ∙ ap (whole_by (state_reads xs ds)) e),
        )

    -- one symbol more
    pub filled_after : (own whole own2 whole2 : List Bool) (i : ℕ) (a b : Bool) (x : Kind) (d : DeclaredTree)
        → i < length order → IsFilled xs ds order own whole i
        → declaration_at xs ds (get_or order i 0) ≡ Some (x, d) → a ≡ own_reads (reads_in own whole) d
        → b ≡ whole_reads (reads_in own whole) x d → own2 ≡ set own (get_or order i 0) a
        → whole2 ≡ set whole (get_or order i 0) b → IsFilled xs ds order own2 whole2 (i + 1)
    filled_after own whole own2 whole2 i a b x d h f at e g first second = record {
      own_size = ap length first ∙ length-set own (get_or order i 0) a ∙ f.own_size;
      whole_size = ap length second ∙ length-set whole (get_or order i 0) b ∙ f.whole_size;
      right =
          fill.filled_next (links xs ds) order o StateReads (IsRight xs ds) (reads_in own whole)
          (reads_in own2 whole2) i h f.right here others;
    }
      where
        here : IsRight xs ds (reads_in own2 whole2) (get_or order i 0)
        here =
            let right = next_right own whole i x d h f at in (
              ap (λ bs. get_or bs (get_or order i 0) false) first
                  ∙ get_or-set_at own (get_or order i 0) (get_or order i 0) a false refl
                  (has_place xs ds order o i (length own) h f.own_size)
                  ∙ e ∙ right.0,
              ap (λ bs. get_or bs (get_or order i 0) false) second
                  ∙ get_or-set_at whole (get_or order i 0) (get_or order i 0) b false refl
                  (has_place xs ds order o i (length whole) h f.whole_size) ∙ g ∙ right.1,
            )

        others : (m : ℕ) → (m ≡ get_or order i 0 → ⊥) → IsRight xs ds (reads_in own whole) m
            → IsRight xs ds (reads_in own2 whole2) m
        others m ne old = (
          ap (λ bs. get_or bs m false) first ∙ get_or-set_other own (get_or order i 0) m a false ne ∙ old.0,
          ap (λ bs. get_or bs m false) second ∙ get_or-set_other whole (get_or order i 0) m b false ne ∙ old.1,
        )

    -- all symbols are filled
    pub filled_all : (own whole : List Bool) (i : ℕ) → length order ≤ i → IsFilled xs ds order own whole i
        → IsKnown (reads_in own whole) (state_reads xs ds)
    filled_all own whole i h f n =
        fill.filled_all (links xs ds) order o StateReads (IsRight xs ds) (reads_in own whole) i h f.right n
