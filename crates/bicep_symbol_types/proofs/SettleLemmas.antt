-- Where the symbols have an order, their types are settled, and there are no others.
use Rattle.std.proofs.Common.{◌≡◌, ◌<◌, ◌≤◌, ◌⊎◌, inl, inr, ℕ, zero, suc, List, [], ◌∷◌, ◌++◌, length, get_or}
use Rattle.std.proofs.Common.{refl, sym, ap, subst, ◌∙◌, arith}
use Rattle.std.specs.Prelude.{Option, Some, None, slice_get, Contains}
use Rattle.std.proofs.lemmas.Option.{none-some, same_Some}
use Rattle.std.proofs.lemmas.Bool.{cases_lt}
use Rattle.std.proofs.lemmas.List.{length-map}
use Rattle.bicep_names.specs.declared.kind.Kind.{Kind}
use Rattle.bicep_program.specs.Circles.{Links}
use Rattle.bicep_declared.specs.Declarations.{DeclaredTree}
use Rattle.bicep_circles.specs.Mentions.{declared_mentions}
use Rattle.bicep_circles.specs.Links.{parent_mentions, links}
use Rattle.bicep_circles.specs.Orders.{IsLinkOrder}
use Rattle.bicep_signatures.specs.declared.value_type.ValueType.{ValueType}
use Rattle.bicep_typing.specs.Names.{known}
use Rattle.bicep_symbol_types.specs.SymbolTypes.{symbol_type, with_outputs, type_step, AreTypes, types_within}
use Rattle.bicep_symbol_types.specs.SymbolTypes.{symbol_types}
use Rattle.bicep_symbol_types.specs.Along.{type_by}
use Rattle.bicep_symbol_types.proofs.AgreeLemmas.{AgreeAt, Agree, same_symbol}
use Rattle.bicep_symbol_types.proofs.ListLemmas.{known_past, same_lists, step_at}
use Rattle.foundation.proofs.Lists.{contained_further}

-- ---- lists

contains_first : (ms ns : List ℕ) (y : ℕ) → Contains ms y → Contains (ms ++ ns) y
contains_first [] ns y (k, within, here) = absurd (omega (arith, within))
contains_first (x ∷ ms) ns y (zero, within, here) = (zero, omega arith, here)
contains_first (x ∷ ms) ns y (suc k, within, here) =
    contained_further x (ms ++ ns) y (contains_first ms ns y (k, omega (arith, within), here))

agree_of : (os : List (List ValueType)) (xs ys : List ValueType) (ms : List ℕ)
    → ((m : ℕ) → Contains ms m → AgreeAt xs ys m) → Agree os xs ys ms
agree_of os xs ys [] f = tt
agree_of os xs ys (m ∷ ms) f =
    (f m (zero, omega arith, refl), agree_of os xs ys ms (λ y c. f y (contained_further m ms y c)))

-- ---- links

pub length-links : (ks : List Kind) (ds : List DeclaredTree) → length ks ≡ length ds → length (links ks ds) ≡ length ds
length-links [] [] e = refl
length-links [] (d ∷ ds) e = absurd (omega (arith, e))
length-links (k ∷ ks) [] e = absurd (omega (arith, e))
length-links (k ∷ ks) (d ∷ ds) e = ap suc (length-links ks ds (omega (arith, e)))

-- what a declaration mentions, its symbol leads to
leads : (ks : List Kind) (ds : List DeclaredTree) → length ks ≡ length ds → (n : ℕ) (d : DeclaredTree)
    → slice_get ds n ≡ Some d → (m : ℕ) → Contains (declared_mentions d) m → Links (links ks ds) n m
leads [] [] e n d is m c = absurd (none-some d is)
leads [] (x ∷ ds) e n d is m c = absurd (omega (arith, e))
leads (k ∷ ks) [] e n d is m c = absurd (omega (arith, e))
leads (k ∷ ks) (x ∷ ds) e zero d is m c =
    contains_first (declared_mentions x) (parent_mentions k) m
    (subst (λ y. Contains (declared_mentions y) m) (sym (same_Some x d is)) c)
leads (k ∷ ks) (x ∷ ds) e (suc n) d is m c = leads ks ds (omega (arith, e)) n d is m c

few_within : (os : List (List ValueType)) (ds : List DeclaredTree) (k : ℕ)
    → length (types_within os ds k) ≤ length ds
unfolding types_within
few_within os ds zero = omega arith
few_within os ds (suc k) =
    let e = length-map ds (symbol_type (with_outputs os (types_within os ds k))) in omega (arith, e)

all_within : (os : List (List ValueType)) (ds : List DeclaredTree) (k : ℕ) → k ≡ length ds
    → length (types_within os ds k) ≡ length ds
unfolding types_within
all_within os ds zero e = e
all_within os ds (suc k) e = length-map ds (symbol_type (with_outputs os (types_within os ds k)))

module _ (os : List (List ValueType)) (ks : List Kind) (ds : List DeclaredTree) (order : List ℕ)
    (many : length ks ≡ length ds) (o : IsLinkOrder (links ks ds) order) where
  mention : (xs ys : List ValueType) → length xs ≤ length ds → length ys ≤ length ds → (j : ℕ) → j < length order
      → ((i : ℕ) → i < j → AgreeAt xs ys (get_or order i 0))
      → (m : ℕ) → Links (links ks ds) (get_or order j 0) m → (m < length (links ks ds)) ⊎ (length (links ks ds) ≤ m)
      → AgreeAt xs ys m
  mention xs ys p q j h before m c (inl here) =
      let among = o.in_turn j m h c here in subst (AgreeAt xs ys) among.2 (before among.0 among.1)
  mention xs ys p q j h before m c (inr far) =
      let size = length-links ks ds many in
      known_past xs m (omega (arith, p, far, size)) ∙ sym (known_past ys m (omega (arith, q, far, size)))

  same_by : (xs ys : List ValueType) → length xs ≤ length ds → length ys ≤ length ds → (j : ℕ) → j < length order
      → ((i : ℕ) → i < j → AgreeAt xs ys (get_or order i 0))
      → (x : Option DeclaredTree) → slice_get ds (get_or order j 0) ≡ x → type_by os xs x ≡ type_by os ys x
  same_by xs ys p q j h before None is = refl
  same_by xs ys p q j h before (Some d) is =
      same_symbol os xs ys d
      (agree_of os xs ys (declared_mentions d)
      (λ m c. mention xs ys p q j h before m (leads ks ds many (get_or order j 0) d is m c)
      (cases_lt m (length (links ks ds)))))

  -- what agrees on the symbols before one in the order gives it the same type
  pub same_next : (xs ys : List ValueType) → length xs ≤ length ds → length ys ≤ length ds
      → (j : ℕ) → j < length order → ((i : ℕ) → i < j → AgreeAt xs ys (get_or order i 0))
      → type_by os xs (slice_get ds (get_or order j 0)) ≡ type_by os ys (slice_get ds (get_or order j 0))
  same_next xs ys p q j h before = same_by xs ys p q j h before (slice_get ds (get_or order j 0)) refl

  -- two runs of steps agree on as many symbols of the order as there are steps
  module _ (Y Z : ℕ → List ValueType) (few_Y : (k : ℕ) → length (Y k) ≤ length ds)
      (few_Z : (k : ℕ) → length (Z k) ≤ length ds) (step_Y : (k : ℕ) → Y (suc k) ≡ type_step os ds (Y k))
      (step_Z : (k : ℕ) → Z (suc k) ≡ type_step os ds (Z k)) where
    run : (k j : ℕ) → j < k → j < length order → AgreeAt (Y k) (Z k) (get_or order j 0)
    run zero j h w = absurd (omega (arith, h))
    run (suc k) j h w =
        ap (λ xs. known (slice_get xs (get_or order j 0))) (step_Y k)
        ∙ step_at os ds (Y k) (get_or order j 0)
        ∙ same_next (Y k) (Z k) (few_Y k) (few_Z k) j w
        (λ i l. run k i (omega (arith, h, l)) (omega (arith, w, l)))
        ∙ sym (step_at os ds (Z k) (get_or order j 0))
        ∙ sym (ap (λ xs. known (slice_get xs (get_or order j 0))) (step_Z k))

    pub run_all : (n : ℕ) → n < length ds → AgreeAt (Y (length ds)) (Z (length ds)) n
    run_all n h =
        let size = length-links ks ds many in
        let among = o.all n (omega (arith, h, size)) in
        let within = among.1 in
        let few = o.counted in
        subst (AgreeAt (Y (length ds)) (Z (length ds))) among.2
        (run (length ds) among.0 (omega (arith, within, few, size)) within)

  -- the types of symbols are those that the declarations say
  pub are_settled : AreTypes os ds (symbol_types os ds)
  unfolding types_within
  are_settled =
      same_lists (type_step os ds (symbol_types os ds)) (symbol_types os ds)
      (length-map ds (symbol_type (with_outputs os (symbol_types os ds))) ∙ sym (all_within os ds (length ds) refl))
      (λ n h. let size = length-map ds (symbol_type (with_outputs os (symbol_types os ds))) in
      run_all (λ k. types_within os ds (suc k)) (λ k. types_within os ds k) (λ k. few_within os ds (suc k))
      (λ k. few_within os ds k) (λ k. refl) (λ k. refl) n (omega (arith, h, size)))

  -- and no others are
  pub are_only : (xs : List ValueType) → AreTypes os ds xs → xs ≡ symbol_types os ds
  unfolding types_within
  are_only xs e =
      let size : length xs ≡ length ds =
      sym (ap length e) ∙ length-map ds (symbol_type (with_outputs os xs)) in
      same_lists xs (symbol_types os ds) (size ∙ sym (all_within os ds (length ds) refl))
      (λ n h. run_all (λ k. xs) (λ k. types_within os ds k) (λ k. omega (arith, size)) (λ k. few_within os ds k)
      (λ k. sym e) (λ k. refl) n (omega (arith, h, size)))
