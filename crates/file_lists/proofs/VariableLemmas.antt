-- Variables whose values no loop gives, and then those that loops give.
use Rattle.std.proofs.Common.{◌≡◌, ◌≤◌, ◌+◌, ℕ, zero, suc, Bool, true, false, List, [], ◌∷◌, ◌++◌, length, take, drop}
use Rattle.std.proofs.Common.{Option, Some, None, Ordering, Less, Equal, Greater, refl, sym, ap, ap₂, ◌∙◌, subst}
use Rattle.std.proofs.Common.{arith, bytes_eq, length-append}
use Rattle.std.proofs.lemmas.List.{append-nil, append_assoc, take-append-drop}
use Rattle.std.specs.Prelude.{if◌then◌else◌}
use Rattle.std.specs.Ordering.{match_ordering}
use Rattle.std.proofs.lemmas.Option.{slice_get_past}
use Rattle.arm_value.specs.Json.{key_cmp}
use Rattle.arm_value.specs.Look.{fold}
use Rattle.template_parts.specs.declared.variable.Variable.{Variable}
use Rattle.plan_cells.specs.Sites.{first_with}
use Rattle.bicep_meaning.specs.Files.{symbol_name}
use Rattle.bicep_meaning.specs.Instances.{variable_by}
use Rattle.emitted_values.specs.Files.{IsVariable}
use Rattle.emitted_values.specs.Seen.{Shape, file_in, files_in}
use Rattle.named_parts.specs.Found.{found, HasOneMore}
use Rattle.named_parts.specs.Order.{AreInOrder, place_of, inserted}
use Rattle.named_parts.proofs.FoundLemmas.{one_between}
use Rattle.named_parts.proofs.OrderLemmas.{is_inserted, in_order}
use Rattle.file_lists.specs.Found.{AreOfFirst, IsPart, declared_before}
use Rattle.file_lists.specs.Lists.{symbol_text, variable_name, is_loop, AllLoop, AreDivided, IsDivided, AreGrown}
use Rattle.file_lists.specs.Lists.{entry_at, variable_count}
use Rattle.file_lists.specs.Lists.{IsNextVariable, AreVariables, SymbolsDiffer}
use Rattle.file_lists.proofs.FirstLemmas.{none_in_order, begin, next_first, next_fresh, all_first}
use Rattle.file_lists.proofs.SizeLemmas.{none_yet, size_inserted, is_declared, not_more, one_more_at, at_most}

-- ---- one variable more

front_by : {A : Type 0} (b : Bool) (x : A) (o p : Option A) → (if b then Some x else o) ≡ None → (o ≡ None → p ≡ None)
    → (if b then Some x else p) ≡ None
front_by true x o p e h = absurd cc
front_by false x o p e h = h e

-- where none of two lists passes, none of the first does
front : {A : Type 0} (test : A → Bool) (xs zs : List A) → first_with test (xs ++ zs) ≡ None → first_with test xs ≡ None
front test [] zs e = refl
front test (x ∷ xs) zs e = front_by (test x) x (first_with test (xs ++ zs)) (first_with test xs) e (front test xs zs)

-- the first list has one more in its place
one_in_front : {A : Type 0} (name : A → List ℕ) (a : A) (xs zs : List A)
    → HasOneMore a (xs ++ zs) (inserted name a xs ++ zs)
one_in_front name a xs zs =
    let i = place_of name (name a) xs in
    subst (λ ys. HasOneMore a ys (inserted name a xs ++ zs))
    (sym (append_assoc (take i xs) (drop i xs) zs) ∙ ap (λ ys. ys ++ zs) (take-append-drop i xs))
    (subst (HasOneMore a (take i xs ++ (drop i xs ++ zs)))
    (sym (append_assoc (take i xs) (a ∷ drop i xs) zs) ∙ ap (λ ys. ys ++ zs) (is_inserted name a xs))
    (one_between a (take i xs) (drop i xs ++ zs)))

-- the second list has one more at its end
one_at_end : {A : Type 0} (a : A) (xs zs : List A) → HasOneMore a (xs ++ zs) (xs ++ (zs ++ a ∷ []))
one_at_end a xs zs =
    subst (λ ys. HasOneMore a ys (xs ++ (zs ++ a ∷ []))) (append-nil (xs ++ zs))
    (subst (HasOneMore a ((xs ++ zs) ++ [])) (append_assoc xs zs (a ∷ [])) (one_between a (xs ++ zs) []))

loop_placed : (b : Bool) (v : Variable) (o : Ordering) (x : Variable) (xs : List Variable) → is_loop v.content ≡ b
    → AllLoop b (x ∷ xs) → AllLoop b (inserted variable_name v xs)
    → AllLoop b (match_ordering o (v ∷ x ∷ xs) (v ∷ x ∷ xs) (x ∷ inserted variable_name v xs))
loop_placed b v Less x xs e h r = (e, h)
loop_placed b v Equal x xs e h r = (e, h)
loop_placed b v Greater x xs e h r = (h.0, r)

loop_inserted : (b : Bool) (v : Variable) (xs : List Variable) → is_loop v.content ≡ b → AllLoop b xs
    → AllLoop b (inserted variable_name v xs)
loop_inserted b v [] e h = (e, tt)
loop_inserted b v (x ∷ xs) e h =
    loop_placed b v (key_cmp v.name x.name) x xs e h (loop_inserted b v xs e h.1)

loop_last : (b : Bool) (v : Variable) (xs : List Variable) → is_loop v.content ≡ b → AllLoop b xs
    → AllLoop b (xs ++ v ∷ [])
loop_last b v [] e h = (e, tt)
loop_last b v (x ∷ xs) e h = (h.0, loop_last b v xs e h.1)

-- ---- how many

size_at_end : (v : Variable) (ps ls : List Variable) → length (ps ++ (ls ++ v ∷ [])) ≡ suc (length (ps ++ ls))
size_at_end v [] [] = refl
size_at_end v [] (x ∷ ls) = ap suc (size_at_end v [] ls)
size_at_end v (x ∷ ps) ls = ap suc (size_at_end v ps ls)

size_in_front : (v : Variable) (ps ls : List Variable)
    → length (inserted variable_name v ps ++ ls) ≡ suc (length (ps ++ ls))
size_in_front v ps ls =
    let a = length-append (inserted variable_name v ps) ls in
    let b = size_inserted variable_name v ps in
    let c = length-append ps ls in
    omega (arith, a, b, c)

module _ (s : Shape) where
  abbrev First : ℕ → List Variable → Type 0
  First k vs =
      AreOfFirst symbol_text (file_in s).symbols (entry_at s) variable_name (IsVariable (files_in s) (file_in s)) k vs

  -- what is made of the first so many declarations
  pub record SoFar (k : ℕ) (ps ls : List Variable) : Type 0 where
    pub first : First k (ps ++ ls)
    pub order : AreInOrder variable_name ps
    pub no_loop : AllLoop false ps
    pub all_loop : AllLoop true ls
    pub size : length (ps ++ ls) ≤ declared_before (entry_at s) k

module _ (s : Shape) (differ : SymbolsDiffer s) where
  pub none_so_far : (ps ls : List Variable) → ps ≡ [] → ls ≡ [] → SoFar s 0 ps ls
  none_so_far ps ls p l =
      subst (λ xs. SoFar s 0 xs ls) (sym p)
      (subst (SoFar s 0 []) (sym l)
      (record {
        first = begin symbol_text (file_in s).symbols differ (entry_at s) variable_name
            (IsVariable (files_in s) (file_in s));
        order = none_in_order variable_name;
        no_loop = tt;
        all_loop = tt;
        size = none_yet;
      }))

  module _ (k : ℕ) (ps ls : List Variable) (h : SoFar s k ps ls) where
    abbrev Belongs : Option Variable → Type 0
    Belongs o =
        IsPart variable_name (IsVariable (files_in s) (file_in s)) (symbol_name (file_in s) k) (entry_at s k) o

    step : (o : Option Variable) (ys : List Variable) → Belongs o → (o ≡ None → ys ≡ ps ++ ls)
        → ((a : Variable) → o ≡ Some a → HasOneMore a (ps ++ ls) ys) → First s (k + 1) ys
    step o ys p none some =
        next_first symbol_text (file_in s).symbols differ (entry_at s) variable_name
        (IsVariable (files_in s) (file_in s)) k o (ps ++ ls) ys p none some h.first

    fresh : (v : Variable) → Belongs (Some v) → found variable_name (fold v.name) ps ≡ None
    fresh v p =
        front (λ c. bytes_eq (fold v.name) (fold (variable_name c))) ps ls
        (next_fresh symbol_text (file_in s).symbols differ (entry_at s) variable_name
        (IsVariable (files_in s) (file_in s)) k v (ps ++ ls) p h.first)

    one_of : (v : Variable) (ys : List Variable) → HasOneMore v (ps ++ ls) ys → (a : Variable) → Some v ≡ Some a
        → HasOneMore a (ps ++ ls) ys
    one_of v ys m a q =
        let e : v ≡ a = cc in
        subst (λ z. HasOneMore z (ps ++ ls) ys) e m

    -- one variable more
    longer : (v : Variable) (qs ms : List Variable) → Belongs (Some v)
        → length (qs ++ ms) ≡ suc (length (ps ++ ls)) → length (qs ++ ms) ≤ declared_before (entry_at s) (k + 1)
    longer v qs ms p e =
        one_more_at (entry_at s) k (ps ++ ls) (qs ++ ms)
        (is_declared variable_name (IsVariable (files_in s) (file_in s)) (symbol_name (file_in s) k) (entry_at s k) v p)
        e h.size

    divided : (v : Variable) (b : Bool) (qs ms : List Variable) → is_loop v.content ≡ b → Belongs (Some v)
        → IsDivided b v ps ls (qs, ms) → SoFar s (k + 1) qs ms
    divided v false qs ms e p d = record {
      first = step (Some v) (qs ++ ms) p (λ q. absurd cc)
          (one_of v (qs ++ ms)
          (subst (HasOneMore v (ps ++ ls)) (sym (ap₂ (λ xs zs. xs ++ zs) d.0 d.1))
          (one_in_front variable_name v ps ls)));
      order = subst (AreInOrder variable_name) (sym d.0) (in_order variable_name v ps h.order (fresh v p));
      no_loop = subst (AllLoop false) (sym d.0) (loop_inserted false v ps e h.no_loop);
      all_loop = subst (AllLoop true) (sym d.1) h.all_loop;
      size = longer v qs ms p (ap₂ (λ xs zs. length (xs ++ zs)) d.0 d.1 ∙ size_in_front v ps ls);
    }
    divided v true qs ms e p d = record {
      first = step (Some v) (qs ++ ms) p (λ q. absurd cc)
          (one_of v (qs ++ ms)
          (subst (HasOneMore v (ps ++ ls)) (sym (ap₂ (λ xs zs. xs ++ zs) d.0 d.1)) (one_at_end v ps ls)));
      order = subst (AreInOrder variable_name) (sym d.0) h.order;
      no_loop = subst (AllLoop false) (sym d.0) h.no_loop;
      all_loop = subst (AllLoop true) (sym d.1) (loop_last true v ls e h.all_loop);
      size = longer v qs ms p (ap₂ (λ xs zs. length (xs ++ zs)) d.0 d.1 ∙ size_at_end v ps ls);
    }

    grown_by : (o : Option Variable) (qs ms : List Variable) → Belongs o → AreGrown o ps ls (qs, ms)
        → SoFar s (k + 1) qs ms
    grown_by None qs ms p d = record {
      first = step None (qs ++ ms) p (λ q. ap₂ (λ xs zs. xs ++ zs) d.0 d.1) (λ a q. absurd cc);
      order = subst (AreInOrder variable_name) (sym d.0) h.order;
      no_loop = subst (AllLoop false) (sym d.0) h.no_loop;
      all_loop = subst (AllLoop true) (sym d.1) h.all_loop;
      size = not_more (entry_at s) k (ps ++ ls) (qs ++ ms) (ap₂ (λ xs zs. xs ++ zs) d.0 d.1) h.size;
    }
    grown_by (Some v) qs ms p d = divided v (is_loop v.content) qs ms refl p d

    pub next_so_far : (qs ms : List Variable) → IsNextVariable s k ps ls (qs, ms) → SoFar s (k + 1) qs ms
    next_so_far qs ms g = grown_by g.0 qs ms g.1.0 g.1.1

  pub all_variables : (k : ℕ) (ps ls vs : List Variable) → length (file_in s).declared.declarations ≤ k → vs ≡ ps ++ ls
      → SoFar s k ps ls → AreVariables s vs
  all_variables k ps ls vs l e h =
      subst (AreVariables s) (sym e)
      (all_first symbol_text (file_in s).symbols differ (entry_at s) variable_name
      (IsVariable (files_in s) (file_in s)) k (ps ++ ls) nothing h.first)
    where
      nothing : (n : ℕ) → k ≤ n → entry_at s n ≡ None
      nothing n m =
          ap (variable_by (file_in s) n) (slice_get_past (file_in s).declared.declarations n (omega (arith, l, m)))

  pub are_few : (k : ℕ) (ps ls vs : List Variable) → vs ≡ ps ++ ls → SoFar s k ps ls → length vs ≤ variable_count s
  are_few k ps ls vs e h =
      subst (λ xs. length xs ≤ variable_count s) (sym e)
      (at_most (entry_at s) (length (file_in s).declared.declarations)
      (λ n m. ap (variable_by (file_in s) n) (slice_get_past (file_in s).declared.declarations n m)) k (ps ++ ls) h.size)

  pub are_divided : (k : ℕ) (ps ls vs : List Variable) → vs ≡ ps ++ ls → SoFar s k ps ls → AreDivided vs
  are_divided k ps ls vs e h = record {
    plain = ps;
    loops = ls;
    whole = e;
    order = h.order;
    no_loop = h.no_loop;
    all_loop = h.all_loop;
  }
