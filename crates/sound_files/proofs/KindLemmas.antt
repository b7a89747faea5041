-- The whole types of the resources of a file without faults.
use Rattle.std.proofs.Common.{◌≡◌, inl, inr, ◌<◌, ◌≤◌, ℕ, zero, suc, ◌+◌, List, [], ◌∷◌, ◌++◌, length, map}
use Rattle.std.proofs.Common.{Option, Some, None, refl, sym, ap, ap₂, ◌∙◌, subst, arith, length-append}
use Rattle.std.proofs.lemmas.Option.{none-some, same_Some, slice_get_within}
use Rattle.std.specs.Prelude.{slice_get, option_map, option_and_then}
use Rattle.foundation.proofs.Lists.{got_last}
use Rattle.bicep_misplaced.specs.Types.{divided}
use Rattle.bicep_names.specs.declared.kind.Kind.{Kind}
use Rattle.bicep_names.specs.declared.kind.Kind.TheVariants as k
use Rattle.bicep_symbols.specs.Entries.{Symbol}
use Rattle.bicep_checks.specs.Faults.{symbol_kind}
use Rattle.bicep_declared.specs.Declarations.{DeclaredTree}
use Rattle.bicep_declared.specs.Declarations as d
use Rattle.bicep_placed.specs.Kinds.{around, path_of, kind_in, kind_by, known, whole_kind, whole_kinds_after}
use Rattle.bicep_meaning.specs.Files.{SourceFile, Typed, around_kind, divided_or, read_type, type_by, type_text}
use Rattle.bicep_meaning.specs.Files.{type_within}
use Rattle.declaration_laws.specs.ChildTypes.{IsChildType}
use Rattle.declaration_laws.specs.Sound.{IsResourceType}
use Rattle.sound_files.proofs.ListLemmas.{Grows, grows_by, last_or, there}
use Rattle.sound_files.proofs.LineLemmas.{Path, Line, LinedFrom}
use Rattle.sound_files.proofs.TextLemmas.{IsWholeType, whole_type, part_type, child_type, nested_type}

-- ---- what the types are

-- a resource that is nested in none
pub record IsWhole (types : List (List ℕ)) (n : ℕ) (text : List ℕ) : Type 0 where
  pub is : slice_get types n ≡ Some (kind_in text)
  pub whole : IsWholeType (kind_in text)

-- a nested resource
pub record IsNested (types : List (List ℕ)) (n m : ℕ) (text : List ℕ) : Type 0 where
  pub up : List ℕ
  pub is_up : slice_get types m ≡ Some up
  pub is : slice_get types n ≡ Some (up ++ 47 ∷ kind_in text)
  pub before : m < n
  pub type : IsResourceType (up ++ 47 ∷ kind_in text)
  pub child : IsChildType (up ++ 47 ∷ kind_in text) up

-- the type of a symbol, by the number of the resource around it and its type text
abbrev pub IsTyped : List (List ℕ) → ℕ → Option ℕ → Path → Type 0
IsTyped types n None None = slice_get types n ≡ Some []
IsTyped types n None (Some t) = IsWhole types n t
IsTyped types n (Some m) None = ⊥
IsTyped types n (Some m) (Some t) = IsNested types n m t

abbrev pub AreTypedFrom : List (List ℕ) → ℕ → List Symbol → List DeclaredTree → Type 0
AreTypedFrom types n [] xs = Unit {0}
AreTypedFrom types n (s ∷ ss) [] = Unit {0}
AreTypedFrom types n (s ∷ ss) (x ∷ xs) =
    IsTyped types n (around s.2) (path_of x) × AreTypedFrom types (suc n) ss xs

plus_zero : (n : ℕ) → n + 0 ≡ n
plus_zero n = omega arith

zero_plus : (n : ℕ) → 0 + n ≡ n
zero_plus n = omega arith

plus_suc : (n i : ℕ) → suc n + i ≡ n + suc i
plus_suc n i = omega arith

typed_at : (types : List (List ℕ)) (n : ℕ) (ss : List Symbol) (xs : List DeclaredTree) (i : ℕ) (s : Symbol)
    (x : DeclaredTree) → AreTypedFrom types n ss xs → slice_get ss i ≡ Some s → slice_get xs i ≡ Some x
    → IsTyped types (n + i) (around s.2) (path_of x)
typed_at types n [] xs i s x h e g = absurd (none-some s e)
typed_at types n (z ∷ ss) [] i s x h e g = absurd (none-some x g)
typed_at types n (z ∷ ss) (y ∷ xs) zero s x h e g =
    subst (λ j. IsTyped types j (around s.2) (path_of x)) (sym (plus_zero n))
    (subst (λ (u : Symbol). IsTyped types n (around u.2) (path_of x)) (same_Some z s e)
    (subst (λ u. IsTyped types n (around z.2) (path_of u)) (same_Some y x g) h.0))
typed_at types n (z ∷ ss) (y ∷ xs) (suc i) s x h e g =
    subst (λ j. IsTyped types j (around s.2) (path_of x)) (plus_suc n i) (typed_at types (suc n) ss xs i s x h.1 e g)

-- ---- how they are found

-- the type of each resource so far is there, and may be one
abbrev AreKnown : List Path → List (List ℕ) → Type 0
AreKnown before types =
    (m : ℕ) (t : List ℕ) → slice_get before m ≡ Some (Some t)
    → (up : List ℕ) × ((slice_get types m ≡ Some up) × IsResourceType up)

-- the next type
record Next (types : List (List ℕ)) (o : Option ℕ) (p : Path) : Type 0 where
  type : (t : List ℕ) → p ≡ Some t → IsResourceType (whole_kind types o p)
  typed : (all : List (List ℕ)) → Grows (types ++ whole_kind types o p ∷ []) all → IsTyped all (length types) o p

next_type : (before : List Path) (types : List (List ℕ)) (o : Option ℕ) (p : Path) → length before ≡ length types
    → AreKnown before types → Line before o p → Next types o p
next_type before types None None l h e = record {
  type = λ t g. absurd (none-some t g);
  typed = λ all g. g (length types) [] (got_last types []);
}
next_type before types None (Some t) l h e = record {
  type = λ u g. (whole_type t e).type;
  typed = λ all g. record { is = g (length types) (kind_in t) (got_last types (kind_in t)); whole = whole_type t e };
}
next_type before types (Some m) None l h e = absurd e
next_type before types (Some m) (Some t) l h e =
    let a = h m e.1.text e.1.is in
    let same : known (slice_get types m) ++ 47 ∷ kind_in t ≡ a.0 ++ 47 ∷ kind_in t =
    ap (λ o. known o ++ 47 ∷ kind_in t) a.1.0 in
    let own = nested_type a.0 (kind_in t) a.1.1 (part_type t e.0) in
    record {
      type = λ u g. subst IsResourceType (sym same) own;
      typed = λ all g. record {
        up = a.0;
        is_up = g m a.0 (grows_by types ((known (slice_get types m) ++ 47 ∷ kind_in t) ∷ []) m a.0 a.1.0);
        is =
            g (length types) _ (got_last types (known (slice_get types m) ++ 47 ∷ kind_in t))
            ∙ ap (λ w. Some w) same;
        before = slice_get_within types m a.0 a.1.0;
        type = own;
        child = child_type a.0 (kind_in t) a.1.1 (part_type t e.0);
      };
    }

next_known : (before : List Path) (types : List (List ℕ)) (p : Path) (w : List ℕ) → length before ≡ length types
    → AreKnown before types → ((t : List ℕ) → p ≡ Some t → IsResourceType w)
    → AreKnown (before ++ p ∷ []) (types ++ w ∷ [])
next_known before types p w l h f m t e =
    elim (last_or before p m (Some t) e) [
      | inl g ↦ let a = h m t g in (a.0, (grows_by types (w ∷ []) m a.0 a.1.0, a.1.1))
      | inr g ↦ (
        w,
        (
          ap (λ j. slice_get (types ++ w ∷ []) j) (g.0 ∙ l) ∙ got_last types w,
          f t g.1,
        ),
      )
    ]

one_longer : {A : Type 0} (xs : List A) (x : A) → length (xs ++ x ∷ []) ≡ suc (length xs)
one_longer xs x = let n = length-append xs (x ∷ []) in omega (arith, n)

-- the types of the symbols that are left
record Left (types all : List (List ℕ)) (ss : List Symbol) (xs : List DeclaredTree) : Type 0 where
  grown : Grows types all
  count : length all ≡ length types + length ss
  typed : AreTypedFrom all (length types) ss xs

all_typed : (before : List Path) (types : List (List ℕ)) (ss : List Symbol) (xs : List DeclaredTree)
    → length before ≡ length types → AreKnown before types → LinedFrom before ss (map path_of xs)
    → Left types (whole_kinds_after types (map symbol_kind ss) xs) ss xs
all_typed before types [] xs l h e = record { grown = λ m x g. g; count = sym (plus_zero (length types)); typed = tt }
all_typed before types (s ∷ ss) [] l h e = absurd e
all_typed before types (s ∷ ss) (x ∷ xs) l h e =
    let w = whole_kind types (around s.2) (path_of x) in
    let a = next_type before types (around s.2) (path_of x) l h e.0 in
    let n = one_longer types w in
    let r = all_typed (before ++ path_of x ∷ []) (types ++ w ∷ []) ss xs
    (one_longer before (path_of x) ∙ ap suc l ∙ sym n) (next_known before types (path_of x) w l h a.type) e.1 in
    let many = r.count in
    record {
      grown = λ m y g. r.grown m y (grows_by types (w ∷ []) m y g);
      count = omega (arith, many, n);
      typed = (
        a.typed (whole_kinds_after (types ++ w ∷ []) (map symbol_kind ss) xs) r.grown,
        subst
            (λ j. AreTypedFrom (whole_kinds_after (types ++ w ∷ []) (map symbol_kind ss) xs) j ss xs) n r.typed,
      );
    }

nothing_known : AreKnown [] []
nothing_known m t e = absurd (none-some (Some t) e)

-- the types of a file
pub record TypesOf (types : List (List ℕ)) (ss : List Symbol) (xs : List DeclaredTree) : Type 0 where
  pub count : length types ≡ length ss
  pub typed : (i : ℕ) (s : Symbol) (x : DeclaredTree) → slice_get ss i ≡ Some s → slice_get xs i ≡ Some x
      → IsTyped types i (around s.2) (path_of x)

pub types_of : (ss : List Symbol) (xs : List DeclaredTree) → LinedFrom [] ss (map path_of xs)
    → TypesOf (whole_kinds_after [] (map symbol_kind ss) xs) ss xs
types_of ss xs e =
    let r = all_typed [] [] ss xs refl nothing_known e in
    record {
      count = r.count ∙ zero_plus (length ss);
      typed = λ i s x g f.
          subst (λ j. IsTyped (whole_kinds_after [] (map symbol_kind ss) xs) j (around s.2) (path_of x)) (zero_plus i)
          (typed_at (whole_kinds_after [] (map symbol_kind ss) xs) 0 ss xs i s x r.typed g f);
    }

-- ---- they are those that the resources mean

pub same_around : (x : Kind) → around x ≡ around_kind x
same_around k.Parameter = refl
same_around k.Variable = refl
same_around (k.Resource inside) = refl
same_around (k.ResourceLoop inside) = refl
same_around (k.Module file) = refl
same_around (k.ModuleLoop file) = refl

text_is : (x : DeclaredTree) → type_text (Some x) ≡ known (path_of x)
text_is (d.parameter at t) = refl
text_is (d.parameter_with at t e) = refl
text_is (d.variable at v) = refl
text_is (d.a_resource at q existing b) = refl
text_is (d.a_module at b) = refl

read_by : (text v : List ℕ) (o : Option (List ℕ × List ℕ)) → (divided_or text v o).kind ≡ kind_by text o
read_by text v None = refl
read_by text v (Some q) = refl

read_kind : (text v : List ℕ) → (read_type text v).kind ≡ kind_in text
read_kind text v = read_by text v (divided 64 text)

module _ (f : SourceFile) (types : List (List ℕ)) (h : TypesOf types f.symbols f.declared.declarations)
    (pairs : length f.symbols ≡ length f.declared.declarations) where
  -- the type by those of the resources around it
  by_up : (up : ℕ → Typed) (n : ℕ) (o : Option ℕ) (p : Path) → IsTyped types n o p
      → ((m : ℕ) → m < n → (up m).kind ≡ known (slice_get types m))
      → (type_by up o (known p)).kind ≡ known (slice_get types n)
  by_up up n None None e g = sym (ap known e)
  by_up up n None (Some t) e g = read_kind t ([]) ∙ sym (ap known e.is)
  by_up up n (Some m) None e g = absurd e
  by_up up n (Some m) (Some t) e g =
      ap₂ (λ (a b : List ℕ). a ++ 47 ∷ b) (g m e.before ∙ ap known e.is_up) (read_kind t (up m).version)
      ∙ sym (ap known e.is)

  one_step : (k n : ℕ) → n < length f.symbols
      → ((m : ℕ) → m < n → (type_within f k m).kind ≡ known (slice_get types m))
      → (type_within f (suc k) n).kind ≡ known (slice_get types n)
  unfolding type_within
  one_step k n lt uppers =
      let s = there f.symbols n lt in
      let x = there f.declared.declarations n (subst (λ j. n < j) pairs lt) in
      ap₂ (λ (o : Option Symbol) (p : Option DeclaredTree). (type_by (λ m. type_within f k m)
      (option_and_then around_kind (option_map (λ (y : Symbol). y.2) o)) (type_text p)).kind) s.is x.is
      ∙ ap₂ (λ (o : Option ℕ) (t : List ℕ). (type_by (λ m. type_within f k m) o t).kind)
      (sym (same_around s.item.2)) (text_is x.item)
      ∙ by_up (λ m. type_within f k m) n (around s.item.2) (path_of x.item) (h.typed n s.item x.item s.is x.is) uppers

  type_at : (k n : ℕ) → n ≤ k → n < length f.symbols → (type_within f (suc k) n).kind ≡ known (slice_get types n)
  type_at zero n le lt = one_step zero n lt (λ m b. absurd (omega (arith, le, b)))
  type_at (suc k) n le lt =
      one_step (suc k) n lt (λ m b. type_at k m (omega (arith, le, b)) (omega (arith, lt, b)))

  -- the type of a resource
  pub type_is : (n : ℕ) → n < length f.symbols → (type_within f (length f.symbols) n).kind ≡ known (slice_get types n)
  type_is n lt = by_count (length f.symbols) refl
    where
      by_count : (k : ℕ) → length f.symbols ≡ k → (type_within f k n).kind ≡ known (slice_get types n)
      by_count zero e = absurd (omega (arith, lt, e))
      by_count (suc k) e = type_at k n (omega (arith, lt, e)) lt
