-- Names that are not given twice differ.
use Rattle.std.proofs.Common.{◌≡◌, ℕ, zero, suc, Bool, true, false, true≢false, List, [], ◌∷◌, ◌++◌, map, Option, Some}
use Rattle.std.proofs.Common.{None, bytes_eq, refl, sym, ap, ◌∙◌, subst}
use Rattle.std.specs.Prelude.{◌||◌, option_map, slice_get, if◌then◌else◌}
use Rattle.std.proofs.lemmas.Bool.{or_right}
use Rattle.std.proofs.lemmas.Option.{slice_get-map}
use Rattle.foundation.proofs.Words.{itself}
use Rattle.foundation.proofs.Options.{same_some}
use Rattle.arm_value.specs.Look.{fold, is_same_folded}
use Rattle.name_set.specs.Names.{is_named}
use Rattle.bicep_symbols.specs.Entries.{Symbol}
use Rattle.bicep_symbols.specs.Outputs.{Named}
use Rattle.bicep_symbols.specs.Repeated as repeated
use Rattle.bicep_symbols.specs.Repeated.{repeated_from, taken, repeated_symbol}
use Rattle.bicep_meaning.specs.Files.{SourceFile, symbol_name}

-- ---- one name and those before it

front_by : (a b c : Bool) → (a || b) ≡ false → (b ≡ false → c ≡ false) → (a || c) ≡ false
front_by true b c e f = e
front_by false b c e f = f e

named_front : (x : List ℕ) (xs ys : List (List ℕ)) → is_named (xs ++ ys) x ≡ false → is_named xs x ≡ false
named_front x [] ys e = refl
named_front x (y ∷ xs) ys e =
    front_by (is_same_folded x y) (is_named (xs ++ ys) x) (is_named xs x) e (named_front x xs ys)

last_named : (x y : List ℕ) (xs : List (List ℕ)) → is_same_folded x y ≡ true → is_named (xs ++ y ∷ []) x ≡ true
last_named x y [] e = ap (λ b. b || false) e
last_named x y (z ∷ xs) e = or_right (is_same_folded x z) (is_named (xs ++ y ∷ []) x) (last_named x y xs e)

-- the name is none before it, and those after it are not repeated
first_new : (before : List (List ℕ)) (n : Named) (ns : List Named) → repeated_from before (n ∷ ns) ≡ None
    → (is_named before n.1 ≡ false) × (repeated_from (before ++ n.1 ∷ []) ns ≡ None)
first_new before n ns e = by_bool (is_named before n.1) refl e
  where
    by_bool : (b : Bool) → is_named before n.1 ≡ b
        → (if b then Some n.0 else repeated_from (before ++ n.1 ∷ []) ns) ≡ None
        → (is_named before n.1 ≡ false) × (repeated_from (before ++ n.1 ∷ []) ns ≡ None)
    by_bool true g h = absurd cc
    by_bool false g h = (g, h)

-- no name is one of those before all
none_before : (before : List (List ℕ)) (ns : List Named) → repeated_from before ns ≡ None → (i : ℕ) (n : Named)
    → slice_get ns i ≡ Some n → is_named before n.1 ≡ false
none_before before [] e zero n g = absurd cc
none_before before [] e (suc i) n g = absurd cc
none_before before (m ∷ ms) e zero n g =
    ap (λ (k : Named). is_named before k.1) (sym (same_some g)) ∙ (first_new before m ms e).0
none_before before (m ∷ ms) e (suc i) n g =
    named_front n.1 before (m.1 ∷ [])
    (none_before (before ++ m.1 ∷ []) ms (first_new before m ms e).1 i n g)

folded_same : (x y : List ℕ) → fold x ≡ fold y → is_same_folded x y ≡ true
folded_same x y e = subst (λ s. bytes_eq (fold x) s ≡ true) e (itself (fold x))

-- the first name is none of those after it
not_later : (before : List (List ℕ)) (m : Named) (ms : List Named) → repeated_from before (m ∷ ms) ≡ None → (i : ℕ)
    (n : Named) → slice_get ms i ≡ Some n → fold n.1 ≡ fold m.1 → ⊥
not_later before m ms e i n g h =
    true≢false
    (sym (last_named n.1 m.1 before (folded_same n.1 m.1 h))
    ∙ none_before (before ++ m.1 ∷ []) ms (first_new before m ms e).1 i n g)

pub names_differ : (before : List (List ℕ)) (ns : List Named) → repeated_from before ns ≡ None → (i j : ℕ) (n m : Named)
    → slice_get ns i ≡ Some n → slice_get ns j ≡ Some m → fold n.1 ≡ fold m.1 → i ≡ j
names_differ before [] e zero j n m g h k = absurd cc
names_differ before [] e (suc i) j n m g h k = absurd cc
names_differ before (x ∷ xs) e zero zero n m g h k = refl
names_differ before (x ∷ xs) e zero (suc j) n m g h k =
    absurd
    (not_later before x xs e j m h (sym k ∙ ap (λ (y : Named). fold y.1) (sym (same_some g))))
names_differ before (x ∷ xs) e (suc i) zero n m g h k =
    absurd
    (not_later before x xs e i n g (k ∙ ap (λ (y : Named). fold y.1) (sym (same_some h))))
names_differ before (x ∷ xs) e (suc i) (suc j) n m g h k =
    ap suc (names_differ (before ++ x.1 ∷ []) xs (first_new before x xs e).1 i j n m g h k)

-- ---- symbols

-- a symbol with a name
symbol_is : (o : Option Symbol) (x : List ℕ) → option_map (λ (s : Symbol). s.1) o ≡ Some x
    → (n : Named) × ((option_map repeated.symbol_name o ≡ Some n) × (n.1 ≡ x))
symbol_is None x e = absurd cc
symbol_is (Some s) x e = ((s.0, s.1), (refl, same_some e))

pub symbols_apart : (f : SourceFile) → repeated_symbol f.symbols ≡ None → (n m : ℕ) (x y : List ℕ)
    → symbol_name f n ≡ Some x → symbol_name f m ≡ Some y → fold x ≡ fold y → n ≡ m
symbols_apart f e n m x y g h k =
    let a = symbol_is (slice_get f.symbols n) x g in
    let b = symbol_is (slice_get f.symbols m) y h in
    names_differ taken (map repeated.symbol_name f.symbols) e n m a.0 b.0
    (slice_get-map repeated.symbol_name f.symbols n ∙ a.1.0) (slice_get-map repeated.symbol_name f.symbols m ∙ b.1.0)
    (ap fold a.1.1 ∙ k ∙ sym (ap fold b.1.1))
