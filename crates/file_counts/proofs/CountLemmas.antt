-- Numbers that are counted one after another.
use Rattle.std.proofs.Common.{◌≡◌, ◌≤◌, ◌<◌, ◌+◌, ◌-◌, ℕ, zero, suc, Bool, true, false, List, ◌∷◌, length}
use Rattle.std.proofs.Common.{Option, Some, None, refl, sym, ap, ◌∙◌, arith}
use Rattle.std.specs.Prelude.{is_some, if◌then◌else◌}
use Rattle.bicep_symbols.specs.Entries.{Symbol}
use Rattle.bicep_declared.specs.Declarations.{DeclaredTree}
use Rattle.bicep_declared.specs.Declarations as d
use Rattle.bicep_meaning.specs.Files.{SourceFile, declaration}
use Rattle.bicep_meaning.specs.Instances.{put_by}
use Rattle.source_worlds.specs.Numbers.{passing, is_put}
use Rattle.file_counts.specs.Counts.{count, with_one, is_parameter_at, is_entry_at, is_put_by, is_put_at, parameters}
use Rattle.file_counts.specs.Counts.{variables, resources}

module _ (test : ℕ → Bool) (size : ℕ) where
  -- those that are left
  abbrev left : ℕ → ℕ
  left k = length (passing test k (size - k))

  -- what is counted, with those that are left, is the number of all
  pub record Counted (k total : ℕ) : Type 0 where
    pub all : total + left k ≡ count test size
    pub small : total ≤ k

  pub none_counted : (total : ℕ) → total ≡ 0 → Counted 0 total
  none_counted total e = record {
    all = ap (λ n. n + left 0) e ∙ none_more (left 0) ∙ ap (λ m. length (passing test 0 m)) all_left;
    small = omega (arith, e);
  }
    where
      none_more : (n : ℕ) → 0 + n ≡ n
      none_more n = omega arith

      all_left : size - 0 ≡ size
      all_left = omega arith

  left_by : (k : ℕ) (b : Bool) → k < size → test k ≡ b → left k ≡ (if b then 1 else 0) + left (k + 1)
  left_by k b l e =
      let m = size - (k + 1) in
      ap (λ j. length (passing test k j)) (one_less k size l)
      ∙ ap (λ c. length (if c then k ∷ passing test (suc k) m else passing test (suc k) m)) e
      ∙ by_test b (passing test (suc k) m)
      ∙ ap (λ j. (if b then 1 else 0) + length (passing test j m)) (next k)
    where
      one_less : (n s : ℕ) → n < s → s - n ≡ suc (s - (n + 1))
      one_less n s l = omega (arith, l)

      next : (n : ℕ) → suc n ≡ n + 1
      next n = omega arith

      one_first : (n : ℕ) → suc n ≡ 1 + n
      one_first n = omega arith

      none_first : (n : ℕ) → n ≡ 0 + n
      none_first n = omega arith

      by_test : (b : Bool) (ns : List ℕ) → length (if b then k ∷ ns else ns) ≡ (if b then 1 else 0) + length ns
      by_test true ns = one_first (length ns)
      by_test false ns = none_first (length ns)

  at_most_one : (b : Bool) → (if b then 1 else 0) ≤ 1
  at_most_one true = omega arith
  at_most_one false = omega arith

  pub one_counted : (k total more : ℕ) (b : Bool) → k < size → b ≡ test k → more ≡ with_one total b → Counted k total
      → Counted (k + 1) more
  one_counted k total more b l t e h =
      let x = left_by k b l (sym t) in
      let a = h.all in
      let small = h.small in
      let one = at_most_one b in
      record {
        all = whole (if b then 1 else 0) (left k) (left (k + 1)) total more (count test size) x e a;
        small = omega (arith, small, one, e);
      }
    where
      whole : (one here after total more sum : ℕ) → here ≡ one + after → more ≡ total + one → total + here ≡ sum
          → more + after ≡ sum
      whole one here after total more sum x e a = omega (arith, x, e, a)

  pub all_counted : (k total : ℕ) → size ≤ k → Counted k total → total ≡ count test size
  all_counted k total l h = none_more (left k) total (count test size) none_left h.all
    where
      nothing : (n s : ℕ) → s ≤ n → s - n ≡ 0
      nothing n s l = omega (arith, l)

      none_left : left k ≡ 0
      none_left = ap (λ m. length (passing test k m)) (nothing k size l)

      none_more : (rest total sum : ℕ) → rest ≡ 0 → total + rest ≡ sum → total ≡ sum
      none_more rest total sum e h = omega (arith, e, h)

-- ---- resources

same_test : (p q : ℕ → Bool) → ((n : ℕ) → p n ≡ q n) → (j k : ℕ) → passing p j k ≡ passing q j k
same_test p q e j zero = refl
same_test p q e j (suc k) =
    ap (λ b. if b then j ∷ passing p (suc j) k else passing p (suc j) k) (e j)
    ∙ ap (λ ns. if q j then j ∷ ns else ns) (same_test p q e (suc j) k)

put_is : (f : SourceFile) (n : ℕ) (o : Option DeclaredTree) → is_put_by o ≡ is_some (put_by f n o)
put_is f n None = refl
put_is f n (Some (d.parameter at t)) = refl
put_is f n (Some (d.parameter_with at t e)) = refl
put_is f n (Some (d.variable at v)) = refl
put_is f n (Some (d.a_resource at q true b)) = refl
put_is f n (Some (d.a_resource at q false b)) = refl
put_is f n (Some (d.a_module at b)) = refl

-- what is put, by the declarations of the file
pub puts_are : (f : SourceFile) (ds : List DeclaredTree) (k : ℕ) → ds ≡ f.declared.declarations → k ≡ length ds
    → count (is_put_at ds) k ≡ resources f
puts_are f ds k e l =
    ap (count (is_put_at ds)) (l ∙ ap length e)
    ∙ ap (λ xs. count (is_put_at xs) (length f.declared.declarations)) e
    ∙ ap length
    (same_test (is_put_at f.declared.declarations) (is_put f) (λ n. put_is f n (declaration f n)) 0
    (length f.declared.declarations))

-- the variables that have an entry, and the parameters
pub entries_are : (f : SourceFile) (ds : List DeclaredTree) (k : ℕ) → ds ≡ f.declared.declarations → k ≡ length ds
    → count (is_entry_at f ds) k ≡ variables f
entries_are f ds k e l =
    ap (count (is_entry_at f ds)) (l ∙ ap length e)
    ∙ ap (λ xs. count (is_entry_at f xs) (length f.declared.declarations)) e

pub parameters_are : (f : SourceFile) (ss : List Symbol) (k : ℕ) → ss ≡ f.symbols → k ≡ length ss
    → count (is_parameter_at ss) k ≡ parameters f
parameters_are f ss k e l =
    ap (count (is_parameter_at ss)) (l ∙ ap length e) ∙ ap (λ xs. count (is_parameter_at xs) (length f.symbols)) e
