-- Parts of a template that belong to the symbols or the outputs of a file, found by names after ASCII case folding.
use Rattle.std.specs.Prelude.{◌≡◌, ◌<◌, ◌≤◌, ◌+◌, ℕ, zero, suc, Bool, true, false, List, length, Option, Some, None}
use Rattle.std.specs.Prelude.{bytes_eq, position, is_some, option_map, slice_get, Result, Ok, Err}
use Rattle.std.specs.declared.alloc.AllocError.{AllocError}
use Rattle.arm_value.specs.Look.{fold}
use Rattle.emitted_values.specs.Values.{AreBoth}
use Rattle.named_parts.specs.Found.{found}
use Rattle.named_parts.specs.Order.{AreInOrder, inserted}

-- the number of the entry of a folded name
abbrev pub sought : {E : Type 0} → (E → List ℕ) → List E → List ℕ → Option ℕ
sought key es x = position (λ e. bytes_eq x (fold (key e))) es

-- the name of the entry of a number
abbrev pub name_at : {E : Type 0} → (E → List ℕ) → List E → ℕ → Option (List ℕ)
name_at key es n = option_map key (slice_get es n)

-- two entries have names that differ after folding
abbrev pub Differ : {E : Type 0} → (E → List ℕ) → List E → Type 0
Differ key es =
    (n m : ℕ) (x y : List ℕ) → name_at key es n ≡ Some x → name_at key es m ≡ Some y → fold x ≡ fold y → n ≡ m

-- the part that belongs to an entry: one of its name, where the entry has a name and declares something
abbrev pub IsPart : {A B : Type 0} → (A → List ℕ) → (B → A → Type 0) → Option (List ℕ) → Option B → Option A → Type 0
IsPart name R None b o = o ≡ None
IsPart name R (Some x) None o = o ≡ None
IsPart name R (Some x) (Some b) None = ⊥
IsPart name R (Some x) (Some b) (Some a) = (name a ≡ x) × R b a

-- how many of the first so many numbers declare something
abbrev pub one_if : Bool → ℕ
one_if true = 1
one_if false = 0

abbrev pub declared_before : {B : Type 0} → (ℕ → Option B) → ℕ → ℕ
declared_before by zero = 0
declared_before by (suc k) = declared_before by k + one_if (is_some (by k))

-- the parts that belong to the first so many entries, each found by the name of its entry
pub record AreOfFirst {E A B : Type 0} (key : E → List ℕ) (es : List E) (by : ℕ → Option B) (name : A → List ℕ)
    (R : B → A → Type 0) (k : ℕ) (xs : List A) : Type 0 where
  pub there : (x : List ℕ) (n : ℕ) → sought key es x ≡ Some n → n < k → AreBoth R (by n) (found name x xs)
  pub later : (x : List ℕ) (n : ℕ) → sought key es x ≡ Some n → k ≤ n → found name x xs ≡ None
  pub none : (x : List ℕ) → sought key es x ≡ None → found name x xs ≡ None

-- and they are in order, and no more than entries that declare something
pub record AreListed {E A B : Type 0} (key : E → List ℕ) (es : List E) (by : ℕ → Option B) (name : A → List ℕ)
    (R : B → A → Type 0) (k : ℕ) (xs : List A) : Type 0 where
  pub first : AreOfFirst key es by name R k xs
  pub order : AreInOrder name xs
  pub size : length xs ≤ declared_before by k

-- the parts, and one more in its place, where it is there
abbrev pub grown : {A : Type 0} → (A → List ℕ) → Option A → List A → List A
grown name None xs = xs
grown name (Some a) xs = inserted name a xs

-- the parts, and then that of an entry of this name
abbrev pub IsNext : {A B : Type 0} → (A → List ℕ) → (B → A → Type 0) → Option (List ℕ) → Option B → List A → List A
    → Type 0
IsNext {A} name R x b xs ys = (o : Option A) × (IsPart name R x b o × (ys ≡ grown name o xs))

-- the same part, which is there, or no memory
abbrev pub IsThere : {A : Type 0} → Result A AllocError → Result (Option A) AllocError → Type 0
IsThere (Ok a) x = x ≡ Ok (Some a)
IsThere (Err e) x = x ≡ Err e
