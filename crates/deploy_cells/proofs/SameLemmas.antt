-- The test whether two cells are one.
use Rattle.std.proofs.Common.{◌≡◌, ℕ, true, true≢false, List, [], ◌∷◌, refl, sym, ap, ◌∙◌, arith}
use Rattle.std.specs.Prelude.{nat_eq, ◌&&◌, bytes_eq}
use Rattle.foundation.proofs.Comparisons.{eq_itself, eq_of_true}
use Rattle.arm_ids.specs.declared.id.ResourceId.{ResourceId}
use Rattle.foundation.proofs.TruthValues.{both, and_true}
use Rattle.foundation.proofs.Words.{eq_word, itself}
use Rattle.deploy_cells.specs.Cells.{Step, Position, Cell, parameter, variable, offered, output, count, included}
use Rattle.deploy_cells.specs.Cells.{name, deployments, state}
use Rattle.deploy_cells.specs.Same.{same_step, same_position, same_texts, same_id, same_named, same_instance, same}

pub step_is : (s t : Step) → same_step s t ≡ true → s ≡ t
step_is s t e =
    let h = both (nat_eq s.resource t.resource) (nat_eq s.copy t.copy) e in
    let a : s.resource ≡ t.resource = eq_of_true s.resource t.resource h.0 in
    let b : s.copy ≡ t.copy = eq_of_true s.copy t.copy h.1 in
    ap (λ (r : ℕ). let x : Step = record { resource = r; copy = s.copy } in x) a
    ∙ ap (λ (i : ℕ). let x : Step = record { resource = t.resource; copy = i } in x) b

pub step_same : (s : Step) → same_step s s ≡ true
step_same s =
    and_true (nat_eq s.resource s.resource) (nat_eq s.copy s.copy) (eq_itself s.resource) (eq_itself s.copy)

pub position_is : (p q : Position) → same_position p q ≡ true → p ≡ q
position_is [] [] e = refl
position_is [] (t ∷ q) e = absurd (true≢false (sym e))
position_is (s ∷ p) [] e = absurd (true≢false (sym e))
position_is (s ∷ p) (t ∷ q) e =
    let h = both (same_step s t) (same_position p q) e in
    let a : s ≡ t = step_is s t h.0 in
    let b : p ≡ q = position_is p q h.1 in cc

pub position_same : (p : Position) → same_position p p ≡ true
position_same [] = refl
position_same (s ∷ p) = and_true (same_step s s) (same_position p p) (step_same s) (position_same p)

pub texts_are : (xs ys : List (List ℕ)) → same_texts xs ys ≡ true → xs ≡ ys
texts_are [] [] e = refl
texts_are [] (y ∷ ys) e = absurd (true≢false (sym e))
texts_are (x ∷ xs) [] e = absurd (true≢false (sym e))
texts_are (x ∷ xs) (y ∷ ys) e =
    let h = both (bytes_eq x y) (same_texts xs ys) e in
    let a : x ≡ y = eq_word x y h.0 in
    let b : xs ≡ ys = texts_are xs ys h.1 in cc

pub texts_same : (xs : List (List ℕ)) → same_texts xs xs ≡ true
texts_same [] = refl
texts_same (x ∷ xs) = and_true (bytes_eq x x) (same_texts xs xs) (itself x) (texts_same xs)

pub id_is : (i j : ResourceId) → same_id i j ≡ true → i ≡ j
id_is i j e =
    let h = both (bytes_eq i.subscription j.subscription) _ e in
    let k = both (bytes_eq i.group j.group) _ h.1 in
    let l = both (same_texts i.types j.types) (same_texts i.names j.names) k.1 in
    let a : i.subscription ≡ j.subscription = eq_word i.subscription j.subscription h.0 in
    let b : i.group ≡ j.group = eq_word i.group j.group k.0 in
    let c : i.types ≡ j.types = texts_are i.types j.types l.0 in
    let d : i.names ≡ j.names = texts_are i.names j.names l.1 in
    λ t. record { subscription = a t; group = b t; types = c t; names = d t }

pub id_same : (i : ResourceId) → same_id i i ≡ true
id_same i =
    and_true (bytes_eq i.subscription i.subscription) _ (itself i.subscription)
    (and_true (bytes_eq i.group i.group) _ (itself i.group)
    (and_true (same_texts i.types i.types) (same_texts i.names i.names) (texts_same i.types) (texts_same i.names)))

named_same : (p : Position) (x : List ℕ) → same_named p x p x ≡ true
named_same p x = and_true (bytes_eq x x) (same_position p p) (itself x) (position_same p)

instance_same : (p : Position) (s : Step) → same_instance p s p s ≡ true
instance_same p s = and_true (same_step s s) (same_position p p) (step_same s) (position_same p)

named_is : (f : Position → List ℕ → Cell) (p : Position) (x : List ℕ) (q : Position) (y : List ℕ)
    → same_named p x q y ≡ true → f p x ≡ f q y
named_is f p x q y e =
    let h = both (bytes_eq x y) (same_position p q) e in
    let a : x ≡ y = eq_word x y h.0 in
    let b : p ≡ q = position_is p q h.1 in λ t. f (b t) (a t)

instance_is : (f : Position → Step → Cell) (p : Position) (s : Step) (q : Position) (t : Step)
    → same_instance p s q t ≡ true → f p s ≡ f q t
instance_is f p s q t e =
    let h = both (same_step s t) (same_position p q) e in
    let a : s ≡ t = step_is s t h.0 in
    let b : p ≡ q = position_is p q h.1 in λ i. f (b i) (a i)

count_is : (p : Position) (r : ℕ) (q : Position) (s : ℕ) → (nat_eq r s && same_position p q) ≡ true
    → count p r ≡ count q s
count_is p r q s e =
    let h = both (nat_eq r s) (same_position p q) e in
    let a : r ≡ s = eq_of_true r s h.0 in
    let b : p ≡ q = position_is p q h.1 in λ t. count (b t) (a t)

pub cell_same : (c : Cell) → same c c ≡ true
cell_same (parameter p x) = named_same p x
cell_same (variable p x) = named_same p x
cell_same (offered p x) = named_same p x
cell_same (output p x) = named_same p x
cell_same (count p r) = and_true (nat_eq r r) (same_position p p) (eq_itself r) (position_same p)
cell_same (included p s) = instance_same p s
cell_same (name p s) = instance_same p s
cell_same (deployments p) = position_same p
cell_same (state k) = id_same k

pub cell_is : (c d : Cell) → same c d ≡ true → c ≡ d
cell_is (parameter p x) (parameter q y) e = named_is parameter p x q y e
cell_is (variable p x) (variable q y) e = named_is variable p x q y e
cell_is (offered p x) (offered q y) e = named_is offered p x q y e
cell_is (output p x) (output q y) e = named_is output p x q y e
cell_is (count p r) (count q s) e = count_is p r q s e
cell_is (included p s) (included q t) e = instance_is included p s q t e
cell_is (name p s) (name q t) e = instance_is name p s q t e
cell_is (deployments p) (deployments q) e = ap deployments (position_is p q e)
cell_is (state k) (state l) e = ap state (id_is k l e)
cell_is _ _ e = absurd (true≢false (sym e))

pub cell_same_as : (c d : Cell) → c ≡ d → same c d ≡ true
cell_same_as c d e = ap (same c) (sym e) ∙ cell_same c
