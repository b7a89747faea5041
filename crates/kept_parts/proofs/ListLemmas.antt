-- Lists of expressions that are kept.
use Rattle.std.proofs.Common.{◌≡◌, ◌<◌, ◌+◌, ℕ, zero, suc, List, [], ◌∷◌, ◌++◌, length, drop, take, refl, ap, sym}
use Rattle.std.proofs.Common.{◌≤◌, ◌∙◌, subst, arith, get_or}
use Rattle.std.proofs.lemmas.List.{drop_all}
use Rattle.std.specs.Prelude.{Result, Ok, Err, IfOk}
use Rattle.std.specs.declared.vec.Vec.{Vec}
use Rattle.std.specs.declared.alloc.Global.{Global}
use Rattle.std.specs.declared.alloc.AllocError.{AllocError}
use Rattle.arm_expr.specs.Tree.{Tree}
use Rattle.emitted_parts.specs.Built.{IsAdded}
use Rattle.kept_expressions.specs.Kept.{IsKeptHoles, AreKeptHoles}
use Rattle.kept_expressions.specs.declared.keeping.KeptHoles.{KeptHoles}

pub kept_push : (ts : List Tree) (ks : List KeptHoles) (t : Tree) (k : KeptHoles) → AreKeptHoles ts ks
    → IsKeptHoles t k → AreKeptHoles (ts ++ t ∷ []) (ks ++ k ∷ [])
kept_push [] [] t k h i = (i, tt)
kept_push [] (l ∷ ks) t k h i = absurd h
kept_push (u ∷ ts) [] t k h i = absurd h
kept_push (u ∷ ts) (l ∷ ks) t k h i = (h.0, kept_push ts ks t k h.1 i)

-- one expression more, where it could be made
pub kept_more : (ts : List Tree) (t : Tree) (list : Result (Vec KeptHoles Global) AllocError)
    (item : Result KeptHoles AllocError) (r : Result (Vec KeptHoles Global) AllocError) → IsAdded list item r
    → IfOk list (λ v. AreKeptHoles ts v.items) → IfOk item (IsKeptHoles t)
    → IfOk r (λ v. AreKeptHoles (ts ++ t ∷ []) v.items)
kept_more ts t (Ok v) (Ok k) (Ok w) a h i =
    subst (AreKeptHoles (ts ++ t ∷ [])) (sym a) (kept_push ts v.items t k h i)
kept_more ts t list item (Err e) a h i = tt
kept_more ts t (Ok v) (Err e) (Ok w) a h i = absurd a
kept_more ts t (Err e) (Ok k) (Ok w) a h i = absurd a
kept_more ts t (Err e) (Err d) (Ok w) a h i = absurd a

one : 1 ≡ 0 + 1
one = omega arith

-- the expression at a place of a list
pub record IsAt (ts : List Tree) (i : ℕ) (k : KeptHoles) : Type 0 where
  pub tree : Tree
  pub is_kept : IsKeptHoles tree k
  pub rest : drop i ts ≡ tree ∷ drop (i + 1) ts
  pub front : take (i + 1) ts ≡ take i ts ++ tree ∷ []

pub kept_at : (ts : List Tree) (ks : List KeptHoles) (i : ℕ) (k : KeptHoles) → AreKeptHoles ts ks → i < length ks
    → k ≡ get_or ks i k → IsAt ts i k
kept_at [] [] i k h l e = absurd (omega (arith, l))
kept_at [] (j ∷ ks) i k h l e = absurd h
kept_at (t ∷ ts) [] i k h l e = absurd h
kept_at (t ∷ ts) (j ∷ ks) zero k h l e =
    record {
      tree = t;
      is_kept = subst (IsKeptHoles t) (sym e) h.0;
      rest = ap (λ n. t ∷ drop n (t ∷ ts)) one;
      front = ap (λ n. take n (t ∷ ts)) (sym one);
    }
kept_at (t ∷ ts) (j ∷ ks) (suc i) k h l e =
    let r = kept_at ts ks i k h.1 (omega (arith, l)) e in
    record {
      tree = r.tree;
      is_kept = r.is_kept;
      rest = r.rest ∙ ap (λ n. r.tree ∷ drop n (t ∷ ts)) (one_after i);
      front = ap (λ n. take n (t ∷ ts)) (sym (one_after i)) ∙ ap (λ us. t ∷ us) r.front;
    }
  where
    one_after : (i : ℕ) → suc (i + 1) ≡ suc i + 1
    one_after i = omega arith

pub kept_length : (ts : List Tree) (ks : List KeptHoles) → AreKeptHoles ts ks → length ts ≡ length ks
kept_length [] [] h = refl
kept_length [] (k ∷ ks) h = absurd h
kept_length (t ∷ ts) [] h = absurd h
kept_length (t ∷ ts) (k ∷ ks) h = ap suc (kept_length ts ks h.1)

-- nothing is left
pub kept_done : (ts : List Tree) (ks : List KeptHoles) (i : ℕ) → AreKeptHoles ts ks → length ks ≤ i → drop i ts ≡ []
kept_done ts ks i h l = drop_all i ts (let same = kept_length ts ks h in omega (arith, same, l))

-- one item more of a list
pub take_next : {A : Type 0} (xs : List A) (i : ℕ) (x : A) → i < length xs → x ≡ get_or xs i x
    → take (i + 1) xs ≡ take i xs ++ x ∷ []
take_next [] i x l e = absurd (omega (arith, l))
take_next (y ∷ xs) zero x l e = ap (λ n. take n (y ∷ xs)) (sym one) ∙ ap (λ z. z ∷ []) (sym e)
take_next (y ∷ xs) (suc i) x l e =
    ap (λ n. take n (y ∷ xs)) (one_after i) ∙ ap (λ ys. y ∷ ys) (take_next xs i x (omega (arith, l)) e)
  where
    one_after : (i : ℕ) → suc i + 1 ≡ suc (i + 1)
    one_after i = omega arith
