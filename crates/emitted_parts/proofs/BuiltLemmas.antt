-- Lists of expressions that are built one after another.
use Rattle.std.proofs.Common.{◌≡◌, ◌+◌, ℕ, List, [], ◌∷◌, ◌++◌, map, refl, ap}
use Rattle.std.proofs.Common.{sym, ◌∙◌}
use Rattle.std.proofs.Common.{subst, true}
use Rattle.std.specs.Prelude.{Result, Ok, Err, IfOk}
use Rattle.std.specs.Str.{chars}
use Rattle.foundation.proofs.AsciiWords.{word}
use Rattle.std.specs.declared.vec.Vec.{Vec}
use Rattle.std.specs.declared.alloc.Global.{Global}
use Rattle.std.specs.declared.alloc.AllocError.{AllocError}
use Rattle.arm_expr.specs.Tree.{Tree, Trees, trees, none, more}
use Rattle.arm_expr.specs.View.{tree_of}
use Rattle.arm_expr.specs.declared.expr.Expr.{Expr}
use Rattle.emitted_parts.specs.Built.{Is, Are, IsAdded, IsText, is_ascii}

-- these, before others
abbrev pub onto : List Tree → Trees → Trees
onto [] ts = ts
onto (x ∷ xs) ts = more x (onto xs ts)

pub onto_more : (xs : List Tree) (x : Tree) (ts : Trees) → onto (xs ++ x ∷ []) ts ≡ onto xs (more x ts)
onto_more [] x ts = refl
onto_more (y ∷ xs) x ts = ap (more y) (onto_more xs x ts)

pub onto_none : (xs : List Tree) → trees xs ≡ onto xs none
onto_none [] = refl
onto_none (x ∷ xs) = ap (more x) (onto_none xs)

pub map_push : (es : List Expr) (x : Expr) → map tree_of (es ++ x ∷ []) ≡ map tree_of es ++ tree_of x ∷ []
map_push [] x = refl
map_push (e ∷ es) x = ap (λ ts. tree_of e ∷ ts) (map_push es x)

-- the expressions of a list so far are these, and others are to come
abbrev pub Begin : List Tree → Result (Vec Expr Global) AllocError → Type 0
Begin ts r = IfOk r (λ es. map tree_of es.items ≡ ts)

pub begin_more : (ts : List Tree) (t : Tree) (list : Result (Vec Expr Global) AllocError)
    (item : Result Expr AllocError) (r : Result (Vec Expr Global) AllocError) → IsAdded list item r → Begin ts list
    → Is t item → Begin (ts ++ t ∷ []) r
begin_more ts t (Ok es) (Ok e) (Ok r) a b i =
    ap (map tree_of) a ∙ map_push es.items e ∙ ap (λ xs. xs ++ tree_of e ∷ []) b ∙ ap (λ x. ts ++ x ∷ []) i
begin_more ts t list item (Err x) a b i = tt
begin_more ts t (Ok es) (Err x) (Ok r) a b i = absurd a
begin_more ts t (Err x) (Ok e) (Ok r) a b i = absurd a
begin_more ts t (Err x) (Err y) (Ok r) a b i = absurd a

pub are_these : (ts : List Tree) (r : Result (Vec Expr Global) AllocError) → Begin ts r → Are (trees ts) r
are_these ts (Ok es) b = ap trees b
are_these ts (Err x) b = tt

-- one more expression, and those that are still to come
pub grown : (old new : Vec Expr Global) (item : Result Expr AllocError) (t : Tree) (ts rest whole : Trees)
    → IsAdded (Ok old) item (Ok new) → Is t item → onto (map tree_of old.items) ts ≡ whole → ts ≡ more t rest
    → onto (map tree_of new.items) rest ≡ whole
grown old new (Ok e) t ts rest whole a i w m =
    ap (λ xs. onto (map tree_of xs) rest) a ∙ ap (λ xs. onto xs rest) (map_push old.items e)
    ∙ onto_more (map tree_of old.items) (tree_of e) rest
    ∙ ap (λ x. onto (map tree_of old.items) (more x rest)) i ∙ ap (onto (map tree_of old.items)) (sym m) ∙ w
grown old new (Err x) t ts rest whole a i w m = absurd a

-- two more
pub grown_twice : (old new : Vec Expr Global) (middle : Result (Vec Expr Global) AllocError)
    (first second : Result Expr AllocError) (t u : Tree) (ts rest whole : Trees)
    → IsAdded (Ok old) first middle → IsAdded middle second (Ok new) → Is t first → Is u second
    → onto (map tree_of old.items) ts ≡ whole → ts ≡ more t (more u rest) → onto (map tree_of new.items) rest ≡ whole
grown_twice old new (Ok mid) first second t u ts rest whole a b i j w m =
    grown mid new second u (more u rest) rest whole b j
    (grown old mid first t ts (more u rest) whole a i w m) refl
grown_twice old new (Err x) first second t u ts rest whole a b i j w m = absurd b

-- nothing is left
pub all_grown : (new : Vec Expr Global) (ts whole : Trees) → onto (map tree_of new.items) ts ≡ whole → ts ≡ none
    → trees (map tree_of new.items) ≡ whole
all_grown new ts whole w e = onto_none (map tree_of new.items) ∙ ap (onto (map tree_of new.items)) (sym e) ∙ w

-- a list that begins with one expression
pub one_grown : (old new : Vec Expr Global) (item : Result Expr AllocError) (t : Tree) (ts : Trees) → old.items ≡ []
    → IsAdded (Ok old) item (Ok new) → Is t item → onto (map tree_of new.items) ts ≡ more t ts
one_grown old new (Ok e) t ts n a i =
    ap (λ xs. onto (map tree_of xs) ts) (a ∙ ap (λ xs. xs ++ e ∷ []) n) ∙ ap (λ x. more x ts) i
one_grown old new (Err x) t ts n a i = absurd a

pub begin_none : (v : Vec Expr Global) → v.items ≡ [] → Begin [] (Ok v)
begin_none v e = ap (map tree_of) e

-- a text of ASCII that was made of its bytes
pub word_made : (s : List ℕ) (r : Result (List ℕ) AllocError) → is_ascii s ≡ true → IfOk r (λ t. t ≡ chars s)
    → IsText s r
word_made s (Ok t) h e = e ∙ word s h
word_made s (Err x) h e = tt

-- an expression that is this is also that
pub is_also : (t u : Tree) (r : Result Expr AllocError) → t ≡ u → Is t r → Is u r
is_also t u r e i = subst (λ v. Is v r) e i
