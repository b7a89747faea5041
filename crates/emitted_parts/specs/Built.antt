-- What functions return that build expressions of the expressions of parts.
use Rattle.std.specs.Prelude.{◌≡◌, nat_lt, Bool, List, [], ◌∷◌, ◌++◌, map, ℕ, Result, Ok, Err, IfOk, codes}
use Rattle.std.specs.List.{list_all}
use Rattle.std.specs.declared.vec.Vec.{Vec}
use Rattle.std.specs.declared.alloc.Global.{Global}
use Rattle.std.specs.declared.alloc.AllocError.{AllocError}
use Rattle.std.specs.declared.boxed.Box.{Box}
use Rattle.arm_expr.specs.Tree.{Tree, Trees, trees, call}
use Rattle.arm_expr.specs.Tree as tree
use Rattle.arm_expr.specs.View.{tree_of}
use Rattle.arm_expr.specs.declared.expr.Expr.{Expr}
use Rattle.bicep_emission.specs.Emitted.{one, two}
use Rattle.arm_ids.specs.Members.{deployment_type}

-- an expression that is built, or no memory
abbrev pub Is : Tree → Result Expr AllocError → Type 0
Is t r = IfOk r (λ e. tree_of e ≡ t)

-- expressions that are built, or no memory
abbrev pub Are : Trees → Result (Vec Expr Global) AllocError → Type 0
Are ts r = IfOk r (λ es. trees (map tree_of es.items) ≡ ts)

-- a list and an item, where both are there, are these items
abbrev pub AreWith : {T : Type 0} → Result (Vec T Global) AllocError → Result T AllocError → List T → Type 0
AreWith (Ok xs) (Ok x) ys = ys ≡ xs.items ++ x ∷ []
AreWith (Ok xs) (Err e) ys = ⊥
AreWith (Err e) x ys = ⊥

-- a list with one more item, or no memory
abbrev pub IsAdded : {T : Type 0} → Result (Vec T Global) AllocError → Result T AllocError
    → Result (Vec T Global) AllocError → Type 0
IsAdded xs x r = IfOk r (λ ys. AreWith xs x ys.items)

-- a text, or no memory
abbrev pub IsText : List ℕ → Result (List ℕ) AllocError → Type 0
IsText t r = IfOk r (λ s. s ≡ t)

-- an expression in a box, or no memory
abbrev pub IsBoxed : Tree → Result (Box Expr Global) AllocError → Type 0
IsBoxed t r = IfOk r (λ b. tree_of b.value ≡ t)

-- the nested deployment of a name
abbrev pub deployment_tree : Tree → Tree
deployment_tree name =
    call (codes "reference") (one (call (codes "resourceId") (two (tree.text deployment_type) name)))

-- whether all characters are of ASCII
abbrev pub is_ascii : List ℕ → Bool
is_ascii s = list_all (λ b. nat_lt b 128) s
