-- What is kept of symbols that are in a table, and of others.
use Rattle.std.proofs.Common.{◌≡◌, List, [], Bool, true, false, sym, subst}
use Rattle.std.specs.Prelude.{Result, IfOk, if◌then◌else◌}
use Rattle.std.specs.declared.vec.Vec.{Vec}
use Rattle.std.specs.declared.alloc.Global.{Global}
use Rattle.std.specs.declared.alloc.AllocError.{AllocError}
use Rattle.arm_expr.specs.Tree.{Tree}
use Rattle.bicep_emission.specs.Emitted.{no_value}
use Rattle.kept_expressions.specs.Kept.{IsKept, IsKeptHoles, AreKeptHoles}
use Rattle.kept_expressions.specs.declared.keeping.Kept.{Kept}
use Rattle.kept_expressions.specs.declared.keeping.KeptHoles.{KeptHoles}

pub holes_known : (r : Result KeptHoles AllocError) (b : Bool) (t u : Tree) → true ≡ b → t ≡ u
    → IfOk r (IsKeptHoles t) → IfOk r (IsKeptHoles (if b then u else no_value))
holes_known r b t u e same h =
    subst (λ c. IfOk r (IsKeptHoles (if c then u else no_value))) e (subst (λ x. IfOk r (IsKeptHoles x)) same h)

pub holes_unknown : (r : Result KeptHoles AllocError) (b : Bool) (u : Tree) → false ≡ b → IfOk r (IsKeptHoles no_value)
    → IfOk r (IsKeptHoles (if b then u else no_value))
holes_unknown r b u e h = subst (λ c. IfOk r (IsKeptHoles (if c then u else no_value))) e h

pub list_known : (r : Result (Vec KeptHoles Global) AllocError) (b : Bool) (ts : List Tree) → true ≡ b
    → IfOk r (λ ps. AreKeptHoles ts ps.items) → IfOk r (λ ps. AreKeptHoles (if b then ts else []) ps.items)
list_known r b ts e h = subst (λ c. IfOk r (λ ps. AreKeptHoles (if c then ts else []) ps.items)) e h

pub list_unknown : (r : Result (Vec KeptHoles Global) AllocError) (b : Bool) (ts : List Tree) → false ≡ b
    → IfOk r (λ ps. AreKeptHoles [] ps.items) → IfOk r (λ ps. AreKeptHoles (if b then ts else []) ps.items)
list_unknown r b ts e h = subst (λ c. IfOk r (λ ps. AreKeptHoles (if c then ts else []) ps.items)) e h

-- the first where a condition holds, and the second elsewhere
pub kept_then : (r : Result Kept AllocError) (b : Bool) (t u : Tree) → b ≡ true → IfOk r (IsKept t)
    → IfOk r (IsKept (if b then t else u))
kept_then r b t u e h = subst (λ c. IfOk r (IsKept (if c then t else u))) (sym e) h

pub kept_else : (r : Result Kept AllocError) (b : Bool) (t u : Tree) → b ≡ false → IfOk r (IsKept u)
    → IfOk r (IsKept (if b then t else u))
kept_else r b t u e h = subst (λ c. IfOk r (IsKept (if c then t else u))) (sym e) h
