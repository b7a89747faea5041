-- What the step at a part of a declaration comes to, by the word that begins the declaration.
use Rattle.std.proofs.Common.{◌≡◌, ℕ, List, refl, false}
use Rattle.bicep_tree.specs.declared.leaf.Name.{Name}
use Rattle.bicep_tree.specs.declared.leaf.Literal.TheVariants as l
use Rattle.bicep_tree.specs.declared.leaf.TypeName.{TypeName}
use Rattle.bicep_tree.specs.declared.terminal.Terminal.{Terminal}
use Rattle.bicep_tree.specs.declared.terminal.Terminal.TheVariants as t
use Rattle.bicep_machine.specs.declared.word.Word.TheVariants as w
use Rattle.bicep_machine.specs.declared.word.Owner.TheVariants as owner
use Rattle.bicep_machine.specs.Stack.{Frame, Decorators, to_scope, to_output}
use Rattle.bicep_machine.specs.Machine.{declaring_step, declared_step, typed_step}
use Rattle.bicep_machine.specs.Folding.{typing_step, heading_step, assigning_step}

pub declared-Param : (ds : Decorators) (from : ℕ) (n : Name) (S : List Frame) (at : ℕ) (x : Terminal)
    → declared_step ds from w.Param n S at x ≡ typing_step ds from w.Param n S x
declared-Param ds from n S at (t.Name s) = refl
declared-Param ds from n S at x = refl

pub declared-Output : (ds : Decorators) (from : ℕ) (n : Name) (S : List Frame) (at : ℕ) (x : Terminal)
    → declared_step ds from w.Output n S at x ≡ typing_step ds from w.Output n S x
declared-Output ds from n S at (t.Name s) = refl
declared-Output ds from n S at x = refl

pub declared-Resource : (ds : Decorators) (from : ℕ) (n : Name) (S : List Frame) (at : ℕ) (x : Terminal)
    → declared_step ds from w.Resource n S at x ≡ heading_step ds from (owner.Resource false) n S at x
declared-Resource ds from n S at (t.Literal (l.Text s)) = refl
declared-Resource ds from n S at (t.Literal v) = refl
declared-Resource ds from n S at x = refl

pub declared-Child : (ds : Decorators) (from : ℕ) (n : Name) (S : List Frame) (at : ℕ) (x : Terminal)
    → declared_step ds from w.Child n S at x ≡ heading_step ds from (owner.Child false) n S at x
declared-Child ds from n S at (t.Literal (l.Text s)) = refl
declared-Child ds from n S at (t.Literal v) = refl
declared-Child ds from n S at x = refl

pub declared-Module : (ds : Decorators) (from : ℕ) (n : Name) (S : List Frame) (at : ℕ) (x : Terminal)
    → declared_step ds from w.Module n S at x ≡ heading_step ds from owner.Module n S at x
declared-Module ds from n S at (t.Literal (l.Text s)) = refl
declared-Module ds from n S at (t.Literal v) = refl
declared-Module ds from n S at x = refl

pub ruleset declared = (declared-Param, declared-Output, declared-Resource, declared-Child, declared-Module)

pub declaring-TargetScope : (ds : Decorators) (from : ℕ) (S : List Frame) (at : ℕ) (x : Terminal)
    → declaring_step ds from w.TargetScope S at x ≡ assigning_step ds (to_scope from) S x
declaring-TargetScope ds from S at t.Assign = refl
declaring-TargetScope ds from S at x = refl

pub ruleset declaring = (declaring-TargetScope)

pub typed-Output : (ds : Decorators) (from : ℕ) (n : Name) (ty : TypeName) (S : List Frame) (x : Terminal)
    → typed_step ds from w.Output n ty S x ≡ assigning_step ds (to_output from n ty) S x
typed-Output ds from n ty S t.Assign = refl
typed-Output ds from n ty S x = refl

pub ruleset typed = (typed-Output)
