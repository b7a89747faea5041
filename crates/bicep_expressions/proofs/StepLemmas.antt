-- What steps come to, where the token is none of those that they name.
use Rattle.std.proofs.Common.{◌≡◌, ℕ, Bool, true, List, refl, false}
use Rattle.bicep_tree.specs.declared.leaf.Name.{Name}
use Rattle.bicep_tree.specs.declared.terminal.Terminal.{Terminal}
use Rattle.bicep_tree.specs.declared.terminal.Terminal.TheVariants as t
use Rattle.bicep_machine.specs.Stack.{Frame}
use Rattle.bicep_tree.specs.declared.leaf.Namespace.{Namespace}
use Rattle.bicep_tree.specs.declared.leaf.Access.{Access}
use Rattle.bicep_tree.specs.declared.leaf.Access.TheVariants as a
use Rattle.bicep_tree.specs.declared.leaf.Operator.{Operator}
use Rattle.bicep_tree.specs.Tree.{Tree, name}
use Rattle.bicep_machine.specs.Kept.{Kept, flat, of_access}
use Rattle.bicep_machine.specs.Closing.{closed}
use Rattle.bicep_expressions.specs.Ends.{ended_on}
use Rattle.bicep_machine.specs.Machine.{begun, wanted_step, first_step, item_step, gone_on, named_step, qualified_step}

pub wanted-other : (w i : Bool) (S : List Frame) (at : ℕ) (x : Terminal) → (x ≡ t.Newline → ⊥)
    → wanted_step w i S at x ≡ begun i S at x
wanted-other false i S at x h = refl
wanted-other true i S at t.Newline h = absurd (h refl)
wanted-other true i S at x h = refl

pub first-other : (i : Bool) (S : List Frame) (at : ℕ) (x : Terminal) → (x ≡ t.CloseParen → ⊥)
    → first_step 64 i S at x ≡ begun i S at x
first-other i S at t.CloseParen h = absurd (h refl)
first-other i S at x h = refl

pub item-other : (S : List Frame) (at : ℕ) (x : Terminal) → (x ≡ t.Newline → ⊥) → (x ≡ t.Comma → ⊥)
    → (x ≡ t.CloseBracket → ⊥) → item_step 64 S at x ≡ begun false S at x
item-other S at t.Newline h g k = absurd (h refl)
item-other S at t.Comma h g k = absurd (g refl)
item-other S at t.CloseBracket h g k = absurd (k refl)
item-other S at x h g k = refl

pub qualified-other : (space : Namespace) (n m : Name) (i : Bool) (S : List Frame) (x : Terminal)
    → (x ≡ t.OpenParen → ⊥)
    → qualified_step 64 space n m i S x ≡ gone_on 64 (of_access 64 (flat (name n)) a.Member m) i S x
qualified-other space n m i S t.OpenParen h = absurd (h refl)
qualified-other space n m i S x h = refl

-- after a name, what is neither `(` nor an access nor a name goes on as after any expression
pub named-other : (n : Name) (i : Bool) (S : List Frame) (at : ℕ) (x : Terminal) → (x ≡ t.OpenParen → ⊥)
    → ((k : Access) → x ≡ t.Access k → ⊥) → ((s : List ℕ) → x ≡ t.Name s → ⊥)
    → named_step 64 n i S at x ≡ gone_on 64 (flat (name n)) i S x
named-other n i S at t.OpenParen h g k = absurd (h refl)
named-other n i S at (t.Access q) h g k = absurd (g q refl)
named-other n i S at (t.Name s) h g k = absurd (k s refl)
named-other n i S at x h g k = refl

-- what does not go on with an expression ends it
pub gone_on-other : (e : Kept Tree) (i : Bool) (S : List Frame) (x : Terminal) → ((k : Access) → x ≡ t.Access k → ⊥)
    → (x ≡ t.OpenBracket → ⊥) → (x ≡ t.SafeBracket → ⊥) → (x ≡ t.Not → ⊥) → ((o : Operator) → x ≡ t.Operator o → ⊥)
    → (x ≡ t.Question → ⊥) → (x ≡ t.Newline → ⊥) → ((s : List ℕ) → x ≡ t.Name s → ⊥)
    → gone_on 64 e i S x ≡ ended_on i (closed 64 0 e S) x
gone_on-other e i S (t.Access k) h1 h2 h3 h4 h5 h6 h7 h8 = absurd (h1 k refl)
gone_on-other e i S t.OpenBracket h1 h2 h3 h4 h5 h6 h7 h8 = absurd (h2 refl)
gone_on-other e i S t.SafeBracket h1 h2 h3 h4 h5 h6 h7 h8 = absurd (h3 refl)
gone_on-other e i S t.Not h1 h2 h3 h4 h5 h6 h7 h8 = absurd (h4 refl)
gone_on-other e i S (t.Operator o) h1 h2 h3 h4 h5 h6 h7 h8 = absurd (h5 o refl)
gone_on-other e i S t.Question h1 h2 h3 h4 h5 h6 h7 h8 = absurd (h6 refl)
gone_on-other e i S t.Newline h1 h2 h3 h4 h5 h6 h7 h8 = absurd (h7 refl)
gone_on-other e i S (t.Name s) h1 h2 h3 h4 h5 h6 h7 h8 = absurd (h8 s refl)
gone_on-other e i S x h1 h2 h3 h4 h5 h6 h7 h8 = refl
