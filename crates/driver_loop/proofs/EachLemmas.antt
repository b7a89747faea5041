-- What several deeds give is what the first give, and then what the others give.
use Rattle.std.proofs.Common.{◌≡◌, List, [], ◌∷◌, ◌++◌, refl, sym, ap, ◌∙◌, append_assoc, append-nil, Option, None}
use Rattle.std.proofs.Common.{Some}
use Rattle.driver_loop.specs.declared.action.Action.{Action}
use Rattle.driver_loop.specs.declared.action.Action.TheVariants.{Hand, Take}
use Rattle.driver_loop.specs.declared.fault.DriveFault.{DriveFault}
use Rattle.driver_loop.specs.Actions.{each, first_fault, fault_by, AreHands, AreTakes}
use Rattle.foundation.specs.Options.{or_else}

pub each_append : {A : Type 0} (f : Action → List A) (l m : List Action) → each f (l ++ m) ≡ each f l ++ each f m
unfolding each
each_append f [] m = refl
each_append f (x ∷ l) m = ap (λ t. f x ++ t) (each_append f l m) ∙ sym (append_assoc (f x) (each f l) (each f m))

pub each_one : {A : Type 0} (f : Action → List A) (x : Action) → each f (x ∷ []) ≡ f x
unfolding each
each_one f x = append-nil (f x)

pub each_none : {A : Type 0} (f : Action → List A) → each f [] ≡ []
unfolding each
each_none f = refl

-- one more deed gives if_own part
pub each_more : {A : Type 0} (f : Action → List A) (l : List Action) (x : Action)
    → each f (l ++ x ∷ []) ≡ each f l ++ f x
each_more f l x = each_append f l (x ∷ []) ∙ ap (λ t. each f l ++ t) (each_one f x)

-- two runs after each other
pub each_chain : {A : Type 0} (f : Action → List A) (l m : List Action) (a b c : List A) → b ≡ a ++ each f l
    → c ≡ b ++ each f m → c ≡ a ++ each f (l ++ m)
each_chain f l m a b c p q = q ∙ ap (λ t. t ++ each f m) p ∙ append_assoc a (each f l) (each f m)
    ∙ ap (λ t. a ++ t) (sym (each_append f l m))

or_assoc : (a b c : Option DriveFault) → or_else (or_else a b) c ≡ or_else a (or_else b c)
or_assoc None b c = refl
or_assoc (Some x) b c = refl

pub fault_append : (l m : List Action) → first_fault (l ++ m) ≡ or_else (first_fault l) (first_fault m)
unfolding first_fault
fault_append [] m = refl
fault_append (x ∷ l) m = ap (λ t. or_else (fault_by x) t) (fault_append l m)
    ∙ sym (or_assoc (fault_by x) (first_fault l) (first_fault m))

pub hands_append : (l m : List Action) → AreHands l → AreHands m → AreHands (l ++ m)
unfolding AreHands
hands_append [] m a b = b
hands_append (Hand j ∷ l) m a b = hands_append l m a b
hands_append (Take d r ∷ l) m a b = absurd a

pub takes_append : (l m : List Action) → AreTakes l → AreTakes m → AreTakes (l ++ m)
unfolding AreTakes
takes_append [] m a b = b
takes_append (Hand j ∷ l) m a b = absurd a
takes_append (Take d r ∷ l) m a b = takes_append l m a b
