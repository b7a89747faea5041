-- What may be open, and what may have been read last, in tokens that begin a file.
use Rattle.std.proofs.Common.{◌≡◌, List, [], ◌∷◌, Bool, true, false, Some, None}
use Rattle.bicep_machine.specs.declared.word.Word.{Word}
use Rattle.bicep_machine.specs.declared.word.Word.TheVariants as w
use Rattle.bicep_machine.specs.declared.word.Owner.TheVariants as owner
use Rattle.bicep_machine.specs.Stack as s
use Rattle.bicep_machine.specs.Stack.{Header, header, Front, nothing_before, Frame, grouping, calling, indexing}
use Rattle.bicep_machine.specs.Stack.{opened, in_array, in_object, in_text, prefixing, left, asked, chosen, valued}
use Rattle.bicep_machine.specs.Stack.{assigned, over, body_over, in_names, looped, in_condition, bodied, in_file}
use Rattle.bicep_machine.specs.Stack.{State, wanted, qualifying, qualified, dotted, done, paused, item, for_wanted}
use Rattle.bicep_machine.specs.Stack.{names_wanted, one_wanted, one_named, other_wanted, both_named, member, labelled}
use Rattle.bicep_machine.specs.Stack.{past_member, among, looped_body, condition, guarded, body_end, at_sign}
use Rattle.bicep_machine.specs.Stack.{decorator_named, decorator_spaced, decorator_ready, decorated, past_decorators}
use Rattle.bicep_machine.specs.Stack.{declaring, declared, typed, headed, existed, between, past_statement, Next}
use Rattle.bicep_machine.specs.Closing.{takes_loops}

-- what comes next in what is open
pub data Place : Type 0 where
  -- an expression, or the object of a body
  inside : Place
  -- a member of an object
  members : Place
  -- a statement of the file
  statements : Place
  -- what decorators stand before: a member or a statement
  decorating : Place
  -- a for-expression
  looping : Place

-- where a resource or a module is
abbrev pub place_of : Header → Place
place_of (header ds at (owner.Child x) n q) = members
place_of (header ds at p n q) = statements

-- no condition was read before the object
abbrev pub IsFree : Front → Type 0
IsFree nothing_before = Unit {0}
IsFree (s.a_loop l) = Unit {0}
IsFree f = ⊥

-- an object there is no body
abbrev pub IsValue : List Frame → Type 0
IsValue (bodied h f ∷ S) = ⊥
IsValue S = Unit {0}

-- that place is open
abbrev pub Fits : Place → List Frame → Type 0
Fits p [] = ⊥
Fits inside (grouping at was ∷ S) = IsValue S × Fits inside S
Fits inside (calling (s.function g) was es ∷ S) = IsValue S × Fits inside S
Fits inside (calling (s.decorating ds at g) was es ∷ S) = (was ≡ false) × Fits decorating S
Fits inside (indexing e k ∷ S) = IsValue S × Fits inside S
Fits inside (opened at was ∷ S) = IsValue S × Fits inside S
Fits inside (in_array at was es ∷ S) = IsValue S × Fits inside S
Fits inside (in_object at was ms ∷ S) = ⊥
Fits inside (in_text at head hs ∷ S) = IsValue S × Fits inside S
Fits inside (prefixing at p ∷ S) = IsValue S × Fits inside S
Fits inside (left o e ∷ S) = IsValue S × Fits inside S
Fits inside (asked c ∷ S) = IsValue S × Fits inside S
Fits inside (chosen c e ∷ S) = IsValue S × Fits inside S
Fits inside (valued l ∷ S) = Fits members S
Fits inside (assigned ds d ∷ S) = Fits statements S
Fits inside (over at ns ∷ S) = Fits looping S
Fits inside (body_over at ns h ∷ S) = Fits (place_of h) S
Fits inside (in_names at ∷ S) = ⊥
Fits inside (looped l ∷ S) = Fits looping S
Fits inside (in_condition at h f ∷ S) = IsFree f × Fits (place_of h) S
Fits inside (bodied h f ∷ S) = Fits (place_of h) S
Fits inside (in_file ss ∷ S) = ⊥
Fits members (in_object at was ms ∷ S) = Fits inside S
Fits members (F ∷ S) = ⊥
Fits statements (in_file ss ∷ []) = Unit {0}
Fits statements (F ∷ S) = ⊥
Fits decorating (in_object at was ms ∷ S) = Fits inside S
Fits decorating (in_file ss ∷ []) = Unit {0}
Fits decorating (F ∷ S) = ⊥
Fits looping (valued l ∷ S) = Fits members S
Fits looping (assigned ds d ∷ S) = (takes_loops d ≡ true) × Fits statements S
Fits looping (F ∷ S) = ⊥

-- an expression may stand there
abbrev pub Value : List Frame → Type 0
Value S = IsValue S × Fits inside S

-- a body comes there, and nothing of it was read
abbrev pub Bare : List Frame → Type 0
Bare (bodied h nothing_before ∷ S) = Fits (place_of h) S
Bare S = ⊥

-- a body comes there, and no condition of it was read
abbrev pub Free : List Frame → Type 0
Free (bodied h f ∷ S) = IsFree f × Fits (place_of h) S
Free S = ⊥

-- the object of a body comes there
abbrev pub Body : List Frame → Type 0
Body (bodied h f ∷ S) = Fits (place_of h) S
Body S = ⊥

-- the names of a body's loop are open
abbrev pub Names : List Frame → Type 0
Names (in_names at ∷ S) = Bare S
Names S = ⊥

-- a loop may stand there, of a value or of a body
abbrev pub Loop : List Frame → Type 0
Loop (valued l ∷ S) = Fits members S
Loop (assigned ds d ∷ S) = (takes_loops d ≡ true) × Fits statements S
Loop (bodied h nothing_before ∷ S) = Fits (place_of h) S
Loop S = ⊥

-- where a declaration of that word is
abbrev pub place_at : Word → Place
place_at w.Child = members
place_at v = statements

-- the words after which a name comes, and a type
abbrev pub IsNamed : Word → Type 0
IsNamed w.TargetScope = ⊥
IsNamed v = Unit {0}

abbrev pub IsTyped : Word → Type 0
IsTyped w.Param = Unit {0}
IsTyped w.Output = Unit {0}
IsTyped v = ⊥

-- what was read last fits what is open
abbrev pub Stands : State → Bool → List Frame → Type 0
Stands (wanted b) i S = Value S
Stands s.first i S = Value S
Stands (s.named n) i S = Value S
Stands (qualifying y n) i S = Value S
Stands (qualified y n x) i S = Value S
Stands (dotted k e) i S = Value S
Stands (done e) i S = Value S
Stands (paused e) i S = Value S
Stands item i S = Value S
Stands (for_wanted at) i S = Bare S
Stands (names_wanted at) i S = Bare S
Stands one_wanted i S = Names S
Stands (one_named n) i S = Names S
Stands (other_wanted n) i S = Names S
Stands (both_named n m) i S = Names S
Stands member i S = Fits members S
Stands (labelled n) i S = Fits members S
Stands (past_member m) i S = Fits members S
Stands (among at ns) i S = Loop S
Stands s.body i S = Bare S
Stands looped_body i S = Free S
Stands (condition at) i S = Free S
Stands guarded i S = Body S
Stands (body_end h b) i S = Fits (place_of h) S
Stands (at_sign ds at) i S = Fits decorating S
Stands (decorator_named ds at n) i S = Fits decorating S
Stands (decorator_spaced ds at from) i S = Fits decorating S
Stands (decorator_ready ds at g) i S = Fits decorating S
Stands (decorated ds) i S = (i ≡ false) × Fits decorating S
Stands (past_decorators ds) i S = Fits decorating S
Stands (declaring ds at v) i S = Fits (place_at v) S
Stands (declared ds at v n) i S = IsNamed v × Fits (place_at v) S
Stands (typed ds at v n ty) i S = IsTyped v × Fits (place_at v) S
Stands (headed h) i S = Fits (place_of h) S
Stands (existed h) i S = Fits (place_of h) S
Stands between i S = Fits statements S
Stands (past_statement st) i S = Fits statements S

-- after a step
abbrev pub Follows : Next → Type 0
Follows None = Unit {0}
Follows (Some q) = Stands q.0 q.1 q.2
