-- In which order faults decide: of the members of an object the first in byte order of names, where a member that is
-- missing counts at its own name; of the items of an array the first.
use Rattle.std.specs.Prelude.{ℕ, Bool, true, false, List, [], ◌∷◌, ◌++◌, Option, Some, None, option_map}
use Rattle.std.specs.Prelude.{is_some, decimal, if◌then◌else◌}
use Rattle.std.specs.Ordering.{match_ordering}
use Rattle.arm_value.specs.Json.{Pairs, key_cmp}
use Rattle.arm_value.specs.Look.{first_by, is_same_folded}
use Rattle.arm_value.specs.Pointer.{step, token}
use Rattle.template_parts.specs.declared.fault.TemplateFault.{TemplateFault}
use Rattle.template_parts.specs.declared.fault.TemplateFault.TheVariants.{Missing, WrongForm, Limit, BadExpression}
use Rattle.template_parts.specs.declared.fault.TemplateFault.TheVariants.{ReferenceInVariable, OutOfMemory}
use Rattle.template_values.specs.declared.order.Faulty.{Faulty}

-- a fault of a part, as a fault of what the part is in: its path begins with the step to the part
abbrev pub below : List ℕ → TemplateFault → TemplateFault
below s (Missing path) = Missing (s ++ path)
below s (WrongForm path) = WrongForm (s ++ path)
below s (Limit which n) = Limit which n
below s (BadExpression path) = BadExpression (s ++ path)
below s (ReferenceInVariable path) = ReferenceInVariable (s ++ path)
below s OutOfMemory = OutOfMemory

-- the step to the member of a name, and to the item at a place
abbrev pub to_member : List ℕ → List ℕ
to_member k = step (token k)

abbrev pub to_item : ℕ → List ℕ
to_item i = step (decimal i)

-- the first of two faults
abbrev pub first_of : Option TemplateFault → Option TemplateFault → Option TemplateFault
first_of (Some f) o = Some f
first_of None o = o

-- the fault of a part, and then those of the parts after it
abbrev pub then_faults : List ℕ → Option TemplateFault → Option TemplateFault → Option TemplateFault
then_faults s o rest = first_of (option_map (below s) o) rest

-- the fault of a member, and then those of the members after it
abbrev pub then_members : List ℕ → Option TemplateFault → Option Faulty → Option Faulty
then_members k (Some f) rest = Some (record { name = k; fault = f })
then_members k None rest = rest

-- whether a member has the name, in letters of any case
abbrev pub has : List ℕ → Pairs → Bool
has name ms = is_some (first_by (is_same_folded name) ms)

-- the first of these names, which are in byte order, that no member has
abbrev pub missing : List (List ℕ) → Pairs → Option (List ℕ)
missing [] ms = None
missing (n ∷ ns) ms = if has n ms then missing ns ms else Some n

-- whether the first name comes before the second in byte order
abbrev pub is_before : List ℕ → List ℕ → Bool
is_before k l = match_ordering (key_cmp k l) true false false

-- a member that is missing
abbrev pub lacking : List ℕ → TemplateFault
lacking name = Missing (to_member name)

-- the fault of an object, by the first member that is missing and the first that has a fault
abbrev pub decided : Option (List ℕ) → Option Faulty → Option TemplateFault
decided None None = None
decided None (Some f) = Some (below (to_member f.name) f.fault)
decided (Some name) None = Some (lacking name)
decided (Some name) (Some f) =
    if is_before name f.name then Some (lacking name) else Some (below (to_member f.name) f.fault)
