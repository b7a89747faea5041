-- What functions return that build values of a template.
use Rattle.std.specs.Prelude.{◌≡◌, ◌≤◌, ℕ, List, [], ◌∷◌, ◌++◌, Result, IfOk}
use Rattle.std.specs.declared.alloc.AllocError.{AllocError}
use Rattle.arm_value.specs.Json.{Json, Member, nesting, object, pairs, put, row}
use Rattle.arm_value.specs.View.{json}
use Rattle.arm_value.specs.declared.value.Value.{Value}
use Rattle.arm_expr.specs.Print.{printed}
use Rattle.arm_expr.specs.Tree.{Tree}
use Rattle.emitted_trees.specs.Templates.{TemplateTree, TemplateItems, TemplateMembers, TemplateValue}
use Rattle.emitted_trees.specs.Templates as t
use Rattle.emitted_trees.specs.Written.{tree_json, items_json, loop_json}
use Rattle.tree_building.specs.declared.parts.Looped.{Looped}
use Rattle.tree_building.specs.declared.parts.Parts.{Parts}
use Rattle.tree_building.specs.declared.parts.Written.{Written}
use Rattle.tree_building.specs.declared.parts.Written.TheVariants as w

-- a value that is built, or no memory
abbrev pub IsTree : TemplateTree → Result Value AllocError → Type 0
IsTree e r = IfOk r (λ v. json v ≡ tree_json e)

-- items that are built, or no memory
abbrev pub AreItems : TemplateItems → Result (List Json) AllocError → Type 0
AreItems es r = IfOk r (λ js. row js ≡ items_json es)

-- a loop that is built
abbrev pub IsLoop : Tree → TemplateTree → Looped → Type 0
IsLoop c e l = (l.count ≡ printed c) × (json l.input ≡ tree_json e)

-- a value of a tree, or a loop, that is built
abbrev pub Matches : TemplateValue → Written → Type 0
Matches (t.plain e) (w.Tree v) = json v ≡ tree_json e
Matches (t.plain e) (w.Each l) = ⊥
Matches (t.each c e) (w.Tree v) = ⊥
Matches (t.each c e) (w.Each l) = IsLoop c e l

abbrev pub IsValue : TemplateValue → Result Written AllocError → Type 0
IsValue v r = IfOk r (Matches v)

-- it nests at most so deep that it can be the value of a member, or a loop of an object
abbrev pub Fits : Written → Type 0
Fits (w.Tree v) = nesting (json v) ≤ 119
Fits (w.Each l) = nesting (json l.input) ≤ 117

-- it nests at most so deep, where it is built
abbrev pub NestsWithin : ℕ → Result Value AllocError → Type 0
NestsWithin n r = IfOk r (λ v. nesting (json v) ≤ n)

-- ---- members

-- the members of an object so far: its own in the order of their names, and its loops
abbrev pub Members : Type 0
Members = List Member × List Json

abbrev pub members_of : Parts → Members
members_of p = (p.own, p.loops)

-- with one more
abbrev pub grown : List ℕ → TemplateValue → Members → Members
grown name (t.plain e) p = (put name (tree_json e) p.0, p.1)
grown name (t.each c e) p = (p.0, p.1 ++ loop_json name c (tree_json e) ∷ [])

-- with all of these
abbrev pub all_grown : TemplateMembers → Members → Members
all_grown t.no_member p = p
all_grown (t.member name v ms) p = all_grown ms (grown name v p)

-- these members, or no memory
abbrev pub AreParts : Members → Result Parts AllocError → Type 0
AreParts p r = IfOk r (λ q. members_of q ≡ p)

-- the members of the object of these, or no memory
abbrev pub AreFields : TemplateMembers → Result (List Member) AllocError → Type 0
AreFields ms r = IfOk r (λ f. object (pairs f) ≡ tree_json (t.object ms))
