-- How deep the JSON of a tree nests: at most as deep as the tree.
use Rattle.std.proofs.Common.{◌≡◌, ◌≤◌, ◌+◌, ℕ, suc, max, List, [], ◌∷◌, ◌++◌, Ordering, Less, Equal, Greater}
use Rattle.std.proofs.Common.{Ok, Err, Result, subst, sym, arith}
use Rattle.std.specs.Prelude.{IfOk}
use Rattle.std.specs.Ordering.{match_ordering}
use Rattle.std.specs.declared.alloc.AllocError.{AllocError}
use Rattle.arm_value.specs.Json.{Json, Member, nesting, row_nesting, items_nesting, members_nesting}
use Rattle.arm_value.specs.Json.{key_cmp, put, put_each}
use Rattle.arm_value.specs.View.{json}
use Rattle.arm_value.specs.declared.value.Value.{Value}
use Rattle.arm_expr.specs.Tree.{Tree}
use Rattle.bicep_tree.specs.declared.leaf.Literal.{Literal}
use Rattle.bicep_tree.specs.declared.leaf.Literal.TheVariants as l
use Rattle.emitted_trees.specs.Templates.{TemplateTree, TemplateItems, TemplateMembers, TemplateValue}
use Rattle.emitted_trees.specs.Templates as t
use Rattle.emitted_trees.specs.Written.{literal_json, loop_json, copy_member, tree_json, items_json, own_members, loops}
use Rattle.tree_building.specs.Built.{IsTree, NestsWithin, Matches, IsValue, Fits}
use Rattle.tree_building.specs.Depth.{depth, items_depth, members_depth, value_depth}
use Rattle.tree_building.specs.declared.parts.Written.{Written}
use Rattle.tree_building.specs.declared.parts.Written.TheVariants as w

-- ---- members put among others

put_by : (o : Ordering) (k : List ℕ) (j : Json) (m : Member) (ms : List Member)
    → members_nesting (put k j ms) ≤ max (nesting j) (members_nesting ms)
    → members_nesting (match_ordering o ((k, j) ∷ m ∷ ms) ((k, j) ∷ ms) (m ∷ put k j ms))
    ≤ max (nesting j) (max (nesting m.1) (members_nesting ms))
put_by Less k j m ms h = omega arith
put_by Equal k j m ms h = omega arith
put_by Greater k j m ms h = omega arith

pub put_nests : (k : List ℕ) (j : Json) (ms : List Member)
    → members_nesting (put k j ms) ≤ max (nesting j) (members_nesting ms)
put_nests k j [] = omega arith
put_nests k j (m ∷ ms) = put_by (key_cmp k m.0) k j m ms (put_nests k j ms)

pub put_each_nests : (ms ns : List Member)
    → members_nesting (put_each ms ns) ≤ max (members_nesting ms) (members_nesting ns)
put_each_nests ms [] = omega arith
put_each_nests ms (n ∷ ns) =
    let a = put_nests n.0 n.1 ms in
    let b = put_each_nests (put n.0 n.1 ms) ns in
    omega arith

append_nests : (ms ns : List Member) → members_nesting (ms ++ ns) ≤ max (members_nesting ms) (members_nesting ns)
append_nests [] ns = omega arith
append_nests (m ∷ ms) ns = let a = append_nests ms ns in omega arith

-- ---- loops

pub loop_nests : (k : List ℕ) (c : Tree) (j : Json) → nesting (loop_json k c j) ≤ suc (nesting j)
unfolding lib.Utf8.encode
loop_nests k c j = omega arith

-- the member `copy` of these nests at most so deep
abbrev Flat : List Json → ℕ → Type 0
Flat [] n = Unit {0}
Flat (j ∷ js) n = suc (items_nesting (j ∷ js)) ≤ n

fits_more : (js : List Json) (m n : ℕ) → m ≤ n → Flat js m → Flat js n
fits_more [] m n l h = tt
fits_more (j ∷ js) m n l h = omega arith

fits_front : (j : Json) (js : List Json) (m n : ℕ) → nesting j ≤ suc m → Flat js n
    → Flat (j ∷ js) (max (suc (suc m)) n)
fits_front j [] m n h f = omega arith
fits_front j (k ∷ ks) m n h f = omega arith

copy_nests : (js : List Json) (n : ℕ) → Flat js n → members_nesting (copy_member js) ≤ n
copy_nests [] n h = omega arith
copy_nests (j ∷ js) n h = omega arith

pub items_within : (js : List Json) (n : ℕ) → Flat js (suc n) → items_nesting js ≤ n
items_within [] n h = omega arith
items_within (j ∷ js) n h = omega arith

-- ---- trees

literal_nests : (v : Literal) → nesting (literal_json v) ≤ 0
literal_nests (l.Number z) = omega arith
literal_nests (l.Text s) = omega arith
literal_nests l.True = omega arith
literal_nests l.False = omega arith
literal_nests l.Null = omega arith

mutual
  pub tree_nests : (e : TemplateTree) → nesting (tree_json e) ≤ depth e
  tree_nests (t.literal v) = literal_nests v
  tree_nests (t.expression e) = omega arith
  tree_nests (t.array es) = let a = items_nest es in omega arith
  tree_nests (t.object ms) =
      let a = own_nest ms in
      let b = copy_nests (loops ms) (members_depth ms) (loops_fit ms) in
      let c = append_nests (own_members ms) (copy_member (loops ms)) in
      let d = put_each_nests [] (own_members ms ++ copy_member (loops ms)) in
      omega arith

  items_nest : (es : TemplateItems) → row_nesting (items_json es) ≤ items_depth es
  items_nest t.no_item = omega arith
  items_nest (t.item e es) = let a = tree_nests e in let b = items_nest es in omega arith

  own_nest : (ms : TemplateMembers) → members_nesting (own_members ms) ≤ members_depth ms
  own_nest t.no_member = omega arith
  own_nest (t.member k (t.plain e) ms) = let a = tree_nests e in let b = own_nest ms in omega arith
  own_nest (t.member k (t.each c e) ms) = let b = own_nest ms in omega arith

  pub loops_fit : (ms : TemplateMembers) → Flat (loops ms) (members_depth ms)
  loops_fit t.no_member = tt
  loops_fit (t.member k (t.plain e) ms) =
      fits_more (loops ms) (members_depth ms) (max (depth e) (members_depth ms)) (omega arith) (loops_fit ms)
  loops_fit (t.member k (t.each c e) ms) =
      let a = tree_nests e in
      let b = loop_nests k c (tree_json e) in
      fits_front (loop_json k c (tree_json e)) (loops ms) (depth e) (members_depth ms) (omega arith) (loops_fit ms)

-- the loops of the members of an object that nests at most so deep
pub loops_nest : (ms : TemplateMembers) (n : ℕ) → members_depth ms ≤ suc n → items_nesting (loops ms) ≤ n
loops_nest ms n h =
    items_within (loops ms) n (fits_more (loops ms) (members_depth ms) (suc n) h (loops_fit ms))

-- what is built nests at most as deep as its tree
json_nests : (e : TemplateTree) (j : Json) (n : ℕ) → j ≡ tree_json e → depth e ≤ n → nesting j ≤ n
json_nests e j n h d = subst (λ j. nesting j ≤ n) (sym h) (within (nesting (tree_json e)) (tree_nests e))
  where
    within : (m : ℕ) → m ≤ depth e → m ≤ n
    within m l = omega arith

pub built_nests : (e : TemplateTree) (r : Result Value AllocError) (n : ℕ) → IsTree e r → depth e ≤ n → NestsWithin n r
built_nests e (Ok v) n h d = json_nests e (json v) n h d
built_nests e (Err x) n h d = tt

made_fits : (v : TemplateValue) (x : Written) → Matches v x → value_depth v ≤ 119 → Fits x
made_fits (t.plain e) (w.Tree v) h d = json_nests e (json v) 119 h d
made_fits (t.plain e) (w.Each l) h d = absurd h
made_fits (t.each c e) (w.Tree v) h d = absurd h
made_fits (t.each c e) (w.Each l) h d = json_nests e (json l.input) 117 h.1 (omega arith)

pub written_fits : (v : TemplateValue) (r : Result Written AllocError) → IsValue v r → value_depth v ≤ 119
    → IfOk r Fits
written_fits v (Ok x) h d = made_fits v x h d
written_fits v (Err e) h d = tt
