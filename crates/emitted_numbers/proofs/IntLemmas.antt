-- Numbers in expressions that are emitted are of 64 bits.
use Rattle.std.proofs.Common.{◌≡◌, ◌<◌, ◌+◌, ℕ, zero, suc, List, [], ◌∷◌, ◌++◌, length, Option, Some, None, Bool}
use Rattle.std.proofs.Common.{true, false, codes, refl, ap, arith}
use Rattle.std.proofs.lemmas.Option.{none-some}
use Rattle.std.specs.Prelude.{◌==◌, ◌^◌, map, slice_get, option_and_then, if◌then◌else◌}
use Rattle.arm_ids.specs.Segments.{segments}
use Rattle.arm_expr.specs.Print.{HasInts, HaveInts}
use Rattle.arm_expr.specs.Tree.{Tree, text, trees}
use Rattle.bicep_tree.specs.declared.leaf.Indexing.{Indexing}
use Rattle.bicep_tree.specs.declared.leaf.Indexing.TheVariants as indexing
use Rattle.bicep_tree.specs.declared.leaf.Literal.{Literal}
use Rattle.bicep_tree.specs.declared.leaf.Literal.TheVariants as l
use Rattle.bicep_tree.specs.declared.leaf.Operator.{Operator}
use Rattle.bicep_tree.specs.declared.leaf.Operator.TheVariants as o
use Rattle.bicep_tree.specs.declared.leaf.Prefix.{Prefix}
use Rattle.bicep_tree.specs.declared.leaf.Prefix.TheVariants as prefix
use Rattle.bicep_resolved.specs.declared.leaf.Field.{Field}
use Rattle.bicep_resolved.specs.declared.leaf.Field.TheVariants as field
use Rattle.bicep_resolved.specs.declared.leaf.Meaning.{Meaning}
use Rattle.bicep_resolved.specs.declared.leaf.Meaning.TheVariants as m
use Rattle.bicep_resolved.specs.declared.leaf.Selector.{Selector}
use Rattle.bicep_resolved.specs.declared.leaf.Selector.TheVariants as selector
use Rattle.bicep_resolved.specs.Source.{SourceTree, SourceTrees, PieceTrees, ReachTree, PropertyTrees, ValueTree}
use Rattle.bicep_resolved.specs.Source.{LoopTree, field_named}
use Rattle.bicep_resolved.specs.Source as s
use Rattle.bicep_resolved.specs.Target.{number_of, target_of}
use Rattle.bicep_declared.specs.Declarations.{BodyTree, DeclaredTree}
use Rattle.bicep_declared.specs.Declarations as d
use Rattle.bicep_meaning.specs.Files.{SourceFile, symbol_name, declaration, Parent, no_parent, inside, below, parent}
use Rattle.bicep_meaning.specs.Files.{type_of}
use Rattle.bicep_meaning.specs.Declared.{body_of, body_at}
use Rattle.bicep_emission.specs.Emitted.{Frame, Scope, item_of, index_of, parameter_of, literal_of, binary_of}
use Rattle.bicep_emission.specs.Emitted.{prefix_of, member_of, part_at, output_of, field_of, output_named, emitted}
use Rattle.bicep_emission.specs.Emitted.{all_of, holes_of, members_of, emitted_value, frames_of}
use Rattle.bicep_emission.specs.Emitted as e
use Rattle.emitted_declarations.specs.Declared.{Emission, variable_entry, named_by_symbol, parts_of, parts_by_number}
use Rattle.emitted_declarations.specs.Declared.{segments_from, number_of_parts, value_or_none, variable_of, over}
use Rattle.emitted_declarations.specs.Declared.{module_name, name_by, name_of, parts_by, parts_at, id_at, next, through}
use Rattle.emitted_declarations.specs.Declared.{full_name_by, condition_by, condition_of}
use Rattle.emitted_numbers.specs.Wholes.{HasWholes, HaveWholes, HolesHaveWholes, MembersHaveWholes, ValueHasWholes}
use Rattle.emitted_numbers.specs.Wholes.{IsWholeLiteral, ReachHasWholes, FileHasWholes, HasFewParts, FramesHaveInts}

-- ---- runs

item_whole : (fs : List Frame) (n : ℕ) → FramesHaveInts fs → HasInts (item_of (slice_get fs n))
item_whole [] zero h = tt
item_whole [] (suc n) h = tt
item_whole (f ∷ fs) zero h = h.0.0
item_whole (f ∷ fs) (suc n) h = item_whole fs n h.1

index_whole : (fs : List Frame) (n : ℕ) → FramesHaveInts fs → HasInts (index_of (slice_get fs n))
index_whole [] zero h = tt
index_whole [] (suc n) h = tt
index_whole (f ∷ fs) zero h = h.0.1
index_whole (f ∷ fs) (suc n) h = index_whole fs n h.1

-- ---- constructs

literal_whole : (v : Literal) → IsWholeLiteral v → HasInts (literal_of v)
literal_whole (l.Number z) h = h
literal_whole (l.Text t) h = tt
literal_whole l.True h = tt
literal_whole l.False h = tt
literal_whole l.Null h = tt

binary_whole : (op : Operator) (a b : Tree) → HasInts a → HasInts b → HasInts (binary_of op a b)
binary_whole o.Coalesce a b h g = (h, (g, tt))
binary_whole o.Or a b h g = (h, (g, tt))
binary_whole o.And a b h g = (h, (g, tt))
binary_whole o.Equals a b h g = (h, (g, tt))
binary_whole o.NotEquals a b h g = ((h, (g, tt)), tt)
binary_whole o.EqualsInsensitive a b h g = ((h, tt), ((g, tt), tt))
binary_whole o.NotEqualsInsensitive a b h g = (((h, tt), ((g, tt), tt)), tt)
binary_whole o.Less a b h g = (h, (g, tt))
binary_whole o.LessOrEqual a b h g = (h, (g, tt))
binary_whole o.Greater a b h g = (h, (g, tt))
binary_whole o.GreaterOrEqual a b h g = (h, (g, tt))
binary_whole o.Add a b h g = (h, (g, tt))
binary_whole o.Subtract a b h g = (h, (g, tt))
binary_whole o.Multiply a b h g = (h, (g, tt))
binary_whole o.Divide a b h g = (h, (g, tt))
binary_whole o.Remainder a b h g = (h, (g, tt))

prefix_whole : (p : Prefix) (a : Tree) → HasInts a → HasInts (prefix_of p a)
prefix_whole prefix.Not a h = (h, tt)
prefix_whole prefix.Negate a h = (omega arith, (h, tt))

member_whole : (k : Selector) (a : Tree) (name : List ℕ) → HasInts a → HasInts (member_of k a name)
member_whole selector.Plain a name h = h
member_whole selector.Safe a name h = (h, (tt, tt))

part_whole : (k : Indexing) (a i : Tree) → HasInts a → HasInts i → HasInts (part_at k a i)
part_whole indexing.Plain a i h g = (h, g)
part_whole indexing.Safe a i h g = (h, (g, tt))

parameter_whole : (x : Option (List ℕ)) → HasInts (parameter_of x)
parameter_whole None = tt
parameter_whole (Some x) = (tt, tt)

output_whole : (x : Option (List ℕ)) (a : Tree) → HasInts a → HasInts (output_of x a)
output_whole None a h = tt
output_whole (Some x) a h = ((tt, (h, tt)), tt)

-- ---- expressions

-- what declarations become has numbers of 64 bits
pub record ScopeHasInts (sc : Scope) : Type 0 where
  pub variable : (n : ℕ) → HasInts (sc.variable n)
  pub items : (n : ℕ) → HasInts (sc.items n)
  pub name : (n : ℕ) (fs : List Frame) → FramesHaveInts fs → HasInts (sc.name n fs)
  pub id : (n : ℕ) (fs : List Frame) → FramesHaveInts fs → HasInts (sc.id n fs)

module _ (file : SourceFile) (files : List SourceFile) (sc : Scope) (sn : ScopeHasInts sc) where
  name_whole : (x : Meaning) (fs : List Frame) → FramesHaveInts fs → HasInts (e.named file files sc x fs)
  name_whole (m.Parameter n) fs g = parameter_whole (symbol_name file n)
  name_whole (m.Variable n) fs g = sn.variable n
  name_whole (m.Item n) fs g = item_whole fs n g
  name_whole (m.Index n) fs g = index_whole fs n g

  field_whole : (n : ℕ) (x : Field) (fs : List Frame) → FramesHaveInts fs → HasInts (field_of file files sc n x fs)
  field_whole n field.Id fs g = sn.id n fs g
  field_whole n field.Name fs g = sn.name n fs g
  field_whole n field.Type fs g = tt
  field_whole n field.ApiVersion fs g = tt
  field_whole n field.Properties fs g = (sn.id n fs g, (tt, tt))
  field_whole n field.Outputs fs g = tt
  field_whole n (field.Other x) fs g = (sn.id n fs g, (tt, (tt, tt)))

  mutual
    pub expression_whole : (x : SourceTree) (fs : List Frame) → HasWholes x → FramesHaveInts fs
        → HasInts (emitted file files sc x fs)
    expression_whole (s.name at x) fs h g = name_whole x fs g
    expression_whole (s.literal at v) fs h g = literal_whole v h
    expression_whole (s.interpolated at first ps) fs h g = (tt, holes_whole ps fs h g)
    expression_whole (s.object at ps) fs h g = members_whole ps fs h g
    expression_whole (s.array at es) fs h g = all_whole es fs h g
    expression_whole (s.call at name es) fs h g = all_whole es fs h g
    expression_whole (s.instance r) fs h g = tt
    expression_whole (s.field r at x) fs h g =
        field_whole (number_of (target_of r)) x (frames_of file files sc r fs) (frames_whole r fs h g)
    expression_whole (s.output r at k) fs h g =
        output_whole (output_named file files sc (target_of r) k)
        (sc.name (number_of (target_of r)) (frames_of file files sc r fs))
        (sn.name (number_of (target_of r)) (frames_of file files sc r fs) (frames_whole r fs h g))
    expression_whole (s.member x k n) fs h g =
        member_whole k (emitted file files sc x fs) n.text (expression_whole x fs h g)
    expression_whole (s.index x k i) fs h g =
        part_whole k (emitted file files sc x fs) (emitted file files sc i fs) (expression_whole x fs h.0 g)
        (expression_whole i fs h.1 g)
    expression_whole (s.prefixed at p x) fs h g =
        prefix_whole p (emitted file files sc x fs) (expression_whole x fs h g)
    expression_whole (s.binary op x y) fs h g =
        binary_whole op (emitted file files sc x fs) (emitted file files sc y fs) (expression_whole x fs h.0 g)
        (expression_whole y fs h.1 g)
    expression_whole (s.conditional c x y) fs h g =
        (expression_whole c fs h.0 g, (expression_whole x fs h.1.0 g, (expression_whole y fs h.1.1 g, tt)))

    all_whole : (es : SourceTrees) (fs : List Frame) → HaveWholes es → FramesHaveInts fs
        → HaveInts (all_of file files sc es fs)
    all_whole s.none fs h g = tt
    all_whole (s.more x es) fs h g = (expression_whole x fs h.0 g, all_whole es fs h.1 g)

    holes_whole : (ps : PieceTrees) (fs : List Frame) → HolesHaveWholes ps → FramesHaveInts fs
        → HaveInts (holes_of file files sc ps fs)
    holes_whole s.no_piece fs h g = tt
    holes_whole (s.piece x after ps) fs h g = (expression_whole x fs h.0 g, holes_whole ps fs h.1 g)

    members_whole : (ps : PropertyTrees) (fs : List Frame) → MembersHaveWholes ps → FramesHaveInts fs
        → HaveInts (members_of file files sc ps fs)
    members_whole s.no_property fs h g = tt
    members_whole (s.property at name v ps) fs h g = (tt, (value_whole v fs h.0 g, members_whole ps fs h.1 g))

    pub value_whole : (v : ValueTree) (fs : List Frame) → ValueHasWholes v → FramesHaveInts fs
        → HasInts (emitted_value file files sc v fs)
    value_whole (s.plain x) fs h g = expression_whole x fs h g
    value_whole (s.each q x) fs h g = tt

    pub frames_whole : (r : ReachTree) (fs : List Frame) → ReachHasWholes r → FramesHaveInts fs
        → FramesHaveInts (frames_of file files sc r fs)
    frames_whole (s.symbol at x) fs h g = tt
    frames_whole (s.element at x i) fs h g =
        let n = expression_whole i fs h g in
        (((sn.items (number_of x), n), n), tt)

-- ---- declarations

pub record EmissionHasInts (b : Emission) : Type 0 where
  pub scope : ScopeHasInts b.scope
  pub full_name : (n : ℕ) (fs : List Frame) → FramesHaveInts fs → HasInts (b.full_name n fs)
  pub condition : (n : ℕ) (fs : List Frame) → FramesHaveInts fs → HasInts (b.condition n fs)
  pub parts : (n : ℕ) (fs : List Frame) → FramesHaveInts fs → HaveInts (trees (b.parts n fs))

one_more : (ts : List Tree) (t : Tree) → HaveInts (trees ts) → HasInts t → HaveInts (trees (ts ++ t ∷ []))
one_more [] t h g = (g, tt)
one_more (x ∷ ts) t h g = (h.0, one_more ts t h.1 g)

-- the segments of a name from number i on, of which there are n and a rest
segments_whole : (a : Tree) (i n : ℕ) → HasInts a → i + n < 2 ^ 63 → HaveInts (trees (segments_from a i n))
segments_whole a i zero h few = (((((h, (tt, tt)), (omega (arith, few), tt)), (tt, tt))), tt)
segments_whole a i (suc n) h few =
    (((h, (tt, tt)), omega (arith, few)), segments_whole a (suc i) n h (omega (arith, few)))

numbered_whole : (a : Tree) (n : ℕ) → HasInts a → n < 2 ^ 63 → HaveInts (trees (parts_by_number a n))
numbered_whole a zero h few = (h, tt)
numbered_whole a (suc zero) h few = (h, tt)
numbered_whole a (suc (suc n)) h few = segments_whole a 0 (suc n) h (omega (arith, few))

texts_whole : (ts : List (List ℕ)) → HaveInts (trees (map text ts))
texts_whole [] = tt
texts_whole (t ∷ ts) = (tt, texts_whole ts)

chosen_whole : (c : Bool) (t : List ℕ) (a : Tree) (n : ℕ) → HaveInts (trees (parts_by_number a n))
    → HaveInts (trees (if c then map text (segments t) else parts_by_number a n))
chosen_whole true t a n h = texts_whole (segments t)
chosen_whole false t a n h = h

own_parts : (v : Option ValueTree) (a : Tree) (n : ℕ) → HaveInts (trees (parts_by_number a n))
    → HaveInts (trees (parts_of v a n))
own_parts None a n h = h
own_parts (Some (s.each q x)) a n h = h
own_parts (Some (s.plain (s.literal at (l.Text t)))) a n h = chosen_whole (length (segments t) == n) t a n h
own_parts (Some (s.plain (s.literal at (l.Number z)))) a n h = h
own_parts (Some (s.plain (s.literal at l.True))) a n h = h
own_parts (Some (s.plain (s.literal at l.False))) a n h = h
own_parts (Some (s.plain (s.literal at l.Null))) a n h = h
own_parts (Some (s.plain (s.name at x))) a n h = h
own_parts (Some (s.plain (s.interpolated at first ps))) a n h = h
own_parts (Some (s.plain (s.object at ps))) a n h = h
own_parts (Some (s.plain (s.array at es))) a n h = h
own_parts (Some (s.plain (s.call at name es))) a n h = h
own_parts (Some (s.plain (s.instance r))) a n h = h
own_parts (Some (s.plain (s.field r at x))) a n h = h
own_parts (Some (s.plain (s.output r at k))) a n h = h
own_parts (Some (s.plain (s.member x k y))) a n h = h
own_parts (Some (s.plain (s.index x k i))) a n h = h
own_parts (Some (s.plain (s.prefixed at p x))) a n h = h
own_parts (Some (s.plain (s.binary op x y))) a n h = h
own_parts (Some (s.plain (s.conditional c x y))) a n h = h

module _ (file : SourceFile) (files : List SourceFile) (wholes : FileHasWholes file) (parts : HasFewParts file)
    (b : Emission) (bn : EmissionHasInts b) where
  of_value : (v : ValueTree) (fs : List Frame) → ValueHasWholes v → FramesHaveInts fs
      → HasInts (emitted_value file files b.scope v fs)
  of_value = value_whole file files b.scope bn.scope

  of_source : (x : SourceTree) (fs : List Frame) → HasWholes x → FramesHaveInts fs
      → HasInts (emitted file files b.scope x fs)
  of_source = expression_whole file files b.scope bn.scope

  entry_whole : (x : Option (List ℕ)) → HasInts (variable_entry x)
  entry_whole None = tt
  entry_whole (Some x) = (tt, tt)

  either_whole : (q : Bool) (x y : Tree) → HasInts x → HasInts y → HasInts (if q then x else y)
  either_whole true x y h g = h
  either_whole false x y h g = g

  variable_at : (n : ℕ) (u : Option DeclaredTree) → declaration file n ≡ u → HasInts (variable_of file files b n u)
  variable_at n (Some (d.variable at v)) p =
      either_whole (file.has_entry n) (variable_entry (symbol_name file n)) (emitted_value file files b.scope v [])
      (entry_whole (symbol_name file n)) (of_value v [] (wholes.variables n at v p) tt)
  variable_at n (Some (d.parameter at t)) p = tt
  variable_at n (Some (d.parameter_with at t v)) p = tt
  variable_at n (Some (d.a_resource at t existing body)) p = tt
  variable_at n (Some (d.a_module at body)) p = tt
  variable_at n None p = tt

  over_whole : (p : Option LoopTree) → ((at : ℕ) (xs : SourceTree) → p ≡ Some (s.loop at xs) → HasWholes xs)
      → HasInts (over file files b p)
  over_whole None g = tt
  over_whole (Some (s.loop at xs)) g = of_source xs [] (g at xs refl) tt

  loop_wholes : (n : ℕ) (u : Option BodyTree) → body_at file n ≡ u → (at : ℕ) (xs : SourceTree)
      → option_and_then (λ b. b.each) u ≡ Some (s.loop at xs) → HasWholes xs
  loop_wholes n None p at xs h = absurd (none-some (s.loop at xs) h)
  loop_wholes n (Some body) p at xs h = wholes.loops n at body xs p h

  some_whole : (p : Option ValueTree) → ((v : ValueTree) → p ≡ Some v → ValueHasWholes v) → (fs : List Frame)
      → FramesHaveInts fs → HasInts (value_or_none file files b p fs)
  some_whole None g fs h = tt
  some_whole (Some v) g fs h = of_value v fs (g v refl) h

  symbol_whole : (x : Option (List ℕ)) (p : Option LoopTree) (fs : List Frame) → FramesHaveInts fs
      → HasInts (named_by_symbol x p fs)
  symbol_whole None p fs h = tt
  symbol_whole (Some x) None fs h = tt
  symbol_whole (Some x) (Some q) fs h = (tt, (index_whole fs 0 h, tt))

  module_whole : (n : ℕ) (body : BodyTree) (p : Option ValueTree)
      → ((v : ValueTree) → p ≡ Some v → ValueHasWholes v) → (fs : List Frame) → FramesHaveInts fs
      → HasInts (module_name file files b n body p fs)
  module_whole n body (Some v) g fs h = of_value v fs (g v refl) h
  module_whole n body None g fs h = symbol_whole (symbol_name file n) body.each fs h

  name_at : (n : ℕ) (u : Option DeclaredTree) → declaration file n ≡ u → (fs : List Frame) → FramesHaveInts fs
      → HasInts (name_by file files b n u fs)
  name_at n (Some (d.a_resource at t existing body)) p fs h =
      some_whole (field_named (codes "name") body.fields)
      (λ v q. wholes.names n body v (ap (option_and_then body_of) p) q) fs h
  name_at n (Some (d.a_module at body)) p fs h =
      module_whole n body (field_named (codes "name") body.fields)
      (λ v q. wholes.names n body v (ap (option_and_then body_of) p) q) fs h
  name_at n (Some (d.variable at v)) p fs h = tt
  name_at n (Some (d.parameter at t)) p fs h = tt
  name_at n (Some (d.parameter_with at t v)) p fs h = tt
  name_at n None p fs h = tt

  own_whole : (n : ℕ) (fs : List Frame) → FramesHaveInts fs → HasInts (name_of file files b n fs)
  own_whole n fs h = name_at n (declaration file n) refl fs h

  reached : (r : ReachTree) (n : ℕ) (fs : List Frame) → parent file n ≡ below r → FramesHaveInts fs
      → FramesHaveInts (frames_of file files b.scope r fs)
  reached r n fs p h = frames_whole file files b.scope bn.scope r fs (wholes.parents n r p) h

  full_name_at : (n : ℕ) (p : Parent) → parent file n ≡ p → (fs : List Frame) → FramesHaveInts fs
      → HasInts (full_name_by file files b p (name_of file files b n fs) fs)
  full_name_at n no_parent p fs h = own_whole n fs h
  full_name_at n (inside u) p fs h = (tt, (bn.full_name u [] tt, (own_whole n fs h, tt)))
  full_name_at n (below r) p fs h = (
    tt,
    (
      bn.full_name (number_of (target_of r)) (frames_of file files b.scope r fs) (reached r n fs p h),
      (own_whole n fs h, tt),
    ),
  )

  condition_at : (n : ℕ) (p : Parent) (x : Option SourceTree) → ((c : SourceTree) → x ≡ Some c → HasWholes c)
      → (fs : List Frame) → FramesHaveInts fs → HasInts (condition_by file files b p x fs)
  condition_at n no_parent None g fs h = tt
  condition_at n no_parent (Some c) g fs h = of_source c fs (g c refl) h
  condition_at n (inside u) None g fs h = bn.condition u [] tt
  condition_at n (inside u) (Some c) g fs h = (bn.condition u [] tt, (of_source c fs (g c refl) h, tt))
  condition_at n (below r) None g fs h = tt
  condition_at n (below r) (Some c) g fs h = of_source c fs (g c refl) h

  condition_whole : (n : ℕ) (u : Option BodyTree) → body_at file n ≡ u → (fs : List Frame) → FramesHaveInts fs
      → HasInts (condition_of file files b n u fs)
  condition_whole n None p fs h = tt
  condition_whole n (Some body) p fs h =
      condition_at n (parent file n) body.condition (λ c q. wholes.conditions n body c p q) fs h

  parts_after : (n : ℕ) (p : Parent) → parent file n ≡ p → (v : Option ValueTree) (k : ℕ)
      → (parent file n ≡ no_parent → k < 2 ^ 63) → (fs : List Frame) → FramesHaveInts fs
      → HaveInts (trees (parts_by file files b p v k (name_of file files b n fs) fs))
  parts_after n no_parent p v k few fs h =
      own_parts v (name_of file files b n fs) k
      (numbered_whole (name_of file files b n fs) k (own_whole n fs h) (few p))
  parts_after n (inside u) p v k few fs h =
      one_more (b.parts u []) (name_of file files b n fs) (bn.parts u [] tt) (own_whole n fs h)
  parts_after n (below r) p v k few fs h =
      one_more (b.parts (number_of (target_of r)) (frames_of file files b.scope r fs)) (name_of file files b n fs)
      (bn.parts (number_of (target_of r)) (frames_of file files b.scope r fs) (reached r n fs p h))
      (own_whole n fs h)

  parts_whole : (n : ℕ) (u : Option DeclaredTree) (fs : List Frame) → FramesHaveInts fs
      → HaveInts (trees (parts_at file files b n u fs))
  parts_whole n (Some (d.a_resource at t existing body)) fs h =
      parts_after n (parent file n) refl (field_named (codes "name") body.fields)
      (number_of_parts (type_of file n).kind) (parts n) fs h
  parts_whole n (Some (d.a_module at body)) fs h = tt
  parts_whole n (Some (d.variable at v)) fs h = tt
  parts_whole n (Some (d.parameter at t)) fs h = tt
  parts_whole n (Some (d.parameter_with at t v)) fs h = tt
  parts_whole n None fs h = tt

  id_whole : (n : ℕ) (u : Option DeclaredTree) (fs : List Frame) → FramesHaveInts fs
      → HasInts (id_at file files b n u fs)
  id_whole n (Some (d.a_resource at t existing body)) fs h =
      (tt, parts_whole n (Some (d.a_resource at t existing body)) fs h)
  id_whole n (Some (d.a_module at body)) fs h = tt
  id_whole n (Some (d.variable at v)) fs h = tt
  id_whole n (Some (d.parameter at t)) fs h = tt
  id_whole n (Some (d.parameter_with at t v)) fs h = tt
  id_whole n None fs h = tt

  next_whole : EmissionHasInts (next file files b)
  unfolding next
  next_whole = record {
    scope = record {
      variable = λ n. variable_at n (declaration file n) refl;
      items = λ n. over_whole (option_and_then (λ b. b.each) (body_at file n)) (loop_wholes n (body_at file n) refl);
      name = λ n fs h. own_whole n fs h;
      id = λ n fs h. id_whole n (declaration file n) fs h;
    };
    full_name = λ n fs h. full_name_at n (parent file n) refl fs h;
    condition = λ n fs h. condition_whole n (body_at file n) refl fs h;
    parts = λ n fs h. parts_whole n (declaration file n) fs h;
  }

module _ (file : SourceFile) (files : List SourceFile) (wholes : FileHasWholes file) (parts : HasFewParts file) where
  pub all_levels : (k : ℕ) → EmissionHasInts (through file files k)
  unfolding through
  all_levels zero = record {
    scope = record {
      variable = λ n. tt;
      items = λ n. tt;
      name = λ n fs h. tt;
      id = λ n fs h. tt;
    };
    full_name = λ n fs h. tt;
    condition = λ n fs h. tt;
    parts = λ n fs h. tt;
  }
  all_levels (suc k) = next_whole file files wholes parts (through file files k) (all_levels k)

  pub whole_expression : (k : ℕ) (x : SourceTree) (fs : List Frame) → HasWholes x → FramesHaveInts fs
      → HasInts (emitted file files (through file files k).scope x fs)
  whole_expression k x fs h g =
      expression_whole file files (through file files k).scope (all_levels k).scope x fs h g
