-- Names in expressions that are emitted are names of the grammar.
use Rattle.std.proofs.Common.{◌≡◌, ℕ, zero, suc, pos, List, [], ◌∷◌, ◌++◌, length, Option, Some, None, Bool, true}
use Rattle.std.proofs.Common.{false}
use Rattle.std.proofs.Common.{codes, refl, sym, ap, subst}
use Rattle.std.proofs.lemmas.Option.{none-some}
use Rattle.std.specs.Prelude.{◌==◌, map, slice_get, option_and_then, if◌then◌else◌}
use Rattle.arm_ids.specs.Segments.{segments}
use Rattle.arm_expr.specs.Grammar.{IsName}
use Rattle.arm_expr.specs.Print.{HasNames, HaveNames}
use Rattle.arm_expr.specs.Tree.{Tree, text, int, call, trees}
use Rattle.bicep_tree.specs.declared.leaf.Indexing.{Indexing}
use Rattle.bicep_tree.specs.declared.leaf.Indexing.TheVariants as indexing
use Rattle.bicep_tree.specs.declared.leaf.Literal.{Literal}
use Rattle.bicep_tree.specs.declared.leaf.Literal.TheVariants as l
use Rattle.bicep_tree.specs.declared.leaf.Operator.{Operator}
use Rattle.bicep_tree.specs.declared.leaf.Operator.TheVariants as o
use Rattle.bicep_tree.specs.declared.leaf.Prefix.{Prefix}
use Rattle.bicep_tree.specs.declared.leaf.Prefix.TheVariants as prefix
use Rattle.bicep_resolved.specs.declared.leaf.Field.{Field}
use Rattle.bicep_resolved.specs.declared.leaf.Field.TheVariants as field
use Rattle.bicep_resolved.specs.declared.leaf.Meaning.{Meaning}
use Rattle.bicep_resolved.specs.declared.leaf.Meaning.TheVariants as m
use Rattle.bicep_resolved.specs.declared.leaf.Selector.{Selector}
use Rattle.bicep_resolved.specs.declared.leaf.Selector.TheVariants as selector
use Rattle.bicep_resolved.specs.Source.{SourceTree, SourceTrees, PieceTrees, ReachTree, PropertyTrees, ValueTree}
use Rattle.bicep_resolved.specs.Source.{LoopTree}
use Rattle.bicep_resolved.specs.Source as s
use Rattle.bicep_resolved.specs.Target.{number_of, target_of}
use Rattle.bicep_declared.specs.Declarations.{BodyTree, DeclaredTree}
use Rattle.bicep_declared.specs.Declarations as d
use Rattle.bicep_meaning.specs.Files.{SourceFile, symbol_name, declaration, Parent, no_parent, inside}
use Rattle.bicep_resolved.specs.Source.{field_named}
use Rattle.bicep_meaning.specs.Files.{below}
use Rattle.bicep_meaning.specs.Files.{parent, type_of}
use Rattle.bicep_meaning.specs.Meaning.{file_of}
use Rattle.bicep_meaning.specs.Declared.{body_of, body_at}
use Rattle.bicep_emission.specs.Emitted.{Frame, Scope, one, no_value, item_of, index_of, parameter_of, literal_of}
use Rattle.bicep_emission.specs.Emitted.{binary_of, prefix_of, member_of, part_at, output_of, field_of, output_named}
use Rattle.bicep_emission.specs.Emitted.{emitted, all_of, holes_of, members_of, emitted_value, frames_of}
use Rattle.bicep_emission.specs.Emitted as e
use Rattle.emitted_declarations.specs.Declared.{Emission, variable_entry, named_by_symbol, parts_of, parts_by_number}
use Rattle.emitted_declarations.specs.Declared.{segments_from, number_of_parts, value_or_none, variable_of}
use Rattle.emitted_declarations.specs.Declared.{over, module_name, name_by, name_of, parts_by, parts_at, id_at, next}
use Rattle.emitted_declarations.specs.Declared.{full_name_by, condition_by, condition_of, through}
use Rattle.emitted_names.specs.Words.{HasFieldName, HasWords, HaveWords, HolesHaveWords, MembersHaveWords}
use Rattle.emitted_names.specs.Words.{ValueHasWords}
use Rattle.emitted_names.specs.Words.{ReachHasWords, OutputsAreNames, FileHasWords, FramesHaveNames}
use Rattle.emitted_names.proofs.GivenLemmas.{name_is, spelled_name}

nothing : HasNames no_value
nothing = (name_is (codes "add") refl, tt)

-- ---- runs

item_named : (fs : List Frame) (n : ℕ) → FramesHaveNames fs → HasNames (item_of (slice_get fs n))
item_named [] zero h = nothing
item_named [] (suc n) h = nothing
item_named (f ∷ fs) zero h = h.0.0
item_named (f ∷ fs) (suc n) h = item_named fs n h.1

index_named : (fs : List Frame) (n : ℕ) → FramesHaveNames fs → HasNames (index_of (slice_get fs n))
index_named [] zero h = nothing
index_named [] (suc n) h = nothing
index_named (f ∷ fs) zero h = h.0.1
index_named (f ∷ fs) (suc n) h = index_named fs n h.1

-- ---- constructs

literal_named : (v : Literal) → HasNames (literal_of v)
literal_named (l.Number z) = tt
literal_named (l.Text t) = tt
literal_named l.True = (name_is (codes "true") refl, tt)
literal_named l.False = (name_is (codes "false") refl, tt)
literal_named l.Null = (name_is (codes "null") refl, tt)

not_named : (a : Tree) → HasNames a → HasNames (e.not_of a)
not_named a h = (name_is (codes "not") refl, (h, tt))

small_named : (a : Tree) → HasNames a → HasNames (e.small a)
small_named a h = (name_is (codes "toLower") refl, (h, tt))

two_named : (name : List ℕ) (a b : Tree) → IsName name → HasNames a → HasNames b → HasNames (call name (e.two a b))
two_named name a b n h g = (n, (h, (g, tt)))

binary_named : (op : Operator) (a b : Tree) → HasNames a → HasNames b → HasNames (binary_of op a b)
binary_named o.Coalesce a b h g = two_named (codes "coalesce") a b (name_is (codes "coalesce") refl) h g
binary_named o.Or a b h g = two_named (codes "or") a b (name_is (codes "or") refl) h g
binary_named o.And a b h g = two_named (codes "and") a b (name_is (codes "and") refl) h g
binary_named o.Equals a b h g = two_named (codes "equals") a b (name_is (codes "equals") refl) h g
binary_named o.NotEquals a b h g =
    not_named (call (codes "equals") (e.two a b)) (two_named (codes "equals") a b (name_is (codes "equals") refl) h g)
binary_named o.EqualsInsensitive a b h g =
    two_named (codes "equals") (e.small a) (e.small b) (name_is (codes "equals") refl) (small_named a h)
    (small_named b g)
binary_named o.NotEqualsInsensitive a b h g =
    not_named (call (codes "equals") (e.two (e.small a) (e.small b)))
    (two_named (codes "equals") (e.small a) (e.small b) (name_is (codes "equals") refl) (small_named a h)
    (small_named b g))
binary_named o.Less a b h g = two_named (codes "less") a b (name_is (codes "less") refl) h g
binary_named o.LessOrEqual a b h g = two_named (codes "lessOrEquals") a b (name_is (codes "lessOrEquals") refl) h g
binary_named o.Greater a b h g = two_named (codes "greater") a b (name_is (codes "greater") refl) h g
binary_named o.GreaterOrEqual a b h g =
    two_named (codes "greaterOrEquals") a b (name_is (codes "greaterOrEquals") refl) h g
binary_named o.Add a b h g = two_named (codes "add") a b (name_is (codes "add") refl) h g
binary_named o.Subtract a b h g = two_named (codes "sub") a b (name_is (codes "sub") refl) h g
binary_named o.Multiply a b h g = two_named (codes "mul") a b (name_is (codes "mul") refl) h g
binary_named o.Divide a b h g = two_named (codes "div") a b (name_is (codes "div") refl) h g
binary_named o.Remainder a b h g = two_named (codes "mod") a b (name_is (codes "mod") refl) h g

prefix_named : (p : Prefix) (a : Tree) → HasNames a → HasNames (prefix_of p a)
prefix_named prefix.Not a h = not_named a h
prefix_named prefix.Negate a h = two_named (codes "sub") (int (pos 0)) a (name_is (codes "sub") refl) tt h

member_named : (k : Selector) (a : Tree) (name : List ℕ) → HasNames a → IsName name → HasNames (member_of k a name)
member_named selector.Plain a name h n = (h, n)
member_named selector.Safe a name h n = two_named (codes "tryGet") a (text name) (name_is (codes "tryGet") refl) h tt

part_named : (k : Indexing) (a i : Tree) → HasNames a → HasNames i → HasNames (part_at k a i)
part_named indexing.Plain a i h g = (h, g)
part_named indexing.Safe a i h g = two_named (codes "tryGet") a i (name_is (codes "tryGet") refl) h g

parameter_named : (x : Option (List ℕ)) → HasNames (parameter_of x)
parameter_named None = nothing
parameter_named (Some x) = (name_is (codes "parameters") refl, (tt, tt))

output_is_named : (x : Option (List ℕ)) (a : Tree) → ((t : List ℕ) → x ≡ Some t → IsName t) → HasNames a
    → HasNames (output_of x a)
output_is_named None a f h = nothing
output_is_named (Some x) a f h =
    ((
      (
        (
          (name_is (codes "reference") refl, ((name_is (codes "resourceId") refl, (tt, (h, tt))), tt)),
          name_is (codes "outputs") refl,
        ),
        f x refl,
      ),
      name_is (codes "value") refl,
    ))

state_named : (a : Tree) (v : List ℕ) → HasNames a → HasNames (e.properties_of a v)
state_named a v h = two_named (codes "reference") a (text v) (name_is (codes "reference") refl) h tt

whole_named : (a : Tree) (v name : List ℕ) → HasNames a → IsName name → HasNames (e.state_member_of a v name)
whole_named a v name h n = ((name_is (codes "reference") refl, (h, (tt, (tt, tt)))), n)

-- the name of an output of a file of a program
found_output : (files : List SourceFile) → OutputsAreNames files → (i : Option ℕ) (k : ℕ) (x : List ℕ)
    → option_and_then (λ f. slice_get f.outputs k) (option_and_then (slice_get files) i) ≡ Some x → IsName x
found_output files h None k x e = absurd (none-some x e)
found_output files h (Some i) k x e = found (slice_get files i) refl e
  where
    found : (o : Option SourceFile) → slice_get files i ≡ o → option_and_then (λ f. slice_get f.outputs k) o ≡ Some x
        → IsName x
    found None q p = absurd (none-some x p)
    found (Some f) q p = h i k f x q p

-- ---- expressions

-- what declarations become has names of the grammar
pub record ScopeHasNames (sc : Scope) : Type 0 where
  pub variable : (n : ℕ) → HasNames (sc.variable n)
  pub items : (n : ℕ) → HasNames (sc.items n)
  pub name : (n : ℕ) (fs : List Frame) → FramesHaveNames fs → HasNames (sc.name n fs)
  pub id : (n : ℕ) (fs : List Frame) → FramesHaveNames fs → HasNames (sc.id n fs)

module _ (file : SourceFile) (files : List SourceFile) (outputs : OutputsAreNames files) (sc : Scope)
    (sn : ScopeHasNames sc) where
  name_named : (x : Meaning) (fs : List Frame) → FramesHaveNames fs → HasNames (e.named file files sc x fs)
  name_named (m.Parameter n) fs g = parameter_named (symbol_name file n)
  name_named (m.Variable n) fs g = sn.variable n
  name_named (m.Item n) fs g = item_named fs n g
  name_named (m.Index n) fs g = index_named fs n g

  field_named_so : (n : ℕ) (x : Field) (fs : List Frame) → HasFieldName x → FramesHaveNames fs
      → HasNames (field_of file files sc n x fs)
  field_named_so n field.Id fs h g = sn.id n fs g
  field_named_so n field.Name fs h g = sn.name n fs g
  field_named_so n field.Type fs h g = tt
  field_named_so n field.ApiVersion fs h g = tt
  field_named_so n field.Properties fs h g = state_named (sc.id n fs) (type_of file n).version (sn.id n fs g)
  field_named_so n field.Outputs fs h g = nothing
  field_named_so n (field.Other x) fs h g =
      whole_named (sc.id n fs) (type_of file n).version x (sn.id n fs g) h

  mutual
    pub expression_named : (x : SourceTree) (fs : List Frame) → HasWords x → FramesHaveNames fs
        → HasNames (emitted file files sc x fs)
    expression_named (s.name at x) fs h g = name_named x fs g
    expression_named (s.literal at v) fs h g = literal_named v
    expression_named (s.interpolated at first ps) fs h g =
        (name_is (codes "format") refl, (tt, holes_named ps fs h g))
    expression_named (s.object at ps) fs h g = (name_is (codes "createObject") refl, members_named ps fs h g)
    expression_named (s.array at es) fs h g = (name_is (codes "createArray") refl, all_named es fs h g)
    expression_named (s.call at name es) fs h g = (spelled_name name h.0, all_named es fs h.1 g)
    expression_named (s.instance r) fs h g = nothing
    expression_named (s.field r at x) fs h g =
        field_named_so (number_of (target_of r)) x (frames_of file files sc r fs) h.1 (frames_named r fs h.0 g)
    expression_named (s.output r at k) fs h g =
        output_is_named (output_named file files sc (target_of r) k)
        (sc.name (number_of (target_of r)) (frames_of file files sc r fs))
        (found_output files outputs (file_of (target_of r)) k)
        (sn.name (number_of (target_of r)) (frames_of file files sc r fs) (frames_named r fs h g))
    expression_named (s.member x k n) fs h g =
        member_named k (emitted file files sc x fs) n.text (expression_named x fs h.0 g) h.1
    expression_named (s.index x k i) fs h g =
        part_named k (emitted file files sc x fs) (emitted file files sc i fs) (expression_named x fs h.0 g)
        (expression_named i fs h.1 g)
    expression_named (s.prefixed at p x) fs h g =
        prefix_named p (emitted file files sc x fs) (expression_named x fs h g)
    expression_named (s.binary op x y) fs h g =
        binary_named op (emitted file files sc x fs) (emitted file files sc y fs) (expression_named x fs h.0 g)
        (expression_named y fs h.1 g)
    expression_named (s.conditional c x y) fs h g = (
      name_is (codes "if") refl,
      (
        expression_named c fs h.0 g,
        (
          expression_named x fs h.1.0 g,
          (expression_named y fs h.1.1 g, tt),
        ),
      ),
    )

    all_named : (es : SourceTrees) (fs : List Frame) → HaveWords es → FramesHaveNames fs
        → HaveNames (all_of file files sc es fs)
    all_named s.none fs h g = tt
    all_named (s.more x es) fs h g = (expression_named x fs h.0 g, all_named es fs h.1 g)

    holes_named : (ps : PieceTrees) (fs : List Frame) → HolesHaveWords ps → FramesHaveNames fs
        → HaveNames (holes_of file files sc ps fs)
    holes_named s.no_piece fs h g = tt
    holes_named (s.piece x after ps) fs h g = (expression_named x fs h.0 g, holes_named ps fs h.1 g)

    members_named : (ps : PropertyTrees) (fs : List Frame) → MembersHaveWords ps → FramesHaveNames fs
        → HaveNames (members_of file files sc ps fs)
    members_named s.no_property fs h g = tt
    members_named (s.property at name v ps) fs h g = (tt, (value_named v fs h.0 g, members_named ps fs h.1 g))

    pub value_named : (v : ValueTree) (fs : List Frame) → ValueHasWords v → FramesHaveNames fs
        → HasNames (emitted_value file files sc v fs)
    value_named (s.plain x) fs h g = expression_named x fs h g
    value_named (s.each q x) fs h g = nothing

    pub frames_named : (r : ReachTree) (fs : List Frame) → ReachHasWords r → FramesHaveNames fs
        → FramesHaveNames (frames_of file files sc r fs)
    frames_named (s.symbol at x) fs h g = tt
    frames_named (s.element at x i) fs h g =
        let n = expression_named i fs h g in
        (((sn.items (number_of x), n), n), tt)

-- ---- declarations

pub record EmissionHasNames (b : Emission) : Type 0 where
  pub scope : ScopeHasNames b.scope
  pub full_name : (n : ℕ) (fs : List Frame) → FramesHaveNames fs → HasNames (b.full_name n fs)
  pub condition : (n : ℕ) (fs : List Frame) → FramesHaveNames fs → HasNames (b.condition n fs)
  pub parts : (n : ℕ) (fs : List Frame) → FramesHaveNames fs → HaveNames (trees (b.parts n fs))

one_more : (ts : List Tree) (t : Tree) → HaveNames (trees ts) → HasNames t → HaveNames (trees (ts ++ t ∷ []))
one_more [] t h g = (g, tt)
one_more (x ∷ ts) t h g = (h.0, one_more ts t h.1 g)

split_named : (a : Tree) → HasNames a → HasNames (call (codes "split") (e.two a (text (47 ∷ []))))
split_named a h = two_named (codes "split") a (text (47 ∷ [])) (name_is (codes "split") refl) h tt

segments_named : (a : Tree) (i n : ℕ) → HasNames a → HaveNames (trees (segments_from a i n))
segments_named a i zero h =
    ((name_is (codes "join") refl, ((name_is (codes "skip") refl, (split_named a h, (tt, tt))), (tt, tt))), tt)
segments_named a i (suc n) h = ((split_named a h, tt), segments_named a (suc i) n h)

numbered_named : (a : Tree) (n : ℕ) → HasNames a → HaveNames (trees (parts_by_number a n))
numbered_named a zero h = (h, tt)
numbered_named a (suc zero) h = (h, tt)
numbered_named a (suc (suc n)) h = segments_named a 0 (suc n) h

texts_named : (ts : List (List ℕ)) → HaveNames (trees (map text ts))
texts_named [] = tt
texts_named (t ∷ ts) = (tt, texts_named ts)

chosen_named : (c : Bool) (t : List ℕ) (a : Tree) (n : ℕ) → HasNames a
    → HaveNames (trees (if c then map text (segments t) else parts_by_number a n))
chosen_named true t a n h = texts_named (segments t)
chosen_named false t a n h = numbered_named a n h

own_parts : (v : Option ValueTree) (a : Tree) (n : ℕ) → HasNames a → HaveNames (trees (parts_of v a n))
own_parts None a n h = numbered_named a n h
own_parts (Some (s.each q x)) a n h = numbered_named a n h
own_parts (Some (s.plain (s.literal at (l.Text t)))) a n h = chosen_named (length (segments t) == n) t a n h
own_parts (Some (s.plain (s.literal at (l.Number z)))) a n h = numbered_named a n h
own_parts (Some (s.plain (s.literal at l.True))) a n h = numbered_named a n h
own_parts (Some (s.plain (s.literal at l.False))) a n h = numbered_named a n h
own_parts (Some (s.plain (s.literal at l.Null))) a n h = numbered_named a n h
own_parts (Some (s.plain (s.name at x))) a n h = numbered_named a n h
own_parts (Some (s.plain (s.interpolated at first ps))) a n h = numbered_named a n h
own_parts (Some (s.plain (s.object at ps))) a n h = numbered_named a n h
own_parts (Some (s.plain (s.array at es))) a n h = numbered_named a n h
own_parts (Some (s.plain (s.call at name es))) a n h = numbered_named a n h
own_parts (Some (s.plain (s.instance r))) a n h = numbered_named a n h
own_parts (Some (s.plain (s.field r at x))) a n h = numbered_named a n h
own_parts (Some (s.plain (s.output r at k))) a n h = numbered_named a n h
own_parts (Some (s.plain (s.member x k y))) a n h = numbered_named a n h
own_parts (Some (s.plain (s.index x k i))) a n h = numbered_named a n h
own_parts (Some (s.plain (s.prefixed at p x))) a n h = numbered_named a n h
own_parts (Some (s.plain (s.binary op x y))) a n h = numbered_named a n h
own_parts (Some (s.plain (s.conditional c x y))) a n h = numbered_named a n h

module _ (file : SourceFile) (files : List SourceFile) (words : FileHasWords file) (outputs : OutputsAreNames files)
    (b : Emission) (bn : EmissionHasNames b) where
  of_value : (v : ValueTree) (fs : List Frame) → ValueHasWords v → FramesHaveNames fs
      → HasNames (emitted_value file files b.scope v fs)
  of_value = value_named file files outputs b.scope bn.scope

  entry_named : (x : Option (List ℕ)) → HasNames (variable_entry x)
  entry_named None = nothing
  entry_named (Some x) = (name_is (codes "variables") refl, (tt, tt))

  variable_at : (n : ℕ) (u : Option DeclaredTree) → declaration file n ≡ u → (q : Bool) → file.has_entry n ≡ q
      → HasNames (variable_of file files b n u)
  variable_at n (Some (d.variable at v)) p true h =
      subst (λ q. HasNames (if q then variable_entry (symbol_name file n) else emitted_value file files b.scope v []))
      (sym h) (entry_named (symbol_name file n))
  variable_at n (Some (d.variable at v)) p false h =
      subst (λ q. HasNames (if q then variable_entry (symbol_name file n) else emitted_value file files b.scope v []))
      (sym h) (of_value v [] (words.variables n at v p h) tt)
  variable_at n (Some (d.parameter at t)) p q h = nothing
  variable_at n (Some (d.parameter_with at t v)) p q h = nothing
  variable_at n (Some (d.a_resource at t existing body)) p q h = nothing
  variable_at n (Some (d.a_module at body)) p q h = nothing
  variable_at n None p q h = nothing

  over_named : (p : Option LoopTree) → ((at : ℕ) (xs : SourceTree) → p ≡ Some (s.loop at xs) → HasWords xs)
      → HasNames (over file files b p)
  over_named None g = nothing
  over_named (Some (s.loop at xs)) g = expression_named file files outputs b.scope bn.scope xs [] (g at xs refl) tt

  loop_words : (n : ℕ) (u : Option BodyTree) → body_at file n ≡ u → (at : ℕ) (xs : SourceTree)
      → option_and_then (λ b. b.each) u ≡ Some (s.loop at xs) → HasWords xs
  loop_words n None p at xs h = absurd (none-some (s.loop at xs) h)
  loop_words n (Some body) p at xs h = words.loops n at body xs p h

  some_named : (p : Option ValueTree) → ((v : ValueTree) → p ≡ Some v → ValueHasWords v) → (fs : List Frame)
      → FramesHaveNames fs → HasNames (value_or_none file files b p fs)
  some_named None g fs h = nothing
  some_named (Some v) g fs h = of_value v fs (g v refl) h

  symbol_named : (x : Option (List ℕ)) (p : Option LoopTree) (fs : List Frame) → FramesHaveNames fs
      → HasNames (named_by_symbol x p fs)
  symbol_named None p fs h = nothing
  symbol_named (Some x) None fs h = tt
  symbol_named (Some x) (Some q) fs h = (name_is (codes "format") refl, (tt, (index_named fs 0 h, tt)))

  module_named : (n : ℕ) (body : BodyTree) (p : Option ValueTree)
      → ((v : ValueTree) → p ≡ Some v → ValueHasWords v) → (fs : List Frame) → FramesHaveNames fs
      → HasNames (module_name file files b n body p fs)
  module_named n body (Some v) g fs h = of_value v fs (g v refl) h
  module_named n body None g fs h = symbol_named (symbol_name file n) body.each fs h

  name_at : (n : ℕ) (u : Option DeclaredTree) → declaration file n ≡ u → (fs : List Frame) → FramesHaveNames fs
      → HasNames (name_by file files b n u fs)
  name_at n (Some (d.a_resource at t existing body)) p fs h =
      some_named (field_named (codes "name") body.fields)
      (λ v q. words.names n body v (ap (option_and_then body_of) p) q) fs h
  name_at n (Some (d.a_module at body)) p fs h =
      module_named n body (field_named (codes "name") body.fields)
      (λ v q. words.names n body v (ap (option_and_then body_of) p) q) fs h
  name_at n (Some (d.variable at v)) p fs h = nothing
  name_at n (Some (d.parameter at t)) p fs h = nothing
  name_at n (Some (d.parameter_with at t v)) p fs h = nothing
  name_at n None p fs h = nothing

  own_named : (n : ℕ) (fs : List Frame) → FramesHaveNames fs → HasNames (name_of file files b n fs)
  own_named n fs h = name_at n (declaration file n) refl fs h

  reached : (r : ReachTree) (n : ℕ) (fs : List Frame) → parent file n ≡ below r → FramesHaveNames fs
      → FramesHaveNames (frames_of file files b.scope r fs)
  reached r n fs p h = frames_named file files outputs b.scope bn.scope r fs (words.parents n r p) h

  full_name_at : (n : ℕ) (p : Parent) → parent file n ≡ p → (fs : List Frame) → FramesHaveNames fs
      → HasNames (full_name_by file files b p (name_of file files b n fs) fs)
  full_name_at n no_parent p fs h = own_named n fs h
  full_name_at n (inside u) p fs h =
      (name_is (codes "format") refl, (tt, (bn.full_name u [] tt, (own_named n fs h, tt))))
  full_name_at n (below r) p fs h = (
    name_is (codes "format") refl,
    (
      tt,
      (
        bn.full_name (number_of (target_of r)) (frames_of file files b.scope r fs) (reached r n fs p h),
        (own_named n fs h, tt),
      ),
    ),
  )

  condition_at : (n : ℕ) (p : Parent) (x : Option SourceTree) → ((c : SourceTree) → x ≡ Some c → HasWords c)
      → (fs : List Frame) → FramesHaveNames fs → HasNames (condition_by file files b p x fs)
  condition_at n no_parent None g fs h = (name_is (codes "true") refl, tt)
  condition_at n no_parent (Some c) g fs h = expression_named file files outputs b.scope bn.scope c fs (g c refl) h
  condition_at n (inside u) None g fs h = bn.condition u [] tt
  condition_at n (inside u) (Some c) g fs h =
      two_named (codes "and") (b.condition u []) (emitted file files b.scope c fs) (name_is (codes "and") refl)
      (bn.condition u [] tt) (expression_named file files outputs b.scope bn.scope c fs (g c refl) h)
  condition_at n (below r) None g fs h = (name_is (codes "true") refl, tt)
  condition_at n (below r) (Some c) g fs h = expression_named file files outputs b.scope bn.scope c fs (g c refl) h

  condition_named : (n : ℕ) (u : Option BodyTree) → body_at file n ≡ u → (fs : List Frame) → FramesHaveNames fs
      → HasNames (condition_of file files b n u fs)
  condition_named n None p fs h = nothing
  condition_named n (Some body) p fs h =
      condition_at n (parent file n) body.condition (λ c q. words.conditions n body c p q) fs h

  parts_after : (n : ℕ) (p : Parent) → parent file n ≡ p → (v : Option ValueTree) (k : ℕ) (fs : List Frame)
      → FramesHaveNames fs
      → HaveNames (trees (parts_by file files b p v k (name_of file files b n fs) fs))
  parts_after n no_parent p v k fs h =
      own_parts v (name_of file files b n fs) k (name_at n (declaration file n) refl fs h)
  parts_after n (inside u) p v k fs h =
      one_more (b.parts u []) (name_of file files b n fs) (bn.parts u [] tt)
      (name_at n (declaration file n) refl fs h)
  parts_after n (below r) p v k fs h =
      one_more (b.parts (number_of (target_of r)) (frames_of file files b.scope r fs)) (name_of file files b n fs)
      (bn.parts (number_of (target_of r)) (frames_of file files b.scope r fs)
      (frames_named file files outputs b.scope bn.scope r fs (words.parents n r p) h))
      (name_at n (declaration file n) refl fs h)

  parts_named : (n : ℕ) (u : Option DeclaredTree) (fs : List Frame) → FramesHaveNames fs
      → HaveNames (trees (parts_at file files b n u fs))
  parts_named n (Some (d.a_resource at t existing body)) fs h =
      parts_after n (parent file n) refl (field_named (codes "name") body.fields)
      (number_of_parts (type_of file n).kind) fs h
  parts_named n (Some (d.a_module at body)) fs h = tt
  parts_named n (Some (d.variable at v)) fs h = tt
  parts_named n (Some (d.parameter at t)) fs h = tt
  parts_named n (Some (d.parameter_with at t v)) fs h = tt
  parts_named n None fs h = tt

  id_named : (n : ℕ) (u : Option DeclaredTree) (fs : List Frame) → FramesHaveNames fs
      → HasNames (id_at file files b n u fs)
  id_named n (Some (d.a_resource at t existing body)) fs h =
      (name_is (codes "resourceId") refl, (tt, parts_named n (Some (d.a_resource at t existing body)) fs h))
  id_named n (Some (d.a_module at body)) fs h = nothing
  id_named n (Some (d.variable at v)) fs h = nothing
  id_named n (Some (d.parameter at t)) fs h = nothing
  id_named n (Some (d.parameter_with at t v)) fs h = nothing
  id_named n None fs h = nothing

  next_named : EmissionHasNames (next file files b)
  unfolding next
  next_named = record {
    scope = record {
      variable = λ n. variable_at n (declaration file n) refl (file.has_entry n) refl;
      items = λ n. over_named (option_and_then (λ b. b.each) (body_at file n)) (loop_words n (body_at file n) refl);
      name = λ n fs h. name_at n (declaration file n) refl fs h;
      id = λ n fs h. id_named n (declaration file n) fs h;
    };
    full_name = λ n fs h. full_name_at n (parent file n) refl fs h;
    condition = λ n fs h. condition_named n (body_at file n) refl fs h;
    parts = λ n fs h. parts_named n (declaration file n) fs h;
  }

module _ (file : SourceFile) (files : List SourceFile) (words : FileHasWords file)
    (outputs : OutputsAreNames files) where
  pub all_levels : (k : ℕ) → EmissionHasNames (through file files k)
  unfolding through
  all_levels zero = record {
    scope = record {
      variable = λ n. nothing;
      items = λ n. nothing;
      name = λ n fs h. nothing;
      id = λ n fs h. nothing;
    };
    full_name = λ n fs h. nothing;
    condition = λ n fs h. nothing;
    parts = λ n fs h. tt;
  }
  all_levels (suc k) = next_named file files words outputs (through file files k) (all_levels k)

  pub named : (k : ℕ) (x : SourceTree) (fs : List Frame) → HasWords x → FramesHaveNames fs
      → HasNames (emitted file files (through file files k).scope x fs)
  named k x fs h g = expression_named file files outputs (through file files k).scope (all_levels k).scope x fs h g
