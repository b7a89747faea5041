-- What an expression becomes with a run in its holes is what it becomes with that run.
use Rattle.std.proofs.Common.{◌≡◌, ℕ, zero, suc, List, [], ◌∷◌, Option, Some, None, Bool, true, false, codes, refl}
use Rattle.std.proofs.Common.{ap}
use Rattle.std.proofs.Common.{◌∙◌}
use Rattle.std.proofs.lemmas.Bool.{false≢true}
use Rattle.std.specs.Prelude.{slice_get, if◌then◌else◌}
use Rattle.arm_expr.specs.Tree.{Tree, Trees, text, call, index, more}
use Rattle.arm_value.specs.Look.{is_same_folded}
use Rattle.bicep_tree.specs.declared.leaf.Indexing.{Indexing}
use Rattle.bicep_tree.specs.declared.leaf.Indexing.TheVariants as indexing
use Rattle.bicep_tree.specs.declared.leaf.Literal.{Literal}
use Rattle.bicep_tree.specs.declared.leaf.Literal.TheVariants as l
use Rattle.bicep_tree.specs.declared.leaf.Operator.{Operator}
use Rattle.bicep_tree.specs.declared.leaf.Operator.TheVariants as o
use Rattle.bicep_tree.specs.declared.leaf.Prefix.{Prefix}
use Rattle.bicep_tree.specs.declared.leaf.Prefix.TheVariants as prefix
use Rattle.bicep_declared.specs.Table.{table, row_in}
use Rattle.bicep_declared.specs.Functions.{may_call, reserved}
use Rattle.bicep_declared.specs.Field.{Field}
use Rattle.bicep_declared.specs.Field.TheVariants as field
use Rattle.bicep_declared.specs.Meaning.{Meaning}
use Rattle.bicep_declared.specs.Meaning.TheVariants as m
use Rattle.bicep_declared.specs.Selector.{Selector}
use Rattle.bicep_declared.specs.Selector.TheVariants as selector
use Rattle.bicep_declared.specs.Source.{SourceTree, SourceTrees, PieceTrees, ReachTree, PropertyTrees, ValueTree}
use Rattle.bicep_declared.specs.Source as s
use Rattle.bicep_declared.specs.Target.{number_of, target_of}
use Rattle.bicep_meaning_laws.specs.Files.{SourceFile, symbol_name, type_of}
use Rattle.declaration_laws.specs.Emittable.{IsEmittable, AreEmittable, AreHoles, AreMembers, IsValue, IsReach}
use Rattle.declaration_laws.specs.Emitted.{Frame, Scope, element, three, item_of, index_of, parameter_of, literal_of}
use Rattle.declaration_laws.specs.Emitted.{binary_of, prefix_of, member_of, part_at, properties_of}
use Rattle.declaration_laws.specs.Emitted.{state_member_of}
use Rattle.declaration_laws.specs.Emitted.{output_of, named, field_of, output_named, emitted, all_of, holes_of}
use Rattle.declaration_laws.specs.Emitted.{members_of}
use Rattle.declaration_laws.specs.Emitted.{emitted_value, frames_of}
use Rattle.declaration_laws.specs.Spelled.{capitals, spelling_in, spelled, spelled_or}
use Rattle.declaration_laws.specs.Texts.{format_text}
use Rattle.emission_laws.specs.Holes.{fill, fill_all, holes, nearest, IsRun}

-- ---- names of functions are not empty

abbrev IsGiven : List ℕ → Type 0
IsGiven [] = ⊥
IsGiven (c ∷ cs) = Unit {0}

abbrev AreGiven : List (List ℕ) → Type 0
AreGiven [] = Unit {0}
AreGiven (w ∷ ws) = IsGiven w × AreGiven ws

chosen_given : (name w : List ℕ) (o : Option (List ℕ)) (b : Bool) → IsGiven w → IsGiven (spelled_or name o)
    → IsGiven (spelled_or name (if b then Some w else o))
chosen_given name w o true g h = g
chosen_given name w o false g h = h

spelling_given : (name : List ℕ) (ws : List (List ℕ)) → IsGiven name → AreGiven ws
    → IsGiven (spelled_or name (spelling_in name ws))
unfolding spelling_in
spelling_given name [] g h = g
spelling_given name (w ∷ ws) g h =
    chosen_given name w (spelling_in name ws) (is_same_folded name w) h.0 (spelling_given name ws g h.1)

capitals_given : AreGiven capitals
unfolding capitals
capitals_given = (tt, (tt, (tt, (tt, (tt, (tt, (tt, (tt, (tt, (tt, (tt, (tt, (tt, tt)))))))))))))

name_given : (name : List ℕ) → may_call name ≡ true → IsGiven name
unfolding may_call reserved table row_in
name_given [] h = absurd (false≢true h)
name_given (c ∷ cs) h = tt

call_filled : (f : Frame) (name : List ℕ) (es : Trees) → IsGiven name
    → fill f (call name es) ≡ call name (fill_all f es)
call_filled f [] es g = absurd g
call_filled f (c ∷ cs) es g = refl

-- ---- runs

-- where the holes are filled, the items and the indices of these runs become those
pub record Becomes (f : Frame) (gs hs : List Frame) : Type 0 where
  pub item : (n : ℕ) → fill f (item_of (slice_get gs n)) ≡ item_of (slice_get hs n)
  pub index : (n : ℕ) → fill f (index_of (slice_get gs n)) ≡ index_of (slice_get hs n)

no_item : (f : Frame) (n : ℕ) → fill f (item_of (slice_get ([]) n)) ≡ item_of (slice_get ([]) n)
no_item f zero = refl
no_item f (suc n) = refl

no_index : (f : Frame) (n : ℕ) → fill f (index_of (slice_get ([]) n)) ≡ index_of (slice_get ([]) n)
no_index f zero = refl
no_index f (suc n) = refl

pub none_becomes : (f : Frame) → Becomes f [] []
none_becomes f = record { item = no_item f; index = no_index f }

one_item : (f g h : Frame) → fill f g.item ≡ h.item → (n : ℕ)
    → fill f (item_of (slice_get (g ∷ []) n)) ≡ item_of (slice_get (h ∷ []) n)
one_item f g h e zero = e
one_item f g h e (suc n) = no_item f n

one_index : (f g h : Frame) → fill f g.index ≡ h.index → (n : ℕ)
    → fill f (index_of (slice_get (g ∷ []) n)) ≡ index_of (slice_get (h ∷ []) n)
one_index f g h e zero = e
one_index f g h e (suc n) = no_index f n

pub one_becomes : (f g h : Frame) → fill f g.item ≡ h.item → fill f g.index ≡ h.index → Becomes f (g ∷ []) (h ∷ [])
one_becomes f g h e i = record { item = one_item f g h e; index = one_index f g h i }

nearest_item : (fs : List Frame) → IsRun fs → (n : ℕ)
    → fill (nearest fs) (item_of (slice_get (holes ∷ []) n)) ≡ item_of (slice_get fs n)
nearest_item [] r zero = refl
nearest_item [] r (suc n) = no_item (nearest []) n
nearest_item (f ∷ []) r zero = refl
nearest_item (f ∷ []) r (suc n) = no_item f n
nearest_item (f ∷ g ∷ fs) r n = absurd r

nearest_index : (fs : List Frame) → IsRun fs → (n : ℕ)
    → fill (nearest fs) (index_of (slice_get (holes ∷ []) n)) ≡ index_of (slice_get fs n)
nearest_index [] r zero = refl
nearest_index [] r (suc n) = no_index (nearest []) n
nearest_index (f ∷ []) r zero = refl
nearest_index (f ∷ []) r (suc n) = no_index f n
nearest_index (f ∷ g ∷ fs) r n = absurd r

pub holes_become : (fs : List Frame) → IsRun fs → Becomes (nearest fs) (holes ∷ []) fs
holes_become fs r = record { item = nearest_item fs r; index = nearest_index fs r }

-- ---- constructs

literal_filled : (f : Frame) (v : Literal) → fill f (literal_of v) ≡ literal_of v
literal_filled f (l.Number z) = refl
literal_filled f (l.Text t) = refl
literal_filled f l.True = refl
literal_filled f l.False = refl
literal_filled f l.Null = refl

binary_filled : (f : Frame) (op : Operator) (a b : Tree)
    → fill f (binary_of op a b) ≡ binary_of op (fill f a) (fill f b)
binary_filled f o.Coalesce a b = refl
binary_filled f o.Or a b = refl
binary_filled f o.And a b = refl
binary_filled f o.Equals a b = refl
binary_filled f o.NotEquals a b = refl
binary_filled f o.EqualsInsensitive a b = refl
binary_filled f o.NotEqualsInsensitive a b = refl
binary_filled f o.Less a b = refl
binary_filled f o.LessOrEqual a b = refl
binary_filled f o.Greater a b = refl
binary_filled f o.GreaterOrEqual a b = refl
binary_filled f o.Add a b = refl
binary_filled f o.Subtract a b = refl
binary_filled f o.Multiply a b = refl
binary_filled f o.Divide a b = refl
binary_filled f o.Remainder a b = refl

prefix_filled : (f : Frame) (p : Prefix) (a : Tree) → fill f (prefix_of p a) ≡ prefix_of p (fill f a)
prefix_filled f prefix.Not a = refl
prefix_filled f prefix.Negate a = refl

member_filled : (f : Frame) (k : Selector) (a : Tree) (name : List ℕ)
    → fill f (member_of k a name) ≡ member_of k (fill f a) name
member_filled f selector.Plain a name = refl
member_filled f selector.Safe a name = refl

part_filled : (f : Frame) (k : Indexing) (a i : Tree) → fill f (part_at k a i) ≡ part_at k (fill f a) (fill f i)
part_filled f indexing.Plain a i = refl
part_filled f indexing.Safe a i = refl

parameter_filled : (f : Frame) (x : Option (List ℕ)) → fill f (parameter_of x) ≡ parameter_of x
parameter_filled f None = refl
parameter_filled f (Some x) = refl

output_filled : (f : Frame) (x : Option (List ℕ)) (a : Tree) → fill f (output_of x a) ≡ output_of x (fill f a)
output_filled f None a = refl
output_filled f (Some x) a = refl

-- ---- expressions

-- what declarations become has no holes, but for those of the runs around
pub record ScopeFills (f : Frame) (sc : Scope) : Type 0 where
  pub variable : (n : ℕ) → fill f (sc.variable n) ≡ sc.variable n
  pub items : (n : ℕ) → fill f (sc.items n) ≡ sc.items n
  pub name : (n : ℕ) (gs hs : List Frame) → Becomes f gs hs → fill f (sc.name n gs) ≡ sc.name n hs
  pub id : (n : ℕ) (gs hs : List Frame) → Becomes f gs hs → fill f (sc.id n gs) ≡ sc.id n hs

module _ (file : SourceFile) (files : List SourceFile) (f : Frame) (sc : Scope) (sf : ScopeFills f sc) where
  name_filled : (x : Meaning) (gs hs : List Frame) → Becomes f gs hs
      → fill f (named file files sc x gs) ≡ named file files sc x hs
  name_filled (m.Parameter n) gs hs b = parameter_filled f (symbol_name file n)
  name_filled (m.Variable n) gs hs b = sf.variable n
  name_filled (m.Item n) gs hs b = b.item n
  name_filled (m.Index n) gs hs b = b.index n

  field_filled : (n : ℕ) (x : Field) (gs hs : List Frame) → Becomes f gs hs
      → fill f (field_of file files sc n x gs) ≡ field_of file files sc n x hs
  field_filled n field.Id gs hs b = sf.id n gs hs b
  field_filled n field.Name gs hs b = sf.name n gs hs b
  field_filled n field.Type gs hs b = refl
  field_filled n field.ApiVersion gs hs b = refl
  field_filled n field.Properties gs hs b = ap (λ i. properties_of i (type_of file n).version) (sf.id n gs hs b)
  field_filled n field.Outputs gs hs b = refl
  field_filled n (field.Other x) gs hs b = ap (λ i. state_member_of i (type_of file n).version x) (sf.id n gs hs b)

  mutual
    pub filled : (e : SourceTree) (gs hs : List Frame) → IsEmittable e → Becomes f gs hs
        → fill f (emitted file files sc e gs) ≡ emitted file files sc e hs
    filled (s.name at x) gs hs g b = name_filled x gs hs b
    filled (s.literal at v) gs hs g b = literal_filled f v
    filled (s.interpolated at start ps) gs hs g b =
        ap (λ ts. call (codes "format") (more (text (format_text 0 start ps)) ts)) (holes_filled ps gs hs g.0 b)
    filled (s.object at ps) gs hs g b = ap (call (codes "createObject")) (members_filled ps gs hs g b)
    filled (s.array at es) gs hs g b = ap (call (codes "createArray")) (all_filled es gs hs g b)
    filled (s.call at name es) gs hs g b =
        call_filled f (spelled name) (all_of file files sc es gs)
        (spelling_given name capitals (name_given name g.0) capitals_given)
        ∙ ap (call (spelled name)) (all_filled es gs hs g.1 b)
    filled (s.instance r) gs hs g b = refl
    filled (s.field r at x) gs hs g b =
        field_filled (number_of (target_of r)) x (frames_of file files sc r gs) (frames_of file files sc r hs)
        (frames_filled r gs hs g b)
    filled (s.output r at k) gs hs g b =
        output_filled f (output_named file files sc (target_of r) k)
        (sc.name (number_of (target_of r)) (frames_of file files sc r gs))
        ∙ ap (output_of (output_named file files sc (target_of r) k))
        (sf.name (number_of (target_of r)) (frames_of file files sc r gs) (frames_of file files sc r hs)
        (frames_filled r gs hs g b))
    filled (s.member e k n) gs hs g b =
        member_filled f k (emitted file files sc e gs) n.text
        ∙ ap (λ t. member_of k t n.text) (filled e gs hs g b)
    filled (s.index e k i) gs hs g b =
        let p = filled e gs hs g.0 b in
        let q = filled i gs hs g.1 b in
        part_filled f k (emitted file files sc e gs) (emitted file files sc i gs) ∙ (λ t. part_at k (p t) (q t))
    filled (s.prefixed at p e) gs hs g b =
        prefix_filled f p (emitted file files sc e gs) ∙ ap (prefix_of p) (filled e gs hs g b)
    filled (s.binary op x y) gs hs g b =
        let p = filled x gs hs g.0 b in
        let q = filled y gs hs g.1 b in
        binary_filled f op (emitted file files sc x gs) (emitted file files sc y gs)
        ∙ (λ t. binary_of op (p t) (q t))
    filled (s.conditional c x y) gs hs g b =
        let p = filled c gs hs g.0 b in
        let q = filled x gs hs g.1.0 b in
        let r = filled y gs hs g.1.1 b in
        λ t. call (codes "if") (three (p t) (q t) (r t))

    all_filled : (es : SourceTrees) (gs hs : List Frame) → AreEmittable es → Becomes f gs hs
        → fill_all f (all_of file files sc es gs) ≡ all_of file files sc es hs
    all_filled s.none gs hs g b = refl
    all_filled (s.more e es) gs hs g b =
        let p = filled e gs hs g.0 b in
        let q = all_filled es gs hs g.1 b in
        λ t. more (p t) (q t)

    holes_filled : (ps : PieceTrees) (gs hs : List Frame) → AreHoles ps → Becomes f gs hs
        → fill_all f (holes_of file files sc ps gs) ≡ holes_of file files sc ps hs
    holes_filled s.no_piece gs hs g b = refl
    holes_filled (s.piece e after ps) gs hs g b =
        let p = filled e gs hs g.0 b in
        let q = holes_filled ps gs hs g.1 b in
        λ t. more (p t) (q t)

    members_filled : (ps : PropertyTrees) (gs hs : List Frame) → AreMembers ps → Becomes f gs hs
        → fill_all f (members_of file files sc ps gs) ≡ members_of file files sc ps hs
    members_filled s.no_property gs hs g b = refl
    members_filled (s.property at name v ps) gs hs g b =
        let p = value_filled v gs hs g.0 b in
        let q = members_filled ps gs hs g.1 b in
        λ t. more (text name) (more (p t) (q t))

    pub value_filled : (v : ValueTree) (gs hs : List Frame) → IsValue v → Becomes f gs hs
        → fill f (emitted_value file files sc v gs) ≡ emitted_value file files sc v hs
    value_filled (s.plain e) gs hs g b = filled e gs hs g b
    value_filled (s.each e v) gs hs g b = refl

    pub frames_filled : (r : ReachTree) (gs hs : List Frame) → IsReach r → Becomes f gs hs
        → Becomes f (frames_of file files sc r gs) (frames_of file files sc r hs)
    frames_filled (s.symbol at x) gs hs g b = none_becomes f
    frames_filled (s.element at x e) gs hs g b =
        let p = sf.items (number_of x) in
        let q = filled e gs hs g b in
        one_becomes f (element (sc.items (number_of x)) (emitted file files sc e gs))
        (element (sc.items (number_of x)) (emitted file files sc e hs)) (λ t. index (p t) (q t)) q
