-- Lists of resources and children that have no fault, once they are written.
use Rattle.std.proofs.Common.{◌≡◌, ◌≤◌, ◌+◌, ℕ, suc}
use Rattle.std.proofs.Common.{Bool, true, false, List, [], map, Option, Some, None, is_some, refl, ap}
use Rattle.std.proofs.Common.{ap₂, ◌∙◌, arith, if◌then◌else◌}
use Rattle.arm_value.specs.Json.{Json, null, bool, int, text, array, object, Row, no_items, item, row, items}
use Rattle.arm_value.specs.Json.{Pairs, no_pairs, pair, pairs, members, nesting, row_nesting}
use Rattle.arm_value.specs.Json.{pairs_nesting}
use Rattle.resource_members.specs.Members.{children_fault}
use Rattle.resource_members.specs.Settings.{is_parent, is_symbolic}
use Rattle.resource_members.specs.declared.setting.Rank.{Rank}
use Rattle.resource_members.specs.declared.setting.Rank.TheVariants.{Listed, Child, Symbolic}
use Rattle.template_faults.specs.Counts.{total, row_count, tree_count, pairs_count}
use Rattle.template_faults.specs.Counts.{exists}
use Rattle.template_faults.specs.Faults.{symbol_fault, is_symbol, resource_loop}
use Rattle.template_faults.specs.Faults.{template_in, array_in, row_in, pairs_in, resource_in}
use Rattle.template_faults.specs.Sights.{sight_of}
use Rattle.template_meaning.specs.Resources as meaning
use Rattle.template_meaning.specs.Resources.{Listed as ListedAs, declaration_of, body_of, copy_in, scope_in}
use Rattle.template_meaning.specs.Resources.{arguments_in}
use Rattle.template_meaning.specs.Describes.{DescribesTemplate, DescribesResource}
use Rattle.template_meaning.specs.Describes.{DescribesResources}
use Rattle.template_parts.specs.declared.declaration.Declaration.{Declaration}
use Rattle.template_parts.specs.declared.fault.TemplateFault.{TemplateFault}
use Rattle.template_parts.specs.declared.fault.TemplateFault.TheVariants.{WrongForm}
use Rattle.template_texts.specs.declared.sight.Place.{Place}
use Rattle.template_texts.specs.declared.sight.Sight.{Sight}
use Rattle.template_tree.specs.Tree.{TemplateTree, ResourceTree, resource, BodyTree, body_members}
use Rattle.template_tree.specs.Tree.{deployment, Trees, no_resources, a_resource}
use Rattle.template_values.specs.Order.{to_item, to_member}
use Rattle.template_values.specs.Values.{names_with}
use Rattle.template_written.specs.Slots.{array_unless_empty}
use Rattle.template_written.specs.Slots.{NestsWithin}
use Rattle.template_written.specs.Written.{name_or_none, tree_symbol}
use Rattle.template_written.specs.Written.{written, written_each, written_by_symbol, written_resource}
use Rattle.written_parts.proofs.FaultLemmas.{Holds, then_none, then_nothing}
use Rattle.written_resources.proofs.BodyLemmas.{count_in}

-- ---- what is shown of each part

-- of resources in an array
abbrev pub EachKept : Trees → Type 0
EachKept rs =
    (here : Sight) (rank : Rank) (taken : List (List ℕ)) (i : ℕ) (js : Row) → is_symbolic rank ≡ false
    → row_in here rank taken i js ≡ None → DescribesResources (map (λ j. (None, j)) (items js)) rs
    → (row_in here rank taken i (row (written_each rs)) ≡ None) × (row_nesting (row (written_each rs)) ≤ row_nesting js)
    × ((n : ℕ) → row_count n (row (written_each rs)) ≡ row_count n js)

-- of resources by their symbolic names
abbrev pub SymbolsKept : Trees → Type 0
SymbolsKept rs =
    (here : Sight) (taken : List (List ℕ)) (ms : Pairs) → pairs_in here taken ms ≡ None
    → DescribesResources (map (λ m. (Some m.0, m.1)) (members ms)) rs
    → (pairs_in here taken (pairs (written_by_symbol rs)) ≡ None)
    × (pairs_nesting (pairs (written_by_symbol rs)) ≤ pairs_nesting ms)
    × ((n : ℕ) → pairs_count n (pairs (written_by_symbol rs)) ≡ pairs_count n ms)

-- of a resource that is written as w
pub record WrittenAs (here : Sight) (rank : Rank) (taken : List (List ℕ)) (j w : Json) : Type 0 where
  pub passes : resource_in here rank taken w ≡ None
  pub within : nesting w ≤ nesting j
  pub loop : resource_loop w ≡ resource_loop j
  pub count : tree_count w ≡ tree_count j
  pub existing : is_symbolic rank ≡ true → exists w ≡ exists j

abbrev pub ResourceKept : ResourceTree → Type 0
ResourceKept r =
    (here : Sight) (rank : Rank) (taken : List (List ℕ)) (symbol : Option (List ℕ)) (j : Json)
    → is_symbolic rank ≡ is_some symbol → resource_in here rank taken j ≡ None → DescribesResource (symbol, j) r
    → WrittenAs here rank taken j (written_resource r)

abbrev pub TemplateKept : TemplateTree → Type 0
TemplateKept t =
    (here : Sight) (place : Place) (j : Json) → template_in here place j ≡ None → DescribesTemplate (Some j) t
    → (template_in here place (written t) ≡ None) × (nesting (written t) ≤ nesting j)
    × (sight_of (written t) ≡ sight_of j)

unfoldable pub BodyKept : BodyTree → Type 0
BodyKept (body_members ms) = Unit {0}
BodyKept (deployment s ps t) = TemplateKept t

-- ---- lists of resources

pub each_none : EachKept no_resources
each_none here rank taken i js y e d = (refl, omega arith, by_row js d)
  where
    by_row : (ks : Row) → map {B = ListedAs} (λ j. (None, j)) (items ks) ≡ [] → (n : ℕ)
        → row_count n no_items ≡ row_count n ks
    by_row no_items f n = refl
    by_row (item k ks) f n = cc

pub each_more : (r : ResourceTree) (rs : Trees) → ResourceKept r → EachKept rs → EachKept (a_resource r rs)
each_more r rs h g here rank taken i no_items y e d = absurd d
each_more r rs h g here rank taken i (item j js) y e d =
    let p = then_none (to_item i) (resource_in here rank taken j)
    (row_in here rank (names_with taken (resource_loop j)) (i + 1) js) e in
    let w = written_resource r in
    let k = h here rank taken None j y p.0 d.0 in
    let t = g here rank (names_with taken (resource_loop j)) (i + 1) js y p.1 d.1 in (
      then_nothing (to_item i) (resource_in here rank taken w)
          (row_in here rank (names_with taken (resource_loop w)) (i + 1) (row (written_each rs))) k.passes
          (ap (λ o. row_in here rank (names_with taken o) (i + 1) (row (written_each rs))) k.loop ∙ t.0),
      omega (arith, k.within, t.1),
      λ n. ap (λ c. row_count (total n c) (row (written_each rs))) k.count ∙ t.2 (total n (tree_count j)),
    )

pub symbols_none : SymbolsKept no_resources
symbols_none here taken ms e d = (refl, omega arith, by_pairs ms d)
  where
    by_pairs : (ks : Pairs) → map {B = ListedAs} (λ m. (Some m.0, m.1)) (members ks) ≡ []
        → (n : ℕ) → pairs_count n no_pairs ≡ pairs_count n ks
    by_pairs no_pairs f n = refl
    by_pairs (pair k j ks) f n = cc

symbol_by : (b : Bool) (o : Option TemplateFault) → (if b then o else Some (WrongForm [])) ≡ None
    → (b ≡ true) × (o ≡ None)
symbol_by true o e = (refl, e)
symbol_by false o e = cc

symbol_of : (k : List ℕ) (j : Json) (r : ResourceTree) → DescribesResource (Some k, j) r → tree_symbol r ≡ k
symbol_of k j (resource d b cs) h = ap (λ (x : Declaration). name_or_none x.symbol) h.0

pub symbols_more : (r : ResourceTree) (rs : Trees) → ResourceKept r → SymbolsKept rs → SymbolsKept (a_resource r rs)
symbols_more r rs h g here taken no_pairs e d = absurd d
symbols_more r rs h g here taken (pair k j ms) e d =
    let p = then_none (to_member k) (symbol_fault k (resource_in here Symbolic taken j))
    (pairs_in here (names_with taken (resource_loop j)) ms) e in
    let q = symbol_by (is_symbol k) (resource_in here Symbolic taken j) p.0 in
    let w = written_resource r in
    let kept = h here Symbolic taken (Some k) j refl q.1 d.0 in
    let t = g here (names_with taken (resource_loop j)) ms p.1 d.1 in
    let rest = pairs (written_by_symbol rs) in (
      ap (λ s. pairs_in here taken (pair s w rest)) (symbol_of k j r d.0)
          ∙ then_nothing (to_member k) (symbol_fault k (resource_in here Symbolic taken w))
          (pairs_in here (names_with taken (resource_loop w)) rest)
          (ap₂ (λ b o. if b then o else Some (WrongForm [])) q.0 kept.passes)
          (ap (λ o. pairs_in here (names_with taken o) rest) kept.loop ∙ t.0),
      omega (arith, kept.within, t.1),
      λ n. ap (λ b. if b then pairs_count n rest else pairs_count (total n 1) rest) (kept.existing refl)
          ∙ ap₂ (λ x y. if exists j then x else y) (t.2 n) (t.2 (total n 1)),
    )

-- ---- children

-- what is known of the children of a resource, which are written as these
pub record ChildrenKept (here : Sight) (rank : Rank) (n : ℕ) (o : Option Json) (ws : List Json) : Type 0 where
  pub fine : Holds (λ w. array_in here Child w ≡ None) (array_unless_empty ws)
  pub allowed : Holds (λ w. children_fault rank ≡ None) (array_unless_empty ws)
  pub within : NestsWithin n (array_unless_empty ws)
  pub parent : is_parent rank (array_unless_empty ws) ≡ is_parent rank o
  pub count : count_in (array_unless_empty ws) ≡ count_in o

same_parent : (rank : Rank) (j k : Json) (js ks : Row)
    → is_parent rank (Some (array (item j js))) ≡ is_parent rank (Some (array (item k ks)))
same_parent Listed j k js ks = refl
same_parent Child j k js ks = refl
same_parent Symbolic j k js ks = refl

has_none : Option Json → Bool
has_none (Some (array (item j js))) = false
has_none _ = true

no_parent : (rank : Rank) (o : Option Json) → has_none o ≡ true → is_parent rank None ≡ is_parent rank o
unfolding has_none
no_parent Listed None e = refl
no_parent Listed (Some null) e = refl
no_parent Listed (Some (bool b)) e = refl
no_parent Listed (Some (int z)) e = refl
no_parent Listed (Some (text t)) e = refl
no_parent Listed (Some (array no_items)) e = refl
no_parent Listed (Some (array (item j js))) e = cc
no_parent Listed (Some (object ms)) e = refl
no_parent Child o e = refl
no_parent Symbolic o e = refl

children_array : (cs : Trees) → EachKept cs → (here : Sight) (rank : Rank) (n : ℕ) (js : Row)
    → children_fault rank ≡ None → array_in here Child (array js) ≡ None → suc (row_nesting js) ≤ n
    → DescribesResources (map (λ j. (None, j)) (items js)) cs
    → ChildrenKept here rank n (Some (array js)) (written_each cs)
unfolding count_in has_none
children_array no_resources g here rank n no_items c e l d = record {
  fine = tt;
  allowed = tt;
  within = tt;
  parent = no_parent rank (Some (array no_items)) refl;
  count = refl;
}
children_array no_resources g here rank n (item j js) c e l d = cc
children_array (a_resource r rs) g here rank n no_items c e l d = absurd d
children_array (a_resource r rs) g here rank n (item j js) c e l d =
    let k = g here Child [] 0 (item j js) refl e d in
    record {
      fine = k.0;
      allowed = c;
      within = omega (arith, k.1, l);
      parent = same_parent rank (written_resource r) j (row (written_each rs)) js;
      count = k.2 0;
    }

children_gone : (cs : Trees) (here : Sight) (rank : Rank) (n : ℕ) → DescribesResources [] cs
    → ChildrenKept here rank n None (written_each cs)
children_gone no_resources here rank n d = record {
  fine = tt;
  allowed = tt;
  within = tt;
  parent = refl;
  count = refl;
}
children_gone (a_resource r rs) here rank n d = absurd d

pub children_from : (cs : Trees) → EachKept cs → (here : Sight) (rank : Rank) (n : ℕ) (o : Option Json)
    → Holds (λ j. (children_fault rank ≡ None) × (array_in here Child j ≡ None)) o → NestsWithin n o
    → DescribesResources (meaning.unnamed o) cs → ChildrenKept here rank n o (written_each cs)
children_from cs g here rank n None h w d = children_gone cs here rank n d
children_from cs g here rank n (Some null) h w d = let c = h.1 in cc
children_from cs g here rank n (Some (bool b)) h w d = let c = h.1 in cc
children_from cs g here rank n (Some (int z)) h w d = let c = h.1 in cc
children_from cs g here rank n (Some (text t)) h w d = let c = h.1 in cc
children_from cs g here rank n (Some (array js)) h w d = children_array cs g here rank n js h.0 h.1 w d
children_from cs g here rank n (Some (object ms)) h w d = let c = h.1 in cc
