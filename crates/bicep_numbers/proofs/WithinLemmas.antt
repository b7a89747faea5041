-- The numbers in expressions whose names are found are those of symbols.
use Rattle.std.proofs.Common.{◌≡◌, ◌<◌, ℕ, ◌+◌, Bool, true, false, List, [], ◌∷◌, ◌++◌, length, Option, Some, None}
use Rattle.std.proofs.Common.{refl, sym, subst, arith, bytes_eq, cond}
use Rattle.std.specs.Prelude.{IfSome, encode_utf8_all}
use Rattle.std.specs.List.{AllByRecursion}
use Rattle.bicep_tree.specs.declared.leaf.Access.{Access}
use Rattle.bicep_tree.specs.declared.leaf.Access.TheVariants as access
use Rattle.bicep_tree.specs.declared.leaf.Indexing.{Indexing}
use Rattle.bicep_tree.specs.declared.leaf.Indexing.TheVariants as indexing
use Rattle.bicep_tree.specs.declared.leaf.LoopNames.{LoopNames}
use Rattle.bicep_tree.specs.declared.leaf.LoopNames.TheVariants as ns
use Rattle.bicep_tree.specs.declared.leaf.Name.{Name}
use Rattle.bicep_tree.specs.Offset.{function_offset}
use Rattle.bicep_tree.specs.Tree.{Tree, Trees, Holes, ObjectTree, MemberTrees, ValueTree}
use Rattle.bicep_tree.specs.Tree as tree
use Rattle.bicep_resolved.specs.declared.leaf.Field.TheVariants as f
use Rattle.bicep_resolved.specs.declared.leaf.Meaning.{Meaning}
use Rattle.bicep_resolved.specs.declared.leaf.Meaning.TheVariants as m
use Rattle.bicep_resolved.specs.declared.leaf.Target.TheVariants as t
use Rattle.bicep_resolved.specs.Source.{SourceTree, SourceTrees, ReachTree}
use Rattle.bicep_resolved.specs.Source as s
use Rattle.bicep_resolved.specs.Place.{reach_offset}
use Rattle.bicep_resolved.specs.Target.{number_of, target_of}
use Rattle.bicep_found.specs.Found.{Found, found, unknown, mapped}
use Rattle.bicep_names.specs.declared.kind.Kind.{Kind}
use Rattle.bicep_names.specs.declared.kind.Kind.TheVariants as k
use Rattle.bicep_names.specs.Functions.{function_named}
use Rattle.bicep_names.specs.Scope.{Scope, Symbols, symbol_from, in_loop, loop_from, named_by, meaning_of}
use Rattle.bicep_names.specs.Scope.{nested_by, nested_among, nested_named, is_inside}
use Rattle.bicep_names.specs.Scope as scope
use Rattle.bicep_names.specs.Resolve.{resolved, resolved_all, resolved_holes, resolved_object, resolved_members}
use Rattle.bicep_names.specs.Resolve.{resolved_value, name_at, accessed, member_of, nested_of, nested_at, output_at}
use Rattle.bicep_names.specs.Resolve.{output_of, called_by, function_name, element_of, indexed}
use Rattle.bicep_circles.specs.Mentions.{name_mentions, mentions, reach_mentions, all_mentions, piece_mentions, property_mentions, value_mentions}
use Rattle.bicep_numbers.proofs.FoundLemmas.{WhereFound, where-mapped, where-both, where-then, all-append}

-- ---- names

-- a symbol that is found among these has one of the numbers from n on
symbol_within : (n : ℕ) (name : List ℕ) (ss : Symbols) → IfSome (symbol_from n name ss) (λ p. p.0 < n + length ss)
symbol_within n name [] = tt
symbol_within n name (x ∷ ss) = by (bytes_eq name x.0) _ (symbol_within (n + 1) name ss)
  where
    grown : (o : Option (ℕ × Kind)) → IfSome o (λ p. p.0 < (n + 1) + length ss)
        → IfSome o (λ p. p.0 < n + length (x ∷ ss))
    grown (Some p) h = omega (arith, h)
    grown None h = tt

    by : (b : Bool) (o : Option (ℕ × Kind)) → IfSome o (λ p. p.0 < (n + 1) + length ss)
        → IfSome (cond b (Some (n, x.1)) o) (λ p. p.0 < n + length (x ∷ ss))
    by true o h = omega arith
    by false o h = grown o h

-- names of loops mention no symbol
abbrev MentionsNone : Option Meaning → Type 0
MentionsNone o = IfSome o (λ x. name_mentions x ≡ [])

none-or : (o p : Option Meaning) → MentionsNone o → MentionsNone p → MentionsNone (scope.or_else o p)
none-or (Some x) p h k = h
none-or None p h k = k

item_none : (b : Bool) (n : ℕ) → MentionsNone (cond b (Some (m.Item n)) None)
item_none true n = refl
item_none false n = tt

index_none : (b : Bool) (n : ℕ) → MentionsNone (cond b (Some (m.Index n)) None)
index_none true n = refl
index_none false n = tt

in_loop_none : (n : ℕ) (name : List ℕ) (l : LoopNames) → MentionsNone (in_loop n name l)
in_loop_none n name (ns.Item x) = item_none (bytes_eq name x.text) n
in_loop_none n name (ns.Both x i) = by (bytes_eq name x.text) (bytes_eq name i.text)
  where
    by : (b c : Bool) → MentionsNone (cond b (Some (m.Item n)) (cond c (Some (m.Index n)) None))
    by true c = refl
    by false true = refl
    by false false = tt

loop_none : (n : ℕ) (name : List ℕ) (ls : List LoopNames) → MentionsNone (loop_from n name ls)
loop_none n name [] = tt
loop_none n name (l ∷ ls) = none-or (in_loop n name l) _ (in_loop_none n name l) (loop_none (n + 1) name ls)

module _ (sc : Scope) where
  -- all of these are numbers of symbols
  abbrev pub Within : List ℕ → Type 0
  Within ms = AllByRecursion (λ m. m < length sc.symbols) ms

  abbrev IsWithin : SourceTree → Type 0
  IsWithin x = Within (mentions x)

  within_append : (xs ys : List ℕ) → Within xs → Within ys → Within (xs ++ ys)
  within_append xs ys h k = all-append _ xs ys h k

  within_named : (at : ℕ) (o : Option Meaning) (p : Option (ℕ × Kind)) → MentionsNone o
      → IfSome p (λ q. q.0 < 0 + length sc.symbols) → WhereFound IsWithin (name_at at (named_by o p))
  within_named at (Some x) p h b = subst Within (sym h) tt
  within_named at None None h b = tt
  within_named at None (Some (n, k.Parameter)) h b = (omega (arith, b), tt)
  within_named at None (Some (n, k.Variable)) h b = (omega (arith, b), tt)
  within_named at None (Some (n, k.Resource inside)) h b = (omega (arith, b), tt)
  within_named at None (Some (n, k.ResourceLoop inside)) h b = (omega (arith, b), tt)
  within_named at None (Some (n, k.Module file)) h b = (omega (arith, b), tt)
  within_named at None (Some (n, k.ModuleLoop file)) h b = (omega (arith, b), tt)

  within_name : (at : ℕ) (ls : List LoopNames) (name : List ℕ)
      → WhereFound IsWithin (name_at at (meaning_of sc.symbols ls name))
  unfolding meaning_of
  within_name at ls name =
      within_named at _ _ (loop_none 0 name ls) (symbol_within 0 (encode_utf8_all name) sc.symbols)

  -- ---- accesses

  within_output : (r : ReachTree) (at : ℕ) (o : Option ℕ) → Within (reach_mentions r)
      → WhereFound IsWithin (output_at r at o)
  within_output r at (Some x) h = h
  within_output r at None h = tt

  within_member : (e : SourceTree) (n : Name) → IsWithin e → WhereFound IsWithin (member_of sc.outputs e n)
  unfolding member_of
  within_member (s.field r at f.Outputs) n h = within_output r n.at (output_of sc.outputs (target_of r) n.text) h
  within_member e n h = h

  within_nested_by : (at name_at around : ℕ) (p : Option (ℕ × Kind)) → IfSome p (λ q. q.0 < 0 + length sc.symbols)
      → WhereFound IsWithin (nested_at at name_at (nested_among around p))
  within_nested_by at name_at around None h = tt
  within_nested_by at name_at around (Some (n, k.Parameter)) h = tt
  within_nested_by at name_at around (Some (n, k.Variable)) h = tt
  within_nested_by at name_at around (Some (n, k.Module file)) h = tt
  within_nested_by at name_at around (Some (n, k.ModuleLoop file)) h = tt
  within_nested_by at name_at around (Some (n, k.Resource inside)) h = by (is_inside around inside)
    where
      by : (b : Bool) → WhereFound IsWithin (nested_at at name_at (cond b (Some (t.Resource n)) None))
      by true = (omega (arith, h), tt)
      by false = tt
  within_nested_by at name_at around (Some (n, k.ResourceLoop inside)) h = by (is_inside around inside)
    where
      by : (b : Bool) → WhereFound IsWithin (nested_at at name_at (cond b (Some (t.ResourceLoop n)) None))
      by true = (omega (arith, h), tt)
      by false = tt

  within_nested : (e : SourceTree) (n : Name) → WhereFound IsWithin (nested_of sc.symbols e n)
  unfolding nested_of nested_named
  within_nested (s.instance r) n =
      within_nested_by (reach_offset r) n.at (number_of (target_of r)) _
      (symbol_within 0 (encode_utf8_all n.text) sc.symbols)
  within_nested e n = tt

  within_accessed : (e : SourceTree) (k : Access) (n : Name) → IsWithin e → WhereFound IsWithin (accessed sc e k n)
  within_accessed e access.Member n h = within_member e n h
  within_accessed e access.SafeMember n h = h
  within_accessed e access.Nested n h = within_nested e n

  within_element : (e i : SourceTree) → IsWithin e → IsWithin i → IsWithin (element_of e i)
  unfolding element_of
  within_element (s.instance (s.symbol at x)) i h k = (h.0, k)
  within_element e i h k = within_append (mentions e) (mentions i) h k

  within_indexed : (e i : SourceTree) (k : Indexing) → IsWithin e → IsWithin i → IsWithin (indexed e k i)
  within_indexed e i indexing.Plain h g = within_element e i h g
  within_indexed e i indexing.Safe h g = within_append (mentions e) (mentions i) h g

  within_called : (at name_at : ℕ) (o : Option (List ℕ)) (es : Found SourceTrees)
      → WhereFound (λ xs. Within (all_mentions xs)) es → WhereFound IsWithin (called_by at name_at o es)
  unfolding mapped
  within_called at name_at None es h = tt
  within_called at name_at (Some r) (found xs) h = h
  within_called at name_at (Some r) (unknown b) h = tt

  -- ---- expressions

  mutual
    pub within : (e : Tree) (ls : List LoopNames) → WhereFound IsWithin (resolved sc e ls)
    within (tree.name n) ls = within_name n.at ls n.text
    within (tree.literal at v) ls = tt
    within (tree.interpolated at first hs) ls = where-mapped _ _ _ _ (within_holes hs ls) (λ y h. h)
    within (tree.object o) ls = within_object o ls
    within (tree.array at es) ls = where-mapped _ _ _ _ (within_all es ls) (λ y h. h)
    within (tree.parentheses at e) ls = within e ls
    within (tree.call g es) ls =
        within_called (function_offset g) (function_name g).at (function_named (function_name g).text)
        (resolved_all sc es ls) (within_all es ls)
    within (tree.access e k n) ls =
        where-then IsWithin IsWithin _ _ (within e ls) (λ y h. within_accessed y k n h)
    within (tree.index e k i) ls =
        where-mapped _ _ _ _ (where-both IsWithin IsWithin _ _ (within e ls) (within i ls))
        (λ p h. within_indexed p.0 p.1 k h.0 h.1)
    within (tree.not_null e) ls = within e ls
    within (tree.prefixed at p e) ls = where-mapped _ _ _ _ (within e ls) (λ y h. h)
    within (tree.binary o a b) ls =
        where-mapped _ _ _ _ (where-both IsWithin IsWithin _ _ (within a ls) (within b ls))
        (λ p h. within_append (mentions p.0) (mentions p.1) h.0 h.1)
    within (tree.conditional c a b) ls =
        where-mapped _ _ _ _ (where-both IsWithin (λ q. IsWithin q.0 × IsWithin q.1) _ _ (within c ls)
        (where-both IsWithin IsWithin _ _ (within a ls) (within b ls)))
        (λ p h. within_append (mentions p.0) (mentions p.1.0 ++ mentions p.1.1) h.0
        (within_append (mentions p.1.0) (mentions p.1.1) h.1.0 h.1.1))

    pub within_all : (es : Trees) (ls : List LoopNames)
        → WhereFound (λ xs. Within (all_mentions xs)) (resolved_all sc es ls)
    within_all tree.none ls = tt
    within_all (tree.more e es) ls =
        where-mapped _ _ _ _
        (where-both IsWithin (λ xs. Within (all_mentions xs)) _ _ (within e ls) (within_all es ls))
        (λ p h. within_append (mentions p.0) (all_mentions p.1) h.0 h.1)

    pub within_holes : (hs : Holes) (ls : List LoopNames)
        → WhereFound (λ xs. Within (piece_mentions xs)) (resolved_holes sc hs ls)
    within_holes tree.no_hole ls = tt
    within_holes (tree.hole e after hs) ls =
        where-mapped _ _ _ _
        (where-both IsWithin (λ xs. Within (piece_mentions xs)) _ _ (within e ls) (within_holes hs ls))
        (λ p h. within_append (mentions p.0) (piece_mentions p.1) h.0 h.1)

    pub within_object : (o : ObjectTree) (ls : List LoopNames) → WhereFound IsWithin (resolved_object sc o ls)
    within_object (tree.braces at ms) ls = where-mapped _ _ _ _ (within_members ms ls) (λ y h. h)

    pub within_members : (ms : MemberTrees) (ls : List LoopNames)
        → WhereFound (λ xs. Within (property_mentions xs)) (resolved_members sc ms ls)
    within_members tree.no_member ls = tt
    within_members (tree.and_member (tree.property l v) ms) ls =
        where-mapped _ _ _ _
        (where-both (λ x. Within (value_mentions x)) (λ xs. Within (property_mentions xs)) _ _ (within_value v ls)
        (within_members ms ls))
        (λ p h. within_append (value_mentions p.0) (property_mentions p.1) h.0 h.1)
    within_members (tree.and_member (tree.child ds r) ms) ls = within_members ms ls

    pub within_value : (v : ValueTree) (ls : List LoopNames)
        → WhereFound (λ x. Within (value_mentions x)) (resolved_value sc v ls)
    within_value (tree.plain e) ls = where-mapped _ _ _ _ (within e ls) (λ y h. h)
    within_value (tree.each (tree.loop at names xs) e) ls =
        where-mapped _ _ _ _ (where-both IsWithin IsWithin _ _ (within xs ls) (within e (names ∷ ls)))
        (λ p h. within_append (mentions p.0) (mentions p.1) h.0 h.1)
