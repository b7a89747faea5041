-- Expressions whose names are found have the names of what is written, and as many holes.
use Rattle.std.proofs.Common.{◌≡◌, ◌≤◌, ℕ, suc, Bool, true, false, List, [], ◌∷◌, Option, Some, None, refl, sym, ap}
use Rattle.std.proofs.Common.{subst, codes}
use Rattle.std.specs.Prelude.{◌^◌, bytes_eq, if◌then◌else◌}
use Rattle.arm_value.specs.Look.{fold}
use Rattle.arm_expr.specs.Grammar.{GoOnName, IsName}
use Rattle.bicep_tree.specs.declared.leaf.Access.{Access}
use Rattle.bicep_tree.specs.declared.leaf.Access.TheVariants as access
use Rattle.bicep_tree.specs.declared.leaf.Indexing.{Indexing}
use Rattle.bicep_tree.specs.declared.leaf.Indexing.TheVariants as indexing
use Rattle.bicep_tree.specs.declared.leaf.LoopNames.{LoopNames}
use Rattle.bicep_tree.specs.declared.leaf.Name.{Name}
use Rattle.bicep_tree.specs.Offset.{function_offset, label_offset}
use Rattle.bicep_tree.specs.Symbol.{label_text}
use Rattle.bicep_tree.specs.Tree.{Tree, Trees, Holes, ObjectTree, MemberTrees, ValueTree}
use Rattle.bicep_tree.specs.Tree as tree
use Rattle.bicep_resolved.specs.declared.leaf.Field.{Field}
use Rattle.bicep_resolved.specs.declared.leaf.Field.TheVariants as f
use Rattle.bicep_resolved.specs.declared.leaf.Selector.{Selector}
use Rattle.bicep_resolved.specs.declared.leaf.Target.{Target}
use Rattle.bicep_resolved.specs.declared.leaf.Target.TheVariants as t
use Rattle.bicep_resolved.specs.Source.{SourceTree, SourceTrees, PieceTrees, PropertyTrees, ReachTree}
use Rattle.bicep_resolved.specs.Source as s
use Rattle.bicep_resolved.specs.Place.{reach_offset}
use Rattle.bicep_resolved.specs.Target.{number_of, target_of}
use Rattle.bicep_found.specs.Found.{Found, both}
use Rattle.bicep_names.specs.declared.kind.Named.{Named}
use Rattle.bicep_names.specs.declared.kind.Named.TheVariants as named
use Rattle.bicep_names.specs.Functions.{may_call}
use Rattle.bicep_names.specs.Scope.{Scope, Symbols, OutputNames, meaning_of, nested_named}
use Rattle.bicep_names.specs.Resolve.{resolved, resolved_all, resolved_holes, resolved_object, resolved_members}
use Rattle.bicep_names.specs.Resolve.{resolved_value, name_at, accessed, member_of, nested_of, nested_at, output_at}
use Rattle.bicep_names.specs.Resolve.{output_of, called_by, function_name, element_of, indexed, resource_field}
use Rattle.bicep_names.specs.Resolve.{module_field, field_of, nested_within, reach_in, whole_in, element_by}
use Rattle.bicep_numbers.proofs.FoundLemmas.{WhereFound, where-mapped, where-both, where-then}
use Rattle.bicep_emission.specs.Emittable as emitting
use Rattle.sound_values.specs.FewHoles.{HasFewHoles, AllHaveFew, HolesHaveFew, MembersHaveFew, ValueHasFew}
use Rattle.emitted_names.specs.Words.{HasFieldName, HasWords, HaveWords, HolesHaveWords, MembersHaveWords}
use Rattle.emitted_names.specs.Words.{ValueHasWords, ReachHasWords}
use Rattle.tree_names.specs.Words.{HasAllWords, HaveAllWords, MembersHaveAllWords, ValueHasAllWords}
use Rattle.file_words.specs.Words.{count, IsWorded, AreWorded, HolesAreWorded, ObjectIsWorded, MembersAreWorded}
use Rattle.file_words.specs.Words.{ValueIsWorded}
use Rattle.emitted_numbers.specs.Wholes.{HasWholes, HaveWholes, HolesHaveWholes, MembersHaveWholes, ValueHasWholes}
use Rattle.emitted_numbers.specs.Wholes.{ReachHasWholes}
use Rattle.file_words.proofs.TokenLemmas.{letter_of_small, go_on_small}

-- a resource or a module that is used by an element of its loop
abbrev pub ReachIsWorded : SourceTree → Type 0
ReachIsWorded (s.instance r) = ReachHasWords r × ReachHasWholes r
ReachIsWorded x = Unit {0}

pub record Good (x : SourceTree) : Type 0 where
  pub words : HasWords x
  pub all : HasAllWords x
  pub wholes : HasWholes x
  pub few : HasFewHoles x
  pub reach : ReachIsWorded x

record GoodHoles (hs : Holes) (ps : PieceTrees) : Type 0 where
  words : HolesHaveWords ps
  wholes : HolesHaveWholes ps
  few : HolesHaveFew ps
  counted : emitting.count ps ≡ count hs

record AllGood (xs : SourceTrees) : Type 0 where
  words : HaveWords xs
  all : HaveAllWords xs
  wholes : HaveWholes xs
  few : AllHaveFew xs

-- the value of a member
pub record GoodValue (v : s.ValueTree) : Type 0 where
  pub words : ValueHasWords v
  pub all : ValueHasAllWords v
  pub wholes : ValueHasWholes v
  pub few : ValueHasFew v
  pub reach : (r : ReachTree) → v ≡ s.plain (s.instance r) → ReachHasWords r × ReachHasWholes r

abbrev pub AreGood : PropertyTrees → Type 0
AreGood s.no_property = Unit {0}
AreGood (s.property at name v ps) = GoodValue v × AreGood ps

pub members_words : (ps : PropertyTrees) → AreGood ps → MembersHaveWords ps
members_words s.no_property h = tt
members_words (s.property at name v ps) h = (h.0.words, members_words ps h.1)

pub members_few : (ps : PropertyTrees) → AreGood ps → MembersHaveFew ps
members_few s.no_property h = tt
members_few (s.property at name v ps) h = (h.0.few, members_few ps h.1)

pub members_wholes : (ps : PropertyTrees) → AreGood ps → MembersHaveWholes ps
members_wholes s.no_property h = tt
members_wholes (s.property at name v ps) h = (h.0.wholes, members_wholes ps h.1)

pub members_all : (ps : PropertyTrees) → AreGood ps → MembersHaveAllWords ps
members_all s.no_property h = tt
members_all (s.property at name v ps) h = (h.0.all, members_all ps h.1)

-- ---- names in small letters

folded_rest : (cs : List ℕ) → GoOnName cs → GoOnName (fold cs)
folded_rest [] h = tt
folded_rest (c ∷ cs) h = (go_on_small c h.0, folded_rest cs h.1)

folded_name : (w : List ℕ) → IsName w → IsName (fold w)
folded_name [] h = h
folded_name (c ∷ cs) h = (letter_of_small c h.0, folded_rest cs h.1)

-- ---- fields

pick : (b : Bool) (x y : Field) → HasFieldName x → HasFieldName y → HasFieldName (if b then x else y)
pick true x y g h = g
pick false x y g h = h

resource_named : (name : List ℕ) → IsName name → HasFieldName (resource_field name)
unfolding resource_field
resource_named name h =
    pick (bytes_eq name (codes "id")) f.Id _ tt (pick (bytes_eq name (codes "name")) f.Name _ tt
    (pick (bytes_eq name (codes "type")) f.Type _ tt (pick (bytes_eq name (codes "apiVersion")) f.ApiVersion _ tt
    (pick (bytes_eq name (codes "properties")) f.Properties (f.Other name) tt h))))

module_named : (name : List ℕ) → IsName name → HasFieldName (module_field name)
unfolding module_field
module_named name h =
    pick (bytes_eq name (codes "name")) f.Name _ tt
    (pick (bytes_eq name (codes "outputs")) f.Outputs (f.Other name) tt h)

field_is_named : (x : Target) (name : List ℕ) → IsName name → HasFieldName (field_of x name)
field_is_named (t.Resource n) name h = resource_named name h
field_is_named (t.ResourceLoop n) name h = resource_named name h
field_is_named (t.Module n file) name h = module_named name h
field_is_named (t.ModuleLoop n file) name h = module_named name h

-- ---- parts of values

output_good : (r : ReachTree) (at : ℕ) (o : Option ℕ) → ReachHasWords r → ReachHasWholes r
    → HasFewHoles (s.output r 0 0) → WhereFound Good (output_at r at o)
output_good r at None h w g = tt
output_good r at (Some k) h w g = record { words = h; all = h; wholes = w; few = g; reach = tt }

kept_good : (x : SourceTree) (k : Selector) (n : Name) → IsName n.text → Good x → Good (s.member x k n)
kept_good x k n h g = record {
  words = (g.words, h);
  all = (g.words, h);
  wholes = g.wholes;
  few = g.few;
  reach = tt;
}

-- `x.n`
member_good : (os : List OutputNames) (x : SourceTree) (n : Name) → IsName n.text → Good x
    → WhereFound Good (member_of os x n)
unfolding member_of
member_good os (s.name at y) n h g = kept_good _ _ n h g
member_good os (s.literal at v) n h g = kept_good _ _ n h g
member_good os (s.interpolated at first ps) n h g = kept_good _ _ n h g
member_good os (s.object at ps) n h g = kept_good _ _ n h g
member_good os (s.array at es) n h g = kept_good _ _ n h g
member_good os (s.call at name es) n h g = kept_good _ _ n h g
member_good os (s.instance r) n h g =
    let own = field_is_named (target_of r) n.text h in
    record { words = (g.reach.0, own); all = (g.reach.0, own); wholes = g.reach.1; few = g.few; reach = tt }
member_good os (s.field r at f.Id) n h g = kept_good _ _ n h g
member_good os (s.field r at f.Name) n h g = kept_good _ _ n h g
member_good os (s.field r at f.Type) n h g = kept_good _ _ n h g
member_good os (s.field r at f.ApiVersion) n h g = kept_good _ _ n h g
member_good os (s.field r at f.Properties) n h g = kept_good _ _ n h g
member_good os (s.field r at f.Outputs) n h g =
    output_good r n.at (output_of os (target_of r) n.text) g.words.0 g.wholes g.few
member_good os (s.field r at (f.Other x)) n h g = kept_good _ _ n h g
member_good os (s.output r at k) n h g = kept_good _ _ n h g
member_good os (s.member x k m) n h g = kept_good _ _ n h g
member_good os (s.index x k i) n h g = kept_good _ _ n h g
member_good os (s.prefixed at p x) n h g = kept_good _ _ n h g
member_good os (s.binary o x y) n h g = kept_good _ _ n h g
member_good os (s.conditional c x y) n h g = kept_good _ _ n h g

symbol_good : (at name_at : ℕ) (o : Option Target) → WhereFound Good (nested_at at name_at o)
symbol_good at name_at None = tt
symbol_good at name_at (Some x) = record { words = tt; all = tt; wholes = tt; few = tt; reach = (tt, tt) }

-- `x::n`
nested_good : (ss : Symbols) (o : Option ReachTree) (n : Name) → WhereFound Good (nested_within ss o n)
nested_good ss None n = tt
nested_good ss (Some r) n = symbol_good (reach_offset r) n.at (nested_named ss (number_of (target_of r)) n.text)

nested_is : (ss : Symbols) (x : SourceTree) (n : Name) → WhereFound Good (nested_of ss x n)
unfolding nested_of
nested_is ss x n = nested_good ss (reach_in x) n

accessed_good : (sc : Scope) (x : SourceTree) (k : Access) (n : Name) → IsName n.text → Good x
    → WhereFound Good (accessed sc x k n)
accessed_good sc x access.Member n h g = member_good sc.outputs x n h g
accessed_good sc x access.SafeMember n h g = kept_good _ _ n h g
accessed_good sc x access.Nested n h g = nested_is sc.symbols x n

element_good : (o : Option (ℕ × Target)) (x i : SourceTree) → Good x → Good i → Good (element_by o x i)
element_good None x i g h =
    record {
      words = (g.words, h.words);
      all = (g.words, h.words);
      wholes = (g.wholes, h.wholes);
      few = (g.few, h.few);
      reach = tt;
    }
element_good (Some p) x i g h =
    record { words = tt; all = tt; wholes = tt; few = h.few; reach = (h.words, h.wholes) }

indexed_good : (x i : SourceTree) (k : Indexing) → Good x → Good i → Good (indexed x k i)
unfolding element_of
indexed_good x i indexing.Plain g h = element_good (whole_in x) x i g h
indexed_good x i indexing.Safe g h =
    record {
      words = (g.words, h.words);
      all = (g.words, h.words);
      wholes = (g.wholes, h.wholes);
      few = (g.few, h.few);
      reach = tt;
    }

named_good : (at : ℕ) (o : Option Named) → WhereFound Good (name_at at o)
named_good at None = tt
named_good at (Some (named.Value x)) = record { words = tt; all = tt; wholes = tt; few = tt; reach = tt }
named_good at (Some (named.Instance x)) =
    record { words = tt; all = tt; wholes = tt; few = tt; reach = (tt, tt) }

called_good : (at name_at : ℕ) (text : List ℕ) (b : Bool) (es : Found SourceTrees) → IsName text
    → WhereFound AllGood es → WhereFound Good (called_by at name_at (if b then Some (fold text) else None) es)
called_good at name_at text true es h g =
    where-mapped AllGood Good (λ xs. s.call at (fold text) xs) es g
    (λ y k. record {
      words = (folded_name text h, k.words);
      all = (folded_name text h, k.words);
      wholes = k.wholes;
      few = k.few;
      reach = tt;
    })
called_good at name_at text false es h g = tt

-- ---- expressions

good_object : (at : ℕ) (ps : PropertyTrees) → AreGood ps → Good (s.object at ps)
good_object at ps h = record {
  words = members_words ps h;
  all = (members_words ps h, members_all ps h);
  wholes = members_wholes ps h;
  few = members_few ps h;
  reach = tt;
}

good_text : (at : ℕ) (first : List ℕ) (hs : Holes) (ps : PieceTrees) → count hs ≤ 2 ^ 64 → GoodHoles hs ps
    → Good (s.interpolated at first ps)
good_text at first hs ps few g =
    record {
      words = g.words;
      all = g.words;
      wholes = g.wholes;
      few = (g.few, subst (λ n. n ≤ 2 ^ 64) (sym g.counted) few);
      reach = tt;
    }

good_value : (x : SourceTree) → Good x → GoodValue (s.plain x)
good_value x g = record {
  words = g.words;
  all = g.all;
  wholes = g.wholes;
  few = g.few;
  reach = λ r e. let own : x ≡ s.instance r = cc in subst ReachIsWorded own g.reach;
}

module _ (sc : Scope) where
  mutual
    pub worded : (e : Tree) (ls : List LoopNames) → IsWorded e → WhereFound Good (resolved sc e ls)
    worded (tree.name n) ls h = named_good n.at (meaning_of sc.symbols ls n.text)
    worded (tree.literal at v) ls h = record { words = tt; all = tt; wholes = h; few = tt; reach = tt }
    worded (tree.interpolated at first hs) ls h =
        where-mapped (GoodHoles hs) Good (λ ps. s.interpolated at first ps) (resolved_holes sc hs ls)
        (worded_holes hs ls h.0) (λ y g. good_text at first hs y h.1 g)
    worded (tree.object o) ls h = worded_object o ls h
    worded (tree.array at es) ls h =
        where-mapped AllGood Good (λ xs. s.array at xs) (resolved_all sc es ls) (worded_all es ls h)
        (λ y g. record { words = g.words; all = g.all; wholes = g.wholes; few = g.few; reach = tt })
    worded (tree.parentheses at e) ls h = worded e ls h
    worded (tree.call g es) ls h =
        called_good (function_offset g) (function_name g).at (function_name g).text (may_call (function_name g).text)
        (resolved_all sc es ls) h.0 (worded_all es ls h.1)
    worded (tree.access e k n) ls h =
        where-then Good Good (λ x. accessed sc x k n) (resolved sc e ls) (worded e ls h.0)
        (λ y g. accessed_good sc y k n h.1 g)
    worded (tree.index e k i) ls h =
        where-mapped (λ p. Good p.0 × Good p.1) Good (λ p. indexed p.0 k p.1)
        (both (resolved sc e ls) (resolved sc i ls))
        (where-both Good Good (resolved sc e ls) (resolved sc i ls) (worded e ls h.0) (worded i ls h.1))
        (λ p g. indexed_good p.0 p.1 k g.0 g.1)
    worded (tree.not_null e) ls h = worded e ls h
    worded (tree.prefixed at p e) ls h =
        where-mapped Good Good (λ x. s.prefixed at p x) (resolved sc e ls) (worded e ls h)
        (λ y g. record { words = g.words; all = g.words; wholes = g.wholes; few = g.few; reach = tt })
    worded (tree.binary o a b) ls h =
        where-mapped (λ p. Good p.0 × Good p.1) Good (λ p. s.binary o p.0 p.1)
        (both (resolved sc a ls) (resolved sc b ls))
        (where-both Good Good (resolved sc a ls) (resolved sc b ls) (worded a ls h.0) (worded b ls h.1))
        (λ p g. record {
          words = (g.0.words, g.1.words);
          all = (g.0.words, g.1.words);
          wholes = (g.0.wholes, g.1.wholes);
          few = (g.0.few, g.1.few);
          reach = tt;
        })
    worded (tree.conditional c a b) ls h =
        where-mapped (λ p. Good p.0 × (Good p.1.0 × Good p.1.1)) Good (λ p. s.conditional p.0 p.1.0 p.1.1)
        (both (resolved sc c ls) (both (resolved sc a ls) (resolved sc b ls)))
        (where-both Good (λ q. Good q.0 × Good q.1) (resolved sc c ls) (both (resolved sc a ls) (resolved sc b ls))
        (worded c ls h.0)
        (where-both Good Good (resolved sc a ls) (resolved sc b ls) (worded a ls h.1.0) (worded b ls h.1.1)))
        (λ p g. record {
          words = (g.0.words, (g.1.0.words, g.1.1.words));
          all = (g.0.words, (g.1.0.words, g.1.1.words));
          wholes = (g.0.wholes, (g.1.0.wholes, g.1.1.wholes));
          few = (g.0.few, (g.1.0.few, g.1.1.few));
          reach = tt;
        })

    worded_all : (es : Trees) (ls : List LoopNames) → AreWorded es → WhereFound AllGood (resolved_all sc es ls)
    worded_all tree.none ls h = record { words = tt; all = tt; wholes = tt; few = tt }
    worded_all (tree.more e es) ls h =
        where-mapped (λ p. Good p.0 × AllGood p.1) AllGood (λ p. s.more p.0 p.1)
        (both (resolved sc e ls) (resolved_all sc es ls))
        (where-both Good AllGood (resolved sc e ls) (resolved_all sc es ls) (worded e ls h.0) (worded_all es ls h.1))
        (λ p g. record {
          words = (g.0.words, g.1.words);
          all = (g.0.all, g.1.all);
          wholes = (g.0.wholes, g.1.wholes);
          few = (g.0.few, g.1.few);
        })

    worded_holes : (hs : Holes) (ls : List LoopNames) → HolesAreWorded hs
        → WhereFound (GoodHoles hs) (resolved_holes sc hs ls)
    worded_holes tree.no_hole ls h = record { words = tt; wholes = tt; few = tt; counted = refl }
    worded_holes (tree.hole e after hs) ls h =
        where-mapped (λ p. Good p.0 × GoodHoles hs p.1) (GoodHoles (tree.hole e after hs))
        (λ p. s.piece p.0 after p.1) (both (resolved sc e ls) (resolved_holes sc hs ls))
        (where-both Good (GoodHoles hs) (resolved sc e ls) (resolved_holes sc hs ls) (worded e ls h.0)
        (worded_holes hs ls h.1))
        (λ p g. record {
          words = (g.0.words, g.1.words);
          wholes = (g.0.wholes, g.1.wholes);
          few = (g.0.few, g.1.few);
          counted = ap (λ n. suc n) g.1.counted;
        })

    worded_object : (o : ObjectTree) (ls : List LoopNames) → ObjectIsWorded o
        → WhereFound Good (resolved_object sc o ls)
    worded_object (tree.braces at ms) ls h =
        where-mapped AreGood Good (λ ps. s.object at ps) (resolved_members sc ms ls) (worded_members ms ls h)
        (λ y g. good_object at y g)

    pub worded_members : (ms : MemberTrees) (ls : List LoopNames) → MembersAreWorded ms
        → WhereFound AreGood (resolved_members sc ms ls)
    worded_members tree.no_member ls h = tt
    worded_members (tree.and_member (tree.property l v) ms) ls h =
        where-mapped (λ p. GoodValue p.0 × AreGood p.1) AreGood
        (λ p. s.property (label_offset l) (label_text l) p.0 p.1)
        (both (resolved_value sc v ls) (resolved_members sc ms ls))
        (where-both GoodValue AreGood (resolved_value sc v ls) (resolved_members sc ms ls) (worded_value v ls h.0)
        (worded_members ms ls h.1)) (λ p g. g)
    worded_members (tree.and_member (tree.child ds r) ms) ls h = worded_members ms ls h.1

    pub worded_value : (v : ValueTree) (ls : List LoopNames) → ValueIsWorded v
        → WhereFound GoodValue (resolved_value sc v ls)
    worded_value (tree.plain e) ls h =
        where-mapped Good GoodValue (λ x. s.plain x) (resolved sc e ls) (worded e ls h) (λ y g. good_value y g)
    worded_value (tree.each (tree.loop at names xs) e) ls h =
        where-mapped (λ p. Good p.0 × Good p.1) GoodValue (λ p. s.each (s.loop at p.0) p.1)
        (both (resolved sc xs ls) (resolved sc e (names ∷ ls)))
        (where-both Good Good (resolved sc xs ls) (resolved sc e (names ∷ ls)) (worded xs ls h.0)
        (worded e (names ∷ ls) h.1))
        (λ p g. record {
          words = tt;
          all = (g.0.words, g.1.all);
          wholes = (g.0.wholes, g.1.wholes);
          few = (g.0.few, g.1.few);
          reach = λ r e. absurd cc;
        })
