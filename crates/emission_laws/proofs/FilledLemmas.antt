-- What a declaration becomes with a run in its holes is what it becomes with that run.
use Rattle.std.proofs.Common.{◌≡◌, ℕ, zero, suc, List, [], ◌∷◌, ◌++◌, length, Option, Some, None, Bool, true, false}
use Rattle.std.proofs.Common.{codes}
use Rattle.std.proofs.Common.{refl, sym, ap, ◌∙◌, subst}
use Rattle.std.proofs.lemmas.Option.{none-some}
use Rattle.std.specs.Prelude.{◌==◌, pos, map, option_and_then, if◌then◌else◌}
use Rattle.foundation.proofs.Lists.{map-push}
use Rattle.arm_ids.specs.Segments.{segments}
use Rattle.arm_expr.specs.Tree.{Tree, text, int, call, index, more, trees}
use Rattle.bicep_tree.specs.declared.leaf.Literal.TheVariants as l
use Rattle.bicep_declared.specs.Source.{SourceTree, ReachTree, ValueTree, LoopTree, field_named}
use Rattle.bicep_declared.specs.Source as s
use Rattle.bicep_declared.specs.Target.{number_of, target_of}
use Rattle.bicep_meaning_laws.specs.Mentions.{mentions}
use Rattle.bicep_declared.specs.Declarations.{BodyTree, DeclaredTree}
use Rattle.bicep_declared.specs.Declarations as d
use Rattle.bicep_meaning_laws.specs.Files.{SourceFile, symbol_name, declaration, Parent, no_parent, inside}
use Rattle.bicep_meaning_laws.specs.Files.{below}
use Rattle.bicep_meaning_laws.specs.Files.{parent, type_of}
use Rattle.bicep_meaning_laws.specs.Declared.{body_of, body_at}
use Rattle.declaration_laws.specs.Emittable.{IsEmittable, IsValue}
use Rattle.declaration_laws.specs.Emitted.{Frame, emitted, emitted_value, frames_of}
use Rattle.declaration_laws.specs.Declared.{Emission, variable_entry, named_by_symbol, parts_of}
use Rattle.declaration_laws.specs.Declared.{parts_by_number, segments_from, split_name}
use Rattle.declaration_laws.specs.Declared.{number_of_parts, value_or_none, variable_of, over}
use Rattle.declaration_laws.specs.Declared.{module_name}
use Rattle.declaration_laws.specs.Declared.{name_by, name_of, parts_by, parts_at, id_at, next, through}
use Rattle.declaration_laws.specs.Sound.{IsSound}
use Rattle.emission_laws.specs.Holes.{fill, fill_all, holes, nearest, HasHoles, refilled}
use Rattle.emission_laws.specs.Same.{SameScope}
use Rattle.emission_laws.proofs.FillLemmas.{Becomes, ScopeFills, holes_become, none_becomes, filled, value_filled}
use Rattle.emission_laws.proofs.FillLemmas.{frames_filled}
use Rattle.emission_laws.proofs.SameLemmas.{all_of_these, same_emitted}

-- ---- lists of parts

trees_filled : (f : Frame) (ts : List Tree) → fill_all f (trees ts) ≡ trees (map (fill f) ts)
trees_filled f [] = refl
trees_filled f (t ∷ ts) = ap (more (fill f t)) (trees_filled f ts)

texts_filled : (f : Frame) (ts : List (List ℕ)) → map (fill f) (map text ts) ≡ map text ts
texts_filled f [] = refl
texts_filled f (t ∷ ts) = ap (λ us. text t ∷ us) (texts_filled f ts)

segments_filled : (f : Frame) (a : Tree) (i n : ℕ) → map (fill f) (segments_from a i n) ≡ segments_from (fill f a) i n
segments_filled f a i zero = refl
segments_filled f a i (suc n) =
    ap (λ ts. index (split_name (fill f a)) (int (pos i)) ∷ ts) (segments_filled f a (suc i) n)

numbered_filled : (f : Frame) (a : Tree) (n : ℕ) → map (fill f) (parts_by_number a n) ≡ parts_by_number (fill f a) n
numbered_filled f a zero = refl
numbered_filled f a (suc zero) = refl
numbered_filled f a (suc (suc n)) = segments_filled f a 0 (suc n)

chosen_filled : (f : Frame) (b : Bool) (t : List ℕ) (a : Tree) (n : ℕ)
    → map (fill f) (if b then map text (segments t) else parts_by_number a n)
    ≡ (if b then map text (segments t) else parts_by_number (fill f a) n)
chosen_filled f true t a n = texts_filled f (segments t)
chosen_filled f false t a n = numbered_filled f a n

parts_filled : (f : Frame) (v : Option ValueTree) (a : Tree) (n : ℕ)
    → map (fill f) (parts_of v a n) ≡ parts_of v (fill f a) n
parts_filled f None a n = numbered_filled f a n
parts_filled f (Some (s.each e x)) a n = numbered_filled f a n
parts_filled f (Some (s.plain (s.literal at (l.Text t)))) a n = chosen_filled f (length (segments t) == n) t a n
parts_filled f (Some (s.plain (s.literal at (l.Number z)))) a n = numbered_filled f a n
parts_filled f (Some (s.plain (s.literal at l.True))) a n = numbered_filled f a n
parts_filled f (Some (s.plain (s.literal at l.False))) a n = numbered_filled f a n
parts_filled f (Some (s.plain (s.literal at l.Null))) a n = numbered_filled f a n
parts_filled f (Some (s.plain (s.name at x))) a n = numbered_filled f a n
parts_filled f (Some (s.plain (s.interpolated at start ps))) a n = numbered_filled f a n
parts_filled f (Some (s.plain (s.object at ps))) a n = numbered_filled f a n
parts_filled f (Some (s.plain (s.array at es))) a n = numbered_filled f a n
parts_filled f (Some (s.plain (s.call at name es))) a n = numbered_filled f a n
parts_filled f (Some (s.plain (s.instance r))) a n = numbered_filled f a n
parts_filled f (Some (s.plain (s.field r at x))) a n = numbered_filled f a n
parts_filled f (Some (s.plain (s.output r at k))) a n = numbered_filled f a n
parts_filled f (Some (s.plain (s.member e k x))) a n = numbered_filled f a n
parts_filled f (Some (s.plain (s.index e k i))) a n = numbered_filled f a n
parts_filled f (Some (s.plain (s.prefixed at p e))) a n = numbered_filled f a n
parts_filled f (Some (s.plain (s.binary op x y))) a n = numbered_filled f a n
parts_filled f (Some (s.plain (s.conditional c x y))) a n = numbered_filled f a n

-- ---- declarations

pub record EmissionFills (f : Frame) (b : Emission) : Type 0 where
  pub scope : ScopeFills f b.scope
  pub parts : (n : ℕ) (gs hs : List Frame) → Becomes f gs hs → map (fill f) (b.parts n gs) ≡ b.parts n hs

module _ (file : SourceFile) (files : List SourceFile) (sound : IsSound file) (f : Frame) (b : Emission)
    (ef : EmissionFills f b) where
  of_value : (v : ValueTree) (gs hs : List Frame) → IsValue v → Becomes f gs hs
      → fill f (emitted_value file files b.scope v gs) ≡ emitted_value file files b.scope v hs
  of_value = value_filled file files f b.scope ef.scope

  entry_filled : (x : Option (List ℕ)) → fill f (variable_entry x) ≡ variable_entry x
  entry_filled None = refl
  entry_filled (Some x) = refl

  variable_at : (n : ℕ) (o : Option DeclaredTree) → declaration file n ≡ o → (q : Bool) → file.has_entry n ≡ q
      → fill f (variable_of file files b n o) ≡ variable_of file files b n o
  variable_at n (Some (d.variable at v)) e true h =
      subst (λ q. fill f (if q then variable_entry (symbol_name file n) else emitted_value file files b.scope v [])
      ≡ (if q then variable_entry (symbol_name file n) else emitted_value file files b.scope v []))
      (sym h) (entry_filled (symbol_name file n))
  variable_at n (Some (d.variable at v)) e false h =
      subst (λ q. fill f (if q then variable_entry (symbol_name file n) else emitted_value file files b.scope v [])
      ≡ (if q then variable_entry (symbol_name file n) else emitted_value file files b.scope v []))
      (sym h) (of_value v [] [] (sound.variables n at v e h) (none_becomes f))
  variable_at n (Some (d.parameter at t)) e q h = refl
  variable_at n (Some (d.parameter_with at t v)) e q h = refl
  variable_at n (Some (d.a_resource at t existing body)) e q h = refl
  variable_at n (Some (d.a_module at body)) e q h = refl
  variable_at n None e q h = refl

  over_filled : (p : Option LoopTree) → ((at : ℕ) (xs : SourceTree) → p ≡ Some (s.loop at xs) → IsEmittable xs)
      → fill f (over file files b p) ≡ over file files b p
  over_filled None g = refl
  over_filled (Some (s.loop at xs)) g = filled file files f b.scope ef.scope xs [] [] (g at xs refl) (none_becomes f)

  loop_emittable : (n : ℕ) (o : Option BodyTree) → body_at file n ≡ o → (at : ℕ) (xs : SourceTree)
      → option_and_then (λ b. b.each) o ≡ Some (s.loop at xs) → IsEmittable xs
  loop_emittable n None e at xs h = absurd (none-some (s.loop at xs) h)
  loop_emittable n (Some body) e at xs h = sound.loops n at body xs e h

  some_filled : (p : Option ValueTree) → ((v : ValueTree) → p ≡ Some v → IsValue v) → (gs hs : List Frame)
      → Becomes f gs hs → fill f (value_or_none file files b p gs) ≡ value_or_none file files b p hs
  some_filled None g gs hs h = refl
  some_filled (Some v) g gs hs h = of_value v gs hs (g v refl) h

  symbol_filled : (x : Option (List ℕ)) (p : Option LoopTree) (gs hs : List Frame) → Becomes f gs hs
      → fill f (named_by_symbol x p gs) ≡ named_by_symbol x p hs
  symbol_filled None p gs hs h = refl
  symbol_filled (Some x) None gs hs h = refl
  symbol_filled (Some x) (Some q) gs hs h =
      ap (λ i. named_by_symbol (Some x) (Some q) (record { item = i; index = i } ∷ [])) (h.index 0)

  module_filled : (n : ℕ) (body : BodyTree) (p : Option ValueTree) → ((v : ValueTree) → p ≡ Some v → IsValue v)
      → (gs hs : List Frame) → Becomes f gs hs
      → fill f (module_name file files b n body p gs) ≡ module_name file files b n body p hs
  module_filled n body (Some v) g gs hs h = of_value v gs hs (g v refl) h
  module_filled n body None g gs hs h = symbol_filled (symbol_name file n) body.each gs hs h

  name_at : (n : ℕ) (o : Option DeclaredTree) → declaration file n ≡ o → (gs hs : List Frame) → Becomes f gs hs
      → fill f (name_by file files b n o gs) ≡ name_by file files b n o hs
  name_at n (Some (d.a_resource at t existing body)) e gs hs h =
      some_filled (field_named (codes "name") body.fields)
      (λ v q. sound.names n body v (ap (option_and_then body_of) e) q) gs hs h
  name_at n (Some (d.a_module at body)) e gs hs h =
      module_filled n body (field_named (codes "name") body.fields)
      (λ v q. sound.names n body v (ap (option_and_then body_of) e) q) gs hs h
  name_at n (Some (d.variable at v)) e gs hs h = refl
  name_at n (Some (d.parameter at t)) e gs hs h = refl
  name_at n (Some (d.parameter_with at t v)) e gs hs h = refl
  name_at n None e gs hs h = refl

  name_filled : (n : ℕ) (gs hs : List Frame) → Becomes f gs hs
      → fill f (name_of file files b n gs) ≡ name_of file files b n hs
  name_filled n gs hs h = name_at n (declaration file n) refl gs hs h

  parts_after : (n : ℕ) (p : Parent) → parent file n ≡ p → (v : Option ValueTree) (k : ℕ) (gs hs : List Frame)
      → Becomes f gs hs
      → map (fill f) (parts_by file files b p v k (name_of file files b n gs) gs)
      ≡ parts_by file files b p v k (name_of file files b n hs) hs
  parts_after n no_parent e v k gs hs h =
      parts_filled f v (name_of file files b n gs) k ∙ ap (λ a. parts_of v a k) (name_filled n gs hs h)
  parts_after n (inside m) e v k gs hs h =
      let p = ef.parts m [] [] (none_becomes f) in
      let q = name_filled n gs hs h in
      map-push (fill f) (b.parts m []) (name_of file files b n gs) ∙ (λ t. p t ++ q t ∷ [])
  parts_after n (below r) e v k gs hs h =
      let p = ef.parts (number_of (target_of r)) (frames_of file files b.scope r gs) (frames_of file files b.scope r hs)
      (frames_filled file files f b.scope ef.scope r gs hs (sound.parents n r e) h) in
      let q = name_filled n gs hs h in
      map-push (fill f) (b.parts (number_of (target_of r)) (frames_of file files b.scope r gs))
      (name_of file files b n gs)
      ∙ (λ t. p t ++ q t ∷ [])

  parts_of_declared : (n : ℕ) (o : Option DeclaredTree) (gs hs : List Frame) → Becomes f gs hs
      → map (fill f) (parts_at file files b n o gs) ≡ parts_at file files b n o hs
  parts_of_declared n (Some (d.a_resource at t existing body)) gs hs h =
      parts_after n (parent file n) refl (field_named (codes "name") body.fields)
      (number_of_parts (type_of file n).kind) gs hs h
  parts_of_declared n (Some (d.a_module at body)) gs hs h = refl
  parts_of_declared n (Some (d.variable at v)) gs hs h = refl
  parts_of_declared n (Some (d.parameter at t)) gs hs h = refl
  parts_of_declared n (Some (d.parameter_with at t v)) gs hs h = refl
  parts_of_declared n None gs hs h = refl

  id_filled : (n : ℕ) (o : Option DeclaredTree) (gs hs : List Frame) → Becomes f gs hs
      → fill f (id_at file files b n o gs) ≡ id_at file files b n o hs
  id_filled n (Some (d.a_resource at t existing body)) gs hs h =
      ap (λ ts. call (codes "resourceId") (more (text (type_of file n).kind) ts))
      (trees_filled f (parts_at file files b n (Some (d.a_resource at t existing body)) gs)
      ∙ ap trees (parts_of_declared n (Some (d.a_resource at t existing body)) gs hs h))
  id_filled n (Some (d.a_module at body)) gs hs h = refl
  id_filled n (Some (d.variable at v)) gs hs h = refl
  id_filled n (Some (d.parameter at t)) gs hs h = refl
  id_filled n (Some (d.parameter_with at t v)) gs hs h = refl
  id_filled n None gs hs h = refl

  next_fills : EmissionFills f (next file files b)
  unfolding next
  next_fills = record {
    scope = record {
      variable = λ n. variable_at n (declaration file n) refl (file.has_entry n) refl;
      items = λ n. over_filled (option_and_then (λ b. b.each) (body_at file n))
          (loop_emittable n (body_at file n) refl);
      name = λ n gs hs h. name_filled n gs hs h;
      id = λ n gs hs h. id_filled n (declaration file n) gs hs h;
    };
    parts = λ n gs hs h. parts_of_declared n (declaration file n) gs hs h;
  }

module _ (file : SourceFile) (files : List SourceFile) (sound : IsSound file) where
  pub fills : (f : Frame) (k : ℕ) → EmissionFills f (through file files k)
  unfolding through
  fills f zero = record {
    scope = record {
      variable = λ n. refl;
      items = λ n. refl;
      name = λ n gs hs h. refl;
      id = λ n gs hs h. refl;
    };
    parts = λ n gs hs h. refl;
  }
  fills f (suc k) = next_fills file files sound f (through file files k) (fills f k)

  pub has_holes : (k n : ℕ) → HasHoles (through file files k).scope n
  has_holes k n = record {
    variable = λ f. (fills f k).scope.variable n;
    items = λ f. (fills f k).scope.items n;
    name = λ fs r. (fills (nearest fs) k).scope.name n (holes ∷ []) fs (holes_become fs r);
    id = λ fs r. (fills (nearest fs) k).scope.id n (holes ∷ []) fs (holes_become fs r);
  }

  same_refilled : (k n : ℕ) → SameScope (refilled (through file files k).scope) (through file files k).scope n
  same_refilled k n =
      let h = has_holes k n in
      record { variable = refl; items = refl; name = h.name; id = h.id }

  pub refilled_same : (k : ℕ) (e : SourceTree) (fs : List Frame)
      → emitted file files (refilled (through file files k).scope) e fs
      ≡ emitted file files (through file files k).scope e fs
  refilled_same k e fs =
      same_emitted file files (refilled (through file files k).scope) (through file files k).scope e fs
      (all_of_these (SameScope (refilled (through file files k).scope) (through file files k).scope) (same_refilled k)
      (mentions e))
