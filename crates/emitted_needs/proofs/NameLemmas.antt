-- Which instances a text of `dependsOn` names in the template of a file.
use Rattle.std.proofs.Common.{◌≡◌, ℕ, suc, zero, Bool, true, false, true≢false, List, [], ◌∷◌, ◌++◌, Option, Some}
use Rattle.std.proofs.Common.{None, refl, sym, ap, ap₂, ◌∙◌, subst, bytes_eq}
use Rattle.std.specs.Prelude.{◌&&◌, ◌||◌, is_some, option_and_then, slice_get}
use Rattle.std.specs.List.{list_any}
use Rattle.std.proofs.lemmas.Bool.{or_left, or_right}
use Rattle.foundation.proofs.Words.{itself, eq_word}
use Rattle.foundation.proofs.Options.{same_some}
use Rattle.foundation.proofs.TruthValues.{or_false}
use Rattle.arm_value.specs.Json.{text}
use Rattle.arm_value.specs.Look.{fold, is_same_folded}
use Rattle.arm_ids.specs.declared.id.Place.{Place}
use Rattle.arm_eval.specs.Titles.{element}
use Rattle.arm_ids.specs.Segments.{joined}
use Rattle.template_parts.specs.declared.looping.ResourceCopy.{ResourceCopy}
use Rattle.template_parts.specs.declared.mode.Form.TheVariants.{One}
use Rattle.template_tree.specs.Tree.{TemplateTree}
use Rattle.deploy_cells.specs.Puts.{key_at}
use Rattle.plan_cells.specs.Needs.{has_loop, is_loop, is_id_of, is_symbol, is_element, names_in_one}
use Rattle.plan_cells.specs.Needs.{names_in_two, with_text}
use Rattle.plan_cells.specs.Resources.{Listed, unless_existing, resource_at, resources_in}
use Rattle.bicep_resolved.specs.Source.{LoopTree}
use Rattle.bicep_meaning.specs.Files.{SourceFile, symbol_name}
use Rattle.bicep_meaning.specs.Instances.{Put, put_of}
use Rattle.source_worlds.specs.Numbers.{name_of, or_empty, symbol_of}
use Rattle.emitted_worlds.specs.Values.{AreBoth}
use Rattle.emitted_worlds.specs.Files.{IsResource, IsLoop}
use Rattle.emitted_worlds.proofs.AbsentLemmas.{Match}
use Rattle.emitted_needs.specs.Symbols.{HasSymbols}
use Rattle.emitted_needs.proofs.TitleLemmas.{BeginsPlain, not_same, name_begins, longer_begins, no_id, not_element}

-- ---- lists

list_none : {A : Type 0} (test : A → Bool) (xs : List A)
    → ((m : ℕ) (x : A) → slice_get xs m ≡ Some x → test x ≡ false) → list_any test xs ≡ false
list_none test [] h = refl
list_none test (x ∷ xs) h =
    ap (λ b. b || list_any test xs) (h 0 x refl) ∙ list_none test xs (λ m y e. h (suc m) y e)

list_some : {A : Type 0} (test : A → Bool) (xs : List A) (m : ℕ) (x : A) → slice_get xs m ≡ Some x
    → test x ≡ true → list_any test xs ≡ true
list_some test [] zero x e h = absurd cc
list_some test [] (suc m) x e h = absurd cc
list_some test (y ∷ ys) zero x e h = or_left (test y) (list_any test ys) (ap test (same_some e) ∙ h)
list_some test (y ∷ ys) (suc m) x e h = or_right (test y) (list_any test ys) (list_some test ys m x e h)

-- ---- loops

abbrev looped_name : List ℕ → Option ResourceCopy → Bool
looped_name t None = false
looped_name t (Some c) = is_same_folded t c.name

has_loop_is : (t : List ℕ) (x : Listed) (o : Option ResourceCopy) → x.declaration.copy ≡ o
    → has_loop t x ≡ looped_name t o
has_loop_is t x None e = rw e refl
has_loop_is t x (Some c) e = rw e refl

same_folded : (x y : List ℕ) → fold x ≡ fold y → is_same_folded x y ≡ true
same_folded x y e = subst (λ s. bytes_eq (fold x) s ≡ true) e (itself (fold x))

pub name_is : (f : SourceFile) (n : ℕ) (x : List ℕ) → symbol_name f n ≡ Some x → name_of f n ≡ x
name_is f n x e = ap or_empty e

-- ---- the resource of a place of the list

listed_by : (b : Bool) (x : Listed) → x.declaration.existing ≡ b → b ≡ false → unless_existing x ≡ Some x
listed_by true x e h = absurd (true≢false h)
listed_by false x e h = rw e refl

unlisted_by : (b : Bool) (x y : Listed) → x.declaration.existing ≡ b → unless_existing x ≡ Some y → x ≡ y
unlisted_by true x y e h = let g : None ≡ Some y = sym (rw e refl) ∙ h in absurd cc
unlisted_by false x y e h = let g : Some x ≡ Some y = sym (rw e refl) ∙ h in same_some g

pub at_number : (v : TemplateTree) (m : ℕ) (x : Listed) → slice_get (resources_in v) m ≡ Some x
    → x.declaration.existing ≡ false → resource_at v m ≡ Some x
unfolding resource_at
at_number v m x e h = ap (option_and_then unless_existing) e ∙ listed_by x.declaration.existing x refl h

pub listed_at : (v : TemplateTree) (m : ℕ) (x : Listed) → resource_at v m ≡ Some x
    → slice_get (resources_in v) m ≡ Some x
unfolding resource_at
listed_at v m x e = by_entry (slice_get (resources_in v) m) refl e
  where
    by_entry : (o : Option Listed) → slice_get (resources_in v) m ≡ o → option_and_then unless_existing o ≡ Some x
        → slice_get (resources_in v) m ≡ Some x
    by_entry None g k = absurd cc
    by_entry (Some y) g k = g ∙ ap (λ y. Some y) (unlisted_by y.declaration.existing y x refl k)

module _ (files : List SourceFile) (f : SourceFile) (v : TemplateTree) (own : HasSymbols f) where
  -- a loop is named by its symbol
  loop_named : (t : List ℕ) (a : Put) (x : Listed) (o : Option LoopTree) (c : Option ResourceCopy)
      → AreBoth (IsLoop files f a.number) o c
      → ((y : List ℕ) → symbol_name f a.number ≡ Some y → is_same_folded t y ≡ false) → looped_name t c ≡ false
  loop_named t a x None None h k = refl
  loop_named t a x None (Some c) h k = absurd h
  loop_named t a x (Some o) None h k = refl
  loop_named t a x (Some o) (Some c) h k = k c.name h.name

  -- ---- an id names no loop

  module _ (t r : List ℕ) (slash : t ≡ 47 ∷ r) (match : Match One files f v) where
    by_put : (m : ℕ) (x : Listed) (o : Option Put) → AreBoth (IsResource files f) o (Some x)
        → has_loop t x ≡ false
    by_put m x None h = absurd h
    by_put m x (Some a) h =
        has_loop_is t x x.declaration.copy refl
        ∙ loop_named t a x a.body.each x.declaration.copy h.loop
        (λ y e. not_same t r y slash (name_begins y (own.names a.number y e)))

    no_loop : list_any (has_loop t) (resources_in v) ≡ false
    no_loop =
        list_none (has_loop t) (resources_in v)
        (λ m x e. by_put m x (option_and_then (λ n. put_of n f) (symbol_of One f m))
        (subst (AreBoth (IsResource files f) (option_and_then (λ n. put_of n f) (symbol_of One f m)))
        (at_number v m x e (match.none_exist m x e)) (match.resources m)))

    -- it names what has its key
    pub id_names : (place : Place) (y : Listed) (title : List ℕ) → BeginsPlain y.type
        → BeginsPlain (joined (key_at place y.type title).names)
        → names_in_one place (is_loop t (Some v)) t y (text title) ≡ is_id_of place t y title
    id_names place y title g k =
        ap (λ b. names_in_one place b t y (text title)) no_loop
        ∙ ap (λ b. is_id_of place t y title || b)
        (ap₂ (λ a b. a || b)
        (not_same t r (y.type ++ 47 ∷ title) slash
        (longer_begins y.type (47 ∷ title) g))
        (not_same t r (joined (key_at place y.type title).names) slash k))
        ∙ or_false (is_id_of place t y title)

  -- ---- the name of a loop names its instances

  pub loop_names : (n : ℕ) (x : List ℕ) → symbol_name f n ≡ Some x → (m : ℕ) (r : Listed) (b : Put)
      → resource_at v m ≡ Some r → IsResource files f b r → b.number ≡ n → is_some b.body.each ≡ true
      → (place : Place) (y : Listed) (title : List ℕ)
      → names_in_one place (is_loop x (Some v)) x y (text title) ≡ has_loop x y
  loop_names n x e m r b g h k c place y title =
      ap (λ b. names_in_one place b x y (text title))
      (list_some (has_loop x) (resources_in v) m r (listed_at v m r g)
      (has_loop_is x r r.declaration.copy refl ∙ named b.body.each r.declaration.copy h.loop c))
    where
      named : (o : Option LoopTree) (c : Option ResourceCopy) → AreBoth (IsLoop files f b.number) o c
          → is_some o ≡ true → looped_name x c ≡ true
      named None c i j = absurd (true≢false (sym j))
      named (Some o) None i j = absurd i
      named (Some o) (Some c) i j =
          same_folded x c.name
          (ap fold (same_some (sym e ∙ ap (symbol_name f) (sym k) ∙ i.name)))

  -- whether an instance is of the loop of a name
  pub loop_forth : (n : ℕ) (x : List ℕ) → symbol_name f n ≡ Some x → (a : Put) (y : Listed)
      → IsResource files f a y → is_some a.body.each ≡ true → a.number ≡ n → has_loop x y ≡ true
  loop_forth n x e a y h c k =
      has_loop_is x y y.declaration.copy refl ∙ named a.body.each y.declaration.copy h.loop c
    where
      named : (o : Option LoopTree) (c : Option ResourceCopy) → AreBoth (IsLoop files f a.number) o c
          → is_some o ≡ true → looped_name x c ≡ true
      named None c i j = absurd (true≢false (sym j))
      named (Some o) None i j = absurd i
      named (Some o) (Some c) i j =
          same_folded x c.name
          (ap fold (same_some (sym e ∙ ap (symbol_name f) (sym k) ∙ i.name)))

  pub loop_back : (n : ℕ) (x : List ℕ) → symbol_name f n ≡ Some x → (a : Put) (y : Listed)
      → IsResource files f a y → has_loop x y ≡ true → a.number ≡ n
  loop_back n x e a y h c =
      named a.body.each y.declaration.copy h.loop (sym (has_loop_is x y y.declaration.copy refl) ∙ c)
    where
      named : (o : Option LoopTree) (c : Option ResourceCopy) → AreBoth (IsLoop files f a.number) o c
          → looped_name x c ≡ true → a.number ≡ n
      named o None i j = absurd (true≢false (sym j))
      named None (Some c) i j = absurd i
      named (Some o) (Some c) i j =
          sym (own.differ n a.number x c.name e i.name (eq_word (fold x) (fold c.name) j))

  -- ---- in the second form: by symbolic names

  pub symbol_names : (n k : ℕ) (x o : List ℕ) → symbol_name f n ≡ Some x → symbol_name f k ≡ Some o → (place : Place)
      (y : Listed) (i : ℕ) (title : List ℕ) → y.declaration.symbol ≡ Some o
      → names_in_two place x y i (text title) ≡ bytes_eq x o
  symbol_names n k x o e g place y i title h =
      ap₂ (λ a b. a || b) (ap (is_symbol x) h)
      (ap₂ (λ a b. a || b) (element_none y.declaration.symbol (is_some y.declaration.copy) h) no_key)
      ∙ or_false (bytes_eq x o)
    where
      looped_none : (b : Bool) → (b && bytes_eq x (element o i)) ≡ false
      looped_none true = not_element x o i (own.names n x e) (own.names k o g)
      looped_none false = refl

      element_none : (s : Option (List ℕ)) (b : Bool) → s ≡ Some o → is_element x i b s ≡ false
      element_none None b j = refl
      element_none (Some s) b j = ap (λ s. b && bytes_eq x (element s i)) (same_some j) ∙ looped_none b

      no_key : with_text (is_id_of place x y) (text title) ≡ false
      no_key = rw (no_id x (name_begins x (own.names n x e))) refl

  pub symbol_same : (n k : ℕ) (x o : List ℕ) → symbol_name f n ≡ Some x → symbol_name f k ≡ Some o
      → bytes_eq x o ≡ true → k ≡ n
  symbol_same n k x o e g h = sym (own.differ n k x o e g (ap fold (eq_word x o h)))
