-- Arguments that are built one after another.
use Rattle.std.proofs.Common.{◌≡◌, ℕ, Bool, true, false, List, [], ◌∷◌, Option, Some, None, Result, Ok, Err}
use Rattle.std.proofs.Common.{refl, sym, ap, ◌∙◌, subst, bytes_eq}
use Rattle.std.specs.Prelude.{IfOk, is_some, if◌then◌else◌}
use Rattle.std.specs.declared.alloc.AllocError.{AllocError}
use Rattle.std.specs.List.Sorted.{IsStrictlySortedBy}
use Rattle.std.proofs.lemmas.Slice.Eq.{bytes_eq-Decides}
use Rattle.arm_value.specs.Look.{fold}
use Rattle.template_parts.specs.declared.content.Argument.{Argument}
use Rattle.template_parts.specs.declared.content.Content.{Content}
use Rattle.named_parts.specs.Found.{found, HasOneMore}
use Rattle.named_parts.specs.Order.{AreInOrder, inserted}
use Rattle.named_parts.proofs.FoundLemmas.{one_inserted}
use Rattle.named_parts.proofs.OrderLemmas.{in_order}
use Rattle.bicep_resolved.specs.Source.{PropertyTrees, ValueTree}
use Rattle.bicep_resolved.specs.Source as s
use Rattle.bicep_resolved.specs.View.{PropertyTree, properties}
use Rattle.bicep_meaning.specs.Instances as source
use Rattle.bicep_emission.specs.Emitted.{Frame}
use Rattle.emitted_expressions.specs.Sight.{Sight}
use Rattle.emitted_resources.specs.Values.{AreBoth, IsContent}
use Rattle.emitted_modules.specs.Arguments.{object_members, argument_name, has_argument, argument_value, IsNext}
use Rattle.emitted_modules.specs.Arguments.{with_first, IsArgumentOf, AreArguments}

module _ (w : Sight) (fs : List Frame) where
  -- what a value becomes
  abbrev IsOf : ValueTree → Argument → Type 0
  IsOf v a = IsContent (argument_value w v fs) a.content

  -- the value of a name is that of its argument, or is still to come
  abbrev pub IsBegun : Option ValueTree → Option ValueTree → Option Argument → Type 0
  IsBegun whole left (Some a) = AreBoth IsOf whole (Some a)
  IsBegun whole left None = whole ≡ left

  -- the arguments of the members before those that are left
  pub record AreBegun (left whole : PropertyTrees) (xs : List Argument) : Type 0 where
    pub order : AreInOrder argument_name xs
    pub values : (x : List ℕ)
        → IsBegun (source.argument_named x whole) (source.argument_named x left) (found argument_name x xs)

  pub none_begun : (ps : PropertyTrees) (xs : List Argument) → xs ≡ [] → AreBegun ps ps xs
  unfolding IsStrictlySortedBy
  none_begun ps xs e = subst (AreBegun ps ps) (sym e) (record { order = tt; values = λ x. refl })

  -- ---- one member more

  module _ (p : PropertyTree) (left : List PropertyTree) (whole : PropertyTrees) (xs : List Argument)
      (begun : AreBegun (properties (p ∷ left)) whole xs) (a : Argument) (is : IsArgumentOf w fs p.1 p.2 a) where
    abbrev here : List ℕ → Bool
    here x = bytes_eq x (fold p.1)

    is_name : (x : List ℕ) → here x ≡ true → x ≡ fold p.1
    is_name x e = (bytes_eq-Decides x (fold p.1)).0 e

    here_by : (x : List ℕ) → bytes_eq x (fold a.name) ≡ here x
    here_by x = ap (λ y. bytes_eq x (fold y)) is.name

    -- the name of the member has an argument already
    stays_by : (x : List ℕ) (b : Bool) (o : Option Argument) → (b ≡ true → o ≡ None → ⊥)
        → IsBegun (source.argument_named x whole)
        (if b then Some p.2 else source.argument_named x (properties left)) o
        → IsBegun (source.argument_named x whole) (source.argument_named x (properties left)) o
    stays_by x b (Some q) n h = h
    stays_by x true None n h = absurd (n refl refl)
    stays_by x false None n h = h

    stays : is_some (found argument_name (fold p.1) xs) ≡ true → AreBegun (properties left) whole xs
    stays e = record {
      order = begun.order;
      values = λ x. stays_by x (here x) (found argument_name x xs) (there x)
          (begun.values x);
    }
      where
        there : (x : List ℕ) → here x ≡ true → found argument_name x xs ≡ None → ⊥
        there x h n =
            let q = sym e ∙ ap (λ y. is_some (found argument_name y xs)) (sym (is_name x h)) ∙ ap is_some n in
            absurd cc

    -- it is the first of its name
    first_by : (x : List ℕ) (b : Bool) (o : Option Argument) → here x ≡ b → (b ≡ true → o ≡ None)
        → IsBegun (source.argument_named x whole)
        (if b then Some p.2 else source.argument_named x (properties left)) o
        → HasOneMore a xs (inserted argument_name a xs) → found argument_name x xs ≡ o
        → IsBegun (source.argument_named x whole) (source.argument_named x (properties left))
        (found argument_name x (inserted argument_name a xs))
    first_by x true (Some q) e n h more f =
        let r = n refl in
        absurd cc
    first_by x true None e n h more f =
        subst (IsBegun (source.argument_named x whole) (source.argument_named x (properties left)))
        (sym (more.new (λ a. bytes_eq x (fold (argument_name a))) (here_by x ∙ e) f))
        (subst (λ o. AreBoth IsOf o (Some a)) (sym h) is.content)
    first_by x false o e n h more f =
        subst (IsBegun (source.argument_named x whole) (source.argument_named x (properties left)))
        (sym (more.others (λ a. bytes_eq x (fold (argument_name a))) (here_by x ∙ e) ∙ f)) h

    first : found argument_name (fold p.1) xs ≡ None
        → AreBegun (properties left) whole (inserted argument_name a xs)
    first n = record {
      order = in_order argument_name a xs begun.order (ap (λ y. found argument_name (fold y) xs) is.name ∙ n);
      values = λ x. first_by x (here x) (found argument_name x xs) refl
          (λ h. ap (λ y. found argument_name y xs) (is_name x h) ∙ n) (begun.values x) (one_inserted a argument_name xs)
          refl;
    }

    next_by : (o : Option Argument) → found argument_name (fold p.1) xs ≡ o
        → AreBegun (properties left) whole (if is_some o then xs else inserted argument_name a xs)
    next_by None e = first e
    next_by (Some q) e = stays (ap is_some e)

    next : AreBegun (properties left) whole (with_first a xs)
    next =
        subst (λ y. AreBegun (properties left) whole (if has_argument y xs then xs else inserted argument_name a xs))
        (sym is.name) (next_by (found argument_name (fold p.1) xs) refl)

  pub one_more : (p : PropertyTree) (left : List PropertyTree) (whole : PropertyTrees) (xs bs : List Argument)
      (r : Result Argument AllocError) → IfOk r (IsArgumentOf w fs p.1 p.2) → IsNext xs r bs
      → AreBegun (properties (p ∷ left)) whole xs → AreBegun (properties left) whole bs
  one_more p left whole xs bs (Ok a) h n begun =
      subst (AreBegun (properties left) whole) (sym n) (next p left whole xs begun a h)
  one_more p left whole xs bs (Err e) h n begun = absurd n

  -- an argument that is made of a name and a content
  pub is_argument : (x : List ℕ) (v : ValueTree) (content : Content) (n : List ℕ) → n ≡ x
      → IsContent (argument_value w v fs) content → (r : Result Argument AllocError) → IfOk r (λ a. a.name ≡ n)
      → IfOk r (λ a. a.content ≡ content) → IfOk r (IsArgumentOf w fs x v)
  is_argument x v content n e h (Ok a) p q =
      record { name = p ∙ e; content = subst (IsContent (argument_value w v fs)) (sym q) h }
  is_argument x v content n e h (Err y) p q = tt

  -- no member is left
  done_by : (o : Option ValueTree) (q : Option Argument) → IsBegun o None q → AreBoth IsOf o q
  done_by o (Some a) h = h
  done_by None None h = tt
  done_by (Some v) None h = absurd cc

  pub all_done : (left whole : PropertyTrees) (xs : List Argument) → left ≡ s.no_property → AreBegun left whole xs
      → AreArguments w fs whole xs
  all_done left whole xs e begun =
      let all = subst (λ ps. AreBegun ps whole xs) e begun in
      record {
        order = all.order;
        values = λ x. done_by (source.argument_named x whole) (found argument_name x xs) (all.values x);
      }

-- an argument in `params` is a member of the object
pub argument_in_is : (x : List ℕ) (o : Option ValueTree)
    → source.argument_in x o ≡ source.argument_named x (object_members o)
argument_in_is x None = λ i. None
argument_in_is x (Some (s.each l e)) = λ i. None
argument_in_is x (Some (s.plain (s.object at ps))) = λ i. source.argument_named x ps
argument_in_is x (Some (s.plain (s.name at n))) = λ i. None
argument_in_is x (Some (s.plain (s.literal at v))) = λ i. None
argument_in_is x (Some (s.plain (s.interpolated at front ps))) = λ i. None
argument_in_is x (Some (s.plain (s.array at es))) = λ i. None
argument_in_is x (Some (s.plain (s.call at n es))) = λ i. None
argument_in_is x (Some (s.plain (s.instance r))) = λ i. None
argument_in_is x (Some (s.plain (s.field r at n))) = λ i. None
argument_in_is x (Some (s.plain (s.output r at k))) = λ i. None
argument_in_is x (Some (s.plain (s.member e k n))) = λ i. None
argument_in_is x (Some (s.plain (s.index e k n))) = λ i. None
argument_in_is x (Some (s.plain (s.prefixed at p e))) = λ i. None
argument_in_is x (Some (s.plain (s.binary o a b))) = λ i. None
argument_in_is x (Some (s.plain (s.conditional c a b))) = λ i. None
