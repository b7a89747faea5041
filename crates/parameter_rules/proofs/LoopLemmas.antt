-- Literals, one after another.
use Rattle.std.proofs.Common.{◌≡◌, ◌<◌, ◌≤◌, ◌+◌, ℕ, List, [], ◌∷◌, ◌++◌, length, get_or, drop, map, refl, sym, ap, ◌∙◌}
use Rattle.std.proofs.Common.{append_assoc, append-nil, subst, arith}
use Rattle.std.proofs.lemmas.List.{drop_all}
use Rattle.arm_value.proofs.MemberLemmas.{put_each-append}
use Rattle.foundation.proofs.Lists.{next_item}
use Rattle.arm_value.specs.Json.{Json, Member, put_each, row, item}
use Rattle.bicep_tree.specs.Nesting.{nesting, deepest, deepest_member, member_nesting}
use Rattle.bicep_tree.specs.Tree.{trees, members}
use Rattle.bicep_tree.specs.View as view
use Rattle.bicep_tree.specs.declared.expr.Expr.{Expr}
use Rattle.bicep_tree.specs.declared.expr.Member.{Member as Written}
use Rattle.parameter_rules.specs.Literals.{value_of, row_of, each_of, member_of}

abbrev of : Expr → Json
of e = value_of (view.tree_of e)

row_is : (xs : List Expr) → row_of (trees (map view.tree_of xs)) ≡ row (map of xs)
row_is [] = refl
row_is (x ∷ xs) = ap (item (of x)) (row_is xs)

-- the values so far and those of what is left are all; what is left nests no deeper than all
pub record Goes (xs : List Expr) (i : ℕ) (done : List Json) : Type 0 where
  pub all : map of xs ≡ done ++ map of (drop i xs)
  pub fits : deepest (trees (map view.tree_of (drop i xs))) ≤ deepest (trees (map view.tree_of xs))

module _ (xs : List Expr) where
  pub begins : Goes xs 0 []
  begins = record { all = refl; fits = omega arith }

  pub item_fits : (i : ℕ) (done : List Json) (x : Expr) → i < length xs → x ≡ get_or xs i x → Goes xs i done
      → nesting (view.tree_of x) ≤ deepest (trees (map view.tree_of xs))
  item_fits i done x h e g =
      let f =
      subst (λ (l : List Expr). deepest (trees (map view.tree_of l)) ≤ deepest (trees (map view.tree_of xs)))
      (next_item xs i x h e) g.fits in
      omega (arith, f)

  pub goes_on : (i : ℕ) (done more : List Json) (x : Expr) (j : Json) → i < length xs → x ≡ get_or xs i x
      → j ≡ of x → more ≡ done ++ j ∷ [] → Goes xs i done → Goes xs (i + 1) more
  goes_on i done more x j h e is n g =
      let rest = map of (drop (i + 1) xs) in
      let step : map of (drop i xs) ≡ of x ∷ rest = ap (map of) (next_item xs i x h e) in
      let grown : more ≡ done ++ of x ∷ [] = n ∙ ap (λ k. done ++ k ∷ []) is in
      let f =
      subst (λ (l : List Expr). deepest (trees (map view.tree_of l)) ≤ deepest (trees (map view.tree_of xs)))
      (next_item xs i x h e) g.fits in
      record {
        all = g.all ∙ ap (λ l. done ++ l) step ∙ sym (append_assoc done (of x ∷ []) rest)
            ∙ ap (λ l. l ++ rest) (sym grown);
        fits = omega (arith, f);
      }

  pub ends : (i : ℕ) (done : List Json) → length xs ≤ i → Goes xs i done
      → row done ≡ row_of (trees (map view.tree_of xs))
  ends i done h g =
      ap row (sym (g.all ∙ ap (λ (l : List Expr). done ++ map of l) (drop_all i xs h) ∙ append-nil done))
      ∙ sym (row_is xs)

-- ---- members

-- the members so far with those of what is left are all; what is left nests no deeper than all
pub record Fills (xs : List Written) (i : ℕ) (done : List Member) : Type 0 where
  pub all : put_each [] (each_of (members (map view.member_of xs)))
      ≡ put_each done (each_of (members (map view.member_of (drop i xs))))
  pub fits : deepest_member (members (map view.member_of (drop i xs)))
      ≤ deepest_member (members (map view.member_of xs))

module _ (xs : List Written) where
  pub fills_first : Fills xs 0 []
  fills_first = record { all = refl; fits = omega arith }

  pub member_fits : (i : ℕ) (done : List Member) (x : Written) → i < length xs → x ≡ get_or xs i x
      → Fills xs i done → member_nesting (view.member_of x) ≤ deepest_member (members (map view.member_of xs))
  member_fits i done x h e g =
      let f =
      subst (λ (l : List Written). deepest_member (members (map view.member_of l))
      ≤ deepest_member (members (map view.member_of xs))) (next_item xs i x h e)
      g.fits in
      omega (arith, f)

  pub fills_on : (i : ℕ) (done more : List Member) (x : Written) → i < length xs → x ≡ get_or xs i x
      → more ≡ put_each done (member_of (view.member_of x)) → Fills xs i done → Fills xs (i + 1) more
  fills_on i done more x h e n g =
      let rest = each_of (members (map view.member_of (drop (i + 1) xs))) in
      let f =
      subst (λ (l : List Written). deepest_member (members (map view.member_of l))
      ≤ deepest_member (members (map view.member_of xs))) (next_item xs i x h e)
      g.fits in
      record {
        all = g.all
            ∙ ap (λ (l : List Written). put_each done (each_of (members (map view.member_of l))))
            (next_item xs i x h e)
            ∙ put_each-append done (member_of (view.member_of x)) rest ∙ ap (λ ms. put_each ms rest) (sym n);
        fits = omega (arith, f);
      }

  pub fills_last : (i : ℕ) (done : List Member) → length xs ≤ i → Fills xs i done
      → done ≡ put_each [] (each_of (members (map view.member_of xs)))
  fills_last i done h g =
      sym (g.all ∙ ap (λ (l : List Written). put_each done (each_of (members (map view.member_of l))))
      (drop_all i xs h))
