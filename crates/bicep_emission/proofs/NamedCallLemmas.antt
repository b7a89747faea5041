-- Calls of functions that a Bicep file may call.
use Rattle.std.proofs.Common.{◌≡◌, ℕ, zero, suc, length, List, [], ◌∷◌, Option, Some, None, Bool, true, false, codes}
use Rattle.std.proofs.Common.{refl, sym, ap, ◌∙◌, subst, arith}
use Rattle.std.specs.Prelude.{not, option_map, option_and_then, is_some, slice_get, if◌then◌else◌}
use Rattle.std.specs.List.{list_any}
use Rattle.std.proofs.lemmas.Option.{none-some}
use Rattle.foundation.proofs.Comparisons.{le_true}
use Rattle.foundation.proofs.TruthValues.{both, or_left, or_right, of_not}
use Rattle.foundation.proofs.Words.{swapped}
use Rattle.arm_value.specs.Json.{Json, text}
use Rattle.arm_value.specs.Look.{fold, is_same_folded, is_among}
use Rattle.expression_values.specs.Tree.{Trees, call}
use Rattle.bicep_meaning.specs.Table.{row_of}
use Rattle.bicep_meaning.specs.Values.{function_value}
use Rattle.expression_values.specs.Kinds.{of_none}
use Rattle.reading.specs.Reading.{done, none, continued}
use Rattle.expression_values.specs.Look as look
use Rattle.expression_values.specs.Look.{Looking, Surroundings}
use Rattle.expression_values.specs.Names.{lazy_named, strict_named, placed_named}
use Rattle.expression_values.specs.Id.{resource_id, subscription_id}
use Rattle.expression_values.specs.Object as object
use Rattle.expression_values.specs.Held.{Held, capped, held_value}
use Rattle.expression_values.specs.Lazy.TheVariants as lazy
use Rattle.expression_values.specs.Strict.{Strict}
use Rattle.expression_values.specs.Strict.TheVariants as strict
use Rattle.expression_values.specs.Row as row
use Rattle.expression_values.specs.Meaning.{held, value, values, used, called, call_by, strict_call, strict_row}
use Rattle.expression_values.proofs.Equations.{lazy_call}
use Rattle.bicep_meaning.specs.Guarded.{Reads}
use Rattle.bicep_meaning.specs.Functions.{reserved, may_call}
use Rattle.bicep_meaning.specs.Rows as rows
use Rattle.bicep_meaning.specs.Rows.{all, placed_value, value_by, coalesced}
use Rattle.bicep_emission.specs.Alike.{Seen, seen_in}
use Rattle.bicep_emission.specs.Answered.{Sides}
use Rattle.bicep_emission.proofs.SeenLemmas.{then_seen, done_seen, then-same}
use Rattle.bicep_emission.proofs.KeptLemmas.{kept_of}
use Rattle.bicep_emission.proofs.AccessLemmas.{IsPlain, plain_value, plain_continued, plain_lazy, used_held}
use Rattle.bicep_emission.proofs.AccessLemmas.{used_continued, keep_done}
use Rattle.bicep_emission.proofs.CallLemmas.{Like, AllLike, seen, seen-on, seen-capped-on, like_done, like_all}
use Rattle.bicep_emission.proofs.CallLemmas.{like_capped}
use Rattle.bicep_emission.proofs.OperatorLemmas.{first_like}
use Rattle.bicep_meaning.specs.Cuts.{texts_in}

-- ---- names

same_item : {A : Type 0} (x y : A) → (let o : Option A = Some x in o) ≡ Some y → x ≡ y
same_item x y e = cc

-- a name among others
not_there : (p : List ℕ → Bool) (ws : List (List ℕ)) (i : ℕ) (w : List ℕ) → list_any p ws ≡ false
    → slice_get ws i ≡ Some w → p w ≡ false
not_there p [] zero w e h = absurd (none-some w h)
not_there p [] (suc i) w e h = absurd (none-some w h)
not_there p (v ∷ ws) zero w e h = subst (λ v. p v ≡ false) (same_item v w h) (or_left (p v) (list_any p ws) e)
not_there p (v ∷ ws) (suc i) w e h = not_there p ws i w (or_right (p v) (list_any p ws) e) h

none_of : (name : List ℕ) → may_call name ≡ true → list_any (is_same_folded name) reserved ≡ false
unfolding may_call
none_of name e = of_not (is_among reserved name) (both (not (is_among reserved name)) (is_some (row_of name)) e).0

-- the name is not this reserved one
is_not : (name : List ℕ) → may_call name ≡ true → (i : ℕ) (w : List ℕ) → slice_get reserved i ≡ Some w
    → is_same_folded w name ≡ false
is_not name e i w h = swapped (fold w) (fold name) ∙ not_there (is_same_folded name) reserved i w (none_of name e) h

lazy_is : (name : List ℕ) → may_call name ≡ true
    → lazy_named name ≡ (if is_same_folded (codes "coalesce") name then Some lazy.Coalesce else None)
unfolding lazy_named reserved
lazy_is name e =
    ap (λ b. if b then Some lazy.If else if is_same_folded (codes "and") name then Some lazy.And
    else if is_same_folded (codes "or") name then Some lazy.Or
    else if is_same_folded (codes "coalesce") name then Some lazy.Coalesce else None) (is_not name e 10
    (codes "if") refl)
    ∙ ap (λ b. if b then Some lazy.And else if is_same_folded (codes "or") name then Some lazy.Or
    else if is_same_folded (codes "coalesce") name then Some lazy.Coalesce else None) (is_not name e 11
    (codes "and") refl)
    ∙ ap (λ b. if b then Some lazy.Or
    else if is_same_folded (codes "coalesce") name then Some lazy.Coalesce else None) (is_not name e 12
    (codes "or") refl)

strict_is : (name : List ℕ) → may_call name ≡ true → strict_named name ≡ placed_named name
unfolding strict_named reserved
strict_is name e =
    ap (λ b. if b then Some strict.Parameters else if is_same_folded (codes "variables") name then Some strict.Variables
    else if is_same_folded (codes "reference") name then Some strict.Reference
    else if is_same_folded (codes "copyIndex") name then Some strict.CopyIndex else placed_named name)
    (is_not name e 7 (codes "parameters") refl)
    ∙ ap (λ b. if b then Some strict.Variables
    else if is_same_folded (codes "reference") name then Some strict.Reference
    else if is_same_folded (codes "copyIndex") name then Some strict.CopyIndex else placed_named name)
    (is_not name e 8 (codes "variables") refl)
    ∙ ap (λ b. if b then Some strict.Reference
    else if is_same_folded (codes "copyIndex") name then Some strict.CopyIndex else placed_named name)
    (is_not name e 20 (codes "reference") refl)
    ∙ ap (λ b. if b then Some strict.CopyIndex else placed_named name) (is_not name e 9 (codes "copyIndex") refl)

-- which of the functions that need a place a name is
abbrev pub IsPlaced : Option Strict → Type 0
IsPlaced None = Unit {0}
IsPlaced (Some strict.Parameters) = ⊥
IsPlaced (Some strict.Variables) = ⊥
IsPlaced (Some strict.Reference) = ⊥
IsPlaced (Some strict.CopyIndex) = ⊥
IsPlaced (Some strict.ResourceId) = Unit {0}
IsPlaced (Some strict.SubscriptionResourceId) = Unit {0}
IsPlaced (Some strict.ResourceGroup) = Unit {0}
IsPlaced (Some strict.Subscription) = Unit {0}
IsPlaced (Some strict.Deployment) = Unit {0}

chosen_placed : (b : Bool) (s : Strict) (o : Option Strict) → IsPlaced (Some s) → IsPlaced o
    → IsPlaced (if b then Some s else o)
chosen_placed true s o h k = h
chosen_placed false s o h k = k

is_placed : (name : List ℕ) → IsPlaced (placed_named name)
unfolding placed_named
is_placed name =
    chosen_placed (is_same_folded (codes "resourceId") name) strict.ResourceId _ tt
    (chosen_placed (is_same_folded (codes "subscriptionResourceId") name) strict.SubscriptionResourceId _ tt
    (chosen_placed (is_same_folded (codes "resourceGroup") name) strict.ResourceGroup _ tt
    (chosen_placed (is_same_folded (codes "subscription") name) strict.Subscription _ tt
    (chosen_placed (is_same_folded (codes "deployment") name) strict.Deployment None tt tt))))

module _ (x : Sides) (here : Surroundings) where
  abbrev sees : {A : Type 0} → Looking A → Seen A
  sees r = seen_in x.template x.template_marks r

  of_value : (o : Option Json) → sees (used (held_value (done o))) ≡ done_seen (kept_of o)
  of_value o = used_held x.template x.template_marks (done o) ∙ keep_done x.template x.template_marks o

  no_texts : (f : List (List ℕ) → Looking Held) → sees (used (continued (done None) f)) ≡ done_seen None
  unfolding used capped continued seen_in
  no_texts f = refl

  with_texts : (ts : List (List ℕ)) (f : List (List ℕ) → Looking Held)
      → sees (used (continued (done (Some ts)) f)) ≡ sees (used (f ts))
  unfolding continued
  with_texts ts f = refl

  -- an id of texts
  by_texts : (id : List (List ℕ) → Option (List ℕ)) (o : Option (List (List ℕ)))
      → sees (used (continued (done o) (λ ts. held_value (done (option_map text (id ts))))))
      ≡ done_seen (kept_of (option_map text (option_and_then id o)))
  by_texts id (Some ts) = with_texts ts (λ ts. held_value (done (option_map text (id ts))))
      ∙ of_value (option_map text (id ts))
  by_texts id None = no_texts (λ ts. held_value (done (option_map text (id ts))))

  pub placed_row : (f : Strict) → IsPlaced (Some f) → (vs : List Json)
      → sees (used (strict_row here f vs)) ≡ done_seen (kept_of (placed_value here.place f vs))
  placed_row strict.ResourceId h vs = by_texts (resource_id here.place) (texts_in vs)
  placed_row strict.SubscriptionResourceId h vs = by_texts (subscription_id here.place) (texts_in vs)
  placed_row strict.ResourceGroup h vs = of_value (of_none (object.resource_group here.place) vs)
  placed_row strict.Subscription h vs = of_value (of_none (object.subscription here.place) vs)
  placed_row strict.Deployment h vs = of_value (of_none (object.deployment here.place) vs)
  placed_row strict.Parameters h vs = absurd h
  placed_row strict.Variables h vs = absurd h
  placed_row strict.Reference h vs = absurd h
  placed_row strict.CopyIndex h vs = absurd h

  by_row : (name : List ℕ) (o : Option Strict) → IsPlaced o → (vs : List Json)
      → sees (used (strict_call here name o vs)) ≡ done_seen (kept_of (value_by here.place name o vs))
  by_row name (Some f) h vs = placed_row f h vs
  by_row name None h vs = of_value (function_value name vs)

  -- a function that looks at all its arguments
  pub strict_like : (name : List ℕ) (es : Trees) (rs : List (Reads Json)) (o : Option Strict) → lazy_named name ≡ None
      → strict_named name ≡ o → IsPlaced o → AllLike x (values here es) rs
      → Like x (value here (call name es)) (rows.capped (continued (all rs) (λ vs. done
      (value_by here.place name o vs))))
  unfolding called
  strict_like name es rs o e h p q =
      ap (λ l. sees (used (call_by here name l (values here es)))) e
      ∙ ap (λ s. sees (used (continued (look.all (values here es)) (strict_call here name s)))) h
      ∙ used_continued x.template x.template_marks (look.all (values here es)) (strict_call here name o)
      ∙ ap (λ s. then_seen s (λ vs. sees (used (strict_call here name o vs)))) (like_all x (values here es) rs q)
      ∙ then-same (seen x (all rs)) (λ vs. sees (used (strict_call here name o vs)))
      (λ vs. done_seen (kept_of (value_by here.place name o vs))) (by_row name o p)
      ∙ sym (seen-on x (all rs) (λ vs. kept_of (value_by here.place name o vs)))
      ∙ sym (seen-capped-on x (all rs) (λ vs. value_by here.place name o vs))

  coalesced_like : (os : List (Looking Json)) (rs : List (Reads Json)) → AllLike x os rs
      → Like x (row.coalesce_row os) (coalesced rs)
  coalesced_like [] [] h = like_done x None
  coalesced_like [] (r ∷ rs) h = absurd h
  coalesced_like (o ∷ os) [] h = absurd h
  coalesced_like (o ∷ os) (r ∷ rs) h =
      ap (λ b. sees (if b then row.first_there (o ∷ os) else none)) (le_true 1 (suc (length os)) (omega arith))
      ∙ first_like x (o ∷ os) (r ∷ rs) h

  lazy_like : (name : List ℕ) (es : Trees) (rs : List (Reads Json)) → lazy_named name ≡ Some lazy.Coalesce
      → AllLike x (values here es) rs → Like x (value here (call name es)) (rows.capped (coalesced rs))
  lazy_like name es rs e q =
      subst (λ u. Like x u (rows.capped (coalesced rs))) (sym (lazy_call here name es lazy.Coalesce e))
      (like_capped x (row.coalesce_row (values here es)) (coalesced rs) (coalesced_like (values here es) rs q))

  by_name : (name : List ℕ) (es : Trees) (rs : List (Reads Json)) (b : Bool)
      → lazy_named name ≡ (if b then Some lazy.Coalesce else None) → strict_named name ≡ placed_named name
      → AllLike x (values here es) rs
      → Like x (value here (call name es)) (rows.capped (if b then coalesced rs
      else continued (all rs) (λ vs. done (value_by here.place name (placed_named name) vs))))
  by_name name es rs true e h q = lazy_like name es rs e q
  by_name name es rs false e h q = strict_like name es rs (placed_named name) e h (is_placed name) q

  pub like_named : (name : List ℕ) (es : Trees) (rs : List (Reads Json)) → may_call name ≡ true
      → AllLike x (values here es) rs → Like x (value here (call name es)) (rows.capped
      (rows.called here.place name rs))
  unfolding rows.called
  like_named name es rs m q =
      by_name name es rs (is_same_folded (codes "coalesce") name) (lazy_is name m) (strict_is name m) q

  -- ---- what such a call holds is plain

  pub plain_row : (f : Strict) → IsPlaced (Some f) → (vs : List Json)
      → IsPlain x.template x.template_marks (strict_row here f vs)
  plain_row strict.ResourceId h vs = plain_continued x.template x.template_marks (done (texts_in vs))
      (λ ts. held_value (done (option_map text (resource_id here.place ts))))
      (λ ts. plain_value x.template x.template_marks (done (option_map text (resource_id here.place ts))))
  plain_row strict.SubscriptionResourceId h vs = plain_continued x.template x.template_marks (done (texts_in vs))
      (λ ts. held_value (done (option_map text (subscription_id here.place ts))))
      (λ ts. plain_value x.template x.template_marks (done (option_map text (subscription_id here.place ts))))
  plain_row strict.ResourceGroup h vs =
      plain_value x.template x.template_marks (done (of_none (object.resource_group here.place) vs))
  plain_row strict.Subscription h vs =
      plain_value x.template x.template_marks (done (of_none (object.subscription here.place) vs))
  plain_row strict.Deployment h vs =
      plain_value x.template x.template_marks (done (of_none (object.deployment here.place) vs))
  plain_row strict.Parameters h vs = absurd h
  plain_row strict.Variables h vs = absurd h
  plain_row strict.Reference h vs = absurd h
  plain_row strict.CopyIndex h vs = absurd h

  plain_by_row : (name : List ℕ) (o : Option Strict) → IsPlaced o → (vs : List Json)
      → IsPlain x.template x.template_marks (strict_call here name o vs)
  plain_by_row name (Some f) h vs = plain_row f h vs
  plain_by_row name None h vs = plain_value x.template x.template_marks (done (function_value name vs))

  plain_by : (name : List ℕ) (es : Trees) (b : Bool) → lazy_named name ≡ (if b then Some lazy.Coalesce else None)
      → strict_named name ≡ placed_named name → IsPlain x.template x.template_marks (held here (call name es))
  unfolding called
  plain_by name es true e h = plain_lazy x.template x.template_marks here name es lazy.Coalesce e
  plain_by name es false e h =
      subst (λ l. IsPlain x.template x.template_marks (call_by here name l (values here es))) (sym e)
      (subst (λ s. IsPlain x.template x.template_marks (continued (look.all (values here es))
      (strict_call here name s))) (sym h)
      (plain_continued x.template x.template_marks (look.all (values here es)) (strict_call here name
      (placed_named name))
      (plain_by_row name (placed_named name) (is_placed name))))

  pub plain_named : (name : List ℕ) (es : Trees) → may_call name ≡ true
      → IsPlain x.template x.template_marks (held here (call name es))
  plain_named name es m = plain_by name es (is_same_folded (codes "coalesce") name) (lazy_is name m) (strict_is name m)
