-- The rule of a cell, by its line.
use Rattle.std.proofs.Common.{◌≡◌, inl, inr, ℕ, zero, suc, ◌<◌, Bool, true, false, List, [], ◌∷◌, map, length}
use Rattle.std.proofs.Common.{get_or, Option, Some, Result, Ok, Err, refl, sym, ap, subst, ◌∙◌, arith}
use Rattle.std.specs.Prelude.{bytes_eq, is_none, is_some, slice_get, option_and_then, IfOk, if◌then◌else◌}
use Rattle.std.proofs.lemmas.List.{length-map, get_or_read}
use Rattle.std.proofs.lemmas.Slice.Eq.{bytes_eq-Decides}
use Rattle.arm_value.specs.Json.{Json, null, bool, int, text, array, object}
use Rattle.arm_value.specs.Look.{fold}
use Rattle.arm_ids.specs.declared.id.Place.{Place}
use Rattle.plan_cells.specs.Titles as titles
use Rattle.plan_cells.specs.Rule.{breach, is_of}
use Rattle.template_parts.specs.declared.output.Output.{Output}
use Rattle.template_parts.specs.declared.parameter.Parameter.{Parameter}
use Rattle.template_tree.specs.Tree.{TemplateTree, template}
use Rattle.plan_cells.specs.Puts.{key_formed}
use Rattle.plan_cells.specs.Resources.{Listed, header_in, resource_at}
use Rattle.plan_cells.specs.Scopes.{template_at}
use Rattle.plan_cells.specs.Sites.{first_with, parameter_named, output_named}
use Rattle.plan_cells.specs.Meaning.{Deployment, rule, meets_rule, is_typed, is_name}
use Rattle.plan_cells.specs.Children.{Has, AreApart, HasOwnNames, NamesDiffer, parameter_names, output_names}
use Rattle.plan_cells.proofs.ApartLemmas.{names_at}
use Rattle.plan_table.specs.declared.table.Table.{Table}
use Rattle.plan_table.specs.declared.frame.Frame.{Frame}
use Rattle.plan_table.specs.declared.line.Line.{Line}
use Rattle.plan_table.specs.declared.listed.Listed as code
use Rattle.plan_table.specs.Listed.{listed_of}
use Rattle.plan_table.specs.declared.line.Spot.{Spot}
use Rattle.plan_table.specs.declared.line.Spot.TheVariants.{Parameter as ParameterSpot, Output as OutputSpot, Name, Deployments}
use Rattle.plan_table.specs.Opened.{Opened, opened_of, IsKept}
use Rattle.plan_table.specs.Lines.{frame_of, name_at, cell_of, line_at, new_line, IsNumber, IsPlaced}
use Rattle.plan_table.specs.Whole.{whole_of, scopes_of, IsLaid}
use Rattle.plan_table.specs.Found.{scope_at}
use Rattle.plan_table.proofs.FrameLemmas.{frame_is, resource_read}
use Rattle.plan_table.proofs.ScopeLemmas.{resource_here}

in_list : {A : Type 0} (g : A → List ℕ) (xs : List A) (n : ℕ) → n < length xs → Has (name_at (map g xs) n) (map g xs)
in_list g [] n h = absurd (omega (arith, h))
in_list g (x ∷ xs) zero h = inl refl
in_list g (x ∷ xs) (suc n) h = inr (in_list g xs n (omega (arith, h)))

by_test : {A : Type 0} (f : A → List ℕ) (a : A) (xs : List A) (y : List ℕ) (b : Bool) → bytes_eq y (fold (f a)) ≡ b
    → (Has (fold (f a)) (map (λ z. fold (f z)) xs) → ⊥) → Has y (map (λ z. fold (f z)) xs) → (o : Option A)
    → first_with (λ z. bytes_eq y (fold (f z))) xs ≡ o
    → (if b then Some a else first_with (λ z. bytes_eq y (fold (f z))) xs) ≡ o
by_test f a xs y true e apart h o r =
    absurd (apart (subst (λ z. Has z (map (λ z. fold (f z)) xs)) ((bytes_eq-Decides y (fold (f a))).0 e) h))
by_test f a xs y false e apart h o r = r

yes_first : {A : Type 0} (b : Bool) (a : A) (o : Option A) → b ≡ true → (if b then Some a else o) ≡ Some a
yes_first b a o e = rw e refl

-- where names differ, a part is found by its own name
pub found_own : {A : Type 0} (f : A → List ℕ) (xs : List A) → AreApart (map (λ z. fold (f z)) xs) → (n : ℕ) (x : A)
    → n < length xs → x ≡ get_or xs n x
    → first_with (λ z. bytes_eq (name_at (map (λ z. fold (f z)) xs) n) (fold (f z))) xs ≡ Some x
found_own f [] a n x h e = absurd (omega (arith, h))
found_own f (y ∷ xs) a zero x h e =
    yes_first (bytes_eq (fold (f y)) (fold (f y))) y (first_with (λ z. bytes_eq (fold (f y)) (fold (f z))) xs)
    ((bytes_eq-Decides (fold (f y)) (fold (f y))).1 refl) ∙ ap Some (sym e)
found_own f (y ∷ xs) a (suc n) x h e =
    by_test f y xs (name_at (map (λ z. fold (f z)) xs) n) (bytes_eq (name_at (map (λ z. fold (f z)) xs) n) (fold (f y)))
    refl a.0 (in_list (λ z. fold (f z)) xs n (omega (arith, h))) (Some x)
    (found_own f xs a.1 n x (omega (arith, h)) e)

pub own_names : (u : TemplateTree) → NamesDiffer u → HasOwnNames (header_in u)
own_names (template h rs) n = n.0

module _ (t : Table) (laid : IsLaid t) (differ : NamesDiffer (whole_of t).template) (at : ℕ)
    (h : at < length t.lines.items) where
  abbrev d : Deployment
  d = whole_of t

  abbrev spot : Spot
  spot = (line_at t.lines.items at).spot

  scope_there : (f : ℕ) (s : Spot) → spot ≡ s → frame_of s ≡ f → f < length (scopes_of t)
  scope_there f s e g =
      subst (λ k. k < length (scopes_of t)) (ap frame_of e ∙ g) (laid.placed at h).there

  parts_there : (f n : ℕ) (s : Spot) → spot ≡ s → IsPlaced (scopes_of t) s
  parts_there f n s e = subst (λ y. IsPlaced (scopes_of t) y) e (laid.placed at h)

  pub parameter_there : (f n : ℕ) → spot ≡ ParameterSpot f n
      → n < length (header_in (scope_at t f).template).parameters
  parameter_there f n e =
      let placed = parts_there f n (ParameterSpot f n) e in
      let within = placed.declared.1 in
      let same = length-map (header_in (scope_at t f).template).parameters (λ p. fold p.name) in
      omega (arith, within, same)

  pub output_there : (f n : ℕ) → spot ≡ OutputSpot f n → n < length (header_in (scope_at t f).template).outputs
  output_there f n e =
      let placed = parts_there f n (OutputSpot f n) e in
      let within = placed.declared in
      let same = length-map (header_in (scope_at t f).template).outputs (λ o. fold o.name) in
      omega (arith, within, same)

  template_is : (f : ℕ) → f < length (scopes_of t)
      → template_at d.template (scope_at t f).position ≡ Some (scope_at t f).template
  template_is f l = (laid.kept f l).template

  pub rule_of_parameter : (f n : ℕ) (p : Parameter) (j : Json) → spot ≡ ParameterSpot f n
      → n < length (header_in (scope_at t f).template).parameters
      → p ≡ get_or (header_in (scope_at t f).template).parameters n p
      → rule d (cell_of (scopes_of t) spot) j ≡ is_none (breach p j)
  rule_of_parameter f n p j e l q =
      let there : f < length (scopes_of t) = scope_there f (ParameterSpot f n) e refl in
      let u : TemplateTree = (scope_at t f).template in
      ap (λ s. rule d (cell_of (scopes_of t) s) j) e
      ∙ ap (λ o. meets_rule d j (option_and_then (parameter_named (name_at (parameter_names u) n)) o))
      (template_is f there)
      ∙ ap (meets_rule d j) (found_own (λ z. z.name) (header_in u).parameters
      (own_names u (names_at d.template differ (scope_at t f).position u (template_is f there))).parameters n p l q)

  pub rule_of_output : (f n : ℕ) (o : Output) (j : Json) → spot ≡ OutputSpot f n
      → n < length (header_in (scope_at t f).template).outputs
      → o ≡ get_or (header_in (scope_at t f).template).outputs n o
      → rule d (cell_of (scopes_of t) spot) j ≡ is_of o.kind j
  rule_of_output f n o j e l q =
      let there : f < length (scopes_of t) = scope_there f (OutputSpot f n) e refl in
      let u : TemplateTree = (scope_at t f).template in
      ap (λ s. rule d (cell_of (scopes_of t) s) j) e
      ∙ ap (λ y. is_typed d j (option_and_then (output_named (name_at (output_names u) n)) y)) (template_is f there)
      ∙ ap (is_typed d j) (found_own (λ z. z.name) (header_in u).outputs
      (own_names u (names_at d.template differ (scope_at t f).position u (template_is f there))).outputs n o l q)

  keys_agree : (place : Place) (kind : List ℕ) (j : Json) (x : Listed) → x.type ≡ kind → d.place ≡ place
      → is_name d j (Some x) ≡ is_some (titles.key_at place kind j)
  keys_agree place kind (text n) x e q =
      ap (λ k. is_some (key_formed d.place k n)) e
      ∙ ap (λ p. is_some (key_formed p kind n)) q
  keys_agree place kind null x e q = refl
  keys_agree place kind (bool b) x e q = refl
  keys_agree place kind (int i) x e q = refl
  keys_agree place kind (array xs) x e q = refl
  keys_agree place kind (object ms) x e q = refl

  pub rule_of_name : (f r i : ℕ) (j : Json) (x : Listed) → spot ≡ Name f r i
      → slice_get (scope_at t f).resources r ≡ Some x
      → rule d (cell_of (scopes_of t) spot) j ≡ is_some (titles.key_at t.place.now x.type j)
  rule_of_name f r i j x e s =
      let there : f < length (scopes_of t) = scope_there f (Name f r i) e refl in
      let placed : IsPlaced (scopes_of t) (Name f r i) = subst (λ y. IsPlaced (scopes_of t) y) e (laid.placed at h) in
      let number : IsNumber (scope_at t f) r = placed.declared.0 in
      let kept : IsKept d (scopes_of t) f (scope_at t f) = laid.kept f there in
      let same : number.listed ≡ x = one_listed (slice_get (scope_at t f).resources r) number.listed x number.has s in
      ap (λ y. rule d (cell_of (scopes_of t) y) j) e
      ∙ ap (λ o. is_name d j (option_and_then (λ u. resource_at u r) o)) kept.template
      ∙ ap (is_name d j) (resource_here (scope_at t f).template (scope_at t f) r x kept.resources s
      (ap (λ (y : Listed). y.declaration.existing) (sym same) ∙ number.is_put))
      ∙ keys_agree t.place.now x.type j x refl refl
    where
      one_listed : (o : Option Listed) (a b : Listed) → o ≡ Some a → o ≡ Some b → a ≡ b
      one_listed o a b p q = let same : Some a ≡ Some b = sym p ∙ q in cc

  pub rule_by_name : {E : Type 0} (f r i : ℕ) (j : Json) (b : Result Bool E) → spot ≡ Name f r i
      → IfOk b (λ b. (x : Listed) → slice_get (scope_at t f).resources r ≡ Some x
      → b ≡ is_some (titles.key_at t.place.now x.type j))
      → IfOk b (λ b. b ≡ rule d (cell_of (scopes_of t) spot) j)
  rule_by_name f r i j (Ok b) e g =
      let number = (parts_there f r (Name f r i) e).declared.0 in
      g number.listed number.has ∙ sym (rule_of_name f r i j number.listed e number.has)
  rule_by_name f r i j (Err x) e g = tt

-- the spot of a line that was read
pub spot_here : (t : Table) (j : ℕ) (l : Line) (s : Spot) → j < length t.lines.items → l ≡ get_or t.lines.items j l
    → l.spot ≡ s → (line_at t.lines.items j).spot ≡ s
spot_here t j l s h e q =
    ap (λ (y : Line). y.spot) (sym (get_or_read t.lines.items j l h e (new_line (Deployments 0)))) ∙ q

-- the type of a resource of a frame that was read
pub kind_here : (t : Table) (f r : ℕ) (fr : Frame) (y : code.Listed) (x : Listed) → f < length t.frames.items
    → fr ≡ get_or t.frames.items f fr → r < length (scope_at t f).resources → y ≡ get_or fr.resources.items r y
    → slice_get (scope_at t f).resources r ≡ Some x → x.type ≡ y.kind
kind_here t f r fr y x h e l i s =
    let scope : scope_at t f ≡ opened_of fr = frame_is t.frames.items f fr h e in
    let listed : length (scope_at t f).resources ≡ length fr.resources.items =
    ap (λ (o : Opened). length o.resources) scope ∙ length-map fr.resources.items listed_of in
    let same : Some (listed_of y) ≡ Some x =
    sym (resource_read fr.resources.items r y (omega (arith, l, listed)) i)
    ∙ sym (ap (λ (o : Opened). slice_get o.resources r) scope) ∙ s in
    let is : listed_of y ≡ x = cc in sym (ap (λ (z : Listed). z.type) is)
