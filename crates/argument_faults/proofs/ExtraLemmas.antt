-- What nested deployments give for parameters that their templates lack, by the names of parameters.
use Rattle.std.proofs.Common.{◌≡◌, inl, inr, ℕ, zero, suc, ◌+◌, ◌<◌, ◌≤◌, Bool, true, false, true≢false, ◌||◌}
use Rattle.std.proofs.Common.{List, [], ◌∷◌, map, length, get_or, Some, None}
use Rattle.std.proofs.Common.{refl, sym, ap, subst, ◌∙◌, arith}
use Rattle.std.proofs.lemmas.List.{length-map}
use Rattle.std.specs.Prelude.{bytes_eq, is_some, slice_get, option_and_then, if◌then◌else◌}
use Rattle.foundation.proofs.Options.{none_there}
use Rattle.foundation.proofs.Comparisons.{lt_or_is}
use Rattle.arm_value.specs.Look.{fold}
use Rattle.arm_ids.specs.Held.{HeldResource}
use Rattle.name_set.specs.Names.{is_named}
use Rattle.template_parts.specs.declared.content.Argument.{Argument}
use Rattle.template_parts.specs.declared.fault.BindFault.{BindFault}
use Rattle.template_parts.specs.declared.fault.BindFault.TheVariants.{ExtraParameter}
use Rattle.template_parts.specs.declared.mode.Mode.{Mode}
use Rattle.template_parts.specs.declared.parameter.Parameter.{Parameter}
use Rattle.template_tree.specs.Tree.{TemplateTree}
use Rattle.template_tree.specs.View.{template_tree, body_tree}
use Rattle.template_tree.specs.declared.resource.Body.TheVariants.{Members, Deployment}
use Rattle.template_tree.specs.declared.resource.Deployment as code
use Rattle.arm_value.specs.Json.{Member}
use Rattle.deploy_cells.specs.Cells.{Step, step, Position}
use Rattle.plan_cells.specs.Children.{Has}
use Rattle.plan_cells.specs.Meaning.{is_own}
use Rattle.plan_cells.specs.Resources as cells
use Rattle.plan_cells.specs.Resources.{Nested, nested_in, header_in}
use Rattle.plan_cells.specs.Scopes.{template_at, nested_of}
use Rattle.plan_cells.specs.Sites.{first_with, parameter_named}
use Rattle.plan_cells.specs.Start.{IsStart}
use Rattle.plan_filling.proofs.FinalLemmas.{filled_is_final}
use Rattle.plan_table.specs.declared.frame.Frame.{Frame}
use Rattle.plan_table.specs.declared.listed.Listed.{Listed}
use Rattle.plan_table.specs.declared.table.Table.{Table}
use Rattle.plan_table.specs.Opened.{Opened, opened_of, IsKept}
use Rattle.plan_table.specs.Whole.{whole_of, scopes_of, rows_in}
use Rattle.plan_table.specs.Found.{scope_at}
use Rattle.plan_table.proofs.FrameLemmas.{frame_is}
use Rattle.plan_tasks.specs.Start.{start_of, IsStartTable, IsInstance}
use Rattle.plan_tasks.proofs.AnswerLemmas.{gates_known}
use Rattle.plan_tasks.proofs.BodyLemmas.{listed_is}
use Rattle.plan_needs.proofs.InstanceLemmas.{listed_there}
use Rattle.plan_openers.specs.declared.opener.Opener.{Opener}
use Rattle.plan_openers.specs.Openers.{IsOpener}
use Rattle.plan_faults.specs.declared.fault.PlanFault.{PlanFault}
use Rattle.plan_faults.specs.declared.fault.PlanFault.TheVariants as fault
use Rattle.plan_faults.specs.Faults.{IsFault, IsExtra, argument_path}
use Rattle.argument_faults.specs.Extra.{parameter_titles, IsWithoutExtra}
use Rattle.argument_faults.proofs.LineLemmas.{nested_by_resource, opened_scope}

-- ---- names

named_test : (x : List ℕ) (ps : List Parameter) → is_named (map (λ (p : Parameter). p.name) ps) x
    ≡ is_some (first_with (λ (p : Parameter). bytes_eq (fold x) (fold p.name)) ps)
named_test x [] = refl
named_test x (p ∷ ps) = by_test (bytes_eq (fold x) (fold p.name)) (named_test x ps)
  where
    by_test : (b : Bool) → is_named (map (λ (p : Parameter). p.name) ps) x
        ≡ is_some (first_with (λ (p : Parameter). bytes_eq (fold x) (fold p.name)) ps)
        → (b || is_named (map (λ (p : Parameter). p.name) ps) x)
        ≡ is_some (if b then Some p else first_with (λ (p : Parameter). bytes_eq (fold x) (fold p.name)) ps)
    by_test true e = refl
    by_test false e = e

not_named : (x : List ℕ) (u : TemplateTree) → is_named (parameter_titles u) x ≡ false
    → parameter_named (fold x) u ≡ None
not_named x u e =
    none_there (parameter_named (fold x) u) (sym (named_test x (header_in u).parameters) ∙ e)

named_not : (x : List ℕ) (u : TemplateTree) → is_named (parameter_titles u) x ≡ true
    → parameter_named (fold x) u ≡ None → ⊥
named_not x u e n =
    true≢false (sym e ∙ named_test x (header_in u).parameters ∙ ap is_some n)

-- ---- lists

pub has_item : {A : Type 0} (xs : List A) (i : ℕ) (x : A) → i < length xs → x ≡ get_or xs i x → Has x xs
has_item [] i x h e = absurd (omega (arith, h))
has_item (y ∷ ys) zero x h e = inl (sym e)
has_item (y ∷ ys) (suc i) x h e = inr (has_item ys i x (omega (arith, h)) e)

-- ---- what the code reads

pub given_by : (t : Table) (x : Opener) (fr : Frame) (l : Listed) (d : code.Deployment) (gs : List Argument)
    → IsInstance t x.frame x.resource x.copy → fr ≡ get_or t.frames.items x.frame fr
    → l ≡ get_or fr.resources.items x.resource l → l.body.now ≡ Deployment d → gs ≡ d.parameters
    → (y : cells.Listed) → slice_get (scope_at t x.frame).resources x.resource ≡ Some y → (n : Nested)
    → nested_in y.content ≡ Some n → gs ≡ n.arguments
given_by t x fr l d gs h e k b g y s n m =
    let same : Some (record { scope = d.scope; arguments = d.parameters; template = template_tree d.template })
    ≡ Some n =
    sym (ap (λ (z : cells.Listed). nested_in z.content) (listed_is t x.frame x.resource fr l y h.there e k s)
    ∙ ap (λ z. nested_in (body_tree z)) b) ∙ m in
    g ∙ ap (λ (z : Nested). z.arguments) (some_is same)
  where
    some_is : {a b : Nested} → Some a ≡ Some b → a ≡ b
    some_is e = cc

pub none_given : (t : Table) (x : Opener) (fr : Frame) (l : Listed) (ms : List Member) (gs : List Argument)
    → IsInstance t x.frame x.resource x.copy → fr ≡ get_or t.frames.items x.frame fr
    → l ≡ get_or fr.resources.items x.resource l → l.body.now ≡ Members ms
    → (y : cells.Listed) → slice_get (scope_at t x.frame).resources x.resource ≡ Some y → (n : Nested)
    → nested_in y.content ≡ Some n → gs ≡ n.arguments
none_given t x fr l ms gs h e k b y s n m =
    let no : None ≡ Some n =
    sym (ap (λ (z : cells.Listed). nested_in z.content) (listed_is t x.frame x.resource fr l y h.there e k s)
    ∙ ap (λ z. nested_in (body_tree z)) b) ∙ m in
    absurd (cc)

-- ---- a scope

pub known_at_start : (t : Table) → IsStartTable t → IsStart (whole_of t) (start_of t)
known_at_start t s = (filled_is_final (whole_of t) (rows_in t) s.filled (gates_known (rows_in t) s.answered)).is_start

module _ (t : Table) (start : IsStartTable t) (g : ℕ) (there : g < length t.frames.items) where
  kept : IsKept (whole_of t) (scopes_of t) g (scope_at t g)
  kept = start.laid.kept g (let n = length-map t.frames.items opened_of in omega (arith, n, there))

  -- a scope without parameters of its own may be given anything
  pub not_own : (fr : Frame) → fr ≡ get_or t.frames.items g fr → fr.own ≡ false → IsWithoutExtra t g
  not_own fr e o a x =
      true≢false (sym x.is_own ∙ ap (is_own (whole_of t)) (sym x.position) ∙ sym kept.own
      ∙ ap (λ (y : Opened). y.is_own) (frame_is t.frames.items g fr there e) ∙ o)

  pub own_there : (fr : Frame) → fr ≡ get_or t.frames.items g fr → fr.own ≡ true → (scope_at t g).is_own ≡ true
  own_there fr e o = ap (λ (y : Opened). y.is_own) (frame_is t.frames.items g fr there e) ∙ o

  -- the root may be given anything
  pub of_root : (scope_at t g).position ≡ [] → IsWithoutExtra t g
  of_root r a x = let no : [] ≡ x.instance ∷ x.around = sym r ∙ x.position in absurd (cc)

  module _ (x : Opener) (o : IsOpener t g x) where
    abbrev p : Position
    p = (scope_at t x.frame).position

    abbrev s : Step
    s = step x.resource x.copy

    nested_there : nested_of (whole_of t).template p s ≡ Some o.nested
    nested_there =
        nested_by_resource (template_at (whole_of t).template p) x.resource
        ∙ ap (option_and_then (λ (y : cells.Listed). nested_in y.content))
        (listed_there t x.frame x.resource x.copy start o.is_instance) ∙ o.is_nested

    titles_are : (fr : Frame) (names : List (List ℕ)) → fr ≡ get_or t.frames.items g fr
        → names ≡ parameter_titles (template_tree fr.template.now) → names ≡ parameter_titles o.nested.template
    titles_are fr names e n =
        n ∙ ap (λ (y : Opened). parameter_titles y.template) (sym (frame_is t.frames.items g fr there e))
        ∙ ap parameter_titles o.is_scope.template

    -- what is given for a name that no parameter has is a fault
    pub is_extra : (fr : Frame) (names : List (List ℕ)) (gs : List Argument) (a : Argument) (f : PlanFault)
        → (scope_at t g).is_own ≡ true → fr ≡ get_or t.frames.items g fr
        → names ≡ parameter_titles (template_tree fr.template.now) → gs ≡ o.nested.arguments
        → Has a gs × (is_named names a.name ≡ false)
        → f ≡ fault.Bind (argument_path (whole_of t).template p s a.name) (ExtraParameter a.name)
        → (mode : Mode) (held : List HeldResource) → IsFault (whole_of t) mode held f
    is_extra fr names gs a f own e n k h m mode held =
        let q = known_at_start t start in
        subst (IsFault (whole_of t) mode held) (sym m) (
          start_of t,
          (
            q.is_known,
            inr (inr (record {
              position = p;
              instance = s;
              is_own = ap (is_own (whole_of t)) (sym o.is_scope.position) ∙ sym kept.own ∙ own;
              is_there = o.is_included;
              nested = o.nested;
              is_nested = nested_there;
              given = a;
              is_given = subst (Has a) k h.0;
              has_none = not_named a.name o.nested.template
                  (ap (λ ns. is_named ns a.name) (sym (titles_are fr names e n)) ∙ h.1);
              is_fault = refl;
              has_path = refl;
            })),
          ),
        )

    -- where all that is given is for its parameters there is none
    pub without_extra : (fr : Frame) (names : List (List ℕ)) (gs : List Argument) → fr ≡ get_or t.frames.items g fr
        → names ≡ parameter_titles (template_tree fr.template.now) → gs ≡ o.nested.arguments
        → ((a : Argument) → Has a gs → is_named names a.name ≡ true) → IsWithoutExtra t g
    without_extra fr names gs e n k all a y =
        let at : y.instance ∷ y.around ≡ s ∷ p = sym y.position ∙ o.is_scope.position in
        let one : y.instance ≡ s = cc in
        let around : y.around ≡ p = cc in
        let two : Some y.nested ≡ Some o.nested =
        sym y.is_nested ∙ ap (λ z. nested_of (whole_of t).template z y.instance) around
        ∙ ap (nested_of (whole_of t).template p) one ∙ nested_there in
        let same : y.nested ≡ o.nested = cc in
        named_not a.name o.nested.template
        (ap (λ ns. is_named ns a.name) (sym (titles_are fr names e n))
        ∙ all a (subst (Has a) (ap (λ (z : Nested). z.arguments) same ∙ sym k) y.is_given))
        (ap (λ (z : Nested). parameter_named (fold a.name) z.template) (sym same) ∙ y.has_none)

-- ---- all scopes

abbrev pub NoneBefore : Table → ℕ → Type 0
NoneBefore t n = (g : ℕ) → g < n → IsWithoutExtra t g

pub none_more : (t : Table) (n : ℕ) → NoneBefore t n → IsWithoutExtra t n → NoneBefore t (n + 1)
none_more t n b h g l =
    elim (lt_or_is g n l) [ inl lt ↦ b g lt | inr is ↦ subst (IsWithoutExtra t) (sym is) h ]

pub none_extra : (t : Table) (n : ℕ) → IsStartTable t → length t.frames.items ≤ n → NoneBefore t n → (path : List ℕ)
    (f : BindFault) → IsExtra (whole_of t) (start_of t) path f → ⊥
none_extra t n start h b path f x =
    let o = opened_scope t x.position x.instance x.nested start x.is_there x.is_nested in
    let l = o.there in
    let m = length-map t.frames.items opened_of in
    b o.number (omega (arith, l, m, h)) x.given (record {
      around = x.position;
      instance = x.instance;
      position = o.is;
      is_own = x.is_own;
      nested = x.nested;
      is_nested = x.is_nested;
      is_given = x.is_given;
      has_none = x.has_none;
    })
