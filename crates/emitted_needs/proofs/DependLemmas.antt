-- An instance depends on another one in a template exactly where it mentions it in the program.
use Rattle.std.proofs.Common.{◌≡◌, ℕ, Bool, true, false, true≢false, List, [], ◌∷◌, Option, Some, None, refl, sym, ap}
use Rattle.std.proofs.Common.{◌∙◌, subst, arith}
use Rattle.std.specs.Prelude.{◌==◌, ◌||◌, option_and_then}
use Rattle.std.proofs.lemmas.Bool.{or_right}
use Rattle.foundation.proofs.Comparisons.{eq_itself, eq_of_true}
use Rattle.foundation.proofs.Options.{same_some}
use Rattle.foundation.proofs.TruthValues.{both}
use Rattle.arm_value.specs.Json.{Json}
use Rattle.reading.specs.Reading.{pure}
use Rattle.reading.specs.World.{value_in}
use Rattle.reading.proofs.Parts.{value_in-continued}
use Rattle.template_parts.specs.declared.mode.Form.{Form}
use Rattle.deploy_cells.specs.Cells.{Step, Cell}
use Rattle.deploy_cells.specs.Guarded.{Reads}
use Rattle.plan_cells.specs.Meaning.{Deployment}
use Rattle.plan_cells.specs.Needs.{element_names, elements_name, or_else, depends, depends_by}
use Rattle.plan_cells.specs.Resources.{resource_at}
use Rattle.plan_cells.specs.Scopes.{resource_of}
use Rattle.bicep_dependencies.specs.Dependencies.{has, depends_on}
use Rattle.source_needs.specs.Dependencies.{kinds_of, is_dependency, dependencies}
use Rattle.source_needs.specs.Needs.{is_looped, Means, IsMention}
use Rattle.source_needs.proofs.PassingLemmas.{all_dependencies}
use Rattle.source_worlds.specs.Numbers.{is_put}
use Rattle.emitted_worlds.specs.Files.{AreElements}
use Rattle.emitted_programs.specs.Given.{deployed}
use Rattle.emitted_needs.specs.Keys.{IsKeyed, HasAnswer}
use Rattle.emitted_needs.proofs.KeyLemmas.{element_answer}
use Rattle.emitted_needs.proofs.MentionLemmas.{Scene, Other, new_world, new_step, target_of, listed_of, put_is}
use Rattle.emitted_needs.proofs.MentionLemmas.{Agrees, element_agrees}

module _ {z : Form} (s : Scene z) (o : Other s) (c : Step) where
  abbrev dep : Deployment
  dep = deployed s.d s.u s.bound

  abbrev MeansIt : ℕ → Type 0
  MeansIt n = Means s.d s.w s.at s.file n o.instance z (is_looped s.file n)

  -- the answer says whether a mention of one of these means the instance
  pub record AnyAgrees (ns : List ℕ) (b : Bool) : Type 0 where
    pub forth : b ≡ true → (n : ℕ) × ((has ns n ≡ true) × MeansIt n)
    pub back : (n : ℕ) → has ns n ≡ true → MeansIt n → b ≡ true

  here_or : (n m : ℕ) (ns : List ℕ) (C : Type 0) → has (n ∷ ns) m ≡ true → (n ≡ m → C) → (has ns m ≡ true → C) → C
  here_or n m ns C e f g = by_bool (n == m) refl e
    where
      by_bool : (b : Bool) → (n == m) ≡ b → (b || has ns m) ≡ true → C
      by_bool true k h = f (eq_of_true n m k)
      by_bool false k h = g h

  is_first : (n : ℕ) (ns : List ℕ) → has (n ∷ ns) n ≡ true
  is_first n ns = ap (λ b. b || has ns n) (eq_itself n)

  is_later : (n m : ℕ) (ns : List ℕ) → has ns m ≡ true → has (n ∷ ns) m ≡ true
  is_later n m ns e = or_right (n == m) (has ns m) e

  none_agrees : (b : Bool) → false ≡ b → AnyAgrees [] b
  none_agrees b e = record {
    forth = λ k. absurd (true≢false (sym k ∙ sym e));
    back = λ n k h. absurd (true≢false (sym k));
  }

  found_agrees : (n : ℕ) (ns : List ℕ) (b : Bool) → Agrees s n o true → true ≡ b → AnyAgrees (n ∷ ns) b
  found_agrees n ns b a e = record {
    forth = λ k. (n, (is_first n ns, a.forth refl));
    back = λ m k h. sym e;
  }

  later_agrees : (n : ℕ) (ns : List ℕ) (b : Bool) → Agrees s n o false → AnyAgrees ns b → AnyAgrees (n ∷ ns) b
  later_agrees n ns b a more = record {
    forth = λ k. let m = more.forth k in (m.0, (is_later n m.0 ns m.1.0, m.1.1));
    back = λ m k h.
        here_or n m ns (b ≡ true) k
        (λ e. absurd (true≢false (sym (a.back (subst MeansIt (sym e) h)))))
        (λ e. more.back m e h);
  }

  rest_true : (r : Reads Bool) → value_in (new_world s) (or_else dep true r) ≡ Some true
  unfolding value_in
  rest_true r = refl

  -- the first element, and those after it
  by_first : (n : ℕ) (ns : List ℕ) (r : Reads Bool) (e : Option Bool) (b : Bool)
      → option_and_then (λ x. value_in (new_world s) (or_else dep x r)) e ≡ Some b
      → ((x : Bool) → e ≡ Some x → Agrees s n o x) → (value_in (new_world s) r ≡ Some b → AnyAgrees ns b)
      → AnyAgrees (n ∷ ns) b
  by_first n ns r None b h first more = absurd cc
  by_first n ns r (Some true) b h first more =
      found_agrees n ns b (first true refl) (same_some (sym (rest_true r) ∙ h))
  by_first n ns r (Some false) b h first more = later_agrees n ns b (first false refl) (more h)

  nothing : (b : Bool) → value_in (new_world s) (let r : Reads Bool = pure false in r) ≡ Some b → false ≡ b
  unfolding value_in
  nothing b e = same_some e

  elements_agree : (ns : List ℕ) (js : List Json) (b : Bool) → AreElements s.d.files s.file z ns js
      → ((n : ℕ) → has ns n ≡ true → is_put s.file n ≡ true)
      → value_in (new_world s) (elements_name dep s.new c js (new_step s o) (listed_of s o)) ≡ Some b
      → AnyAgrees ns b
  elements_agree [] [] b e put h = none_agrees b (nothing b h)
  elements_agree [] (j ∷ js) b e put h = absurd e
  elements_agree (n ∷ ns) [] b e put h = absurd e
  elements_agree (n ∷ ns) (j ∷ js) b e put h =
      by_first n ns (elements_name dep s.new c js (new_step s o) (listed_of s o))
      (value_in (new_world s) (element_names dep s.new c j (new_step s o) (listed_of s o))) b
      (sym
      (value_in-continued Cell Json Bool Bool (new_world s)
      (element_names dep s.new c j (new_step s o) (listed_of s o))
      (λ x. or_else dep x (elements_name dep s.new c js (new_step s o) (listed_of s o)))) ∙ h)
      (λ x k. element_agrees z s o c n j x (put n (is_first n ns)) e.0 k)
      (λ k. elements_agree ns js b e.1 (λ m g. put m (is_later n m ns g)) k)

  -- ---- where all that is mentioned has a key

  none_named : value_in (new_world s) (let r : Reads Bool = pure false in r) ≡ Some false
  unfolding value_in
  none_named = refl

  or_answer : (b : Bool) (r : Reads Bool) → HasAnswer (value_in (new_world s) r)
      → HasAnswer (value_in (new_world s) (or_else dep b r))
  or_answer true r h = (true, rest_true r)
  or_answer false r h = h

  elements_answer : (ns : List ℕ) (js : List Json) → AreElements s.d.files s.file z ns js
      → ((n : ℕ) → has ns n ≡ true → is_put s.file n ≡ true)
      → ((n : ℕ) → has ns n ≡ true → IsKeyed z s.d s.w s.at s.file n)
      → HasAnswer (value_in (new_world s) (elements_name dep s.new c js (new_step s o) (listed_of s o)))
  elements_answer [] [] e put keyed = (false, none_named)
  elements_answer [] (j ∷ js) e put keyed = absurd e
  elements_answer (n ∷ ns) [] e put keyed = absurd e
  elements_answer (n ∷ ns) (j ∷ js) e put keyed =
      let first = element_answer z s o c n j (put n (is_first n ns)) e.0 (keyed n (is_first n ns)) in
      let more = elements_name dep s.new c js (new_step s o) (listed_of s o) in
      subst HasAnswer
      (sym
      (value_in-continued Cell Json Bool Bool (new_world s)
      (element_names dep s.new c j (new_step s o) (listed_of s o)) (λ x. or_else dep x more)
      ∙ ap (option_and_then (λ x. value_in (new_world s) (or_else dep x more))) first.1))
      (or_answer first.0 more
      (elements_answer ns js e.1 (λ m g. put m (is_later n m ns g)) (λ m g. keyed m (is_later n m ns g))))

-- ---- an instance and another

module _ {z : Form} (s : Scene z) (x o : Other s) where
  abbrev deployment : Deployment
  deployment = deployed s.d s.u s.bound

  entry_of : (y : Other s) → resource_of s.u s.new y.number ≡ Some (listed_of s y)
  entry_of y = ap (option_and_then (λ u. resource_at u y.number)) s.is_tree ∙ (target_of s y).is_listed

  dependency_put : (n : ℕ) → has (dependencies s.file (target_of s x).put.number) n ≡ true → is_put s.file n ≡ true
  dependency_put n e =
      (both (is_put s.file n)
      (depends_on (kinds_of s.file) s.file.declared.declarations (target_of s x).put.number n)
      (sym (all_dependencies s.file (target_of s x).put.number n) ∙ e)).0

  depends_is : depends deployment s.new (new_step s x) (new_step s o)
      ≡ elements_name deployment s.new (new_step s x) (listed_of s x).declaration.depends_on (new_step s o)
      (listed_of s o)
  depends_is =
      ap (λ a. depends_by deployment s.new (new_step s x) (new_step s o) a (resource_of s.u s.new o.number))
      (entry_of x)
      ∙ ap (depends_by deployment s.new (new_step s x) (new_step s o) (Some (listed_of s x))) (entry_of o)

  agreement : (b : Bool) → value_in (new_world s) (depends deployment s.new (new_step s x) (new_step s o)) ≡ Some b
      → AnyAgrees s o (new_step s x) (dependencies s.file (target_of s x).put.number) b
  agreement b e =
      elements_agree s o (new_step s x) (dependencies s.file (target_of s x).put.number)
      (listed_of s x).declaration.depends_on b (target_of s x).is_dependent.depends_on dependency_put
      (sym (ap (value_in (new_world s)) depends_is) ∙ e)

  is_needed : (n : ℕ) → has (dependencies s.file (target_of s x).put.number) n ≡ true
      → is_dependency s.file x.instance.resource n ≡ true
  is_needed n e =
      subst (λ k. is_dependency s.file k n ≡ true) (put_is s x)
      (sym (all_dependencies s.file (target_of s x).put.number n) ∙ e)

  is_had : (n : ℕ) → is_dependency s.file x.instance.resource n ≡ true
      → has (dependencies s.file (target_of s x).put.number) n ≡ true
  is_had n e =
      all_dependencies s.file (target_of s x).put.number n
      ∙ subst (λ k. is_dependency s.file k n ≡ true) (sym (put_is s x)) e

  pub mention_forth : value_in (new_world s) (depends deployment s.new (new_step s x) (new_step s o)) ≡ Some true
      → IsMention z s.d s.w s.at x.instance o.instance
  mention_forth e =
      let a = (agreement true e).forth refl in
      record {
        file = s.file;
        is_file = s.is_file;
        mentioned = a.0;
        is_dependency = is_needed a.0 a.1.0;
        means = a.1.1;
      }

  pub mention_answer : ((n : ℕ) → is_dependency s.file x.instance.resource n ≡ true
      → IsKeyed z s.d s.w s.at s.file n)
      → HasAnswer (value_in (new_world s) (depends deployment s.new (new_step s x) (new_step s o)))
  mention_answer keyed =
      subst HasAnswer (sym (ap (value_in (new_world s)) depends_is))
      (elements_answer s o (new_step s x) (dependencies s.file (target_of s x).put.number)
      (listed_of s x).declaration.depends_on (target_of s x).is_dependent.depends_on dependency_put
      (λ n e. keyed n (is_needed n e)))

  pub mention_back : (b : Bool)
      → value_in (new_world s) (depends deployment s.new (new_step s x) (new_step s o)) ≡ Some b
      → IsMention z s.d s.w s.at x.instance o.instance → b ≡ true
  mention_back b e m =
      (agreement b e).back m.mentioned
      (is_had m.mentioned
      (subst (λ f. is_dependency f x.instance.resource m.mentioned ≡ true) (same_file m) m.is_dependency))
      (subst (λ f. Means s.d s.w s.at f m.mentioned o.instance z (is_looped f m.mentioned)) (same_file m) m.means)
    where
      same_file : (m : IsMention z s.d s.w s.at x.instance o.instance) → m.file ≡ s.file
      same_file m = same_some (sym m.is_file ∙ s.is_file)
