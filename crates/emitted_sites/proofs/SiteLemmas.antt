-- What expressions at a site of a template look at answers the cells of the instance of the file.
use Rattle.std.proofs.Common.{◌≡◌, ℕ, Bool, true, false, true≢false, List, [], ◌∷◌, Option, Some, None, refl}
use Rattle.std.proofs.Common.{sym, ap, ap₂, ◌∙◌, subst}
use Rattle.std.specs.Prelude.{◌||◌, is_some, option_map, option_and_then, slice_get, if◌then◌else◌}
use Rattle.arm_value.specs.Json.{Json}
use Rattle.arm_value.specs.Kinds.{is_true}
use Rattle.arm_value.specs.Look.{fold}
use Rattle.arm_ids.specs.declared.id.Place.{Place}
use Rattle.arm_ids.specs.declared.id.ResourceId.{ResourceId}
use Rattle.arm_env.specs.Look.{Look, Fact, a_truth, Looking, Surroundings}
use Rattle.arm_env.specs.Look as look
use Rattle.reading.specs.Reading.{ask, pure, continued}
use Rattle.reading.specs.World.{value_in}
use Rattle.template_parts.specs.declared.mode.Form.{Form}
use Rattle.template_tree.specs.Tree.{TemplateTree}
use Rattle.deploy_cells.specs.Cells.{Step, step, Position, Cell, parameter, variable, offered, output, name}
use Rattle.deploy_cells.specs.Cells.{deployments, state, World}
use Rattle.deploy_cells.specs.Guarded.{Reads}
use Rattle.deploy_cells.specs.Listing.{Sought, found, left_away, not_here, listing_json, sought, IsSought}
use Rattle.deploy_cells.proofs.ListingLemmas.{sought_is}
use Rattle.plan_cells.specs.Resources.{nested_numbers}
use Rattle.plan_cells.specs.Scopes.{template_at, owner, visible, own_place}
use Rattle.plan_cells.specs.Sites as template
use Rattle.plan_cells.specs.Sites.{Site, Found, instance, declared_value, declares, seek, truth_of_found, output_at}
use Rattle.plan_cells.specs.Sites.{nested_numbers_at, where_offered, looked_up, reading_in, reading_at}
use Rattle.bicep_meaning.specs.Files.{SourceFile}
use Rattle.bicep_meaning.specs.Around.{Here}
use Rattle.bicep_meaning.specs.Instances.{SourceProgram, file_at, output_folded, place_at, here_in, in_file}
use Rattle.bicep_meaning.specs.Meaning.{has_key}
use Rattle.bicep_emission.specs.Alike.{Seen, seen_in, after}
use Rattle.bicep_emission.specs.Answered.{Sides, IsAnswered, IsFound, IsListed, Answers, deployment_types}
use Rattle.bicep_emission.specs.Answered as answered
use Rattle.bicep_emission.proofs.SeenLemmas.{then_seen, seen-continued, value-seen, after-false, then-at}
use Rattle.cell_renaming.specs.Renaming.{Renaming, IsOneToOne, to_position, to_cell, renamed}
use Rattle.cell_renaming.proofs.CellLemmas.{to-from_position}
use Rattle.cell_renaming.proofs.OptionLemmas.{to_both}
use Rattle.cell_renaming.proofs.ParentLemmas.{renamed_is}
use Rattle.declaration_laws.specs.Standing.{AnswersVariables}
use Rattle.source_needs.specs.Given.{declares_output}
use Rattle.source_worlds.specs.Numbers.{number_of, numbering}
use Rattle.source_worlds.proofs.NumberLemmas.{one_to_one}
use Rattle.emitted_worlds.specs.Values.{AreBoth}
use Rattle.emitted_worlds.specs.Files.{IsEmitted}
use Rattle.emitted_worlds.proofs.AbsentLemmas.{Match, scope_matches}
use Rattle.emitted_worlds.proofs.InnerLemmas.{owner_is, visible_is}
use Rattle.emitted_worlds.specs.Facts.{HasFacts, IsListing}
use Rattle.emitted_worlds.proofs.TemplateLemmas.{HasTemplate, has_template}
use Rattle.emitted_sites.specs.Marks.{no_mark, no_marks, is_given, IsMarked}
use Rattle.emitted_sites.specs.Sites.{is_left, flat, sides, IsInstance, AreLike}
use Rattle.emitted_sites.proofs.EntryLemmas.{fact_of, no_parameter, no_variable, no_output, has_output, value_here}
use Rattle.emitted_sites.proofs.EntryLemmas.{entry, offered_entry}
use Rattle.emitted_sites.proofs.FollowLemmas.{by_any_texts, reads_plain}
use Rattle.emitted_sites.proofs.ListingLemmas.{found_by, seek_sees, nothing_sought, same_index, module_number}
use Rattle.emitted_sites.proofs.PlaceLemmas.{place_same, template_place, source_place}

-- a reading that has a value
abbrev Has : World → Reads (Option Fact) → Option Fact → Type 0
Has v r x = value_in v r ≡ Some x

module _ (z : Form) (d : SourceProgram) (u : TemplateTree) (m : IsEmitted z d.files u) (w : World)
    (k : IsMarked z d w) where
  abbrev r : Renaming
  r = numbering z d.files

  i : IsOneToOne r
  i = one_to_one z d.files

  abbrev v : World
  v = renamed r w

  -- which cells are marked of the template, and of the program
  abbrev n : Cell → Bool
  n = k.marks.template

  abbrev source_marks : Cell → Bool
  source_marks = k.marks.source

  abbrev sees : {A : Type 0} → Reads A → Seen A
  sees r = seen_in v n r

  -- a reading with this value, and whether it reads a marked cell
  abbrev Sees : Reads (Option Fact) → Option Fact → Bool → Type 0
  Sees r o b = sees r ≡ (Some o, b)

  matches : (p q : Position) → to_position r p ≡ Some q
      → AreBoth (Match z d.files) (file_at d.files p) (template_at u q)
  matches p q e = scope_matches z d.files u m q p (to-from_position r i p q e)

  -- ---- an output of a scope

  module _ (p q : Position) (h : to_position r p ≡ Some q) (x : List ℕ) where
    at_output : to_cell r (output p x) ≡ Some (output q x)
    at_output = ap (option_map (λ q. output q x)) h

    at_offered : to_cell r (offered p x) ≡ Some (offered q x)
    at_offered = ap (option_map (λ q. offered q x)) h

    output_same : v (output q x) ≡ w (output p x)
    output_same = renamed_is r i w (output p x) (output q x) at_output

    not_offered : is_true (v (offered q x)) ≡ false → w (output p x) ≡ None
    not_offered e =
        k.facts.closed (output p x)
        (ap is_true (sym (renamed_is r i w (offered p x) (offered q x) at_offered)) ∙ e)

    abbrev seen_entry : Option Json → Bool → Seen (Option Fact)
    seen_entry o b = (Some (fact_of o), b)

    is_declared : declares (template.output_named x) (template_at u q) ≡ true → declares_output d p x ≡ true
    is_declared e = has_output z d.files x (file_at d.files p) (template_at u q) (matches p q h) e

    is_none : declares (template.output_named x) (template_at u q) ≡ false
        → option_and_then (λ f. output_folded f x) (file_at d.files p) ≡ None
    is_none e = no_output z d.files x (file_at d.files p) (template_at u q) (matches p q h) e

    output_by : (b : Bool) → declares (template.output_named x) (template_at u q) ≡ b
        → Sees (if b then ask (offered q x) (λ o. where_offered o (output q x)) else pure None)
        (fact_of (w (output p x))) (source_marks (output p x))
    unfolding seen_in
    output_by true e =
        ap (λ b. after b (sees (declared_value (is_true (v (offered q x))) (output q x))))
        (k.are_marks.offers p q x h (is_declared e))
        ∙ offered_entry v n w (output p x) (output q x) output_same (source_marks (output p x))
        (k.are_marks.outputs p q x h (is_declared e)) (is_true (v (offered q x))) not_offered
    output_by false e =
        ap₂ seen_entry (sym (k.facts.outputs p x (is_none e)))
        (sym (k.are_marks.undeclared p x (ap is_some (is_none e))))

  -- ---- an instance

  module _ (p q : Position) (f : SourceFile) (at : IsInstance z d w p q f) (place : Place) (e : Site)
      (is_at : e.at ≡ q) where
    abbrev x : Sides
    x = sides z d u w k.marks place e

    abbrev here : Here
    here = here_in d p f place

    abbrev there : Look → Reads (Option Fact)
    there l = looked_up u place e l

    -- what is looked at has this value
    is_seen : (l : Look) (o : Option Fact) → Has v (there l) o → x.template l ≡ o
    is_seen l o h = ap flat h

    has_seen : (l : Look) (o : Option Fact) → Has v (there l) o → Has v (there l) (x.template l)
    has_seen l o h = h ∙ ap (λ o. Some o) (sym (is_seen l o h))

    has_value : (r : Reads (Option Fact)) (o : Option Fact) (b : Bool) → Sees r o b → Has v r o
    has_value r o b h = sym (value-seen v n r) ∙ ap (λ s. s.0) h

    owner_here : owner u e.at ≡ q
    owner_here = ap (owner u) is_at ∙ owner_is z d.files u m q

    visible_here : visible u e.at ≡ q ∷ []
    visible_here = ap (visible u) is_at ∙ visible_is z d.files u m q

    both : AreBoth (Match z d.files) (file_at d.files p) (template_at u q)
    both = matches p q at.position

    own : HasTemplate z d.files f (template_at u q)
    own =
        has_template z d.files f (template_at u q)
        (subst (λ o. AreBoth (Match z d.files) o (template_at u q)) at.file both)

    listing : IsListing f (w (deployments p))
    listing = k.facts.listing p q f at.position at.file at.is_there

    listing_there : v (deployments q) ≡ Some (listing_json listing.listed)
    listing_there =
        renamed_is r i w (deployments p) (deployments q) (ap (option_map (λ q. deployments q)) at.position) ∙ listing.is

    numbers_are : nested_numbers_at u q ≡ nested_numbers own.template
    numbers_are = rw own.is refl

    parameter_there : (y : List ℕ) → Sees (there (look.parameter y)) (fact_of (w (parameter p y))) false
    parameter_there y =
        ap (λ q. sees (declared_value (declares (template.parameter_named y) (template_at u q)) (parameter q y)))
        owner_here
        ∙ entry v n w (parameter p y) (parameter q y)
        (renamed_is r i w (parameter p y) (parameter q y) (ap (option_map (λ q. parameter q y)) at.position))
        (k.are_marks.others (parameter q y) refl).0 (declares (template.parameter_named y) (template_at u q))
        (λ e. k.facts.parameters p y (no_parameter z d.files y (file_at d.files p) (template_at u q) both e))

    variable_there : (y : List ℕ) → Sees (there (look.variable y)) (fact_of (w (variable p y))) false
    variable_there y =
        ap (λ q. sees (declared_value (declares (template.variable_named y) (template_at u q)) (variable q y)))
        owner_here
        ∙ entry v n w (variable p y) (variable q y)
        (renamed_is r i w (variable p y) (variable q y) (ap (option_map (λ q. variable q y)) at.position))
        (k.are_marks.others (variable q y) refl).0 (declares (template.variable_named y) (template_at u q))
        (λ e. k.facts.variables p y (no_variable z d.files y (file_at d.files p) (template_at u q) both e))

    state_there : (key : ResourceId) → Sees (there (look.state key)) (fact_of (w (state key))) (n (state key))
    state_there key = value_here v n w (state key) (state key) refl

    abbrev sought_here : ResourceId → Sought
    sought_here key = sought (has_key place key) (listing_json listing.listed)

    abbrev found_here : ResourceId → Found
    found_here key = found_by q (nested_numbers_at u q) (sought_here key)

    sought_there : {A : Type 0} (key : ResourceId) (f : Found → Reads A)
        → sees (continued (seek u (has_key place key) (visible u e.at)) f) ≡ sees (f (found_here key))
    sought_there {A} key f =
        seen-continued v n (seek u (has_key place key) (visible u e.at)) f
        ∙ ap (λ qs. then_seen (sees (seek u (has_key place key) qs)) (λ o. sees (f o))) visible_here
        ∙ ap (λ s. then_seen s (λ o. sees (f o)))
        (seek_sees v n u (has_key place key) q (listing_json listing.listed) listing_there
        (k.are_marks.others (deployments q) refl).0)
        ∙ after-false (sees (f (found_here key)))

    pure_sees : {A : Type 0} (a : A) → sees (let r : Reads A = pure a in r) ≡ (Some a, false)
    unfolding seen_in
    pure_sees a = refl

    deployment_there : (key : ResourceId)
        → Sees (there (look.deployment key)) (truth_of_found (found_here key)) false
    deployment_there key =
        sought_there key (λ o. pure (truth_of_found o)) ∙ pure_sees (truth_of_found (found_here key))

    output_there : (key : ResourceId) (y : List ℕ)
        → sees (there (look.output key y)) ≡ sees (output_at u y (found_here key))
    output_there key y = sought_there key (output_at u y)

    -- an output has a value or none, whatever is found
    some_entry : (b : Bool) (c : Cell) → (a : Option Fact) × (Has v (declared_value b c) a)
    unfolding value_in
    some_entry true c = (fact_of (v c), refl)
    some_entry false c = (None, refl)

    some_offered : (b : Bool) (c g : Cell) → (a : Option Fact)
        × (Has v (if b then ask g (λ o. where_offered o c) else pure None) a)
    unfolding value_in
    some_offered true c g = some_entry (is_true (v g)) c
    some_offered false c g = (None, refl)

    some_output : (y : List ℕ) (o : Found) → (a : Option Fact) × (Has v (output_at u y o) a)
    unfolding value_in
    some_output y (instance q s) =
        some_offered (declares (template.output_named y) (template_at u (s ∷ q))) (output (s ∷ q) y)
        (offered (s ∷ q) y)
    some_output y template.is_left_away = (None, refl)
    some_output y template.is_nowhere = (None, refl)

    -- ---- answers

    -- of a cell that is not left, with this value and this mark
    is_answered : (l : Look) (c : Cell) → is_left l ≡ false → Sees (there l) (fact_of (w c)) (source_marks c)
        → IsAnswered x l c
    is_answered l c h g = (
      is_seen l (fact_of (w c)) (has_value (there l) (fact_of (w c)) (source_marks c) g),
      ap (λ b. b || (sees (there l)).1) h ∙ ap (λ s. s.1) g,
    )

    unmarked : (l : Look) (c : Cell) → is_given c ≡ false → Sees (there l) (fact_of (w c)) false
        → Sees (there l) (fact_of (w c)) (source_marks c)
    unmarked l c h g =
        g ∙ ap (λ b. let s : Seen (Option Fact) = (Some (fact_of (w c)), b) in s)
        (sym (k.are_marks.others c h).1)

    parameters : (y : List ℕ) → IsAnswered x (look.parameter y) (parameter p y)
    parameters y =
        is_answered (look.parameter y) (parameter p y) refl
        (unmarked (look.parameter y) (parameter p y) refl (parameter_there y))

    variables : (y : List ℕ) → IsAnswered x (look.variable y) (variable p y)
    variables y =
        is_answered (look.variable y) (variable p y) refl
        (unmarked (look.variable y) (variable p y) refl (variable_there y))

    states : (key : ResourceId) → IsAnswered x (look.state key) (state key)
    states key =
        is_answered (look.state key) (state key) refl
        (state_there key
        ∙ ap (λ b. let s : Seen (Option Fact) = (Some (fact_of (w (state key))), b) in s) (k.are_marks.states key))

    deployment_is : (key : ResourceId) (o : Found) → found_here key ≡ o
        → x.template (look.deployment key) ≡ truth_of_found o
    deployment_is key o h =
        is_seen (look.deployment key) (truth_of_found (found_here key))
        (has_value (there (look.deployment key)) (truth_of_found (found_here key)) false (deployment_there key))
        ∙ ap truth_of_found h

    no_deployments : (key : ResourceId) → (key.types ≡ deployment_types → ⊥)
        → x.template (look.deployment key) ≡ Some (a_truth false)
    no_deployments key other =
        deployment_is key template.is_nowhere
        (nothing_sought place key q (nested_numbers_at u q) listing.listed (sought_here key)
        (sought_is (has_key place key) listing.listed) other)

    module _ (key : ResourceId) (y : List ℕ) (of : key.types ≡ deployment_types) where
      instance_answers : (a c j mm : ℕ) → found_here key ≡ instance q (step mm c) → number_of z f j ≡ Some mm
          → answered.IsInstance x here key y (Some j) c
      instance_answers a c j mm g e =
          let b : to_position r (step j c ∷ p) ≡ Some (step mm c ∷ q) =
          to_both (to_position r p) (r.number p j) (λ q m. step m c ∷ q) q mm at.position
          (ap (option_and_then (λ f. number_of z f j)) at.file ∙ e) in (
            deployment_is key (instance q (step mm c)) g,
            is_answered (look.output key y) (output (step j c ∷ p) y) refl
                (output_there key y ∙ ap (λ o. sees (output_at u y o)) g
                ∙ output_by (step j c ∷ p) (step mm c ∷ q) b y
                (declares (template.output_named y) (template_at u (step mm c ∷ q))) refl),
          )

      found_answers : (s : Sought) → sought_here key ≡ s → IsSought (has_key place key) listing.listed s
          → IsFound x here key y s
      found_answers (found a c) g h =
          let o = same_index listing.listed f.modules a h.1.0.of h.1.0.has listing.each in
          let mm = module_number (number_of z f) f.modules (nested_numbers own.template) a o.0
          own.matches.modules o.1 in
          subst (λ o. answered.IsInstance x here key y o c) (sym o.1)
          (instance_answers a c o.0 mm.0
          (ap (found_by q (nested_numbers_at u q)) g
          ∙ ap (λ rs. template.instance_of q (slice_get rs a) c) numbers_are
          ∙ ap (λ o. template.instance_of q o c) mm.1.0) mm.1.1)
      found_answers left_away g h =
          deployment_is key template.is_left_away (ap (found_by q (nested_numbers_at u q)) g)
      found_answers not_here g h = (
        deployment_is key template.is_nowhere (ap (found_by q (nested_numbers_at u q)) g),
        (states key).0 ∙ ap fact_of (k.facts.states key of),
        (states key).1 ∙ k.are_marks.resources key of,
      )

      listed_answers : IsListed x here key y (w (deployments p))
      listed_answers =
          subst (IsListed x here key y) (sym listing.is)
          (found_answers (sought_here key) refl (sought_is (has_key place key) listing.listed))

    pub answers : Answers x here
    answers = record {
      parameters = λ n name h. parameters (fold name);
      states = states;
      no_deployments = no_deployments;
      outputs = λ key name h. listed_answers key (fold name) h;
      deployments_unmarked = λ key. ap (λ s. s.1) (deployment_there key);
      listing_unmarked = (k.are_marks.others (deployments p) refl).1;
    }

    pub answers_variables : AnswersVariables x here
    answers_variables = λ n name h g. variables (fold name)

    -- all that is looked at has a value, but for what no emitted expression looks at
    all_seen : (l : Look) → is_left l ≡ false → Has v (there l) (x.template l)
    all_seen (look.parameter y) h =
        has_seen (look.parameter y) (fact_of (w (parameter p y)))
        (has_value (there (look.parameter y)) (fact_of (w (parameter p y))) false (parameter_there y))
    all_seen (look.variable y) h =
        has_seen (look.variable y) (fact_of (w (variable p y)))
        (has_value (there (look.variable y)) (fact_of (w (variable p y))) false (variable_there y))
    all_seen (look.output key y) h =
        let o = some_output y (found_here key) in
        has_seen (look.output key y) o.0
        (sym (value-seen v n (there (look.output key y))) ∙ ap (λ s. s.0) (output_there key y)
        ∙ value-seen v n (output_at u y (found_here key)) ∙ o.1)
    all_seen (look.state key) h =
        has_seen (look.state key) (fact_of (w (state key)))
        (has_value (there (look.state key)) (fact_of (w (state key))) (n (state key)) (state_there key))
    all_seen (look.named t) h = absurd (true≢false h)
    all_seen (look.deployment key) h =
        has_seen (look.deployment key) (truth_of_found (found_here key))
        (has_value (there (look.deployment key)) (truth_of_found (found_here key)) false (deployment_there key))
    all_seen (look.outputs key) h = absurd (true≢false h)

    -- and is marked where a marked cell is read for it
    pub all_marked : (l : Look) → is_left l ≡ false → Sees (there l) (x.template l) (x.template_marks l)
    all_marked l h =
        by_parts (sees (there l)) (value-seen v n (there l) ∙ all_seen l h)
        (sym (ap (λ b. b || (sees (there l)).1) h))
      where
        by_parts : (s : Seen (Option Fact)) → s.0 ≡ Some (x.template l) → s.1 ≡ x.template_marks l
            → s ≡ (Some (x.template l), x.template_marks l)
        by_parts (a, b) g k = ap₂ (λ a b. let s : Seen (Option Fact) = (a, b) in s) g k

-- ---- a site

-- nothing is marked
abbrev pub unmarked_world : (z : Form) (d : SourceProgram) (w : World) → HasFacts z d w → IsMarked z d w
unmarked_world z d w facts = record {
  facts = facts;
  marks = no_marks;
  are_marks = record {
    states = λ k. refl;
    resources = λ k h. refl;
    outputs = λ p q name h k. refl;
    offers = λ p q name h k. refl;
    undeclared = λ p name h. refl;
    others = λ c h. (refl, refl);
  };
}

module _ (z : Form) (d : SourceProgram) (u : TemplateTree) (m : IsEmitted z d.files u) (w : World)
    (k : IsMarked z d w) (p q : Position) (f : SourceFile) (at : IsInstance z d w p q f) (e : Site) (is_at : e.at ≡ q)
    (g : Surroundings → Looking Json) (s : Here → Reads Json) (h : AreLike z d u w p f e g s) where
  abbrev moved : World
  moved = renamed (numbering z d.files) w

  abbrev read_there : Place → Seen Json
  read_there place = seen_in moved k.marks.template (reading_in u e g place)

  abbrev read_here : Place → Seen Json
  read_here place = seen_in w k.marks.source (s (here_in d p f place))

  names_unmarked : (p : Position) (s : Step)
      → (k.marks.template (name p s) ≡ false) × (k.marks.source (name p s) ≡ false)
  names_unmarked p s = k.are_marks.others (name p s) refl

  in_place : (place : Place) → value_in w (place_at d.place p) ≡ Some place → read_there place ≡ read_here place
  in_place place c =
      by_any_texts moved k.marks.template (sides z d u w k.marks place e).template
      (sides z d u w k.marks place e).template_marks (looked_up u place e)
      (all_marked z d u m w k p q f at place e is_at) e.texts u place e.at
      (g (record { loops = e.loops; place = place }))
      (reads_plain (sides z d u w k.marks place e).template
      (λ l. (seen_in moved no_mark (looked_up u place e l)).1) w (g (record { loops = e.loops; place = place }))
      (s (here_in d p f place)) (h (unmarked_world z d w k.facts) place c))
      ∙ h k place c

  pub site_alike : seen_in moved k.marks.template (reading_at u d.place e g)
      ≡ seen_in w k.marks.source (in_file d p f s)
  unfolding reading_at
  site_alike =
      seen-continued moved k.marks.template (own_place d.place (owner u e.at)) (reading_in u e g)
      ∙ ap (λ q. then_seen (seen_in moved k.marks.template (own_place d.place q)) read_there)
      (ap (owner u) is_at ∙ owner_is z d.files u m q)
      ∙ ap (λ s. then_seen s read_there)
      (template_place moved k.marks.template (λ p s. (names_unmarked p s).0) d.place q
      ∙ ap (λ o. let s : Seen Place = (o, false) in s)
      (place_same (numbering z d.files) (one_to_one z d.files) w d.place p q at.position))
      ∙ then-at (value_in w (place_at d.place p), false) read_there read_here in_place
      ∙ ap (λ s. then_seen s read_here)
      (sym (source_place w k.marks.source (λ p s. (names_unmarked p s).1) d.place p))
      ∙ sym (seen-continued w k.marks.source (place_at d.place p) (λ place. s (here_in d p f place)))
