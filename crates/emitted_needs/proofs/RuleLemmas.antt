-- A task needs another by names, order or batches in a template exactly where it does in the program.
use Rattle.std.proofs.Common.{◌≡◌, ◌⊎◌, inl, inr, ℕ, suc, Bool, true, false, true≢false, List, [], ◌∷◌, Option, Some}
use Rattle.std.proofs.Common.{None, refl, sym, ap, ◌∙◌, subst, arith}
use Rattle.std.specs.Prelude.{◌/◌, ◌&&◌, ◌||◌, nat_eq, nat_lt, option_and_then, if◌then◌else◌}
use Rattle.deploy_cells.proofs.SameLemmas.{position_is, position_same}
use Rattle.foundation.proofs.Comparisons.{eq_of_true, eq_true}
use Rattle.foundation.proofs.Options.{same_some}
use Rattle.foundation.proofs.TruthValues.{both as both_true, and_true}
use Rattle.arm_value.specs.Json.{bool}
use Rattle.arm_value.specs.Kinds.{is_true}
use Rattle.arm_ids.specs.Held.{HeldResource}
use Rattle.reading.specs.Reading.{pure}
use Rattle.reading.specs.World.{value_in}
use Rattle.template_parameters.specs.Binding.{BoundMeaning}
use Rattle.template_parts.specs.declared.looping.Batches.{Batches}
use Rattle.template_parts.specs.declared.looping.Batches.TheVariants.{Parallel, Serial}
use Rattle.template_parts.specs.declared.looping.ResourceCopy.{ResourceCopy}
use Rattle.template_parts.specs.declared.mode.Form.{Form}
use Rattle.template_tree.specs.Tree.{TemplateTree}
use Rattle.deploy_cells.specs.Cells.{Step, step, Position, count, included, World, copies}
use Rattle.deploy_cells.specs.Guarded.{Reads}
use Rattle.deploy_cells.specs.Same.{same_position}
use Rattle.plan_cells.specs.Desired.{held_state}
use Rattle.plan_cells.specs.Meaning.{Deployment}
use Rattle.plan_cells.specs.Needs as plan
use Rattle.plan_cells.specs.Needs.{Instance, started, ended, needs, needs_by_order, depends, depends_on, follows_batch}
use Rattle.plan_cells.specs.Needs.{is_before, is_batch_before, copy_of}
use Rattle.plan_cells.specs.Scopes.{template_at, resource_of}
use Rattle.plan_cells.specs.Tasks.{Task, enter, leave, put, delete}
use Rattle.bicep_meaning.specs.Files.{SourceFile}
use Rattle.bicep_meaning.specs.Instances as source
use Rattle.bicep_meaning.specs.Instances.{SourceProgram, file_at}
use Rattle.cell_renaming.specs.Renaming.{Renaming, IsOneToOne, to_position, renamed}
use Rattle.cell_renaming.proofs.CellLemmas.{to-from_position}
use Rattle.cell_renaming.proofs.OptionLemmas.{of_then}
use Rattle.source_needs.specs.Needs.{SourceNeeds, AreOf, IsMention, IsBatchAfter, batches_of, by_mention, by_order}
use Rattle.source_needs.specs.Needs.{by_batch}
use Rattle.source_needs.specs.Orders.{IsAfter}
use Rattle.source_needs.specs.Tasks.{IsTask}
use Rattle.source_worlds.specs.Numbers.{number_of, numbering}
use Rattle.source_worlds.proofs.NumberLemmas.{one_to_one}
use Rattle.emitted_worlds.specs.Values as values
use Rattle.emitted_worlds.proofs.AbsentLemmas.{Match, scope_matches}
use Rattle.emitted_worlds.specs.Facts.{HasFacts}
use Rattle.emitted_worlds.proofs.TemplateLemmas.{has_template}
use Rattle.emitted_programs.specs.Given.{IsDeployed, deployed}
use Rattle.emitted_programs.proofs.AboveLemmas.{counted_scope, included_admitted}
use Rattle.emitted_programs.proofs.ReadLemmas.{deployed_facts}
use Rattle.emitted_needs.specs.Keys.{AreKeyed, MentionsAreKeyed, HasAnswer}
use Rattle.emitted_needs.specs.Symbols.{HaveSymbols}
use Rattle.emitted_needs.specs.Tasks.{to_task}
use Rattle.emitted_needs.proofs.BatchLemmas.{batches_in, same_batches}
use Rattle.emitted_needs.proofs.ChildLemmas.{child_forth, child_back}
use Rattle.emitted_needs.proofs.DependLemmas.{mention_forth, mention_back, mention_answer}
use Rattle.emitted_needs.proofs.MentionLemmas.{Scene, Other}
use Rattle.emitted_needs.proofs.OrderLemmas.{one_position, in_order, order_forth}
use Rattle.emitted_needs.proofs.OrderLemmas.{order_back}
use Rattle.emitted_needs.proofs.StartLemmas.{Renamed, AreBoth, both, neither, started_both, ended_both}

-- ---- the parts of the rule

-- the batches are the third of four
split : (a b c d : Bool) → (a || (b || (c || d))) ≡ true → ((a || (b || d)) ≡ true) ⊎ (c ≡ true)
split true b c d e = inl refl
split false true c d e = inl refl
split false false true d e = inr refl
split false false false d e = inl e

join_order : (a b c d : Bool) → (a || (b || d)) ≡ true → (a || (b || (c || d))) ≡ true
join_order true b c d e = refl
join_order false true c d e = refl
join_order false false true d e = refl
join_order false false false d e = e

join_batch : (a b c d : Bool) → c ≡ true → (a || (b || (c || d))) ≡ true
join_batch true b c d e = refl
join_batch false true c d e = refl
join_batch false false true d e = refl
join_batch false false false d e = absurd (true≢false (sym e))

none_some : (c : Instance) → (let o : Option Instance = None in o) ≡ Some c → ⊥
none_some c e = absurd cc

module _ (t : Deployment) where
  before_is : (o : Option ResourceCopy) (i j : ℕ) → is_before t o i j ≡ is_batch_before t (batches_in o) i j
  before_is None i j = refl
  before_is (Some c) i j = refl

  batch_forth : (b : Batches) (i j : ℕ) → IsBatchAfter b i j → is_batch_before t b i j ≡ true
  batch_forth Parallel i j h = absurd h
  batch_forth (Serial size) i j h = eq_true (i / size) (suc (j / size)) h

  batch_back : (b : Batches) (i j : ℕ) → is_batch_before t b i j ≡ true → IsBatchAfter b i j
  batch_back Parallel i j h = absurd (true≢false (sym h))
  batch_back (Serial size) i j h = eq_of_true (i / size) (suc (j / size)) h

module _ (z : Form) (d : SourceProgram) (u : TemplateTree) (bound : List (List ℕ × BoundMeaning))
    (held : List HeldResource) (h : IsDeployed z d u bound held) (w : World)
    (satisfied : source.Satisfies d (held_state held) w) (symbols : HaveSymbols d) where
  abbrev r : Renaming
  r = numbering z d.files

  i : IsOneToOne r
  i = one_to_one z d.files

  abbrev rw : World
  rw = renamed r w

  abbrev dep : Deployment
  dep = deployed d u bound

  facts : HasFacts z d w
  facts = deployed_facts z d u bound held h w satisfied

  -- ---- instances of tasks are included

  abbrev Included : Instance → Type 0
  Included x = w (included x.0 x.1) ≡ Some (bool true)

  started_included : (x : Task) → IsTask d w x → (c : Instance) → started x ≡ Some c → Included c
  started_included (put p s) k c e = subst Included (same_some e) k.has_condition
  started_included (enter (s ∷ p)) k c e = subst Included (same_some e) k.has_condition
  started_included (enter []) k c e = absurd cc
  started_included (leave p) k c e = absurd cc
  started_included (delete l) k c e = absurd cc

  ended_included : (x : Task) → IsTask d w x → (c : Instance) → ended x ≡ Some c → Included c
  ended_included (put p s) k c e = subst Included (same_some e) k.has_condition
  ended_included (leave (s ∷ p)) k c e = subst Included (same_some e) k.has_condition
  ended_included (leave []) k c e = absurd cc
  ended_included (enter p) k c e = absurd cc
  ended_included (delete l) k c e = absurd cc

  counted : (p : Position) (s : Step) → Included (p, s) → nat_lt s.copy (copies (w (count p s.resource))) ≡ true
  counted p s e = included_admitted z d w facts p s (ap is_true e)

  -- ---- two instances of one scope

  module _ (p q : Position) (at : to_position r p ≡ Some q) (s t : Step) (m n : ℕ)
      (first_number : r.number p s.resource ≡ Some m) (second_number : r.number p t.resource ≡ Some n)
      (first_there : Included (p, s)) (second_there : Included (p, t)) where
    file_there : (f : SourceFile) × ((file_at d.files p ≡ Some f) × (number_of z f s.resource ≡ Some m))
    file_there =
        let g = of_then (file_at d.files p) (λ f. number_of z f s.resource) m first_number in
        (g.left, (g.first, g.made))

    abbrev scene : Scene z
    scene =
        let f = file_there in
        let v = has_template z d.files f.0 (template_at u q)
        (subst (λ o. values.AreBoth (Match z d.files) o (template_at u q)) f.1.0
        (scope_matches z d.files u h.emitted q p (to-from_position r i p q at))) in
        record {
          d = d;
          u = u;
          bound = bound;
          held = held;
          is_deployed = h;
          w = w;
          satisfied = satisfied;
          at = p;
          new = q;
          is_new = at;
          is_there = counted_scope z d w facts p s (counted p s first_there);
          file = f.0;
          is_file = f.1.0;
          tree = v.template;
          is_tree = v.is;
          match = v.matches;
          symbols = symbols p f.0 f.1.0;
        }

    abbrev first : Other scene
    first = record { instance = s; number = m; is_number = file_there.1.1; counted = counted p s first_there }

    abbrev second : Other scene
    second = record {
      instance = t;
      number = n;
      is_number = sym (ap (option_and_then (λ f. number_of z f t.resource)) file_there.1.0) ∙ second_number;
      counted = counted p t second_there;
    }

    mentions_forth : value_in rw (depends dep q (step m s.copy) (step n t.copy)) ≡ Some true → IsMention z d w p s t
    mentions_forth e = mention_forth scene first second e

    mentions_back : (b : Bool) → value_in rw (depends dep q (step m s.copy) (step n t.copy)) ≡ Some b
        → IsMention z d w p s t → b ≡ true
    mentions_back b e k = mention_back scene first second b e k

    mentions_answer : AreKeyed z d w p s
        → HasAnswer (value_in rw (depends dep q (step m s.copy) (step n t.copy)))
    mentions_answer k =
        let f = file_there in mention_answer scene first second (λ j e. k f.0 f.1.0 j e)

  -- ---- the instances of two tasks

  module _ (x y a b : Task) (e : to_task r x ≡ Some a) (f : to_task r y ≡ Some b) (is_task : IsTask d w x)
      (other_task : IsTask d w y) where
    -- the second ends an instance of the same scope
    record Beside (c : Renamed r (started x) (started a)) : Type 0 where
      pub instance : Step
      pub number : ℕ
      pub is : ended y ≡ Some (c.at, instance)
      pub is_number : r.number c.at instance.resource ≡ Some number
      pub becomes : ended b ≡ Some (c.new, step number instance.copy)

    beside : (c : Renamed r (started x) (started a)) (g : Renamed r (ended y) (ended b)) → g.at ≡ c.at → Beside c
    beside c g k =
        let new : g.new ≡ c.new = same_some (sym g.is_new ∙ ap (to_position r) k ∙ c.is_new) in
        record {
          instance = g.instance;
          number = g.number;
          is = g.is ∙ ap (λ p. let i : Option Instance = Some (p, g.instance) in i) k;
          is_number = subst (λ p. r.number p g.instance.resource ≡ Some g.number) k g.is_number;
          becomes = g.becomes
              ∙ ap (λ q. let i : Option Instance = Some (q, step g.number g.instance.copy) in i) new;
        }

    -- ---- batches

    module _ (c : Renamed r (started x) (started a)) (g : Beside c) where
      abbrev batch_there : Bool
      batch_there =
          nat_eq c.number g.number
          && is_before dep (copy_of dep (resource_of u c.new c.number)) c.instance.copy g.instance.copy

      batch_is : is_before dep (copy_of dep (resource_of u c.new c.number)) c.instance.copy g.instance.copy
          ≡ is_batch_before dep (batches_of d c.at c.instance.resource) c.instance.copy g.instance.copy
      batch_is =
          before_is dep (copy_of dep (resource_of u c.new c.number)) c.instance.copy g.instance.copy
          ∙ ap (λ b. is_batch_before dep b c.instance.copy g.instance.copy)
          (same_batches z d dep h.emitted c.at c.new c.instance.resource c.number c.is_new c.is_number)

      follows_is : follows_batch dep (started a) (ended b) ≡ batch_there
      follows_is =
          ap (λ o. follows_batch dep o (ended b)) c.becomes
          ∙ ap (follows_batch dep (Some (c.new, step c.number c.instance.copy))) g.becomes
          ∙ ap (λ k. k && batch_there) (position_same c.new)

      same_resource : c.instance.resource ≡ g.instance.resource → c.number ≡ g.number
      same_resource k = same_some (sym c.is_number ∙ ap (r.number c.at) k ∙ g.is_number)

      same_number : c.number ≡ g.number → c.instance.resource ≡ g.instance.resource
      same_number k =
          same_some
          (sym (i.there c.at c.instance.resource c.number c.is_number) ∙ ap (r.resource c.at) k
          ∙ i.there c.at g.instance.resource g.number g.is_number)

      follows_forth : c.instance.resource ≡ g.instance.resource
          → IsBatchAfter (batches_of d c.at c.instance.resource) c.instance.copy g.instance.copy
          → follows_batch dep (started a) (ended b) ≡ true
      follows_forth k l =
          follows_is
          ∙ and_true (nat_eq c.number g.number)
          (is_before dep (copy_of dep (resource_of u c.new c.number)) c.instance.copy g.instance.copy)
          (eq_true c.number g.number (same_resource k))
          (batch_is
          ∙ batch_forth dep (batches_of d c.at c.instance.resource) c.instance.copy g.instance.copy l)

      follows_back : follows_batch dep (started a) (ended b) ≡ true → SourceNeeds z d w x y
      follows_back k =
          let l = both_true (nat_eq c.number g.number)
          (is_before dep (copy_of dep (resource_of u c.new c.number)) c.instance.copy g.instance.copy)
          (sym follows_is ∙ k) in
          by_batch c.at c.instance g.instance (record { starts = c.is; ends = g.is })
          (same_number (eq_of_true c.number g.number l.0))
          (batch_back dep (batches_of d c.at c.instance.resource) c.instance.copy g.instance.copy (sym batch_is ∙ l.1))

      -- ---- names

      depends_is : depends_on dep (started a) (ended b)
          ≡ depends dep c.new (step c.number c.instance.copy) (step g.number g.instance.copy)
      depends_is =
          ap (λ o. depends_on dep o (ended b)) c.becomes
          ∙ ap (depends_on dep (Some (c.new, step c.number c.instance.copy))) g.becomes
          ∙ ap (λ k. if k then depends dep c.new (step c.number c.instance.copy) (step g.number g.instance.copy)
          else pure false) (position_same c.new)

      depends_forth : value_in rw (depends_on dep (started a) (ended b)) ≡ Some true → SourceNeeds z d w x y
      depends_forth k =
          by_mention c.at c.instance g.instance (record { starts = c.is; ends = g.is })
          (mentions_forth c.at c.new c.is_new c.instance g.instance c.number g.number c.is_number g.is_number
          (started_included x is_task (c.at, c.instance) c.is)
          (ended_included y other_task (c.at, g.instance) g.is) (sym (ap (value_in rw) depends_is) ∙ k))

      depends_back : (answer : Bool) → value_in rw (depends_on dep (started a) (ended b)) ≡ Some answer
          → IsMention z d w c.at c.instance g.instance → answer ≡ true
      depends_back answer k l =
          mentions_back c.at c.new c.is_new c.instance g.instance c.number g.number c.is_number g.is_number
          (started_included x is_task (c.at, c.instance) c.is)
          (ended_included y other_task (c.at, g.instance) g.is) answer (sym (ap (value_in rw) depends_is) ∙ k) l

      depends_answer : AreKeyed z d w c.at c.instance
          → HasAnswer (value_in rw (depends_on dep (started a) (ended b)))
      depends_answer k =
          subst HasAnswer (sym (ap (value_in rw) depends_is))
          (mentions_answer c.at c.new c.is_new c.instance g.instance c.number g.number c.is_number g.is_number
          (started_included x is_task (c.at, c.instance) c.is)
          (ended_included y other_task (c.at, g.instance) g.is) k)

    -- ---- both instances, or none of one scope

    data Pairing : Type 0 where
      one_scope : (c : Renamed r (started x) (started a)) → Beside c → Pairing
      apart : follows_batch dep (started a) (ended b) ≡ false
          → value_in rw (depends_on dep (started a) (ended b)) ≡ Some false
          → ((p : Position) (s t : Step) → AreOf x y p s t → ⊥) → Pairing

    nothing : value_in rw (let r : Reads Bool = pure false in r) ≡ Some false
    unfolding value_in
    nothing = refl

    without_end : (o : Option Instance) → (follows_batch dep o None ≡ false) × (depends_on dep o None ≡ pure false)
    without_end None = (refl, refl)
    without_end (Some c) = (refl, refl)

    not_ended : ended y ≡ None → ended b ≡ None → Pairing
    not_ended k l =
        apart (ap (follows_batch dep (started a)) l ∙ (without_end (started a)).0)
        (ap (λ o. value_in rw (depends_on dep (started a) o)) l ∙ ap (value_in rw) (without_end (started a)).1
        ∙ nothing)
        (λ p s t o. none_some (p, t) (sym k ∙ o.ends))

    not_started : started x ≡ None → started a ≡ None → Pairing
    not_started k l =
        apart (ap (λ o. follows_batch dep o (ended b)) l)
        (ap (λ o. value_in rw (depends_on dep o (ended b))) l ∙ nothing)
        (λ p s t o. none_some (p, s) (sym k ∙ o.starts))

    at_of : (p q : Position) (s t : Step) → (let i : Option Instance = Some (p, s) in i) ≡ Some (q, t) → p ≡ q
    at_of p q s t e = ap (λ (i : Instance). i.0) (same_some e)

    other_scope : (c : Renamed r (started x) (started a)) (g : Renamed r (ended y) (ended b))
        → same_position c.new g.new ≡ false → Pairing
    other_scope c g k =
        apart
        (ap (λ o. follows_batch dep o (ended b)) c.becomes
        ∙ ap (follows_batch dep (Some (c.new, step c.number c.instance.copy))) g.becomes
        ∙ ap (λ k. k && (nat_eq c.number g.number
        && is_before dep (copy_of dep (resource_of u c.new c.number)) c.instance.copy g.instance.copy)) k)
        (ap (λ o. value_in rw (depends_on dep o (ended b))) c.becomes
        ∙ ap (λ o. value_in rw (depends_on dep (Some (c.new, step c.number c.instance.copy)) o)) g.becomes
        ∙ ap (λ k. value_in rw
        (if k then depends dep c.new (step c.number c.instance.copy) (step g.number g.instance.copy) else pure false)) k
        ∙ nothing)
        (λ p s t o. true≢false
        (sym
        (ap (same_position c.new)
        (same_some
        (sym g.is_new
        ∙ ap (to_position r)
        (at_of g.at p g.instance t (sym g.is ∙ o.ends) ∙ sym (at_of c.at p c.instance s (sym c.is ∙ o.starts)))
        ∙ c.is_new))
        ∙ position_same c.new) ∙ k))

    by_position : (c : Renamed r (started x) (started a)) (g : Renamed r (ended y) (ended b)) (k : Bool)
        → same_position c.new g.new ≡ k → Pairing
    by_position c g true k =
        one_scope c
        (beside c g
        (one_position r i g.at c.at g.new g.is_new
        (c.is_new ∙ ap (λ q. Some q) (position_is c.new g.new k))))
    by_position c g false k = other_scope c g k

    by_both : AreBoth r (started x) (started a) → AreBoth r (ended y) (ended b) → Pairing
    by_both (both c) (both g) = by_position c g (same_position c.new g.new) refl
    by_both (both c) (neither k l) = not_ended k l
    by_both (neither k l) g = not_started k l

    pairing : Pairing
    pairing = by_both (started_both r x a e) (ended_both r y b f)

    -- ---- the rule

    rule_value : (o : Bool) → needs_by_order dep a b ≡ o → value_in rw (needs dep a b)
        ≡ (if o then Some true else value_in rw (depends_on dep (started a) (ended b)))
    unfolding needs value_in
    rule_value true k =
        ap (λ o. value_in rw (if o then pure true else depends_on dep (started a) (ended b))) k
    rule_value false k =
        ap (λ o. value_in rw (if o then pure true else depends_on dep (started a) (ended b))) k

    always : needs_by_order dep a b ≡ true → (answer : Bool) → value_in rw (needs dep a b) ≡ Some answer
        → answer ≡ true
    always k answer g = sym (same_some (sym (rule_value true k) ∙ g))

    -- ---- forth

    order_true : IsAfter x y → needs_by_order dep a b ≡ true
    order_true k =
        join_order (plan.is_entered_by dep a b) (plan.leaves dep a b) (follows_batch dep (started a) (ended b))
        (plan.deletes_after dep a b) (order_forth r i dep (child_forth dep) x y a b e f k)

    batch_true : follows_batch dep (started a) (ended b) ≡ true → needs_by_order dep a b ≡ true
    batch_true k =
        join_batch (plan.is_entered_by dep a b) (plan.leaves dep a b) (follows_batch dep (started a) (ended b))
        (plan.deletes_after dep a b) k

    of_batch : Pairing → (p : Position) (s t : Step) → AreOf x y p s t → s.resource ≡ t.resource
        → IsBatchAfter (batches_of d p s.resource) s.copy t.copy → needs_by_order dep a b ≡ true
    of_batch (apart k l never) p s t o g h = absurd (never p s t o)
    of_batch (one_scope c n) p s t o g h =
        let first = same_some (sym o.starts ∙ c.is) in
        let second = ap (λ (i : Instance). i.1) (same_some (sym o.ends ∙ n.is)) in
        batch_true
        (follows_forth c n
        (sym (ap (λ (i : Instance). i.1.resource) first) ∙ g ∙ ap (λ (t : Step). t.resource) second)
        (subst (λ (t : Step). IsBatchAfter (batches_of d c.at c.instance.resource) c.instance.copy t.copy) second
        (subst (λ (i : Instance). IsBatchAfter (batches_of d i.0 i.1.resource) i.1.copy t.copy) first h)))

    of_mention : Pairing → (p : Position) (s t : Step) → AreOf x y p s t → IsMention z d w p s t → (answer : Bool)
        → value_in rw (depends_on dep (started a) (ended b)) ≡ Some answer → answer ≡ true
    of_mention (apart k l never) p s t o g answer h = absurd (never p s t o)
    of_mention (one_scope c n) p s t o g answer h =
        let first = same_some (sym o.starts ∙ c.is) in
        let second = ap (λ (i : Instance). i.1) (same_some (sym o.ends ∙ n.is)) in
        depends_back c n answer h
        (subst (λ (t : Step). IsMention z d w c.at c.instance t) second
        (subst (λ (i : Instance). IsMention z d w i.0 i.1 t) first g))

    by_answer : (o : Bool) → needs_by_order dep a b ≡ o → (p : Position) (s t : Step) → AreOf x y p s t
        → IsMention z d w p s t → (answer : Bool) → value_in rw (needs dep a b) ≡ Some answer → answer ≡ true
    by_answer true k p s t o g answer h = always k answer h
    by_answer false k p s t o g answer h =
        of_mention pairing p s t o g answer (sym (rule_value false k) ∙ h)

    pub after_true : (answer : Bool) → value_in rw (needs dep a b) ≡ Some answer → IsAfter x y → answer ≡ true
    after_true answer g k = always (order_true k) answer g

    pub batches_true : (answer : Bool) → value_in rw (needs dep a b) ≡ Some answer → (p : Position) (s t : Step)
        → AreOf x y p s t → s.resource ≡ t.resource → IsBatchAfter (batches_of d p s.resource) s.copy t.copy
        → answer ≡ true
    batches_true answer g p s t o k l = always (of_batch pairing p s t o k l) answer g

    pub mention_true : (answer : Bool) → value_in rw (needs dep a b) ≡ Some answer → (p : Position) (s t : Step)
        → AreOf x y p s t → IsMention z d w p s t → answer ≡ true
    mention_true answer g p s t o k = by_answer (needs_by_order dep a b) refl p s t o k answer g

    -- ---- back

    of_follows : Pairing → follows_batch dep (started a) (ended b) ≡ true → SourceNeeds z d w x y
    of_follows (apart k l never) g = absurd (true≢false (sym g ∙ k))
    of_follows (one_scope c n) g = follows_back c n g

    of_depends : Pairing → value_in rw (depends_on dep (started a) (ended b)) ≡ Some true
        → SourceNeeds z d w x y
    of_depends (apart k l never) g = absurd (true≢false (same_some (sym g ∙ l)))
    of_depends (one_scope c n) g = depends_forth c n g

    of_split : (in_order r i dep a b ≡ true) ⊎ (follows_batch dep (started a) (ended b) ≡ true)
        → SourceNeeds z d w x y
    of_split (inl k) = by_order (order_back r i dep (child_back dep) x y a b e f k)
    of_split (inr k) = of_follows pairing k

    of_rule : (o : Bool) → needs_by_order dep a b ≡ o → value_in rw (needs dep a b) ≡ Some true
        → SourceNeeds z d w x y
    of_rule true k g =
        of_split
        (split (plan.is_entered_by dep a b) (plan.leaves dep a b) (follows_batch dep (started a) (ended b))
        (plan.deletes_after dep a b) k)
    of_rule false k g = of_depends pairing (sym (rule_value false k) ∙ g)

    pub rule_back : value_in rw (needs dep a b) ≡ Some true → SourceNeeds z d w x y
    rule_back g = of_rule (needs_by_order dep a b) refl g

    -- ---- where all that is mentioned has a key

    of_keyed : Pairing → MentionsAreKeyed z d w x → HasAnswer (value_in rw (depends_on dep (started a) (ended b)))
    of_keyed (apart k l never) h = (false, l)
    of_keyed (one_scope c n) h = depends_answer c n (h c.at c.instance c.is)

    rule_keyed : (o : Bool) → needs_by_order dep a b ≡ o → MentionsAreKeyed z d w x
        → HasAnswer (value_in rw (needs dep a b))
    rule_keyed true k h = (true, rule_value true k)
    rule_keyed false k h = subst HasAnswer (sym (rule_value false k)) (of_keyed pairing h)

    pub rule_answer : MentionsAreKeyed z d w x → HasAnswer (value_in rw (needs dep a b))
    rule_answer h = rule_keyed (needs_by_order dep a b) refl h
