-- That the faults of an element are true, and that an element has none.
use Rattle.std.proofs.Common.{◌≡◌, ℕ, ◌<◌, true, false, true≢false, List, length, Option, Some, None, refl, sym, subst}
use Rattle.std.proofs.Common.{◌∙◌}
use Rattle.arm_value.specs.Json.{Json}
use Rattle.arm_ids.specs.Held.{HeldResource}
use Rattle.template_parts.specs.declared.mode.Mode.{Mode}
use Rattle.deploy_cells.specs.Cells.{Step, step, Position}
use Rattle.tag_needs.specs.Tags.{Tag}
use Rattle.tag_holders.specs.Holders.{AreHolders}
use Rattle.tag_holders.specs.declared.holders.Found.{Found}
use Rattle.tag_holders.specs.declared.holders.Found.TheVariants.{Alike, Differing}
use Rattle.plan_cells.specs.Known as knowing
use Rattle.plan_cells.specs.Meaning.{Deployment}
use Rattle.plan_cells.specs.Scopes.{template_at}
use Rattle.plan_cells.specs.Sites.{form_at}
use Rattle.plan_cells.specs.Start.{IsStart}
use Rattle.plan_codes.specs.NameCodes.{value_asks}
use Rattle.plan_filling.proofs.FinalLemmas.{filled_is_final}
use Rattle.plan_table.specs.declared.table.Table.{Table}
use Rattle.plan_table.specs.Whole.{whole_of, rows_in}
use Rattle.plan_table.specs.Found.{scope_at}
use Rattle.plan_tasks.proofs.AnswerLemmas.{gates_known}
use Rattle.plan_tasks.specs.InOrder.{is_in}
use Rattle.plan_tasks.specs.Start.{start_of, IsStartTable}
use Rattle.plan_openers.specs.declared.opener.Opener.{Opener}
use Rattle.lack_faults.specs.Elements.{element_at}
use Rattle.plan_paths.specs.CellPaths.{element_path}
use Rattle.plan_faults.specs.Known.{IsElementAt}
use Rattle.plan_faults.specs.Dependencies.{is_title_at}
use Rattle.plan_faults.specs.declared.fault.PlanFault.{PlanFault}
use Rattle.plan_faults.specs.declared.fault.PlanFault.TheVariants.{UnknownDependency, AmbiguousDependency}
use Rattle.plan_faults.specs.Faults.{IsFault}
use Rattle.dependency_faults.specs.Names.{names_in, classes_of}
use Rattle.dependency_faults.specs.Met.{IsMet, IsReadAt}
use Rattle.dependency_faults.proofs.HolderLemmas.{same_by_codes, codes_differ, holder_named, named_holder}

known_at_start : (t : Table) → IsStartTable t → IsStart (whole_of t) (start_of t)
known_at_start t s = (filled_is_final (whole_of t) (rows_in t) s.filled (gates_known (rows_in t) s.answered)).is_start

module _ (t : Table) (start : IsStartTable t) (x : Opener) (h : x.frame < length t.frames.items) (v : Json)
    (classes : List Tag) (known : classes ≡ classes_of t) where
  abbrev d : Deployment
  d = whole_of t

  abbrev q : knowing.Table
  q = start_of t

  abbrev p : Position
  p = (scope_at t x.frame).position

  abbrev s : Step
  s = step x.resource x.copy

  abbrev asks : List Tag
  asks = value_asks x.frame (form_at (template_at d.template p)) (template_at d.template p) v

  abbrev AreFound : Option Found → Type 0
  AreFound o = AreHolders (names_in t) classes asks o

  -- by the keys of all instances
  kept_as : (o : Option Found) → AreFound o → AreHolders (names_in t) (classes_of t) asks o
  kept_as o f = subst (λ cs. AreHolders (names_in t) cs asks o) known f

  pub title_met : is_title_at d q p v ≡ true → IsMet t p v
  title_met e = record {
    some = λ untitled unnamed. true≢false (sym e ∙ untitled);
    one = λ untitled u w k l a b. absurd (true≢false (sym e ∙ untitled));
  }

  alike : (i : ℕ) → AreHolders (names_in t) (classes_of t) asks (Some (Alike i)) → IsMet t p v
  alike i f = record {
    some = λ untitled unnamed. unnamed (holder_named t start x.frame h v i f.0).instance
        (holder_named t start x.frame h v i f.0).key (holder_named t start x.frame h v i f.0).is_named;
    one = λ untitled u w k l a b.
        let m = named_holder t start x.frame h v u k a in
        let n = named_holder t start x.frame h v w l b in
        same_by_codes k l
        (sym m.class ∙ f.1 m.line m.is_holder ∙ sym (f.1 n.line n.is_holder) ∙ n.class);
  }

  -- instances of one key have a name for which is asked
  pub alike_met : (o : Option Found) (i : ℕ) → o ≡ Some (Alike i) → AreFound o → IsMet t p v
  alike_met o i e f = alike i (subst (AreHolders (names_in t) (classes_of t) asks) e (kept_as o f))

  module _ (number : ℕ) (read : IsReadAt t x number v) (included : is_in q p s ≡ true)
      (no_title : is_title_at d q p v ≡ false) (mode : Mode) (held : List HeldResource) where
    abbrev path : List ℕ
    path = element_path d.template p s number

    element : IsElementAt d path (element_at t x read.tree)
    element = record {
      position = p;
      instance = s;
      number = number;
      listed = read.listed;
      is_listed = read.is_listed;
      tree = read.tree;
      has = read.has;
      is = refl;
      has_path = refl;
    }

    unknown : AreHolders (names_in t) (classes_of t) asks None → IsFault d mode held (UnknownDependency path)
    unfolding element
    unknown f =
        let a = known_at_start t start in (
          q,
          (
            a.is_known,
            (
              a,
              record {
                reading = element_at t x read.tree;
                is_element = element;
                is_included = included;
                given = v;
                has = read.is;
                no_title = no_title;
                no_instance = λ u k m.
                    let n = named_holder t start x.frame h v u k m in f n.line n.is_holder;
              },
            ),
          ),
        )

    ambiguous : (i j : ℕ) → AreHolders (names_in t) (classes_of t) asks (Some (Differing i j))
        → IsFault d mode held (AmbiguousDependency path)
    unfolding element
    ambiguous i j f =
        let a = known_at_start t start in
        let m = holder_named t start x.frame h v i f.0 in
        let n = holder_named t start x.frame h v j f.1.0 in (
          q,
          (
            a.is_known,
            (
              a,
              record {
                reading = element_at t x read.tree;
                is_element = element;
                is_included = included;
                given = v;
                has = read.is;
                no_title = no_title;
                one = m.instance;
                one_key = m.key;
                is_one = m.is_named;
                other = n.instance;
                other_key = n.key;
                is_other = n.is_named;
                differ = codes_differ m.key n.key (λ e. f.1.1 (m.class ∙ e ∙ sym n.class));
              },
            ),
          ),
        )

    -- nobody has a name for which is asked
    pub is_unknown : (o : Option Found) (f : PlanFault) → o ≡ None → AreFound o → f ≡ UnknownDependency path
        → IsFault d mode held f
    is_unknown o f e a g =
        subst (IsFault d mode held) (sym g)
        (unknown (subst (AreHolders (names_in t) (classes_of t) asks) e (kept_as o a)))

    -- instances of two keys have one
    pub is_ambiguous : (o : Option Found) (i j : ℕ) (f : PlanFault) → o ≡ Some (Differing i j) → AreFound o
        → f ≡ AmbiguousDependency path → IsFault d mode held f
    is_ambiguous o i j f e a g =
        subst (IsFault d mode held) (sym g)
        (ambiguous i j (subst (AreHolders (names_in t) (classes_of t) asks) e (kept_as o a)))
