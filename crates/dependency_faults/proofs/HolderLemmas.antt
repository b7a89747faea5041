-- Who has a name for which a value asks is an instance that the value names, and the other way round.
use Rattle.std.proofs.Common.{◌≡◌, inl, inr, ℕ, ◌<◌, Bool, true, false, true≢false, List, [], length, bytes_eq}
use Rattle.std.proofs.Common.{Some, refl, sym, ap, subst, ◌∙◌, arith}
use Rattle.std.proofs.lemmas.List.{length-map}
use Rattle.std.proofs.lemmas.Slice.Eq.{bytes_eq-Decides}
use Rattle.std.specs.Prelude.{option_map, option_and_then}
use Rattle.std.proofs.lemmas.Bool.{cases_eq}
use Rattle.foundation.proofs.Options.{same_some}
use Rattle.arm_value.specs.Json.{Json, text}
use Rattle.arm_ids.specs.declared.id.ResourceId.{ResourceId}
use Rattle.reading.specs.Knowledge.{known, known_value}
use Rattle.deploy_cells.specs.Cells.{Step, step, Position, name}
use Rattle.deploy_cells.specs.Puts.{key_at}
use Rattle.deploy_cells.specs.Same.{same_id}
use Rattle.tag_needs.specs.Tags.{Tag, shares}
use Rattle.tag_holders.specs.Holders.{class_at, IsHolder}
use Rattle.key_tags.specs.KeyCodes.{key_code}
use Rattle.key_tags.proofs.CodeLemmas.{key_eq}
use Rattle.plan_cells.specs.Known as knowing
use Rattle.plan_cells.specs.Resources.{Listed}
use Rattle.plan_cells.specs.Scopes.{template_at, resource_of}
use Rattle.plan_cells.specs.Sites.{form_at}
use Rattle.plan_cells.specs.Meaning.{Deployment}
use Rattle.plan_cells.specs.Desired.{kind_of}
use Rattle.plan_cells.specs.Tasks.{key_by}
use Rattle.plan_codes.specs.NameCodes.{names_of, value_asks}
use Rattle.plan_codes.specs.TaskCodes.{title_in, listed_names}
use Rattle.plan_table.specs.declared.line.Line.{Line}
use Rattle.plan_table.specs.declared.line.Spot.{Spot}
use Rattle.plan_table.specs.declared.line.Spot.TheVariants as spotted
use Rattle.plan_table.specs.declared.line.Spot.TheVariants.{Name}
use Rattle.plan_table.specs.declared.table.Table.{Table}
use Rattle.plan_table.specs.Opened.{opened_of}
use Rattle.plan_table.specs.Lines.{line_at}
use Rattle.plan_table.specs.Whole.{whole_of, scopes_of}
use Rattle.plan_table.specs.Found.{scope_at}
use Rattle.plan_table.proofs.CountLemmas.{other_number}
use Rattle.plan_table.proofs.SpotLemmas.{got}
use Rattle.plan_tasks.specs.Start.{start_of, IsStartTable, IsInstance}
use Rattle.argument_faults.specs.Numbers.{number_in}
use Rattle.argument_faults.proofs.NumberLemmas.{number_at}
use Rattle.argument_faults.proofs.InstanceLemmas.{title as own_name, listed_there, name_there}
use Rattle.argument_faults.proofs.LineLemmas.{name_line}
use Rattle.plan_faults.specs.Dependencies.{IsNamed}
use Rattle.dependency_faults.specs.Names.{spot_names, key_class, spot_class, names_in, classes_of}
use Rattle.dependency_faults.proofs.LineLemmas.{name_instance, by_line, line_is}
use Rattle.dependency_faults.proofs.NameLemmas.{nothing_shared, elsewhere, named_here}

-- keys are the same exactly where their numbers are
pub same_by_codes : (k l : ResourceId) → key_code k ≡ key_code l → same_id k l ≡ true
same_by_codes k l e = sym (key_eq k l) ∙ (bytes_eq-Decides (key_code k) (key_code l)).1 e

pub codes_differ : (k l : ResourceId) → (key_code k ≡ key_code l → ⊥) → same_id k l ≡ false
codes_differ k l h =
    sym (key_eq k l) ∙ unequal (bytes_eq (key_code k) (key_code l)) refl
  where
    unequal : (b : Bool) → bytes_eq (key_code k) (key_code l) ≡ b → bytes_eq (key_code k) (key_code l) ≡ false
    unequal true e = absurd (h ((bytes_eq-Decides (key_code k) (key_code l)).0 e))
    unequal false e = e

module _ (t : Table) (start : IsStartTable t) where
  abbrev d : Deployment
  d = whole_of t

  abbrev q : knowing.Table
  q = start_of t

  abbrev at : ℕ → Position
  at f = (scope_at t f).position

  number_of : (f : ℕ) → f < length t.frames.items → number_in (scopes_of t) (at f) ≡ f
  number_of f h =
      let n = length-map t.frames.items opened_of in
      number_at d (scopes_of t) t.index t.lines.items start.laid start.filled.sound.distinct f (omega (arith, n, h))

  one_scope : (f g : ℕ) → f < length t.frames.items → g < length t.frames.items → at f ≡ at g → f ≡ g
  one_scope f g h k e = sym (number_of f h) ∙ ap (number_in (scopes_of t)) e ∙ number_of g k

  -- ---- of an instance whose name is known

  module _ (f r i : ℕ) (x : Listed) (n : List ℕ) (h : f < length t.frames.items)
      (l : resource_of d.template (at f) r ≡ Some x) (has : q (name (at f) (step r i)) ≡ known (text n)) where
    names_are : spot_names t (Name f r i) ≡ names_of f (form_at (template_at d.template (at f))) d.place x i n
    names_are =
        ap (λ k. listed_names d (number_in (scopes_of t)) (at f) (step r i) (title_in k)
        (resource_of d.template (at f) r)) has
        ∙ ap (listed_names d (number_in (scopes_of t)) (at f) (step r i) n) l
        ∙ ap (λ m. names_of m (form_at (template_at d.template (at f))) d.place x i n) (number_of f h)

    class_is : spot_class t (Name f r i) ≡ key_code (key_at d.place x.type n)
    class_is =
        ap (λ o. key_class (option_and_then (key_by d.place o) (known_value (q (name (at f) (step r i))))))
        (ap (option_map kind_of) l)
        ∙ ap (λ k. key_class (option_and_then (key_by d.place (Some (kind_of x))) (known_value k))) has

  class_here : (j : ℕ) → j < length t.lines.items
      → class_at (classes_of t) j ≡ spot_class t (line_at t.lines.items j).spot
  class_here j h =
      let n = length-map t.lines.items (λ (y : Line). spot_class t y.spot) in
      same_some
      (sym (got (classes_of t) j [] (omega (arith, n, h)))
      ∙ line_is (λ (y : Line). spot_class t y.spot) t.lines.items j h)

  -- ---- what a value of an element of a scope names

  module _ (f : ℕ) (h : f < length t.frames.items) (v : Json) where
    abbrev asks : List Tag
    asks = value_asks f (form_at (template_at d.template (at f))) (template_at d.template (at f)) v

    -- the line is of an instance that the value names
    pub record NamesLine (j : ℕ) : Type 0 where
      pub instance : Step
      pub key : ResourceId
      pub is_named : IsNamed d q (at f) v instance key
      pub class : class_at (classes_of t) j ≡ key_code key

    of_name : (j g r i : ℕ) → j < length t.lines.items → (line_at t.lines.items j).spot ≡ Name g r i
        → shares asks (spot_names t (Name g r i)) ≡ true → NamesLine j
    of_name j g r i k e s =
        elim (cases_eq f g) [
          | inl same ↦ here same
          | inr apart ↦ absurd (true≢false
              (sym shared ∙ elsewhere f g (other_number f g apart) (form_at (template_at d.template (at f)))
              (form_at (template_at d.template (at g))) d.place (template_at d.template (at f)) v x i n))
        ]
      where
        own : IsInstance t g r i
        own = name_instance t start j g r i k e

        x : Listed
        x = own.number.listed

        n : List ℕ
        n = own_name t g r i start own

        l : resource_of d.template (at g) r ≡ Some x
        l = listed_there t g r i start own

        has : q (name (at g) (step r i)) ≡ known (text n)
        has = name_there t g r i start own

        shared : shares asks (names_of g (form_at (template_at d.template (at g))) d.place x i n) ≡ true
        shared = sym (ap (shares asks) (names_are g r i x n own.there l has)) ∙ s

        here : f ≡ g → NamesLine j
        here same = record {
          instance = step r i;
          key = key_at d.place x.type n;
          is_named = record {
            listed = x;
            is_listed = subst (λ y. resource_of d.template (at y) r ≡ Some x) (sym same) l;
            title = n;
            has_name = subst (λ y. q (name (at y) (step r i)) ≡ known (text n)) (sym same) has;
            names =
                sym (named_here f (form_at (template_at d.template (at f))) d.place (template_at d.template (at f)) v
                x i n)
                ∙ subst (λ y. shares asks (names_of y (form_at (template_at d.template (at y))) d.place x i n) ≡ true)
                (sym same) shared;
            has_key = refl;
          };
          class = class_here j k ∙ ap (spot_class t) e ∙ class_is g r i x n own.there l has;
        }

    none_has : (ts : List Tag) → ts ≡ [] → shares asks ts ≡ true → ⊥
    none_has ts e s = true≢false (sym s ∙ ap (shares asks) e ∙ nothing_shared asks)

    of_spot : (j : ℕ) (x : Spot) → j < length t.lines.items → (line_at t.lines.items j).spot ≡ x
        → shares asks (spot_names t x) ≡ true → NamesLine j
    of_spot j (Name g r i) k e s = of_name j g r i k e s
    of_spot j (spotted.Parameter g n) k e s = absurd (none_has [] refl s)
    of_spot j (spotted.Variable g n) k e s = absurd (none_has [] refl s)
    of_spot j (spotted.Offered g n) k e s = absurd (none_has [] refl s)
    of_spot j (spotted.Output g n) k e s = absurd (none_has [] refl s)
    of_spot j (spotted.Count g r) k e s = absurd (none_has [] refl s)
    of_spot j (spotted.Included g r i) k e s = absurd (none_has [] refl s)
    of_spot j (spotted.Deployments g) k e s = absurd (none_has [] refl s)

    -- who has a name for which the value asks is one that it names
    pub holder_named : (j : ℕ) → IsHolder (names_in t) asks j → NamesLine j
    holder_named j o =
        let l = by_line (λ (y : Line). spot_names t y.spot) t.lines.items j o.own o.is_own in
        of_spot j (line_at t.lines.items j).spot l.listed refl (ap (shares asks) l.is ∙ o.share)

    -- an instance that the value names has such a name
    pub record HasHolder (k : ResourceId) : Type 0 where
      pub line : ℕ
      pub is_holder : IsHolder (names_in t) asks line
      pub class : class_at (classes_of t) line ≡ key_code k

    pub named_holder : (s : Step) (k : ResourceId) → IsNamed d q (at f) v s k → HasHolder k
    named_holder s k m =
        let l = name_line t (at f) s (text m.title) m.has_name in
        let own = name_instance t start l.line l.frame s.resource s.copy l.listed l.is in
        let same : l.frame ≡ f = one_scope l.frame f own.there h l.at in
        let spot : (line_at t.lines.items l.line).spot ≡ Name f s.resource s.copy =
        l.is ∙ ap (λ (g : ℕ). Name g s.resource s.copy) same in
        record {
          line = l.line;
          is_holder = record {
            own = spot_names t (line_at t.lines.items l.line).spot;
            is_own = line_is (λ (y : Line). spot_names t y.spot) t.lines.items l.line l.listed;
            share =
                ap (λ y. shares asks (spot_names t y)) spot
                ∙ ap (shares asks) (names_are f s.resource s.copy m.listed m.title h m.is_listed m.has_name)
                ∙ named_here f (form_at (template_at d.template (at f))) d.place (template_at d.template (at f)) v
                m.listed s.copy m.title
                ∙ m.names;
          };
          class =
              class_here l.line l.listed ∙ ap (spot_class t) spot
              ∙ class_is f s.resource s.copy m.listed m.title h m.is_listed m.has_name ∙ ap key_code m.has_key;
        }
