-- What a task of a template reads for a value in a desired state, it reads by what is known when it is ready.
use Rattle.std.proofs.Common.{◌≡◌, inl, inr, ℕ, Bool, true, false, true≢false, List, [], ◌∷◌, ◌++◌, map, Option, Some}
use Rattle.std.proofs.Common.{None, refl, sym, ap, ◌∙◌, subst}
use Rattle.std.proofs.lemmas.Option.{none-some, same_Some}
use Rattle.std.specs.Prelude.{◌||◌, option_map, option_and_then, if◌then◌else◌}
use Rattle.std.specs.List.{list_any}
use Rattle.std.proofs.lemmas.Bool.{or_right}
use Rattle.arm_value.specs.Json.{Json}
use Rattle.arm_value.specs.Kinds.{is_true}
use Rattle.reading.specs.Reading.{done, pure, continued}
use Rattle.reading.specs.World.{value_in, reads_in, reads_onward}
use Rattle.reading.specs.Knowledge.{Told, value, told, blanked, Completes, IsFinal, Means, Has as IsRead}
use Rattle.reading.proofs.Completion.{told_means}
use Rattle.reading.proofs.Parts.{reads_in-continued}
use Rattle.template_parts.specs.declared.output.Output.{Output}
use Rattle.template_parts.specs.declared.parameter.Parameter.{Parameter}
use Rattle.template_parts.specs.declared.variable.Variable.{Variable}
use Rattle.template_tree.specs.Tree.{TemplateTree}
use Rattle.deploy_cells.specs.Cells.{Step, Position, Cell, parameter, variable, offered, output, name, World}
use Rattle.deploy_cells.specs.Cells.{is_admitted}
use Rattle.deploy_cells.specs.Guarded.{Reads, there_if, there, IsWorld}
use Rattle.deploy_cells.proofs.CellLemmas.{guarded_value}
use Rattle.plan_cells.specs.Children.{Has, parameter_names, variable_names, output_names, own_cells}
use Rattle.plan_cells.specs.Desired.{kinds}
use Rattle.plan_cells.specs.Known.{Table}
use Rattle.plan_cells.specs.Meaning.{Deployment, raw, rule, ruled, plain, meaning, is_own, parameter_value}
use Rattle.plan_cells.specs.Meaning.{variable_value, offered_value, output_value, bodies, if_meets}
use Rattle.plan_cells.specs.Reads.{of_template, entry_cells, is_state_at, is_given_by}
use Rattle.plan_cells.specs.Scopes.{template_at}
use Rattle.plan_cells.specs.Sites.{parameter_named, variable_named, output_named}
use Rattle.plan_cells.specs.Start.{start_world}
use Rattle.plan_cells.specs.Tasks.{Task, enter, leave, put, delete, key_by}
use Rattle.plan_cells.proofs.ListLemmas.{has_left, has_right, has_map}
use Rattle.deploy_histories.specs.Planned.{Planned, IsPlanned}
use Rattle.deploy_histories.specs.Values.{TaskValue, where_offered, entry_value, leave_value}
use Rattle.deploy_histories.specs.Values.{outputs_of, body_reading, task_values, reads_from, needs_by_values, a_body}
use Rattle.history_laws.proofs.Included.{start_is}
use Rattle.history_laws.proofs.OneWorld.{named_parameter, named_variable, named_output}
use Rattle.emitted_needs.specs.Needs.{IsReadingOf, IsOutputReading, ReadsFrom}

any_true : {A : Type 0} (test : A → Bool) (xs : List A) (a : A) → Has a xs → test a ≡ true → list_any test xs ≡ true
any_true test [] a h e = absurd h
any_true test (x ∷ xs) a (inl i) e = ap (λ (b : Bool). b || list_any test xs) (ap test i ∙ e)
any_true test (x ∷ xs) a (inr i) e = or_right (test x) (list_any test xs) (any_true test xs a i e)

any_read : (test : Cell → Bool) (xs : List Cell) (a : Cell) → IsRead a xs → test a ≡ true → list_any test xs ≡ true
any_read test [] a h e = absurd h
any_read test (x ∷ xs) a (inl i) e = ap (λ (b : Bool). b || list_any test xs) (ap test i ∙ e)
any_read test (x ∷ xs) a (inr i) e = or_right (test x) (list_any test xs) (any_read test xs a i e)

read_left : (x : Cell) (xs ys : List Cell) → IsRead x xs → IsRead x (xs ++ ys)
read_left x [] ys h = absurd h
read_left x (y ∷ xs) ys (inl e) = inl e
read_left x (y ∷ xs) ys (inr h) = inr (read_left x xs ys h)

read_right : (x : Cell) (xs ys : List Cell) → IsRead x ys → IsRead x (xs ++ ys)
read_right x [] ys h = h
read_right x (y ∷ xs) ys h = inr (read_right x xs ys h)

-- ---- what is told of a reading is read in each world in which what is known is so

reads_by : (t : Table) (r : Reads (Option Json)) (w : World) → Completes t w → (a : Told Cell (Option Json))
    → told t r ≡ a → (o : Option Json) → a ≡ value o → Means t r a → reads_in w r ≡ reads_in (blanked t) r
reads_by t r w all a e o f m =
    let final : IsFinal t r (Some o) = subst (Means t r) f m in (final.everywhere w all).1

reads_same : (t : Table) (r : Reads (Option Json)) (w : World) → Completes t w → (o : Option Json)
    → told t r ≡ value o → reads_in w r ≡ reads_in (blanked t) r
reads_same t r w all o e = reads_by t r w all (told t r) refl o e (told_means Cell Json (Option Json) t r)

module _ (x : Planned) (w : World) (c : Cell) where
  abbrev d : Deployment
  d = x.deployment

  -- what is read first is read of all
  first_read : {A B : Type 0} (r : Reads A) (f : A → Reads B) → IsRead c (reads_in w r)
      → IsRead c (reads_in w (continued r f))
  first_read {A} {B} r f h =
      subst (IsRead c) (sym (reads_in-continued Cell Json A B w r f))
      (read_left c (reads_in w r) (reads_onward w (value_in w r) f) h)

  -- what is read after a value is read of all
  next_read : {A B : Type 0} (r : Reads A) (f : A → Reads B) (a : A) → value_in w r ≡ Some a
      → IsRead c (reads_in w (f a)) → IsRead c (reads_in w (continued r f))
  next_read {A} {B} r f a e h =
      subst (IsRead c) (sym (reads_in-continued Cell Json A B w r f))
      (read_right c (reads_in w r) (reads_onward w (value_in w r) f)
      (subst (λ (o : Option A). IsRead c (reads_onward w o f)) (sym e) h))

  there_reads : (s : Reads Json) → IsRead c (reads_in w s) → IsRead c (reads_in w (there s))
  there_reads s h = first_read s (λ v. pure (Some v)) h

  ruled_reads : (f : Json → Bool) (o : Option (Reads Json)) (s : Reads Json) → o ≡ Some s → IsRead c (reads_in w s)
      → IsRead c (reads_in w (there_if (option_map (ruled d f) o)))
  ruled_reads f None s e h = absurd (none-some s e)
  ruled_reads f (Some r) s e h =
      there_reads (ruled d f r)
      (first_read r (λ j. done (if_meets d (f j) j))
      (subst (λ (q : Reads Json). IsRead c (reads_in w q)) (sym (same_Some r s e)) h))

  parameter_plain : (q : Position) (y : List ℕ) (s : Reads Json) → raw d (parameter q y) ≡ Some s
      → IsRead c (reads_in w s) → IsRead c (reads_in w (plain d (parameter q y)))
  unfolding plain
  parameter_plain q y s e h = ruled_reads (rule d (parameter q y)) (raw d (parameter q y)) s e h

  variable_plain : (q : Position) (y : List ℕ) (s : Reads Json) → raw d (variable q y) ≡ Some s
      → IsRead c (reads_in w s) → IsRead c (reads_in w (plain d (variable q y)))
  unfolding plain
  variable_plain q y s e h = ruled_reads (rule d (variable q y)) (raw d (variable q y)) s e h

  offered_plain : (q : Position) (y : List ℕ) (s : Reads Json) → raw d (offered q y) ≡ Some s
      → IsRead c (reads_in w s) → IsRead c (reads_in w (plain d (offered q y)))
  unfolding plain
  offered_plain q y s e h = ruled_reads (rule d (offered q y)) (raw d (offered q y)) s e h

  output_plain : (q : Position) (y : List ℕ) (s : Reads Json) → raw d (output q y) ≡ Some s
      → IsRead c (reads_in w s) → IsRead c (reads_in w (plain d (output q y)))
  unfolding plain
  output_plain q y s e h = ruled_reads (rule d (output q y)) (raw d (output q y)) s e h

  -- ---- a value of the task reads the cell

  record IsReadFor (a : Task) : Type 0 where
    of_value : TaskValue
    is_value : Has of_value (task_values d a)
    is_read : IsRead c (reads_in w of_value.reading)

  entry_read : (q : Position) (e : Cell) → Has e (entry_cells d q) → IsRead c (reads_in w (plain d e))
      → IsReadFor (enter q)
  entry_read q e listed h = record {
    of_value = entry_value d e;
    is_value = has_map (entry_value d) e (entry_cells d q) listed;
    is_read = first_read (plain d e) (λ o. done (option_map Some o)) h;
  }

  parameter_by : (q : Position) (y : List ℕ) (s : Reads Json) (b : Bool) (o : Option TemplateTree)
      → (if b then option_and_then (parameter_value d q y) (option_and_then (parameter_named y) o) else None) ≡ Some s
      → Has (parameter q y) (of_template (own_cells b q) o)
  parameter_by q y s false o e = absurd (none-some s e)
  parameter_by q y s true None e = absurd (none-some s e)
  parameter_by q y s true (Some t) e = by_name (parameter_named y t) refl e
    where
      by_name : (o : Option Parameter) → parameter_named y t ≡ o → option_and_then (parameter_value d q y) o ≡ Some s
          → Has (parameter q y) (own_cells true q t)
      by_name None f g = absurd (none-some s g)
      by_name (Some p) f g =
          has_left (parameter q y) (map (parameter q) (parameter_names t)) (map (variable q) (variable_names t))
          (has_map (parameter q) y (parameter_names t) (named_parameter t y p f))

  parameter_listed : (q : Position) (y : List ℕ) (s : Reads Json) → raw d (parameter q y) ≡ Some s
      → Has (parameter q y) (entry_cells d q)
  unfolding raw
  parameter_listed q y s e = parameter_by q y s (is_own d q) (template_at d.template q) e

  variable_by : (q : Position) (y : List ℕ) (s : Reads Json) (b : Bool) (o : Option TemplateTree)
      → (if b then option_and_then (λ v. Some (variable_value d q v)) (option_and_then (variable_named y) o) else None)
      ≡ Some s → Has (variable q y) (of_template (own_cells b q) o)
  variable_by q y s false o e = absurd (none-some s e)
  variable_by q y s true None e = absurd (none-some s e)
  variable_by q y s true (Some t) e = by_name (variable_named y t) refl e
    where
      by_name : (o : Option Variable) → variable_named y t ≡ o
          → option_and_then (λ v. Some (variable_value d q v)) o ≡ Some s → Has (variable q y) (own_cells true q t)
      by_name None f g = absurd (none-some s g)
      by_name (Some v) f g =
          has_right (variable q y) (map (parameter q) (parameter_names t)) (map (variable q) (variable_names t))
          (has_map (variable q) y (variable_names t) (named_variable t y v f))

  variable_listed : (q : Position) (y : List ℕ) (s : Reads Json) → raw d (variable q y) ≡ Some s
      → Has (variable q y) (entry_cells d q)
  unfolding raw
  variable_listed q y s e = variable_by q y s (is_own d q) (template_at d.template q) e

  -- ---- outputs

  output_by : (q : Position) (y : List ℕ) (s : Reads Json) (f : Output → Reads Json) (o : Option TemplateTree)
      → option_and_then (λ v. Some (f v)) (option_and_then (output_named y) o) ≡ Some s
      → Has (leave_value d q y) (outputs_of (leave_value d q) o)
  output_by q y s f None e = absurd (none-some s e)
  output_by q y s f (Some t) e = by_name (output_named y t) refl e
    where
      by_name : (o : Option Output) → output_named y t ≡ o → option_and_then (λ v. Some (f v)) o ≡ Some s
          → Has (leave_value d q y) (map (leave_value d q) (output_names t))
      by_name None g h = absurd (none-some s h)
      by_name (Some v) g h = has_map (leave_value d q) y (output_names t) (named_output t y v g)

  offered_listed : (q : Position) (y : List ℕ) (s : Reads Json) → raw d (offered q y) ≡ Some s
      → Has (leave_value d q y) (task_values d (leave q))
  unfolding raw
  offered_listed q y s e = output_by q y s (offered_value d q) (template_at d.template q) e

  output_listed : (q : Position) (y : List ℕ) (s : Reads Json) → raw d (output q y) ≡ Some s
      → Has (leave_value d q y) (task_values d (leave q))
  unfolding raw
  output_listed q y s e = output_by q y s (output_value d q) (template_at d.template q) e

  module _ (world : IsWorld (meaning d) w) where
    world_is : (e : Cell) (b : Bool) → is_admitted w e ≡ b
        → (if b then value_in w (plain d e) else Some None) ≡ Some (w e)
    unfolding meaning
    world_is e b f =
        ap (λ (a : Bool). if a then value_in w (plain d e) else Some None) (sym f)
        ∙ (sym (guarded_value w e (plain d e)) ∙ world e)

    -- a cell that is true has its own value
    true_is_plain : (e : Cell) (b : Bool) → is_admitted w e ≡ b → is_true (w e) ≡ true
        → value_in w (plain d e) ≡ Some (w e)
    true_is_plain e true f g = world_is e true f
    true_is_plain e false f g =
        absurd (true≢false (sym g ∙ ap is_true (sym (same_Some None (w e) (world_is e false f)))))

    leave_read : (q : Position) (y : List ℕ) (s : Reads Json) → IsOutputReading d w s q y → IsRead c (reads_in w s)
        → IsReadFor (leave q)
    leave_read q y s (inl e) h = record {
      of_value = leave_value d q y;
      is_value = offered_listed q y s e;
      is_read = first_read (plain d (offered q y)) (λ v. where_offered (is_true v) (plain d (output q y)))
          (offered_plain q y s e h);
    }
    leave_read q y s (inr e) h = record {
      of_value = leave_value d q y;
      is_value = output_listed q y s e.1;
      is_read = next_read (plain d (offered q y)) (λ v. where_offered (is_true v) (plain d (output q y)))
          (w (offered q y)) (true_is_plain (offered q y) (is_admitted w (offered q y)) refl e.0)
          (subst (λ (b : Bool). IsRead c (reads_in w (where_offered b (plain d (output q y))))) (sym e.0)
          (output_plain q y s e.1 h));
    }

    body_read : (q : Position) (i : Step) (s : Reads Json) → bodies d q i ≡ Some s → IsRead c (reads_in w s)
        → IsReadFor (put q i)
    body_read q i s e h = record {
      of_value = record { part = a_body; reading = body_reading d q i };
      is_value = inl refl;
      is_read = subst (λ (o : Option (Reads Json)). IsRead c (reads_in w (there_if o))) (sym e) (there_reads s h);
    }

    value_read : (a : Task) (s : Reads Json) → IsReadingOf d w s a → IsRead c (reads_in w s) → IsReadFor a
    value_read (enter q) s (y, inl e) h =
        entry_read q (parameter q y) (parameter_listed q y s e) (parameter_plain q y s e h)
    value_read (enter q) s (y, inr e) h =
        entry_read q (variable q y) (variable_listed q y s e) (variable_plain q y s e h)
    value_read (leave q) s (y, e) h = leave_read q y s e h
    value_read (put q i) s e h = body_read q i s e h
    value_read (delete k) s e h = absurd e

-- ---- the names of puts are known at the start

given_at_start : (x : Planned) → IsPlanned x → (w : World) → Completes x.known w → (b : Task) (c : Cell)
    → is_given_by x.deployment (start_world x.known) b c ≡ is_given_by x.deployment w b c
given_at_start x planned w all (put p s) c =
    ap (λ (o : Option Json).
    is_state_at (option_and_then (key_by x.deployment.place (kinds x.deployment p s.resource)) o) c)
    (start_is x planned w all (name p s) refl)
given_at_start x planned w all (leave p) c = refl
given_at_start x planned w all (enter p) c = refl
given_at_start x planned w all (delete k) c = refl

-- a task that reads in a desired state what another gives needs it by its values, as far as these are known
pub reads_are_needs : (x : Planned) → IsPlanned x → (w : World) → IsWorld (meaning x.deployment) w
    → Completes x.known w → (t : Table) → Completes t w → (a b : Task)
    → ((v : TaskValue) → Has v (task_values x.deployment a) → (o : Option Json) × (told t v.reading ≡ value o))
    → ReadsFrom x.deployment w a b → needs_by_values x t a b ≡ true
reads_are_needs x planned w world start t all a b known r =
    let v = value_read x w r.cell world a r.reading r.is_of r.is_read in
    let k = known v.of_value v.is_value in
    any_true (reads_from x t b) (task_values x.deployment a) v.of_value v.is_value
    (any_read (λ c. is_given_by x.deployment (start_world x.known) b c) (reads_in (blanked t) v.of_value.reading) r.cell
    (subst (IsRead r.cell) (reads_same t v.of_value.reading w all k.0 k.1) v.is_read)
    (given_at_start x planned w start b r.cell ∙ r.is_given))
